-- Steps one after another.
use Rattle.std.proofs.Common.{◌≡◌, ℕ, List, [], ◌∷◌, ◌++◌, sym, ap, subst, append_assoc, append-nil}
use Rattle.finder.specs.History.{History, stepped, ran, Answered, Played, none, more}
use Rattle.terms.specs.declared.answer.Answer.{Answer}

abbrev with_take : {S : Type 0} → History S → List S → History S
with_take h t = record { phrase = h.phrase; q = h.q; take = t }

pub ran_more : {S : Type 0} (h : History S) (xs : List S) (x : S) → stepped (ran h xs) x ≡ ran h (xs ++ (x ∷ []))
ran_more h xs x = ap (with_take h) (append_assoc h.take xs (x ∷ []))

ran_cons : {S : Type 0} (h : History S) (y : S) (xs : List S) → ran (stepped h y) xs ≡ ran h (y ∷ xs)
ran_cons h y xs = ap (with_take h) (append_assoc h.take (y ∷ []) xs)

pub ran_none : {S : Type 0} (h : History S) → ran h [] ≡ h
ran_none h = ap (with_take h) (append-nil h.take)

pub played_push : {S : Type 0} (sound : S → ℕ) {h : History S} {xs : List S} {bs : List Answer} (x : S) (a : Answer)
    → Played sound h xs bs → Answered sound (stepped (ran h xs) x) a → Played sound h (xs ++ (x ∷ [])) (bs ++ (a ∷ []))
played_push sound {h} x a none k = more (subst (λ z. Answered sound (stepped z x) a) (ran_none h) k) none
played_push sound {h} x a (more {x = y} {xs} j rest) k = more j (played_push sound x a rest (subst (λ z. Answered sound (stepped z x) a) (sym (ran_cons h y xs)) k))
