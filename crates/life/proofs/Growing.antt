-- The law of the calls stands when the lists grow.
use Rattle.std.proofs.Common.{◌≡◌, ℕ, zero, suc, ◌+◌, ◌<◌, ◌≤◌, Bool, List, [], ◌∷◌, ◌++◌, length, get_or, take, drop, Err, sym, ap, ◌∙◌, subst, arith}
use Rattle.std.proofs.lemmas.List.{take-append-le, drop-append-le, get_or_append_left, length-drop}
use Rattle.terms.specs.declared.answer.Answer.{Answer}
use Rattle.finder.specs.History.{History}
use Rattle.life.specs.Readings.{Event, history_of, closed_of, given, used, records_used_lem}
use Rattle.life.specs.Laws.{LawAt, own_records}
use Rattle.life.specs.declared.calls.Call.{Call}
use Rattle.life.specs.declared.calls.Call.TheVariants.{Clear}
use Rattle.life.specs.declared.calls.Turned.TheVariants.{OutOfPlace}

-- what call number i uses up is among what all of them do
used_within : {S : Type 0} (ks : List (Call S)) (es : List Event) (i : ℕ) → i < length ks → length ks ≡ length es
    → records_used_lem (take i ks) (take i es) + used (given (get_or ks i Clear)) (get_or es i (Err OutOfPlace)) ≤ records_used_lem ks es
unfolding records_used_lem
used_within [] es i l h = absurd (omega arith)
used_within (k ∷ ks) [] i l h = absurd (omega arith)
used_within (k ∷ ks) (e ∷ es) zero l h = omega arith
used_within (k ∷ ks) (e ∷ es) (suc i) l h =
    let lt : i < length ks = omega arith in
    let same : length ks ≡ length es = omega arith in
    let more = used_within ks es i lt same in
    omega arith

part_append : {A : Type 0} (p u : ℕ) (xs ys : List A) → p + u ≤ length xs
    → take u (drop p (xs ++ ys)) ≡ take u (drop p xs)
part_append p u xs ys h =
    let le : p ≤ length xs = omega arith in
    let fits : u ≤ length (drop p xs) = omega (arith, length-drop p xs) in
    ap (take u) (drop-append-le p xs ys le) ∙ take-append-le u (drop p xs) ys fits

module _ {S : Type 0} (sound : S → ℕ) (reach c : ℕ) where
  -- the law of call number i
  abbrev pub LawOf : List (Call S) → List Event → List Answer → ℕ → Type 0
  LawOf ks es rs i = LawAt sound reach c
      (history_of (take i ks) (take i es)) (closed_of (take i ks) (take i es))
      (get_or ks i Clear) (get_or es i (Err OutOfPlace)) (own_records sound reach c ks es rs i)
      (history_of (take (i + 1) ks) (take (i + 1) es)) (closed_of (take (i + 1) ks) (take (i + 1) es))

  pub moved : {h₁ h₂ : History S} {b₁ b₂ : Bool} {k₁ k₂ : Call S} {e₁ e₂ : Event} {bs₁ bs₂ : List Answer}
      {g₁ g₂ : History S} {d₁ d₂ : Bool}
      → h₁ ≡ h₂ → b₁ ≡ b₂ → k₁ ≡ k₂ → e₁ ≡ e₂ → bs₁ ≡ bs₂ → g₁ ≡ g₂ → d₁ ≡ d₂
      → LawAt sound reach c h₁ b₁ k₁ e₁ bs₁ g₁ d₁ → LawAt sound reach c h₂ b₂ k₂ e₂ bs₂ g₂ d₂
  moved h b k e bs g d law =
      subst (λ (p : History S × Bool × Call S × Event × List Answer × History S × Bool).
      LawAt sound reach c p.0 p.1 p.2 p.3 p.4 p.5 p.6)
      (λ i. (h i, b i, k i, e i, bs i, g i, d i)) law

  pub grown : (ks ls : List (Call S)) (es fs : List Event) (rs ts : List Answer) (i : ℕ) → i < length ks
      → length ks ≡ length es → length rs ≡ records_used_lem ks es
      → LawOf ks es rs i → LawOf (ks ++ ls) (es ++ fs) (rs ++ ts) i
  grown ks ls es fs rs ts i l h used_up law =
      let l' : i < length es = omega arith in
      let le : i ≤ length ks = omega arith in
      let le' : i ≤ length es = omega arith in
      let le₁ : i + 1 ≤ length ks = omega arith in
      let le₁' : i + 1 ≤ length es = omega arith in
      let k = sym (take-append-le i ks ls le) in
      let e = sym (take-append-le i es fs le') in
      let k₁ = sym (take-append-le (i + 1) ks ls le₁) in
      let e₁ = sym (take-append-le (i + 1) es fs le₁') in
      let kᵢ = sym (get_or_append_left ks ls Clear i l) in
      let eᵢ = sym (get_or_append_left es fs (Err OutOfPlace) i l') in
      let n = used_within ks es i l h in
      let before = records_used_lem (take i ks) (take i es) in
      let own = used (given (get_or ks i Clear)) (get_or es i (Err OutOfPlace)) in
      let fits : before + own ≤ length rs = omega arith in
      let part = part_append before own rs ts fits in
      moved (λ j. history_of (k j) (e j)) (λ j. closed_of (k j) (e j)) kᵢ eᵢ
      (sym part ∙ (λ j. take (used (given (kᵢ j)) (eᵢ j)) (drop (records_used_lem (k j) (e j)) (rs ++ ts))))
      (λ j. history_of (k₁ j) (e₁ j)) (λ j. closed_of (k₁ j) (e₁ j)) law
