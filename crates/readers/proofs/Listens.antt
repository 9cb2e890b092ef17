-- One more sound is heard, by any reader.
use Rattle.std.proofs.Common.{◌≡◌, ℕ, ◌≤◌, List, [], ◌∷◌, ◌++◌, length, sym, refl, ap, ◌∙◌, subst, inl, inr, append_assoc, arith}
use Rattle.std.proofs.lemmas.Bool.{cases_lt, lt-leb}
use Rattle.std.proofs.lemmas.List.{length_push, nil_from_length}
use Rattle.terms.specs.Codes.{heard}
use Rattle.terms.specs.Reading.{LongestEnd, answered}
use Rattle.terms.proofs.Reading.{every_reader_lem}
use Rattle.readers.specs.Memory.{Memory, nothing, held, Hears, without_phrase_lem, with_phrase}
use Rattle.readers.specs.Listening.{Listened, HearsAll}

-- after t the reader hears x
on : (q : ℕ) (p t r r' : List ℕ) (x a : ℕ) → LongestEnd q p t r → LongestEnd q p (r ++ (x ∷ [])) r' → a ≡ answered q p r'
    → LongestEnd q p (t ++ (x ∷ [])) r' × (a ≡ heard q p (t ++ (x ∷ [])))
on q p t r r' x a s l f =
    let R = every_reader_lem q p in
    let k = R.at_step t r r' x s l in
    (k, f ∙ R.answers (t ++ (x ∷ [])) r' k)

listened_on : (q : ℕ) (p t : List ℕ) (m m' : Memory) (x a b : ℕ) → Hears m x m' b → Listened p q t m a → Listened p q (t ++ (x ∷ [])) m' b
listened_on q p t m m' x a b without_phrase_lem s = let e = s.holds in let z : ◌≡◌ {A = ℕ} 0 1 = cc in absurd (omega arith)
listened_on q p t m m' x a b (with_phrase {p = p₁} {q = q₁} {r = r} {r' = r'} l f) s =
    let h = s.holds in
    let ep : p₁ ≡ p = cc in
    let eq : q₁ ≡ q = cc in
    let er : r ≡ s.remembers = cc in
    let l₁ = subst (λ v. LongestEnd q₁ v (r ++ (x ∷ [])) r') ep l in
    let l₂ = subst (λ v. LongestEnd v p (r ++ (x ∷ [])) r') eq l₁ in
    let f₁ = subst (λ v. b ≡ answered q₁ v r') ep f in
    let f₂ = subst (λ v. b ≡ answered v p r') eq f₁ in
    let k = on q p t r r' x b (subst (LongestEnd q p t) (sym er) s.longest) l₂ f₂ in
    let n = length_push t x in
    record {
      remembers = r';
      holds = ap (λ v. held v q₁ r') ep ∙ ap (λ v. held p v r') eq;
      longest = k.0;
      answer = λ z. k.1;
      silence = λ z. absurd (omega arith);
    }

nothing_on : (m m' : Memory) (x b : ℕ) → Hears m x m' b → m ≡ nothing → (m' ≡ nothing) × (b ≡ 0)
nothing_on m m' x b without_phrase_lem e = (refl, refl)
nothing_on m m' x b (with_phrase l f) e = let z : ◌≡◌ {A = ℕ} 0 1 = cc in absurd (omega arith)

pub hears_none : (m : Memory) → HearsAll m [] m 0
hears_none m = record {
  from_empty_end = λ p q e. record {
    remembers = [];
    holds = e;
    longest = (every_reader_lem q p).at_start;
    answer = λ z. absurd (omega arith);
    silence = λ z. refl;
  };
  goes_on = λ p q t b k z. absurd (omega arith);
  without_sound = λ z. (refl, refl);
  from_nothing = λ e. (e, refl);
}

pub hears_list : (m m' : Memory) (t t' : List ℕ) (a : ℕ) → t ≡ t' → HearsAll m t m' a → HearsAll m t' m' a
hears_list m m' t t' a e k = subst (λ v. HearsAll m v m' a) e k

pub hears_more : (m₀ m m' : Memory) (t t' : List ℕ) (x a b : ℕ) → t' ≡ t ++ (x ∷ []) → HearsAll m₀ t m a → Hears m x m' b → HearsAll m₀ t' m' b
hears_more m₀ m m' t t' x a b w k h = subst (λ v. HearsAll m₀ v m' b) (sym w) (record {
  from_empty_end = λ p q e. listened_on q p t m m' x a b h (k.from_empty_end p q e);
  goes_on = λ p q s d l z. elim (cases_lt 0 (length t)) [
    | inl y ↦ subst (λ v. Listened p q v m' b) (append_assoc s t (x ∷ [])) (listened_on q p (s ++ t) m m' x a b h (k.goes_on p q s d l y))
    | inr y ↦
        let e : length t ≡ 0 = omega arith in
        subst (λ v. Listened p q (s ++ (v ++ (x ∷ []))) m' b) (sym (nil_from_length t e))
        (listened_on q p s m m' x d b h (subst (λ v. Listened p q s v d) (sym (k.without_sound e).0) l))
  ];
  without_sound = λ z. let n = length_push t x in absurd (omega arith);
  from_nothing = λ e. nothing_on m m' x b h (k.from_nothing e).0;
})

-- where q is not 0, the code of no sounds is 0 too
pub always_answers : (p : List ℕ) (q : ℕ) (t : List ℕ) (m : Memory) (a : ℕ) → 1 ≤ q → Listened p q t m a → a ≡ heard q p t
always_answers p q t m a h k = elim (cases_lt 0 (length t)) [
  | inl z ↦ k.answer z
  | inr z ↦ let e : length t ≡ 0 = omega arith in k.silence e ∙ rw (lt-leb q (length t) (omega arith))
]

-- what is heard is settled by the memory and the sound
pub hears_once : (m n m' n' : Memory) (x a b : ℕ) → m ≡ n → Hears m x m' a → Hears n x n' b → (m' ≡ n') × (a ≡ b)
hears_once m n m' n' x a b e without_phrase_lem without_phrase_lem = (refl, refl)
hears_once m n m' n' x a b e without_phrase_lem (with_phrase l f) = let z : ◌≡◌ {A = ℕ} 0 1 = cc in absurd (omega arith)
hears_once m n m' n' x a b e (with_phrase l f) without_phrase_lem = let z : ◌≡◌ {A = ℕ} 0 1 = cc in absurd (omega arith)
hears_once m n m' n' x a b e (with_phrase {p = p} {q = q} {r = r} {r' = r'} l f) (with_phrase {p = p₁} {q = q₁} {r = r₁} {r' = r₁'} l₁ f₁) =
    let ep : p₁ ≡ p = cc in
    let eq : q₁ ≡ q = cc in
    let er : r₁ ≡ r = cc in
    let k₁ = subst (λ v. LongestEnd q₁ v (r₁ ++ (x ∷ [])) r₁') ep l₁ in
    let k₂ = subst (λ v. LongestEnd v p (r₁ ++ (x ∷ [])) r₁') eq k₁ in
    let k₃ = subst (λ v. LongestEnd q p (v ++ (x ∷ [])) r₁') er k₂ in
    let s : r' ≡ r₁' = (every_reader_lem q p).one_only (r ++ (x ∷ [])) r' r₁' l k₃ in
    let g : b ≡ answered q p r₁' = subst (λ v. b ≡ answered v p r₁') eq (subst (λ v. b ≡ answered q₁ v r₁') ep f₁) in
    (cc, f ∙ ap (answered q p) s ∙ sym g)
