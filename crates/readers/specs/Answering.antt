-- What is answered is the code of the remembered end.
use Rattle.std.specs.Prelude.{◌≡◌, ℕ, ◌≤◌, Bool, true, false, List, [], ◌∷◌, length, take, nat_le, refl}
use Rattle.std.proofs.Common.{ap, ◌∙◌, inl, inr, arith}
use Rattle.std.proofs.lemmas.Bool.{cases_eq, cases_lt, eq-eqb, ne_eqb, leb-true}
use Rattle.std.proofs.lemmas.List.{length-take}
use Rattle.terms.specs.Figures.{figures, count, same}
use Rattle.terms.specs.Codes.{code}
use Rattle.terms.specs.Reading.{answered}
use Rattle.terms.proofs.Coded.{code_none}
use Rattle.terms.proofs.Counts.{count_nil, count_other, same_eq}

-- a figure is q long
figure_long : (q : ℕ) (v xs : List ℕ) → 1 ≤ count v (figures q xs) → length v ≡ q
unfolding figures
figure_long q v [] h = absurd (omega (arith, count_nil v))
figure_long q v (x ∷ xs) h = go (nat_le q (length (x ∷ xs))) (same v (take q (x ∷ xs))) refl refl (figure_long q v xs)
  where
    go : (b c : Bool) → nat_le q (length (x ∷ xs)) ≡ b → same v (take q (x ∷ xs)) ≡ c → (1 ≤ count v (figures q xs) → length v ≡ q) → length v ≡ q
    go true true e k ih =
        let l = leb-true q (length (x ∷ xs)) e in
        ap length (same_eq v (take q (x ∷ xs)) k) ∙ length-take q (x ∷ xs) ∙ omega arith
    go true false e k ih = let j = rw e at h in ih (omega (arith, count_other v (take q (x ∷ xs)) (figures q xs) k))
    go false c e k ih = let j = rw e at h in absurd (omega (arith, count_nil v))

-- only a run that is q long has a code
pub code_answered : (q : ℕ) (p r : List ℕ) → code (figures q p) r ≡ answered q p r
code_answered q p r = elim (cases_eq (length r) q) [
  | inl e ↦ rw (eq-eqb (length r) q e)
  | inr e ↦ rw (ne_eqb (length r) q e) (code_none (figures q p) r (elim (cases_lt 0 (count r (figures q p))) [ inl h ↦ absurd (e (figure_long q r p h)) | inr h ↦ omega arith ]))
]
