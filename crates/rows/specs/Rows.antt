-- What a row of marks is, and what its calls do to it.
use Rattle.std.specs.Prelude.{◌≡◌, ℕ, ◌-◌, List, [], ◌∷◌, ◌++◌, length, replicate, ℤ, pos, negsuc, Some, None, Result, MatchResult, slice_set}
use Rattle.terms.specs.Refusals.{start_refusal, lift_refusal}
use Rattle.terms.specs.declared.refusal.Refusal.{Refusal}
use Rattle.rows.specs.declared.mark.Mark.{Mark}
use Rattle.rows.specs.declared.mark.Mark.TheVariants.{Plus, Minus}

abbrev pub worth : Mark → ℤ
worth Plus = pos 1
worth Minus = negsuc 0

-- the oldest mark gives way to a new one; a row without marks stays as it is
abbrev pub pushed : Mark → List Mark → List Mark
pushed m [] = []
pushed m (x ∷ xs) = xs ++ m ∷ []

-- the mark of an age, the newest being 0, becomes +1
abbrev pub lifted : ℕ → List Mark → List Mark
lifted age ms = slice_set ms (length ms - 1 - age) Plus

-- what a start with w marks does to a row s, which is t after it
pub record StartTold {R : Type 0} (marks : R → List Mark) (s : R) (w : ℕ) (r : Result (Unit {0}) Refusal) (t : R) : Type 0 where
  pub exact : MatchResult r
      (λ _. (start_refusal w ≡ None) × (marks t ≡ replicate w Plus))
      (λ e. (start_refusal w ≡ Some e) × (t ≡ s))

-- what a lift of the mark of an age does
pub record LiftTold {R : Type 0} (marks : R → List Mark) (s : R) (age : ℕ) (r : Result (Unit {0}) Refusal) (t : R) : Type 0 where
  pub exact : MatchResult r
      (λ _. (lift_refusal (length (marks s)) age ≡ None) × (marks t ≡ lifted age (marks s)))
      (λ e. (lift_refusal (length (marks s)) age ≡ Some e) × (t ≡ s))
