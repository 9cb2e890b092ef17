-- How steps stand as bytes.
use Rattle.std.specs.Prelude.{◌≡◌, ℕ, ◌-◌, List, ◌++◌, length, replicate, Result, MatchResult, ◌≢◌}
use Rattle.terms.specs.Limits.{widest_step}
use Rattle.terms.specs.declared.refusal.Refusal.{Refusal}
use Rattle.terms.specs.declared.refusal.Refusal.TheVariants.{UnknownStep}

-- bytes with zeros behind them, as many as the widest step has
abbrev pub padded : List ℕ → List ℕ
padded bs = bs ++ replicate (widest_step - length bs) 0

-- just the bytes of some step are accepted, and answered by such a step
pub record Decoded {S : Type 0} (bytes : S → List ℕ) (bs : List ℕ) (r : Result S Refusal) : Type 0 where
  pub exact : MatchResult r (λ x. bytes x ≡ bs) (λ e. (e ≡ UnknownStep) × ((x : S) → bytes x ≢ bs))
