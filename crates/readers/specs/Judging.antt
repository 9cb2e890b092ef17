-- Whether a phrase is taken, before any table is made of it.
use Rattle.std.specs.Prelude.{◌≡◌, ℕ, List, Some, None, Result, MatchResult}
use Rattle.terms.specs.Refusals.{load_refusal}
use Rattle.terms.specs.declared.refusal.Refusal.{Refusal}

abbrev pub Judged : ℕ → List ℕ → ℕ → ℕ → Result (Unit {0}) Refusal → Type 0
Judged reach phrase q c r =
    MatchResult r
    (λ _. load_refusal reach phrase q c ≡ None)
    (λ e. load_refusal reach phrase q c ≡ Some e)
