-- Where a best stretch lies.
use Rattle.std.specs.Prelude.{ℕ, ◌+◌, Bool, true, ◌&&◌, Some, None, Option, nat_le}
use Rattle.terms.specs.declared.answer.BestStretch.{BestStretch}

-- the best stretch, if there is one, lies in a take of n steps
abbrev pub within : Option BestStretch → ℕ → Bool
within None n = true
within (Some b) n = nat_le 1 b.start && (nat_le b.start (b.end + 1) && nat_le b.end n)
