-- What the lamp's ring means, and what its calls do.
use Rattle.std.specs.Prelude.{◌≡◌, ℕ, ◌<◌, ◌≤◌, List, [], ◌∷◌, ◌++◌, length, Option, MatchOption, slice_index_or}
use Rattle.terms.specs.Limits.{lamp_length}
use Rattle.terms.specs.Marks.{newest}
use Rattle.rows.specs.declared.lamp_ring.LampRing.{LampRing}
use Rattle.rows.specs.LampTrees.{answers_from, in_range}

-- the answers that a ring holds, each a gap and a step, oldest first
abbrev pub answers : LampRing → List (ℕ × ℕ)
answers r = answers_from r.head r.tree

-- one answer more, brought into range; of more than fit the oldest goes
abbrev pub answered : ℕ → ℕ → List (ℕ × ℕ) → List (ℕ × ℕ)
answered gap step xs = newest lamp_length (xs ++ in_range gap step ∷ [])

-- the least gap of the answers, with its earliest step
pub record Shows (xs : List (ℕ × ℕ)) (gap step : ℕ) : Type 0 where
  pub at : ℕ
  pub among : at < length xs
  pub is : slice_index_or xs at (0, 0) ≡ (gap, step)
  pub least : (i : ℕ) → i < length xs → gap ≤ (slice_index_or xs i (0, 0)).0
  pub earliest : (i : ℕ) → i < length xs → (slice_index_or xs i (0, 0)).0 ≡ gap → step ≤ (slice_index_or xs i (0, 0)).1

-- what the lamp tells of the answers: nothing where there is none
abbrev pub LampShows : List (ℕ × ℕ) → Option (ℕ × ℕ) → Type 0
LampShows xs r = MatchOption r (xs ≡ []) (λ p. Shows xs p.0 p.1)
