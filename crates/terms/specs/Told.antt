-- What is told of a take: the record of a step, the records of a whole take, and its best stretch.
use Rattle.std.specs.Prelude.{◌≡◌, ℕ, ◌+◌, ◌<◌, List, [], length, take, Some, None, Option, slice_index_or}
use Rattle.terms.specs.declared.answer.Answer.{Answer}
use Rattle.terms.specs.declared.answer.BestStretch.{BestStretch}
use Rattle.terms.specs.Closest.{Closest, Best}

-- the record a is the answer at the last step of the take t
pub record Answered (q : ℕ) (phrase t : List ℕ) (a : Answer) : Type 0 where
  pub number : a.step ≡ length t
  pub closest : Closest q phrase t a.gap a.start

-- the best stretch of the take t, and none for a take without a step
abbrev pub BestTold : ℕ → List ℕ → List ℕ → Option BestStretch → Type 0
BestTold q phrase t None = t ≡ []
BestTold q phrase t (Some b) = Best q phrase t b.gap b.start b.end

-- what stands past the end of a list of records
abbrev pub blank : Answer
blank = record { step = 0; gap = 0; start = 0 }

-- the records of a whole take, one for each step, and its best stretch
pub record Plays (q : ℕ) (phrase t : List ℕ) (answers : List Answer) (b : Option BestStretch) : Type 0 where
  pub long : length answers ≡ length t
  pub each : (i : ℕ) → i < length t → Answered q phrase (take (i + 1) t) (slice_index_or answers i blank)
  pub best : BestTold q phrase t b
