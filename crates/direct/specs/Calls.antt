-- The lines that turn each call away, in order, and what each call answers.
use Rattle.std.specs.Prelude.{◌≡◌, ℕ, not, List, [], ◌∷◌, ◌++◌, length, IfOk, Option, Result, MatchResult, ◌==◌, nat_lt}
use Rattle.std.specs.Result.{result_err}
use Rattle.terms.specs.declared.answer.Answer.{Answer}
use Rattle.terms.specs.declared.answer.BestStretch.{BestStretch}
use Rattle.terms.specs.declared.refusal.Refusal.{Refusal}
use Rattle.terms.specs.declared.refusal.Refusal.TheVariants.{UnevenLists, FullTake}
use Rattle.terms.specs.Limits.{longest_take}
use Rattle.terms.specs.Refusals.{Line, when, first_of, phrase_lines}
use Rattle.terms.specs.Told.{Answered, Plays}

-- a phrase of m sounds, figures of q, a take of n steps
abbrev pub closest_lines : ℕ → ℕ → ℕ → List Line
closest_lines m q n = phrase_lines m q ++ (when (nat_lt longest_take n) FullTake ∷ [])

-- the same, with a list of r records
abbrev pub play_lines : ℕ → ℕ → ℕ → ℕ → List Line
play_lines m q n r =
    phrase_lines m q ++ (when (not (n == r)) UnevenLists ∷ when (nat_lt longest_take n) FullTake ∷ [])

-- `closest` refuses by the first line that holds, and else answers at the last step of the take
pub record ClosestTold (q : ℕ) (phrase t : List ℕ) (r : Result Answer Refusal) : Type 0 where
  pub refused : result_err r ≡ first_of (closest_lines (length phrase) q (length t))
  pub answered : IfOk r (Answered q phrase t)

-- `play` refuses by the first line that holds and leaves the records as they were, and else fills them
pub record PlayTold (q : ℕ) (phrase t : List ℕ) (was after : List Answer) (r : Result (Option BestStretch) Refusal) : Type 0 where
  pub refused : result_err r ≡ first_of (play_lines (length phrase) q (length t) (length was))
  pub played : MatchResult r (Plays q phrase t after) (λ _. after ≡ was)
