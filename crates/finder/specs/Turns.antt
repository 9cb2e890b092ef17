-- What the parts of a step do: hearing, noting, pushing and lifting, and reading the answer off the row.
use Rattle.std.specs.Prelude.{◌≡◌, ℕ, ◌+◌, ◌-◌, ◌*◌, ◌<◌, ◌≤◌, max, cond, ◌⊎◌, List, [], map, length, replicate, ℤ, pos, ◌+ℤ◌, ◌<ℤ◌, IfOk, Some, None, Option, MatchOption, Result, MatchResult, ◌==◌, slice_index}
use Rattle.terms.specs.Limits.{longest_phrase, longest_take}
use Rattle.terms.specs.Marks.{Least}
use Rattle.terms.specs.Refusals.{run_refusal}
use Rattle.terms.specs.declared.answer.Answer.{Answer}
use Rattle.terms.specs.declared.refusal.Refusal.{Refusal}
use Rattle.readers.specs.Memory.{Memory, Hears, counted}
use Rattle.rows.specs.Rows.{worth, pushed, lifted}
use Rattle.rows.specs.LampRings.{answers}
use Rattle.rows.specs.declared.mark.Mark.{Mark}
use Rattle.rows.specs.declared.mark.Mark.TheVariants.{Plus, Minus}
use Rattle.finder.specs.Recent.{before, laid, oldest, noted, age_at}
use Rattle.finder.specs.History.{History, cleared, stepped, ran, Answered, Played}
use Rattle.finder.specs.Slots.{Represents, length_of}
use Rattle.finder.specs.declared.recent.Recent.{Recent}
use Rattle.finder.specs.declared.slot.Lengths.{Lengths}
use Rattle.finder.specs.declared.slot.Slot.{Slot}
use Rattle.finder.specs.declared.progress.Progress.{Progress}

-- the code h is heard at the sound x, and its figure is wanted n times
pub record ListenTold (m : Memory) (x : ℕ) (m' : Memory) (h n : ℕ) : Type 0 where
  pub hears : Hears m x m' h
  pub wanted : n ≡ counted m' h

-- a step with the code h, wanted n times, is noted in the rings r, and o is the age of the step that gives way
pub record Noted (r : Recent) (step h n : ℕ) (o : Option ℕ) (r' : Recent) : Type 0 where
  pub rings : 0 < h → h ≤ longest_phrase → oldest r h n < longest_phrase → r' ≡ noted r h n step
  pub age : 0 < h → h ≤ longest_phrase → oldest r h n < longest_phrase
      → o ≡ age_at step (slice_index r.steps (oldest r h n))

-- the mark that is pushed where a figure is wanted n times
abbrev pub mark_for : ℕ → Mark
mark_for n = cond (n == 0) Plus Minus

-- the mark of an age is lifted, where there is one and the row has it
pub record Lifted (ms : List Mark) (o : Option ℕ) (ms' : List Mark) : Type 0 where
  pub exact : MatchOption o (ms' ≡ ms) (λ age. (age < length ms → ms' ≡ lifted age ms) × (length ms ≤ age → ms' ≡ ms))

-- what a step with the code h, wanted n times, does to the marks ms and the rings r
pub record Turned (ms : List Mark) (r : Recent) (step h n : ℕ) (ms' : List Mark) (r' : Recent) : Type 0 where
  pub unwanted : n ≡ 0 → (ms' ≡ pushed (mark_for n) ms) × (r' ≡ r)
  pub wanted : 0 < n → 0 < h → h ≤ longest_phrase → oldest r h n < longest_phrase
      → (r' ≡ noted r h n step)
      × Lifted (pushed (mark_for n) ms) (age_at step (slice_index r.steps (oldest r h n))) ms'

-- a sum, and 0 where it would be below
abbrev pub GapOf : ℤ → ℕ → Type 0
GapOf sum g = ((sum <ℤ pos 0) × (g ≡ 0)) ⊎ (pos g ≡ sum)

-- the answer at the step n that is read off the marks ms
pub record ReadsOff (m q n : ℕ) (ms : List Mark) (a : Answer) : Type 0 where
  pub number : a.step ≡ n
  pub sum : ℤ
  pub span : ℕ
  pub least : Least (map worth ms) sum span
  pub gap : GapOf (pos (m - q + 1) +ℤ sum) a.gap
  pub start : a.start ≡ max 1 ((n + 2) - (q + span))

-- what is told of a run of k steps with r records, by a slot with the lengths ls and n steps
pub record Judged (ls : Option Lengths) (n k r : ℕ) (o : Result Lengths Refusal) : Type 0 where
  pub exact : MatchResult o (λ _. run_refusal (length_of ls) n k r ≡ None) (λ e. run_refusal (length_of ls) n k r ≡ Some e)
  pub free : IfOk o (λ l. (k ≡ r) × (ls ≡ Some l) × (n + k ≤ longest_take))

-- no step is tallied, and the rings are those of the phrase that a reader with the memory m holds
pub record Fresh {S : Type 0} (m : Memory) (t : Progress S) : Type 0 where
  pub rings : before (counted m) longest_phrase ≤ longest_phrase → t.recent ≡ laid (counted m)
  pub count : t.count ≡ 0
  pub last : t.last ≡ None
  pub best : t.best ≡ None
  pub lamp : answers t.lamp ≡ []

module _ {S R M : Type 0} (sound : S → ℕ) (memory : R → Memory) (marks : M → List Mark) where
  -- a new take begins on a phrase of the lengths l, with the reader and the rings as they are
  pub record Begun (s : Slot S R M) (l : Lengths) (t : Slot S R M) : Type 0 where
    pub reader : t.reader ≡ s.reader
    pub lengths : t.lengths ≡ Some l
    pub rings : t.progress.recent ≡ s.progress.recent
    pub count : t.progress.count ≡ 0
    pub last : t.progress.last ≡ None
    pub best : t.progress.best ≡ None
    pub lamp : answers t.progress.lamp ≡ []
    pub row : marks t.row ≡ replicate (2 * (l.phrase - l.figure + 1)) Plus

  -- what a clearing does where there is a phrase, of the lengths l
  pub record StartedOver (s : Slot S R M) (l : Lengths) (t : Slot S R M) : Type 0 where
    pub exact : (h : History S) → Represents sound memory marks s h → s.lengths ≡ Some l
        → Represents sound memory marks t (cleared h)

  -- what a step does that is not refused
  pub record PlayTold (s : Slot S R M) (x : S) (a : Answer) (t : Slot S R M) : Type 0 where
    pub exact : (h : History S) → Represents sound memory marks s h
        → Answered sound (stepped h x) a × Represents sound memory marks t (stepped h x)
    pub lengths : t.lengths ≡ s.lengths
    pub longer : t.progress.count ≡ s.progress.count + 1

  -- what the steps xs do that are not refused
  pub record PlayAllTold (s : Slot S R M) (xs : List S) (t : Slot S R M) (cs : List Answer) : Type 0 where
    pub exact : (h : History S) → Represents sound memory marks s h
        → Played sound h xs cs × Represents sound memory marks t (ran h xs)
