-- Which history a slot represents, and what its calls do.
use Rattle.std.specs.Prelude.{◌≡◌, ℕ, ◌+◌, ◌-◌, ◌*◌, ◌<◌, ◌≤◌, List, [], map, length, IfErr, Some, None, Option, Result, MatchResult}
use Rattle.terms.specs.Limits.{longest_phrase}
use Rattle.terms.specs.Codes.{row_at}
use Rattle.terms.specs.Reading.{LongestEnd}
use Rattle.terms.specs.Refusals.{load_refusal, step_refusal, run_refusal}
use Rattle.terms.specs.declared.answer.Answer.{Answer}
use Rattle.terms.specs.declared.answer.BestStretch.{BestStretch}
use Rattle.terms.specs.declared.refusal.Refusal.{Refusal}
use Rattle.readers.specs.Memory.{Memory, nothing, held}
use Rattle.rows.specs.Rows.{worth}
use Rattle.rows.specs.declared.mark.Mark.{Mark}
use Rattle.rows.specs.LampRings.{answers}
use Rattle.finder.specs.Recent.{rings_at}
use Rattle.finder.specs.History.{History, loaded, cleared, stepped, ran, last_step}
use Rattle.finder.specs.History.{Answered, Played, BestOf, LampList, LampOf}
use Rattle.finder.specs.declared.slot.Lengths.{Lengths}
use Rattle.finder.specs.declared.slot.Slot.{Slot}

-- how many marks the row has: as many figures as matter
abbrev pub width : ℕ → List ℕ → ℕ
width q phrase = 2 * (length phrase + 1 - q)

-- the length of the phrase that a slot keeps, and of its figures: 0 in an empty slot
abbrev pub length_of : Option Lengths → ℕ
length_of None = 0
length_of (Some l) = l.phrase

abbrev pub figure_of : Option Lengths → ℕ
figure_of None = 0
figure_of (Some l) = l.figure

-- memory of the reader and marks of the row after the take t
pub record Tracks (q : ℕ) (phrase t : List ℕ) (m : Memory) (ms : List Mark) : Type 0 where
  pub from_one : 1 ≤ q
  pub to_length : q ≤ length phrase
  pub short : length phrase ≤ longest_phrase
  pub remembers : (e : List ℕ) × (m ≡ held phrase q e) × LongestEnd q phrase t e
  pub marked : map worth ms ≡ row_at q (width q phrase) phrase t

module _ {S R M : Type 0} (sound : S → ℕ) (memory : R → Memory) (marks : M → List Mark) where
  -- the slot s is what the history h makes of a new one. Free are only what the reader, the row and the lamp's ring
  -- keep beside their meaning
  pub record Represents (s : Slot S R M) (h : History S) : Type 0 where
    pub size : length_of s.lengths ≡ length h.phrase
    pub figure : figure_of s.lengths ≡ h.q
    pub count : s.progress.count ≡ length h.take
    pub last : s.progress.last ≡ last_step h.take
    pub best : BestOf sound h s.progress.best
    pub lamp : LampList sound h (answers s.progress.lamp)
    pub rings : s.progress.recent ≡ rings_at h.q (map sound h.phrase) (map sound h.take)
    pub empty : length h.phrase ≡ 0 → (memory s.reader ≡ nothing) × (marks s.row ≡ []) × (h.take ≡ [])
    pub tracks : 0 < length h.phrase
        → Tracks h.q (map sound h.phrase) (map sound h.take) (memory s.reader) (marks s.row)

  -- what a load does to a slot s, which is t after it, where the reader has a reach at c sounds
  pub record LoadTold (reach c : ℕ) (s : Slot S R M) (ps : List S) (q : ℕ)
      (r : Result (Unit {0}) Refusal) (t : Slot S R M) : Type 0 where
    pub exact : MatchResult r
        (λ _. (load_refusal reach (map sound ps) q c ≡ None) × Represents t (loaded ps q))
        (λ e. load_refusal reach (map sound ps) q c ≡ Some e)
    pub kept : IfErr r (λ _. t ≡ s)

  -- what a step does
  pub record StepTold (s : Slot S R M) (x : S) (r : Result Answer Refusal) (t : Slot S R M) : Type 0 where
    pub exact : (h : History S) → Represents s h → MatchResult r
        (λ a. (step_refusal (length h.phrase) (length h.take) ≡ None)
        × Answered sound (stepped h x) a × Represents t (stepped h x))
        (λ e. step_refusal (length h.phrase) (length h.take) ≡ Some e)
    pub kept : IfErr r (λ _. t ≡ s)

  -- what a run of the steps xs does, with a list of records that is bs before and cs after it
  pub record RunTold (s : Slot S R M) (xs : List S) (bs : List Answer)
      (r : Result (Unit {0}) Refusal) (t : Slot S R M) (cs : List Answer) : Type 0 where
    pub exact : (h : History S) → Represents s h → MatchResult r
        (λ _. (run_refusal (length h.phrase) (length h.take) (length xs) (length bs) ≡ None)
        × Played sound h xs cs × Represents t (ran h xs))
        (λ e. run_refusal (length h.phrase) (length h.take) (length xs) (length bs) ≡ Some e)
    pub kept : IfErr r (λ _. (t ≡ s) × (cs ≡ bs))

  -- what a clearing does, and a reopening
  pub record ClearTold (s t : Slot S R M) : Type 0 where
    pub exact : (h : History S) → Represents s h → Represents t (cleared h)

  -- what a closing does: nothing but forbid further steps
  pub record CloseTold (s t : Slot S R M) : Type 0 where
    pub same : t ≡ s

  -- what is told of the last step, the lamp and the best
  pub record LastTold (s : Slot S R M) (o : Option S) : Type 0 where
    pub exact : (h : History S) → Represents s h → o ≡ last_step h.take

  pub record LampTold (s : Slot S R M) (o : Option (ℕ × ℕ)) : Type 0 where
    pub exact : (h : History S) → Represents s h → LampOf sound h o

  pub record BestTold (s : Slot S R M) (o : Option BestStretch) : Type 0 where
    pub exact : (h : History S) → Represents s h → BestOf sound h o
