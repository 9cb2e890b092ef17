-- What has happened to a slot, and what is owed of it.
use Rattle.std.specs.Prelude.{◌≡◌, ℕ, List, [], ◌∷◌, ◌++◌, map, length, Some, None, Option, MatchOption}
use Rattle.terms.specs.Limits.{lamp_length}
use Rattle.terms.specs.Marks.{newest}
use Rattle.terms.specs.Closest.{Closest, Best}
use Rattle.terms.specs.declared.answer.Answer.{Answer}
use Rattle.terms.specs.declared.answer.BestStretch.{BestStretch}
use Rattle.rows.specs.LampRings.{Shows}

-- the phrase and the figure length of the last accepted load, and the take: the steps accepted since that load, or
-- since a later clearing or reopening; of a slot that was never loaded all are empty
pub record History (S : Type 0) : Type 0 where
  pub phrase : List S
  pub q : ℕ
  pub take : List S

-- a new slot
abbrev pub unloaded : {S : Type 0} → History S
unloaded = record { phrase = []; q = 0; take = [] }

-- after an accepted load
abbrev pub loaded : {S : Type 0} → List S → ℕ → History S
loaded ps q = record { phrase = ps; q = q; take = [] }

-- after a clearing or a reopening
abbrev pub cleared : {S : Type 0} → History S → History S
cleared h = record { phrase = h.phrase; q = h.q; take = [] }

-- after an accepted step
abbrev pub stepped : {S : Type 0} → History S → S → History S
stepped h x = record { phrase = h.phrase; q = h.q; take = h.take ++ (x ∷ []) }

-- after an accepted run of steps
abbrev pub ran : {S : Type 0} → History S → List S → History S
ran h xs = record { phrase = h.phrase; q = h.q; take = h.take ++ xs }

-- the last step of a take
abbrev pub last_step : {S : Type 0} → List S → Option S
last_step [] = None
last_step (x ∷ []) = Some x
last_step (x ∷ (y ∷ ys)) = last_step (y ∷ ys)

-- a is the right answer to the last step of the take: its number, the least gap of a stretch that ends there, and the
-- first start that has it
pub record Answered {S : Type 0} (sound : S → ℕ) (h : History S) (a : Answer) : Type 0 where
  pub number : a.step ≡ length h.take
  pub closest : Closest h.q (map sound h.phrase) (map sound h.take) a.gap a.start

-- the right answers to the steps xs that follow on h, each at its point of the take
pub data Played {S : Type 0} (sound : S → ℕ) : History S → List S → List Answer → Type 0 where
  none : {h : History S} → Played sound h [] []
  more : {h : History S} {x : S} {xs : List S} {a : Answer} {bs : List Answer}
      → Answered sound (stepped h x) a → Played sound (stepped h x) xs bs → Played sound h (x ∷ xs) (a ∷ bs)

-- the best of the take: none where it has no step, and else its best stretch
abbrev pub BestOf : {S : Type 0} → (S → ℕ) → History S → Option BestStretch → Type 0
BestOf sound h o =
    MatchOption o (h.take ≡ [])
    (λ b. Best h.q (map sound h.phrase) (map sound h.take) b.gap b.start b.end)

-- gap and step of an answer
abbrev pub gap_and_step : Answer → ℕ × ℕ
gap_and_step a = (a.gap, a.step)

-- ls are gap and step of the answers that the lamp looks at: the newest of the take, or all where they are fewer
pub record LampList {S : Type 0} (sound : S → ℕ) (h : History S) (ls : List (ℕ × ℕ)) : Type 0 where
  pub all : List Answer
  pub played : Played sound (cleared h) h.take all
  pub latest : ls ≡ newest lamp_length (map gap_and_step all)

-- the least gap of these, with its earliest step
pub record Lamp {S : Type 0} (sound : S → ℕ) (h : History S) (gap step : ℕ) : Type 0 where
  pub list : List (ℕ × ℕ)
  pub listed : LampList sound h list
  pub shows : Shows list gap step

-- the lamp: none in an empty take
abbrev pub LampOf : {S : Type 0} → (S → ℕ) → History S → Option (ℕ × ℕ) → Type 0
LampOf sound h o = MatchOption o (h.take ≡ []) (λ l. Lamp sound h l.0 l.1)
