-- The law of a whole life, in the words of the calls and their events.
use Rattle.std.specs.Prelude.{◌≡◌, ℕ, ◌+◌, ◌<◌, Bool, true, false, List, [], map, length, take, drop, Some, None, Option, IsOk, IsErr, IsOkAnd, Err, slice_index_or}
use Rattle.terms.specs.Refusals.{load_refusal, step_refusal, run_refusal}
use Rattle.terms.specs.declared.answer.Answer.{Answer}
use Rattle.terms.specs.declared.answer.BestStretch.{BestStretch}
use Rattle.terms.specs.declared.refusal.Refusal.{Refusal}
use Rattle.finder.specs.History.{History, stepped, ran, Answered, BestOf}
use Rattle.life.specs.Readings.{Event, history_of, closed_of, given, used, records_used_lem}
use Rattle.life.specs.Outcomes.{belongs}
use Rattle.life.specs.declared.calls.Call.{Call}
use Rattle.life.specs.declared.calls.Call.TheVariants.{Load, Step, Run, Clear, Close, Reopen}
use Rattle.life.specs.declared.calls.Done.{Done}
use Rattle.life.specs.declared.calls.Done.TheVariants as told
use Rattle.life.specs.declared.calls.Turned.TheVariants.{Refused, OutOfPlace}

-- stands for a record where a list has none
abbrev pub blank : Answer
blank = record { step = 0; gap = 0; start = 0 }

module _ {S : Type 0} (sound : S → ℕ) (reach c : ℕ) where
  -- the line of the table that turns a call away
  abbrev pub refused_by : History S → Call S → Option Refusal
  refused_by h (Load p q) = load_refusal reach (map sound p.now) q c
  refused_by h (Step x) = step_refusal (length h.phrase) (length h.take)
  refused_by h (Run p n) = run_refusal (length h.phrase) (length h.take) (length p.now) n
  refused_by h _ = None

  -- what an accepted call tells: a step, alone or as one of a run, is answered rightly at its point of the take, and a
  -- closing tells the best of the take
  abbrev pub Tells : History S → Call S → Done → List Answer → Type 0
  Tells h (Load p q) d bs = d ≡ told.Loaded
  Tells h (Step x) d bs = (a : Answer) × (d ≡ told.Answered a) × Answered sound (stepped h x) a
  Tells h (Run p n) d bs = (d ≡ told.Ran) × (length bs ≡ length p.now)
      × ((j : ℕ) → j < length p.now → Answered sound (ran h (take (j + 1) p.now)) (slice_index_or bs j blank))
  Tells h Clear d bs = d ≡ told.Cleared
  Tells h Close d bs =
      (o : Option BestStretch) × (d ≡ told.Closed o) × BestOf sound h o × (h.take ≡ [] → o ≡ None)
  Tells h Reopen d bs = d ≡ told.Reopened

  -- the law of one call, where h and closed are before it, and g and shut after it
  pub record LawAt (h : History S) (closed : Bool) (k : Call S) (e : Event) (bs : List Answer)
      (g : History S) (shut : Bool) : Type 0 where
    pub out_of_place : belongs closed k ≡ false → e ≡ Err OutOfPlace
    pub refused : (r : Refusal) → belongs closed k ≡ true → refused_by h k ≡ Some r → e ≡ Err (Refused r)
    pub accepts : belongs closed k ≡ true → refused_by h k ≡ None → IsOkAnd e (λ d. Tells h k d bs)
    -- and none of them for any other reason
    pub only_out_of_place : e ≡ Err OutOfPlace → belongs closed k ≡ false
    pub only_refused : (r : Refusal) → e ≡ Err (Refused r) → (belongs closed k ≡ true) × (refused_by h k ≡ Some r)
    pub only_accepts : IsOk e → (belongs closed k ≡ true) × (refused_by h k ≡ None)
    -- what is not accepted alters nothing
    pub alters_nothing : IsErr e → (g ≡ h) × (shut ≡ closed) × (bs ≡ [])

  module _ (calls : List (Call S)) (events : List Event) (records : List Answer) where
    -- the records that call number i, counted from 0, uses up: they follow on those of the calls before it
    abbrev pub own_records : ℕ → List Answer
    own_records i =
        take (used (given (slice_index_or calls i Clear)) (slice_index_or events i (Err OutOfPlace)))
        (drop (records_used_lem (take i calls) (take i events)) records)

    -- the law of the first n calls
    abbrev pub Law : ℕ → Type 0
    Law n = (i : ℕ) → i < n → LawAt
        (history_of (take i calls) (take i events)) (closed_of (take i calls) (take i events))
        (slice_index_or calls i Clear) (slice_index_or events i (Err OutOfPlace)) (own_records i)
        (history_of (take (i + 1) calls) (take (i + 1) events)) (closed_of (take (i + 1) calls) (take (i + 1) events))
