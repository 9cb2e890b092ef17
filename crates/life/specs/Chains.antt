-- Calls on one slot, each told by its own contract.
use Rattle.std.specs.Prelude.{◌≡◌, ℕ, Bool, true, false, List, [], ◌∷◌, ◌++◌, length, IsErr, Ok, Err, Option, Result}
use Rattle.std.specs.Borrow.{Bor}
use Rattle.terms.specs.declared.answer.Answer.{Answer}
use Rattle.terms.specs.declared.answer.BestStretch.{BestStretch}
use Rattle.terms.specs.declared.refusal.Refusal.{Refusal}
use Rattle.readers.specs.Memory.{Memory}
use Rattle.rows.specs.declared.mark.Mark.{Mark}
use Rattle.finder.specs.History.{unloaded}
use Rattle.finder.specs.Slots.{Represents, LoadTold, StepTold, RunTold, ClearTold, CloseTold, BestTold}
use Rattle.finder.specs.declared.slot.Slot.{Slot}
use Rattle.life.specs.Readings.{Event, history_of, closed_of}
use Rattle.life.specs.Laws.{Law}
use Rattle.life.specs.declared.calls.Call.{Call}
use Rattle.life.specs.declared.calls.Call.TheVariants.{Load, Step, Run, Clear, Close, Reopen}
use Rattle.life.specs.declared.calls.Done.{Done}
use Rattle.life.specs.declared.calls.Done.TheVariants as told
use Rattle.life.specs.declared.calls.Turned.TheVariants.{Refused}

-- the event of a call that may be refused, by what it hands back
abbrev pub event_of : {A : Type 0} → (A → Done) → Result A Refusal → Event
event_of did (Ok a) = Ok (did a)
event_of did (Err e) = Err (Refused e)

-- the records that a run uses up, where its list is cs after it
abbrev pub run_records : Result (Unit {0}) Refusal → List Answer → List Answer
run_records (Ok u) cs = cs
run_records (Err e) cs = []

module _ {S R M : Type 0} (sound : S → ℕ) (memory : R → Memory) (marks : M → List Mark) (reach c : ℕ) where
  -- one call on a slot s, rolling or closed, which makes the slot t of it; all that is known is the call's own contract
  pub data Link : Bool → Slot S R M → Call S → Event → List Answer → Bool → Slot S R M → Type 0 where
    load : {s t : Slot S R M} {p : Bor (List S)} {q : ℕ} {r : Result (Unit {0}) Refusal}
        → LoadTold sound memory marks reach c s p.now q r t
        → Link false s (Load p q) (event_of (λ _. told.Loaded) r) [] false t
    step : {s t : Slot S R M} {x : S} {r : Result Answer Refusal}
        → StepTold sound memory marks s x r t
        → Link false s (Step x) (event_of told.Answered r) [] false t
    run : {s t : Slot S R M} {p : Bor (List S)} {bs cs : List Answer} {r : Result (Unit {0}) Refusal}
        → RunTold sound memory marks s p.now bs r t cs
        → Link false s (Run p (length bs)) (event_of (λ _. told.Ran) r) (run_records r cs) false t
    clear : {s t : Slot S R M} → ClearTold sound memory marks s t
        → Link false s Clear (Ok told.Cleared) [] false t
    close : {s t : Slot S R M} {o : Option BestStretch}
        → CloseTold sound memory marks s t → BestTold sound memory marks t o
        → Link false s Close (Ok (told.Closed o)) [] true t
    reopen : {s t : Slot S R M} → ClearTold sound memory marks s t
        → Link true s Reopen (Ok told.Reopened) [] false t

  -- a chain of calls on one slot, each going on from the one before: the calls, their events, the records of the
  -- accepted runs, whether the take is closed then, and the slot
  pub data Chain : List (Call S) → List Event → List Answer → Bool → Slot S R M → Type 0 where
    new : {s : Slot S R M} → Represents sound memory marks s unloaded → Chain [] [] [] false s
    more : {ks : List (Call S)} {es : List Event} {rs : List Answer} {b : Bool} {s : Slot S R M}
        {k : Call S} {e : Event} {bs : List Answer} {d : Bool} {t : Slot S R M}
        → Chain ks es rs b s → Link b s k e bs d t
        → Chain (ks ++ (k ∷ [])) (es ++ (e ∷ [])) (rs ++ bs) d t

  -- the law of every such chain
  pub record ChainTold : Type 0 where
    pub law : (ks : List (Call S)) (es : List Event) (rs : List Answer) (b : Bool) (s : Slot S R M)
        → Chain ks es rs b s → Law sound reach c ks es rs (length ks)
    pub stands : (ks : List (Call S)) (es : List Event) (rs : List Answer) (b : Bool) (s : Slot S R M)
        → Chain ks es rs b s → (b ≡ closed_of ks es) × Represents sound memory marks s (history_of ks es)
    -- a refused call leaves the slot equal to what it was
    pub kept : (b d : Bool) (s t : Slot S R M) (k : Call S) (e : Event) (bs : List Answer)
        → Link b s k e bs d t → IsErr e → (d ≡ b) × (t ≡ s) × (bs ≡ [])
