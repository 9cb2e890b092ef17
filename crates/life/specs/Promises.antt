-- What is promised of a list of calls that is performed.
use Rattle.std.specs.Prelude.{◌≡◌, ℕ, ◌+◌, ◌<◌, ◌≤◌, cond, ◌⊎◌, List, ◌++◌, length, take, drop, slice_index_or}
use Rattle.terms.specs.declared.answer.Answer.{Answer}
use Rattle.readers.specs.Memory.{Memory}
use Rattle.rows.specs.declared.mark.Mark.{Mark}
use Rattle.finder.specs.History.{History}
use Rattle.finder.specs.Slots.{Represents}
use Rattle.finder.specs.declared.takes.Rolling.{Rolling}
use Rattle.finder.specs.declared.takes.Closed.{Closed}
use Rattle.life.specs.Readings.{Event, history_of, closed_of, given, records_used_lem}
use Rattle.life.specs.Outcomes.{Stage, rolling, closed, Outcome, Life}
use Rattle.life.specs.Laws.{Law}
use Rattle.life.specs.declared.calls.Call.{Call}
use Rattle.life.specs.declared.calls.Call.TheVariants.{Clear}
use Rattle.life.specs.declared.calls.Take.{Take}
use Rattle.life.specs.declared.calls.Take.TheVariants as is
use Rattle.life.specs.declared.calls.Performed.{Performed}

-- the stage that calls and events lead to
abbrev pub stage_of : {S : Type 0} → List (Call S) → List Event → Stage S
stage_of ks es = cond (closed_of ks es) (closed (history_of ks es)) (rolling (history_of ks es))

module _ {S R M : Type 0} (sound : S → ℕ) (memory : R → Memory) (marks : M → List Mark) where
  -- a take is at a stage, and its slot represents the stage's history
  pub data Stands : Take S R M → Stage S → Type 0 where
    rolls : {r : Rolling S R M} {h : History S} → Represents sound memory marks r.slot h
        → Stands (is.Rolling r) (rolling h)
    rests : {r : Closed S R M} {h : History S} → Represents sound memory marks r.slot h
        → Stands (is.Closed r) (closed h)

  module _ (reach c : ℕ) where
    -- what the making of one call comes to, with the records that it is given before and after
    pub record MakeTold (t : Take S R M) (k : Call S) (rs : List Answer)
        (p : Take S R M × Event) (after : List Answer) : Type 0 where
      pub exact : (s : Stage S) → Stands t s → (u : Stage S) × (bs : List Answer)
          × Outcome sound reach c s k p.1 bs u × Stands p.0 u × (after ≡ bs ++ drop (length bs) rs)

    -- what performing the calls comes to: es and rs are the lists of events and records before, fs and ts after
    pub record PerformTold (calls : List (Call S)) (es : List Event) (rs : List Answer)
        (r : Performed S R M) (fs : List Event) (ts : List Answer) : Type 0 where
      -- how far it came, and that nothing is altered behind that
      pub of_calls : r.made ≤ length calls
      pub of_events : r.made ≤ length fs
      pub of_records : r.recorded ≤ length ts
      pub counted : r.recorded ≡ records_used_lem (take r.made calls) (take r.made fs)
      pub events_behind : drop r.made fs ≡ drop r.made es
      pub records_behind : drop r.recorded ts ≡ drop r.recorded rs
      -- the relation from call to call
      pub life : Life sound reach c (take r.made calls) (take r.made fs) (take r.recorded ts)
          (stage_of (take r.made calls) (take r.made fs))
      -- the law of every call that was made
      pub law : Law sound reach c calls fs ts r.made
      -- the take is handed back where the calls left it
      pub stands : Stands r.take (stage_of (take r.made calls) (take r.made fs))
      -- only want of room stopped it, and no call was made without its room
      pub stopped : r.made < length calls
          → (length fs ≤ r.made) ⊎ (length ts < r.recorded + given (slice_index_or calls r.made Clear))
      pub room : (i : ℕ) → i < r.made
          → records_used_lem (take i calls) (take i fs) + given (slice_index_or calls i Clear) ≤ length ts
