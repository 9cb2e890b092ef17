-- What one call comes to, and what a list of calls does.
use Rattle.std.specs.Prelude.{◌≡◌, ℕ, Bool, true, false, not, List, [], ◌∷◌, ◌++◌, map, length, Some, None, Option, Ok, Err}
use Rattle.std.specs.Borrow.{Bor}
use Rattle.terms.specs.Refusals.{load_refusal, step_refusal, run_refusal}
use Rattle.terms.specs.declared.answer.Answer.{Answer}
use Rattle.terms.specs.declared.answer.BestStretch.{BestStretch}
use Rattle.terms.specs.declared.refusal.Refusal.{Refusal}
use Rattle.finder.specs.History.{History, unloaded, loaded, cleared, stepped, ran, Answered, Played, BestOf}
use Rattle.life.specs.Readings.{Event}
use Rattle.life.specs.declared.calls.Call.{Call}
use Rattle.life.specs.declared.calls.Call.TheVariants.{Load, Step, Run, Clear, Close, Reopen}
use Rattle.life.specs.declared.calls.Done.TheVariants as told
use Rattle.life.specs.declared.calls.Turned.TheVariants.{Refused, OutOfPlace}

-- a take is rolling or closed
pub data Stage (S : Type 0) : Type 0 where
  rolling : History S → Stage S
  closed : History S → Stage S

-- the calls that belong to a take, by whether it is closed
abbrev pub belongs : {S : Type 0} → Bool → Call S → Bool
belongs shut Reopen = shut
belongs shut _ = not shut

module _ {S : Type 0} (sound : S → ℕ) (reach c : ℕ) where
  -- the stage before a call, the call, its event, the records it uses up, and the stage after it; reach is that of the
  -- reader at the c sounds of the kind
  pub data Outcome : Stage S → Call S → Event → List Answer → Stage S → Type 0 where
    load_accepted : {h : History S} {p : Bor (List S)} {q : ℕ}
        → load_refusal reach (map sound p.now) q c ≡ None
        → Outcome (rolling h) (Load p q) (Ok told.Loaded) [] (rolling (loaded p.now q))
    load_refused : {h : History S} {p : Bor (List S)} {q : ℕ} {e : Refusal}
        → load_refusal reach (map sound p.now) q c ≡ Some e
        → Outcome (rolling h) (Load p q) (Err (Refused e)) [] (rolling h)
    step_accepted : {h : History S} {x : S} {a : Answer}
        → step_refusal (length h.phrase) (length h.take) ≡ None → Answered sound (stepped h x) a
        → Outcome (rolling h) (Step x) (Ok (told.Answered a)) [] (rolling (stepped h x))
    step_refused : {h : History S} {x : S} {e : Refusal}
        → step_refusal (length h.phrase) (length h.take) ≡ Some e
        → Outcome (rolling h) (Step x) (Err (Refused e)) [] (rolling h)
    run_accepted : {h : History S} {p : Bor (List S)} {n : ℕ} {bs : List Answer}
        → run_refusal (length h.phrase) (length h.take) (length p.now) n ≡ None
        → Played sound h p.now bs
        → Outcome (rolling h) (Run p n) (Ok told.Ran) bs (rolling (ran h p.now))
    run_refused_lem : {h : History S} {p : Bor (List S)} {n : ℕ} {e : Refusal}
        → run_refusal (length h.phrase) (length h.take) (length p.now) n ≡ Some e
        → Outcome (rolling h) (Run p n) (Err (Refused e)) [] (rolling h)
    clearing : {h : History S} → Outcome (rolling h) Clear (Ok told.Cleared) [] (rolling (cleared h))
    closing : {h : History S} {o : Option BestStretch} → BestOf sound h o
        → Outcome (rolling h) Close (Ok (told.Closed o)) [] (closed h)
    reopening : {h : History S} → Outcome (closed h) Reopen (Ok told.Reopened) [] (rolling (cleared h))
    not_closed : {h : History S} {k : Call S} → belongs false k ≡ false
        → Outcome (rolling h) k (Err OutOfPlace) [] (rolling h)
    not_rolling : {h : History S} {k : Call S} → belongs true k ≡ false
        → Outcome (closed h) k (Err OutOfPlace) [] (closed h)

  -- the calls that were made on a new slot, their events, the records they used up, and the stage they led to
  pub data Life : List (Call S) → List Event → List Answer → Stage S → Type 0 where
    new : Life [] [] [] (rolling unloaded)
    more : {ks : List (Call S)} {es : List Event} {rs : List Answer} {s : Stage S}
        {k : Call S} {e : Event} {bs : List Answer} {t : Stage S}
        → Life ks es rs s → Outcome s k e bs t
        → Life (ks ++ (k ∷ [])) (es ++ (e ∷ [])) (rs ++ bs) t
