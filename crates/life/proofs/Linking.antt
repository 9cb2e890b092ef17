-- A call by its own contract comes to one of the outcomes.
use Rattle.std.proofs.Common.{◌≡◌, ℕ, Bool, true, false, List, [], length, IfErr, IsErr, Ok, Err, Result, sym, refl, subst, Bor}
use Rattle.std.proofs.lemmas.Bool.{true≢false}
use Rattle.terms.specs.declared.answer.Answer.{Answer}
use Rattle.terms.specs.declared.refusal.Refusal.{Refusal}
use Rattle.readers.specs.Memory.{Memory}
use Rattle.rows.specs.declared.mark.Mark.{Mark}
use Rattle.finder.specs.History.{History, unloaded, loaded, cleared, stepped, ran}
use Rattle.finder.specs.Slots.{Represents, LoadTold, StepTold, RunTold}
use Rattle.finder.specs.declared.slot.Slot.{Slot}
use Rattle.life.specs.Readings.{Event}
use Rattle.life.specs.Outcomes.{Stage, rolling, closed, Outcome, load_accepted, load_refused, step_accepted}
use Rattle.life.specs.Outcomes.{step_refused, run_accepted, run_refused_lem, clearing, closing, reopening, Life}
use Rattle.life.specs.Outcomes as life
use Rattle.life.specs.Chains.{event_of, run_records}
use Rattle.life.specs.Chains.{Link, load, step, run, clear, close, reopen, Chain, new, more}
use Rattle.life.specs.declared.calls.Call.{Call}
use Rattle.life.specs.declared.calls.Call.TheVariants.{Load, Step, Run}
use Rattle.life.specs.declared.calls.Done.{Done}
use Rattle.life.specs.declared.calls.Done.TheVariants as told

-- a stage by whether it is closed
abbrev pub staged : {S : Type 0} → Bool → History S → Stage S
staged true h = closed h
staged false h = rolling h

-- what holds of a refused call, where its event is of one
err_kept : {A P : Type 0} (did : A → Done) (r : Result A Refusal) → IfErr r (λ _. P) → IsErr (event_of did r) → P
err_kept did (Ok u) k n = absurd (true≢false (sym n))
err_kept did (Err e) k n = k

err_unused : (did : Unit {0} → Done) (r : Result (Unit {0}) Refusal) (cs : List Answer) → IsErr (event_of did r)
    → run_records r cs ≡ []
err_unused did (Ok u) cs n = absurd (true≢false (sym n))
err_unused did (Err e) cs n = refl

module _ {S R M : Type 0} (sound : S → ℕ) (memory : R → Memory) (marks : M → List Mark) (reach c : ℕ) where
  load_out : {s t : Slot S R M} {p : Bor (List S)} {q : ℕ} (r : Result (Unit {0}) Refusal)
      → LoadTold sound memory marks reach c s p.now q r t → (h : History S) → Represents sound memory marks s h
      → (g : History S) × Outcome sound reach c (rolling h) (Load p q) (event_of (λ _. told.Loaded) r) [] (rolling g)
      × Represents sound memory marks t g
  load_out {s} {t} {p} {q} (Ok u) k h is = (loaded p.now q, load_accepted k.exact.0, k.exact.1)
  load_out (Err e) k h is =
      (h, load_refused k.exact, subst (λ z. Represents sound memory marks z h) (sym k.kept) is)

  step_out : {s t : Slot S R M} {x : S} (r : Result Answer Refusal)
      → StepTold sound memory marks s x r t → (h : History S) → Represents sound memory marks s h
      → (g : History S) × Outcome sound reach c (rolling h) (Step x) (event_of told.Answered r) [] (rolling g)
      × Represents sound memory marks t g
  step_out {s} {t} {x} (Ok a) k h is =
      let d = k.exact h is in (stepped h x, step_accepted d.0 d.1, d.2)
  step_out (Err e) k h is =
      (h, step_refused (k.exact h is), subst (λ z. Represents sound memory marks z h) (sym k.kept) is)

  run_out : {s t : Slot S R M} {p : Bor (List S)} {bs cs : List Answer} (r : Result (Unit {0}) Refusal)
      → RunTold sound memory marks s p.now bs r t cs → (h : History S) → Represents sound memory marks s h
      → (g : History S)
      × Outcome sound reach c (rolling h) (Run p (length bs)) (event_of (λ _. told.Ran) r) (run_records r cs) (rolling g)
      × Represents sound memory marks t g
  run_out {s} {t} {p} (Ok u) k h is =
      let d = k.exact h is in (ran h p.now, run_accepted d.0 d.1, d.2)
  run_out (Err e) k h is =
      (h, run_refused_lem (k.exact h is), subst (λ z. Represents sound memory marks z h) (sym k.kept.0) is)

  pub link_outcome : {b d : Bool} {s t : Slot S R M} {k : Call S} {e : Event} {bs : List Answer}
      → Link sound memory marks reach c b s k e bs d t → (h : History S) → Represents sound memory marks s h
      → (g : History S) × Outcome sound reach c (staged b h) k e bs (staged d g) × Represents sound memory marks t g
  link_outcome (load {r = r} k) h is = load_out r k h is
  link_outcome (step {r = r} k) h is = step_out r k h is
  link_outcome (run {r = r} k) h is = run_out r k h is
  link_outcome (clear k) h is = (cleared h, clearing, k.exact h is)
  link_outcome (close same k) h is =
      let at = subst (λ z. Represents sound memory marks z h) (sym same.same) is in (h, closing (k.exact h at), at)
  link_outcome (reopen k) h is = (cleared h, reopening, k.exact h is)

  pub link_kept : {b d : Bool} {s t : Slot S R M} {k : Call S} {e : Event} {bs : List Answer}
      → Link sound memory marks reach c b s k e bs d t → IsErr e → (d ≡ b) × (t ≡ s) × (bs ≡ [])
  link_kept (load {r = r} k) n = (refl, err_kept (λ _. told.Loaded) r k.kept n, refl)
  link_kept (step {r = r} k) n = (refl, err_kept told.Answered r k.kept n, refl)
  link_kept (run {cs = cs} {r = r} k) n =
      (refl, (err_kept (λ _. told.Ran) r k.kept n).0, err_unused (λ _. told.Ran) r cs n)
  link_kept (clear k) n = absurd (true≢false (sym n))
  link_kept (close same k) n = absurd (true≢false (sym n))
  link_kept (reopen k) n = absurd (true≢false (sym n))

  -- a chain of calls is a life
  pub chain_life : {ks : List (Call S)} {es : List Event} {rs : List Answer} {b : Bool} {s : Slot S R M}
      → Chain sound memory marks reach c ks es rs b s
      → (h : History S) × Life sound reach c ks es rs (staged b h) × Represents sound memory marks s h
  chain_life (new is) = (unloaded, life.new, is)
  chain_life (more ch l) =
      let a = chain_life ch in
      let d = link_outcome l a.0 a.2 in
      (d.0, life.more a.1 d.1, d.2)
