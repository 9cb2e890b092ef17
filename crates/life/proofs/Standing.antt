-- A take at its stage, and the making of a call.
use Rattle.std.proofs.Common.{◌≡◌, ℕ, ◌≤◌, Bool, true, false, cond, List, [], ◌∷◌, ◌++◌, length, drop, IfErr, Ok, Err, Option, Result, Bor, sym, refl, ap, ◌∙◌, subst, arith}
use Rattle.std.proofs.lemmas.List.{append-nil, drop_all}
use Rattle.terms.specs.declared.answer.Answer.{Answer}
use Rattle.terms.specs.declared.answer.BestStretch.{BestStretch}
use Rattle.terms.specs.declared.refusal.Refusal.{Refusal}
use Rattle.readers.specs.Memory.{Memory}
use Rattle.rows.specs.declared.mark.Mark.{Mark}
use Rattle.finder.specs.History.{History}
use Rattle.finder.specs.Slots.{Represents, RunTold, ClearTold, CloseTold, BestTold}
use Rattle.finder.specs.declared.slot.Slot.{Slot}
use Rattle.finder.specs.declared.takes.Rolling.{Rolling}
use Rattle.finder.specs.declared.takes.Closed.{Closed}
use Rattle.life.specs.Outcomes.{Stage, rolling, closed, belongs, Outcome, not_closed, not_rolling, Life}
use Rattle.life.specs.Readings.{Event, given, history_of, closed_of}
use Rattle.life.specs.Chains.{event_of, run_records, Link, run, close, reopen}
use Rattle.life.specs.Promises.{stage_of, Stands, rolls, rests, MakeTold}
use Rattle.life.specs.declared.calls.Call.{Call}
use Rattle.life.specs.declared.calls.Call.TheVariants.{Load, Step, Run, Clear, Close, Reopen}
use Rattle.life.specs.declared.calls.Turned.TheVariants.{OutOfPlace}
use Rattle.life.specs.declared.calls.Done.TheVariants as told
use Rattle.life.specs.declared.calls.Take.{Take}
use Rattle.life.specs.declared.calls.Take.TheVariants as is
use Rattle.life.proofs.Linking.{staged, link_outcome}
use Rattle.life.proofs.Obeying.{at_stage, shut, life_history, life_closed}

pub not_reopen : {S : Type 0} (k : Call S) → (k ≡ Reopen → ⊥) → belongs true k ≡ false
not_reopen (Load p q) n = refl
not_reopen (Step x) n = refl
not_reopen (Run p m) n = refl
not_reopen Clear n = refl
not_reopen Close n = refl
not_reopen Reopen n = absurd (n refl)

abbrev slot_of : {S R M : Type 0} → Take S R M → Slot S R M
slot_of (is.Rolling r) = r.slot
slot_of (is.Closed r) = r.slot

abbrev shut_of : {S R M : Type 0} → Take S R M → Bool
shut_of (is.Rolling r) = false
shut_of (is.Closed r) = true

-- the list of records after a run
run_after : (r : Result (Unit {0}) Refusal) (rs cs : List Answer) (P : Type 0)
    → IfErr r (λ _. P × (cs ≡ rs)) → length cs ≡ length rs
    → cs ≡ run_records r cs ++ drop (length (run_records r cs)) rs
run_after (Ok u) rs cs P k h =
    let all : length rs ≤ length cs = omega arith in
    sym (append-nil cs) ∙ ap (λ z. cs ++ z) (sym (drop_all (length cs) rs all))
run_after (Err e) rs cs P k h = k.1

module _ {S R M : Type 0} {sound : S → ℕ} {memory : R → Memory} {marks : M → List Mark} where
  stood : {t v : Take S R M} {s : Stage S} → t ≡ v → Stands sound memory marks t s
      → (h : History S) × (s ≡ staged (shut_of v) h) × Represents sound memory marks (slot_of v) h
  stood {s = s} same st = go (subst (λ t. Stands sound memory marks t s) same st)
    where
      go : {v : Take S R M} {s : Stage S} → Stands sound memory marks v s
          → (h : History S) × (s ≡ staged (shut_of v) h) × Represents sound memory marks (slot_of v) h
      go (rolls {h = h} k) = (h, refl, k)
      go (rests {h = h} k) = (h, refl, k)

  stand : (t : Take S R M) (h : History S) → Represents sound memory marks (slot_of t) h
      → Stands sound memory marks t (staged (shut_of t) h)
  stand (is.Rolling r) h k = rolls k
  stand (is.Closed r) h k = rests k

module _ {S : Type 0} {sound : S → ℕ} {reach c : ℕ} where
  at_same : {s s' u : Stage S} {k k' : Call S} {e e' : Event} {bs : List Answer} → s ≡ s' → k ≡ k' → e ≡ e'
      → Outcome sound reach c s' k' e' bs u → Outcome sound reach c s k e bs u
  at_same {u = u} {bs = bs} a b d o =
      subst (λ (z : Stage S × Call S × Event). Outcome sound reach c z.0 z.1 z.2 bs u)
      (λ i. (sym a i, sym b i, sym d i)) o

  out : (b : Bool) (h : History S) (k : Call S) → belongs b k ≡ false
      → Outcome sound reach c (staged b h) k (Err OutOfPlace) [] (staged b h)
  out true h k n = not_rolling n
  out false h k n = not_closed n

module _ {S R M : Type 0} {sound : S → ℕ} {memory : R → Memory} {marks : M → List Mark} {reach c : ℕ} where
  -- a call that is known by its own contract
  pub made_told : {t t' v : Take S R M} {k k' : Call S} {e e' : Event} {bs rs after : List Answer}
      → t ≡ t' → k ≡ k' → e ≡ e'
      → Link sound memory marks reach c (shut_of t') (slot_of t') k' e' bs (shut_of v) (slot_of v)
      → after ≡ bs ++ drop (length bs) rs
      → MakeTold sound memory marks reach c t k rs (v, e) after
  made_told {v = v} {bs = bs} same_take same_call same_event link same = record {
    exact = λ s st.
        let a = stood same_take st in
        let d = link_outcome sound memory marks reach c link a.0 a.2 in
        (staged (shut_of v) d.0, bs, at_same a.1 same_call same_event d.1, stand v d.0 d.2, same);
  }

  pub run_told : {t : Take S R M} {r v : Rolling S R M} {k : Call S} {p : Bor (List S)} {n : ℕ}
      {o : Result (Unit {0}) Refusal} {e : Event} {rs ts : List Answer} → t ≡ is.Rolling r → k ≡ Run p n
      → length rs ≡ given k → length ts ≡ length rs
      → RunTold sound memory marks r.slot p.now rs o v.slot ts → e ≡ event_of (λ _. told.Ran) o
      → MakeTold sound memory marks reach c t k rs (is.Rolling v, e) ts
  run_told {p = p} {o = o} {rs = rs} {ts = ts} a b long long' k e =
      let same = b ∙ ap (λ m. Run p m) (sym (long ∙ ap given b)) in
      made_told a same e (run k) (run_after o rs ts _ k.kept long')

  pub close_told : {t : Take S R M} {r : Rolling S R M} {v : Closed S R M} {k : Call S} {o : Option BestStretch}
      {rs : List Answer} → t ≡ is.Rolling r → k ≡ Close
      → CloseTold sound memory marks r.slot v.slot → BestTold sound memory marks v.slot o
      → MakeTold sound memory marks reach c t k rs (is.Closed v, Ok (told.Closed o)) rs
  close_told a b k best = made_told a b refl (close k best) refl

  pub reopen_told : {t : Take S R M} {r : Closed S R M} {v : Rolling S R M} {k : Call S} {rs : List Answer}
      → t ≡ is.Closed r → k ≡ Reopen → ClearTold sound memory marks r.slot v.slot
      → MakeTold sound memory marks reach c t k rs (is.Rolling v, Ok told.Reopened) rs
  reopen_told a b k = made_told a b refl (reopen k) refl

  pub moved_take : {t v : Take S R M} {k : Call S} {rs after : List Answer} {p : Take S R M × Event} → t ≡ v
      → MakeTold sound memory marks reach c v k rs p after → MakeTold sound memory marks reach c t k rs p after
  moved_take {k = k} {rs = rs} {after = after} {p = p} same told =
      subst (λ t. MakeTold sound memory marks reach c t k rs p after) (sym same) told

  -- a call that does not belong there
  pub out_told : {t v : Take S R M} {k : Call S} {rs : List Answer} → t ≡ v → belongs (shut_of v) k ≡ false
      → MakeTold sound memory marks reach c t k rs (v, Err OutOfPlace) rs
  out_told {v = v} {k = k} same n = record {
    exact = λ s st.
        let a = stood same st in
        let there = at_same a.1 refl refl (out (shut_of v) a.0 k n) in
        (staged (shut_of v) a.0, [], there, stand v a.0 a.2, refl);
  }

  -- where the records are not touched, it does not matter which they are
  pub untouched : {t : Take S R M} {k : Call S} {p : Take S R M × Event} (rs : List Answer)
      → MakeTold sound memory marks reach c t k [] p [] → MakeTold sound memory marks reach c t k rs p rs
  untouched {t} {k} {p} rs told = record { exact = λ s st. go s (told.exact s st) }
    where
      go : (s : Stage S) → (u : Stage S) × (bs : List Answer) × Outcome sound reach c s k p.1 bs u
          × Stands sound memory marks p.0 u × ([] ≡ bs ++ drop (length bs) [])
          → (u : Stage S) × (bs : List Answer) × Outcome sound reach c s k p.1 bs u
          × Stands sound memory marks p.0 u × (rs ≡ bs ++ drop (length bs) rs)
      go s (u, [], o, st, e) = (u, [], o, st, refl)
      go s (u, b ∷ bs, o, st, e) = let z : ◌≡◌ {A = ℕ} 0 1 = cc in absurd (omega arith)

module _ {S : Type 0} (sound : S → ℕ) (reach c : ℕ) where
  stage_at : (ks : List (Call S)) (es : List Event) (s : Stage S)
      → at_stage s ≡ history_of ks es → shut s ≡ closed_of ks es
      → s ≡ stage_of ks es
  stage_at ks es (rolling h) e f =
      ap rolling e ∙ ap (λ b. cond b (closed (history_of ks es)) (rolling (history_of ks es))) f
  stage_at ks es (closed h) e f =
      ap closed e ∙ ap (λ b. cond b (closed (history_of ks es)) (rolling (history_of ks es))) f

  -- the stage of a life is that of its calls and events
  pub life_stage : {ks : List (Call S)} {es : List Event} {rs : List Answer} {s : Stage S}
      → Life sound reach c ks es rs s → s ≡ stage_of ks es
  life_stage {ks} {es} {rs} {s} life =
      stage_at ks es s (life_history sound reach c life) (life_closed sound reach c life)
