-- Every life keeps the law.
use Rattle.std.proofs.Common.{◌≡◌, ℕ, zero, suc, ◌+◌, ◌<◌, ◌≤◌, Bool, true, false, cond, List, [], ◌∷◌, ◌++◌, map, length, get_or, take, drop, Some, None, Option, is_ok, Ok, Err, sym, refl, ap, ◌∙◌, subst, ⊎_elim, append_assoc, arith}
use Rattle.std.specs.Option.{unwrap_or}
use Rattle.std.proofs.lemmas.List.{take_at, take_all, drop_at, get_or_push, length-append, length_push}
use Rattle.std.proofs.lemmas.Bool.{true≢false, cases_lt}
use Rattle.std.proofs.lemmas.Bool.Decides.{nat_tests}
use Rattle.terms.specs.Refusals.{run_refusal}
use Rattle.terms.specs.declared.answer.Answer.{Answer}
use Rattle.terms.specs.declared.answer.BestStretch.{BestStretch}
use Rattle.terms.specs.declared.refusal.Refusal.{Refusal}
use Rattle.finder.specs.History.{History, ran, Answered, Played, none, BestOf}
use Rattle.finder.specs.History as at
use Rattle.life.specs.Readings.{Event, closing_of, history_of, closed_of, given, used, records_used_lem, done}
use Rattle.life.specs.Outcomes.{Stage, rolling, closed, belongs, Outcome, load_accepted, load_refused, step_accepted}
use Rattle.life.specs.Outcomes.{step_refused, run_accepted, run_refused_lem, clearing, closing, reopening}
use Rattle.life.specs.Outcomes.{not_closed, not_rolling, Life, new, more}
use Rattle.life.specs.Laws.{blank, refused_by, Tells, LawAt, Law}
use Rattle.life.specs.declared.calls.Call.{Call}
use Rattle.life.specs.declared.calls.Call.TheVariants.{Clear}
use Rattle.life.specs.declared.calls.Done.{Done}
use Rattle.life.specs.declared.calls.Turned.TheVariants.{Refused, OutOfPlace}
use Rattle.life.proofs.Pushing.{call_by_call_lem, history_push, closed_push, used_push}
use Rattle.life.proofs.Growing.{LawOf, moved, grown}

abbrev pub at_stage : {S : Type 0} → Stage S → History S
at_stage (rolling h) = h
at_stage (closed h) = h

abbrev pub shut : {S : Type 0} → Stage S → Bool
shut (rolling h) = false
shut (closed h) = true

-- a run that is not refused has as many records as steps
even : (m n k r : ℕ) → run_refusal m n k r ≡ None → k ≡ r
even m n k r h = grind (arith, nat_tests)

module _ {S : Type 0} (sound : S → ℕ) where
  played_length : {h : History S} {xs : List S} {bs : List Answer} → Played sound h xs bs → length bs ≡ length xs
  played_length none = refl
  played_length (at.more a rest) = ap suc (played_length rest)

  -- each step of a run is answered at its point of the take
  answered : {h : History S} {xs : List S} {bs : List Answer} → Played sound h xs bs
      → (j : ℕ) → j < length xs → Answered sound (ran h (take (j + 1) xs)) (get_or bs j blank)
  answered none j l = absurd (omega arith)
  answered (at.more {x = x} {xs = xs} a rest) zero l = a
  answered {h} (at.more {x = x} {xs = xs} {a = b} {bs = bs} a rest) (suc j) l =
      let lt : j < length xs = omega arith in
      let e : suc j + 1 ≡ suc (j + 1) = omega arith in
      let f = append_assoc h.take (x ∷ []) (take (j + 1) xs)
      ∙ ap (λ n. h.take ++ take n (x ∷ xs)) (sym e) in
      subst (λ t. Answered sound (record { phrase = h.phrase; q = h.q; take = t }) (get_or bs j blank)) f
      (answered rest j lt)

  -- a take without a step has no best
  no_best : (h : History S) (o : Option BestStretch) → BestOf sound h o → h.take ≡ [] → o ≡ None
  no_best h None b e = refl
  no_best h (Some s) b e =
      let n : length (map sound h.take) ≡ 0 = ap (λ t. length (map sound t)) e in absurd (omega (arith, b.a_step))

module _ {S : Type 0} (sound : S → ℕ) (reach c : ℕ) where
  out_of_place : (h : History S) (b : Bool) (k : Call S) → belongs b k ≡ false
      → LawAt sound reach c h b k (Err OutOfPlace) [] h b
  out_of_place h b k n = record {
    out_of_place = λ _. refl;
    refused = λ r y _. absurd (true≢false (sym y ∙ n));
    accepts = λ y _. absurd (true≢false (sym y ∙ n));
    only_out_of_place = λ _. n;
    only_refused = λ r e. let z : ◌≡◌ {A = ℕ} 0 1 = cc in absurd (omega arith);
    only_accepts = λ y. absurd (true≢false (sym y));
    alters_nothing = λ _. (refl, refl, refl);
  }

  turned_away : (h : History S) (b : Bool) (k : Call S) (r : Refusal)
      → belongs b k ≡ true → refused_by sound reach c h k ≡ Some r
      → LawAt sound reach c h b k (Err (Refused r)) [] h b
  turned_away h b k r y n = record {
    out_of_place = λ o. absurd (true≢false (sym y ∙ o));
    refused = λ r' _ n'. let e : r ≡ r' = cc in cc;
    accepts = λ _ n'. let z : ◌≡◌ {A = ℕ} 0 1 = cc in absurd (omega arith);
    only_out_of_place = λ e. let z : ◌≡◌ {A = ℕ} 0 1 = cc in absurd (omega arith);
    only_refused = λ r' e. (y, let f : r ≡ r' = cc in n ∙ ap Some f);
    only_accepts = λ a. absurd (true≢false (sym a));
    alters_nothing = λ _. (refl, refl, refl);
  }

  let_in : (h : History S) (b : Bool) (k : Call S) (d : Done) (bs : List Answer) (g : History S) (shut_then : Bool)
      → belongs b k ≡ true → refused_by sound reach c h k ≡ None → Tells sound reach c h k d bs
      → LawAt sound reach c h b k (Ok d) bs g shut_then
  let_in h b k d bs g shut_then y n right = record {
    out_of_place = λ o. absurd (true≢false (sym y ∙ o));
    refused = λ r _ n'. let z : ◌≡◌ {A = ℕ} 0 1 = cc in absurd (omega arith);
    accepts = λ _ _. right;
    only_out_of_place = λ f. let z : ◌≡◌ {A = ℕ} 0 1 = cc in absurd (omega arith);
    only_refused = λ r f. let z : ◌≡◌ {A = ℕ} 0 1 = cc in absurd (omega arith);
    only_accepts = λ _. (y, n);
    alters_nothing = λ f. absurd (true≢false (sym f));
  }

  -- one call
  outcome_law : {s t : Stage S} {k : Call S} {e : Event} {bs : List Answer} → Outcome sound reach c s k e bs t
      → LawAt sound reach c (at_stage s) (shut s) k e bs (at_stage t) (shut t)
  outcome_law (load_accepted n) = let_in _ _ _ _ _ _ _ refl n refl
  outcome_law (load_refused n) = turned_away _ _ _ _ refl n
  outcome_law (step_accepted {a = a} n right) = let_in _ _ _ _ _ _ _ refl n (a, refl, right)
  outcome_law (step_refused n) = turned_away _ _ _ _ refl n
  outcome_law (run_accepted n right) =
      let_in _ _ _ _ _ _ _ refl n (refl, played_length sound right, answered sound right)
  outcome_law (run_refused_lem n) = turned_away _ _ _ _ refl n
  outcome_law clearing = let_in _ _ _ _ _ _ _ refl refl refl
  outcome_law (closing {h = h} {o = o} right) =
      let_in _ _ _ _ _ _ _ refl refl (o, refl, right, no_best sound h o right)
  outcome_law reopening = let_in _ _ _ _ _ _ _ refl refl refl
  outcome_law (not_closed n) = out_of_place _ _ _ n
  outcome_law (not_rolling n) = out_of_place _ _ _ n

  -- the history and the closing after it, and how many records it uses up
  outcome_reads : {s t : Stage S} {k : Call S} {e : Event} {bs : List Answer} → Outcome sound reach c s k e bs t
      → (at_stage t ≡ cond (is_ok e) (done (at_stage s) k) (at_stage s))
      × (shut t ≡ cond (is_ok e) (unwrap_or (closing_of k) (shut s)) (shut s)) × (length bs ≡ used (given k) e)
  outcome_reads (load_accepted n) = (refl, refl, refl)
  outcome_reads (load_refused n) = (refl, refl, refl)
  outcome_reads (step_accepted n right) = (refl, refl, refl)
  outcome_reads (step_refused n) = (refl, refl, refl)
  outcome_reads (run_accepted {h = h} {p = p} {n = m} n right) =
      (refl, refl, played_length sound right ∙ even (length h.phrase) (length h.take) (length p.now) m n)
  outcome_reads (run_refused_lem n) = (refl, refl, refl)
  outcome_reads clearing = (refl, refl, refl)
  outcome_reads (closing right) = (refl, refl, refl)
  outcome_reads reopening = (refl, refl, refl)
  outcome_reads (not_closed n) = (refl, refl, refl)
  outcome_reads (not_rolling n) = (refl, refl, refl)

  pub outcome_records : {s t : Stage S} {k : Call S} {e : Event} {bs : List Answer} → Outcome sound reach c s k e bs t
      → length bs ≡ used (given k) e
  outcome_records o = (outcome_reads o).2

  -- a whole life
  pub life_even : {ks : List (Call S)} {es : List Event} {rs : List Answer} {s : Stage S}
      → Life sound reach c ks es rs s → length ks ≡ length es
  life_even new = refl
  life_even (more {ks = ks} {es = es} {k = k} {e = e} life o) =
      let h = life_even life in omega (arith, length_push ks k, length_push es e)

  unused : 0 ≡ records_used_lem {S = S} [] []
  unfolding records_used_lem
  unused = refl

  pub life_records : {ks : List (Call S)} {es : List Event} {rs : List Answer} {s : Stage S}
      → Life sound reach c ks es rs s → length rs ≡ records_used_lem ks es
  life_records new = unused
  life_records (more {ks = ks} {es = es} {rs = rs} {k = k} {e = e} {bs = bs} life o) =
      let h = life_records life in
      let u = outcome_records o in
      omega (arith, length-append rs bs, used_push ks es k e (life_even life))

  pub life_history : {ks : List (Call S)} {es : List Event} {rs : List Answer} {s : Stage S}
      → Life sound reach c ks es rs s → at_stage s ≡ history_of ks es
  life_history new = sym (call_by_call_lem S).history_at_first
  life_history (more {ks = ks} {es = es} {k = k} {e = e} life o) =
      (outcome_reads o).0 ∙ ap (λ h. cond (is_ok e) (done h k) h) (life_history life)
      ∙ sym (history_push ks es k e (life_even life))

  pub life_closed : {ks : List (Call S)} {es : List Event} {rs : List Answer} {s : Stage S}
      → Life sound reach c ks es rs s → shut s ≡ closed_of ks es
  life_closed new = sym (call_by_call_lem S).rolling_at_first
  life_closed (more {ks = ks} {es = es} {k = k} {e = e} life o) =
      (outcome_reads o).1 ∙ ap (λ b. cond (is_ok e) (unwrap_or (closing_of k) b) b) (life_closed life)
      ∙ sym (closed_push ks es k e (life_even life))

  -- the newest call
  newest : {ks : List (Call S)} {es : List Event} {rs : List Answer} {s t : Stage S}
      {k : Call S} {e : Event} {bs : List Answer}
      → Life sound reach c ks es rs s → Outcome sound reach c s k e bs t
      → LawOf sound reach c (ks ++ (k ∷ [])) (es ++ (e ∷ [])) (rs ++ bs) (length ks)
  newest {ks} {es} {rs} {s} {t} {k} {e} {bs} life o =
      let even = life_even life in
      let all = more life o in
      let k₀ = sym (take_at ks (k ∷ []) (length ks) refl) in
      let e₀ = sym (take_at es (e ∷ []) (length ks) (sym even)) in
      let long : length (ks ++ (k ∷ [])) ≤ length ks + 1 = omega (arith, length_push ks k) in
      let long' : length (es ++ (e ∷ [])) ≤ length ks + 1 = omega (arith, length_push es e) in
      let k₁ = sym (take_all (length ks + 1) (ks ++ (k ∷ [])) long) in
      let e₁ = sym (take_all (length ks + 1) (es ++ (e ∷ [])) long') in
      let kᵢ = sym (get_or_push ks k Clear (length ks) refl) in
      let eᵢ = sym (get_or_push es e (Err OutOfPlace) (length ks) (sym even)) in
      let u = outcome_records o in
      let fits : length bs ≤ used (given k) e = omega arith in
      let part = sym (take_all (used (given k) e) bs fits)
      ∙ ap (take (used (given k) e)) (sym (drop_at rs bs (records_used_lem ks es) (life_records life))) in
      moved sound reach c
      (life_history life ∙ (λ j. history_of (k₀ j) (e₀ j))) (life_closed life ∙ (λ j. closed_of (k₀ j) (e₀ j))) kᵢ eᵢ
      (part ∙ (λ j. take (used (given (kᵢ j)) (eᵢ j)) (drop (records_used_lem (k₀ j) (e₀ j)) (rs ++ bs))))
      (life_history all ∙ (λ j. history_of (k₁ j) (e₁ j))) (life_closed all ∙ (λ j. closed_of (k₁ j) (e₁ j)))
      (outcome_law o)

  pub life_law : {ks : List (Call S)} {es : List Event} {rs : List Answer} {s : Stage S}
      → Life sound reach c ks es rs s → Law sound reach c ks es rs (length ks)
  life_law new i l = absurd (omega arith)
  life_law (more {ks = ks} {es = es} {rs = rs} {k = k} {e = e} {bs = bs} life o) i l =
      ⊎_elim
      (λ lt. grown sound reach c ks (k ∷ []) es (e ∷ []) rs bs i lt
      (life_even life) (life_records life) (life_law life i lt))
      (λ ge. let same : length ks ≡ i = omega (arith, length_push ks k) in
      subst (LawOf sound reach c (ks ++ (k ∷ [])) (es ++ (e ∷ [])) (rs ++ bs)) same (newest life o))
      (cases_lt i (length ks))
