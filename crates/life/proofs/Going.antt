-- One call after another: what holds after some of them, and at the end.
use Rattle.std.proofs.Common.{◌≡◌, ℕ, ◌+◌, ◌-◌, ◌<◌, ◌≤◌, ◌⊎◌, List, ◌++◌, length, get_or, take, drop, set, min, Ok, Err, sym, refl, ap, ◌∙◌, subst, inl, inr, ⊎_elim, append_assoc, arith}
use borrow.Rule.Slice.PartMut.{put_mid}
use Rattle.std.proofs.lemmas.List.{take_at, drop_at, get_or-take, get_or_read_under, take_more, take_more_set, take-set-le, take-append-drop, drop-set-lt, drop-drop, drop-append-le, length-append, length-take-le, length-set, length-drop}
use Rattle.std.proofs.lemmas.Bool.{cases_lt}
use Rattle.terms.specs.declared.answer.Answer.{Answer}
use Rattle.readers.specs.Memory.{Memory}
use Rattle.rows.specs.declared.mark.Mark.{Mark}
use Rattle.finder.specs.History.{unloaded}
use Rattle.life.specs.Readings.{Event, given, RecordsTold, used, records_used_lem}
use Rattle.life.specs.Outcomes.{Stage, rolling, Life, new, more}
use Rattle.life.specs.Promises.{Stands, MakeTold, PerformTold}
use Rattle.life.specs.declared.calls.Call.{Call}
use Rattle.life.specs.declared.calls.Call.TheVariants.{Clear}
use Rattle.life.specs.declared.calls.Done.TheVariants.{Loaded, Answered, Ran, Cleared, Closed, Reopened}
use Rattle.life.specs.declared.calls.Take.{Take}
use Rattle.life.proofs.Growing.{LawOf, grown}
use Rattle.life.proofs.Obeying.{outcome_records, life_even, life_records, life_law}
use Rattle.life.proofs.Standing.{life_stage}

used_le : (n : ℕ) (e : Event) → used n e ≤ n
used_le n (Ok Loaded) = omega arith
used_le n (Ok (Answered a)) = omega arith
used_le n (Ok Ran) = omega arith
used_le n (Ok Cleared) = omega arith
used_le n (Ok (Closed o)) = omega arith
used_le n (Ok Reopened) = omega arith
used_le n (Err t) = omega arith

-- a part of a list, of which the front is written over by bs
module _ {A : Type 0} (a n : ℕ) (ts bs : List A) (within : a + n ≤ length ts) (fits : length bs ≤ n) where
  abbrev part : List A
  part = take n (drop a ts)

  abbrev written : List A
  written = put_mid a n ts (bs ++ drop (length bs) part)

  part_long : length part ≡ n
  part_long = let le : n ≤ length (drop a ts) = omega (arith, length-drop a ts) in length-take-le n (drop a ts) le

  front_long : length (take a ts ++ bs) ≡ a + length bs
  front_long =
      let le : a ≤ length ts = omega arith in
      omega (arith, length-append (take a ts) bs, length-take-le a ts le)

  split : written ≡ (take a ts ++ bs) ++ drop (length bs) (drop a ts)
  split =
      let le : length bs ≤ length part = omega (arith, part_long) in
      let back : drop (length bs) part ++ drop n (drop a ts) ≡ drop (length bs) (drop a ts) =
      sym (drop-append-le (length bs) part (drop n (drop a ts)) le)
      ∙ ap (drop (length bs)) (take-append-drop n (drop a ts)) in
      ap (λ z. take a ts ++ z) (append_assoc bs (drop (length bs) part) (drop n (drop a ts)) ∙ ap (λ z. bs ++ z) back)
      ∙ sym (append_assoc (take a ts) bs (drop (length bs) (drop a ts)))

  written_front : take (a + length bs) written ≡ take a ts ++ bs
  written_front =
      ap (take (a + length bs)) split
      ∙ take_at (take a ts ++ bs) (drop (length bs) (drop a ts)) (a + length bs) front_long

  written_behind : drop (a + length bs) written ≡ drop (a + length bs) ts
  written_behind = ap (drop (a + length bs)) split
      ∙ drop_at (take a ts ++ bs) (drop (length bs) (drop a ts)) (a + length bs) front_long ∙ drop-drop (length bs) a ts

  written_long : length written ≡ length ts
  written_long =
      omega (
        arith,
        ap length split,
        length-append (take a ts ++ bs) (drop (length bs) (drop a ts)),
        front_long,
        length-drop (length bs) (drop a ts),
        length-drop a ts,
      )

module _ {S R M : Type 0} (sound : S → ℕ) (memory : R → Memory) (marks : M → List Mark) (reach c : ℕ) where
  -- after made of the calls
  pub record Going (calls : List (Call S)) (es : List Event) (rs : List Answer) (t : Take S R M)
      (made recorded : ℕ) (fs : List Event) (ts : List Answer) : Type 0 where
    pub stage : Stage S
    pub life : Life sound reach c (take made calls) (take made fs) (take recorded ts) stage
    pub stands : Stands sound memory marks t stage
    pub of_calls : made ≤ length calls
    pub of_events : made ≤ length fs
    pub of_records : recorded ≤ length ts
    pub events_behind : drop made fs ≡ drop made es
    pub records_behind : drop recorded ts ≡ drop recorded rs
    pub room : (i : ℕ) → i < made → records_used_lem (take i calls) (take i fs) + given (get_or calls i Clear) ≤ length ts

-- a turn is within the calls for which there is room
pub turn_within : {A : Type 0} (calls : List A) {made room : ℕ} → room ≤ length calls → made < length (take room calls)
    → (made < length calls) × (made < room)
turn_within calls {made} {room} le lt =
    let long = length-take-le room calls le in
    let below : made < room = omega arith in (omega arith, below)

-- the call of a turn, as it is read off the calls, and as the loop over those for which there is room hands it out
pub call_read : {S : Type 0} (calls : List (Call S)) (made : ℕ) (k : Call S) → made < length calls
    → k ≡ get_or calls made k → k ≡ get_or calls made Clear
call_read calls made k here same = get_or_read_under calls made (length calls) k Clear same here refl

pub call_handed : {S : Type 0} (calls : List (Call S)) (made room : ℕ) (k : Call S) → made < length calls → made < room
    → k ≡ get_or (take room calls) made k → k ≡ get_or calls made Clear
call_handed calls made room k here below same =
    call_read calls made k here (same ∙ get_or-take room calls made k below)

module _ {S R M : Type 0} {sound : S → ℕ} {memory : R → Memory} {marks : M → List Mark} {reach c : ℕ} where
  pub begun : {calls : List (Call S)} {es : List Event} {rs : List Answer} {t : Take S R M}
      → Stands sound memory marks t (rolling unloaded) → Going sound memory marks reach c calls es rs t 0 0 es rs
  begun st = record {
    stage = rolling unloaded;
    life = new;
    stands = st;
    of_calls = omega arith;
    of_events = omega arith;
    of_records = omega arith;
    events_behind = refl;
    records_behind = refl;
    room = λ i l. absurd (omega arith);
  }

  used_up : {calls : List (Call S)} {es : List Event} {rs : List Answer} {t : Take S R M} {made recorded : ℕ}
      {fs : List Event} {ts : List Answer} → Going sound memory marks reach c calls es rs t made recorded fs ts
      → recorded ≡ records_used_lem (take made calls) (take made fs)
  used_up {recorded = recorded} {ts = ts} go =
      sym (length-take-le recorded ts go.of_records) ∙ life_records sound reach c go.life

  -- one call more
  one_more : (calls : List (Call S)) (es : List Event) (rs : List Answer) (t : Take S R M) (made recorded : ℕ)
      (fs : List Event) (ts : List Answer) → Going sound memory marks reach c calls es rs t made recorded fs ts
      → (n : ℕ) (v : Take S R M) (e : Event) (after : List Answer)
      → made < length calls → made < length fs → n ≡ given (get_or calls made Clear) → recorded + n ≤ length ts
      → MakeTold sound memory marks reach c t (get_or calls made Clear) (take n (drop recorded ts)) (v, e) after
      → Going sound memory marks reach c calls es rs v (made + 1) (recorded + used n e) (set fs made e) (put_mid recorded n ts after)
  one_more calls es rs t made recorded fs ts go n v e after in_calls in_events lent fits told =
      let d = told.exact go.stage go.stands in
      let bs = d.1 in
      let long : length bs ≡ used n e = outcome_records sound reach c d.2 ∙ ap (λ m. used m e) (sym lent) in
      let le : length bs ≤ n = omega (arith, used_le n e) in
      let ts' = put_mid recorded n ts after in
      let same : ts' ≡ put_mid recorded n ts (bs ++ drop (length bs) (take n (drop recorded ts))) =
      ap (put_mid recorded n ts) d.4 in
      let long_calls = take_more calls made Clear in_calls in
      let long_events = take_more_set fs made e in_events in
      let front : take (recorded + used n e) ts' ≡ take recorded ts ++ bs =
      ap (λ m. take (recorded + m) ts') (sym long) ∙ ap (take (recorded + length bs)) same
      ∙ written_front recorded n ts bs fits le in
      let behind : drop (recorded + used n e) ts' ≡ drop (recorded + used n e) ts =
      ap (λ m. drop (recorded + m) ts') (sym long) ∙ ap (drop (recorded + length bs)) same
      ∙ written_behind recorded n ts bs fits le ∙ ap (λ m. drop (recorded + m) ts) long in
      let as_long : length ts' ≡ length ts = ap length same ∙ written_long recorded n ts bs fits le in
      let up = used_up go in
      record {
        stage = d.0;
        life = subst (λ (p : List (Call S) × List Event × List Answer). Life sound reach c p.0 p.1 p.2 d.0)
            (λ i. (sym long_calls i, sym long_events i, sym front i)) (more go.life d.2);
        stands = d.3;
        of_calls = omega arith;
        of_events = omega (arith, length-set fs made e);
        of_records = omega (arith, used_le n e, as_long);
        events_behind =
            drop-set-lt (made + 1) fs made e (omega arith) ∙ sym (drop-drop 1 made fs) ∙ ap (drop 1) go.events_behind
            ∙ drop-drop 1 made es;
        records_behind =
            behind ∙ sym (drop-drop (used n e) recorded ts) ∙ ap (drop (used n e)) go.records_behind
            ∙ drop-drop (used n e) recorded rs;
        room = λ i l.
            let le : i ≤ made = omega arith in
            let still : take i (set fs made e) ≡ take i fs = take-set-le i fs made e le in
            subst (λ (p : List Event × ℕ). records_used_lem (take i calls) p.0 + given (get_or calls i Clear) ≤ p.1)
            (λ j. (sym still j, sym as_long j))
            (⊎_elim (λ lt. go.room i lt)
            (λ ge. let here : made ≡ i = omega arith in
            subst (λ k. records_used_lem (take k calls) (take k fs) + given (get_or calls k Clear) ≤ length ts) here
            (omega arith))
            (cases_lt i made));
      }

  -- the same, as the code has it
  pub one_call : {calls : List (Call S)} {es : List Event} {rs : List Answer} {t : Take S R M} {made recorded : ℕ}
      {fs : List Event} {ts : List Answer} {n u : ℕ} {k : Call S} {v : Take S R M} {e : Event}
      {after : List Answer} → Going sound memory marks reach c calls es rs t made recorded fs ts
      → made < length calls → made < length fs
      → RecordsTold k n → k ≡ get_or calls made Clear → n ≤ length ts - recorded → u ≡ used (given k) e
      → MakeTold sound memory marks reach c t k (take (recorded + n - recorded) (drop recorded ts)) (v, e) after
      → Going sound memory marks reach c calls es rs v (made + 1) (recorded + u) (set fs made e)
      (put_mid recorded (recorded + n - recorded) ts after)
  one_call {calls} {es} {rs} {t} {made} {recorded} {fs} {ts} {n} {u} {k} {v} {e} {after}
      go in_calls in_events told_n is fits up told =
      let lent = told_n.exact in
      let same_n : recorded + n - recorded ≡ n = omega arith in
      let in_records : recorded + n ≤ length ts = omega (arith, go.of_records) in
      subst (λ (p : ℕ × ℕ).
      Going sound memory marks reach c calls es rs v (made + 1) (recorded + p.0) (set fs made e)
      (put_mid recorded p.1 ts after))
      (λ i. (sym (up ∙ ap (λ m. used m e) (sym lent)) i, sym same_n i))
      (one_more calls es rs t made recorded fs ts go n v e after in_calls in_events (lent ∙ ap given is) in_records
      (subst (λ (p : Call S × ℕ).
      MakeTold sound memory marks reach c t p.0 (take p.1 (drop recorded ts)) (v, e) after)
      (λ i. (is i, same_n i)) told))

  -- the end
  ended : {calls : List (Call S)} {es : List Event} {rs : List Answer} {t : Take S R M} {made recorded : ℕ}
      {fs : List Event} {ts : List Answer} → Going sound memory marks reach c calls es rs t made recorded fs ts
      → (made < length calls → (length fs ≤ made) ⊎ (length ts - recorded < given (get_or calls made Clear)))
      → PerformTold sound memory marks reach c calls es rs (record { take = t; made = made; recorded = recorded }) fs ts
  ended {calls} {es} {rs} {t} {made} {recorded} {fs} {ts} go stop =
      let life = go.life in
      let is = life_stage sound reach c life in
      let n : length (take made calls) ≡ made = length-take-le made calls go.of_calls in
      record {
        of_calls = go.of_calls;
        of_events = go.of_events;
        of_records = go.of_records;
        counted = used_up go;
        events_behind = go.events_behind;
        records_behind = go.records_behind;
        life = subst (Life sound reach c (take made calls) (take made fs) (take recorded ts)) is life;
        law = λ i l.
            let lt : i < length (take made calls) = omega arith in
            subst (λ (p : List (Call S) × List Event × List Answer). LawOf sound reach c p.0 p.1 p.2 i)
            (λ j. (take-append-drop made calls j, take-append-drop made fs j, take-append-drop recorded ts j))
            (grown sound reach c (take made calls) (drop made calls) (take made fs) (drop made fs)
            (take recorded ts) (drop recorded ts) i lt (life_even sound reach c life)
            (life_records sound reach c life) (life_law sound reach c life i lt));
        stands = subst (Stands sound memory marks t) is go.stands;
        stopped = λ l. ⊎_elim (λ a. inl a) (λ b. inr (omega (arith, go.of_records))) (stop l);
        room = go.room;
      }

  -- for want of room for a run's records
  pub stopped : {calls : List (Call S)} {es : List Event} {rs : List Answer} {t : Take S R M} {made recorded : ℕ}
      {fs : List Event} {ts : List Answer} {n : ℕ} {k : Call S}
      → Going sound memory marks reach c calls es rs t made recorded fs ts
      → RecordsTold k n → k ≡ get_or calls made Clear → length ts - recorded < n
      → PerformTold sound memory marks reach c calls es rs (record { take = t; made = made; recorded = recorded }) fs ts
  stopped go lent is short =
      let same = lent.exact ∙ ap given is in
      ended go (λ l. inr (omega (arith, same)))

  -- or as all are made for which there are calls and events
  pub all_made : {calls : List (Call S)} {es : List Event} {rs : List Answer} {t : Take S R M} {made recorded : ℕ}
      {fs : List Event} {ts : List Answer} {room : ℕ}
      → Going sound memory marks reach c calls es rs t made recorded fs ts
      → room ≡ min (length calls) (length fs) → length (take room calls) ≤ made → made ≤ length (take room calls)
      → PerformTold sound memory marks reach c calls es rs (record { take = t; made = room; recorded = recorded }) fs ts
  all_made {calls} {es} {rs} {t} {made} {recorded} {fs} {ts} {room} go is ge le =
      let within : room ≤ length calls = omega arith in
      let long = length-take-le room calls within in
      let same : made ≡ room = omega arith in
      ended (subst (λ m. Going sound memory marks reach c calls es rs t m recorded fs ts) same go)
      (λ l. inl (omega arith))
