-- The slot through a step.
use Rattle.std.proofs.Common.{◌≡◌, ℕ, ◌+◌, ◌-◌, ◌<◌, ◌≤◌, min, Bool, true, false, cond, leb, List, [], ◌∷◌, ◌++◌, map, length, drop, Some, None, Option, sym, refl, ap, ◌∙◌, subst, ap₂, arith, MatchOption}
use native.Mathlib.Nat.{min-eq_left}
use Rattle.std.proofs.lemmas.List.{length_push, length-map, map_push, length-drop, drop-drop, drop-append-le}
use Rattle.std.proofs.lemmas.Bool.{leb-true, leb-false}
use Rattle.terms.specs.Limits.{lamp_length, longest_phrase, longest_take}
use Rattle.terms.specs.Marks.{newest}
use Rattle.terms.specs.Closest.{Closest, Best}
use Rattle.terms.specs.declared.answer.Answer.{Answer}
use Rattle.terms.specs.declared.answer.BestStretch.{BestStretch}
use Rattle.terms.proofs.Bests.{best_by_steps_lem}
use Rattle.readers.specs.Memory.{Memory}
use Rattle.rows.specs.LampRings.{answers, answered}
use Rattle.rows.specs.declared.mark.Mark.{Mark}
use Rattle.finder.specs.Recent.{rings_at}
use Rattle.terms.specs.Bettered.{best_at, better_of}
use Rattle.finder.specs.Turns.{ListenTold, Turned, ReadsOff}
use Rattle.finder.specs.History.{History, stepped, last_step, Answered, gap_and_step, LampList}
use Rattle.finder.specs.Slots.{Tracks, length_of, figure_of, Represents}
use Rattle.finder.specs.declared.slot.Lengths.{Lengths}
use Rattle.finder.specs.declared.slot.Slot.{Slot}
use Rattle.finder.proofs.Ran.{played_push}
use Rattle.finder.proofs.Tracking.{tracks_step, tracks_closest, small_gap}

pub last_push : {A : Type 0} (xs : List A) (x : A) → last_step (xs ++ (x ∷ [])) ≡ Some x
last_push [] x = refl
last_push (y ∷ []) x = refl
last_push (y ∷ (z ∷ zs)) x = last_push (z ∷ zs) x

abbrev BestIs : ℕ → List ℕ → List ℕ → BestStretch → Type 0
BestIs q p t b = Best q p t b.gap b.start b.end

best_step : (q : ℕ) (p t : List ℕ) (y : ℕ) (o : Option BestStretch) (a : Answer) → MatchOption o (t ≡ []) (BestIs q p t) → Closest q p (t ++ (y ∷ [])) a.gap a.start → a.step ≡ length t + 1
    → BestIs q p (t ++ (y ∷ [])) (better_of o a)
best_step q p t y None a b c e = subst (Best q p (t ++ (y ∷ [])) a.gap a.start) (sym e) ((best_by_steps_lem q p t y a.gap a.start c).first_step b)
best_step q p t y (Some b) a k c e = go (leb b.gap a.gap) refl
  where
    go : (v : Bool) → leb b.gap a.gap ≡ v → BestIs q p (t ++ (y ∷ [])) (cond v b (best_at a))
    go true f = (best_by_steps_lem q p t y a.gap a.start c).keeps b.gap b.start b.end k (leb-true b.gap a.gap f)
    go false f =
        subst (Best q p (t ++ (y ∷ [])) a.gap a.start) (sym e)
        ((best_by_steps_lem q p t y a.gap a.start c).falls b.gap b.start b.end k (leb-false b.gap a.gap f))

best_empty : {S : Type 0} (sound : S → ℕ) (q : ℕ) (p : List ℕ) (t : List S) (o : Option BestStretch) → MatchOption o (t ≡ []) (BestIs q p (map sound t)) → MatchOption o (map sound t ≡ []) (BestIs q p (map sound t))
best_empty sound q p t None e = ap (map sound) e
best_empty sound q p t (Some b) e = e

newest_push : {A : Type 0} (n : ℕ) (xs : List A) (y : A) → newest n (newest n xs ++ (y ∷ [])) ≡ newest n (xs ++ (y ∷ []))
newest_push n xs y =
    let k = length xs - n in
    let d = sym (drop-append-le k xs (y ∷ []) (omega arith)) in
    let l = length_push (drop k xs) y in
    let l' = length-drop k xs in
    let l'' = length_push xs y in
    ap (drop (length (newest n xs ++ (y ∷ [])) - n)) d ∙ drop-drop (length (newest n xs ++ (y ∷ [])) - n) k (xs ++ (y ∷ [])) ∙ ap (λ i. drop i (xs ++ (y ∷ []))) (omega arith)

list_step : {S : Type 0} (sound : S → ℕ) (h : History S) (x : S) (a : Answer) (ls ls' : List (ℕ × ℕ)) → LampList sound h ls → Answered sound (stepped h x) a
    → ls' ≡ newest (lamp_length) (ls ++ (gap_and_step a ∷ [])) → LampList sound (stepped h x) ls'
list_step sound h x a ls ls' k t e = record {
  all = k.all ++ (a ∷ []);
  played = played_push sound x a k.played t;
  latest = e ∙ ap (λ zs. newest (lamp_length) (zs ++ (gap_and_step a ∷ []))) k.latest ∙ newest_push (lamp_length) (map gap_and_step k.all) (gap_and_step a)
      ∙ ap (newest (lamp_length)) (sym (map_push gap_and_step k.all a));
}

-- an answer in range goes into the lamp's ring as it is
in_range : (a : Answer) (ls : List (ℕ × ℕ)) → a.gap ≤ longest_phrase → a.step ≤ longest_take
    → answered a.gap a.step ls ≡ newest lamp_length (ls ++ (gap_and_step a ∷ []))
in_range a ls g s =
    let eg : min a.gap longest_phrase ≡ a.gap = min-eq_left g in
    let es : min a.step longest_take ≡ a.step = min-eq_left s in
    ap₂ (λ i j. newest lamp_length (ls ++ ((i, j) ∷ []))) eg es

module _ {S R M : Type 0} (sound : S → ℕ) (memory : R → Memory) (marks : M → List Mark) where
  pub represents_step : (s t : Slot S R M) (l : Lengths) (h : History S) (x : S) (a : Answer) (c n : ℕ)
      → s.lengths ≡ Some l → Represents sound memory marks s h
      → ListenTold (memory s.reader) (sound x) (memory t.reader) c n
      → Turned (marks s.row) s.progress.recent t.progress.count c n (marks t.row) t.progress.recent
      → t.lengths ≡ s.lengths → t.progress.count ≡ s.progress.count + 1 → t.progress.last ≡ Some x
      → ReadsOff l.phrase l.figure t.progress.count (marks t.row) a → t.progress.best ≡ Some (better_of s.progress.best a)
      → answers t.progress.lamp ≡ answered a.gap a.step (answers s.progress.lamp)
      → Answered sound (stepped h x) a × Represents sound memory marks t (stepped h x)
  represents_step s t l h x a c n es k hs turned et ec el off eb ea =
      let p = map sound h.phrase in
      let u = map sound h.take in
      let lp = length-map h.phrase sound in
      let lu = length-map h.take sound in
      let e1 : l.phrase ≡ length h.phrase = sym (ap length_of es) ∙ k.size in
      let e2 : l.figure ≡ h.q = sym (ap figure_of es) ∙ k.figure in
      let from = l.some in
      let to = l.figured in
      let some : 0 < length h.phrase = omega arith in
      let old = k.tracks some in
      let e3 = k.count in
      let both = tracks_step h.q p u (memory s.reader) (memory t.reader) s.progress.recent t.progress.recent (marks s.row) (marks t.row) (sound x) c n t.progress.count
      old k.rings hs turned (omega arith) in
      let tracks = both.0 in
      let lpush = length_push u (sound x) in
      let off' = subst (λ i. ReadsOff l.phrase i t.progress.count (marks t.row) a) e2 off in
      let em' : l.phrase ≡ length p = omega arith in
      let en' : t.progress.count ≡ length (u ++ (sound x ∷ [])) = omega arith in
      let near = tracks_closest h.q p (u ++ (sound x ∷ [])) (memory t.reader) (marks t.row) l.phrase t.progress.count a tracks em' en' off' in
      let small = small_gap h.q p (u ++ (sound x ∷ [])) (memory t.reader) (marks t.row) l.phrase t.progress.count a tracks em' en' off' in
      let e = sym (map_push sound h.take x) in
      let num = off.number in
      let few = t.progress.few in
      let lt = length_push h.take x in
      let best = best_step h.q p u (sound x) s.progress.best a (best_empty sound h.q p h.take s.progress.best k.best) near (omega arith) in
      let told : Answered sound (stepped h x) a = record { number = omega arith; closest = subst (λ z. Closest h.q p z a.gap a.start) e near } in (
        told,
        record {
          size = ap length_of et ∙ k.size;
          figure = ap figure_of et ∙ k.figure;
          count = omega arith;
          last = el ∙ sym (last_push h.take x);
          best = subst (λ o. MatchOption o (h.take ++ (x ∷ []) ≡ []) (BestIs h.q p (map sound (h.take ++ (x ∷ []))))) (sym eb)
              (subst (λ z. BestIs h.q p z (better_of s.progress.best a)) e best);
          lamp = list_step sound h x a (answers s.progress.lamp) (answers t.progress.lamp) k.lamp told (ea ∙ in_range a (answers s.progress.lamp) small (omega arith));
          rings = both.1 ∙ ap (rings_at h.q p) e;
          empty = λ none. absurd (omega arith);
          tracks = λ _. subst (λ z. Tracks h.q p z (memory t.reader) (marks t.row)) e tracks;
        },
      )
