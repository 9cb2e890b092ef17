-- New slots, loads and clearings.
use Rattle.std.proofs.Common.{◌≡◌, ℕ, zero, suc, ◌+◌, ◌-◌, ◌*◌, ◌<◌, ◌≤◌, List, [], map, length, replicate, Some, None, sym, refl, ap, ◌∙◌, subst, arith, MatchOption}
use Rattle.std.proofs.lemmas.List.{length-map}
use Rattle.terms.specs.Limits.{longest_phrase}
use Rattle.terms.specs.Closest.{Best}
use Rattle.terms.specs.Figures.{figures, different}
use Rattle.terms.specs.Codes.{count_of, count_at}
use Rattle.readers.specs.Memory.{Memory, nothing, held, counted, forgotten}
use Rattle.rows.specs.declared.mark.Mark.{Mark}
use Rattle.rows.specs.declared.mark.Mark.TheVariants.{Plus}
use Rattle.finder.specs.Recent.{before, laid, emptied}
use Rattle.finder.specs.Turns.{Fresh, Begun, StartedOver}
use Rattle.finder.specs.History.{History, unloaded, loaded, cleared, none}
use Rattle.finder.specs.Slots.{width, length_of, figure_of, Represents}
use Rattle.finder.specs.declared.slot.Lengths.{Lengths}
use Rattle.finder.specs.declared.slot.Slot.{Slot}
use Rattle.finder.proofs.Counted.{before_few}
use Rattle.finder.proofs.Recalling.{rings_start, rings_emptied}
use Rattle.finder.proofs.Tracking.{tracks_start}

-- no code has a ring where there is no phrase
no_counts : (n : ℕ) → 0 ≡ count_of (figures 0 []) n
unfolding count_of count_at figures different
no_counts zero = refl
no_counts (suc n) = refl

before_nothing : (n : ℕ) → before (λ _. 0) n ≡ 0
unfolding before
before_nothing zero = refl
before_nothing (suc n) = let a = before_nothing n in omega arith

module _ {S R M : Type 0} (sound : S → ℕ) (memory : R → Memory) (marks : M → List Mark) where
  pub represents_unloaded : (s : Slot S R M) → s.lengths ≡ None → memory s.reader ≡ nothing → marks s.row ≡ [] → Fresh (memory s.reader) s.progress
      → Represents sound memory marks s unloaded
  represents_unloaded s el em er f =
      let counts : counted (memory s.reader) ≡ (λ _. 0) = ap counted em in
      let none_left = sym (ap (λ f. before f longest_phrase) counts) in
      record {
        size = ap length_of el;
        figure = ap figure_of el;
        count = f.count;
        last = f.last;
        best = subst (λ o. MatchOption o (◌≡◌ {A = List S} [] []) (λ x. Best 0 [] [] x.gap x.start x.end)) (sym f.best) refl;
        lamp = record { all = []; played = none; latest = f.lamp };
        rings = f.rings (omega (arith, before_nothing longest_phrase)) ∙ ap laid (counts ∙ (λ i n. no_counts n i)) ∙ sym (rings_start 0 []);
        empty = λ _. (em, er, refl);
        tracks = λ some. absurd (omega arith);
      }

  -- a slot whose take starts anew
  pub represents_begun : (s t : Slot S R M) (l : Lengths) (ps : List S) (q : ℕ) → Begun sound memory marks s l t
      → l.phrase ≡ length ps → l.figure ≡ q
      → memory s.reader ≡ held (map sound ps) q []
      → (before (counted (memory s.reader)) longest_phrase ≤ longest_phrase → s.progress.recent ≡ laid (counted (memory s.reader)))
      → Represents sound memory marks t (loaded ps q)
  represents_begun s t l ps q b em eq em' er =
      let n = length-map ps sound in
      let from : 1 ≤ q = omega (arith, l.some) in
      let to = l.figured in
      let short = l.short in
      let bound = subst (λ m. before (counted m) longest_phrase ≤ longest_phrase) (sym em') (before_few q (map sound ps) longest_phrase from (omega arith)) in
      let ww : 2 * (l.phrase - l.figure + 1) ≡ width q (map sound ps) = ap (λ i. 2 * i) (omega arith) in
      record {
        size = ap length_of b.lengths ∙ em;
        figure = ap figure_of b.lengths ∙ eq;
        count = b.count;
        last = b.last;
        best = subst (λ o. MatchOption o (◌≡◌ {A = List S} [] []) (λ x. Best q (map sound ps) [] x.gap x.start x.end)) (sym b.best) refl;
        lamp = record { all = []; played = none; latest = b.lamp };
        rings = b.rings ∙ er bound ∙ ap (λ m. laid (counted m)) em' ∙ sym (rings_start q (map sound ps));
        empty = λ e. absurd (omega arith);
        tracks = λ _. tracks_start q (map sound ps) (memory t.reader) (marks t.row) from (omega arith) (omega arith)
            (ap memory b.reader ∙ em') (b.row ∙ ap (λ i. replicate i Plus) ww);
      }

  forgets : {m : Memory} {p e : List ℕ} {q : ℕ} → m ≡ held p q e → forgotten m ≡ held p q []
  forgets k = ap forgotten k

  -- s is cleared to t by way of u, whose reader has forgotten and whose rings are empty
  represents_cleared : (s u t : Slot S R M) (l : Lengths) (h : History S) → Represents sound memory marks s h → s.lengths ≡ Some l
      → memory u.reader ≡ forgotten (memory s.reader) → u.progress.recent ≡ emptied s.progress.recent
      → Begun sound memory marks u l t → Represents sound memory marks t (cleared h)
  represents_cleared s u t l h k es em er b =
      let e1 : l.phrase ≡ length h.phrase = sym (ap length_of es) ∙ k.size in
      let some : 0 < length h.phrase = omega (arith, l.some, l.figured) in
      let holds : memory u.reader ≡ held (map sound h.phrase) h.q [] = em ∙ forgets (k.tracks some).remembers.1 in
      let rings = er ∙ ap emptied k.rings ∙ rings_emptied h.q (map sound h.phrase) (map sound h.take) in
      represents_begun u t l h.phrase h.q b e1 (sym (ap figure_of es) ∙ k.figure) holds
      (λ _. rings ∙ sym (ap (λ m. laid (counted m)) holds))

  pub started_over : (s u t : Slot S R M) (l : Lengths) → Begun sound memory marks u l t
      → memory u.reader ≡ forgotten (memory s.reader) → u.progress.recent ≡ emptied s.progress.recent
      → StartedOver sound memory marks s l t
  started_over s u t l b em er = record { exact = λ h k es. represents_cleared s u t l h k es em er b }

-- a slot with its reader put back is the slot
pub back : {S R M : Type 0} (s : Slot S R M) (r : R) → r ≡ s.reader → ◌≡◌ {A = Slot S R M} record { reader = r; row = s.row; lengths = s.lengths; progress = s.progress } s
back s r e = ap (λ z. record { reader = z; row = s.row; lengths = s.lengths; progress = s.progress }) e
