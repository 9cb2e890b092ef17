-- The walk back: its start, a step of it, and that it finds the closest stretch where it goes far enough.
use Rattle.std.proofs.Common.{◌≡◌, ℕ, ◌+◌, ◌-◌, ◌*◌, ◌<◌, ◌≤◌, Bool, true, false, cond, leb, List, [], length, take, drop, sym, refl, ap, ◌∙◌, subst, inl, inr, arith}
use lib.Seq.{take-length}
use Rattle.std.proofs.lemmas.List.{length-drop, take_rest}
use Rattle.std.proofs.lemmas.Bool.{cases_lt, leb-true, leb-false}
use Rattle.std.proofs.lemmas.Bool.Decides.{nat_tests}
use Rattle.terms.specs.Figures.{gap}
use Rattle.terms.specs.Closest.{Closest}
use Rattle.terms.proofs.Counts.{gap_far}
use Rattle.terms.proofs.Runs.{length_figures}
use Rattle.direct.specs.declared.back.Nearest.{Nearest}
use Rattle.direct.specs.Walks.{NearestFrom, nearer}
use Rattle.direct.proofs.Older.{gap_end, gap_none}

-- the nearer of the nearest so far and an earlier start: the earlier one unless its gap is larger
nearer_is : (r : Nearest) (d i : ℕ) → i < r.from
    → nearer r (record { gap = d; from = i }) ≡ cond (leb d r.gap) (record { gap = d; from = i }) r
nearer_is r d i h = grind (arith, nat_tests)

module _ (q : ℕ) (phrase t : List ℕ) where
  pub walk_start : (d : ℕ) → d ≡ gap q phrase [] → NearestFrom q phrase t (length t) (record { gap = d; from = length t })
  walk_start d e =
      let k = gap_end q phrase t in
      record {
        after_low = omega arith;
        to_end = omega arith;
        has_gap = k ∙ sym e;
        least = λ a l m. let f : a ≡ length t = omega arith in omega (arith, ap (λ n. gap q phrase (drop n t)) f);
        first = λ a l m. absurd (omega arith);
      }

  pub walk_more : (i : ℕ) (r : Nearest) (d : ℕ) → 0 < i → NearestFrom q phrase t i r
      → d ≡ gap q phrase (take (length t - (i - 1)) (drop (i - 1) t))
      → NearestFrom q phrase t (i - 1) (nearer r (record { gap = d; from = i - 1 }))
  walk_more i r d h n k =
      subst (NearestFrom q phrase t (i - 1)) (sym (nearer_is r d (i - 1) (omega (arith, n.after_low)))) (go (leb d r.gap) refl)
    where
      e : d ≡ gap q phrase (drop (i - 1) t)
      e = k ∙ ap (gap q phrase) (take_rest t (i - 1))

      here : (a : ℕ) → i - 1 ≤ a → a < i → gap q phrase (drop a t) ≡ d
      here a l m = let f : a ≡ i - 1 = omega arith in ap (λ j. gap q phrase (drop j t)) f ∙ sym e

      go : (b : Bool) → leb d r.gap ≡ b → NearestFrom q phrase t (i - 1) (cond b (record { gap = d; from = i - 1 }) r)
      go true b = let k = leb-true d r.gap b in record {
        after_low = omega arith;
        to_end = omega (arith, n.after_low, n.to_end);
        has_gap = sym e;
        least = λ a l m. elim (cases_lt a i) [
          | inl o ↦ omega (arith, here a l o)
          | inr o ↦ omega (arith, n.least a o m)
        ];
        first = λ a l m. absurd (omega arith);
      }
      go false b = let k = leb-false d r.gap b in record {
        after_low = omega (arith, n.after_low);
        to_end = n.to_end;
        has_gap = n.has_gap;
        least = λ a l m. elim (cases_lt a i) [
          | inl o ↦ omega (arith, here a l o)
          | inr o ↦ n.least a o m
        ];
        first = λ a l m. elim (cases_lt a i) [
          | inl o ↦ omega (arith, here a l o)
          | inr o ↦ n.first a o m
        ];
      }

  -- a stretch of more than 2m − q + 1 steps has so many figures that its gap is above that of the empty one
  too_far : (a : ℕ) → 1 ≤ q → q ≤ length phrase → 2 * length phrase + 1 < length t - a + q
      → gap q phrase [] < gap q phrase (drop a t)
  too_far a h k l =
      let f = gap_far q phrase (drop a t) in
      let g = length_figures q phrase h in
      let m = length_figures q (drop a t) h ∙ ap (λ n. n + 1 - q) (length-drop a t) in
      omega (arith, gap_none q phrase)

  pub walked : (low : ℕ) (r : Nearest) → 1 ≤ q → q ≤ length phrase → low ≡ length t - (2 * length phrase + 1 - q)
      → NearestFrom q phrase t low r → Closest q phrase t r.gap (r.from + 1)
  walked low r h k e n =
      let near = n.least (length t) (omega arith) (omega arith) in
      let end = gap_end q phrase t in
      record {
        from_one = omega arith;
        to_end = omega (arith, n.to_end);
        has_gap = ap (λ s. gap q phrase (drop (r.from + 1 - 1) s)) (take-length t) ∙ ap (λ j. gap q phrase (drop j t)) back ∙ n.has_gap;
        least = λ j i l. rw (take-length t) (elim (cases_lt (j - 1) low) [
          | inl o ↦ omega (arith, too_far (j - 1) h k (omega arith))
          | inr o ↦ n.least (j - 1) o (omega arith)
        ]);
        first = λ j i l. rw (take-length t) (elim (cases_lt (j - 1) low) [
          | inl o ↦ omega (arith, too_far (j - 1) h k (omega arith))
          | inr o ↦ n.first (j - 1) o (omega arith)
        ]);
      }
    where
      back : r.from + 1 - 1 ≡ r.from
      back = omega arith
