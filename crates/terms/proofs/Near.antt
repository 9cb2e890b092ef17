use Rattle.std.proofs.Common.{◌≡◌, ℕ, ◌+◌, ◌-◌, ◌<◌, ◌≤◌, List, [], ◌∷◌, ◌++◌, length, drop, sym, ap, ◌∙◌, inl, inr, arith}
use borrow.Author.Differences.{ints}
use lib.Seq.{take-length}
use Rattle.std.proofs.lemmas.Bool.{cases_lt}
use Rattle.std.proofs.lemmas.List.{length-drop}
use Rattle.terms.specs.Figures.{gap, gap_over, figures, different, count, Covers}
use Rattle.terms.specs.Marks.{marks, total}
use Rattle.terms.specs.Closest.{Closest, stretch}
use Rattle.terms.specs.Near.{AlwaysNear}
use Rattle.terms.proofs.Counts.{over_all_figures, over_swap, covers_swap, different_covers, different_once, different_none, count_append, gap_marks, gap_far}
use Rattle.terms.proofs.Runs.{length_figures, figures_short}

symmetric : (q : ℕ) (x y : List ℕ) → gap q x y ≡ gap q y x
unfolding gap
symmetric q x y =
    let vs = different (figures q y ++ figures q x) in
    sym (over_all_figures q x y vs (covers_swap (different_covers (figures q y) (figures q x)))) ∙ over_swap vs (figures q x) (figures q y)

over_triangle : (vs xs ys zs : List (List ℕ)) → gap_over vs xs zs ≤ gap_over vs xs ys + gap_over vs ys zs
unfolding gap_over
over_triangle [] xs ys zs = omega arith
over_triangle (v ∷ vs) xs ys zs = let h = over_triangle vs xs ys zs in omega arith

triangle : (q : ℕ) (x y z : List ℕ) → gap q x z ≤ gap q x y + gap q y z
triangle q x y z =
    omega (arith, over_triangle vs a b c, over_all_figures q x z vs (cover a c fst third), over_all_figures q x y vs (cover a b fst second), over_all_figures q y z vs (cover b c second third))
  where
    a : List (List ℕ)
    a = figures q x

    b : List (List ℕ)
    b = figures q y

    c : List (List ℕ)
    c = figures q z

    vs : List (List ℕ)
    vs = different (a ++ (b ++ c))

    fst : (v : List ℕ) → count v vs ≡ 0 → count v a ≡ 0
    fst v e = omega (arith, different_none v (a ++ (b ++ c)) e, count_append v a (b ++ c))

    second : (v : List ℕ) → count v vs ≡ 0 → count v b ≡ 0
    second v e = omega (arith, different_none v (a ++ (b ++ c)) e, count_append v a (b ++ c), count_append v b c)

    third : (v : List ℕ) → count v vs ≡ 0 → count v c ≡ 0
    third v e = omega (arith, different_none v (a ++ (b ++ c)) e, count_append v a (b ++ c), count_append v b c)

    cover : (m n : List (List ℕ)) → ((v : List ℕ) → count v vs ≡ 0 → count v m ≡ 0) → ((v : List ℕ) → count v vs ≡ 0 → count v n ≡ 0) → Covers vs m n
    cover m n h k = record { once = λ v. different_once v (a ++ (b ++ c)); all_left = h; all_right = k }

neighbours : (q : ℕ) (p p' t : List ℕ) (d s d' s' : ℕ) → Closest q p t d s → Closest q p' t d' s' → (d ≤ d' + gap q p p') × (d' ≤ d + gap q p p')
neighbours q p p' t d s d' s' a b =
    let u = a.least s' b.from_one b.to_end in
    let v = b.least s a.from_one a.to_end in
    let x = triangle q p p' (stretch t s' (length t)) in
    let y = triangle q p' p (stretch t s (length t)) in
    let e = symmetric q p p' in
    let f = a.has_gap in
    let g = b.has_gap in
    (omega arith, omega arith)

gap_none : (q : ℕ) (p x : List ℕ) → length x < q → gap q p x ≡ length (figures q p)
unfolding marks total
gap_none q p x h = let e = gap_marks q p x in let f = rw (figures_short q x h) at e in omega (arith, ints)

length_near : (q : ℕ) → 1 ≤ q → (p t : List ℕ) (d s : ℕ) → q ≤ length p → q ≤ length t + 1 → Closest q p t d s
    → (length (stretch t s (length t)) ≤ length p + d) × (length p ≤ length (stretch t s (length t)) + d)
length_near q h p t d s hp ht c =
    let l = part s in
    let f = length_figures q p h in
    let g = length_figures q (stretch t s (length t)) h in
    let k = gap_far q p (stretch t s (length t)) in
    let k' = gap_far q (stretch t s (length t)) p in
    let e = symmetric q p (stretch t s (length t)) in
    let y = c.has_gap in
    let z = c.to_end in
    elim (cases_lt (length t + 2 - q) s) [
      | inl m ↦
          let j = length t + 2 - q in
          let a = c.first j (omega arith) m in
          let b = gap_none q p (stretch t j (length t)) (omega (arith, part j)) in
          let b' = gap_none q p (stretch t s (length t)) (omega arith) in
          absurd (omega arith)
      | inr m ↦ (omega arith, omega arith)
    ]
  where
    part : (j : ℕ) → length (stretch t j (length t)) ≡ length t - (j - 1)
    part j = ap (λ r. length (drop (j - 1) r)) (take-length t) ∙ length-drop (j - 1) t

pub always_near : AlwaysNear
always_near q h = record { symmetric = symmetric q; triangle = triangle q; neighbours = neighbours q; length_near = length_near q h }
