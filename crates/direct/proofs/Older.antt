-- The gap to a row from that to the row without its first sound.
use Rattle.std.proofs.Common.{◌≡◌, ℕ, zero, suc, ◌+◌, ◌-◌, ◌<◌, ◌≤◌, Bool, true, false, ltb, List, [], ◌∷◌, length, take, drop, pos, ◌+ℤ◌, ◌≤ℤ◌, sym, refl, ap, ◌∙◌, arith}
use borrow.Author.Differences.{ints}
use Rattle.std.proofs.lemmas.Bool.{lt-ltb, le-ltb}
use Rattle.std.proofs.lemmas.List.{drop_all, drop-drop, length-drop, length-take, take_rest}
use Rattle.terms.specs.Figures.{count, figures, gap}
use Rattle.terms.specs.Marks.{mark, marks, total}
use Rattle.terms.proofs.Counts.{gap_marks}
use Rattle.terms.proofs.Runs.{figures_more, figures_short, length_figures}

-- how many figures a row has, for every q
number_of_figures : (q : ℕ) (x : List ℕ) → length (figures q x) ≡ length x - (q - 1)
number_of_figures zero [] = unfold figures in refl
number_of_figures zero (x ∷ xs) = omega (arith, number_of_figures zero xs, ap length (figures_more 0 x xs (omega arith)))
number_of_figures (suc q) x = omega (arith, length_figures (suc q) x (omega arith))

-- an empty row has none of them
pub gap_none : (q : ℕ) (x : List ℕ) → gap q x [] ≡ length x - (q - 1)
gap_none q x =
    let e = gap_marks q x [] in
    let k = number_of_figures q x in
    unfold total marks figures in omega (arith, ints)

module _ (q : ℕ) (x : List ℕ) where
  -- the figure of a row that begins with y is one more mark
  more_at : (b : Bool) (y : ℕ) (ys : List ℕ) → q ≤ length (y ∷ ys)
      → ltb (count (take q (y ∷ ys)) (figures q ys)) (count (take q (y ∷ ys)) (figures q x)) ≡ b
      → pos (gap q x (y ∷ ys)) ≡ mark b +ℤ pos (gap q x ys)
  unfolding marks total
  more_at b y ys l e =
      let a = gap_marks q x ys in
      let f = ap (λ fs. total (marks (figures q x) fs)) (figures_more q y ys l) in
      let k = ap (λ c. mark c +ℤ total (marks (figures q x) (figures q ys))) e in
      let g = gap_marks q x (y ∷ ys) in
      omega (arith, ints)

  pub gap_short : (s : List ℕ) → length s < q → gap q x s ≡ gap q x (drop 1 s)
  unfolding gap
  gap_short [] l = refl
  gap_short (y ∷ ys) l = rw (figures_short q (y ∷ ys) l, figures_short q ys (omega arith))

  gap_near : (s : List ℕ) → 1 ≤ length s → q ≤ length s
      → count (take q s) (figures q (drop 1 s)) < count (take q s) (figures q x)
      → gap q x s + 1 ≡ gap q x (drop 1 s)
  gap_near [] h l c = absurd (omega arith)
  gap_near (y ∷ ys) h l c = let e = more_at true y ys l (lt-ltb _ _ c) in omega (arith, ints)

  gap_away : (s : List ℕ) → 1 ≤ length s → q ≤ length s
      → count (take q s) (figures q x) ≤ count (take q s) (figures q (drop 1 s))
      → gap q x s ≡ gap q x (drop 1 s) + 1
  gap_away [] h l c = absurd (omega arith)
  gap_away (y ∷ ys) h l c = let e = more_at false y ys l (le-ltb _ _ c) in omega (arith, ints)

  -- the same by what `times` tells of the first figure: how often it stands in the rest, and in x
  module _ (s f : List ℕ) (h : 1 ≤ length s) (l : q ≤ length s) (e : f ≡ take (q - 0) s) (a b : ℕ)
      (later : a ≡ count f (figures (length f) (take (length s - 1) (drop 1 s)))) (there : b ≡ count f (figures (length f) x)) where
    first : f ≡ take q s
    first = let z : q - 0 ≡ q = omega arith in e ∙ ap (λ n. take n s) z

    long : length f ≡ q
    long = ap length first ∙ length-take q s ∙ omega arith

    told : (row : List ℕ) → count f (figures (length f) row) ≡ count (take q s) (figures q row)
    told row = ap (λ n. count f (figures n row)) long ∙ ap (λ v. count v (figures q row)) first

    after : a ≡ count (take q s) (figures q (drop 1 s))
    after = later ∙ ap (λ r. count f (figures (length f) r)) (take_rest s 1) ∙ told (drop 1 s)

    pub one_nearer : a < b → gap q x s + 1 ≡ gap q x (drop 1 s)
    one_nearer c = gap_near s h l (omega (arith, after, there, told x))

    pub one_farther : b ≤ a → gap q x s ≡ gap q x (drop 1 s) + 1
    one_farther c = gap_away s h l (omega (arith, after, there, told x))

-- the walk over the starts of a row: where it begins, and what `older` is handed at the start before i
pub gap_end : (q : ℕ) (x y : List ℕ) → gap q x (drop (length y) y) ≡ gap q x []
gap_end q x y = ap (gap q x) (drop_all (length y) y (omega arith))

pub one_older : (q : ℕ) (x y : List ℕ) (i g : ℕ) → 0 < i → i ≤ length y → g ≡ gap q x (drop i y)
    → (1 ≤ length (take (length y - (i - 1)) (drop (i - 1) y)))
    × (g ≡ gap q x (drop 1 (take (length y - (i - 1)) (drop (i - 1) y))))
one_older q x y i g h l e =
    let k : i - 1 + 1 ≡ i = omega arith in
    let rest = take_rest y (i - 1) in
    let next = ap (drop 1) rest ∙ drop-drop 1 (i - 1) y ∙ ap (λ n. drop n y) k in
    (omega (arith, ap length rest, length-drop (i - 1) y), e ∙ ap (gap q x) (sym next))

-- no gap is above the number of all sounds
marks_most : (ps fs : List (List ℕ)) → total (marks ps fs) ≤ℤ pos (length fs)
unfolding marks total
marks_most ps [] = omega (arith, ints)
marks_most ps (f ∷ fs) = go (ltb (count f fs) (count f ps)) (marks_most ps fs)
  where
    go : (b : Bool) → total (marks ps fs) ≤ℤ pos (length fs) → (mark b +ℤ total (marks ps fs)) ≤ℤ pos (length (f ∷ fs))
    go true h = omega (arith, ints)
    go false h = omega (arith, ints)

pub gap_most : (q : ℕ) (x y : List ℕ) → gap q x y ≤ length x + length y
gap_most q x y =
    let e = gap_marks q x y in
    let a = marks_most (figures q x) (figures q y) in
    let b = number_of_figures q x in
    let c = number_of_figures q y in
    omega (arith, ints)
