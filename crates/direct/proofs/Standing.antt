-- How often a figure stands in a row, from one place of the row to the one before it.
use Rattle.std.proofs.Common.{◌≡◌, ℕ, ◌+◌, ◌-◌, ◌<◌, ◌≤◌, Bool, true, false, cond, ◌⊎◌, List, [], ◌∷◌, length, get_or, take, drop, Decides, nat_eq, filter, sym, refl, ap, ◌∙◌, inl, inr, arith}
use Rattle.std.proofs.lemmas.List.{drop_all, drop_more, drop-drop, length-take, take_rest}
use Rattle.std.specs.List.{range_with_len}
use Rattle.std.specs.Cmp.Lexicographic.{pointwise, bytes_decides}
use Rattle.std.proofs.lemmas.Bool.{both_ways, cases_lt, cases_Bool}
use Rattle.terms.specs.Figures.{count, figures, same}
use Rattle.terms.proofs.Counts.{count_nil, count_same, count_other, same_eq}
use Rattle.terms.proofs.Runs.{figures_more, figures_short}

-- does the figure f stand at place i of the row, as `starts_with` tells?
abbrev pub stands : List ℕ → List ℕ → ℕ → Bool
stands f row i = pointwise nat_eq f (take (length f) (take (length row - i) (drop i row)))

stands_where : (f row : List ℕ) (i : ℕ) → Decides (stands f row i) (f ≡ take (length f) (drop i row))
stands_where f row i =
    let e = ap (take (length f)) (take_rest row i) in
    let d = bytes_decides f (take (length f) (take (length row - i) (drop i row))) in
    (λ h. d.0 h ∙ e, λ h. d.1 (h ∙ sym e))

-- at the head of a row: where the figure stands, and where it does not
head_here : (f xs : List ℕ) (x : ℕ) → f ≡ take (length f) (x ∷ xs)
    → count f (figures (length f) (x ∷ xs)) ≡ 1 + count f (figures (length f) xs)
head_here f xs x e =
    let k = ap length e ∙ length-take (length f) (x ∷ xs) in
    let g = figures_more (length f) x xs (omega arith) in
    ap (count f) (g ∙ ap (λ v. v ∷ figures (length f) xs) (sym e)) ∙ count_same f (figures (length f) xs)

head_not : (f xs : List ℕ) (x : ℕ) → (f ≡ take (length f) (x ∷ xs) → ⊥)
    → count f (figures (length f) (x ∷ xs)) ≡ count f (figures (length f) xs)
head_not f xs x n = elim (cases_lt (length (x ∷ xs)) (length f)) [
  | inl h ↦ ap (count f) (figures_short (length f) (x ∷ xs) h ∙ sym (figures_short (length f) xs (omega arith)))
  | inr h ↦ ap (count f) (figures_more (length f) x xs h) ∙ other (cases_Bool (same f (take (length f) (x ∷ xs))))
]
  where
    other : (same f (take (length f) (x ∷ xs)) ≡ true) ⊎ (same f (take (length f) (x ∷ xs)) ≡ false)
        → count f (take (length f) (x ∷ xs) ∷ figures (length f) xs) ≡ count f (figures (length f) xs)
    other (inl e) = absurd (n (same_eq f (take (length f) (x ∷ xs)) e))
    other (inr e) = count_other f (take (length f) (x ∷ xs)) (figures (length f) xs) e

module _ (f row : List ℕ) where
  -- the places from a on at which the figure stands, where the rest of the row begins
  places_from : (rest : List ℕ) (a : ℕ) → drop a row ≡ rest
      → length (filter (stands f row) (range_with_len a (length rest))) ≡ count f (figures (length f) rest)
  unfolding figures
  places_from [] a e = sym (count_nil f)
  places_from (x ∷ xs) a e =
      go (stands f row a) refl (places_from xs (a + 1) (sym (drop-drop 1 a row) ∙ ap (drop 1) e))
    where
      here : Decides (stands f row a) (f ≡ take (length f) (x ∷ xs))
      here = let k = ap (take (length f)) e in let d = stands_where f row a in (λ h. d.0 h ∙ k, λ h. d.1 (h ∙ sym k))

      go : (b : Bool) → stands f row a ≡ b
          → length (filter (stands f row) (range_with_len (a + 1) (length xs))) ≡ count f (figures (length f) xs)
          → length (cond b (a ∷ filter (stands f row) (range_with_len (a + 1) (length xs))) (filter (stands f row) (range_with_len (a + 1) (length xs))))
          ≡ count f (figures (length f) (x ∷ xs))
      go true b ih = omega (arith, ih, head_here f xs x (here.0 b))
      go false b ih = ih ∙ sym (head_not f xs x (λ h. both_ways (stands f row a) b (here.1 h)))

  pub places : length (filter (stands f row) (range_with_len 0 (length row))) ≡ count f (figures (length f) row)
  places = places_from row 0 refl

-- what `starts_with` tells of the row from a place on
pub begins : (row f : List ℕ) (i : ℕ) (r : Bool)
    → r ≡ pointwise nat_eq f (take (length f) (take (length row - i) (drop i row)))
    → Decides r (f ≡ take (length f) (drop i row))
begins row f i r m =
    let e = ap (take (length f)) (take_rest row i) in
    let d = bytes_decides f (take (length f) (take (length row - i) (drop i row))) in
    (λ h. d.0 (sym m ∙ h) ∙ e, λ h. m ∙ d.1 (h ∙ sym e))

pub times_end : (f row : List ℕ) (q : ℕ) → count f (figures q (drop (length row) row)) ≡ 0
unfolding figures
times_end f row q = rw (drop_all (length row) row (omega arith)) (count_nil f)

-- the same by the place before
module _ (f row : List ℕ) (i : ℕ) (a : 0 < i) (b : i ≤ length row) where
  split : drop (i - 1) row ≡ get_or row (i - 1) 0 ∷ drop i row
  split =
      let e : i - 1 + 1 ≡ i = omega arith in
      drop_more row (i - 1) 0 (omega arith) ∙ ap (λ n. get_or row (i - 1) 0 ∷ drop n row) e

  pub times_here : f ≡ take (length f) (drop (i - 1) row)
      → count f (figures (length f) (drop (i - 1) row)) ≡ count f (figures (length f) (drop i row)) + 1
  times_here e =
      let k = head_here f (drop i row) (get_or row (i - 1) 0) (e ∙ ap (take (length f)) split) in
      let s = ap (λ r. count f (figures (length f) r)) split in
      omega arith

  pub times_not : (f ≡ take (length f) (drop (i - 1) row) → ⊥)
      → count f (figures (length f) (drop (i - 1) row)) ≡ count f (figures (length f) (drop i row))
  times_not n =
      ap (λ r. count f (figures (length f) r)) split
      ∙ head_not f (drop i row) (get_or row (i - 1) 0) (λ e. n (e ∙ ap (take (length f)) (sym split)))

-- what `times` tells of the first figure of a row, in any row and in the rest of its own
pub counted : (q : ℕ) (s row : List ℕ) (n : ℕ) → q ≤ length s
    → n ≡ count (take (q - 0) s) (figures (length (take (q - 0) s)) row) → n ≡ count (take q s) (figures q row)
counted q s row n l e =
    let z : q - 0 ≡ q = omega arith in
    let k : length (take (q - 0) s) ≡ q = length-take (q - 0) s ∙ omega arith in
    e ∙ ap (λ j. count (take (q - 0) s) (figures j row)) k ∙ ap (λ j. count (take j s) (figures q row)) z

pub counted_after : (q : ℕ) (s : List ℕ) (n : ℕ) → q ≤ length s
    → n ≡ count (take (q - 0) s) (figures (length (take (q - 0) s)) (take (length s - 1) (drop 1 s)))
    → n ≡ count (take q s) (figures q (drop 1 s))
counted_after q s n l e =
    counted q s (take (length s - 1) (drop 1 s)) n l e ∙ ap (λ r. count (take q s) (figures q r)) (take_rest s 1)
