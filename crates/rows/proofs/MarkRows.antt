-- Rows of marks: as rings, and as the leaves of a tree.
use Rattle.std.proofs.Common.{◌≡◌, ℕ, zero, suc, ◌+◌, ◌-◌, ◌<◌, ◌≤◌, true, List, [], ◌∷◌, ◌++◌, map, length, get_or, take, drop, set, replicate, ℤ, pos, negsuc, sym, refl, ap, ◌∙◌, subst, arith}
use Rattle.std.proofs.lemmas.List.{append-nil, append_assoc, length-append, length-map, length-set, map-append, map-set, drop-map, take-map, drop-append-le, take-append-le, set-append_left, set-append_right, length-replicate, drop-replicate}
use Rattle.terms.specs.Marks.{total, least_sum, Least}
use Rattle.terms.proofs.Leasts.{least_found}
use Rattle.terms.specs.Limits.{widest_row}
use Rattle.rows.specs.declared.mark.Mark.{Mark}
use Rattle.rows.specs.declared.mark.Mark.TheVariants.{Plus, Minus}
use Rattle.rows.specs.declared.marks.Marks.{Marks}
use Rattle.rows.specs.Laws.{Wrapped, limit, all_joined, sizes, ring}
use Rattle.rows.specs.Marks.{leaf_of, no_marks, marks_joined, marks_valid}
use Rattle.rows.specs.Rows.{worth, pushed, lifted}
use Rattle.rows.specs.TreeRows.{leaf_row, shown, RowKept}
use Rattle.rows.proofs.RingMoves.{length_ring, ring_next, ring_written}
use Rattle.rows.proofs.Trees.{get_or_none, sizes_none}
use Rattle.rows.proofs.Tells.{Tells, tells_join}

-- Rings

push_is : (m : Mark) (ms : List Mark) → 0 < length ms → drop 1 ms ++ m ∷ [] ≡ pushed m ms
push_is m [] h = absurd (omega arith)
push_is m (x ∷ ms) h = refl

pub ring_pushed : (ms : List Mark) (h r : ℕ) (m : Mark) → h < length ms → Wrapped (h + 1) (length ms) r → ring r (set ms h m) ≡ pushed m (ring h ms)
ring_pushed ms h r m l w = ring_next ms h m r l w ∙ push_is m (ring h ms) (omega (arith, length_ring h ms))

pub push_none : (m : Mark) (xs : List Mark) → length xs ≡ 0 → xs ≡ pushed m xs
push_none m [] e = refl
push_none m (x ∷ xs) e = absurd (omega arith)

-- Leaves

shown_none : (n : ℕ) → shown (replicate n no_marks) ≡ []
shown_none zero = refl
shown_none (suc n) = shown_none n

shown_leaf : (m : Mark) (xs : List Marks) → shown (leaf_of m ∷ xs) ≡ m ∷ shown xs
shown_leaf Plus xs = refl
shown_leaf Minus xs = refl

shown_map : (ms : List Mark) (xs : List Marks) → shown (map leaf_of ms ++ xs) ≡ ms ++ shown xs
shown_map [] xs = refl
shown_map (m ∷ ms) xs = shown_leaf m (map leaf_of ms ++ xs) ∙ ap (λ ys. m ∷ ys) (shown_map ms xs)

pub shown_row : (n : ℕ) (ms : List Mark) → shown (leaf_row n ms) ≡ ms
shown_row n ms = shown_map ms (replicate (n - length ms) no_marks) ∙ ap (λ xs. ms ++ xs) (shown_none (n - length ms)) ∙ append-nil ms

pub leaf_size : (m : Mark) → (leaf_of m).size ≡ 1
leaf_size Plus = refl
leaf_size Minus = refl

sizes_map : (ms : List Mark) (xs : List Marks) → sizes (λ (m : Marks). m.size) (map leaf_of ms ++ xs) ≡ length ms + sizes (λ (m : Marks). m.size) xs
sizes_map [] xs = omega arith
sizes_map (m ∷ ms) xs = omega (arith, sizes_map ms xs, leaf_size m)

pub sizes_row : (n : ℕ) (ms : List Mark) → sizes (λ (m : Marks). m.size) (leaf_row n ms) ≡ length ms
sizes_row n ms = omega (arith, sizes_map ms (replicate (n - length ms) no_marks), sizes_none (λ (m : Marks). m.size) no_marks (n - length ms) refl)

pub leaf_valid : (m : Mark) → marks_valid (leaf_of m) ≡ true
leaf_valid Plus = refl
leaf_valid Minus = refl

pub row_valid : (n : ℕ) (ms : List Mark) (i : ℕ) → marks_valid (get_or (leaf_row n ms) i no_marks) ≡ true
row_valid n ms i = leaves_valid ms (n - length ms) i
  where
    leaves_valid : (ms : List Mark) (k i : ℕ) → marks_valid (get_or (map leaf_of ms ++ replicate k no_marks) i no_marks) ≡ true
    leaves_valid [] k i = ap marks_valid (get_or_none no_marks k i)
    leaves_valid (m ∷ ms) k zero = leaf_valid m
    leaves_valid (m ∷ ms) k (suc i) = leaves_valid ms k i

pub row_set : (n : ℕ) (ms : List Mark) (i : ℕ) (m : Mark) → i < length ms → set (leaf_row n ms) i (leaf_of m) ≡ leaf_row n (set ms i m)
row_set n ms i m h =
    set-append_left (map leaf_of ms) (replicate (n - length ms) no_marks) i (leaf_of m) (omega (arith, length-map ms leaf_of))
    ∙ ap (λ xs. xs ++ replicate (n - length ms) no_marks) (sym (map-set leaf_of ms i m))
    ∙ ap (λ k. map leaf_of (set ms i m) ++ replicate (n - k) no_marks) (sym (length-set ms i m))

pub row_kept : (len head : ℕ) (leaves : List Marks) (ms : List Mark) → leaves ≡ leaf_row widest_row ms → length ms ≡ len → len ≤ widest_row → head ≤ len - 1 → RowKept len head leaves
row_kept len head leaves ms e l f i =
    let s : shown leaves ≡ ms = ap shown e ∙ shown_row widest_row ms in
    record {
      are = e ∙ ap (leaf_row widest_row) (sym s);
      count = ap length s ∙ l;
      few = f;
      inside = i;
    }

-- One mark is written.
module _ (len head : ℕ) (leaves : List Marks) (k : RowKept len head leaves) (at : ℕ) (m : Mark) (below : at < len) (x : Marks) (is : x ≡ leaf_of m) where
  rewritten : set leaves at x ≡ leaf_row widest_row (set (shown leaves) at m)
  rewritten =
      let n = k.count in
      ap (set leaves at) is ∙ ap (λ xs. set xs at (leaf_of m)) k.are ∙ row_set widest_row (shown leaves) at m (omega arith)

  -- what the tree asks
  pub written_asks : (marks_valid x ≡ true) × (sizes (λ (m : Marks). m.size) (set leaves at x) ≤ limit)
  written_asks =
      let n = k.count in
      let f = k.few in
      let l = length-set (shown leaves) at m in
      let s = sizes_row widest_row (set (shown leaves) at m) in
      (ap marks_valid is ∙ leaf_valid m, subst (λ xs. sizes (λ (m : Marks). m.size) xs ≤ limit) (sym rewritten) (omega arith))

  module _ (ys : List Marks) (put : ys ≡ set leaves at x) where
    pub written_shows : shown ys ≡ set (shown leaves) at m
    written_shows = ap shown (put ∙ rewritten) ∙ shown_row widest_row (set (shown leaves) at m)

    pub written_kept : (head' : ℕ) → head' ≤ len - 1 → RowKept len head' ys
    written_kept head' h = row_kept len head' ys (set (shown leaves) at m) (put ∙ rewritten) (length-set (shown leaves) at m ∙ k.count) k.few h

-- What the row then is.
module _ (len head : ℕ) (leaves ys : List Marks) (k : RowKept len head leaves) where
  pub length_row : length (ring head (shown leaves)) ≡ len
  length_row = length_ring head (shown leaves) ∙ k.count

  pub row_pushed : (r : ℕ) (m : Mark) → head < len → Wrapped (head + 1) len r → shown ys ≡ set (shown leaves) head m → ring r (shown ys) ≡ pushed m (ring head (shown leaves))
  row_pushed r m l w e =
      let n = k.count in
      ap (ring r) e ∙ ring_pushed (shown leaves) head r m (omega arith) (subst (λ x. Wrapped (head + 1) x r) (sym n) w)

  pub row_lifted : (r age : ℕ) → age < len → Wrapped (head + (len - 1 - age)) len r → shown ys ≡ set (shown leaves) r Plus → ring head (shown ys) ≡ lifted age (ring head (shown leaves))
  row_lifted r age l w e =
      let n = k.count in
      let i = k.inside in
      ap (ring head) e
      ∙ ring_written (shown leaves) head Plus (len - 1 - age) r (omega arith) (omega arith) (subst (λ x. Wrapped (head + (len - 1 - age)) x r) (sym n) w)
      ∙ ap (λ x. set (ring head (shown leaves)) (x - 1 - age) Plus) (sym length_row)

-- What the leaves come to

pub tells_none : Tells [] no_marks
unfolding least_sum total
tells_none = record { size_is = refl; sum_is = refl; least_is = least_found [] }

pub tells_one : (m : Mark) → Tells (worth m ∷ []) (leaf_of m)
unfolding least_sum total
tells_one Plus = record { size_is = refl; sum_is = refl; least_is = least_found (pos 1 ∷ []) }
tells_one Minus = record { size_is = refl; sum_is = refl; least_is = least_found (negsuc 0 ∷ []) }

tells_blanks : (n : ℕ) (zs : List ℤ) (xs : List Marks) → Tells zs (all_joined no_marks marks_joined xs) → Tells zs (all_joined no_marks marks_joined (replicate n no_marks ++ xs))
tells_blanks zero zs xs t = t
tells_blanks (suc n) zs xs t = tells_join [] zs no_marks (all_joined no_marks marks_joined (replicate n no_marks ++ xs)) tells_none (tells_blanks n zs xs t)

tells_marks : (os : List Mark) (zs : List ℤ) (xs : List Marks) → Tells zs (all_joined no_marks marks_joined xs) → Tells (map worth os ++ zs) (all_joined no_marks marks_joined (map leaf_of os ++ xs))
tells_marks [] zs xs t = t
tells_marks (o ∷ os) zs xs t = tells_join (worth o ∷ []) (map worth os ++ zs) (leaf_of o) (all_joined no_marks marks_joined (map leaf_of os ++ xs)) (tells_one o) (tells_marks os zs xs t)

pub tells_ring : (n h : ℕ) (ms : List Mark) → h ≤ length ms → Tells (map worth (ring h ms)) (all_joined no_marks marks_joined (ring h (leaf_row n ms)))
tells_ring n h ms l =
    let bs : List Marks = replicate (n - length ms) no_marks in
    let lm = length-map ms leaf_of in
    let d : drop h (leaf_row n ms) ≡ map leaf_of (drop h ms) ++ bs = drop-append-le h (map leaf_of ms) bs (omega arith) ∙ ap (λ xs. xs ++ bs) (drop-map leaf_of h ms) in
    let t : take h (leaf_row n ms) ≡ map leaf_of (take h ms) = take-append-le h (map leaf_of ms) bs (omega arith) ∙ take-map leaf_of h ms in
    let e : ring h (leaf_row n ms) ≡ map leaf_of (drop h ms) ++ (bs ++ (map leaf_of (take h ms) ++ [])) =
    ap (λ xs. xs ++ take h (leaf_row n ms)) d
    ∙ ap (λ xs. (map leaf_of (drop h ms) ++ bs) ++ xs) (t ∙ sym (append-nil (map leaf_of (take h ms))))
    ∙ append_assoc (map leaf_of (drop h ms)) bs (map leaf_of (take h ms) ++ []) in
    let z : map worth (drop h ms) ++ (map worth (take h ms) ++ []) ≡ map worth (ring h ms) =
    ap (λ xs. map worth (drop h ms) ++ xs) (append-nil (map worth (take h ms))) ∙ sym (map-append worth (drop h ms) (take h ms)) in
    subst (λ zs. Tells zs (all_joined no_marks marks_joined (ring h (leaf_row n ms)))) z
    (subst (λ xs. Tells (map worth (drop h ms) ++ (map worth (take h ms) ++ [])) (all_joined no_marks marks_joined xs)) (sym e)
    (tells_marks (drop h ms) (map worth (take h ms) ++ []) (bs ++ (map leaf_of (take h ms) ++ []))
    (tells_blanks (n - length ms) (map worth (take h ms) ++ []) (map leaf_of (take h ms) ++ [])
    (tells_marks (take h ms) [] [] tells_none))))

pub row_tells : (len head : ℕ) (leaves : List Marks) → RowKept len head leaves → (all : Marks) → all ≡ all_joined no_marks marks_joined (ring head leaves) → Least (map worth (ring head (shown leaves))) all.least all.span
row_tells len head leaves k all e =
    let n = k.count in
    let i = k.inside in
    let f : all ≡ all_joined no_marks marks_joined (ring head (leaf_row widest_row (shown leaves))) = e ∙ ap (λ ys. all_joined no_marks marks_joined (ring head ys)) k.are in
    let t : Tells (map worth (ring head (shown leaves))) all = subst (Tells (map worth (ring head (shown leaves)))) (sym f) (tells_ring widest_row head (shown leaves) (omega arith)) in
    t.least_is

map_same : (n : ℕ) → map leaf_of (replicate n Plus) ≡ replicate n (leaf_of Plus)
map_same zero = refl
map_same (suc n) = ap (λ xs. leaf_of Plus ∷ xs) (map_same n)

-- A row that is started: the first leaves are marks of +1.
module _ (count : ℕ) (few : count ≤ widest_row) (x : Marks) (none : x ≡ no_marks) (xs : List Marks) (is : xs ≡ replicate count (leaf_of Plus) ++ drop count (replicate widest_row x)) where
  pub started : xs ≡ leaf_row widest_row (replicate count Plus)
  started =
      is
      ∙ ap (λ y. replicate count (leaf_of Plus) ++ drop count (replicate widest_row y)) none
      ∙ ap (λ ys. replicate count (leaf_of Plus) ++ ys) (drop-replicate count widest_row no_marks)
      ∙ ap (λ ys. ys ++ replicate (widest_row - count) no_marks) (sym (map_same count))
      ∙ ap (λ k. map leaf_of (replicate count Plus) ++ replicate (widest_row - k) no_marks) (sym (length-replicate count Plus))

  -- what the tree asks
  pub started_long : length xs ≡ widest_row
  started_long =
      let l = length-append (map leaf_of (replicate count Plus)) (replicate (widest_row - length (replicate count Plus)) no_marks) in
      let m = length-map (replicate count Plus) leaf_of in
      let r = length-replicate count Plus in
      let n = length-replicate (widest_row - length (replicate count Plus)) no_marks in
      ap length started ∙ omega arith

  pub started_valid : (i : ℕ) → marks_valid (get_or xs i no_marks) ≡ true
  started_valid i = ap (λ ys. marks_valid (get_or ys i no_marks)) started ∙ row_valid widest_row (replicate count Plus) i

  pub started_fits : sizes (λ (m : Marks). m.size) xs ≤ limit
  started_fits =
      let s = sizes_row widest_row (replicate count Plus) in
      let r = length-replicate count Plus in
      subst (λ ys. sizes (λ (m : Marks). m.size) ys ≤ limit) (sym started) (omega arith)

  pub started_kept : (ys : List Marks) → ys ≡ xs → RowKept count 0 ys
  started_kept ys e = row_kept count 0 ys (replicate count Plus) (e ∙ started) (length-replicate count Plus) few (omega arith)

  pub started_shows : (ys : List Marks) → ys ≡ xs → ring 0 (shown ys) ≡ replicate count Plus
  started_shows ys e = append-nil (shown ys) ∙ ap shown (e ∙ started) ∙ shown_row widest_row (replicate count Plus)

-- one mark more
pub row_more : (n : ℕ) (ms : List Mark) (m : Mark) → length ms < n → set (leaf_row n ms) (length ms) (leaf_of m) ≡ leaf_row n (ms ++ m ∷ [])
row_more n ms m h =
    let e : n - length ms ≡ suc (n - suc (length ms)) = omega arith in
    let l = length-map ms leaf_of in
    let z : length ms - length ms ≡ 0 = omega arith in
    let s : n - suc (length ms) ≡ n - length (ms ++ m ∷ []) = omega (arith, length-append ms (m ∷ [])) in
    set-append_right (map leaf_of ms) (replicate (n - length ms) no_marks) (length ms) (length ms) (leaf_of m) l (omega arith)
    ∙ ap (λ k. map leaf_of ms ++ set (replicate (n - length ms) no_marks) k (leaf_of m)) z
    ∙ ap (λ k. map leaf_of ms ++ set (replicate k no_marks) 0 (leaf_of m)) e
    ∙ sym (append_assoc (map leaf_of ms) (leaf_of m ∷ []) (replicate (n - suc (length ms)) no_marks))
    ∙ ap (λ xs. xs ++ replicate (n - suc (length ms)) no_marks) (sym (map-append leaf_of ms (m ∷ [])))
    ∙ ap (λ k. map leaf_of (ms ++ m ∷ []) ++ replicate k no_marks) s
