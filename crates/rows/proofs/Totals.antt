-- Totals of lists, and lists read place by place.
use Rattle.std.proofs.Common.{◌≡◌, ℕ, zero, suc, ◌+◌, ◌<◌, ◌≤◌, Bool, true, List, [], ◌∷◌, ◌++◌, length, get_or, take, drop, sym, refl, ap, ◌∙◌, arith, drop-cons}
use Rattle.rows.specs.Laws.{Laws, limit, all_joined, sizes}
use Rattle.rows.proofs.Runs.{run, tall}

pub run_total : {M : Type 0} (empty : M) (joined : M → M → M) (xs : List M) (a n : ℕ) → a + n ≤ length xs → run empty joined (λ i. get_or xs i empty) a n ≡ all_joined empty joined (take n (drop a xs))
run_total empty joined xs a zero h = refl
run_total empty joined xs a (suc n) h =
    let l : a < length xs = omega arith in
    ap (joined (get_or xs a empty)) (run_total empty joined xs (suc a) n (omega arith))
    ∙ ap (λ ys. all_joined empty joined (take (suc n) ys)) (sym (drop-cons xs a empty l))

pub tall_sizes : {M : Type 0} (empty : M) (size : M → ℕ) (xs : List M) (a n : ℕ) → a + n ≤ length xs → tall size (λ i. get_or xs i empty) a n ≡ sizes size (take n (drop a xs))
tall_sizes empty size xs a zero h = refl
tall_sizes empty size xs a (suc n) h =
    let l : a < length xs = omega arith in
    ap (λ k. size (get_or xs a empty) + k) (tall_sizes empty size xs (suc a) n (omega arith))
    ∙ ap (λ ys. sizes size (take (suc n) ys)) (sym (drop-cons xs a empty l))

pub sizes_append : {M : Type 0} (size : M → ℕ) (xs ys : List M) → sizes size (xs ++ ys) ≡ sizes size xs + sizes size ys
sizes_append size [] ys = omega arith
sizes_append size (x ∷ xs) ys = omega (arith, sizes_append size xs ys)

module _ {M : Type 0} {empty : M} {joined : M → M → M} {size : M → ℕ} {valid : M → Bool} (laws : Laws empty joined size valid) where
  pub size_total : (xs : List M) → size (all_joined empty joined xs) ≡ sizes size xs
  size_total [] = laws.size_empty
  size_total (x ∷ xs) = laws.size_joined x (all_joined empty joined xs) ∙ ap (λ k. size x + k) (size_total xs)

  pub valid_total : (xs : List M) → ((i : ℕ) → valid (get_or xs i empty) ≡ true) → sizes size xs ≤ limit → valid (all_joined empty joined xs) ≡ true
  valid_total [] v h = laws.valid_empty
  valid_total (x ∷ xs) v h =
      laws.valid_joined x (all_joined empty joined xs) (v zero) (valid_total xs (λ i. v (suc i)) (omega arith)) (omega (arith, size_total xs))

  pub total_append : (xs ys : List M) → ((i : ℕ) → valid (get_or xs i empty) ≡ true) → ((i : ℕ) → valid (get_or ys i empty) ≡ true) → sizes size xs + sizes size ys ≤ limit → all_joined empty joined (xs ++ ys) ≡ joined (all_joined empty joined xs) (all_joined empty joined ys)
  total_append [] ys v w h = sym (laws.left (all_joined empty joined ys) (valid_total ys w (omega arith)))
  total_append (x ∷ xs) ys v w h =
      ap (joined x) (total_append xs ys (λ i. v (suc i)) w (omega arith))
      ∙ sym (laws.assoc x (all_joined empty joined xs) (all_joined empty joined ys) (v zero) (valid_total xs (λ i. v (suc i)) (omega arith)) (valid_total ys w (omega arith)) (omega (arith, size_total xs, size_total ys)))
