-- What a summary owes, and what a row of summaries comes to.
use Rattle.std.specs.Prelude.{◌≡◌, ℕ, ◌+◌, ◌*◌, ◌/◌, ◌^◌, ◌<◌, ◌≤◌, Bool, true, List, [], ◌∷◌, ◌++◌, length, take, drop, slice_index_or}
use Rattle.terms.specs.Limits.{widest_row}

-- the largest joined size up to which brackets do not matter
abbrev pub limit : ℕ
limit = widest_row

pub record Laws {M : Type 0} (empty : M) (joined : M → M → M) (size : M → ℕ) (valid : M → Bool) : Type 0 where
  pub size_empty : size empty ≡ 0
  pub valid_empty : valid empty ≡ true
  pub left : (x : M) → valid x ≡ true → joined empty x ≡ x
  pub right : (x : M) → valid x ≡ true → joined x empty ≡ x
  pub size_joined : (x y : M) → size (joined x y) ≡ size x + size y
  pub valid_joined : (x y : M) → valid x ≡ true → valid y ≡ true → size x + size y ≤ limit → valid (joined x y) ≡ true
  pub assoc : (x y z : M) → valid x ≡ true → valid y ≡ true → valid z ≡ true
      → size x + size y + size z ≤ limit → joined (joined x y) z ≡ joined x (joined y z)

-- a row of summaries joined, oldest first
abbrev pub all_joined : {M : Type 0} → M → (M → M → M) → List M → M
all_joined empty op [] = empty
all_joined empty op (x ∷ xs) = op x (all_joined empty op xs)

-- their sizes added up
abbrev pub sizes : {M : Type 0} → (M → ℕ) → List M → ℕ
sizes size [] = 0
sizes size (x ∷ xs) = size x + sizes size xs

-- a list read as a ring whose oldest element stands at head
abbrev pub ring : {M : Type 0} → ℕ → List M → List M
ring head xs = drop head xs ++ take head xs

-- What a tree of 2 ^ depth leaves keeps true of its nodes: each inner node joins its two children,
-- each node is valid, and the sizes of the leaves do not pass the limit.
pub record Kept {M : Type 0} (empty : M) (joined : M → M → M) (size : M → ℕ) (valid : M → Bool)
    (depth : ℕ) (nodes : List M) : Type 0 where
  pub parents : (i : ℕ) → 0 < i → i < 2 ^ depth
      → slice_index_or nodes i empty ≡ joined (slice_index_or nodes (2 * i) empty) (slice_index_or nodes (2 * i + 1) empty)
  pub valids : (i : ℕ) → i < length nodes → valid (slice_index_or nodes i empty) ≡ true
  pub few : sizes size (drop (2 ^ depth) nodes) ≤ limit

-- n nodes make a tree: two for each of its leaves, which are a power of two
abbrev pub TreeSize : ℕ → Type 0
TreeSize n = (depth : ℕ) × (n ≡ 2 * 2 ^ depth)

-- What a tree of n nodes is. Node 0 stands for nothing and stays empty, so that the leaves decide all nodes.
pub record Grown {M : Type 0} (empty : M) (joined : M → M → M) (size : M → ℕ) (valid : M → Bool)
    (n : ℕ) (nodes : List M) : Type 0 where
  pub depth : ℕ
  pub shape : n ≡ 2 * 2 ^ depth
  pub long : length nodes ≡ n
  pub unused : slice_index_or nodes 0 empty ≡ empty
  pub kept : Kept empty joined size valid depth nodes

-- trees of n nodes with the same leaves have the same nodes, all of them
abbrev pub LeavesDecide : {M : Type 0} (empty : M) (joined : M → M → M) (size : M → ℕ) (valid : M → Bool) → ℕ → Type 0
LeavesDecide {M} empty joined size valid n = (xs ys : List M) → Grown empty joined size valid n xs → Grown empty joined size valid n ys → drop (n / 2) xs ≡ drop (n / 2) ys → xs ≡ ys

-- r is the place, in a ring of len, of what stands at places after its first
pub record Wrapped (at len r : ℕ) : Type 0 where
  pub inside : at < len → r ≡ at
  pub over : len ≤ at → r + len ≡ at
