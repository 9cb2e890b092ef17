-- A walk along the children of a state.
use Rattle.std.proofs.Common.{◌≡◌, ℕ, ◌<◌, ◌≤◌}
use Rattle.readers.specs.Table.{Node}

-- the walk stands at k: a child of i by x is not above k, and k is a child of i or the end
pub record Walk (n : ℕ) (N : ℕ → Node) (i x k : ℕ) : Type 0 where
  pub in_table : k < n
  pub of : 0 < k → (N k).parent ≡ i
  pub above : (j : ℕ) → 0 < j → j < n → (N j).parent ≡ i → (N j).sound ≡ x → j ≤ k
