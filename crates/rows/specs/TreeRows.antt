-- A row of marks in the leaves of a tree.
use Rattle.std.specs.Prelude.{◌≡◌, ℕ, ◌-◌, ◌≤◌, cond, List, [], ◌∷◌, ◌++◌, map, length, replicate, ◌==◌}
use Rattle.terms.specs.Limits.{widest_row}
use Rattle.rows.specs.declared.mark.Mark.{Mark}
use Rattle.rows.specs.declared.mark.Mark.TheVariants.{Plus, Minus}
use Rattle.rows.specs.declared.marks.Marks.{Marks}
use Rattle.rows.specs.Marks.{leaf_of, no_marks}

-- the marks that stand in leaves; an empty leaf stands for none
abbrev pub shown : List Marks → List Mark
shown [] = []
shown (x ∷ xs) = cond (x.size == 0) (shown xs) (cond (x.span == 0) Plus Minus ∷ shown xs)

-- marks as leaves, with empty leaves behind them
abbrev pub leaf_row : ℕ → List Mark → List Marks
leaf_row n ms = map leaf_of ms ++ replicate (n - length ms) no_marks

-- what a row keeps true: its tree's leaves are len marks, and empty leaves behind them; the oldest mark is one of them
pub record RowKept (len head : ℕ) (leaves : List Marks) : Type 0 where
  pub are : leaves ≡ leaf_row widest_row (shown leaves)
  pub count : length (shown leaves) ≡ len
  pub few : len ≤ widest_row
  pub inside : head ≤ len - 1
