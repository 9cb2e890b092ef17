-- That a row of marks has one least sum and one span, so that all rows of the same marks answer alike.
use Rattle.std.specs.Prelude.{◌≡◌, ℕ, Bool, true, List, map, ℤ}
use Rattle.terms.specs.Marks.{Least, least_sum}
use Rattle.rows.specs.declared.mark.Mark.{Mark}
use Rattle.rows.specs.Rows.{worth}

-- one pair meets Least, and no other does
pub record OneLeast (zs : List ℤ) : Type 0 where
  pub meets : Least zs (least_sum zs).0 (least_sum zs).1
  pub only : (l : ℤ) (n : ℕ) → Least zs l n → (l ≡ (least_sum zs).0) × (n ≡ (least_sum zs).1)

abbrev pub AlwaysOneLeast : Type 0
AlwaysOneLeast = (zs : List ℤ) → OneLeast zs

abbrev pub least_of : List Mark → ℤ × ℕ
least_of ms = least_sum (map worth ms)

-- r says whether rows of these marks answer alike; of the same marks they do
pub record Alike (xs ys : List Mark) (r : Bool) : Type 0 where
  pub same_marks : xs ≡ ys → r ≡ true
  pub same_answer : least_of xs ≡ least_of ys → r ≡ true
  pub exact : r ≡ true → least_of xs ≡ least_of ys
