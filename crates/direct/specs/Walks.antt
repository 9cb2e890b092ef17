-- The walk back over the starts of a take, from its empty stretch on.
use Rattle.std.specs.Prelude.{◌≡◌, ℕ, ◌<◌, ◌≤◌, cond, ◌||◌, ◌&&◌, ◌==◌, nat_lt, List, length, drop}
use Rattle.terms.specs.Figures.{gap}
use Rattle.direct.specs.declared.back.Nearest.{Nearest}

-- the one with the lesser gap, and with the earlier start where the gaps are equal
abbrev pub nearer : Nearest → Nearest → Nearest
nearer a b = cond (nat_lt b.gap a.gap || (b.gap == a.gap && nat_lt b.from a.from)) b a

-- the least gap of the stretches that begin after `low` steps or later, and the earliest such beginning
pub record NearestFrom (q : ℕ) (phrase t : List ℕ) (low : ℕ) (r : Nearest) : Type 0 where
  pub after_low : low ≤ r.from
  pub to_end : r.from ≤ length t
  pub has_gap : gap q phrase (drop r.from t) ≡ r.gap
  pub least : (a : ℕ) → low ≤ a → a ≤ length t → r.gap ≤ gap q phrase (drop a t)
  pub first : (a : ℕ) → low ≤ a → a < r.from → r.gap < gap q phrase (drop a t)
