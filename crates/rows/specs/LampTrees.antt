-- The newest answers, in the leaves of a tree.
use Rattle.std.specs.Prelude.{◌≡◌, ℕ, ◌-◌, ◌<◌, ◌≤◌, min, true, cond, List, [], ◌∷◌, ◌++◌, map, length, replicate, Some, None, Option, ◌==◌, slice_index_or}
use Rattle.terms.specs.Limits.{lamp_length, longest_phrase, longest_take}
use Rattle.rows.specs.declared.lamp.Lamp.{Lamp}
use Rattle.rows.specs.Laws.{ring}
use Rattle.rows.specs.Lamps.{no_lamp, lamp_of, lamp_valid}

-- the answers, each a gap and a step, that stand in leaves; an empty leaf stands for none
abbrev pub answers_in : List Lamp → List (ℕ × ℕ)
answers_in [] = []
answers_in (x ∷ xs) = cond (x.size == 0) (answers_in xs) ((x.gap, x.step) ∷ answers_in xs)

abbrev pub answer_leaf : ℕ × ℕ → Lamp
answer_leaf a = lamp_of 1 a.0 a.1

-- what a summary shows: nothing where it is of no answer
abbrev pub lamp_shown : Lamp → Option (ℕ × ℕ)
lamp_shown l = cond (l.size == 0) None (Some (l.gap, l.step))

-- an answer brought into range
abbrev pub in_range : ℕ → ℕ → ℕ × ℕ
in_range gap step = (min gap longest_phrase, min step longest_take)

-- empty leaves, and then the answers, oldest first
abbrev pub laid_out : ℕ → List (ℕ × ℕ) → List Lamp
laid_out n xs = replicate (n - length xs) no_lamp ++ map answer_leaf xs

-- the answers in leaves that are a ring, oldest first
abbrev pub answers_from : ℕ → List Lamp → List (ℕ × ℕ)
answers_from head leaves = answers_in (ring head leaves)

-- what the ring keeps true: its tree's leaves are the answers, and empty leaves before them
pub record LampKept (head : ℕ) (leaves : List Lamp) : Type 0 where
  pub long : length leaves ≡ lamp_length
  pub inside : head < lamp_length
  pub valids : (i : ℕ) → lamp_valid (slice_index_or leaves i no_lamp) ≡ true
  pub small : (i : ℕ) → (slice_index_or leaves i no_lamp).size ≤ 1
  pub laid : ring head leaves ≡ laid_out lamp_length (answers_from head leaves)
