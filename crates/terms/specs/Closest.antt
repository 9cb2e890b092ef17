-- The closest stretch that ends at the last step of a take, and the best stretch of a whole take.
use Rattle.std.specs.Prelude.{◌≡◌, ℕ, ◌+◌, ◌-◌, ◌*◌, ◌<◌, ◌≤◌, ◌⊎◌, List, [], ◌∷◌, ◌++◌, length, take, drop}
use Rattle.terms.specs.Figures.{gap}

-- the steps j to i of a take, numbered from 1; j = i + 1 is the empty stretch
abbrev pub stretch : {A : Type 0} → List A → ℕ → ℕ → List A
stretch t j i = drop (j - 1) (take i t)

-- at the last step i of the take the least gap to the phrase is d, and s is the first start that has it
pub record Closest (q : ℕ) (phrase t : List ℕ) (d s : ℕ) : Type 0 where
  pub from_one : 1 ≤ s
  pub to_end : s ≤ length t + 1
  pub has_gap : gap q phrase (stretch t s (length t)) ≡ d
  pub least : (j : ℕ) → 1 ≤ j → j ≤ length t + 1 → d ≤ gap q phrase (stretch t j (length t))
  pub first : (j : ℕ) → 1 ≤ j → j < s → d < gap q phrase (stretch t j (length t))

-- of all stretches that end at some step of the take, s to e is the best: it has the least gap g,
-- and every other stretch with that gap ends later, or ends at e and begins later
pub record Best (q : ℕ) (phrase t : List ℕ) (g s e : ℕ) : Type 0 where
  pub a_step : (1 ≤ e) × (e ≤ length t)
  pub a_start : (1 ≤ s) × (s ≤ e + 1)
  pub has_gap : gap q phrase (stretch t s e) ≡ g
  pub least : (i j : ℕ) → 1 ≤ i → i ≤ length t → 1 ≤ j → j ≤ i + 1 → g ≤ gap q phrase (stretch t j i)
  pub earliest : (i j : ℕ) → 1 ≤ i → i ≤ length t → 1 ≤ j → j ≤ i + 1 → gap q phrase (stretch t j i) ≡ g
      → ((i ≡ e) × (j ≡ s) → ⊥) → (e < i) ⊎ ((i ≡ e) × (s < j))

-- there is just one closest stretch at each step; its gap is at most the number of the phrase's figures, and it starts
-- no more than 2m − q steps before the last
pub record OneClosest (q : ℕ) (phrase t : List ℕ) : Type 0 where
  pub gap_of : ℕ
  pub start_of : ℕ
  pub closest : Closest q phrase t gap_of start_of
  pub only : (d s : ℕ) → Closest q phrase t d s → (d ≡ gap_of) × (s ≡ start_of)
  pub near : gap_of ≤ length phrase + 1 - q
  pub late : length t + q ≤ start_of + 2 * length phrase

abbrev pub AlwaysOneClosest : Type 0
AlwaysOneClosest = (q : ℕ) (phrase t : List ℕ) → 1 ≤ q → q ≤ length phrase → OneClosest q phrase t

-- how the best of a take follows from the closest stretch at each step: an earlier one is kept unless the new gap is smaller
pub record BestRule (q : ℕ) (phrase t : List ℕ) (x d s : ℕ) : Type 0 where
  pub first_step : t ≡ [] → Best q phrase (t ++ (x ∷ [])) d s (length t + 1)
  pub keeps : (g s' e : ℕ) → Best q phrase t g s' e → g ≤ d → Best q phrase (t ++ (x ∷ [])) g s' e
  pub falls : (g s' e : ℕ) → Best q phrase t g s' e → d < g → Best q phrase (t ++ (x ∷ [])) d s (length t + 1)

abbrev pub BestBySteps : Type 0
BestBySteps = (q : ℕ) (phrase t : List ℕ) (x d s : ℕ) → Closest q phrase (t ++ (x ∷ [])) d s → BestRule q phrase t x d s

-- a take with a step in it has just one best stretch
pub record OneBest (q : ℕ) (phrase t : List ℕ) : Type 0 where
  pub gap_of : ℕ
  pub start_of : ℕ
  pub end_of : ℕ
  pub best : Best q phrase t gap_of start_of end_of
  pub only : (g s e : ℕ) → Best q phrase t g s e → (g ≡ gap_of) × (s ≡ start_of) × (e ≡ end_of)

-- and a take without a step has none
abbrev pub AlwaysOneBest : Type 0
AlwaysOneBest =
    ((q : ℕ) (phrase t : List ℕ) → 1 ≤ q → q ≤ length phrase → 1 ≤ length t → OneBest q phrase t)
    × ((q : ℕ) (phrase : List ℕ) (g s e : ℕ) → Best q phrase [] g s e → ⊥)
