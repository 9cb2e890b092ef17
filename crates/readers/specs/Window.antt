-- The last sounds as one number in base c.
use Rattle.std.specs.Prelude.{◌≡◌, ℕ, zero, suc, ◌+◌, ◌/◌, ◌%◌, ◌^◌, ◌<◌, ◌≤◌, cond, List, [], ◌∷◌, ◌++◌, ◌==◌, ◌≢◌, nat_le, nat_lt, length, Option, MatchOption, slice_index, slice_index_or, slice_set}
use Rattle.terms.specs.Limits.{longest_figure, most_numbers}
use Rattle.terms.specs.Marks.{newest}
use Rattle.terms.specs.Codes.{code}

-- the k last digits of n in base c, the highest first
unfoldable pub digits : ℕ → ℕ → ℕ → List ℕ
digits c zero n = []
digits c (suc k) n = digits c k (n / c) ++ (n % c ∷ [])

-- the largest number from 0 to k to which c can be raised within the table
unfoldable pub widest : ℕ → ℕ → ℕ
widest c zero = 0
widest c (suc k) = cond (nat_le (c ^ suc k) most_numbers) (suc k) (widest c k)

-- the longest figures whose numbers fit the table; without sounds there is none
abbrev pub sliding_reach_lem : ℕ → ℕ
sliding_reach_lem c = cond (c == 0) 0 (widest c longest_figure)

-- the same in other words: r is the largest q up to the longest figure with c to the power q within the table
pub record Largest (c r : ℕ) : Type 0 where
  pub without_sounds : c ≡ 0 → r ≡ 0
  pub short : r ≤ longest_figure
  pub fits : c ^ r ≤ most_numbers
  pub largest : 0 < c → (q : ℕ) → q ≤ longest_figure → c ^ q ≤ most_numbers → q ≤ r

-- the window after a sound: the newest w sounds, and none after a sound that is not below c
abbrev pub slid : ℕ → ℕ → List ℕ → ℕ → List ℕ
slid c w ws x = cond (nat_lt x c) (newest w (ws ++ (x ∷ []))) []

-- of the sounds ws the number, where they are w digits in base c; none where they are fewer
abbrev pub Filled : ℕ → ℕ → List ℕ → Option ℕ → Type 0
Filled c w ws r = MatchOption r (length ws < w) (λ n. (n < c ^ w) × (digits c w n ≡ ws))

-- each number of q digits has the code of its digits among the figures ps
abbrev pub Tabled : ℕ → ℕ → List (List ℕ) → List ℕ → Type 0
Tabled c q ps codes = (n : ℕ) → n < c ^ q → slice_index codes n ≡ code ps (digits c q n)

-- the number n has a code, or gets the next one
pub record Entered (n next : ℕ) (codes codes' : List ℕ) (next' : ℕ) : Type 0 where
  pub old : (slice_index codes n ≢ 0) → (codes' ≡ codes) × (next' ≡ next)
  pub new : slice_index_or codes n 0 ≡ 0 → (codes' ≡ slice_set codes n (next + 1)) × (next' ≡ next + 1)
