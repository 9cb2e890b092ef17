-- Laws of the gap, and what they say of answers.
use Rattle.std.specs.Prelude.{◌≡◌, ℕ, ◌+◌, ◌≤◌, List, length}
use Rattle.terms.specs.Figures.{gap}
use Rattle.terms.specs.Closest.{Closest, stretch}

pub record Near (q : ℕ) : Type 0 where
  pub symmetric : (x y : List ℕ) → gap q x y ≡ gap q y x
  pub triangle : (x y z : List ℕ) → gap q x z ≤ gap q x y + gap q y z
  -- two phrases over one take: their gaps differ by at most the gap between the phrases
  pub neighbours : (p p' t : List ℕ) (d s d' s' : ℕ) → Closest q p t d s → Closest q p' t d' s' → (d ≤ d' + gap q p p') × (d' ≤ d + gap q p p')
  -- from step q − 1 on, the closest stretch is longer or shorter than the phrase by at most its gap
  pub length_near : (p t : List ℕ) (d s : ℕ) → q ≤ length p → q ≤ length t + 1 → Closest q p t d s
      → (length (stretch t s (length t)) ≤ length p + d) × (length p ≤ length (stretch t s (length t)) + d)

abbrev pub AlwaysNear : Type 0
AlwaysNear = (q : ℕ) → 1 ≤ q → Near q
