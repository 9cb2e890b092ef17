-- The best stretch as a part of the take.
use Rattle.std.specs.Prelude.{◌≡◌, ℕ, ◌+◌, ◌-◌, ◌<◌, ◌≤◌, List, ◌++◌, map, length, drop, IfErr, Some, None, Result, MatchResult}
use Rattle.std.specs.Borrow.{Bor}
use Rattle.terms.specs.Closest.{Best, stretch}
use Rattle.terms.specs.Refusals.{view_refusal, cut_refusal}
use Rattle.terms.specs.declared.refusal.Refusal.{Refusal}
use Rattle.terms.specs.declared.refusal.Refusal.TheVariants.{ShortPattern}
use Rattle.readers.specs.Memory.{Memory}
use Rattle.rows.specs.declared.mark.Mark.{Mark}
use Rattle.finder.specs.History.{History}
use Rattle.finder.specs.Slots.{Represents}
use Rattle.finder.specs.declared.slot.Slot.{Slot}

-- part is the best stretch of the take, cut from the list xs, and place is where it begins there, counted from 0
pub record Viewed {S : Type 0} (sound : S → ℕ) (h : History S) (xs part : List S) (place : ℕ) : Type 0 where
  pub gap : ℕ
  pub start : ℕ
  pub end : ℕ
  pub best : Best h.q (map sound h.phrase) (map sound h.take) gap start end
  pub is : part ≡ stretch xs start end
  pub at : place + 1 ≡ start

-- the best stretch, if there is one, has n steps
abbrev pub BestLength : {S : Type 0} → (S → ℕ) → History S → ℕ → Type 0
BestLength sound h n =
    (g s e : ℕ) → Best h.q (map sound h.phrase) (map sound h.take) g s e → n ≡ e + 1 - s

-- the part is copied to the front of the pattern ys, which is zs then, and n is its length
pub record Copied {S : Type 0} (sound : S → ℕ) (h : History S) (xs ys : List S) (n : ℕ) (zs : List S) : Type 0 where
  pub part : List S
  pub place : ℕ
  pub viewed : Viewed sound h xs part place
  pub long : n ≡ length part
  pub pasted : zs ≡ part ++ drop n ys

-- what is told by a paste of the part over the front of the pattern ys, which is zs after it
pub record Pasted {S : Type 0} (part ys : List S) (r : Result ℕ Refusal) (zs : List S) : Type 0 where
  pub exact : MatchResult r
      (λ n. (n ≡ length part) × (length part ≤ length ys) × (zs ≡ part ++ drop n ys))
      (λ e. (e ≡ ShortPattern) × (length ys < length part))
  pub kept : IfErr r (λ _. zs ≡ ys)

module _ {S R M : Type 0} (sound : S → ℕ) (memory : R → Memory) (marks : M → List Mark) where
  -- what is told by a view of the list xs
  pub record ViewTold (s : Slot S R M) (xs : List S) (r : Result (Bor (List S) × ℕ) Refusal) : Type 0 where
    pub exact : (h : History S) → Represents sound memory marks s h → MatchResult r
        (λ v. (view_refusal (length h.take) (length xs) ≡ None) × Viewed sound h xs v.0.now v.1)
        (λ e. view_refusal (length h.take) (length xs) ≡ Some e)

  -- what a cut from the list xs does to the pattern ys, which is zs after it
  pub record CutTold (s : Slot S R M) (xs ys : List S) (r : Result ℕ Refusal) (zs : List S) : Type 0 where
    pub exact : (h : History S) → Represents sound memory marks s h → (n : ℕ) → BestLength sound h n → MatchResult r
        (λ k. (cut_refusal (length h.take) (length xs) n (length ys) ≡ None) × Copied sound h xs ys k zs)
        (λ e. cut_refusal (length h.take) (length xs) n (length ys) ≡ Some e)
    pub kept : IfErr r (λ _. zs ≡ ys)
