-- What every reader does with a list of sounds, told by its memory alone.
use Rattle.std.specs.Prelude.{◌≡◌, ℕ, ◌<◌, List, [], ◌++◌, length, Some, None, Result, MatchResult}
use Rattle.terms.specs.Codes.{heard}
use Rattle.terms.specs.Reading.{LongestEnd}
use Rattle.terms.specs.Refusals.{load_refusal}
use Rattle.terms.specs.declared.refusal.Refusal.{Refusal}
use Rattle.readers.specs.Memory.{Memory, nothing, held}

-- after the sounds t since a load or a forgetting: what is remembered is the longest end of the whole list t, and the
-- last answer a is the code of its newest q sounds, 0 where there are fewer or the phrase has no such figure
pub record Listened (p : List ℕ) (q : ℕ) (t : List ℕ) (m : Memory) (a : ℕ) : Type 0 where
  pub remembers : List ℕ
  pub holds : m ≡ held p q remembers
  pub longest : LongestEnd q p t remembers
  pub answer : 0 < length t → a ≡ heard q p t
  pub silence : length t ≡ 0 → a ≡ 0

-- hearing the sounds xs one after another turns the memory m into m', with the last answer a: from an empty end, and
-- also where the sounds t came before them
pub record HearsAll (m : Memory) (xs : List ℕ) (m' : Memory) (a : ℕ) : Type 0 where
  pub from_empty_end : (p : List ℕ) (q : ℕ) → m ≡ held p q [] → Listened p q xs m' a
  pub goes_on : (p : List ℕ) (q : ℕ) (t : List ℕ) (b : ℕ) → Listened p q t m b
      → 0 < length xs → Listened p q (t ++ xs) m' a
  pub without_sound : length xs ≡ 0 → (m' ≡ m) × (a ≡ 0)
  pub from_nothing : m ≡ nothing → (m' ≡ nothing) × (a ≡ 0)

-- the same where the reader forgets first, whatever it remembered
pub record HearsAfresh (m : Memory) (xs : List ℕ) (m' : Memory) (a : ℕ) : Type 0 where
  pub from_any_end : (p : List ℕ) (q : ℕ) (r : List ℕ) → m ≡ held p q r → Listened p q xs m' a
  pub from_nothing : m ≡ nothing → (m' ≡ nothing) × (a ≡ 0)

-- a new reader of a reach is loaded and hears the sounds xs: no word of what it remembers
abbrev pub Answered : ℕ → List ℕ → ℕ → ℕ → List ℕ → Result ℕ Refusal → Type 0
Answered reach phrase q c xs r =
    MatchResult r
    (λ a. (load_refusal reach phrase q c ≡ None) × (a ≡ heard q phrase xs))
    (λ e. load_refusal reach phrase q c ≡ Some e)
