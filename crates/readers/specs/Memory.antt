-- What a figure reader means, and what each call does to it.
use Rattle.std.specs.Prelude.{◌≡◌, ℕ, ◌≤◌, List, [], ◌∷◌, ◌++◌, length, Option, Some, None, Result, MatchResult}
use Rattle.terms.specs.Figures.{figures}
use Rattle.terms.specs.Codes.{count_of}
use Rattle.terms.specs.Reading.{Run, LongestEnd, answered}
use Rattle.terms.specs.Refusals.{load_refusal}
use Rattle.terms.specs.declared.refusal.Refusal.{Refusal}

-- nothing held, or a phrase, the figure length and the remembered end
pub data Memory : Type 0 where
  nothing : Memory
  held : List ℕ → ℕ → List ℕ → Memory

-- what a load does to a reader s, which is t after it: accepted, it holds the phrase and has an empty end; refused,
-- it is what it was
pub record LoadTold {R : Type 0} (memory : R → Memory) (reach : ℕ) (s : R) (phrase : List ℕ) (q c : ℕ) (r : Result (Unit {0}) Refusal) (t : R) : Type 0 where
  pub exact : MatchResult r
      (λ _. (load_refusal reach phrase q c ≡ None) × (memory t ≡ held phrase q []))
      (λ e. (load_refusal reach phrase q c ≡ Some e) × (t ≡ s))

-- hearing x turns the first memory into the second, and answers a: the new remembered end is the longest end of the
-- old one followed by x, at most q long, that is a run of the phrase
pub data Hears : Memory → ℕ → Memory → ℕ → Type 0 where
  without_phrase_lem : {x : ℕ} → Hears nothing x nothing 0
  with_phrase : {p : List ℕ} {q : ℕ} {r r' : List ℕ} {x a : ℕ} → LongestEnd q p (r ++ (x ∷ [])) r' → a ≡ answered q p r' → Hears (held p q r) x (held p q r') a

-- the remembered end is a run of the phrase, at most q long
abbrev pub Whole : Memory → Type 0
Whole nothing = Unit {0}
Whole (held p q r) = (length r ≤ q) × Run r p

-- how often the figure of a code stands in the phrase held
abbrev pub counted : Memory → ℕ → ℕ
counted nothing h = 0
counted (held p q r) h = count_of (figures q p) h

abbrev pub forgotten : Memory → Memory
forgotten nothing = nothing
forgotten (held p q r) = held p q []

-- what a reader means that may hold nothing
abbrev pub held_or_nothing : {K : Type 0} → (K → Memory) → Option K → Memory
held_or_nothing m None = nothing
held_or_nothing m (Some k) = m k

pub whole_or_nothing : {K : Type 0} (m : K → Memory) → ((k : K) → Whole (m k)) → (o : Option K) → Whole (held_or_nothing m o)
whole_or_nothing m w None = tt
whole_or_nothing m w (Some k) = w k
