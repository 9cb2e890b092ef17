-- The table of a states reader: one state for each different run of 0 to q sounds of the phrase.
use Rattle.std.specs.Prelude.{◌≡◌, ℕ, zero, suc, ◌+◌, ◌-◌, ◌<◌, ◌≤◌, false, List, [], ◌∷◌, ◌++◌, length, get_or, take, drop, Option, MatchOption, ◌≢◌, slice_index, slice_index_or, slice_set}
use Rattle.terms.specs.Limits.{longest_phrase, most_states}
use Rattle.terms.specs.Reading.{Run, is_run}
use Rattle.terms.specs.Codes.{code, count_of}
use Rattle.terms.specs.Figures.{different}
use Rattle.readers.specs.declared.state.State.{State}

-- a place for each sound of the longest phrase, and one more
abbrev pub most_places : ℕ
most_places = longest_phrase + 1

-- a state without its code
pub record Node : Type 0 where
  pub at : ℕ
  pub len : ℕ
  pub sound : ℕ
  pub parent : ℕ
  pub shorter : ℕ
  pub child : ℕ
  pub next : ℕ

abbrev pub node : State → Node
node s = record {
  at = s.at;
  len = s.len;
  sound = s.sound;
  parent = s.parent;
  shorter = s.shorter;
  child = s.child;
  next = s.next;
}

abbrev pub blank : State
blank = record { at = 0; len = 0; sound = 0; code = 0; parent = 0; shorter = 0; child = 0; next = 0 }

-- the state at a place of the table
abbrev pub nodes : List State → ℕ → Node
nodes ss i = node (slice_index_or ss i blank)

-- the run of a state
abbrev pub run : List ℕ → Node → List ℕ
run p s = take s.len (drop s.at p)

-- what the n states of a table are, all that a reader relies on: runs of the phrase p of at most q sounds, each such
-- run, none twice; and they are few enough for the table
pub record EachRunOnce (p : List ℕ) (q n : ℕ) (N : ℕ → Node) : Type 0 where
  pub few : n ≤ most_states
  pub a_run : (i : ℕ) → i < n → Run (run p (N i)) p
  pub short : (i : ℕ) → i < n → length (run p (N i)) ≤ q
  pub each : (r : List ℕ) → Run r p → length r ≤ q → (i : ℕ) × ((i < n) × (run p (N i) ≡ r))
  pub once : (i j : ℕ) → i < n → j < n → run p (N i) ≡ run p (N j) → i ≡ j

-- the children of a state stand in a row: the newest first, each followed by the next older one; 0 ends the row
pub record Tree (n : ℕ) (N : ℕ → Node) : Type 0 where
  pub parent_in : (i : ℕ) → 0 < i → i < n → (N i).parent < i
  pub first_in : (i : ℕ) → i < n → (N i).child < n
  pub first_of : (i : ℕ) → i < n → 0 < (N i).child → (N (N i).child).parent ≡ i
  pub first_most : (j : ℕ) → 0 < j → j < n → j ≤ (N (N j).parent).child
  pub next_in : (k : ℕ) → 0 < k → k < n → (N k).next < k
  pub next_of : (k : ℕ) → 0 < k → k < n → 0 < (N k).next → (N (N k).next).parent ≡ (N k).parent
  pub next_most : (j k : ℕ) → 0 < j → j < k → k < n → (N j).parent ≡ (N k).parent → j ≤ (N k).next

-- no state is the child of the state i by the sound x
abbrev pub Childless : ℕ → (ℕ → Node) → ℕ → ℕ → Type 0
Childless n N i x = (j : ℕ) → 0 < j → j < n → (N j).parent ≡ i → (N j).sound ≢ x

-- the state j is the child of the state i by the sound x
pub record Child (n : ℕ) (N : ℕ → Node) (i x j : ℕ) : Type 0 where
  pub some : 0 < j
  pub in_table : j < n
  pub parent_is : (N j).parent ≡ i
  pub sound_is : (N j).sound ≡ x

-- the child of the state i by the sound x, or none
abbrev pub Found : ℕ → (ℕ → Node) → ℕ → ℕ → Option ℕ → Type 0
Found n N i x r = MatchOption r (Childless n N i x) (λ j. Child n N i x j)

-- a state with another first child
abbrev pub with_child : State → ℕ → State
with_child s j = record {
  at = s.at;
  len = s.len;
  sound = s.sound;
  code = s.code;
  parent = s.parent;
  shorter = s.shorter;
  child = j;
  next = s.next;
}

-- a state without children, before the older child k of its parent
abbrev pub newest_child : State → ℕ → State
newest_child s k = record {
  at = s.at;
  len = s.len;
  sound = s.sound;
  code = s.code;
  parent = s.parent;
  shorter = s.shorter;
  child = 0;
  next = k;
}

-- a table with one state more, a child of the state i
abbrev pub grown : List State → ℕ → State → List State
grown ss i s = slice_set ss i (with_child (slice_index_or ss i blank) (length ss)) ++ (s ∷ [])

-- the states are different runs of the phrase, each linked to the run without its last sound and to the one without
-- its first
pub record Runs (p : List ℕ) (n : ℕ) (N : ℕ → Node) : Type 0 where
  pub some : 0 < n
  pub root : (N 0).len ≡ 0
  pub inside : (i : ℕ) → i < n → (N i).at + (N i).len ≤ length p
  pub made : (i : ℕ) → 0 < i → i < n → run p (N i) ≡ run p (N (N i).parent) ++ ((N i).sound ∷ [])
  pub grows : (i : ℕ) → 0 < i → i < n → (N i).len ≡ (N (N i).parent).len + 1
  pub shorter_in : (i : ℕ) → 0 < i → i < n → (N i).shorter < n
  pub shorter_is : (i : ℕ) → 0 < i → i < n → run p (N (N i).shorter) ≡ drop 1 (run p (N i))
  pub shrinks : (i : ℕ) → 0 < i → i < n → (N (N i).shorter).len + 1 ≡ (N i).len
  pub apart : (i j : ℕ) → i < n → j < n → run p (N i) ≡ run p (N j) → i ≡ j

-- a state shorter than l that has no child by x is followed by x nowhere in the phrase
abbrev pub Complete : List ℕ → ℕ → ℕ → (ℕ → Node) → Type 0
Complete p l n N = (i x : ℕ) → i < n → (N i).len < l → Childless n N i x → is_run (run p (N i) ++ (x ∷ [])) p ≡ false

-- the state j is the run of l sounds at the place b
pub record Stands (p : List ℕ) (n : ℕ) (N : ℕ → Node) (l b j : ℕ) : Type 0 where
  pub in_table : j < n
  pub len_is : (N j).len ≡ l
  pub run_is : run p (N j) ≡ take l (drop b p)

-- the table has all runs of up to l sounds, and those of l + 1 sounds at the places below a; none is longer than s.
-- The list of places has for each place the longest of its runs.
pub record Built (p : List ℕ) (l a s n : ℕ) (N : ℕ → Node) (places : List ℕ) : Type 0 where
  pub runs : Runs p n N
  pub short : (i : ℕ) → i < n → (N i).len ≤ s
  pub complete : Complete p l n N
  pub done : (b : ℕ) → b < a → Stands p n N (l + 1) b (slice_index places b)
  pub todo : (b : ℕ) → a ≤ b → b + l ≤ length p → Stands p n N l b (slice_index places b)

-- the most states with up to l sounds: the empty run, and in the longest phrase one place less for each sound more
abbrev pub most : ℕ → ℕ
most zero = 1
most (suc l) = most l + (longest_phrase - l)

-- a state with another code
abbrev pub with_code : State → ℕ → State
with_code s h = record {
  at = s.at;
  len = s.len;
  sound = s.sound;
  code = h;
  parent = s.parent;
  shorter = s.shorter;
  child = s.child;
  next = s.next;
}

-- no state has a code
abbrev pub Uncoded : List State → Type 0
Uncoded ss = (i : ℕ) → i < length ss → (get_or ss i blank).code ≡ 0

-- each state has the code of its run among the figures ps
abbrev pub Codes : List ℕ → List (List ℕ) → ℕ → List State → Type 0
Codes p ps n ss = (i : ℕ) → i < n → (get_or ss i blank).code ≡ code ps (run p (nodes ss i))

-- for each number how often the figure of that code stands among the figures ps
abbrev pub Counts : List (List ℕ) → List ℕ → Type 0
Counts ps counts = (h : ℕ) → slice_index counts h ≡ count_of ps h

-- the state j has a code, or gets the next one
pub record CodeGiven (j codes : ℕ) (ss ss' : List State) (codes' : ℕ) : Type 0 where
  pub old : ((get_or ss j blank).code ≢ 0) → (ss' ≡ ss) × (codes' ≡ codes)
  pub new : (get_or ss j blank).code ≡ 0
      → (ss' ≡ slice_set ss j (with_code (slice_index_or ss j blank) (codes + 1))) × (codes' ≡ codes + 1)

-- the states of a table have the codes of the figures ps, of which as many are different
pub record Numbered (p : List ℕ) (ps : List (List ℕ)) (n : ℕ) (N : ℕ → Node) (ss : List State) (codes : ℕ)
    : Type 0 where
  pub as_many : length ss ≡ n
  pub same : nodes ss ≡ N
  pub each : Codes p ps n ss
  pub many : codes ≡ length (different ps)
