-- A sound is heard by the table of all runs.
use Rattle.std.specs.Prelude.{◌≡◌, ℕ, ◌<◌, ◌≤◌, List, [], ◌∷◌, ◌++◌, length, take, drop, ◌≢◌, slice_index_or, refl}
use Rattle.std.proofs.Common.{sym, ap, ap₂, subst, ◌∙◌, inl, inr, arith}
use Rattle.std.proofs.lemmas.Bool.{cases_lt, both_ways}
use Rattle.std.proofs.lemmas.List.{length_push, take-append-drop}
use Rattle.terms.specs.Reading.{Run, LongestEnd, is_run, remembered}
use Rattle.terms.proofs.Reading.{run_is_run, every_reader_lem, hear_longer, hear_full, hear_shorter}
use Rattle.readers.specs.declared.state.State.{State}
use Rattle.readers.specs.Table.{nodes, blank, Childless, Child, run}
use Rattle.readers.specs.States.{Keeps}
use Rattle.readers.specs.Building.{run_length}
use Rattle.readers.specs.Answering.{code_answered}
use Rattle.readers.specs.Memory.{held, Hears, with_phrase}

keep : (q : ℕ) (p r : List ℕ) (x : ℕ) → length (r ++ (x ∷ [])) ≤ q → Run (r ++ (x ∷ [])) p → remembered q p (r ++ (x ∷ [])) ≡ r ++ (x ∷ [])
keep q p [] x h k = hear_longer q p x [] h k
keep q p (y ∷ ys) x h k = hear_longer q p y (ys ++ (x ∷ [])) h k

shorten : (q : ℕ) (p r : List ℕ) (x : ℕ) → 0 < length r → (Run (r ++ (x ∷ [])) p → length (r ++ (x ∷ [])) ≤ q → ⊥) → remembered q p (r ++ (x ∷ [])) ≡ remembered q p (drop 1 r ++ (x ∷ []))
shorten q p [] x h k = absurd (omega arith)
shorten q p (y ∷ ys) x h k = elim (cases_lt q (length (y ∷ (ys ++ (x ∷ []))))) [
  | inl a ↦ hear_full q p y (ys ++ (x ∷ [])) a
  | inr a ↦ hear_shorter q p y (ys ++ (x ∷ [])) (λ u. k u a)
]

none : (q : ℕ) (p : List ℕ) (x : ℕ) → (Run (x ∷ []) p → ⊥) → remembered q p (x ∷ []) ≡ []
none q p x k = hear_shorter q p x [] k ∙ (unfold remembered in refl)

-- a part of the phrase is a run of it
pub part_run : (p : List ℕ) (a l : ℕ) → Run (take l (drop a p)) p
part_run p a l = record {
  before = take a p;
  after = drop l (drop a p);
  is = ap (λ v. take a p ++ v) (take-append-drop l (drop a p)) ∙ take-append-drop a p;
}

module _ (p : List ℕ) (q here : ℕ) (ss : List State) (counts : List ℕ) (k : Keeps p q here ss counts) where
  -- the root is the empty run
  root_run : run p (nodes ss 0) ≡ []
  root_run = ap (λ v. take v (drop (nodes ss 0).at p)) k.runs.root

  pub follow_child : (at x j : ℕ) → Child (length ss) (nodes ss) at x j → run p (nodes ss j) ≡ remembered q p (run p (nodes ss at) ++ (x ∷ []))
  follow_child at x j c =
      let r = k.runs in
      let m : run p (nodes ss j) ≡ run p (nodes ss at) ++ (x ∷ []) = r.made j c.some c.in_table ∙ ap₂ (λ u v. run p (nodes ss u) ++ (v ∷ [])) c.parent_is c.sound_is in
      let l = run_length p (nodes ss j).at (nodes ss j).len (r.inside j c.in_table) in
      let s = k.short j c.in_table in
      let lm = ap length m in
      m ∙ sym (keep q p (run p (nodes ss at)) x (omega arith) (subst (λ v. Run v p) m (part_run p (nodes ss j).at (nodes ss j).len)))

  not_longer : (at x : ℕ) → at < length ss → Childless (length ss) (nodes ss) at x → Run (run p (nodes ss at) ++ (x ∷ [])) p → length (run p (nodes ss at) ++ (x ∷ [])) ≤ q → ⊥
  not_longer at x h c u l =
      let a = run_length p (nodes ss at).at (nodes ss at).len (k.runs.inside at h) in
      let b = length_push (run p (nodes ss at)) x in
      both_ways (is_run (run p (nodes ss at) ++ (x ∷ [])) p) (k.complete at x h (omega arith) c) (run_is_run _ p u)

  pub follow_on : (at x : ℕ) → at < length ss → (at ≢ 0) → Childless (length ss) (nodes ss) at x
      → remembered q p (run p (nodes ss (nodes ss at).shorter) ++ (x ∷ [])) ≡ remembered q p (run p (nodes ss at) ++ (x ∷ []))
  follow_on at x h z c =
      let a = run_length p (nodes ss at).at (nodes ss at).len (k.runs.inside at h) in
      let g = k.runs.grows at (omega arith) h in
      ap (λ v. remembered q p (v ++ (x ∷ []))) (k.runs.shorter_is at (omega arith) h) ∙ sym (shorten q p (run p (nodes ss at)) x (omega arith) (not_longer at x h c))

  pub follow_end : (at x : ℕ) → at < length ss → at ≡ 0 → Childless (length ss) (nodes ss) at x → run p (nodes ss 0) ≡ remembered q p (run p (nodes ss at) ++ (x ∷ []))
  follow_end at x h z c =
      let e = root_run in
      let f : run p (nodes ss at) ≡ [] = ap (λ v. run p (nodes ss v)) z ∙ e in
      let s = k.some in
      let no = not_longer at x h c in
      let no' : Run (x ∷ []) p → length (x ∷ []) ≤ q → ⊥ = subst (λ v. Run (v ++ (x ∷ [])) p → length (v ++ (x ∷ [])) ≤ q → ⊥) f no in
      e ∙ sym (none q p x (λ u. no' u s)) ∙ ap (λ v. remembered q p (v ++ (x ∷ []))) (sym f)

  -- the reader stands at another state
  pub at_state : (j : ℕ) → j < length ss → Keeps p q j ss counts
  at_state j h = record { some = k.some; inside = h; runs = k.runs; short = k.short; complete = k.complete; codes = k.codes; counted = k.counted }

  pub at_root : Keeps p q 0 ss counts
  at_root = at_state 0 k.runs.some

  -- a state is a run of the phrase, at most q long
  pub whole_state : (length (run p (nodes ss here)) ≤ q) × Run (run p (nodes ss here)) p
  whole_state =
      let l = run_length p (nodes ss here).at (nodes ss here).len (k.runs.inside here k.inside) in
      let s = k.short here k.inside in
      (omega arith, part_run p (nodes ss here).at (nodes ss here).len)

  -- a sound leads to the state of the longest end, and that state has the answer
  pub heard_at : (x j : ℕ) → j < length ss → run p (nodes ss j) ≡ remembered q p (run p (nodes ss here) ++ (x ∷ []))
      → Hears (held p q (run p (nodes ss here))) x (held p q (run p (nodes ss j))) (slice_index_or ss j blank).code
  heard_at x j h e =
      with_phrase (subst (LongestEnd q p (run p (nodes ss here) ++ (x ∷ []))) (sym e) ((every_reader_lem q p).found (run p (nodes ss here) ++ (x ∷ []))))
      (k.codes j h ∙ code_answered q p (run p (nodes ss j)))
