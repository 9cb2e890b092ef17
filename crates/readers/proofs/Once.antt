-- The states of a built table are the runs of the phrase, each once.
use Rattle.std.proofs.Common.{◌≡◌, ℕ, zero, suc, ◌<◌, ◌≤◌, ◌⊎◌, List, [], ◌∷◌, ◌++◌, length, get_or, take, drop, sym, ap, ◌∙◌, subst, ap₂, inl, inr, append_assoc, add-one, arith}
use Rattle.std.proofs.lemmas.Bool.{cases_eq, both_ways}
use Rattle.std.proofs.lemmas.List.{length-take, take-append-drop, take_more, take_all}
use Rattle.terms.specs.Limits.{most_states}
use Rattle.terms.specs.Reading.{Run, is_run}
use Rattle.terms.proofs.Reading.{run_is_run}
use Rattle.readers.specs.Table.{Node, Childless, Child, run, Built, EachRunOnce}
use Rattle.readers.specs.Building.{run_length}
use Rattle.readers.specs.Grows.{up}
use Rattle.readers.specs.Hearing.{part_run}

-- of the states below n one is the child, or none is
child_or_none : (n : ℕ) (N : ℕ → Node) (i x : ℕ) → ((j : ℕ) × Child n N i x j) ⊎ Childless n N i x
child_or_none zero N i x = inr (λ j a b p s. omega arith)
child_or_none (suc n) N i x = elim (child_or_none n N i x) [
  | inl k ↦
      let c = k.1 in
      let b = c.in_table in
      inl (k.0, record { some = c.some; in_table = omega arith; parent_is = c.parent_is; sound_is = c.sound_is })
  | inr f ↦ here f (cases_eq n 0) (cases_eq (N n).parent i) (cases_eq (N n).sound x)
]
  where
    other : Childless n N i x → (0 < n → (N n).parent ≡ i → (N n).sound ≡ x → ⊥) → Childless (suc n) N i x
    other f g j a b p s = elim (up n j (omega arith)) [
      | inl h ↦ f j a h p s
      | inr h ↦ g (omega arith) (ap (λ v. (N v).parent) (sym h) ∙ p) (ap (λ v. (N v).sound) (sym h) ∙ s)
    ]

    here : Childless n N i x → (n ≡ 0) ⊎ (n ≡ 0 → ⊥) → ((N n).parent ≡ i) ⊎ ((N n).parent ≡ i → ⊥) → ((N n).sound ≡ x) ⊎ ((N n).sound ≡ x → ⊥)
        → ((j : ℕ) × Child (suc n) N i x j) ⊎ Childless (suc n) N i x
    here f (inl z) b c = inr (other f (λ a p s. omega arith))
    here f (inr z) (inl p) (inl s) = inl (n, record { some = omega arith; in_table = omega arith; parent_is = p; sound_is = s })
    here f (inr z) (inl p) (inr s) = inr (other f (λ a b c. s c))
    here f (inr z) (inr p) c = inr (other f (λ a b d. p b))

-- the front of a run is a run
front_run : (p r : List ℕ) (k : ℕ) → Run r p → Run (take k r) p
front_run p r k u = record {
  before = u.before;
  after = drop k r ++ u.after;
  is = ap (λ v. u.before ++ v) (sym (append_assoc (take k r) (drop k r) u.after) ∙ ap (λ v. v ++ u.after) (take-append-drop k r)) ∙ u.is;
}

module _ (p : List ℕ) (q n : ℕ) (N : ℕ → Node) (places : List ℕ) (b : Built p q 0 q n N places) (room : n ≤ most_states) where
  abbrev StateOf : List ℕ → Type 0
  StateOf r = (i : ℕ) × ((i < n) × (run p (N i) ≡ r))

  -- the fronts of a run, one sound more at a time
  front : (r : List ℕ) → Run r p → length r ≤ q → (k : ℕ) → k ≤ length r → StateOf (take k r)
  front r u l zero h = (0, (b.runs.some, ap (λ v. take v (drop (N 0).at p)) b.runs.root))
  front r u l (suc k) h =
      let s = front r u l k (omega arith) in
      let i = s.0 in
      let x = get_or r k 0 in
      let t : take (suc k) r ≡ take k r ++ (x ∷ []) = ap (λ v. take v r) (sym (add-one k)) ∙ take_more r k 0 (omega arith) in
      let e : run p (N i) ++ (x ∷ []) ≡ take (suc k) r = ap (λ v. v ++ (x ∷ [])) s.1.1 ∙ sym t in
      go i x s.1.0 s.1.1 e (child_or_none n N i x)
    where
      go : (i x : ℕ) → i < n → run p (N i) ≡ take k r → run p (N i) ++ (x ∷ []) ≡ take (suc k) r → ((j : ℕ) × Child n N i x j) ⊎ Childless n N i x → StateOf (take (suc k) r)
      go i x a s e (inl c) =
          let j = c.0 in
          let d = c.1 in
          (j, (d.in_table, b.runs.made j d.some d.in_table ∙ ap₂ (λ u v. run p (N u) ++ (v ∷ [])) d.parent_is d.sound_is ∙ e))
      go i x a s e (inr c) =
          let m = run_length p (N i).at (N i).len (b.runs.inside i a) in
          let f = ap length s in
          let g = length-take k r in
          let w = run_is_run _ p (subst (λ v. Run v p) (sym e) (front_run p r (suc k) u)) in
          absurd (both_ways (is_run (run p (N i) ++ (x ∷ [])) p) (b.complete i x a (omega arith) c) w)

  pub each_once : EachRunOnce p q n N
  each_once = record {
    few = room;
    a_run = λ i h. part_run p (N i).at (N i).len;
    short = λ i h. let m = run_length p (N i).at (N i).len (b.runs.inside i h) in let s = b.short i h in omega arith;
    each = λ r u l. subst StateOf (take_all (length r) r (omega arith)) (front r u l (length r) (omega arith));
    once = b.runs.apart;
  }
