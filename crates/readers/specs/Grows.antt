-- A table with one more state.
use Rattle.std.specs.Prelude.{◌≡◌, ℕ, ◌+◌, ◌<◌, ◌≤◌, ◌≢◌, ◌⊎◌, List, [], ◌∷◌, length, get_or, slice_index_or, slice_set, refl}
use Rattle.std.proofs.Common.{sym, ap, subst, ◌∙◌, inl, inr, arith}
use Rattle.std.proofs.lemmas.Bool.{cases_eq, cases_lt}
use Rattle.std.proofs.lemmas.List.{get_or-set_same, get_or-set_other, length-set, length_push, get_or_push, get_or_append_left}
use Rattle.readers.specs.declared.state.State.{State}
use Rattle.readers.specs.Table.{Node, node, nodes, blank, with_child, grown, Tree, Uncoded}

-- two states alike in all but the first child
pub record Alike (a b : Node) : Type 0 where
  pub at : a.at ≡ b.at
  pub len : a.len ≡ b.len
  pub sound : a.sound ≡ b.sound
  pub parent : a.parent ≡ b.parent
  pub shorter : a.shorter ≡ b.shorter
  pub next : a.next ≡ b.next

-- N' is N with one state more, s, at n, a child of i
pub record Grown (n i : ℕ) (s : Node) (N N' : ℕ → Node) : Type 0 where
  pub under : i < n
  pub alike : (k : ℕ) → k < n → Alike (N' k) (N k)
  pub here : (N' i).child ≡ n
  pub other : (k : ℕ) → k < n → (k ≢ i) → (N' k).child ≡ (N k).child
  pub new : N' n ≡ s
  pub parent_is : s.parent ≡ i
  pub child_is : s.child ≡ 0
  pub next_is : s.next ≡ (N i).child

pub up : (n j : ℕ) → j < n + 1 → (j < n) ⊎ (j ≡ n)
up n j h = elim (cases_lt j n) [ inl a ↦ inl a | inr a ↦ inr (omega arith) ]

module _ (n i : ℕ) (s : Node) (N N' : ℕ → Node) (g : Grown n i s N N') (t : Tree n N) where
  new_parent : (N' n).parent ≡ i
  new_parent = ap (λ (v : Node). v.parent) g.new ∙ g.parent_is

  new_child : (N' n).child ≡ 0
  new_child = ap (λ (v : Node). v.child) g.new ∙ g.child_is

  new_next : (N' n).next ≡ (N i).child
  new_next = ap (λ (v : Node). v.next) g.new ∙ g.next_is

  parent_in : (j : ℕ) → 0 < j → (j < n) ⊎ (j ≡ n) → (N' j).parent < j
  parent_in j z (inl h) = let a = (g.alike j h).parent in let b = t.parent_in j z h in omega arith
  parent_in j z (inr h) = subst (λ v. (N' v).parent < v) (sym h) (let a = new_parent in let b = g.under in omega arith)

  first_in : (j : ℕ) → (j < n) ⊎ (j ≡ n) → (N' j).child < n + 1
  first_in j (inl h) = elim (cases_eq j i) [
    | inl e ↦ subst (λ v. (N' v).child < n + 1) (sym e) (let a = g.here in omega arith)
    | inr e ↦ let a = g.other j h e in let b = t.first_in j h in omega arith
  ]
  first_in j (inr h) = subst (λ v. (N' v).child < n + 1) (sym h) (let a = new_child in omega arith)

  first_of : (j : ℕ) → (j < n) ⊎ (j ≡ n) → 0 < (N' j).child → (N' (N' j).child).parent ≡ j
  first_of j (inl h) z = elim (cases_eq j i) [
    | inl e ↦ ap (λ v. (N' (N' v).child).parent) e ∙ ap (λ v. (N' v).parent) g.here ∙ new_parent ∙ sym e
    | inr e ↦
        let a = g.other j h e in
        let b = t.first_in j h in
        ap (λ v. (N' v).parent) a ∙ (g.alike (N j).child b).parent ∙ t.first_of j h (omega arith)
  ]
  first_of j (inr h) z = let a = ap (λ v. (N' v).child) h in let b = new_child in absurd (omega arith)

  first_most : (j : ℕ) → 0 < j → (j < n) ⊎ (j ≡ n) → j ≤ (N' (N' j).parent).child
  first_most j z (inl h) =
      let a = (g.alike j h).parent in
      let b = t.parent_in j z h in
      let c = t.first_most j z h in
      subst (λ v. j ≤ (N' v).child) (sym a) (elim (cases_eq (N j).parent i) [
        | inl e ↦ subst (λ v. j ≤ (N' v).child) (sym e) (let d = g.here in omega arith)
        | inr e ↦ let d = g.other (N j).parent (omega arith) e in omega arith
      ])
  first_most j z (inr h) = subst (λ v. v ≤ (N' (N' v).parent).child) (sym h) (let a = ap (λ v. (N' v).child) new_parent in let b = g.here in omega arith)

  next_in : (k : ℕ) → 0 < k → (k < n) ⊎ (k ≡ n) → (N' k).next < k
  next_in k z (inl h) = let a = (g.alike k h).next in let b = t.next_in k z h in omega arith
  next_in k z (inr h) = subst (λ v. (N' v).next < v) (sym h) (let a = new_next in let b = t.first_in i g.under in omega arith)

  next_of : (k : ℕ) → 0 < k → (k < n) ⊎ (k ≡ n) → 0 < (N' k).next → (N' (N' k).next).parent ≡ (N' k).parent
  next_of k z (inl h) y =
      let a = (g.alike k h).next in
      let b = t.next_in k z h in
      ap (λ v. (N' v).parent) a ∙ (g.alike (N k).next (omega arith)).parent ∙ t.next_of k z h (omega arith) ∙ sym (g.alike k h).parent
  next_of k z (inr h) y =
      let f = ap (λ v. (N' v).next) h ∙ new_next in
      let b = t.first_in i g.under in
      ap (λ v. (N' v).parent) f ∙ (g.alike (N i).child b).parent ∙ t.first_of i g.under (omega arith) ∙ sym new_parent ∙ ap (λ v. (N' v).parent) (sym h)

  next_most : (j k : ℕ) → 0 < j → j < k → (k < n) ⊎ (k ≡ n) → (N' j).parent ≡ (N' k).parent → j ≤ (N' k).next
  next_most j k z l (inl h) e =
      let jn : j < n = omega arith in
      let a = (g.alike k h).next in
      let b = t.next_most j k z l h (sym (g.alike j jn).parent ∙ e ∙ (g.alike k h).parent) in
      omega arith
  next_most j k z l (inr h) e =
      let jn : j < n = omega arith in
      let p = sym (g.alike j jn).parent ∙ e ∙ ap (λ v. (N' v).parent) h ∙ new_parent in
      let a = t.first_most j z jn in
      let b = ap (λ v. (N v).child) p in
      let f = ap (λ v. (N' v).next) h ∙ new_next in
      omega arith

  pub tree_grown : Tree (n + 1) N'
  tree_grown = record {
    parent_in = λ j z h. parent_in j z (up n j h);
    first_in = λ j h. first_in j (up n j h);
    first_of = λ j h. first_of j (up n j h);
    first_most = λ j z h. first_most j z (up n j h);
    next_in = λ j z h. next_in j z (up n j h);
    next_of = λ j z h. next_of j z (up n j h);
    next_most = λ j k z l h. next_most j k z l (up n k h);
  }

-- the states with the new one linked to its parent
abbrev linked : List State → ℕ → List State
linked ss i = slice_set ss i (with_child (slice_index_or ss i blank) (length ss))

pub length_grown : (ss : List State) (i : ℕ) (s : State) → length (grown ss i s) ≡ length ss + 1
length_grown ss i s = length_push (linked ss i) s ∙ ap (λ v. v + 1) (length-set ss i (with_child (slice_index_or ss i blank) (length ss)))

pub grown_new : (ss : List State) (i : ℕ) (s : State) → slice_index_or (grown ss i s) (length ss) blank ≡ s
grown_new ss i s = get_or_push (linked ss i) s blank (length ss) (length-set ss i (with_child (slice_index_or ss i blank) (length ss)))

grown_old : (ss : List State) (i : ℕ) (s : State) (k : ℕ) → k < length ss → slice_index_or (grown ss i s) k blank ≡ slice_index_or (linked ss i) k blank
grown_old ss i s k h =
    let l = length-set ss i (with_child (slice_index_or ss i blank) (length ss)) in
    get_or_append_left (linked ss i) (s ∷ []) blank k (omega arith)

pub grown_here : (ss : List State) (i : ℕ) (s : State) → i < length ss → slice_index_or (grown ss i s) i blank ≡ with_child (slice_index_or ss i blank) (length ss)
grown_here ss i s h = grown_old ss i s i h ∙ get_or-set_same ss i (with_child (slice_index_or ss i blank) (length ss)) blank h

pub grown_other : (ss : List State) (i : ℕ) (s : State) (k : ℕ) → k < length ss → (k ≢ i) → slice_index_or (grown ss i s) k blank ≡ slice_index_or ss k blank
grown_other ss i s k h e = grown_old ss i s k h ∙ get_or-set_other ss i k (with_child (slice_index_or ss i blank) (length ss)) blank e

same_but_child : (a b c : State) → a ≡ b → (j : ℕ) → b ≡ with_child c j → Alike (node a) (node c)
same_but_child a b c e j f = record {
  at = ap (λ (v : State). v.at) (e ∙ f);
  len = ap (λ (v : State). v.len) (e ∙ f);
  sound = ap (λ (v : State). v.sound) (e ∙ f);
  parent = ap (λ (v : State). v.parent) (e ∙ f);
  shorter = ap (λ (v : State). v.shorter) (e ∙ f);
  next = ap (λ (v : State). v.next) (e ∙ f);
}

grown_alike : (ss : List State) (i : ℕ) (s : State) → i < length ss → (k : ℕ) → k < length ss → Alike (nodes (grown ss i s) k) (nodes ss k)
grown_alike ss i s li k h = elim (cases_eq k i) [
  | inl e ↦ subst (λ v. Alike (nodes (grown ss i s) v) (nodes ss v)) (sym e) (same_but_child _ _ (slice_index_or ss i blank) (grown_here ss i s li) (length ss) refl)
  | inr e ↦ same_but_child _ _ (slice_index_or ss k blank) (grown_other ss i s k h e) (get_or ss k blank).child refl
]

pub grown_is : (ss : List State) (i : ℕ) (s : State) → i < length ss → s.parent ≡ i → s.child ≡ 0 → s.next ≡ (get_or ss i blank).child
    → Grown (length ss) i (node s) (nodes ss) (nodes (grown ss i s))
grown_is ss i s li p c x = record {
  under = li;
  alike = grown_alike ss i s li;
  here = ap (λ (v : State). v.child) (grown_here ss i s li);
  other = λ k h e. ap (λ (v : State). v.child) (grown_other ss i s k h e);
  new = ap node (grown_new ss i s);
  parent_is = p;
  child_is = c;
  next_is = x;
}

-- the facts of a table stay true
pub grown_tree : (ss : List State) (i : ℕ) (s : State) → i < length ss → s.parent ≡ i → s.child ≡ 0 → s.next ≡ (get_or ss i blank).child → Tree (length ss) (nodes ss)
    → Tree (length (grown ss i s)) (nodes (grown ss i s))
grown_tree ss i s li p c x t =
    subst (λ n. Tree n (nodes (grown ss i s))) (sym (length_grown ss i s)) (tree_grown (length ss) i (node s) (nodes ss) (nodes (grown ss i s)) (grown_is ss i s li p c x) t)

pub uncoded_grown : (ss : List State) (i : ℕ) (s : State) → i < length ss → s.code ≡ 0 → Uncoded ss → Uncoded (grown ss i s)
uncoded_grown ss i s li e u k h = elim (up (length ss) k (let l = length_grown ss i s in omega arith)) [
  | inr a ↦ ap (λ v. (get_or (grown ss i s) v blank).code) a ∙ ap (λ (v : State). v.code) (grown_new ss i s) ∙ e
  | inl a ↦ elim (cases_eq k i) [
    | inl b ↦ ap (λ v. (get_or (grown ss i s) v blank).code) b ∙ ap (λ (v : State). v.code) (grown_here ss i s li) ∙ u i li
    | inr b ↦ ap (λ (v : State). v.code) (grown_other ss i s k a b) ∙ u k a
  ]
]
