-- The leaves of a tree decide all of its nodes.
use Rattle.std.proofs.Common.{◌≡◌, ℕ, zero, suc, ◌+◌, ◌-◌, ◌*◌, ◌/◌, ◌^◌, ◌<◌, ◌≤◌, Bool, List, [], ◌∷◌, length, get_or, drop, sym, refl, ap, ◌∙◌, ⊎_elim, arith}
use Rattle.std.proofs.lemmas.Bool.{cases_lt}
use Rattle.std.proofs.lemmas.List.{get_or-drop}
use Rattle.rows.specs.Laws.{Grown, LeavesDecide}

same_lists : {M : Type 0} (x : M) (xs ys : List M) → length xs ≡ length ys → ((i : ℕ) → get_or xs i x ≡ get_or ys i x) → xs ≡ ys
same_lists x [] [] l e = refl
same_lists x [] (b ∷ ys) l e = absurd (omega arith)
same_lists x (a ∷ xs) [] l e = absurd (omega arith)
same_lists x (a ∷ xs) (b ∷ ys) l e =
    ap (λ z. z ∷ xs) (e zero) ∙ ap (λ zs. b ∷ zs) (same_lists x xs ys (omega arith) (λ i. e (suc i)))

module _ {M : Type 0} (empty : M) (joined : M → M → M) (size : M → ℕ) (valid : M → Bool) (n : ℕ) (xs ys : List M)
    (t : Grown empty joined size valid n xs) (u : Grown empty joined size valid n ys) (leaves : drop (n / 2) xs ≡ drop (n / 2) ys) where
  same_leaf : (i : ℕ) → n / 2 ≤ i → get_or xs i empty ≡ get_or ys i empty
  same_leaf i h =
      let e : n / 2 + (i - n / 2) ≡ i = omega arith in
      ap (λ k. get_or xs k empty) (sym e)
      ∙ sym (get_or-drop (n / 2) xs (i - n / 2) empty)
      ∙ ap (λ zs. get_or zs (i - n / 2) empty) leaves
      ∙ get_or-drop (n / 2) ys (i - n / 2) empty
      ∙ ap (λ k. get_or ys k empty) e

  -- a node that stands at most m places before the leaves: its children stand nearer
  same_node : (m i : ℕ) → n / 2 ≤ i + m → get_or xs i empty ≡ get_or ys i empty
  same_node zero i h = same_leaf i (omega arith)
  same_node (suc m) zero h = t.unused ∙ sym u.unused
  same_node (suc m) (suc i) h =
      let s = t.shape in
      let s' = u.shape in
      ⊎_elim
      (λ b.
      t.kept.parents (suc i) (omega arith) (omega arith)
      ∙ ap (λ z. joined z (get_or xs (2 * suc i + 1) empty)) (same_node m (2 * suc i) (omega arith))
      ∙ ap (joined (get_or ys (2 * suc i) empty)) (same_node m (2 * suc i + 1) (omega arith))
      ∙ sym (u.kept.parents (suc i) (omega arith) (omega arith)))
      (λ b. same_leaf (suc i) b)
      (cases_lt (suc i) (n / 2))

  same_nodes : xs ≡ ys
  same_nodes = same_lists empty xs ys (t.long ∙ sym u.long) (λ i. same_node (n / 2) i (omega arith))

pub leaves_decide : {M : Type 0} (empty : M) (joined : M → M → M) (size : M → ℕ) (valid : M → Bool) (n : ℕ) → LeavesDecide empty joined size valid n
leaves_decide empty joined size valid n xs ys t u leaves = same_nodes empty joined size valid n xs ys t u leaves
