-- The walk of `ring_total`, over the nodes of a tree.
use Rattle.std.proofs.Common.{◌≡◌, ℕ, zero, suc, ◌+◌, ◌-◌, ◌*◌, ◌/◌, ◌%◌, ◌^◌, ◌<◌, ◌≤◌, Bool, true, List, length, get_or, take, drop, sym, refl, ap, ◌∙◌, subst, ⊎_elim, arith, pow_pos}
use Rattle.std.proofs.lemmas.Bool.{cases_lt}
use native.Mathlib.Nat.{pow-succ'}
use Rattle.std.proofs.lemmas.List.{get_or-drop, get_or-take, length-drop, length-take, take_all, drop-drop, get_or_past, get_or_default, take-append-drop}
use Rattle.rows.specs.Laws.{Laws, Kept, Grown, limit, all_joined, sizes, ring}
use Rattle.rows.proofs.Runs.{run, tall}
use Rattle.rows.proofs.Walks.{Walk, begins, goes_left, goes_right, ends, old_size, new_size, tall_inside}
use Rattle.rows.proofs.Totals.{run_total, total_append, sizes_append, size_total}
use Rattle.rows.proofs.Trees.{all_valid, tall_leaves}

module _ {M : Type 0} {empty : M} {joined : M → M → M} {size : M → ℕ} {valid : M → Bool} (laws : Laws empty joined size valid)
    (depth : ℕ) (nodes : List M) (long : length nodes ≡ 2 * 2 ^ depth) (kept : Kept empty joined size valid depth nodes) (head : ℕ) (below : head < 2 ^ depth) where
  abbrev pub Step : ℕ → ℕ → M → M → Type 0
  Step w at older newer = Walk empty joined size valid (λ i. get_or nodes i empty) (2 ^ depth) head w at older newer

  -- the same step under other names of its parts
  pub step_as : (w : ℕ) {at at' : ℕ} {older older' newer newer' : M} → at ≡ at' → older ≡ older' → newer ≡ newer' → Step w at older newer → Step w at' older' newer'
  step_as w {at} {at'} {older} {older'} {newer} {newer'} p q r s =
      subst (λ x. Step w at' older' x) r (subst (λ x. Step w at' x newer) q (subst (λ x. Step w x older newer) p s))

  vs : (i : ℕ) → valid (get_or nodes i empty) ≡ true
  vs = all_valid laws depth nodes long kept.valids

  few : tall size (λ i. get_or nodes i empty) (2 ^ depth) (2 ^ depth) ≤ limit
  few = let e = tall_leaves laws depth nodes long in let k = kept.few in omega (arith, e, k)

  pub ring_begins : Step (2 ^ depth) (2 ^ depth + head) (get_or nodes (2 ^ depth + head) empty) empty
  ring_begins = begins laws (λ i. get_or nodes i empty) vs (2 ^ depth) head below kept.parents few

  -- one turn
  pub ring_left : (k at : ℕ) (older newer : M) → Step (2 ^ k) at older newer → 1 < at → at % 2 ≡ 0 → (j : ℕ) × Step (2 ^ j) (at / 2) (joined older (get_or nodes (at + 1) empty)) newer
  ring_left zero at older newer s b e = let h : at < 2 * 1 = s.high in absurd (omega arith)
  ring_left (suc k) at older newer s b e =
      let d : at ≡ 2 * (at / 2) = omega arith in
      let t : Step (2 * 2 ^ k) (2 * (at / 2)) older newer = subst (λ x. Step (2 * 2 ^ k) x older newer) d (subst (λ x. Step x at older newer) (pow-succ' 2 k) s) in
      let r = goes_left laws (λ i. get_or nodes i empty) vs (2 ^ depth) head below kept.parents few (2 ^ k) (at / 2) older newer (pow_pos k) t in
      (k, subst (λ x. Step (2 ^ k) (at / 2) (joined older (get_or nodes (x + 1) empty)) newer) (sym d) r)

  pub ring_right : (k at : ℕ) (older newer : M) → Step (2 ^ k) at older newer → 1 < at → (at % 2 ≡ 0 → ⊥) → (j : ℕ) × Step (2 ^ j) (at / 2) older (joined (get_or nodes (at - 1) empty) newer)
  ring_right zero at older newer s b e = let h : at < 2 * 1 = s.high in absurd (omega arith)
  ring_right (suc k) at older newer s b e =
      let d : at ≡ 2 * (at / 2) + 1 = omega arith in
      let u : 2 * (at / 2) ≡ at - 1 = omega arith in
      let t : Step (2 * 2 ^ k) (2 * (at / 2) + 1) older newer = subst (λ x. Step (2 * 2 ^ k) x older newer) d (subst (λ x. Step x at older newer) (pow-succ' 2 k) s) in
      let r = goes_right laws (λ i. get_or nodes i empty) vs (2 ^ depth) head below kept.parents few (2 ^ k) (at / 2) older newer (pow_pos k) t in
      (k, subst (λ x. Step (2 ^ k) (at / 2) older (joined (get_or nodes x empty) newer)) u r)

  -- what the joins ask
  pub left_fits : (k at : ℕ) (older newer : M) → Step (2 ^ k) at older newer → 1 < at → at % 2 ≡ 0 → size older + size (get_or nodes (at + 1) empty) ≤ limit
  left_fits zero at older newer s b e = let h : at < 2 * 1 = s.high in absurd (omega arith)
  left_fits (suc k) at older newer s b e =
      let p = pow-succ' 2 k in
      let h : at < 2 * 2 ^ suc k = s.high in
      let o = old_size laws (λ i. get_or nodes i empty) vs (2 ^ depth) head below kept.parents few (2 ^ suc k) at older newer s in
      let i = tall_inside size (λ i. get_or nodes i empty) (suc at) (2 * 2 ^ suc k - suc at) (at + 1) 1 (omega arith) (omega arith) in
      omega (arith, o, i)

  pub right_fits : (k at : ℕ) (older newer : M) → Step (2 ^ k) at older newer → 1 < at → (at % 2 ≡ 0 → ⊥) → size (get_or nodes (at - 1) empty) + size newer ≤ limit
  right_fits zero at older newer s b e = let h : at < 2 * 1 = s.high in absurd (omega arith)
  right_fits (suc k) at older newer s b e =
      let p = pow-succ' 2 k in
      let l : 2 ^ suc k ≤ at = s.low in
      let o = new_size laws (λ i. get_or nodes i empty) vs (2 ^ depth) head below kept.parents few (2 ^ suc k) at older newer s in
      let i = tall_inside size (λ i. get_or nodes i empty) (2 ^ suc k) (at - 2 ^ suc k) (at - 1) 1 (omega arith) (omega arith) in
      omega (arith, o, i)

  pub node_valid : (i : ℕ) → valid (get_or nodes i empty) ≡ true
  node_valid = vs

  at_root : (k at : ℕ) (older newer : M) → Step (2 ^ k) at older newer → at ≤ 1 → Step 1 1 older newer
  at_root k at older newer s b =
      let l : 2 ^ k ≤ at = s.low in
      let p = pow_pos k in
      let d : 2 ^ k ≡ 1 = omega arith in
      let e : at ≡ 1 = omega arith in
      subst (λ x. Step 1 x older newer) e (subst (λ x. Step x at older newer) d s)

  -- the two parts of the ring
  front : run empty joined (λ i. get_or nodes i empty) (2 ^ depth + head) (2 ^ depth - head) ≡ all_joined empty joined (drop head (drop (2 ^ depth) nodes))
  front =
      run_total empty joined nodes (2 ^ depth + head) (2 ^ depth - head) (omega arith)
      ∙ ap (all_joined empty joined) (take_all (2 ^ depth - head) (drop (2 ^ depth + head) nodes) (omega (arith, length-drop (2 ^ depth + head) nodes)) ∙ sym (drop-drop head (2 ^ depth) nodes))

  back : run empty joined (λ i. get_or nodes i empty) (2 ^ depth) head ≡ all_joined empty joined (take head (drop (2 ^ depth) nodes))
  back = run_total empty joined nodes (2 ^ depth) head (omega arith)

  pub ring_parts : (k at : ℕ) (older newer : M) → Step (2 ^ k) at older newer → at ≤ 1 → (older ≡ all_joined empty joined (drop head (drop (2 ^ depth) nodes))) × (newer ≡ all_joined empty joined (take head (drop (2 ^ depth) nodes)))
  ring_parts k at older newer s b =
      let e = ends laws (λ i. get_or nodes i empty) vs (2 ^ depth) head below kept.parents few older newer (at_root k at older newer s b) in
      (e.0 ∙ front, e.1 ∙ back)

  ring_sizes : sizes size (drop head (drop (2 ^ depth) nodes)) + sizes size (take head (drop (2 ^ depth) nodes)) ≤ limit
  ring_sizes =
      let a = sizes_append size (take head (drop (2 ^ depth) nodes)) (drop head (drop (2 ^ depth) nodes)) in
      let b = ap (sizes size) (take-append-drop head (drop (2 ^ depth) nodes)) in
      let k = kept.few in
      omega (arith, a, b, k)

  pub ends_fit : (k at : ℕ) (older newer : M) → Step (2 ^ k) at older newer → at ≤ 1 → size older + size newer ≤ limit
  ends_fit k at older newer s b =
      let e = ring_parts k at older newer s b in
      let p = ap size e.0 ∙ size_total laws (drop head (drop (2 ^ depth) nodes)) in
      let q = ap size e.1 ∙ size_total laws (take head (drop (2 ^ depth) nodes)) in
      omega (arith, p, q, ring_sizes)

  pub ring_ends : (k at : ℕ) (older newer : M) → Step (2 ^ k) at older newer → at ≤ 1 → joined older newer ≡ all_joined empty joined (ring head (drop (2 ^ depth) nodes))
  ring_ends k at older newer s b =
      let e = ring_parts k at older newer s b in
      let v : (i : ℕ) → valid (get_or (drop head (drop (2 ^ depth) nodes)) i empty) ≡ true = λ i. ap valid (get_or-drop head (drop (2 ^ depth) nodes) i empty ∙ get_or-drop (2 ^ depth) nodes (head + i) empty) ∙ vs (2 ^ depth + (head + i)) in
      let w : (i : ℕ) → valid (get_or (take head (drop (2 ^ depth) nodes)) i empty) ≡ true =
      λ i. ⊎_elim
      (λ h. ap valid (get_or-take head (drop (2 ^ depth) nodes) i empty h ∙ get_or-drop (2 ^ depth) nodes i empty) ∙ vs (2 ^ depth + i))
      (λ h. ap valid (get_or_past (take head (drop (2 ^ depth) nodes)) i empty (omega (arith, length-take head (drop (2 ^ depth) nodes)))) ∙ laws.valid_empty)
      (cases_lt i head) in
      ap (λ x. joined x newer) e.0 ∙ ap (joined _) e.1
      ∙ sym (total_append laws (drop head (drop (2 ^ depth) nodes)) (take head (drop (2 ^ depth) nodes)) v w ring_sizes)

-- The walk in a tree of n nodes.
pub record Circling {M : Type 0} (empty : M) (joined : M → M → M) (size : M → ℕ) (valid : M → Bool) (n : ℕ) (nodes : List M) (head at : ℕ) (older newer : M) : Type 0 where
  pub depth : ℕ
  pub level : ℕ
  pub shape : n ≡ 2 * 2 ^ depth
  pub long : length nodes ≡ 2 * 2 ^ depth
  pub kept : Kept empty joined size valid depth nodes
  pub below : head < 2 ^ depth
  pub walk : Walk empty joined size valid (λ i. get_or nodes i empty) (2 ^ depth) head (2 ^ level) at older newer

module _ {M : Type 0} {empty : M} {joined : M → M → M} {size : M → ℕ} {valid : M → Bool} (laws : Laws empty joined size valid)
    (n : ℕ) (nodes : List M) (head : ℕ) where
  pub circling_begins : Grown empty joined size valid n nodes → head < n / 2 → (x y : M) → y ≡ empty → Circling empty joined size valid n nodes head (n / 2 + head) (get_or nodes (n / 2 + head) x) y
  circling_begins t h x y e =
      let s = t.shape in
      let long : length nodes ≡ 2 * 2 ^ t.depth = t.long ∙ s in
      let below : head < 2 ^ t.depth = omega arith in
      let at : 2 ^ t.depth + head ≡ n / 2 + head = omega arith in
      record {
        depth = t.depth;
        level = t.depth;
        shape = s;
        long = long;
        kept = t.kept;
        below = below;
        walk =
            step_as laws t.depth nodes long t.kept head below (2 ^ t.depth)
            at
            (ap (λ i. get_or nodes i empty) at ∙ get_or_default nodes (n / 2 + head) empty x (omega arith))
            (sym e)
            (ring_begins laws t.depth nodes long t.kept head below);
      }

  module _ (at : ℕ) (older newer : M) (c : Circling empty joined size valid n nodes head at older newer) where
    -- what the joins ask, and one turn
    pub left_asks : (x : M) → 1 < at → at % 2 ≡ 0 → (valid older ≡ true) × ((valid (get_or nodes (at + 1) x) ≡ true) × (size older + size (get_or nodes (at + 1) x) ≤ limit))
    left_asks x h e =
        let s = c.walk in
        let high = s.high in
        let inside = s.inside in
        let long = c.long in
        let d = get_or_default nodes (at + 1) empty x (omega arith) in (
          s.old_valid,
          (
            subst (λ z. valid z ≡ true) d (node_valid laws c.depth nodes c.long c.kept head c.below (at + 1)),
            subst (λ z. size older + size z ≤ limit) d (left_fits laws c.depth nodes c.long c.kept head c.below c.level at older newer s h e),
          ),
        )

    pub goes_on_left : (x older' newer' : M) → 1 < at → at % 2 ≡ 0 → older' ≡ joined older (get_or nodes (at + 1) x) → newer' ≡ newer → Circling empty joined size valid n nodes head (at / 2) older' newer'
    goes_on_left x older' newer' h e p q =
        let s = c.walk in
        let high = s.high in
        let inside = s.inside in
        let long = c.long in
        let d = get_or_default nodes (at + 1) empty x (omega arith) in
        let r = ring_left laws c.depth nodes c.long c.kept head c.below c.level at older newer s h e in
        record {
          depth = c.depth;
          level = r.0;
          shape = c.shape;
          long = c.long;
          kept = c.kept;
          below = c.below;
          walk = step_as laws c.depth nodes c.long c.kept head c.below (2 ^ r.0) refl (ap (joined older) d ∙ sym p) (sym q) r.1;
        }

    pub right_asks : (x : M) → 1 < at → (at % 2 ≡ 0 → ⊥) → (valid (get_or nodes (at - 1) x) ≡ true) × ((valid newer ≡ true) × (size (get_or nodes (at - 1) x) + size newer ≤ limit))
    right_asks x h e =
        let s = c.walk in
        let high = s.high in
        let inside = s.inside in
        let long = c.long in
        let d = get_or_default nodes (at - 1) empty x (omega arith) in (
          subst (λ z. valid z ≡ true) d (node_valid laws c.depth nodes c.long c.kept head c.below (at - 1)),
          (
            s.new_valid,
            subst (λ z. size z + size newer ≤ limit) d (right_fits laws c.depth nodes c.long c.kept head c.below c.level at older newer s h e),
          ),
        )

    pub goes_on_right : (x older' newer' : M) → 1 < at → (at % 2 ≡ 0 → ⊥) → older' ≡ older → newer' ≡ joined (get_or nodes (at - 1) x) newer → Circling empty joined size valid n nodes head (at / 2) older' newer'
    goes_on_right x older' newer' h e p q =
        let s = c.walk in
        let high = s.high in
        let inside = s.inside in
        let long = c.long in
        let d = get_or_default nodes (at - 1) empty x (omega arith) in
        let r = ring_right laws c.depth nodes c.long c.kept head c.below c.level at older newer s h e in
        record {
          depth = c.depth;
          level = r.0;
          shape = c.shape;
          long = c.long;
          kept = c.kept;
          below = c.below;
          walk = step_as laws c.depth nodes c.long c.kept head c.below (2 ^ r.0) refl (sym p) (ap (λ u. joined u newer) d ∙ sym q) r.1;
        }

    pub ends_ask : at ≤ 1 → (valid older ≡ true) × ((valid newer ≡ true) × (size older + size newer ≤ limit))
    ends_ask h =
        let s = c.walk in
        (s.old_valid, (s.new_valid, ends_fit laws c.depth nodes c.long c.kept head c.below c.level at older newer s h))

    pub all_round : at ≤ 1 → (all : M) (leaves : List M) → all ≡ joined older newer → drop (n / 2) nodes ≡ leaves → all ≡ all_joined empty joined (ring head leaves)
    all_round h all leaves e is =
        let half : 2 ^ c.depth ≡ n / 2 = let s = c.shape in omega arith in
        e ∙ ring_ends laws c.depth nodes c.long c.kept head c.below c.level at older newer c.walk h
        ∙ ap (λ ys. all_joined empty joined (ring head ys)) (ap (λ a. drop a nodes) half ∙ is)
