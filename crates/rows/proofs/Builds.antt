-- The loop of `from_leaves`: from the last inner node down to the root.
use Rattle.std.proofs.Common.{◌≡◌, ℕ, suc, ◌+◌, ◌-◌, ◌*◌, ◌/◌, ◌^◌, ◌<◌, ◌≤◌, Bool, true, List, ◌++◌, length, get_or, take, drop, set, replicate, sym, ap, ◌∙◌, subst, ⊎_elim, arith, pow_pos}
use borrow.Rule.Slice.PartMut.{put_mid}
use Rattle.std.proofs.lemmas.Bool.{cases_eq, cases_lt}
use Rattle.std.proofs.lemmas.List.{append-nil, length-append, length-set, get_or-set_same, get_or-set_other, get_or_append_left, get_or-append_right, get_or_default, drop-set-lt, drop_all, drop_at, take-replicate, length-replicate, get_or-replicate, length-drop}
use Rattle.rows.specs.Laws.{Laws, Kept, Grown, TreeSize, limit, sizes}
use Rattle.rows.proofs.Runs.{tall, tall_same, tall_split}
use Rattle.rows.proofs.Walks.{tall_inside}
use Rattle.rows.proofs.Trees.{all_valid, tall_leaves, get_or_none}
use Rattle.rows.proofs.Climbs.{apart, set_valids}

module _ {M : Type 0} (empty : M) (joined : M → M → M) (size : M → ℕ) (valid : M → Bool) (depth : ℕ) (target : List M) where
  -- The nodes from i on are as they should be. The nodes i to 2 i - 1 hold all leaves, each once.
  pub record Built (i : ℕ) (xs : List M) : Type 0 where
    pub some : 0 < i
    pub inside : i ≤ 2 ^ depth
    pub long : length xs ≡ 2 * 2 ^ depth
    pub parents : (j : ℕ) → i ≤ j → j < 2 ^ depth → get_or xs j empty ≡ joined (get_or xs (2 * j) empty) (get_or xs (2 * j + 1) empty)
    pub valids : (j : ℕ) → j < length xs → valid (get_or xs j empty) ≡ true
    pub few : tall size (λ j. get_or xs j empty) i i ≤ limit
    pub leaves_are : drop (2 ^ depth) xs ≡ target

module _ {M : Type 0} {empty : M} {joined : M → M → M} {size : M → ℕ} {valid : M → Bool} (laws : Laws empty joined size valid)
    (depth : ℕ) (target : List M) where
  pub built_begins : (xs : List M) → length xs ≡ 2 * 2 ^ depth → ((j : ℕ) → j < length xs → valid (get_or xs j empty) ≡ true) → drop (2 ^ depth) xs ≡ target → sizes size target ≤ limit → Built empty joined size valid depth target (2 ^ depth) xs
  built_begins xs long v is few = record {
    some = pow_pos depth;
    inside = omega arith;
    long = long;
    parents = λ j p q. absurd (omega arith);
    valids = v;
    few = subst (λ x. x ≤ limit) (sym (tall_leaves laws depth xs long ∙ ap (sizes size) is)) few;
    leaves_are = is;
  }

  pub built_fits : (i : ℕ) (xs : List M) → Built empty joined size valid depth target (i + 1) xs → 0 < i → size (get_or xs (2 * i) empty) + size (get_or xs (2 * i + 1) empty) ≤ limit
  built_fits i xs b h =
      let u : suc (2 * i) ≡ 2 * i + 1 = omega arith in
      let t = ap (λ x. size (get_or xs x empty)) u in
      let f = b.few in
      let k = tall_inside size (λ j. get_or xs j empty) (i + 1) (i + 1) (2 * i) 2 (omega arith) (omega arith) in
      omega (arith, k, f, t)

  pub built_more : (i : ℕ) (xs : List M) → Built empty joined size valid depth target (i + 1) xs → 0 < i → Built empty joined size valid depth target i (set xs i (joined (get_or xs (2 * i) empty) (get_or xs (2 * i + 1) empty)))
  built_more i xs b h =
      let lng = b.long in
      let ins = b.inside in
      let vs = all_valid laws depth xs lng b.valids in
      let y : M = joined (get_or xs (2 * i) empty) (get_or xs (2 * i + 1) empty) in
      let ys : List M = set xs i y in
      let fits = built_fits i xs b h in
      let vy : valid y ≡ true = laws.valid_joined (get_or xs (2 * i) empty) (get_or xs (2 * i + 1) empty) (vs (2 * i)) (vs (2 * i + 1)) fits in
      let own : get_or ys i empty ≡ joined (get_or ys (2 * i) empty) (get_or ys (2 * i + 1) empty) =
      get_or-set_same xs i y empty (omega arith)
      ∙ ap (λ x. joined x (get_or xs (2 * i + 1) empty)) (sym (get_or-set_other xs i (2 * i) y empty (λ e. omega arith)))
      ∙ ap (joined (get_or ys (2 * i) empty)) (sym (get_or-set_other xs i (2 * i + 1) y empty (λ e. omega arith))) in
      -- the sizes: i in place of its two children
      let old = tall_split size (λ j. get_or xs j empty) (i + 1) (i - 1) 2 in
      let n₁ : i - 1 + 2 ≡ i + 1 = omega arith in
      let n₂ : i + 1 + (i - 1) ≡ 2 * i = omega arith in
      let u : suc (2 * i) ≡ 2 * i + 1 = omega arith in
      let old₁ : tall size (λ j. get_or xs j empty) (i + 1) (i - 1 + 2) ≡ tall size (λ j. get_or xs j empty) (i + 1) (i + 1) = ap (tall size (λ j. get_or xs j empty) (i + 1)) n₁ in
      let old₂ : tall size (λ j. get_or xs j empty) (i + 1 + (i - 1)) 2 ≡ size (get_or xs (2 * i) empty) + (size (get_or xs (suc (2 * i)) empty) + 0) = ap (λ a. tall size (λ j. get_or xs j empty) a 2) n₂ in
      let old₃ = ap (λ x. size (get_or xs x empty)) u in
      let m₁ : i ≡ suc (i - 1) = omega arith in
      let m₂ : suc i ≡ i + 1 = omega arith in
      let new₁ : tall size (λ j. get_or ys j empty) i i ≡ size (get_or ys i empty) + tall size (λ j. get_or ys j empty) (suc i) (i - 1) = ap (tall size (λ j. get_or ys j empty) i) m₁ in
      let new₂ : tall size (λ j. get_or ys j empty) (suc i) (i - 1) ≡ tall size (λ j. get_or ys j empty) (i + 1) (i - 1) = ap (λ a. tall size (λ j. get_or ys j empty) a (i - 1)) m₂ in
      let new₃ = tall_same size (λ j. get_or ys j empty) (λ j. get_or xs j empty) (i + 1) (i - 1) (λ j p q. get_or-set_other xs i j y empty (λ e. omega arith)) in
      let new₄ : size (get_or ys i empty) ≡ size (get_or xs (2 * i) empty) + size (get_or xs (2 * i + 1) empty) = ap size (get_or-set_same xs i y empty (omega arith)) ∙ laws.size_joined (get_or xs (2 * i) empty) (get_or xs (2 * i + 1) empty) in
      let f = b.few in
      record {
        some = h;
        inside = omega arith;
        long = length-set xs i y ∙ lng;
        parents = λ j p q. ⊎_elim
            (λ e. subst (λ x. get_or ys x empty ≡ joined (get_or ys (2 * x) empty) (get_or ys (2 * x + 1) empty)) (sym e) own)
            (λ m. apart empty joined xs i y j m (λ e. omega arith) (λ e. omega arith) (b.parents j (omega arith) q))
            (cases_eq j i);
        valids = set_valids empty valid xs i y vy b.valids;
        few = omega (arith, old, old₁, old₂, old₃, new₁, new₂, new₃, new₄, f);
        leaves_are = drop-set-lt (2 ^ depth) xs i y (omega arith) ∙ b.leaves_are;
      }

  pub built_all : (i : ℕ) (xs : List M) → Built empty joined size valid depth target i xs → i ≤ 1 → sizes size target ≤ limit → Kept empty joined size valid depth xs
  built_all i xs b h f = record {
    parents = λ j p q. b.parents j (omega arith) q;
    valids = b.valids;
    few = subst (λ ys. sizes size ys ≤ limit) (sym b.leaves_are) f;
  }

-- The same in a tree of n nodes that is made of leaves.
pub record Building {M : Type 0} (empty : M) (joined : M → M → M) (size : M → ℕ) (valid : M → Bool) (n : ℕ) (leaves : List M) (i : ℕ) (xs : List M) : Type 0 where
  pub depth : ℕ
  pub shape : n ≡ 2 * 2 ^ depth
  pub few : sizes size leaves ≤ limit
  pub unused : get_or xs 0 empty ≡ empty
  pub built : Built empty joined size valid depth leaves i xs

-- the leaves, copied behind empty inner nodes
copied : {M : Type 0} (n : ℕ) (x : M) (ys : List M) → put_mid (n / 2) (length (replicate n x) - n / 2) (replicate n x) ys ≡ replicate (n / 2) x ++ ys
copied n x ys =
    let l = length-drop (n / 2) (replicate n x) in
    ap (λ zs. take (n / 2) (replicate n x) ++ (ys ++ zs)) (drop_all (length (replicate n x) - n / 2) (drop (n / 2) (replicate n x)) (omega arith))
    ∙ ap (λ zs. take (n / 2) (replicate n x) ++ zs) (append-nil ys)
    ∙ ap (λ zs. zs ++ ys) (take-replicate (n / 2) n x (omega arith))

module _ {M : Type 0} {empty : M} {joined : M → M → M} {size : M → ℕ} {valid : M → Bool} (laws : Laws empty joined size valid) (n : ℕ) (leaves : List M) where
  copied_valid : (h : ℕ) → ((i : ℕ) → i < length leaves → valid (get_or leaves i empty) ≡ true) → (i : ℕ) → i < length (replicate h empty ++ leaves) → valid (get_or (replicate h empty ++ leaves) i empty) ≡ true
  copied_valid h v i q =
      let l = length-append (replicate h empty) leaves in
      let r = length-replicate h empty in
      ⊎_elim
      (λ b. ap valid (get_or_append_left (replicate h empty) leaves empty i (omega arith) ∙ get_or-replicate h i empty empty b) ∙ laws.valid_empty)
      (λ b. ap valid (get_or-append_right (replicate h empty) leaves h i empty r b) ∙ v (i - h) (omega arith))
      (cases_lt i h)

  pub building_begins : TreeSize n → 2 * length leaves ≡ n → ((i : ℕ) → i < length leaves → valid (get_or leaves i empty) ≡ true) → sizes size leaves ≤ limit → (x : M) (ys : List M) → x ≡ empty → ys ≡ leaves → Building empty joined size valid n leaves (n / 2) (put_mid (n / 2) (length (replicate n x) - n / 2) (replicate n x) ys)
  building_begins t count v few x ys p q =
      let s = t.1 in
      let h : 2 ^ t.0 ≡ n / 2 = omega arith in
      let l = length-append (replicate (2 ^ t.0) empty) leaves in
      let r = length-replicate (2 ^ t.0) empty in
      let begun : Built empty joined size valid t.0 leaves (2 ^ t.0) (replicate (2 ^ t.0) empty ++ leaves) =
      built_begins laws t.0 leaves (replicate (2 ^ t.0) empty ++ leaves) (omega arith) (copied_valid (2 ^ t.0) v) (drop_at (replicate (2 ^ t.0) empty) leaves (2 ^ t.0) r) few in
      let is : replicate (n / 2) empty ++ leaves ≡ put_mid (n / 2) (length (replicate n x) - n / 2) (replicate n x) ys =
      ap (λ y. replicate (n / 2) y ++ leaves) (sym p) ∙ ap (λ zs. replicate (n / 2) x ++ zs) (sym q) ∙ sym (copied n x ys) in
      let some = pow_pos t.0 in
      let first : get_or (replicate (n / 2) empty ++ leaves) 0 empty ≡ empty =
      get_or_append_left (replicate (n / 2) empty) leaves empty 0 (omega (arith, length-replicate (n / 2) empty)) ∙ get_or_none empty (n / 2) 0 in
      record {
        depth = t.0;
        shape = s;
        few = few;
        unused = subst (λ zs. get_or zs 0 empty ≡ empty) is first;
        built = subst (λ zs. Built empty joined size valid t.0 leaves (n / 2) zs) is (subst (λ a. Built empty joined size valid t.0 leaves a (replicate a empty ++ leaves)) h begun);
      }

  module _ (i : ℕ) (xs : List M) (b : Building empty joined size valid n leaves i xs) where
    -- the same, of the node before
    before : 1 < i → Built empty joined size valid b.depth leaves (i - 1 + 1) xs
    before h = let e : i ≡ i - 1 + 1 = omega arith in subst (λ a. Built empty joined size valid b.depth leaves a xs) e b.built

    -- what the join asks
    pub building_asks : (x y : M) → 1 < i → (valid (get_or xs (2 * (i - 1)) x) ≡ true) × ((valid (get_or xs (2 * (i - 1) + 1) y) ≡ true) × (size (get_or xs (2 * (i - 1)) x) + size (get_or xs (2 * (i - 1) + 1) y) ≤ limit))
    building_asks x y h =
        let s = b.built in
        let inside = s.inside in
        let long = s.long in
        let l : 2 * (i - 1) < length xs = omega arith in
        let r : 2 * (i - 1) + 1 < length xs = omega arith in
        let d = get_or_default xs (2 * (i - 1)) empty x l in
        let e = get_or_default xs (2 * (i - 1) + 1) empty y r in (
          subst (λ z. valid z ≡ true) d (s.valids (2 * (i - 1)) l),
          (
            subst (λ z. valid z ≡ true) e (s.valids (2 * (i - 1) + 1) r),
            omega (arith, built_fits laws b.depth leaves (i - 1) xs (before h) (omega arith), ap size d, ap size e),
          ),
        )

    pub building_on : (x y z : M) → 1 < i → z ≡ joined (get_or xs (2 * (i - 1)) x) (get_or xs (2 * (i - 1) + 1) y) → Building empty joined size valid n leaves (i - 1) (set xs (i - 1) z)
    building_on x y z h is =
        let s = b.built in
        let inside = s.inside in
        let long = s.long in
        let d = get_or_default xs (2 * (i - 1)) empty x (omega arith) in
        let e = get_or_default xs (2 * (i - 1) + 1) empty y (omega arith) in
        let w : joined (get_or xs (2 * (i - 1)) empty) (get_or xs (2 * (i - 1) + 1) empty) ≡ z =
        ap (λ u. joined u (get_or xs (2 * (i - 1) + 1) empty)) d ∙ ap (joined (get_or xs (2 * (i - 1)) x)) e ∙ sym is in
        record {
          depth = b.depth;
          shape = b.shape;
          few = b.few;
          unused = get_or-set_other xs (i - 1) 0 z empty (λ e. omega arith) ∙ b.unused;
          built = subst (λ u. Built empty joined size valid b.depth leaves (i - 1) (set xs (i - 1) u)) w (built_more laws b.depth leaves (i - 1) xs (before h) (omega arith));
        }

    pub building_ends : i ≤ 1 → Grown empty joined size valid n xs
    building_ends h =
        let s = b.built in
        record {
          depth = b.depth;
          shape = b.shape;
          long = s.long ∙ sym b.shape;
          unused = b.unused;
          kept = built_all laws b.depth leaves i xs s h b.few;
        }

    pub building_leaves : drop (n / 2) xs ≡ leaves
    building_leaves =
        let h : n / 2 ≡ 2 ^ b.depth = let s = b.shape in omega arith in
        let s = b.built in
        ap (λ a. drop a xs) h ∙ s.leaves_are
