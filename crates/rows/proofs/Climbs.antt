-- The walk of `put`: from a leaf that was written up to the root, joining anew.
use Rattle.std.proofs.Common.{◌≡◌, ℕ, zero, suc, ◌+◌, ◌*◌, ◌/◌, ◌^◌, ◌<◌, ◌≤◌, Bool, true, List, length, get_or, drop, set, sym, ap, ◌∙◌, subst, ⊎_elim, arith, pow_pos}
use native.Mathlib.Nat.{pow-succ'}
use Rattle.std.proofs.lemmas.Bool.{cases_eq}
use Rattle.std.proofs.lemmas.List.{length-set, get_or-set_same, get_or-set_other, drop-set-lt, drop-set-add, get_or_default}
use Rattle.rows.specs.Laws.{Laws, Kept, Grown, limit, sizes}
use Rattle.rows.proofs.Runs.{tall, tall_same, tall_halves}
use Rattle.rows.proofs.Walks.{tall_inside}
use Rattle.rows.proofs.Trees.{all_valid, tall_leaves}

module _ {M : Type 0} (empty : M) (joined : M → M → M) (size : M → ℕ) (valid : M → Bool) (depth : ℕ) (target : List M) where
  -- at, in the level that begins at w, and all below it are as they should be; above it only at's parent is still to be joined anew.
  pub record Climb (w at : ℕ) (xs : List M) : Type 0 where
    pub low : w ≤ at
    pub high : at < 2 * w
    pub inside : w ≤ 2 ^ depth
    pub long : length xs ≡ 2 * 2 ^ depth
    pub parents : (i : ℕ) → 0 < i → i < 2 ^ depth → (i ≡ at / 2 → ⊥) → get_or xs i empty ≡ joined (get_or xs (2 * i) empty) (get_or xs (2 * i + 1) empty)
    pub valids : (i : ℕ) → i < length xs → valid (get_or xs i empty) ≡ true
    pub few : tall size (λ i. get_or xs i empty) w w ≤ limit
    pub leaves_are : drop (2 ^ depth) xs ≡ target

-- a node's equation is as it was where neither it nor a child is written
pub apart : {M : Type 0} (empty : M) (joined : M → M → M) (xs : List M) (p : ℕ) (y : M) (i : ℕ) → (i ≡ p → ⊥) → (2 * i ≡ p → ⊥) → (2 * i + 1 ≡ p → ⊥) → get_or xs i empty ≡ joined (get_or xs (2 * i) empty) (get_or xs (2 * i + 1) empty) → get_or (set xs p y) i empty ≡ joined (get_or (set xs p y) (2 * i) empty) (get_or (set xs p y) (2 * i + 1) empty)
apart empty joined xs p y i n₀ n₁ n₂ e =
    get_or-set_other xs p i y empty n₀ ∙ e
    ∙ ap (λ x. joined x (get_or xs (2 * i + 1) empty)) (sym (get_or-set_other xs p (2 * i) y empty n₁))
    ∙ ap (joined (get_or (set xs p y) (2 * i) empty)) (sym (get_or-set_other xs p (2 * i + 1) y empty n₂))

pub set_valids : {M : Type 0} (empty : M) (valid : M → Bool) (xs : List M) (p : ℕ) (y : M) → valid y ≡ true → ((i : ℕ) → i < length xs → valid (get_or xs i empty) ≡ true) → (i : ℕ) → i < length (set xs p y) → valid (get_or (set xs p y) i empty) ≡ true
set_valids empty valid xs p y vy v i h =
    let l : i < length xs = omega (arith, length-set xs p y) in
    ⊎_elim
    (λ e. ap valid (ap (λ j. get_or (set xs p y) j empty) e ∙ get_or-set_same xs p y empty (subst (λ j. j < length xs) e l)) ∙ vy)
    (λ n. ap valid (get_or-set_other xs p i y empty n) ∙ v i l)
    (cases_eq i p)

module _ {M : Type 0} {empty : M} {joined : M → M → M} {size : M → ℕ} {valid : M → Bool} (laws : Laws empty joined size valid)
    (depth : ℕ) (target : List M) where
  abbrev pub Turn : ℕ → ℕ → List M → Type 0
  Turn w at xs = Climb empty joined size valid depth target w at xs

  pub climb_begins : (nodes : List M) → length nodes ≡ 2 * 2 ^ depth → Kept empty joined size valid depth nodes → (k : ℕ) → k < 2 ^ depth → (v : M) → valid v ≡ true → target ≡ set (drop (2 ^ depth) nodes) k v → sizes size target ≤ limit → Turn (2 ^ depth) (2 ^ depth + k) (set nodes (2 ^ depth + k) v)
  climb_begins nodes long kept k below v vv is few =
      let at : ℕ = 2 ^ depth + k in
      let long' : length (set nodes (2 ^ depth + k) v) ≡ 2 * 2 ^ depth = length-set nodes (2 ^ depth + k) v ∙ long in
      let leaves : drop (2 ^ depth) (set nodes (2 ^ depth + k) v) ≡ target = drop-set-add (2 ^ depth) nodes k v ∙ sym is in
      record {
        low = omega arith;
        high = omega arith;
        inside = omega arith;
        long = long';
        parents = λ i p q n. apart empty joined nodes (2 ^ depth + k) v i (λ e. omega arith) (λ e. n (omega arith)) (λ e. n (omega arith)) (kept.parents i p q);
        valids = set_valids empty valid nodes (2 ^ depth + k) v vv kept.valids;
        few = subst (λ x. x ≤ limit) (sym (tall_leaves laws depth (set nodes (2 ^ depth + k) v) long' ∙ ap (sizes size) leaves)) few;
        leaves_are = leaves;
      }

  -- what the join asks
  pub climb_fits : (k at : ℕ) (xs : List M) → Turn (2 ^ k) at xs → 1 < at → size (get_or xs (2 * (at / 2)) empty) + size (get_or xs (2 * (at / 2) + 1) empty) ≤ limit
  climb_fits zero at xs s b = let h : at < 2 * 1 = s.high in absurd (omega arith)
  climb_fits (suc k) at xs s b =
      let p = pow-succ' 2 k in
      let l : 2 ^ suc k ≤ at = s.low in
      let h : at < 2 * 2 ^ suc k = s.high in
      let u : suc (2 * (at / 2)) ≡ 2 * (at / 2) + 1 = omega arith in
      let t = ap (λ x. size (get_or xs x empty)) u in
      let i = tall_inside size (λ i. get_or xs i empty) (2 ^ suc k) (2 ^ suc k) (2 * (at / 2)) 2 (omega arith) (omega arith) in
      let f = s.few in
      omega (arith, i, f, t)

  pub climbs : (k at : ℕ) (xs : List M) → Turn (2 ^ k) at xs → 1 < at → (j : ℕ) × Turn (2 ^ j) (at / 2) (set xs (at / 2) (joined (get_or xs (2 * (at / 2)) empty) (get_or xs (2 * (at / 2) + 1) empty)))
  climbs zero at xs s b = let h : at < 2 * 1 = s.high in absurd (omega arith)
  climbs (suc k) at xs s b =
      let p = pow-succ' 2 k in
      let pp = pow_pos k in
      let l : 2 ^ suc k ≤ at = s.low in
      let h : at < 2 * 2 ^ suc k = s.high in
      let ins : 2 ^ suc k ≤ 2 ^ depth = s.inside in
      let lng : length xs ≡ 2 * 2 ^ depth = s.long in
      let fits = climb_fits (suc k) at xs s b in
      let vs = all_valid laws depth xs lng s.valids in
      let y : M = joined (get_or xs (2 * (at / 2)) empty) (get_or xs (2 * (at / 2) + 1) empty) in
      let ys : List M = set xs (at / 2) y in
      let lng' : length (set xs (at / 2) y) ≡ 2 * 2 ^ depth = length-set xs (at / 2) y ∙ lng in
      let low' : 2 ^ k ≤ at / 2 = omega arith in
      let high' : at / 2 < 2 * 2 ^ k = omega arith in
      let here : at / 2 < length xs = omega arith in
      let own : get_or ys (at / 2) empty ≡ joined (get_or ys (2 * (at / 2)) empty) (get_or ys (2 * (at / 2) + 1) empty) =
      get_or-set_same xs (at / 2) y empty here
      ∙ ap (λ x. joined x (get_or xs (2 * (at / 2) + 1) empty)) (sym (get_or-set_other xs (at / 2) (2 * (at / 2)) y empty (λ e. omega arith)))
      ∙ ap (joined (get_or ys (2 * (at / 2)) empty)) (sym (get_or-set_other xs (at / 2) (2 * (at / 2) + 1) y empty (λ e. omega arith))) in
      let ps : (i : ℕ) → 0 < i → i < 2 ^ depth → (i ≡ at / 2 / 2 → ⊥) → get_or ys i empty ≡ joined (get_or ys (2 * i) empty) (get_or ys (2 * i + 1) empty) =
      λ i q r n. ⊎_elim
      (λ e. subst (λ x. get_or ys x empty ≡ joined (get_or ys (2 * x) empty) (get_or ys (2 * x + 1) empty)) (sym e) own)
      (λ m. apart empty joined xs (at / 2) y i m (λ e. n (omega arith)) (λ e. n (omega arith)) (s.parents i q r m))
      (cases_eq i (at / 2)) in
      let vy : valid y ≡ true = laws.valid_joined (get_or xs (2 * (at / 2)) empty) (get_or xs (2 * (at / 2) + 1) empty) (vs (2 * (at / 2))) (vs (2 * (at / 2) + 1)) fits in
      let vys = set_valids empty valid xs (at / 2) y vy s.valids in
      let same : tall size (λ i. get_or ys i empty) (2 ^ suc k) (2 ^ suc k) ≡ tall size (λ i. get_or xs i empty) (2 ^ suc k) (2 ^ suc k) =
      tall_same size (λ i. get_or ys i empty) (λ i. get_or xs i empty) (2 ^ suc k) (2 ^ suc k) (λ i q r. get_or-set_other xs (at / 2) i y empty (λ e. omega arith)) in
      let two : tall size (λ i. get_or ys i empty) (2 ^ suc k) (2 ^ suc k) ≡ tall size (λ i. get_or ys i empty) (2 * 2 ^ k) (2 * 2 ^ k) = ap (λ x. tall size (λ i. get_or ys i empty) x x) p in
      let half = tall_halves laws (λ i. get_or ys i empty) (all_valid laws depth ys lng' vys) (2 ^ k) (2 ^ k) (λ i q r. ps i (omega arith) (omega arith) (λ e. omega arith)) in
      let f = s.few in (
        k,
        record {
          low = low';
          high = high';
          inside = omega arith;
          long = lng';
          parents = ps;
          valids = vys;
          few = omega (arith, same, two, half, f);
          leaves_are = drop-set-lt (2 ^ depth) xs (at / 2) y (omega arith) ∙ s.leaves_are;
        },
      )

  pub climb_ends : (k at : ℕ) (xs : List M) → Turn (2 ^ k) at xs → at ≤ 1 → sizes size target ≤ limit → Kept empty joined size valid depth xs
  climb_ends k at xs s b f = record {
    parents = λ i p q. s.parents i p q (λ e. omega arith);
    valids = s.valids;
    few = subst (λ ys. sizes size ys ≤ limit) (sym s.leaves_are) f;
  }

-- The same in a tree of n nodes, which began as first; the leaves are then those of first.
pub record Climbing {M : Type 0} (empty : M) (joined : M → M → M) (size : M → ℕ) (valid : M → Bool) (n : ℕ) (first : List M) (at : ℕ) (xs : List M) : Type 0 where
  pub depth : ℕ
  pub level : ℕ
  pub shape : n ≡ 2 * 2 ^ depth
  pub few : sizes size (drop (2 ^ depth) first) ≤ limit
  pub unused : get_or xs 0 empty ≡ empty
  pub climb : Climb empty joined size valid depth (drop (2 ^ depth) first) (2 ^ level) at xs

-- the leaves, once one of them is written
pub leaves_set : {M : Type 0} (n : ℕ) (xs old : List M) (k : ℕ) (v : M) → drop (n / 2) xs ≡ old → drop (n / 2) (set xs (n / 2 + k) v) ≡ set old k v
leaves_set n xs old k v is = drop-set-add (n / 2) xs k v ∙ ap (λ ys. set ys k v) is

module _ {M : Type 0} {empty : M} {joined : M → M → M} {size : M → ℕ} {valid : M → Bool} (laws : Laws empty joined size valid) where
  pub climbing_begins : (n : ℕ) (xs old : List M) (k : ℕ) (v : M) → Grown empty joined size valid n xs → drop (n / 2) xs ≡ old → k < n / 2 → valid v ≡ true → sizes size (set old k v) ≤ limit → Climbing empty joined size valid n (set xs (n / 2 + k) v) (n / 2 + k) (set xs (n / 2 + k) v)
  climbing_begins n xs old k v t is below vv few =
      let long : length xs ≡ 2 * 2 ^ t.depth = t.long ∙ t.shape in
      let h : 2 ^ t.depth ≡ n / 2 = let s = t.shape in omega arith in
      let first : List M = set xs (n / 2 + k) v in
      let leaves : drop (2 ^ t.depth) first ≡ set old k v = ap (λ a. drop a first) h ∙ leaves_set n xs old k v is in
      let old_is : drop (2 ^ t.depth) xs ≡ old = ap (λ a. drop a xs) h ∙ is in
      let small : sizes size (drop (2 ^ t.depth) first) ≤ limit = subst (λ ys. sizes size ys ≤ limit) (sym leaves) few in
      let some = pow_pos t.depth in
      record {
        depth = t.depth;
        level = t.depth;
        shape = t.shape;
        few = small;
        unused = get_or-set_other xs (n / 2 + k) 0 v empty (λ e. omega arith) ∙ t.unused;
        climb =
            subst (λ a. Climb empty joined size valid t.depth (drop (2 ^ t.depth) first) (2 ^ t.depth) (a + k) (set xs (a + k) v)) h
            (climb_begins laws t.depth (drop (2 ^ t.depth) first) xs long t.kept k (omega arith) v vv (leaves ∙ ap (λ ys. set ys k v) (sym old_is)) small);
      }

  module _ (n : ℕ) (first : List M) (at : ℕ) (xs : List M) (c : Climbing empty joined size valid n first at xs) where
    -- what the join asks
    pub climbing_asks : (x y : M) → 1 < at → (valid (get_or xs (2 * (at / 2)) x) ≡ true) × ((valid (get_or xs (2 * (at / 2) + 1) y) ≡ true) × (size (get_or xs (2 * (at / 2)) x) + size (get_or xs (2 * (at / 2) + 1) y) ≤ limit))
    climbing_asks x y h =
        let s = c.climb in
        let low = s.low in
        let high = s.high in
        let inside = s.inside in
        let long = s.long in
        let l : 2 * (at / 2) < length xs = omega arith in
        let r : 2 * (at / 2) + 1 < length xs = omega arith in
        let d = get_or_default xs (2 * (at / 2)) empty x l in
        let e = get_or_default xs (2 * (at / 2) + 1) empty y r in (
          subst (λ z. valid z ≡ true) d (s.valids (2 * (at / 2)) l),
          (
            subst (λ z. valid z ≡ true) e (s.valids (2 * (at / 2) + 1) r),
            omega (arith, climb_fits laws c.depth (drop (2 ^ c.depth) first) c.level at xs s h, ap size d, ap size e),
          ),
        )

    pub climbing_on : (x y z : M) → 1 < at → joined (get_or xs (2 * (at / 2)) x) (get_or xs (2 * (at / 2) + 1) y) ≡ z → Climbing empty joined size valid n first (at / 2) (set xs (at / 2) z)
    climbing_on x y z h e =
        let s = c.climb in
        let low = s.low in
        let high = s.high in
        let inside = s.inside in
        let long = s.long in
        let d = get_or_default xs (2 * (at / 2)) empty x (omega arith) in
        let f = get_or_default xs (2 * (at / 2) + 1) empty y (omega arith) in
        let t = climbs laws c.depth (drop (2 ^ c.depth) first) c.level at xs s h in
        let w : joined (get_or xs (2 * (at / 2)) empty) (get_or xs (2 * (at / 2) + 1) empty) ≡ z = ap (λ u. joined u (get_or xs (2 * (at / 2) + 1) empty)) d ∙ ap (joined (get_or xs (2 * (at / 2)) x)) f ∙ e in
        record {
          depth = c.depth;
          level = t.0;
          shape = c.shape;
          few = c.few;
          unused = get_or-set_other xs (at / 2) 0 z empty (λ e. omega arith) ∙ c.unused;
          climb = subst (λ u. Climb empty joined size valid c.depth (drop (2 ^ c.depth) first) (2 ^ t.0) (at / 2) (set xs (at / 2) u)) w t.1;
        }

    pub climbing_ends : at ≤ 1 → Grown empty joined size valid n xs
    climbing_ends h =
        let s = c.climb in
        record {
          depth = c.depth;
          shape = c.shape;
          long = s.long ∙ sym c.shape;
          unused = c.unused;
          kept = climb_ends laws c.depth (drop (2 ^ c.depth) first) c.level at xs s h c.few;
        }

    pub climbing_leaves : drop (n / 2) xs ≡ drop (n / 2) first
    climbing_leaves =
        let h : 2 ^ c.depth ≡ n / 2 = let s = c.shape in omega arith in
        let s = c.climb in
        subst (λ a. drop a xs ≡ drop a first) h s.leaves_are
