-- The walk from a leaf up to the root that joins all leaves in the order of a ring.
use Rattle.std.proofs.Common.{◌≡◌, ℕ, suc, ◌+◌, ◌-◌, ◌*◌, ◌<◌, ◌≤◌, Bool, true, sym, ap, ◌∙◌, subst, arith}
use Rattle.rows.specs.Laws.{Laws, limit}
use Rattle.rows.proofs.Runs.{run, tall, tall_split, size_run, valid_run, run_split, run_halves, tall_halves}

pub tall_inside : {M : Type 0} (size : M → ℕ) (f : ℕ → M) (a n b m : ℕ) → a ≤ b → b + m ≤ a + n → tall size f b m ≤ tall size f a n
tall_inside size f a n b m p q =
    let e : n ≡ (b - a) + (m + ((a + n) - (b + m))) = omega arith in
    let s : a + (b - a) ≡ b = omega arith in
    let t : tall size f a n ≡ tall size f a ((b - a) + (m + ((a + n) - (b + m)))) = ap (tall size f a) e in
    let u : tall size f (a + (b - a)) (m + ((a + n) - (b + m))) ≡ tall size f b (m + ((a + n) - (b + m))) = ap (λ k. tall size f k (m + ((a + n) - (b + m)))) s in
    omega (arith, t, u, tall_split size f a (b - a) (m + ((a + n) - (b + m))), tall_split size f b m ((a + n) - (b + m)))

module _ {M : Type 0} (empty : M) (joined : M → M → M) (size : M → ℕ) (valid : M → Bool) (f : ℕ → M) (leaves head : ℕ) where
  -- at is a node of the level that begins at w. What is older than it stands joined in older, down to the leaf at head; what is newer, in newer.
  pub record Walk (w at : ℕ) (older newer : M) : Type 0 where
    pub low : w ≤ at
    pub high : at < 2 * w
    pub inside : w ≤ leaves
    pub few : tall size f w w ≤ limit
    pub old_valid : valid older ≡ true
    pub new_valid : valid newer ≡ true
    pub old_is : run empty joined f (leaves + head) (leaves - head) ≡ joined older (run empty joined f (suc at) (2 * w - suc at))
    pub new_is : run empty joined f leaves head ≡ joined (run empty joined f w (at - w)) newer

module _ {M : Type 0} {empty : M} {joined : M → M → M} {size : M → ℕ} {valid : M → Bool} (laws : Laws empty joined size valid)
    (f : ℕ → M) (vf : (i : ℕ) → valid (f i) ≡ true) (leaves head : ℕ) (below : head < leaves)
    (parents : (i : ℕ) → 0 < i → i < leaves → f i ≡ joined (f (2 * i)) (f (2 * i + 1)))
    (all : tall size f leaves leaves ≤ limit) where
  pub begins : Walk empty joined size valid f leaves head leaves (leaves + head) (f (leaves + head)) empty
  begins =
      let e : leaves - head ≡ suc (2 * leaves - suc (leaves + head)) = omega arith in
      let d : leaves + head - leaves ≡ head = omega arith in
      let t : tall size f leaves head ≤ limit = omega (arith, tall_inside size f leaves leaves leaves head (omega arith) (omega arith)) in
      record {
        low = omega arith;
        high = omega arith;
        inside = omega arith;
        few = all;
        old_valid = vf (leaves + head);
        new_valid = laws.valid_empty;
        old_is = ap (run empty joined f (leaves + head)) e;
        new_is = sym (laws.right (run empty joined f leaves head) (valid_run laws f vf leaves head t)) ∙ ap (λ k. joined (run empty joined f leaves k) empty) (sym d);
      }

  -- sizes that stand on the way
  pub old_size : (w at : ℕ) (older newer : M) → Walk empty joined size valid f leaves head w at older newer → size older + tall size f (suc at) (2 * w - suc at) ≤ limit
  old_size w at older newer k =
      let e = ap size k.old_is in
      omega (arith, e, size_run laws f (leaves + head) (leaves - head), size_run laws f (suc at) (2 * w - suc at), laws.size_joined older (run empty joined f (suc at) (2 * w - suc at)), tall_inside size f leaves leaves (leaves + head) (leaves - head) (omega arith) (omega arith))

  pub new_size : (w at : ℕ) (older newer : M) → Walk empty joined size valid f leaves head w at older newer → tall size f w (at - w) + size newer ≤ limit
  new_size w at older newer k =
      let e = ap size k.new_is in
      omega (arith, e, size_run laws f leaves head, size_run laws f w (at - w), laws.size_joined (run empty joined f w (at - w)) newer, tall_inside size f leaves leaves leaves head (omega arith) (omega arith))

  module _ (w j : ℕ) (older newer : M) (some : 0 < w) where
    pub goes_left : Walk empty joined size valid f leaves head (2 * w) (2 * j) older newer → Walk empty joined size valid f leaves head w j (joined older (f (2 * j + 1))) newer
    goes_left k =
        let n : ℕ = 2 * w - suc j in
        let lo : 2 * w ≤ 2 * j = k.low in
        let hi : 2 * j < 2 * (2 * w) = k.high in
        let ins : 2 * w ≤ leaves = k.inside in
        let few : tall size f (2 * w) (2 * w) ≤ limit = k.few in
        let s : 2 * (2 * w) - suc (2 * j) ≡ suc (2 * (2 * w - suc j)) = omega arith in
        let t : suc (suc (2 * j)) ≡ 2 * suc j = omega arith in
        let u : suc (2 * j) ≡ 2 * j + 1 = omega arith in
        let d : 2 * j - 2 * w ≡ 2 * (j - w) = omega arith in
        let old : size older + tall size f (suc (2 * j)) (2 * (2 * w) - suc (2 * j)) ≤ limit = old_size (2 * w) (2 * j) older newer k in
        let old' : size older + (size (f (suc (2 * j))) + tall size f (suc (suc (2 * j))) (2 * n)) ≤ limit = subst (λ x. size older + tall size f (suc (2 * j)) x ≤ limit) s old in
        let here : size (f (suc (2 * j))) ≡ size (f (2 * j + 1)) = ap (λ x. size (f x)) u in
        let next : tall size f (suc (suc (2 * j))) (2 * n) ≡ tall size f (2 * suc j) (2 * n) = ap (λ x. tall size f x (2 * n)) t in
        let up : (i : ℕ) → suc j ≤ i → i < suc j + n → f i ≡ joined (f (2 * i)) (f (2 * i + 1)) = λ i p q. parents i (omega arith) (omega arith) in
        let nx : tall size f (2 * suc j) (2 * n) ≡ tall size f (suc j) n = tall_halves laws f vf (suc j) n up in
        let down : (i : ℕ) → w ≤ i → i < w + (j - w) → f i ≡ joined (f (2 * i)) (f (2 * i + 1)) = λ i p q. parents i (omega arith) (omega arith) in
        let level : (i : ℕ) → w ≤ i → i < w + w → f i ≡ joined (f (2 * i)) (f (2 * i + 1)) = λ i p q. parents i (omega arith) (omega arith) in
        let part : tall size f (2 * w) (2 * (j - w)) ≤ limit = omega (arith, tall_inside size f (2 * w) (2 * w) (2 * w) (2 * (j - w)) (omega arith) (omega arith)) in
        record {
          low = omega arith;
          high = omega arith;
          inside = omega arith;
          few = omega (arith, tall_halves laws f vf w w level);
          old_valid = laws.valid_joined older (f (2 * j + 1)) k.old_valid (vf (2 * j + 1)) (omega arith);
          new_valid = k.new_valid;
          old_is =
              k.old_is
              ∙ ap (λ x. joined older (run empty joined f (suc (2 * j)) x)) s
              ∙ ap (λ x. joined older (joined (f (suc (2 * j))) (run empty joined f x (2 * n)))) t
              ∙ ap (λ x. joined older (joined (f x) (run empty joined f (2 * suc j) (2 * n)))) u
              ∙ ap (λ x. joined older (joined (f (2 * j + 1)) x)) (run_halves laws f vf (suc j) n up (omega arith))
              ∙ sym (laws.assoc older (f (2 * j + 1)) (run empty joined f (suc j) n) k.old_valid (vf (2 * j + 1)) (valid_run laws f vf (suc j) n (omega arith)) (omega (arith, size_run laws f (suc j) n)));
          new_is =
              k.new_is
              ∙ ap (λ x. joined (run empty joined f (2 * w) x) newer) d
              ∙ ap (λ x. joined x newer) (run_halves laws f vf w (j - w) down part);
        }

    pub goes_right : Walk empty joined size valid f leaves head (2 * w) (2 * j + 1) older newer → Walk empty joined size valid f leaves head w j older (joined (f (2 * j)) newer)
    goes_right k =
        let n : ℕ = 2 * w - suc j in
        let lo : 2 * w ≤ 2 * j + 1 = k.low in
        let hi : 2 * j + 1 < 2 * (2 * w) = k.high in
        let ins : 2 * w ≤ leaves = k.inside in
        let few : tall size f (2 * w) (2 * w) ≤ limit = k.few in
        let s : 2 * (2 * w) - suc (2 * j + 1) ≡ 2 * (2 * w - suc j) = omega arith in
        let t : suc (2 * j + 1) ≡ 2 * suc j = omega arith in
        let d : 2 * j + 1 - 2 * w ≡ 2 * (j - w) + 1 = omega arith in
        let u : 2 * w + 2 * (j - w) ≡ 2 * j = omega arith in
        let new : tall size f (2 * w) (2 * j + 1 - 2 * w) + size newer ≤ limit = new_size (2 * w) (2 * j + 1) older newer k in
        let new' : tall size f (2 * w) (2 * (j - w) + 1) + size newer ≤ limit = subst (λ x. tall size f (2 * w) x + size newer ≤ limit) d new in
        let cut = tall_split size f (2 * w) (2 * (j - w)) 1 in
        let one : tall size f (2 * w + 2 * (j - w)) 1 ≡ size (f (2 * j)) + 0 = ap (λ x. tall size f x 1) u in
        let up : (i : ℕ) → suc j ≤ i → i < suc j + n → f i ≡ joined (f (2 * i)) (f (2 * i + 1)) = λ i p q. parents i (omega arith) (omega arith) in
        let down : (i : ℕ) → w ≤ i → i < w + (j - w) → f i ≡ joined (f (2 * i)) (f (2 * i + 1)) = λ i p q. parents i (omega arith) (omega arith) in
        let dn : tall size f (2 * w) (2 * (j - w)) ≡ tall size f w (j - w) = tall_halves laws f vf w (j - w) down in
        let level : (i : ℕ) → w ≤ i → i < w + w → f i ≡ joined (f (2 * i)) (f (2 * i + 1)) = λ i p q. parents i (omega arith) (omega arith) in
        let rest : tall size f (2 * suc j) (2 * n) ≤ limit = omega (arith, tall_inside size f (2 * w) (2 * w) (2 * suc j) (2 * n) (omega arith) (omega arith)) in
        record {
          low = omega arith;
          high = omega arith;
          inside = omega arith;
          few = omega (arith, tall_halves laws f vf w w level);
          old_valid = k.old_valid;
          new_valid = laws.valid_joined (f (2 * j)) newer (vf (2 * j)) k.new_valid (omega arith);
          old_is =
              k.old_is
              ∙ ap (λ x. joined older (run empty joined f (suc (2 * j + 1)) x)) s
              ∙ ap (λ x. joined older (run empty joined f x (2 * n))) t
              ∙ ap (joined older) (run_halves laws f vf (suc j) n up rest);
          new_is =
              k.new_is
              ∙ ap (λ x. joined (run empty joined f (2 * w) x) newer) d
              ∙ ap (λ x. joined x newer) (run_split laws f vf (2 * w) (2 * (j - w)) 1 (omega arith))
              ∙ ap (λ x. joined (joined (run empty joined f (2 * w) (2 * (j - w))) (run empty joined f x 1)) newer) u
              ∙ ap (λ x. joined (joined (run empty joined f (2 * w) (2 * (j - w))) x) newer) (laws.right (f (2 * j)) (vf (2 * j)))
              ∙ ap (λ x. joined (joined x (f (2 * j))) newer) (run_halves laws f vf w (j - w) down (omega arith))
              ∙ laws.assoc (run empty joined f w (j - w)) (f (2 * j)) newer (valid_run laws f vf w (j - w) (omega arith)) (vf (2 * j)) k.new_valid (omega (arith, size_run laws f w (j - w)));
        }

  pub ends : (older newer : M) → Walk empty joined size valid f leaves head 1 1 older newer → (older ≡ run empty joined f (leaves + head) (leaves - head)) × (newer ≡ run empty joined f leaves head)
  ends older newer k = (sym (k.old_is ∙ laws.right older k.old_valid), sym (k.new_is ∙ laws.left newer k.new_valid))
