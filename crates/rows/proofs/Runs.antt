-- Neighbouring summaries f a, f (a + 1), .. joined, oldest first, and their sizes added up.
use Rattle.std.proofs.Common.{◌≡◌, ℕ, zero, suc, ◌+◌, ◌*◌, ◌<◌, ◌≤◌, Bool, true, sym, refl, ap, ◌∙◌, subst, add-zero, zero-add, arith}
use Rattle.rows.specs.Laws.{Laws, limit}

abbrev pub run : {M : Type 0} (empty : M) (joined : M → M → M) → (ℕ → M) → ℕ → ℕ → M
run empty joined f a zero = empty
run empty joined f a (suc n) = joined (f a) (run empty joined f (suc a) n)

abbrev pub tall : {M : Type 0} (size : M → ℕ) → (ℕ → M) → ℕ → ℕ → ℕ
tall size f a zero = 0
tall size f a (suc n) = size (f a) + tall size f (suc a) n

-- two rows that agree where it matters
pub tall_same : {M : Type 0} (size : M → ℕ) (f h : ℕ → M) (a n : ℕ) → ((i : ℕ) → a ≤ i → i < a + n → f i ≡ h i) → tall size f a n ≡ tall size h a n
tall_same size f h a zero e = refl
tall_same size f h a (suc n) e =
    ap (λ x. size x + tall size f (suc a) n) (e a (omega arith) (omega arith))
    ∙ ap (λ k. size (h a) + k) (tall_same size f h (suc a) n (λ i p q. e i (omega arith) (omega arith)))

pub tall_split : {M : Type 0} (size : M → ℕ) (f : ℕ → M) (a m n : ℕ) → tall size f a (m + n) ≡ tall size f a m + tall size f (a + m) n
tall_split size f a zero n = ap (tall size f a) (zero-add n) ∙ ap (λ k. tall size f k n) (sym (add-zero a)) ∙ sym (zero-add _)
tall_split size f a (suc m) n =
    let s : suc m + n ≡ suc (m + n) = omega arith in
    let t : suc a + m ≡ a + suc m = omega arith in
    let e : tall size f a (suc m + n) ≡ size (f a) + tall size f (suc a) (m + n) = ap (tall size f a) s in
    let d : tall size f (suc a + m) n ≡ tall size f (a + suc m) n = ap (λ k. tall size f k n) t in
    omega (arith, e, d, tall_split size f (suc a) m n)

module _ {M : Type 0} {empty : M} {joined : M → M → M} {size : M → ℕ} {valid : M → Bool} (laws : Laws empty joined size valid) (f : ℕ → M) where
  pub size_run : (a n : ℕ) → size (run empty joined f a n) ≡ tall size f a n
  size_run a zero = laws.size_empty
  size_run a (suc n) = laws.size_joined (f a) (run empty joined f (suc a) n) ∙ ap (λ k. size (f a) + k) (size_run (suc a) n)

  module _ (vf : (i : ℕ) → valid (f i) ≡ true) where
    pub valid_run : (a n : ℕ) → tall size f a n ≤ limit → valid (run empty joined f a n) ≡ true
    valid_run a zero h = laws.valid_empty
    valid_run a (suc n) h =
        laws.valid_joined (f a) (run empty joined f (suc a) n) (vf a) (valid_run (suc a) n (omega arith)) (omega (arith, size_run (suc a) n))

    pub run_split : (a m n : ℕ) → tall size f a (m + n) ≤ limit → run empty joined f a (m + n) ≡ joined (run empty joined f a m) (run empty joined f (a + m) n)
    run_split a zero n h =
        let k : tall size f a n ≤ limit = subst (λ x. tall size f a x ≤ limit) (zero-add n) h in
        ap (run empty joined f a) (zero-add n)
        ∙ sym (laws.left (run empty joined f a n) (valid_run a n k))
        ∙ ap (λ x. joined empty (run empty joined f x n)) (sym (add-zero a))
    run_split a (suc m) n h =
        let s : suc m + n ≡ suc (m + n) = omega arith in
        let t : suc a + m ≡ a + suc m = omega arith in
        let k : size (f a) + tall size f (suc a) (m + n) ≤ limit = subst (λ x. tall size f a x ≤ limit) s h in
        let d = tall_split size f (suc a) m n in
        ap (run empty joined f a) s
        ∙ ap (joined (f a)) (run_split (suc a) m n (omega arith))
        ∙ sym (laws.assoc (f a) (run empty joined f (suc a) m) (run empty joined f (suc a + m) n) (vf a) (valid_run (suc a) m (omega arith)) (valid_run (suc a + m) n (omega arith)) (omega (arith, size_run (suc a) m, size_run (suc a + m) n)))
        ∙ ap (λ x. joined (joined (f a) (run empty joined f (suc a) m)) (run empty joined f x n)) t

    -- a level of the tree and the level below it
    pub tall_halves : (a n : ℕ) → ((i : ℕ) → a ≤ i → i < a + n → f i ≡ joined (f (2 * i)) (f (2 * i + 1))) → tall size f (2 * a) (2 * n) ≡ tall size f a n
    tall_halves a zero p = refl
    tall_halves a (suc n) p =
        let s : 2 * suc n ≡ suc (suc (2 * n)) = omega arith in
        let t : suc (suc (2 * a)) ≡ 2 * suc a = omega arith in
        let u : suc (2 * a) ≡ 2 * a + 1 = omega arith in
        let e : tall size f (2 * a) (2 * suc n) ≡ size (f (2 * a)) + (size (f (suc (2 * a))) + tall size f (suc (suc (2 * a))) (2 * n)) = ap (tall size f (2 * a)) s in
        let d : tall size f (suc (suc (2 * a))) (2 * n) ≡ tall size f (2 * suc a) (2 * n) = ap (λ k. tall size f k (2 * n)) t in
        let x : size (f (suc (2 * a))) ≡ size (f (2 * a + 1)) = ap (λ k. size (f k)) u in
        let y : size (f a) ≡ size (f (2 * a)) + size (f (2 * a + 1)) = ap size (p a (omega arith) (omega arith)) ∙ laws.size_joined (f (2 * a)) (f (2 * a + 1)) in
        omega (arith, e, d, x, y, tall_halves (suc a) n (λ i q r. p i (omega arith) (omega arith)))

    pub run_halves : (a n : ℕ) → ((i : ℕ) → a ≤ i → i < a + n → f i ≡ joined (f (2 * i)) (f (2 * i + 1))) → tall size f (2 * a) (2 * n) ≤ limit → run empty joined f (2 * a) (2 * n) ≡ run empty joined f a n
    run_halves a zero p h = refl
    run_halves a (suc n) p h =
        let s : 2 * suc n ≡ suc (suc (2 * n)) = omega arith in
        let t : suc (suc (2 * a)) ≡ 2 * suc a = omega arith in
        let u : suc (2 * a) ≡ 2 * a + 1 = omega arith in
        let g : size (f (2 * a)) + (size (f (suc (2 * a))) + tall size f (suc (suc (2 * a))) (2 * n)) ≤ limit = subst (λ x. tall size f (2 * a) x ≤ limit) s h in
        let d : tall size f (suc (suc (2 * a))) (2 * n) ≡ tall size f (2 * suc a) (2 * n) = ap (λ k. tall size f k (2 * n)) t in
        let R : M = run empty joined f (suc (suc (2 * a))) (2 * n) in
        ap (run empty joined f (2 * a)) s
        ∙ sym (laws.assoc (f (2 * a)) (f (suc (2 * a))) R (vf (2 * a)) (vf (suc (2 * a))) (valid_run (suc (suc (2 * a))) (2 * n) (omega arith)) (omega (arith, size_run (suc (suc (2 * a))) (2 * n))))
        ∙ ap (λ k. joined (joined (f (2 * a)) (f k)) R) u
        ∙ ap (λ x. joined x R) (sym (p a (omega arith) (omega arith)))
        ∙ ap (λ k. joined (f a) (run empty joined f k (2 * n))) t
        ∙ ap (joined (f a)) (run_halves (suc a) n (λ i q r. p i (omega arith) (omega arith)) (omega arith))
