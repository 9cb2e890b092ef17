-- A row of steps, and its bytes.
use Rattle.std.proofs.Common.{◌≡◌, ℕ, zero, suc, ◌+◌, ◌*◌, ◌<◌, List, [], ◌∷◌, ◌++◌, map, length, get_or, take, drop, sym, refl, ap, ◌∙◌, subst, add-mul, one-mul, zero-mul, arith, length-append, length-drop, take-append-drop}
use Rattle.std.proofs.lemmas.List.{drop-drop, take_at, drop_at, nil_from_length}
use Rattle.std.specs.List.{flat_map}
use Rattle.sheets.specs.Layout.{part, Written, AllSteps}

glued : (x y bs : List ℕ) (w : ℕ) → x ≡ take w bs → y ≡ drop w bs → x ++ y ≡ bs
glued x y bs w p q = (λ i. p i ++ q i) ∙ take-append-drop w bs

-- a row that has steps at all its parts is the bytes of a list of steps
module _ {S : Type 0} (bytes : S → List ℕ) (w : ℕ) where
  part_later : (bs : List ℕ) (i : ℕ) → part w bs (i + 1) ≡ part w (drop w bs) i
  part_later bs i = ap (take w) (ap (λ n. drop n bs) (omega (arith, add-mul i 1 w, one-mul w)) ∙ sym (drop-drop (i * w) w bs))

  pub gathered : (n : ℕ) (bs : List ℕ) → length bs ≡ n * w → AllSteps bytes w bs n → (ss : List S) × (flat_map bytes ss ≡ bs) × (length ss ≡ n)
  gathered zero bs long sound = ([], sym (nil_from_length bs (omega (arith, zero-mul w))), refl)
  gathered (suc n) bs long sound =
      let first = sound 0 (omega arith) in
      let more = gathered n (drop w bs) (omega (arith, length-drop w bs, add-mul n 1 w, one-mul w)) (λ i h. subst (Written bytes) (part_later bs i) (sound (i + 1) (omega arith))) in
      let start : part w bs 0 ≡ take w bs = ap (λ k. take w (drop k bs)) (zero-mul w) in
      (first.0 ∷ more.0, glued _ _ bs w (first.1 ∙ start) more.1, ap suc more.2)

  module _ (sized : (s : S) → length (bytes s) ≡ w) where
    pub joined_length : (ss : List S) → length (flat_map bytes ss) ≡ length ss * w
    joined_length [] = omega (arith, zero-mul w)
    joined_length (s ∷ ss) = omega (arith, length-append (bytes s) (flat_map bytes ss), sized s, joined_length ss, add-mul (length ss) 1 w, one-mul w)

    pub spread : (ss : List S) → AllSteps bytes w (flat_map bytes ss) (length ss)
    spread [] i h = absurd (omega arith)
    spread (s ∷ ss) zero h = (s, sym (ap (λ k. take w (drop k (flat_map bytes (s ∷ ss)))) (zero-mul w) ∙ take_at (bytes s) (flat_map bytes ss) w (sized s)))
    spread (s ∷ ss) (suc i) h =
        let later = spread ss i (omega arith) in
        (later.0, later.1 ∙ ap (λ bs. part w bs i) (sym (drop_at (bytes s) (flat_map bytes ss) w (sized s))) ∙ sym (part_later (flat_map bytes (s ∷ ss)) i) ∙ ap (part w (flat_map bytes (s ∷ ss))) (omega arith))

    -- the i-th part is the bytes of the i-th step, and its sound the i-th
    pub placed : (sound : S → ℕ) (ss : List S) (i : ℕ) → i < length ss → (s : S) × (bytes s ≡ part w (flat_map bytes ss) i) × (sound s ≡ get_or (map sound ss) i 0)
    placed sound [] i h = absurd (omega arith)
    placed sound (s ∷ ss) zero h = (s, sym (ap (λ k. take w (drop k (flat_map bytes (s ∷ ss)))) (zero-mul w) ∙ take_at (bytes s) (flat_map bytes ss) w (sized s)), refl)
    placed sound (s ∷ ss) (suc i) h =
        let later = placed sound ss i (omega arith) in
        (later.0, later.1 ∙ ap (λ bs. part w bs i) (sym (drop_at (bytes s) (flat_map bytes ss) w (sized s))) ∙ sym (part_later (flat_map bytes (s ∷ ss)) i) ∙ ap (part w (flat_map bytes (s ∷ ss))) (omega arith), later.2)
