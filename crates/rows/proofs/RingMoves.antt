-- Rings: one element on, and one element written.
use Rattle.std.proofs.Common.{◌≡◌, ℕ, suc, ◌+◌, ◌-◌, ◌*◌, ◌<◌, ◌≤◌, List, [], ◌∷◌, ◌++◌, length, take, drop, set, sym, ap, ◌∙◌, ⊎_elim, arith}
use lib.Seq.{take-set-lt}
use Rattle.std.proofs.lemmas.Bool.{cases_lt}
use Rattle.std.proofs.lemmas.List.{append-nil, append_assoc, length-append, length-drop, drop-set-lt, drop-set-add, take-set-le, take_more_set, set_split, set-append_left, set-append_right, drop_more, drop_all, take-append-drop}
use Rattle.rows.specs.Laws.{ring, Wrapped}

pub length_ring : {A : Type 0} (h : ℕ) (xs : List A) → length (ring h xs) ≡ length xs
length_ring h xs =
    let a = length-append (drop h xs) (take h xs) in
    let b = length-append (take h xs) (drop h xs) in
    let c = ap length (take-append-drop h xs) in
    omega arith

module _ {A : Type 0} (xs : List A) (h : ℕ) (y : A) where
  next_inside : h + 1 < length xs → ring (h + 1) (set xs h y) ≡ drop 1 (ring h xs) ++ y ∷ []
  next_inside l =
      ap (λ zs. zs ++ take (h + 1) (set xs h y)) (drop-set-lt (h + 1) xs h y (omega arith))
      ∙ ap (λ zs. drop (h + 1) xs ++ zs) (take_more_set xs h y (omega arith))
      ∙ sym (append_assoc (drop (h + 1) xs) (take h xs) (y ∷ []))
      ∙ ap (λ zs. drop 1 (zs ++ take h xs) ++ y ∷ []) (sym (drop_more xs h y (omega arith)))

  next_over : h + 1 ≡ length xs → ring 0 (set xs h y) ≡ drop 1 (ring h xs) ++ y ∷ []
  next_over l =
      append-nil (set xs h y)
      ∙ set_split xs h y (omega arith)
      ∙ ap (λ zs. take h xs ++ y ∷ zs) (drop_all (suc h) xs (omega arith))
      ∙ ap (λ zs. (zs ++ take h xs) ++ y ∷ []) (sym (drop_all (h + 1) xs (omega arith)))
      ∙ ap (λ zs. drop 1 (zs ++ take h xs) ++ y ∷ []) (sym (drop_more xs h y (omega arith)))

  -- the oldest gives way, and the ring begins one place on
  pub ring_next : (r : ℕ) → h < length xs → Wrapped (h + 1) (length xs) r → ring r (set xs h y) ≡ drop 1 (ring h xs) ++ y ∷ []
  ring_next r l w =
      ⊎_elim
      (λ i. ap (λ k. ring k (set xs h y)) (w.inside i) ∙ next_inside i)
      (λ i. let e : r ≡ 0 = omega (arith, w.over i) in ap (λ k. ring k (set xs h y)) e ∙ next_over (omega arith))
      (cases_lt (h + 1) (length xs))

  -- what stands b places after the oldest is written
  pub ring_written : (b r : ℕ) → h ≤ length xs → b < length xs → Wrapped (h + b) (length xs) r → ring h (set xs r y) ≡ set (ring h xs) b y
  ring_written b r l below w =
      ⊎_elim
      (λ i.
      ap (λ k. ring h (set xs k y)) (w.inside i)
      ∙ ap (λ zs. zs ++ take h (set xs (h + b) y)) (drop-set-add h xs b y)
      ∙ ap (λ zs. set (drop h xs) b y ++ zs) (take-set-le h xs (h + b) y (omega arith))
      ∙ sym (set-append_left (drop h xs) (take h xs) b y (omega (arith, length-drop h xs))))
      (λ i.
      let o = w.over i in
      let d = length-drop h xs in
      let n : b - (length xs - h) ≡ r = omega arith in
      ap (λ zs. zs ++ take h (set xs r y)) (drop-set-lt h xs r y (omega arith))
      ∙ ap (λ zs. drop h xs ++ zs) (take-set-lt h xs r y (omega arith))
      ∙ ap (λ k. drop h xs ++ set (take h xs) k y) (sym n)
      ∙ sym (set-append_right (drop h xs) (take h xs) (length xs - h) b y d (omega arith)))
      (cases_lt (h + b) (length xs))

pub wrap_inside : (at len r : ℕ) → Wrapped at len r → at < 2 * len → r < len
wrap_inside at len r w h = ⊎_elim (λ i. let e = w.inside i in omega arith) (λ i. let e = w.over i in omega arith) (cases_lt at len)
