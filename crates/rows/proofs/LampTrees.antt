-- Leaves of the lamp's ring: none has a size above 1.
use Rattle.std.proofs.Common.{ℕ, zero, suc, ◌≤◌, List, [], ◌∷◌, length, get_or, set, replicate, sym, ap, ◌∙◌, subst, ⊎_elim, arith}
use Rattle.std.proofs.lemmas.Bool.{cases_eq, cases_lt}
use Rattle.std.proofs.lemmas.List.{get_or-set_same, get_or-set_other, set_past}
use Rattle.rows.specs.declared.lamp.Lamp.{Lamp}
use Rattle.rows.specs.Laws.{sizes}
use Rattle.rows.specs.Lamps.{no_lamp}

-- leaves of size 0 or 1
pub sizes_small : (xs : List Lamp) → ((i : ℕ) → (get_or xs i no_lamp).size ≤ 1) → sizes (λ (l : Lamp). l.size) xs ≤ length xs
sizes_small [] h = omega arith
sizes_small (x ∷ xs) h = omega (arith, h 0, sizes_small xs (λ i. h (suc i)))

pub small_set : (xs : List Lamp) (p : ℕ) (y : Lamp) → y.size ≤ 1 → ((i : ℕ) → (get_or xs i no_lamp).size ≤ 1) → (i : ℕ) → (get_or (set xs p y) i no_lamp).size ≤ 1
small_set xs p y s h i =
    ⊎_elim
    (λ e. ⊎_elim
    (λ l. subst (λ (z : Lamp). z.size ≤ 1) (sym (ap (λ j. get_or (set xs p y) j no_lamp) e ∙ get_or-set_same xs p y no_lamp (omega arith))) s)
    (λ g. subst (λ zs. (get_or zs i no_lamp).size ≤ 1) (sym (set_past xs p y (omega arith))) (h i))
    (cases_lt i (length xs)))
    (λ n. subst (λ (z : Lamp). z.size ≤ 1) (sym (get_or-set_other xs p i y no_lamp n)) (h i))
    (cases_eq i p)

pub small_none : (n i : ℕ) → (get_or (replicate n no_lamp) i no_lamp).size ≤ 1
small_none zero i = omega arith
small_none (suc n) zero = omega arith
small_none (suc n) (suc i) = small_none n i
