-- What a tree keeps true of its nodes, at its making and through its writes.
use Rattle.std.proofs.Common.{◌≡◌, ℕ, zero, suc, ◌+◌, ◌-◌, ◌*◌, ◌^◌, ◌<◌, ◌≤◌, Bool, true, List, length, get_or, drop, replicate, sym, refl, ap, ◌∙◌, subst, ⊎_elim, arith}
use Rattle.std.proofs.lemmas.Bool.{cases_lt}
use Rattle.std.proofs.lemmas.List.{drop-replicate, length-drop, get_or_past, take_all}
use Rattle.rows.specs.Laws.{Laws, Kept, limit, sizes}
use Rattle.rows.proofs.Runs.{tall}
use Rattle.rows.proofs.Totals.{tall_sizes}

pub get_or_none : {M : Type 0} (x : M) (n i : ℕ) → get_or (replicate n x) i x ≡ x
get_or_none x zero i = refl
get_or_none x (suc n) zero = refl
get_or_none x (suc n) (suc i) = get_or_none x n i

pub sizes_none : {M : Type 0} (size : M → ℕ) (x : M) (n : ℕ) → size x ≡ 0 → sizes size (replicate n x) ≡ 0
sizes_none size x zero e = refl
sizes_none size x (suc n) e = omega (arith, sizes_none size x n e)

module _ {M : Type 0} {empty : M} {joined : M → M → M} {size : M → ℕ} {valid : M → Bool} (laws : Laws empty joined size valid) where
  pub kept_none : (depth nodes : ℕ) → Kept empty joined size valid depth (replicate nodes empty)
  kept_none depth nodes = record {
    parents = λ i p q. get_or_none empty nodes i ∙ sym (laws.left empty laws.valid_empty) ∙ ap (λ x. joined x empty) (sym (get_or_none empty nodes (2 * i))) ∙ ap (joined (get_or (replicate nodes empty) (2 * i) empty)) (sym (get_or_none empty nodes (2 * i + 1)));
    valids = λ i h. ap valid (get_or_none empty nodes i) ∙ laws.valid_empty;
    few = subst (λ xs. sizes size xs ≤ limit) (sym (drop-replicate (2 ^ depth) nodes empty)) (omega (arith, sizes_none size empty (nodes - 2 ^ depth) laws.size_empty));
  }

  module _ (depth : ℕ) (nodes : List M) (long : length nodes ≡ 2 * 2 ^ depth) where
    -- a node past the end reads as the empty summary, so all are valid
    pub all_valid : ((i : ℕ) → i < length nodes → valid (get_or nodes i empty) ≡ true) → (i : ℕ) → valid (get_or nodes i empty) ≡ true
    all_valid v i =
        ⊎_elim (v i) (λ h. ap valid (get_or_past nodes i empty h) ∙ laws.valid_empty) (cases_lt i (length nodes))

    pub tall_leaves : tall size (λ i. get_or nodes i empty) (2 ^ depth) (2 ^ depth) ≡ sizes size (drop (2 ^ depth) nodes)
    tall_leaves =
        tall_sizes empty size nodes (2 ^ depth) (2 ^ depth) (omega arith)
        ∙ ap (sizes size) (take_all (2 ^ depth) (drop (2 ^ depth) nodes) (omega (arith, length-drop (2 ^ depth) nodes)))
