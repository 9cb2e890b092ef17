-- The ring of answers, one answer on.
use Rattle.std.proofs.Common.{◌≡◌, ℕ, ◌+◌, ◌-◌, ◌≤◌, true, List, [], ◌∷◌, ◌++◌, map, length, drop, get_or, set, replicate, sym, ap, ◌∙◌, subst, ⊎_elim, arith}
use Rattle.std.proofs.lemmas.Bool.{cases_eq}
use Rattle.std.proofs.lemmas.List.{append-nil, length-append, length-map, length-replicate, length-set, get_or-set_same, get_or-set_other}
use Rattle.terms.specs.Marks.{newest}
use Rattle.terms.specs.Limits.{lamp_length}
use Rattle.rows.specs.declared.lamp.Lamp.{Lamp}
use Rattle.rows.specs.Laws.{ring, Wrapped, limit, sizes}
use Rattle.rows.specs.Lamps.{no_lamp, lamp_valid}
use Rattle.rows.specs.LampTrees.{answers_in, answer_leaf, laid_out, answers_from, LampKept}
use Rattle.rows.proofs.RingMoves.{length_ring, ring_next, wrap_inside}
use Rattle.rows.proofs.Trees.{get_or_none}
use Rattle.rows.proofs.LampTrees.{sizes_small, small_set, small_none}
use Rattle.rows.proofs.LampTells.{answers_laid, laid_more}

-- leaves that are laid out are laid out by the answers in them
laid_again : (head : ℕ) (leaves : List Lamp) (xs : List (ℕ × ℕ)) → ring head leaves ≡ laid_out lamp_length xs → ring head leaves ≡ laid_out lamp_length (answers_from head leaves)
laid_again head leaves xs e = e ∙ ap (laid_out lamp_length) (sym (ap answers_in e ∙ answers_laid lamp_length xs))

pub kept_none : (leaves : List Lamp) → leaves ≡ replicate lamp_length no_lamp → LampKept 0 leaves
kept_none leaves e = record {
  long = ap length e ∙ length-replicate lamp_length no_lamp;
  inside = omega arith;
  valids = λ i. ap (λ xs. lamp_valid (get_or xs i no_lamp)) e ∙ ap lamp_valid (get_or_none no_lamp lamp_length i);
  small = λ i. subst (λ (xs : List Lamp). (get_or xs i no_lamp).size ≤ 1) (sym e) (small_none lamp_length i);
  laid = laid_again 0 leaves [] (append-nil leaves ∙ e ∙ sym (append-nil (replicate lamp_length no_lamp)));
}

few_answers : (head : ℕ) (leaves : List Lamp) → LampKept head leaves → length (answers_from head leaves) ≤ lamp_length
few_answers head leaves k =
    let xs : List (ℕ × ℕ) = answers_from head leaves in
    let n = k.long in
    let a = ap length k.laid in
    let b = length_ring head leaves in
    let d = length-append (replicate (lamp_length - length xs) no_lamp) (map answer_leaf xs) in
    let e = length-map xs answer_leaf in
    let f = length-replicate (lamp_length - length xs) no_lamp in
    omega (arith, a, b, d, e, f)

module _ (head : ℕ) (leaves : List Lamp) (k : LampKept head leaves) (x : ℕ × ℕ) where
  pub next_fits : sizes (λ (l : Lamp). l.size) (set leaves head (answer_leaf x)) ≤ limit
  next_fits =
      let n = k.long in
      let s = sizes_small (set leaves head (answer_leaf x)) (small_set leaves head (answer_leaf x) (omega arith) k.small) in
      omega (arith, s, length-set leaves head (answer_leaf x))

  valid_set : lamp_valid (answer_leaf x) ≡ true → (i : ℕ) → lamp_valid (get_or (set leaves head (answer_leaf x)) i no_lamp) ≡ true
  valid_set v i =
      let n = k.long in
      let h = k.inside in
      ⊎_elim
      (λ e. ap (λ j. lamp_valid (get_or (set leaves head (answer_leaf x)) j no_lamp)) e ∙ ap lamp_valid (get_or-set_same leaves head (answer_leaf x) no_lamp (omega arith)) ∙ v)
      (λ d. ap lamp_valid (get_or-set_other leaves head i (answer_leaf x) no_lamp d) ∙ k.valids i)
      (cases_eq i head)

  module _ (head' : ℕ) (way : Wrapped (head + 1) lamp_length head') where
    next_leaves : ring head' (set leaves head (answer_leaf x)) ≡ laid_out lamp_length (newest lamp_length (answers_from head leaves ++ x ∷ []))
    next_leaves =
        let n = k.long in
        let h = k.inside in
        ring_next leaves head (answer_leaf x) head' (omega arith) (subst (λ l. Wrapped (head + 1) l head') (sym n) way)
        ∙ ap (λ ys. drop 1 ys ++ answer_leaf x ∷ []) k.laid
        ∙ laid_more lamp_length (answers_from head leaves) x (omega arith) (few_answers head leaves k)

    pub next_answers : answers_from head' (set leaves head (answer_leaf x)) ≡ newest lamp_length (answers_from head leaves ++ x ∷ [])
    next_answers = ap answers_in next_leaves ∙ answers_laid lamp_length (newest lamp_length (answers_from head leaves ++ x ∷ []))

    pub next_kept : lamp_valid (answer_leaf x) ≡ true → LampKept head' (set leaves head (answer_leaf x))
    next_kept v = record {
      long = length-set leaves head (answer_leaf x) ∙ k.long;
      inside = let h = k.inside in wrap_inside (head + 1) lamp_length head' way (omega arith);
      valids = valid_set v;
      small = small_set leaves head (answer_leaf x) (omega arith) k.small;
      laid = laid_again head' (set leaves head (answer_leaf x)) (newest lamp_length (answers_from head leaves ++ x ∷ [])) next_leaves;
    }
