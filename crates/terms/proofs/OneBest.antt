-- A take with a step in it has just one best stretch.
use Rattle.std.proofs.Common.{ℕ, zero, suc, ◌+◌, ◌-◌, ◌<◌, ◌≤◌, List, [], ◌∷◌, ◌++◌, length, get_or, take, sym, refl, subst, inl, inr, arith, take-suc}
use Rattle.std.proofs.lemmas.Bool.{cases_lt}
use Rattle.std.proofs.lemmas.List.{take_all}
use Rattle.terms.specs.Closest.{Best, AlwaysOneBest}
use Rattle.terms.proofs.Bests.{best_by_steps_lem, best_unique}
use Rattle.terms.proofs.Leasts.{always_one_closest}

-- some best of a take
abbrev SomeBest : ℕ → List ℕ → List ℕ → Type 0
SomeBest q phrase t = (g : ℕ) × (s : ℕ) × (e : ℕ) × Best q phrase t g s e

module _ (q : ℕ) (phrase t : List ℕ) (h1 : 1 ≤ q) (h2 : q ≤ length phrase) where
  more : (u : List ℕ) (x : ℕ) → SomeBest q phrase u → SomeBest q phrase (u ++ (x ∷ []))
  more u x b =
      let c = always_one_closest q phrase (u ++ (x ∷ [])) h1 h2 in
      let r = best_by_steps_lem q phrase u x c.gap_of c.start_of c.closest in
      elim (cases_lt c.gap_of b.0) [
        | inl k ↦ (c.gap_of, c.start_of, length u + 1, r.falls b.0 b.1 b.2 b.3 k)
        | inr k ↦ (b.0, b.1, b.2, r.keeps b.0 b.1 b.2 b.3 k)
      ]

  up_to : (n : ℕ) → n < length t → SomeBest q phrase (take (suc n) t)
  up_to zero h =
      let c = always_one_closest q phrase ([] ++ (get_or t 0 0 ∷ [])) h1 h2 in
      let r = best_by_steps_lem q phrase [] (get_or t 0 0) c.gap_of c.start_of c.closest in
      subst (SomeBest q phrase) (sym (take-suc t 0 0 h)) (c.gap_of, c.start_of, length {A = ℕ} [] + 1, r.first_step refl)
  up_to (suc n) h = subst (SomeBest q phrase) (sym (take-suc t (suc n) 0 h)) (more (take (suc n) t) (get_or t (suc n) 0) (up_to n (omega arith)))

  pub some_best : 1 ≤ length t → SomeBest q phrase t
  some_best h = subst (SomeBest q phrase) (take_all (suc (length t - 1)) t (omega arith)) (up_to (length t - 1) (omega arith))

pub always_one_best : AlwaysOneBest
always_one_best = (
  λ q phrase t h1 h2 h3.
      let b = some_best q phrase t h1 h2 h3 in
      record { gap_of = b.0; start_of = b.1; end_of = b.2; best = b.3; only = λ g s e c. best_unique c b.3 },
  λ q phrase g s e b. omega (arith, b.a_step.0, b.a_step.1),
)
