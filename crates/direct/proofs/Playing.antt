-- One more record of a take, and the best stretch after it.
use Rattle.std.proofs.Common.{◌≡◌, ℕ, ◌+◌, ◌<◌, Bool, true, false, cond, leb, ◌≢◌, List, [], ◌∷◌, ◌++◌, length, get_or, take, set, Some, None, Option, sym, refl, ap, ◌∙◌, subst, inl, inr, arith}
use Rattle.std.proofs.lemmas.List.{length_push, take_more, get_or-set_same, get_or-set_other}
use Rattle.std.proofs.lemmas.Bool.{cases_lt, leb-true, leb-false}
use Rattle.terms.specs.declared.answer.Answer.{Answer}
use Rattle.terms.specs.declared.answer.BestStretch.{BestStretch}
use Rattle.terms.specs.Bettered.{best_at, better_of}
use Rattle.terms.specs.Closest.{Best, BestRule}
use Rattle.terms.proofs.Bests.{best_by_steps_lem}
use Rattle.terms.specs.Told.{Answered, BestTold, blank}

module _ (q : ℕ) (phrase t : List ℕ) (x : ℕ) (a : Answer) (h : Answered q phrase (t ++ (x ∷ [])) a) where
  rule : BestRule q phrase t x a.gap a.start
  rule = best_by_steps_lem q phrase t x a.gap a.start h.closest

  -- the best stretch that ends at the new step, at the record's own number
  at_step : Best q phrase (t ++ (x ∷ [])) a.gap a.start (length t + 1) → BestTold q phrase (t ++ (x ∷ [])) (Some (best_at a))
  at_step b = subst (Best q phrase (t ++ (x ∷ [])) a.gap a.start) (sym (h.number ∙ length_push t x)) b

  told_more : (o : Option BestStretch) → BestTold q phrase t o → BestTold q phrase (t ++ (x ∷ [])) (Some (better_of o a))
  told_more None e = at_step (rule.first_step e)
  told_more (Some b) k = go (leb b.gap a.gap) refl
    where
      go : (c : Bool) → leb b.gap a.gap ≡ c → BestTold q phrase (t ++ (x ∷ [])) (Some (cond c b (best_at a)))
      go true e = rule.keeps b.gap b.start b.end k (leb-true _ _ e)
      go false e = at_step (rule.falls b.gap b.start b.end k (leb-false _ _ e))

module _ (q : ℕ) (phrase t : List ℕ) where
  -- every record below i is the answer at its step
  abbrev pub Each : ℕ → List Answer → Type 0
  Each i answers = (j : ℕ) → j < i → Answered q phrase (take (j + 1) t) (get_or answers j blank)

  pub each_more : (i : ℕ) (answers : List Answer) (a : Answer) → i < length answers → Each i answers
      → Answered q phrase (take (i + 1) t) a → Each (i + 1) (set answers i a)
  each_more i answers a h k n j l = elim (cases_lt j i) [
    | inl o ↦
        let ne : j ≢ i = omega arith in
        subst (Answered q phrase (take (j + 1) t)) (sym (get_or-set_other answers i j a blank ne)) (k j o)
    | inr o ↦
        let e : i ≡ j = omega arith in
        let same = sym (get_or-set_same answers i a blank h) ∙ ap (λ m. get_or (set answers i a) m blank) e in
        subst (λ m. Answered q phrase (take (m + 1) t) (get_or (set answers i a) j blank)) e
        (subst (Answered q phrase (take (i + 1) t)) same n)
  ]

  pub best_more : (i : ℕ) (o : Option BestStretch) (a : Answer) → i < length t → BestTold q phrase (take i t) o
      → Answered q phrase (take (i + 1) t) a → BestTold q phrase (take (i + 1) t) (Some (better_of o a))
  best_more i o a h k n =
      let e = take_more t i 0 h in
      subst (λ r. BestTold q phrase r (Some (better_of o a))) (sym e)
      (told_more q phrase (take i t) (get_or t i 0) a (subst (λ r. Answered q phrase r a) e n) o k)
