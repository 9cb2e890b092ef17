-- That summaries of answers keep the laws of a summary.
use Rattle.std.specs.Prelude.{◌≡◌, ℕ, ◌+◌, ◌≤◌, Bool, true, false, cond, refl}
use Rattle.std.proofs.Common.{arith}
use Rattle.std.proofs.lemmas.Bool.Decides.{nat_tests}
use Rattle.terms.specs.Limits.{longest_phrase, longest_take}
use Rattle.rows.specs.Laws.{Laws}
use Rattle.rows.specs.declared.lamp.Lamp.{Lamp}
use Rattle.rows.specs.Lamps.{lamp_of, no_lamp, better, lamp_joined, lamp_valid}

pub same_lamps : {n n' g g' s s' : ℕ} → n ≡ n' → g ≡ g' → s ≡ s' → lamp_of n g s ≡ lamp_of n' g' s'
same_lamps p q r = cc

pub record Valid (l : Lamp) : Type 0 where
  pub gap_in : l.gap ≤ longest_phrase
  pub step_in : l.step ≤ longest_take

pub valid_says : (l : Lamp) → lamp_valid l ≡ true → Valid l
valid_says l h = record { gap_in = grind (arith, nat_tests); step_in = grind (arith, nat_tests) }

pub valid_when : (l : Lamp) → Valid l → lamp_valid l ≡ true
valid_when l v = grind (arith, nat_tests)

lamp_left : (x : Lamp) → lamp_valid x ≡ true → lamp_joined no_lamp x ≡ x
lamp_left x h = let v = valid_says x h in same_lamps (omega arith) (grind (arith, nat_tests)) (grind (arith, nat_tests))

lamp_right : (x : Lamp) → lamp_valid x ≡ true → lamp_joined x no_lamp ≡ x
lamp_right x h = let v = valid_says x h in same_lamps (omega arith) (grind (arith, nat_tests)) (grind (arith, nat_tests))

module _ (a b c : Lamp) where
  gap_at : (t u : Bool) → better a b ≡ t → better b c ≡ u → cond (better (lamp_of 0 (cond t b.gap a.gap) (cond t b.step a.step)) c) c.gap (cond t b.gap a.gap) ≡ cond (better a (lamp_of 0 (cond u c.gap b.gap) (cond u c.step b.step))) (cond u c.gap b.gap) a.gap
  gap_at true true p q = grind (arith, nat_tests)
  gap_at true false p q = grind (arith, nat_tests)
  gap_at false true p q = grind (arith, nat_tests)
  gap_at false false p q = grind (arith, nat_tests)

  step_at : (t u : Bool) → better a b ≡ t → better b c ≡ u → cond (better (lamp_of 0 (cond t b.gap a.gap) (cond t b.step a.step)) c) c.step (cond t b.step a.step) ≡ cond (better a (lamp_of 0 (cond u c.gap b.gap) (cond u c.step b.step))) (cond u c.step b.step) a.step
  step_at true true p q = grind (arith, nat_tests)
  step_at true false p q = grind (arith, nat_tests)
  step_at false true p q = grind (arith, nat_tests)
  step_at false false p q = grind (arith, nat_tests)

pub joined_at : (x y : Lamp) → Valid x → Valid y → (t : Bool) → Valid (lamp_of (x.size + y.size) (cond t y.gap x.gap) (cond t y.step x.step))
joined_at x y v w true = record { gap_in = w.gap_in; step_in = w.step_in }
joined_at x y v w false = record { gap_in = v.gap_in; step_in = v.step_in }

pub lamp_laws : Laws no_lamp lamp_joined (λ l. l.size) lamp_valid
lamp_laws = record {
  size_empty = refl;
  valid_empty = refl;
  left = lamp_left;
  right = lamp_right;
  size_joined = λ x y. refl;
  valid_joined = λ x y p q h. valid_when (lamp_joined x y) (joined_at x y (valid_says x p) (valid_says y q) (better x y));
  assoc = λ x y z p q r h. same_lamps (omega arith) (gap_at x y z _ _ refl refl) (step_at x y z _ _ refl refl);
}
