-- What a call that is not turned away knows of its number.
use Rattle.std.proofs.Common.{◌≡◌, ℕ, ◌<◌, ◌≤◌, None, Some, Option, Ok, refl, arith}
use Rattle.std.proofs.lemmas.Bool.Decides.{nat_tests}
use Rattle.terms.specs.Limits.{widest_row}
use Rattle.terms.specs.Refusals.{start_refusal, lift_refusal, verdict}
use Rattle.terms.specs.declared.refusal.Refusal.{Refusal}

passed : (r : Option Refusal) → verdict r ≡ Ok tt → r ≡ None
passed None e = refl
passed (Some x) e = cc

-- a start that passes
pub start_passed : (w : ℕ) → verdict (start_refusal w) ≡ Ok tt → start_refusal w ≡ None
start_passed w e = passed (start_refusal w) e

pub start_allowed : (w : ℕ) → verdict (start_refusal w) ≡ Ok tt → (0 < w) × (w ≤ widest_row)
start_allowed w e = let h = start_passed w e in (grind (arith, nat_tests), grind (arith, nat_tests))

-- a lift that passes
pub lift_passed : (w age : ℕ) → verdict (lift_refusal w age) ≡ Ok tt → lift_refusal w age ≡ None
lift_passed w age e = passed (lift_refusal w age) e

pub lift_allowed : (w age : ℕ) → verdict (lift_refusal w age) ≡ Ok tt → age < w
lift_allowed w age e = let h = lift_passed w age e in grind (arith, nat_tests)
