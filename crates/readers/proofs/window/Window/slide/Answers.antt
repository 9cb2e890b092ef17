use Rattle.std.proofs.Common.{arith, rules}
use borrow.Author.Tests.{tests}
use Rattle.readers.proofs.Digits.{power_some}
use Rattle.readers.proofs.Windows.{number_fits, below_on, slid_on, filled_on}
use Rattle.readers.proofs.window.Window.slide.Goals as goal

pub nonzero_rem-self : goal.nonzero_rem-self
nonzero_rem-self c = let s = c.args.self.now.scale in power_some s.base s.width s.power s.based s.powered

pub overflow_mul-self : goal.overflow_mul-self
overflow_mul-self c = let f = number_fits c.args.self.now c.args.sound c.if-digit-self.false in omega arith

pub overflow_add-self : goal.overflow_add-self
overflow_add-self c = let f = number_fits c.args.self.now c.args.sound c.if-digit-self.false in omega arith

pub invariant_of-self : goal.invariant_of-self
invariant_of-self c = record { full = omega arith; below = below_on c.args.self.now c.args.sound _ c.if-digit-self.false c.min-self.ensures }

pub returns-clause-slid : goal.returns-clause-slid
returns-clause-slid c = slid_on c.args.self.now c.args.sound _ c.if-digit-self.false c.min-self.ensures

pub returns-clause-filled : goal.returns-clause-filled
returns-clause-filled c =
    let e = c.min-self.ensures in
    filled_on c.args.self.now c.args.sound _ c.if-digit-self.false e _ (λ t. search (rules, tests)) (λ t. search (rules, tests)) _ c.then_some.ensures
