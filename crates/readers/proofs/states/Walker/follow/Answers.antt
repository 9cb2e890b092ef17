use Rattle.std.proofs.Common.{◌<◌, ◌∙◌, arith}
use Rattle.readers.specs.Hearing.{follow_child, follow_on, follow_end}
use Rattle.readers.proofs.states.Walker.follow.Goals as goal

pub returns-in-Some-clause-longest : goal.returns-in-Some-clause-longest
returns-in-Some-clause-longest c = follow_child _ _ _ _ _ c.args.self.now.kept c.loop-child.at c.args.sound c.in-Some.child c.in-Some.ensures ∙ c.loop-child.invariant.1

pub returns-then-at-eq0-clause-longest : goal.returns-then-at-eq0-clause-longest
returns-then-at-eq0-clause-longest c =
    follow_end _ _ _ _ _ c.args.self.now.kept c.loop-child.at c.args.sound c.loop-child.invariant.0 c.if-at-eq0.true c.in_default.ensures ∙ c.loop-child.invariant.1

pub loop-child-preserved : goal.loop-child-preserved
loop-child-preserved c =
    let h = c.loop-child.invariant.0 in
    let z : 0 < c.loop-child.at = omega arith in
    rw c.deref.ensures.0 (c.args.self.now.kept.runs.shorter_in c.loop-child.at z h, follow_on _ _ _ _ _ c.args.self.now.kept c.loop-child.at c.args.sound h c.if-at-eq0.false c.in_default.ensures ∙ c.loop-child.invariant.1)
