use Rattle.std.proofs.Common.{◌≡◌, ◌+◌, sym, ◌∙◌, arith}
use Rattle.terms.specs.Figures.{gap}
use Rattle.direct.proofs.Older.{gap_short, one_nearer, one_farther, gap_most}
use Rattle.direct.proofs.gaps.older.Goals as goal

pub returns-in_default : goal.returns-in_default
returns-in_default c =
    c.requires.1 ∙ sym (gap_short c.args.q c.args.x.now c.args.y.now (omega (arith, c.in_default.ensures.lookup)))

nearer : (c : goal.Then-times) → gap c.args.q c.args.x.now c.args.y.now + 1 ≡ c.args.newer
nearer c =
    let g = c.in-Some.ensures.lookup.0 in
    one_nearer c.args.q c.args.x.now c.args.y.now c.in-Some.figure.now c.requires.0 g.1 g.2 c.times.result c.times-2.result
    c.times.ensures c.times-2.ensures c.if-times.true
    ∙ sym c.requires.1

farther : (c : goal.Else-times) → gap c.args.q c.args.x.now c.args.y.now ≡ c.args.newer + 1
farther c =
    let g = c.in-Some.ensures.lookup.0 in
    let e = one_farther c.args.q c.args.x.now c.args.y.now c.in-Some.figure.now c.requires.0 g.1 g.2 c.times.result c.times-2.result
    c.times.ensures c.times-2.ensures c.if-times.false in
    omega (arith, c.requires.1)

pub overflow_sub-result : goal.overflow_sub-result
overflow_sub-result c = let e = nearer c in omega arith

pub overflow_add-result : goal.overflow_add-result
overflow_add-result c = omega (arith, farther c, gap_most c.args.q c.args.x.now c.args.y.now)

pub returns-then-times : goal.returns-then-times
returns-then-times c = let e = nearer c in omega arith

pub returns-else-times : goal.returns-else-times
returns-else-times c = sym (farther c)
