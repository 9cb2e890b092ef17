use Rattle.std.proofs.Common.{◌-◌, length, arith}
use Rattle.std.proofs.lemmas.Bool.{both_ways}
use Rattle.direct.proofs.Standing.{begins, times_end, times_here, times_not}
use Rattle.direct.proofs.counts.times.Goals as goal

pub loop-i-init : goal.loop-i-init
loop-i-init c = omega (arith, times_end c.args.figure.now c.args.row.now (length c.args.figure.now))

pub loop-i-preserved-then-starts_with : goal.loop-i-preserved-then-starts_with
loop-i-preserved-then-starts_with c =
    let f = c.args.figure.now in
    let d = begins c.args.row.now f (c.loop-i.i - 1) c.starts_with.result c.starts_with.ensures.value in
    omega (
      arith,
      times_here f c.args.row.now c.loop-i.i c.loop-i-test.true (omega (arith, c.loop-i.invariant.1))
          (d.0 c.if-starts_with.true),
    )

pub loop-i-preserved : goal.loop-i-preserved
loop-i-preserved c =
    let f = c.args.figure.now in
    let d = begins c.args.row.now f (c.loop-i.i - 1) c.starts_with.result c.starts_with.ensures.value in
    omega (
      arith,
      times_not f c.args.row.now c.loop-i.i c.loop-i-test.true (omega (arith, c.loop-i.invariant.1))
          (λ e. both_ways c.starts_with.result c.if-starts_with.false (d.1 e)),
    )
