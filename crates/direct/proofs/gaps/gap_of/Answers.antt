use Rattle.std.proofs.Common.{arith}
use Rattle.direct.proofs.Older.{gap_none, gap_end, one_older}
use Rattle.direct.proofs.gaps.gap_of.Goals as goal

pub loop-i-init : goal.loop-i-init
loop-i-init c =
    omega (arith, gap_none c.args.q c.args.x.now, gap_end c.args.q c.args.x.now c.args.y.now)

pub older-gap-requires : goal.older-gap-requires
older-gap-requires c =
    one_older c.args.q c.args.x.now c.args.y.now c.loop-i.i c.loop-i.gap c.loop-i-test.true (omega arith) c.loop-i.invariant
