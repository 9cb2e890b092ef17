use Rattle.readers.specs.Table.{nodes}
use Rattle.readers.proofs.Walks.{Walk}
use Rattle.std.proofs.Common.{length}
use Rattle.readers.proofs.table.Table.find.Given as goal

abbrev pub invariant-loop-at : goal.invariant-loop-at
invariant-loop-at l = Walk (length l.states) (nodes l.states) l.from l.sound l.at

abbrev pub decreases-loop-at : goal.decreases-loop-at
decreases-loop-at l = l.at
