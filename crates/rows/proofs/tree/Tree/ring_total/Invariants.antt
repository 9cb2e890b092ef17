use Rattle.rows.proofs.Rings.{Circling}
use Rattle.rows.proofs.tree.Tree.ring_total.Given as goal

abbrev pub invariant-loop-at : goal.invariant-loop-at
invariant-loop-at g l =
    let m = g.T.Summary in
    Circling m.empty m.joined m.size m.valid g.row.NODES l.self-inside.nodes l.head l.at l.older l.newer

abbrev pub decreases-loop-at : goal.decreases-loop-at
decreases-loop-at g l = l.at
