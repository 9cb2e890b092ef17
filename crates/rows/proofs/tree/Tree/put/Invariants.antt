use Rattle.rows.proofs.Climbs.{Climbing}
use Rattle.rows.proofs.tree.Tree.put.Given as goal

abbrev pub invariant-loop-node : goal.invariant-loop-node
invariant-loop-node g l =
    let m = g.T.Summary in
    Climbing m.empty m.joined m.size m.valid g.row.NODES l.initial.self-inside.nodes l.node l.self-inside.nodes

abbrev pub decreases-loop-node : goal.decreases-loop-node
decreases-loop-node g l = l.node
