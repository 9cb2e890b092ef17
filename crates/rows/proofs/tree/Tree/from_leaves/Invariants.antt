use Rattle.rows.proofs.Builds.{Building}
use Rattle.rows.proofs.tree.Tree.from_leaves.Given as goal

abbrev pub invariant-loop-i : goal.invariant-loop-i
invariant-loop-i g l =
    let m = g.T.Summary in
    Building m.empty m.joined m.size m.valid g.row.NODES l.leaves l.i l.nodes
