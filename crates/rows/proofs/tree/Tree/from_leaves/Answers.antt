use Rattle.std.proofs.Common.{arith}
use Rattle.rows.proofs.Builds.{building_begins, building_asks, building_on, building_ends, building_leaves}
use Rattle.rows.proofs.tree.Tree.from_leaves.Goals as goal

pub loop-i-init : goal.loop-i-init
loop-i-init g c =
    building_begins g.met.T.Summary.laws g.row.NODES c.args.leaves.now c.requires.shape c.requires.count c.requires.fit c.requires.few
    _ _ c.none-nodes.ensures c.copy_from_slice.ensures.after

pub join-requires : goal.join-requires
join-requires g c = building_asks g.met.T.Summary.laws g.row.NODES _ _ _ c.loop-i.invariant _ _ c.loop-i-test.true

pub loop-i-preserved : goal.loop-i-preserved
loop-i-preserved g c =
    building_on g.met.T.Summary.laws g.row.NODES _ _ _ c.loop-i.invariant
    c.index-nodes-i.result c.index-nodes-i-in-loop-i.result _ c.loop-i-test.true c.join.ensures

pub invariant_of-result : goal.invariant_of-result
invariant_of-result g c = building_ends g.met.T.Summary.laws g.row.NODES _ _ _ c.loop-i.invariant (omega arith)

pub returns : goal.returns
returns g c = building_leaves g.met.T.Summary.laws g.row.NODES _ _ _ c.loop-i.invariant
