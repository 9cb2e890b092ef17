use Rattle.std.proofs.Common.{◌∙◌, arith}
use Rattle.rows.proofs.Climbs.{climbing_begins, climbing_asks, climbing_on, climbing_ends, climbing_leaves, leaves_set}
use Rattle.rows.proofs.tree.Tree.put.Goals as goal

pub loop-node-init : goal.loop-node-init
loop-node-init g c =
    climbing_begins g.met.T.Summary.laws g.row.NODES c.self.inside.nodes c.args.self.now c.args.k c.args.v
    c.self.invariant c.self.view_is c.requires.place c.requires.fit c.requires.few

pub join-requires : goal.join-requires
join-requires g c = climbing_asks g.met.T.Summary.laws g.row.NODES _ _ _ c.loop-node.invariant _ _ (omega arith)

pub loop-node-preserved : goal.loop-node-preserved
loop-node-preserved g c =
    climbing_on g.met.T.Summary.laws g.row.NODES _ _ _ c.loop-node.invariant
    c.index-self-node-in-loop-node.result c.index-self-node-in-loop-node-2.result c.join.result (omega arith) (cc)

pub invariant_of-self : goal.invariant_of-self
invariant_of-self g c = climbing_ends g.met.T.Summary.laws g.row.NODES _ _ _ c.loop-node.invariant (omega arith)

pub returns : goal.returns
returns g c =
    climbing_leaves g.met.T.Summary.laws g.row.NODES _ _ _ c.loop-node.invariant
    ∙ leaves_set g.row.NODES c.self.inside.nodes c.args.self.now c.args.k c.args.v c.self.view_is
