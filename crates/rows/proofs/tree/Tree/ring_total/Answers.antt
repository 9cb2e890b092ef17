use Rattle.std.proofs.Common.{◌∙◌, arith}
use Rattle.rows.proofs.Rings.{circling_begins, left_asks, goes_on_left, right_asks, goes_on_right, ends_ask, all_round}
use Rattle.rows.proofs.tree.Tree.ring_total.Goals as goal
use Rattle.rows.proofs.tree.Tree.ring_total.Goals.{then-at-eq0, else-at-eq0}

pub loop-at-init : goal.loop-at-init
loop-at-init g c =
    circling_begins g.met.T.Summary.laws g.row.NODES c.self.inside.nodes c.args.head c.self.invariant c.requires
    c.index-self-at.result c.none-newer.result c.none-newer.ensures

pub join-older-requires : goal.join-older-requires
join-older-requires g c =
    left_asks g.met.T.Summary.laws g.row.NODES c.self.inside.nodes c.args.head _ _ _ c.loop-at.invariant
    c.index-self-at-then-at-eq0.result c.loop-at-test.true c.if-at-eq0.true

pub join-newer-requires : goal.join-newer-requires
join-newer-requires g c =
    right_asks g.met.T.Summary.laws g.row.NODES c.self.inside.nodes c.args.head _ _ _ c.loop-at.invariant
    c.index-self-at-else-at-eq0.result c.loop-at-test.true c.if-at-eq0.false

pub loop-at-preserved : goal.loop-at-preserved
loop-at-preserved g c =
    elim c.if-at-eq0.branch [
      | then-at-eq0 w ↦
          goes_on_left g.met.T.Summary.laws g.row.NODES c.self.inside.nodes c.args.head _ _ _ c.loop-at.invariant
          w.index-self-at-then-at-eq0.result _ _ c.loop-at-test.true w.if-at-eq0.true (w.older-is ∙ w.join-older.ensures) w.newer-is
      | else-at-eq0 w ↦
          goes_on_right g.met.T.Summary.laws g.row.NODES c.self.inside.nodes c.args.head _ _ _ c.loop-at.invariant
          w.index-self-at-else-at-eq0.result _ _ c.loop-at-test.true w.if-at-eq0.false w.older-is (w.newer-is ∙ w.join-newer.ensures)
    ]

pub join-requires : goal.join-requires
join-requires g c = ends_ask g.met.T.Summary.laws g.row.NODES c.self.inside.nodes c.args.head _ _ _ c.loop-at.invariant (omega arith)

pub returns : goal.returns
returns g c =
    all_round g.met.T.Summary.laws g.row.NODES c.self.inside.nodes c.args.head _ _ _ c.loop-at.invariant (omega arith)
    c.join.result c.args.self.now c.join.ensures c.self.view_is
