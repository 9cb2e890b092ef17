use Rattle.rows.proofs.LampTells.{lamp_shows}
use Rattle.rows.proofs.lamp_ring.LampRing.lamp.Goals as goal

pub returns : goal.returns
returns c =
    let r = c.args.self.now in
    lamp_shows r.head r.tree r.kept c.ring_total.result c.ring_total.ensures c.shown.result c.shown.ensures
