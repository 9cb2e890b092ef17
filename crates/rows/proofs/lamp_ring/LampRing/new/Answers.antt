use Rattle.std.proofs.Common.{refl, lit<}
use Rattle.terms.specs.Limits.{depth_of_lamp}
use Rattle.rows.proofs.LampSteps.{kept_none}
use Rattle.rows.proofs.lamp_ring.LampRing.new.Goals as goal

pub new-requires : goal.new-requires
new-requires c = (lit< tt, (depth_of_lamp, refl))

pub invariant_of-result : goal.invariant_of-result
invariant_of-result c = record { kept = kept_none c.new.result c.new.ensures }
