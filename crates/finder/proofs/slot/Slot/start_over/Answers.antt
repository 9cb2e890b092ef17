use Rattle.std.proofs.Common.{rules}
use Rattle.finder.proofs.Starts.{started_over}
use Rattle.finder.proofs.slot.Slot.start_over.Goals as goal

pub returns : goal.returns
returns g c = started_over _ _ _ _ _ _ _ c.begin.ensures (search rules) (search rules)
