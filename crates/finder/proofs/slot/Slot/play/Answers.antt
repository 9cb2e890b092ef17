use Rattle.std.proofs.Common.{rules}
use Rattle.finder.proofs.Playing.{step_played}
use Rattle.finder.proofs.slot.Slot.play.Goals as goal

pub returns : goal.returns
returns g c = search (rules, step_played)
