use Rattle.std.proofs.Common.{rules}
use Rattle.finder.proofs.Starts.{represents_unloaded}
use Rattle.finder.proofs.slot.Slot.new.Goals as goal

pub returns : goal.returns
returns g c = search (rules, represents_unloaded)
