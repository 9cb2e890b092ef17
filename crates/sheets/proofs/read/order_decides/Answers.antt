use Rattle.sheets.proofs.Once.{decided}
use Rattle.sheets.proofs.read.order_decides.Goals as goal

pub returns : goal.returns
returns c = decided
