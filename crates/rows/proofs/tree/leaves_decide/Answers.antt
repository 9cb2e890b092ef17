use Rattle.rows.proofs.Decided as decided
use Rattle.rows.proofs.tree.leaves_decide.Goals as goal

pub returns : goal.returns
returns g c = decided.leaves_decide _ _ _ _ _
