use Rattle.rows.proofs.OneLeast.{always_one_least}
use Rattle.rows.proofs.row.one_least.Goals as goal

pub returns : goal.returns
returns c = always_one_least
