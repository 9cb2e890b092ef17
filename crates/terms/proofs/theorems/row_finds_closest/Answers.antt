use Rattle.terms.proofs.Runs.{row_finds_closest_lem}
use Rattle.terms.proofs.theorems.row_finds_closest.Goals as goal

pub returns : goal.returns
returns c = row_finds_closest_lem
