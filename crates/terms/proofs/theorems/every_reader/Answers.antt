use Rattle.terms.proofs.Reading.{every_reader_lem}
use Rattle.terms.proofs.theorems.every_reader.Goals as goal

pub returns : goal.returns
returns c = every_reader_lem
