use Rattle.std.proofs.Common.{refl, lit<}
use Rattle.terms.specs.Limits.{depth_of_row}
use Rattle.rows.proofs.tree_row.TreeRowRow.new.Goals as goal

pub new-requires : goal.new-requires
new-requires c = (lit< tt, (depth_of_row, refl))
