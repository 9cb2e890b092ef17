use Rattle.std.proofs.Common.{map, sym, subst, rules, w32, SFits}
use Rattle.std.proofs.lemmas.Int.{to_z-of_z}
use Rattle.terms.specs.Marks.{Least}
use Rattle.rows.specs.Rows.{worth}
use Rattle.rows.specs.Laws.{ring}
use Rattle.rows.specs.TreeRows.{shown}
use Rattle.rows.proofs.MarkRows.{row_tells}
use Rattle.rows.proofs.tree_row.TreeRowRow.least.Goals as goal

pub returns : goal.returns
returns c =
    let r = c.args.self.now in
    let all = c.ring_total-all.result in
    let f : SFits w32 all.least = search rules in
    subst (λ x. Least (map worth (ring r.head (shown r.tree))) x all.span) (sym (to_z-of_z w32 all.least f))
    (row_tells r.len r.head r.tree r.kept all c.ring_total-all.ensures)
