use Rattle.std.proofs.Common.{take, sym, ap, ◌∙◌}
use Rattle.std.proofs.lemmas.List.{take-replicate}
use Rattle.terms.specs.Limits.{widest_row}
use Rattle.rows.specs.declared.mark.Mark.TheVariants.{Plus}
use Rattle.rows.proofs.Allowed.{start_passed, start_allowed}
use Rattle.rows.proofs.plain.PlainRowRow.start.Goals as goal

pub returns : goal.returns
returns c =
    let n = c.args.count in
    let p = sym c.start_refused.ensures ∙ c.in_ok-start_refused.was in
    record {
      exact = (start_passed n p, c.truncate.ensures.items ∙ ap (take n) c.from-self.ensures.0 ∙ take-replicate n widest_row Plus (start_allowed n p).1);
    }
