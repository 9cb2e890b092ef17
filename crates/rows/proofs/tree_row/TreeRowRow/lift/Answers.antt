use Rattle.std.proofs.Common.{◌≡◌, length, None, sym, ◌∙◌, subst, arith, lit<}
use Rattle.terms.specs.Refusals.{lift_refusal}
use Rattle.rows.specs.declared.mark.Mark.TheVariants.{Plus}
use Rattle.rows.specs.Laws.{ring}
use Rattle.rows.specs.TreeRows.{shown}
use Rattle.rows.proofs.Allowed.{lift_passed, lift_allowed}
use Rattle.rows.proofs.MarkRows.{written_asks, written_kept, written_shows, row_lifted, length_row}
use Rattle.rows.proofs.tree_row.TreeRowRow.lift.Goals as goal

pub put-requires : goal.put-requires
put-requires c =
    let r = c.args.self.now in
    let h = lift_allowed r.len c.args.age (sym c.lift_refused.ensures ∙ c.in_ok-lift_refused.was) in
    let a = written_asks r.len r.head r.tree r.kept c.wrap-at.result Plus (grind arith) c.into.result c.into.ensures in
    (lit< tt, (grind arith, (a.0, a.1)))

pub invariant_of-self : goal.invariant_of-self
invariant_of-self c =
    let r = c.args.self.now in
    let h = lift_allowed r.len c.args.age (sym c.lift_refused.ensures ∙ c.in_ok-lift_refused.was) in
    record {
      kept = written_kept r.len r.head r.tree r.kept c.wrap-at.result Plus (grind arith) c.into.result c.into.ensures c.put.new.self c.put.ensures
          r.head r.kept.inside;
    }

pub returns : goal.returns
returns c =
    let r = c.args.self.now in
    let p = sym c.lift_refused.ensures ∙ c.in_ok-lift_refused.was in
    let h = lift_allowed r.len c.args.age p in
    let l : length (ring r.head (shown r.tree)) ≡ r.len = length_row r.len r.head r.tree c.put.new.self r.kept in
    record {
      exact = (
        subst (λ n. lift_refusal n c.args.age ≡ None) (sym l) (lift_passed r.len c.args.age p),
        row_lifted r.len r.head r.tree c.put.new.self r.kept c.wrap-at.result c.args.age h c.wrap-at.ensures
            (written_shows r.len r.head r.tree r.kept c.wrap-at.result Plus (grind arith) c.into.result c.into.ensures c.put.new.self c.put.ensures),
      );
    }
