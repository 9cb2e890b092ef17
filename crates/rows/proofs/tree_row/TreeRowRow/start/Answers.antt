use Rattle.std.proofs.Common.{◌*◌, sym, refl, ap, ◌∙◌, lit<}
use Rattle.terms.specs.Limits.{depth_of_row}
use Rattle.rows.proofs.Allowed.{start_passed, start_allowed}
use Rattle.rows.proofs.MarkRows.{started_long, started_valid, started_fits, started_kept, started_shows}
use Rattle.rows.proofs.tree_row.TreeRowRow.start.Goals as goal

pub from_leaves-requires : goal.from_leaves-requires
from_leaves-requires c =
    let n = c.args.count in
    let few = (start_allowed n (sym c.start_refused.ensures ∙ c.in_ok-start_refused.was)).1 in
    let none = c.none-leaves.ensures in
    let xs = c.fill_front.new.leaves in
    let is = c.fill_front.ensures in (
      lit< tt,
      (
        (depth_of_row, refl),
        (
          ap (λ k. 2 * k) (started_long n few _ none xs is),
          (λ i h. started_valid n few _ none xs is i, started_fits n few _ none xs is),
        ),
      ),
    )

pub invariant_of-self : goal.invariant_of-self
invariant_of-self c =
    let n = c.args.count in
    let few = (start_allowed n (sym c.start_refused.ensures ∙ c.in_ok-start_refused.was)).1 in
    record { kept = started_kept n few _ c.none-leaves.ensures c.fill_front.new.leaves c.fill_front.ensures c.from_leaves.result c.from_leaves.ensures }

pub returns : goal.returns
returns c =
    let n = c.args.count in
    let p = sym c.start_refused.ensures ∙ c.in_ok-start_refused.was in
    record {
      exact = (
        start_passed n p,
        started_shows n (start_allowed n p).1 _ c.none-leaves.ensures c.fill_front.new.leaves c.fill_front.ensures c.from_leaves.result c.from_leaves.ensures,
      );
    }
