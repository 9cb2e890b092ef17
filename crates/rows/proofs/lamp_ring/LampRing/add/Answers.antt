use Rattle.std.proofs.Common.{◌≡◌, ◌≤◌, set, sym, ap, ◌∙◌, subst, arith, lit<}
use Rattle.rows.specs.declared.lamp.Lamp.{Lamp}
use Rattle.rows.specs.Laws.{limit, sizes}
use Rattle.rows.specs.Lamps.{lamp_valid}
use Rattle.rows.specs.LampLaws.{valid_when}
use Rattle.rows.specs.LampTrees.{answer_leaf, answers_from, in_range, LampKept}
use Rattle.rows.proofs.LampSteps.{next_fits, next_answers, next_kept}
use Rattle.rows.proofs.lamp_ring.LampRing.add.Goals as goal

pub put-requires : goal.put-requires
put-requires c =
    let r = c.args.self.now in
    let x = in_range c.args.gap c.args.step in
    let e : c.of_answer.result ≡ answer_leaf x = c.of_answer.ensures in
    let v = valid_when (answer_leaf x) (record { gap_in = omega arith; step_in = omega arith }) in (
      lit< tt,
      (
        r.kept.inside,
        (
          ap lamp_valid e ∙ v,
          subst (λ l. sizes (λ (z : Lamp). z.size) (set r.tree r.head l) ≤ limit) (sym e) (next_fits r.head r.tree r.kept x),
        ),
      ),
    )

pub invariant_of-self : goal.invariant_of-self
invariant_of-self c =
    let r = c.args.self.now in
    let x = in_range c.args.gap c.args.step in
    let v = valid_when (answer_leaf x) (record { gap_in = omega arith; step_in = omega arith }) in
    record {
      kept = subst (LampKept c.wrap-self.result) (sym (c.put.ensures ∙ ap (set r.tree r.head) c.of_answer.ensures))
          (next_kept r.head r.tree r.kept x c.wrap-self.result c.wrap-self.ensures v);
    }

pub returns : goal.returns
returns c =
    let r = c.args.self.now in
    let x = in_range c.args.gap c.args.step in
    ap (answers_from c.wrap-self.result) (c.put.ensures ∙ ap (set r.tree r.head) c.of_answer.ensures)
    ∙ next_answers r.head r.tree r.kept x c.wrap-self.result c.wrap-self.ensures
