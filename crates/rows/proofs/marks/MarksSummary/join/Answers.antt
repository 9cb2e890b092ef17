use Rattle.std.proofs.Common.{◌≡◌, ◌+◌, ◌≤◌, true, false, cond, ◌+ℤ◌, sym, refl, ap, ◌∙◌, subst, arith, w32, to_z, of_z, rules}
use lib.Signed.{le_z}
use Rattle.std.proofs.lemmas.Int.{ints}
use Rattle.rows.specs.Laws.{limit}
use Rattle.rows.specs.Marks.{reaches}
use Rattle.rows.specs.MarkLaws.{valid_says, same_marks}
use Rattle.rows.proofs.marks.MarksSummary.join.Goals as goal

pub overflow_add-result : goal.overflow_add-result
overflow_add-result c =
    let v = valid_says c.args.older c.requires.0 in
    let w = valid_says c.args.newer c.requires.1.0 in
    let h = c.requires.1.1 in
    search rules

pub returns-then-through-newer : goal.returns-then-through-newer
returns-then-through-newer c =
    let a = c.args.older in
    let b = c.args.newer in
    let v = valid_says a c.requires.0 in
    let w = valid_says b c.requires.1.0 in
    let h : a.size + b.size ≤ limit = c.requires.1.1 in
    let e : to_z w32 (of_z w32 (to_z w32 (of_z w32 b.sum) +ℤ to_z w32 (of_z w32 a.least))) ≡ b.sum +ℤ a.least = omega (arith, ints) in
    let f : to_z w32 (of_z w32 b.least) ≡ b.least = omega (arith, ints) in
    let t : reaches a b ≡ true = subst (λ x. le_z x b.least ≡ true) e (subst (λ x. le_z (to_z w32 (of_z w32 (to_z w32 (of_z w32 b.sum) +ℤ to_z w32 (of_z w32 a.least)))) x ≡ true) f c.if-through-newer.true) in
    same_marks refl (omega (arith, ints)) (e ∙ sym (ap (λ x. cond x (b.sum +ℤ a.least) b.least) t)) (sym (ap (λ x. cond x (b.size + a.span) b.span) t))

pub returns : goal.returns
returns c =
    let a = c.args.older in
    let b = c.args.newer in
    let v = valid_says a c.requires.0 in
    let w = valid_says b c.requires.1.0 in
    let h : a.size + b.size ≤ limit = c.requires.1.1 in
    let t : reaches a b ≡ false = grind (arith, ints, c.if-through-newer.false) in
    same_marks refl (omega (arith, ints)) (let e : to_z w32 (of_z w32 b.least) ≡ b.least = omega (arith, ints) in e ∙ sym (ap (λ x. cond x (b.sum +ℤ a.least) b.least) t)) (sym (ap (λ x. cond x (b.size + a.span) b.span) t))
