use Rattle.std.proofs.Common.{◌≡◌, ◌++◌, ◌∷◌, [], map, length, ◌≤◌, sym, refl, subst, rules, arith, w32, SFits}
use Rattle.std.proofs.lemmas.Int.{to_z-of_z}
use Rattle.std.proofs.lemmas.List.{nil_from_length}
use Rattle.terms.specs.Marks.{Least}
use Rattle.rows.specs.Laws.{limit}
use Rattle.rows.specs.Marks.{leaf_of}
use Rattle.rows.specs.Rows.{worth}
use Rattle.rows.proofs.MarkRows.{leaf_size}
use Rattle.rows.proofs.PlainRows.{Adding, adding_none, adding_asks, adding_more, adding_all}
use Rattle.rows.proofs.plain.PlainRowRow.least.Goals as goal

pub loop-m-init : goal.loop-m-init
loop-m-init c =
    let xs = c.args.self.now.items.items in
    let rest : c.into_iter-m-iterator.result.iter.rest.now ≡ xs = search rules in
    subst (λ r. Adding xs r c.none-all.result) (sym rest) (adding_none xs _ c.none-all.ensures)

pub with_older-all-requires : goal.with_older-all-requires
with_older-all-requires c =
    let xs = c.args.self.now.items.items in
    let few : length xs ≤ limit = search rules in
    let a : Adding xs (c.next.new.self.iter.rest.now ++ c.in-Some.m.now ∷ []) c.loop-m.all = subst (λ r. Adding xs r c.loop-m.all) c.in-Some.ensures.steps c.loop-m.invariant in
    let k = adding_asks xs _ _ _ a few (leaf_of c.in-Some.m.now) refl in
    record { fit = k.1.0; few = omega (arith, k.1.1, leaf_size c.in-Some.m.now) }

pub loop-m-preserved : goal.loop-m-preserved
loop-m-preserved c =
    let xs = c.args.self.now.items.items in
    let few : length xs ≤ limit = search rules in
    let a : Adding xs (c.next.new.self.iter.rest.now ++ c.in-Some.m.now ∷ []) c.loop-m.all = subst (λ r. Adding xs r c.loop-m.all) c.in-Some.ensures.steps c.loop-m.invariant in
    adding_more xs _ _ _ a few (leaf_of c.in-Some.m.now) refl c.with_older-all.result c.with_older-all.ensures

pub returns : goal.returns
returns c =
    let xs = c.args.self.now.items.items in
    let all = c.loop-m.all in
    let none : c.loop-m.m-iterator.iter.rest.now ≡ [] = nil_from_length _ c.in-None.ensures.steps.0 in
    let a : Adding xs [] all = subst (λ r. Adding xs r all) none c.loop-m.invariant in
    let f : SFits w32 all.least = search rules in
    subst (λ x. Least (map worth xs) x all.span) (sym (to_z-of_z w32 all.least f)) (adding_all xs all a)
