use Rattle.std.proofs.Common.{◌≡◌, List, length, get_or, sym, refl, subst, arith}
use Rattle.std.proofs.lemmas.Grind.{common_steps}
use Rattle.readers.specs.declared.state.State.{State}
use Rattle.readers.specs.Table.{blank, grown, nodes, Tree, newest_child}
use Rattle.readers.specs.Grows.{grown_tree}
use Rattle.readers.proofs.table.Table.add.Goals as goal

pub invariant_of-self : goal.invariant_of-self
invariant_of-self c =
    let old = c.args.self.now.states.items in
    let s = c.args.state in
    let t = newest_child s (get_or old s.parent blank).child in
    let e : c.push.new.self.items ≡ grown old s.parent t = grind (arith, common_steps) in
    record { tree = subst (λ (v : List State). Tree (length v) (nodes v)) (sym e) (grown_tree old s.parent t c.requires.inside refl refl refl c.args.self.now.tree) }
