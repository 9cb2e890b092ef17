use Rattle.std.proofs.Common.{◌≡◌, ◌-◌, ◌/◌, replicate, ap, ◌∙◌, arith}
use Rattle.std.proofs.lemmas.List.{drop-replicate, length-replicate}
use Rattle.rows.proofs.Trees.{kept_none, get_or_none}
use Rattle.rows.proofs.tree.Tree.new.Goals as goal

pub invariant_of-result : goal.invariant_of-result
invariant_of-result g c = record {
  depth = c.requires.0;
  shape = c.requires.1;
  long = length-replicate g.row.NODES c.none.result;
  unused = rw c.none.ensures (get_or_none _ g.row.NODES 0);
  kept = rw c.none.ensures (kept_none g.met.T.Summary.laws c.requires.0 g.row.NODES);
}

pub returns : goal.returns
returns g c =
    let n = g.row.NODES in
    let e = c.requires.1 in
    let d : n - n / 2 ≡ n / 2 = omega arith in
    drop-replicate (n / 2) n c.none.result ∙ ap (λ k. replicate k c.none.result) d ∙ ap (replicate (n / 2)) c.none.ensures
