use Rattle.std.proofs.Common.{arith, lit<}
use Rattle.rows.proofs.MarkRows.{written_asks, written_kept, written_shows, row_pushed}
use Rattle.rows.proofs.tree_row.TreeRowRow.push.Goals as goal

pub put-requires : goal.put-requires
put-requires c =
    let r = c.args.self.now in
    let a = written_asks r.len r.head r.tree r.kept r.head c.args.m (omega arith) c.into.result c.into.ensures in
    (lit< tt, (omega arith, (a.0, a.1)))

pub invariant_of-self : goal.invariant_of-self
invariant_of-self c =
    let r = c.args.self.now in
    record {
      kept = written_kept r.len r.head r.tree r.kept r.head c.args.m (omega arith) c.into.result c.into.ensures c.put.new.self c.put.ensures
          c.wrap-self.result (grind arith);
    }

pub returns : goal.returns
returns c =
    let r = c.args.self.now in
    row_pushed r.len r.head r.tree c.put.new.self r.kept c.wrap-self.result c.args.m (omega arith) c.wrap-self.ensures
    (written_shows r.len r.head r.tree r.kept r.head c.args.m (omega arith) c.into.result c.into.ensures c.put.new.self c.put.ensures)
