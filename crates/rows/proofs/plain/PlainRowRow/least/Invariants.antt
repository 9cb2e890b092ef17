use Rattle.rows.proofs.PlainRows.{Adding}
use Rattle.rows.proofs.plain.PlainRowRow.least.Given as goal

abbrev pub invariant-loop-m : goal.invariant-loop-m
invariant-loop-m l = Adding l.self.items.items l.m-iterator.iter.rest.now l.all
