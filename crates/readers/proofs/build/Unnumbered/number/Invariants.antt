use Rattle.std.proofs.Common.{length, take}
use Rattle.terms.specs.Figures.{figures}
use Rattle.readers.specs.Table.{nodes, Numbered, Counts}
use Rattle.readers.proofs.build.Unnumbered.number.Given as goal

abbrev pub invariant-loop-state : goal.invariant-loop-state
invariant-loop-state l =
    record {
      numbered : Numbered l.fn.self.phrase.now (take l.state-index (figures l.len l.fn.self.phrase.now)) (length l.initial.table.states.items) (nodes l.initial.table.states.items) l.table.states.items l.codes;
      counted : Counts (take l.state-index (figures l.len l.fn.self.phrase.now)) l.counts.counts;
    }
