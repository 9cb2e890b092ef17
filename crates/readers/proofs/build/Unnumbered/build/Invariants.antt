use Rattle.std.proofs.Common.{◌≡◌, ◌+◌, ◌≤◌, length}
use Rattle.readers.specs.Table.{nodes, most, most_places, Built, Uncoded}
use Rattle.readers.proofs.build.Unnumbered.build.Given as goal

abbrev pub invariant-loop-len : goal.invariant-loop-len
invariant-loop-len l =
    record {
      built : Built l.phrase l.len 0 l.len (length l.table.states.items) (nodes l.table.states.items) l.places;
      fresh : Uncoded l.table.states.items;
      long : length l.places ≡ most_places;
      room : length l.table.states.items ≤ most l.len;
    }

abbrev pub invariant-loop-at : goal.invariant-loop-at
invariant-loop-at l =
    record {
      built : Built l.phrase l.len l.at (l.len + 1) (length l.table.states.items) (nodes l.table.states.items) l.places;
      fresh : Uncoded l.table.states.items;
      long : length l.places ≡ most_places;
      room : length l.table.states.items ≤ most l.len + l.at;
    }
