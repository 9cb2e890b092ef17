use Rattle.std.proofs.Common.{◌≡◌, ◌≤◌, drop}
use Rattle.terms.specs.Figures.{gap}
use Rattle.direct.specs.Walks.{NearestFrom}
use Rattle.direct.proofs.phrase.Phrase.nearest.Given as goal

abbrev pub invariant-loop-from : goal.invariant-loop-from
invariant-loop-from l = record {
  nearest : NearestFrom l.self.q l.self.sounds.now l.take l.from l.nearest;
  here : l.gap ≡ gap l.self.q l.self.sounds.now (drop l.from l.take);
  above : l.low ≤ l.from;
}
