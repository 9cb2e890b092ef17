use Rattle.std.proofs.Common.{◌≡◌, drop}
use Rattle.terms.specs.Figures.{gap}
use Rattle.direct.proofs.gaps.gap_of.Given as goal

abbrev pub invariant-loop-i : goal.invariant-loop-i
invariant-loop-i l = l.gap ≡ gap l.q l.x (drop l.i l.y)
