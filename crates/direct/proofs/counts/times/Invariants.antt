use Rattle.std.proofs.Common.{◌≡◌, ◌+◌, ◌≤◌, length, drop}
use Rattle.terms.specs.Figures.{count, figures}
use Rattle.direct.proofs.counts.times.Given as goal

abbrev pub invariant-loop-i : goal.invariant-loop-i
invariant-loop-i l = (l.n ≡ count l.figure (figures (length l.figure) (drop l.i l.row))) × (l.n + l.i ≤ length l.row)
