use Rattle.std.proofs.Common.{◌≡◌, ◌≤◌, length, take}
use Rattle.terms.specs.Limits.{longest_phrase}
use Rattle.readers.specs.Memory.{counted}
use Rattle.finder.specs.Recent.{before, rings_to}
use Rattle.finder.proofs.recent.Recent.for_codes.Given as goal

abbrev pub invariant-loop-i : goal.invariant-loop-i
invariant-loop-i g l =
    let f = counted (g.R.Reader.memory l.reader) in
    (length l.ring-items ≡ longest_phrase)
    × (before f longest_phrase ≤ longest_phrase → (l.first ≡ before f l.i) × (take l.i l.ring-items ≡ rings_to f l.i))
