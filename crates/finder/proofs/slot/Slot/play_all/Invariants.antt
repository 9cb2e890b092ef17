use Rattle.std.proofs.Common.{◌≡◌, ◌+◌, take}
use Rattle.finder.specs.Turns.{PlayAllTold}
use Rattle.finder.proofs.slot.Slot.play_all.Given as goal

abbrev pub invariant-loop-i : goal.invariant-loop-i
invariant-loop-i g l =
    (l.self.progress.count ≡ l.initial.self.progress.count + l.i)
    × (l.self.lengths ≡ l.initial.self.lengths)
    × PlayAllTold g.S.Step.sound g.R.Reader.memory g.M.Row.marks l.initial.self (take l.i l.steps) l.self (take l.i l.records)
