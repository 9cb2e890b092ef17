use Rattle.life.proofs.Going.{Going}
use Rattle.life.proofs.performing.perform.Given as goal

abbrev pub invariant-loop-made : goal.invariant-loop-made
invariant-loop-made g l =
    Going g.S.Step.sound g.R.Reader.memory g.M.Row.marks
    (g.R.Reader.reaches g.S.Step.SOUNDS) g.S.Step.SOUNDS
    l.calls l.initial.events l.initial.records l.take l.made l.recorded l.events l.records
