use Rattle.std.proofs.Common.{take}
use Rattle.readers.specs.Listening.{HearsAll}
use Rattle.readers.proofs.listen.hear_all.Given as goal

abbrev pub invariant-loop-sound : goal.invariant-loop-sound
invariant-loop-sound g l =
    HearsAll (g.R.Reader.memory l.initial.reader) (take l.sound-index l.sounds) (g.R.Reader.memory l.reader) l.last
