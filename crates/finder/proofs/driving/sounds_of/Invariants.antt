use Rattle.std.proofs.Common.{◌≡◌, map, take}
use Rattle.finder.proofs.driving.sounds_of.Given as goal

abbrev pub invariant-loop-x : goal.invariant-loop-x
invariant-loop-x g l = l.sounds.items ≡ map g.S.Step.sound (take l.x-index l.phrase)
