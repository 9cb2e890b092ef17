use Rattle.std.proofs.Common.{◌≡◌}
use Rattle.readers.proofs.Slidings.{ReadTo}
use Rattle.readers.proofs.sliding.Slider.read.Given as goal

abbrev pub invariant-loop-sound : goal.invariant-loop-sound
invariant-loop-sound l = (l.window.scale ≡ l.scale) × ReadTo l.phrase l.sound-index l.window l.codes l.counts
