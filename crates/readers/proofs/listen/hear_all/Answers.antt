use Rattle.std.proofs.Common.{get_or, take, arith}
use Rattle.std.proofs.lemmas.List.{take_more}
use Rattle.readers.proofs.Listens.{hears_none, hears_more}
use Rattle.readers.proofs.listen.hear_all.Goals as goal

pub loop-sound-init : goal.loop-sound-init
loop-sound-init g c = hears_none _

pub loop-sound-preserved : goal.loop-sound-preserved
loop-sound-preserved g c =
    let xs = c.args.sounds.now in
    let i = c.loop-sound.sound-index in
    hears_more _ _ _ (take i xs) _ (get_or xs i 0) _ _ (take_more xs i 0 (omega arith)) c.loop-sound.invariant c.hear-last.ensures
