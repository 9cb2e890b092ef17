use Rattle.std.proofs.Common.{◌≡◌, length}
use Rattle.listing.proofs.playing.play_sounds.Given as goal

abbrev pub invariant-loop : goal.invariant-loop
invariant-loop l = length l.answers.items ≡ l.index
