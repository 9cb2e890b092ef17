use Rattle.std.proofs.Common.{take}
use Rattle.terms.specs.Told.{BestTold}
use Rattle.direct.proofs.Playing.{Each}
use Rattle.direct.proofs.phrase.Phrase.answer_all.Given as goal

abbrev pub invariant-loop-i : goal.invariant-loop-i
invariant-loop-i l = record {
  each : Each l.self.q l.self.sounds.now l.take l.i l.answers;
  best : BestTold l.self.q l.self.sounds.now (take l.i l.take) l.best;
}
