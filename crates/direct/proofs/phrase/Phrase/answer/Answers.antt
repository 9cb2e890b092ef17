use Rattle.std.proofs.Common.{length, arith}
use Rattle.direct.proofs.Older.{gap_end, gap_none}
use Rattle.direct.proofs.Walking.{walked}
use Rattle.direct.proofs.phrase.Phrase.answer.Goals as goal

pub overflow_cast-result-2 : goal.overflow_cast-result-2
overflow_cast-result-2 c =
    let p = c.args.self.now in
    let t = c.args.take.now in
    let l = c.nearest-nearest.ensures.least (length t) (omega (arith, c.saturating_sub.ensures)) (omega arith) in
    omega (arith, gap_end p.q p.sounds.now t, gap_none p.q p.sounds.now, p.short)

pub returns : goal.returns
returns c =
    let p = c.args.self.now in
    record {
      number = omega arith;
      closest = walked p.q p.sounds.now c.args.take.now c.saturating_sub.result c.nearest-nearest.result p.from_one p.to_phrase
          (omega (arith, c.saturating_sub.ensures)) c.nearest-nearest.ensures;
    }
