use Rattle.std.proofs.Common.{◌+◌, take, Some, sym, subst, arith}
use Rattle.terms.specs.Told.{BestTold}
use Rattle.direct.proofs.Playing.{each_more, best_more}
use Rattle.direct.proofs.phrase.Phrase.answer_all.Goals as goal

pub loop-i-preserved : goal.loop-i-preserved
loop-i-preserved c =
    let q = c.args.self.now.q in
    let p = c.args.self.now.sounds.now in
    let t = c.args.take.now in
    let i = c.loop-i.i in
    let n = c.answer.ensures in
    record {
      each = each_more q p t i c.loop-i.answers c.answer.result (omega arith) c.loop-i.invariant.each n;
      best = subst (λ b. BestTold q p (take (i + 1) t) (Some b)) (sym c.better.ensures)
          (best_more q p t i c.loop-i.best c.answer.result (omega arith) c.loop-i.invariant.best n);
    }
