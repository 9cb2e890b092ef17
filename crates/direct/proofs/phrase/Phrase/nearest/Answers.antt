use Rattle.std.proofs.Common.{sym, ap, subst, ◌∙◌, ◌≡◌, arith}
use Rattle.std.proofs.lemmas.List.{take_rest}
use Rattle.terms.specs.Figures.{gap}
use Rattle.direct.specs.Walks.{NearestFrom}
use Rattle.direct.proofs.Older.{gap_end, one_older}
use Rattle.direct.proofs.Walking.{walk_start, walk_more}
use Rattle.direct.proofs.phrase.Phrase.nearest.Goals as goal

pub loop-from-init : goal.loop-from-init
loop-from-init c =
    let q = c.args.self.now.q in
    let p = c.args.self.now.sounds.now in
    let t = c.args.take.now in
    record {
      nearest = walk_start q p t c.gap_of-gap.result c.gap_of-gap.ensures;
      here = c.gap_of-gap.ensures ∙ sym (gap_end q p t);
      above = c.requires;
    }

pub older-gap-requires : goal.older-gap-requires
older-gap-requires c =
    one_older c.args.self.now.q c.args.self.now.sounds.now c.args.take.now c.loop-from.from c.loop-from.gap (omega arith)
    (omega arith) c.loop-from.invariant.here

pub loop-from-preserved : goal.loop-from-preserved
loop-from-preserved c =
    let q = c.args.self.now.q in
    let p = c.args.self.now.sounds.now in
    let t = c.args.take.now in
    let i = c.loop-from.from in
    record {
      nearest = subst (NearestFrom q p t _) (sym c.or_earlier-nearest.ensures)
          (walk_more q p t i c.loop-from.nearest c.older-gap.result (omega arith) c.loop-from.invariant.nearest c.older-gap.ensures);
      here = c.older-gap.ensures ∙ ap (gap q p) (take_rest t _);
      above = omega arith;
    }

pub returns : goal.returns
returns c =
    let e : c.loop-from.from ≡ c.args.low = omega arith in
    subst (λ n. NearestFrom c.args.self.now.q c.args.self.now.sounds.now c.args.take.now n c.loop-from.nearest) e c.loop-from.invariant.nearest
