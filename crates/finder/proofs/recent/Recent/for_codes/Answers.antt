use Rattle.std.proofs.Common.{◌≡◌, ◌+◌, replicate, sym, refl, ap, ◌∙◌, arith, length-set, take_all}
use Rattle.terms.specs.Limits.{longest_phrase}
use Rattle.readers.specs.Memory.{counted}
use Rattle.finder.specs.Recent.{rings_to}
use Rattle.finder.proofs.Rings.{before_none, before_next, before_to, rings_none, rings_next}
use Rattle.finder.proofs.recent.Recent.for_codes.Goals as goal

pub loop-i-init : goal.loop-i-init
loop-i-init g c = let f = counted (g.R.Reader.memory c.args.reader.now) in (refl, λ b. (sym (before_none f), sym (rings_none f)))

pub loop-i-preserved : goal.loop-i-preserved
loop-i-preserved g c =
    let f = counted (g.R.Reader.memory c.args.reader.now) in
    let i = c.loop-i.i in (
      simp length-set c.loop-i.invariant.0,
      λ b.
          let k = c.loop-i.invariant.1 b in
          let n = before_next f i in
          let few = before_to f (i + 1) (omega arith) b in
          let e = c.count.ensures in (
            omega (arith, c.saturating_add-first.ensures),
            rings_next f c.loop-i.ring-items i c.loop-i.first (omega arith) k.0 k.1,
          ),
    )

pub returns : goal.returns
returns g c b =
    let f = counted (g.R.Reader.memory c.args.reader.now) in
    let at : c.loop-i.i ≡ longest_phrase = omega (arith, c.loop-i.auto.i-end) in
    ap (λ rs. record { steps = replicate longest_phrase 0; rings = rs })
    (sym (take_all c.loop-i.i c.loop-i.ring-items (omega arith)) ∙ (c.loop-i.invariant.1 b).1 ∙ ap (rings_to f) at)
