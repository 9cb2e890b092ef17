use Rattle.std.proofs.Common.{◌∙◌, arith, rules}
use Rattle.sheets.proofs.Sheets.{sized}
use Rattle.listing.proofs.Sounded.{one_written, one_fits, one_less, none_left}
use Rattle.listing.proofs.sounds.sounds_of.Goals as goal

pub sound_at-requires : goal.sound_at-requires
sound_at-requires g c =
    let s = c.in-Some.ensures.steps in
    let w = c.requires in
    let i = c.loop-step.invariant in
    one_written (sized c.args.kind) (omega (arith, c.step_bytes.ensures.some, c.step_bytes.ensures.size)) _ _ _ s.1.0 (s.1.1 ∙ i.size) (i.left w.steps w.are)

pub push-requires : goal.push-requires
push-requires g c =
    let s = c.in-Some.ensures.steps in
    let w = c.requires in
    let i = c.loop-step.invariant in
    (search rules, omega (arith, w.few, one_fits (sized c.args.kind) (omega (arith, c.step_bytes.ensures.some, c.step_bytes.ensures.size)) _ _ _ s.1.0 (s.1.1 ∙ i.size) (i.left w.steps w.are)))

pub loop-step-preserved : goal.loop-step-preserved
loop-step-preserved g c =
    let s = c.in-Some.ensures.steps in
    let i = c.loop-step.invariant in
    record {
      size = s.0 ∙ i.size;
      left = λ xs e.
          one_less (sized c.args.kind) (omega (arith, c.step_bytes.ensures.some, c.step_bytes.ensures.size)) _ _ _ s.1.0 (s.1.1 ∙ i.size) (i.left xs e)
          c.sound_at.result c.push.new.self.items c.push.ensures.items c.sound_at.ensures;
    }

pub returns : goal.returns
returns g c = λ xs e.
    let i = c.loop-step.invariant in
    none_left (sized c.args.kind) (omega (arith, c.in-None.ensures.steps.1.0, i.size)) (i.left xs e)
