use Rattle.std.proofs.Common.{◌≡◌, ◌+◌, ◌*◌, ◌≤◌, [], ◌∷◌, ◌++◌, length, length-append, ◌∙◌, ap, below_more, arith}
use Rattle.std.proofs.lemmas.Result.{err_from_is_err_and}
use Rattle.terms.specs.declared.refusal.Refusal.TheVariants.{UnknownStep}
use Rattle.sheets.specs.Layout.{Written, bytes_of, step_size}
use Rattle.sheets.proofs.Cut.{cut_below, cut_is, cut_more}
use Rattle.sheets.proofs.judge.judge.Goals as goal

pub loop-i-preserved : goal.loop-i-preserved
loop-i-preserved c =
    let found : Written (bytes_of c.args.kind) c.in-Some.step.now = grind (arith, c.sound.ensures, c.map_err.ensures.cases, c.in_ok-map_err.was) in
    let longer : length (c.loop-i.yielded ++ ((c.in-Some.i, c.in-Some.step) ∷ [])) ≡ length c.loop-i.yielded + 1 = length-append _ _ in
    let s = c.in-Some.ensures.steps in
    let o = c.loop-i.invariant in
    let is = cut_is _ _ _ _ _ _ o.left s.0.1.0 (s.0.1.1 ∙ o.width) in
    let more = cut_more _ _ _ _ _ _ o.left s.0.1.0 (s.0.1.1 ∙ o.width) in
    rw longer (record { passed = below_more _ _ o.passed (found.0, found.1 ∙ is); width = s.0.0 ∙ o.width; counted = s.2 ∙ ap (λ n. n + 1) o.counted; left = more })

pub returns-in_err-map_err : goal.returns-in_err-map_err
returns-in_err-map_err c =
    let p = err_from_is_err_and c.from_residual.result c.from_residual.ensures.1 in
    let some : 1 ≤ step_size c.args.kind = omega arith in
    let none : Written (bytes_of c.args.kind) c.in-Some.step.now → ⊥ = grind (arith, c.sound.ensures, c.map_err.ensures.cases, c.in_err-map_err.was) in
    let cause : c.in_err-map_err.field-0.0.cause ≡ UnknownStep = grind (arith, c.sound.ensures, c.map_err.ensures.cases, c.in_err-map_err.was) in
    let place : c.in_err-map_err.field-0.0.place ≡ c.args.part.place + length c.loop-i.yielded * step_size c.args.kind = grind (arith, c.sound.ensures, c.map_err.ensures.cases, c.in_err-map_err.was) in
    let s = c.in-Some.ensures.steps in
    let o = c.loop-i.invariant in
    let is = cut_is _ _ _ _ _ _ o.left s.0.1.0 (s.0.1.1 ∙ o.width) in
    let below = cut_below _ _ _ _ _ _ o.left s.0.1.0 (s.0.1.1 ∙ o.width) c.args.part.count c.requires.long some in
    rw (p.1, p.2) (length c.loop-i.yielded, below, o.passed, rw is at none, cause, place)
