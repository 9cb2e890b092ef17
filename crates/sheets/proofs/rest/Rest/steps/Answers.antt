use Rattle.std.proofs.Common.{inl, inr, refl}
use Rattle.std.proofs.lemmas.Result.{err_from_is_err_and}
use Rattle.sheets.proofs.rest.Rest.steps.Goals as goal

pub returns-in_err-judge : goal.returns-in_err-judge
returns-in_err-judge c =
    let p = err_from_is_err_and c.from_residual-in_err-judge.result c.from_residual-in_err-judge.ensures.1 in
    let there = simp c.step_bytes.ensures.size at c.in_ok-bytes.ensures in
    rw (p.1, p.2) (inr (there.0, inl (rw there.1 at c.in_err-judge.ensures)))

pub returns : goal.returns
returns c =
    let there = simp c.step_bytes.ensures.size at c.in_ok-bytes.ensures in
    ((there.0, (rw there.1 at c.in_ok-judge.ensures, tt)), refl, refl, there.1, there.3)
