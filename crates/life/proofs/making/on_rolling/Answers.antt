use Rattle.std.proofs.Common.{rules, refl, false, ap}
use Rattle.life.specs.Chains.{load, step, clear}
use Rattle.life.specs.Outcomes.{belongs}
use Rattle.life.proofs.Standing.{made_told, run_told, close_told, out_told}
use Rattle.life.proofs.making.on_rolling.Goals.{in-Load, in-Step, in-Run, in-Clear, in-Reopen}
use Rattle.life.proofs.making.on_rolling.Goals as goal

pub returns-in-Close : goal.returns-in-Close
returns-in-Close g c = search (rules, close_told)

pub returns : goal.returns
returns g c =
    elim c.match-call.branch [
      | in-Load w ↦ rw (w.records-is, w.rolling-is, w.event-is) (made_told refl w.in-Load.is (search rules) (load w.load.ensures) refl)
      | in-Step w ↦ rw (w.records-is, w.rolling-is, w.event-is) (made_told refl w.in-Step.is (search rules) (step w.step.ensures) refl)
      | in-Run w ↦ rw (w.records-is, w.rolling-is, w.event-is) (run_told refl w.in-Run.is c.requires w.run.auto.records w.run.ensures (search rules))
      | in-Clear w ↦ rw (w.records-is, w.rolling-is, w.event-is) (made_told refl w.in-Clear.is refl (clear w.clear.ensures) refl)
      | in-Reopen w ↦ rw (w.records-is, w.rolling-is, w.event-is) (out_told refl (ap (belongs false) w.in-Reopen.is))
    ]
