use Rattle.terms.proofs.Coded.{every_step}
use Rattle.terms.proofs.theorems.every_step_follows_the_rule.Goals as goal

pub returns : goal.returns
returns c = every_step
