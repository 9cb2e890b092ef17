use Rattle.std.proofs.Common.{rules}
use Rattle.life.proofs.Standing.{reopen_told, out_told, moved_take, not_reopen}
use Rattle.life.proofs.calls.Take.make.Goals as goal

pub returns-in-Rolling : goal.returns-in-Rolling
returns-in-Rolling g c = search (rules, moved_take)

pub returns-in-Reopen : goal.returns-in-Reopen
returns-in-Reopen g c = search (rules, reopen_told)

pub returns-in_default : goal.returns-in_default
returns-in_default g c = search (rules, out_told, not_reopen)
