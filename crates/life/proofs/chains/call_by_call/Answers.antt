use Rattle.life.proofs.Pushing as push
use Rattle.life.proofs.chains.call_by_call.Goals as goal

pub returns : goal.returns
returns g c = push.call_by_call_lem g.row.S.Denot
