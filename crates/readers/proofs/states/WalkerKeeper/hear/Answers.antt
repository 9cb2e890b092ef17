use Rattle.readers.specs.Hearing.{heard_at}
use Rattle.readers.proofs.states.WalkerKeeper.hear.Goals as goal

-- the new state is the longest end, and its code is what is answered
pub returns : goal.returns
returns c = rw c.code.ensures (heard_at _ _ _ _ _ c.args.self.now.kept c.args.sound c.follow-state.result c.follow-state.ensures.inside c.follow-state.ensures.longest)
