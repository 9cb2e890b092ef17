use Rattle.readers.proofs.Accepted.{accepted}
use Rattle.readers.proofs.Listens.{always_answers}
use Rattle.readers.proofs.listen.listen.Goals as goal

pub returns : goal.returns
returns g c =
    let ph = c.args.phrase.now in
    let q = c.args.q in
    let ok = c.in_ok-load.ensures.exact in
    let ac = accepted (g.R.Reader.reaches c.args.c) ph q c.args.c ok.0 in
    let e = always_answers ph q _ _ c.hear_all.result ac.some (c.hear_all.ensures.from_empty_end ph q ok.1) in
    (ok.0, cc)
