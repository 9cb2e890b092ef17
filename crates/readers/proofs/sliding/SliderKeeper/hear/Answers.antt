use Rattle.std.proofs.Common.{rules}
use Rattle.readers.proofs.Windows.{hears_on}
use Rattle.readers.proofs.sliding.SliderKeeper.hear.Goals as goal

pub returns : goal.returns
returns c =
    let h = c.args.self.now in
    let s = c.slide.ensures in
    hears_on h.phrase.items h.codes h.counts h.window c.slide.new.self c.args.sound h.kept s.scale s.slid c.slide.result c.map_or.result s.filled (search rules) (λ n e. search rules)
