use Rattle.std.proofs.Common.{ltb, refl, rules}
use Rattle.std.proofs.lemmas.List.Recursion.{and_is}
use Rattle.terms.specs.Refusals.{all_below_lem}
use Rattle.readers.proofs.judge.all_below.Goals as goal

pub returns : goal.returns
returns c = and_is (all_below_lem c.args.c) (λ x. ltb x c.args.c) refl (λ _ _. refl) c.args.phrase.now 0 c.all.result (search rules) (search rules)
