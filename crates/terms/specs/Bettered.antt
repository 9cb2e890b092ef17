-- The better of the best stretch so far and a later answer: the earlier among equals.
use Rattle.std.specs.Prelude.{cond, Some, None, Option, nat_le}
use Rattle.terms.specs.declared.answer.Answer.{Answer}
use Rattle.terms.specs.declared.answer.BestStretch.{BestStretch}

-- the stretch that an answer names
abbrev pub best_at : Answer → BestStretch
best_at a = record { gap = a.gap; start = a.start; end = a.step }

abbrev pub better_of : Option BestStretch → Answer → BestStretch
better_of None a = best_at a
better_of (Some b) a = cond (nat_le b.gap a.gap) b (best_at a)
