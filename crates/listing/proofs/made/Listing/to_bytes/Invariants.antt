use Rattle.std.proofs.Common.{◌≡◌, map, take, vec_items}
use Rattle.std.specs.List.{flat_map}
use Rattle.listing.specs.declared.line.Line.TheVariants.{Step}
use Rattle.listing.specs.Lines.{line_bytes}
use Rattle.listing.proofs.made.Listing.to_bytes.Given as goal

abbrev pub invariant-loop-answer : goal.invariant-loop-answer
invariant-loop-answer l =
    (vec_items l.out ≡ flat_map line_bytes (map Step (take l.answer-index l.answer-items)))
    × (l.answer-items ≡ l.self.answers.items)
