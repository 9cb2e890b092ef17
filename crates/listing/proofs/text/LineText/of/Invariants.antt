use Rattle.std.proofs.Common.{◌≡◌, ◌+◌, ◌*◌, ◌≤◌, ◌∷◌, ◌++◌, length, take, decimal}
use Rattle.std.specs.List.{flat_map}
use Rattle.listing.proofs.text.LineText.of.Given as goal

abbrev pub invariant-loop-n : goal.invariant-loop-n
invariant-loop-n l = record {
  bytes : l.text.bytes ≡ l.word ++ flat_map (λ n. 32 ∷ decimal n) (take l.n-index l.numbers);
  room : length l.text.bytes ≤ length l.word + 21 * l.n-index;
}
