use Rattle.std.proofs.Common.{◌≡◌, List}
use Rattle.std.specs.List.{flat_map}
use Rattle.std.specs.Slice.Iter.{chunks_exact_rest, chunks_exact_size}
use Rattle.sheets.specs.Layout.{StepOf, bytes_of, sound_of, step_size}
use Rattle.listing.proofs.Sounded.{Left}
use Rattle.listing.proofs.sounds.sounds_of.Given as goal

abbrev pub invariant-loop-step : goal.invariant-loop-step
invariant-loop-step g l = record {
  size : chunks_exact_size l.step-iterator ≡ step_size l.kind;
  left : (xs : List (StepOf l.kind)) → flat_map (bytes_of l.kind) xs ≡ l.bytes
      → Left (bytes_of l.kind) (sound_of l.kind) (chunks_exact_rest l.step-iterator) l.sounds.items xs;
}
