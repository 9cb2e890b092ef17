use Rattle.std.proofs.Common.{◌≡◌, ◌*◌, length, drop}
use Rattle.sheets.specs.Layout.{AllSteps, bytes_of, step_size}
use Rattle.sheets.proofs.judge.judge.Given as goal

abbrev pub invariant-loop-i : goal.invariant-loop-i
invariant-loop-i l = record {
  passed : AllSteps (bytes_of l.kind) (step_size l.kind) l.part.bytes.now (length l.yielded);
  width : l.i-iterator.iter.size ≡ step_size l.kind;
  counted : l.i-iterator.count ≡ length l.yielded;
  left : l.i-iterator.iter.rest.now ≡ drop (length l.yielded * step_size l.kind) l.part.bytes.now;
}
