-- Places of parts of equal step size.
use Rattle.std.proofs.Common.{◌≡◌, ℕ, ◌+◌, ◌-◌, ◌*◌, ◌<◌, ◌≤◌, List, take, drop, ap, add-mul, one-mul, arith}
use Rattle.std.proofs.lemmas.Nat.{mul-le}
use Rattle.sheets.specs.Layout.{part}

pub part_fits : (i n w s : ℕ) → w ≡ s → i < n → i * w + w ≤ n * s
part_fits i n w s e h = rw e (omega (arith, mul-le (i + 1) s n s (omega arith) (omega arith), add-mul i 1 s, one-mul s))

-- `&bs[i * w..i * w + w]` is a part
pub part_is : (i w s : ℕ) (bs : List ℕ) → w ≡ s → take ((i * w + w) - (i * w)) (drop (i * w) bs) ≡ part s bs i
part_is i w s bs e = rw e (ap (λ k. take k (drop (i * s) bs)) (omega arith))
