-- What a row and a ring keep true is a proposition, so that it can be a ghost field.
use Rattle.std.specs.Prelude.{◌≡◌, ℕ, ◌-◌, ◌<◌, ◌≤◌, true, List, length, slice_index_or}
use Rattle.std.specs.Coded.{Coded, Coded-set}
use denote.Struct.Props.{props}
use Rattle.terms.specs.Limits.{widest_row, lamp_length}
use Rattle.rows.specs.declared.lamp.Lamp.{Lamp}
use Rattle.rows.specs.declared.marks.Marks.{Marks}
use Rattle.rows.specs.Lamps.{no_lamp, lamp_valid}
use Rattle.rows.specs.LampTrees.{LampKept}
use Rattle.rows.specs.TreeRows.{shown, RowKept}

pub row_kept_prop : Coded (List Marks) → (len head : ℕ) (leaves : List Marks) → IsProp (RowKept len head leaves)
row_kept_prop code len head leaves p q =
    let b : IsProp (length (shown leaves) ≡ len) = hlevel props in
    let c : IsProp (len ≤ widest_row) = hlevel props in
    let d : IsProp (head ≤ len - 1) = hlevel props in
    λ i. record {
      are = Coded-set code _ _ p.are q.are i;
      count = b p.count q.count i;
      few = c p.few q.few i;
      inside = d p.inside q.inside i;
    }

pub lamp_kept_prop : Coded (List Lamp) → (head : ℕ) (leaves : List Lamp) → IsProp (LampKept head leaves)
lamp_kept_prop code head leaves p q =
    let a : IsProp (length leaves ≡ lamp_length) = hlevel props in
    let b : IsProp (head < lamp_length) = hlevel props in
    let c : IsProp ((i : ℕ) → lamp_valid (slice_index_or leaves i no_lamp) ≡ true) = hlevel props in
    let d : IsProp ((i : ℕ) → (slice_index_or leaves i no_lamp).size ≤ 1) = hlevel props in
    λ i. record {
      long = a p.long q.long i;
      inside = b p.inside q.inside i;
      valids = c p.valids q.valids i;
      small = d p.small q.small i;
      laid = Coded-set code _ _ p.laid q.laid i;
    }
