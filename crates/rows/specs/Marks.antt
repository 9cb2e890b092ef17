-- What joining does to summaries of marks.
use Rattle.std.specs.Prelude.{ℕ, ◌+◌, Bool, cond, not, ◌&&◌, ◌||◌, ℤ, pos, negsuc, ◌+ℤ◌, neg_ℤ, ◌==◌, int_le, nat_le}
use Rattle.rows.specs.declared.mark.Mark.{Mark}
use Rattle.rows.specs.declared.mark.Mark.TheVariants.{Plus, Minus}
use Rattle.rows.specs.declared.marks.Marks.{Marks}

abbrev pub marks_of : ℕ → ℤ → ℤ → ℕ → Marks
marks_of n s l k = record { size = n; sum = s; least = l; span = k }

abbrev pub no_marks : Marks
no_marks = marks_of 0 (pos 0) (pos 0) 0

-- the summary of one mark
abbrev pub leaf_of : Mark → Marks
leaf_of Plus = marks_of 1 (pos 1) (pos 0) 0
leaf_of Minus = marks_of 1 (negsuc 0) (negsuc 0) 1

-- whether the least sum of both reaches into the older marks
abbrev pub reaches : Marks → Marks → Bool
reaches older newer = int_le (newer.sum +ℤ older.least) newer.least

abbrev pub marks_joined : Marks → Marks → Marks
marks_joined older newer =
    marks_of
    (older.size + newer.size)
    (older.sum +ℤ newer.sum)
    (cond (reaches older newer) (newer.sum +ℤ older.least) newer.least)
    (cond (reaches older newer) (newer.size + older.span) newer.span)

-- The sums of marks lie within their number; the least of them is at most 0 and at most the sum of all,
-- and where it is the sum of all, all are in the span.
abbrev pub marks_valid : Marks → Bool
marks_valid m =
    int_le m.least (pos 0)
    && (int_le m.least m.sum
    && (int_le (neg_ℤ (pos m.size)) m.least
    && (int_le m.sum (pos m.size)
    && (nat_le m.span m.size
    && (not (int_le m.sum m.least) || m.span == m.size)))))
