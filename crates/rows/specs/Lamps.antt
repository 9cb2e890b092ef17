-- What joining does to summaries of answers.
use Rattle.std.specs.Prelude.{ℕ, ◌+◌, Bool, cond, ◌&&◌, ◌||◌, ◌==◌, nat_le, nat_lt}
use Rattle.terms.specs.Limits.{longest_phrase, longest_take}
use Rattle.rows.specs.declared.lamp.Lamp.{Lamp}

abbrev pub lamp_of : ℕ → ℕ → ℕ → Lamp
lamp_of n g s = record { size = n; gap = g; step = s }

-- no answer: its gap and step are the largest, so that any answer stands before it
abbrev pub no_lamp : Lamp
no_lamp = lamp_of 0 longest_phrase longest_take

-- whether the second answer is the better one: of a smaller gap, or of the same gap and earlier
abbrev pub better : Lamp → Lamp → Bool
better x y = nat_lt y.gap x.gap || (y.gap == x.gap && nat_lt y.step x.step)

abbrev pub lamp_joined : Lamp → Lamp → Lamp
lamp_joined older newer =
    lamp_of
    (older.size + newer.size)
    (cond (better older newer) newer.gap older.gap)
    (cond (better older newer) newer.step older.step)

abbrev pub lamp_valid : Lamp → Bool
lamp_valid l = nat_le l.gap longest_phrase && nat_le l.step longest_take
