-- The row's marks as numbers.
use Rattle.std.proofs.Common.{◌≡◌, ℕ, ◌-◌, ◌<◌, List, [], ◌∷◌, map, length, set, pos, refl, ◌∙◌, arith}
use Rattle.std.proofs.lemmas.List.{map_push, map-set, length_push}
use Rattle.terms.specs.Codes.{push}
use Rattle.rows.specs.Rows.{worth, pushed, lifted}
use Rattle.rows.specs.declared.mark.Mark.{Mark}
use Rattle.rows.specs.declared.mark.Mark.TheVariants.{Plus}

pub pushed_is : (m : Mark) (ms : List Mark) → 0 < length ms → map worth (pushed m ms) ≡ push (worth m) (map worth ms)
pushed_is m [] h = absurd (omega arith)
pushed_is m (x ∷ xs) h = map_push worth xs m

pub length_pushed : (m : Mark) (ms : List Mark) → length (pushed m ms) ≡ length ms
length_pushed m [] = refl
length_pushed m (x ∷ xs) = length_push xs m ∙ omega arith

pub lifted_is : (age : ℕ) (ms : List Mark) → map worth (lifted age ms) ≡ set (map worth ms) (length ms - 1 - age) (pos 1)
lifted_is age ms = map-set worth ms (length ms - 1 - age) Plus
