-- The bytes of a line: words and decimal numbers, one space between them, and byte 10 at the end.
use Rattle.std.specs.Prelude.{ℕ, List, [], ◌∷◌, ◌++◌, Some, None, codes, decimal}
use Rattle.terms.specs.Refusals.{tabled}
use Rattle.listing.specs.declared.line.Line.{Line}
use Rattle.listing.specs.declared.line.Line.TheVariants.{Step, Best, Refused}

-- the words with a space between, and the end of the line
abbrev pub spaced : List (List ℕ) → List ℕ
spaced [] = 10 ∷ []
spaced (w ∷ []) = w ++ (10 ∷ [])
spaced (w ∷ v ∷ ws) = w ++ (32 ∷ spaced (v ∷ ws))

abbrev pub line_bytes : Line → List ℕ
line_bytes (Step a) = spaced (decimal a.step ∷ decimal a.gap ∷ decimal a.start ∷ [])
line_bytes (Best None) = spaced (codes "best" ∷ codes "none" ∷ [])
line_bytes (Best (Some b)) = spaced (codes "best" ∷ decimal b.gap ∷ decimal b.start ∷ decimal b.end ∷ [])
line_bytes (Refused e) = spaced (codes "refused" ∷ decimal (tabled e.cause).number ∷ decimal e.place ∷ [])
