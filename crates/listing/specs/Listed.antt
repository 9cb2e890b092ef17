-- What is listed for the bytes of an input.
use Rattle.std.specs.Prelude.{◌≡◌, ℕ, ◌≤◌, List, [], ◌∷◌, ◌++◌, map, length, Option}
use Rattle.std.specs.List.{flat_map}
use Rattle.terms.specs.declared.answer.Answer.{Answer}
use Rattle.terms.specs.declared.answer.BestStretch.{BestStretch}
use Rattle.terms.specs.Limits.{longest_phrase, longest_figure, longest_listed}
use Rattle.terms.specs.Told.{Plays}
use Rattle.sheets.specs.declared.fault.SheetRefusal.{SheetRefusal}
use Rattle.sheets.specs.declared.parts.Sheet.{Sheet}
use Rattle.sheets.specs.Layout.{Content, Allowed, sheet_of, bytes_of, sound_of}
use Rattle.sheets.specs.Shown.{part_of}
use Rattle.sheets.specs.Shown as sheets
use Rattle.listing.specs.declared.line.Line.{Line}
use Rattle.listing.specs.declared.line.Line.TheVariants.{Step, Best, Refused}
use Rattle.listing.specs.declared.made.Listing.{Listing}

-- a line for each answer, and a last one
abbrev pub lines_with : List Answer → Line → List Line
lines_with answers last = map Step answers ++ (last ∷ [])

-- the lines of a listing
abbrev pub lines_of : Listing → List Line
lines_of l = lines_with l.answers.items l.last

-- the take is played against the phrase, both by their sounds: a line for the answer at each step, by Closest, and a
-- last one for the best stretch of the take, by Best
pub record PlayedLines (q : ℕ) (phrase t : List ℕ) (ls : List Line) : Type 0 where
  pub answers : List Answer
  pub best : Option BestStretch
  pub plays : Plays q phrase t answers best
  pub lines : ls ≡ map Step answers ++ (Best best ∷ [])

-- ss are the sounds of the steps that have these bytes
abbrev pub SoundsAt : {S : Type 0} → (S → List ℕ) → (S → ℕ) → List ℕ → List ℕ → Type 0
SoundsAt {S} bytes sound bs ss = (xs : List S) → flat_map bytes xs ≡ bs → ss ≡ map sound xs

-- the same for a phrase and a take of steps, whatever steps have these bytes
abbrev pub BytesPlayed : {S : Type 0} → (S → List ℕ) → (S → ℕ) → ℕ → List ℕ → List ℕ → List Line → Type 0
BytesPlayed {S} bytes sound q ps ts ls =
    (xs ys : List S) → flat_map bytes xs ≡ ps → flat_map bytes ys ≡ ts → PlayedLines q (map sound xs) (map sound ys) ls

-- the lines for an input: that of a content in the limits is played; any other is refused, by cause and place of the
-- first check that fails
pub data Listed (bs : List ℕ) (ls : List Line) : Type 0 where
  of_sheet : (c : Content) → Allowed c → sheet_of c ≡ bs
      → PlayedLines c.figure (map (sound_of c.kind) c.phrase) (map (sound_of c.kind) c.played) ls
      → Listed bs ls
  of_refused : (e : SheetRefusal) → sheets.Refused bs e → ls ≡ Refused e ∷ [] → Listed bs ls

-- q, and so many sounds of a phrase and of a take, in the limits
pub record InLimits (q phrase t : ℕ) : Type 0 where
  pub from_one : 1 ≤ q
  pub to_longest : q ≤ longest_figure
  pub to_phrase : q ≤ phrase
  pub short : phrase ≤ longest_phrase
  pub few : t ≤ longest_listed

-- bs are the bytes of some steps, at most n
pub record StepsWritten {S : Type 0} (bytes : S → List ℕ) (n : ℕ) (bs : List ℕ) : Type 0 where
  pub steps : List S
  pub are : flat_map bytes steps ≡ bs
  pub few : length steps ≤ n

-- ps and ts are the bytes of a phrase and of a take that with q are in the limits
pub record Playable {S : Type 0} (bytes : S → List ℕ) (q : ℕ) (ps ts : List ℕ) : Type 0 where
  pub phrase : List S
  pub played : List S
  pub phrase_bytes : flat_map bytes phrase ≡ ps
  pub played_bytes : flat_map bytes played ≡ ts
  pub limits : InLimits q (length phrase) (length played)

-- the same of the parts of a sheet
abbrev pub SheetPlayable : Sheet → Type 0
SheetPlayable s = Playable (bytes_of s.kind) s.figure (part_of s.phrase).bytes.now (part_of s.played).bytes.now

-- the lines of a sheet's take against its phrase
abbrev pub SheetPlayed : Sheet → List Line → Type 0
SheetPlayed s ls =
    BytesPlayed (bytes_of s.kind) (sound_of s.kind) s.figure (part_of s.phrase).bytes.now (part_of s.played).bytes.now ls
