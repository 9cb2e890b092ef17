-- What the reader answers: of the bytes of a sheet its parts, and of any others the first check that fails.
use Rattle.std.specs.Prelude.{◌≡◌, ℕ, ◌+◌, List, length, ◌≢◌}
use Rattle.std.specs.List.{flat_map}
use Rattle.sheets.specs.declared.fault.SheetRefusal.{SheetRefusal}
use Rattle.sheets.specs.declared.parts.Part.{Part}
use Rattle.sheets.specs.declared.parts.Section.{Section}
use Rattle.sheets.specs.declared.parts.Section.TheVariants.{Phrase, Take}
use Rattle.sheets.specs.declared.parts.Sheet.{Sheet}
use Rattle.sheets.specs.Layout.{Content, Allowed, sheet_of, bytes_of}
use Rattle.sheets.specs.Order.{FirstFailing, sheet_checks}

-- the part of the sheet that a section is
abbrev pub part_of : Section → Part
part_of (Phrase p) = p
part_of (Take p) = p

-- the phrase section at a place, of n steps with these bytes
abbrev pub IsPhrase : Section → ℕ → ℕ → List ℕ → Type 0
IsPhrase (Phrase p) place n bs = (p.place ≡ place) × (p.count ≡ n) × (p.bytes.now ≡ bs)
IsPhrase (Take p) place n bs = ⊥

-- the take section
abbrev pub IsTake : Section → ℕ → ℕ → List ℕ → Type 0
IsTake (Phrase p) place n bs = ⊥
IsTake (Take p) place n bs = (p.place ≡ place) × (p.count ≡ n) × (p.bytes.now ≡ bs)

-- bs is the sheet of some content in the limits, and s hands out its parts
pub record Accepted (bs : List ℕ) (s : Sheet) : Type 0 where
  pub content : Content
  pub allowed : Allowed content
  pub bytes : sheet_of content ≡ bs
  pub kind : s.kind ≡ content.kind
  pub figure : s.figure ≡ content.figure
  pub phrase : IsPhrase s.phrase 4 (length content.phrase) (flat_map (bytes_of content.kind) content.phrase)
  pub played :
      IsTake s.played (8 + length (flat_map (bytes_of content.kind) content.phrase)) (length content.played)
      (flat_map (bytes_of content.kind) content.played)

-- bs is the sheet of no content in the limits, and e says that the first check that fails does
pub record Refused (bs : List ℕ) (e : SheetRefusal) : Type 0 where
  pub first : FirstFailing (sheet_checks bs) e
  pub none : (c : Content) → Allowed c → sheet_of c ≢ bs
