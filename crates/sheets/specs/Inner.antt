-- What the inner calls of the sheet reader answer, each for its own part of the checks.
use Rattle.std.specs.Prelude.{◌≡◌, ℕ, ◌+◌, ◌*◌, ◌<◌, ◌≤◌, List, length, take, drop, Result, MatchResult, slice_index}
use Rattle.std.specs.Borrow.{Bor}
use Rattle.sheets.specs.declared.fault.SheetRefusal.{SheetRefusal}
use Rattle.sheets.specs.declared.fault.StepFault.{StepFault}
use Rattle.sheets.specs.declared.head.Head.{Head}
use Rattle.sheets.specs.declared.kind.Kind.{Kind}
use Rattle.sheets.specs.declared.parts.Part.{Part}
use Rattle.sheets.specs.declared.rest.Rest.{Rest}
use Rattle.sheets.specs.Layout.{AllSteps, FirstBad, step_size, bytes_of}
use Rattle.sheets.specs.Order.{AllPass, FirstFailing, whole, head_checks, count_checks, section_checks, end_checks, section, phrase_count, take_count, kind_of}

-- the rest of the same sheet, from a place on
abbrev pub From : Bor (List ℕ) → ℕ → Rest → Type 0
From sheet place r = (r.sheet ≡ sheet) × (r.place ≡ place)

-- the fields before the phrase
abbrev pub HeadTold : Bor (List ℕ) → Result (Head × Rest) SheetRefusal → Type 0
HeadTold sheet q =
    MatchResult q
    (λ p. AllPass (head_checks sheet.now) × (p.0.kind ≡ kind_of sheet.now) × (p.0.figure ≡ slice_index sheet.now 1)
    × (p.0.count ≡ phrase_count sheet.now) × From sheet 4 p.1)
    (FirstFailing (head_checks sheet.now))

-- so many bytes
abbrev pub TakeTold : Rest → ℕ → Result (Bor (List ℕ)) SheetRefusal → Rest → Type 0
TakeTold r size q r' =
    MatchResult q
    (λ b. (r.place + size ≤ length r.sheet.now) × (b.now ≡ take size (drop r.place r.sheet.now)) × (length b.now ≡ size)
    × From r.sheet (r.place + size) r')
    (whole r.sheet.now (r.place + size)).fails

-- the bytes of a field
abbrev pub FieldTold : Rest → ℕ → Result (List ℕ) SheetRefusal → Rest → Type 0
FieldTold r size q r' =
    MatchResult q
    (λ b. (r.place + size ≤ length r.sheet.now)
    × ((i : ℕ) → i < size → slice_index b i ≡ slice_index r.sheet.now (r.place + i))
    × From r.sheet (r.place + size) r')
    (whole r.sheet.now (r.place + size)).fails

-- the take count
abbrev pub CountTold : Rest → Result ℕ SheetRefusal → Rest → Type 0
CountTold r q r' =
    MatchResult q
    (λ n. AllPass (count_checks r.sheet.now r.place) × (n ≡ take_count r.sheet.now r.place) × From r.sheet (r.place + 4) r')
    (FirstFailing (count_checks r.sheet.now r.place))

-- the steps of a part, each judged
abbrev pub StepsTold : Kind → Part → Result (Unit {0}) StepFault → Type 0
StepsTold k p q =
    MatchResult q
    (λ _. AllSteps (bytes_of k) (step_size k) p.bytes.now p.count)
    (λ e. FirstBad (bytes_of k) (step_size k) p.bytes.now p.count p.place e.cause e.place)

-- a section of a number of steps
abbrev pub SectionTold : Kind → Rest → ℕ → Result Part SheetRefusal → Rest → Type 0
SectionTold k r n q r' =
    MatchResult q
    (λ p. AllPass (section_checks k r.sheet.now r.place n)
    × (p.place ≡ r.place) × (p.count ≡ n) × (p.bytes.now ≡ section k r.sheet.now r.place n)
    × From r.sheet (r.place + n * step_size k) r')
    (FirstFailing (section_checks k r.sheet.now r.place n))

-- the end of the sheet
abbrev pub EndTold : Rest → Result (Unit {0}) SheetRefusal → Type 0
EndTold r q = MatchResult q (λ _. AllPass (end_checks r.sheet.now r.place)) (FirstFailing (end_checks r.sheet.now r.place))
