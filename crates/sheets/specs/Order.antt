-- In which order a sheet is judged: front to back, but q right after the phrase count.
-- The first check that fails is the sheet's refusal.
use Rattle.std.specs.Prelude.{◌≡◌, ℕ, ◌+◌, ◌*◌, ◌<◌, ◌≤◌, ◌⊎◌, List, [], ◌∷◌, ◌++◌, length, take, drop, slice_index}
use Rattle.terms.specs.declared.refusal.Refusal.{Refusal}
use Rattle.terms.specs.declared.refusal.Refusal.TheVariants.{EmptyPhrase, LongPhrase, FigureLength, NotWhole, BytesAfter, UnknownKind, LongTake}
use Rattle.sheets.specs.declared.fault.SheetRefusal.{SheetRefusal}
use Rattle.sheets.specs.declared.kind.Kind.{Kind}
use Rattle.terms.specs.Limits.{longest_phrase, longest_figure, longest_listed}
use Rattle.sheets.specs.Layout.{AllSteps, FirstBad, Lettered, kind_at, step_size, bytes_of}

-- what one check asks, and which refusals say that it fails: none where it passes
pub record Check : Type 1 where
  pub passes : Type 0
  pub fails : SheetRefusal → Type 0
  pub apart : (e : SheetRefusal) → passes → fails e → ⊥

-- a check that asks P, and else refuses with this cause and place
abbrev pub check : Type 0 → Refusal → ℕ → Check
check P cause place = record { passes = P; fails = λ e. (P → ⊥) × (e.cause ≡ cause) × (e.place ≡ place); apart = λ e p f. f.0 p }

abbrev pub AllPass : List Check → Type 0
AllPass [] = Unit {0}
AllPass (l ∷ ls) = l.passes × AllPass ls

-- e says that the first check that fails does
abbrev pub FirstFailing : List Check → SheetRefusal → Type 0
FirstFailing [] e = ⊥
FirstFailing (l ∷ ls) e = l.fails e ⊎ (l.passes × FirstFailing ls e)

-- the sheet reaches to `place`
abbrev pub whole : List ℕ → ℕ → Check
whole bs place = check (place ≤ length bs) NotWhole (length bs)

-- the bytes of n steps at a place
abbrev pub section : Kind → List ℕ → ℕ → ℕ → List ℕ
section k bs place n = take (n * step_size k) (drop place bs)

-- each of the n steps that stand at a place is one of its kind; else the first byte of the first that is none
abbrev pub steps : Kind → List ℕ → ℕ → ℕ → Check
steps k bs place n = record {
  passes = AllSteps (bytes_of k) (step_size k) (section k bs place n) n;
  fails = λ e. FirstBad (bytes_of k) (step_size k) (section k bs place n) n place e.cause e.place;
  apart = λ e p f. f.3 (p f.0 f.1);
}

abbrev pub section_checks : Kind → List ℕ → ℕ → ℕ → List Check
section_checks k bs place n = whole bs (place + n * step_size k) ∷ steps k bs place n ∷ []

-- the phrase count and, at a place, the take count
abbrev pub phrase_count : List ℕ → ℕ
phrase_count bs = slice_index bs 2 + 256 * slice_index bs 3

abbrev pub take_count : List ℕ → ℕ → ℕ
take_count bs p = slice_index bs p + 256 * slice_index bs (p + 1) + 65536 * slice_index bs (p + 2) + 16777216 * slice_index bs (p + 3)

abbrev pub head_checks : List ℕ → List Check
head_checks bs =
    whole bs 1 ∷
    check (Lettered (slice_index bs 0)) UnknownKind 0 ∷
    whole bs 4 ∷
    check (0 < phrase_count bs) EmptyPhrase 2 ∷
    check (phrase_count bs ≤ longest_phrase) LongPhrase 2 ∷
    check ((0 < slice_index bs 1) × (slice_index bs 1 ≤ phrase_count bs) × (slice_index bs 1 ≤ longest_figure)) FigureLength 1 ∷
    []

abbrev pub count_checks : List ℕ → ℕ → List Check
count_checks bs p = whole bs (p + 4) ∷ check (take_count bs p ≤ longest_listed) LongTake p ∷ []

abbrev pub end_checks : List ℕ → ℕ → List Check
end_checks bs end = check (length bs ≤ end) BytesAfter end ∷ []

-- where the take count and the take stand in a sheet of kind k
abbrev pub count_place : Kind → List ℕ → ℕ
count_place k bs = 4 + phrase_count bs * step_size k

abbrev pub take_place : Kind → List ℕ → ℕ
take_place k bs = count_place k bs + 4

abbrev pub take_steps : Kind → List ℕ → ℕ
take_steps k bs = take_count bs (count_place k bs)

abbrev pub checks_at : Kind → List ℕ → List Check
checks_at k bs =
    head_checks bs ++ (
    section_checks k bs 4 (phrase_count bs) ++ (
    count_checks bs (count_place k bs) ++ (
    section_checks k bs (take_place k bs) (take_steps k bs) ++
    end_checks bs (take_place k bs + take_steps k bs * step_size k))))

abbrev pub kind_of : List ℕ → Kind
kind_of bs = kind_at (slice_index bs 0)

-- a sheet's checks in the order in which they are made
abbrev pub sheet_checks : List ℕ → List Check
sheet_checks bs = checks_at (kind_of bs) bs

-- the checks leave no choice: one refusal at most is the first that fails
abbrev pub Decided : Type 0
Decided = (bs : List ℕ) (e e' : SheetRefusal) → FirstFailing (sheet_checks bs) e → FirstFailing (sheet_checks bs) e' → e ≡ e'
