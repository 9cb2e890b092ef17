-- What a sheet is, as the bytes of what it holds.
use Rattle.std.specs.Prelude.{◌≡◌, ℕ, ◌+◌, ◌*◌, ◌/◌, ◌%◌, ◌<◌, ◌≤◌, cond, List, [], ◌∷◌, ◌++◌, length, take, drop, ◌==◌, Result, MatchResult}
use Rattle.std.specs.List.{flat_map}
use Rattle.steps.specs.declared.lane.Lane.{Lane}
use Rattle.steps.specs.declared.mask.Mask.{Mask}
use Rattle.steps.specs.declared.note.Note.{Note}
use Rattle.terms.specs.declared.refusal.Refusal.{Refusal}
use Rattle.terms.specs.declared.refusal.Refusal.TheVariants.{UnknownStep}
use Rattle.terms.specs.Limits.{longest_phrase, longest_figure, longest_listed, longest_sheet}
use Rattle.steps.specs.Sounds.{lane_bytes, mask_bytes, note_bytes, lane_sound, mask_sound, note_sound}
use Rattle.sheets.specs.declared.kind.Kind.{Kind}
use Rattle.sheets.specs.declared.kind.Kind.TheVariants.{Lanes, Masks, Notes}

-- the k-th part of bs, where each part has w bytes
abbrev pub part : ℕ → List ℕ → ℕ → List ℕ
part w bs k = take w (drop (k * w) bs)

-- some step has the bytes b
abbrev pub Written : {S : Type 0} → (S → List ℕ) → List ℕ → Type 0
Written {S} bytes b = (s : S) × (bytes s ≡ b)

-- each of the first k parts of bs is a step
abbrev pub AllSteps : {S : Type 0} → (S → List ℕ) → ℕ → List ℕ → ℕ → Type 0
AllSteps bytes w bs k = (i : ℕ) → i < k → Written bytes (part w bs i)

-- of n parts that stand at a place of the sheet the first that is no step is refused, at its first byte
abbrev pub FirstBad : {S : Type 0} → (S → List ℕ) → ℕ → List ℕ → ℕ → ℕ → Refusal → ℕ → Type 0
FirstBad bytes w bs n place cause at =
    (i : ℕ) × (i < n) × AllSteps bytes w bs i × (Written bytes (part w bs i) → ⊥) × (cause ≡ UnknownStep) × (at ≡ place + i * w)

-- the sound of the step that the bytes are, whichever it is; they are refused where they are none
abbrev pub SoundTold : {S : Type 0} → (S → List ℕ) → (S → ℕ) → List ℕ → Result ℕ Refusal → Type 0
SoundTold {S} bytes sound bs r =
    MatchResult r
    (λ n. Written bytes bs × ((s : S) → bytes s ≡ bs → n ≡ sound s))
    (λ e. (Written bytes bs → ⊥) × (e ≡ UnknownStep))

-- `L`, `M` and `N`
abbrev pub letter_of : Kind → ℕ
letter_of Lanes = 76
letter_of Masks = 77
letter_of Notes = 78

-- the letter of some kind
abbrev pub Lettered : ℕ → Type 0
Lettered c = (k : Kind) × (letter_of k ≡ c)

-- the kind of a letter that is one of the three
abbrev pub kind_at : ℕ → Kind
kind_at c = cond (c == 76) Lanes (cond (c == 77) Masks Notes)

abbrev pub step_size : Kind → ℕ
step_size Lanes = 1
step_size Masks = 2
step_size Notes = 3

abbrev pub StepOf : Kind → Type 0
StepOf Lanes = Lane
StepOf Masks = Mask
StepOf Notes = Note

abbrev pub bytes_of : (k : Kind) → StepOf k → List ℕ
bytes_of Lanes = lane_bytes
bytes_of Masks = mask_bytes
bytes_of Notes = note_bytes

abbrev pub sound_of : (k : Kind) → StepOf k → ℕ
sound_of Lanes = lane_sound
sound_of Masks = mask_sound
sound_of Notes = note_sound

-- a number in two and in four bytes, the low byte first
abbrev pub two : ℕ → List ℕ
two n = n % 256 ∷ n / 256 ∷ []

abbrev pub four : ℕ → List ℕ
four n = n % 256 ∷ n / 256 % 256 ∷ n / 65536 % 256 ∷ n / 16777216 ∷ []

-- what a sheet holds
pub record Content : Type 0 where
  pub kind : Kind
  pub figure : ℕ
  pub phrase : List (StepOf kind)
  pub played : List (StepOf kind)

-- a content in the limits
pub record Allowed (c : Content) : Type 0 where
  pub some : 0 < length c.phrase
  pub short : length c.phrase ≤ longest_phrase
  pub figure_some : 0 < c.figure
  pub figure_most : c.figure ≤ longest_figure
  pub figure_fits : c.figure ≤ length c.phrase
  pub played_most : length c.played ≤ longest_listed

abbrev pub sheet_of : Content → List ℕ
sheet_of c =
    letter_of c.kind ∷ c.figure ∷
    (two (length c.phrase) ++ (flat_map (bytes_of c.kind) c.phrase ++
    (four (length c.played) ++ flat_map (bytes_of c.kind) c.played)))

-- no sheet is longer than the limit, and one is so long
pub record LongestSheet : Type 0 where
  pub none_longer : (c : Content) → Allowed c → length (sheet_of c) ≤ longest_sheet
  pub content : Content
  pub allowed : Allowed content
  pub as_long : length (sheet_of content) ≡ longest_sheet
