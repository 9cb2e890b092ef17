-- The three kinds of step: what a step holds, its sound number, and its bytes in a sheet.
use Rattle.std.specs.Prelude.{◌≡◌, ℕ, ◌+◌, ◌-◌, ◌*◌, ◌/◌, ◌%◌, ◌<◌, cond, ◌⊎◌, List, [], ◌∷◌, ℤ, pos, negsuc, ◌-ℤ◌, ◌<ℤ◌, Result, MatchResult, ◌==◌, nat_lt}
use Rattle.terms.specs.declared.refusal.Refusal.{Refusal}
use Rattle.terms.specs.declared.refusal.Refusal.TheVariants.{UnknownStep}
use Rattle.steps.specs.declared.lane.Lane.{Lane}
use Rattle.steps.specs.declared.lane.Lane.TheVariants.{Rest, Soft, Hit, Accent}
use Rattle.steps.specs.declared.mask.Mask.{Mask}
use Rattle.steps.specs.declared.note.Note.{Note}

-- lanes: a rest `.`, a soft `o`, a hit `x`, an accent `X`
abbrev pub lane_sounds : ℕ
lane_sounds = 4

abbrev pub lane_sound : Lane → ℕ
lane_sound Rest = 0
lane_sound Soft = 1
lane_sound Hit = 2
lane_sound Accent = 3

abbrev pub letter : Lane → ℕ
letter Rest = 46
letter Soft = 111
letter Hit = 120
letter Accent = 88

abbrev pub lane_bytes : Lane → List ℕ
lane_bytes l = letter l ∷ []

-- masks: sixteen pads, one bit each; two bytes, the low one first
abbrev pub mask_sounds : ℕ
mask_sounds = 65536

abbrev pub mask_sound : Mask → ℕ
mask_sound m = m.0 % mask_sounds

abbrev pub mask_bytes : Mask → List ℕ
mask_bytes m = mask_sound m % 256 ∷ mask_sound m / 256 ∷ []

-- notes: pad 0 to 15, velocity 0 to 127, offset −24 to 24 ticks. The plain fields are read by remainders, so that each
-- value of them is a note in range; the third field is the offset and 24.
abbrev pub pad_of : Note → ℕ
pad_of n = n.pad % 16

abbrev pub velocity_of : Note → ℕ
velocity_of n = n.velocity % 128

abbrev pub shift_of : Note → ℕ
shift_of n = n.shift % 49

abbrev pub offset_of : Note → ℤ
offset_of n = pos (shift_of n) -ℤ pos 24

abbrev pub note_sounds : ℕ
note_sounds = 47

-- velocity 1 to 39, 40 to 99, 100 to 127
abbrev pub band : ℕ → ℕ
band v = cond (nat_lt v 40) 0 (cond (nat_lt v 100) 1 2)

-- the first rule that fits: the choke, a rest, any other note
abbrev pub note_sound : Note → ℕ
note_sound n = cond (pad_of n == 15) 1 (cond (velocity_of n == 0) 0 (2 + 3 * pad_of n + band (velocity_of n)))

-- a signed byte in two's complement: the number itself, or 256 more where it is below zero
abbrev pub twos : ℤ → ℕ
twos (pos n) = n % 256
twos (negsuc n) = (255 - n) % 256

abbrev pub note_bytes : Note → List ℕ
note_bytes n = pad_of n ∷ velocity_of n ∷ twos (offset_of n) ∷ []

-- a note is made of values in range, and has them; others are refused
pub record NoteTold (pad velocity : ℕ) (offset : ℤ) (r : Result Note Refusal) : Type 0 where
  pub exact : MatchResult r
      (λ n. (pad_of n ≡ pad) × (velocity_of n ≡ velocity) × (offset_of n ≡ offset))
      (λ e. (e ≡ UnknownStep) × ((15 < pad) ⊎ ((127 < velocity) ⊎ ((offset <ℤ negsuc 23) ⊎ (pos 24 <ℤ offset)))))
