-- The table of refusals: each case with its number and its layer, and for each call the lines that turn it away, in order.
use Rattle.std.specs.Prelude.{ℕ, ◌+◌, Bool, true, cond, not, ◌&&◌, ◌||◌, List, [], ◌∷◌, ◌++◌, length, Some, None, codes, Option, Ok, Err, Result, ◌==◌, nat_le, nat_lt}
use Rattle.terms.specs.Limits.{longest_phrase, longest_figure, widest_row, longest_take}
use Rattle.terms.specs.declared.refusal.Refusal.{Refusal}
use Rattle.terms.specs.declared.refusal.Refusal.TheVariants.{UnknownStep, EmptyPhrase, LongPhrase, FigureLength, PastReach, UnknownSound, RowWidth, MarkAge, UnevenLists, EmptySlot, FullTake, OtherLength, NoBest, ShortPattern, NotWhole, BytesAfter, UnknownKind, LongTake}

pub record Entry : Type 0 where
  pub number : ℕ
  pub layer : List ℕ

abbrev pub tabled : Refusal → Entry
tabled UnknownStep = record { number = 10; layer = codes "step" }
tabled EmptyPhrase = record { number = 11; layer = codes "reader, load" }
tabled LongPhrase = record { number = 12; layer = codes "reader, load" }
tabled FigureLength = record { number = 13; layer = codes "reader, load" }
tabled PastReach = record { number = 14; layer = codes "reader, load" }
tabled UnknownSound = record { number = 15; layer = codes "reader, load" }
tabled RowWidth = record { number = 16; layer = codes "row" }
tabled MarkAge = record { number = 17; layer = codes "row" }
tabled UnevenLists = record { number = 21; layer = codes "slot" }
tabled EmptySlot = record { number = 22; layer = codes "slot" }
tabled FullTake = record { number = 23; layer = codes "slot" }
tabled OtherLength = record { number = 31; layer = codes "view, cut" }
tabled NoBest = record { number = 32; layer = codes "view, cut" }
tabled ShortPattern = record { number = 33; layer = codes "cut" }
tabled NotWhole = record { number = 41; layer = codes "sheet" }
tabled BytesAfter = record { number = 42; layer = codes "sheet" }
tabled UnknownKind = record { number = 43; layer = codes "sheet" }
tabled LongTake = record { number = 44; layer = codes "sheet" }

-- a line of the table at some call: whether it turns the call away, and with which refusal
pub record Line : Type 0 where
  pub holds : Bool
  pub refusal : Refusal

abbrev pub when : Bool → Refusal → Line
when b e = record { holds = b; refusal = e }

-- a call is refused by the first of its lines that holds, and accepted where none does
abbrev pub first_of : List Line → Option Refusal
first_of [] = None
first_of (l ∷ ls) = cond l.holds (Some l.refusal) (first_of ls)

-- the result of a call that a refusal turns away, or that none does
abbrev pub verdict : Option Refusal → Result Unit Refusal
verdict None = Ok tt
verdict (Some e) = Err e

-- every sound is below c
abbrev pub all_below_lem : ℕ → List ℕ → Bool
all_below_lem c [] = true
all_below_lem c (x ∷ xs) = nat_lt x c && all_below_lem c xs

-- a phrase and a figure length, before any reader is asked
abbrev pub phrase_lines : ℕ → ℕ → List Line
phrase_lines m q =
    when (m == 0) EmptyPhrase
    ∷ when (nat_lt longest_phrase m) LongPhrase
    ∷ when (q == 0 || (nat_lt m q || nat_lt longest_figure q)) FigureLength
    ∷ []

-- a load of a phrase at c sounds, into a reader of a reach
abbrev pub load_refusal : ℕ → List ℕ → ℕ → ℕ → Option Refusal
load_refusal reach phrase q c =
    first_of (phrase_lines (length phrase) q
    ++ (when (nat_lt reach q) PastReach ∷ when (not (all_below_lem c phrase)) UnknownSound ∷ []))

-- a row's start at w marks, and the lift of a mark by its age in a row of w
abbrev pub start_refusal : ℕ → Option Refusal
start_refusal w = first_of (when (w == 0 || nat_lt widest_row w) RowWidth ∷ [])

abbrev pub lift_refusal : ℕ → ℕ → Option Refusal
lift_refusal w age = first_of (when (nat_le w age) MarkAge ∷ [])

-- a step into a slot that holds a phrase of m sounds, with n steps in its take
abbrev pub step_refusal : ℕ → ℕ → Option Refusal
step_refusal m n = first_of (when (m == 0) EmptySlot ∷ when (nat_lt longest_take (n + 1)) FullTake ∷ [])

-- a run of k steps into such a slot, with a list of r records
abbrev pub run_refusal : ℕ → ℕ → ℕ → ℕ → Option Refusal
run_refusal m n k r =
    first_of (when (not (k == r)) UnevenLists ∷ when (m == 0) EmptySlot ∷ when (nat_lt longest_take (n + k)) FullTake ∷ [])

-- a view of a list of k steps, of a take of n
abbrev pub view_lines : ℕ → ℕ → List Line
view_lines n k = when (not (k == n)) OtherLength ∷ when (n == 0) NoBest ∷ []

abbrev pub view_refusal : ℕ → ℕ → Option Refusal
view_refusal n k = first_of (view_lines n k)

-- a cut of a stretch of s steps from such a list into a pattern of p
abbrev pub cut_refusal : ℕ → ℕ → ℕ → ℕ → Option Refusal
cut_refusal n k s p = first_of (view_lines n k ++ (when (nat_lt p s) ShortPattern ∷ []))
