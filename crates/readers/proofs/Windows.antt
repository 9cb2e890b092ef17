-- A window slides, and what a sliding reader then means.
use Rattle.std.proofs.Common.{◌≡◌, ℕ, ◌+◌, ◌*◌, ◌%◌, ◌^◌, ◌<◌, ◌≤◌, Bool, true, false, min, List, [], ◌∷◌, ◌++◌, length, get_or, Some, None, Option, refl, sym, ap, ◌∙◌, subst, inl, inr, arith}
use Rattle.std.specs.Bool.{then_some}
use Rattle.std.proofs.lemmas.Bool.{cases_lt, cases_Bool}
use Rattle.terms.specs.Figures.{figures}
use Rattle.terms.specs.Codes.{code}
use Rattle.terms.specs.Limits.{most_numbers}
use Rattle.terms.specs.Reading.{LongestEnd, remembered, answered}
use Rattle.terms.proofs.Reading.{every_reader_lem}
use Rattle.readers.specs.declared.scale.Scale.{Scale}
use Rattle.readers.specs.declared.window.Window.{Window}
use Rattle.readers.specs.declared.coder.Coder.{Coder}
use Rattle.readers.specs.declared.tally.Tally.{Tally}
use Rattle.readers.specs.Memory.{held, Hears, with_phrase}
use Rattle.readers.specs.Window.{digits, slid, Filled}
use Rattle.readers.specs.Slides.{Slides}
use Rattle.readers.specs.Sliding.{shown}
use Rattle.readers.proofs.Digits.{length_digits, fits, below_more, slid_more, slid_full}
use Rattle.readers.proofs.Slidings.{nothing_heard, slid_remembered, answer_short, answer_full}

-- with one sound more the number fits the table
pub number_fits : (w : Window) (x : ℕ) → x < w.scale.base → w.number % w.scale.power * w.scale.base + x < most_numbers
number_fits w x d =
    let s = w.scale in
    let f = fits s.base s.width s.power w.number x s.based s.wide s.powered d in
    let l = s.small in
    omega arith

-- a sound below the base slides in: a digit more, or the newest digits
module _ (w : Window) (x h : ℕ) (d : x < w.scale.base) (e : h ≡ min (w.heard + 1) w.scale.width) where
  pub below_on : w.number % w.scale.power * w.scale.base + x < w.scale.base ^ h
  below_on =
      let s = w.scale in
      elim (cases_lt w.heard s.width) [
        | inl m ↦
            let g : h ≡ w.heard + 1 = omega arith in
            rw g (below_more s.base s.width s.power w.number w.heard x s.based m s.powered w.below d)
        | inr m ↦
            let f = w.full in
            let g : h ≡ s.width = omega arith in
            rw g (fits s.base s.width s.power w.number x s.based s.wide s.powered d)
      ]

  pub slid_on : digits w.scale.base h (w.number % w.scale.power * w.scale.base + x) ≡ slid w.scale.base w.scale.width (shown w) x
  slid_on =
      let s = w.scale in
      elim (cases_lt w.heard s.width) [
        | inl m ↦
            let g : h ≡ w.heard + 1 = omega arith in
            rw g (slid_more s.base s.width s.power w.number w.heard x s.based m s.powered w.below d)
        | inr m ↦
            let f = w.full in
            let g : h ≡ w.heard = omega arith in
            rw g (slid_full s.base s.width s.power w.number w.heard x s.based s.wide f m s.powered d)
      ]

  -- it answers its number where it is full, whatever test says so
  pub filled_on : (b : Bool) → (b ≡ true → w.scale.width ≤ h) → (b ≡ false → h < w.scale.width) → (r : Option ℕ)
      → r ≡ then_some b (w.number % w.scale.power * w.scale.base + x)
      → Filled w.scale.base w.scale.width (digits w.scale.base h (w.number % w.scale.power * w.scale.base + x)) r
  filled_on b full short r i =
      let c = w.scale.base in
      let n = w.number % w.scale.power * c + x in
      elim (cases_Bool b) [
        | inl t ↦
            let k = full t in
            let f : h ≡ w.scale.width = omega arith in
            let g : r ≡ Some n = i ∙ ap (λ v. then_some v n) t in
            subst (Filled c w.scale.width (digits c h n)) (sym g) (subst (λ v. n < c ^ v) f below_on, ap (λ v. digits c v n) (sym f))
        | inr t ↦
            let g : r ≡ None = i ∙ ap (λ v. then_some v n) t in
            subst (Filled c w.scale.width (digits c h n)) (sym g) (let d = length_digits c h n in let k = short t in omega arith)
      ]

module _ (p : List ℕ) (k : Coder) (t : Tally) (w w' : Window) (x : ℕ) (s : Slides p w.scale k t) (es : w'.scale ≡ w.scale)
    (ed : shown w' ≡ slid w.scale.base w.scale.width (shown w) x) where
  slides_on : Slides p w'.scale k t
  slides_on = subst (λ v. Slides p v k t) (sym es) s

  hears_slid : (a : ℕ) → a ≡ answered w'.scale.width p (remembered w'.scale.width p (shown w'))
      → Hears (held p w.scale.width (remembered w.scale.width p (shown w))) x (held p w'.scale.width (remembered w'.scale.width p (shown w'))) a
  hears_slid a e =
      let q = w'.scale.width in
      let f : q ≡ w.scale.width = ap (λ (s : Scale). s.width) es in
      let r : remembered w.scale.width p (shown w') ≡ remembered w.scale.width p (remembered w.scale.width p (shown w) ++ (x ∷ [])) =
      ap (remembered w.scale.width p) ed ∙ slid_remembered w.scale.width w.scale.base p (shown w) x s.below in
      let l : LongestEnd w.scale.width p (remembered w.scale.width p (shown w) ++ (x ∷ [])) (remembered w.scale.width p (shown w')) =
      subst (LongestEnd w.scale.width p _) (sym r) ((every_reader_lem w.scale.width p).found _) in
      subst (λ v. Hears (held p w.scale.width (remembered w.scale.width p (shown w))) x (held p v (remembered v p (shown w'))) a) (sym f)
      (with_phrase l (subst (λ v. a ≡ answered v p (remembered v p (shown w'))) f e))

  hears_short : length (shown w') < w'.scale.width
      → Hears (held p w.scale.width (remembered w.scale.width p (shown w))) x (held p w'.scale.width (remembered w'.scale.width p (shown w'))) 0
  hears_short h = hears_slid 0 (answer_short w'.scale.width p (shown w') h)

  hears_full : (n : ℕ) → n < w'.scale.base ^ w'.scale.width → digits w'.scale.base w'.scale.width n ≡ shown w'
      → Hears (held p w.scale.width (remembered w.scale.width p (shown w))) x (held p w'.scale.width (remembered w'.scale.width p (shown w'))) (get_or k.codes n 0)
  hears_full n b d =
      let q = w'.scale.width in
      let l = length_digits w'.scale.base q n in
      let m = ap length d in
      hears_slid (get_or k.codes n 0) (slides_on.tabled n b ∙ ap (code (figures q p)) d ∙ answer_full q p (shown w') (omega arith))

  -- the answer is the code of a full window's number, or 0
  pub hears_on : (r : Option ℕ) (a : ℕ) → Filled w'.scale.base w'.scale.width (shown w') r → (r ≡ None → a ≡ 0) → ((n : ℕ) → r ≡ Some n → a ≡ get_or k.codes n 0)
      → Hears (held p w.scale.width (remembered w.scale.width p (shown w))) x (held p w'.scale.width (remembered w'.scale.width p (shown w'))) a
  hears_on None a h e f = rw (e refl) (hears_short h)
  hears_on (Some n) a h e f = rw (f n refl) (hears_full n h.0 h.1)

-- an empty window remembers nothing
pub memory_empty : (p : List ℕ) (s : Scale) (w : Window) → w.scale ≡ s → shown w ≡ [] → held p w.scale.width (remembered w.scale.width p (shown w)) ≡ held p s.width []
memory_empty p s w es e =
    ap (λ v. held p w.scale.width (remembered w.scale.width p v)) e ∙ ap (held p w.scale.width) (nothing_heard w.scale.width p)
    ∙ ap (λ (t : Scale). held p t.width []) es
