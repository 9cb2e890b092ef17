-- What a sliding reader keeps true of its phrase.
use Rattle.std.specs.Prelude.{◌≡◌, true, List, ℕ}
use denote.Struct.Props.{props}
use Rattle.terms.specs.Figures.{figures}
use Rattle.terms.specs.Refusals.{all_below_lem}
use Rattle.readers.specs.declared.scale.Scale.{Scale}
use Rattle.readers.specs.declared.coder.Coder.{Coder}
use Rattle.readers.specs.declared.tally.Tally.{Tally}
use Rattle.readers.specs.Table.{Counts}
use Rattle.readers.specs.Window.{Tabled}

-- the sounds are digits, the numbers of the figures have their codes, and the codes are counted
pub record Slides (p : List ℕ) (s : Scale) (k : Coder) (t : Tally) : Type 0 where
  pub below : all_below_lem s.base p ≡ true
  pub tabled : Tabled s.base s.width (figures s.width p) k.codes
  pub counted : Counts (figures s.width p) t.counts

-- so that it can stand in a ghost field
pub slides_prop : (p : List ℕ) (s : Scale) (k : Coder) (t : Tally) → IsProp (Slides p s k t)
slides_prop p s k t x y =
    let a : IsProp (all_below_lem s.base p ≡ true) = hlevel props in
    let b : IsProp (Tabled s.base s.width (figures s.width p) k.codes) = hlevel props in
    let c : IsProp (Counts (figures s.width p) t.counts) = hlevel props in
    λ i. record { below = a x.below y.below i; tabled = b x.tabled y.tabled i; counted = c x.counted y.counted i }
