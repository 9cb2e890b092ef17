-- What a cut owes beyond a view.
use Rattle.std.proofs.Common.{◌≡◌, ℕ, ◌-◌, Bool, true, false, not, eqb, ltb, List, [], ◌∷◌, length, take, Some, None, Ok, Err, Result, refl, ap, ◌∙◌, arith, MatchResult}
use Rattle.std.proofs.lemmas.List.{length-drop, length-take, length-map}
use Rattle.std.proofs.lemmas.Bool.{lt-ltb, le-ltb}
use Rattle.std.proofs.lemmas.Bool.Decides.{nat_tests}
use Rattle.terms.specs.Refusals.{when, first_of, view_refusal, cut_refusal}
use Rattle.terms.specs.declared.refusal.Refusal.{Refusal}
use Rattle.terms.specs.declared.refusal.Refusal.TheVariants.{OtherLength, NoBest, ShortPattern}
use Rattle.finder.specs.History.{History}
use Rattle.finder.specs.Views.{Viewed, BestLength, Copied, Pasted, ViewTold, CutTold}
use Rattle.finder.specs.declared.slot.Slot.{Slot}
use Rattle.std.specs.Borrow.{Bor}
use Rattle.readers.specs.Memory.{Memory}
use Rattle.rows.specs.declared.mark.Mark.{Mark}

-- a cut hands on what turns its view away
pub refused_first : (n k s p : ℕ) (e : Refusal) → view_refusal n k ≡ Some e → cut_refusal n k s p ≡ Some e
refused_first n k s p e h = go (not (eqb k n)) (eqb n 0) h
  where
    go : (a b : Bool) → first_of (when a OtherLength ∷ when b NoBest ∷ []) ≡ Some e
        → first_of (when a OtherLength ∷ when b NoBest ∷ when (ltb p s) ShortPattern ∷ []) ≡ Some e
    go true b i = i
    go false true i = i
    go false false i = absurd (let z : ◌≡◌ {A = ℕ} 0 1 = cc in omega arith)

then_short : (n k s p : ℕ) → view_refusal n k ≡ None → cut_refusal n k s p ≡ first_of (when (ltb p s) ShortPattern ∷ [])
then_short n k s p h = go (not (eqb k n)) (eqb n 0) h
  where
    go : (a b : Bool) → first_of (when a OtherLength ∷ when b NoBest ∷ []) ≡ None
        → first_of (when a OtherLength ∷ when b NoBest ∷ when (ltb p s) ShortPattern ∷ []) ≡ first_of (when (ltb p s) ShortPattern ∷ [])
    go true b i = absurd (let z : ◌≡◌ {A = ℕ} 0 1 = cc in omega arith)
    go false true i = absurd (let z : ◌≡◌ {A = ℕ} 0 1 = cc in omega arith)
    go false false i = refl

whole_list : (n k : ℕ) → view_refusal n k ≡ None → k ≡ n
whole_list n k h = grind (arith, nat_tests)

module _ {S : Type 0} (sound : S → ℕ) (h : History S) (xs part ys : List S) (place n : ℕ) (v : Viewed sound h xs part place) (size : BestLength sound h n)
    (free : view_refusal (length h.take) (length xs) ≡ None) where
  part_length : length part ≡ n
  part_length =
      let e = size v.gap v.start v.end v.best in
      let a = ap length v.is in
      let b = length-drop (v.start - 1) (take v.end xs) in
      let c = length-take v.end xs in
      let d = v.best.a_step in
      let f = v.best.a_start in
      let l = length-map h.take sound in
      let w = whole_list (length h.take) (length xs) free in
      omega arith

  pasted_cut : (r : Result ℕ Refusal) (zs : List S) → Pasted part ys r zs
      → MatchResult r
      (λ k. (cut_refusal (length h.take) (length xs) n (length ys) ≡ None) × Copied sound h xs ys k zs)
      (λ e. cut_refusal (length h.take) (length xs) n (length ys) ≡ Some e)
  pasted_cut (Ok k) zs p =
      let l = part_length in
      let w = p.exact.1 in (
        then_short (length h.take) (length xs) n (length ys) free ∙ rw (le-ltb (length ys) n (omega arith)),
        record { part = part; place = place; viewed = v; long = p.exact.0; pasted = p.exact.2 },
      )
  pasted_cut (Err e) zs p =
      let l = part_length in
      let w = p.exact.1 in
      then_short (length h.take) (length xs) n (length ys) free ∙ rw (lt-ltb (length ys) n (omega arith), p.exact.0)

pub cut_told : {S R M : Type 0} (sound : S → ℕ) (memory : R → Memory) (marks : M → List Mark) (s : Slot S R M) (xs ys : List S) (v : Bor (List S) × ℕ)
    (r : Result ℕ Refusal) (zs : List S) → ViewTold sound memory marks s xs (Ok v) → Pasted v.0.now ys r zs → CutTold sound memory marks s xs ys r zs
cut_told sound memory marks s xs ys v r zs view p = record {
  exact = λ h t n size. let k = view.exact h t in pasted_cut sound h xs v.0.now ys v.1 n k.1 size k.0 r zs p;
  kept = p.kept;
}
