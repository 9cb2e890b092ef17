-- The widest window.
use Rattle.std.specs.Prelude.{◌≡◌, ℕ, zero, suc, ◌+◌, ◌-◌, ◌*◌, ◌^◌, ◌<◌, ◌≤◌, Bool, true, false, cond, ◌⊎◌, ◌==◌, ◌≢◌, nat_le, refl}
use Rattle.std.proofs.Common.{sym, ap, subst, ◌∙◌, inl, inr, arith, pow-suc, one-mul}
use Rattle.std.proofs.Math.Nat.{pow-zero, pow-le-pow_right}
use Rattle.std.proofs.lemmas.Bool.{cases_eq, leb-true, leb-false, le-leb, lt-leb, eq-eqb, ne_eqb}
use Rattle.readers.specs.Window.{widest, sliding_reach_lem, Largest}
use Rattle.terms.specs.Limits.{longest_figure, most_numbers}

pub widest_most : (c k : ℕ) → widest c k ≤ k
unfolding widest
widest_most c zero = omega arith
widest_most c (suc k) = go (nat_le (c ^ suc k) most_numbers) (widest_most c k)
  where
    go : (b : Bool) → widest c k ≤ k → cond b (suc k) (widest c k) ≤ suc k
    go true h = omega arith
    go false h = omega arith

pub widest_some : (c k : ℕ) → c ≤ most_numbers → 1 ≤ widest c (suc k)
unfolding widest
widest_some c zero h =
    let e : c ^ suc zero ≤ most_numbers = let p = pow-suc c zero in let q = ap (λ v. v * c) (pow-zero c) in let r = one-mul c in omega arith in
    rw (le-leb (c ^ suc zero) most_numbers e) (omega arith)
widest_some c (suc k) h = go (nat_le (c ^ suc (suc k)) most_numbers) (widest_some c k h)
  where
    go : (b : Bool) → 1 ≤ widest c (suc k) → 1 ≤ cond b (suc (suc k)) (widest c (suc k))
    go true i = omega arith
    go false i = i

pub widest_fits : (c k : ℕ) → c ^ widest c k ≤ most_numbers
unfolding widest
widest_fits c zero = let p = pow-zero c in omega arith
widest_fits c (suc k) = go (nat_le (c ^ suc k) most_numbers) refl (widest_fits c k)
  where
    go : (b : Bool) → nat_le (c ^ suc k) most_numbers ≡ b → c ^ widest c k ≤ most_numbers → c ^ cond b (suc k) (widest c k) ≤ most_numbers
    go true e h = leb-true (c ^ suc k) most_numbers e
    go false e h = h

-- what fits, where one more does not
pub widest_is : (c w k : ℕ) → 0 < c → w ≤ k → c ^ w ≤ most_numbers → ((w ≡ k) ⊎ (most_numbers < c ^ (w + 1))) → widest c k ≡ w
unfolding widest
widest_is c w zero z l f o = omega arith
widest_is c w (suc k) z l f o = elim (cases_eq w (suc k)) [
  | inl e ↦ rw (le-leb (c ^ suc k) most_numbers (subst (λ v. c ^ v ≤ most_numbers) e f)) (sym e)
  | inr e ↦ elim o [
    | inl d ↦ absurd (e d)
    | inr d ↦
        let m : c ^ (w + 1) ≤ c ^ suc k = pow-le-pow_right z (omega arith) in
        rw (lt-leb (c ^ suc k) most_numbers (omega arith)) (widest_is c w k z (omega arith) f (inr d))
  ]
]

pub reach_most : (c : ℕ) → sliding_reach_lem c ≤ longest_figure
reach_most c = go (c == 0) (widest_most c longest_figure)
  where
    go : (b : Bool) → widest c longest_figure ≤ longest_figure → cond b 0 (widest c longest_figure) ≤ longest_figure
    go true h = omega arith
    go false h = h

pub reach_some : (c : ℕ) → 1 ≤ c → c ≤ most_numbers → 1 ≤ sliding_reach_lem c
reach_some c h l = subst (λ b. 1 ≤ cond b 0 (widest c longest_figure)) (sym (ne_eqb c 0 (λ e. omega arith))) (widest_some c (longest_figure - 1) l)

-- a figure within the reach: there are sounds, and its numbers fit the table
pub reached : (c q : ℕ) → 1 ≤ q → q ≤ sliding_reach_lem c → (0 < c) × (c ^ q ≤ most_numbers)
reached c q h l = elim (cases_eq c 0) [
  | inl e ↦ let m = subst (λ b. q ≤ cond b 0 (widest c longest_figure)) (eq-eqb c 0 e) l in absurd (omega arith)
  | inr e ↦
      let m : q ≤ widest c longest_figure = subst (λ b. q ≤ cond b 0 (widest c longest_figure)) (ne_eqb c 0 e) l in
      let z : 0 < c = omega arith in
      let p : c ^ q ≤ c ^ widest c longest_figure = pow-le-pow_right z m in
      (z, (let f = widest_fits c longest_figure in omega arith))
]

pub reach_is : (c w : ℕ) → (c ≢ 0) → w ≤ longest_figure → c ^ w ≤ most_numbers → ((w ≡ longest_figure) ⊎ (most_numbers < c ^ (w + 1))) → w ≡ sliding_reach_lem c
reach_is c w z l f o = subst (λ b. w ≡ cond b 0 (widest c longest_figure)) (sym (ne_eqb c 0 z)) (sym (widest_is c w longest_figure (omega arith) l f o))

widest_largest : (c k q : ℕ) → q ≤ k → c ^ q ≤ most_numbers → q ≤ widest c k
unfolding widest
widest_largest c zero q l f = l
widest_largest c (suc k) q l f = go (nat_le (c ^ suc k) most_numbers) refl (λ h. widest_largest c k q h f)
  where
    go : (b : Bool) → nat_le (c ^ suc k) most_numbers ≡ b → (q ≤ k → q ≤ widest c k) → q ≤ cond b (suc k) (widest c k)
    go true e ih = l
    go false e ih = elim (cases_eq q (suc k)) [
      | inl d ↦ let m = leb-false (c ^ suc k) most_numbers e in let n = ap (λ v. c ^ v) d in absurd (omega arith)
      | inr d ↦ ih (omega arith)
    ]

pub reach_largest : (c : ℕ) → Largest c (sliding_reach_lem c)
reach_largest c = elim (cases_eq c 0) [
  | inl e ↦
      let z = ap (λ b. cond b 0 (widest c longest_figure)) (eq-eqb c 0 e) in
      let n = pow-zero c in
      let m : c ^ sliding_reach_lem c ≡ 1 = ap (λ v. c ^ v) z ∙ n in
      record {
        without_sounds = λ d. z;
        short = omega arith;
        fits = omega arith;
        largest = λ h q l f. absurd (omega arith);
      }
  | inr e ↦
      let z = ap (λ b. cond b 0 (widest c longest_figure)) (ne_eqb c 0 e) in
      subst (Largest c) (sym z) (record {
        without_sounds = λ d. absurd (e d);
        short = widest_most c longest_figure;
        fits = widest_fits c longest_figure;
        largest = λ h q l f. widest_largest c longest_figure q l f;
      })
]
