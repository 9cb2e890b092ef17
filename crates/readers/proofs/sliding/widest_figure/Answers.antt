use Rattle.std.proofs.Common.{◌≡◌, ◌≢◌, ℕ, zero, suc, ◌≤◌, ◌<◌, ◌+◌, ◌^◌, Option, MatchOption, Some, None, refl, ◌∙◌, subst, inl, inr, add-one, rules, arith}
use Rattle.std.specs.Option.{unwrap_or}
use Rattle.std.proofs.Math.Nat.{pow-zero}
use Rattle.std.proofs.lemmas.Iterator.{first_from_Range}
use Rattle.terms.specs.Limits.{longest_figure, most_numbers}
use Rattle.readers.specs.Window.{sliding_reach_lem}
use Rattle.readers.specs.Widest.{reach_is}
use Rattle.readers.proofs.sliding.widest_figure.Goals as goal

fits : (c w : ℕ) → ((k : ℕ) → 0 ≤ k → k < w → c ^ (k + 1) ≤ most_numbers) → c ^ w ≤ most_numbers
fits c zero f = let e = pow-zero c in omega arith
fits c (suc k) f = subst (λ v. c ^ v ≤ most_numbers) (add-one k) (f k (omega arith) (omega arith))

-- the first width whose next one does not fit, or the longest
reach_found : (c : ℕ) (r : Option ℕ) → c ≢ 0
    → MatchOption r ((k : ℕ) → 0 ≤ k → k < longest_figure → c ^ (k + 1) ≤ most_numbers)
    (λ w. (0 ≤ w) × (w < longest_figure) × (most_numbers < c ^ (w + 1)) × ((k : ℕ) → 0 ≤ k → k < w → c ^ (k + 1) ≤ most_numbers))
    → unwrap_or r longest_figure ≡ sliding_reach_lem c
reach_found c None z f = reach_is c longest_figure z (omega arith) (fits c longest_figure f) (inl refl)
reach_found c (Some w) z f = let l = f.1 in reach_is c w z (omega arith) (fits c w f.3) (inr f.2)

pub returns : goal.returns
returns c =
    let Yes : ℕ → Type 0 = λ k. most_numbers < c.args.c ^ (k + 1) in
    let No : ℕ → Type 0 = λ k. c.args.c ^ (k + 1) ≤ most_numbers in
    c.unwrap_or.ensures
    ∙ reach_found c.args.c c.find.result c.if-c-eq0.false (first_from_Range _ _ _ c.find.result Yes No c.find.ensures.ran (λ x q h. search rules) (λ x q h. search rules))
