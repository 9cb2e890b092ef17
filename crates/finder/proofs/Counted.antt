-- The counts of a phrase's codes.
use Rattle.std.proofs.Common.{◌≡◌, ℕ, zero, suc, ◌+◌, ◌<◌, ◌≤◌, cond, List, [], ◌∷◌, length, refl, ap, arith}
use Rattle.terms.specs.Figures.{count, figures, same, different}
use Rattle.terms.specs.Codes.{count_of, count_at}
use Rattle.terms.proofs.Runs.{length_figures}
use Rattle.terms.proofs.Counts.{same_sym, different_once}
use Rattle.readers.proofs.Coding.{different_small, count_of_small}
use Rattle.terms.specs.Limits.{longest_phrase}
use Rattle.finder.specs.Recent.{before}
use Rattle.finder.proofs.Rings.{Counts}

at_in : (k : ℕ) (ps fs : List (List ℕ)) → 0 < count_at k ps fs → k < length fs
unfolding count_at
at_in k ps [] h = absurd (omega arith)
at_in zero ps (f ∷ fs) h = omega arith
at_in (suc k) ps (f ∷ fs) h = let a = at_in k ps fs h in omega arith

of_in : (ps : List (List ℕ)) (h : ℕ) → 0 < count_of ps h → (0 < h) × (h ≤ length ps)
unfolding count_of
of_in ps zero k = absurd (omega arith)
of_in ps (suc h) k = let a = at_in h ps (different ps) k in let b = different_small ps in (omega arith, omega arith)

pub counts_of : (q : ℕ) (phrase : List ℕ) → 1 ≤ q → length phrase ≤ longest_phrase → Counts (count_of (figures q phrase))
counts_of q phrase a b =
    let l = length_figures q phrase a in
    record {
      coded = λ h k. let i = of_in (figures q phrase) h k in (i.0, omega (arith, i.1));
      few = λ h. let i = count_of_small (figures q phrase) h in omega arith;
    }

-- the counts of the first n of the figures ds, together
front : ℕ → List (List ℕ) → List (List ℕ) → ℕ
front zero ps ds = 0
front (suc n) ps [] = 0
front (suc n) ps (d ∷ ds) = count d ps + front n ps ds

front_more : (n : ℕ) (ps ds : List (List ℕ)) → front (suc n) ps ds ≡ front n ps ds + count_at n ps ds
unfolding front count_at
front_more zero ps [] = omega arith
front_more zero ps (d ∷ ds) = omega arith
front_more (suc n) ps [] = omega arith
front_more (suc n) ps (d ∷ ds) = let k = front_more n ps ds in omega arith

-- the counts of all of them
sums : List (List ℕ) → List (List ℕ) → ℕ
sums ps [] = 0
sums ps (d ∷ ds) = count d ps + sums ps ds

front_sums : (n : ℕ) (ps ds : List (List ℕ)) → front n ps ds ≤ sums ps ds
unfolding front sums
front_sums zero ps ds = omega arith
front_sums (suc n) ps [] = omega arith
front_sums (suc n) ps (d ∷ ds) = let k = front_sums n ps ds in omega arith

sums_none : (ds : List (List ℕ)) → sums [] ds ≡ 0
unfolding sums count
sums_none [] = refl
sums_none (d ∷ ds) = omega (arith, sums_none ds)

sums_more : (f : List ℕ) (ps ds : List (List ℕ)) → sums (f ∷ ps) ds ≡ count f ds + sums ps ds
unfolding sums count
sums_more f ps [] = omega arith
sums_more f ps (d ∷ ds) = let k = sums_more f ps ds in let s : ◌≡◌ {A = ℕ} (cond (same d f) 1 0) (cond (same f d) 1 0) = ap (λ b. cond b 1 0) (same_sym d f) in omega arith

sums_few : (ps ds : List (List ℕ)) → ((v : List ℕ) → count v ds ≤ 1) → sums ps ds ≤ length ps
sums_few [] ds once = omega (arith, sums_none ds)
sums_few (f ∷ ps) ds once = let k = sums_few ps ds once in let o = once f in let m = sums_more f ps ds in omega arith

before_front : (ps : List (List ℕ)) (n : ℕ) → before (count_of ps) n ≡ front n ps (different ps)
unfolding before front count_of
before_front ps zero = refl
before_front ps (suc n) = let k = before_front ps n in let m = front_more n ps (different ps) in omega arith

pub before_few : (q : ℕ) (phrase : List ℕ) (n : ℕ) → 1 ≤ q → length phrase ≤ longest_phrase → before (count_of (figures q phrase)) n ≤ longest_phrase
before_few q phrase n a b =
    let ps = figures q phrase in
    let l = length_figures q phrase a in
    let x = before_front ps n in
    let y = front_sums n ps (different ps) in
    let z = sums_few ps (different ps) (λ v. different_once v ps) in
    omega arith
