-- A summary tells of marks what it should, and joining keeps it so.
use Rattle.std.proofs.Common.{◌≡◌, ℕ, suc, ◌+◌, ◌-◌, ◌≤◌, Bool, true, false, cond, List, [], ◌∷◌, ◌++◌, length, drop, ℤ, ◌+ℤ◌, ◌≤ℤ◌, ◌<ℤ◌, sym, refl, ap, ◌∙◌, ⊎_elim, arith}
use Rattle.std.proofs.lemmas.Int.{ints}
use Rattle.std.proofs.lemmas.Bool.{cases_lt}
use Rattle.std.proofs.lemmas.List.{length-append, drop-append-le}
use Rattle.terms.specs.Marks.{total, newest, Least}
use Rattle.rows.specs.declared.marks.Marks.{Marks}
use Rattle.rows.specs.Marks.{reaches, marks_joined}
use Rattle.rows.specs.MarkLaws.{le_says, le_not_says}

pub record Tells (zs : List ℤ) (s : Marks) : Type 0 where
  pub size_is : s.size ≡ length zs
  pub sum_is : s.sum ≡ total zs
  pub least_is : Least zs s.least s.span

total_append : (os ns : List ℤ) → total (os ++ ns) ≡ total os +ℤ total ns
unfolding total
total_append [] ns = omega (arith, ints)
total_append (a ∷ os) ns = let e = total_append os ns in omega (arith, ints)

drop_past : (os ns : List ℤ) (n : ℕ) → drop (length os + n) (os ++ ns) ≡ drop n ns
drop_past [] ns n = ap (λ k. drop k ns) (omega arith)
drop_past (a ∷ os) ns n =
    let e : suc (length os) + n ≡ suc (length os + n) = omega arith in
    ap (λ k. drop k (a ∷ (os ++ ns))) e ∙ drop_past os ns n

-- few of the newest marks are marks of the newer part
newest_few : (os ns : List ℤ) (k : ℕ) → k ≤ length ns → newest k (os ++ ns) ≡ newest k ns
newest_few os ns k h =
    let l = length-append os ns in
    let e : length (os ++ ns) - k ≡ length os + (length ns - k) = omega arith in
    ap (λ n. drop n (os ++ ns)) e ∙ drop_past os ns (length ns - k)

-- many are the newer part and some of the older
newest_many : (os ns : List ℤ) (k : ℕ) → length ns ≤ k → total (newest k (os ++ ns)) ≡ total (newest (k - length ns) os) +ℤ total ns
newest_many os ns k h =
    let l = length-append os ns in
    let e : length (os ++ ns) - k ≡ length os - (k - length ns) = omega arith in
    ap (λ n. total (drop n (os ++ ns))) e
    ∙ ap total (drop-append-le (length os - (k - length ns)) os ns (omega arith))
    ∙ total_append (newest (k - length ns) os) ns

module _ (os ns : List ℤ) (a b : Marks) (ta : Tells os a) (tb : Tells ns b) where
  few_is : (k : ℕ) → k ≤ length ns → total (newest k (os ++ ns)) ≡ total (newest k ns)
  few_is k h = ap total (newest_few os ns k h)

  many_is : (k : ℕ) → length ns ≤ k → total (newest k (os ++ ns)) ≡ total (newest (k - length ns) os) +ℤ b.sum
  many_is k h = newest_many os ns k h ∙ ap (λ x. total (newest (k - length ns) os) +ℤ x) (sym tb.sum_is)

  least_reaches : (b.sum +ℤ a.least) ≤ℤ b.least → Least (os ++ ns) (b.sum +ℤ a.least) (b.size + a.span)
  least_reaches h =
      let l = length-append os ns in
      let n = tb.size_is in
      let la = ta.least_is in
      let lb = tb.least_is in
      let sa : a.span ≤ length os = la.within in
      let e : b.size + a.span - length ns ≡ a.span = omega arith in
      record {
        within = omega arith;
        has_sum =
            (let m = many_is (b.size + a.span) (omega arith) in
            let r : total (newest (b.size + a.span - length ns) os) ≡ a.least = ap (λ k. total (newest k os)) e ∙ la.has_sum in
            omega (arith, ints, m, r));
        least = λ k q. ⊎_elim
            (λ p. let f = few_is k (omega arith) in let g = lb.least k (omega arith) in omega (arith, ints, f, g, h))
            (λ p. let f = many_is k p in let g = la.least (k - length ns) (omega arith) in omega (arith, ints, f, g))
            (cases_lt k (length ns));
        largest = λ k q d.
            let f = many_is k (omega arith) in
            let g = la.largest (k - length ns) (omega arith) (omega arith) in
            omega (arith, ints, f, g);
      }

  least_stays : b.least <ℤ (b.sum +ℤ a.least) → Least (os ++ ns) b.least b.span
  least_stays h =
      let l = length-append os ns in
      let la = ta.least_is in
      let lb = tb.least_is in
      let sb : b.span ≤ length ns = lb.within in
      record {
        within = omega arith;
        has_sum = few_is b.span sb ∙ lb.has_sum;
        least = λ k q. ⊎_elim
            (λ p. let f = few_is k (omega arith) in let g = lb.least k (omega arith) in omega (arith, ints, f, g))
            (λ p. let f = many_is k p in let g = la.least (k - length ns) (omega arith) in omega (arith, ints, f, g, h))
            (cases_lt k (length ns));
        largest = λ k q d. ⊎_elim
            (λ p. let f = few_is k (omega arith) in let g = lb.largest k (omega arith) d in omega (arith, ints, f, g))
            (λ p. let f = many_is k p in let g = la.least (k - length ns) (omega arith) in omega (arith, ints, f, g, h))
            (cases_lt k (length ns));
      }

  least_at : (t : Bool) → reaches a b ≡ t → Least (os ++ ns) (cond t (b.sum +ℤ a.least) b.least) (cond t (b.size + a.span) b.span)
  least_at true e = least_reaches (le_says (b.sum +ℤ a.least) b.least e)
  least_at false e = least_stays (le_not_says (b.sum +ℤ a.least) b.least e)

  pub tells_join : Tells (os ++ ns) (marks_joined a b)
  tells_join =
      let l = length-append os ns in
      let p = ta.size_is in
      let q = tb.size_is in
      record {
        size_is = omega arith;
        sum_is = ap (λ x. x +ℤ b.sum) ta.sum_is ∙ ap (λ x. total os +ℤ x) tb.sum_is ∙ sym (total_append os ns);
        least_is = least_at (reaches a b) refl;
      }
