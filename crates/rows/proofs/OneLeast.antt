-- Two answers to the same question are equal.
use Rattle.std.proofs.Common.{◌≡◌, ℕ, ◌≤◌, Bool, true, ◌&&◌, eqb, int_eq, List, map, ℤ, ◌≤ℤ◌, ◌<ℤ◌, sym, ap, ◌∙◌, subst, ⊎_elim, arith, eq-eqb, eqb-true}
use Rattle.std.proofs.lemmas.Int.{ints}
use Rattle.std.proofs.lemmas.Bool.{cases_lt, and_from, and_parts}
use Rattle.terms.specs.Marks.{Least, least_sum}
use Rattle.terms.proofs.Leasts.{least_found}
use Rattle.rows.specs.declared.mark.Mark.{Mark}
use Rattle.rows.specs.Rows.{worth}
use Rattle.rows.specs.OneLeast.{AlwaysOneLeast, Alike, least_of}

-- neither span is longer than the other
not_longer : (zs : List ℤ) (l : ℤ) (n n' : ℕ) → Least zs l n → Least zs l n' → n' ≤ n
not_longer zs l n n' a b =
    ⊎_elim
    (λ h. let f : l <ℤ l = subst (λ x. l <ℤ x) b.has_sum (a.largest n' b.within h) in absurd (omega (arith, ints)))
    (λ h. h)
    (cases_lt n n')

int_eq_true : (x y : ℤ) → x ≡ y → int_eq x y ≡ true
int_eq_true x y e = grind (arith, ints)

int_eq_says : (x y : ℤ) → int_eq x y ≡ true → x ≡ y
int_eq_says x y h = grind (arith, ints)

pub same_pair : (zs : List ℤ) (l l' : ℤ) (n n' : ℕ) → Least zs l n → Least zs l' n' → (l ≡ l') × (n ≡ n')
same_pair zs l l' n n' a b =
    let p : l ≤ℤ l' = subst (λ x. l ≤ℤ x) b.has_sum (a.least n' b.within) in
    let q : l' ≤ℤ l = subst (λ x. l' ≤ℤ x) a.has_sum (b.least n a.within) in
    let e : l ≡ l' = omega (arith, ints) in
    let a' : Least zs l' n = subst (λ x. Least zs x n) e a in
    (e, omega (arith, not_longer zs l' n n' a' b, not_longer zs l' n' n b a'))

pub always_one_least : AlwaysOneLeast
always_one_least zs = record {
  meets = least_found zs;
  only = λ l n a. same_pair zs l (least_sum zs).0 n (least_sum zs).1 a (least_found zs);
}

-- a test that says whether two answers are equal says whether the rows answer alike
pub alike : (xs ys : List Mark) (l l' : ℤ) (n n' : ℕ) → Least (map worth xs) l n → Least (map worth ys) l' n'
    → (r : Bool) → (r ≡ true → (l ≡ l') × (n ≡ n')) → (l ≡ l' → n ≡ n' → r ≡ true) → Alike xs ys r
alike xs ys l l' n n' a b r f g =
    let p = (always_one_least (map worth xs)).only l n a in
    let q = (always_one_least (map worth ys)).only l' n' b in
    record {
      same_marks = λ e.
          let s = same_pair (map worth ys) l l' n n' (subst (λ ms. Least (map worth ms) l n) e a) b in
          g s.0 s.1;
      same_answer = λ e. g (p.0 ∙ ap (λ x. x.0) e ∙ sym q.0) (p.1 ∙ ap (λ x. x.1) e ∙ sym q.1);
      exact = λ e.
          let s = f e in
          let u : (least_of xs).0 ≡ (least_of ys).0 = sym p.0 ∙ s.0 ∙ q.0 in
          let v : (least_of xs).1 ≡ (least_of ys).1 = sym p.1 ∙ s.1 ∙ q.1 in
          λ i. (u i, v i);
    }
