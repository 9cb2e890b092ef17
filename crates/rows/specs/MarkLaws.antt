-- That summaries of marks keep the laws of a summary.
use Rattle.std.specs.Prelude.{◌≡◌, ℕ, ◌+◌, ◌≤◌, Bool, true, false, cond, ℤ, pos, ◌+ℤ◌, neg_ℤ, ◌≤ℤ◌, ◌<ℤ◌, int_le, refl}
use Rattle.std.proofs.Common.{arith}
use Rattle.std.proofs.lemmas.Int.{ints}
use Rattle.std.proofs.lemmas.Bool.Decides.{nat_tests}
use Rattle.rows.specs.Laws.{Laws}
use Rattle.rows.specs.declared.marks.Marks.{Marks}
use Rattle.rows.specs.Marks.{marks_of, no_marks, reaches, marks_joined, marks_valid}

pub record Valid (m : Marks) : Type 0 where
  pub low : m.least ≤ℤ pos 0
  pub under : m.least ≤ℤ m.sum
  pub least_in : neg_ℤ (pos m.size) ≤ℤ m.least
  pub sum_in : m.sum ≤ℤ pos m.size
  pub span_in : m.span ≤ m.size
  pub whole : m.sum ≤ℤ m.least → m.span ≡ m.size

pub valid_says : (m : Marks) → marks_valid m ≡ true → Valid m
valid_says m h = record {
  low = grind (arith, ints, nat_tests);
  under = grind (arith, ints, nat_tests);
  least_in = grind (arith, ints, nat_tests);
  sum_in = grind (arith, ints, nat_tests);
  span_in = grind (arith, ints, nat_tests);
  whole = λ e. grind (arith, ints, nat_tests);
}

pub valid_when : (m : Marks) → Valid m → marks_valid m ≡ true
valid_when m v = grind (arith, ints, nat_tests)

pub same_marks : {n n' k k' : ℕ} {s s' l l' : ℤ} → n ≡ n' → s ≡ s' → l ≡ l' → k ≡ k' → marks_of n s l k ≡ marks_of n' s' l' k'
same_marks p q r t = cc

-- the two ways of a join, over the numbers alone
module _ (al bs bl cs cl : ℤ) where
  least_assoc_at : (t u : Bool) → int_le (bs +ℤ al) bl ≡ t → int_le (cs +ℤ bl) cl ≡ u → cond (int_le (cs +ℤ cond t (bs +ℤ al) bl) cl) (cs +ℤ cond t (bs +ℤ al) bl) cl ≡ cond (int_le ((bs +ℤ cs) +ℤ al) (cond u (cs +ℤ bl) cl)) ((bs +ℤ cs) +ℤ al) (cond u (cs +ℤ bl) cl)
  least_assoc_at true true p q = grind (arith, ints)
  least_assoc_at true false p q = grind (arith, ints)
  least_assoc_at false true p q = grind (arith, ints)
  least_assoc_at false false p q = grind (arith, ints)

  span_assoc_at : (an ak bn bk cn ck : ℕ) (t u : Bool) → int_le (bs +ℤ al) bl ≡ t → int_le (cs +ℤ bl) cl ≡ u → cond (int_le (cs +ℤ cond t (bs +ℤ al) bl) cl) (cn + cond t (bn + ak) bk) ck ≡ cond (int_le ((bs +ℤ cs) +ℤ al) (cond u (cs +ℤ bl) cl)) ((bn + cn) + ak) (cond u (cn + bk) ck)
  span_assoc_at an ak bn bk cn ck true true p q = grind (arith, ints)
  span_assoc_at an ak bn bk cn ck true false p q = grind (arith, ints)
  span_assoc_at an ak bn bk cn ck false true p q = grind (arith, ints)
  span_assoc_at an ak bn bk cn ck false false p q = grind (arith, ints)

least_left : (bs bl : ℤ) → bl ≤ℤ bs → cond (int_le (bs +ℤ pos 0) bl) (bs +ℤ pos 0) bl ≡ bl
least_left bs bl h = grind (arith, ints)

span_left : (bs bl : ℤ) (bn bk : ℕ) → bl ≤ℤ bs → (bs ≤ℤ bl → bk ≡ bn) → cond (int_le (bs +ℤ pos 0) bl) (bn + 0) bk ≡ bk
span_left bs bl bn bk h w = grind (arith, ints)

least_right : (al : ℤ) → al ≤ℤ pos 0 → cond (int_le (pos 0 +ℤ al) (pos 0)) (pos 0 +ℤ al) (pos 0) ≡ al
least_right al h = grind (arith, ints)

span_right : (al : ℤ) (ak : ℕ) → al ≤ℤ pos 0 → cond (int_le (pos 0 +ℤ al) (pos 0)) (0 + ak) 0 ≡ ak
span_right al ak h = grind (arith, ints)

sum_assoc : (a b c : ℤ) → (a +ℤ b) +ℤ c ≡ a +ℤ (b +ℤ c)
sum_assoc a b c = omega (arith, ints)

marks_left : (x : Marks) → marks_valid x ≡ true → marks_joined no_marks x ≡ x
marks_left x h =
    let v = valid_says x h in
    same_marks (omega arith) (omega (arith, ints)) (least_left x.sum x.least v.under) (span_left x.sum x.least x.size x.span v.under v.whole)

marks_right : (x : Marks) → marks_valid x ≡ true → marks_joined x no_marks ≡ x
marks_right x h =
    let v = valid_says x h in
    same_marks (omega arith) (omega (arith, ints)) (least_right x.least v.low) (span_right x.least x.span v.low)

marks_assoc : (x y z : Marks) → marks_joined (marks_joined x y) z ≡ marks_joined x (marks_joined y z)
marks_assoc x y z =
    same_marks (omega arith) (sum_assoc x.sum y.sum z.sum)
    (least_assoc_at x.least y.sum y.least z.sum z.least _ _ refl refl)
    (span_assoc_at x.least y.sum y.least z.sum z.least x.size x.span y.size y.span z.size z.span _ _ refl refl)

pub le_says : (a b : ℤ) → int_le a b ≡ true → a ≤ℤ b
le_says a b h = grind (arith, ints)

pub le_not_says : (a b : ℤ) → int_le a b ≡ false → b <ℤ a
le_not_says a b h = grind (arith, ints)

joined_at : (x y : Marks) → Valid x → Valid y → (t : Bool) → reaches x y ≡ t → Valid (marks_of (x.size + y.size) (x.sum +ℤ y.sum) (cond t (y.sum +ℤ x.least) y.least) (cond t (y.size + x.span) y.span))
joined_at x y v w true e =
    let r = le_says (y.sum +ℤ x.least) y.least e in
    record {
      low = omega (arith, ints);
      under = omega (arith, ints);
      least_in = omega (arith, ints);
      sum_in = omega (arith, ints);
      span_in = omega arith;
      whole = λ h. let k : x.sum ≤ℤ x.least = omega (arith, ints) in omega (arith, v.whole k);
    }
joined_at x y v w false e =
    let r = le_not_says (y.sum +ℤ x.least) y.least e in
    record {
      low = omega (arith, ints);
      under = omega (arith, ints);
      least_in = omega (arith, ints);
      sum_in = omega (arith, ints);
      span_in = omega arith;
      whole = λ h. omega (arith, ints);
    }

pub marks_laws : Laws no_marks marks_joined (λ m. m.size) marks_valid
marks_laws = record {
  size_empty = refl;
  valid_empty = refl;
  left = marks_left;
  right = marks_right;
  size_joined = λ x y. refl;
  valid_joined = λ x y p q h. valid_when (marks_joined x y) (joined_at x y (valid_says x p) (valid_says y q) (reaches x y) refl);
  assoc = λ x y z p q r h. marks_assoc x y z;
}
