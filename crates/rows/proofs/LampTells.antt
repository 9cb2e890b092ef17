-- What the lamp's summary tells of the answers.
use Rattle.std.proofs.Common.{◌≡◌, ℕ, zero, suc, ◌+◌, ◌-◌, ◌<◌, ◌≤◌, Bool, true, false, cond, eqb, eqb-true, Option, Some, None, List, [], ◌∷◌, ◌++◌, map, length, get_or, take, drop, replicate, sym, refl, ap, ◌∙◌, subst, ⊎_elim, arith}
use borrow.Author.Tests.{eqb-false}
use Rattle.std.proofs.lemmas.Bool.{cases_lt}
use Rattle.std.proofs.lemmas.Bool.Decides.{nat_tests}
use Rattle.std.proofs.lemmas.List.{append_assoc, length-append, map-append, get_or-drop, nil_from_length}
use Rattle.terms.specs.Limits.{lamp_length}
use Rattle.terms.specs.Marks.{newest}
use Rattle.rows.specs.declared.lamp.Lamp.{Lamp}
use Rattle.rows.specs.Laws.{all_joined, ring}
use Rattle.rows.specs.Lamps.{no_lamp, better, lamp_joined, lamp_valid}
use Rattle.rows.specs.LampTrees.{answers_in, answer_leaf, answers_from, laid_out, lamp_shown, LampKept}
use Rattle.rows.specs.LampRings.{Shows, LampShows}
use Rattle.rows.specs.LampLaws.{valid_says, valid_when, joined_at, lamp_laws}

-- The answers of laid out leaves.

answers_none : (n : ℕ) (xs : List Lamp) → answers_in (replicate n no_lamp ++ xs) ≡ answers_in xs
answers_none zero xs = refl
answers_none (suc n) xs = answers_none n xs

answers_map : (xs : List (ℕ × ℕ)) → answers_in (map answer_leaf xs) ≡ xs
answers_map [] = refl
answers_map (x ∷ xs) = ap (λ ys. x ∷ ys) (answers_map xs)

pub answers_laid : (n : ℕ) (xs : List (ℕ × ℕ)) → answers_in (laid_out n xs) ≡ xs
answers_laid n xs = answers_none (n - length xs) (map answer_leaf xs) ∙ answers_map xs

-- One answer more.
laid_few : (n : ℕ) (xs : List (ℕ × ℕ)) (x : ℕ × ℕ) → length xs < n → drop 1 (laid_out n xs) ++ answer_leaf x ∷ [] ≡ laid_out n (newest n (xs ++ x ∷ []))
laid_few n xs x h =
    let l = length-append xs (x ∷ []) in
    let e : n - length xs ≡ suc (n - suc (length xs)) = omega arith in
    let f : n - suc (length xs) ≡ n - length (xs ++ x ∷ []) = omega arith in
    let z : 0 ≡ length (xs ++ x ∷ []) - n = omega arith in
    ap (λ k. drop 1 (replicate k no_lamp ++ map answer_leaf xs) ++ answer_leaf x ∷ []) e
    ∙ append_assoc (replicate (n - suc (length xs)) no_lamp) (map answer_leaf xs) (answer_leaf x ∷ [])
    ∙ ap (λ ys. replicate (n - suc (length xs)) no_lamp ++ ys) (sym (map-append answer_leaf xs (x ∷ [])))
    ∙ ap (λ k. replicate k no_lamp ++ map answer_leaf (xs ++ x ∷ [])) f
    ∙ ap (λ k. laid_out n (drop k (xs ++ x ∷ []))) z

laid_full : (n : ℕ) (y : ℕ × ℕ) (xs : List (ℕ × ℕ)) (x : ℕ × ℕ) → suc (length xs) ≡ n → drop 1 (laid_out n (y ∷ xs)) ++ answer_leaf x ∷ [] ≡ laid_out n (newest n ((y ∷ xs) ++ x ∷ []))
laid_full n y xs x h =
    let l = length-append xs (x ∷ []) in
    let e : n - suc (length xs) ≡ 0 = omega arith in
    let f : 0 ≡ n - length (xs ++ x ∷ []) = omega arith in
    let z : 1 ≡ suc (length (xs ++ x ∷ [])) - n = omega arith in
    ap (λ k. drop 1 (replicate k no_lamp ++ map answer_leaf (y ∷ xs)) ++ answer_leaf x ∷ []) e
    ∙ sym (map-append answer_leaf xs (x ∷ []))
    ∙ ap (λ k. replicate k no_lamp ++ map answer_leaf (xs ++ x ∷ [])) f
    ∙ ap (λ k. laid_out n (drop k (y ∷ (xs ++ x ∷ [])))) z

-- What a summary shows.
pub record LampTells (xs : List (ℕ × ℕ)) (l : Lamp) : Type 0 where
  pub size_is : l.size ≡ length xs
  pub good : lamp_valid l ≡ true
  pub blank : length xs ≡ 0 → l ≡ no_lamp
  pub shows : 0 < length xs → Shows xs l.gap l.step

lamp_tells_none : LampTells [] no_lamp
lamp_tells_none = record { size_is = refl; good = refl; blank = λ e. refl; shows = λ h. absurd (omega arith) }

lamp_tells_blank : (xs : List (ℕ × ℕ)) (l : Lamp) → LampTells xs l → LampTells xs (lamp_joined no_lamp l)
lamp_tells_blank xs l k = subst (LampTells xs) (sym (lamp_laws.left l k.good)) k

-- what holds of the first, and of each of the others, holds of all
at_cons : (P : ℕ × ℕ → Type 0) (x : ℕ × ℕ) (xs : List (ℕ × ℕ)) → P x → ((i : ℕ) → i < length xs → P (get_or xs i (0, 0))) → (i : ℕ) → i < suc (length xs) → P (get_or (x ∷ xs) i (0, 0))
at_cons P x xs p f zero h = p
at_cons P x xs p f (suc i) h = f i (omega arith)

shows_first : (x : ℕ × ℕ) (xs : List (ℕ × ℕ)) → ((i : ℕ) → i < length xs → x.0 ≤ (get_or xs i (0, 0)).0) → ((i : ℕ) → i < length xs → (get_or xs i (0, 0)).0 ≡ x.0 → x.1 ≤ (get_or xs i (0, 0)).1) → Shows (x ∷ xs) x.0 x.1
shows_first x xs f g = record {
  at = 0;
  among = omega arith;
  is = refl;
  least = at_cons (λ y. x.0 ≤ y.0) x xs (omega arith) f;
  earliest = at_cons (λ y. y.0 ≡ x.0 → x.1 ≤ y.1) x xs (λ e. omega arith) g;
}

shows_later : (x : ℕ × ℕ) (xs : List (ℕ × ℕ)) (g s : ℕ) → Shows xs g s → g ≤ x.0 → (x.0 ≡ g → s ≤ x.1) → Shows (x ∷ xs) g s
shows_later x xs g s k p q = record {
  at = suc k.at;
  among = let a = k.among in omega arith;
  is = k.is;
  least = at_cons (λ y. g ≤ y.0) x xs p k.least;
  earliest = at_cons (λ y. y.0 ≡ g → s ≤ y.1) x xs q k.earliest;
}

better_says : (x y : Lamp) → better x y ≡ true → (y.gap ≤ x.gap) × (x.gap ≡ y.gap → y.step ≤ x.step)
better_says x y h = (grind (arith, nat_tests), λ e. grind (arith, nat_tests))

better_not_says : (x y : Lamp) → better x y ≡ false → (x.gap ≤ y.gap) × (x.gap ≡ y.gap → x.step ≤ y.step)
better_not_says x y h = (grind (arith, nat_tests), λ e. grind (arith, nat_tests))

shows_joined : (x : ℕ × ℕ) (xs : List (ℕ × ℕ)) (l : Lamp) → Shows xs l.gap l.step → (t : Bool) → better (answer_leaf x) l ≡ t → Shows (x ∷ xs) (cond t l.gap x.0) (cond t l.step x.1)
shows_joined x xs l k true e = let b = better_says (answer_leaf x) l e in shows_later x xs l.gap l.step k b.0 b.1
shows_joined x xs l k false e =
    let b = better_not_says (answer_leaf x) l e in
    let b₀ : x.0 ≤ l.gap = b.0 in
    shows_first x xs
    (λ i h. let f = k.least i h in omega arith)
    (λ i h q. let f = k.least i h in let z : x.0 ≡ l.gap = omega arith in let u = b.1 z in let v = k.earliest i h (q ∙ z) in omega (arith, u, v))

lamp_tells_cons : (x : ℕ × ℕ) (xs : List (ℕ × ℕ)) (l : Lamp) → lamp_valid (answer_leaf x) ≡ true → LampTells xs l → LampTells (x ∷ xs) (lamp_joined (answer_leaf x) l)
lamp_tells_cons x [] l v k =
    let e : lamp_joined (answer_leaf x) l ≡ answer_leaf x = ap (lamp_joined (answer_leaf x)) (k.blank refl) ∙ lamp_laws.right (answer_leaf x) v in
    subst (LampTells (x ∷ [])) (sym e) (record {
      size_is = refl;
      good = v;
      blank = λ z. absurd (omega arith);
      shows = λ h. shows_first x [] (λ i q. absurd (omega arith)) (λ i q r. absurd (omega arith));
    })
lamp_tells_cons x (y ∷ ys) l v k =
    let n = k.size_is in
    record {
      size_is = omega arith;
      good = valid_when (lamp_joined (answer_leaf x) l) (joined_at (answer_leaf x) l (valid_says (answer_leaf x) v) (valid_says l k.good) (better (answer_leaf x) l));
      blank = λ z. absurd (omega arith);
      shows = λ h. shows_joined x (y ∷ ys) l (k.shows (omega arith)) (better (answer_leaf x) l) refl;
    }

lamp_tells_map : (xs : List (ℕ × ℕ)) → ((i : ℕ) → lamp_valid (get_or (map answer_leaf xs) i no_lamp) ≡ true) → LampTells xs (all_joined no_lamp lamp_joined (map answer_leaf xs))
lamp_tells_map [] h = lamp_tells_none
lamp_tells_map (x ∷ xs) h = lamp_tells_cons x xs (all_joined no_lamp lamp_joined (map answer_leaf xs)) (h 0) (lamp_tells_map xs (λ i. h (suc i)))

lamp_tells_out : (n : ℕ) (xs : List (ℕ × ℕ)) → ((i : ℕ) → lamp_valid (get_or (replicate n no_lamp ++ map answer_leaf xs) i no_lamp) ≡ true) → LampTells xs (all_joined no_lamp lamp_joined (replicate n no_lamp ++ map answer_leaf xs))
lamp_tells_out zero xs h = lamp_tells_map xs h
lamp_tells_out (suc n) xs h = lamp_tells_blank xs (all_joined no_lamp lamp_joined (replicate n no_lamp ++ map answer_leaf xs)) (lamp_tells_out n xs (λ i. h (suc i)))

pub lamp_tells_laid : (n : ℕ) (xs : List (ℕ × ℕ)) → ((i : ℕ) → lamp_valid (get_or (laid_out n xs) i no_lamp) ≡ true) → LampTells xs (all_joined no_lamp lamp_joined (laid_out n xs))
lamp_tells_laid n xs h = lamp_tells_out (n - length xs) xs h

pub laid_more : (n : ℕ) (xs : List (ℕ × ℕ)) (x : ℕ × ℕ) → 0 < n → length xs ≤ n → drop 1 (laid_out n xs) ++ answer_leaf x ∷ [] ≡ laid_out n (newest n (xs ++ x ∷ []))
laid_more n [] x p h = laid_few n [] x p
laid_more n (y ∷ ys) x p h = ⊎_elim (λ l. laid_few n (y ∷ ys) x l) (λ l. laid_full n y ys x (omega arith)) (cases_lt (suc (length ys)) n)

-- each leaf of a ring is a leaf
append_valid : (xs ys : List Lamp) → ((i : ℕ) → lamp_valid (get_or xs i no_lamp) ≡ true) → ((i : ℕ) → lamp_valid (get_or ys i no_lamp) ≡ true) → (i : ℕ) → lamp_valid (get_or (xs ++ ys) i no_lamp) ≡ true
append_valid [] ys f g i = g i
append_valid (x ∷ xs) ys f g zero = f 0
append_valid (x ∷ xs) ys f g (suc i) = append_valid xs ys (λ j. f (suc j)) g i

take_valid : (n : ℕ) (xs : List Lamp) → ((i : ℕ) → lamp_valid (get_or xs i no_lamp) ≡ true) → (i : ℕ) → lamp_valid (get_or (take n xs) i no_lamp) ≡ true
take_valid zero xs f i = refl
take_valid (suc n) [] f i = refl
take_valid (suc n) (x ∷ xs) f zero = f 0
take_valid (suc n) (x ∷ xs) f (suc i) = take_valid n xs (λ j. f (suc j)) i

pub ring_valid : (h : ℕ) (xs : List Lamp) → ((i : ℕ) → lamp_valid (get_or xs i no_lamp) ≡ true) → (i : ℕ) → lamp_valid (get_or (ring h xs) i no_lamp) ≡ true
ring_valid h xs f = append_valid (drop h xs) (take h xs) (λ i. ap lamp_valid (get_or-drop h xs i no_lamp) ∙ f (h + i)) (take_valid h xs f)

-- what the lamp shows of the answers in a ring
tells_shown : (xs : List (ℕ × ℕ)) (l : Lamp) → LampTells xs l → (b : Bool) → eqb l.size 0 ≡ b → LampShows xs (cond b None (Some (l.gap, l.step)))
tells_shown xs l t true e = let n = t.size_is in let z = eqb-true l.size 0 e in nil_from_length xs (omega arith)
tells_shown xs l t false e = let n = t.size_is in let z = eqb-false l.size 0 e in t.shows (omega arith)

pub lamp_shows : (head : ℕ) (leaves : List Lamp) → LampKept head leaves → (all : Lamp) → all ≡ all_joined no_lamp lamp_joined (ring head leaves) → (r : Option (ℕ × ℕ)) → r ≡ lamp_shown all → LampShows (answers_from head leaves) r
lamp_shows head leaves k all e r s =
    let xs : List (ℕ × ℕ) = answers_from head leaves in
    let w : (i : ℕ) → lamp_valid (get_or (ring head leaves) i no_lamp) ≡ true = ring_valid head leaves k.valids in
    let t : LampTells xs all =
    subst (λ ys. LampTells xs ys) (sym (e ∙ ap (all_joined no_lamp lamp_joined) k.laid))
    (lamp_tells_laid lamp_length xs (subst (λ ys. (i : ℕ) → lamp_valid (get_or ys i no_lamp) ≡ true) k.laid w)) in
    subst (LampShows xs) (sym s) (tells_shown xs all t (eqb all.size 0) refl)
