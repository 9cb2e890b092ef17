-- The states get their codes.
use Rattle.std.proofs.Common.{◌≡◌, ℕ, zero, suc, ◌+◌, ◌-◌, ◌<◌, ◌≤◌, ◌≢◌, List, [], ◌∷◌, ◌++◌, length, get_or, take, drop, set, sym, refl, ap, ◌∙◌, subst, inl, inr, arith}
use Rattle.std.proofs.lemmas.Bool.{cases_eq, cases_lt, eq-eqb, ne_eqb}
use Rattle.std.proofs.lemmas.List.{get_or-set_same, get_or-set_other, length-set, length_push, length-take}
use Rattle.std.proofs.lemmas.Grind.{common_steps}
use Rattle.std.specs.List.{refill}
use Rattle.arrayvec.proofs.ArrayVecLemmas.{items-with_items}
use Rattle.terms.specs.Figures.{figures, different}
use Rattle.terms.specs.Limits.{longest_phrase}
use Rattle.terms.specs.Codes.{code, count_of, count_at, numbered}
use Rattle.terms.proofs.Numbering.{different_new, different_old, code_next}
use Rattle.terms.proofs.Coded.{code_found}
use Rattle.terms.proofs.Counts.{count_append, count_same}
use Rattle.readers.specs.declared.state.State.{State}
use Rattle.readers.specs.Table.{Node, Tree, node, nodes, blank, with_code, run, Runs, Codes, Counts, CodeGiven, Numbered, Stands, Built, Uncoded, most_places}
use Rattle.readers.proofs.Coding.{code_old, code_other, unseen, seen, count_of_push, figure_at, code_small, count_of_small, different_small}

with_code_at : (ss : List State) (j h k : ℕ) → j < length ss → nodes (set ss j (with_code (get_or ss j blank) h)) k ≡ nodes ss k
with_code_at ss j h k l = elim (cases_eq k j) [
  | inl e ↦
      ap (λ v. nodes (set ss j (with_code (get_or ss j blank) h)) v) e ∙ ap node (get_or-set_same ss j (with_code (get_or ss j blank) h) blank l) ∙ ap (nodes ss) (sym e)
  | inr e ↦ ap node (get_or-set_other ss j k (with_code (get_or ss j blank) h) blank e)
]

with_code_nodes : (ss : List State) (j h : ℕ) → j < length ss → nodes (set ss j (with_code (get_or ss j blank) h)) ≡ nodes ss
with_code_nodes ss j h l = λ i k. with_code_at ss j h k l i

with_code_tree : (ss : List State) (j h : ℕ) → j < length ss → Tree (length ss) (nodes ss)
    → Tree (length (set ss j (with_code (get_or ss j blank) h))) (nodes (set ss j (with_code (get_or ss j blank) h)))
with_code_tree ss j h l t =
    subst (λ (N : ℕ → Node). Tree (length (set ss j (with_code (get_or ss j blank) h))) N) (sym (with_code_nodes ss j h l))
    (subst (λ n. Tree n (nodes ss)) (sym (length-set ss j (with_code (get_or ss j blank) h))) t)

-- the same where the code is written through the vector of states
pub coded_tree : (ss ys : List State) (j h : ℕ) → j < length ss → ys ≡ ss → Tree (length ss) (nodes ss)
    → Tree (length (refill (length ss) ss (set ys j (with_code (get_or ys j blank) h)))) (nodes (refill (length ss) ss (set ys j (with_code (get_or ys j blank) h))))
coded_tree ss ys j h l e t =
    let is = items-with_items (record { items = ss }) (set ss j (with_code (get_or ss j blank) h)) (length-set ss j (with_code (get_or ss j blank) h)) in
    let P : List State → Type 0 = λ v. Tree (length v) (nodes v) in
    subst (λ (v : List State). P (refill (length ss) ss (set v j (with_code (get_or v j blank) h)))) (sym e) (subst P (sym is) (with_code_tree ss j h l t))

module _ (p : List ℕ) (ps : List (List ℕ)) (f : List ℕ) (n : ℕ) (ss : List State) (j : ℕ) (c : Codes p ps n ss) (jn : j < n) (is : run p (nodes ss j) ≡ f) where
  code_here : (get_or ss j blank).code ≡ code ps f
  code_here = c j jn ∙ ap (code ps) is

  codes_old : ((get_or ss j blank).code ≡ 0 → ⊥) → Codes p (ps ++ (f ∷ [])) n ss
  codes_old z i h = c i h ∙ sym (code_old ps f _ (seen ps f (λ e. z (code_here ∙ e))))

  count_old : ((get_or ss j blank).code ≡ 0 → ⊥) → length (different (ps ++ (f ∷ []))) ≡ length (different ps)
  count_old z = ap length (different_old f ps (seen ps f (λ e. z (code_here ∙ e))))

  count_new : (get_or ss j blank).code ≡ 0 → length (different (ps ++ (f ∷ []))) ≡ length (different ps) + 1
  count_new z = ap length (different_new f ps (unseen ps f (sym code_here ∙ z))) ∙ length_push (different ps) f

  codes_new : (h : ℕ) → j < length ss → Runs p n (nodes ss) → (get_or ss j blank).code ≡ 0 → h ≡ length (different ps) + 1 → Codes p (ps ++ (f ∷ [])) n (set ss j (with_code (get_or ss j blank) h))
  codes_new h l r z e i k = elim (cases_eq i j) [
    | inl d ↦
        ap (λ v. (get_or (set ss j (with_code (get_or ss j blank) h)) v blank).code) d ∙ ap (λ (v : State). v.code) (get_or-set_same ss j (with_code (get_or ss j blank) h) blank l) ∙ e
        ∙ sym (code_next ps f (unseen ps f (sym code_here ∙ z))) ∙ ap (code (ps ++ (f ∷ []))) (sym is ∙ ap (λ v. run p (nodes ss v)) (sym d) ∙ ap (run p) (sym (with_code_at ss j h i l)))
    | inr d ↦
        ap (λ (v : State). v.code) (get_or-set_other ss j i (with_code (get_or ss j blank) h) blank d) ∙ c i k
        ∙ sym (code_other ps f (run p (nodes ss i)) (λ u. d (r.apart i j k jn (u ∙ sym is)))) ∙ ap (λ v. code (ps ++ (f ∷ [])) (run p v)) (sym (with_code_at ss j h i l))
  ]

code_some : (ps : List (List ℕ)) (f : List ℕ) → 1 ≤ code (ps ++ (f ∷ [])) f
code_some ps f =
    let a = count_append f ps (f ∷ []) in
    let b = count_same f [] in
    code_found (ps ++ (f ∷ [])) f (omega arith)

zero_count : (ps qs : List (List ℕ)) → count_of ps 0 ≡ count_of qs 0
unfolding count_of
zero_count ps qs = refl

pub counts_step : (ps : List (List ℕ)) (f : List ℕ) (counts : List ℕ) (c : ℕ) → Counts ps counts → c ≡ code (ps ++ (f ∷ [])) f → c < length counts → Counts (ps ++ (f ∷ [])) (set counts c (get_or counts c 0 + 1))
counts_step ps f counts c k e l h = elim (cases_lt 0 h) [
  | inl z ↦ elim (cases_eq h c) [
    | inl d ↦
        let a = count_of_push ps f h z in
        let b = rw (eq-eqb h (code (ps ++ (f ∷ [])) f) (d ∙ e)) at a in
        let g = k c in
        let m = ap (count_of ps) d in
        ap (λ v. get_or (set counts c (get_or counts c 0 + 1)) v 0) d ∙ get_or-set_same counts c (get_or counts c 0 + 1) 0 l ∙ ap (λ v. v + 1) (g ∙ sym m) ∙ sym b
    | inr d ↦
        let a = count_of_push ps f h z in
        let b = rw (ne_eqb h (code (ps ++ (f ∷ [])) f) (λ u. d (u ∙ sym e))) at a in
        get_or-set_other counts c h (get_or counts c 0 + 1) 0 d ∙ k h ∙ sym (b ∙ omega arith)
  ]
  | inr z ↦
      let d : h ≡ 0 = omega arith in
      let s = code_some ps f in
      let ne : h ≢ c = λ u. omega arith in
      get_or-set_other counts c h (get_or counts c 0 + 1) 0 ne ∙ k h ∙ ap (count_of ps) d ∙ zero_count ps (ps ++ (f ∷ [])) ∙ ap (count_of (ps ++ (f ∷ []))) (sym d)
]

module _ (p : List ℕ) (ps : List (List ℕ)) (f : List ℕ) (n : ℕ) (N : ℕ → Node) (r : Runs p n N) where
  numbered_step : (ss ss' : List State) (j codes codes' : ℕ) → j < n → run p (N j) ≡ f → Numbered p ps n N ss codes → CodeGiven j codes ss ss' codes'
      → Numbered p (ps ++ (f ∷ [])) n N ss' codes' × ((get_or ss' j blank).code ≡ code (ps ++ (f ∷ [])) f)
  numbered_step ss ss' j codes codes' jn e b m = elim (cases_eq (get_or ss j blank).code 0) [
    | inl z ↦
        let k = m.new z in
        let l = b.as_many in
        let d : Numbered p (ps ++ (f ∷ [])) n N (set ss j (with_code (get_or ss j blank) (codes + 1))) codes' = record {
          as_many = length-set ss j (with_code (get_or ss j blank) (codes + 1)) ∙ l;
          same = with_code_nodes ss j (codes + 1) (omega arith) ∙ b.same;
          each = codes_new p ps f n ss j b.each jn is (codes + 1) (omega arith) (subst (Runs p n) (sym b.same) r) z (ap (λ v. v + 1) b.many);
          many = k.1 ∙ ap (λ v. v + 1) b.many ∙ sym (count_new p ps f n ss j b.each jn is z);
        } in
        out (subst (λ v. Numbered p (ps ++ (f ∷ [])) n N v codes') (sym k.0) d)
    | inr z ↦
        let k = m.old z in
        let d : Numbered p (ps ++ (f ∷ [])) n N ss codes' = record {
          as_many = b.as_many;
          same = b.same;
          each = codes_old p ps f n ss j b.each jn is z;
          many = k.1 ∙ b.many ∙ sym (count_old p ps f n ss j b.each jn is z);
        } in
        out (subst (λ v. Numbered p (ps ++ (f ∷ [])) n N v codes') (sym k.0) d)
  ]
    where
      is : run p (nodes ss j) ≡ f
      is = ap (λ (M : ℕ → Node). run p (M j)) b.same ∙ e

      out : Numbered p (ps ++ (f ∷ [])) n N ss' codes' → Numbered p (ps ++ (f ∷ [])) n N ss' codes' × ((get_or ss' j blank).code ≡ code (ps ++ (f ∷ [])) f)
      out d = (d, d.each j jn ∙ ap (code (ps ++ (f ∷ []))) (ap (λ (M : ℕ → Node). run p (M j)) d.same ∙ e))

few_codes : (p : List ℕ) (q a n : ℕ) (N : ℕ → Node) (ss : List State) (codes : ℕ) → Numbered p (take a (figures q p)) n N ss codes → codes ≤ a
few_codes p q a n N ss codes k =
    let c = k.many in
    let d = different_small (take a (figures q p)) in
    let g = length-take a (figures q p) in
    omega arith

pub few_counts : (p : List ℕ) (q a : ℕ) (counts : List ℕ) (h : ℕ) → Counts (take a (figures q p)) counts → get_or counts h 0 ≤ a
few_counts p q a counts h c =
    let e = c h in
    let d = count_of_small (take a (figures q p)) h in
    let g = length-take a (figures q p) in
    omega arith

-- the figure at the place a is numbered, its code g is counted, and there is room for it
pub record Turned (p : List ℕ) (q a n : ℕ) (N : ℕ → Node) (ss' : List State) (codes' : ℕ) (counts : List ℕ) (g : ℕ) : Type 0 where
  pub small : g < most_places
  pub few : get_or counts g 0 ≤ longest_phrase
  pub numbered : Numbered p (take (a + 1) (figures q p)) n N ss' codes'
  pub counted : Counts (take (a + 1) (figures q p)) (set counts g (get_or counts g 0 + 1))

-- a place where a figure begins, and the state that stands there; the figures before it are numbered
module _ (p : List ℕ) (q n : ℕ) (N : ℕ → Node) (places : List ℕ) (b : Built p q 0 q n N places) (fits : length p ≤ longest_phrase) (a : ℕ) (h : a < length (take (length p + 1 - q) places))
    (ss : List State) (codes : ℕ) (k : Numbered p (take a (figures q p)) n N ss codes) where
  abbrev j : ℕ
  j = get_or (take (length p + 1 - q) places) a 0

  within : a + q ≤ length p
  within = let l = length-take (length p + 1 - q) places in omega arith

  standing : Stands p n N q a j
  standing =
      let w = within in
      let is : j ≡ get_or places a 0 = grind (arith, common_steps) in
      subst (Stands p n N q a) (sym is) (b.todo a (omega arith) w)

  pub room_to_give : (j < length ss) × (codes ≤ longest_phrase)
  room_to_give =
      let w = within in
      let l = standing.in_table in
      let m = k.as_many in
      let e = few_codes p q a n N ss codes k in
      (omega arith, omega arith)

  -- one turn of the loop over the places: the state has a code now, g
  module _ (some : 1 ≤ q) (ss' : List State) (codes' : ℕ) (m : CodeGiven j codes ss ss' codes') (g : ℕ) (is : g ≡ (get_or ss' j blank).code) where
    abbrev done : List (List ℕ)
    done = take a (figures q p)

    abbrev figure : List ℕ
    figure = take q (drop a p)

    both : Numbered p (done ++ (figure ∷ [])) n N ss' codes' × ((get_or ss' j blank).code ≡ code (done ++ (figure ∷ [])) figure)
    both = numbered_step p done figure n N b.runs ss ss' j codes codes' standing.in_table standing.run_is k m

    small : g < most_places
    small =
        let w = within in
        let c = both.1 in
        let d = code_small (done ++ (figure ∷ [])) figure in
        let e = length_push done figure in
        let l = length-take a (figures q p) in
        omega arith

    pub turn : (counts : List ℕ) → length counts ≡ most_places → Counts done counts → Turned p q a n N ss' codes' counts g
    turn counts l c =
        let e : done ++ (figure ∷ []) ≡ take (a + 1) (figures q p) = sym (figure_at q p a some within) in
        let s = small in
        let w = within in
        record {
          small = s;
          few = let f = few_counts p q a counts g c in omega arith;
          numbered = subst (λ v. Numbered p v n N ss' codes') e both.0;
          counted = subst (λ v. Counts v (set counts g (get_or counts g 0 + 1))) e (counts_step done figure counts g c (is ∙ both.1) (omega arith));
        }

pub numbered_start : (p : List ℕ) (ss : List State) → Uncoded ss → Numbered p [] (length ss) (nodes ss) ss 0
unfolding code numbered different
numbered_start p ss u = record { as_many = refl; same = refl; each = u; many = refl }

pub counts_start : (counts : List ℕ) → ((h : ℕ) → get_or counts h 0 ≡ 0) → Counts [] counts
counts_start counts z h = z h ∙ sym (none h)
  where
    none : (h : ℕ) → count_of [] h ≡ 0
    none zero = unfold count_of in refl
    none (suc h) = unfold count_of in unfold count_at in unfold different in refl
