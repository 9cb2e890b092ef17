-- The steps of the loop over the places of the phrase.
use Rattle.std.proofs.Common.{◌≡◌, ℕ, ◌+◌, ◌-◌, ◌<◌, ◌≤◌, ◌≢◌, List, [], ◌∷◌, ◌++◌, length, get_or, take, drop, set, sym, refl, ap, ◌∙◌, subst, ap₂, inl, inr, below_more, arith}
use Rattle.std.proofs.lemmas.Bool.{cases_lt, cases_Bool}
use Rattle.std.proofs.lemmas.List.{get_or-set_same, get_or-set_other, length-append, length_push, same_from_push, drop_at, take_at}
use Rattle.terms.specs.Reading.{Run, is_run}
use Rattle.terms.proofs.Reading.{is_run_true}
use Rattle.readers.specs.declared.state.State.{State}
use Rattle.readers.specs.Table.{Node, Tree, Childless, Child, node, nodes, blank, grown, run, Runs, Complete, Stands, Built, Uncoded}
use Rattle.readers.specs.Grows.{Grown, up, grown_is, length_grown, uncoded_grown}
use Rattle.readers.specs.Building.{run_more, run_tail, run_length, stands_grown, stands_new, complete_grown, runs_grown}

module _ (p : List ℕ) (l a n : ℕ) (N : ℕ → Node) (places : List ℕ) (t : Built p l a (l + 1) n N places) (in_phrase : a + l < length p) (in_places : a < length places)
    (x : ℕ) (sound_is : x ≡ get_or p (a + l) 0) where
  here : Stands p n N l a (get_or places a 0)
  here = t.todo a (omega arith) (omega arith)

  others : (M : ℕ → Node) (m j : ℕ) → ((k b i : ℕ) → Stands p n N k b i → Stands p m M k b i) → Stands p m M (l + 1) a j
      → ((b : ℕ) → b < a + 1 → Stands p m M (l + 1) b (get_or (set places a j) b 0)) × ((b : ℕ) → a + 1 ≤ b → b + l ≤ length p → Stands p m M l b (get_or (set places a j) b 0))
  others M m j keep s = (
    below_more (λ b. Stands p m M (l + 1) b (get_or (set places a j) b 0)) a
        (λ b h. let ne : b ≢ a = λ e. omega arith in
        subst (Stands p m M (l + 1) b) (sym (get_or-set_other places a b j 0 ne)) (keep (l + 1) b _ (t.done b h)))
        (subst (Stands p m M (l + 1) a) (sym (get_or-set_same places a j 0 in_places)) s),
    λ b h k. let ne : b ≢ a = λ e. omega arith in
        subst (Stands p m M l b) (sym (get_or-set_other places a b j 0 ne)) (keep l b _ (t.todo b (omega arith) k)),
  )

  step_found : (j : ℕ) → Child n N (get_or places a 0) x j → Built p l (a + 1) (l + 1) n N (set places a j)
  step_found j c =
      let r = t.runs in
      let o = others N n j (λ k b i s. s) (record {
        in_table = c.in_table;
        len_is = r.grows j c.some c.in_table ∙ ap (λ v. (N v).len + 1) c.parent_is ∙ ap (λ v. v + 1) here.len_is;
        run_is = r.made j c.some c.in_table ∙ ap₂ (λ u v. run p (N u) ++ (v ∷ [])) c.parent_is c.sound_is
            ∙ ap₂ (λ u v. u ++ (v ∷ [])) here.run_is sound_is ∙ sym (run_more p a l in_phrase);
      }) in
      record { runs = r; short = t.short; complete = t.complete; done = o.0; todo = o.1 }

  step_new : (s : Node) (N' : ℕ → Node) → Tree n N → Grown n (get_or places a 0) s N N' → s.at ≡ a → s.len ≡ l + 1 → s.sound ≡ x → s.shorter ≡ get_or places (a + 1) 0
      → Childless n N (get_or places a 0) x → Built p l (a + 1) (l + 1) (n + 1) N' (set places a n)
  step_new s N' tr g ea el es eh free =
      let r = t.runs in
      let nx = t.todo (a + 1) (omega arith) (omega arith) in
      let rs : run p s ≡ take (l + 1) (drop a p) = ap₂ (λ u v. take u (drop v p)) el ea in
      let o = others N' (n + 1) n (λ k b i. stands_grown p n _ s N N' g k b i) (stands_new p n _ s N N' g (l + 1) a el ea) in
      record {
        runs = runs_grown p n _ s N N' g r tr (omega arith)
            (rs ∙ run_more p a l in_phrase ∙ ap₂ (λ u v. u ++ (v ∷ [])) (sym here.run_is) (sym (es ∙ sound_is)))
            (el ∙ ap (λ v. v + 1) (sym here.len_is))
            (subst (λ v. v < n) (sym eh) nx.in_table)
            (ap (λ v. run p (N v)) eh ∙ nx.run_is ∙ sym (ap (drop 1) rs ∙ run_tail p a l (omega arith)))
            (ap (λ v. (N v).len + 1) eh ∙ ap (λ v. v + 1) nx.len_is ∙ sym el)
            (subst (Childless n N (get_or places a 0)) (sym es) free);
        short = λ i h. elim (up n i h) [
          | inl k ↦ let u = (g.alike i k).len in let v = t.short i k in omega arith
          | inr k ↦ let u = ap (λ v. (N' v).len) k in let v = ap (λ (w : Node). w.len) g.new in omega arith
        ];
        complete = complete_grown p n _ s N N' g l (omega arith) t.complete;
        done = o.0;
        todo = o.1;
      }

-- the same of the states of a table: the run of one sound more stands at a place, or is added
module _ (p : List ℕ) (l a : ℕ) (ss : List State) (places : List ℕ) (t : Built p l a (l + 1) (length ss) (nodes ss) places) (in_phrase : a + l < length p) (in_places : a < length places)
    (x : ℕ) (sound_is : x ≡ get_or p (a + l) 0) (ss' : List State) (j : ℕ) where
  pub place_found : ss' ≡ ss → (k : ℕ) → j ≡ k → Child (length ss) (nodes ss) (get_or places a 0) x k → Built p l (a + 1) (l + 1) (length ss') (nodes ss') (set places a j)
  place_found e k f c =
      subst (λ (v : List State). Built p l (a + 1) (l + 1) (length v) (nodes v) (set places a j)) (sym e)
      (subst (λ v. Built p l (a + 1) (l + 1) (length ss) (nodes ss) (set places a v)) (sym f) (step_found p l a (length ss) (nodes ss) places t in_phrase in_places x sound_is k c))

  abbrev added : State
  added = record { at = a; len = l + 1; sound = x; code = 0; parent = get_or places a 0; shorter = get_or places (a + 1) 0; child = 0; next = (get_or ss (get_or places a 0) blank).child }

  pub place_new : ss' ≡ grown ss (get_or places a 0) added → j ≡ length ss → Tree (length ss) (nodes ss) → Childless (length ss) (nodes ss) (get_or places a 0) x
      → Built p l (a + 1) (l + 1) (length ss') (nodes ss') (set places a j)
  place_new e f tree free =
      let under = (t.todo a (omega arith) (omega arith)).in_table in
      let g = grown_is ss (get_or places a 0) added under refl refl refl in
      let d = step_new p l a (length ss) (nodes ss) places t in_phrase in_places x sound_is (node added) (nodes (grown ss (get_or places a 0) added)) tree g refl refl refl refl free in
      subst (λ (v : List State). Built p l (a + 1) (l + 1) (length v) (nodes v) (set places a j)) (sym e)
      (subst (λ n. Built p l (a + 1) (l + 1) n (nodes (grown ss (get_or places a 0) added)) (set places a j)) (sym (length_grown ss (get_or places a 0) added))
      (subst (λ v. Built p l (a + 1) (l + 1) (length ss + 1) (nodes (grown ss (get_or places a 0) added)) (set places a v)) (sym f) d))

  pub new_uncoded : ss' ≡ grown ss (get_or places a 0) added → Uncoded ss → Uncoded ss'
  new_uncoded e u = subst Uncoded (sym e) (uncoded_grown ss (get_or places a 0) added (t.todo a (omega arith) (omega arith)).in_table refl u)

  pub one_more : ss' ≡ grown ss (get_or places a 0) added → length ss' ≡ length ss + 1
  one_more e = ap length e ∙ length_grown ss (get_or places a 0) added

-- all places are done
pub finish : (p : List ℕ) (l n : ℕ) (N : ℕ → Node) (places : List ℕ) → Tree n N → l < length p → Built p l (length p - l) (l + 1) n N places → Built p (l + 1) 0 (l + 1) n N places
finish p l n N places tr h t = record {
  runs = r;
  short = t.short;
  complete = all;
  done = λ b z. absurd (omega arith);
  todo = λ b z k. t.done b (omega arith);
}
  where
    r : Runs p n N
    r = t.runs

    found : (i x : ℕ) → i < n → (N i).len ≡ l → Childless n N i x → Run (run p (N i) ++ (x ∷ [])) p → ⊥
    found i x k e c u =
        let v = run p (N i) ++ (x ∷ []) in
        let b = length u.before in
        let lr = run_length p (N i).at (N i).len (r.inside i k) in
        let lv : length v ≡ l + 1 = length_push (run p (N i)) x ∙ omega arith in
        let la = length-append u.before (v ++ u.after) in
        let lb = length-append v u.after in
        let lp = ap length u.is in
        let dv : drop b p ≡ v ++ u.after = ap (drop b) (sym u.is) ∙ drop_at u.before (v ++ u.after) b refl in
        let tv : take (l + 1) (drop b p) ≡ v = ap (take (l + 1)) dv ∙ take_at v u.after (l + 1) lv in
        let j = get_or places b 0 in
        let s = t.done b (omega arith) in
        let sl = s.len_is in
        let jz : 0 < j = elim (cases_lt 0 j) [
          | inl y ↦ y
          | inr y ↦
              let d : j ≡ 0 = omega arith in
              let f = ap (λ w. (N w).len) d in
              let g = r.root in
              absurd (omega arith)
        ] in
        let w = same_from_push (run p (N (N j).parent)) (run p (N i)) (N j).sound x (sym (r.made j jz s.in_table) ∙ s.run_is ∙ tv) in
        let pj = tr.parent_in j jz s.in_table in
        let jn = s.in_table in
        let pi : (N j).parent < n = omega arith in
        c j jz s.in_table (r.apart (N j).parent i pi k w.0) w.1

    all : Complete p (l + 1) n N
    all i x k e c = elim (cases_lt (N i).len l) [
      | inl y ↦ t.complete i x k y c
      | inr y ↦ elim (cases_Bool (is_run (run p (N i) ++ (x ∷ [])) p)) [
        | inl z ↦ absurd (found i x k (omega arith) c (is_run_true _ p z))
        | inr z ↦ z
      ]
    ]
