-- How the table grows by one length of runs.
use Rattle.std.specs.Prelude.{◌≡◌, ℕ, ◌+◌, ◌<◌, ◌≤◌, false, ◌⊎◌, List, [], ◌∷◌, ◌++◌, length, take, drop, ◌≢◌, slice_index}
use Rattle.std.proofs.Common.{sym, ap, ap₂, subst, ◌∙◌, inl, inr, arith, add-one}
use Rattle.std.proofs.lemmas.Bool.{cases_lt}
use Rattle.std.proofs.lemmas.List.{take_more, drop_more, get_or-drop, length-drop, length-take, same_from_push}
use Rattle.terms.specs.Reading.{is_run}
use Rattle.readers.specs.Table.{Node, Tree, Childless, run, Runs, Complete, Stands}
use Rattle.readers.specs.Grows.{Grown, up}

pub run_more : (p : List ℕ) (b l : ℕ) → b + l < length p → take (l + 1) (drop b p) ≡ take l (drop b p) ++ (slice_index p (b + l) ∷ [])
run_more p b l h =
    let k = length-drop b p in
    take_more (drop b p) l 0 (omega arith) ∙ ap (λ v. take l (drop b p) ++ (v ∷ [])) (get_or-drop b p l 0)

pub run_tail : (p : List ℕ) (b l : ℕ) → b < length p → drop 1 (take (l + 1) (drop b p)) ≡ take l (drop (b + 1) p)
run_tail p b l h = rw (drop_more p b 0 h, add-one l)

pub run_length : (p : List ℕ) (b l : ℕ) → b + l ≤ length p → length (take l (drop b p)) ≡ l
run_length p b l h = let k = length-drop b p in length-take l (drop b p) ∙ omega arith

module _ (p : List ℕ) (n i : ℕ) (s : Node) (N N' : ℕ → Node) (g : Grown n i s N N') where
  same_run : (k : ℕ) → k < n → run p (N' k) ≡ run p (N k)
  same_run k h = ap₂ (λ u v. take u (drop v p)) (g.alike k h).len (g.alike k h).at

  new_run : run p (N' n) ≡ run p s
  new_run = ap (run p) g.new

  pub childless_back : (j x : ℕ) → Childless (n + 1) N' j x → Childless n N j x
  childless_back j x c k z h e f = c k z (omega arith) ((g.alike k h).parent ∙ e) ((g.alike k h).sound ∙ f)

  pub stands_grown : (l b j : ℕ) → Stands p n N l b j → Stands p (n + 1) N' l b j
  stands_grown l b j t = record {
    in_table = let k = t.in_table in omega arith;
    len_is = (g.alike j t.in_table).len ∙ t.len_is;
    run_is = same_run j t.in_table ∙ t.run_is;
  }

  pub stands_new : (l b : ℕ) → s.len ≡ l → s.at ≡ b → Stands p (n + 1) N' l b n
  stands_new l b e f = record {
    in_table = omega arith;
    len_is = ap (λ (v : Node). v.len) g.new ∙ e;
    run_is = new_run ∙ ap₂ (λ u v. take u (drop v p)) e f;
  }

  pub complete_grown : (l : ℕ) → l ≤ s.len → Complete p l n N → Complete p l (n + 1) N'
  complete_grown l e c j x h k d = elim (up n j h) [
    | inl a ↦
        let q = (g.alike j a).len in
        subst (λ v. is_run (v ++ (x ∷ [])) p ≡ false) (sym (same_run j a)) (c j x a (omega arith) (childless_back j x d))
    | inr a ↦ let q = ap (λ v. (N' v).len) a in let r = ap (λ (v : Node). v.len) g.new in absurd (omega arith)
  ]

  module _ (r : Runs p n N) (t : Tree n N) (fits : s.at + s.len ≤ length p)
      (made_s : run p s ≡ run p (N i) ++ (s.sound ∷ [])) (grows_s : s.len ≡ (N i).len + 1)
      (shorter_in_s : s.shorter < n) (shorter_is_s : run p (N s.shorter) ≡ drop 1 (run p s)) (shrinks_s : (N s.shorter).len + 1 ≡ s.len)
      (free : Childless n N i s.sound) where
    inside : (j : ℕ) → (j < n) ⊎ (j ≡ n) → (N' j).at + (N' j).len ≤ length p
    inside j (inl h) = let a = (g.alike j h).at in let b = (g.alike j h).len in let c = r.inside j h in omega arith
    inside j (inr h) = subst (λ v. (N' v).at + (N' v).len ≤ length p) (sym h) (subst (λ (v : Node). v.at + v.len ≤ length p) (sym g.new) fits)

    made : (j : ℕ) → 0 < j → (j < n) ⊎ (j ≡ n) → run p (N' j) ≡ run p (N' (N' j).parent) ++ ((N' j).sound ∷ [])
    made j z (inl h) =
        let u = t.parent_in j z h in
        same_run j h ∙ r.made j z h ∙ ap₂ (λ a b. a ++ (b ∷ []))
        (sym (same_run (N j).parent (omega arith)) ∙ ap (λ v. run p (N' v)) (sym (g.alike j h).parent))
        (sym (g.alike j h).sound)
    made j z (inr h) = subst (λ v. run p (N' v) ≡ run p (N' (N' v).parent) ++ ((N' v).sound ∷ [])) (sym h)
        (subst (λ (v : Node). run p v ≡ run p (N' v.parent) ++ (v.sound ∷ [])) (sym g.new)
        (made_s ∙ ap (λ v. v ++ (s.sound ∷ [])) (sym (same_run i g.under) ∙ ap (λ v. run p (N' v)) (sym g.parent_is))))

    grows : (j : ℕ) → 0 < j → (j < n) ⊎ (j ≡ n) → (N' j).len ≡ (N' (N' j).parent).len + 1
    grows j z (inl h) =
        let u = t.parent_in j z h in
        (g.alike j h).len ∙ r.grows j z h ∙ ap (λ v. v + 1) (sym (g.alike (N j).parent (omega arith)).len ∙ ap (λ v. (N' v).len) (sym (g.alike j h).parent))
    grows j z (inr h) = subst (λ v. (N' v).len ≡ (N' (N' v).parent).len + 1) (sym h)
        (subst (λ (v : Node). v.len ≡ (N' v.parent).len + 1) (sym g.new)
        (grows_s ∙ ap (λ v. v + 1) (sym (g.alike i g.under).len ∙ ap (λ v. (N' v).len) (sym g.parent_is))))

    shorter_in : (j : ℕ) → 0 < j → (j < n) ⊎ (j ≡ n) → (N' j).shorter < n + 1
    shorter_in j z (inl h) = let a = (g.alike j h).shorter in let b = r.shorter_in j z h in omega arith
    shorter_in j z (inr h) = subst (λ v. (N' v).shorter < n + 1) (sym h) (subst (λ (v : Node). v.shorter < n + 1) (sym g.new) (omega arith))

    shorter_is : (j : ℕ) → 0 < j → (j < n) ⊎ (j ≡ n) → run p (N' (N' j).shorter) ≡ drop 1 (run p (N' j))
    shorter_is j z (inl h) =
        ap (λ v. run p (N' v)) (g.alike j h).shorter ∙ same_run (N j).shorter (r.shorter_in j z h) ∙ r.shorter_is j z h ∙ ap (drop 1) (sym (same_run j h))
    shorter_is j z (inr h) = subst (λ v. run p (N' (N' v).shorter) ≡ drop 1 (run p (N' v))) (sym h)
        (subst (λ (v : Node). run p (N' v.shorter) ≡ drop 1 (run p v)) (sym g.new) (same_run s.shorter shorter_in_s ∙ shorter_is_s))

    shrinks : (j : ℕ) → 0 < j → (j < n) ⊎ (j ≡ n) → (N' (N' j).shorter).len + 1 ≡ (N' j).len
    shrinks j z (inl h) =
        ap (λ v. v + 1) (ap (λ v. (N' v).len) (g.alike j h).shorter ∙ (g.alike (N j).shorter (r.shorter_in j z h)).len) ∙ r.shrinks j z h ∙ sym (g.alike j h).len
    shrinks j z (inr h) = subst (λ v. (N' (N' v).shorter).len + 1 ≡ (N' v).len) (sym h)
        (subst (λ (v : Node). (N' v.shorter).len + 1 ≡ v.len) (sym g.new) (ap (λ v. v + 1) (g.alike s.shorter shorter_in_s).len ∙ shrinks_s))

    -- no state was this run before
    unseen : (j : ℕ) → j < n → run p (N j) ≢ run p s
    unseen j h e = elim (cases_lt 0 j) [
      | inl z ↦
          let u = t.parent_in j z h in
          let k = same_from_push (run p (N (N j).parent)) (run p (N i)) (N j).sound s.sound (sym (r.made j z h) ∙ e ∙ made_s) in
          free j z h (r.apart (N j).parent i (omega arith) g.under k.0) k.1
      | inr z ↦
          let a = ap length e in
          let b = run_length p (N j).at (N j).len (r.inside j h) in
          let c = run_length p s.at s.len fits in
          let d : j ≡ 0 = omega arith in
          let f = ap (λ v. (N v).len) d in
          let k = r.root in
          omega arith
    ]

    apart : (j k : ℕ) → (j < n) ⊎ (j ≡ n) → (k < n) ⊎ (k ≡ n) → run p (N' j) ≡ run p (N' k) → j ≡ k
    apart j k (inl a) (inl b) e = r.apart j k a b (sym (same_run j a) ∙ e ∙ same_run k b)
    apart j k (inl a) (inr b) e = absurd (unseen j a (sym (same_run j a) ∙ e ∙ ap (λ v. run p (N' v)) b ∙ new_run))
    apart j k (inr a) (inl b) e = absurd (unseen k b (sym (same_run k b) ∙ sym e ∙ ap (λ v. run p (N' v)) a ∙ new_run))
    apart j k (inr a) (inr b) e = a ∙ sym b

    pub runs_grown : Runs p (n + 1) N'
    runs_grown = record {
      some = omega arith;
      root = (g.alike 0 r.some).len ∙ r.root;
      inside = λ j h. inside j (up n j h);
      made = λ j z h. made j z (up n j h);
      grows = λ j z h. grows j z (up n j h);
      shorter_in = λ j z h. shorter_in j z (up n j h);
      shorter_is = λ j z h. shorter_is j z (up n j h);
      shrinks = λ j z h. shrinks j z (up n j h);
      apart = λ j k a b. apart j k (up n j a) (up n k b);
    }
