-- Codes and counts while the figures of a phrase are read from the first to the last.
use Rattle.std.proofs.Common.{◌≡◌, ℕ, zero, suc, ◌+◌, ◌≤◌, Bool, true, false, cond, eqb, ◌⊎◌, List, [], ◌∷◌, ◌++◌, length, get_or, take, drop, sym, refl, ap, ◌∙◌, subst, ap₂, inl, inr, arith}
use Rattle.std.proofs.lemmas.Bool.{cases_lt, cases_Bool, eq-eqb, ne_eqb}
use Rattle.std.proofs.lemmas.List.{length-drop, take_more, drop_more, get_or-drop}
use Rattle.terms.specs.Figures.{figures, count, same, different, without}
use Rattle.terms.specs.Codes.{numbered, code, count_of, count_at}
use Rattle.terms.proofs.Counts.{count_nil, count_cons, count_other, count_append, same_eq, same_sym, different_once}
use Rattle.terms.proofs.Coded.{code_none, code_found}
use Rattle.terms.proofs.Runs.{figures_drop, figures_more, length_figures}
use Rattle.terms.proofs.Numbering.{different_new, different_old, code_keeps}

pub figure_at : (q : ℕ) (p : List ℕ) (a : ℕ) → 1 ≤ q → a + q ≤ length p → take (a + 1) (figures q p) ≡ take a (figures q p) ++ (take q (drop a p) ∷ [])
figure_at q p a h k =
    let lf = length_figures q p h in
    let d = drop_more p a 0 (omega arith) in
    let ld = length-drop a p in
    let ll = ap length d in
    let f : figures q (drop a p) ≡ take q (drop a p) ∷ figures q (drop (a + 1) p) =
    subst (λ v. figures q v ≡ take q v ∷ figures q (drop (a + 1) p)) (sym d) (figures_more q (get_or p a 0) (drop (a + 1) p) (omega arith)) in
    let g = get_or-drop a (figures q p) 0 [] in
    let e : a + 0 ≡ a = omega arith in
    let x : get_or (figures q p) a [] ≡ take q (drop a p) =
    ap (λ n. get_or (figures q p) n []) (sym e) ∙ sym g ∙ ap (λ v. get_or v 0 []) (sym (figures_drop q p a h) ∙ f) in
    take_more (figures q p) a [] (omega arith) ∙ ap (λ v. take a (figures q p) ++ (v ∷ [])) x

pub code_old : (ps : List (List ℕ)) (f v : List ℕ) → 1 ≤ count f ps → code (ps ++ (f ∷ [])) v ≡ code ps v
unfolding code
code_old ps f v h = ap (numbered 1 v) (different_old f ps h)

same_not : (v f : List ℕ) → (v ≡ f → ⊥) → same v f ≡ false
same_not v f h = elim (cases_Bool (same v f)) [ inl e ↦ absurd (h (same_eq v f e)) | inr e ↦ e ]

pub code_other : (ps : List (List ℕ)) (f v : List ℕ) → (v ≡ f → ⊥) → code (ps ++ (f ∷ [])) v ≡ code ps v
code_other ps f v h = elim (cases_lt 0 (count v ps)) [
  | inl k ↦ code_keeps ps f v k
  | inr k ↦
      let a = count_append v ps (f ∷ []) in
      let b = count_other v f [] (same_not v f h) in
      let c = count_nil v in
      code_none (ps ++ (f ∷ [])) v (omega arith) ∙ sym (code_none ps v (omega arith))
]

pub unseen : (ps : List (List ℕ)) (f : List ℕ) → code ps f ≡ 0 → count f ps ≡ 0
unseen ps f e = elim (cases_lt 0 (count f ps)) [ inl k ↦ let a = code_found ps f k in absurd (omega arith) | inr k ↦ omega arith ]

pub seen : (ps : List (List ℕ)) (f : List ℕ) → (code ps f ≡ 0 → ⊥) → 1 ≤ count f ps
seen ps f e = elim (cases_lt 0 (count f ps)) [ inl k ↦ k | inr k ↦ absurd (e (code_none ps f (omega arith))) ]

-- a code is not above the number of figures
numbered_small : (k : ℕ) (v : List ℕ) (fs : List (List ℕ)) → numbered (suc k) v fs ≤ k + length fs
unfolding numbered
numbered_small k v [] = omega arith
numbered_small k v (f ∷ fs) = go (same v f) (numbered_small (suc k) v fs)
  where
    go : (b : Bool) → numbered (suc (suc k)) v fs ≤ suc k + length fs → cond b (suc k) (numbered (suc (suc k)) v fs) ≤ k + suc (length fs)
    go true h = omega arith
    go false h = omega arith

without_small : (v : List ℕ) (fs : List (List ℕ)) → length (without v fs) ≤ length fs
unfolding without
without_small v [] = omega arith
without_small v (f ∷ fs) = go (same v f) (without_small v fs)
  where
    go : (b : Bool) → length (without v fs) ≤ length fs → length (cond b (without v fs) (f ∷ without v fs)) ≤ suc (length fs)
    go true h = omega arith
    go false h = omega arith

pub different_small : (fs : List (List ℕ)) → length (different fs) ≤ length fs
unfolding different
different_small [] = omega arith
different_small (f ∷ fs) = let a = different_small fs in let b = without_small f (different fs) in omega arith

pub code_small : (ps : List (List ℕ)) (v : List ℕ) → code ps v ≤ length ps
unfolding code
code_small ps v = let a = numbered_small 0 v (different ps) in let b = different_small ps in omega arith

count_small : (v : List ℕ) (fs : List (List ℕ)) → count v fs ≤ length fs
count_small v [] = let a = count_nil v in omega arith
count_small v (f ∷ fs) = go (same v f) (count_cons v f fs) (count_small v fs)
  where
    go : (b : Bool) → count v (f ∷ fs) ≡ cond b 1 0 + count v fs → count v fs ≤ length fs → count v (f ∷ fs) ≤ suc (length fs)
    go true e h = omega arith
    go false e h = omega arith

count_at_small : (k : ℕ) (ps fs : List (List ℕ)) → count_at k ps fs ≤ length ps
unfolding count_at
count_at_small k ps [] = omega arith
count_at_small zero ps (f ∷ fs) = count_small f ps
count_at_small (suc k) ps (f ∷ fs) = count_at_small k ps fs

pub count_of_small : (ps : List (List ℕ)) (h : ℕ) → count_of ps h ≤ length ps
unfolding count_of
count_of_small ps zero = omega arith
count_of_small ps (suc k) = count_at_small k ps (different ps)

-- whether f stands at the place k
hit : ℕ → List ℕ → List (List ℕ) → ℕ
hit k f [] = 0
hit zero f (g ∷ gs) = cond (same g f) 1 0
hit (suc k) f (g ∷ gs) = hit k f gs

count_at_push : (k : ℕ) (ps : List (List ℕ)) (f : List ℕ) (fs : List (List ℕ)) → count_at k (ps ++ (f ∷ [])) fs ≡ count_at k ps fs + hit k f fs
unfolding count_at hit
count_at_push k ps f [] = refl
count_at_push zero ps f (g ∷ gs) =
    let a = count_append g ps (f ∷ []) in
    let b = count_cons g f [] in
    let c = count_nil g in
    omega arith
count_at_push (suc k) ps f (g ∷ gs) = count_at_push k ps f gs

hit_none : (k : ℕ) (f : List ℕ) (fs : List (List ℕ)) → count f fs ≡ 0 → hit k f fs ≡ 0
unfolding hit
hit_none k f [] h = refl
hit_none zero f (g ∷ gs) h = go (same f g) refl
  where
    go : (b : Bool) → same f g ≡ b → ◌≡◌ {A = ℕ} (cond (same g f) 1 0) 0
    go true e = let c = count_cons f g gs in let d = rw e at c in absurd (omega arith)
    go false e = rw (same_sym g f, e)
hit_none (suc k) f (g ∷ gs) h = hit_none k f gs (let c = count_cons f g gs in omega arith)

numbered_large : (k : ℕ) (v : List ℕ) (fs : List (List ℕ)) → (numbered k v fs ≡ 0) ⊎ (k ≤ numbered k v fs)
unfolding numbered
numbered_large k v [] = inl refl
numbered_large k v (f ∷ fs) = go (same v f) (numbered_large (suc k) v fs)
  where
    go : (b : Bool) → (numbered (suc k) v fs ≡ 0) ⊎ (suc k ≤ numbered (suc k) v fs) → (cond b k (numbered (suc k) v fs) ≡ 0) ⊎ (k ≤ cond b k (numbered (suc k) v fs))
    go true h = inr (omega arith)
    go false (inl h) = inl h
    go false (inr h) = inr (omega arith)

hit_numbered : (b k : ℕ) (f : List ℕ) (fs : List (List ℕ)) → 1 ≤ b → count f fs ≤ 1 → hit k f fs ≡ cond (eqb (b + k) (numbered b f fs)) 1 0
unfolding hit numbered
hit_numbered b k f [] h o = rw (ne_eqb (b + k) 0 (λ e. omega arith))
hit_numbered b zero f (g ∷ gs) h o = go (same f g) refl (numbered_large (suc b) f gs)
  where
    go : (c : Bool) → same f g ≡ c → (numbered (suc b) f gs ≡ 0) ⊎ (suc b ≤ numbered (suc b) f gs) → ◌≡◌ {A = ℕ} (cond (same g f) 1 0) (cond (eqb (b + 0) (cond (same f g) b (numbered (suc b) f gs))) 1 0)
    go true e n = rw (same_sym g f, e, eq-eqb (b + 0) b (omega arith))
    go false e (inl n) = rw (same_sym g f, e, ne_eqb (b + 0) (numbered (suc b) f gs) (λ d. omega arith))
    go false e (inr n) = rw (same_sym g f, e, ne_eqb (b + 0) (numbered (suc b) f gs) (λ d. omega arith))
hit_numbered b (suc k) f (g ∷ gs) h o = go (same f g) refl (hit_numbered (suc b) k f gs)
  where
    cc' : count f (g ∷ gs) ≡ cond (same f g) 1 0 + count f gs
    cc' = count_cons f g gs

    go : (c : Bool) → same f g ≡ c → (1 ≤ suc b → count f gs ≤ 1 → hit k f gs ≡ cond (eqb (suc b + k) (numbered (suc b) f gs)) 1 0)
        → hit k f gs ≡ cond (eqb (b + suc k) (cond (same f g) b (numbered (suc b) f gs))) 1 0
    go true e ih = let d = rw e at cc' in rw (e, ne_eqb (b + suc k) b (λ x. omega arith)) (hit_none k f gs (omega arith))
    go false e ih =
        let d = rw e at cc' in
        let s : b + suc k ≡ suc b + k = omega arith in
        rw (e, s) (ih (omega arith) (omega arith))

count_at_new : (k : ℕ) (ps fs : List (List ℕ)) (f : List ℕ) → count f ps ≡ 0 → count_at k ps (fs ++ (f ∷ [])) ≡ count_at k ps fs
unfolding count_at
count_at_new zero ps [] f h = h
count_at_new (suc k) ps [] f h = refl
count_at_new zero ps (g ∷ gs) f h = refl
count_at_new (suc k) ps (g ∷ gs) f h = count_at_new k ps gs f h

pub count_of_push : (ps : List (List ℕ)) (f : List ℕ) (h : ℕ) → 1 ≤ h → count_of (ps ++ (f ∷ [])) h ≡ count_of ps h + cond (eqb h (code (ps ++ (f ∷ [])) f)) 1 0
unfolding count_of code
count_of_push ps f zero z = absurd (omega arith)
count_of_push ps f (suc k) z =
    let ds = different (ps ++ (f ∷ [])) in
    let a = count_at_push k ps f ds in
    let b = hit_numbered 1 k f ds (omega arith) (different_once f (ps ++ (f ∷ []))) in
    let s : 1 + k ≡ suc k = omega arith in
    a ∙ ap₂ (λ u v. u + v) old (b ∙ ap (λ v. cond (eqb v (numbered 1 f ds)) 1 0) s)
  where
    old : count_at k ps (different (ps ++ (f ∷ []))) ≡ count_at k ps (different ps)
    old = elim (cases_lt 0 (count f ps)) [
      | inl c ↦ ap (count_at k ps) (different_old f ps c)
      | inr c ↦ ap (count_at k ps) (different_new f ps (omega arith)) ∙ count_at_new k ps (different ps) f (omega arith)
    ]
