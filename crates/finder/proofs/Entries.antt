-- One kept step number, through a step.
use Rattle.std.proofs.Common.{◌≡◌, ℕ, zero, suc, ◌+◌, ◌-◌, ◌<◌, ◌≤◌, cond, eqb, List, [], ◌∷◌, ◌++◌, length, get_or, drop, replicate, sym, refl, ap, ◌∙◌, subst, inl, inr, arith}
use Rattle.std.proofs.lemmas.List.{length_push, length-drop, drop-append-le, get_or_append_left, drop_all, drop-drop, get_or-drop, get_or-append_right}
use Rattle.std.proofs.lemmas.Bool.{eq-eqb, ne_eqb, cases_lt}
use Rattle.terms.specs.Codes.{times, push}
use Rattle.terms.proofs.Steps.{times_push}

-- the code h stands at the place i of the codes cs, oldest first, and n times among the newer ones
pub record LiftAt (cs : List ℕ) (h n i : ℕ) : Type 0 where
  pub within : i < length cs
  pub here : get_or cs i 0 ≡ h
  pub newer : times h (drop (i + 1) cs) ≡ n

-- what the number e, kept at step n for the occurrence of the code h with j newer ones, says of the newest codes cs
pub record Entry (cs : List ℕ) (n h j e : ℕ) : Type 0 where
  pub past : e ≤ n
  pub here : 0 < e → n < e + length cs → LiftAt cs h j (length cs + e - (n + 1))
  pub gone : (0 < e → e + length cs ≤ n) → times h cs ≤ j

times_drop_one : (h : ℕ) (cs : List ℕ) → times h (drop 1 cs) ≤ times h cs
unfolding times
times_drop_one h [] = omega arith
times_drop_one h (c ∷ cs) = omega arith

module _ (cs : List ℕ) (c : ℕ) (some : 0 < length cs) where
  pub length_pushed : length (push c cs) ≡ length cs
  length_pushed = let a = length_push (drop 1 cs) c in let b = length-drop 1 cs in omega arith

  entry_push : (n h j e : ℕ) → Entry cs n h j e → Entry (push c cs) (n + 1) h (j + cond (eqb h c) 1 0) e
  entry_push n h j e en =
      let l = length_pushed in
      let ld = length-drop 1 cs in
      record {
        past = omega (arith, en.past);
        here = λ a b.
            let old = en.here a (omega arith) in
            let i = length (push c cs) + e - (n + 1 + 1) in
            let p = en.past in
            let at : length cs + e - (n + 1) ≡ i + 1 = omega arith in
            let w = old.within in
            let inside : i < length (drop 1 cs) = omega arith in
            let dr = drop-append-le (i + 1) (drop 1 cs) (c ∷ []) (omega arith) in
            let one : 1 + (i + 1) ≡ i + 1 + 1 = omega arith in
            let dd : drop (i + 1) (drop 1 cs) ≡ drop (i + 1 + 1) cs = drop-drop (i + 1) 1 cs ∙ ap (λ k. drop k cs) one in
            let gd : get_or (drop 1 cs) i 0 ≡ get_or cs (length cs + e - (n + 1)) 0 = get_or-drop 1 cs i 0 ∙ ap (λ k. get_or cs k 0) (omega arith) in
            let tp = times_push h (drop (i + 1 + 1) cs) c in
            let nw : times h (drop (i + 1 + 1) cs) ≡ j = ap (λ k. times h (drop (k + 1) cs)) (sym at) ∙ old.newer in
            record {
              within = omega arith;
              here = get_or_append_left (drop 1 cs) (c ∷ []) 0 i inside ∙ gd ∙ old.here;
              newer = ap (times h) (dr ∙ ap (λ r. r ++ (c ∷ [])) dd) ∙ tp ∙ ap (λ k. k + cond (eqb h c) 1 0) nw;
            };
        gone = λ a.
            let tp = times_push h (drop 1 cs) c in
            let td = times_drop_one h cs in
            let few : times h (drop 1 cs) ≤ j = elim (cases_lt 0 e) [
              | inl k ↦ elim (cases_lt n (e + length cs)) [
                | inl m ↦
                    let old = en.here k m in
                    let b = a k in
                    let at : length cs + e - (n + 1) ≡ 0 = omega arith in
                    let nw : times h (drop (0 + 1) cs) ≡ j = ap (λ k. times h (drop (k + 1) cs)) (sym at) ∙ old.newer in
                    omega arith
                | inr m ↦ let g = en.gone (λ x. m) in omega arith
              ]
              | inr k ↦ let g = en.gone (λ x. absurd (omega arith)) in omega arith
            ] in
            omega arith;
      }

  pub entry_other : (n h j e : ℕ) → (h ≡ c → ⊥) → Entry cs n h j e → Entry (push c cs) (n + 1) h j e
  entry_other n h j e ne en = let k = entry_push n h j e en in subst (λ i. Entry (push c cs) (n + 1) h i e) (ap (λ b. j + cond b 1 0) (ne_eqb h c ne) ∙ omega arith) k

  pub entry_same : (n j e : ℕ) → Entry cs n c j e → Entry (push c cs) (n + 1) c (j + 1) e
  entry_same n j e en = subst (λ b. Entry (push c cs) (n + 1) c (j + cond b 1 0) e) (eq-eqb c c refl) (entry_push n c j e en)

  pub entry_new : (n : ℕ) → Entry (push c cs) (n + 1) c 0 (n + 1)
  entry_new n =
      let l = length_pushed in
      let ld = length-drop 1 cs in
      let i = length (push c cs) + (n + 1) - (n + 1 + 1) in
      record {
        past = omega arith;
        here = λ a b. record {
          within = omega arith;
          here = get_or-append_right (drop 1 cs) (c ∷ []) (length (drop 1 cs)) i 0 refl (omega arith) ∙ ap (λ k. get_or (c ∷ []) k 0) last;
          newer = ap (times c) (drop_all (i + 1) (push c cs) (omega arith)) ∙ none;
        };
        gone = λ a. absurd (omega (arith, a (omega arith)));
      }
    where
      last : length (push c cs) + (n + 1) - (n + 1 + 1) - length (drop 1 cs) ≡ 0
      last = let l = length_pushed in let ld = length-drop 1 cs in omega arith

      none : times c [] ≡ 0
      none = unfold times in refl

times_zeros : (h w : ℕ) → 0 < h → times h (replicate w 0) ≡ 0
unfolding times
times_zeros h zero k = refl
times_zeros h (suc w) k = ap (λ b. cond b 1 0 + times h (replicate w 0)) (ne_eqb h 0 (λ e. absurd (omega arith))) ∙ omega (arith, times_zeros h w k)

pub entry_start : (w h j : ℕ) → 0 < h → Entry (replicate w 0) 0 h j 0
entry_start w h j k = record { past = omega arith; here = λ a. absurd (omega arith); gone = λ a. omega (arith, times_zeros h w k) }
