-- The marks of the newest codes, one code on.
use Rattle.std.proofs.Common.{◌≡◌, ℕ, suc, ◌+◌, ◌<◌, ◌≤◌, List, [], ◌∷◌, ◌++◌, length, drop, set, ℤ, pos, negsuc, sym, refl, ap, ◌∙◌, inl, inr, add-one, arith}
use Rattle.std.proofs.lemmas.List.{length_push, drop-append-le, get_or_append_left, drop_all}
use Rattle.std.proofs.lemmas.Bool.{eq-eqb, lt-ltb, le-ltb, cases_lt}
use Rattle.terms.specs.Codes.{times, push, marks_for}
use Rattle.terms.proofs.Steps.{unchanged, lifted_at, marks_of_drop, times_push}
use Rattle.finder.proofs.Entries.{LiftAt}

times_new : (h : ℕ) (ds : List ℕ) → times h (ds ++ (h ∷ [])) ≡ times h ds + 1
times_new h ds = let e = times_push h ds h in rw (eq-eqb h h refl) at e

module _ (f : ℕ → ℕ) (cs : List ℕ) (h n : ℕ) (e : f h ≡ n) where
  marks_rest : (z : ℤ) → marks_for f (drop 1 cs) ++ (z ∷ []) ≡ push z (marks_for f cs)
  marks_rest z = ap (λ r. r ++ (z ∷ [])) (marks_of_drop f h cs 1)

  pub turn_never : n ≡ 0 → marks_for f (push h cs) ≡ push (pos 1) (marks_for f cs)
  turn_never k = let u = unchanged f h (drop 1 cs) (inr (e ∙ k)) in (rw (le-ltb 0 (f h) (omega arith)) at u) ∙ marks_rest (pos 1)

  pub turn_none : (n ≡ 0 → ⊥) → times h (push h cs) ≤ n → marks_for f (push h cs) ≡ push (negsuc 0) (marks_for f cs)
  turn_none k t =
      let v = times_new h (drop 1 cs) in
      let u = unchanged f h (drop 1 cs) (inl (omega arith)) in
      (rw (lt-ltb 0 (f h) (omega arith)) at u) ∙ marks_rest (negsuc 0)

  pub turn_some : (n ≡ 0 → ⊥) → (i : ℕ) → LiftAt (push h cs) h n i → marks_for f (push h cs) ≡ set (push (negsuc 0) (marks_for f cs)) i (pos 1)
  turn_some k i p =
      let ds = drop 1 cs in
      let lp = length_push ds h in
      let inside : i < length ds = elim (cases_lt i (length ds)) [ inl a ↦ a | inr a ↦ absurd (past a) ] in
      let at = sym (get_or_append_left ds (h ∷ []) 0 i inside) ∙ p.here in
      let dr = drop-append-le (suc i) ds (h ∷ []) inside in
      let tn = times_new h (drop (suc i) ds) in
      let nw = p.newer in
      let nn : times h (drop (suc i) (ds ++ (h ∷ []))) ≡ n = rw add-one at nw in
      let tt' : times h (drop (suc i) ds) + 1 ≡ n = sym tn ∙ ap (times h) (sym dr) ∙ nn in
      lifted_at f h ds i inside at (omega arith) ∙ ap (λ r. set r i (pos 1)) (marks_rest (negsuc 0))
    where
      past : length (drop 1 cs) ≤ i → ⊥
      past a =
          let d = drop_all (i + 1) (push h cs) (omega (arith, length_push (drop 1 cs) h)) in
          let z = p.newer in
          let y : times h [] ≡ n = rw d at z in
          k (sym y ∙ none)
        where
          none : times h [] ≡ 0
          none = unfold times in refl
