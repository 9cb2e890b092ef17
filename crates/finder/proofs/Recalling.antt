-- The rings after a take say which codes of the row are the oldest.
use Rattle.std.proofs.Common.{◌≡◌, ℕ, zero, suc, ◌+◌, ◌-◌, ◌<◌, ◌≤◌, List, [], ◌∷◌, ◌++◌, map, length, get_or, set, take, replicate, sym, refl, ap, ◌∙◌, subst, inl, inr, append_assoc, append-nil, add-zero, arith}
use Rattle.std.proofs.lemmas.List.{length_push, map_push, take_more_set, length-drop, length-append, length-replicate}
use Rattle.std.proofs.lemmas.Bool.{cases_eq, eq-eqb, ne_eqb}
use Rattle.terms.specs.Limits.{longest_phrase}
use Rattle.terms.specs.Figures.{figures}
use Rattle.terms.specs.Codes.{push, heard, count_of, codes_at, code}
use Rattle.terms.proofs.Coded.{window_step, every_step}
use Rattle.finder.specs.Recent.{before, no_ring, rings_to, laid, rewound, emptied, ring_of, wrap, recalled, rings_on, codes_on, rings_at}
use Rattle.finder.specs.declared.recent.Recent.{Recent}
use Rattle.finder.specs.declared.recent.Ring.{Ring}
use Rattle.finder.proofs.Rings.{Recalls, fresh, passed, recalls}
use Rattle.finder.proofs.Counted.{counts_of, before_few}

codes_length : (q : ℕ) (p t xs : List ℕ) → length (codes_on q p t xs) ≡ length xs
unfolding codes_on
codes_length q p t [] = refl
codes_length q p t (x ∷ xs) = ap suc (codes_length q p (t ++ (x ∷ [])) xs)

codes_push : (q : ℕ) (p t xs : List ℕ) (x : ℕ) → codes_on q p t (xs ++ (x ∷ [])) ≡ codes_on q p t xs ++ (heard q p ((t ++ xs) ++ (x ∷ [])) ∷ [])
unfolding codes_on
codes_push q p t [] x = ap (λ s. heard q p (s ++ (x ∷ [])) ∷ []) (sym (append-nil t))
codes_push q p t (y ∷ ys) x =
    ap (λ cs. heard q p (t ++ (y ∷ [])) ∷ cs)
    (codes_push q p (t ++ (y ∷ [])) ys x
    ∙ ap (λ s. codes_on q p (t ++ (y ∷ [])) ys ++ (heard q p (s ++ (x ∷ [])) ∷ [])) (append_assoc t (y ∷ []) ys))

rings_push : (f : ℕ → ℕ) (n : ℕ) (r : Recent) (cs : List ℕ) (c : ℕ) → rings_on f n r (cs ++ (c ∷ [])) ≡ recalled f (rings_on f n r cs) (n + length cs + 1) c
unfolding rings_on
rings_push f n r [] c = ap (λ i. recalled f r (i + 1) c) (sym (add-zero n))
rings_push f n r (d ∷ ds) c =
    let e : n + 1 + length ds + 1 ≡ n + length (d ∷ ds) + 1 = omega arith in
    rings_push f (n + 1) (recalled f r (n + 1) d) ds c ∙ ap (λ i. recalled f (rings_on f (n + 1) (recalled f r (n + 1) d) ds) i c) e

pub rings_step : (q : ℕ) (p t : List ℕ) (x : ℕ) → rings_at q p (t ++ (x ∷ [])) ≡ recalled (count_of (figures q p)) (rings_at q p t) (length t + 1) (heard q p (t ++ (x ∷ [])))
rings_step q p t x =
    let f = count_of (figures q p) in
    let e : 0 + length (codes_on q p [] t) + 1 ≡ length t + 1 = omega (arith, codes_length q p [] t) in
    ap (rings_on f 0 (laid f)) (codes_push q p [] t x)
    ∙ rings_push f 0 (laid f) (codes_on q p [] t) (heard q p (t ++ (x ∷ [])))
    ∙ ap (λ i. recalled f (rings_at q p t) i (heard q p (t ++ (x ∷ [])))) e

pub rings_start : (q : ℕ) (p : List ℕ) → rings_at q p [] ≡ laid (count_of (figures q p))
unfolding rings_on codes_on
rings_start q p = refl

-- where the rings lie does not change
abbrev with_rings : List Ring → Recent
with_rings rs = record { steps = replicate longest_phrase 0; rings = rs }

pub rewound_set : (rs : List Ring) (i n : ℕ) → map rewound (set rs i (record { first = (get_or rs i no_ring).first; next = n })) ≡ map rewound rs
rewound_set [] i n = refl
rewound_set (r ∷ rs) zero n = refl
rewound_set (r ∷ rs) (suc i) n = ap (λ zs. rewound r ∷ zs) (rewound_set rs i n)

pub rewound_next : (rs : List Ring) (i a : ℕ) → i < length rs → take i rs ≡ map rewound (take i rs)
    → take (i + 1) (set rs i (record { first = a; next = 0 })) ≡ map rewound (take (i + 1) (set rs i (record { first = a; next = 0 })))
rewound_next rs i a lt k =
    let g : Ring = record { first = a; next = 0 } in
    let more = take_more_set rs i g lt in
    more ∙ ap (λ zs. zs ++ (g ∷ [])) k ∙ sym (map_push rewound (take i rs) g) ∙ sym (ap (map rewound) more)

recalled_emptied : (f : ℕ → ℕ) (r : Recent) (n c : ℕ) → emptied (recalled f r n c) ≡ emptied r
recalled_emptied f r n c = elim (cases_eq (f c) 0) [
  | inl e ↦ rw (eq-eqb (f c) 0 e)
  | inr e ↦ rw (ne_eqb (f c) 0 e) (ap with_rings (rewound_set r.rings (c - 1) (wrap (ring_of r.rings c).next (f c) + 1)))
]

on_emptied : (f : ℕ → ℕ) (n : ℕ) (r : Recent) (cs : List ℕ) → emptied (rings_on f n r cs) ≡ emptied r
unfolding rings_on
on_emptied f n r [] = refl
on_emptied f n r (c ∷ cs) = on_emptied f (n + 1) (recalled f r (n + 1) c) cs ∙ recalled_emptied f r (n + 1) c

rewound_laid : (f : ℕ → ℕ) (n : ℕ) → map rewound (rings_to f n) ≡ rings_to f n
unfolding rings_to
rewound_laid f zero = refl
rewound_laid f (suc n) =
    let g : Ring = record { first = before f n; next = 0 } in
    map_push rewound (rings_to f n) g ∙ ap (λ zs. zs ++ (g ∷ [])) (rewound_laid f n)

pub rings_emptied : (q : ℕ) (p t : List ℕ) → emptied (rings_at q p t) ≡ laid (count_of (figures q p))
rings_emptied q p t =
    let f = count_of (figures q p) in
    on_emptied f 0 (laid f) (codes_on q p [] t) ∙ ap with_rings (rewound_laid f longest_phrase)

recall_step : (r : Recent) (n : ℕ) (f : ℕ → ℕ) (cs : List ℕ) (c : ℕ) → 0 < length cs → Recalls r n f cs → Recalls (recalled f r (n + 1) c) (n + 1) f (push c cs)
recall_step r n f cs c some k = elim (cases_eq (f c) 0) [
  | inl e ↦ rw (eq-eqb (f c) 0 e) (passed r n f cs c some k e)
  | inr e ↦
      let want : 0 < f c = omega (arith, above (f c) e) in
      let i = k.laid.counts.coded c want in
      rw (ne_eqb (f c) 0 e) (recalls r n f cs c _ some k i.0 i.1 want refl)
]
  where
    above : (i : ℕ) → (i ≡ 0 → ⊥) → 0 < i
    above zero h = absurd (h refl)
    above (suc i) h = omega arith

pub length_codes : (q w : ℕ) (p t : List ℕ) → length (codes_at q w p t) ≡ w
length_codes q w p t =
    let r : List ℕ = replicate w 0 ++ map (code (figures q p)) (figures q t) in
    let e = length-drop (length r - w) r in
    let k = length-append (replicate {A = ℕ} w 0) (map (code (figures q p)) (figures q t)) in
    let j = length-replicate {A = ℕ} w 0 in
    omega arith

module _ (q w : ℕ) (p : List ℕ) (from : 1 ≤ q) (short : length p ≤ longest_phrase) (wide : 1 ≤ w) where
  abbrev RecallsAt : List ℕ → Type 0
  RecallsAt t = Recalls (rings_at q p t) (length t) (count_of (figures q p)) (codes_at q w p t)

  begun : RecallsAt []
  begun =
      let f = count_of (figures q p) in
      let c = counts_of q p from short in
      let k = fresh w f c (before_few q p longest_phrase from short) in
      subst (λ r. Recalls r 0 f (codes_at q w p [])) (sym (rings_start q p)) (subst (Recalls (laid f) 0 f) (sym (every_step q w p from wide).codes_start) k)

  one_more : (t : List ℕ) (x : ℕ) → RecallsAt t → RecallsAt (t ++ (x ∷ []))
  one_more t x k =
      let f = count_of (figures q p) in
      let l = length_codes q w p t in
      let d = recall_step (rings_at q p t) (length t) f (codes_at q w p t) (heard q p (t ++ (x ∷ []))) (omega arith) k in
      subst (λ n. Recalls (rings_at q p (t ++ (x ∷ []))) n f (codes_at q w p (t ++ (x ∷ [])))) (sym (length_push t x))
      (subst (λ r. Recalls r (length t + 1) f (codes_at q w p (t ++ (x ∷ [])))) (sym (rings_step q p t x))
      (subst (Recalls (recalled f (rings_at q p t) (length t + 1) (heard q p (t ++ (x ∷ [])))) (length t + 1) f) (sym (window_step q w p t x from wide)) d))

  grown : (t xs : List ℕ) → RecallsAt t → RecallsAt (t ++ xs)
  grown t [] k = subst RecallsAt (sym (append-nil t)) k
  grown t (x ∷ xs) k = subst RecallsAt (append_assoc t (x ∷ []) xs) (grown (t ++ (x ∷ [])) xs (one_more t x k))

  pub recall_at : (t : List ℕ) → RecallsAt t
  recall_at t = grown [] t begun
