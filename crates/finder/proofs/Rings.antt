-- The rings through a step.
use Rattle.std.proofs.Common.{◌≡◌, ℕ, zero, suc, ◌+◌, ◌-◌, ◌<◌, ◌≤◌, cond, ltb, ◌≢◌, List, [], ◌∷◌, ◌++◌, length, get_or, set, replicate, take, sym, refl, ap, ◌∙◌, subst, inl, inr, add-zero, add-suc, arith, length-set}
use Rattle.std.proofs.lemmas.List.{take_more_set, get_or-set_same, get_or-set_other, get_or-replicate, get_or_append_left, get_or_push, length_push, length-replicate}
use Rattle.std.proofs.lemmas.Bool.{cases_lt, cases_eq, lt-ltb, le-ltb}
use Rattle.std.proofs.lemmas.Bool.Decides.{nat_tests}
use Rattle.terms.specs.Codes.{times, push}
use Rattle.terms.specs.Limits.{longest_phrase}
use Rattle.finder.specs.Recent.{wrap, before, no_ring, rings_to, laid, ring_of}
use Rattle.finder.specs.declared.recent.Ring.{Ring}
use Rattle.finder.specs.declared.recent.Recent.{Recent}
use Rattle.finder.proofs.Entries.{LiftAt, Entry, length_pushed, entry_other, entry_same, entry_new, entry_start}

-- f says how often the figure of each code is wanted; codes go from 1 to the longest phrase's length
pub record Counts (f : ℕ → ℕ) : Type 0 where
  pub coded : (h : ℕ) → 0 < f h → (0 < h) × (h ≤ longest_phrase)
  pub few : (h : ℕ) → f h ≤ longest_phrase

-- how many newer occurrences the place k of a ring of n places has, whose oldest stands at p
abbrev pub order : ℕ → ℕ → ℕ → ℕ
order p n k = cond (ltb k p) (p - 1 - k) (n + p - 1 - k)

-- the rings of all codes lie one after another
pub record Laid (rs : List Ring) (f : ℕ → ℕ) : Type 0 where
  pub counts : Counts f
  pub all : before f longest_phrase ≤ longest_phrase
  pub at : (n : ℕ) → n < longest_phrase → (get_or rs n no_ring).first ≡ before f n

-- r keeps the last occurrences at step n among the newest codes cs
pub record Recalls (r : Recent) (n : ℕ) (f : ℕ → ℕ) (cs : List ℕ) : Type 0 where
  pub laid : Laid r.rings f
  long_steps : length r.steps ≡ longest_phrase
  long_rings : length r.rings ≡ longest_phrase
  entries : (h k : ℕ) → 0 < h → h ≤ longest_phrase → k < f h
      → Entry cs n h (order (wrap (ring_of r.rings h).next (f h)) (f h) k) (get_or r.steps ((ring_of r.rings h).first + k) 0)

wrap_in : (at n : ℕ) → 0 < n → wrap at n < n
wrap_in at n h = grind (arith, nat_tests)

order_old : (p n : ℕ) → p < n → order p n p ≡ n - 1
order_old p n h = grind (arith, nat_tests)

order_new : (p n : ℕ) → p < n → order (wrap (p + 1) n) n p ≡ 0
order_new p n h = elim (cases_lt (p + 1) n) [
  | inl k ↦ rw (lt-ltb (p + 1) n k, lt-ltb p (p + 1) (omega arith)) (omega arith)
  | inr k ↦ rw (le-ltb (p + 1) n k, le-ltb p 0 (omega arith)) (omega arith)
]

order_next : (p n k : ℕ) → p < n → k < n → k ≢ p → order (wrap (p + 1) n) n k ≡ order p n k + 1
order_next p n k h i ne = elim (cases_lt (p + 1) n) [
  | inl a ↦ rw (lt-ltb (p + 1) n a) (elim (cases_lt k p) [
    | inl b ↦ rw (lt-ltb k p b, lt-ltb k (p + 1) (omega arith)) (omega arith)
    | inr b ↦ rw (le-ltb k p b, le-ltb k (p + 1) (omega arith)) (omega arith)
  ])
  | inr a ↦ rw (le-ltb (p + 1) n a, le-ltb k 0 (omega arith), lt-ltb k p (omega arith)) (omega arith)
]

before_mono : (f : ℕ → ℕ) (m n : ℕ) → before f m ≤ before f (m + n)
unfolding before
before_mono f m zero = let e = ap (before f) (add-zero m) in omega arith
before_mono f m (suc n) = let k = before_mono f m n in let e = ap (before f) (add-suc m n) in omega arith

before_le : (f : ℕ → ℕ) (m n : ℕ) → m ≤ n → before f m ≤ before f n
before_le f m n h = let k = before_mono f m (n - m) in let d : m + (n - m) ≡ n = omega arith in let e = ap (before f) d in omega arith

before_here : (f : ℕ → ℕ) (h : ℕ) → 0 < h → before f h ≡ before f (h - 1) + f h
unfolding before
before_here f zero k = absurd (omega arith)
before_here f (suc h) k = ap (λ i. before f i + f (suc h)) (omega arith)

module _ (rs : List Ring) (f : ℕ → ℕ) (l : Laid rs f) where
  ring_in : (h : ℕ) → 0 < h → h ≤ longest_phrase → (ring_of rs h).first + f h ≤ longest_phrase
  ring_in h a b =
      let e = l.at (h - 1) (omega arith) in
      let t = before_here f h a in
      let m = before_le f h longest_phrase b in
      let k = l.all in
      omega arith

  ring_apart : (h h' : ℕ) → 0 < h → h < h' → h' ≤ longest_phrase → (ring_of rs h).first + f h ≤ (ring_of rs h').first
  ring_apart h h' a b c =
      let e = l.at (h - 1) (omega arith) in
      let e' = l.at (h' - 1) (omega arith) in
      let t = before_here f h a in
      let m = before_le f h (h' - 1) (omega arith) in
      omega arith

pub before_none : (f : ℕ → ℕ) → before f 0 ≡ 0
unfolding before
before_none f = refl

pub before_next : (f : ℕ → ℕ) (i : ℕ) → before f (i + 1) ≡ before f i + f (i + 1)
unfolding before
before_next f i = let e : i + 1 ≡ suc i = omega arith in ap (before f) e ∙ ap (λ k. before f i + f k) (sym e)

pub rings_none : (f : ℕ → ℕ) → rings_to f 0 ≡ []
unfolding rings_to
rings_none f = refl

pub rings_next : (f : ℕ → ℕ) (rs : List Ring) (i a : ℕ) → i < length rs → a ≡ before f i → take i rs ≡ rings_to f i
    → take (i + 1) (set rs i (record { first = a; next = 0 })) ≡ rings_to f (i + 1)
unfolding rings_to
rings_next f rs i a lt e k =
    let at : i + 1 ≡ suc i = omega arith in
    take_more_set rs i (record { first = a; next = 0 }) lt ∙ ap (λ zs. zs ++ (record { first = a; next = 0 } ∷ [])) k
    ∙ ap (λ n. rings_to f i ++ (record { first = n; next = 0 } ∷ [])) e ∙ ap (rings_to f) (sym at)

pub before_to : (f : ℕ → ℕ) (n : ℕ) → n ≤ longest_phrase → before f longest_phrase ≤ longest_phrase → before f n ≤ longest_phrase
before_to f n h b = let k = before_le f n longest_phrase h in omega arith

rings_length : (f : ℕ → ℕ) (m : ℕ) → length (rings_to f m) ≡ m
unfolding rings_to
rings_length f zero = refl
rings_length f (suc m) = let l = length_push (rings_to f m) (record { first = before f m; next = 0 }) in let k = rings_length f m in omega arith

rings_at : (f : ℕ → ℕ) (m n : ℕ) → n < m → (get_or (rings_to f m) n no_ring).first ≡ before f n
unfolding rings_to
rings_at f zero n h = absurd (omega arith)
rings_at f (suc m) n h =
    let r : Ring = record { first = before f m; next = 0 } in
    let k = rings_length f m in
    elim (cases_lt n m) [
      | inl a ↦ ap (λ (v : Ring). v.first) (get_or_append_left (rings_to f m) (r ∷ []) no_ring n (omega arith)) ∙ rings_at f m n a
      | inr a ↦
          let e : n ≡ m = omega arith in
          ap (λ i. (get_or (rings_to f (suc m)) i no_ring).first) e ∙ ap (λ (v : Ring). v.first) (get_or_push (rings_to f m) r no_ring m k) ∙ sym (ap (before f) e)
    ]

-- the rings before the first step
pub fresh : (w : ℕ) (f : ℕ → ℕ) → Counts f → before f longest_phrase ≤ longest_phrase → Recalls (laid f) 0 f (replicate w 0)
fresh w f c b =
    let l : Laid (rings_to f longest_phrase) f = record { counts = c; all = b; at = rings_at f longest_phrase } in
    record {
      laid = l;
      long_steps = length-replicate {A = ℕ} longest_phrase 0;
      long_rings = rings_length f longest_phrase;
      entries = λ h k a b d.
          let i = ring_in (rings_to f longest_phrase) f l h a b in
          let z = get_or-replicate longest_phrase ((ring_of (rings_to f longest_phrase) h).first + k) 0 0 (omega arith) in
          subst (Entry (replicate w 0) 0 h _) (sym z) (entry_start w h _ a);
    }

-- a code that is not wanted changes nothing
pub passed : (r : Recent) (n : ℕ) (f : ℕ → ℕ) (cs : List ℕ) (c : ℕ) → 0 < length cs → Recalls r n f cs → f c ≡ 0 → Recalls r (n + 1) f (push c cs)
passed r n f cs c some k z = record {
  laid = k.laid;
  long_steps = k.long_steps;
  long_rings = k.long_rings;
  entries = λ h i a b d. entry_other cs c some n h _ _ (λ e. let g = ap f e in absurd (omega arith)) (k.entries h i a b d);
}

module _ (r : Recent) (n : ℕ) (f : ℕ → ℕ) (cs : List ℕ) (h p : ℕ) (some : 0 < length cs) (keeps : Recalls r n f cs) (from : 0 < h) (to : h ≤ longest_phrase) (want : 0 < f h)
    (at : p ≡ wrap (ring_of r.rings h).next (f h)) where
  abbrev ring : Ring
  ring = record { first = (ring_of r.rings h).first; next = p + 1 }

  abbrev after : Recent
  after = record { steps = set r.steps ((ring_of r.rings h).first + p) (n + 1); rings = set r.rings (h - 1) ring }

  -- each ring stays where it is
  first_same : (i : ℕ) → (get_or after.rings i no_ring).first ≡ (get_or r.rings i no_ring).first
  first_same i = elim (cases_eq i (h - 1)) [
    | inl e ↦ ap (λ j. (get_or after.rings j no_ring).first) e ∙ ap (λ (v : Ring). v.first) (get_or-set_same r.rings (h - 1) ring no_ring (omega (arith, keeps.long_rings)))
        ∙ sym (ap (λ j. (get_or r.rings j no_ring).first) e)
    | inr e ↦ ap (λ (v : Ring). v.first) (get_or-set_other r.rings (h - 1) i ring no_ring e)
  ]

  p_in : p < f h
  p_in = let a = wrap_in (ring_of r.rings h).next (f h) want in omega arith

  oldest_entry : Entry (push h cs) (n + 1) h (f h) (get_or r.steps ((ring_of r.rings h).first + p) 0)
  oldest_entry =
      let e = keeps.entries h p from to p_in in
      let o : order (wrap (ring_of r.rings h).next (f h)) (f h) p ≡ f h - 1 = ap (λ i. order i (f h) p) (sym at) ∙ order_old p (f h) p_in in
      let k = entry_same cs h some n _ _ (subst (λ j. Entry cs n h j (get_or r.steps ((ring_of r.rings h).first + p) 0)) o e) in
      subst (λ j. Entry (push h cs) (n + 1) h j (get_or r.steps ((ring_of r.rings h).first + p) 0)) (omega arith) k

  here : (k : ℕ) → k < f h → Entry (push h cs) (n + 1) h (order (wrap (p + 1) (f h)) (f h) k) (get_or after.steps ((ring_of r.rings h).first + k) 0)
  here k d = elim (cases_eq k p) [
    | inl e ↦
        let fits = ring_in r.rings f keeps.laid h from to in
        let pin = p_in in
        let s = ap (λ i. get_or after.steps ((ring_of r.rings h).first + i) 0) e ∙ get_or-set_same r.steps ((ring_of r.rings h).first + p) (n + 1) 0 (omega (arith, keeps.long_steps)) in
        let o = ap (order (wrap (p + 1) (f h)) (f h)) e ∙ order_new p (f h) pin in
        subst (λ j. Entry (push h cs) (n + 1) h j (get_or after.steps ((ring_of r.rings h).first + k) 0)) (sym o)
        (subst (Entry (push h cs) (n + 1) h 0) (sym s) (entry_new cs h some n))
    | inr e ↦
        let s = get_or-set_other r.steps ((ring_of r.rings h).first + p) ((ring_of r.rings h).first + k) (n + 1) 0 (λ x. e (omega arith)) in
        let o = ap (λ i. order i (f h) k + 1) (sym at) ∙ sym (order_next p (f h) k p_in d e) in
        let en = entry_same cs h some n _ _ (keeps.entries h k from to d) in
        subst (λ j. Entry (push h cs) (n + 1) h j (get_or after.steps ((ring_of r.rings h).first + k) 0)) o
        (subst (Entry (push h cs) (n + 1) h _) (sym s) en)
  ]

  differ_at : (h' k : ℕ) → k < f h' → (h' ≡ h → ⊥) → (h < h' → (ring_of r.rings h).first + f h ≤ (ring_of r.rings h').first) × (h' < h → (ring_of r.rings h').first + f h' ≤ (ring_of r.rings h).first)
      → (ring_of r.rings h').first + k ≢ (ring_of r.rings h).first + p
  differ_at h' k d ne far x = elim (cases_lt h h') [
    | inl a ↦ let y = far.0 a in let z = p_in in absurd (omega arith)
    | inr a ↦ let y = far.1 (omega (arith, both h h' a ne)) in let z = p_in in absurd (omega arith)
  ]
    where
      both : (i j : ℕ) → j ≤ i → (j ≡ i → ⊥) → j < i
      both i j a n = elim (cases_eq j i) [ inl e ↦ absurd (n e) | inr e ↦ omega arith ]

  there : (h' k : ℕ) → 0 < h' → h' ≤ longest_phrase → k < f h' → (h' ≡ h → ⊥)
      → Entry (push h cs) (n + 1) h' (order (wrap ((ring_of after.rings h').next) (f h')) (f h') k) (get_or after.steps ((ring_of r.rings h').first + k) 0)
  there h' k a b d ne =
      let far : (h < h' → (ring_of r.rings h).first + f h ≤ (ring_of r.rings h').first) × (h' < h → (ring_of r.rings h').first + f h' ≤ (ring_of r.rings h).first) =
      (λ x. ring_apart r.rings f keeps.laid h h' from x b, λ x. ring_apart r.rings f keeps.laid h' h a x to) in
      let pin = p_in in
      let apart : h' - 1 ≢ h - 1 = λ x. ne (omega arith) in
      let s = get_or-set_other r.steps ((ring_of r.rings h).first + p) ((ring_of r.rings h').first + k) (n + 1) 0 (differ_at h' k d ne far) in
      let x = ap (λ (v : Ring). v.next) (get_or-set_other r.rings (h - 1) (h' - 1) ring no_ring apart) in
      let en = entry_other cs h some n h' _ _ ne (keeps.entries h' k a b d) in
      subst (λ v. Entry (push h cs) (n + 1) h' (order (wrap v (f h')) (f h') k) (get_or after.steps ((ring_of r.rings h').first + k) 0)) (sym x)
      (subst (Entry (push h cs) (n + 1) h' _) (sym s) en)

  placed : (h' k : ℕ) → 0 < h' → h' ≤ longest_phrase → k < f h'
      → Entry (push h cs) (n + 1) h' (order (wrap (ring_of after.rings h').next (f h')) (f h') k) (get_or after.steps ((ring_of r.rings h').first + k) 0)
  placed h' k a b d = elim (cases_eq h' h) [
    | inl e ↦
        let x : (ring_of after.rings h).next ≡ p + 1 = ap (λ (v : Ring). v.next) (get_or-set_same r.rings (h - 1) ring no_ring (omega (arith, keeps.long_rings))) in
        let d' : k < f h = subst (λ i. k < f i) e d in
        let y = subst (λ v. Entry (push h cs) (n + 1) h (order (wrap v (f h)) (f h) k) (get_or after.steps ((ring_of r.rings h).first + k) 0)) (sym x) (here k d') in
        subst (λ i. Entry (push h cs) (n + 1) i (order (wrap (ring_of after.rings i).next (f i)) (f i) k) (get_or after.steps ((ring_of r.rings i).first + k) 0)) (sym e) y
    | inr e ↦ there h' k a b d e
  ]

  pub recalls : Recalls after (n + 1) f (push h cs)
  recalls = record {
    laid = record { counts = keeps.laid.counts; all = keeps.laid.all; at = λ i b. first_same i ∙ keeps.laid.at i b };
    long_steps = simp length-set keeps.long_steps;
    long_rings = simp length-set keeps.long_rings;
    entries = λ h' k a b d.
        subst (λ v. Entry (push h cs) (n + 1) h' (order (wrap (ring_of after.rings h').next (f h')) (f h') k) (get_or after.steps (v + k) 0))
        (sym (first_same (h' - 1))) (placed h' k a b d);
  }

  -- the mark to lift, by its age
  pub lifts : (w age : ℕ) → length cs ≡ w → 0 < get_or r.steps ((ring_of r.rings h).first + p) 0
      → age ≡ n + 1 - get_or r.steps ((ring_of r.rings h).first + p) 0 → age < w → LiftAt (push h cs) h (f h) (w - 1 - age)
  lifts w age e a b d =
      let o = oldest_entry in
      let l = length_pushed cs h some in
      let pa = (keeps.entries h p from to p_in).past in
      subst (LiftAt (push h cs) h (f h)) (omega arith) (o.here a (omega arith))

  -- no mark is to be lifted
  pub rests : (w : ℕ) → length cs ≡ w
      → (0 < get_or r.steps ((ring_of r.rings h).first + p) 0 → get_or r.steps ((ring_of r.rings h).first + p) 0 + w ≤ n + 1)
      → times h (push h cs) ≤ f h
  rests w e a =
      let o = oldest_entry in
      let l = length_pushed cs h some in
      o.gone (λ k. let z = a k in omega arith)

  -- the oldest number was noted before this step, and its place is in the table
  pub oldest_past : get_or r.steps ((ring_of r.rings h).first + p) 0 ≤ n
  oldest_past = (keeps.entries h p from to p_in).past

  pub oldest_in : (ring_of r.rings h).first + p < longest_phrase
  oldest_in = let i = ring_in r.rings f keeps.laid h from to in let k = p_in in omega arith
