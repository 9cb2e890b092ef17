-- The newest sounds are enough to remember the longest end.
use Rattle.std.proofs.Common.{◌≡◌, ℕ, zero, suc, ◌+◌, ◌-◌, ◌^◌, ◌<◌, ◌≤◌, true, ltb, ◌⊎◌, List, [], ◌∷◌, ◌++◌, length, get_or, take, drop, replicate, set, sym, refl, ap, ◌∙◌, subst, inl, inr, append_assoc, arith}
use Rattle.std.proofs.lemmas.Bool.{cases_lt, cases_eq, and_parts, ltb-true, lt-ltb, le-ltb, lt-leb, le-leb}
use Rattle.std.proofs.lemmas.List.{append-nil, length_push, length-take, length-drop, drop-append-le, drop-drop, drop-take, take_more, same_from_push, get_or-set_same, get_or-set_other, drop_all, take_all}
use Rattle.terms.specs.Figures.{figures, different}
use Rattle.terms.specs.Marks.{newest}
use Rattle.terms.specs.Codes.{code, heard}
use Rattle.terms.specs.Reading.{Run, LongestEnd, remembered, answered}
use Rattle.terms.proofs.Reading.{every_reader_lem}
use Rattle.terms.specs.Refusals.{all_below_lem}
use Rattle.terms.proofs.Runs.{length_figures}
use Rattle.readers.specs.Window.{digits, slid, Tabled, Entered}
use Rattle.readers.specs.Table.{Counts, most_places}
use Rattle.readers.proofs.Digits.{length_digits, digits_same}
use Rattle.readers.proofs.Starts.{zeros}
use Rattle.readers.specs.declared.scale.Scale.{Scale}
use Rattle.readers.specs.declared.window.Window.{Window}
use Rattle.readers.specs.declared.coder.Coder.{Coder}
use Rattle.readers.specs.declared.tally.Tally.{Tally}
use Rattle.readers.specs.Slides.{Slides}
use Rattle.readers.specs.Sliding.{shown}
use Rattle.readers.proofs.Coding.{code_old, code_other, unseen, seen, figure_at, code_small, different_small}
use Rattle.readers.proofs.Naming.{counts_step, counts_start, few_counts}
use Rattle.terms.proofs.Numbering.{different_new, different_old, code_next}
use Rattle.terms.proofs.Coded.{code_none}
use Rattle.terms.proofs.Counts.{count_nil}
use Rattle.terms.specs.Limits.{longest_phrase, most_numbers}

-- a sound of a phrase whose sounds are all below c
sound_below : (c : ℕ) (xs : List ℕ) (x : ℕ) (ys : List ℕ) → all_below_lem c (xs ++ (x ∷ ys)) ≡ true → x < c
sound_below c [] x ys e = ltb-true x c (and_parts (ltb x c) (all_below_lem c ys) e).0
sound_below c (y ∷ xs) x ys e = sound_below c xs x ys (and_parts (ltb y c) (all_below_lem c (xs ++ (x ∷ ys))) e).1

place_below : (c : ℕ) (xs : List ℕ) (i : ℕ) → all_below_lem c xs ≡ true → i < length xs → get_or xs i 0 < c
place_below c [] i e h = absurd (omega arith)
place_below c (x ∷ xs) zero e h = ltb-true x c (and_parts (ltb x c) (all_below_lem c xs) e).0
place_below c (x ∷ xs) (suc i) e h = place_below c xs i (and_parts (ltb x c) (all_below_lem c xs) e).1 (omega arith)

last : (v : List ℕ) → (v ≡ []) ⊎ ((w : List ℕ) × (y : ℕ) × (v ≡ w ++ (y ∷ [])))
last [] = inl refl
last (x ∷ v) = inr (elim (last v) [
  | inl e ↦ ([], x, ap (λ z. x ∷ z) e)
  | inr k ↦ (x ∷ k.0, k.1, ap (λ z. x ∷ z) k.2)
])

-- after a sound that stands nowhere in the phrase nothing is remembered
strange : (q c : ℕ) (p r : List ℕ) (x : ℕ) → all_below_lem c p ≡ true → c ≤ x → LongestEnd q p (r ++ (x ∷ [])) []
strange q c p r x all h = record {
  ends = (r ++ (x ∷ []), append-nil (r ++ (x ∷ [])));
  short = omega arith;
  run = record { before = []; after = p; is = refl };
  longest = λ a b e l k. go a b e k (last b);
}
  where
    go : (a b : List ℕ) → a ++ b ≡ r ++ (x ∷ []) → Run b p → (b ≡ []) ⊎ ((w : List ℕ) × (y : ℕ) × (b ≡ w ++ (y ∷ []))) → length b ≤ length {A = ℕ} []
    go a b e k (inl z) = let l = ap length z in omega arith
    go a b e k (inr z) =
        let w = z.0 in
        let y = z.1 in
        let s = same_from_push (a ++ w) r y x (append_assoc a w (y ∷ []) ∙ ap (λ u. a ++ u) (sym z.2) ∙ e) in
        let i : k.before ++ ((w ++ (y ∷ [])) ++ k.after) ≡ p = ap (λ u. k.before ++ (u ++ k.after)) (sym z.2) ∙ k.is in
        let j : (k.before ++ w) ++ (y ∷ k.after) ≡ p = append_assoc k.before w (y ∷ k.after) ∙ ap (λ u. k.before ++ u) (sym (append_assoc w (y ∷ []) k.after)) ∙ i in
        let m = sound_below c (k.before ++ w) y k.after (subst (λ u. all_below_lem c u ≡ true) (sym j) all) in
        let n = s.1 in
        absurd (omega arith)

pub nothing_heard : (q : ℕ) (p : List ℕ) → remembered q p [] ≡ []
unfolding remembered
nothing_heard q p = refl

pub slid_remembered : (q c : ℕ) (p ws : List ℕ) (x : ℕ) → all_below_lem c p ≡ true → remembered q p (slid c q ws x) ≡ remembered q p (remembered q p ws ++ (x ∷ []))
slid_remembered q c p ws x all =
    let R = every_reader_lem q p in
    let r = remembered q p ws in
    elim (cases_lt x c) [
      | inl h ↦
          let e : slid c q ws x ≡ newest q (ws ++ (x ∷ [])) = rw (lt-ltb x c h) in
          ap (remembered q p) e ∙ sym (R.newest_only (ws ++ (x ∷ [])))
          ∙ R.one_only (ws ++ (x ∷ [])) _ _ (R.found (ws ++ (x ∷ []))) (R.at_step ws r _ x (R.found ws) (R.found (r ++ (x ∷ []))))
      | inr h ↦
          let e : slid c q ws x ≡ [] = rw (le-ltb x c h) in
          ap (remembered q p) e ∙ nothing_heard q p ∙ R.one_only (r ++ (x ∷ [])) _ _ (strange q c p r x all h) (R.found (r ++ (x ∷ [])))
    ]

-- the answer of a window that is not full, and of a full one
pub answer_short : (q : ℕ) (p ws : List ℕ) → length ws < q → 0 ≡ answered q p (remembered q p ws)
answer_short q p ws h =
    let R = every_reader_lem q p in
    let e : heard q p ws ≡ 0 = rw (lt-leb q (length ws) h) in
    sym (R.answers ws _ (R.found ws) ∙ e)

pub answer_full : (q : ℕ) (p ws : List ℕ) → length ws ≡ q → code (figures q p) ws ≡ answered q p (remembered q p ws)
answer_full q p ws h =
    let R = every_reader_lem q p in
    let z : length ws - q ≡ 0 = omega arith in
    let n : newest q ws ≡ ws = ap (λ v. drop v ws) z in
    let e : heard q p ws ≡ code (figures q p) ws = rw (le-leb q (length ws) (omega arith)) (ap (code (figures q p)) n) in
    sym (R.answers ws _ (R.found ws) ∙ e)

-- the window over the phrase
newest_push : (w : ℕ) (t : List ℕ) (x : ℕ) → newest w (newest w t ++ (x ∷ [])) ≡ newest w (t ++ (x ∷ []))
newest_push w t x =
    let k = length t - w in
    let b : newest w t ++ (x ∷ []) ≡ drop k (t ++ (x ∷ [])) = sym (drop-append-le k t (x ∷ []) (omega arith)) in
    let l = length-drop k (t ++ (x ∷ [])) in
    let m = length_push t x in
    let z : k + (length (drop k (t ++ (x ∷ []))) - w) ≡ length (t ++ (x ∷ [])) - w = omega arith in
    ap (newest w) b ∙ drop-drop (length (drop k (t ++ (x ∷ []))) - w) k (t ++ (x ∷ [])) ∙ ap (λ v. drop v (t ++ (x ∷ []))) z

slid_phrase : (c w : ℕ) (p : List ℕ) (i : ℕ) → all_below_lem c p ≡ true → i < length p → slid c w (newest w (take i p)) (get_or p i 0) ≡ newest w (take (i + 1) p)
slid_phrase c w p i all h =
    let e : slid c w (newest w (take i p)) (get_or p i 0) ≡ newest w (newest w (take i p) ++ (get_or p i 0 ∷ [])) = rw (lt-ltb (get_or p i 0) c (place_below c p i all h)) in
    e ∙ newest_push w (take i p) (get_or p i 0) ∙ ap (newest w) (sym (take_more p i 0 h))

newest_figure : (w : ℕ) (p : List ℕ) (a : ℕ) → a + w ≤ length p → newest w (take (a + w) p) ≡ take w (drop a p)
newest_figure w p a h =
    let l = length-take (a + w) p in
    let z : length (take (a + w) p) - w ≡ a = omega arith in
    ap (λ v. drop v (take (a + w) p)) z ∙ drop-take a w p

-- the codes of the numbers, figure by figure
module _ (c q : ℕ) (ps : List (List ℕ)) (f : List ℕ) (codes : List ℕ) (n : ℕ) (z : 0 < c) (t : Tabled c q ps codes) (nb : n < c ^ q) (is : digits c q n ≡ f) where
  code_here : get_or codes n 0 ≡ code ps f
  code_here = t n nb ∙ ap (code ps) is

  tabled_old : (get_or codes n 0 ≡ 0 → ⊥) → Tabled c q (ps ++ (f ∷ [])) codes
  tabled_old e i h = t i h ∙ sym (code_old ps f _ (seen ps f (λ k. e (code_here ∙ k))))

  tabled_new : (h : ℕ) → n < length codes → get_or codes n 0 ≡ 0 → h ≡ length (different ps) + 1 → Tabled c q (ps ++ (f ∷ [])) (set codes n h)
  tabled_new h l e k i b = elim (cases_eq i n) [
    | inl d ↦
        ap (λ v. get_or (set codes n h) v 0) d ∙ get_or-set_same codes n h 0 l ∙ k ∙ sym (code_next ps f (unseen ps f (sym code_here ∙ e)))
        ∙ ap (code (ps ++ (f ∷ []))) (sym is ∙ ap (digits c q) (sym d))
    | inr d ↦
        get_or-set_other codes n i h 0 d ∙ t i b ∙ sym (code_other ps f (digits c q i) (λ u. d (digits_same c q i n z b nb (u ∙ sym is))))
  ]

  tabled_step : (codes' : List ℕ) (next next' : ℕ) → n < length codes → next ≡ length (different ps) → Entered n next codes codes' next'
      → Tabled c q (ps ++ (f ∷ [])) codes' × (next' ≡ length (different (ps ++ (f ∷ []))))
  tabled_step codes' next next' l e m = elim (cases_eq (get_or codes n 0) 0) [
    | inl k ↦
        let d = m.new k in (
          subst (Tabled c q (ps ++ (f ∷ []))) (sym d.0) (tabled_new (next + 1) l k (ap (λ v. v + 1) e)),
          d.1 ∙ ap (λ v. v + 1) e ∙ sym (ap length (different_new f ps (unseen ps f (sym code_here ∙ k))) ∙ length_push (different ps) f),
        )
    | inr k ↦
        let d = m.old k in (
          subst (Tabled c q (ps ++ (f ∷ []))) (sym d.0) (tabled_old k),
          d.1 ∙ e ∙ sym (ap length (different_old f ps (seen ps f (λ u. k (code_here ∙ u))))),
        )
  ]

-- the figures ps have their codes, and are counted
pub record TabledTo (s : Scale) (ps : List (List ℕ)) (k : Coder) (t : Tally) : Type 0 where
  pub tabled : Tabled s.base s.width ps k.codes
  pub counted : Counts ps t.counts
  pub many : k.given ≡ length (different ps)

-- the loop over the phrase stands at the place i: the window shows the newest sounds, and the figures that end before i
-- are tabled
pub record ReadTo (p : List ℕ) (i : ℕ) (w : Window) (k : Coder) (t : Tally) : Type 0 where
  pub below : all_below_lem w.scale.base p ≡ true
  pub shows : shown w ≡ newest w.scale.width (take i p)
  pub figured : TabledTo w.scale (take (i + 1 - w.scale.width) (figures w.scale.width p)) k t

pub read_start : (p : List ℕ) (w : Window) (k : Coder) (t : Tally) → all_below_lem w.scale.base p ≡ true → shown w ≡ []
    → k.codes ≡ replicate most_numbers 0 → k.given ≡ 0 → t.counts ≡ replicate most_places 0 → ReadTo p 0 w k t
read_start p w k t all e f g h =
    let q = w.scale.width in
    let c = w.scale.base in
    let s = w.scale.wide in
    let z : 0 ≡ 0 + 1 - q = omega arith in
    record {
      below = all;
      shows = e ∙ sym (drop_all (length {A = ℕ} [] - q) [] (omega arith));
      figured = subst (λ v. TabledTo w.scale (take v (figures q p)) k t) z (record {
        tabled = λ n b. ap (λ v. get_or v n 0) f ∙ zeros most_numbers n ∙ sym (code_none [] (digits c q n) (count_nil (digits c q n)));
        counted = counts_start t.counts (λ n. ap (λ v. get_or v n 0) h ∙ zeros most_places n);
        many = g ∙ (unfold different in refl);
      });
    }

-- the sound at the place i is read
module _ (p : List ℕ) (i : ℕ) (w w' : Window) (k : Coder) (t : Tally) (r : ReadTo p i w k t) (few : length p ≤ longest_phrase) (inside : i < length p)
    (es : w'.scale ≡ w.scale) (ed : shown w' ≡ slid w.scale.base w.scale.width (shown w) (get_or p i 0)) where
  abbrev c : ℕ
  c = w'.scale.base

  abbrev q : ℕ
  q = w'.scale.width

  abbrev done : List (List ℕ)
  done = take (i + 1 - q) (figures q p)

  below : all_below_lem c p ≡ true
  below = subst (λ (s : Scale). all_below_lem s.base p ≡ true) (sym es) r.below

  shows : shown w' ≡ newest q (take (i + 1) p)
  shows =
      ed ∙ ap (λ v. slid w.scale.base w.scale.width v (get_or p i 0)) r.shows ∙ slid_phrase w.scale.base w.scale.width p i r.below inside
      ∙ ap (λ (s : Scale). newest s.width (take (i + 1) p)) (sym es)

  figured : TabledTo w'.scale done k t
  figured = subst (λ (s : Scale). TabledTo s (take (i + 1 - s.width) (figures s.width p)) k t) (sym es) r.figured

  long : length (shown w') ≡ length (newest q (take (i + 1) p))
  long = ap length shows

  -- the window is not full
  pub read_short : length (shown w') < q → ReadTo p (i + 1) w' k t
  read_short h =
      let l = long in
      let d = length-drop (length (take (i + 1) p) - q) (take (i + 1) p) in
      let m = length-take (i + 1) p in
      let z : i + 1 - q ≡ i + 1 + 1 - q = omega arith in
      record { below = below; shows = shows; figured = subst (λ v. TabledTo w'.scale (take v (figures q p)) k t) z figured }

  pub few_given : k.given ≤ longest_phrase
  few_given =
      let e = figured.many in
      let d = different_small done in
      let g = length-take (i + 1 - q) (figures q p) in
      omega arith

  -- it is full, and shows the number n
  module _ (n : ℕ) (nb : n < c ^ q) (is : digits c q n ≡ shown w') where
    number_small : n < most_numbers
    number_small = let s = w'.scale.small in omega arith

    whole : q ≤ i + 1
    whole =
        let l = ap length is ∙ long in
        let e = length_digits c q n in
        let d = length-drop (length (take (i + 1) p) - q) (take (i + 1) p) in
        let m = length-take (i + 1) p in
        let z = w'.scale.wide in
        omega arith

    abbrev figure : List ℕ
    figure = take q (drop (i + 1 - q) p)

    is_figure : digits c q n ≡ figure
    is_figure =
        let z = whole in
        let e : i + 1 ≡ i + 1 - q + q = omega arith in
        is ∙ shows ∙ ap (λ v. newest q (take v p)) e ∙ newest_figure q p (i + 1 - q) (omega arith)

    next_is : take (i + 1 + 1 - q) (figures q p) ≡ done ++ (figure ∷ [])
    next_is =
        let z = whole in
        let e : i + 1 + 1 - q ≡ i + 1 - q + 1 = omega arith in
        ap (λ v. take v (figures q p)) e ∙ figure_at q p (i + 1 - q) w'.scale.wide (omega arith)

    -- the number has its code now
    module _ (k' : Coder) (m : Entered n k.given k.codes k'.codes k'.given) where
      stepped : Tabled c q (done ++ (figure ∷ [])) k'.codes × (k'.given ≡ length (different (done ++ (figure ∷ []))))
      stepped =
          let l = k.long in
          let s = number_small in
          tabled_step c q done figure k.codes n w'.scale.based figured.tabled nb is_figure k'.codes k.given k'.given (omega arith) figured.many m

      entry_is : get_or k'.codes n 0 ≡ code (done ++ (figure ∷ [])) figure
      entry_is = stepped.0 n nb ∙ ap (code (done ++ (figure ∷ []))) is_figure

      pub code_in_places : get_or k'.codes n 0 < most_places
      code_in_places =
          let d = code_small (done ++ (figure ∷ [])) figure in
          let e = length_push done figure in
          let g = length-take (i + 1 - q) (figures q p) in
          let h = entry_is in
          let z = w'.scale.wide in
          omega arith

      pub few_counted : (h : ℕ) → get_or t.counts h 0 ≤ longest_phrase
      few_counted h = let e = few_counts p q (i + 1 - q) t.counts h figured.counted in let z = w'.scale.wide in omega arith

      pub read_full : (t' : Tally) → t'.counts ≡ set t.counts (get_or k'.codes n 0) (get_or t.counts (get_or k'.codes n 0) 0 + 1) → ReadTo p (i + 1) w' k' t'
      read_full t' e =
          let l = t.long in
          let s = code_in_places in
          record {
            below = below;
            shows = shows;
            figured = subst (λ v. TabledTo w'.scale v k' t') (sym next_is) (record {
              tabled = stepped.0;
              counted = subst (Counts (done ++ (figure ∷ []))) (sym e) (counts_step done figure t.counts (get_or k'.codes n 0) figured.counted entry_is (omega arith));
              many = stepped.1;
            });
          }

-- the whole phrase is read
pub read_all : (p : List ℕ) (i : ℕ) (w : Window) (k : Coder) (t : Tally) → ReadTo p i w k t → length p ≤ i → Slides p w.scale k t
read_all p i w k t r h =
    let q = w.scale.width in
    let l = length_figures q p w.scale.wide in
    let e : take (i + 1 - q) (figures q p) ≡ figures q p = take_all (i + 1 - q) (figures q p) (omega arith) in
    record {
      below = r.below;
      tabled = subst (λ v. Tabled w.scale.base q v k.codes) e r.figured.tabled;
      counted = subst (λ v. Counts v t.counts) e r.figured.counted;
    }
