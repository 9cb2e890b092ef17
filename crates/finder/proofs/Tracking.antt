-- Reader, rings and row through a step, and the closest stretch that the row tells.
use Rattle.std.proofs.Common.{◌≡◌, ℕ, zero, suc, ◌+◌, ◌-◌, ◌<◌, ◌≤◌, max, List, [], ◌∷◌, ◌++◌, map, length, get_or, replicate, ℤ, pos, ◌+ℤ◌, Some, None, Option, sym, refl, ap, ◌∙◌, subst, inl, inr, arith}
use borrow.Author.Differences.{ints}
use Rattle.std.proofs.lemmas.Bool.{cases_lt, cases_eq, eq-eqb, ne_eqb, le-ltb}
use Rattle.terms.specs.Limits.{longest_phrase}
use Rattle.terms.specs.Figures.{figures}
use Rattle.terms.specs.Marks.{Least}
use Rattle.terms.specs.Closest.{Closest}
use Rattle.terms.specs.Codes.{push, marks_for, heard, count_of, codes_at, row_at}
use Rattle.terms.specs.Reading.{LongestEnd, answered}
use Rattle.terms.specs.declared.answer.Answer.{Answer}
use Rattle.terms.proofs.Coded.{row_by_codes, window_step, every_step}
use Rattle.terms.proofs.Reading.{every_reader_lem}
use Rattle.terms.proofs.Runs.{closest, reached_gap, no_worse}
use Rattle.readers.specs.Memory.{Memory, held, Hears, with_phrase, counted}
use Rattle.rows.specs.Rows.{worth, pushed, lifted}
use Rattle.rows.specs.declared.mark.Mark.{Mark}
use Rattle.rows.specs.declared.mark.Mark.TheVariants.{Plus, Minus}
use Rattle.finder.specs.Recent.{oldest, noted, recalled, rings_at, age_at}
use Rattle.finder.specs.Turns.{ListenTold, Turned, Lifted, mark_for, GapOf, ReadsOff}
use Rattle.finder.specs.Slots.{Tracks, width}
use Rattle.finder.specs.declared.recent.Recent.{Recent}
use Rattle.finder.proofs.Entries.{LiftAt}
use Rattle.finder.proofs.Bridge.{length_pushed}
use Rattle.finder.proofs.Rings.{Recalls, lifts, rests, oldest_past, oldest_in}
use Rattle.finder.proofs.Recalling.{recall_at, rings_step, length_codes}
use Rattle.finder.proofs.Marked.{never_marked, none_marked, some_marked, long}

age_none : (step old : ℕ) → old ≡ 0 → age_at step old ≡ None
age_none step old e = rw (eq-eqb old 0 e)

age_some : (step old : ℕ) → 0 < old → old ≤ step → age_at step old ≡ Some (step - old)
age_some step old a b = rw (ne_eqb old 0 (λ e. absurd (omega arith)), le-ltb step old b)

at_none : (ms ms' : List Mark) (o : Option ℕ) → Lifted ms o ms' → o ≡ None → ms' ≡ ms
at_none ms ms' o l e = (subst (λ v. Lifted ms v ms') e l).exact

at_some : (ms ms' : List Mark) (o : Option ℕ) (age : ℕ) → Lifted ms o ms' → o ≡ Some age
    → (age < length ms → ms' ≡ lifted age ms) × (length ms ≤ age → ms' ≡ ms)
at_some ms ms' o age l e = (subst (λ v. Lifted ms v ms') e l).exact

above : (i : ℕ) → (i ≡ 0 → ⊥) → 0 < i
above zero h = absurd (h refl)
above (suc i) h = omega arith

module _ (ms ms' : List Mark) (r r' : Recent) (f : ℕ → ℕ) (cs : List ℕ) (k step h n w : ℕ) (turned : Turned ms r step h n ms' r') (keeps : Recalls r k f cs)
    (es : step ≡ k + 1) (ef : f h ≡ n) (el : length cs ≡ w) (some : 0 < w) (marked : map worth ms ≡ marks_for f cs) where
  not_wanted : n ≡ 0 → (r' ≡ recalled f r step h) × (map worth ms' ≡ marks_for f (push h cs))
  not_wanted z =
      let u = turned.unwanted z in
      let em : ms' ≡ pushed Plus ms = u.0 ∙ ap (λ i. pushed (mark_for i) ms) z in
      (u.1 ∙ rw (eq-eqb (f h) 0 (ef ∙ z)), never_marked ms f cs h n w ef el some marked ms' em z)

  is_wanted : (n ≡ 0 → ⊥) → (r' ≡ recalled f r step h) × (map worth ms' ≡ marks_for f (push h cs))
  is_wanted z =
      let pos_n = above n z in
      let want : 0 < f h = omega arith in
      let i = keeps.laid.counts.coded h want in
      let some' : 0 < length cs = omega arith in
      let at : ℕ = oldest r h n in
      let at_f : oldest r h (f h) ≡ at = ap (oldest r h) ef in
      let inside = oldest_in r k f cs h _ some' keeps i.0 i.1 want refl in
      let u = turned.wanted pos_n i.0 i.1 (subst (λ v. v < longest_phrase) at_f inside) in
      let ep : pushed (mark_for n) ms ≡ pushed Minus ms = ap (λ b. pushed b ms) (minus n z) in
      let old : ℕ = get_or r.steps at 0 in
      let old_f : get_or r.steps (oldest r h (f h)) 0 ≡ old = ap (λ v. get_or r.steps v 0) at_f in
      let past = oldest_past r k f cs h _ some' keeps i.0 i.1 want refl in
      let past' : old ≤ k = omega arith in
      let lm = long ms f cs h n w ef el some marked in
      let lp = ap length ep ∙ length_pushed Minus ms in
      let r_is : r' ≡ recalled f r step h = u.0 ∙ ap (λ v. noted r h v step) (sym ef) ∙ rw (ne_eqb (f h) 0 (λ e. z (sym ef ∙ e))) in (
        r_is,
        elim (cases_eq old 0) [
          | inl o ↦
              let few_enough = rests r k f cs h _ some' keeps i.0 i.1 want refl w el (λ x. absurd (omega arith)) in
              none_marked ms f cs h n w ef el some marked ms' (at_none _ ms' _ u.1 (age_none step old o) ∙ ep) z (omega arith)
          | inr o ↦
              let pos_o = above old o in
              elim (cases_lt (step - old) w) [
                | inl near ↦
                    let e = (at_some _ ms' _ (step - old) u.1 (age_some step old pos_o (omega arith))).0 (omega arith) in
                    let l = lifts r k f cs h _ some' keeps i.0 i.1 want refl w (step - old) el (omega arith) (omega arith) near in
                    some_marked ms f cs h n w ef el some marked (pushed Minus ms) ms' (step - old) refl (e ∙ ap (lifted (step - old)) ep) z (subst (λ v. LiftAt (push h cs) h v (w - 1 - (step - old))) ef l)
                | inr far ↦
                    let few_enough = rests r k f cs h _ some' keeps i.0 i.1 want refl w el (λ x. omega arith) in
                    none_marked ms f cs h n w ef el some marked ms' ((at_some _ ms' _ (step - old) u.1 (age_some step old pos_o (omega arith))).1 (omega arith) ∙ ep) z (omega arith)
              ]
        ],
      )
    where
      minus : (i : ℕ) → (i ≡ 0 → ⊥) → mark_for i ≡ Minus
      minus i h = rw (ne_eqb i 0 h)

  turned_on : (r' ≡ recalled f r step h) × (map worth ms' ≡ marks_for f (push h cs))
  turned_on = elim (cases_eq n 0) [ inl z ↦ not_wanted z | inr z ↦ is_wanted z ]

heard_by : {p e : List ℕ} {q x a : ℕ} {m : Memory} → Hears (held p q e) x m a
    → (e' : List ℕ) × (m ≡ held p q e') × LongestEnd q p (e ++ (x ∷ [])) e' × (a ≡ answered q p e')
heard_by (with_phrase {r'} l s) = (r', refl, l, s)

pub tracks_step : (q : ℕ) (p t : List ℕ) (m m' : Memory) (r r' : Recent) (ms ms' : List Mark) (x h n s : ℕ)
    → Tracks q p t m ms → r ≡ rings_at q p t → ListenTold m x m' h n → Turned ms r s h n ms' r' → s ≡ length t + 1
    → Tracks q p (t ++ (x ∷ [])) m' ms' × (r' ≡ rings_at q p (t ++ (x ∷ [])))
tracks_step q p t m m' r r' ms ms' x h n s k er hs turned es =
    let ps = figures q p in
    let re = k.remembers in
    let hb = heard_by (subst (λ z. Hears z x m' h) re.1 hs.hears) in
    let reads = every_reader_lem q p in
    let longest = reads.at_step t re.0 hb.0 x re.2 hb.2 in
    let eh : h ≡ heard q p (t ++ (x ∷ [])) = hb.3 ∙ reads.answers (t ++ (x ∷ [])) hb.0 longest in
    let le : 1 ≤ width q p = omega (arith, k.to_length) in
    let cs : codes_at q (width q p) p (t ++ (x ∷ [])) ≡ push h (codes_at q (width q p) p t) =
    window_step q (width q p) p t x k.from_one le ∙ ap (λ c. push c (codes_at q (width q p) p t)) (sym eh) in
    let lc = length_codes q (width q p) p t in
    let fn : count_of ps h ≡ n = sym (hs.wanted ∙ ap (λ z. counted z h) hb.1) in
    let keeps = subst (λ z. Recalls z (length t) (count_of ps) (codes_at q (width q p) p t)) (sym er) (recall_at q (width q p) p k.from_one k.short le t) in
    let marked = k.marked ∙ row_by_codes (width q p) ps (figures q t) in
    let d = turned_on ms ms' r r' (count_of ps) (codes_at q (width q p) p t) (length t) s h n (width q p) turned keeps es fn lc (omega arith) marked in (
      record {
        from_one = k.from_one;
        to_length = k.to_length;
        short = k.short;
        remembers = (hb.0, hb.1, longest);
        marked = d.1 ∙ ap (marks_for (count_of ps)) (sym cs) ∙ sym (row_by_codes (width q p) ps (figures q (t ++ (x ∷ []))));
      },
      d.0 ∙ ap (λ i. recalled (count_of ps) r i h) es ∙ ap (λ z. recalled (count_of ps) z (length t + 1) h) er
          ∙ ap (recalled (count_of ps) (rings_at q p t) (length t + 1)) eh ∙ sym (rings_step q p t x),
    )

module _ (q : ℕ) (p t : List ℕ) (m : Memory) (ms : List Mark) (size n : ℕ) (a : Answer) (k : Tracks q p t m ms) (em : size ≡ length p) (en : n ≡ length t)
    (off : ReadsOff size q n ms a) where
  least_of_row : Least (row_at q (width q p) p t) off.sum off.span
  least_of_row = subst (λ z. Least z off.sum off.span) k.marked off.least

  base : size - q + 1 ≡ length p + 1 - q
  base = let to = k.to_length in omega arith

  the_gap : (l : ℤ) (j b g : ℕ) → pos j ≡ pos b +ℤ l → GapOf (pos b +ℤ l) g → pos g ≡ pos b +ℤ l
  the_gap l j b g e (inl y) = let z = y.0 in absurd (omega (arith, ints))
  the_gap l j b g e (inr y) = y

  gap_is : pos a.gap ≡ pos (length p + 1 - q) +ℤ off.sum
  gap_is =
      let reached = reached_gap q p t off.sum off.span k.from_one least_of_row in
      the_gap off.sum _ _ _ (reached ∙ ap (λ i. pos i +ℤ off.sum) (sym base)) off.gap ∙ ap (λ i. pos i +ℤ off.sum) base

  pub tracks_closest : Closest q p t a.gap a.start
  tracks_closest =
      let es = off.start ∙ ap (λ i. max 1 (i + 2 - (q + off.span))) en in
      subst (Closest q p t a.gap) (sym es) (closest q p t off.sum off.span k.from_one least_of_row a.gap gap_is)

  pub small_gap : a.gap ≤ longest_phrase
  small_gap =
      let low = no_worse q p t off.sum off.span k.from_one least_of_row in
      let e = gap_is in
      let s = k.short in
      let f = k.from_one in
      omega (arith, ints)

map_plus : (w : ℕ) → map worth (replicate w Plus) ≡ replicate w (pos 1)
map_plus zero = refl
map_plus (suc w) = ap (λ zs. pos 1 ∷ zs) (map_plus w)

pub tracks_start : (q : ℕ) (p : List ℕ) (m : Memory) (ms : List Mark)
    → 1 ≤ q → q ≤ length p → length p ≤ longest_phrase → m ≡ held p q [] → ms ≡ replicate (width q p) Plus → Tracks q p [] m ms
tracks_start q p m ms a b s em es = record {
  from_one = a;
  to_length = b;
  short = s;
  remembers = ([], em, (every_reader_lem q p).at_start);
  marked = ap (map worth) es ∙ map_plus (width q p) ∙ sym (every_step q (width q p) p a (omega arith)).marks_start;
}
