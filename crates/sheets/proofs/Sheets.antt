-- The bytes that pass every check are the sheets of contents in the limits.
use Rattle.std.proofs.Common.{◌≡◌, ℕ, ◌+◌, ◌*◌, ◌/◌, ◌%◌, ◌<◌, ◌≤◌, List, [], ◌∷◌, ◌++◌, length, get_or, take, drop, sym, refl, ap, ◌∙◌, subst, arith, rules, length-append, length-drop, take-append-drop}
use Rattle.std.proofs.lemmas.List.{drop-drop, take_at, drop_at, take_all, get_or-drop}
use Rattle.std.specs.List.{flat_map}
use Rattle.sheets.specs.declared.kind.Kind.{Kind}
use Rattle.sheets.specs.declared.kind.Kind.TheVariants.{Lanes, Masks, Notes}
use Rattle.sheets.specs.Layout.{AllSteps, Lettered, letter_of, kind_at, step_size, StepOf, bytes_of, two, four, Content, Allowed, sheet_of}
use Rattle.sheets.specs.Order.{AllPass, section, phrase_count, take_count, count_place, take_place, take_steps, checks_at, sheet_checks}
use Rattle.sheets.proofs.Checks.{section_length}
use Rattle.sheets.proofs.Rows.{gathered, joined_length, spread}

pub known : (k : Kind) → kind_at (letter_of k) ≡ k
known Lanes = refl
known Masks = refl
known Notes = refl

-- the kind that has a letter is the one that the letter is read as
pub lettered : (c : ℕ) → Lettered c → letter_of (kind_at c) ≡ c
lettered c l = ap letter_of (ap kind_at (sym l.1) ∙ known l.0) ∙ l.1

pub sized : (k : Kind) (s : StepOf k) → length (bytes_of k s) ≡ step_size k
sized Lanes s = refl
sized Masks s = refl
sized Notes s = refl

-- a list with four and more elements
front : (bs : List ℕ) → 4 ≤ length bs → get_or bs 0 0 ∷ get_or bs 1 0 ∷ get_or bs 2 0 ∷ get_or bs 3 0 ∷ drop 4 bs ≡ bs
front [] h = absurd (omega arith)
front (a ∷ []) h = absurd (omega arith)
front (a ∷ b ∷ []) h = absurd (omega arith)
front (a ∷ b ∷ d ∷ []) h = absurd (omega arith)
front (a ∷ b ∷ d ∷ e ∷ bs) h = refl

two_is : (a b : ℕ) → a < 256 → two (a + 256 * b) ≡ a ∷ b ∷ []
two_is a b h =
    let p : (a + 256 * b) % 256 ≡ a = omega arith in
    let q : (a + 256 * b) / 256 ≡ b = omega arith in
    cc

four_is : (a b d e : ℕ) → a < 256 → b < 256 → d < 256 → four (a + 256 * b + 65536 * d + 16777216 * e) ≡ a ∷ b ∷ d ∷ e ∷ []
four_is a b d e h i j =
    let n : ℕ = a + 256 * b + 65536 * d + 16777216 * e in
    let p : n % 256 ≡ a = omega arith in
    let v : n / 256 ≡ b + 256 * (d + 256 * e) = omega arith in
    let q : n / 256 % 256 ≡ b = rw v (omega arith) in
    let u : n / 65536 ≡ d + 256 * e = omega arith in
    let r : n / 65536 % 256 ≡ d = rw u (omega arith) in
    let s : n / 16777216 ≡ e = omega arith in
    cc

-- the parts of a sheet, put together from its end
assembled : (a q m m' n n' : ℕ) (J J' L L' C D bs : List ℕ) → m ≡ m' → n ≡ n' → J ≡ J' → L ≡ L' → four n' ++ L' ≡ C → J' ++ C ≡ D → a ∷ q ∷ (two m' ++ D) ≡ bs → a ∷ q ∷ (two m ++ (J ++ (four n ++ L))) ≡ bs
assembled a q m m' n n' J J' L L' C D bs em en ej el ec ed eb =
    (λ i. a ∷ q ∷ (two (em i) ++ (ej i ++ (four (en i) ++ el i)))) ∙ ap (λ l. a ∷ q ∷ (two m' ++ (J' ++ l))) ec ∙ ap (λ l. a ∷ q ∷ (two m' ++ l)) ed ∙ eb

module _ (k : Kind) (bs : List ℕ) (small : (i : ℕ) → get_or bs i 0 < 256) where
  -- what follows the take count is the take
  tail_is : take_place k bs + take_steps k bs * step_size k ≤ length bs → length bs ≤ take_place k bs + take_steps k bs * step_size k → section k bs (take_place k bs) (take_steps k bs) ≡ drop (take_place k bs) bs
  tail_is h g = take_all _ _ (omega (arith, length-drop (take_place k bs) bs))

  count_is : take_place k bs ≤ length bs → four (take_steps k bs) ++ drop (take_place k bs) bs ≡ drop (count_place k bs) bs
  count_is h =
      let p : ℕ = count_place k bs in
      let rest = drop p bs in
      let long : 4 ≤ length rest = omega (arith, length-drop p bs) in
      let digits = four_is (get_or bs p 0) (get_or bs (p + 1) 0) (get_or bs (p + 2) 0) (get_or bs (p + 3) 0) (small p) (small (p + 1)) (small (p + 2)) in
      let a : get_or rest 0 0 ≡ get_or bs p 0 = get_or-drop p bs 0 0 ∙ ap (λ i. get_or bs i 0) (omega arith) in
      let b : get_or rest 1 0 ≡ get_or bs (p + 1) 0 = get_or-drop p bs 1 0 in
      let d : get_or rest 2 0 ≡ get_or bs (p + 2) 0 = get_or-drop p bs 2 0 in
      let e : get_or rest 3 0 ≡ get_or bs (p + 3) 0 = get_or-drop p bs 3 0 in
      let f : drop 4 rest ≡ drop (p + 4) bs = drop-drop 4 p bs in
      let g = front rest long in
      ap (λ l. l ++ drop (p + 4) bs) digits ∙ cc

  phrase_is : 4 + phrase_count bs * step_size k ≤ length bs → section k bs 4 (phrase_count bs) ++ drop (count_place k bs) bs ≡ drop 4 bs
  phrase_is h = ap (λ l. section k bs 4 (phrase_count bs) ++ l) (sym (drop-drop (phrase_count bs * step_size k) 4 bs)) ∙ take-append-drop (phrase_count bs * step_size k) (drop 4 bs)

  head_is : letter_of k ≡ get_or bs 0 0 → 4 ≤ length bs → letter_of k ∷ get_or bs 1 0 ∷ (two (phrase_count bs) ++ drop 4 bs) ≡ bs
  head_is e h =
      let d = two_is (get_or bs 2 0) (get_or bs 3 0) (small 2) in
      ap (λ l. letter_of k ∷ get_or bs 1 0 ∷ (l ++ drop 4 bs)) d ∙ ap (λ a. a ∷ get_or bs 1 0 ∷ get_or bs 2 0 ∷ get_or bs 3 0 ∷ drop 4 bs) e ∙ front bs h

  -- what passes every check is the sheet of a content
  pub record Held : Type 0 where
    pub phrase : List (StepOf k)
    pub played : List (StepOf k)
    pub phrase_bytes : flat_map (bytes_of k) phrase ≡ section k bs 4 (phrase_count bs)
    pub phrase_length : length phrase ≡ phrase_count bs
    pub played_bytes : flat_map (bytes_of k) played ≡ section k bs (take_place k bs) (take_steps k bs)
    pub played_length : length played ≡ take_steps k bs
    pub bytes : sheet_of (record { kind = k; figure = get_or bs 1 0; phrase = phrase; played = played }) ≡ bs

  pub held : letter_of k ≡ get_or bs 0 0 → AllPass (checks_at k bs) → Held
  held e p =
      let head = p.1.1 in
      let first = head.1.1.1.1 in
      let count = first.1.1 in
      let last = count.1.1 in
      let ph = gathered (bytes_of k) (step_size k) (phrase_count bs) (section k bs 4 (phrase_count bs)) (section_length k bs 4 (phrase_count bs) first.0) first.1.0 in
      let pl = gathered (bytes_of k) (step_size k) (take_steps k bs) (section k bs (take_place k bs) (take_steps k bs)) (section_length k bs (take_place k bs) (take_steps k bs) last.0) last.1.0 in
      let one = tail_is last.0 last.1.1.0 in
      let two' = count_is count.0 in
      let three = phrase_is first.0 in
      let four' = head_is e head.0 in
      record {
        phrase = ph.0;
        played = pl.0;
        phrase_bytes = ph.1;
        phrase_length = ph.2;
        played_bytes = pl.1;
        played_length = pl.2;
        bytes = assembled _ _ _ _ _ _ _ _ _ _ _ _ _ ph.2 pl.2 ph.1 (pl.1 ∙ one) two' three four';
      }

-- the four bytes of a number, read back
four_back : (n : ℕ) → n % 256 + 256 * (n / 256 % 256) + 65536 * (n / 65536 % 256) + 16777216 * (n / 16777216) ≡ n
four_back n =
    let a : n / 65536 ≡ n / 256 / 256 = omega arith in
    let b : n / 16777216 ≡ n / 65536 / 256 = omega arith in
    omega (arith, a, b)

-- the sheet of a content in the limits passes every check
module _ (k : Kind) (q : ℕ) (ph pl : List (StepOf k)) where
  abbrev content : Content
  content = record { kind = k; figure = q; phrase = ph; played = pl }

  abbrev sheet : List ℕ
  sheet = sheet_of content

  abbrev phrase_row : List ℕ
  phrase_row = flat_map (bytes_of k) ph

  abbrev played_row : List ℕ
  played_row = flat_map (bytes_of k) pl

  count_two : phrase_count sheet ≡ length ph
  count_two = omega arith

  phrase_long : length phrase_row ≡ length ph * step_size k
  phrase_long = joined_length (bytes_of k) (step_size k) (sized k) ph

  played_long : length played_row ≡ length pl * step_size k
  played_long = joined_length (bytes_of k) (step_size k) (sized k) pl

  pub long : length sheet ≡ 8 + length ph * step_size k + length pl * step_size k
  long = omega (arith, phrase_long, played_long, length-append phrase_row (four (length pl) ++ played_row))

  at_count : drop (4 + length ph * step_size k) sheet ≡ four (length pl) ++ played_row
  at_count = sym (drop-drop (length ph * step_size k) 4 sheet) ∙ drop_at phrase_row (four (length pl) ++ played_row) (length ph * step_size k) phrase_long

  at_take : drop (4 + length ph * step_size k + 4) sheet ≡ played_row
  at_take = sym (drop-drop 4 (4 + length ph * step_size k) sheet) ∙ ap (drop 4) at_count

  byte_at : (i : ℕ) → get_or sheet (4 + length ph * step_size k + i) 0 ≡ get_or (four (length pl) ++ played_row) i 0
  byte_at i = sym (get_or-drop (4 + length ph * step_size k) sheet i 0) ∙ ap (λ l. get_or l i 0) at_count

  count_four : take_count sheet (4 + length ph * step_size k) ≡ length pl
  count_four =
      let p : ℕ = 4 + length ph * step_size k in
      let z : p ≡ p + 0 = omega arith in
      let a : get_or sheet p 0 ≡ length pl % 256 = ap (λ i. get_or sheet i 0) z ∙ byte_at 0 in
      (λ i. a i + 256 * byte_at 1 i + 65536 * byte_at 2 i + 16777216 * byte_at 3 i) ∙ four_back (length pl)

  place : count_place k sheet ≡ 4 + length ph * step_size k
  place = ap (λ m. 4 + m * step_size k) count_two

  taken : take_steps k sheet ≡ length pl
  taken = ap (take_count sheet) place ∙ count_four

  sound_phrase : AllSteps (bytes_of k) (step_size k) (section k sheet 4 (phrase_count sheet)) (phrase_count sheet)
  sound_phrase =
      subst (λ m. AllSteps (bytes_of k) (step_size k) (section k sheet 4 m) m) (sym count_two)
      (subst (λ b. AllSteps (bytes_of k) (step_size k) b (length ph)) (sym (take_at phrase_row (four (length pl) ++ played_row) (length ph * step_size k) phrase_long)) (spread (bytes_of k) (step_size k) (sized k) ph))

  take_part : section k sheet (take_place k sheet) (length pl) ≡ played_row
  take_part = ap (λ p. section k sheet (p + 4) (length pl)) place ∙ ap (take (length pl * step_size k)) at_take ∙ take_all (length pl * step_size k) played_row (omega (arith, played_long))

  sound_take : AllSteps (bytes_of k) (step_size k) (section k sheet (take_place k sheet) (take_steps k sheet)) (take_steps k sheet)
  sound_take =
      subst (λ n. AllSteps (bytes_of k) (step_size k) (section k sheet (take_place k sheet) n) n) (sym taken)
      (subst (λ b. AllSteps (bytes_of k) (step_size k) b (length pl)) (sym take_part) (spread (bytes_of k) (step_size k) (sized k) pl))

  end_at : take_place k sheet + take_steps k sheet * step_size k ≡ length sheet
  end_at = (λ i. place i + 4 + taken i * step_size k) ∙ omega (arith, long)

  pub passes : Allowed content → AllPass (checks_at k sheet)
  passes a =
      let letter : Lettered (letter_of k) = (k, refl) in
      let there : 4 + phrase_count sheet * step_size k ≤ length sheet = rw count_two (omega (arith, long)) in
      let counted : count_place k sheet + 4 ≤ length sheet = rw place (omega (arith, long)) in
      search (rules, count_two, taken, long, sound_phrase, sound_take, end_at)

pub all_pass : (c : Content) → Allowed c → AllPass (sheet_checks (sheet_of c))
all_pass c a = subst (λ k. AllPass (checks_at k (sheet_of c))) (sym (known c.kind)) (passes c.kind c.figure c.phrase c.played a)
