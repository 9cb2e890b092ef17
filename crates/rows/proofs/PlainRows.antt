-- The plain row: its marks added up one after another, from the newest backwards.
use Rattle.std.proofs.Common.{◌≡◌, ℕ, ◌+◌, ◌-◌, ◌<◌, ◌≤◌, true, List, [], ◌∷◌, ◌++◌, map, length, get_or, take, pos, negsuc, ◌≤ℤ◌, sym, ap, ◌∙◌, subst, rules, arith}
use Rattle.std.proofs.lemmas.Int.{ints}
use Rattle.std.proofs.lemmas.List.{length-map, length-append, length-take-le, append_assoc, get_or-take, get_or-map}
use Rattle.terms.specs.Marks.{Least}
use Rattle.rows.specs.declared.mark.Mark.{Mark}
use Rattle.rows.specs.declared.mark.Mark.TheVariants.{Plus, Minus}
use Rattle.rows.specs.declared.marks.Marks.{Marks}
use Rattle.rows.specs.Laws.{limit}
use Rattle.rows.specs.Marks.{leaf_of, no_marks, marks_joined, marks_valid}
use Rattle.rows.specs.MarkLaws.{marks_laws}
use Rattle.rows.specs.Rows.{worth}
use Rattle.rows.proofs.Tells.{Tells, tells_join}
use Rattle.rows.proofs.MarkRows.{leaf_valid, leaf_size, tells_none, tells_one}

-- What the loop knows where the marks `rest` are left and the newer ones are added up.
pub record Adding (xs rest : List Mark) (s : Marks) : Type 0 where
  pub newer : List Mark
  pub parts : rest ++ newer ≡ xs
  pub valid : marks_valid s ≡ true
  pub tells : Tells (map worth newer) s

pub adding_none : (xs : List Mark) (s : Marks) → s ≡ no_marks → Adding xs xs s
adding_none xs s e =
    subst (Adding xs xs) (sym e) (record { newer = []; parts = search rules; valid = marks_laws.valid_empty; tells = tells_none })

module _ (xs front : List Mark) (m : Mark) (s : Marks) (a : Adding xs (front ++ m ∷ []) s) (few : length xs ≤ limit) where
  module _ (l : Marks) (is : l ≡ leaf_of m) where
    -- what the join asks
    pub adding_asks : (marks_valid l ≡ true) × ((marks_valid s ≡ true) × (l.size + s.size ≤ limit))
    adding_asks =
        let t = a.tells in
        let n = t.size_is in
        let one : l.size ≡ 1 = ap (λ (x : Marks). x.size) is ∙ leaf_size m in
        let all = ap length a.parts in (
          ap marks_valid is ∙ leaf_valid m,
          (a.valid, omega (arith, one, length-map a.newer worth, length-append (front ++ m ∷ []) a.newer, length-append front (m ∷ []), all)),
        )

    pub adding_more : (r : Marks) → r ≡ marks_joined l s → Adding xs front r
    adding_more r e =
        let t : Tells (worth m ∷ []) l = subst (Tells (worth m ∷ [])) (sym is) (tells_one m) in
        subst (Adding xs front) (sym e) (record {
          newer = m ∷ a.newer;
          parts = sym (append_assoc front (m ∷ []) a.newer) ∙ a.parts;
          valid = marks_laws.valid_joined l s adding_asks.0 adding_asks.1.0 adding_asks.1.1;
          tells = tells_join (worth m ∷ []) (map worth a.newer) l s t a.tells;
        })

pub adding_all : (xs : List Mark) (s : Marks) → Adding xs [] s → Least (map worth xs) s.least s.span
adding_all xs s a = let t = a.tells in subst (λ ms. Least (map worth ms) s.least s.span) a.parts t.least_is

-- marks and their worth
pub worth_low : (m : Mark) → negsuc 0 ≤ℤ worth m
worth_low Plus = omega (arith, ints)
worth_low Minus = omega (arith, ints)

pub worth_high : (m : Mark) → worth m ≤ℤ pos 1
worth_high Plus = omega (arith, ints)
worth_high Minus = omega (arith, ints)

-- a mark of the row, counted from the newest
pub mark_at : (xs : List Mark) (len n : ℕ) → len ≤ length xs → n < len → worth (get_or xs (len - 1 - n) Plus) ≡ get_or (map worth (take len xs)) (length (map worth (take len xs)) - 1 - n) (pos 0)
mark_at xs len n h b =
    let t = length-take-le len xs h in
    let l : length (map worth (take len xs)) ≡ len = length-map (take len xs) worth ∙ t in
    ap worth (sym (get_or-take len xs (len - 1 - n) Plus (omega arith)))
    ∙ sym (get_or-map worth (take len xs) (len - 1 - n) Plus (pos 0) (omega arith))
    ∙ ap (λ k. get_or (map worth (take len xs)) (k - 1 - n) (pos 0)) (sym l)
