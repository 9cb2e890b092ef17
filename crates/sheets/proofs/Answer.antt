-- The reader's two answers.
use Rattle.std.proofs.Common.{◌≡◌, ℕ, ◌+◌, ◌*◌, ◌<◌, List, length, get_or, ap, ◌∙◌, subst, arith, rules}
use Rattle.sheets.specs.declared.fault.SheetRefusal.{SheetRefusal}
use Rattle.sheets.specs.declared.parts.Sheet.{Sheet}
use Rattle.sheets.specs.Order.{Check, AllPass, FirstFailing, section, phrase_count, count_place, take_place, take_steps, kind_of, sheet_checks, head_checks, section_checks, count_checks, end_checks}
use Rattle.sheets.specs.Shown.{IsPhrase, IsTake, Accepted, Refused}
use Rattle.sheets.specs.Layout.{step_size}
use Rattle.sheets.proofs.Checks.{not_both, section_length}
use Rattle.sheets.proofs.Sheets.{held, all_pass, lettered}

pub refused : (bs : List ℕ) (e : SheetRefusal) → FirstFailing (sheet_checks bs) e → Refused bs e
refused bs e f = record { first = f; none = λ c a eq. not_both (sheet_checks bs) e (subst (λ b. AllPass (sheet_checks b)) eq (all_pass c a)) f }

pub at_head : (bs : List ℕ) (e : SheetRefusal) → FirstFailing (head_checks bs) e → Refused bs e
at_head bs e f = refused bs e (search (rules, f))

pub accepted : (bs : List ℕ) → ((i : ℕ) → get_or bs i 0 < 256) → AllPass (sheet_checks bs) → (s : Sheet) → s.kind ≡ kind_of bs → s.figure ≡ get_or bs 1 0 → IsPhrase s.phrase 4 (phrase_count bs) (section (kind_of bs) bs 4 (phrase_count bs)) → IsTake s.played (take_place (kind_of bs) bs) (take_steps (kind_of bs) bs) (section (kind_of bs) bs (take_place (kind_of bs) bs) (take_steps (kind_of bs) bs)) → Accepted bs s
accepted bs small p s ek ef isp ist =
    let k = kind_of bs in
    let h = held k bs small (lettered (get_or bs 0 0) p.1.0) p in
    let head = p.1.1 in
    let first = head.1.1.1.1 in
    let many = h.phrase_length in
    let fits : 8 + length (section k bs 4 (phrase_count bs)) ≡ take_place k bs = omega (arith, section_length k bs 4 (phrase_count bs) first.0) in
    let place = ap (λ l. 8 + length l) h.phrase_bytes ∙ fits in
    record {
      content = record { kind = k; figure = get_or bs 1 0; phrase = h.phrase; played = h.played };
      allowed = search (rules, head, many, h.played_length);
      bytes = h.bytes;
      kind = ek;
      figure = ef;
      phrase = rw (many, h.phrase_bytes) isp;
      played = rw (place, h.played_length, h.played_bytes) ist;
    }

-- the reader on its way, each stage before it passed
module _ (bs : List ℕ) where
  abbrev phrase : List Check
  phrase = section_checks (kind_of bs) bs 4 (phrase_count bs)

  abbrev count : List Check
  count = count_checks bs (count_place (kind_of bs) bs)

  abbrev played : List Check
  played = section_checks (kind_of bs) bs (take_place (kind_of bs) bs) (take_steps (kind_of bs) bs)

  abbrev end : List Check
  end = end_checks bs (take_place (kind_of bs) bs + take_steps (kind_of bs) bs * step_size (kind_of bs))

  module _ (head : AllPass (head_checks bs)) where
    pub at_phrase : (e : SheetRefusal) → FirstFailing phrase e → Refused bs e
    at_phrase e f = refused bs e (search (rules, head, f))

    module _ (ph : AllPass phrase) where
      pub at_count : (e : SheetRefusal) → FirstFailing count e → Refused bs e
      at_count e f = refused bs e (search (rules, head, ph, f))

      module _ (ct : AllPass count) where
        pub at_played : (e : SheetRefusal) → FirstFailing played e → Refused bs e
        at_played e f = refused bs e (search (rules, head, ph, ct, f))

        module _ (pl : AllPass played) where
          pub at_end : (e : SheetRefusal) → FirstFailing end e → Refused bs e
          at_end e f = refused bs e (search (rules, head, ph, ct, pl, f))

          pub all_through : AllPass end → AllPass (sheet_checks bs)
          all_through f = search (rules, head, ph, ct, pl, f)
