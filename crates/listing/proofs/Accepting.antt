-- From an accepted sheet to its lines.
use Rattle.std.proofs.Common.{◌≡◌, ℕ, List, map, sym, subst, arith}
use Rattle.std.specs.List.{flat_map}
use Rattle.sheets.specs.declared.kind.Kind.{Kind}
use Rattle.sheets.specs.declared.parts.Part.{Part}
use Rattle.sheets.specs.declared.parts.Section.{Section}
use Rattle.sheets.specs.declared.parts.Section.TheVariants.{Phrase, Take}
use Rattle.sheets.specs.declared.parts.Sheet.{Sheet}
use Rattle.sheets.specs.Layout.{bytes_of, sound_of}
use Rattle.sheets.specs.Shown.{Accepted, IsPhrase, IsTake, part_of}
use Rattle.listing.specs.declared.line.Line.{Line}
use Rattle.listing.specs.Listed.{BytesPlayed, Listed, PlayedLines, Playable, SheetPlayable, SheetPlayed, of_sheet}

phrase_bytes : (s : Section) (place n : ℕ) (bs : List ℕ) → IsPhrase s place n bs → (part_of s).bytes.now ≡ bs
phrase_bytes (Phrase p) place n bs h = h.2
phrase_bytes (Take p) place n bs h = absurd h

take_bytes : (s : Section) (place n : ℕ) (bs : List ℕ) → IsTake s place n bs → (part_of s).bytes.now ≡ bs
take_bytes (Phrase p) place n bs h = absurd h
take_bytes (Take p) place n bs h = h.2

module _ (bs : List ℕ) (s : Sheet) (a : Accepted bs s) where
  abbrev p : Part
  p = part_of s.phrase

  abbrev t : Part
  t = part_of s.played

  abbrev k : Kind
  k = a.content.kind

  phrase_is : flat_map (bytes_of k) a.content.phrase ≡ p.bytes.now
  phrase_is = sym (phrase_bytes s.phrase _ _ _ a.phrase)

  take_is : flat_map (bytes_of k) a.content.played ≡ t.bytes.now
  take_is = sym (take_bytes s.played _ _ _ a.played)

  pub playable : SheetPlayable s
  playable =
      let f = a.figure in
      let al = a.allowed in
      subst (λ (j : Kind). Playable (bytes_of j) s.figure p.bytes.now t.bytes.now) (sym a.kind)
      (record {
        phrase = a.content.phrase;
        played = a.content.played;
        phrase_bytes = phrase_is;
        played_bytes = take_is;
        limits = record {
          from_one = omega arith;
          to_longest = omega arith;
          to_phrase = omega arith;
          short = omega arith;
          few = omega arith;
        };
      })

  pub listed : (ls : List Line) → SheetPlayed s ls → Listed bs ls
  listed ls f =
      let g = subst (λ (j : Kind). BytesPlayed (bytes_of j) (sound_of j) s.figure p.bytes.now t.bytes.now ls) a.kind f in
      of_sheet a.content a.allowed a.bytes
      (subst (λ q. PlayedLines q (map (sound_of k) a.content.phrase) (map (sound_of k) a.content.played) ls) a.figure
      (g a.content.phrase a.content.played phrase_is take_is))
