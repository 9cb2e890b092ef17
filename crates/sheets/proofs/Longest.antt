-- How long a sheet can be.
use Rattle.std.proofs.Common.{◌≡◌, ◌≤◌, List, length, replicate, ◌∙◌, arith, lit≤}
use lib.ListN.{length-replicate}
use Rattle.std.proofs.lemmas.Nat.{mul-le}
use Rattle.steps.specs.declared.note.Note.{Note}
use Rattle.terms.specs.Limits.{longest_phrase, longest_listed, widest_step}
use Rattle.sheets.specs.declared.kind.Kind.{Kind}
use Rattle.sheets.specs.declared.kind.Kind.TheVariants.{Lanes, Masks, Notes}
use Rattle.sheets.specs.Layout.{step_size, Content, LongestSheet}
use Rattle.sheets.proofs.Sheets.{long}

narrow : (k : Kind) → step_size k ≤ widest_step
narrow Lanes = lit≤ tt
narrow Masks = lit≤ tt
narrow Notes = lit≤ tt

plain : Note
plain = record { pad = 0; velocity = 0; shift = 0 }

phrase : List Note
phrase = replicate longest_phrase plain

played : List Note
played = replicate longest_listed plain

abbrev widest : Content
widest = record { kind = Notes; figure = 1; phrase = phrase; played = played }

pub longest_sheets : LongestSheet
unfolding phrase played
longest_sheets =
    let m : length phrase ≡ longest_phrase = length-replicate longest_phrase plain in
    let n : length played ≡ longest_listed = length-replicate longest_listed plain in
    record {
      none_longer = λ c a.
          let l = long c.kind c.figure c.phrase c.played in
          let x = mul-le (length c.phrase) (step_size c.kind) longest_phrase widest_step a.short (narrow c.kind) in
          let y = mul-le (length c.played) (step_size c.kind) longest_listed widest_step a.played_most (narrow c.kind) in
          omega arith;
      content = widest;
      allowed = record {
        some = omega arith;
        short = omega arith;
        figure_some = lit≤ tt;
        figure_most = lit≤ tt;
        figure_fits = omega arith;
        played_most = omega arith;
      };
      as_long = long Notes 1 phrase played ∙ omega arith;
    }
