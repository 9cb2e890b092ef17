-- The parts of a row, cut off its front one after the other.
use Rattle.std.proofs.Common.{◌≡◌, ℕ, ◌+◌, ◌-◌, ◌*◌, ◌<◌, ◌≤◌, List, ◌++◌, length, take, drop, sym, ap, ◌∙◌, add-mul, one-mul, arith, length-append, length-drop}
use Rattle.std.proofs.lemmas.List.{take_at, drop_at, drop-drop}
use Rattle.std.proofs.lemmas.Nat.{mul-le}
use Rattle.sheets.specs.Layout.{part}

module _ (w n : ℕ) (bs left x more : List ℕ) (rest : left ≡ drop (n * w) bs) (cut : left ≡ x ++ more) (long : length x ≡ w) where
  pub cut_is : x ≡ part w bs n
  cut_is = sym (take_at x more w long) ∙ ap (take w) (sym cut ∙ rest)

  pub cut_more : more ≡ drop ((n + 1) * w) bs
  cut_more =
      let next : n * w + w ≡ (n + 1) * w = omega (arith, add-mul n 1 w, one-mul w) in
      sym (drop_at x more w long) ∙ ap (drop w) (sym cut ∙ rest) ∙ drop-drop w (n * w) bs ∙ ap (λ m. drop m bs) next

  pub cut_below : (count : ℕ) → length bs ≡ count * w → 1 ≤ w → n < count
  cut_below count all some =
      let here : length left ≡ length bs - n * w = ap length rest ∙ length-drop (n * w) bs in
      let front : length left ≡ length x + length more = ap length cut ∙ length-append x more in
      let low : count ≤ n → count * w ≤ n * w = λ h. mul-le count w n w h (omega arith) in
      grind (arith, low)
