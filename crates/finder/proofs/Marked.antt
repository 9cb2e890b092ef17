-- The three ways of one step of the row.
use Rattle.std.proofs.Common.{◌≡◌, ℕ, ◌-◌, ◌<◌, ◌≤◌, List, map, length, set, pos, Ok, Err, Result, sym, ap, ◌∙◌, arith, MatchResult}
use Rattle.std.proofs.lemmas.List.{length-map}
use Rattle.terms.specs.Codes.{times, push, marks_for}
use Rattle.terms.proofs.Steps.{length_marks_of}
use Rattle.rows.specs.Rows.{worth, pushed, lifted}
use Rattle.rows.specs.declared.mark.Mark.{Mark}
use Rattle.rows.specs.declared.mark.Mark.TheVariants.{Plus, Minus}
use Rattle.finder.proofs.Entries.{LiftAt}
use Rattle.finder.proofs.Lifting.{turn_never, turn_none, turn_some}
use Rattle.finder.proofs.Bridge.{pushed_is, length_pushed, lifted_is}

pub accepted : {T E : Type 0} (r : Result T E) {P : Type 0} {Q : E → Type 0} → MatchResult r (λ _. P) Q → ((e : E) → Q e → ⊥) → P
accepted (Ok x) c n = c
accepted (Err e) c n = absurd (n e c)

module _ (ms : List Mark) (f : ℕ → ℕ) (cs : List ℕ) (h n w : ℕ) (wanted : f h ≡ n) (width : length cs ≡ w) (some : 0 < w) (marked : map worth ms ≡ marks_for f cs) where
  pub long : length ms ≡ w
  long = let a = length-map ms worth in let b = ap length marked in let c = length_marks_of f 0 cs in omega arith

  push_is : (m : Mark) → map worth (pushed m ms) ≡ push (worth m) (marks_for f cs)
  push_is m = let l = long in pushed_is m ms (omega arith) ∙ ap (push (worth m)) marked

  pub never_marked : (ms' : List Mark) → ms' ≡ pushed Plus ms → n ≡ 0 → map worth ms' ≡ marks_for f (push h cs)
  never_marked ms' e z = ap (map worth) e ∙ push_is Plus ∙ sym (turn_never f cs h n wanted z)

  pub none_marked : (ms' : List Mark) → ms' ≡ pushed Minus ms → (n ≡ 0 → ⊥) → times h (push h cs) ≤ n → map worth ms' ≡ marks_for f (push h cs)
  none_marked ms' e z t = ap (map worth) e ∙ push_is Minus ∙ sym (turn_none f cs h n wanted z t)

  pub some_marked : (ms' ms'' : List Mark) (age : ℕ) → ms' ≡ pushed Minus ms → ms'' ≡ lifted age ms' → (n ≡ 0 → ⊥) → LiftAt (push h cs) h n (w - 1 - age) → map worth ms'' ≡ marks_for f (push h cs)
  some_marked ms' ms'' age e e' z at =
      let l = long in
      let l' = ap length e ∙ length_pushed Minus ms in
      ap (map worth) e' ∙ lifted_is age ms' ∙ ap (λ k. set (map worth ms') (k - 1 - age) (pos 1)) (l' ∙ l)
      ∙ ap (λ zs. set zs (w - 1 - age) (pos 1)) (ap (map worth) e ∙ push_is Minus)
      ∙ sym (turn_some f cs h n wanted z (w - 1 - age) at)
