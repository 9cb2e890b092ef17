-- Checks in order: what the first that fails says of all of them.
use Rattle.std.proofs.Common.{◌≡◌, ℕ, ◌+◌, ◌*◌, ◌≤◌, List, [], ◌∷◌, ◌++◌, length, inl, inr, ⊎_elim, arith, length-drop, length-take}
use Rattle.sheets.specs.declared.fault.SheetRefusal.{SheetRefusal}
use Rattle.sheets.specs.declared.kind.Kind.{Kind}
use Rattle.sheets.specs.Layout.{step_size}
use Rattle.sheets.specs.Order.{Check, AllPass, FirstFailing, section}

pub first_in : (ls ms : List Check) (e : SheetRefusal) → FirstFailing ls e → FirstFailing (ls ++ ms) e
first_in [] ms e f = absurd f
first_in (l ∷ ls) ms e f = ⊎_elim inl (λ g. inr (g.0, first_in ls ms e g.1)) f

pub first_after : (ls ms : List Check) (e : SheetRefusal) → AllPass ls → FirstFailing ms e → FirstFailing (ls ++ ms) e
first_after [] ms e p f = f
first_after (l ∷ ls) ms e p f = inr (p.0, first_after ls ms e p.1 f)

pub passed_both : (ls ms : List Check) → AllPass ls → AllPass ms → AllPass (ls ++ ms)
passed_both [] ms p q = q
passed_both (l ∷ ls) ms p q = (p.0, passed_both ls ms p.1 q)

pub not_both : (ls : List Check) (e : SheetRefusal) → AllPass ls → FirstFailing ls e → ⊥
not_both [] e p f = f
not_both (l ∷ ls) e p f = ⊎_elim (l.apart e p.0) (λ g. not_both ls e p.1 g.1) f

pub section_length : (k : Kind) (bs : List ℕ) (place n : ℕ) → place + n * step_size k ≤ length bs → length (section k bs place n) ≡ n * step_size k
section_length k bs place n h = simp (length-take, length-drop) (omega arith)
