-- The checks decide the refusal: no two refusals are the first that fails.
use Rattle.std.proofs.Common.{◌≡◌, ℕ, ◌+◌, ◌*◌, ◌≤◌, List, [], ◌∷◌, sym, ap, ◌∙◌, ⊎_elim, arith}
use Rattle.std.proofs.str.Laws.{order}
use Rattle.terms.specs.declared.refusal.Refusal.{Refusal}
use Rattle.sheets.specs.declared.fault.SheetRefusal.{SheetRefusal}
use Rattle.sheets.specs.declared.kind.Kind.{Kind}
use Rattle.sheets.specs.Layout.{step_size}
use Rattle.sheets.specs.Order.{Check, check, steps, FirstFailing, checks_at, kind_of, sheet_checks, Decided}

abbrev Once : Check → Type 0
Once l = (e e' : SheetRefusal) → l.fails e → l.fails e' → e ≡ e'

abbrev AllOnce : List Check → Type 0
AllOnce [] = Unit {0}
AllOnce (l ∷ ls) = Once l × AllOnce ls

first_once : (ls : List Check) → AllOnce ls → (e e' : SheetRefusal) → FirstFailing ls e → FirstFailing ls e' → e ≡ e'
first_once [] h e e' f f' = absurd f
first_once (l ∷ ls) h e e' f f' =
    ⊎_elim
    (λ a. ⊎_elim (λ b. h.0 e e' a b) (λ b. absurd (l.apart e b.0 a)) f')
    (λ a. ⊎_elim (λ b. absurd (l.apart e' a.0 b)) (λ b. first_once ls h.1 e e' a.1 b.1) f')
    f

same : (e e' : SheetRefusal) → e.cause ≡ e'.cause → e.place ≡ e'.place → e ≡ e'
same e e' p q i = record { cause = p i; place = q i }

once_check : (P : Type 0) (cause : Refusal) (place : ℕ) → Once (check P cause place)
once_check P cause place e e' f f' = same e e' (f.1 ∙ sym f'.1) (f.2 ∙ sym f'.2)

once_steps : (k : Kind) (bs : List ℕ) (place n : ℕ) → Once (steps k bs place n)
once_steps k bs place n e e' f f' =
    let i : ℕ = f.0 in
    let j : ℕ = f'.0 in
    let low : j ≤ i = ⊎_elim (λ h. absurd (f.3 (f'.2 i h))) (λ h. h) (order i j) in
    let high : i ≤ j = ⊎_elim (λ h. absurd (f'.3 (f.2 j h))) (λ h. h) (order j i) in
    let eq : i ≡ j = omega arith in
    same e e' (f.4 ∙ sym f'.4) (f.5 ∙ ap (λ m. place + m * step_size k) eq ∙ sym f'.5)

all_once : (k : Kind) (bs : List ℕ) → AllOnce (checks_at k bs)
all_once k bs = search (once_check, once_steps)

pub decided : Decided
decided bs = first_once (sheet_checks bs) (all_once (kind_of bs) bs)
