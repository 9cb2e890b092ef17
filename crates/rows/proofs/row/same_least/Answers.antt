use Rattle.std.proofs.Common.{◌≡◌, eqb, map, sym, ap, ◌∙◌, w32, SFits, to_z, of_z, rules, eq-eqb, eqb-true}
use Rattle.std.proofs.lemmas.Int.{to_z-of_z}
use Rattle.terms.specs.Marks.{Least}
use Rattle.rows.specs.Rows.{worth}
use Rattle.rows.proofs.OneLeast.{alike}
use Rattle.rows.proofs.row.same_least.Goals as goal

pub returns-then-least-least_too : goal.returns-then-least-least_too
returns-then-least-least_too g c =
    let a = c.least-least.result in
    let b = c.least-least_too.result in
    let p : Least (map worth (g.A.Row.marks c.args.a.now)) a.0 a.1 = search rules in
    let q : Least (map worth (g.B.Row.marks c.args.b.now)) b.0 b.1 = search rules in
    let f : SFits w32 a.0 = search rules in
    let f' : SFits w32 b.0 = search rules in
    let s : a.0 ≡ b.0 = sym (to_z-of_z w32 a.0 f) ∙ ap (to_z w32) c.if-least-least_too.true ∙ to_z-of_z w32 b.0 f' in
    alike (g.A.Row.marks c.args.a.now) (g.B.Row.marks c.args.b.now) a.0 b.0 a.1 b.1
    p q (eqb a.1 b.1)
    (λ e. (s, eqb-true a.1 b.1 e)) (λ e d. eq-eqb a.1 b.1 d)

pub returns-else-least-least_too : goal.returns-else-least-least_too
returns-else-least-least_too g c =
    let a = c.least-least.result in
    let b = c.least-least_too.result in
    let p : Least (map worth (g.A.Row.marks c.args.a.now)) a.0 a.1 = search rules in
    let q : Least (map worth (g.B.Row.marks c.args.b.now)) b.0 b.1 = search rules in
    alike (g.A.Row.marks c.args.a.now) (g.B.Row.marks c.args.b.now) a.0 b.0 a.1 b.1
    p q (eqb (of_z w32 a.0) (of_z w32 b.0))
    (λ e. absurd (c.if-least-least_too.false (eqb-true (of_z w32 a.0) (of_z w32 b.0) e)))
    (λ e d. absurd (c.if-least-least_too.false (ap (of_z w32) e)))
