-- A table that is built and numbered is what a states reader keeps.
use Rattle.std.proofs.Common.{ℕ, ◌≤◌, List, length, sym, subst}
use Rattle.terms.specs.Figures.{figures}
use Rattle.readers.specs.declared.state.State.{State}
use Rattle.readers.specs.Table.{Node, nodes, Built, Codes, Counts, Numbered}
use Rattle.readers.specs.States.{Keeps}

pub keeps_built : (p : List ℕ) (q m : ℕ) (N : ℕ → Node) (ss : List State) (places counts : List ℕ) (codes : ℕ) → 1 ≤ q → Built p q 0 q m N places
    → Numbered p (figures q p) m N ss codes → Counts (figures q p) counts → Keeps p q 0 ss counts
keeps_built p q m N ss places counts codes h b c d =
    let f : Built p q 0 q m (nodes ss) places = subst (λ (M : ℕ → Node). Built p q 0 q m M places) (sym c.same) b in
    let g : Built p q 0 q (length ss) (nodes ss) places = subst (λ v. Built p q 0 q v (nodes ss) places) (sym c.as_many) f in
    record {
      some = h;
      inside = g.runs.some;
      runs = g.runs;
      short = g.short;
      complete = g.complete;
      codes = subst (λ v. Codes p (figures q p) v ss) (sym c.as_many) c.each;
      counted = d;
    }
