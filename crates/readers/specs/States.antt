-- How far a states reader reaches, and what it keeps true while it holds a phrase p.
use Rattle.std.specs.Prelude.{ℕ, ◌<◌, ◌≤◌, cond, List, length, ◌==◌}
use Rattle.terms.specs.Figures.{figures}
use Rattle.terms.specs.Limits.{longest_figure}
use Rattle.readers.specs.declared.state.State.{State}
use Rattle.readers.specs.Table.{nodes, Runs, Complete, Codes, Counts}

-- every figure that a phrase may have; without sounds there is none
abbrev pub states_reach_lem : ℕ → ℕ
states_reach_lem c = cond (c == 0) 0 longest_figure

-- one state for each different run of 0 to q sounds of the phrase p, each with its code
pub record Keeps (p : List ℕ) (q here : ℕ) (ss : List State) (counts : List ℕ) : Type 0 where
  pub some : 1 ≤ q
  pub inside : here < length ss
  pub runs : Runs p (length ss) (nodes ss)
  pub short : (i : ℕ) → i < length ss → (nodes ss i).len ≤ q
  pub complete : Complete p q (length ss) (nodes ss)
  pub codes : Codes p (figures q p) (length ss) ss
  pub counted : Counts (figures q p) counts
