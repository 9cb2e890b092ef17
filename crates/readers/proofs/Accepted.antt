-- What an accepted load says of the phrase and the figure length.
use Rattle.std.proofs.Common.{◌≡◌, ℕ, ◌<◌, ◌≤◌, true, List, length, None, rules}
use Rattle.terms.specs.Refusals.{load_refusal, all_below_lem}
use Rattle.terms.specs.Limits.{longest_phrase, longest_figure}

pub record Accepted (reach : ℕ) (phrase : List ℕ) (q c : ℕ) : Type 0 where
  pub filled : 0 < length phrase
  pub fits : length phrase ≤ longest_phrase
  pub some : 1 ≤ q
  pub inside : q ≤ length phrase
  pub few : q ≤ longest_figure
  pub reached : q ≤ reach
  pub below : all_below_lem c phrase ≡ true

pub accepted : (reach : ℕ) (phrase : List ℕ) (q c : ℕ) → load_refusal reach phrase q c ≡ None → Accepted reach phrase q c
accepted reach phrase q c e = record {
  filled = search rules;
  fits = search rules;
  some = search rules;
  inside = search rules;
  few = search rules;
  reached = search rules;
  below = search rules;
}
