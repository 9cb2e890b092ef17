-- The table of the empty run alone, and how many states there are at most.
use Rattle.std.proofs.Common.{◌≡◌, ℕ, zero, suc, ◌+◌, ◌-◌, ◌<◌, ◌≤◌, List, [], ◌∷◌, get_or, take, drop, replicate, refl, ap, ◌∙◌, subst, inl, inr, add-one, arith}
use Rattle.std.proofs.lemmas.Bool.{cases_lt}
use Rattle.std.proofs.lemmas.List.{get_or-replicate, get_or_past, length-replicate}
use Rattle.readers.specs.Table.{Node, Built, run, most, Uncoded, blank}
use Rattle.terms.specs.Limits.{longest_phrase, most_states, longest_figure}

pub built_start : (p : List ℕ) (N : ℕ → Node) (places : List ℕ) → (N 0).at ≡ 0 → (N 0).len ≡ 0 → ((b : ℕ) → get_or places b 0 ≡ 0) → Built p 0 0 0 1 N places
built_start p N places a e f = record {
  runs = record {
    some = omega arith;
    root = e;
    inside = λ i h. let d : i ≡ 0 = omega arith in let u = ap (λ v. (N v).len) d in let w = ap (λ v. (N v).at) d in omega arith;
    made = λ i z h. absurd (omega arith);
    grows = λ i z h. absurd (omega arith);
    shorter_in = λ i z h. absurd (omega arith);
    shorter_is = λ i z h. absurd (omega arith);
    shrinks = λ i z h. absurd (omega arith);
    apart = λ i j h k u. omega arith;
  };
  short = λ i h. let d : i ≡ 0 = omega arith in let u = ap (λ v. (N v).len) d in omega arith;
  complete = λ i x h k. absurd (omega arith);
  done = λ b h. absurd (omega arith);
  todo = λ b h k. let z = f b in record {
    in_table = omega arith;
    len_is = ap (λ v. (N v).len) z ∙ e;
    run_is = ap (λ v. run p (N v)) z ∙ ap (λ v. take v (drop (N 0).at p)) e;
  };
}

pub zeros : (n b : ℕ) → get_or {A = ℕ} (replicate n 0) b 0 ≡ 0
zeros n b = elim (cases_lt b n) [ inl h ↦ get_or-replicate {A = ℕ} n b 0 0 h | inr h ↦ get_or_past {X = ℕ} (replicate n 0) b 0 (let k = length-replicate {A = ℕ} n 0 in omega arith) ]

most_grows : (l k : ℕ) → l ≤ k → most l ≤ most k
most_grows l zero h = let e : l ≡ 0 = omega arith in let f = ap most e in omega arith
most_grows l (suc k) h = elim (cases_lt l (suc k)) [
  | inl a ↦ let m = most_grows l k (omega arith) in omega arith
  | inr a ↦ let e : l ≡ suc k = omega arith in let f = ap most e in omega arith
]

-- the sum over the lengths is the limit
most_is : most longest_figure ≡ most_states
most_is = refl

pub most_below : (l : ℕ) → l ≤ longest_figure → most l ≤ most_states
most_below l h = subst (λ v. most l ≤ v) most_is (most_grows l longest_figure h)

pub room : (l : ℕ) → l < longest_figure → most l + (longest_phrase - l) ≤ most_states
room l h = most_below (suc l) h

pub most_more : (l : ℕ) → most (l + 1) ≡ most l + (longest_phrase - l)
most_more l = ap most (add-one l)

pub uncoded_start : Uncoded (blank ∷ [])
uncoded_start zero h = refl
uncoded_start (suc k) h = absurd (omega arith)
