-- The rings of recent steps: for each code the numbers of the last steps at which it was heard, as many as its figure
-- stands in the phrase.
use Rattle.std.specs.Prelude.{ℕ, zero, suc, ◌+◌, ◌-◌, cond, ◌||◌, List, [], ◌∷◌, ◌++◌, map, replicate, Some, None, Option, ◌==◌, nat_lt, slice_index_or, slice_set}
use Rattle.terms.specs.Limits.{longest_phrase}
use Rattle.terms.specs.Figures.{figures}
use Rattle.terms.specs.Codes.{heard, count_of}
use Rattle.finder.specs.declared.recent.Recent.{Recent}
use Rattle.finder.specs.declared.recent.Ring.{Ring}

-- how many places the rings of the codes up to n take together, where that of the code h has f h
unfoldable pub before : (ℕ → ℕ) → ℕ → ℕ
before f zero = 0
before f (suc n) = before f n + f (suc n)

abbrev pub no_ring : Ring
no_ring = record { first = 0; next = 0 }

-- the rings of the codes 1 to n before the first step: they lie one after another
unfoldable pub rings_to : (ℕ → ℕ) → ℕ → List Ring
rings_to f zero = []
rings_to f (suc n) = rings_to f n ++ (record { first = before f n; next = 0 } ∷ [])

-- the rings before the first step; 0 stands for no step
abbrev pub laid : (ℕ → ℕ) → Recent
laid f = record { steps = replicate longest_phrase 0; rings = rings_to f longest_phrase }

-- a ring that is written from its first place on again
abbrev pub rewound : Ring → Ring
rewound g = record { first = g.first; next = 0 }

-- the same rings without any step
abbrev pub emptied : Recent → Recent
emptied r = record { steps = replicate longest_phrase 0; rings = map rewound r.rings }

-- the ring of the code h
abbrev pub ring_of : List Ring → ℕ → Ring
ring_of rs h = slice_index_or rs (h - 1) no_ring

-- behind the last of n places a ring goes on at its first
abbrev pub wrap : ℕ → ℕ → ℕ
wrap at n = cond (nat_lt at n) at 0

-- the place of the oldest step in the ring of the code h, which has n places; the next is written over it
abbrev pub oldest : Recent → ℕ → ℕ → ℕ
oldest r h n = (ring_of r.rings h).first + wrap (ring_of r.rings h).next n

abbrev pub noted : Recent → ℕ → ℕ → ℕ → Recent
noted r h n step = record {
  steps = slice_set r.steps (oldest r h n) step;
  rings = slice_set r.rings (h - 1) (record { first = (ring_of r.rings h).first; next = wrap (ring_of r.rings h).next n + 1 });
}

-- the rings after a step with the code h
abbrev pub recalled : (ℕ → ℕ) → Recent → ℕ → ℕ → Recent
recalled f r step h = cond (f h == 0) r (noted r h (f h) step)

-- the rings after steps with the codes cs, n steps being before them
unfoldable pub rings_on : (ℕ → ℕ) → ℕ → Recent → List ℕ → Recent
rings_on f n r [] = r
rings_on f n r (c ∷ cs) = rings_on f (n + 1) (recalled f r (n + 1) c) cs

-- the codes that are heard at the sounds xs, when t was heard before them
unfoldable pub codes_on : ℕ → List ℕ → List ℕ → List ℕ → List ℕ
codes_on q phrase t [] = []
codes_on q phrase t (x ∷ xs) = heard q phrase (t ++ (x ∷ [])) ∷ codes_on q phrase (t ++ (x ∷ [])) xs

-- the rings after the take t
abbrev pub rings_at : ℕ → List ℕ → List ℕ → Recent
rings_at q phrase t =
    rings_on (count_of (figures q phrase)) 0 (laid (count_of (figures q phrase))) (codes_on q phrase [] t)

-- the age of what happened at the step old, where there is one
abbrev pub age_at : ℕ → ℕ → Option ℕ
age_at step old = cond (old == 0 || nat_lt step old) None (Some (step - old))
