use Rattle.std.proofs.Common.{◌≡◌, map, length, take}
use Rattle.terms.specs.Limits.{longest_phrase}
use Rattle.finder.specs.Recent.{rewound}
use Rattle.finder.proofs.recent.Recent.clear.Given as goal

abbrev pub invariant-loop-ring : goal.invariant-loop-ring
invariant-loop-ring l =
    (length l.ring-items ≡ longest_phrase)
    × (map rewound l.ring-items ≡ map rewound l.initial.ring-items)
    × (take l.ring-index l.ring-items ≡ map rewound (take l.ring-index l.ring-items))
