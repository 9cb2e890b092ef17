use Rattle.std.proofs.Common.{◌∙◌, arith, length-set}
use Rattle.finder.proofs.Recalling.{rewound_set, rewound_next}
use Rattle.finder.proofs.recent.Recent.clear.Goals as goal

pub loop-ring-preserved : goal.loop-ring-preserved
loop-ring-preserved c =
    let k = c.loop-ring.invariant in
    let within = c.loop-ring-test.true in (
      simp length-set k.0,
      rewound_set _ _ _ ∙ k.1,
      rewound_next _ _ _ (omega (arith, k.0, within)) k.2,
    )
