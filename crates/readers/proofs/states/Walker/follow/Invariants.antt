use Rattle.std.proofs.Common.{◌≡◌, ◌<◌, [], ◌∷◌, ◌++◌, length}
use Rattle.terms.specs.Reading.{remembered}
use Rattle.readers.specs.Table.{nodes, run}
use Rattle.readers.proofs.states.Walker.follow.Given as goal

abbrev pub invariant-loop-child : goal.invariant-loop-child
invariant-loop-child l =
    (l.at < length l.self.table.states.items)
    × (remembered l.self.q l.self.sounds.items (run l.self.sounds.items (nodes l.self.table.states.items l.at) ++ (l.sound ∷ []))
    ≡ remembered l.self.q l.self.sounds.items (run l.self.sounds.items (nodes l.self.table.states.items l.self.here) ++ (l.sound ∷ [])))

abbrev pub decreases-loop-child : goal.decreases-loop-child
decreases-loop-child l = (nodes l.self.table.states.items l.at).len
