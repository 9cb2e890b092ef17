-- What a states reader means: its phrase, and the run of the state where it stands.
use Rattle.std.specs.Prelude.{◌≡◌, ℕ, ◌∷◌, [], ◌++◌}
use Rattle.terms.specs.Reading.{remembered}
use Rattle.readers.specs.declared.states.Walker.{Walker}
use Rattle.readers.specs.Hearing.{whole_state}
use Rattle.readers.specs.Memory.{Memory, held, Whole}
use Rattle.readers.specs.Table.{nodes, run}

abbrev pub walker_memory : Walker → Memory
walker_memory h = held h.sounds.items h.q (run h.sounds.items (nodes h.table.states.items h.here))

-- the state j is the longest end of the state where it stands and the sound x
abbrev pub Follows : Walker → ℕ → ℕ → Type 0
Follows h x j =
    run h.sounds.items (nodes h.table.states.items j)
    ≡ remembered h.q h.sounds.items (run h.sounds.items (nodes h.table.states.items h.here) ++ (x ∷ []))

-- the remembered end is a run of the phrase, at most q long
pub walker_whole : (h : Walker) → Whole (walker_memory h)
walker_whole h = whole_state _ _ _ _ _ h.kept
