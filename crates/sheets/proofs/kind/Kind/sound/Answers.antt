use Rattle.sheets.proofs.kind.Kind.sound.Goals as goal

pub returns-in-Lanes : goal.returns-in-Lanes
returns-in-Lanes c = rw c.in-Lanes.is c.sound_of_bytes.ensures

pub returns-in-Masks : goal.returns-in-Masks
returns-in-Masks c = rw c.in-Masks.is c.sound_of_bytes-in-Masks.ensures

pub returns-in-Notes : goal.returns-in-Notes
returns-in-Notes c = rw c.in-Notes.is c.sound_of_bytes-in-Notes.ensures
