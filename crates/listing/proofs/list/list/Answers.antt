use Rattle.listing.specs.Listed.{of_refused}
use Rattle.listing.proofs.Accepting.{playable, listed}
use Rattle.listing.proofs.list.list.Goals as goal

pub play_sheet-requires : goal.play_sheet-requires
play_sheet-requires c = playable _ _ c.in-Ok.ensures

pub returns-in-Ok : goal.returns-in-Ok
returns-in-Ok c = listed _ _ c.in-Ok.ensures _ c.play_sheet.ensures

pub returns-in-Err : goal.returns-in-Err
returns-in-Err c = of_refused c.in-Err.e c.in-Err.ensures c.refused.ensures
