use Rattle.ceu_top.proofs.Answering.{both_shown, first_broken}
use Rattle.ceu_top.proofs.writing.show_listing.Goals as goal

pub returns-in-Ok : goal.returns-in-Ok
returns-in-Ok g c = both_shown _ _ _ c.listing.result _ _ _ _ _ _ c.in-Ok.ensures.whole c.in-Ok.ensures.cause c.listing.ensures.whole c.listing.ensures.front c.listing.ensures.cause c.status_of.ensures

pub returns-in-Err : goal.returns-in-Err
returns-in-Err g c = first_broken _ _ _ _ _ _ c.in-Err.ensures.front c.in-Err.ensures.cause
