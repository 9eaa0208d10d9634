use Rattle.std.proofs.Common.{sym, ap, ◌∙◌, List, get_or}
use Rattle.ceu_tree.specs.declared.kernel.KEvent.{KEvent}
use Rattle.ceu_shape.specs.Searches.{ty_of_event}
use Rattle.ceu_low_flow.proofs.Adding.{event_there, no_event}
use Rattle.ceu_low_flow.proofs.search.event_ty.Goals as goal

pub returns : goal.returns
returns c =
    ap (λ (es : List KEvent). (get_or es c.args.event no_event).ty) c.items.ensures ∙ sym (ap ty_of_event (event_there c.args.kernel.now c.args.event c.args.kernel.now.events no_event c.requires))
