use Rattle.std.proofs.Common.{sym, ap, ◌∙◌, List, get_or}
use Rattle.ceu_tree.specs.declared.kernel.KEvent.{KEvent}
use Rattle.ceu_low_flow.proofs.Adding.{event_there, no_event, number_none, number_some}
use Rattle.ceu_low_flow.proofs.search.event_number.Goals as goal

pub returns-in-None : goal.returns-in-None
returns-in-None c =
    let K = c.args.kernel.now in
    number_none K c.args.event (get_or K.events c.args.event no_event) (event_there K c.args.event K.events no_event c.requires.there)
    (ap (λ (es : List KEvent). (get_or es c.args.event no_event).code) (sym c.items.ensures) ∙ c.in-None.is)

pub returns-in-Some : goal.returns-in-Some
returns-in-Some c =
    let K = c.args.kernel.now in
    number_some K c.args.event c.in-Some.field-0 (get_or K.events c.args.event no_event) (event_there K c.args.event K.events no_event c.requires.there)
    (ap (λ (es : List KEvent). (get_or es c.args.event no_event).code) (sym c.items.ensures) ∙ c.in-Some.is)
