use Rattle.std.proofs.Common.{refl, sym, ap}
use Rattle.ceu_syntax.specs.Steps as spec
use Rattle.ceu_grammar.proofs.Moved.{moves_as, gather_stops}
use Rattle.ceu_grammar.proofs.blocks.item_end.Goals as goal

pub returns-in-Ok : goal.returns-in-Ok
returns-in-Ok c = moves_as _ _ _ _ (ap (λ g. spec.resumed c.args.kind c.args.pos g) (sym c.in-Ok.ensures)) c.in_block.ensures

pub returns-in-Err : goal.returns-in-Err
returns-in-Err c = gather_stops _ _ _ _ (λ g. spec.resumed c.args.kind c.args.pos g) refl c.in-Err.ensures
