use Rattle.std.proofs.lemmas.Result.{err_from_is_err_and}
use Rattle.ceu_base.specs.declared.kinds.Ty.TheVariants as ty
use Rattle.std.proofs.Common.{[], ◌∷◌, refl, lit≤, lit<}
use Rattle.ceu_code.proofs.Parsed.{unique_row, unique_place}
use Rattle.ceu_code.proofs.Ports.{unique_port}
use Rattle.ceu_code.proofs.Listed.{lists_refused, lists_as, list_refused0, list_refused1, list_refused2, list_refused3, list_refused4, list_read, some_pools}
use Rattle.ceu_code.proofs.decoder.read_lists.Goals as goal

pub read_counted-requires-clause-unique : goal.read_counted-requires-clause-unique
read_counted-requires-clause-unique c = unique_port

pub read_counted-requires-clause-some : goal.read_counted-requires-clause-some
read_counted-requires-clause-some c = (record { ty = ty.None; name = 65 ∷ [] }, record { form = (refl, tt); short = lit≤ tt })

pub read_counted-requires-2-clause-unique : goal.read_counted-requires-2-clause-unique
read_counted-requires-2-clause-unique c = unique_port

pub read_counted-requires-2-clause-some : goal.read_counted-requires-2-clause-some
read_counted-requires-2-clause-some c = (record { ty = ty.None; name = 65 ∷ [] }, record { form = (refl, tt); short = lit≤ tt })

pub read_counted-requires-3-clause-unique : goal.read_counted-requires-3-clause-unique
read_counted-requires-3-clause-unique c = unique_row

pub read_counted-requires-3-clause-some : goal.read_counted-requires-3-clause-some
read_counted-requires-3-clause-some c = (record { entry = 0; frame = 0; gates = 0; params = [] }, record { entry = lit< tt; frame = lit< tt; gates = lit< tt; few = lit< tt; typed = tt })

pub read_counted-requires-4-clause-unique : goal.read_counted-requires-4-clause-unique
read_counted-requires-4-clause-unique c = unique_place

pub read_counted-requires-4-clause-some : goal.read_counted-requires-4-clause-some
read_counted-requires-4-clause-some c = (record { line = 1; col = 1 }, record { line = (lit≤ tt, lit< tt); col = (lit≤ tt, lit< tt) })

pub returns-in_err-inputs-clause-refused : goal.returns-in_err-inputs-clause-refused
returns-in_err-inputs-clause-refused c =
    let p = err_from_is_err_and c.from_residual.result c.from_residual.ensures.1 in
    rw (p.1, p.2) (lists_refused c.args.version (some_pools c.args.version c.requires.known) c.args.bytes.now c.args.at c.in_err-inputs.field-0.0 (list_refused0 c.args.version (some_pools c.args.version c.requires.known) c.args.bytes.now c.args.at c.in_err-inputs.field-0.0 c.in_err-inputs.ensures.refused))

pub returns-in_err-outputs-clause-refused : goal.returns-in_err-outputs-clause-refused
returns-in_err-outputs-clause-refused c =
    let p = err_from_is_err_and c.from_residual-in_err-outputs.result c.from_residual-in_err-outputs.ensures.1 in
    rw (p.1, p.2) (lists_refused c.args.version (some_pools c.args.version c.requires.known) c.args.bytes.now c.args.at c.in_err-outputs.field-0.0 (list_refused1 c.args.version (some_pools c.args.version c.requires.known) c.args.bytes.now c.args.at c.in_ok-inputs.at_outputs c.in_ok-inputs.inputs c.in_err-outputs.field-0.0 c.in_ok-inputs.ensures.ok c.in_err-outputs.ensures.refused))

pub returns-in_err-codes-clause-refused : goal.returns-in_err-codes-clause-refused
returns-in_err-codes-clause-refused c =
    let p = err_from_is_err_and c.from_residual-in_err-codes.result c.from_residual-in_err-codes.ensures.1 in
    rw (p.1, p.2) (lists_refused c.args.version (some_pools c.args.version c.requires.known) c.args.bytes.now c.args.at c.in_err-codes.field-0.0 (list_refused2 c.args.version (some_pools c.args.version c.requires.known) c.args.bytes.now c.args.at c.in_ok-inputs.at_outputs c.in_ok-outputs.at_codes c.in_ok-inputs.inputs c.in_ok-outputs.outputs c.in_err-codes.field-0.0 c.in_ok-inputs.ensures.ok c.in_ok-outputs.ensures.ok c.in_err-codes.ensures.refused))

pub returns-in_err-pools-clause-refused : goal.returns-in_err-pools-clause-refused
returns-in_err-pools-clause-refused c =
    let p = err_from_is_err_and c.from_residual-in_err-pools.result c.from_residual-in_err-pools.ensures.1 in
    rw (p.1, p.2) (lists_refused c.args.version (some_pools c.args.version c.requires.known) c.args.bytes.now c.args.at c.in_err-pools.field-0.0 (list_refused3 c.args.version (some_pools c.args.version c.requires.known) c.args.bytes.now c.args.at c.in_ok-inputs.at_outputs c.in_ok-outputs.at_codes c.in_ok-codes.at_pools c.in_ok-inputs.inputs c.in_ok-outputs.outputs c.in_ok-codes.codes c.in_err-pools.field-0.0 c.in_ok-inputs.ensures.ok c.in_ok-outputs.ensures.ok c.in_ok-codes.ensures.ok c.in_err-pools.ensures.refused))

pub returns-in_err-places-clause-refused : goal.returns-in_err-places-clause-refused
returns-in_err-places-clause-refused c =
    let p = err_from_is_err_and c.from_residual-in_err-places.result c.from_residual-in_err-places.ensures.1 in
    rw (p.1, p.2) (lists_refused c.args.version (some_pools c.args.version c.requires.known) c.args.bytes.now c.args.at c.in_err-places.field-0.0 (list_refused4 c.args.version (some_pools c.args.version c.requires.known) c.args.bytes.now c.args.at c.in_ok-inputs.at_outputs c.in_ok-outputs.at_codes c.in_ok-codes.at_pools c.in_ok-pools.at_places c.in_ok-inputs.inputs c.in_ok-outputs.outputs c.in_ok-codes.codes c.in_ok-pools.pools c.in_err-places.field-0.0 c.in_ok-inputs.ensures.ok c.in_ok-outputs.ensures.ok c.in_ok-codes.ensures.ok c.in_ok-pools.ensures.ok c.in_err-places.ensures.refused))

pub returns-clause-ok : goal.returns-clause-ok
returns-clause-ok c =
    lists_as c.args.version (some_pools c.args.version c.requires.known) c.args.bytes.now c.args.at c.in_ok-places.next (c.in_ok-inputs.inputs, (c.in_ok-outputs.outputs, (c.in_ok-codes.codes, (c.in_ok-pools.pools, c.in_ok-places.places))))
    (list_read c.args.version (some_pools c.args.version c.requires.known) c.args.bytes.now c.args.at c.in_ok-inputs.at_outputs c.in_ok-outputs.at_codes c.in_ok-codes.at_pools c.in_ok-pools.at_places c.in_ok-places.next c.in_ok-inputs.inputs c.in_ok-outputs.outputs c.in_ok-codes.codes c.in_ok-pools.pools c.in_ok-places.places c.in_ok-inputs.ensures.ok c.in_ok-outputs.ensures.ok c.in_ok-codes.ensures.ok c.in_ok-pools.ensures.ok c.in_ok-places.ensures.ok)
