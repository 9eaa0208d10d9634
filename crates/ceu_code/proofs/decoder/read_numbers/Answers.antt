use Rattle.std.proofs.Common.{ℕ, subst}
use Rattle.std.proofs.lemmas.Result.{err_from_is_err_and}
use Rattle.ceu_code.specs.Reading.{Reads, Refused, Words, IsBetween}
use Rattle.ceu_code.proofs.Amounts.{numbers_refused, amount_refused0, amount_refused1, amount_refused2, amount_refused3, amount_refused4}
use Rattle.ceu_code.proofs.decoder.read_numbers.Goals as goal

pub returns-in_err-turns-clause-refused : goal.returns-in_err-turns-clause-refused
returns-in_err-turns-clause-refused c =
    let p = err_from_is_err_and c.from_residual.result c.from_residual.ensures.1 in
    rw (p.1, p.2) (numbers_refused c.args.bytes.now c.args.at c.in_err-turns.field-0.0 (amount_refused0 c.args.bytes.now c.args.at c.in_err-turns.field-0.0 c.in_err-turns.ensures.refused))

pub returns-in_err-levels-clause-refused : goal.returns-in_err-levels-clause-refused
returns-in_err-levels-clause-refused c =
    let p = err_from_is_err_and c.from_residual-in_err-levels.result c.from_residual-in_err-levels.ensures.1 in
    rw (p.1, p.2) (numbers_refused c.args.bytes.now c.args.at c.in_err-levels.field-0.0 (amount_refused1 c.args.bytes.now c.args.at c.in_ok-turns.at_levels c.in_ok-turns.turns c.in_err-levels.field-0.0 c.in_ok-turns.ensures.ok c.in_err-levels.ensures.refused))

pub returns-in_err-depth-clause-refused : goal.returns-in_err-depth-clause-refused
returns-in_err-depth-clause-refused c =
    let p = err_from_is_err_and c.from_residual-in_err-depth.result c.from_residual-in_err-depth.ensures.1 in
    rw (p.1, p.2) (numbers_refused c.args.bytes.now c.args.at c.in_err-depth.field-0.0 (amount_refused2 c.args.bytes.now c.args.at c.in_ok-turns.at_levels c.in_ok-levels.at_depth c.in_ok-turns.turns c.in_ok-levels.levels c.in_err-depth.field-0.0 c.in_ok-turns.ensures.ok c.in_ok-levels.ensures.ok c.in_err-depth.ensures.refused))

pub returns-in_err-gates-clause-refused : goal.returns-in_err-gates-clause-refused
returns-in_err-gates-clause-refused c =
    let p = err_from_is_err_and c.from_residual-in_err-gates.result c.from_residual-in_err-gates.ensures.1 in
    rw (p.1, p.2) (numbers_refused c.args.bytes.now c.args.at c.in_err-gates.field-0.0 (amount_refused3 c.args.bytes.now c.args.at c.in_ok-turns.at_levels c.in_ok-levels.at_depth c.in_ok-depth.at_gates c.in_ok-turns.turns c.in_ok-levels.levels c.in_ok-depth.depth c.in_err-gates.field-0.0 c.in_ok-turns.ensures.ok c.in_ok-levels.ensures.ok c.in_ok-depth.ensures.ok (subst (λ (m : ℕ). Refused (Words (IsBetween 2 1 m)) c.args.bytes.now c.in_ok-depth.at_gates c.in_err-gates.field-0.0) c.most_gates.ensures c.in_err-gates.ensures.refused)))

pub returns-in_err-slots-clause-refused : goal.returns-in_err-slots-clause-refused
returns-in_err-slots-clause-refused c =
    let p = err_from_is_err_and c.from_residual-in_err-slots.result c.from_residual-in_err-slots.ensures.1 in
    rw (p.1, p.2) (numbers_refused c.args.bytes.now c.args.at c.in_err-slots.field-0.0 (amount_refused4 c.args.bytes.now c.args.at c.in_ok-turns.at_levels c.in_ok-levels.at_depth c.in_ok-depth.at_gates c.in_ok-gates.at_slots c.in_ok-turns.turns c.in_ok-levels.levels c.in_ok-depth.depth c.in_ok-gates.gates c.in_err-slots.field-0.0 c.in_ok-turns.ensures.ok c.in_ok-levels.ensures.ok c.in_ok-depth.ensures.ok (subst (λ (m : ℕ). Reads (IsBetween 2 1 m) c.args.bytes.now c.in_ok-depth.at_gates c.in_ok-gates.gates c.in_ok-gates.at_slots) c.most_gates.ensures c.in_ok-gates.ensures.ok) (subst (λ (m : ℕ). Refused (Words (IsBetween 2 0 m)) c.args.bytes.now c.in_ok-gates.at_slots c.in_err-slots.field-0.0) c.most_slots.ensures c.in_err-slots.ensures.refused)))
