use Rattle.std.proofs.Common.{subst, sym, ◌∙◌, ℕ, ◌≡◌, rules, true, false}
use Rattle.std.proofs.lemmas.Result.{err_from_is_err_and}
use Rattle.std.specs.Prelude.{IfErr}
use Rattle.ceu_code.specs.declared.span.Span.{Span}
use Rattle.ceu_code.specs.declared.table.Operand.{Operand}
use Rattle.ceu_code.specs.declared.table.Operand.TheVariants.{Constant}
use Rattle.ceu_code.specs.Table.{IsOperand, operand_width}
use Rattle.ceu_code.specs.Reading.{Refused, Words, Word, IsBetween}
use Rattle.ceu_code.proofs.Codes.{operand_refused}
use Rattle.ceu_code.proofs.code.read_operand.Goals as goal

apart : false ≡ true → ⊥
apart e = cc

pub returns-then-is_constant-clause-refused : goal.returns-then-is_constant-clause-refused
returns-then-is_constant-clause-refused c =
    let kind : c.args.kind ≡ Constant = search rules in
    subst (λ (k : Operand). IfErr c.read_constant.result (λ e. Refused (Words (Word (IsOperand k))) c.args.bytes.now c.args.at e)) (sym kind) c.read_constant.ensures.refused

pub returns-in_err-_number-clause-refused : goal.returns-in_err-_number-clause-refused
returns-in_err-_number-clause-refused c =
    let other : c.args.kind ≡ Constant → ⊥ = λ e. apart (sym c.if-is_constant.false ∙ c.is_constant.ensures.1 e) in
    let narrow = subst (λ (s : Span). Refused (Words (IsBetween (operand_width c.args.kind) s.from s.to)) c.args.bytes.now c.args.at c.in_err-_number.field-0.0) c.span_of-span.ensures (subst (λ (n : ℕ). Refused (Words (IsBetween n c.span_of-span.result.from c.span_of-span.result.to)) c.args.bytes.now c.args.at c.in_err-_number.field-0.0) c.width_of.ensures.value c.in_err-_number.ensures.refused) in
    let p = err_from_is_err_and c.from_residual.result c.from_residual.ensures.1 in
    rw (p.1, p.2) (operand_refused c.args.bytes.now c.args.at c.args.kind other c.in_err-_number.field-0.0 narrow)
