use Rattle.std.proofs.Common.{get_or, take, drop, ◌-◌, length}
use Rattle.std.specs.Prelude.{slice_range}
use Rattle.std.proofs.lemmas.Result.{err_from_is_err_and, IfErr-weaker, IfOk-weaker}
use Rattle.ceu_code.specs.declared.table.Operand.TheVariants.{Nothing}
use Rattle.ceu_code.proofs.Codes.{first_refused, rest_refused, all_read, kinds_split}
use Rattle.ceu_code.proofs.code.+read_operands.Goals as goal

pub returns-in_err-behind-in-len1-up-clause-refused : goal.returns-in_err-behind-in-len1-up-clause-refused
returns-in_err-behind-in-len1-up-clause-refused t c =
    let p = err_from_is_err_and c.from_residual.result c.from_residual.ensures.1 in
    rw (p.1, p.2) (first_refused c.args.bytes.now c.args.at c.args.kinds.now (get_or c.args.kinds.now 0 Nothing) (take (length c.args.kinds.now - 1) (drop 1 c.args.kinds.now)) (kinds_split c.args.kinds.now c.in-len1-up.len_at_least) c.in_err-behind-in-len1-up.field-0.0 c.in_err-behind-in-len1-up.ensures.refused)

pub returns-in_ok-behind-in-len1-up-clause-ok : goal.returns-in_ok-behind-in-len1-up-clause-ok
returns-in_ok-behind-in-len1-up-clause-ok t c =
    IfOk-weaker c.read_operands.result _ _ (λ next r. all_read c.args.bytes.now c.args.at c.args.kinds.now (get_or c.args.kinds.now 0 Nothing) (take (length c.args.kinds.now - 1) (drop 1 c.args.kinds.now)) (kinds_split c.args.kinds.now c.in-len1-up.len_at_least) c.in_ok-behind-in-len1-up.behind next (slice_range c.args.bytes.now c.args.at c.in_ok-behind-in-len1-up.behind) (slice_range c.args.bytes.now c.in_ok-behind-in-len1-up.behind next) c.in_ok-behind-in-len1-up.ensures.ok r) c.read_operands.ensures.ok

pub returns-in_ok-behind-in-len1-up-clause-refused : goal.returns-in_ok-behind-in-len1-up-clause-refused
returns-in_ok-behind-in-len1-up-clause-refused t c =
    IfErr-weaker c.read_operands.result _ _ (λ e r. rest_refused c.args.bytes.now c.args.at c.args.kinds.now (get_or c.args.kinds.now 0 Nothing) (take (length c.args.kinds.now - 1) (drop 1 c.args.kinds.now)) (kinds_split c.args.kinds.now c.in-len1-up.len_at_least) c.in_ok-behind-in-len1-up.behind (slice_range c.args.bytes.now c.args.at c.in_ok-behind-in-len1-up.behind) e c.in_ok-behind-in-len1-up.ensures.ok r) c.read_operands.ensures.refused
