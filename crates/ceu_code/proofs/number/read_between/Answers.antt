use Rattle.std.proofs.Common.{arith, ◌<◌}
use Rattle.std.proofs.lemmas.Result.{IfOk-weaker, IfErr-weaker}
use Rattle.ceu_code.specs.Table.{empty_span}
use Rattle.ceu_code.proofs.Numbers.{one_span_read, one_span_refused}
use Rattle.ceu_code.proofs.number.read_between.Goals as goal

none : 0 < 1
none = omega arith

pub returns-clause-ok : goal.returns-clause-ok
returns-clause-ok c = IfOk-weaker c.read_in_spans.result _ _ (λ r h. one_span_read c.args.width c.args.least c.args.greatest empty_span none c.args.bytes.now c.args.at r.0 r.1 h) c.read_in_spans.ensures.ok

pub returns-clause-refused : goal.returns-clause-refused
returns-clause-refused c = IfErr-weaker c.read_in_spans.result _ _ (λ e h. one_span_refused c.args.width c.args.least c.args.greatest empty_span none c.args.bytes.now c.args.at e h) c.read_in_spans.ensures.refused
