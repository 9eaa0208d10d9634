use Rattle.std.proofs.Common.{◌++◌, arith}
use Rattle.ceu_shape.specs.Pools.{argument_lines}
use Rattle.ceu_low_pool.proofs.Adding.{with_lines, arguments_step, arguments_over}
use Rattle.ceu_low_pool.proofs.statement.add_arguments.Goals as goal

pub loop-k-preserved : goal.loop-k-preserved
loop-k-preserved c =
    let labels = c.args.labels.now in
    arguments_step labels (with_lines c.args.sheet.now (c.args.sheet.now.lines ++ argument_lines labels 0 c.args.count)) c.loop-k.sheet c.add_part.new.sheet c.loop-k.k c.args.count (omega arith) c.loop-k.invariant c.in_ok-add_part.ensures

pub returns : goal.returns
returns c =
    let labels = c.args.labels.now in
    arguments_over labels (with_lines c.args.sheet.now (c.args.sheet.now.lines ++ argument_lines labels 0 c.args.count)) c.loop-k.sheet c.loop-k.k c.args.count (omega arith) c.loop-k.invariant
