use Rattle.std.proofs.Common.{◌∙◌}
use Rattle.ceu_bound.proofs.InstanceLaws.{counts_length}
use Rattle.ceu_bound.proofs.bounds.fitting_bounds.Goals as goal

pub all_wakes-requires : goal.all_wakes-requires
all_wakes-requires c = counts_length c.args.kernel.now.body c.args.kernel.now.codes c.deref.result.now (c.deref.ensures.value ∙ c.in_ok-counts.ensures)
