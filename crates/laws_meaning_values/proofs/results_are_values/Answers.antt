use Rattle.laws_meaning_values.proofs.Results.{results_are_values}
use Rattle.laws_meaning_values.proofs.results_are_values.Goals as goal

pub returns : goal.returns
returns c = results_are_values
