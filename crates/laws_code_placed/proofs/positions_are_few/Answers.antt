use Rattle.laws_code_placed.proofs.Few.{few_positions, few_nodes, few_pools, few_labels, listed_positions}
use Rattle.laws_code_placed.proofs.positions_are_few.Goals as goal

pub returns-clause-positions : goal.returns-clause-positions
returns-clause-positions c = few_positions

pub returns-clause-nodes : goal.returns-clause-nodes
returns-clause-nodes c = few_nodes

pub returns-clause-pools : goal.returns-clause-pools
returns-clause-pools c = few_pools

pub returns-clause-labels : goal.returns-clause-labels
returns-clause-labels c = few_labels

pub returns-clause-listed : goal.returns-clause-listed
returns-clause-listed c = listed_positions
