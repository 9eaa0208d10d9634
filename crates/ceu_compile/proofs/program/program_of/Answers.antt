use Rattle.ceu_compile.proofs.Broken.{broken, whole}
use Rattle.ceu_compile.proofs.Proper.{proper_kernel}
use Rattle.ceu_compile.proofs.program.program_of.Goals as goal

pub returns-in-Ok-clause-program : goal.returns-in-Ok-clause-program
returns-in-Ok-clause-program c = whole c.args.text.now c.in-Ok.found.tokens c.in-Ok.found.tree c.of_tree.result c.in-Ok.ensures.tree c.of_tree.ensures.sound

pub returns-in-Ok-clause-proper : goal.returns-in-Ok-clause-proper
returns-in-Ok-clause-proper c = proper_kernel c.args.text.now c.in-Ok.found.tokens c.in-Ok.found.tree c.of_tree.result c.in-Ok.ensures.tree c.of_tree.ensures.sound

pub returns-in-Ok-clause-refused : goal.returns-in-Ok-clause-refused
returns-in-Ok-clause-refused c = broken c.args.text.now c.in-Ok.found.tokens c.in-Ok.found.tree c.of_tree.result c.in-Ok.ensures.tree c.of_tree.ensures.refused
