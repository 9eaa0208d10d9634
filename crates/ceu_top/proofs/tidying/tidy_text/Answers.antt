use Rattle.std.proofs.Common.{refl}
use Rattle.ceu_top.proofs.Answering.{broken_tree, memory_wanted, refused_with}
use Rattle.ceu_top.specs.declared.words.Mode.TheVariants.{Tidy}
use Rattle.ceu_top.proofs.tidying.tidy_text.Goals as goal

pub returns-in-Ok : goal.returns-in-Ok
returns-in-Ok g c = c.tidy_tree.ensures c.args.text.now c.in-Ok.found.tokens c.in-Ok.ensures.tree

pub returns-in-Refused : goal.returns-in-Refused
returns-in-Refused g c = refused_with Tidy c.args.text.now c.in-Refused.rule c.in-Refused.pos c.refuse.result _ _ _ _
    (broken_tree c.args.text.now c.in-Err.e c.in-Refused.rule c.in-Refused.pos c.in-Err.ensures.refused c.in-Refused.is) c.refuse.ensures

pub returns-in-Memory : goal.returns-in-Memory
returns-in-Memory g c = memory_wanted refl refl
