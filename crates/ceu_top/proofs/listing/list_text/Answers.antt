use Rattle.std.proofs.Common.{refl}
use Rattle.ceu_top.proofs.Answering.{broken_text, memory_wanted, refused_with}
use Rattle.ceu_top.specs.declared.words.Mode.TheVariants as asked
use Rattle.ceu_top.proofs.listing.list_text.Goals as goal

pub returns-in-Refused : goal.returns-in-Refused
returns-in-Refused g c = refused_with asked.List c.args.text.now c.in-Refused.rule c.in-Refused.pos c.refuse.result _ _ _ _
    (broken_text c.args.text.now c.in-Err.e c.in-Refused.rule c.in-Refused.pos c.in-Err.ensures.refused c.in-Refused.is) c.refuse.ensures

pub returns-in-Memory : goal.returns-in-Memory
returns-in-Memory g c = memory_wanted refl refl
