use Rattle.std.proofs.Common.{refl}
use Rattle.ceu_top.proofs.Answering.{broken_text, memory_shown, memory_wanted, refused_with}
use Rattle.ceu_top.specs.declared.words.Mode.TheVariants.{Check}
use Rattle.ceu_top.proofs.checking.check_text.Goals as goal

pub returns-in-Ok : goal.returns-in-Ok
returns-in-Ok g c = memory_shown c.args.text.now c.in-Ok.program.kernel c.in-Ok.program.memory c.in-Ok.program.bounds c.show_memory.result _ _ _ _
    c.in-Ok.ensures.program c.in-Ok.ensures.sized c.in-Ok.ensures.bounded c.show_memory.ensures

pub returns-in-Refused : goal.returns-in-Refused
returns-in-Refused g c = refused_with Check c.args.text.now c.in-Refused.rule c.in-Refused.pos c.refuse.result _ _ _ _
    (broken_text c.args.text.now c.in-Err.e c.in-Refused.rule c.in-Refused.pos c.in-Err.ensures.refused c.in-Refused.is) c.refuse.ensures

pub returns-in-Memory : goal.returns-in-Memory
returns-in-Memory g c = memory_wanted refl refl
