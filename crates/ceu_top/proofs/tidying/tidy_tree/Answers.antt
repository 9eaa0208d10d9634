use Rattle.std.proofs.Common.{◌∙◌, refl}
use Rattle.ceu_top.proofs.Answering.{form_shown, memory_wanted}
use Rattle.ceu_top.proofs.tidying.tidy_tree.Goals as goal

pub returns-in-Ok : goal.returns-in-Ok
returns-in-Ok g c = λ text tokens has. form_shown text c.in-Ok.form c.as_bytes.result.now tokens c.args.tree.now c.show_text.result _ _ _ _ has c.in-Ok.ensures (c.as_bytes.ensures.value ∙ c.text.ensures) c.show_text.ensures

pub returns-in-Err : goal.returns-in-Err
returns-in-Err g c = λ text tokens has. memory_wanted refl refl
