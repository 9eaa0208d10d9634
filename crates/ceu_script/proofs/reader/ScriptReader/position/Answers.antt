use Rattle.std.proofs.Common.{length, ap, arith}
use Rattle.std.proofs.lemmas.Grind.{common_steps}
use Rattle.ceu_script.specs.Reader.{Reader}
use Rattle.ceu_script.proofs.reader.ScriptReader.position.Goals as goal

pub returns-clause-place : goal.returns-clause-place
returns-clause-place c =
    let held = ap (λ (r : Reader). length r.pending) c.self.view_is in
    let taken = ap (λ (r : Reader). r.taken) c.self.view_is in
    grind (arith, common_steps, held, taken)
