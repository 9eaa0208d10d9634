use Rattle.std.proofs.Common.{ap, arith}
use Rattle.std.proofs.lemmas.Grind.{common_steps}
use Rattle.std.proofs.lemmas.Bool.Decides.{nat_tests}
use Rattle.ceu_script.specs.Reader.{Reader}
use Rattle.ceu_script.proofs.reader.ScriptReader.is_used_up.Goals as goal

pub returns : goal.returns
returns c = let held = ap (λ (r : Reader). r.pending) c.self.view_is in grind (arith, common_steps, nat_tests, held)
