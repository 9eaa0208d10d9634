use Rattle.std.proofs.Common.{refl, codes}
use Rattle.std.specs.Prelude.{string_bytes}
use Rattle.ceu_print.specs.Words.{ident_text}
use Rattle.ceu_print.specs.Statements.{code_name}
use Rattle.ceu_print.proofs.Chains.{last_one}
use Rattle.ceu_print.proofs.parts.put_code_name.Goals as goal

pub returns : goal.returns
unfolding code_name
returns c = last_one c.put_ident.result (string_bytes c.args.out.now) (string_bytes c.put.new.out) (string_bytes c.put_ident.new.out) (codes "code/await ") (ident_text c.args.name.now) (code_name c.args.name.now) c.in_ok-put.ensures refl c.put_ident.ensures
