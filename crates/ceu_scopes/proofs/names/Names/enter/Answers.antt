use Rattle.std.proofs.Common.{◌∙◌, ap}
use Rattle.ceu_scopes.specs.Entries.{pairs}
use Rattle.ceu_scopes.specs.Shown.{entered}
use Rattle.ceu_scopes.proofs.Tables.{pairs-insert_entry}
use Rattle.ceu_scopes.proofs.names.Names.enter.Goals as goal

pub returns : goal.returns
returns c =
    ap pairs c.in_ok-insert.ensures.entries
    ∙ pairs-insert_entry c.self.inside.map.entries c.in_ok-key.key c.args.known
    ∙ ap (λ name. entered (pairs c.self.inside.map.entries) name c.args.known) c.in_ok-key.ensures.ok
    ∙ ap (λ names. entered names c.args.name.now c.args.known) c.self.view_is
