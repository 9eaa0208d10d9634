use Rattle.std.proofs.Common.{◌∙◌, ap}
use Rattle.ceu_scopes.specs.Shown.{found}
use Rattle.ceu_scopes.proofs.Tables.{lookup-pairs}
use Rattle.ceu_scopes.proofs.names.Names.find.Goals as goal

pub returns : goal.returns
returns c = c.copied.ensures ∙ c.get.ensures.value ∙ lookup-pairs c.args.name.now c.self.inside.map.entries ∙ ap (λ names. found names c.args.name.now) c.self.view_is
