use Rattle.std.proofs.Common.{List, ℕ, ap, subst}
use Rattle.ceu_io.specs.Files.{Puts, texts, ShelfInMemory}
use Rattle.ceu_io.proofs.Shelving.{puts}
use Rattle.ceu_io.proofs.memory_shelf.MemShelf.put.Goals as goal

pub returns-clause-put : goal.returns-clause-put
returns-clause-put c =
    subst (λ (l : List ℕ). Puts c.args.self.now.files (texts c.insert.new.self.entries) l c.args.bytes.now) c.in_ok-name.ensures.ok
    (subst (λ (l : List ℕ). Puts c.args.self.now.files (texts c.insert.new.self.entries) c.in_ok-name.name.bytes.items l) c.in_ok-bytes.ensures.items
    (puts _ c.self.inside.files c.insert.new.self _ _ (ap (λ (s : ShelfInMemory). s.files) c.self.view_is) c.in_ok-insert.ensures.updates))
