use Rattle.std.proofs.Common.{◌≡◌, length, ap, arith, Some, None, List, ℕ, ◌∙◌, sym}
use Rattle.ceu_io.specs.Files.{ShelfInMemory}
use Rattle.ceu_io.proofs.Shelving.{file_found}
use Rattle.ceu_io.proofs.memory_shelf.MemShelfShelf.fetch.Goals as goal

pub returns-in_default-clause-fetched : goal.returns-in_default-clause-fetched
returns-in_default-clause-fetched c = file_found _ c.self.inside.files _ None (ap (λ (s : ShelfInMemory). s.files) c.self.view_is) (c.in_default.ensures.value)

pub returns-then-len-limit-clause-fetched : goal.returns-then-len-limit-clause-fetched
returns-then-len-limit-clause-fetched c = (c.in-Some.bytes.now.items, file_found _ c.self.inside.files _ (Some c.in-Some.bytes.now) (ap (λ (s : ShelfInMemory). s.files) c.self.view_is) c.in-Some.ensures.value, omega (arith, c.if-len-limit.true, c.len.ensures))

pub returns-clause-fetched : goal.returns-clause-fetched
returns-clause-fetched c =
    let same : c.in_ok-from_slice.field-0.items ≡ c.in-Some.bytes.now.items = c.in_ok-from_slice.ensures.items ∙ c.deref-2.ensures.value in (
      file_found _ c.self.inside.files _ (Some c.in-Some.bytes.now) (ap (λ (s : ShelfInMemory). s.files) c.self.view_is) c.in-Some.ensures.value ∙ ap (λ (l : List ℕ). Some l) (sym same),
      omega (arith, c.if-len-limit.false, c.len.ensures, ap length same),
    )
