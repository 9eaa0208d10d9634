-- When the lines of an async can be added: its body has labels.
use Rattle.std.specs.Prelude.{◌≡◌, ℕ, ◌*◌, length}
use Rattle.ceu_tree.specs.declared.kernel.KStmt.{KStmt, Async}
use Rattle.ceu_asm.specs.declared.line.Labels.{Labels}

abbrev pub IsAsync : KStmt → Type 0
IsAsync (Async b) = Unit {0}
IsAsync _ = ⊥

abbrev pub HasParts : Labels → (parts : ℕ) → Type 0
HasParts labels parts = length labels.parts ≡ 2 * parts
