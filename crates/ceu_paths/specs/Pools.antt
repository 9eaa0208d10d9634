-- Declarations of pools.
use Rattle.std.specs.Prelude.{Bool, true, false}
use Rattle.ceu_tree.specs.declared.kernel.KKind.{KKind}
use Rattle.ceu_tree.specs.declared.kernel.KKind.TheVariants as kind

abbrev pub is_pool : KKind → Bool
is_pool (kind.Var t) = false
is_pool (kind.Alias c) = false
is_pool (kind.Pool n c) = true
