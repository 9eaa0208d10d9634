-- A block of a program of one trail has neither finalizers nor pools.
use Rattle.std.specs.Prelude.{◌≡◌, true, List, [], ◌++◌}
use Rattle.ceu_tree.specs.declared.kernel.KNode.{KNode}
use Rattle.ceu_tree.specs.declared.kernel.KBlock.{KBlock, out-KBlock}
use Rattle.ceu_tree.specs.Legal.{finalizers_of}
use Rattle.ceu_shape.specs.Searches.{node_of_block}
use Rattle.ceu_single.specs.Single.{block_single}
use Rattle.laws_machine_layout.specs.Parts.{pools_gates}
use Rattle.laws_machine_layout.specs.Tables.{Tables}

pub record BlockPlain (b : KBlock) : Type 0 where
  pub node_is : (out-KBlock b).node ≡ node_of_block b
  pub no_finalizer : (done rest : List KNode) → (out-KBlock b).list ≡ done ++ rest → finalizers_of [] done ≡ []
  pub no_pool : (t : Tables) → pools_gates t (out-KBlock b).decls ≡ 0

abbrev pub BlocksArePlain : Type 0
BlocksArePlain = (b : KBlock) → block_single b ≡ true → BlockPlain b
