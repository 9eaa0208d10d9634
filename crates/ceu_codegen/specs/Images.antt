-- When the tables of an image can be made: the lines are whole, and mark where the body of each code begins.
use Rattle.std.specs.Prelude.{◌≡◌, ℕ, ◌<◌, ◌≤◌, List, [], ◌∷◌}
use Rattle.ceu_tree.specs.declared.kernel.KCode.{KCode}
use Rattle.ceu_asm.specs.declared.line.Line.{Line}
use Rattle.ceu_asm.specs.Lines.{marks, code_size}
use Rattle.ceu_shape.specs.Plans.{own_label}
use Rattle.ceu_shape.specs.Searches.{node_of_block}

-- the body of a code, with so many nodes
pub record HasCode (lines : List Line) (nodes : ℕ) (c : KCode) : Type 0 where
  pub node : node_of_block c.body < nodes
  pub few : nodes ≤ 65535
  pub marked : marks (own_label (node_of_block c.body)) lines ≡ 1
  pub fits : code_size lines ≤ 65535

abbrev pub CodesMarked : (lines : List Line) (nodes : ℕ) → List KCode → Type 0
CodesMarked lines nodes [] = Unit {0}
CodesMarked lines nodes (c ∷ cs) = HasCode lines nodes c × CodesMarked lines nodes cs
