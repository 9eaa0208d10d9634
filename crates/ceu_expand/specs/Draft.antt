-- A kernel that is being written, in the order of the text. A number is given to each statement and block, and to each declaration and hidden
-- slot, where it is met; a declaration is kept by what it stands for.
use Rattle.std.specs.Prelude.{ℕ, ◌+◌, false, List, [], ◌∷◌, ◌++◌, length, Option, Some, None}
use Rattle.ceu_base.specs.declared.kinds.Ty.{Ty}
use Rattle.ceu_base.specs.declared.kinds.Pos.{Pos}
use Rattle.ceu_tree.specs.declared.source.Ident.{Ident}
use Rattle.ceu_tree.specs.declared.source.Label.{Label}
use Rattle.ceu_tree.specs.declared.source.Label.TheVariants as label
use Rattle.ceu_tree.specs.declared.kernel.Loc.{Loc}
use Rattle.ceu_tree.specs.declared.kernel.KKind.{KKind}
use Rattle.ceu_tree.specs.declared.kernel.KCode.{KCode}
use Rattle.ceu_tree.specs.declared.kernel.KStmt.{KStmt}
use Rattle.ceu_tree.specs.declared.kernel.KBlock.{KBlock, roll-KBlock}
use Rattle.ceu_expand.specs.declared.around.Around.{Around}
use Rattle.ceu_expand.specs.declared.draft.Draft.{Draft}
use Rattle.ceu_expand.specs.declared.draft.LabelNode.{LabelNode}
use Rattle.ceu_expand.specs.declared.draft.Parts.{Parts}
use Rattle.ceu_expand.specs.declared.draft.Outside.{Outside}

-- ---- what stands around a statement

-- the program's text, whose block is the first node
abbrev pub of_program : Around
of_program = record { plain = 0; turns = 0; code = None }

-- the text of a code, whose block has this node
abbrev pub of_code : (node code : ℕ) → Around
of_code node code = record { plain = node; turns = 0; code = Some code }

-- inside the loop that has this node
unfoldable pub in_loop : ℕ → Around → Around
in_loop node a = record a { turns = node }

-- inside the `do` that has this node: one without a label is left by a plain escape, `do/_` by none
unfoldable pub in_do : Label → ℕ → Around → Around
in_do label.Plain node a = record a { plain = node }
in_do label.Under node a = a
in_do (label.Named l) node a = a

-- ---- statements and hidden slots

abbrev pub no_parts : ℕ → Parts
no_parts slot = record { decls = []; list = []; slot = slot }

-- before the first token; the nodes and slots of code begin with these
unfoldable pub nothing_written : (node slot : ℕ) → Draft
nothing_written node slot =
    record {
      uses = 0;
      exps = 0;
      numbers = [];
      labels = [];
      node = 0;
      slot = 0;
      other_node = node;
      other_slot = slot;
      parts = no_parts 0;
      codes = [];
      inputs = [];
      outputs = [];
      events = [];
    }

-- a statement takes the next node
unfoldable pub begun : Draft → Draft
begun d = record d { node = d.node + 1 }

-- so many hidden slots are taken
unfoldable pub hidden : ℕ → Draft → Draft
hidden n d = record d { slot = d.slot + n }

-- the statement of this node stands behind those that the block has
unfoldable pub placed : (node : ℕ) → Pos → KStmt → Draft → Draft
placed node p s d = record d { parts = record d.parts { list = d.parts.list ++ record { node = node; pos = p; stmt = s } ∷ [] } }

-- ---- blocks

-- what stands around a block that begins here
unfoldable pub outside : Draft → Outside
outside d = record { node = d.node; parts = d.parts }

-- a block takes the next node, and the next slots for its declarations
unfoldable pub opened : ℕ → Draft → Draft
opened n d = record d { node = d.node + 1; slot = d.slot + n; parts = no_parts d.slot }

-- the block that ends here
unfoldable pub written : Outside → Draft → KBlock
written o d = roll-KBlock (record { node = o.node; decls = d.parts.decls; list = d.parts.list })

unfoldable pub closed : Outside → Draft → Draft
closed o d = record d { parts = o.parts }

-- a block with so many declarations, inside of which this is written
abbrev pub block_of : ℕ → (Draft → Draft) → Draft → KBlock
block_of n f d = written (outside d) (f (opened n d))

abbrev pub around_block : ℕ → (Draft → Draft) → Draft → Draft
around_block n f d = closed (outside d) (f (opened n d))

-- ---- declarations

-- the next declaration of the text stands for this number
unfoldable pub standing : ℕ → Draft → Draft
standing n d = record d { numbers = d.numbers ++ n ∷ [] }

-- a declaration of the block takes the next of the slots that the block has for them
unfoldable pub declared : KKind → Ident → Draft → Draft
declared kind x d =
    record d {
      numbers = d.numbers ++ d.parts.slot ∷ [];
      parts = record d.parts {
        decls = d.parts.decls ++ record { slot = d.parts.slot; kind = kind; name = x.name; pos = x.pos } ∷ [];
        slot = d.parts.slot + 1;
      };
    }

unfoldable pub event_declared : Option ℕ → Ty → Ident → Draft → Draft
event_declared code t x d =
    record d { numbers = d.numbers ++ length d.events ∷ []; events = d.events ++ record { ty = t; code = code; pos = x.pos } ∷ [] }

unfoldable pub input_declared : Ty → Ident → Draft → Draft
input_declared t x d = record d { numbers = d.numbers ++ length d.inputs ∷ []; inputs = d.inputs ++ record { ty = t; name = x.name } ∷ [] }

unfoldable pub output_declared : Ty → Ident → Draft → Draft
output_declared t x d = record d { numbers = d.numbers ++ length d.outputs ∷ []; outputs = d.outputs ++ record { ty = t; name = x.name } ∷ [] }

-- a variable of the innermost block
abbrev pub own : ℕ → Ty → Loc
own slot t = record { outer = false; slot = slot; ty = t }

-- ---- code

-- the nodes and slots of code are counted apart from the program's
abbrev pub swapped : Draft → Draft
swapped d = record d { node = d.other_node; slot = d.other_slot; other_node = d.node; other_slot = d.slot }

-- code with so many parameters begins
unfoldable pub entered : ℕ → Draft → Draft
entered n d = record (swapped d) { slot = d.other_slot + n; parts = no_parts d.other_slot }

-- code ends, and the text around it goes on
unfoldable pub left : Parts → Draft → Draft
left parts d = record (swapped d) { parts = parts }

unfoldable pub with_code : KCode → Draft → Draft
with_code c d = record d { codes = d.codes ++ c ∷ [] }

-- ---- labels

-- a `do` with a label begins and ends
unfoldable pub labelled : Label → ℕ → Draft → Draft
labelled (label.Named l) node d = record d { labels = d.labels ++ record { name = l.name; node = node } ∷ [] }
labelled label.Plain node d = d
labelled label.Under node d = d

abbrev pub all_but_last : List LabelNode → List LabelNode
all_but_last [] = []
all_but_last (l ∷ []) = []
all_but_last (l ∷ m ∷ ls) = l ∷ all_but_last (m ∷ ls)

unfoldable pub unlabelled : Label → Draft → Draft
unlabelled (label.Named l) d = record d { labels = all_but_last d.labels }
unlabelled label.Plain d = d
unlabelled label.Under d = d
