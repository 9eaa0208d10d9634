-- The exits that a statement may take without an outside wait, and loops with a constant bound (this project's own).
--
-- Outside waits are awaits of an input, of a time and of FOREVER, and asyncs. `codes` says of each code above whether an await of it may go on
-- at once. A statement that has no `ToEnd` among its ways is sure: what follows it isn't reached at once.
use Rattle.std.specs.Prelude.{ℕ, zero, suc, ℤ, pos, negsuc, ◌+ℤ◌, ◌-ℤ◌, Bool, true, false, not, ◌&&◌, ◌||◌, if◌then◌else◌, ◌==◌, List, [], ◌∷◌, ◌++◌, Option, Some, None}
use Rattle.std.specs.List.{filter, list_any}
use Rattle.ceu_base.specs.Values.{of_test}
use Rattle.ceu_tree.specs.declared.kernel.KCode.{KCode}
use Rattle.ceu_tree.specs.declared.kernel.KLoop.{KLoop}
use Rattle.ceu_tree.specs.declared.kernel.KLoop.TheVariants as turns
use Rattle.ceu_tree.specs.declared.kernel.ParKind.{ParKind}
use Rattle.ceu_tree.specs.declared.kernel.ParKind.TheVariants as par
use Rattle.ceu_tree.specs.declared.kernel.KExpNode as exp
use Rattle.ceu_tree.specs.declared.kernel.KExpNode.{KExpNode}
use Rattle.ceu_tree.specs.declared.kernel.KBlock.{KBlock, KBlock', out-KBlock, Row_of-KNode, end_of-KNode, more_of-KNode}
use Rattle.ceu_tree.specs.declared.kernel.KNode.{KNode}
use Rattle.ceu_tree.specs.declared.kernel.KArm.{KArm, KArm'}
use Rattle.ceu_tree.specs.declared.kernel.KStmt.{KStmt, Row_of-KArm, end_of-KArm, more_of-KArm, Row_of-KBlock, end_of-KBlock, more_of-KBlock, AwaitIn, AwaitTime, Forever, AwaitCode, Async, Do, Escape, Break, Continue, If', Loop, Par'}

pub data Way : Type 0 where
  ToEnd : Way
  ToEscape : ℕ → Way
  ToBreak : ℕ → Way
  ToContinue : ℕ → Way

abbrev pub is_end : Way → Bool
is_end ToEnd = true
is_end _ = false

abbrev pub is_escape : ℕ → Way → Bool
is_escape n (ToEscape m) = n == m
is_escape n _ = false

abbrev pub is_break : ℕ → Way → Bool
is_break n (ToBreak m) = n == m
is_break n _ = false

abbrev pub is_continue : ℕ → Way → Bool
is_continue n (ToContinue m) = n == m
is_continue n _ = false

abbrev pub has_end : List Way → Bool
has_end = list_any is_end

abbrev pub without_end : List Way → List Way
without_end = filter (λ w. not (is_end w))

abbrev pub end_if : Bool → List Way
end_if b = if b then ToEnd ∷ [] else []

-- ---- loops

abbrev pub literal : KExpNode → Option ℤ
literal (exp.Const v) = Some v
literal _ = None

abbrev pub length_of : ℤ → ℕ
length_of (pos n) = n
length_of (negsuc n) = 0

abbrev pub range_turns : Option ℤ → Bool → Option ℤ → Bool → Option ℕ
range_turns (Some a) open_a (Some b) open_b = Some (length_of ((b -ℤ of_test open_b) -ℤ (a +ℤ of_test open_a) +ℤ pos 1))
range_turns _ open_a _ open_b = None

abbrev pub constant_bound : KLoop → Option ℕ
constant_bound turns.Free = None
constant_bound (turns.Times slot n) = Some n
constant_bound (turns.Range i next end open_a a b open_b) = range_turns (literal a.node) open_a (literal b.node) open_b

abbrev pub is_range : KLoop → Bool
is_range (turns.Range i next end open_a a b open_b) = true
is_range _ = false

-- whether the loop may come to its end by its turns, where its body may be left by these ways
abbrev pub runs_out : ℕ → Bool → Option ℕ → List Way → Bool
runs_out node range None q = range
runs_out node range (Some zero) q = range || has_end q || list_any (is_continue node) q
runs_out node range (Some (suc n)) q = has_end q || list_any (is_continue node) q

-- its own break, continue and end stay inside
abbrev pub outer_ways : ℕ → List Way → List Way
outer_ways node = filter (λ w. not (is_end w || is_break node w || is_continue node w))

abbrev pub loop_ways : ℕ → KLoop → List Way → List Way
loop_ways node k q = outer_ways node q ++ end_if (list_any (is_break node) q || runs_out node (is_range k) (constant_bound k) q)

abbrev pub flag : ℕ → List Bool → Bool
flag k [] = false
flag zero (x ∷ xs) = x
flag (suc k) (x ∷ xs) = flag k xs

-- ---- quick: `codes` says of each code above whether an await of it may go on at once

abbrev pub seq_ways : List Way → List Way → List Way
seq_ways a rest = if has_end a then without_end a ++ rest else a

abbrev pub do_ways : ℕ → List Way → List Way
do_ways node q = filter (λ w. not (is_end w || is_escape node w)) q ++ end_if (has_end q || list_any (is_escape node) q)

-- the branches' ways together, and whether each of them may end
abbrev pub par_ways : ParKind → List Way → Bool → List Way
par_ways par.Never q all = without_end q
par_ways par.Or q all = q
par_ways par.And q all = without_end q ++ end_if all

unfoldable mutual
  pub quick : List Bool → ℕ → KStmt → List Way
  quick codes node (AwaitIn k t) = []
  quick codes node (AwaitTime e u t) = []
  quick codes node Forever = []
  quick codes node (Async b) = []
  quick codes node (Break n) = ToBreak n ∷ []
  quick codes node (Continue n) = ToContinue n ∷ []
  quick codes node (Escape n e) = ToEscape n ∷ []
  quick codes node (AwaitCode c es f t) = end_if (flag c codes)
  quick codes node (Do t b) = do_ways node (quick_block codes b)
  quick codes node (If' _ arms last) = quick_arms codes arms ++ quick_block codes last
  quick codes node (Loop k b) = loop_ways node k (quick_block codes b)
  quick codes node (Par' k slot _ bs) = par_ways k (quick_blocks codes bs) (all_end codes bs)
  quick codes node _ = ToEnd ∷ []

  pub quick_block : List Bool → KBlock → List Way
  quick_block codes (KBlock' n ds _ list) = quick_nodes codes list

  pub quick_arm : List Bool → KArm → List Way
  quick_arm codes (KArm' c b) = quick_block codes b

  pub quick_nodes : {n : _} → List Bool → Row_of-KNode n → List Way
  quick_nodes codes end_of-KNode = ToEnd ∷ []
  quick_nodes codes (more_of-KNode n p s rest) = seq_ways (quick codes n s) (quick_nodes codes rest)

  pub quick_arms : {n : _} → List Bool → Row_of-KArm n → List Way
  quick_arms codes end_of-KArm = []
  quick_arms codes (more_of-KArm a rest) = quick_arm codes a ++ quick_arms codes rest

  pub quick_blocks : {n : _} → List Bool → Row_of-KBlock n → List Way
  quick_blocks codes end_of-KBlock = []
  quick_blocks codes (more_of-KBlock b rest) = quick_block codes b ++ quick_blocks codes rest

  pub all_end : {n : _} → List Bool → Row_of-KBlock n → Bool
  all_end codes end_of-KBlock = true
  all_end codes (more_of-KBlock b rest) = has_end (quick_block codes b) && all_end codes rest

abbrev pub quick_node : List Bool → KNode → List Way
quick_node codes n = quick codes n.node n.stmt

abbrev pub quick_list : List Bool → List KNode → List Way
quick_list codes [] = ToEnd ∷ []
quick_list codes (s ∷ ss) = seq_ways (quick_node codes s) (quick_list codes ss)

abbrev pub gathered : {X : Type 0} → (X → List Way) → List X → List Way
gathered f [] = []
gathered f (x ∷ xs) = f x ++ gathered f xs

abbrev pub all_blocks_end : List Bool → List KBlock → Bool
all_blocks_end codes [] = true
all_blocks_end codes (b ∷ bs) = has_end (quick_block codes b) && all_blocks_end codes bs

abbrev pub passes : List Bool → KCode → Bool
passes codes c = has_end (quick_block codes c.body) || list_any (is_escape (out-KBlock c.body).node) (quick_block codes c.body)

abbrev pub passes_from : List Bool → List KCode → List Bool
passes_from codes [] = codes
passes_from codes (c ∷ cs) = passes_from (codes ++ passes codes c ∷ []) cs
