-- Trees without their positions: each is set to one and the same position.
use Rattle.std.specs.Prelude.{map, option_map}
use Rattle.ceu_base.specs.declared.kinds.Pos.{Pos}
use Rattle.ceu_tree.specs.declared.source.Ident.{Ident}
use Rattle.ceu_tree.specs.declared.source.Exp.{Exp}
use Rattle.ceu_tree.specs.declared.source.ExpNode as exp
use Rattle.ceu_tree.specs.declared.source.ExpNode.{ExpNode, Row_of-Exp, end_of-Exp, more_of-Exp, One', Two', As'}
use Rattle.ceu_tree.specs.declared.source.Call.{Call}
use Rattle.ceu_tree.specs.declared.source.Spawn.{Spawn}
use Rattle.ceu_tree.specs.declared.source.Label.{Label}
use Rattle.ceu_tree.specs.declared.source.Label.TheVariants as label
use Rattle.ceu_tree.specs.declared.source.Target.{Target}
use Rattle.ceu_tree.specs.declared.source.Target.TheVariants as target
use Rattle.ceu_tree.specs.declared.source.Await.{Await}
use Rattle.ceu_tree.specs.declared.source.Await.TheVariants as await
use Rattle.ceu_tree.specs.declared.source.Param.{Param}
use Rattle.ceu_tree.specs.declared.source.Source as source
use Rattle.ceu_tree.specs.declared.source.Source.{Source}
use Rattle.ceu_tree.specs.declared.source.Item.{Held-Item-value, Item-value-None', Item-value-Some'}
use Rattle.ceu_tree.specs.declared.source.Do.{Do, Do'}
use Rattle.ceu_tree.specs.declared.source.Block.{Block, Block', Row_of-Node, end_of-Node, more_of-Node}
use Rattle.ceu_tree.specs.declared.source.Arm.{Arm, Arm'}
use Rattle.ceu_tree.specs.declared.source.Range.{Range, Range'}
use Rattle.ceu_tree.specs.declared.source.Stmt as stmt
use Rattle.ceu_tree.specs.declared.source.Stmt.{Stmt, Vars', If', Par', Row_of-Item, end_of-Item, more_of-Item, Row_of-Arm, end_of-Arm, more_of-Arm, Row_of-Block, end_of-Block, more_of-Block, Held-Stmt-If-1, Stmt-If-1-None', Stmt-If-1-Some'}
use Rattle.ceu_tree.specs.declared.source.Tree.{Tree}

-- the position that stands for all
abbrev pub nowhere : Pos
nowhere = record { line = 0; col = 0 }

abbrev pub unplaced_ident : Ident → Ident
unplaced_ident x = record { pos = nowhere; outer = x.outer; name = x.name }

-- ---- expressions

unfoldable mutual
  pub unplaced_node : ExpNode → ExpNode
  unplaced_node (exp.Number n) = exp.Number n
  unplaced_node (exp.Bool b) = exp.Bool b
  unplaced_node (exp.Var x) = exp.Var (unplaced_ident x)
  unplaced_node (exp.Alive x) = exp.Alive (unplaced_ident x)
  unplaced_node (One' op n a) = One' op n (unplaced_operand a)
  unplaced_node (Two' op n a m b) = Two' op n (unplaced_operand a) m (unplaced_operand b)
  unplaced_node (As' n a t) = As' n (unplaced_operand a) t

  pub unplaced_operand : {n : _} → Row_of-Exp n → Row_of-Exp n
  unplaced_operand end_of-Exp = end_of-Exp
  unplaced_operand (more_of-Exp p e rest) = more_of-Exp nowhere (unplaced_node e) (unplaced_operand rest)

abbrev pub unplaced_exp : Exp → Exp
unplaced_exp e = record { pos = nowhere; node = unplaced_node e.node }

abbrev pub unplaced_call : Call → Call
unplaced_call c = record { code = unplaced_ident c.code; args = map unplaced_exp c.args }

abbrev pub unplaced_spawn : Spawn → Spawn
unplaced_spawn s = record { pos = nowhere; call = unplaced_call s.call; pool = unplaced_ident s.pool }

abbrev pub unplaced_target : Target → Target
unplaced_target (target.Ext x) = target.Ext (unplaced_ident x)
unplaced_target (target.Event x) = target.Event (unplaced_ident x)
unplaced_target (target.Time us) = target.Time us
unplaced_target (target.TimeExp e u) = target.TimeExp (unplaced_exp e) u

abbrev pub unplaced_await : Await → Await
unplaced_await await.Forever = await.Forever
unplaced_await (await.Code c) = await.Code (unplaced_call c)
unplaced_await (await.On t e) = await.On (unplaced_target t) (option_map unplaced_exp e)

-- ---- statements

abbrev pub unplaced_label : Label → Label
unplaced_label label.Plain = label.Plain
unplaced_label label.Under = label.Under
unplaced_label (label.Named x) = label.Named (unplaced_ident x)

abbrev pub unplaced_param : Param → Param
unplaced_param p = record { ty = p.ty; name = unplaced_ident p.name }

unfoldable mutual
  pub unplaced_stmt : Stmt → Stmt
  unplaced_stmt stmt.Nothing = stmt.Nothing
  unplaced_stmt stmt.Break = stmt.Break
  unplaced_stmt stmt.Continue = stmt.Continue
  unplaced_stmt (Vars' t n items) = Vars' t n (unplaced_items items)
  unplaced_stmt (stmt.AliasDecl c x s) = stmt.AliasDecl (unplaced_ident c) (unplaced_ident x) (option_map unplaced_spawn s)
  unplaced_stmt (stmt.Events t xs) = stmt.Events t (map unplaced_ident xs)
  unplaced_stmt (stmt.Inputs t xs) = stmt.Inputs t (map unplaced_ident xs)
  unplaced_stmt (stmt.Outputs t xs) = stmt.Outputs t (map unplaced_ident xs)
  unplaced_stmt (stmt.Pool n c x) = stmt.Pool n (unplaced_ident c) (unplaced_ident x)
  unplaced_stmt (stmt.Code x ps t b) = stmt.Code (unplaced_ident x) (map unplaced_param ps) t (unplaced_block b)
  unplaced_stmt (stmt.Assign x s) = stmt.Assign (unplaced_ident x) (unplaced_source s)
  unplaced_stmt (stmt.Emit x e) = stmt.Emit (unplaced_ident x) (option_map unplaced_exp e)
  unplaced_stmt (stmt.Await a) = stmt.Await (unplaced_await a)
  unplaced_stmt (stmt.Spawn s) = stmt.Spawn (unplaced_spawn s)
  unplaced_stmt (stmt.Kill x) = stmt.Kill (unplaced_ident x)
  unplaced_stmt (stmt.Escape l e) = stmt.Escape (option_map unplaced_ident l) (option_map unplaced_exp e)
  unplaced_stmt (stmt.Do d) = stmt.Do (unplaced_do d)
  unplaced_stmt (stmt.Finalize b) = stmt.Finalize (unplaced_block b)
  unplaced_stmt (If' n arms last) = If' n (unplaced_arms arms) (unplaced_last last)
  unplaced_stmt (stmt.Loop n b) = stmt.Loop n (unplaced_block b)
  unplaced_stmt (stmt.Range r) = stmt.Range (unplaced_range r)
  unplaced_stmt (stmt.Every x t b) = stmt.Every (option_map unplaced_ident x) (unplaced_target t) (unplaced_block b)
  unplaced_stmt (stmt.Watching t b) = stmt.Watching (unplaced_target t) (unplaced_block b)
  unplaced_stmt (Par' p n bs) = Par' p n (unplaced_branches bs)
  unplaced_stmt (stmt.Async xs b) = stmt.Async (map unplaced_ident xs) (unplaced_block b)

  pub unplaced_source : Source → Source
  unplaced_source (source.Value e) = source.Value (unplaced_exp e)
  unplaced_source (source.Wait a) = source.Wait (unplaced_await a)
  unplaced_source (source.Start s) = source.Start (unplaced_spawn s)
  unplaced_source (source.Done d) = source.Done (unplaced_do d)

  pub unplaced_value : Held-Item-value → Held-Item-value
  unplaced_value Item-value-None' = Item-value-None'
  unplaced_value (Item-value-Some' s) = Item-value-Some' (unplaced_source s)

  pub unplaced_do : Do → Do
  unplaced_do (Do' l b) = Do' (unplaced_label l) (unplaced_block b)

  pub unplaced_block : Block → Block
  unplaced_block (Block' n list) = Block' n (unplaced_nodes list)

  pub unplaced_arm : Arm → Arm
  unplaced_arm (Arm' c b) = Arm' (unplaced_exp c) (unplaced_block b)

  pub unplaced_last : Held-Stmt-If-1 → Held-Stmt-If-1
  unplaced_last Stmt-If-1-None' = Stmt-If-1-None'
  unplaced_last (Stmt-If-1-Some' b) = Stmt-If-1-Some' (unplaced_block b)

  pub unplaced_range : Range → Range
  unplaced_range (Range' x open_a a b open_b body) = Range' (unplaced_ident x) open_a (unplaced_exp a) (unplaced_exp b) open_b (unplaced_block body)

  pub unplaced_items : {n : _} → Row_of-Item n → Row_of-Item n
  unplaced_items end_of-Item = end_of-Item
  unplaced_items (more_of-Item x v rest) = more_of-Item (unplaced_ident x) (unplaced_value v) (unplaced_items rest)

  pub unplaced_arms : {n : _} → Row_of-Arm n → Row_of-Arm n
  unplaced_arms end_of-Arm = end_of-Arm
  unplaced_arms (more_of-Arm a rest) = more_of-Arm (unplaced_arm a) (unplaced_arms rest)

  pub unplaced_branches : {n : _} → Row_of-Block n → Row_of-Block n
  unplaced_branches end_of-Block = end_of-Block
  unplaced_branches (more_of-Block b rest) = more_of-Block (unplaced_block b) (unplaced_branches rest)

  pub unplaced_nodes : {n : _} → Row_of-Node n → Row_of-Node n
  unplaced_nodes end_of-Node = end_of-Node
  unplaced_nodes (more_of-Node p s rest) = more_of-Node nowhere (unplaced_stmt s) (unplaced_nodes rest)

abbrev pub unplaced : Tree → Tree
unplaced t = record { body = unplaced_block t.body }
