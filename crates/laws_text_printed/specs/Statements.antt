-- The kinds of the tokens of printed statements, before those that follow.
use Rattle.std.specs.Prelude.{ℕ, Bool, true, false, List, [], ◌∷◌, Option, Some, None}
use Rattle.ceu_base.specs.declared.kinds.Ty.TheVariants as ty
use Rattle.ceu_tree.specs.declared.source.Ident.{Ident}
use Rattle.ceu_tree.specs.declared.source.Param.{Param}
use Rattle.ceu_tree.specs.declared.source.Spawn.{Spawn}
use Rattle.ceu_tree.specs.declared.source.Label.{Label}
use Rattle.ceu_tree.specs.declared.source.Label.TheVariants as label
use Rattle.ceu_tree.specs.declared.source.Exp.{Exp}
use Rattle.ceu_tree.specs.declared.source.Source as source
use Rattle.ceu_tree.specs.declared.source.Source.{Source}
use Rattle.ceu_tree.specs.declared.source.Item.{Held-Item-value, Item-value-None', Item-value-Some'}
use Rattle.ceu_tree.specs.declared.source.Do.{Do, Do'}
use Rattle.ceu_tree.specs.declared.source.Block.{Block, Block', Row_of-Node, end_of-Node, more_of-Node}
use Rattle.ceu_tree.specs.declared.source.Arm.{Arm, Arm'}
use Rattle.ceu_tree.specs.declared.source.Range.{Range, Range'}
use Rattle.ceu_tree.specs.declared.source.Stmt as stmt
use Rattle.ceu_tree.specs.declared.source.Stmt.{Stmt, Vars', If', Par', Row_of-Item, end_of-Item, more_of-Item, Row_of-Arm, end_of-Arm, more_of-Arm, Row_of-Block, end_of-Block, more_of-Block, Held-Stmt-If-1, Stmt-If-1-None', Stmt-If-1-Some'}
use Rattle.ceu_tree.specs.declared.source.Tree.{Tree}
use Rattle.ceu_print.specs.Statements.{ends_in_end}
use Rattle.ceu_syntax.specs.declared.terminal.Kind.{Kind}
use Rattle.ceu_syntax.specs.declared.terminal.Kind.TheVariants as k
use Rattle.ceu_syntax.specs.Terminals.{left_bracket, right_bracket}
use Rattle.laws_text_printed.specs.ReadingWords.{par_kinds, lower_kinds, ext_kinds, abs_kinds, event_kinds}
use Rattle.laws_text_printed.specs.Expressions.{exp_kinds, spawn_kinds, target_kinds, awaited_kinds}

-- ---- parts of statements

abbrev pub more_lowers : List Ident → (after : List Kind) → List Kind
more_lowers [] after = after
more_lowers (x ∷ xs) after = k.Comma ∷ lower_kinds x (more_lowers xs after)

abbrev pub lowers_kinds : List Ident → (after : List Kind) → List Kind
lowers_kinds [] after = after
lowers_kinds (x ∷ xs) after = lower_kinds x (more_lowers xs after)

abbrev pub more_exts : List Ident → (after : List Kind) → List Kind
more_exts [] after = after
more_exts (x ∷ xs) after = k.Comma ∷ ext_kinds x (more_exts xs after)

abbrev pub exts_kinds : List Ident → (after : List Kind) → List Kind
exts_kinds [] after = after
exts_kinds (x ∷ xs) after = ext_kinds x (more_exts xs after)

abbrev pub param_kinds : Param → (after : List Kind) → List Kind
param_kinds p after = k.Var ∷ k.Type p.ty ∷ lower_kinds p.name after

abbrev pub more_params : List Param → (after : List Kind) → List Kind
more_params [] after = after
more_params (p ∷ ps) after = k.Comma ∷ param_kinds p (more_params ps after)

abbrev pub params_kinds : List Param → (after : List Kind) → List Kind
params_kinds [] after = k.Type ty.None ∷ after
params_kinds (p ∷ ps) after = param_kinds p (more_params ps after)

abbrev pub label_kinds : Label → (after : List Kind) → List Kind
label_kinds label.Plain after = after
label_kinds label.Under after = k.Slash ∷ k.Under ∷ after
label_kinds (label.Named x) after = k.Slash ∷ lower_kinds x after

abbrev pub start_kinds : Option Spawn → (after : List Kind) → List Kind
start_kinds None after = after
start_kinds (Some s) after = k.Assign ∷ spawn_kinds s after

abbrev pub emitted_kinds : Option Exp → (after : List Kind) → List Kind
emitted_kinds None after = after
emitted_kinds (Some e) after = k.OpenParen ∷ exp_kinds e (k.CloseParen ∷ after)

abbrev pub left_kinds : Option Ident → (after : List Kind) → List Kind
left_kinds None after = after
left_kinds (Some x) after = k.Slash ∷ lower_kinds x after

abbrev pub answer_kinds : Option Exp → (after : List Kind) → List Kind
answer_kinds None after = after
answer_kinds (Some e) after = exp_kinds e after

abbrev pub limit_kinds : Option ℕ → (after : List Kind) → List Kind
limit_kinds None after = after
limit_kinds (Some n) after = k.Slash ∷ k.Number n ∷ after

abbrev pub received_kinds : Option Ident → (after : List Kind) → List Kind
received_kinds None after = after
received_kinds (Some x) after = lower_kinds x (k.In ∷ after)

abbrev pub shared_kinds : List Ident → (after : List Kind) → List Kind
shared_kinds [] after = after
shared_kinds (x ∷ xs) after = k.OpenParen ∷ lowers_kinds (x ∷ xs) (k.CloseParen ∷ after)

-- behind a statement, whose last token may be `end`
abbrev pub ended_kinds : (ends : Bool) → (after : List Kind) → List Kind
ended_kinds true after = after
ended_kinds false after = k.Semicolon ∷ after

-- ---- statements

unfoldable mutual
  pub stmt_kinds : Stmt → (after : List Kind) → List Kind
  stmt_kinds stmt.Nothing after = k.Nothing ∷ after
  stmt_kinds stmt.Break after = k.Break ∷ after
  stmt_kinds stmt.Continue after = k.Continue ∷ after
  stmt_kinds (Vars' t _ items) after = k.Var ∷ k.Type t ∷ items_kinds items after
  stmt_kinds (stmt.AliasDecl c x s) after = k.Var ∷ k.Ampersand ∷ k.Question ∷ abs_kinds c (lower_kinds x (start_kinds s after))
  stmt_kinds (stmt.Events t xs) after = k.Event ∷ k.Type t ∷ lowers_kinds xs after
  stmt_kinds (stmt.Inputs t xs) after = k.Input ∷ k.Type t ∷ exts_kinds xs after
  stmt_kinds (stmt.Outputs t xs) after = k.Output ∷ k.Type t ∷ exts_kinds xs after
  stmt_kinds (stmt.Pool n c x) after = k.Pool ∷ k.OpenBracket ∷ k.Number n ∷ k.CloseBracket ∷ abs_kinds c (lower_kinds x after)
  stmt_kinds (stmt.Code x ps t b) after =
      k.Code ∷ k.Slash ∷ k.Await ∷ abs_kinds x (k.OpenParen ∷ params_kinds ps (k.CloseParen ∷ k.Arrow ∷ k.Type t ∷ k.Do ∷ body_kinds b after))
  stmt_kinds (stmt.Assign x s) after = lower_kinds x (k.Assign ∷ source_kinds s after)
  stmt_kinds (stmt.Emit x e) after = k.Emit ∷ event_kinds x (emitted_kinds e after)
  stmt_kinds (stmt.Await a) after = k.Await ∷ awaited_kinds a after
  stmt_kinds (stmt.Spawn s) after = spawn_kinds s after
  stmt_kinds (stmt.Kill x) after = k.Kill ∷ lower_kinds x after
  stmt_kinds (stmt.Escape l e) after = k.Escape ∷ left_kinds l (answer_kinds e after)
  stmt_kinds (stmt.Do d) after = do_kinds d after
  stmt_kinds (stmt.Finalize b) after = k.Do ∷ k.Finalize ∷ k.With ∷ body_kinds b after
  stmt_kinds (If' _ arms last) after = arms_kinds arms (last_kinds last after)
  stmt_kinds (stmt.Loop n b) after = k.Loop ∷ limit_kinds n (k.Do ∷ body_kinds b after)
  stmt_kinds (stmt.Range r) after = range_kinds r after
  stmt_kinds (stmt.Every x t b) after = k.Every ∷ received_kinds x (target_kinds t (k.Do ∷ body_kinds b after))
  stmt_kinds (stmt.Watching t b) after = k.Watching ∷ target_kinds t (k.Do ∷ body_kinds b after)
  stmt_kinds (Par' p _ bs) after = par_kinds p (branches_kinds bs (k.End ∷ after))
  stmt_kinds (stmt.Async xs b) after = k.Async ∷ shared_kinds xs (k.Do ∷ body_kinds b after)

  pub source_kinds : Source → (after : List Kind) → List Kind
  source_kinds (source.Value e) after = exp_kinds e after
  source_kinds (source.Wait a) after = k.Await ∷ awaited_kinds a after
  source_kinds (source.Start s) after = spawn_kinds s after
  source_kinds (source.Done d) after = do_kinds d after

  pub value_kinds : Held-Item-value → (after : List Kind) → List Kind
  value_kinds Item-value-None' after = after
  value_kinds (Item-value-Some' s) after = k.Assign ∷ source_kinds s after

  pub do_kinds : Do → (after : List Kind) → List Kind
  do_kinds (Do' l b) after = k.Do ∷ label_kinds l (body_kinds b after)

  -- a block and its `end`
  pub body_kinds : Block → (after : List Kind) → List Kind
  body_kinds (Block' _ list) after = nodes_kinds list (k.End ∷ after)

  pub block_kinds : Block → (after : List Kind) → List Kind
  block_kinds (Block' _ list) after = nodes_kinds list after

  pub arm_kinds : Arm → (after : List Kind) → List Kind
  arm_kinds (Arm' c b) after = k.If ∷ exp_kinds c (k.Then ∷ block_kinds b after)

  pub last_kinds : Held-Stmt-If-1 → (after : List Kind) → List Kind
  last_kinds Stmt-If-1-None' after = k.End ∷ after
  last_kinds (Stmt-If-1-Some' b) after = k.Else ∷ body_kinds b after

  pub range_kinds : Range → (after : List Kind) → List Kind
  range_kinds (Range' x open_a a b open_b body) after =
      k.Loop ∷ lower_kinds x (k.In ∷ left_bracket open_a ∷ exp_kinds a (k.Arrow ∷ exp_kinds b (right_bracket open_b ∷ k.Do ∷ body_kinds body after)))

  pub items_kinds : {n : _} → Row_of-Item n → (after : List Kind) → List Kind
  items_kinds end_of-Item after = after
  items_kinds (more_of-Item x v rest) after = lower_kinds x (value_kinds v (more_items rest after))

  pub more_items : {n : _} → Row_of-Item n → (after : List Kind) → List Kind
  more_items end_of-Item after = after
  more_items (more_of-Item x v rest) after = k.Comma ∷ lower_kinds x (value_kinds v (more_items rest after))

  pub arms_kinds : {n : _} → Row_of-Arm n → (after : List Kind) → List Kind
  arms_kinds end_of-Arm after = after
  arms_kinds (more_of-Arm a rest) after = arm_kinds a (more_arms rest after)

  pub more_arms : {n : _} → Row_of-Arm n → (after : List Kind) → List Kind
  more_arms end_of-Arm after = after
  more_arms (more_of-Arm a rest) after = k.Else ∷ k.Slash ∷ arm_kinds a (more_arms rest after)

  -- No par is without branches: a name without letters stands for what no token is.
  pub branches_kinds : {n : _} → Row_of-Block n → (after : List Kind) → List Kind
  branches_kinds end_of-Block after = k.Lower [] ∷ after
  branches_kinds (more_of-Block b rest) after = block_kinds b (more_branches rest after)

  pub more_branches : {n : _} → Row_of-Block n → (after : List Kind) → List Kind
  more_branches end_of-Block after = after
  more_branches (more_of-Block b rest) after = k.With ∷ block_kinds b (more_branches rest after)

  pub nodes_kinds : {n : _} → Row_of-Node n → (after : List Kind) → List Kind
  nodes_kinds end_of-Node after = after
  nodes_kinds (more_of-Node p s rest) after = stmt_kinds s (ended_kinds (ends_in_end s) (nodes_kinds rest after))

-- ---- programs

-- the kinds of the tokens of a tree's printed text
abbrev pub kinds_of : Tree → List Kind
kinds_of t = block_kinds t.body []
