-- The kernel of a program.
--
-- The text is read from its first token to its last, and each statement adds to the block around it what it stands for. Declarations of events,
-- inputs, outputs, pools and code add no statement; a variable without a value is set to zero or false in its place. Nodes and slots are counted
-- over the program's text and behind it over the codes: a block's declarations take their slots where the block begins, a statement its hidden
-- slots before its parts.
--
-- `watching X do S end` is `par/or do await X; with S end`, `every X do S end` is `loop do await X; S end`, and `await X until c` is
-- `loop do await X; if c then break; end end`.
use Rattle.std.specs.Prelude.{ℕ, ◌+◌, Bool, List, [], ◌∷◌, length, Option, Some, None}
use Rattle.ceu_base.specs.declared.kinds.Ty.{Ty}
use Rattle.ceu_base.specs.declared.kinds.Pos.{Pos}
use Rattle.ceu_tree.specs.declared.source.Ident.{Ident}
use Rattle.ceu_tree.specs.declared.source.Param.{Param}
use Rattle.ceu_tree.specs.declared.source.Target.{Target}
use Rattle.ceu_tree.specs.declared.source.Exp.{Exp}
use Rattle.ceu_tree.specs.declared.source.Source as source
use Rattle.ceu_tree.specs.declared.source.Source.{Source}
use Rattle.ceu_tree.specs.declared.source.Node.{Node}
use Rattle.ceu_tree.specs.declared.source.Item.{Item, Held-Item-value, Item-value-None', Item-value-Some'}
use Rattle.ceu_tree.specs.declared.source.Do.{Do, Do'}
use Rattle.ceu_tree.specs.declared.source.Block.{Block, Block', Row_of-Node, end_of-Node, more_of-Node}
use Rattle.ceu_tree.specs.declared.source.Arm.{Arm, Arm'}
use Rattle.ceu_tree.specs.declared.source.Range.{Range, Range'}
use Rattle.ceu_tree.specs.declared.source.Stmt as stmt
use Rattle.ceu_tree.specs.declared.source.Stmt.{Stmt, Vars', If', Par', Row_of-Item, end_of-Item, more_of-Item, Row_of-Arm, end_of-Arm, more_of-Arm, Row_of-Block, end_of-Block, more_of-Block, Held-Stmt-If-1, Stmt-If-1-None', Stmt-If-1-Some'}
use Rattle.ceu_tree.specs.declared.source.Tree.{Tree}
use Rattle.ceu_tree.specs.declared.kernel.Loc.{Loc}
use Rattle.ceu_tree.specs.declared.kernel.KKind.TheVariants as kind
use Rattle.ceu_tree.specs.declared.kernel.KLoop.{KLoop}
use Rattle.ceu_tree.specs.declared.kernel.KLoop.TheVariants as turns
use Rattle.ceu_tree.specs.declared.kernel.ParKind.{ParKind}
use Rattle.ceu_tree.specs.declared.kernel.ParKind.TheVariants as par
use Rattle.ceu_tree.specs.declared.kernel.KArm.{KArm, KArm'}
use Rattle.ceu_tree.specs.declared.kernel.KStmt.{KStmt}
use Rattle.ceu_tree.specs.declared.kernel.KStmt as kernel
use Rattle.ceu_tree.specs.declared.kernel.KBlock.{KBlock}
use Rattle.ceu_tree.specs.declared.kernel.Kernel.{Kernel}
use Rattle.ceu_scopes.specs.declared.known.Scopes.{Scopes}
use Rattle.ceu_types.specs.declared.typing.Types.{Types}
use Rattle.ceu_expand.specs.declared.around.Around.{Around}
use Rattle.ceu_expand.specs.declared.draft.Draft.{Draft}
use Rattle.ceu_expand.specs.declared.draft.Parts.{Parts}
use Rattle.ceu_expand.specs.Draft.{of_program, of_code, in_loop, in_do, nothing_written, begun, hidden, placed, block_of, around_block, standing, declared, event_declared, input_declared, output_declared, own, entered, left, with_code, labelled, unlabelled}
use Rattle.ceu_expand.specs.Lists.{each}
use Rattle.ceu_expand.specs.Uses.{variable, used, if_variable, if_used}
use Rattle.ceu_expand.specs.Expressions.{exp_passed, exp_written}
use Rattle.ceu_expand.specs.Parts.{simple, zeroed, nothing_in, assigned, emitted, escaped, target_awaited, awaited, spawned, alias_declared, pool_declared, killed, param_declared, name_passed}

-- ---- slots

abbrev pub row_items : {n : _} → Row_of-Item n → ℕ
row_items end_of-Item = 0
row_items (more_of-Item x v rest) = row_items rest + 1

abbrev pub row_blocks : {n : _} → Row_of-Block n → ℕ
row_blocks end_of-Block = 0
row_blocks (more_of-Block b rest) = row_blocks rest + 1

-- how many slots the declarations of a statement take in its block
unfoldable pub declared_by : Stmt → ℕ
declared_by (Vars' t _ items) = row_items items
declared_by (stmt.AliasDecl code x start) = 1
declared_by (stmt.Pool n code x) = 1
declared_by _ = 0

unfoldable pub declared_in : {n : _} → Row_of-Node n → ℕ
declared_in end_of-Node = 0
declared_in (more_of-Node p st rest) = declared_by st + declared_in rest

-- the same over lists
abbrev pub declared_all : List Node → ℕ
declared_all [] = 0
declared_all (n ∷ ns) = declared_by n.stmt + declared_all ns

-- par/and has a hidden slot for each branch
unfoldable pub par_hidden : ParKind → ℕ → ℕ
par_hidden par.And branches = branches
par_hidden _ branches = 0

unfoldable pub par_slot : ParKind → ℕ → ℕ
par_slot par.And slot = slot
par_slot _ slot = 0

-- a loop with a limit has a hidden slot for its count
unfoldable pub turns_written : Option ℕ → Draft → KLoop
turns_written None d = turns.Free
turns_written (Some n) d = turns.Times d.slot n

unfoldable pub turns_passed : Option ℕ → Draft → Draft
turns_passed None d = d
turns_passed (Some n) d = hidden 1 d

-- a range has slots for its variable, the next value and the end
abbrev pub range_hidden : Draft → Draft
range_hidden d = hidden 1 (hidden 1 (hidden 1 d))

unfoldable pub range_written : Scopes → Types → (open_a : Bool) → Exp → Exp → (open_b : Bool) → Draft → KLoop
range_written s t open_a a b open_b d =
    let inside = range_hidden d in
    turns.Range d.slot (d.slot + 1) (d.slot + 1 + 1) open_a (exp_written s t a inside) (exp_written s t b (exp_passed a inside)) open_b

unfoldable pub range_passed : Exp → Exp → Draft → Draft
range_passed a b d = standing d.slot (exp_passed b (exp_passed a (range_hidden d)))

-- ---- code

-- code begins, with its parameters
unfoldable pub code_begun : List Param → Draft → Draft
code_begun ps d = each param_declared ps (entered (length ps) (standing (length d.codes) d))

-- what stands around the body of the code that comes next
unfoldable pub code_around : Draft → Around
code_around d = of_code d.node (length d.codes)

-- code ends, which has this body, and the block around it goes on
unfoldable pub code_ended : Ident → Ty → KBlock → Parts → Draft → Draft
code_ended x result body outside d =
    with_code (record { name = x.name; params = d.parts.decls; result = result; body = body }) (left outside d)

-- ---- statements

module _ (s : Scopes) (t : Types) where
  unfoldable mutual
    pub stmt_written : Around → Pos → Stmt → Draft → Draft
    stmt_written a p stmt.Nothing d = simple p kernel.Nothing d
    stmt_written a p stmt.Break d = simple p (kernel.Break a.turns) d
    stmt_written a p stmt.Continue d = simple p (kernel.Continue a.turns) d
    stmt_written a p (Vars' ty _ items) d = items_written a p ty items d
    stmt_written a p (stmt.AliasDecl code x start) d = alias_declared s t p x start d
    stmt_written a p (stmt.Events ty xs) d = each (event_declared a.code ty) xs d
    stmt_written a p (stmt.Inputs ty xs) d = each (input_declared ty) xs d
    stmt_written a p (stmt.Outputs ty xs) d = each (output_declared ty) xs d
    stmt_written a p (stmt.Pool places code x) d = pool_declared s places x d
    stmt_written a p (stmt.Code x ps result b) d =
        let inside = code_begun ps d in
        code_ended x result (block_written (code_around inside) b inside) d.parts (block_passed (code_around inside) b inside)
    stmt_written a p (stmt.Assign x v) d = source_written a p (variable s x d) v (used d)
    stmt_written a p (stmt.Emit x e) d = emitted s t p e d
    stmt_written a p (stmt.Await w) d = awaited s t p None w d
    stmt_written a p (stmt.Spawn x) d = spawned s t None x d
    stmt_written a p (stmt.Kill x) d = killed s p d
    stmt_written a p (stmt.Escape l e) d = escaped s t a p l e d
    stmt_written a p (stmt.Do b) d = do_written a p None b d
    stmt_written a p (stmt.Finalize b) d = placed d.node p (kernel.Finalize (block_written a b (begun d))) (block_passed a b (begun d))
    stmt_written a p (If' _ arms last) d =
        placed d.node p
        (kernel.If (arms_written a arms (begun d)) (last_written a last (arms_passed a arms (begun d))))
        (last_passed a last (arms_passed a arms (begun d)))
    stmt_written a p (stmt.Loop limit b) d =
        let inside = turns_passed limit (begun d) in
        placed d.node p (kernel.Loop (turns_written limit (begun d)) (block_written (in_loop d.node a) b inside)) (block_passed (in_loop d.node a) b inside)
    stmt_written a p (stmt.Range r) d = ranged a p r d
    stmt_written a p (stmt.Every x target b) d =
        placed d.node p (kernel.Loop turns.Free (every_written a d.node p x target b (begun d))) (every_passed a d.node p x target b (begun d))
    stmt_written a p (stmt.Watching target b) d =
        let inside = around_block 0 (target_awaited s t p None target) (begun d) in
        placed d.node p
        (kernel.Par par.Or 0 (block_of 0 (target_awaited s t p None target) (begun d) ∷ block_written a b inside ∷ []))
        (block_passed a b inside)
    stmt_written a p (Par' k _ bs) d =
        let inside = hidden (par_hidden k (row_blocks bs)) (begun d) in
        placed d.node p (kernel.Par k (par_slot k d.slot) (blocks_written a bs inside)) (blocks_passed a bs inside)
    stmt_written a p (stmt.Async xs b) d =
        let inside = each name_passed xs (begun d) in
        placed d.node p (kernel.Async (block_written a b inside)) (block_passed a b inside)

    -- what sets a variable or an alias
    pub source_written : Around → Pos → Loc → Source → Draft → Draft
    source_written a p into (source.Value e) d = assigned s t p into e d
    source_written a p into (source.Wait w) d = awaited s t p (Some into) w d
    source_written a p into (source.Start x) d = spawned s t (Some into.slot) x d
    source_written a p into (source.Done b) d = do_written a p (Some into) b d

    pub value_written : Around → Pos → Loc → Held-Item-value → Draft → Draft
    value_written a p into Item-value-None' d = zeroed p into d
    value_written a p into (Item-value-Some' v) d = source_written a p into v d

    pub do_written : Around → Pos → Option Loc → Do → Draft → Draft
    do_written a p into (Do' l b) d =
        let inside = labelled l d.node (begun d) in
        placed d.node p (kernel.Do into (block_written (in_do l d.node a) b inside)) (unlabelled l (block_passed (in_do l d.node a) b inside))

    pub ranged : Around → Pos → Range → Draft → Draft
    ranged a p (Range' x open_a low high open_b b) d =
        let inside = range_passed low high (begun d) in
        placed d.node p
        (kernel.Loop (range_written s t open_a low high open_b (begun d)) (block_written (in_loop d.node a) b inside))
        (block_passed (in_loop d.node a) b inside)

    -- the statements of an `every` stand in the loop's block behind the await
    pub every_written : Around → (loop : ℕ) → Pos → Option Ident → Target → Block → Draft → KBlock
    every_written a loop p x target (Block' _ list) d =
        block_of (declared_in list)
        (λ inside. nodes_written (in_loop loop a) list (target_awaited s t p (if_variable s x inside) target (if_used x inside)))
        d

    pub every_passed : Around → (loop : ℕ) → Pos → Option Ident → Target → Block → Draft → Draft
    every_passed a loop p x target (Block' _ list) d =
        around_block (declared_in list)
        (λ inside. nodes_written (in_loop loop a) list (target_awaited s t p (if_variable s x inside) target (if_used x inside)))
        d

    pub block_written : Around → Block → Draft → KBlock
    block_written a (Block' _ list) d = block_of (declared_in list) (nodes_written a list) d

    pub block_passed : Around → Block → Draft → Draft
    block_passed a (Block' _ list) d = around_block (declared_in list) (nodes_written a list) d

    pub arm_written : Around → Arm → Draft → KArm
    arm_written a (Arm' c b) d = KArm' (exp_written s t c d) (block_written a b (exp_passed c d))

    pub arm_passed : Around → Arm → Draft → Draft
    arm_passed a (Arm' c b) d = block_passed a b (exp_passed c d)

    -- an `if` without `else` has an empty last block
    pub last_written : Around → Held-Stmt-If-1 → Draft → KBlock
    last_written a Stmt-If-1-None' d = block_of 0 nothing_in d
    last_written a (Stmt-If-1-Some' b) d = block_written a b d

    pub last_passed : Around → Held-Stmt-If-1 → Draft → Draft
    last_passed a Stmt-If-1-None' d = around_block 0 nothing_in d
    last_passed a (Stmt-If-1-Some' b) d = block_passed a b d

    pub nodes_written : {n : _} → Around → Row_of-Node n → Draft → Draft
    nodes_written a end_of-Node d = d
    nodes_written a (more_of-Node p st rest) d = nodes_written a rest (stmt_written a p st d)

    pub items_written : {n : _} → Around → Pos → Ty → Row_of-Item n → Draft → Draft
    items_written a p ty end_of-Item d = d
    items_written a p ty (more_of-Item x v rest) d =
        items_written a p ty rest (value_written a p (own d.parts.slot ty) v (declared (kind.Var ty) x d))

    pub arms_written : {n : _} → Around → Row_of-Arm n → Draft → List KArm
    arms_written a end_of-Arm d = []
    arms_written a (more_of-Arm arm rest) d = arm_written a arm d ∷ arms_written a rest (arm_passed a arm d)

    pub arms_passed : {n : _} → Around → Row_of-Arm n → Draft → Draft
    arms_passed a end_of-Arm d = d
    arms_passed a (more_of-Arm arm rest) d = arms_passed a rest (arm_passed a arm d)

    pub blocks_written : {n : _} → Around → Row_of-Block n → Draft → List KBlock
    blocks_written a end_of-Block d = []
    blocks_written a (more_of-Block b rest) d = block_written a b d ∷ blocks_written a rest (block_passed a b d)

    pub blocks_passed : {n : _} → Around → Row_of-Block n → Draft → Draft
    blocks_passed a end_of-Block d = d
    blocks_passed a (more_of-Block b rest) d = blocks_passed a rest (block_passed a b d)

  -- ---- the same over the lists of a tree

  abbrev pub node_step : Around → Node → Draft → Draft
  node_step a n d = stmt_written a n.pos n.stmt d

  abbrev pub if_source_written : Around → Pos → Loc → Option Source → Draft → Draft
  if_source_written a p into None d = zeroed p into d
  if_source_written a p into (Some v) d = source_written a p into v d

  abbrev pub item_step : Around → Pos → Ty → Item → Draft → Draft
  item_step a p ty x d = if_source_written a p (own d.parts.slot ty) x.value (declared (kind.Var ty) x.name d)

  abbrev pub if_block_written : Around → Option Block → Draft → KBlock
  if_block_written a None d = block_of 0 nothing_in d
  if_block_written a (Some b) d = block_written a b d

  abbrev pub if_block_passed : Around → Option Block → Draft → Draft
  if_block_passed a None d = around_block 0 nothing_in d
  if_block_passed a (Some b) d = block_passed a b d

  -- ---- programs

  -- codes are counted behind the program's text, so that is counted first
  abbrev pub counted : Block → Draft
  counted b = block_passed of_program b (nothing_written 0 0)

  abbrev pub begun_program : Block → Draft
  begun_program b = nothing_written (counted b).node (counted b).slot

  abbrev pub kernel_from : KBlock → Draft → Kernel
  kernel_from body d = record { body = body; codes = d.codes; inputs = d.inputs; outputs = d.outputs; events = d.events }

  -- the kernel of a program with these scopes and types
  unfoldable pub kernel_of : Tree → Kernel
  kernel_of tree = kernel_from (block_written of_program tree.body (begun_program tree.body)) (block_passed of_program tree.body (begun_program tree.body))
