-- A text that breaks no rule on types sets no variable by `await FOREVER`.
use Rattle.std.proofs.Common.{◌≡◌, refl, ℕ, List, [], ◌∷◌, Option, Some, None, Ok, true, false}
use Rattle.std.specs.Prelude.{⊤, fold, not}
use Rattle.ceu_base.specs.declared.kinds.Ty.{Ty}
use Rattle.ceu_base.specs.declared.kinds.Ty.TheVariants as ty
use Rattle.ceu_base.specs.declared.kinds.Rule.TheVariants.{T1, T4, T5, T6}
use Rattle.ceu_base.specs.declared.kinds.Pos.{Pos}
use Rattle.ceu_tree.specs.declared.source.Ident.{Ident}
use Rattle.ceu_tree.specs.declared.source.Param.{Param}
use Rattle.ceu_tree.specs.declared.source.Spawn.{Spawn}
use Rattle.ceu_tree.specs.declared.source.Target.{Target}
use Rattle.ceu_tree.specs.declared.source.Label.{Label}
use Rattle.ceu_tree.specs.declared.source.Label.TheVariants as label
use Rattle.ceu_tree.specs.declared.source.Await.{Await}
use Rattle.ceu_tree.specs.declared.source.Await.TheVariants as await
use Rattle.ceu_tree.specs.declared.source.Source as source
use Rattle.ceu_tree.specs.declared.source.Source.{Source}
use Rattle.ceu_tree.specs.declared.source.Item.{Held-Item-value, Item-value-None', Item-value-Some'}
use Rattle.ceu_tree.specs.declared.source.Do.{Do, Do'}
use Rattle.ceu_tree.specs.declared.source.Block.{Block, Block', Row_of-Node, end_of-Node, more_of-Node}
use Rattle.ceu_tree.specs.declared.source.Arm.{Arm, Arm'}
use Rattle.ceu_tree.specs.declared.source.Range.{Range, Range'}
use Rattle.ceu_tree.specs.declared.source.Stmt as stmt
use Rattle.ceu_tree.specs.declared.source.Stmt.{Stmt, Vars', If', Par', Row_of-Item, end_of-Item, more_of-Item, Row_of-Arm, end_of-Arm, more_of-Arm, Row_of-Block, end_of-Block, more_of-Block, Held-Stmt-If-1, Stmt-If-1-None', Stmt-If-1-Some'}
use Rattle.ceu_tree.specs.declared.source.Tree.{Tree}
use Rattle.ceu_tree.specs.declared.kernel.Loc.{Loc}
use Rattle.ceu_tree.specs.Proper.{InTrail}
use Rattle.ceu_scopes.specs.declared.known.Scopes.{Scopes}
use Rattle.ceu_types.specs.declared.typing.Types.{Types}
use Rattle.ceu_types.specs.declared.around.Around.{Around}
use Rattle.ceu_types.specs.declared.found.Found.{Found}
use Rattle.ceu_types.specs.declared.found.Broken.{Broken}
use Rattle.ceu_types.specs.declared.found.LabelTarget.{LabelTarget}
use Rattle.ceu_types.specs.Notes.{asks_own, passed, not_in_finalizer, begun, ended, ended_after}
use Rattle.ceu_types.specs.Expressions.{condition, given}
use Rattle.ceu_types.specs.Around.{program_around, code_around, async_around, loop_around, do_around, labelled, unlabelled}
use Rattle.ceu_types.specs.Statements.{await_type, await_found, target_found, taken, waits, acts, if_spawn_found, name_typed, param_found, params_found, every_takes, every_begun, every_ended, finalizer_begun, finalizer_ended, async_begun, async_ended, stmt_found, source_found, value_found, do_found, block_found, arm_found, last_found, range_found, items_found, arms_found, blocks_found, nodes_found, nothing_found, answer, types_of}
use Rattle.ceu_expand.specs.declared.draft.Draft.{Draft}
use Rattle.ceu_expand.specs.Draft.{nothing_written}
use Rattle.laws_kernel_shape.proofs.Fine.{Fine, fine_own, fine_asks, fine_every, fine_acts, fine_waits, fine_finalizer, fine_passed, fine_ended}
use Rattle.laws_kernel_shape.proofs.Pieces.{given_step, condition_step, spawn_step, target_step, taken_step, emit_step, jumped_step, escape_step, names_step, every_step}
use Rattle.laws_kernel_shape.proofs.Leaves.{await_wait}

-- ---- texts in which what sets a variable comes to an end

unfoldable mutual
  pub Ends : Stmt → Type 0
  Ends (Vars' t _ items) = ItemsEnd items
  Ends (stmt.Code x ps t b) = BlockEnds b
  Ends (stmt.Assign x v) = SourceEnds v
  Ends (stmt.Do d) = DoEnds d
  Ends (stmt.Finalize b) = BlockEnds b
  Ends (If' _ arms last) = ArmsEnd arms × LastEnds last
  Ends (stmt.Loop limit b) = BlockEnds b
  Ends (stmt.Range r) = RangeEnds r
  Ends (stmt.Every x t b) = BlockEnds b
  Ends (stmt.Watching t b) = BlockEnds b
  Ends (Par' kind _ bs) = BlocksEnd bs
  Ends (stmt.Async xs b) = BlockEnds b
  Ends _ = ⊤

  pub SourceEnds : Source → Type 0
  SourceEnds (source.Wait await.Forever) = ⊥
  SourceEnds (source.Done d) = DoEnds d
  SourceEnds _ = ⊤

  pub ValueEnds : Held-Item-value → Type 0
  ValueEnds Item-value-None' = ⊤
  ValueEnds (Item-value-Some' v) = SourceEnds v

  pub DoEnds : Do → Type 0
  DoEnds (Do' l b) = BlockEnds b

  pub BlockEnds : Block → Type 0
  BlockEnds (Block' _ list) = NodesEnd list

  pub ArmEnds : Arm → Type 0
  ArmEnds (Arm' c b) = BlockEnds b

  pub LastEnds : Held-Stmt-If-1 → Type 0
  LastEnds Stmt-If-1-None' = ⊤
  LastEnds (Stmt-If-1-Some' b) = BlockEnds b

  pub RangeEnds : Range → Type 0
  RangeEnds (Range' x _ a b _ body) = BlockEnds body

  pub ItemsEnd : {n : _} → Row_of-Item n → Type 0
  ItemsEnd end_of-Item = ⊤
  ItemsEnd (more_of-Item x v rest) = ValueEnds v × ItemsEnd rest

  pub ArmsEnd : {n : _} → Row_of-Arm n → Type 0
  ArmsEnd end_of-Arm = ⊤
  ArmsEnd (more_of-Arm arm rest) = ArmEnds arm × ArmsEnd rest

  pub BlocksEnd : {n : _} → Row_of-Block n → Type 0
  BlocksEnd end_of-Block = ⊤
  BlocksEnd (more_of-Block b rest) = BlockEnds b × BlocksEnd rest

  pub NodesEnd : {n : _} → Row_of-Node n → Type 0
  NodesEnd end_of-Node = ⊤
  NodesEnd (more_of-Node p st rest) = Ends st × NodesEnd rest

abbrev pub TreeEnds : Tree → Type 0
TreeEnds t = BlockEnds t.body

-- ---- where no rule is broken

abbrev Clean : Found → Type 0
Clean f = Fine InTrail f

module _ (s : Scopes) (t : Types) where
  abbrev none_written : Draft
  none_written = nothing_written 0 0

  await_clean : (into : Option Loc) (p : Pos) (w : Await) (f : Found) → Clean (await_found s w f) → Clean f
  await_clean into p w f h = (await_wait s t p into w f none_written).step.back InTrail h

  forever_broken : (u : Ty) (k : ℕ) (f : Found) → Clean (await_found s await.Forever (taken u (await_type s await.Forever k) f)) → ⊥
  unfolding await_found await_type taken
  forever_broken u k f h = let broken : false ≡ true = (fine_own InTrail false T5 f h).0 in absurd (cc)

  name_clean : (u : Ty) (x : Ident) (f : Found) → Clean (name_typed u x f) → Clean f
  unfolding name_typed
  name_clean u x f h = (fine_asks InTrail _ T1 x.pos f h).1

  wait_clean : (u : Ty) (w : Await) (f : Found) → Clean (await_found s w (taken u (await_type s w f.names) (waits f))) → Clean f
  wait_clean u w f h = (fine_waits InTrail f ((taken_step s u (await_type s w f.names) (waits f) none_written).back InTrail (await_clean None (record { line = 0; col = 0 }) w (taken u (await_type s w f.names) (waits f)) h))).0

  params_clean : (ps : List Param) (f : Found) → Clean (fold param_found f ps) → Clean f
  params_clean [] f h = h
  params_clean (p ∷ ps) f h = name_clean p.ty p.name f (params_clean ps (param_found f p) h)

  head_clean : (x : Ident) (ps : List Param) (f : Found) → Clean (params_found x ps f) → Clean f
  unfolding params_found
  head_clean x ps f h = (fine_acts InTrail f (fine_asks InTrail _ T4 x.pos (acts f) (params_clean ps _ h)).1).0

  if_spawn_clean : (start : Option Spawn) (f : Found) → Clean (if_spawn_found s start f) → Clean f
  if_spawn_clean None f h = h
  if_spawn_clean (Some x) f h = (spawn_step s x f none_written).back InTrail h

  every_head : (x : Option Ident) (target : Target) (f : Found) → Clean (every_begun s x target f) → Clean f
  unfolding every_begun
  every_head x target f h =
      let f1 = acts f in
      let f2 = every_takes s x target f1 in
      let f3 = target_found s target f2 in
      let k : Clean f3 = record { broken = h.broken; own = h.own; allows = tt } in
      (fine_acts InTrail f ((every_step s x target f1 none_written).back InTrail ((target_step s target f2 none_written).back InTrail k))).0

  every_tail : (f : Found) → Clean (every_ended f) → Clean f
  unfolding every_ended
  every_tail f h = (fine_own InTrail (not f.beyond_every) T6 f (fine_every InTrail (asks_own (not f.beyond_every) T6 f) h)).1

  finalizer_head : (f : Found) → Clean (finalizer_begun f) → Clean f
  unfolding finalizer_begun
  finalizer_head f h = record { broken = h.broken; own = h.own; allows = tt }

  finalizer_tail : (f : Found) → Clean (finalizer_ended f) → Clean f
  unfolding finalizer_ended
  finalizer_tail f h = (fine_own InTrail (not f.beyond_finalizer) T6 f (fine_acts InTrail (asks_own (not f.beyond_finalizer) T6 f) h).0).1

  async_head : (xs : List Ident) (f : Found) → Clean (async_begun s xs f) → Clean f
  unfolding async_begun
  async_head xs f h =
      let k = (names_step s xs (record f { beyond_async = false; labels = [] }) none_written).back InTrail h in
      record { broken = k.broken; own = k.own; allows = tt }

  async_tail : (labels : List LabelTarget) (f : Found) → Clean (async_ended labels f) → Clean f
  unfolding async_ended
  async_tail labels f h =
      let noted = asks_own (not f.beyond_async) T6 f in
      let k = (fine_waits InTrail (record noted { labels = labels }) h).0 in
      (fine_own InTrail (not f.beyond_async) T6 f (record { broken = k.broken; own = k.own; allows = tt })).1

  labelled_clean : (l : Label) (u : Ty) (f : Found) → Clean (labelled l u f) → Clean f
  unfolding labelled
  labelled_clean label.Plain u f h = h
  labelled_clean label.Under u f h = h
  labelled_clean (label.Named l) u f h = record { broken = h.broken; own = h.own; allows = tt }

  unlabelled_clean : (l : Label) (f : Found) → Clean (unlabelled l f) → Clean f
  unfolding unlabelled
  unlabelled_clean label.Plain f h = h
  unlabelled_clean label.Under f h = h
  unlabelled_clean (label.Named l) f h = record { broken = h.broken; own = h.own; allows = tt }

  mutual
    unfolding Ends stmt_found

    stmt_ends : (a : Around) (st : Stmt) (f : Found) → Clean (stmt_found s a st f) → Ends st × Clean f
    stmt_ends a stmt.Nothing f h = (tt, h)
    stmt_ends a stmt.Break f h = (tt, (fine_finalizer InTrail f ((jumped_step s a (not_in_finalizer f) none_written).back InTrail h)).0)
    stmt_ends a stmt.Continue f h = (tt, (fine_finalizer InTrail f ((jumped_step s a (not_in_finalizer f) none_written).back InTrail h)).0)
    stmt_ends a (Vars' u _ items) f h = let k = items_end a u items (not_in_finalizer f) h in (k.0, (fine_finalizer InTrail f k.1).0)
    stmt_ends a (stmt.AliasDecl code x start) f h = (tt, (fine_acts InTrail f (fine_passed s InTrail (acts f) (if_spawn_clean start (passed s (acts f)) h))).0)
    stmt_ends a (stmt.Events u xs) f h = (tt, (fine_acts InTrail f h).0)
    stmt_ends a (stmt.Inputs u xs) f h = (tt, (fine_acts InTrail f h).0)
    stmt_ends a (stmt.Outputs u xs) f h = (tt, (fine_acts InTrail f h).0)
    stmt_ends a (stmt.Pool n code x) f h = (tt, (fine_acts InTrail f (fine_passed s InTrail (acts f) h)).0)
    stmt_ends a (stmt.Code x ps u b) f h = let k = block_ends (code_around u) b (params_found x ps f) h in (k.0, head_clean x ps f k.1)
    stmt_ends a (stmt.Assign x v) f h = let k = source_ends a _ v (passed s f) h in (k.0, fine_passed s InTrail f k.1)
    stmt_ends a (stmt.Emit x e) f h = (tt, (emit_step s e f none_written).back InTrail h)
    stmt_ends a (stmt.Await w) f h = (tt, (fine_waits InTrail f (await_clean None (record { line = 0; col = 0 }) w (waits f) h)).0)
    stmt_ends a (stmt.Spawn x) f h = (tt, (spawn_step s x f none_written).back InTrail h)
    stmt_ends a (stmt.Kill x) f h = (tt, (fine_acts InTrail f (fine_passed s InTrail (acts f) h)).0)
    stmt_ends a (stmt.Escape l e) f h = (tt, (escape_step s a l e f none_written).back InTrail h)
    stmt_ends a (stmt.Do d) f h = let k = do_ends a ty.None d (not_in_finalizer f) h in (k.0, (fine_finalizer InTrail f k.1).0)
    stmt_ends a (stmt.Finalize b) f h = let k = block_ends a b (finalizer_begun f) (finalizer_tail _ h) in (k.0, finalizer_head f k.1)
    stmt_ends a (If' _ arms last) f h =
        let k = last_ends a last (arms_found s a arms (not_in_finalizer f)) h in
        let j = arms_end a arms (not_in_finalizer f) k.1 in
        ((j.0, k.0), (fine_finalizer InTrail f j.1).0)
    stmt_ends a (stmt.Loop n b) f h = let k = block_ends (loop_around a) b (not_in_finalizer f) h in (k.0, (fine_finalizer InTrail f k.1).0)
    stmt_ends a (stmt.Range r) f h = let k = range_ends a r (not_in_finalizer f) h in (k.0, (fine_finalizer InTrail f k.1).0)
    stmt_ends a (stmt.Every x target b) f h = let k = block_ends (loop_around a) b (every_begun s x target f) (every_tail _ h) in (k.0, every_head x target f k.1)
    stmt_ends a (stmt.Watching target b) f h =
        let k = block_ends a b (target_found s target (waits f)) h in (k.0, (fine_waits InTrail f ((target_step s target (waits f) none_written).back InTrail k.1)).0)
    stmt_ends a (Par' kind _ bs) f h = let k = blocks_end a bs (waits f) h in (k.0, (fine_waits InTrail f k.1).0)
    stmt_ends a (stmt.Async xs b) f h = let k = block_ends async_around b (async_begun s xs f) (async_tail f.labels _ h) in (k.0, async_head xs f k.1)

    source_ends : (a : Around) (u : Ty) (v : Source) (f : Found) → Clean (source_found s a u v f) → SourceEnds v × Clean f
    source_ends a u (source.Value e) f h = (tt, (given_step s e u f none_written).back InTrail h)
    source_ends a u (source.Wait await.Forever) f h = absurd (forever_broken u f.names (waits f) h)
    source_ends a u (source.Wait (await.Code c)) f h = (tt, wait_clean u (await.Code c) f h)
    source_ends a u (source.Wait (await.On x until)) f h = (tt, wait_clean u (await.On x until) f h)
    source_ends a u (source.Start x) f h = (tt, (spawn_step s x f none_written).back InTrail h)
    source_ends a u (source.Done d) f h = let k = do_ends a u d (acts f) h in (k.0, (fine_acts InTrail f k.1).0)

    value_ends : (a : Around) (u : Ty) (v : Held-Item-value) (f : Found) → Clean (value_found s a u v f) → ValueEnds v × Clean f
    value_ends a u Item-value-None' f h = (tt, h)
    value_ends a u (Item-value-Some' v) f h = source_ends a u v f h

    do_ends : (a : Around) (u : Ty) (d : Do) (f : Found) → Clean (do_found s a u d f) → DoEnds d × Clean f
    do_ends a u (Do' l b) f h = let k = block_ends (do_around l u a) b (labelled l u f) (unlabelled_clean l _ h) in (k.0, labelled_clean l u f k.1)

    block_ends : (a : Around) (b : Block) (f : Found) → Clean (block_found s a b f) → BlockEnds b × Clean f
    block_ends a (Block' _ list) f h = nodes_end a list f h

    arm_ends : (a : Around) (arm : Arm) (f : Found) → Clean (arm_found s a arm f) → ArmEnds arm × Clean f
    arm_ends a (Arm' c b) f h = let k = block_ends a b (condition s c f) h in (k.0, (condition_step s c f none_written).back InTrail k.1)

    last_ends : (a : Around) (b : Held-Stmt-If-1) (f : Found) → Clean (last_found s a b f) → LastEnds b × Clean f
    last_ends a Stmt-If-1-None' f h = (tt, h)
    last_ends a (Stmt-If-1-Some' b) f h = block_ends a b f h

    range_ends : (a : Around) (r : Range) (f : Found) → Clean (range_found s a r f) → RangeEnds r × Clean f
    range_ends a (Range' x _ low high _ b) f h =
        let g = given s low ty.S32 f in
        let k = block_ends (loop_around a) b (given s high ty.S32 g) h in
        (k.0, (given_step s low ty.S32 f none_written).back InTrail ((given_step s high ty.S32 g none_written).back InTrail k.1))

    items_end : {n : _} (a : Around) (u : Ty) (r : Row_of-Item n) (f : Found) → Clean (items_found s a u r f) → ItemsEnd r × Clean f
    items_end a u end_of-Item f h = (tt, h)
    items_end a u (more_of-Item x v rest) f h =
        let named = name_typed u x f in
        let k = items_end a u rest (value_found s a u v named) h in
        let j = value_ends a u v named k.1 in
        ((j.0, k.0), name_clean u x f j.1)

    arms_end : {n : _} (a : Around) (r : Row_of-Arm n) (f : Found) → Clean (arms_found s a r f) → ArmsEnd r × Clean f
    arms_end a end_of-Arm f h = (tt, h)
    arms_end a (more_of-Arm arm rest) f h = let k = arms_end a rest (arm_found s a arm f) h in let j = arm_ends a arm f k.1 in ((j.0, k.0), j.1)

    blocks_end : {n : _} (a : Around) (r : Row_of-Block n) (f : Found) → Clean (blocks_found s a r f) → BlocksEnd r × Clean f
    blocks_end a end_of-Block f h = (tt, h)
    blocks_end a (more_of-Block b rest) f h = let k = blocks_end a rest (block_found s a b f) h in let j = block_ends a b f k.1 in ((j.0, k.0), j.1)

    nodes_end : {n : _} (a : Around) (r : Row_of-Node n) (f : Found) → Clean (nodes_found s a r f) → NodesEnd r × Clean f
    nodes_end a end_of-Node f h = (tt, h)
    nodes_end a (more_of-Node p st rest) f h =
        let k = nodes_end a rest (ended p f (stmt_found s a st (begun f))) h in
        let e = fine_ended InTrail p f (stmt_found s a st (begun f)) k.1 in
        let j = stmt_ends a st (begun f) e.2 in
        ((j.0, k.0), record { broken = e.0; own = e.1; allows = tt })

  own_kept : {n : _} (a : Around) (r : Row_of-Node n) (f : Found) → (nodes_found s a r f).own ≡ f.own
  unfolding stmt_found ended_after
  own_kept a end_of-Node f = refl
  own_kept a (more_of-Node p st rest) f = own_kept a rest (ended p f (stmt_found s a st (begun f)))

  answered : (b : Option Broken) (us ts : List Ty) → answer b us ≡ Ok ts → b ≡ None
  answered None us ts h = refl
  answered (Some b) us ts h = absurd (cc)

  body_ends : (b : Block) → (block_found s program_around b nothing_found).broken ≡ None → BlockEnds b
  unfolding stmt_found Ends
  body_ends (Block' _ list) h = (nodes_end program_around list nothing_found (record { broken = h; own = own_kept program_around list nothing_found; allows = tt })).0

  pub tree_ends : (tree : Tree) (ts : List Ty) → types_of s tree ≡ Ok ts → TreeEnds tree
  unfolding types_of
  tree_ends tree ts h =
      let f = block_found s program_around tree.body nothing_found in
      body_ends tree.body (answered f.broken f.types ts h)
