-- From the start of each statement and block of a program the turn is over in the end, and leaves it on its ways.
--
-- With `ordered` the codes that may be awaited are those above the body that the place is in.
use Rattle.std.proofs.Common.{◌≡◌, refl, sym, ◌∙◌, subst, ℕ, Bool, true, false, ◌&&◌, List, [], Option, Some, None}
use Rattle.std.proofs.lemmas.Bool.{and_parts, false≢true}
use Rattle.ceu_tree.specs.declared.kernel.Kernel.{Kernel}
use Rattle.ceu_tree.specs.declared.kernel.KCode.{KCode}
use Rattle.ceu_tree.specs.declared.kernel.KNode.{KNode}
use Rattle.ceu_tree.specs.declared.kernel.KLoop.{KLoop}
use Rattle.ceu_tree.specs.declared.kernel.KLoop.TheVariants as turns
use Rattle.ceu_tree.specs.declared.kernel.KArm.{KArm, KArm', out-KArm}
use Rattle.ceu_tree.specs.declared.kernel.KBlock.{KBlock, KBlock', out-KBlock, Row_of-KNode, end_of-KNode, more_of-KNode, items-the_row-KNode, items_shown-the_row-KNode-2}
use Rattle.ceu_tree.specs.declared.kernel.KStmt.{KStmt, out-KStmt, Row_of-KArm, end_of-KArm, more_of-KArm, items-the_row-KArm, items_shown-the_row-KArm-0, Row_of-KBlock, end_of-KBlock, more_of-KBlock, items-the_row-KBlock, items_shown-the_row-KBlock-1, AwaitCode, Do, If', Loop, Par'}
use Rattle.ceu_tree.specs.Leaf.{code_at}
use Rattle.ceu_tree.specs.Paths.{passes_from}
use Rattle.ceu_tree.specs.Proper.{Scope, LoopAim, with_decls, with_aim, with_turns, do_aim, gives_all, takes_if, on_code, is_above, stmt_ok, block_ok, arm_ok, nodes_ok, arms_ok, blocks_ok}
use Rattle.laws_bounds_steps.specs.Kept.{starts_kept, inside_kept, block_kept, arm_kept, nodes_kept, arms_kept, blocks_kept}
use Rattle.laws_bounds_turns.specs.TurnsLaws.{CodesLeave}
use Rattle.laws_bounds_turns.proofs.Parts.{EachHalts, begun_halts}
use Rattle.laws_bounds_turns.proofs.Started.{BlockHalts, EachBlock, EachArm, StmtHalts, CodeHalts, Inside, layer_halts}
use denote.Hole.Carrier

last_holds : (x y : Bool) → (x && y) ≡ true → y ≡ true
last_holds x y h = (and_parts x y h).1

first_holds : (x y : Bool) → (x && y) ≡ true → x ≡ true
first_holds x y h = (and_parts x y h).0

module _ (K : Kernel) (n : ℕ) (quiet ordered : Bool) (names : List (List ℕ)) (at : Option ℕ) (leave : quiet ≡ false → CodesLeave K) (strict : quiet ≡ false → ordered ≡ true)
    (codes : (c : ℕ) → (ordered ≡ true → is_above K c at ≡ true) → CodeHalts K n quiet c) where
  -- what the rules on the program's text say, in a scope of that body
  pub record InBody (ok : Scope → Bool) : Type 0 where
    pub scope : Scope
    pub body : scope.code ≡ at
    pub holds : ok scope ≡ true

  turns_code : (k : KLoop) (sc : Scope) → (with_turns K k sc).code ≡ sc.code
  turns_code turns.Free sc = refl
  turns_code (turns.Times slot limit) sc = refl
  turns_code (turns.Range i next end open_a x y open_b) sc = refl

  code_there : (sc : Scope) (c : ℕ) (f : KCode → Bool) → on_code K sc c f ≡ true → (k : KCode) × (code_at c K.codes ≡ Some k)
  code_there sc c f h = go (code_at c K.codes) refl (last_holds (is_above K c sc.code) _ h)
    where
      go : (o : Option KCode) → code_at c K.codes ≡ o → (elim o [ None ↦ false | Some k ↦ f k ]) ≡ true → (k : KCode) × (code_at c K.codes ≡ Some k)
      go None e x = absurd (false≢true x)
      go (Some k) e x = (k, e)

  mutual
    unfolding stmt_ok inside_kept out-KStmt out-KBlock out-KArm Carrier.out

    inside_halts : (node : ℕ) (st : KStmt) → (ordered ≡ true → InBody (λ sc. stmt_ok K names sc node st)) → (quiet ≡ false → inside_kept (passes_from [] K.codes) st) → Inside K n quiet (out-KStmt st)
    inside_halts node (AwaitCode c es f t) ok h = (
      codes c (λ e. let o = ok e in subst (λ m. is_above K c m ≡ true) o.body (first_holds (is_above K c o.scope.code) _ (last_holds _ (on_code K o.scope c (λ k. gives_all K o.scope k.params es && takes_if K o.scope k.result t)) o.holds))),
      λ e. let o = ok (strict e) in code_there o.scope c (λ k. gives_all K o.scope k.params es && takes_if K o.scope k.result t) (last_holds _ (on_code K o.scope c (λ k. gives_all K o.scope k.params es && takes_if K o.scope k.result t)) o.holds),
    )
    inside_halts node (Do t b) ok h = block_halts b (λ e. let o = ok e in record { scope = with_aim (do_aim K node t) o.scope; body = o.body; holds = last_holds _ (block_ok K names (with_aim (do_aim K node t) o.scope) b) o.holds }) h
    inside_halts node (If' x arms last) ok h = (
      subst (EachArm K n quiet) (sym (items_shown-the_row-KArm-0 x arms))
          (arms_halt arms (λ e. let o = ok e in record { scope = o.scope; body = o.body; holds = last_holds _ (arms_ok K names o.scope arms) (first_holds _ (block_ok K names o.scope last) o.holds) }) (λ e. (h e).0)),
      block_halts last (λ e. let o = ok e in record { scope = o.scope; body = o.body; holds = last_holds _ (block_ok K names o.scope last) o.holds }) (λ e. (h e).1),
    )
    inside_halts node (Loop k b) ok h = block_halts b
        (λ e. let o = ok e in record { scope = with_aim (LoopAim node) (with_turns K k o.scope); body = turns_code k o.scope ∙ o.body; holds = last_holds _ (block_ok K names (with_aim (LoopAim node) (with_turns K k o.scope)) b) o.holds }) h
    inside_halts node (Par' k slot x bs) ok h = subst (EachBlock K n quiet) (sym (items_shown-the_row-KBlock-1 x bs))
        (blocks_halt bs (λ e. let o = ok e in record { scope = o.scope; body = o.body; holds = last_holds _ (blocks_ok K names o.scope bs) o.holds }) h)
    inside_halts node st ok h = tt

    pub block_each : (b : KBlock) → (ordered ≡ true → InBody (λ sc. block_ok K names sc b)) → (quiet ≡ false → block_kept (passes_from [] K.codes) b) → EachHalts K n quiet (passes_from [] K.codes) (out-KBlock b).list
    block_each (KBlock' m ds x list) ok h = subst (EachHalts K n quiet (passes_from [] K.codes)) (sym (items_shown-the_row-KNode-2 x list))
        (nodes_halt list (λ e. let o = ok e in record { scope = with_decls ds o.scope; body = o.body; holds = last_holds _ (nodes_ok K names (with_decls ds o.scope) list) o.holds }) h)

    pub block_halts : (b : KBlock) → (ordered ≡ true → InBody (λ sc. block_ok K names sc b)) → (quiet ≡ false → block_kept (passes_from [] K.codes) b) → BlockHalts K n quiet b
    block_halts (KBlock' m ds x list) ok h = begun_halts K n quiet (passes_from [] K.codes) (KBlock' m ds x list) (subst (EachHalts K n quiet (passes_from [] K.codes)) (sym (items_shown-the_row-KNode-2 x list))
        (nodes_halt list (λ e. let o = ok e in record { scope = with_decls ds o.scope; body = o.body; holds = last_holds _ (nodes_ok K names (with_decls ds o.scope) list) o.holds }) h))

    nodes_halt : {m : _} (rows : Row_of-KNode m) → (ordered ≡ true → InBody (λ sc. nodes_ok K names sc rows)) → (quiet ≡ false → nodes_kept (passes_from [] K.codes) rows) → EachHalts K n quiet (passes_from [] K.codes) (items-the_row-KNode m rows)
    nodes_halt end_of-KNode ok h = tt
    nodes_halt (more_of-KNode node p st rest) ok h = (
      layer_halts K n quiet (record { node = node; pos = p; stmt = st }) leave (λ e. (h e).0.0)
          (inside_halts node st (λ e. let o = ok e in record { scope = o.scope; body = o.body; holds = last_holds _ (stmt_ok K names o.scope node st) (first_holds _ (nodes_ok K names o.scope rest) o.holds) }) (λ e. (h e).0.1)),
      nodes_halt rest (λ e. let o = ok e in record { scope = o.scope; body = o.body; holds = last_holds _ (nodes_ok K names o.scope rest) o.holds }) (λ e. (h e).1),
    )

    arm_halts : (a : KArm) → (ordered ≡ true → InBody (λ sc. arm_ok K names sc a)) → (quiet ≡ false → arm_kept (passes_from [] K.codes) a) → BlockHalts K n quiet (out-KArm a).body
    arm_halts (KArm' c b) ok h = block_halts b (λ e. let o = ok e in record { scope = o.scope; body = o.body; holds = last_holds _ (block_ok K names o.scope b) o.holds }) h

    arms_halt : {m : _} (rows : Row_of-KArm m) → (ordered ≡ true → InBody (λ sc. arms_ok K names sc rows)) → (quiet ≡ false → arms_kept (passes_from [] K.codes) rows) → EachArm K n quiet (items-the_row-KArm m rows)
    arms_halt end_of-KArm ok h = tt
    arms_halt (more_of-KArm a rest) ok h = (
      arm_halts a (λ e. let o = ok e in record { scope = o.scope; body = o.body; holds = first_holds (arm_ok K names o.scope a) (arms_ok K names o.scope rest) o.holds }) (λ e. (h e).0),
      arms_halt rest (λ e. let o = ok e in record { scope = o.scope; body = o.body; holds = last_holds (arm_ok K names o.scope a) (arms_ok K names o.scope rest) o.holds }) (λ e. (h e).1),
    )

    blocks_halt : {m : _} (rows : Row_of-KBlock m) → (ordered ≡ true → InBody (λ sc. blocks_ok K names sc rows)) → (quiet ≡ false → blocks_kept (passes_from [] K.codes) rows) → EachBlock K n quiet (items-the_row-KBlock m rows)
    blocks_halt end_of-KBlock ok h = tt
    blocks_halt (more_of-KBlock b rest) ok h = (
      block_halts b (λ e. let o = ok e in record { scope = o.scope; body = o.body; holds = first_holds (block_ok K names o.scope b) (blocks_ok K names o.scope rest) o.holds }) (λ e. (h e).0),
      blocks_halt rest (λ e. let o = ok e in record { scope = o.scope; body = o.body; holds = last_holds (block_ok K names o.scope b) (blocks_ok K names o.scope rest) o.holds }) (λ e. (h e).1),
    )

  pub stmt_halts : (s : KNode) → (ordered ≡ true → InBody (λ sc. stmt_ok K names sc s.node s.stmt)) → (quiet ≡ false → starts_kept (passes_from [] K.codes) s.node (out-KStmt s.stmt) × inside_kept (passes_from [] K.codes) s.stmt) → StmtHalts K n quiet s
  stmt_halts s ok h = layer_halts K n quiet s leave (λ e. (h e).0) (inside_halts s.node s.stmt ok (λ e. (h e).1))
