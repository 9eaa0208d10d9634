-- What the laws of kernels say one by one makes a kernel proper.
use Rattle.std.proofs.Common.{◌≡◌, refl, subst, ℕ, suc, ◌+◌, ◌≤◌, length, arith, List, [], ◌∷◌, ◌++◌, Option, Some, None, Bool, true, false}
use Rattle.std.specs.Prelude.{⊤, ◌^◌, not, ◌&&◌, nat_le, nat_lt, IsTrue}
use Rattle.std.proofs.lemmas.Bool.{lt-ltb, le-leb}
use Rattle.std.proofs.lemmas.Bool.Decides.{Decides-eqb}
use Rattle.std.specs.List.{list_all}
use Rattle.ceu_base.specs.declared.kinds.Ty.TheVariants as ty
use Rattle.ceu_base.specs.declared.kinds.Pos.{Pos}
use Rattle.ceu_tree.specs.declared.kernel.Kernel.{Kernel}
use Rattle.ceu_tree.specs.declared.kernel.KCode.{KCode}
use Rattle.ceu_tree.specs.declared.kernel.KEvent.{KEvent}
use Rattle.ceu_tree.specs.declared.kernel.KDecl.{KDecl}
use Rattle.ceu_tree.specs.declared.kernel.KKind.{KKind}
use Rattle.ceu_tree.specs.declared.kernel.KKind.TheVariants as kind
use Rattle.ceu_tree.specs.declared.kernel.KLoop.TheVariants as turns
use Rattle.ceu_tree.specs.declared.kernel.ParKind.{ParKind}
use Rattle.ceu_tree.specs.declared.kernel.ParKind.TheVariants as par
use Rattle.ceu_tree.specs.declared.kernel.KBlock.{KBlock, KBlock', Row_of-KNode, end_of-KNode, more_of-KNode}
use Rattle.ceu_tree.specs.declared.kernel.KArm.{KArm, KArm'}
use Rattle.ceu_tree.specs.declared.kernel.KStmt.{KStmt, Row_of-KArm, end_of-KArm, more_of-KArm, Row_of-KBlock, end_of-KBlock, more_of-KBlock, Nothing, Assign, Out, Emit, AwaitIn, AwaitTime, AwaitEvent, Forever, AwaitCode, Spawn, Kill, Unset, Async, Finalize, Do, Escape, Break, Continue, If', Loop, Par'}
use Rattle.ceu_tree.specs.Numbering.{is_numbered, row_length}
use Rattle.ceu_tree.specs.Mentions.{outer_names_from}
use Rattle.ceu_tree.specs.Typing.{same_ty}
use Rattle.ceu_tree.specs.Proper.{Scope, LoopAim, find, with_decls, with_loop_variable, with_aim, is_trail, outside_finalizers, alias_takes, gives_all, takes_if, port_ty, event_at, on_code, do_aim, par_ok, in_async, in_finalizer, decl_ok, stmt_ok, block_ok, arm_ok, nodes_ok, arms_ok, blocks_ok, body_scope, is_parameter, codes_ok, ports_ok, events_ok, is_proper, Proper}
use Rattle.laws_kernel_shape.specs.Shaped.{AllOf, IsPlace, KindShaped, DeclShaped, ParShaped, StmtShaped, BlockShaped, ArmShaped, NodesShaped, ArmsShaped, BlocksShaped, CodeShaped, EventShaped, KernelShaped}
use Rattle.laws_kernel_shape.specs.Events.{CodeBelow, EventBelow, EventsInCodes}
use Rattle.laws_kernel_names.specs.Above.{KindUses, DeclUses, StmtUses, BlockUses, ArmUses, NodesUse, ArmsUse, BlocksUse, CodesUse, KernelUses}
use Rattle.laws_kernel_shape.specs.Exits.{DeclStands, StmtStands, BlockStands, ArmStands, NodesStand, ArmsStand, BlocksStand, CodeStands, KernelStands}
use Rattle.laws_kernel_names.specs.Sees.{StmtSeen, BlockSeen, ArmSeen, NodesSeen, ArmsSeen, BlocksSeen, CodeSeen, KernelSeen}
use Rattle.laws_kernel_uses.specs.Settled.{StmtSettled, BlockSettled, ArmSettled, NodesSettled, ArmsSettled, BlocksSettled, CodeSettled, KernelSettled}
use Rattle.laws_kernel_types.specs.Typed.{ArgsGiven, MaybeTakes, DeclTyped, ParamTyped, StmtTyped, BlockTyped, ArmTyped, NodesTyped, ArmsTyped, BlocksTyped, CodesTyped, KernelTyped}
use Rattle.laws_kernel_uses.specs.Named.{MaybeAlias, StmtNamed, BlockNamed, ArmNamed, NodesNamed, ArmsNamed, BlocksNamed, CodesNamed, KernelNamed}
use Rattle.laws_kernel_proper.proofs.Leaves.{both, bare, exp_leaves, exp_given, maybe_given, args_given}
use Rattle.laws_kernel_proper.proofs.Targets.{bound_of, on_code_of, code_is, takes_maybe, takes_own, on_ty_of, on_event_of, escape_of, loop_of}

placed : (p : Pos) → IsPlace p → (nat_le 1 p.line ≡ true) × (nat_le 1 p.col ≡ true)
placed p h = (le-leb 1 p.line h.0, le-leb 1 p.col h.1)

module _ (K : Kernel) (names : List (List ℕ)) where
  -- ---- declarations

  kind_ok : (sc : Scope) → bound_of K sc.code ≤ length K.codes → (k : KKind) → KindShaped k → KindUses (bound_of K sc.code) k →
      (elim k as (λ _. Type 0) [ kind.Var t ↦ IsTrue (outside_finalizers sc.place) | kind.Alias c ↦ IsTrue (is_trail sc.place) | kind.Pool n c ↦ IsTrue (is_trail sc.place) ]) →
      (elim k as (λ _. Type 0) [ kind.Var t ↦ IsTrue (not (same_ty t ty.None)) | _ ↦ ⊤ ]) →
      (elim k as (λ _. Bool) [
        | kind.Var t ↦ not (same_ty t ty.None) && outside_finalizers sc.place
        | kind.Alias c ↦ is_trail sc.place && on_code K sc c (λ k. true)
        | kind.Pool n c ↦ is_trail sc.place && nat_lt n (2 ^ 32) && on_code K sc c (λ k. true)
      ]) ≡ true
  kind_ok sc low (kind.Var t) a b c d = both d c
  kind_ok sc low (kind.Alias e) a b c d = both c (code_is K sc e b low)
  kind_ok sc low (kind.Pool n e) a b c d = both (both c (lt-ltb n (2 ^ 32) a)) (code_is K sc e b low)

  decl_fits : (sc : Scope) → bound_of K sc.code ≤ length K.codes → (d : KDecl) → DeclShaped d → DeclUses (bound_of K sc.code) d → DeclStands sc.place d → DeclTyped d → decl_ok K sc d ≡ true
  decl_fits sc low d a b c e = let p = placed d.pos a.0 in both (both (kind_ok sc low d.kind a.1 b c e) p.0) p.1

  decls_fit : (sc : Scope) → bound_of K sc.code ≤ length K.codes → (ds : List KDecl) → AllOf DeclShaped ds → AllOf (DeclUses (bound_of K sc.code)) ds → AllOf (DeclStands sc.place) ds → AllOf DeclTyped ds → list_all (decl_ok K sc) ds ≡ true
  decls_fit sc low [] a b c e = refl
  decls_fit sc low (d ∷ ds) a b c e = both (decl_fits sc low d a.0 b.0 c.0 e.0) (decls_fit sc low ds a.1 b.1 c.1 e.1)

  -- ---- parts of statements

  alias_fits : (sc : Scope) (c pool : ℕ) (alias : Option ℕ) → MaybeAlias K (bare sc) c pool alias → (elim alias as (λ _. Bool) [ None ↦ true | Some a ↦ alias_takes c pool (find a sc.seen) ]) ≡ true
  alias_fits sc c pool None h = refl
  alias_fits sc c pool (Some a) h = h

  par_fits : (k : ParKind) (slot n : ℕ) → ParShaped k slot n → par_ok K k slot n ≡ true
  par_fits par.And slot n h = le-leb 2 n h
  par_fits par.Or slot n h = both (le-leb 2 n h.0) ((Decides-eqb slot 0).1 h.1)
  par_fits par.Never slot n h = both (le-leb 2 n h.0) ((Decides-eqb slot 0).1 h.1)

  -- ---- statements

  -- what the laws say of a part in this scope
  abbrev StmtFacts : Scope → ℕ → KStmt → Type 0
  StmtFacts sc n st =
      StmtShaped st × StmtUses (bound_of K sc.code) st × StmtStands sc.place sc.aims n st × StmtSeen sc.seen st × StmtTyped K sc.code sc.aims n st × StmtNamed K (bare sc) st × StmtSettled names st

  abbrev pub BlockFacts : Scope → KBlock → Type 0
  BlockFacts sc b =
      BlockShaped b × BlockUses (bound_of K sc.code) b × BlockStands sc.place sc.aims b × BlockSeen sc.seen b × BlockTyped K sc.code sc.aims b × BlockNamed K (bare sc) b × BlockSettled names b

  abbrev ArmFacts : Scope → KArm → Type 0
  ArmFacts sc a = ArmShaped a × ArmUses (bound_of K sc.code) a × ArmStands sc.place sc.aims a × ArmSeen sc.seen a × ArmTyped K sc.code sc.aims a × ArmNamed K (bare sc) a × ArmSettled names a

  abbrev NodesFacts : {n : _} → Scope → Row_of-KNode n → Type 0
  NodesFacts sc r = NodesShaped r × NodesUse (bound_of K sc.code) r × NodesStand sc.place sc.aims r × NodesSeen sc.seen r × NodesTyped K sc.code sc.aims r × NodesNamed K (bare sc) r × NodesSettled names r

  abbrev ArmsFacts : {n : _} → Scope → Row_of-KArm n → Type 0
  ArmsFacts sc r = ArmsShaped r × ArmsUse (bound_of K sc.code) r × ArmsStand sc.place sc.aims r × ArmsSeen sc.seen r × ArmsTyped K sc.code sc.aims r × ArmsNamed K (bare sc) r × ArmsSettled names r

  abbrev BlocksFacts : {n : _} → Scope → Row_of-KBlock n → Type 0
  BlocksFacts sc r = BlocksShaped r × BlocksUse (bound_of K sc.code) r × BlocksStand sc.place sc.aims r × BlocksSeen sc.seen r × BlocksTyped K sc.code sc.aims r × BlocksNamed K (bare sc) r × BlocksSettled names r

  abbrev Low : Scope → Type 0
  Low sc = bound_of K sc.code ≤ length K.codes

  mutual
    unfolding stmt_ok StmtShaped StmtUses StmtStands StmtSeen StmtTyped StmtNamed StmtSettled

    stmt_fits : (sc : Scope) → Low sc → (n : ℕ) (st : KStmt) → StmtFacts sc n st → stmt_ok K names sc n st ≡ true
    stmt_fits sc low n Nothing h = refl
    stmt_fits sc low n (Assign l e) h = both (takes_own K sc l h.3.0 h.5.0 h.4.0) (exp_given K sc l.ty e h.3.1 h.5.1 h.4.1)
    stmt_fits sc low n (Out k e) h = both h.2 (on_ty_of K sc (port_ty K k K.outputs) _ _ h.4 (λ t g. maybe_given K sc t e h.3 h.5.1 g))
    stmt_fits sc low n (Emit k e) h = both h.2 (on_event_of K sc (event_at K k K.events) _ _ h.4 (λ t g. maybe_given K sc t e h.3 h.5.1 g))
    stmt_fits sc low n (AwaitIn k t) h = both h.2 (on_ty_of K sc (port_ty K k K.inputs) _ _ h.4 (λ u g. takes_maybe K sc u t h.3 h.5.1 g))
    stmt_fits sc low n (AwaitTime e u t) h = both (both h.2 (h.4.0 _ _ (exp_leaves K sc e h.3.0 h.5.0))) (takes_maybe K sc ty.S32 t h.3.1 h.5.1 h.4.1)
    stmt_fits sc low n (AwaitEvent e t) h = both h.2 (on_event_of K sc (event_at K e K.events) _ _ h.4 (λ u g. takes_maybe K sc u t h.3 h.5.1 g))
    stmt_fits sc low n Forever h = h.2
    stmt_fits sc low n (AwaitCode c es frame t) h =
        both h.2 (on_code_of K sc c (λ k. ArgsGiven k.params es × MaybeTakes k.result t) (λ k. gives_all K sc k.params es && takes_if K sc k.result t) h.1 h.4 (λ k g. both (args_given K sc k.params es h.3.0 h.5.0 g.0) (takes_maybe K sc k.result t h.3.1 h.5.1 g.1)))
    stmt_fits sc low n (Spawn c es pool alias) h =
        both (both (both h.2 (on_code_of K sc c (λ k. ArgsGiven k.params es) (λ k. gives_all K sc k.params es) h.1 h.4 (λ k g. args_given K sc k.params es h.3 h.5.0 g))) h.5.1) (alias_fits sc c pool alias h.5.2)
    stmt_fits sc low n (Kill c) h = both h.2 h.5
    stmt_fits sc low n (Unset c) h = both h.2 h.5
    stmt_fits sc low n (Async b) h = both h.2.0 (block_fits (in_async K sc) low b (h.0, h.1, h.2.1, h.3, h.4, h.5, h.6))
    stmt_fits sc low n (Finalize b) h = both h.2.0 (block_fits (in_finalizer K sc) low b (h.0, h.1, h.2.1, h.3, h.4, h.5, h.6))
    stmt_fits sc low n (Do None b) h = both (both h.2.0 refl) (block_fits (with_aim (do_aim K n None) sc) low b (h.0, h.1, h.2.1, h.3.1, h.4.1, h.5.1, h.6))
    stmt_fits sc low n (Do (Some l) b) h = both (both h.2.0 (takes_own K sc l h.3.0 h.5.0 h.4.0)) (block_fits (with_aim (do_aim K n (Some l)) sc) low b (h.0, h.1, h.2.1, h.3.1, h.4.1, h.5.1, h.6))
    stmt_fits sc low n (Escape m e) h = both h.2.0 (escape_of K sc m e sc.aims (λ u g. maybe_given K sc u e h.3 h.5 g) h.4)
    stmt_fits sc low n (Break m) h = both h.2.0 (loop_of K sc m sc.aims h.2.1)
    stmt_fits sc low n (Continue m) h = both h.2.0 (loop_of K sc m sc.aims h.2.1)
    stmt_fits sc low n (If' _ arms last) h =
        both (both h.2.0 (arms_fit sc low arms (h.0.0, h.1.0, h.2.1, h.3.0, h.4.0, h.5.0, h.6.0))) (block_fits sc low last (h.0.1, h.1.1, h.2.2, h.3.1, h.4.1, h.5.1, h.6.1))
    stmt_fits sc low n (Loop turns.Free b) h = both (both h.2.0 refl) (block_fits (with_aim (LoopAim n) sc) low b (h.0.1, h.1, h.2.1, h.3.1, h.4.1, h.5.1, h.6))
    stmt_fits sc low n (Loop (turns.Times slot m) b) h = both (both h.2.0 (lt-ltb m (2 ^ 32) h.0.0)) (block_fits (with_aim (LoopAim n) sc) low b (h.0.1, h.1, h.2.1, h.3.1, h.4.1, h.5.1, h.6))
    stmt_fits sc low n (Loop (turns.Range i next end open_a x y open_b) b) h =
        both (both h.2.0 (both (exp_given K sc ty.S32 x h.3.0.0 h.5.0.0 h.4.0.0) (exp_given K sc ty.S32 y h.3.0.1 h.5.0.1 h.4.0.1)))
        (block_fits (with_aim (LoopAim n) (with_loop_variable i sc)) low b (h.0.1, h.1, h.2.1, h.3.1, h.4.1, h.5.1, h.6))
    stmt_fits sc low n (Par' k slot _ bs) h = both (both h.2.0 (par_fits k slot (row_length bs) h.0.0)) (blocks_fit sc low bs (h.0.1, h.1, h.2.1, h.3, h.4, h.5, h.6))

    pub block_fits : (sc : Scope) → Low sc → (b : KBlock) → BlockFacts sc b → block_ok K names sc b ≡ true
    block_fits sc low (KBlock' n ds _ list) h =
        both (both (decls_fit sc low ds h.0.0 h.1.0 h.2.0 h.4.0) h.6.0) (nodes_fit (with_decls ds sc) low list (h.0.1, h.1.1, h.2.1, h.3, h.4.1, h.5, h.6.1))

    arm_fits : (sc : Scope) → Low sc → (a : KArm) → ArmFacts sc a → arm_ok K names sc a ≡ true
    arm_fits sc low (KArm' c b) h = both (exp_given K sc ty.Bool c h.3.0 h.5.0 h.4.0) (block_fits sc low b (h.0, h.1, h.2, h.3.1, h.4.1, h.5.1, h.6))

    nodes_fit : {n : _} (sc : Scope) → Low sc → (r : Row_of-KNode n) → NodesFacts sc r → nodes_ok K names sc r ≡ true
    nodes_fit sc low end_of-KNode h = refl
    nodes_fit sc low (more_of-KNode n p s rest) h =
        let q = placed p h.0.0.0 in
        both (both (both q.0 q.1) (stmt_fits sc low n s (h.0.0.1, h.1.0, h.2.0, h.3.0, h.4.0, h.5.0, h.6.0))) (nodes_fit sc low rest (h.0.1, h.1.1, h.2.1, h.3.1, h.4.1, h.5.1, h.6.1))

    arms_fit : {n : _} (sc : Scope) → Low sc → (r : Row_of-KArm n) → ArmsFacts sc r → arms_ok K names sc r ≡ true
    arms_fit sc low end_of-KArm h = refl
    arms_fit sc low (more_of-KArm a rest) h = both (arm_fits sc low a (h.0.0, h.1.0, h.2.0, h.3.0, h.4.0, h.5.0, h.6.0)) (arms_fit sc low rest (h.0.1, h.1.1, h.2.1, h.3.1, h.4.1, h.5.1, h.6.1))

    blocks_fit : {n : _} (sc : Scope) → Low sc → (r : Row_of-KBlock n) → BlocksFacts sc r → blocks_ok K names sc r ≡ true
    blocks_fit sc low end_of-KBlock h = refl
    blocks_fit sc low (more_of-KBlock b rest) h = both (block_fits sc low b (h.0.0, h.1.0, h.2.0, h.3.0, h.4.0, h.5.0, h.6.0)) (blocks_fit sc low rest (h.0.1, h.1.1, h.2.1, h.3.1, h.4.1, h.5.1, h.6.1))

  -- ---- codes

  param_fits : (k : KKind) → (elim k as (λ _. Type 0) [ kind.Var t ↦ IsTrue (not (same_ty t ty.None)) | _ ↦ ⊥ ]) → (elim k as (λ _. Bool) [ kind.Var t ↦ not (same_ty t ty.None) | _ ↦ false ]) ≡ true
  param_fits (kind.Var t) h = h
  param_fits (kind.Alias c) h = absurd h
  param_fits (kind.Pool n c) h = absurd h

  params_fit : (ds : List KDecl) → AllOf ParamTyped ds → list_all (is_parameter K names) ds ≡ true
  params_fit [] h = refl
  params_fit (d ∷ ds) h = both (param_fits d.kind h.0) (params_fit ds h.1)

  codes_fit : (k : ℕ) (cs : List KCode) → k + length cs ≤ length K.codes → AllOf CodeShaped cs → CodesUse k cs → AllOf CodeStands cs → AllOf CodeSeen cs → CodesTyped K k cs → CodesNamed K k cs → AllOf (CodeSettled names) cs → codes_ok K names k cs ≡ true
  codes_fit k [] low a b c d e f g = refl
  codes_fit k (x ∷ xs) low a b c d e f g =
      let here : k ≤ length K.codes = omega (arith, low) in
      let more : k + 1 + length xs ≤ length K.codes = omega (arith, low) in
      let next : suc k ≡ k + 1 = omega arith in
      let body = block_fits (with_decls x.params (body_scope K names (Some k) x.body x.result)) here x.body (a.0.1, b.0, c.0, d.0, e.0.2, f.0, g.0) in
      both (both (both (params_fit x.params e.0.0) e.0.1) body) (codes_fit (k + 1) xs more a.1 (subst (λ i. CodesUse i xs) next b.1) c.1 d.1 e.1 f.1 g.1)

event_fits : (n : ℕ) (code : Option ℕ) → CodeBelow n code → (elim code as (λ _. Bool) [ None ↦ true | Some c ↦ nat_lt c n ]) ≡ true
event_fits n None h = refl
event_fits n (Some c) h = lt-ltb c n h

events_fit : (K : Kernel) (n : ℕ) (es : List KEvent) → AllOf (EventBelow n) es → AllOf EventShaped es → events_ok n es ≡ true
events_fit K n [] h k = refl
events_fit K n (e ∷ es) h k = let p = placed e.pos k.0 in both (both (both (event_fits n e.code h.0) p.0) p.1) (events_fit K n es h.1 k.1)

pub fits : (K : Kernel) → IsTrue (is_numbered K) → IsTrue (ports_ok (K.inputs ++ K.outputs)) → EventsInCodes K → KernelShaped K → KernelUses K → KernelStands K → KernelSeen K → KernelTyped K → KernelNamed K → KernelSettled K → Proper K
unfolding is_proper
fits K numbered ports events shaped uses stands seen typed named settled =
    let names = outer_names_from [] K.codes in
    let body = block_fits K names (body_scope K names None K.body ty.S32) (omega arith) K.body (shaped.0, uses.0, stands.0, seen.0, typed.0, named.0, settled.0) in
    let codes = codes_fit K names 0 K.codes (omega arith) shaped.1 uses.1 stands.1 seen.1 typed.1 named.1 settled.1 in
    both (both (both (both numbered ports) (events_fit K (length K.codes) K.events events shaped.2)) body) codes
