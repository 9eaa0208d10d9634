-- A program of one trail has one gate: its statements, one behind the other, share it.
use Rattle.std.proofs.Common.{◌≡◌, refl, ◌≤◌, max, arith, true, List, [], ◌∷◌}
use Rattle.std.specs.List.{list_all}
use Rattle.std.proofs.lemmas.Bool.{and_parts, false≢true}
use Rattle.ceu_single.specs.Single.{is_variable, is_variable_decl, stmt_single, block_single, nodes_single, arms_single, has_no_code, Single}
use Rattle.ceu_tree.specs.declared.kernel.Kernel.{Kernel}
use Rattle.ceu_tree.specs.declared.kernel.KCode.{KCode}
use Rattle.ceu_tree.specs.declared.kernel.KDecl.{KDecl}
use Rattle.ceu_tree.specs.declared.kernel.KKind.{KKind}
use Rattle.ceu_tree.specs.declared.kernel.KKind.TheVariants as kind
use Rattle.ceu_tree.specs.declared.kernel.KBlock.{KBlock, KBlock', Row_of-KNode, end_of-KNode, more_of-KNode}
use Rattle.ceu_tree.specs.declared.kernel.KArm.{KArm'}
use Rattle.ceu_tree.specs.declared.kernel.KStmt.{KStmt, Row_of-KArm, end_of-KArm, more_of-KArm, Nothing, Assign, Out, AwaitIn, AwaitTime, Forever, Do, Escape, Break, Continue, If', Loop, Finalize}
use Rattle.ceu_tree.specs.Needs.{pool_gates, pools_gates, stmt_gates, block_gates, nodes_gates, arms_gates, finalizers, nodes_finalizers, gates_from, greatest_of, gates}

no_pool : (k : KKind) → is_variable k ≡ true → pool_gates [] k ≡ 0
no_pool (kind.Var t) e = refl
no_pool (kind.Alias c) e = refl
no_pool (kind.Pool n c) e = absurd (false≢true e)

no_pools : (ds : List KDecl) → list_all is_variable_decl ds ≡ true → pools_gates [] ds ≡ 0
no_pools [] e = refl
no_pools (d ∷ ds) e =
    let parts = and_parts (is_variable_decl d) (list_all is_variable_decl ds) e in
    let one = no_pool d.kind parts.0 in
    let more = no_pools ds parts.1 in
    omega (arith, one, more)

not_final : (s : KStmt) → stmt_single s ≡ true → finalizers s ≡ 0
unfolding stmt_single
not_final (Finalize b) e = absurd (false≢true e)
not_final s e = refl

no_finalizer : {n : _} (rows : Row_of-KNode n) → nodes_single rows ≡ true → nodes_finalizers rows ≡ 0
unfolding stmt_single nodes_finalizers
no_finalizer end_of-KNode e = refl
no_finalizer (more_of-KNode n p s rest) e =
    let parts = and_parts (stmt_single s) (nodes_single rest) e in
    let one = not_final s parts.0 in
    let more = no_finalizer rest parts.1 in
    omega (arith, one, more)

mutual
  unfolding stmt_single stmt_gates

  stmt_one : (s : KStmt) → stmt_single s ≡ true → stmt_gates [] s ≡ 1
  stmt_one Nothing e = refl
  stmt_one (Assign l x) e = refl
  stmt_one (Out k x) e = refl
  stmt_one (AwaitIn k t) e = refl
  stmt_one (AwaitTime x u t) e = refl
  stmt_one Forever e = refl
  stmt_one (Do t b) e = block_one b e
  stmt_one (Escape n x) e = refl
  stmt_one (Break n) e = refl
  stmt_one (Continue n) e = refl
  stmt_one (If' _ arms last) e =
      let parts = and_parts (arms_single arms) (block_single last) e in
      let few = arms_few arms parts.0 in
      let one = block_one last parts.1 in
      omega (arith, few, one)
  stmt_one (Loop k b) e = block_one b e
  stmt_one s e = absurd (false≢true e)

  block_one : (b : KBlock) → block_single b ≡ true → block_gates [] b ≡ 1
  block_one (KBlock' n ds _ list) e =
      let parts = and_parts (list_all is_variable_decl ds) (nodes_single list) e in
      let none = no_pools ds parts.0 in
      let few = nodes_few list parts.1 in
      let plain = no_finalizer list parts.1 in
      omega (arith, none, few, plain)

  nodes_few : {n : _} (rows : Row_of-KNode n) → nodes_single rows ≡ true → nodes_gates [] rows ≤ 1
  nodes_few end_of-KNode e = omega arith
  nodes_few (more_of-KNode n p s rest) e =
      let parts = and_parts (stmt_single s) (nodes_single rest) e in
      let one = stmt_one s parts.0 in
      let few = nodes_few rest parts.1 in
      omega (arith, one, few)

  arms_few : {n : _} (rows : Row_of-KArm n) → arms_single rows ≡ true → arms_gates [] rows ≤ 1
  arms_few end_of-KArm e = omega arith
  arms_few (more_of-KArm (KArm' c b) rest) e =
      let parts = and_parts (block_single b) (arms_single rest) e in
      let one = block_one b parts.0 in
      let few = arms_few rest parts.1 in
      omega (arith, one, few)

-- there is no code
one_of_all : (cs : List KCode) (b : KBlock) → has_no_code cs ≡ true → block_single b ≡ true → (let all = gates_from [] cs in max (block_gates all b) (greatest_of all)) ≡ 1
one_of_all [] b e f = let one = block_one b f in omega (arith, one)
one_of_all (c ∷ cs) b e f = absurd (false≢true e)

pub one_gate : (K : Kernel) → Single K → gates K ≡ 1
unfolding gates
one_gate K e = let parts = and_parts (has_no_code K.codes) (block_single K.body) e in one_of_all K.codes K.body parts.0 parts.1
