-- No statement is found just in a program of one trail with small ports.
use Rattle.std.proofs.Common.{◌≡◌, refl, sym, ap, ◌∙◌, ◌≤◌, arith, Bool, true, false, ◌&&◌, nat_le, List, [], ◌∷◌, length, Option, Some, None}
use Rattle.std.specs.Prelude.{is_none, if◌then◌else◌}
use Rattle.std.specs.List.{list_all}
use Rattle.std.proofs.lemmas.Bool.{and_parts}
use Rattle.std.proofs.lemmas.Bool.Decides.{nat_tests}
use Rattle.ceu_base.specs.declared.kinds.Pos.{Pos}
use Rattle.ceu_single.specs.Single.{is_variable, is_variable_decl, stmt_single, block_single, arm_single, nodes_single, arms_single, has_no_code}
use Rattle.ceu_trace.specs.Lines.{short_names}
use Rattle.ceu_tree.specs.declared.kernel.Kernel.{Kernel}
use Rattle.ceu_tree.specs.declared.kernel.KCode.{KCode}
use Rattle.ceu_tree.specs.declared.kernel.KDecl.{KDecl}
use Rattle.ceu_tree.specs.declared.kernel.KBlock.{KBlock, KBlock', Row_of-KNode, end_of-KNode, more_of-KNode}
use Rattle.ceu_tree.specs.declared.kernel.KArm.{KArm, KArm'}
use Rattle.ceu_tree.specs.declared.kernel.KStmt.{KStmt, Row_of-KArm, end_of-KArm, more_of-KArm, Do, If', Loop}
use Rattle.ceu_forms.specs.Forms.{or_else, first_in, other_decl, other_stmt, other_in_block, other_in_arm, other_in_nodes, other_in_arms, other_code, other_port, has_small_ports, first_unbuilt}
use Rattle.ceu_forms.specs.Laws.{IsBuilt}

none_both : (a b : Option Pos) → is_none (or_else a b) ≡ is_none a && is_none b
none_both (Some place) b = refl
none_both None b = refl

both_same : (a b : Option Pos) (x y : Bool) → is_none a ≡ x → is_none b ≡ y → is_none (or_else a b) ≡ x && y
both_same a b x y p q = none_both a b ∙ ap (λ (z : Bool). z && is_none b) p ∙ ap (λ (z : Bool). x && z) q

and_swapped : (x y : Bool) → (x && y) ≡ (y && x)
and_swapped true true = refl
and_swapped true false = refl
and_swapped false true = refl
and_swapped false false = refl

none_if : (b : Bool) (place : Pos) → is_none (if b then None else Some place) ≡ b
none_if true place = refl
none_if false place = refl

decls_same : (ds : List KDecl) → is_none (first_in other_decl ds) ≡ list_all is_variable_decl ds
decls_same [] = refl
decls_same (d ∷ ds) = both_same (other_decl d) (first_in other_decl ds) (is_variable_decl d) (list_all is_variable_decl ds) (none_if (is_variable d.kind) d.pos) (decls_same ds)

mutual
  unfolding other_stmt stmt_single

  stmt_same : (place : Pos) (s : KStmt) → is_none (other_stmt place s) ≡ stmt_single s
  stmt_same place (Do t b) = block_same b
  stmt_same place (If' _ arms last) = both_same (other_in_arms arms) (other_in_block last) (arms_single arms) (block_single last) (arms_same arms) (block_same last)
  stmt_same place (Loop k b) = block_same b
  stmt_same place _ = refl

  block_same : (b : KBlock) → is_none (other_in_block b) ≡ block_single b
  block_same (KBlock' n ds _ list) =
      both_same (other_in_nodes list) (first_in other_decl ds) (nodes_single list) (list_all is_variable_decl ds) (nodes_same list) (decls_same ds)
      ∙ and_swapped (nodes_single list) (list_all is_variable_decl ds)

  arm_same : (a : KArm) → is_none (other_in_arm a) ≡ arm_single a
  arm_same (KArm' c b) = block_same b

  nodes_same : {n : _} (rows : Row_of-KNode n) → is_none (other_in_nodes rows) ≡ nodes_single rows
  nodes_same end_of-KNode = refl
  nodes_same (more_of-KNode n place s rest) = both_same (other_stmt place s) (other_in_nodes rest) (stmt_single s) (nodes_single rest) (stmt_same place s) (nodes_same rest)

  arms_same : {n : _} (rows : Row_of-KArm n) → is_none (other_in_arms rows) ≡ arms_single rows
  arms_same end_of-KArm = refl
  arms_same (more_of-KArm a rest) = both_same (other_in_arm a) (other_in_arms rest) (arm_single a) (arms_single rest) (arm_same a) (arms_same rest)

codes_same : (cs : List KCode) → is_none (other_code cs) ≡ has_no_code cs
codes_same [] = refl
codes_same (c ∷ cs) = refl

-- what is asked of a program that runs
abbrev runs : Kernel → Bool
runs K = block_single K.body && (has_no_code K.codes && has_small_ports K)

kernel_same : (K : Kernel) → is_none (first_unbuilt K) ≡ runs K
unfolding first_unbuilt
kernel_same K =
    both_same (other_in_block K.body) (or_else (other_code K.codes) (other_port (has_small_ports K))) (block_single K.body) (has_no_code K.codes && has_small_ports K) (block_same K.body)
    (both_same (other_code K.codes) (other_port (has_small_ports K)) (has_no_code K.codes) (has_small_ports K) (codes_same K.codes) (none_if (has_small_ports K) (record { line = 1; col = 1 })))

is_none_of : (o : Option Pos) → is_none o ≡ true → o ≡ None
is_none_of None e = refl
is_none_of (Some place) e = absurd cc

and_true : (x y : Bool) → x ≡ true → y ≡ true → (x && y) ≡ true
and_true x y p q = ap (λ (z : Bool). z && y) p ∙ q

pub runs_single : (K : Kernel) → first_unbuilt K ≡ None → IsBuilt K
runs_single K e =
    let all : runs K ≡ true = sym (kernel_same K) ∙ ap is_none e in
    let parts = and_parts (block_single K.body) (has_no_code K.codes && has_small_ports K) all in
    let more = and_parts (has_no_code K.codes) (has_small_ports K) parts.1 in
    let ports = and_parts (short_names K.outputs) (nat_le (length K.inputs) 65535) more.1 in
    record {
      single = and_true (has_no_code K.codes) (block_single K.body) more.0 parts.0;
      short = ports.0;
      few = (let small : nat_le (length K.inputs) 65535 ≡ true = ports.1 in grind (arith, nat_tests));
    }

pub single_runs : (K : Kernel) → IsBuilt K → first_unbuilt K ≡ None
single_runs K is =
    let parts = and_parts (has_no_code K.codes) (block_single K.body) is.single in
    let few : nat_le (length K.inputs) 65535 ≡ true = (let le : length K.inputs ≤ 65535 = is.few in grind (arith, nat_tests)) in
    is_none_of (first_unbuilt K) (kernel_same K ∙ and_true (block_single K.body) (has_no_code K.codes && has_small_ports K) parts.1
    (and_true (has_no_code K.codes) (has_small_ports K) parts.0 (and_true (short_names K.outputs) (nat_le (length K.inputs) 65535) is.short few)))
