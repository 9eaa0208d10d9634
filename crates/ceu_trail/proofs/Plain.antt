-- Blocks of a program of one trail have neither finalizers nor pools.
use Rattle.std.proofs.Common.{◌≡◌, refl, ap, ◌∙◌, subst, true, false, if◌then◌else◌, List, [], ◌∷◌, ◌++◌, arith}
use Rattle.std.proofs.lemmas.Bool.{false≢true}
use Rattle.std.specs.List.{list_all}
use Rattle.ceu_tree.specs.declared.kernel.KDecl.{KDecl}
use Rattle.ceu_tree.specs.declared.kernel.KKind.{KKind}
use Rattle.ceu_tree.specs.declared.kernel.KKind.TheVariants as kind
use Rattle.ceu_tree.specs.declared.kernel.KNode.{KNode}
use Rattle.ceu_tree.specs.declared.kernel.KBlock.{KBlock, KBlock', out-KBlock}
use Rattle.ceu_tree.specs.declared.kernel.KStmt.{KStmt, Finalize}
use Rattle.ceu_tree.specs.Legal.{is_finalizer, finalizers_of}
use Rattle.ceu_shape.specs.Searches.{node_of_block}
use Rattle.ceu_single.specs.Single.{is_variable, is_variable_decl, stmt_single, block_single, nodes_single}
use Rattle.laws_machine_layout.specs.Parts.{decl_gates, pools_gates}
use Rattle.laws_machine_layout.specs.Tables.{Tables}
use Rattle.ceu_trail.specs.Plain.{BlocksArePlain}
use Rattle.ceu_trail.proofs.Singles.{last_holds, first_holds, AllSingle, list_single}
use denote.Hole.Carrier

same_node : (b : KBlock) → (out-KBlock b).node ≡ node_of_block b
unfolding out-KBlock Carrier.out
same_node (KBlock' n ds x list) = refl

decls_variable : (b : KBlock) → block_single b ≡ true → list_all is_variable_decl (out-KBlock b).decls ≡ true
unfolding stmt_single out-KBlock Carrier.out
decls_variable (KBlock' n ds x list) h = first_holds (list_all is_variable_decl ds) (nodes_single list) h

kind_plain : (t : Tables) (k : KKind) → is_variable k ≡ true → decl_gates t k ≡ 0
kind_plain t (kind.Var u) h = refl
kind_plain t k h = absurd (false≢true h)

no_pools : (t : Tables) (ds : List KDecl) → list_all is_variable_decl ds ≡ true → pools_gates t ds ≡ 0
no_pools t [] h = refl
no_pools t (d ∷ ds) h =
    let a = kind_plain t d.kind (first_holds (is_variable d.kind) (list_all is_variable_decl ds) h) in
    let b = no_pools t ds (last_holds (is_variable d.kind) (list_all is_variable_decl ds) h) in omega (arith, a, b)

stmt_none : (s : KStmt) → stmt_single s ≡ true → is_finalizer s ≡ false
unfolding stmt_single
stmt_none (Finalize b) h = absurd (false≢true h)
stmt_none s h = refl

none_found : (done rest : List KNode) → AllSingle (done ++ rest) → finalizers_of [] done ≡ []
none_found [] rest h = refl
none_found (s ∷ done) rest h = ap (λ b. finalizers_of (if b then s ∷ [] else []) done) (stmt_none s.stmt h.0) ∙ none_found done rest h.1

pub blocks_are_plain : BlocksArePlain
blocks_are_plain b h = record {
  node_is = same_node b;
  no_finalizer = λ done rest is. none_found done rest (subst AllSingle is (list_single b h));
  no_pool = λ t. no_pools t (out-KBlock b).decls (decls_variable b h);
}
