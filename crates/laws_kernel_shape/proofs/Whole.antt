-- The whole program: its text, and behind it its codes.
use Rattle.std.proofs.Common.{◌≡◌, refl, sym, ap, ◌∙◌, subst, ℕ, ◌+◌, length, arith, List, [], ◌∷◌, ◌++◌}
use Rattle.std.specs.Prelude.{Bool, IsTrue, ◌&&◌}
use Rattle.ceu_base.specs.declared.kinds.Ty.{Ty}
use Rattle.ceu_base.specs.declared.kinds.Pos.{Pos}
use Rattle.ceu_tree.specs.declared.source.Ident.{Ident}
use Rattle.ceu_tree.specs.declared.source.Param.{Param}
use Rattle.ceu_tree.specs.declared.source.Block.{Block, Block', Row_of-Node, end_of-Node, more_of-Node}
use Rattle.ceu_tree.specs.declared.source.Stmt as stmt
use Rattle.ceu_tree.specs.declared.source.Stmt.{Stmt, Vars', If', Par'}
use Rattle.ceu_tree.specs.declared.source.Tree.{Tree}
use Rattle.ceu_tree.specs.declared.kernel.KNode.{KNode}
use Rattle.ceu_tree.specs.declared.kernel.KDecl.{KDecl}
use Rattle.ceu_tree.specs.declared.kernel.KCode.{KCode}
use Rattle.ceu_tree.specs.declared.kernel.KBlock.{KBlock}
use Rattle.ceu_tree.specs.declared.kernel.KKind.TheVariants as kind
use Rattle.ceu_tree.specs.Numbering.{decl_slots, block_nodes, block_slots, codes_nodes, codes_slots, counts_from, is_numbered}
use Rattle.ceu_scopes.specs.declared.known.Scopes.{Scopes}
use Rattle.ceu_types.specs.declared.typing.Types.{Types}
use Rattle.ceu_expand.specs.declared.around.Around.{Around}
use Rattle.ceu_expand.specs.declared.draft.Draft.{Draft}
use Rattle.ceu_expand.specs.Draft.{of_program, opened, outside, written, closed, block_of, around_block, standing, entered, left, with_code, declared, nothing_written}
use Rattle.ceu_expand.specs.Lists.{each}
use Rattle.ceu_expand.specs.Parts.{param_declared}
use Rattle.ceu_expand.specs.Expansion.{declared_by, declared_in, code_begun, code_around, code_ended, stmt_written, nodes_written, block_written, block_passed, counted, kernel_of}
use Rattle.laws_kernel_shape.proofs.Codes.{NoCodeInBlock, Outermost, OutermostNodes, OutermostBlock, CodesOutermost}
use Rattle.laws_kernel_shape.proofs.Runs.{Runs, runs_append, runs_counts}
use Rattle.laws_kernel_shape.proofs.Shapes.{nodes_of, slots_of, rolled_nodes, rolled_slots}
use Rattle.laws_kernel_shape.proofs.Inside.{Wrote, append_none, append_assoc, nodes_append, slots_append, decl_slots_append}
use Rattle.laws_kernel_shape.proofs.Counts.{stmt_adds, stmt_hides, nodes_add, nodes_hide}
use Rattle.laws_kernel_shape.proofs.Wrote.{stmt_wrote, block_in}

-- as `Wrote`, with the codes that are added
record Texts (count many_nodes many_slots : ℕ) (before after : Draft) : Type 0 where
  node_is : after.node ≡ before.node + many_nodes
  hidden_is : after.slot ≡ before.slot + many_slots
  list : List KNode
  decls : List KDecl
  codes : List KCode
  list_is : after.parts.list ≡ before.parts.list ++ list
  decls_is : after.parts.decls ≡ before.parts.decls ++ decls
  codes_is : after.codes ≡ before.codes ++ codes
  slot_is : after.parts.slot ≡ before.parts.slot + count
  nodes : Runs before.node (nodes_of list) after.node
  slots : Runs before.slot (slots_of list) after.slot
  decl_runs : Runs before.parts.slot (decl_slots decls) after.parts.slot
  code_nodes : Runs before.other_node (codes_nodes codes) after.other_node
  code_slots : Runs before.other_slot (codes_slots codes) after.other_slot

texts_of : {n m k : ℕ} {d e : Draft} → Wrote n m k d e → Texts n m k d e
texts_of {d = d} h =
    record {
      node_is = h.node_is;
      hidden_is = h.hidden_is;
      list = h.list;
      decls = h.decls;
      codes = [];
      list_is = h.list_is;
      decls_is = h.decls_is;
      codes_is = h.codes ∙ append_none d.codes;
      slot_is = h.slot_is;
      nodes = h.nodes;
      slots = h.slots;
      decl_runs = h.decl_runs;
      code_nodes = h.other_node;
      code_slots = h.other_slot;
    }

codes_nodes_append : (xs ys : List KCode) → codes_nodes (xs ++ ys) ≡ codes_nodes xs ++ codes_nodes ys
codes_nodes_append [] ys = refl
codes_nodes_append (x ∷ xs) ys = ap (λ r. block_nodes x.body ++ r) (codes_nodes_append xs ys) ∙ sym (append_assoc (block_nodes x.body) (codes_nodes xs) (codes_nodes ys))

codes_slots_append : (xs ys : List KCode) → codes_slots (xs ++ ys) ≡ codes_slots xs ++ codes_slots ys
codes_slots_append [] ys = refl
codes_slots_append (x ∷ xs) ys =
    let here = decl_slots x.params ++ block_slots x.body in
    ap (λ r. here ++ r) (codes_slots_append xs ys) ∙ sym (append_assoc here (codes_slots xs) (codes_slots ys))

texts_then : {d e f : Draft} {m n i j u v : ℕ} → Texts m i u d e → Texts n j v e f → Texts (m + n) (i + j) (u + v) d f
texts_then {d = d} {e = e} {f = f} {m = m} {n = n} {i = i} {j = j} {u = u} {v = v} h k =
    let hn : e.node ≡ d.node + i = h.node_is in
    let kn : f.node ≡ e.node + j = k.node_is in
    let hs : e.slot ≡ d.slot + u = h.hidden_is in
    let ks : f.slot ≡ e.slot + v = k.hidden_is in
    let a : e.parts.slot ≡ d.parts.slot + m = h.slot_is in
    let b : f.parts.slot ≡ e.parts.slot + n = k.slot_is in
    record {
      node_is = omega (arith, hn, kn);
      hidden_is = omega (arith, hs, ks);
      list = h.list ++ k.list;
      decls = h.decls ++ k.decls;
      codes = h.codes ++ k.codes;
      list_is = k.list_is ∙ ap (λ x. x ++ k.list) h.list_is ∙ append_assoc d.parts.list h.list k.list;
      decls_is = k.decls_is ∙ ap (λ x. x ++ k.decls) h.decls_is ∙ append_assoc d.parts.decls h.decls k.decls;
      codes_is = k.codes_is ∙ ap (λ x. x ++ k.codes) h.codes_is ∙ append_assoc d.codes h.codes k.codes;
      slot_is = omega (arith, a, b);
      nodes = subst (λ x. Runs d.node x f.node) (sym (nodes_append h.list k.list)) (runs_append d.node (nodes_of h.list) e.node (nodes_of k.list) f.node h.nodes k.nodes);
      slots = subst (λ x. Runs d.slot x f.slot) (sym (slots_append h.list k.list)) (runs_append d.slot (slots_of h.list) e.slot (slots_of k.list) f.slot h.slots k.slots);
      decl_runs =
          subst (λ x. Runs d.parts.slot x f.parts.slot) (sym (decl_slots_append h.decls k.decls))
          (runs_append d.parts.slot (decl_slots h.decls) e.parts.slot (decl_slots k.decls) f.parts.slot h.decl_runs k.decl_runs);
      code_nodes =
          subst (λ x. Runs d.other_node x f.other_node) (sym (codes_nodes_append h.codes k.codes))
          (runs_append d.other_node (codes_nodes h.codes) e.other_node (codes_nodes k.codes) f.other_node h.code_nodes k.code_nodes);
      code_slots =
          subst (λ x. Runs d.other_slot x f.other_slot) (sym (codes_slots_append h.codes k.codes))
          (runs_append d.other_slot (codes_slots h.codes) e.other_slot (codes_slots k.codes) f.other_slot h.code_slots k.code_slots);
    }

-- ---- the parameters of code

-- a draft but for its declarations
unfoldable pub bare : Draft → Draft
bare d = record d { numbers = []; parts = record d.parts { decls = []; slot = 0 } }

pub record Declared (count : ℕ) (before after : Draft) : Type 0 where
  pub stays : bare after ≡ bare before
  pub decls : List KDecl
  pub decls_is : after.parts.decls ≡ before.parts.decls ++ decls
  pub slot_is : after.parts.slot ≡ before.parts.slot + count
  pub decl_runs : Runs before.parts.slot (decl_slots decls) after.parts.slot

pub params_are : (ps : List Param) (d : Draft) → Declared (length ps) d (each param_declared ps d)
unfolding each bare declared
params_are [] d = record { stays = refl; decls = []; decls_is = append_none d.parts.decls; slot_is = omega arith; decl_runs = refl }
params_are (x ∷ xs) d =
    let e : Draft = param_declared x d in
    let one : KDecl = record { slot = d.parts.slot; kind = kind.Var x.ty; name = x.name.name; pos = x.name.pos } in
    let h = params_are xs e in
    let after : (each param_declared xs e).parts.slot ≡ d.parts.slot + 1 + length xs = h.slot_is in
    record {
      stays = h.stays;
      decls = one ∷ h.decls;
      decls_is = h.decls_is ∙ append_assoc d.parts.decls (one ∷ []) h.decls;
      slot_is = omega (arith, after);
      decl_runs = (refl, h.decl_runs);
    }

module _ (s : Scopes) (t : Types) where
  code_texts : (a : Around) (p : Pos) (x : Ident) (ps : List Param) (result : Ty) (b : Block) → NoCodeInBlock b → (d : Draft) →
      Texts 0 0 0 d (stmt_written s t a p (stmt.Code x ps result b) d)
  unfolding stmt_written code_begun code_ended standing entered left with_code bare
  code_texts a p x ps result b h d =
      let first : Draft = entered (length ps) (standing (length d.codes) d) in
      let inside : Draft = each param_declared ps first in
      let around = code_around inside in
      let after : Draft = block_passed s t around b inside in
      let body : KBlock = block_written s t around b inside in
      let params = params_are ps first in
      let block = block_in s t around b h inside in
      let made : KCode = record { name = x.name; params = after.parts.decls; result = result; body = body } in
      let decls : after.parts.decls ≡ params.decls = ap (λ (e : Draft). e.parts.decls) block.stays ∙ params.decls_is in
      let node : inside.node ≡ d.other_node = ap (λ (e : Draft). e.node) params.stays in
      let slot : inside.slot ≡ d.other_slot + length ps = ap (λ (e : Draft). e.slot) params.stays in
      record {
        node_is = let i : after.other_node ≡ d.node = ap (λ (e : Draft). e.other_node) block.stays ∙ ap (λ (e : Draft). e.other_node) params.stays in omega (arith, i);
        hidden_is = let i : after.other_slot ≡ d.slot = ap (λ (e : Draft). e.other_slot) block.stays ∙ ap (λ (e : Draft). e.other_slot) params.stays in omega (arith, i);
        list = [];
        decls = [];
        codes = made ∷ [];
        list_is = append_none d.parts.list;
        decls_is = append_none d.parts.decls;
        codes_is = ap (λ (e : Draft). e.codes ++ made ∷ []) block.stays ∙ ap (λ (e : Draft). e.codes ++ made ∷ []) params.stays;
        slot_is = omega arith;
        nodes = ap (λ (e : Draft). e.other_node) block.stays ∙ ap (λ (e : Draft). e.other_node) params.stays;
        slots = ap (λ (e : Draft). e.other_slot) block.stays ∙ ap (λ (e : Draft). e.other_slot) params.stays;
        decl_runs = refl;
        code_nodes = subst (λ k. Runs d.other_node k after.node) (append_none (block_nodes body)) (subst (λ k. Runs k (block_nodes body) after.node) node block.node_runs);
        code_slots =
            subst (λ k. Runs d.other_slot k after.slot) (append_none (decl_slots after.parts.decls ++ block_slots body))
            (subst (λ k. Runs d.other_slot (decl_slots k ++ block_slots body) after.slot) (sym decls)
            (runs_append d.other_slot (decl_slots params.decls) (d.other_slot + length ps) (block_slots body) after.slot
            (subst (λ k. Runs d.other_slot (decl_slots params.decls) k) params.slot_is params.decl_runs)
            (subst (λ k. Runs k (block_slots body) after.slot) slot block.slot_runs)));
      }

  stmt_texts : (a : Around) (p : Pos) (st : Stmt) → Outermost st → (d : Draft) → Texts (declared_by st) (stmt_adds st) (stmt_hides st) d (stmt_written s t a p st d)
  unfolding Outermost declared_by stmt_adds stmt_hides
  stmt_texts a p (stmt.Code x ps result b) h d = code_texts a p x ps result b h d
  stmt_texts a p st h d = texts_of (stmt_wrote s t a p st h d)

  nodes_texts : {n : _} (a : Around) (r : Row_of-Node n) → OutermostNodes r → (d : Draft) →
      Texts (declared_in r) (nodes_add r) (nodes_hide r) d (nodes_written s t a r d)
  unfolding OutermostNodes declared_in stmt_adds stmt_hides stmt_written
  nodes_texts a end_of-Node h d = record { node_is = omega arith; hidden_is = omega arith; list = []; decls = []; codes = []; list_is = append_none d.parts.list; decls_is = append_none d.parts.decls; codes_is = append_none d.codes; slot_is = omega arith; nodes = refl; slots = refl; decl_runs = refl; code_nodes = refl; code_slots = refl }
  nodes_texts a (more_of-Node p st rest) h d = texts_then (stmt_texts a p st h.0 d) (nodes_texts a rest h.1 (stmt_written s t a p st d))

  -- the text and its codes, where these are counted behind it
  pub row_runs : {n : _} (r : Row_of-Node n) → OutermostNodes r → (m k : ℕ) →
      m ≡ nodes_add r + 1 → k ≡ declared_in r + nodes_hide r →
      let f = nodes_written s t of_program r in
      let d = nothing_written m k in
      Runs 0 (block_nodes (block_of (declared_in r) f d) ++ codes_nodes (around_block (declared_in r) f d).codes) (around_block (declared_in r) f d).other_node ×
      Runs 0 (block_slots (block_of (declared_in r) f d) ++ codes_slots (around_block (declared_in r) f d).codes) (around_block (declared_in r) f d).other_slot
  unfolding nothing_written opened outside written closed
  row_runs r h m k hm hk =
      let d : Draft = nothing_written m k in
      let e : Draft = nodes_written s t of_program r (opened (declared_in r) d) in
      let texts = nodes_texts of_program r h (opened (declared_in r) d) in
      let node : e.node ≡ m = let i : e.node ≡ 1 + nodes_add r = texts.node_is in omega (arith, i, hm) in
      let slot : e.slot ≡ k = let i : e.slot ≡ 0 + declared_in r + nodes_hide r = texts.hidden_is in omega (arith, i, hk) in
      let nodes : Runs 0 (block_nodes (block_of (declared_in r) (nodes_written s t of_program r) d)) m =
      subst (λ x. Runs 0 x m) (sym (rolled_nodes 0 e.parts.decls e.parts.list ∙ ap (λ x. 0 ∷ nodes_of x) texts.list_is))
      (refl, subst (λ x. Runs 1 (nodes_of texts.list) x) node texts.nodes) in
      let slots : Runs 0 (block_slots (block_of (declared_in r) (nodes_written s t of_program r) d)) k =
      subst (λ x. Runs 0 x k)
      (sym (rolled_slots 0 e.parts.decls e.parts.list ∙ ap (λ x. decl_slots x ++ slots_of e.parts.list) texts.decls_is ∙ ap (λ x. decl_slots texts.decls ++ slots_of x) texts.list_is))
      (runs_append 0 (decl_slots texts.decls) (0 + declared_in r) (slots_of texts.list) k
      (subst (λ x. Runs 0 (decl_slots texts.decls) x) texts.slot_is texts.decl_runs)
      (subst (λ x. Runs (0 + declared_in r) (slots_of texts.list) x) slot texts.slots)) in
      let code_nodes : Runs m (codes_nodes e.codes) e.other_node = subst (λ x. Runs m (codes_nodes x) e.other_node) (sym texts.codes_is) texts.code_nodes in
      let code_slots : Runs k (codes_slots e.codes) e.other_slot = subst (λ x. Runs k (codes_slots x) e.other_slot) (sym texts.codes_is) texts.code_slots in (
        runs_append 0 _ m (codes_nodes e.codes) e.other_node nodes code_nodes,
        runs_append 0 _ k (codes_slots e.codes) e.other_slot slots code_slots,
      )

  row_numbered : {n : _} (r : Row_of-Node n) → OutermostNodes r → (m k : ℕ) →
      m ≡ nodes_add r + 1 → k ≡ declared_in r + nodes_hide r →
      let f = nodes_written s t of_program r in
      let d = nothing_written m k in
      IsTrue (counts_from 0 (block_nodes (block_of (declared_in r) f d) ++ codes_nodes (around_block (declared_in r) f d).codes)) ×
      IsTrue (counts_from 0 (block_slots (block_of (declared_in r) f d) ++ codes_slots (around_block (declared_in r) f d).codes))
  row_numbered r h m k hm hk = let runs = row_runs r h m k hm hk in (runs_counts 0 _ _ runs.0, runs_counts 0 _ _ runs.1)

  pub row_counted : {n : _} (r : Row_of-Node n) → OutermostNodes r →
      let d = around_block (declared_in r) (nodes_written s t of_program r) (nothing_written 0 0) in
      (d.node ≡ nodes_add r + 1) × (d.slot ≡ declared_in r + nodes_hide r)
  unfolding nothing_written opened outside written closed
  row_counted r h =
      let d : Draft = nothing_written 0 0 in
      let e : Draft = nodes_written s t of_program r (opened (declared_in r) d) in
      let texts = nodes_texts of_program r h (opened (declared_in r) d) in
      let node : e.node ≡ 1 + nodes_add r = texts.node_is in
      let slot : e.slot ≡ 0 + declared_in r + nodes_hide r = texts.hidden_is in
      (omega (arith, node), omega (arith, slot))

  both : (a b : Bool) → IsTrue a × IsTrue b → IsTrue (a && b)
  both a b h = ap (λ k. k && b) h.0 ∙ h.1

  numbered_block : (b : Block) → OutermostBlock b →
      let d = nothing_written (counted s t b).node (counted s t b).slot in
      IsTrue (counts_from 0 (block_nodes (block_written s t of_program b d) ++ codes_nodes (block_passed s t of_program b d).codes) &&
      counts_from 0 (block_slots (block_written s t of_program b d) ++ codes_slots (block_passed s t of_program b d).codes))
  unfolding OutermostBlock stmt_written
  numbered_block (Block' _ list) h = let c = row_counted list h in both _ _ (row_numbered list h _ _ c.0 c.1)

  pub numbered : (tree : Tree) → CodesOutermost tree → IsTrue (is_numbered (kernel_of s t tree))
  unfolding is_numbered kernel_of
  numbered tree h = numbered_block tree.body h
