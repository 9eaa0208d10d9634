-- The slots of the declarations of the outermost block, beside the codes that it declares.
use Rattle.std.proofs.Common.{◌≡◌, sym, ap, ◌∙◌, refl, subst, ℕ, ◌+◌, arith, List, [], ◌++◌}
use Rattle.ceu_base.specs.declared.kinds.Ty.{Ty}
use Rattle.ceu_base.specs.declared.kinds.Pos.{Pos}
use Rattle.ceu_tree.specs.declared.source.Ident.{Ident}
use Rattle.ceu_tree.specs.declared.source.Param.{Param}
use Rattle.ceu_tree.specs.declared.source.Block.{Block, Row_of-Node, end_of-Node, more_of-Node}
use Rattle.ceu_tree.specs.declared.source.Stmt as stmt
use Rattle.ceu_tree.specs.declared.source.Stmt.{Stmt, Vars', If', Par'}
use Rattle.ceu_tree.specs.declared.kernel.KDecl.{KDecl}
use Rattle.ceu_tree.specs.Numbering.{decl_slots}
use Rattle.ceu_scopes.specs.declared.known.Scopes.{Scopes}
use Rattle.ceu_types.specs.declared.typing.Types.{Types}
use Rattle.ceu_expand.specs.declared.draft.Draft.{Draft}
use Rattle.ceu_expand.specs.Draft as draft
use Rattle.ceu_expand.specs.Draft.{of_program, left, with_code}
use Rattle.ceu_expand.specs.Expansion.{declared_by, declared_in, code_ended, stmt_written, nodes_written}
use Rattle.laws_kernel_shape.proofs.Codes.{Outermost, OutermostNodes}
use Rattle.laws_kernel_shape.proofs.Inside.{append_none, append_assoc, decl_slots_append}
use Rattle.laws_kernel_shape.proofs.Runs.{Runs, runs_append}
use Rattle.laws_kernel_shape.proofs.Wrote.{stmt_wrote}

-- ---- the declarations of the outermost block

record Row (count : ℕ) (d e : Draft) : Type 0 where
  decls : List KDecl
  decls_is : e.parts.decls ≡ d.parts.decls ++ decls
  slot_is : e.parts.slot ≡ d.parts.slot + count
  runs : Runs d.parts.slot (decl_slots decls) e.parts.slot

row_then : {m n : ℕ} {d e f : Draft} → Row m d e → Row n e f → Row (m + n) d f
row_then {m = m} {n = n} {d = d} {e = e} {f = f} h k =
    let a : e.parts.slot ≡ d.parts.slot + m = h.slot_is in
    let b : f.parts.slot ≡ e.parts.slot + n = k.slot_is in
    record {
      decls = h.decls ++ k.decls;
      decls_is = k.decls_is ∙ ap (λ x. x ++ k.decls) h.decls_is ∙ append_assoc d.parts.decls h.decls k.decls;
      slot_is = omega (arith, a, b);
      runs =
          subst (λ x. Runs d.parts.slot x f.parts.slot) (sym (decl_slots_append h.decls k.decls))
          (runs_append d.parts.slot (decl_slots h.decls) e.parts.slot (decl_slots k.decls) f.parts.slot h.runs k.runs);
    }

module _ (s : Scopes) (t : Types) where
  same_row : (d e : Draft) → e.parts ≡ d.parts → Row 0 d e
  same_row d e same =
      let slot : e.parts.slot ≡ d.parts.slot = ap (λ p. p.slot) same in
      record { decls = []; decls_is = ap (λ p. p.decls) same ∙ append_none d.parts.decls; slot_is = omega (arith, slot); runs = slot }

  code_parts_stay : (p : Pos) (x : Ident) (ps : List Param) (result : Ty) (b : Block) (d : Draft) → (stmt_written s t of_program p (stmt.Code x ps result b) d).parts ≡ d.parts
  unfolding stmt_written code_ended left with_code
  code_parts_stay p x ps result b d = refl

  stmt_row : (p : Pos) (st : Stmt) → Outermost st → (d : Draft) → Row (declared_by st) d (stmt_written s t of_program p st d)
  unfolding Outermost declared_by
  stmt_row p (stmt.Code x ps result b) h d = same_row d _ (code_parts_stay p x ps result b d)
  stmt_row p st h d = let k = stmt_wrote s t of_program p st h d in record { decls = k.decls; decls_is = k.decls_is; slot_is = k.slot_is; runs = k.decl_runs }

  nodes_row : {n : _} (r : Row_of-Node n) → OutermostNodes r → (d : Draft) → Row (declared_in r) d (nodes_written s t of_program r d)
  unfolding OutermostNodes declared_in stmt_written
  nodes_row end_of-Node h d = same_row d d refl
  nodes_row (more_of-Node p st rest) h d = row_then (stmt_row p st h.0 d) (nodes_row rest h.1 (stmt_written s t of_program p st d))

  pub program_runs : {n : _} (r : Row_of-Node n) → OutermostNodes r → (d : Draft) → Runs d.slot (decl_slots (nodes_written s t of_program r (draft.opened (declared_in r) d)).parts.decls) (draft.opened (declared_in r) d).slot
  unfolding draft.opened
  program_runs r o d =
      let start = draft.opened (declared_in r) d in
      let e = nodes_written s t of_program r start in
      let row = nodes_row r o start in
      subst (λ xs. Runs d.slot (decl_slots xs) start.slot) (sym row.decls_is) (subst (λ k. Runs d.slot (decl_slots row.decls) k) row.slot_is row.runs)
