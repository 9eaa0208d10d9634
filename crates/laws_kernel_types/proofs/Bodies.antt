-- The body of a program and its codes are typed.
use Rattle.std.proofs.Common.{◌≡◌, refl, sym, ap, ◌∙◌, subst, ℕ, arith, List, [], ◌∷◌, Option, Some, None, Ok, inl}
use Rattle.ceu_base.specs.declared.kinds.Ty.{Ty}
use Rattle.ceu_base.specs.declared.kinds.Ty.TheVariants as ty
use Rattle.ceu_base.specs.declared.kinds.Pos.{Pos}
use Rattle.ceu_tree.specs.declared.source.Block.{Block, Block', Row_of-Node, end_of-Node, more_of-Node}
use Rattle.ceu_tree.specs.declared.source.Stmt as stmt
use Rattle.ceu_tree.specs.declared.source.Stmt.{Stmt, Vars', If', Par'}
use Rattle.ceu_tree.specs.declared.source.Tree.{Tree}
use Rattle.ceu_tree.specs.declared.kernel.Kernel.{Kernel}
use Rattle.ceu_tree.specs.Proper.{BodyAim, InTrail}
use Rattle.ceu_scopes.specs.declared.known.Scopes.{Scopes}
use Rattle.ceu_scopes.specs.declared.scope.Border.TheVariants.{Plain}
use Rattle.ceu_scopes.specs.declared.walk.Walk.{Walk}
use Rattle.ceu_scopes.specs.Walk as walk
use Rattle.ceu_scopes.specs.Walk.{Broken, ◌>>=◌}
use Rattle.ceu_scopes.specs.Names.{stmt_walked, nodes_walked, block_walked, fresh_walk, gathered, scopes_of}
use Rattle.ceu_types.specs.declared.typing.Types.{Types}
use Rattle.ceu_types.specs.declared.found.Found.{Found}
use Rattle.ceu_types.specs.declared.found.Broken.{Broken as BrokenRule}
use Rattle.ceu_types.specs.Notes.{begun, ended, ended_after}
use Rattle.ceu_types.specs.Around.{program_around, label_takes}
use Rattle.ceu_types.specs.Statements.{stmt_found, block_found, nodes_found, nothing_found, answer, types_of}
use Rattle.ceu_expand.specs.declared.draft.Draft.{Draft}
use Rattle.ceu_expand.specs.Draft.{of_program, nothing_written, opened, closed, block_of, around_block}
use Rattle.ceu_expand.specs.Expansion.{declared_in, stmt_written, nodes_written, block_written, block_passed, counted, kernel_from, kernel_of}
use Rattle.laws_kernel_shape.proofs.Codes.{Outermost, OutermostNodes, OutermostBlock, CodesOutermost}
use Rattle.laws_kernel_shape.proofs.Inside.{append_none}
use Rattle.laws_kernel_shape.proofs.Wrote.{stmt_wrote}
use Rattle.laws_kernel_shape.proofs.Fine.{Fine, fine_ended, fine_begun}
use Rattle.laws_kernel_shape.proofs.Held.{Rel}
use Rattle.laws_kernel_types.specs.Times.{Timed, TimedNodes, TimedBlock, TreeTimed}
use Rattle.laws_kernel_types.specs.Typed.{BlockTyped, CodesTyped, KernelTyped}
use Rattle.laws_kernel_types.proofs.Noting.{prefix_as}
use Rattle.laws_kernel_types.proofs.Naming.{then_ok, ok_is, prefix_same, Ends, closed_ok}
use Rattle.laws_kernel_types.proofs.Running.{Run}
use Rattle.laws_kernel_types.proofs.Holding.{holds_block}
use Rattle.laws_kernel_types.proofs.Around.{Main}
use Rattle.laws_kernel_types.proofs.Statements.{stmt_main}
use Rattle.laws_kernel_types.proofs.Heads.{block_node, Stage}
use Rattle.laws_kernel_types.proofs.Codes.{program_aims, Passes, code_passes}

module _ (s : Scopes) (t : Types) where
  module _ (numbers : List ℕ) (K : Kernel) where
    outer_rel : (w : Walk) (f : Found) (d : Draft) → Stage s t numbers K w f d → Rel s InTrail (program_aims s t numbers K) program_around of_program f d
    unfolding label_takes
    outer_rel w f d h =
        record {
          level = h.level;
          plain = λ o t k. k;
          turns = λ o i. absurd (cc);
          labels = λ o x t k. let e : label_takes [] x ≡ Some t = subst (λ ls. label_takes ls x ≡ Some t) h.labels k in absurd (cc);
          fresh = (h.node, tt);
        }

    main_passes : (w v : Walk) (f g : Found) (d e : Draft) → Main s t numbers K None program_around of_program w f d v g e → e.codes ≡ d.codes → Passes s t numbers K w f d v g e
    main_passes w v f g d e m codes =
        record {
          ends = m.step.ends;
          grows = m.step.notes.grows;
          back = m.step.notes.under.back InTrail;
          stage = λ fine k st.
              let up = m.step.notes.under.up in
              let n = st.node in
              record {
                level = m.step.notes.under.level st.level;
                labels = m.step.notes.under.labels ∙ st.labels;
                node = omega (arith, up, n);
                count = m.step.notes.counts st.count;
                now = m.step.now InTrail fine k st.now;
              };
          stood = λ fine k more st h.
              let run : Run s t numbers K None InTrail w f d v g e = record { level = st.level; count = st.count; now = st.now; fine = fine; more = more; ends = k } in
              record { body = m.holds tt InTrail (program_aims s t numbers K) (outer_rel w f d st) run h.body; codes = subst (CodesTyped K 0) (sym codes) h.codes };
        }

    stmt_passes : (p : Pos) (st : Stmt) → Outermost st → Timed st → (w v : Walk) (f : Found) (d : Draft) → stmt_walked st w ≡ Ok v → Passes s t numbers K w f d v (stmt_found s program_around st f) (stmt_written s t of_program p st d)
    unfolding Outermost Timed
    stmt_passes p (stmt.Code x ps result blk) o z w v f d h = code_passes s t numbers K p x ps result blk o z w v f d h
    stmt_passes p st o z w v f d h =
        main_passes w v f (stmt_found s program_around st f) d (stmt_written s t of_program p st d) (stmt_main s t numbers K None program_around of_program refl p st o z w v f d h) (stmt_wrote s t of_program p st o d).codes

    -- ---- a statement begins and ends

    stage_begun : (w : Walk) (f : Found) (d : Draft) → Stage s t numbers K w f d → Stage s t numbers K w (begun f) d
    unfolding begun
    stage_begun w f d h = record { level = h.level; labels = h.labels; node = h.node; count = h.count; now = h.now }

    stage_ended : (p : Pos) (v : Walk) (f g : Found) (d : Draft) → Stage s t numbers K v g d → Stage s t numbers K v (ended p f g) d
    unfolding ended_after
    stage_ended p v f g d h = record { level = h.level; labels = h.labels; node = h.node; count = h.count; now = h.now }

    types_kept : (p : Pos) (f g : Found) → ((begun f).types ≡ f.types) × ((ended p f g).types ≡ g.types)
    unfolding begun ended_after
    types_kept p f g = (refl, refl)

    node_passes : (p : Pos) (w v : Walk) (f g : Found) (d e : Draft) → Passes s t numbers K w (begun f) d v g e → Passes s t numbers K w f d v (ended p f g) e
    node_passes p w v f g d e h =
        let same = types_kept p f g in
        record {
          ends = h.ends;
          grows = λ k. prefix_as f.types (begun f).types t.exps same.0 (h.grows (prefix_as g.types (ended p f g).types t.exps same.1 k));
          back = λ fine. let k = fine_ended InTrail p f g fine in fine_begun InTrail f k.0 k.1 (h.back k.2);
          stage = λ fine k st. stage_ended p v f g e (h.stage (fine_ended InTrail p f g fine).2 k (stage_begun w f d st));
          stood = λ fine k more st o. h.stood (fine_ended InTrail p f g fine).2 k (prefix_as g.types (ended p f g).types t.exps same.1 more) (stage_begun w f d st) o;
        }

    passes_then : {w v u : Walk} {f g h : Found} {d e c : Draft} → Passes s t numbers K w f d v g e → Passes s t numbers K v g e u h c → Passes s t numbers K w f d u h c
    passes_then a b =
        record {
          ends = λ k. a.ends (b.ends k);
          grows = λ k. a.grows (b.grows k);
          back = λ fine. a.back (b.back fine);
          stage = λ fine k st. b.stage fine k (a.stage (b.back fine) (b.ends k) st);
          stood = λ fine k more st o. b.stood fine k more (a.stage (b.back fine) (b.ends k) st) (a.stood (b.back fine) (b.ends k) (b.grows more) st o);
        }

    nodes_pass : {n : _} (r : Row_of-Node n) → OutermostNodes r → TimedNodes r → (w v : Walk) (f : Found) (d : Draft) → nodes_walked r w ≡ Ok v → Passes s t numbers K w f d v (nodes_found s program_around r f) (nodes_written s t of_program r d)
    unfolding OutermostNodes Timed stmt_walked stmt_found stmt_written
    nodes_pass end_of-Node o z w v f d h =
        subst (λ v. Passes s t numbers K w f d v f d) (ok_is w v (Ok w) refl h)
        (record { ends = λ k. k; grows = λ k. k; back = λ fine. fine; stage = λ fine k st. st; stood = λ fine k more st o. o })
    nodes_pass (more_of-Node p st rest) o z w v f d h =
        let m = then_ok (stmt_walked st w) (nodes_walked rest) v h in
        let e = stmt_written s t of_program p st d in
        let g = stmt_found s program_around st (begun f) in
        passes_then (node_passes p w m.0 f g d e (stmt_passes p st o.0 z.0 w m.0 (begun f) d m.1)) (nodes_pass rest o.1 z.1 m.0 v (ended p f g) e m.2)

  -- ---- the whole program

  -- the rule at a statement's first token isn't kept behind the statement
  own_kept : {n : _} (r : Row_of-Node n) (f : Found) → (nodes_found s program_around r f).own ≡ f.own
  unfolding stmt_found ended_after
  own_kept end_of-Node f = refl
  own_kept (more_of-Node p st rest) f = own_kept rest (ended p f (stmt_found s program_around st (begun f)))

  answered : (b : Option BrokenRule) (us ts : List Ty) → answer b us ≡ Ok ts → (b ≡ None) × (us ≡ ts)
  answered None us ts h = (refl, cc)
  answered (Some b) us ts h = absurd (cc)

  gathered_is : (v : Walk) → gathered v ≡ Ok s → (s.uses ≡ v.uses) × (s.decls ≡ v.decls)
  gathered_is v h =
      let sc : Scopes = record { decls = v.decls; uses = v.uses } in
      let same : sc ≡ s = ok_is sc s (Ok sc) refl h in
      (ap (λ (x : Scopes). x.uses) (sym same), ap (λ (x : Scopes). x.decls) (sym same))

  block_typed : (blk : Block) → OutermostBlock blk → TimedBlock blk → (m k : ℕ) → block_walked blk Plain fresh_walk >>= gathered ≡ Ok s → answer (block_found s program_around blk nothing_found).broken (block_found s program_around blk nothing_found).types ≡ Ok t.exps →
      KernelTyped (kernel_from s t (block_written s t of_program blk (nothing_written m k)) (block_passed s t of_program blk (nothing_written m k)))
  unfolding OutermostBlock Timed stmt_walked stmt_found stmt_written nothing_written opened closed walk.opened
  block_typed (Block' _ list) o z m k h types =
      let n = declared_in list in
      let d : Draft = nothing_written m k in
      let start : Draft = opened n d in
      let w : Walk = walk.opened Plain fresh_walk in
      let body = nodes_written s t of_program list in
      let e : Draft = body start in
      let f = nothing_found in
      let g = nodes_found s program_around list f in
      let K : Kernel = kernel_from s t (block_of n body d) (around_block n body d) in
      let numbers = e.numbers in
      let i = then_ok (block_walked (Block' _ list) Plain fresh_walk) gathered s h in
      let j = then_ok (nodes_walked list w) walk.closed i.0 i.1 in
      let all = nodes_pass numbers K list o z w j.0 f start j.1 in
      let told = answered g.broken g.types t.exps types in
      let scopes = gathered_is i.0 i.2 in
      let shut = closed_ok s numbers K None j.0 i.0 j.2 in
      let ends : Ends s numbers K j.0 e = record {
        uses = prefix_same j.0.uses s.uses (scopes.0 ∙ ap (λ (w : Walk). w.uses) shut);
        decls = ([], scopes.1 ∙ ap (λ (w : Walk). w.decls) shut ∙ append_none j.0.decls);
        plain = tt;
        given = prefix_same numbers numbers refl;
        inputs = prefix_same e.inputs e.inputs refl;
        outputs = prefix_same e.outputs e.outputs refl;
        events = prefix_same e.events e.events refl;
        codes = prefix_same e.codes e.codes refl;
      } in
      let begin : Stage s t numbers K w f start = record { level = inl refl; labels = refl; node = omega arith; count = refl; now = record { uses = refl; decls = refl; shows = (tt, tt) } } in
      let fine : Fine InTrail g = record { broken = told.0; own = own_kept list f; allows = tt } in
      let stood = all.stood fine ends (prefix_same g.types t.exps (sym told.1)) begin (record { body = record { decls = tt; list = tt }; codes = tt }) in
      let aims = program_aims s t numbers K in
      let typed : BlockTyped K None aims (block_of n body d) = holds_block K None aims n body d stood.body in
      (subst (λ x. BlockTyped K None (BodyAim x ty.S32 ∷ []) (block_of n body d)) (sym (block_node n body d)) typed, stood.codes)

  pub kernel_typed : (tree : Tree) → CodesOutermost tree → scopes_of tree ≡ Ok s → types_of s tree ≡ Ok t.exps → TreeTimed tree → KernelTyped (kernel_of s t tree)
  unfolding kernel_of types_of
  kernel_typed tree o h types z = block_typed tree.body o z (counted s t tree.body).node (counted s t tree.body).slot h types
