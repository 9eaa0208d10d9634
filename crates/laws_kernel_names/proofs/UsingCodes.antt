-- The program uses its codes, each code those above it.
use Rattle.std.proofs.Common.{◌≡◌, refl, sym, ap, ◌∙◌, subst, ℕ, suc, ◌+◌, ◌≤◌, length, arith, List, [], ◌∷◌, ◌++◌, Some, None, Ok}
use Rattle.std.specs.Prelude.{slice_get}
use Rattle.ceu_base.specs.declared.kinds.Ty.{Ty}
use Rattle.ceu_base.specs.declared.kinds.Pos.{Pos}
use Rattle.ceu_tree.specs.declared.source.Class.TheVariants as class
use Rattle.ceu_tree.specs.declared.source.Ident.{Ident}
use Rattle.ceu_tree.specs.declared.source.Param.{Param}
use Rattle.ceu_tree.specs.declared.source.Block.{Block, Block', Row_of-Node, end_of-Node, more_of-Node}
use Rattle.ceu_tree.specs.declared.source.Stmt as stmt
use Rattle.ceu_tree.specs.declared.source.Stmt.{Stmt, Vars', If', Par'}
use Rattle.ceu_tree.specs.declared.source.Tree.{Tree}
use Rattle.ceu_tree.specs.declared.kernel.KCode.{KCode}
use Rattle.ceu_tree.specs.declared.kernel.KBlock.{KBlock}
use Rattle.ceu_tree.specs.declared.kernel.KKind.TheVariants as kind
use Rattle.ceu_scopes.specs.declared.known.Known.{Known}
use Rattle.ceu_scopes.specs.declared.known.Scopes.{Scopes}
use Rattle.ceu_scopes.specs.declared.scope.Border.TheVariants.{Plain, Body}
use Rattle.ceu_scopes.specs.declared.walk.Walk.{Walk}
use Rattle.ceu_scopes.specs.Walk.{Broken, ◌>>=◌, opened, closed, shown, fresh, with_name}
use Rattle.ceu_scopes.specs.Walk as walk
use Rattle.ceu_scopes.specs.Rules.{inside_broken, declared}
use Rattle.ceu_scopes.specs.Names.{param_declared, params_opened, code_opened, stmt_walked, block_walked, nodes_walked, fresh_walk, gathered, scopes_of}
use Rattle.ceu_types.specs.declared.typing.Types.{Types}
use Rattle.ceu_expand.specs.declared.around.Around.{Around}
use Rattle.ceu_expand.specs.declared.draft.Draft.{Draft}
use Rattle.ceu_expand.specs.Draft as draft
use Rattle.ceu_expand.specs.Draft.{of_program, nothing_written, around_block, block_of, standing, entered, left, with_code}
use Rattle.ceu_expand.specs.Lists.{each}
use Rattle.ceu_expand.specs.Parts as parts
use Rattle.ceu_expand.specs.Expansion.{declared_in, code_begun, code_around, code_ended, stmt_written, nodes_written, block_written, block_passed, counted, kernel_of}
use Rattle.laws_kernel_shape.proofs.Inside.{append_none, append_assoc}
use Rattle.ceu_expand.specs.Uses.{used}
use Rattle.ceu_expand.specs.Expressions.{typed}
use Rattle.laws_kernel_names.proofs.Inner.{InnerInBlock, Outer, OuterNodes, OuterBlock, TreeOuter}
use Rattle.laws_kernel_names.proofs.DraftKept.{Writes}
use Rattle.laws_kernel_names.proofs.DraftKept as drafts
use Rattle.laws_kernel_shape.proofs.Codes.{NoCodeInBlock, Outermost, OutermostNodes, OutermostBlock, CodesOutermost}
use Rattle.laws_kernel_shape.proofs.Steps.{Always, always_ok, always_then}
use Rattle.laws_kernel_shape.proofs.Wrote.{stmt_wrote, block_in}
use Rattle.laws_kernel_shape.proofs.Whole.{bare, params_are}
use Rattle.laws_kernel_names.specs.Above.{BlockUses, CodesUse, KernelUses}
use Rattle.laws_kernel_names.proofs.Stepping.{CodeMeans, AllScopes, scopes_map, with_name_all, get_next, Both, Fits, Step, step_then, Goes, goes_then, declared_goes, opened_step, closed_goes, draft_step, length_more}
use Rattle.laws_kernel_names.proofs.Pieces.{ident_goes}
use Rattle.laws_kernel_names.proofs.Using.{Holds, holds_block, Part, stmt_parts, block_parts}

-- ---- codes one after the other

uses_more : (k : ℕ) (cs : List KCode) (c : KCode) → CodesUse k cs → BlockUses (k + length cs) c.body → CodesUse k (cs ++ c ∷ [])
uses_more k [] c h b = (let e : k + length {A = KCode} [] ≡ k = omega arith in subst (λ n. BlockUses n c.body) e b, tt)
uses_more k (x ∷ cs) c h b =
    let e : k + length (x ∷ cs) ≡ suc k + length cs = omega arith in
    (h.0, uses_more (suc k) cs c h.1 (subst (λ n. BlockUses n c.body) e b))

means_up : (limit limit' : ℕ) → limit ≤ limit' → (numbers : List ℕ) (k : Known) → CodeMeans limit numbers k → CodeMeans limit' numbers k
means_up limit limit' le numbers k h code = let m = h code in let lt = m.2 in (m.0, m.1, omega (arith, le, lt))

-- ---- the numbers of declarations stay

abbrev Begins : List ℕ → Draft → Type 0
Begins ns d = (more : List ℕ) × (d.numbers ≡ ns ++ more)

begins_more : (ns xs : List ℕ) (n : ℕ) → (more : List ℕ) × (xs ≡ ns ++ more) → (more : List ℕ) × (xs ++ n ∷ [] ≡ ns ++ more)
begins_more ns xs n h = (h.0 ++ n ∷ [], ap (λ x. x ++ n ∷ []) h.1 ∙ append_assoc ns h.0 (n ∷ []))

begins : (ns : List ℕ) → Writes (Begins ns)
unfolding used typed draft.begun draft.hidden standing draft.declared draft.event_declared draft.placed draft.opened draft.closed
begins ns =
    record {
      by_used = λ e h. h;
      by_typed = λ e h. h;
      by_begun = λ e h. h;
      by_hidden = λ n e h. h;
      by_standing = λ n e h. begins_more ns e.numbers n h;
      by_declared = λ k x e h. begins_more ns e.numbers e.parts.slot h;
      by_event = λ code ty x e h. begins_more ns e.numbers (length e.events) h;
      by_placed = λ n p st e h. h;
      by_opened = λ n e h. h;
      by_closed = λ n f e h. h;
      by_labels = λ ls e h. h;
    }

module _ (s : Scopes) (t : Types) (bound : ℕ) where
  -- what holds between the statements of the outermost block
  record Outermost_at (w : Walk) (d : Draft) : Type 0 where
    both : Both s (length d.codes) w d
    codes : CodesUse 0 d.codes
    body : Holds bound d

  -- where all codes have numbers below the bound
  record Passes (w : Walk) (d : Draft) (v : Walk) (e : Draft) : Type 0 where
    grows : length d.codes ≤ length e.codes
    fits : Fits s v → Fits s w
    outer : length e.codes ≤ bound → Fits s v → Outermost_at w d → Outermost_at v e

  part_passes : (w v : Walk) (d e : Draft) → e.codes ≡ d.codes → ((b : ℕ) (le : length d.codes ≤ b) → Part s t (length d.codes) b le w d v e) → Passes w d v e
  part_passes w v d e same part =
      let count : length e.codes ≡ length d.codes = ap length same in
      record {
        grows = omega (arith, count);
        fits = (part (length d.codes) (omega arith)).step.fits;
        outer = λ h fits o.
            let le : length d.codes ≤ bound = omega (arith, count, h) in
            let p = part bound le in
            record {
              both = subst (λ n. Both s n v e) (sym count) (p.step.both o.both);
              codes = subst (CodesUse 0) (sym same) o.codes;
              body = p.uses o.both fits o.body;
            };
      }

  params_go : (limit : ℕ) (ps : List Param) (w : Walk) (d : Draft) → Goes s limit w d (walk.each param_declared ps w) (each parts.param_declared ps d)
  unfolding each walk.each draft.declared
  params_go limit [] w d = always_ok (λ v. Step s limit w d v d) w (draft_step s limit w d d refl refl)
  params_go limit (p ∷ ps) w d =
      let e = parts.param_declared p d in
      goes_then s limit w d e (each parts.param_declared ps e) (param_declared p w) (walk.each param_declared ps) (ident_goes s limit class.Param p.ty None p.name d.parts.slot w d e refl refl refl) (λ v. params_go limit ps v e)

  fresh_number : (w : Walk) → (fresh class.Code 0 w).number ≡ length w.decls
  unfolding fresh
  fresh_number w = refl

  -- the head of code, up to its body
  head_goes : (x : Ident) (ps : List Param) (result : Ty) (w : Walk) (d : Draft) → Goes s (length d.codes) w d (code_opened x ps result w) (code_begun ps d)
  unfolding code_begun entered standing
  head_goes x ps result w d =
      let first : Draft = entered (length ps) (standing (length d.codes) d) in
      goes_then s (length d.codes) w d first (each parts.param_declared ps first) (declared class.Code result (inside_broken w.scopes) x w) (params_opened x.name ps)
      (declared_goes s (length d.codes) class.Code result (inside_broken w.scopes) x (length d.codes) w d first refl refl)
      (λ v u k. step_then s (length d.codes) (opened_step s (length d.codes) (Body x.name) v first) (params_go (length d.codes) ps (opened (Body x.name) v) first u k))

  -- the code has its number
  own_number : (a : Around) (ps : List Param) (b : Block) (d : Draft) → InnerInBlock b → Begins (d.numbers ++ length d.codes ∷ []) (block_passed s t a b (code_begun ps d))
  unfolding code_begun entered standing
  own_number a ps b d h =
      let ns = d.numbers ++ length d.codes ∷ [] in
      let first : Draft = entered (length ps) (standing (length d.codes) d) in
      let inside = each parts.param_declared ps first in
      let start : Begins ns inside = drafts.kept_each (Begins ns) (begins ns) parts.param_declared (λ y e. (begins ns).by_declared (kind.Var y.ty) y.name e) ps first ([], append_none ns) in
      drafts.block_kept (Begins ns) (begins ns) s t a b h inside start

  code_codes : (a : Around) (ps : List Param) (b : Block) (d : Draft) → NoCodeInBlock b → (block_passed s t a b (code_begun ps d)).codes ≡ d.codes
  unfolding code_begun entered standing bare
  code_codes a ps b d h =
      let first : Draft = entered (length ps) (standing (length d.codes) d) in
      let inside = each parts.param_declared ps first in
      ap (λ (e : Draft). e.codes) (block_in s t a b h inside).stays ∙ ap (λ (e : Draft). e.codes) (params_are ps first).stays

  code_shown : (x : Ident) (w v : Walk) (d after e : Draft) → after.codes ≡ d.codes → length e.codes ≡ length d.codes + 1 → e.uses ≡ after.uses → e.numbers ≡ after.numbers → Begins (d.numbers ++ length d.codes ∷ []) after →
      length w.decls ≡ length d.numbers → Both s (length d.codes) v after → Both s (length e.codes) (record v { scopes = with_name x.name (fresh class.Code 0 w) v.scopes }) e
  code_shown x w v d after e same count uses numbers own decls h =
      let limit = length d.codes in
      let up : limit ≤ length e.codes = omega (arith, count) in
      let found : slice_get after.numbers (length d.numbers) ≡ Some limit =
      ap (λ ns. slice_get ns (length d.numbers)) (own.1 ∙ append_assoc d.numbers (limit ∷ []) own.0) ∙ get_next d.numbers limit own.0 in
      let means : CodeMeans (length e.codes) after.numbers (fresh class.Code 0 w) =
      λ code. (limit, ap (slice_get after.numbers) (fresh_number w ∙ decls) ∙ found, omega (arith, count)) in
      record {
        uses = h.uses ∙ sym uses;
        decls = h.decls ∙ ap length (sym numbers);
        codes =
            subst (λ ns. AllScopes (CodeMeans (length e.codes) ns) (with_name x.name (fresh class.Code 0 w) v.scopes)) (sym numbers)
            (with_name_all (CodeMeans (length e.codes) after.numbers) x.name (fresh class.Code 0 w) v.scopes means
            (scopes_map (CodeMeans limit after.numbers) (CodeMeans (length e.codes) after.numbers) (means_up limit (length e.codes) up after.numbers) v.scopes h.codes));
      }

  code_passes : (p : Pos) (x : Ident) (ps : List Param) (result : Ty) (b : Block) → NoCodeInBlock b → InnerInBlock b → (w : Walk) (d : Draft) →
      Always (λ v. Passes w d v (stmt_written s t of_program p (stmt.Code x ps result b) d)) (code_opened x ps result w >>= block_walked b Plain >>= closed >>= shown x (fresh class.Code 0 w))
  unfolding stmt_written code_around code_ended left with_code shown
  code_passes p x ps result b h i w d =
      let limit = length d.codes in
      let inside : Draft = code_begun ps d in
      let around = code_around inside in
      let after : Draft = block_passed s t around b inside in
      let made : KBlock = block_written s t around b inside in
      let e : Draft = stmt_written s t of_program p (stmt.Code x ps result b) d in
      let le : limit ≤ limit = omega arith in
      let same : after.codes ≡ d.codes = code_codes around ps b d h in
      let own = own_number around ps b d i in
      let Q : Walk → Type 0 = λ v. Step s limit w d v after × (Both s limit w d → Fits s v → BlockUses limit made) in
      always_then Q (λ v. Passes w d v e) (code_opened x ps result w >>= block_walked b Plain >>= closed) (shown x (fresh class.Code 0 w))
      (always_then Q Q (code_opened x ps result w >>= block_walked b Plain) closed
      (always_then (λ v. Step s limit w d v inside) Q (code_opened x ps result w) (block_walked b Plain) (head_goes x ps result w d)
      (λ v head u k. let m = block_parts s t limit limit le around b Plain h v inside u k in (step_then s limit head m.step, λ both fits. m.uses (head.both both) fits)))
      (λ v q u k. let leave = closed_goes s limit v after u k in (step_then s limit q.0 leave, λ both fits. q.1 both (leave.fits fits))))
      (λ v q.
      always_ok (λ v. Passes w d v e) (record v { scopes = with_name x.name (fresh class.Code 0 w) v.scopes })
      (let count : length e.codes ≡ limit + 1 = length_more after.codes _ ∙ ap (λ n. n + 1) (ap length same) in
      record {
        grows = omega (arith, count);
        fits = λ fits. q.0.fits (record { rest = fits.rest; is = fits.is });
        outer = λ small fits o.
            let here : Fits s v = record { rest = fits.rest; is = fits.is } in
            let uses : BlockUses limit made = q.1 o.both here in
            record {
              both = code_shown x w v d after e same count refl refl own o.both.decls (q.0.both o.both);
              codes = uses_more 0 after.codes _ (subst (CodesUse 0) (sym same) o.codes) (subst (λ n. BlockUses n made) (let c : length after.codes ≡ limit = ap length same in omega (arith, c)) uses);
              body = record { decls = o.body.decls; list = o.body.list };
            };
      }))

  stmt_passes : (p : Pos) (st : Stmt) → Outermost st → Outer st → (w : Walk) (d : Draft) → Always (λ v. Passes w d v (stmt_written s t of_program p st d)) (stmt_walked st w)
  unfolding Outermost Outer stmt_walked
  stmt_passes p (stmt.Code x ps result b) o i w d = code_passes p x ps result b o i w d
  stmt_passes p st o i w d =
      λ v k. part_passes w v d (stmt_written s t of_program p st d) (stmt_wrote s t of_program p st o d).codes (λ b le. stmt_parts s t (length d.codes) b le of_program p st o w d v k)

  passes_then : {w v u : Walk} {d e c : Draft} → Passes w d v e → Passes v e u c → Passes w d u c
  passes_then a b =
      let x = a.grows in
      let y = b.grows in
      record {
        grows = omega (arith, x, y);
        fits = λ h. a.fits (b.fits h);
        outer = λ small fits o. b.outer small fits (a.outer (omega (arith, y, small)) (b.fits fits) o);
      }

  nodes_pass : {n : _} (r : Row_of-Node n) → OutermostNodes r → OuterNodes r → (w : Walk) (d : Draft) → Always (λ v. Passes w d v (nodes_written s t of_program r d)) (nodes_walked r w)
  unfolding OutermostNodes OuterNodes stmt_walked stmt_written
  nodes_pass end_of-Node o i w d = always_ok (λ v. Passes w d v d) w (record { grows = omega arith; fits = λ h. h; outer = λ small fits h. h })
  nodes_pass (more_of-Node p st rest) o i w d =
      let e = stmt_written s t of_program p st d in
      always_then (λ v. Passes w d v e) (λ v. Passes w d v (nodes_written s t of_program rest e)) (stmt_walked st w) (nodes_walked rest) (stmt_passes p st o.0 i.0 w d)
      (λ v one u k. passes_then one (nodes_pass rest o.1 i.1 v e u k))

-- ---- the whole program

module _ (s : Scopes) (t : Types) where
  block_above : (b : Block) → OutermostBlock b → OuterBlock b → (m k : ℕ) →
      let d = nothing_written m k in
      let K = (block_passed s t of_program b d).codes in
      Always (λ v. Fits s v → BlockUses (length K) (block_written s t of_program b d) × CodesUse 0 K) (block_walked b Plain fresh_walk)
  unfolding OutermostBlock OuterBlock stmt_written stmt_walked nothing_written draft.opened draft.closed opened closed
  block_above (Block' _ list) o i m k =
      let n = declared_in list in
      let f = nodes_written s t of_program list in
      let d : Draft = nothing_written m k in
      let start : Draft = draft.opened n d in
      let w : Walk = opened Plain fresh_walk in
      let bound = length (f start).codes in
      always_then (λ v. Passes s t bound w start v (f start)) (λ v. Fits s v → BlockUses bound (block_of n f d) × CodesUse 0 (f start).codes) (nodes_walked list w) closed (nodes_pass s t bound list o i w start)
      (λ v passes.
      always_ok (λ v. Fits s v → BlockUses bound (block_of n f d) × CodesUse 0 (f start).codes) _
      (λ fits.
      let all =
      passes.outer (omega arith) (record { rest = fits.rest; is = fits.is })
      (record { both = record { uses = refl; decls = refl; codes = (tt, tt) }; codes = tt; body = record { decls = tt; list = tt } }) in
      (holds_block bound n f d all.body, all.codes)))

  pub above : (tree : Tree) → CodesOutermost tree → TreeOuter tree → scopes_of tree ≡ Ok s → KernelUses (kernel_of s t tree)
  unfolding kernel_of
  above tree o i h =
      let m = (counted s t tree.body).node in
      let k = (counted s t tree.body).slot in
      let d = nothing_written m k in
      let K = (block_passed s t of_program tree.body d).codes in
      let R : Type 0 = BlockUses (length K) (block_written s t of_program tree.body d) × CodesUse 0 K in
      always_then (λ v. Fits s v → R) (λ sc. sc ≡ s → R) (block_walked tree.body Plain fresh_walk) gathered (block_above tree.body o i m k)
      (λ v all sc e same. all (record { rest = []; is = let one : record { decls = v.decls; uses = v.uses } ≡ sc = cc in ap (λ (x : Scopes). x.uses) (sym (one ∙ same)) ∙ append_none v.uses }))
      s h refl
