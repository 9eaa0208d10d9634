-- The program and its codes: each names what is visible in its own body.
use Rattle.std.proofs.Common.{◌≡◌, refl, sym, ap, ◌∙◌, subst, ℕ, ◌+◌, length, arith, List, [], ◌∷◌, ◌++◌, None, Ok}
use Rattle.ceu_base.specs.declared.kinds.Ty.{Ty}
use Rattle.ceu_base.specs.declared.kinds.Pos.{Pos}
use Rattle.ceu_tree.specs.declared.source.Class.TheVariants as class
use Rattle.ceu_tree.specs.declared.source.Ident.{Ident}
use Rattle.ceu_tree.specs.declared.source.Param.{Param}
use Rattle.ceu_tree.specs.declared.source.Block.{Block, Block', Row_of-Node, end_of-Node, more_of-Node}
use Rattle.ceu_tree.specs.declared.source.Stmt as stmt
use Rattle.ceu_tree.specs.declared.source.Stmt.{Stmt, Vars', If', Par'}
use Rattle.ceu_tree.specs.declared.source.Tree.{Tree}
use Rattle.ceu_tree.specs.declared.kernel.KBlock.{KBlock}
use Rattle.ceu_tree.specs.declared.kernel.KCode.{KCode}
use Rattle.ceu_tree.specs.declared.kernel.KDecl.{KDecl}
use Rattle.ceu_tree.specs.declared.kernel.KKind.TheVariants as kind
use Rattle.ceu_tree.specs.Numbering.{decl_slots}
use Rattle.ceu_tree.specs.Proper.{Seen}
use Rattle.ceu_scopes.specs.declared.known.Known.{Known}
use Rattle.ceu_scopes.specs.declared.known.Scopes.{Scopes}
use Rattle.ceu_scopes.specs.declared.scope.Border.TheVariants.{Plain, Body}
use Rattle.ceu_scopes.specs.declared.walk.Walk.{Walk}
use Rattle.ceu_scopes.specs.Shown.{rest_of}
use Rattle.ceu_scopes.specs.Walk.{Broken, ◌>>=◌, opened, closed, shown, fresh}
use Rattle.ceu_scopes.specs.Walk as walk
use Rattle.ceu_scopes.specs.Rules.{inside_broken, declared}
use Rattle.ceu_scopes.specs.Names.{param_declared, params_opened, code_opened, stmt_walked, block_walked, nodes_walked, fresh_walk, gathered, scopes_of}
use Rattle.ceu_types.specs.declared.typing.Types.{Types}
use Rattle.ceu_expand.specs.declared.draft.Draft.{Draft}
use Rattle.ceu_expand.specs.Draft as draft
use Rattle.ceu_expand.specs.Draft.{of_program, nothing_written, block_of, standing, entered, left, with_code}
use Rattle.ceu_expand.specs.Lists.{each}
use Rattle.ceu_expand.specs.Parts as parts
use Rattle.ceu_expand.specs.Expansion.{declared_by, declared_in, code_begun, code_around, code_ended, stmt_written, nodes_written, block_written, block_passed, counted, kernel_of}
use Rattle.laws_kernel_shape.specs.Shaped.{AllOf}
use Rattle.laws_kernel_shape.proofs.Codes.{NoCodeInBlock, Outermost, OutermostNodes, OutermostBlock, CodesOutermost}
use Rattle.laws_kernel_shape.proofs.Good.{all_append}
use Rattle.laws_kernel_shape.proofs.Inside.{append_none, append_assoc, decl_slots_append}
use Rattle.laws_kernel_shape.proofs.Runs.{Runs, runs_append}
use Rattle.laws_kernel_shape.proofs.Steps.{Always, always_ok, always_then}
use Rattle.laws_kernel_shape.proofs.Whole.{bare, params_are}
use Rattle.laws_kernel_shape.proofs.Wrote.{stmt_wrote, block_in}
use Rattle.laws_kernel_names.specs.Sees.{seen_with, BlockSeen, CodeSeen, KernelSeen}
use Rattle.laws_kernel_names.proofs.Views.{Means, Shown, shown_map}
use Rattle.laws_kernel_names.proofs.Seeing.{Fits, Begun, Begins, View, Both, Step, step_then, Goes, goes_then, means_up, Declares, declares, shown_step}
use Rattle.laws_kernel_names.proofs.Looking.{still}
use Rattle.laws_kernel_names.proofs.Holding.{Holds, holds_as, holds_block}
use Rattle.laws_kernel_names.proofs.Single.{block_declares, var_means}
use Rattle.laws_kernel_names.proofs.Blocks.{opened_same, fits_same, closed_is, new_view}
use Rattle.laws_kernel_names.proofs.Ranges.{standing_facts}
use Rattle.laws_kernel_names.proofs.Naming.{block_same, bind_ok, stmt_parts, block_parts}

-- ---- the declarations of the outermost block

record Row (count : ℕ) (d e : Draft) : Type 0 where
  decls : List KDecl
  decls_is : e.parts.decls ≡ d.parts.decls ++ decls
  slot_is : e.parts.slot ≡ d.parts.slot + count
  runs : Runs d.parts.slot (decl_slots decls) e.parts.slot

row_then : {m n : ℕ} {d e f : Draft} → Row m d e → Row n e f → Row (m + n) d f
row_then {m = m} {n = n} {d = d} {e = e} {f = f} h k =
    let a : e.parts.slot ≡ d.parts.slot + m = h.slot_is in
    let b : f.parts.slot ≡ e.parts.slot + n = k.slot_is in
    record {
      decls = h.decls ++ k.decls;
      decls_is = k.decls_is ∙ ap (λ x. x ++ k.decls) h.decls_is ∙ append_assoc d.parts.decls h.decls k.decls;
      slot_is = omega (arith, a, b);
      runs =
          subst (λ x. Runs d.parts.slot x f.parts.slot) (sym (decl_slots_append h.decls k.decls))
          (runs_append d.parts.slot (decl_slots h.decls) e.parts.slot (decl_slots k.decls) f.parts.slot h.runs k.runs);
    }

-- ---- what stands in the block, and the codes behind it

abbrev Whole : List Seen → Draft → Type 0
Whole view d = Holds view d × AllOf CodeSeen d.codes

module _ (s : Scopes) (t : Types) where
  same_row : (d e : Draft) → e.parts ≡ d.parts → Row 0 d e
  same_row d e same =
      let slot : e.parts.slot ≡ d.parts.slot = ap (λ p. p.slot) same in
      record { decls = []; decls_is = ap (λ p. p.decls) same ∙ append_none d.parts.decls; slot_is = omega (arith, slot); runs = slot }

  code_parts_stay : (p : Pos) (x : Ident) (ps : List Param) (result : Ty) (b : Block) (d : Draft) → (stmt_written s t of_program p (stmt.Code x ps result b) d).parts ≡ d.parts
  unfolding stmt_written code_ended left with_code
  code_parts_stay p x ps result b d = refl

  stmt_row : (p : Pos) (st : Stmt) → Outermost st → (d : Draft) → Row (declared_by st) d (stmt_written s t of_program p st d)
  unfolding Outermost declared_by
  stmt_row p (stmt.Code x ps result b) h d = same_row d _ (code_parts_stay p x ps result b d)
  stmt_row p st h d = let k = stmt_wrote s t of_program p st h d in record { decls = k.decls; decls_is = k.decls_is; slot_is = k.slot_is; runs = k.decl_runs }

  nodes_row : {n : _} (r : Row_of-Node n) → OutermostNodes r → (d : Draft) → Row (declared_in r) d (nodes_written s t of_program r d)
  unfolding OutermostNodes declared_in stmt_written
  nodes_row end_of-Node h d = same_row d d refl
  nodes_row (more_of-Node p st rest) h d = row_then (stmt_row p st h.0 d) (nodes_row rest h.1 (stmt_written s t of_program p st d))

  program_runs : {n : _} (r : Row_of-Node n) → OutermostNodes r → (d : Draft) → Runs d.slot (decl_slots (nodes_written s t of_program r (draft.opened (declared_in r) d)).parts.decls) (draft.opened (declared_in r) d).slot
  unfolding draft.opened
  program_runs r o d =
      let start = draft.opened (declared_in r) d in
      let e = nodes_written s t of_program r start in
      let row = nodes_row r o start in
      subst (λ xs. Runs d.slot (decl_slots xs) start.slot) (sym row.decls_is) (subst (λ k. Runs d.slot (decl_slots row.decls) k) row.slot_is row.runs)

  -- ---- parameters

  module _ (view : List Seen) (ds : List KDecl) (base : ℕ) (env : View view ds base) where
    param_means : (w : Walk) (numbers : List ℕ) → Means s view base numbers (fresh class.Var 0 w) → Means s view base numbers (fresh class.Param 0 w)
    unfolding fresh
    param_means w numbers h = record { number = h.number; is = h.is; below = h.below; there = h.there }

    param_goes : (p : Param) (w : Walk) (d : Draft) → Goes s view ds base w d (param_declared p w) (parts.param_declared p d)
    param_goes p w d =
        let e = parts.param_declared p d in
        always_then (λ y. Declares s view ds base p.ty d.parts.slot w d y e) (λ v. Step s view ds base w d v e) (declared class.Param p.ty None p.name w) (shown p.name (fresh class.Param 0 w))
        (block_declares s t view ds base class.Param p.ty None (kind.Var p.ty) p.name w d)
        (λ y dec v k.
        let sh = shown_step s view ds base p.name (fresh class.Param 0 w) y e v k in
        record {
          fits = λ g. dec.step.fits (sh.1 g);
          begun = λ b. dec.step.begun b;
          both = λ g b o. sh.0 (dec.step.both (sh.1 g) b o) (param_means w e.numbers (var_means s t view ds base p.ty p.name w d e y env dec refl (sh.1 g) b o));
          slots = dec.step.slots;
          more = dec.step.more;
          rest = sh.2 ∙ ap rest_of dec.scopes;
        })

    params_go : (ps : List Param) (w : Walk) (d : Draft) → Goes s view ds base w d (walk.each param_declared ps w) (each parts.param_declared ps d)
    unfolding each walk.each
    params_go [] w d = always_ok (λ v. Step s view ds base w d v d) w (still s t view ds base w d)
    params_go (p ∷ ps) w d =
        let e = parts.param_declared p d in
        goes_then s view ds base w d e (each parts.param_declared ps e) (param_declared p w) (walk.each param_declared ps) (param_goes p w d) (λ v. params_go ps v e)

  -- ---- a code's draft

  abbrev head_of : List Param → Draft → Draft
  head_of ps d = entered (length ps) (standing (length d.codes) d)

  -- how the code's parameters and body begin
  record Head (ps : List Param) (d : Draft) : Type 0 where
    uses : (head_of ps d).uses ≡ d.uses
    numbers : (head_of ps d).numbers ≡ d.numbers ++ length d.codes ∷ []
    begins : code_begun ps d ≡ each parts.param_declared ps (head_of ps d)
    slot : (code_begun ps d).slot ≡ (head_of ps d).slot
    runs : Runs d.other_slot (decl_slots (code_begun ps d).parts.decls) (code_begun ps d).slot
    codes : (code_begun ps d).codes ≡ d.codes
    other : (code_begun ps d).other_slot ≡ d.slot

  head : (ps : List Param) (d : Draft) → Head ps d
  unfolding code_begun entered standing bare
  head ps d =
      let first = head_of ps d in
      let inside = code_begun ps d in
      let params = params_are ps first in
      let slot : inside.slot ≡ first.slot = ap (λ (e : Draft). e.slot) params.stays in
      record {
        uses = refl;
        numbers = refl;
        begins = refl;
        slot = slot;
        runs =
            subst (λ xs. Runs d.other_slot (decl_slots xs) inside.slot) (sym params.decls_is)
            (subst (λ k. Runs d.other_slot (decl_slots params.decls) k) (params.slot_is ∙ sym slot) params.decl_runs);
        codes = ap (λ (e : Draft). e.codes) params.stays;
        other = ap (λ (e : Draft). e.other_slot) params.stays;
      }

  code_view : (ps : List Param) (d : Draft) → View (seen_with (code_begun ps d).parts.decls []) (code_begun ps d).parts.decls (code_begun ps d).slot
  code_view ps d = record { first = d.other_slot; runs = (head ps d).runs; pools = _; older = []; is = refl }

  opened_body : (P : Known → Type 0) (name : List ℕ) (w : Walk) → Shown P (opened (Body name) w).scopes
  unfolding opened
  opened_body P name w = (tt, λ inside. absurd (cc))

  -- what ends with the code
  record Ended (x : Ident) (result : Ty) (made : KBlock) (d after : Draft) : Type 0 where
    uses : (code_ended x result made d.parts after).uses ≡ after.uses
    numbers : (code_ended x result made d.parts after).numbers ≡ after.numbers
    slot : (code_ended x result made d.parts after).slot ≡ after.other_slot
    parts_are : (code_ended x result made d.parts after).parts ≡ d.parts
    codes : (code_ended x result made d.parts after).codes ≡ after.codes ++ record { name = x.name; params = after.parts.decls; result = result; body = made } ∷ []

  ended : (x : Ident) (result : Ty) (made : KBlock) (d after : Draft) → Ended x result made d after
  unfolding code_ended left with_code
  ended x result made d after = record { uses = refl; numbers = refl; slot = refl; parts_are = refl; codes = refl }

  fresh_code : (view : List Seen) (base : ℕ) (numbers : List ℕ) (w : Walk) → Means s view base numbers (fresh class.Code 0 w)
  unfolding fresh
  fresh_code view base numbers w = tt

  module _ (view : List Seen) (ds : List KDecl) (base : ℕ) (env : View view ds base) where
    -- a step of the outermost block, by which it and the codes name what is visible
    record Passes (w : Walk) (d : Draft) (v : Walk) (e : Draft) : Type 0 where
      step : Step s view ds base w d v e
      sees : Fits s v → Begun ds e → Both s view base w d → Whole view d → Whole view e

    passes_then : {w v u : Walk} {d e c : Draft} → Passes w d v e → Passes v e u c → Passes w d u c
    passes_then a b =
        record {
          step = step_then s view ds base a.step b.step;
          sees = λ g p o h. b.sees g p (a.step.both (b.step.fits g) (b.step.begun p) o) (a.sees (b.step.fits g) (b.step.begun p) o h);
        }

    -- the code's name, then its parameters and body in a block of their own
    code_ends : (x : Ident) (ps : List Param) (result : Ty) (b : Block) → NoCodeInBlock b → (w w1 w3 w4 w5 z : Walk) (d : Draft) →
        let inside = code_begun ps d in
        let around = code_around inside in
        declared class.Code result (inside_broken w.scopes) x w ≡ Ok w1 → params_opened x.name ps w1 ≡ Ok w3 → block_walked b Plain w3 ≡ Ok w4 → closed w4 ≡ Ok w5 → shown x (fresh class.Code 0 w) w5 ≡ Ok z →
        Passes w d z (code_ended x result (block_written s t around b inside) d.parts (block_passed s t around b inside))
    code_ends x ps result b h w w1 w3 w4 w5 z d e1 e3 e4 e5 ez =
        let inside = code_begun ps d in
        let around = code_around inside in
        let made = block_written s t around b inside in
        let after = block_passed s t around b inside in
        let e = code_ended x result made d.parts after in
        let n = length d.codes in
        let hd = head ps d in
        let ended = ended x result made d after in
        let stays = (block_in s t around b h inside).stays in
        let same : after.parts ≡ inside.parts = block_same s t around b inside in
        let codes : after.codes ≡ d.codes = ap (λ (c : Draft). c.codes) stays ∙ hd.codes in
        let slot : e.slot ≡ d.slot = ended.slot ∙ ap (λ (c : Draft). c.other_slot) stays ∙ hd.other in
        let P = inside.parts.decls in
        let own = seen_with P [] in
        let facts = standing_facts s t n d in
        let dec = declares s view ds base class.Code result (inside_broken w.scopes) x n w d (standing n d) facts.0 facts.1 facts.2 (λ b. record { more = b.more; is = b.is ∙ ap (λ p. p.decls ++ b.more) facts.3 }) w1 e1 in
        let w2 = opened (Body x.name) w1 in
        let outer = opened_same s t (Body x.name) w1 in
        let first = head_of ps d in
        let params : Step s own P inside.slot w2 first w3 inside = subst (λ c. Step s own P inside.slot w2 first w3 c) (sym hd.begins) (params_go own P inside.slot (code_view ps d) ps w2 first w3 e3) in
        let body = block_parts s t own P inside.slot around b Plain h w3 inside w4 e4 in
        let all = step_then s own P inside.slot params body.step in
        let is5 = closed_is s t w4 w5 e5 in
        let sh = shown_step s view ds base x (fresh class.Code 0 w) w5 e z ez in
        let fits4 : Fits s z → Fits s w4 = λ g. fits_same s t w4 w5 (ap (λ (v : Walk). v.uses) (sym is5)) (ap (λ (v : Walk). v.decls) (sym is5)) (sh.1 g) in
        let fits1 : Fits s z → Fits s w1 = λ g. fits_same s t w1 w2 outer.0 outer.1 (all.fits (fits4 g)) in
        let begunP : Begun P after = record { more = []; is = ap (λ p. p.decls) (sym same) ∙ append_none after.parts.decls } in
        let begun : Begun ds e → Begun ds d = λ p. record { more = p.more; is = p.is ∙ ap (λ q. q.decls ++ p.more) ended.parts_are } in
        let begun1 : Begun ds e → Begun ds (standing n d) = λ p. let q = begun p in record { more = q.more; is = q.is ∙ ap (λ r. r.decls ++ q.more) (sym facts.3) } in
        let up = hd.slot in
        let start : Fits s z → Begun ds e → Both s view base w d → Both s own inside.slot w2 first =
        λ g p o.
        let k = dec.step.both (fits1 g) (begun1 p) o in
        record {
          uses = ap length outer.0 ∙ k.uses ∙ facts.0 ∙ sym hd.uses;
          decls = ap length outer.1 ∙ k.decls ∙ ap length facts.1 ∙ ap length (sym hd.numbers);
          room = omega (arith, up);
          means = opened_body (λ j. Means s own inside.slot first.numbers j) x.name w1;
        } in
        let scopes : w5.scopes ≡ w.scopes = ap (λ (v : Walk). v.scopes) (sym is5) ∙ all.rest ∙ outer.2 ∙ dec.scopes in
        let more : Begins d.numbers e = (n ∷ all.more.0, ended.numbers ∙ all.more.1 ∙ ap (λ ns. ns ++ all.more.0) hd.numbers ∙ append_assoc d.numbers (n ∷ []) all.more.0) in
        let code : KCode = record { name = x.name; params = after.parts.decls; result = result; body = made } in
        record {
          step = record {
            fits = λ g. dec.step.fits (fits1 g);
            begun = begun;
            both = λ g p o.
                let k = all.both (fits4 g) begunP (start g p o) in
                let r = o.room in
                sh.0 (record {
                  uses = ap (λ (v : Walk). length v.uses) (sym is5) ∙ k.uses ∙ sym ended.uses;
                  decls = ap (λ (v : Walk). length v.decls) (sym is5) ∙ k.decls ∙ ap length (sym ended.numbers);
                  room = omega (arith, r, slot);
                  means =
                      subst (λ sc. Shown (λ j. Means s view base e.numbers j) sc) (sym scopes)
                      (shown_map (λ j. Means s view base d.numbers j) (λ j. Means s view base e.numbers j) (means_up s view ds base d e more) w.scopes o.means);
                }) (fresh_code view base e.numbers w);
            slots = omega (arith, slot);
            more = more;
            rest = sh.2 ∙ ap rest_of scopes;
          };
          sees = λ g p o held.
              let seen : BlockSeen own made = body.so (fits4 g) begunP (params.both (body.step.fits (fits4 g)) (body.step.begun begunP) (start g p o)) in (
                holds_as view d e (ap (λ q. q.list) ended.parts_are) held.0,
                subst (AllOf CodeSeen) (sym ended.codes)
                    (all_append CodeSeen after.codes code (subst (AllOf CodeSeen) (sym codes) held.1) (subst (λ xs. BlockSeen (seen_with xs []) made) (ap (λ q. q.decls) (sym same)) seen)),
              );
        }

    stmt_passes : (p : Pos) (st : Stmt) → Outermost st → (w : Walk) (d : Draft) → Always (λ v. Passes w d v (stmt_written s t of_program p st d)) (stmt_walked st w)
    unfolding Outermost stmt_walked stmt_written
    stmt_passes p (stmt.Code x ps result b) o w d =
        λ z k.
        let named = fresh class.Code 0 w in
        let a5 = bind_ok s t (code_opened x ps result w >>= block_walked b Plain >>= closed) (shown x named) z k in
        let a4 = bind_ok s t (code_opened x ps result w >>= block_walked b Plain) closed a5.0 a5.1 in
        let a3 = bind_ok s t (code_opened x ps result w) (block_walked b Plain) a4.0 a4.1 in
        let a1 = bind_ok s t (declared class.Code result (inside_broken w.scopes) x w) (params_opened x.name ps) a3.0 a3.1 in
        code_ends x ps result b o w a1.0 a3.0 a4.0 a5.0 z d a1.1 a1.2 a3.2 a4.2 a5.2
    stmt_passes p st o w d =
        λ v k.
        let part = stmt_parts s t view ds base env of_program p st o w d v k in
        let codes = (stmt_wrote s t of_program p st o d).codes in
        record { step = part.step; sees = λ g b both held. (part.sees g b both held.0, subst (AllOf CodeSeen) (sym codes) held.1) }

    nodes_pass : {n : _} (r : Row_of-Node n) → OutermostNodes r → (w : Walk) (d : Draft) → Always (λ v. Passes w d v (nodes_written s t of_program r d)) (nodes_walked r w)
    unfolding OutermostNodes stmt_walked stmt_written
    nodes_pass end_of-Node o w d = always_ok (λ v. Passes w d v d) w (record { step = still s t view ds base w d; sees = λ g b both h. h })
    nodes_pass (more_of-Node p st rest) o w d =
        let e = stmt_written s t of_program p st d in
        always_then (λ v. Passes w d v e) (λ v. Passes w d v (nodes_written s t of_program rest e)) (stmt_walked st w) (nodes_walked rest) (stmt_passes p st o.0 w d)
        (λ v one u k. passes_then one (nodes_pass rest o.1 v e u k))

  -- ---- the whole program

  block_sees : (b : Block) → OutermostBlock b → (m k : ℕ) →
      let d = nothing_written m k in
      Always (λ v. Fits s v → BlockSeen [] (block_written s t of_program b d) × AllOf CodeSeen (block_passed s t of_program b d).codes) (block_walked b Plain fresh_walk)
  unfolding OutermostBlock stmt_written stmt_walked nothing_written draft.opened draft.closed opened closed
  block_sees (Block' _ list) o m k =
      let n = declared_in list in
      let f = nodes_written s t of_program list in
      let d : Draft = nothing_written m k in
      let start : Draft = draft.opened n d in
      let w : Walk = opened Plain fresh_walk in
      let D = (f start).parts.decls in
      let view = seen_with D [] in
      let runs = program_runs list o d in
      let Q : Type 0 = BlockSeen [] (block_of n f d) × AllOf CodeSeen (f start).codes in
      always_then (λ v. Passes view D start.slot (new_view s t [] n f d runs) w start v (f start)) (λ v. Fits s v → Q) (nodes_walked list w) closed (nodes_pass view D start.slot (new_view s t [] n f d runs) list o w start)
      (λ v passes.
      always_ok (λ v. Fits s v → Q) _
      (λ fits.
      let all =
      passes.sees (record { rest = fits.rest; is = fits.is; later = fits.later; decls = fits.decls }) (record { more = []; is = append_none D })
      (record { uses = refl; decls = refl; room = omega arith; means = (tt, λ inside. tt) }) (tt, tt) in
      (holds_block [] n f d all.0, all.1)))

  pub sees : (tree : Tree) → CodesOutermost tree → scopes_of tree ≡ Ok s → KernelSeen (kernel_of s t tree)
  unfolding kernel_of
  sees tree o h =
      let m = (counted s t tree.body).node in
      let k = (counted s t tree.body).slot in
      let d = nothing_written m k in
      let Q : Type 0 = BlockSeen [] (block_written s t of_program tree.body d) × AllOf CodeSeen (block_passed s t of_program tree.body d).codes in
      always_then (λ v. Fits s v → Q) (λ sc. sc ≡ s → Q) (block_walked tree.body Plain fresh_walk) gathered (block_sees tree.body o m k)
      (λ v all sc e same.
      let one : record { decls = v.decls; uses = v.uses } ≡ sc = cc in
      let is : record { decls = v.decls; uses = v.uses } ≡ s = one ∙ same in
      all (record { rest = []; is = ap (λ (x : Scopes). x.uses) (sym is) ∙ append_none v.uses; later = []; decls = ap (λ (x : Scopes). x.decls) (sym is) ∙ append_none v.decls }))
      s h refl
