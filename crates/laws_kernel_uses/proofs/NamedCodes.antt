-- The program and its codes: each names what is there.
use Rattle.std.proofs.Common.{◌≡◌, refl, sym, ap, ◌∙◌, subst, ℕ, ◌+◌, length, arith, List, [], ◌∷◌, ◌++◌, Some, None, Ok, true, false}
use Rattle.ceu_base.specs.declared.kinds.Ty.{Ty}
use Rattle.ceu_base.specs.declared.kinds.Pos.{Pos}
use Rattle.ceu_tree.specs.declared.source.Class.{Class}
use Rattle.ceu_tree.specs.declared.source.Class.TheVariants as class
use Rattle.ceu_tree.specs.declared.source.Ident.{Ident}
use Rattle.ceu_tree.specs.declared.source.Param.{Param}
use Rattle.ceu_tree.specs.declared.source.Block.{Block, Row_of-Node, end_of-Node, more_of-Node}
use Rattle.ceu_tree.specs.declared.source.Stmt as stmt
use Rattle.ceu_tree.specs.declared.source.Stmt.{Stmt, Vars', If', Par'}
use Rattle.ceu_tree.specs.declared.kernel.Kernel.{Kernel}
use Rattle.ceu_tree.specs.declared.kernel.KBlock.{KBlock, out-KBlock}
use Rattle.ceu_tree.specs.declared.kernel.KCode.{KCode}
use Rattle.ceu_tree.specs.declared.kernel.KDecl.{KDecl}
use Rattle.ceu_tree.specs.declared.kernel.KKind.TheVariants as kind
use Rattle.ceu_tree.specs.Proper.{InTrail, find, declared_seen, pool_slots, pools_seen}
use Rattle.ceu_scopes.specs.declared.known.Known.{Known}
use Rattle.ceu_scopes.specs.declared.known.Scopes.{Scopes}
use Rattle.ceu_scopes.specs.declared.scope.Border.TheVariants.{Plain, Body}
use Rattle.ceu_scopes.specs.declared.scope.Scope.{Scope}
use Rattle.ceu_scopes.specs.declared.walk.Walk.{Walk}
use Rattle.ceu_scopes.specs.Shown.{rest_of}
use Rattle.ceu_scopes.specs.Walk.{Broken, ◌>>=◌, opened, closed, shown, fresh}
use Rattle.ceu_scopes.specs.Walk as walk
use Rattle.ceu_scopes.specs.Rules.{inside_broken, declared}
use Rattle.ceu_scopes.specs.Names.{param_declared, params_opened, code_opened, stmt_walked, block_walked, nodes_walked}
use Rattle.ceu_types.specs.declared.typing.Types.{Types}
use Rattle.ceu_expand.specs.declared.draft.Draft.{Draft}
use Rattle.ceu_expand.specs.Draft.{of_program, outside, standing, entered, left, with_code}
use Rattle.ceu_expand.specs.Lists.{each}
use Rattle.ceu_expand.specs.Parts as parts
use Rattle.ceu_expand.specs.Expansion.{code_begun, code_around, code_ended, stmt_written, nodes_written, block_written, block_passed}
use Rattle.laws_kernel_shape.proofs.Codes.{NoCodeInBlock, Outermost, OutermostNodes}
use Rattle.laws_kernel_shape.proofs.Inside.{append_none, append_assoc}
use Rattle.laws_kernel_shape.proofs.Steps.{Always, always_ok, always_then}
use Rattle.laws_kernel_shape.proofs.Whole.{bare, params_are}
use Rattle.laws_kernel_shape.proofs.Wrote.{stmt_wrote, block_in}
use Rattle.laws_kernel_names.proofs.Stepping.{Entries, AllScopes}
use Rattle.laws_kernel_names.proofs.Views.{Shown}
use Rattle.laws_kernel_names.proofs.Seeing.{Fits}
use Rattle.laws_kernel_names.proofs.Blocks.{opened_same, fits_same, closed_is}
use Rattle.laws_kernel_names.proofs.Ranges.{standing_facts}
use Rattle.laws_kernel_names.proofs.Naming.{block_same, bind_ok}
use Rattle.laws_kernel_uses.specs.Named.{top_scope}
use Rattle.laws_kernel_uses.proofs.Sites.{Site, site_with, BlockHeld}
use Rattle.laws_kernel_uses.proofs.Asks.{site, code_site, CodesHeld}
use Rattle.laws_kernel_uses.proofs.Means.{Stands, MeansOf, Means, find_variable, SharedOf, Shared}
use Rattle.laws_kernel_uses.proofs.Reach.{Top, Deep}
use Rattle.laws_kernel_uses.proofs.Walking.{Ground, lists_as, SameLists, Begun, Begins, View, Both, both_up, Step, step_then, Goes, goes_then, Declares, declares, shown_step}
use Rattle.laws_kernel_uses.proofs.Exps.{still}
use Rattle.laws_kernel_uses.proofs.Holding.{Holds, holds_as}
use Rattle.laws_kernel_uses.proofs.Showing.{step_shown, block_declares, param_entry, plain_entry}
use Rattle.laws_kernel_uses.proofs.Opening.{unmoved}
use Rattle.laws_kernel_uses.proofs.NamedBlocks.{opened_blocks, closed_blocks}
use Rattle.laws_kernel_uses.proofs.NamedRanges.{standing_lists}
use Rattle.laws_kernel_uses.proofs.NamedNaming.{in_plain, stmt_parts, block_parts}

-- ---- the outermost block and its codes

abbrev pub top_site : Site
top_site = site (top_scope None) []

-- where the outermost block declares this
abbrev pub top_ground : List KDecl → Ground
top_ground ds = record { site = site_with ds top_site; entered = true }

-- in the body of code with these parameters
abbrev pub code_ground : ℕ → List KDecl → Ground
code_ground n ps = record { site = record { code = Some n; place = InTrail; seen = declared_seen (pool_slots ps ++ pools_seen []) ps []; since = [] }; entered = false }

held_more : (K : Kernel) (k : ℕ) (cs : List KCode) (c : KCode) → CodesHeld K k cs → BlockHeld K (code_site K (k + length cs) c) c.body → CodesHeld K k (cs ++ c ∷ [])
held_more K k [] c h b = (let e : k + length {A = KCode} [] ≡ k = omega arith in subst (λ n. BlockHeld K (code_site K n c) c.body) e b, tt)
held_more K k (x ∷ cs) c h b =
    let e : k + length (x ∷ cs) ≡ (k + 1) + length cs = omega arith in
    (h.0, held_more K (k + 1) cs c h.1 (subst (λ n. BlockHeld K (code_site K n c) c.body) e b))

module _ (s : Scopes) (K : Kernel) (ds : List KDecl) (top : (out-KBlock K.body).decls ≡ ds) where
  -- what the outermost block shows code may name
  shared_of : (limit base : ℕ) (numbers : List ℕ) (k : Known) (c : Class) → MeansOf s K (top_ground ds).site limit base numbers k c → SharedOf s K numbers k c
  shared_of limit base numbers k class.Var h =
      record {
        number = h.number;
        is = h.is;
        there = ap (λ xs. find h.number (declared_seen [] xs [])) top ∙ find_variable (pool_slots ds ++ pools_seen []) [] ds [] h.number _ h.there;
      }
  shared_of limit base numbers k class.Event h = h
  shared_of limit base numbers k class.Param h = tt
  shared_of limit base numbers k class.LoopVar h = tt
  shared_of limit base numbers k class.Input h = tt
  shared_of limit base numbers k class.Output h = tt
  shared_of limit base numbers k class.Code h = tt
  shared_of limit base numbers k class.Alias h = tt
  shared_of limit base numbers k class.Pool h = tt

  entries_shared : (limits : ℕ → ℕ) (base most : ℕ) (numbers : List ℕ) (es : List (List ℕ × Known)) → Entries (λ k. Means s K (top_ground ds).site limits base most numbers k) es → Entries (λ k. Shared s K numbers k) es
  entries_shared limits base most numbers [] h = tt
  entries_shared limits base most numbers (e ∷ es) h = (shared_of (limits e.1.block) base numbers e.1 e.1.class h.0.of, entries_shared limits base most numbers es h.1)

  -- code begins in the outermost block alone
  pub code_deep : (limits : ℕ → ℕ) (base most : ℕ) (numbers : List ℕ) (n : ℕ) (b : Scope) (scopes : List Scope) → inside_broken scopes ≡ None → Top n scopes → Shown (λ k. Means s K (top_ground ds).site limits base most numbers k) scopes → Deep (λ k. Shared s K numbers k) (b ∷ scopes)
  code_deep limits base most numbers n b [] r t h = absurd t
  code_deep limits base most numbers n b (x ∷ []) r t h = entries_shared limits base most numbers x.names h.0
  code_deep limits base most numbers n b (x ∷ y ∷ outside) r t h = absurd (cc)

module _ (s : Scopes) (t : Types) (K : Kernel) where
  -- ---- parameters

  module _ (g : Ground) (ds : List KDecl) (base : ℕ) where
    param_goes : (p : Param) (w : Walk) (d : Draft) → Goes s K g ds base w d (param_declared p w) (parts.param_declared p d)
    param_goes p w d =
        let e = parts.param_declared p d in
        always_then (λ y. Declares s K g ds base class.Param p.ty None d.parts.slot w d y e) (λ v. Step s K g ds base w d v e) (declared class.Param p.ty None p.name w) (shown p.name (fresh class.Param 0 w))
        (block_declares s K g ds base class.Param p.ty None (kind.Var p.ty) p.name w d)
        (λ y dec v k. step_shown s K g ds base p.name (fresh class.Param 0 w) w y v d e dec.step k (λ fits begun o h. param_entry s K g ds base p.ty None p.name w y d dec fits o h.limits))

    pub params_go : (ps : List Param) (w : Walk) (d : Draft) → Goes s K g ds base w d (walk.each param_declared ps w) (each parts.param_declared ps d)
    unfolding each walk.each
    params_go [] w d = always_ok (λ v. Step s K g ds base w d v d) w (still s t K g ds base w d)
    params_go (p ∷ ps) w d =
        let e = parts.param_declared p d in
        goes_then s K g ds base w d e (each parts.param_declared ps e) (param_declared p w) (walk.each param_declared ps) (param_goes p w d) (λ v. params_go ps v e)

  -- ---- a code's draft

  abbrev head_of : List Param → Draft → Draft
  head_of ps d = entered (length ps) (standing (length d.codes) d)

  -- how the code's parameters and body begin
  record Head (ps : List Param) (d : Draft) : Type 0 where
    uses : (head_of ps d).uses ≡ d.uses
    numbers : (head_of ps d).numbers ≡ d.numbers ++ length d.codes ∷ []
    lists : SameLists d (head_of ps d)
    begins : code_begun ps d ≡ each parts.param_declared ps (head_of ps d)
    slot : (code_begun ps d).slot ≡ (head_of ps d).slot
    codes : (code_begun ps d).codes ≡ d.codes
    other : (code_begun ps d).other_slot ≡ d.slot

  head : (ps : List Param) (d : Draft) → Head ps d
  unfolding code_begun entered standing bare
  head ps d =
      let first = head_of ps d in
      let params = params_are ps first in
      record {
        uses = refl;
        numbers = refl;
        lists = record { events = refl; inputs = refl; outputs = refl };
        begins = refl;
        slot = ap (λ (e : Draft). e.slot) params.stays;
        codes = ap (λ (e : Draft). e.codes) params.stays;
        other = ap (λ (e : Draft). e.other_slot) params.stays;
      }

  standing_head : (ps : List Param) (d : Draft) → SameLists (standing (length d.codes) d) (head_of ps d)
  unfolding entered standing
  standing_head ps d = record { events = refl; inputs = refl; outputs = refl }

  around_code : (d : Draft) (n : ℕ) → length d.codes ≡ n → (code_around d).code ≡ Some n
  unfolding code_around
  around_code d n h = ap Some h

  opened_body : (P : Known → Type 0) (name : List ℕ) (w : Walk) → Shown P (opened (Body name) w).scopes
  unfolding opened
  opened_body P name w = (tt, λ inside. absurd (cc))

  opened_top : (name : List ℕ) (w : Walk) → Top (opened (Body name) w).blocks (opened (Body name) w).scopes
  unfolding opened
  opened_top name w = omega arith

  opened_all : (P : Known → Type 0) (name : List ℕ) (w : Walk) → AllScopes P w.scopes → AllScopes P (opened (Body name) w).scopes
  unfolding opened
  opened_all P name w h = (tt, h)

  opened_deep : (P : Known → Type 0) (name : List ℕ) (w : Walk) → ((b : Scope) → Deep P (b ∷ w.scopes)) → Deep P (opened (Body name) w).scopes
  unfolding opened
  opened_deep P name w h = h (record { block = w.blocks; border = Body name; names = [] })

  -- what ends with the code
  record Ended (x : Ident) (result : Ty) (made : KBlock) (d after : Draft) : Type 0 where
    uses : (code_ended x result made d.parts after).uses ≡ after.uses
    numbers : (code_ended x result made d.parts after).numbers ≡ after.numbers
    lists : SameLists after (code_ended x result made d.parts after)
    slot : (code_ended x result made d.parts after).slot ≡ after.other_slot
    parts_are : (code_ended x result made d.parts after).parts ≡ d.parts
    codes : (code_ended x result made d.parts after).codes ≡ after.codes ++ record { name = x.name; params = after.parts.decls; result = result; body = made } ∷ []

  ended : (x : Ident) (result : Ty) (made : KBlock) (d after : Draft) → Ended x result made d after
  unfolding code_ended left with_code
  ended x result made d after = record { uses = refl; numbers = refl; lists = record { events = refl; inputs = refl; outputs = refl }; slot = refl; parts_are = refl; codes = refl }

  module _ (ds : List KDecl) (base : ℕ) (env : View (top_ground ds) ds base) (top : (out-KBlock K.body).decls ≡ ds) where
    abbrev g : Ground
    g = top_ground ds

    -- what stands in the block, and the codes behind it
    abbrev Whole : Draft → Type 0
    Whole d = Holds K g.site d × CodesHeld K 0 d.codes

    -- a step of the outermost block, by which it and the codes name what is there
    pub record Passes (w : Walk) (d : Draft) (v : Walk) (e : Draft) : Type 0 where
      pub step : Step s K g ds base w d v e
      pub sees : Fits s v → Begun K ds e → Both s K g base w d → Whole d → Whole e

    passes_then : {w v u : Walk} {d e c : Draft} → Passes w d v e → Passes v e u c → Passes w d u c
    passes_then a b =
        record {
          step = step_then s K g ds base a.step b.step;
          sees = λ f p o h. b.sees f p (a.step.both (b.step.fits f) (b.step.begun p) o) (a.sees (b.step.fits f) (b.step.begun p) o h);
        }

    -- code begins: its parameters stand in a block of their own, from which only the outermost block's names are reached by `outer`
    code_start : (x : Ident) (ps : List Param) (result : Ty) (w w1 : Walk) (d : Draft) →
        let n = length d.codes in
        let inside = code_begun ps d in
        Declares s K g ds base class.Code result (inside_broken w.scopes) n w d w1 (standing n d) → Both s K g base w1 (standing n d) → Both s K (code_ground n inside.parts.decls) inside.slot (opened (Body x.name) w1) (head_of ps d)
    code_start x ps result w w1 d dec k =
        let n = length d.codes in
        let inside = code_begun ps d in
        let hd = head ps d in
        let facts = standing_facts s t n d in
        let outer = opened_same s t (Body x.name) w1 in
        let first = head_of ps d in
        let numbers : (standing n d).numbers ≡ first.numbers = facts.1 ∙ sym hd.numbers in
        let up = hd.slot in
        let single : inside_broken w1.scopes ≡ None = ap inside_broken dec.scopes ∙ dec.unbroken in
        record {
          uses = ap length outer.0 ∙ k.uses ∙ facts.0 ∙ sym hd.uses;
          decls = ap length outer.1 ∙ k.decls ∙ ap length numbers;
          room = omega (arith, up);
          limits = λ b. inside.slot;
          grows = λ a b le. omega arith;
          within = λ a. omega arith;
          here = λ e. absurd (cc);
          top = opened_top x.name w1;
          means = opened_body (λ j. Means s K (code_ground n inside.parts.decls).site (λ b. inside.slot) inside.slot (opened (Body x.name) w1).blocks first.numbers j) x.name w1;
          stands = opened_all (λ j. Stands s K first.numbers j) x.name w1 (subst (λ ns. AllScopes (λ j. Stands s K ns j) w1.scopes) numbers k.stands);
          outer =
              opened_deep (λ j. Shared s K first.numbers j) x.name w1
              (λ b. subst (λ ns. Deep (λ j. Shared s K ns j) (b ∷ w1.scopes)) numbers (code_deep s K ds top k.limits base w1.blocks (standing n d).numbers w1.blocks b w1.scopes single k.top k.means));
          quiet = λ e none. absurd (cc);
        }

    -- the code's name, then its parameters and body in a block of their own
    code_ends : (x : Ident) (ps : List Param) (result : Ty) (b : Block) → NoCodeInBlock b → (w w1 w3 w4 w5 z : Walk) (d : Draft) →
        let inside = code_begun ps d in
        let around = code_around inside in
        declared class.Code result (inside_broken w.scopes) x w ≡ Ok w1 → params_opened x.name ps w1 ≡ Ok w3 → block_walked b Plain w3 ≡ Ok w4 → closed w4 ≡ Ok w5 → shown x (fresh class.Code 0 w) w5 ≡ Ok z →
        Passes w d z (code_ended x result (block_written s t around b inside) d.parts (block_passed s t around b inside))
    code_ends x ps result b h w w1 w3 w4 w5 z d e1 e3 e4 e5 ez =
        let inside = code_begun ps d in
        let around = code_around inside in
        let made = block_written s t around b inside in
        let after = block_passed s t around b inside in
        let e = code_ended x result made d.parts after in
        let n = length d.codes in
        let hd = head ps d in
        let ends = ended x result made d after in
        let stays = (block_in s t around b h inside).stays in
        let same : after.parts ≡ inside.parts = block_same s t around b inside in
        let codes : after.codes ≡ d.codes = ap (λ (c : Draft). c.codes) stays ∙ hd.codes in
        let slot : e.slot ≡ d.slot = ends.slot ∙ ap (λ (c : Draft). c.other_slot) stays ∙ hd.other in
        let P = inside.parts.decls in
        let own = code_ground n P in
        let facts = standing_facts s t n d in
        let dec =
        declares s K g ds base class.Code result (inside_broken w.scopes) x n w d (standing n d) facts.0 facts.1 facts.2
        (λ b. record { more = b.more; is = b.is ∙ ap (λ p. p.decls ++ b.more) facts.3; lists = lists_as K d (standing n d) (standing_lists n d) b.lists }) w1 e1 in
        let w2 = opened (Body x.name) w1 in
        let outer = opened_same s t (Body x.name) w1 in
        let first = head_of ps d in
        let params : Step s K own P inside.slot w2 first w3 inside = subst (λ c. Step s K own P inside.slot w2 first w3 c) (sym hd.begins) (params_go own P inside.slot ps w2 first w3 e3) in
        let body = block_parts s t K own P inside.slot (unmoved own) around (around_code inside n (ap length hd.codes)) b Plain h w3 inside refl (in_plain s K own w3) w4 e4 in
        let all = step_then s K own P inside.slot params body.step in
        let is5 = closed_is s t w4 w5 e5 in
        let fits4 : Fits s w5 → Fits s w4 = λ f. fits_same s t w4 w5 (ap (λ (v : Walk). v.uses) (sym is5)) (ap (λ (v : Walk). v.decls) (sym is5)) f in
        let fits1 : Fits s w5 → Fits s w1 = λ f. fits_same s t w1 w2 outer.0 outer.1 (all.fits (fits4 f)) in
        let begunP : Begun K ds e → Begun K P after = λ p. record { more = []; is = ap (λ q. q.decls) (sym same) ∙ append_none after.parts.decls; lists = lists_as K after e ends.lists p.lists } in
        let begun : Begun K ds e → Begun K ds d = λ p. record { more = p.more; is = p.is ∙ ap (λ q. q.decls ++ p.more) ends.parts_are; lists = lists_as K d first hd.lists (all.begun (begunP p)).lists } in
        let begun1 : Begun K ds e → Begun K ds (standing n d) =
        λ p.
        let q = begun p in
        record { more = q.more; is = q.is ∙ ap (λ r. r.decls ++ q.more) (sym facts.3); lists = lists_as K (standing n d) first (standing_head ps d) (all.begun (begunP p)).lists } in
        let start : Fits s w5 → Begun K ds e → Both s K g base w d → Both s K own inside.slot w2 first = λ f p o. code_start x ps result w w1 d dec (dec.step.both (fits1 f) (begun1 p) o) in
        let scopes : w5.scopes ≡ w.scopes = ap (λ (v : Walk). v.scopes) (sym is5) ∙ all.rest ∙ outer.2 ∙ dec.scopes in
        let more : Begins d.numbers e = (n ∷ all.more.0, ends.numbers ∙ all.more.1 ∙ ap (λ ns. ns ++ all.more.0) hd.numbers ∙ append_assoc d.numbers (n ∷ []) all.more.0) in
        let later : Begins (standing n d).numbers e = (all.more.0, ends.numbers ∙ all.more.1 ∙ ap (λ ns. ns ++ all.more.0) (hd.numbers ∙ sym facts.1)) in
        let code : KCode = record { name = x.name; params = after.parts.decls; result = result; body = made } in
        let b1 = dec.blocks in
        let b2 = opened_blocks (Body x.name) w1 in
        let b3 = all.blocks in
        let b4 = closed_blocks s t K w4 w5 e5 in
        let step : Step s K g ds base w d w5 e = record {
          fits = λ f. dec.step.fits (fits1 f);
          begun = begun;
          both = λ f p o.
              let k = all.both (fits4 f) (begunP p) (start f p o) in
              both_up s K g ds base w w5 d e o scopes (omega (arith, b1, b2, b3, b4)) (ap (λ (v : Walk). length v.uses) (sym is5) ∙ k.uses ∙ sym ends.uses) (ap (λ (v : Walk). length v.decls) (sym is5) ∙ k.decls ∙ ap length (sym ends.numbers)) (omega (arith, slot)) more;
          slots = omega (arith, slot);
          more = more;
          rest = ap rest_of scopes;
          blocks = omega (arith, b1, b2, b3, b4);
        } in
        let named = fresh class.Code 0 w in
        let shows =
        step_shown s K g ds base x named w w5 z d e step ez
        (λ f p o k. plain_entry s K g ds base class.Code result (inside_broken w.scopes) n w w1 d (standing n d) dec w5 e later (omega (arith, b1, b2, b3, b4)) (fits1 f) o k.limits tt (λ limit. tt) refl) in
        let fits5 : Fits s z → Fits s w5 = λ f. (shown_step s K g ds base x named w5 e z ez).fits f in
        record {
          step = shows;
          sees = λ f p o held.
              let kept : BlockHeld K own.site made = body.so (fits4 (fits5 f)) (begunP p) (params.both (body.step.fits (fits4 (fits5 f))) (body.step.begun (begunP p)) (start (fits5 f) p o)) in
              let count : n ≡ 0 + length after.codes = (let c : length after.codes ≡ n = ap length codes in omega (arith, c)) in
              let here : BlockHeld K (code_site K n code) made = subst (λ xs. BlockHeld K (code_site K n (record { name = x.name; params = xs; result = result; body = made })) made) (ap (λ q. q.decls) (sym same)) kept in (
                holds_as K g.site d e (ap (λ q. q.list) ends.parts_are) held.0,
                subst (CodesHeld K 0) (sym ends.codes) (held_more K 0 after.codes code (subst (CodesHeld K 0) (sym codes) held.1) (subst (λ j. BlockHeld K (code_site K j code) made) count here)),
              );
        }

    stmt_passes : (p : Pos) (st : Stmt) → Outermost st → (w : Walk) (d : Draft) → Always (λ v. Passes w d v (stmt_written s t of_program p st d)) (stmt_walked st w)
    unfolding Outermost stmt_walked stmt_written
    stmt_passes p (stmt.Code x ps result b) o w d =
        λ z k.
        let named = fresh class.Code 0 w in
        let a5 = bind_ok s t (code_opened x ps result w >>= block_walked b Plain >>= closed) (shown x named) z k in
        let a4 = bind_ok s t (code_opened x ps result w >>= block_walked b Plain) closed a5.0 a5.1 in
        let a3 = bind_ok s t (code_opened x ps result w) (block_walked b Plain) a4.0 a4.1 in
        let a1 = bind_ok s t (declared class.Code result (inside_broken w.scopes) x w) (params_opened x.name ps) a3.0 a3.1 in
        code_ends x ps result b o w a1.0 a3.0 a4.0 a5.0 z d a1.1 a1.2 a3.2 a4.2 a5.2
    stmt_passes p st o w d =
        λ v k.
        let part = stmt_parts s t K g ds base env of_program refl p st o w d v k in
        let codes = (stmt_wrote s t of_program p st o d).codes in
        record { step = part.step; sees = λ f b both held. (part.sees f b both held.0, subst (CodesHeld K 0) (sym codes) held.1) }

    pub nodes_pass : {n : _} (r : Row_of-Node n) → OutermostNodes r → (w : Walk) (d : Draft) → Always (λ v. Passes w d v (nodes_written s t of_program r d)) (nodes_walked r w)
    unfolding OutermostNodes stmt_walked stmt_written
    nodes_pass end_of-Node o w d = always_ok (λ v. Passes w d v d) w (record { step = still s t K g ds base w d; sees = λ f b both h. h })
    nodes_pass (more_of-Node p st rest) o w d =
        let e = stmt_written s t of_program p st d in
        always_then (λ v. Passes w d v e) (λ v. Passes w d v (nodes_written s t of_program rest e)) (stmt_walked st w) (nodes_walked rest) (stmt_passes p st o.0 w d)
        (λ v one u k. passes_then one (nodes_pass rest o.1 v e u k))
