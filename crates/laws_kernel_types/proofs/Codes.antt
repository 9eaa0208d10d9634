-- Code of a program is typed in the kernel.
use Rattle.std.proofs.Common.{◌≡◌, refl, sym, ap, ◌∙◌, subst, ℕ, ◌≤◌, length, arith, List, [], ◌∷◌, ◌++◌, Option, Some, None, Ok, true}
use Rattle.std.specs.Prelude.{nat_le}
use Rattle.ceu_base.specs.declared.kinds.Ty.{Ty}
use Rattle.ceu_base.specs.declared.kinds.Ty.TheVariants as ty
use Rattle.ceu_base.specs.declared.kinds.Pos.{Pos}
use Rattle.ceu_tree.specs.declared.source.Class.TheVariants as class
use Rattle.ceu_tree.specs.declared.source.Ident.{Ident}
use Rattle.ceu_tree.specs.declared.source.Param.{Param}
use Rattle.ceu_tree.specs.declared.source.Block.{Block, Block'}
use Rattle.ceu_tree.specs.declared.source.Stmt as stmt
use Rattle.ceu_tree.specs.declared.kernel.Kernel.{Kernel}
use Rattle.ceu_tree.specs.declared.kernel.KCode.{KCode}
use Rattle.ceu_tree.specs.declared.kernel.KBlock.{KBlock}
use Rattle.ceu_tree.specs.Leaf.{code_at}
use Rattle.ceu_tree.specs.Proper.{Aim, BodyAim, InTrail}
use Rattle.ceu_scopes.specs.declared.known.Scopes.{Scopes}
use Rattle.ceu_scopes.specs.declared.scope.Border.TheVariants.{Plain}
use Rattle.ceu_scopes.specs.declared.walk.Walk.{Walk}
use Rattle.ceu_scopes.specs.Shown.{rest_of}
use Rattle.ceu_scopes.specs.Walk as walk
use Rattle.ceu_scopes.specs.Walk.{Broken, ◌>>=◌, shown, fresh}
use Rattle.ceu_scopes.specs.Names.{code_opened, block_walked, nodes_walked, stmt_walked}
use Rattle.ceu_types.specs.declared.typing.Types.{Types}
use Rattle.ceu_types.specs.declared.found.Found.{Found}
use Rattle.ceu_types.specs.Around as types
use Rattle.ceu_types.specs.Around.{program_around}
use Rattle.ceu_types.specs.Statements.{params_found, stmt_found, block_found, nodes_found}
use Rattle.ceu_expand.specs.declared.draft.Draft.{Draft}
use Rattle.ceu_expand.specs.declared.draft.Parts.{Parts}
use Rattle.ceu_expand.specs.Draft.{of_program, opened, around_block, left, with_code}
use Rattle.ceu_expand.specs.Lists.{each}
use Rattle.ceu_expand.specs.Parts.{param_declared}
use Rattle.ceu_expand.specs.Expansion.{declared_in, code_begun, code_around, code_ended, stmt_written, nodes_written, block_written, block_passed}
use Rattle.laws_kernel_shape.proofs.Codes.{NoCodeInBlock}
use Rattle.laws_kernel_shape.proofs.Inside.{append_assoc}
use Rattle.laws_kernel_shape.proofs.Wrote.{block_in}
use Rattle.laws_kernel_names.proofs.Stepping.{AllScopes}
use Rattle.laws_kernel_shape.proofs.Fine.{Fine}
use Rattle.laws_kernel_shape.proofs.Beside.{Level}
use Rattle.laws_kernel_shape.proofs.Held.{around_parts}
use Rattle.laws_kernel_types.specs.Times.{TimedBlock}
use Rattle.laws_kernel_types.specs.Typed.{BlockTyped, BodyTyped, CodeTyped, CodesTyped}
use Rattle.laws_kernel_types.proofs.Noting.{level_as, Prefix}
use Rattle.laws_kernel_types.proofs.Meaning.{Means}
use Rattle.laws_kernel_types.proofs.Naming.{then_ok, prefix_same, Calm, Ends, Now, calm_goes, shows_more, shown_by, closed_ok}
use Rattle.laws_kernel_types.proofs.Running.{Step, Run, block_step, block_run}
use Rattle.laws_kernel_types.proofs.Holding.{Holds, holds_as, holds_opened, holds_block}
use Rattle.laws_kernel_types.proofs.Parameters.{AllTyped, params_fine, params_notes}
use Rattle.laws_kernel_types.proofs.Wrapping.{closed_ends, closed_step, closed_run}
use Rattle.laws_kernel_types.proofs.Statements.{nodes_main}
use Rattle.laws_kernel_types.proofs.Heads.{block_node, code_next, codes_ended, params_typed, body_rel, Stage, Head, head_opened, head_kept, rest_scopes, more_decls, head_ends, head_now, head_stands, head_decls}

module _ (s : Scopes) (t : Types) (numbers : List ℕ) (K : Kernel) where
  abbrev pub program_aims : List Aim
  program_aims = BodyAim 0 ty.S32 ∷ []

  -- what is typed so far
  pub record Stood (d : Draft) : Type 0 where
    pub body : Holds K None program_aims d
    pub codes : CodesTyped K 0 d.codes

  -- a statement of the outermost block
  pub record Passes (w : Walk) (f : Found) (d : Draft) (v : Walk) (g : Found) (e : Draft) : Type 0 where
    pub ends : Ends s numbers K v e → Ends s numbers K w d
    pub grows : Prefix g.types t.exps → Prefix f.types t.exps
    pub back : Fine InTrail g → Fine InTrail f
    pub stage : Fine InTrail g → Ends s numbers K v e → Stage s t numbers K w f d → Stage s t numbers K v g e
    pub stood : Fine InTrail g → Ends s numbers K v e → Prefix g.types t.exps → Stage s t numbers K w f d → Stood d → Stood e

  -- the body of code behind its head
  record Bodied (c : Option ℕ) (result : Ty) (w v : Walk) (f : Found) (d : Draft) (g : Found) (e : Draft) (made : KBlock) : Type 0 where
    step : Step s t numbers K c w f d v g e
    same : e.parts ≡ d.parts
    typed : f.labels ≡ [] → Run s t numbers K c InTrail w f d v g e → BodyTyped K c result made

  code_body : (c : Option ℕ) (result : Ty) (blk : Block) → NoCodeInBlock blk → TimedBlock blk → (w v : Walk) (f : Found) (d : Draft) → (code_around d).code ≡ c → block_walked blk Plain w ≡ Ok v →
      Bodied c result w v f d (block_found s (types.code_around result) blk f) (block_passed s t (code_around d) blk d) (block_written s t (code_around d) blk d)
  unfolding NoCodeInBlock TimedBlock block_walked block_found block_passed block_written code_around
  code_body c result (Block' _ list) k z w v f d same h =
      let a = types.code_around result in
      let around = code_around d in
      let n = declared_in list in
      let w' = walk.opened Plain w in
      let m = then_ok (nodes_walked list w') walk.closed v h in
      let start = opened n d in
      let body = nodes_written s t around list in
      let g = nodes_found s a list f in
      let nodes = nodes_main s t numbers K c a around same list k z w' m.0 f start m.1 in
      let whole = block_step s t numbers K c n body w' m.0 f g d nodes.step in
      let aims = BodyAim d.node result ∷ [] in
      record {
        step = closed_step s t numbers K c Plain w m.0 v f g d (around_block n body d) whole m.2;
        same = around_parts n body d;
        typed = λ none run.
            let inside = closed_run s t numbers K c InTrail Plain w m.0 v f g d (around_block n body d) m.2 run in
            let typed : BlockTyped K c aims _ = holds_block K c aims n body d (nodes.holds tt InTrail aims (body_rel s t result a around n f d refl refl refl none run.level) (block_run s t numbers K c InTrail n body w' m.0 f g d nodes.step inside) (holds_opened K c aims n d)) in
            subst (λ i. BlockTyped K c (BodyAim i result ∷ []) (block_written s t around (Block' _ list) d)) (sym (block_node n body d)) typed;
      }

  -- code ends
  code_calm : (x : Ident) (result : Ty) (made : KBlock) (outside : Parts) (d : Draft) → Calm d (code_ended x result made outside d)
  unfolding code_ended left with_code
  code_calm x result made outside d =
      record {
        uses = refl;
        numbers = refl;
        tables = record { inputs = prefix_same d.inputs d.inputs refl; outputs = prefix_same d.outputs d.outputs refl; events = prefix_same d.events d.events refl; codes = (_ ∷ [], refl) };
      }

  abbrev code_of : Ident → Ty → KBlock → Draft → KCode
  code_of x result made d = record { name = x.name; params = d.parts.decls; result = result; body = made }

  record Ended (x : Ident) (result : Ty) (made : KBlock) (outside : Parts) (d e : Draft) : Type 0 where
    exps : e.exps ≡ d.exps
    node : e.node ≡ d.other_node
    codes : e.codes ≡ d.codes ++ code_of x result made d ∷ []
    parts : e.parts ≡ outside

  code_is : (x : Ident) (result : Ty) (made : KBlock) (outside : Parts) (d : Draft) → Ended x result made outside d (code_ended x result made outside d)
  unfolding code_ended left with_code
  code_is x result made outside d = record { exps = refl; node = refl; codes = refl; parts = refl }

  around_code : (inside d : Draft) → inside.codes ≡ d.codes → (code_around inside).code ≡ Some (length d.codes)
  unfolding code_around
  around_code inside d e = ap (λ (cs : List KCode). Some (length cs)) e

  left_now : (x : Ident) (result : Ty) (made : KBlock) (outside : Parts) (w w2 w3 w4 : Walk) (d after : Draft) → rest_of w2.scopes ≡ w.scopes → rest_of w3.scopes ≡ rest_of w2.scopes → walk.closed w3 ≡ Ok w4 →
      Now s numbers K None w d → Now s numbers K (Some (length d.codes)) w3 after → length d.numbers ≤ length after.numbers → Now s numbers K None w4 (code_ended x result made outside after)
  left_now x result made outside w w2 w3 w4 d after a b closes now now3 le =
      let e = code_ended x result made outside after in
      let calm = code_calm x result made outside after in
      let u : Walk = record w3 { scopes = rest_of w3.scopes } in
      let is : w4 ≡ u = closed_ok s numbers K None w3 w4 closes in
      let shows = shows_more s numbers K None (length d.numbers) (length after.numbers) le w.scopes now.shows in
      let out : Now s numbers K None u e = record {
        uses = now3.uses ∙ sym calm.uses;
        decls = now3.decls ∙ ap length (sym calm.numbers);
        shows =
            subst (λ ns. AllScopes (Means s numbers K None (length ns)) u.scopes) (sym calm.numbers)
            (subst (λ sc. AllScopes (Means s numbers K None (length after.numbers)) sc) (sym (b ∙ a)) shows);
      } in
      subst (λ w. Now s numbers K None w e) (sym is) out

  pub code_passes : (p : Pos) (x : Ident) (ps : List Param) (result : Ty) (blk : Block) → NoCodeInBlock blk → TimedBlock blk → (w v : Walk) (f : Found) (d : Draft) → stmt_walked (stmt.Code x ps result blk) w ≡ Ok v →
      Passes w f d v (stmt_found s program_around (stmt.Code x ps result blk) f) (stmt_written s t of_program p (stmt.Code x ps result blk) d)
  unfolding stmt_walked stmt_found stmt_written code_begun
  code_passes p x ps result blk k z w v f d h =
      let c = Some (length d.codes) in
      let inside : Draft = each param_declared ps (Head s t numbers K ps d) in
      let around = code_around inside in
      let after : Draft = block_passed s t around blk inside in
      let made : KBlock = block_written s t around blk inside in
      let e : Draft = code_ended x result made d.parts after in
      let f' = params_found x ps f in
      let g = block_found s (types.code_around result) blk f' in
      let m3 = then_ok (code_opened x ps result w >>= block_walked blk Plain >>= walk.closed) (shown x (fresh class.Code 0 w)) v h in
      let m2 = then_ok (code_opened x ps result w >>= block_walked blk Plain) walk.closed m3.0 m3.1 in
      let m1 = then_ok (code_opened x ps result w) (block_walked blk Plain) m2.0 m2.1 in
      let w2 = m1.0 in
      let w3 = m2.0 in
      let w4 = m3.0 in
      let o = head_opened s t numbers K x ps result w w2 d m1.1 in
      let kept = head_kept s t numbers K ps d in
      let asked = params_notes s t x ps f inside in
      let inner = code_body c result blk k z w2 w3 f' inside (around_code inside d kept.codes) m1.2 in
      let calm = code_calm x result made d.parts after in
      let ended = code_is x result made d.parts after in
      let show = shown_by s numbers K None x (fresh class.Code 0 w) w4 v e m3.2 in
      let inner_ends : Ends s numbers K v e → Ends s numbers K w3 after = λ k.
      (calm_goes s numbers K c w3 after e calm).ends (closed_ends s t numbers K c w3 w4 e m2.2 (show.ends k)) in
      let head : Ends s numbers K v e → Ends s numbers K w2 inside = λ k. inner.step.ends (inner_ends k) in
      let fine_params : Fine InTrail g → Fine InTrail f' = inner.step.notes.under.back InTrail in
      let after_codes : after.codes ≡ d.codes = ap (λ (e : Draft). e.codes) (block_in s t around blk k inside).stays ∙ kept.codes in
      let node : e.node ≡ d.node = ended.node ∙ ap (λ (e : Draft). e.other_node) (block_in s t around blk k inside).stays ∙ kept.other_node in
      let kc = code_of x result made after in
      let kc_params : after.parts.decls ≡ o.params.ks = ap (λ (p : Parts). p.decls) inner.same ∙ head_decls s t numbers K x ps result w w2 d o in
      let there : Ends s numbers K v e → code_at (length d.codes) K.codes ≡ Some kc = λ k.
      let q = (show.ends k).codes in
      let all : K.codes ≡ d.codes ++ (kc ∷ q.0) = q.1 ∙ ap (λ cs. cs ++ q.0) (ended.codes ∙ ap (λ cs. cs ++ kc ∷ []) after_codes) ∙ append_assoc d.codes (kc ∷ []) q.0 in
      ap (code_at (length d.codes)) all ∙ code_next d.codes kc q.0 in
      let level : Level s f d → Level s f' inside = λ l. asked.under.level (level_as s f d inside kept.uses l) in
      let count : length f.types ≡ d.exps → length f'.types ≡ inside.exps = λ n. asked.counts (n ∙ sym kept.exps) in
      let typed_params : Fine InTrail g → AllTyped ps = λ fine. (params_fine InTrail x ps f (fine_params fine)).1 in
      let begin : Fine InTrail g → Ends s numbers K v e → Stage s t numbers K w f d → Now s numbers K c w2 inside = λ fine k st. head_now s t numbers K x ps result w w2 d o (typed_params fine) (head k) st.now in
      record {
        ends = λ k. head_ends s t numbers K x ps result w w2 d o (head k);
        grows = λ k. asked.grows (inner.step.notes.grows k);
        back = λ fine. asked.under.back InTrail (fine_params fine);
        stage = λ fine k st.
            let now3 = inner.step.now InTrail fine (inner_ends k) (begin fine k st) in
            let before = st.now.decls in
            let behind = now3.decls in
            let up = inner.step.up in
            let head_more = more_decls s t numbers K x ps result w w2 d o in
            let out = left_now x result made d.parts w w2 w3 w4 d after (rest_scopes s t numbers K x ps result w w2 d o) inner.step.rest m2.2 st.now now3 (omega (arith, before, behind, up, head_more)) in
            let numbers_same : length e.numbers ≡ length after.numbers = ap length calm.numbers in
            let first_node = st.node in
            record {
              level = level_as s g after e calm.uses (inner.step.notes.under.level (level st.level));
              labels = inner.step.notes.under.labels ∙ asked.under.labels ∙ st.labels;
              node = omega (arith, node, first_node);
              count = inner.step.notes.counts (count st.count) ∙ sym ended.exps;
              now = show.now (head_stands s t numbers K x ps result w w2 d o (head k) st.now kc (there k) refl kc_params (length e.numbers) (omega (arith, before, behind, up, head_more, numbers_same))) out;
            };
        stood = λ fine k more st stood.
            let run : Run s t numbers K c InTrail w2 f' inside w3 g after = record { level = level st.level; count = count st.count; now = begin fine k st; fine = fine; more = more; ends = inner_ends k } in
            let body = inner.typed (asked.under.labels ∙ st.labels) run in
            let pf = params_fine InTrail x ps f (fine_params fine) in
            let count_is : length after.parts.decls ≡ length ps = ap length kc_params ∙ o.params.count in
            let small : nat_le (length after.parts.decls) 255 ≡ true = ap (λ n. nat_le n 255) count_is ∙ pf.0 in
            let one : CodeTyped K (length d.codes) kc = (params_typed o.params.ks after.parts.decls kc_params (o.params.typed pf.1), small, body) in
            record {
              body = holds_as K None program_aims d e ended.parts stood.body;
              codes = codes_ended K d.codes after.codes e.codes kc after_codes ended.codes stood.codes one;
            };
      }
