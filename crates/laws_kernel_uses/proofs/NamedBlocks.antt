-- Blocks name what is there: the inside sees what the block declares.
use Rattle.std.proofs.Common.{◌≡◌, refl, sym, ap, ◌∙◌, subst, ℕ, ◌+◌, length, arith, List, [], ◌∷◌, ◌++◌, Option, Some, None, Result, Ok, false}
use Rattle.std.specs.Prelude.{⊤}
use Rattle.ceu_base.specs.declared.kinds.Pos.{Pos}
use Rattle.ceu_tree.specs.declared.source.Label.{Label}
use Rattle.ceu_tree.specs.declared.source.Label.TheVariants as label
use Rattle.ceu_tree.specs.declared.source.Target.{Target}
use Rattle.ceu_tree.specs.declared.source.Await.{Await}
use Rattle.ceu_tree.specs.declared.source.Await.TheVariants as await
use Rattle.ceu_tree.specs.declared.source.Exp.{Exp}
use Rattle.ceu_tree.specs.declared.kernel.Kernel.{Kernel}
use Rattle.ceu_tree.specs.declared.kernel.Loc.{Loc}
use Rattle.ceu_tree.specs.declared.kernel.KDecl.{KDecl}
use Rattle.ceu_tree.specs.declared.kernel.KLoop.TheVariants as turns
use Rattle.ceu_tree.specs.declared.kernel.KArm.{KArm'}
use Rattle.ceu_tree.specs.declared.kernel.KStmt as kernel
use Rattle.ceu_tree.specs.declared.kernel.KStmt.{KStmt, Row_of-KArm, end_of-KArm, more_of-KArm, items-the_row-KArm, items_hidden-the_row-KArm-0, items_hidden-the_row-KBlock-1, Row_of-KBlock, end_of-KBlock, more_of-KBlock, items-the_row-KBlock}
use Rattle.ceu_tree.specs.Numbering.{decl_slots}
use Rattle.ceu_scopes.specs.declared.known.Scopes.{Scopes}
use Rattle.ceu_scopes.specs.declared.scope.Border.{Border}
use Rattle.ceu_scopes.specs.declared.walk.Walk.{Walk}
use Rattle.ceu_scopes.specs.Shown.{rest_of}
use Rattle.ceu_scopes.specs.Walk.{Broken, ◌>>=◌, opened, closed, is_body}
use Rattle.ceu_scopes.specs.Names.{exp_walked, if_exp_walked, target_walked, await_walked, labelled, unlabelled}
use Rattle.ceu_types.specs.declared.typing.Types.{Types}
use Rattle.ceu_expand.specs.declared.draft.Draft.{Draft}
use Rattle.ceu_expand.specs.Draft as draft
use Rattle.ceu_expand.specs.Draft.{begun, placed, outside, block_of, around_block}
use Rattle.ceu_expand.specs.Expressions.{exp_passed, exp_written}
use Rattle.ceu_expand.specs.Parts.{simple, nothing_in, target_awaited, broken_if, awaited_and_asked, awaited_until, awaited}
use Rattle.laws_kernel_shape.proofs.Steps.{always_ok, always_then}
use Rattle.laws_kernel_shape.proofs.Frames.{frame_exp}
use Rattle.laws_kernel_shape.proofs.Inside.{append_none, append_assoc}
use Rattle.laws_kernel_shape.proofs.Runs.{Runs}
use Rattle.laws_kernel_names.proofs.Seeing.{Fits}
use Rattle.laws_kernel_names.proofs.Holding.{parts_of, parts_begun, around_parts, left_by, starts}
use Rattle.laws_kernel_names.proofs.Blocks.{opened_same, fits_same, closed_is, opened_none, target_decls}
use Rattle.laws_kernel_uses.specs.Named.{MaybeTarget}
use Rattle.laws_kernel_uses.proofs.Sites.{scope_of, site_with, site_in, ExpHeld, StmtHeld, BlockHeld}
use Rattle.laws_kernel_uses.proofs.Reach.{Quiet}
use Rattle.laws_kernel_uses.proofs.Walking.{Ground, lists_as, SameLists, Begun, Begins, View, Both, both_up, Step, step_then, Goes, calm_step}
use Rattle.laws_kernel_uses.proofs.Exps.{Made, Gives, still, exp_made}
use Rattle.laws_kernel_uses.proofs.Holding.{Holds, if_held, holds_block, holds_opened, Part, PartIf, part_if, PartsIf, Parts, of_made, of_made_if, simple_parts}
use Rattle.laws_kernel_uses.proofs.NamedSingle.{target_parts, code_parts}
use Rattle.laws_kernel_uses.proofs.Opening.{Moved, head_of, inner, both_head, both_open}

-- events and ports stay with what a block changes
pub lists_opened : (n : ℕ) (d : Draft) → SameLists d (draft.opened n d)
unfolding draft.opened
lists_opened n d = record { events = refl; inputs = refl; outputs = refl }

pub lists_around : (n : ℕ) (f : Draft → Draft) (d : Draft) → SameLists (f (draft.opened n d)) (around_block n f d)
unfolding outside draft.closed
lists_around n f d = record { events = refl; inputs = refl; outputs = refl }

pub opened_blocks : (b : Border) (w : Walk) → (opened b w).blocks ≡ w.blocks + 1
unfolding opened
opened_blocks b w = refl

module _ (s : Scopes) (t : Types) (K : Kernel) where
  pub closed_blocks : (u z : Walk) → closed u ≡ Ok z → z.blocks ≡ u.blocks
  closed_blocks u z h = ap (λ (x : Walk). x.blocks) (sym (closed_is s t u z h))

  -- ---- blocks

  -- a block is written, and the block around goes on
  pub close_block : (g : Ground) (m : Moved) (ds : List KDecl) (base n : ℕ) (f : Draft → Draft) (border : Border) (w w1 u z : Walk) (d d2 : Draft) →
      let start = draft.opened n d in
      let D = (f start).parts.decls in
      let site = site_in m.place m.since g.site in
      is_body border ≡ false → Runs d.slot (decl_slots D) start.slot → Part s t K (head_of D g) D start.slot w start w1 d2 → Step s K g D base w start w1 d2 →
      (Both s K (head_of D g) start.slot w1 d2 → Quiet m.place (D ++ m.since) (opened border w1).scopes) → (Holds K (site_with D g.site) d2 → Holds K (site_with D site) d2) →
      Part s t K (inner m D g) D start.slot (opened border w1) d2 u (f start) → closed u ≡ Ok z → Made s t K g ds base w d z (around_block n f d) (BlockHeld K site (block_of n f d))
  close_block g m ds base n f border w w1 u z d d2 plain runs head outer quiet into part close =
      let start = draft.opened n d in
      let D = (f start).parts.decls in
      let b' = start.slot in
      let site = site_in m.place m.since g.site in
      let is_z = closed_is s t u z close in
      let same = opened_same s t border w1 in
      let left = left_by n f d in
      let st = starts n d in
      let e = around_block n f d in
      let fits_u : Fits s z → Fits s u = λ k. fits_same s t u z (ap (λ (x : Walk). x.uses) (sym is_z)) (ap (λ (x : Walk). x.decls) (sym is_z)) k in
      let fits_w1 : Fits s z → Fits s w1 = λ k. fits_same s t w1 (opened border w1) same.0 same.1 (part.step.fits (fits_u k)) in
      let begun : Begun K ds e → Begun K D (f start) = λ b. record { more = []; is = append_none D; lists = lists_as K (f start) e (lists_around n f d) b.lists } in
      let begun2 : Begun K ds e → Begun K D d2 = λ b. part.step.begun (begun b) in
      let scopes : z.scopes ≡ w1.scopes = ap (λ (x : Walk). x.scopes) (sym is_z) ∙ part.step.rest ∙ same.2 in
      let inside : Both s K g base w d → Both s K (head_of D g) b' w start = λ h. both_head s K g base n D w d runs h in
      let both1 : Fits s z → Begun K ds e → Both s K g base w d → Both s K (head_of D g) b' w1 d2 = λ k b h. head.step.both (fits_w1 k) (begun2 b) (inside h) in
      let both2 : Fits s z → Begun K ds e → Both s K g base w d → Both s K (inner m D g) b' (opened border w1) d2 =
      λ k b h. let c = both1 k b h in both_open s K (head_of D g) m.place (D ++ m.since) b' border w1 d2 plain (quiet c) c in
      let slots = part.step.slots in
      let slots1 = outer.slots in
      let slot = st.slot in
      let last = left.slot in
      let blocks1 = outer.blocks in
      let blocks2 = opened_blocks border w1 in
      let blocks3 = part.step.blocks in
      let blocks4 = closed_blocks u z close in
      let more : Begins d.numbers e =
      (outer.more.0 ++ part.step.more.0, left.numbers ∙ part.step.more.1 ∙ ap (λ x. x ++ part.step.more.0) (outer.more.1 ∙ ap (λ x. x ++ outer.more.0) st.numbers) ∙ append_assoc d.numbers outer.more.0 part.step.more.0) in
      record {
        step = record {
          fits = λ k. outer.fits (fits_w1 k);
          begun = λ b. record { more = b.more; is = b.is ∙ ap (λ p. p.decls ++ b.more) (around_parts n f d); lists = lists_as K d start (lists_opened n d) (outer.begun (begun2 b)).lists };
          both = λ k b h.
              let c = part.step.both (fits_u k) (begun b) (both2 k b h) in
              let at_start : Both s K g base w start = both_up s K g D base w w d start h refl (omega arith) (h.uses ∙ sym st.uses) (h.decls ∙ ap length (sym st.numbers)) (omega (arith, slot)) ([], st.numbers ∙ append_none d.numbers) in
              let o = outer.both (fits_w1 k) (begun2 b) at_start in
              both_up s K g D base w1 z d2 e o scopes (omega (arith, blocks2, blocks3, blocks4)) (ap (λ (x : Walk). length x.uses) (sym is_z) ∙ c.uses ∙ sym left.uses)
              (ap (λ (x : Walk). length x.decls) (sym is_z) ∙ c.decls ∙ ap length (sym left.numbers)) (omega (arith, slots, last)) (part.step.more.0, left.numbers ∙ part.step.more.1);
          slots = omega (arith, slot, slots1, slots, last);
          more = more;
          rest = ap rest_of scopes ∙ outer.rest;
          blocks = omega (arith, blocks1, blocks2, blocks3, blocks4);
        };
        so = λ k b h. holds_block K site n f d (part.sees (fits_u k) (begun b) (both2 k b h) (into (head.sees (fits_w1 k) (begun2 b) (inside h) (holds_opened K (site_with D g.site) n d))));
      }

  -- ---- blocks that open none in the text

  module _ (g : Ground) (ds : List KDecl) (base : ℕ) where
    made_join : (U V : Type 0) (w v u : Walk) (d e c : Draft) → Made s t K g ds base w d v e U → Made s t K g ds base v e u c V → Made s t K g ds base w d u c (U × V)
    made_join U V w v u d e c m n =
        record {
          step = step_then s K g ds base m.step n.step;
          so = λ fits begun both. (m.so (n.step.fits fits) (n.step.begun begun) both, n.so fits begun (m.step.both (n.step.fits fits) (n.step.begun begun) both));
        }

    pub bare_block : (M : Type 0) (f : Draft → Draft) (w u : Walk) (d : Draft) → (f (draft.opened 0 d)).parts.decls ≡ [] → PartIf s t K g [] base M w (draft.opened 0 d) u (f (draft.opened 0 d)) → Made s t K g ds base w d u (around_block 0 f d) (M → BlockHeld K g.site (block_of 0 f d))
    bare_block M f w u d none part =
        let start = draft.opened 0 d in
        let D = (f start).parts.decls in
        let st = starts 0 d in
        let left = left_by 0 f d in
        let e = around_block 0 f d in
        let begun : Begun K ds e → Begun K [] (f start) = λ b. record { more = []; is = sym (sym (append_none D) ∙ none); lists = lists_as K (f start) e (lists_around 0 f d) b.lists } in
        let slot = st.slot in
        let last = left.slot in
        let slots = part.step.slots in
        let at_start : Both s K g base w d → Both s K g base w start =
        λ h. both_up s K g [] base w w d start h refl (omega arith) (h.uses ∙ sym st.uses) (h.decls ∙ ap length (sym st.numbers)) (omega (arith, slot)) ([], st.numbers ∙ append_none d.numbers) in
        record {
          step = record {
            fits = part.step.fits;
            begun = λ b. record { more = b.more; is = b.is ∙ ap (λ p. p.decls ++ b.more) (around_parts 0 f d); lists = lists_as K d start (lists_opened 0 d) (part.step.begun (begun b)).lists };
            both = λ k b h.
                let c = part.step.both k (begun b) (at_start h) in
                both_up s K g [] base u u (f start) e c refl (omega arith) (c.uses ∙ sym left.uses) (c.decls ∙ ap length (sym left.numbers)) (omega (arith, last)) ([], left.numbers ∙ append_none (f start).numbers);
            slots = omega (arith, slot, slots, last);
            more = (part.step.more.0, left.numbers ∙ part.step.more.1 ∙ ap (λ x. x ++ part.step.more.0) st.numbers);
            rest = part.step.rest;
            blocks = part.step.blocks;
          };
          so = λ k b h m. holds_block K g.site 0 f d (subst (λ xs. Holds K (site_with xs g.site) (f start)) (sym none) (part.sees m k (begun b) (at_start h) (holds_opened K g.site 0 d)));
        }

  -- ---- awaits with conditions

  simple_none : (p : Pos) (st : KStmt) (d : Draft) → (simple p st (draft.opened 0 d)).parts.decls ≡ []
  unfolding placed begun draft.opened
  simple_none p st d = refl

  placed_decls : (n : ℕ) (p : Pos) (st : KStmt) (d : Draft) → (placed n p st d).parts.decls ≡ d.parts.decls
  unfolding placed
  placed_decls n p st d = refl

  broken_decls : (loop : ℕ) (p : Pos) (c : Exp) (d : Draft) → (broken_if s t loop p c d).parts.decls ≡ d.parts.decls
  unfolding broken_if
  broken_decls loop p c d =
      let after = exp_passed c (begun d) in
      let behind = around_block 0 (simple p (kernel.Break loop)) after in
      placed_decls d.node p _ (around_block 0 nothing_in behind) ∙
      ap (λ p. p.decls) (around_parts 0 nothing_in behind ∙ around_parts 0 (simple p (kernel.Break loop)) after ∙ parts_of (begun d) after (frame_exp c (begun d)) ∙ parts_begun d)

  broken_parts : (g : Ground) (ds : List KDecl) (base loop : ℕ) (p : Pos) (c : Exp) (w : Walk) (d : Draft) → Parts s t K g ds base w d (exp_walked c w) (broken_if s t loop p c d)
  unfolding broken_if StmtHeld
  broken_parts g ds base loop p c w d =
      let d' = begun d in
      let after = exp_passed c d' in
      let break = simple p (kernel.Break loop) in
      let behind = around_block 0 break after in
      let last = around_block 0 nothing_in behind in
      let cond = exp_written s t c d' in
      let one = block_of 0 break after in
      let two = block_of 0 nothing_in behind in
      let V = ExpHeld K g.site cond × (⊤ → BlockHeld K g.site one) in
      of_made s t K g ds base p (kernel.If (KArm' cond one ∷ []) two) (V × (⊤ → BlockHeld K g.site two)) w d last (exp_walked c w)
      (around_parts 0 nothing_in behind ∙ around_parts 0 break after ∙ parts_of d' after (frame_exp c d') ∙ parts_begun d)
      (λ u. if_held K g.site (KArm' cond one ∷ []) two ((u.0.0, u.0.1 tt), tt) (u.1 tt))
      (λ v k.
      let broken = simple_parts s t K g [] base p (kernel.Break loop) v (draft.opened 0 after) tt v refl in
      let nothing : PartIf s t K g [] base ⊤ v (draft.opened 0 behind) v (draft.opened 0 behind) = record { step = still s t K g [] base v (draft.opened 0 behind); sees = λ m a b c h. h } in
      made_join g ds base V (⊤ → BlockHeld K g.site two) w v v d' behind last
      (made_join g ds base (ExpHeld K g.site cond) (⊤ → BlockHeld K g.site one) w v v d' after behind (exp_made s t K g ds base c w d' v k)
      (bare_block g ds base ⊤ break v v after (simple_none p (kernel.Break loop) after) (part_if s t K g [] base ⊤ broken)))
      (bare_block g ds base ⊤ nothing_in v v behind (opened_none s t 0 behind) nothing))

  until_parts : (g : Ground) (ds : List KDecl) (base : ℕ) (p : Pos) (into : Option Loc) (x : Target) (c : Exp) (w : Walk) (d : Draft) → PartsIf s t K g ds base (MaybeTarget K (scope_of g.site) into) w d (target_walked x w >>= if_exp_walked (Some c)) (awaited_until s t p into x c d)
  unfolding awaited_until StmtHeld
  until_parts g ds base p into x c w d =
      let d' = begun d in
      let body = awaited_and_asked s t d.node p into x c in
      let start = draft.opened 0 d' in
      let middle = target_awaited s t p into x start in
      let M = MaybeTarget K (scope_of g.site) into in
      let made = block_of 0 body d' in
      of_made_if s t K g ds base M p (kernel.Loop turns.Free made) (M → BlockHeld K g.site made) w d (around_block 0 body d') (target_walked x w >>= if_exp_walked (Some c)) (around_parts 0 body d' ∙ parts_begun d) (λ m u. (tt, u m))
      (λ v k.
      let inside : PartIf s t K g [] base M w start v (body start) =
      always_then (λ u. PartIf s t K g [] base M w start u middle) (λ v. PartIf s t K g [] base M w start v (body start)) (target_walked x w) (if_exp_walked (Some c)) (target_parts s t K g [] base p into x w start)
      (λ u one v k.
      let two = broken_parts g [] base d.node p c u middle v k in
      record {
        step = step_then s K g [] base one.step two.step;
        sees = λ m fits begun both h. two.sees fits begun (one.step.both (two.step.fits fits) (two.step.begun begun) both) (one.sees m (two.step.fits fits) (two.step.begun begun) both h);
      }) v k in
      bare_block g ds base M body w v d' (broken_decls d.node p c middle ∙ target_decls s t p into x start ∙ opened_none s t 0 d') inside)

  pub await_parts : (g : Ground) (ds : List KDecl) (base : ℕ) (p : Pos) (into : Option Loc) (x : Await) (w : Walk) (d : Draft) → PartsIf s t K g ds base (MaybeTarget K (scope_of g.site) into) w d (await_walked x w) (awaited s t p into x d)
  unfolding awaited StmtHeld ◌>>=◌
  await_parts g ds base p into await.Forever w d = λ v k. part_if s t K g ds base (MaybeTarget K (scope_of g.site) into) (simple_parts s t K g ds base p kernel.Forever w d tt v k)
  await_parts g ds base p into (await.Code c) w d = code_parts s t K g ds base p into c w d
  await_parts g ds base p into (await.On x None) w d =
      always_then (λ u. PartIf s t K g ds base (MaybeTarget K (scope_of g.site) into) w d u (target_awaited s t p into x d)) (λ u. PartIf s t K g ds base (MaybeTarget K (scope_of g.site) into) w d u (target_awaited s t p into x d)) (target_walked x w) (λ u. Ok u) (target_parts s t K g ds base p into x w d)
      (λ u h. always_ok (λ u. PartIf s t K g ds base (MaybeTarget K (scope_of g.site) into) w d u (target_awaited s t p into x d)) u h)
  await_parts g ds base p into (await.On x (Some c)) w d = until_parts g ds base p into x c w d

  -- ---- blocks of the text

  pub still_part : (g : Ground) (ds : List KDecl) (base : ℕ) (w : Walk) (d : Draft) → Part s t K g ds base w d w d
  still_part g ds base w d = record { step = still s t K g ds base w d; sees = λ a b c h. h }

  -- what is seen in a block that begins here
  pub new_view : (g : Ground) (m : Moved) (n : ℕ) (f : Draft → Draft) (d : Draft) → let start = draft.opened n d in let D = (f start).parts.decls in Runs d.slot (decl_slots D) start.slot → View (inner m D g) D start.slot
  new_view g m n f d runs = record { first = d.slot; runs = runs; older = g.site.seen; is = refl; later = m.since; since = refl; entered = refl }

  -- a block
  pub block_gives : (g : Ground) (m : Moved) (ds : List KDecl) (base n : ℕ) (f : Draft → Draft) (border : Border) (w : Walk) (d : Draft) (x : Walk → Result Walk Broken) →
      let start = draft.opened n d in
      let D = (f start).parts.decls in
      is_body border ≡ false → Runs d.slot (decl_slots D) start.slot → (Both s K (head_of D g) start.slot w start → Quiet m.place (D ++ m.since) (opened border w).scopes) →
      ((v : Walk) → Parts s t K (inner m D g) D start.slot v start (x v) (f start)) → Gives s t K g ds base w d (x (opened border w) >>= closed) (around_block n f d) (BlockHeld K (site_in m.place m.since g.site) (block_of n f d))
  block_gives g m ds base n f border w d x plain runs quiet h =
      let start = draft.opened n d in
      let D = (f start).parts.decls in
      let site = site_in m.place m.since g.site in
      always_then (λ u. Part s t K (inner m D g) D start.slot (opened border w) start u (f start)) (λ z. Made s t K g ds base w d z (around_block n f d) (BlockHeld K site (block_of n f d))) (x (opened border w)) closed (h (opened border w))
      (λ u part z k. close_block g m ds base n f border w w u z d start plain runs (still_part (head_of D g) D start.slot w start) (still s t K g D base w start) quiet (λ held. holds_opened K (site_with D site) n d) part k)

  -- ---- labels

  label_step : (g : Ground) (ds : List KDecl) (base : ℕ) (ls : List (List ℕ)) (w : Walk) (d : Draft) → Step s K g ds base w d (record w { labels = ls }) d
  label_step g ds base ls w d =
      record {
        fits = λ f. record { rest = f.rest; is = f.is; later = f.later; decls = f.decls };
        begun = λ b. b;
        both = λ f b h. both_up s K g ds base w (record w { labels = ls }) d d h refl (omega arith) h.uses h.decls (omega arith) ([], append_none d.numbers);
        slots = omega arith;
        more = ([], append_none d.numbers);
        rest = refl;
        blocks = omega arith;
      }

  labelled_step : (g : Ground) (ds : List KDecl) (base : ℕ) (l : Label) (w : Walk) (d : Draft) → Step s K g ds base w d (labelled l w) d
  labelled_step g ds base label.Plain w d = still s t K g ds base w d
  labelled_step g ds base label.Under w d = still s t K g ds base w d
  labelled_step g ds base (label.Named l) w d = label_step g ds base (l.name ∷ w.labels) w d

  unlabelled_goes : (g : Ground) (ds : List KDecl) (base : ℕ) (l : Label) (w : Walk) (d : Draft) → Goes s K g ds base w d (unlabelled l w) d
  unlabelled_goes g ds base label.Plain w d = always_ok (λ v. Step s K g ds base w d v d) w (still s t K g ds base w d)
  unlabelled_goes g ds base label.Under w d = always_ok (λ v. Step s K g ds base w d v d) w (still s t K g ds base w d)
  unlabelled_goes g ds base (label.Named l) w d = always_ok (λ v. Step s K g ds base w d v d) (record w { labels = rest_of w.labels }) (label_step g ds base (rest_of w.labels) w d)

  draft_labelled : (g : Ground) (ds : List KDecl) (base : ℕ) (l : Label) (n : ℕ) (w : Walk) (d : Draft) → Step s K g ds base w d w (draft.labelled l n d)
  unfolding draft.labelled
  draft_labelled g ds base label.Plain n w d = calm_step s K g ds base w d _ refl refl (omega arith) refl (record { events = refl; inputs = refl; outputs = refl })
  draft_labelled g ds base label.Under n w d = calm_step s K g ds base w d _ refl refl (omega arith) refl (record { events = refl; inputs = refl; outputs = refl })
  draft_labelled g ds base (label.Named x) n w d = calm_step s K g ds base w d _ refl refl (omega arith) refl (record { events = refl; inputs = refl; outputs = refl })

  draft_unlabelled : (g : Ground) (ds : List KDecl) (base : ℕ) (l : Label) (w : Walk) (d : Draft) → Step s K g ds base w d w (draft.unlabelled l d)
  unfolding draft.unlabelled
  draft_unlabelled g ds base label.Plain w d = calm_step s K g ds base w d _ refl refl (omega arith) refl (record { events = refl; inputs = refl; outputs = refl })
  draft_unlabelled g ds base label.Under w d = calm_step s K g ds base w d _ refl refl (omega arith) refl (record { events = refl; inputs = refl; outputs = refl })
  draft_unlabelled g ds base (label.Named x) w d = calm_step s K g ds base w d _ refl refl (omega arith) refl (record { events = refl; inputs = refl; outputs = refl })

  pub do_gives : (g : Ground) (ds : List KDecl) (base : ℕ) (l : Label) (n : ℕ) (U : Type 0) (w : Walk) (d c : Draft) (x : Walk → Result Walk Broken) → ((v : Walk) → Gives s t K g ds base v (draft.labelled l n d) (x v) c U) →
      Gives s t K g ds base w d (x (labelled l w) >>= unlabelled l) (draft.unlabelled l c) U
  do_gives g ds base l n U w d c x h =
      let inside = draft.labelled l n d in
      let enter = step_then s K g ds base (draft_labelled g ds base l n w d) (labelled_step g ds base l w inside) in
      always_then (λ v. Made s t K g ds base (labelled l w) inside v c U) (λ v. Made s t K g ds base w d v (draft.unlabelled l c) U) (x (labelled l w)) (unlabelled l) (h (labelled l w))
      (λ v m u e.
      let leave = step_then s K g ds base (unlabelled_goes g ds base l v c u e) (draft_unlabelled g ds base l u c) in
      record {
        step = step_then s K g ds base enter (step_then s K g ds base m.step leave);
        so = λ g b h. m.so (leave.fits g) (leave.begun b) (enter.both (m.step.fits (leave.fits g)) (m.step.begun (leave.begun b)) h);
      })
