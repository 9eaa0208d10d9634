-- Blocks name what is visible in them: the inside sees what the block declares.
use Rattle.std.proofs.Common.{◌≡◌, refl, sym, ap, ◌∙◌, subst, ℕ, ◌≤◌, ◌<◌, length, arith, List, [], ◌∷◌, ◌++◌, Option, Some, None, Result, Ok}
use Rattle.std.specs.Prelude.{⊤}
use Rattle.ceu_base.specs.declared.kinds.Pos.{Pos}
use Rattle.ceu_tree.specs.declared.source.Label.{Label}
use Rattle.ceu_tree.specs.declared.source.Label.TheVariants as label
use Rattle.ceu_tree.specs.declared.source.Target.{Target}
use Rattle.ceu_tree.specs.declared.source.Await.{Await}
use Rattle.ceu_tree.specs.declared.source.Await.TheVariants as await
use Rattle.ceu_tree.specs.declared.source.Exp.{Exp}
use Rattle.ceu_tree.specs.declared.kernel.Loc.{Loc}
use Rattle.ceu_tree.specs.declared.kernel.KDecl.{KDecl}
use Rattle.ceu_tree.specs.declared.kernel.KLoop.TheVariants as turns
use Rattle.ceu_tree.specs.declared.kernel.KArm.{KArm'}
use Rattle.ceu_tree.specs.declared.kernel.KStmt as kernel
use Rattle.ceu_tree.specs.declared.kernel.KStmt.{KStmt, Row_of-KArm, end_of-KArm, more_of-KArm, items-the_row-KArm, items_hidden-the_row-KArm-0, items_hidden-the_row-KBlock-1, Row_of-KBlock, end_of-KBlock, more_of-KBlock, items-the_row-KBlock}
use Rattle.ceu_scopes.specs.declared.known.Known.{Known}
use Rattle.ceu_scopes.specs.declared.known.Scopes.{Scopes}
use Rattle.ceu_scopes.specs.declared.scope.Border.{Border}
use Rattle.ceu_scopes.specs.declared.walk.Walk.{Walk}
use Rattle.ceu_scopes.specs.Walk.{Broken, ◌>>=◌, opened, closed}
use Rattle.ceu_scopes.specs.Names.{exp_walked, if_exp_walked, target_walked, await_walked, labelled, unlabelled}
use Rattle.ceu_types.specs.declared.typing.Types.{Types}
use Rattle.ceu_expand.specs.declared.draft.Draft.{Draft}
use Rattle.ceu_expand.specs.Draft as draft
use Rattle.ceu_expand.specs.Draft.{in_loop, in_do, begun, hidden, placed, outside, written, block_of, around_block, standing, event_declared, input_declared, output_declared, own}
use Rattle.ceu_expand.specs.Expressions.{exp_passed, exp_written}
use Rattle.ceu_expand.specs.Parts.{simple, nothing_in, await_written, target_passed, target_awaited, broken_if, awaited_and_asked, awaited_until, awaited}
use Rattle.laws_kernel_shape.proofs.Steps.{always_ok, always_then}
use Rattle.ceu_tree.specs.Numbering.{decl_slots}
use Rattle.ceu_tree.specs.Proper.{Seen, find, pool_slots, pools_seen}
use Rattle.ceu_scopes.specs.Shown.{rest_of}
use Rattle.laws_kernel_shape.proofs.Frames.{frame_exp, frame_target}
use Rattle.laws_kernel_shape.proofs.Inside.{append_none, append_assoc, Wrote}
use Rattle.laws_kernel_shape.proofs.Runs.{Runs}
use Rattle.laws_kernel_names.specs.Sees.{seen_with, MaybeTarget, ExpSeen, StmtSeen, BlockSeen}
use Rattle.laws_kernel_names.proofs.Views.{find_older, Means, means_more, Shown, shown_map}
use Rattle.laws_kernel_names.proofs.Seeing.{Fits, Begun, Begins, View, Both, Step, step_then, Goes, calm_step, means_up}
use Rattle.laws_kernel_names.proofs.Looking.{Made, Gives, still, exp_made}
use Rattle.laws_kernel_names.proofs.Holding.{Holds, if_seen, holds_block, holds_opened, parts_of, parts_begun, around_parts, left_by, starts, Part, PartIf, part_if, PartsIf, Parts, of_made, of_made_if, simple_parts}
use Rattle.laws_kernel_names.proofs.Single.{target_parts, code_parts}

module _ (s : Scopes) (t : Types) where
  -- ---- blocks

  pub opened_shown : (P : Known → Type 0) (b : Border) (w : Walk) → Shown P w.scopes → Shown P (opened b w).scopes
  unfolding opened
  opened_shown P b w h = (tt, λ inside. h)

  pub opened_same : (b : Border) (w : Walk) → ((opened b w).uses ≡ w.uses) × ((opened b w).decls ≡ w.decls) × (rest_of (opened b w).scopes ≡ w.scopes)
  unfolding opened
  opened_same b w = (refl, refl, refl)

  pub fits_same : (w v : Walk) → v.uses ≡ w.uses → v.decls ≡ w.decls → Fits s v → Fits s w
  fits_same w v u d f = record { rest = f.rest; is = f.is ∙ ap (λ x. x ++ f.rest) u; later = f.later; decls = f.decls ∙ ap (λ x. x ++ f.later) d }

  pub closed_is : (u z : Walk) → closed u ≡ Ok z → record u { scopes = rest_of u.scopes } ≡ z
  unfolding closed
  closed_is u z h = cc

  -- the inside of a block sees what the block declares
  both_inside : (view : List Seen) (base n : ℕ) (D : List KDecl) (w : Walk) (d : Draft) → Runs d.slot (decl_slots D) (draft.opened n d).slot → Both s view base w d → Both s (seen_with D view) (draft.opened n d).slot w (draft.opened n d)
  both_inside view base n D w d runs h =
      let start = starts n d in
      let view' = seen_with D view in
      let b' = (draft.opened n d).slot in
      let room = h.room in
      let slot = start.slot in
      let le : base ≤ b' = omega (arith, room, slot) in
      let older : (m : ℕ) → m < base → find m view' ≡ find m view = λ m lt. find_older (pool_slots D ++ pools_seen view) D view d.slot b' m runs (omega (arith, lt, room)) in
      let numbers : d.numbers ++ [] ≡ (draft.opened n d).numbers = sym (append_none d.numbers) ∙ sym start.numbers in
      record {
        uses = h.uses ∙ sym start.uses;
        decls = h.decls ∙ ap length (sym start.numbers);
        room = omega arith;
        means =
            shown_map (λ k. Means s view base d.numbers k) (λ k. Means s view' b' (draft.opened n d).numbers k)
            (λ k m. subst (λ ns. Means s view' b' ns k) numbers (means_more s view view' base b' d.numbers [] k older le m)) w.scopes h.means;
      }

  -- a block is written, and the block around goes on
  pub close_block : (view : List Seen) (ds : List KDecl) (base n : ℕ) (f : Draft → Draft) (border : Border) (w w1 u z : Walk) (d d2 : Draft) →
      let start = draft.opened n d in
      let D = (f start).parts.decls in
      Runs d.slot (decl_slots D) start.slot →
      Part s t (seen_with D view) D start.slot w start w1 d2 → Step s view D base w start w1 d2 → Part s t (seen_with D view) D start.slot (opened border w1) d2 u (f start) → closed u ≡ Ok z →
      Made s t view ds base w d z (around_block n f d) (BlockSeen view (block_of n f d))
  close_block view ds base n f border w w1 u z d d2 runs head outer part close =
      let start = draft.opened n d in
      let D = (f start).parts.decls in
      let view' = seen_with D view in
      let b' = start.slot in
      let is_z = closed_is u z close in
      let same = opened_same border w1 in
      let left = left_by n f d in
      let st = starts n d in
      let e = around_block n f d in
      let fits_u : Fits s z → Fits s u = λ g. fits_same u z (ap (λ (x : Walk). x.uses) (sym is_z)) (ap (λ (x : Walk). x.decls) (sym is_z)) g in
      let fits_w1 : Fits s z → Fits s w1 = λ g. fits_same w1 (opened border w1) same.0 same.1 (part.step.fits (fits_u g)) in
      let begun : Begun D (f start) = record { more = []; is = append_none D } in
      let begun2 : Begun D d2 = part.step.begun begun in
      let scopes : z.scopes ≡ w1.scopes = ap (λ (x : Walk). x.scopes) (sym is_z) ∙ part.step.rest ∙ same.2 in
      let inside : Both s view base w d → Both s view' b' w start = λ h. both_inside view base n D w d runs h in
      let both1 : Fits s z → Both s view base w d → Both s view' b' w1 d2 = λ g h. head.step.both (fits_w1 g) begun2 (inside h) in
      let both2 : Fits s z → Both s view base w d → Both s view' b' (opened border w1) d2 =
      λ g h. let k = both1 g h in record { uses = ap length same.0 ∙ k.uses; decls = ap length same.1 ∙ k.decls; room = k.room; means = opened_shown (λ j. Means s view' b' d2.numbers j) border w1 k.means } in
      let slots = part.step.slots in
      let slots1 = outer.slots in
      let slot = st.slot in
      let last = left.slot in
      let start_step = calm_step s view D base w start start refl refl (omega arith) refl in
      let more : Begins d.numbers e =
      (outer.more.0 ++ part.step.more.0, left.numbers ∙ part.step.more.1 ∙ ap (λ x. x ++ part.step.more.0) (outer.more.1 ∙ ap (λ x. x ++ outer.more.0) st.numbers) ∙ append_assoc d.numbers outer.more.0 part.step.more.0) in
      record {
        step = record {
          fits = λ g. outer.fits (fits_w1 g);
          begun = λ b. record { more = b.more; is = b.is ∙ ap (λ p. p.decls ++ b.more) (around_parts n f d) };
          both = λ g b h.
              let k = part.step.both (fits_u g) begun (both2 g h) in
              let r = h.room in
              let at_start : Both s view base w start = record { uses = h.uses ∙ sym st.uses; decls = h.decls ∙ ap length (sym st.numbers); room = omega (arith, r, slot); means = subst (λ ns. Shown (λ j. Means s view base ns j) w.scopes) (sym st.numbers) h.means } in
              let o = outer.both (fits_w1 g) begun2 at_start in
              record {
                uses = ap (λ (x : Walk). length x.uses) (sym is_z) ∙ k.uses ∙ sym left.uses;
                decls = ap (λ (x : Walk). length x.decls) (sym is_z) ∙ k.decls ∙ ap length (sym left.numbers);
                room = omega (arith, r, slot, slots1, slots, last);
                means =
                    subst (λ sc. Shown (λ j. Means s view base e.numbers j) sc) (sym scopes)
                    (shown_map (λ j. Means s view base d2.numbers j) (λ j. Means s view base e.numbers j)
                    (means_up s view ds base d2 e (part.step.more.0, left.numbers ∙ part.step.more.1)) w1.scopes o.means);
              };
          slots = omega (arith, slot, slots1, slots, last);
          more = more;
          rest = ap rest_of scopes ∙ outer.rest;
        };
        so = λ g b h. holds_block view n f d (part.sees (fits_u g) begun (both2 g h) (head.sees (fits_w1 g) begun2 (inside h) (holds_opened view' n d)));
      }

  -- ---- blocks that open none in the text

  module _ (view : List Seen) (ds : List KDecl) (base : ℕ) where
    made_join : (U V : Type 0) (w v u : Walk) (d e c : Draft) → Made s t view ds base w d v e U → Made s t view ds base v e u c V → Made s t view ds base w d u c (U × V)
    made_join U V w v u d e c m n =
        record {
          step = step_then s view ds base m.step n.step;
          so = λ fits begun both. (m.so (n.step.fits fits) (n.step.begun begun) both, n.so fits begun (m.step.both (n.step.fits fits) (n.step.begun begun) both));
        }

    pub bare_block : (M : Type 0) (f : Draft → Draft) (w u : Walk) (d : Draft) → (f (draft.opened 0 d)).parts.decls ≡ [] → PartIf s t view [] base M w (draft.opened 0 d) u (f (draft.opened 0 d)) → Made s t view ds base w d u (around_block 0 f d) (M → BlockSeen view (block_of 0 f d))
    bare_block M f w u d none part =
        let start = draft.opened 0 d in
        let D = (f start).parts.decls in
        let st = starts 0 d in
        let left = left_by 0 f d in
        let e = around_block 0 f d in
        let begun : Begun [] (f start) = record { more = []; is = sym (sym (append_none D) ∙ none) } in
        let slot = st.slot in
        let last = left.slot in
        let slots = part.step.slots in
        let at_start : Both s view base w d → Both s view base w start =
        λ h. let r = h.room in record { uses = h.uses ∙ sym st.uses; decls = h.decls ∙ ap length (sym st.numbers); room = omega (arith, r, slot); means = subst (λ ns. Shown (λ j. Means s view base ns j) w.scopes) (sym st.numbers) h.means } in
        record {
          step = record {
            fits = part.step.fits;
            begun = λ b. record { more = b.more; is = b.is ∙ ap (λ p. p.decls ++ b.more) (around_parts 0 f d) };
            both = λ g b h.
                let k = part.step.both g begun (at_start h) in
                let r = k.room in
                record { uses = k.uses ∙ sym left.uses; decls = k.decls ∙ ap length (sym left.numbers); room = omega (arith, r, last); means = subst (λ ns. Shown (λ j. Means s view base ns j) u.scopes) (sym left.numbers) k.means };
            slots = omega (arith, slot, slots, last);
            more = (part.step.more.0, left.numbers ∙ part.step.more.1 ∙ ap (λ x. x ++ part.step.more.0) st.numbers);
            rest = part.step.rest;
          };
          so = λ g b h m. holds_block view 0 f d (subst (λ xs. Holds (seen_with xs view) (f start)) (sym none) (part.sees m g begun (at_start h) (holds_opened view 0 d)));
        }

  -- ---- awaits with conditions

  simple_none : (p : Pos) (st : KStmt) (d : Draft) → (simple p st (draft.opened 0 d)).parts.decls ≡ []
  unfolding placed begun draft.opened
  simple_none p st d = refl

  pub opened_none : (n : ℕ) (d : Draft) → (draft.opened n d).parts.decls ≡ []
  unfolding draft.opened
  opened_none n d = refl

  placed_decls : (n : ℕ) (p : Pos) (st : KStmt) (d : Draft) → (placed n p st d).parts.decls ≡ d.parts.decls
  unfolding placed
  placed_decls n p st d = refl

  pub target_decls : (p : Pos) (into : Option Loc) (x : Target) (d : Draft) → (target_awaited s t p into x d).parts.decls ≡ d.parts.decls
  unfolding target_awaited
  target_decls p into x d = placed_decls d.node p (await_written s t p into x (begun d)) (target_passed x (begun d)) ∙ ap (λ p. p.decls) (parts_of (begun d) (target_passed x (begun d)) (frame_target x (begun d)) ∙ parts_begun d)

  broken_decls : (loop : ℕ) (p : Pos) (c : Exp) (d : Draft) → (broken_if s t loop p c d).parts.decls ≡ d.parts.decls
  unfolding broken_if
  broken_decls loop p c d =
      let after = exp_passed c (begun d) in
      let behind = around_block 0 (simple p (kernel.Break loop)) after in
      placed_decls d.node p _ (around_block 0 nothing_in behind) ∙
      ap (λ p. p.decls) (around_parts 0 nothing_in behind ∙ around_parts 0 (simple p (kernel.Break loop)) after ∙ parts_of (begun d) after (frame_exp c (begun d)) ∙ parts_begun d)

  broken_parts : (view : List Seen) (ds : List KDecl) (base loop : ℕ) (p : Pos) (c : Exp) (w : Walk) (d : Draft) → Parts s t view ds base w d (exp_walked c w) (broken_if s t loop p c d)
  unfolding broken_if StmtSeen
  broken_parts view ds base loop p c w d =
      let d' = begun d in
      let after = exp_passed c d' in
      let break = simple p (kernel.Break loop) in
      let behind = around_block 0 break after in
      let last = around_block 0 nothing_in behind in
      let cond = exp_written s t c d' in
      let one = block_of 0 break after in
      let two = block_of 0 nothing_in behind in
      let V = ExpSeen view cond × (⊤ → BlockSeen view one) in
      of_made s t view ds base p (kernel.If (KArm' cond one ∷ []) two) (V × (⊤ → BlockSeen view two)) w d last (exp_walked c w)
      (around_parts 0 nothing_in behind ∙ around_parts 0 break after ∙ parts_of d' after (frame_exp c d') ∙ parts_begun d)
      (λ u. if_seen view (KArm' cond one ∷ []) two ((u.0.0, u.0.1 tt), tt) (u.1 tt))
      (λ v k.
      let broken = simple_parts s t view [] base p (kernel.Break loop) v (draft.opened 0 after) tt v refl in
      let nothing : PartIf s t view [] base ⊤ v (draft.opened 0 behind) v (draft.opened 0 behind) = record { step = still s t view [] base v (draft.opened 0 behind); sees = λ m a b c h. h } in
      made_join view ds base V (⊤ → BlockSeen view two) w v v d' behind last
      (made_join view ds base (ExpSeen view cond) (⊤ → BlockSeen view one) w v v d' after behind (exp_made s t view ds base c w d' v k)
      (bare_block view ds base ⊤ break v v after (simple_none p (kernel.Break loop) after) (part_if s t view [] base ⊤ broken)))
      (bare_block view ds base ⊤ nothing_in v v behind (opened_none 0 behind) nothing))

  until_parts : (view : List Seen) (ds : List KDecl) (base : ℕ) (p : Pos) (into : Option Loc) (x : Target) (c : Exp) (w : Walk) (d : Draft) → PartsIf s t view ds base (MaybeTarget view into) w d (target_walked x w >>= if_exp_walked (Some c)) (awaited_until s t p into x c d)
  unfolding awaited_until StmtSeen
  until_parts view ds base p into x c w d =
      let d' = begun d in
      let body = awaited_and_asked s t d.node p into x c in
      let start = draft.opened 0 d' in
      let middle = target_awaited s t p into x start in
      let M = MaybeTarget view into in
      let made = block_of 0 body d' in
      of_made_if s t view ds base M p (kernel.Loop turns.Free made) (M → BlockSeen view made) w d (around_block 0 body d') (target_walked x w >>= if_exp_walked (Some c)) (around_parts 0 body d' ∙ parts_begun d) (λ m u. (tt, u m))
      (λ v k.
      let inside : PartIf s t view [] base M w start v (body start) =
      always_then (λ u. PartIf s t view [] base M w start u middle) (λ v. PartIf s t view [] base M w start v (body start)) (target_walked x w) (if_exp_walked (Some c)) (target_parts s t view [] base p into x w start)
      (λ u one v k.
      let two = broken_parts view [] base d.node p c u middle v k in
      record {
        step = step_then s view [] base one.step two.step;
        sees = λ m fits begun both h. two.sees fits begun (one.step.both (two.step.fits fits) (two.step.begun begun) both) (one.sees m (two.step.fits fits) (two.step.begun begun) both h);
      }) v k in
      bare_block view ds base M body w v d' (broken_decls d.node p c middle ∙ target_decls p into x start ∙ opened_none 0 d') inside)

  pub await_parts : (view : List Seen) (ds : List KDecl) (base : ℕ) (p : Pos) (into : Option Loc) (x : Await) (w : Walk) (d : Draft) → PartsIf s t view ds base (MaybeTarget view into) w d (await_walked x w) (awaited s t p into x d)
  unfolding awaited StmtSeen ◌>>=◌
  await_parts view ds base p into await.Forever w d = λ v k. part_if s t view ds base (MaybeTarget view into) (simple_parts s t view ds base p kernel.Forever w d tt v k)
  await_parts view ds base p into (await.Code c) w d = code_parts s t view ds base p into c w d
  await_parts view ds base p into (await.On x None) w d =
      always_then (λ u. PartIf s t view ds base (MaybeTarget view into) w d u (target_awaited s t p into x d)) (λ u. PartIf s t view ds base (MaybeTarget view into) w d u (target_awaited s t p into x d)) (target_walked x w) (λ u. Ok u) (target_parts s t view ds base p into x w d)
      (λ u h. always_ok (λ u. PartIf s t view ds base (MaybeTarget view into) w d u (target_awaited s t p into x d)) u h)
  await_parts view ds base p into (await.On x (Some c)) w d = until_parts view ds base p into x c w d

  -- ---- blocks of the text

  wrote_runs : {n i j : ℕ} {d e : Draft} → Wrote n i j d e → d.parts.decls ≡ [] → Runs d.parts.slot (decl_slots e.parts.decls) e.parts.slot
  wrote_runs {d = d} {e = e} h none = subst (λ xs. Runs d.parts.slot (decl_slots xs) e.parts.slot) (sym (h.decls_is ∙ ap (λ xs. xs ++ h.decls) none)) h.decl_runs

  -- the slots of a block's declarations, where so many are written
  pub block_runs : (n i j : ℕ) (f : Draft → Draft) (d : Draft) → Wrote n i j (draft.opened n d) (f (draft.opened n d)) → Runs d.slot (decl_slots (f (draft.opened n d)).parts.decls) (draft.opened n d).slot
  unfolding draft.opened
  block_runs n i j f d h = subst (λ k. Runs d.slot (decl_slots (f (draft.opened n d)).parts.decls) k) h.slot_is (wrote_runs h refl)

  pub new_view : (view : List Seen) (n : ℕ) (f : Draft → Draft) (d : Draft) → let start = draft.opened n d in let D = (f start).parts.decls in Runs d.slot (decl_slots D) start.slot → View (seen_with D view) D start.slot
  new_view view n f d runs = record { first = d.slot; runs = runs; pools = pool_slots (f (draft.opened n d)).parts.decls ++ pools_seen view; older = view; is = refl }

  pub still_part : (view : List Seen) (ds : List KDecl) (base : ℕ) (w : Walk) (d : Draft) → Part s t view ds base w d w d
  still_part view ds base w d = record { step = still s t view ds base w d; sees = λ a b c h. h }

  -- a block
  pub block_gives : (view : List Seen) (ds : List KDecl) (base n : ℕ) (f : Draft → Draft) (border : Border) (w : Walk) (d : Draft) (x : Walk → Result Walk Broken) →
      let start = draft.opened n d in
      let D = (f start).parts.decls in
      Runs d.slot (decl_slots D) start.slot → ((v : Walk) → Parts s t (seen_with D view) D start.slot v start (x v) (f start)) → Gives s t view ds base w d (x (opened border w) >>= closed) (around_block n f d) (BlockSeen view (block_of n f d))
  block_gives view ds base n f border w d x runs h =
      let start = draft.opened n d in
      let D = (f start).parts.decls in
      let view' = seen_with D view in
      always_then (λ u. Part s t view' D start.slot (opened border w) start u (f start)) (λ z. Made s t view ds base w d z (around_block n f d) (BlockSeen view (block_of n f d))) (x (opened border w)) closed (h (opened border w))
      (λ u part z k. close_block view ds base n f border w w u z d start runs (still_part view' D start.slot w start) (still s t view D base w start) part k)

  -- ---- labels

  label_step : (view : List Seen) (ds : List KDecl) (base : ℕ) (ls : List (List ℕ)) (w : Walk) (d : Draft) → Step s view ds base w d (record w { labels = ls }) d
  label_step view ds base ls w d =
      record {
        fits = λ f. record { rest = f.rest; is = f.is; later = f.later; decls = f.decls };
        begun = λ b. b;
        both = λ f b h. record { uses = h.uses; decls = h.decls; room = h.room; means = h.means };
        slots = omega arith;
        more = ([], append_none d.numbers);
        rest = refl;
      }

  labelled_step : (view : List Seen) (ds : List KDecl) (base : ℕ) (l : Label) (w : Walk) (d : Draft) → Step s view ds base w d (labelled l w) d
  labelled_step view ds base label.Plain w d = still s t view ds base w d
  labelled_step view ds base label.Under w d = still s t view ds base w d
  labelled_step view ds base (label.Named l) w d = label_step view ds base (l.name ∷ w.labels) w d

  unlabelled_goes : (view : List Seen) (ds : List KDecl) (base : ℕ) (l : Label) (w : Walk) (d : Draft) → Goes s view ds base w d (unlabelled l w) d
  unlabelled_goes view ds base label.Plain w d = always_ok (λ v. Step s view ds base w d v d) w (still s t view ds base w d)
  unlabelled_goes view ds base label.Under w d = always_ok (λ v. Step s view ds base w d v d) w (still s t view ds base w d)
  unlabelled_goes view ds base (label.Named l) w d = always_ok (λ v. Step s view ds base w d v d) (record w { labels = rest_of w.labels }) (label_step view ds base (rest_of w.labels) w d)

  draft_labelled : (view : List Seen) (ds : List KDecl) (base : ℕ) (l : Label) (n : ℕ) (w : Walk) (d : Draft) → Step s view ds base w d w (draft.labelled l n d)
  unfolding draft.labelled
  draft_labelled view ds base label.Plain n w d = calm_step s view ds base w d _ refl refl (omega arith) refl
  draft_labelled view ds base label.Under n w d = calm_step s view ds base w d _ refl refl (omega arith) refl
  draft_labelled view ds base (label.Named x) n w d = calm_step s view ds base w d _ refl refl (omega arith) refl

  draft_unlabelled : (view : List Seen) (ds : List KDecl) (base : ℕ) (l : Label) (w : Walk) (d : Draft) → Step s view ds base w d w (draft.unlabelled l d)
  unfolding draft.unlabelled
  draft_unlabelled view ds base label.Plain w d = calm_step s view ds base w d _ refl refl (omega arith) refl
  draft_unlabelled view ds base label.Under w d = calm_step s view ds base w d _ refl refl (omega arith) refl
  draft_unlabelled view ds base (label.Named x) w d = calm_step s view ds base w d _ refl refl (omega arith) refl

  pub do_gives : (view : List Seen) (ds : List KDecl) (base : ℕ) (l : Label) (n : ℕ) (U : Type 0) (w : Walk) (d c : Draft) (x : Walk → Result Walk Broken) → ((v : Walk) → Gives s t view ds base v (draft.labelled l n d) (x v) c U) →
      Gives s t view ds base w d (x (labelled l w) >>= unlabelled l) (draft.unlabelled l c) U
  do_gives view ds base l n U w d c x h =
      let inside = draft.labelled l n d in
      let enter = step_then s view ds base (draft_labelled view ds base l n w d) (labelled_step view ds base l w inside) in
      always_then (λ v. Made s t view ds base (labelled l w) inside v c U) (λ v. Made s t view ds base w d v (draft.unlabelled l c) U) (x (labelled l w)) (unlabelled l) (h (labelled l w))
      (λ v m u e.
      let leave = step_then s view ds base (unlabelled_goes view ds base l v c u e) (draft_unlabelled view ds base l u c) in
      record {
        step = step_then s view ds base enter (step_then s view ds base m.step leave);
        so = λ g b h. m.so (leave.fits g) (leave.begun b) (enter.both (m.step.fits (leave.fits g)) (m.step.begun (leave.begun b)) h);
      })
