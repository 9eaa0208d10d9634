-- The body of a range stands in the block of its variable.
use Rattle.std.proofs.Common.{◌≡◌, refl, sym, ap, ◌∙◌, subst, ℕ, ◌+◌, ◌≤◌, ◌<◌, length, arith, List, [], ◌∷◌, ◌++◌, Some, None, Result, Ok, Err, Bool, true, false}
use Rattle.std.specs.Prelude.{if◌then◌else◌, ◌==◌}
use Rattle.std.proofs.lemmas.Bool.Decides.{Decides-eqb}
use Rattle.ceu_base.specs.declared.kinds.Ty.TheVariants as ty
use Rattle.ceu_tree.specs.declared.source.Class.TheVariants as class
use Rattle.ceu_tree.specs.declared.source.Ident.{Ident}
use Rattle.ceu_tree.specs.declared.source.Exp.{Exp}
use Rattle.ceu_tree.specs.declared.kernel.Kernel.{Kernel}
use Rattle.ceu_tree.specs.declared.kernel.KDecl.{KDecl}
use Rattle.ceu_tree.specs.Proper.{Seen, IsLoopVariable, find}
use Rattle.ceu_scopes.specs.declared.known.Scopes.{Scopes}
use Rattle.ceu_scopes.specs.declared.scope.Border.TheVariants.{Plain}
use Rattle.ceu_scopes.specs.declared.walk.Walk.{Walk}
use Rattle.ceu_scopes.specs.Shown.{rest_of}
use Rattle.ceu_scopes.specs.Walk.{Broken, ◌>>=◌, opened, closed, shown, fresh}
use Rattle.ceu_scopes.specs.Rules.{declared}
use Rattle.ceu_scopes.specs.Names.{exp_walked, range_opened}
use Rattle.ceu_types.specs.declared.typing.Types.{Types}
use Rattle.ceu_expand.specs.declared.draft.Draft.{Draft}
use Rattle.ceu_expand.specs.Draft.{hidden, standing}
use Rattle.ceu_expand.specs.Expressions.{exp_passed, exp_written}
use Rattle.ceu_expand.specs.Expansion.{range_hidden, range_passed}
use Rattle.laws_kernel_shape.proofs.Steps.{always_then}
use Rattle.laws_kernel_shape.proofs.Frames.{frame_exp}
use Rattle.laws_kernel_shape.proofs.Inside.{append_none, append_assoc}
use Rattle.laws_kernel_names.proofs.Views.{shown_map}
use Rattle.laws_kernel_names.proofs.Seeing.{Fits}
use Rattle.laws_kernel_names.proofs.Holding.{parts_of, slot_of}
use Rattle.laws_kernel_names.proofs.Blocks.{opened_same, fits_same, closed_is}
use Rattle.laws_kernel_names.proofs.Ranges.{standing_facts, hidden_parts}
use Rattle.laws_kernel_uses.proofs.Sites.{site_seen, ExpHeld}
use Rattle.laws_kernel_uses.proofs.Means.{Means, means_more}
use Rattle.laws_kernel_uses.proofs.Walking.{Ground, lists_as, SameLists, Begun, Begins, Both, both_up, step_then, Declares, declares, Entry, Shows, shown_step}
use Rattle.laws_kernel_uses.proofs.Exps.{Made, Gives, made_then, exp_made}
use Rattle.laws_kernel_uses.proofs.Holding.{hidden_step}
use Rattle.laws_kernel_uses.proofs.Showing.{fresh_below, fresh_stands}
use Rattle.laws_kernel_uses.proofs.Opening.{both_open, plain_quiet}
use Rattle.laws_kernel_uses.proofs.NamedBlocks.{opened_blocks, closed_blocks}

-- the ground of the loop's block, and that of the body in it
abbrev pub opened_ground : Ground → Ground
opened_ground g = record { site = g.site; entered = true }

abbrev pub loop_seen : ℕ → List Seen → List Seen
loop_seen i view = record { slot = i; kind = IsLoopVariable } ∷ view

abbrev pub loop_ground : ℕ → Ground → Ground
loop_ground i g = record { site = site_seen (loop_seen i g.site.seen) g.site; entered = false }

loop_find : (i m : ℕ) (view : List Seen) → m < i → find m (loop_seen i view) ≡ find m view
loop_find i m view lt = by_test (i == m) (Decides-eqb i m).0
  where
    by_test : (b : Bool) → (b ≡ true → i ≡ m) → (if b then Some IsLoopVariable else find m view) ≡ find m view
    by_test false e = refl
    by_test true e = let same = e refl in absurd (omega (arith, same, lt))

pub standing_lists : (n : ℕ) (d : Draft) → SameLists d (standing n d)
unfolding standing
standing_lists n d = record { events = refl; inputs = refl; outputs = refl }

module _ (s : Scopes) (t : Types) (K : Kernel) where
  both_loop : (g : Ground) (ds : List KDecl) (base i : ℕ) (w : Walk) (d : Draft) → base ≤ i → i < d.slot → Both s K (opened_ground g) base w d → Both s K (loop_ground i g) (i + 1) w d
  both_loop g ds base i w d low high h =
      let site = (loop_ground i g).site in
      record {
        uses = h.uses;
        decls = h.decls;
        room = omega (arith, high);
        limits = h.limits;
        grows = h.grows;
        within = λ a. let k = h.within a in omega (arith, k, low);
        here = λ e. absurd (cc);
        top = h.top;
        means =
            shown_map (λ k. Means s K g.site h.limits base w.blocks d.numbers k) (λ k. Means s K site h.limits (i + 1) w.blocks d.numbers k)
            (λ k m. subst (λ ns. Means s K site h.limits (i + 1) w.blocks ns k) (sym (append_none d.numbers))
            (means_more s K g.site site base (i + 1) d.numbers [] k (λ n lt. loop_find i n g.site.seen (omega (arith, lt, low))) refl (omega (arith, low)) h.limits h.limits w.blocks w.blocks (omega arith) h.within (λ b lt. refl) m)) w.scopes h.means;
        stands = h.stands;
        outer = h.outer;
        quiet = h.quiet;
      }

  loop_entry : (g : Ground) (ds : List KDecl) (base i : ℕ) (w decl : Walk) (d e : Draft) → Declares s K (opened_ground g) ds base class.LoopVar ty.S32 None i w d decl e → Fits s decl → Both s K (opened_ground g) base w d → (limits : ℕ → ℕ) →
      Entry s K (loop_ground i g) ds (i + 1) limits decl e (fresh class.LoopVar 0 w)
  unfolding fresh
  loop_entry g ds base i w decl d e dec fits o limits =
      let same = dec.blocks in
      record {
        means = record { below = fresh_below s K (opened_ground g) ds base class.LoopVar 0 w decl d (omega (arith, same)) o; of = tt };
        stands = fresh_stands s K (opened_ground g) ds base class.LoopVar ty.S32 None 0 i w decl d e e dec ([], append_none e.numbers) fits o tt;
        still = λ is. absurd (cc);
      }

  -- the body of a range, where its variable is shown
  range_gives : (g : Ground) (ds : List KDecl) (base i : ℕ) (x : Ident) (w : Walk) (d c : Draft) (U : Type 0) (body : Walk → Result Walk Broken) → base ≤ i → i < d.slot → c.parts ≡ d.parts →
      ((v : Walk) → Gives s t K (loop_ground i g) ds (i + 1) v (standing i d) (body v) c U) → Gives s t K g ds base w d (range_opened x w >>= body >>= closed) c U
  range_gives g ds base i x w d c U body low high same h =
      let g1 = opened_ground g in
      let gl = loop_ground i g in
      let w' = opened Plain w in
      let last = standing i d in
      let facts = standing_facts s t i d in
      let k = fresh class.LoopVar 0 w' in
      let Q : Walk → Type 0 = λ v. (decl : Walk) × Declares s K g1 ds base class.LoopVar ty.S32 None i w' d decl last × Shows s K gl ds (i + 1) k decl last v in
      always_then (λ u. (v : Walk) × Q v × Made s t K gl ds (i + 1) v last u c U) (λ z. Made s t K g ds base w d z c U) (range_opened x w >>= body) closed
      (always_then Q (λ u. (v : Walk) × Q v × Made s t K gl ds (i + 1) v last u c U) (range_opened x w) body
      (always_then (λ a. Declares s K g1 ds base class.LoopVar ty.S32 None i w' d a last) Q (declared class.LoopVar ty.S32 None x w') (shown x k)
      (declares s K g1 ds base class.LoopVar ty.S32 None x i w' d last facts.0 facts.1 facts.2 (λ b. record { more = b.more; is = b.is ∙ ap (λ p. p.decls ++ b.more) facts.3; lists = lists_as K d last (standing_lists i d) b.lists }))
      (λ a m v e. (a, m, shown_step s K gl ds (i + 1) x k a last v e)))
      (λ v q u e. (v, q, h v u e)))
      (λ u all z close.
      let v = all.0 in
      let q = all.1 in
      let m = all.2 in
      let decl = q.0 in
      let dec = q.1 in
      let sh = q.2 in
      let is_z = closed_is s t u z close in
      let same_in = opened_same s t Plain w in
      let fits_u : Fits s z → Fits s u = λ f. fits_same s t u z (ap (λ (x : Walk). x.uses) (sym is_z)) (ap (λ (x : Walk). x.decls) (sym is_z)) f in
      let fits_decl : Fits s z → Fits s decl = λ f. sh.fits (m.step.fits (fits_u f)) in
      let begun_last : Begun K ds c → Begun K ds last = λ b. m.step.begun b in
      let enter : Both s K g base w d → Both s K g1 base w' d = λ o. both_open s K g g.site.place g.site.since base Plain w d refl (plain_quiet s K g base w d o) o in
      let inside : Fits s z → Begun K ds c → Both s K g base w d → Both s K gl (i + 1) v last =
      λ f b o.
      let o' = enter o in
      let up = facts.2 in
      let lifted = both_loop g ds base i decl last low (omega (arith, high, up)) (dec.step.both (fits_decl f) (begun_last b) o') in
      sh.both lifted (loop_entry g ds base i w' decl d last dec (fits_decl f) o' lifted.limits) in
      let scopes : z.scopes ≡ w.scopes = ap (λ (x : Walk). x.scopes) (sym is_z) ∙ m.step.rest ∙ sh.rest ∙ ap rest_of dec.scopes ∙ same_in.2 in
      let up = facts.2 in
      let slots = m.step.slots in
      let b1 = opened_blocks Plain w in
      let b2 = dec.blocks in
      let b3 = sh.blocks in
      let b4 = m.step.blocks in
      let b5 = closed_blocks s t K u z close in
      let more : Begins d.numbers c = (i ∷ [] ++ m.step.more.0, m.step.more.1 ∙ ap (λ ns. ns ++ m.step.more.0) facts.1 ∙ append_assoc d.numbers (i ∷ []) m.step.more.0) in
      record {
        step = record {
          fits = λ f. fits_same s t w w' same_in.0 same_in.1 (dec.step.fits (fits_decl f));
          begun = λ b. record { more = b.more; is = b.is ∙ ap (λ p. p.decls ++ b.more) same; lists = lists_as K d last (standing_lists i d) (begun_last b).lists };
          both = λ f b o.
              let e = m.step.both (fits_u f) b (inside f b o) in
              both_up s K g ds base w z d c o scopes (omega (arith, b1, b2, b3, b4, b5)) (ap (λ (x : Walk). length x.uses) (sym is_z) ∙ e.uses) (ap (λ (x : Walk). length x.decls) (sym is_z) ∙ e.decls) (omega (arith, up, slots)) more;
          slots = omega (arith, up, slots);
          more = more;
          rest = ap rest_of scopes;
          blocks = omega (arith, b1, b2, b3, b4, b5);
        };
        so = λ f b o. m.so (fits_u f) b (inside f b o);
      })

  assoc : {A B C D : Type 0} (m : Result A Broken) (f : A → Result B Broken) (g : B → Result C Broken) (h : C → Result D Broken) → (m >>= f >>= g >>= h) ≡ (m >>= (λ v. f v >>= g >>= h))
  unfolding ◌>>=◌
  assoc (Ok a) f g h = refl
  assoc (Err r) f g h = refl

  hidden_slot : (d : Draft) → (range_hidden d).slot ≡ d.slot + 3
  unfolding hidden
  hidden_slot d = omega arith

  pub range_made : (g : Ground) (ds : List KDecl) (base : ℕ) (x : Ident) (low high : Exp) (w : Walk) (d c : Draft) (U : Type 0) (body : Walk → Result Walk Broken) → c.parts ≡ d.parts →
      ((v : Walk) → Gives s t K (loop_ground d.slot g) ds (d.slot + 1) v (range_passed low high d) (body v) c U) →
      Gives s t K g ds base w d (exp_walked low w >>= exp_walked high >>= range_opened x >>= body >>= closed) c (ExpHeld K g.site (exp_written s t low (range_hidden d)) × ExpHeld K g.site (exp_written s t high (exp_passed low (range_hidden d))) × U)
  unfolding range_passed
  range_made g ds base x low high w d c U body same h =
      let i = d.slot in
      let dh = range_hidden d in
      let d1 = exp_passed low dh in
      let d2 = exp_passed high d1 in
      let A = ExpHeld K g.site (exp_written s t low dh) in
      let B = ExpHeld K g.site (exp_written s t high d1) in
      let one = hidden 1 d in
      let hide = step_then s K g ds base (hidden_step s t K g ds base 1 w d) (step_then s K g ds base (hidden_step s t K g ds base 1 w one) (hidden_step s t K g ds base 1 w (hidden 1 one))) in
      let slot2 : d2.slot ≡ dh.slot = slot_of dh d2 (frame_exp high d1 ∙ frame_exp low dh) in
      let above : i < d2.slot = let e = hidden_slot d in omega (arith, e, slot2) in
      let parts2 : c.parts ≡ d2.parts = same ∙ sym (hidden_parts s t d) ∙ sym (parts_of dh d2 (frame_exp high d1 ∙ frame_exp low dh)) in
      let ends = made_then s t K g ds base A B w dh d1 d2 (exp_walked low w) (exp_walked high) (exp_made s t K g ds base low w dh) (λ v. exp_made s t K g ds base high v d1) in
      subst (λ r. Gives s t K g ds base w d r c (A × B × U)) (sym (assoc (exp_walked low w >>= exp_walked high) (range_opened x) body closed))
      (always_then (λ v. Made s t K g ds base w dh v d2 (A × B)) (λ z. Made s t K g ds base w d z c (A × B × U)) (exp_walked low w >>= exp_walked high) (λ v. range_opened x v >>= body >>= closed) ends
      (λ v m z k.
      let r0 = range_gives g ds 0 i x v d2 c U body (omega arith) above parts2 h z k in
      let first = step_then s K g ds base hide m.step in
      let s0 = r0.step.slots in
      let s1 = first.slots in
      let n0 = r0.step.blocks in
      let n1 = first.blocks in
      record {
        step = record {
          fits = λ f. first.fits (r0.step.fits f);
          begun = λ b. first.begun (r0.step.begun b);
          both = λ f b o. (range_gives g ds base i x v d2 c U body o.room above parts2 h z k).step.both f b (first.both (r0.step.fits f) (r0.step.begun b) o);
          slots = omega (arith, s0, s1);
          more = (first.more.0 ++ r0.step.more.0, r0.step.more.1 ∙ ap (λ ns. ns ++ r0.step.more.0) first.more.1 ∙ append_assoc d.numbers first.more.0 r0.step.more.0);
          rest = r0.step.rest ∙ first.rest;
          blocks = omega (arith, n0, n1);
        };
        so = λ f b o.
            let before = first.both (r0.step.fits f) (r0.step.begun b) o in
            let p = m.so (r0.step.fits f) (r0.step.begun b) (hide.both (m.step.fits (r0.step.fits f)) (m.step.begun (r0.step.begun b)) o) in
            (p.0, p.1, (range_gives g ds base i x v d2 c U body o.room above parts2 h z k).so f b before);
      }))
