-- The body of a range sees the variable of its loop.
use Rattle.std.proofs.Common.{◌≡◌, refl, sym, ap, ◌∙◌, subst, ℕ, ◌+◌, ◌≤◌, ◌<◌, length, arith, List, [], ◌∷◌, ◌++◌, Some, None, Result, Ok, Err, Bool, true, false}
use Rattle.std.specs.Prelude.{if◌then◌else◌, slice_get, ◌==◌}
use Rattle.std.proofs.lemmas.Bool.Decides.{Decides-eqb}
use Rattle.ceu_base.specs.declared.kinds.Ty.TheVariants as ty
use Rattle.ceu_tree.specs.declared.source.Class.TheVariants as class
use Rattle.ceu_tree.specs.declared.source.Ident.{Ident}
use Rattle.ceu_tree.specs.declared.source.Exp.{Exp}
use Rattle.ceu_tree.specs.declared.kernel.KDecl.{KDecl}
use Rattle.ceu_scopes.specs.declared.known.Scopes.{Scopes}
use Rattle.ceu_scopes.specs.declared.scope.Border.TheVariants.{Plain}
use Rattle.ceu_scopes.specs.declared.walk.Walk.{Walk}
use Rattle.ceu_scopes.specs.Walk.{Broken, ◌>>=◌, opened, closed, shown, fresh}
use Rattle.ceu_scopes.specs.Rules.{declared}
use Rattle.ceu_scopes.specs.Names.{exp_walked, range_opened}
use Rattle.ceu_types.specs.declared.typing.Types.{Types}
use Rattle.ceu_expand.specs.declared.draft.Draft.{Draft}
use Rattle.ceu_expand.specs.Draft.{hidden, standing}
use Rattle.ceu_expand.specs.Expressions.{exp_passed, exp_written}
use Rattle.ceu_expand.specs.Expansion.{range_hidden, range_passed}
use Rattle.laws_kernel_shape.proofs.Steps.{always_then}
use Rattle.ceu_tree.specs.Proper.{Seen, IsLoopVariable, find}
use Rattle.ceu_scopes.specs.Shown.{rest_of}
use Rattle.laws_kernel_shape.proofs.Frames.{frame_exp}
use Rattle.laws_kernel_shape.proofs.Inside.{append_none, append_assoc}
use Rattle.laws_kernel_names.specs.Sees.{ExpSeen}
use Rattle.laws_kernel_names.proofs.Views.{Means, means_more, decl_ty, Shown, shown_map}
use Rattle.laws_kernel_names.proofs.Seeing.{Fits, Begun, Begins, Both, step_then, Declares, declares, shown_step, means_up}
use Rattle.laws_kernel_names.proofs.Looking.{Made, Gives, made_then, exp_made}
use Rattle.laws_kernel_names.proofs.Holding.{parts_of, slot_of, hidden_step}
use Rattle.laws_kernel_names.proofs.Blocks.{opened_shown, opened_same, fits_same, closed_is}

module _ (s : Scopes) (t : Types) where
  -- ---- a loop's variable

  abbrev pub loop_view : ℕ → List Seen → List Seen
  loop_view i view = record { slot = i; kind = IsLoopVariable } ∷ view

  loop_find : (i m : ℕ) (view : List Seen) → m < i → find m (loop_view i view) ≡ find m view
  loop_find i m view lt = by_test (i == m) (Decides-eqb i m).0
    where
      by_test : (b : Bool) → (b ≡ true → i ≡ m) → (if b then Some IsLoopVariable else find m view) ≡ find m view
      by_test false e = refl
      by_test true e = let same = e refl in absurd (omega (arith, same, lt))

  loop_here : (i : ℕ) (view : List Seen) → find i (loop_view i view) ≡ Some IsLoopVariable
  loop_here i view = by_test (i == i) ((Decides-eqb i i).1 refl)
    where
      by_test : (b : Bool) → b ≡ true → (if b then Some IsLoopVariable else find i view) ≡ Some IsLoopVariable
      by_test true e = refl
      by_test false e = absurd (cc)

  open_step : (view : List Seen) (ds : List KDecl) (base : ℕ) (w : Walk) (d : Draft) → (Both s view base w d → Both s view base (opened Plain w) d) × (Fits s (opened Plain w) → Fits s w)
  open_step view ds base w d =
      let same = opened_same s t Plain w in
      (λ h. record { uses = ap length same.0 ∙ h.uses; decls = ap length same.1 ∙ h.decls; room = h.room; means = opened_shown s t (λ j. Means s view base d.numbers j) Plain w h.means }, fits_same s t w (opened Plain w) same.0 same.1)

  pub standing_facts : (n : ℕ) (d : Draft) → ((standing n d).uses ≡ d.uses) × ((standing n d).numbers ≡ d.numbers ++ n ∷ []) × (d.slot ≤ (standing n d).slot) × ((standing n d).parts ≡ d.parts)
  unfolding standing
  standing_facts n d = (refl, refl, omega arith, refl)

  fresh_loop : (w : Walk) (view : List Seen) (base n : ℕ) (numbers : List ℕ) → slice_get numbers (length w.decls) ≡ Some n → n < base → find n view ≡ Some IsLoopVariable → decl_ty s (length w.decls) ≡ ty.S32 → Means s view base numbers (fresh class.LoopVar 0 w)
  unfolding fresh
  fresh_loop w view base n numbers is below there u = (record { number = n; is = is; below = below; there = there }, u)

  -- the body of a range, where its variable is shown
  range_gives : (view : List Seen) (ds : List KDecl) (base i : ℕ) (x : Ident) (w : Walk) (d c : Draft) (U : Type 0) (body : Walk → Result Walk Broken) → base ≤ i → i < d.slot → c.parts ≡ d.parts →
      ((v : Walk) → Gives s t (loop_view i view) ds (i + 1) v (standing i d) (body v) c U) → Gives s t view ds base w d (range_opened x w >>= body >>= closed) c U
  range_gives view ds base i x w d c U body low high same h =
      let w' = opened Plain w in
      let last = standing i d in
      let facts = standing_facts i d in
      let k = fresh class.LoopVar 0 w' in
      let view' = loop_view i view in
      let Q : Walk → Type 0 = λ v. (decl : Walk) × Declares s view ds base ty.S32 i w' d decl last × (Both s view' (i + 1) decl last → Means s view' (i + 1) last.numbers k → Both s view' (i + 1) v last) × (Fits s v → Fits s decl) × (rest_of v.scopes ≡ rest_of decl.scopes) in
      always_then (λ u. (v : Walk) × Q v × Made s t view' ds (i + 1) v last u c U) (λ z. Made s t view ds base w d z c U) (range_opened x w >>= body) closed
      (always_then Q (λ u. (v : Walk) × Q v × Made s t view' ds (i + 1) v last u c U) (range_opened x w) body
      (always_then (λ a. Declares s view ds base ty.S32 i w' d a last) Q (declared class.LoopVar ty.S32 None x w') (shown x k)
      (declares s view ds base class.LoopVar ty.S32 None x i w' d last facts.0 facts.1 facts.2 (λ b. record { more = b.more; is = b.is ∙ ap (λ p. p.decls ++ b.more) facts.3 }))
      (λ a m v e. let r = shown_step s view' ds (i + 1) x k a last v e in (a, m, r.0, r.1, r.2)))
      (λ v q u e. (v, q, h v u e)))
      (λ u all z close.
      let v = all.0 in
      let q = all.1 in
      let m = all.2 in
      let decl = q.0 in
      let dec = q.1 in
      let is_z = closed_is s t u z close in
      let enter = open_step view ds base w d in
      let fits_u : Fits s z → Fits s u = λ g. fits_same s t u z (ap (λ (x : Walk). x.uses) (sym is_z)) (ap (λ (x : Walk). x.decls) (sym is_z)) g in
      let fits_decl : Fits s z → Fits s decl = λ g. q.3 (m.step.fits (fits_u g)) in
      let begun_d : Begun ds c → Begun ds last = λ b. m.step.begun b in
      let both_decl : Fits s z → Begun ds c → Both s view base w d → Both s view base decl last = λ g b h. dec.step.both (fits_decl g) (begun_d b) (enter.0 h) in
      let inside : Fits s z → Begun ds c → Both s view base w d → Both s view' (i + 1) v last =
      λ g b h.
      let o = both_decl g b h in
      let up = facts.2 in
      let lifted : Both s view' (i + 1) decl last = record {
        uses = o.uses;
        decls = o.decls;
        room = omega (arith, high, up);
        means =
            shown_map (λ j. Means s view base last.numbers j) (λ j. Means s view' (i + 1) last.numbers j)
            (λ j n. subst (λ ns. Means s view' (i + 1) ns j) (sym (append_none last.numbers)) (means_more s view view' base (i + 1) last.numbers [] j (λ n lt. loop_find i n view (omega (arith, lt, low))) (omega (arith, low)) n)) decl.scopes o.means;
      } in
      q.2 lifted (fresh_loop w' view' (i + 1) i last.numbers (dec.number (enter.0 h).decls) (omega arith) (loop_here i view) (dec.type (fits_decl g))) in
      let scopes : z.scopes ≡ w.scopes = ap (λ (x : Walk). x.scopes) (sym is_z) ∙ m.step.rest ∙ q.4 ∙ ap rest_of dec.scopes ∙ (opened_same s t Plain w).2 in
      let up = facts.2 in
      let slots = m.step.slots in
      let more : Begins d.numbers c = (i ∷ [] ++ m.step.more.0, m.step.more.1 ∙ ap (λ ns. ns ++ m.step.more.0) facts.1 ∙ append_assoc d.numbers (i ∷ []) m.step.more.0) in
      record {
        step = record {
          fits = λ g. enter.1 (dec.step.fits (fits_decl g));
          begun = λ b. record { more = b.more; is = b.is ∙ ap (λ p. p.decls ++ b.more) same };
          both = λ g b h.
              let e = m.step.both (fits_u g) b (inside g b h) in
              let r = h.room in
              record {
                uses = ap (λ (x : Walk). length x.uses) (sym is_z) ∙ e.uses;
                decls = ap (λ (x : Walk). length x.decls) (sym is_z) ∙ e.decls;
                room = omega (arith, r, up, slots);
                means = subst (λ sc. Shown (λ j. Means s view base c.numbers j) sc) (sym scopes) (shown_map (λ j. Means s view base d.numbers j) (λ j. Means s view base c.numbers j) (means_up s view ds base d c more) w.scopes h.means);
              };
          slots = omega (arith, up, slots);
          more = more;
          rest = ap rest_of scopes;
        };
        so = λ g b h. m.so (fits_u g) b (inside g b h);
      })

  assoc : {A B C D : Type 0} (m : Result A Broken) (f : A → Result B Broken) (g : B → Result C Broken) (h : C → Result D Broken) → (m >>= f >>= g >>= h) ≡ (m >>= (λ v. f v >>= g >>= h))
  unfolding ◌>>=◌
  assoc (Ok a) f g h = refl
  assoc (Err r) f g h = refl

  hidden_slot : (d : Draft) → (range_hidden d).slot ≡ d.slot + 3
  unfolding hidden
  hidden_slot d = omega arith

  pub hidden_parts : (d : Draft) → (range_hidden d).parts ≡ d.parts
  unfolding hidden
  hidden_parts d = refl

  pub range_made : (view : List Seen) (ds : List KDecl) (base : ℕ) (x : Ident) (low high : Exp) (w : Walk) (d c : Draft) (U : Type 0) (body : Walk → Result Walk Broken) → c.parts ≡ d.parts →
      ((v : Walk) → Gives s t (loop_view d.slot view) ds (d.slot + 1) v (range_passed low high d) (body v) c U) →
      Gives s t view ds base w d (exp_walked low w >>= exp_walked high >>= range_opened x >>= body >>= closed) c (ExpSeen view (exp_written s t low (range_hidden d)) × ExpSeen view (exp_written s t high (exp_passed low (range_hidden d))) × U)
  unfolding range_passed
  range_made view ds base x low high w d c U body same h =
      let i = d.slot in
      let dh = range_hidden d in
      let d1 = exp_passed low dh in
      let d2 = exp_passed high d1 in
      let A = ExpSeen view (exp_written s t low dh) in
      let B = ExpSeen view (exp_written s t high d1) in
      let one = hidden 1 d in
      let hide = step_then s view ds base (hidden_step s t view ds base 1 w d) (step_then s view ds base (hidden_step s t view ds base 1 w one) (hidden_step s t view ds base 1 w (hidden 1 one))) in
      let slot2 : d2.slot ≡ dh.slot = slot_of dh d2 (frame_exp high d1 ∙ frame_exp low dh) in
      let above : i < d2.slot = let e = hidden_slot d in omega (arith, e, slot2) in
      let parts2 : c.parts ≡ d2.parts = same ∙ sym (hidden_parts d) ∙ sym (parts_of dh d2 (frame_exp high d1 ∙ frame_exp low dh)) in
      let ends = made_then s t view ds base A B w dh d1 d2 (exp_walked low w) (exp_walked high) (exp_made s t view ds base low w dh) (λ v. exp_made s t view ds base high v d1) in
      subst (λ r. Gives s t view ds base w d r c (A × B × U)) (sym (assoc (exp_walked low w >>= exp_walked high) (range_opened x) body closed))
      (always_then (λ v. Made s t view ds base w dh v d2 (A × B)) (λ z. Made s t view ds base w d z c (A × B × U)) (exp_walked low w >>= exp_walked high) (λ v. range_opened x v >>= body >>= closed) ends
      (λ v m z k.
      let r0 = range_gives view ds 0 i x v d2 c U body (omega arith) above parts2 h z k in
      let first = step_then s view ds base hide m.step in
      let s0 = r0.step.slots in
      let s1 = first.slots in
      record {
        step = record {
          fits = λ g. first.fits (r0.step.fits g);
          begun = λ b. first.begun (r0.step.begun b);
          both = λ g b o. (range_gives view ds base i x v d2 c U body o.room above parts2 h z k).step.both g b (first.both (r0.step.fits g) (r0.step.begun b) o);
          slots = omega (arith, s0, s1);
          more = (first.more.0 ++ r0.step.more.0, r0.step.more.1 ∙ ap (λ ns. ns ++ r0.step.more.0) first.more.1 ∙ append_assoc d.numbers first.more.0 r0.step.more.0);
          rest = r0.step.rest ∙ first.rest;
        };
        so = λ g b o.
            let before = first.both (r0.step.fits g) (r0.step.begun b) o in
            let p = m.so (r0.step.fits g) (r0.step.begun b) (hide.both (m.step.fits (r0.step.fits g)) (m.step.begun (r0.step.begun b)) o) in
            (p.0, p.1, (range_gives view ds base i x v d2 c U body o.room above parts2 h z k).so g b before);
      }))
