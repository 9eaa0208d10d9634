-- A range, whose variable has a slot of its own.
use Rattle.std.proofs.Common.{◌≡◌, ◌≢◌, refl, ◌∙◌, ℕ, ◌≤◌, ◌+◌, arith, List, [], ◌∷◌, ◌++◌, None, Result, Bool}
use Rattle.std.specs.Prelude.{⊤}
use Rattle.ceu_base.specs.declared.kinds.Ty.TheVariants as ty
use Rattle.ceu_tree.specs.declared.source.Class.TheVariants as class
use Rattle.ceu_tree.specs.declared.source.Ident.{Ident}
use Rattle.ceu_tree.specs.declared.source.Exp.{Exp}
use Rattle.ceu_tree.specs.Mentions.{exp_names}
use Rattle.ceu_scopes.specs.declared.known.Scopes.{Scopes}
use Rattle.ceu_scopes.specs.declared.scope.Border.TheVariants.{Plain}
use Rattle.ceu_scopes.specs.declared.walk.Walk.{Walk}
use Rattle.ceu_scopes.specs.Walk.{Broken, ◌>>=◌, opened, closed, shown, fresh}
use Rattle.ceu_scopes.specs.Rules.{declared}
use Rattle.ceu_scopes.specs.Names.{exp_walked, range_opened}
use Rattle.ceu_types.specs.declared.typing.Types.{Types}
use Rattle.ceu_expand.specs.declared.draft.Draft.{Draft}
use Rattle.ceu_expand.specs.Draft.{hidden, standing}
use Rattle.ceu_expand.specs.Expressions.{exp_passed, exp_written}
use Rattle.ceu_expand.specs.Expansion.{range_hidden, range_passed}
use Rattle.laws_kernel_shape.proofs.Frames.{frame_exp}
use Rattle.laws_kernel_names.proofs.Holding.{slot_of}
use Rattle.laws_kernel_uses.proofs.Knowing.{Step, step_then, declares, shown_shows, opened_step, closed_goes}
use Rattle.laws_kernel_uses.proofs.Passing.{Made, Gives, made_join, made_then, step_made, made_step, exp_made}
use Rattle.laws_kernel_uses.proofs.Parts.{hidden_step, fresh_slot}
use Rattle.laws_kernel_uses.proofs.SettledBlocks.{bind_ok}

module _ (T : List (List ℕ)) (s : Scopes) (t : Types) where
  record Stands (n : ℕ) (d : Draft) : Type 0 where
    uses : (standing n d).uses ≡ d.uses
    numbers : (standing n d).numbers ≡ d.numbers ++ n ∷ []
    slot : (standing n d).slot ≡ d.slot

  stands : (n : ℕ) (d : Draft) → Stands n d
  unfolding standing
  stands n d = record { uses = refl; numbers = refl; slot = refl }

  hidden_slot : (d : Draft) → (range_hidden d).slot ≡ d.slot + 3
  unfolding hidden
  hidden_slot d = omega arith

  pub range_made : (x : Ident) (low high : Exp) (zs : Bool → List ℕ) (S : Type 0) (w : Walk) (d c : Draft) (body : Walk → Result Walk Broken) → ((v : Walk) → Gives T s v (range_passed low high d) (body v) c zs S) →
      Gives T s w d (exp_walked low w >>= exp_walked high >>= range_opened x >>= body >>= closed) c
      (λ own. (exp_names own T (exp_written s t low (range_hidden d)) ++ exp_names own T (exp_written s t high (exp_passed low (range_hidden d)))) ++ zs own) ((⊤ × ⊤) × S)
  unfolding range_passed
  range_made x low high zs S w d c body h z k =
      let i = d.slot in
      let dh = range_hidden d in
      let d1 = exp_passed low dh in
      let d2 = exp_passed high d1 in
      let last = standing i d2 in
      let xs : Bool → List ℕ = λ own. exp_names own T (exp_written s t low dh) in
      let ys : Bool → List ℕ = λ own. exp_names own T (exp_written s t high d1) in
      let xy : Bool → List ℕ = λ own. exp_names own T (exp_written s t low dh) ++ exp_names own T (exp_written s t high d1) in
      let all : Bool → List ℕ = λ own. (exp_names own T (exp_written s t low dh) ++ exp_names own T (exp_written s t high d1)) ++ zs own in
      let a4 = bind_ok (exp_walked low w >>= exp_walked high >>= range_opened x >>= body) closed z k in
      let a3 = bind_ok (exp_walked low w >>= exp_walked high >>= range_opened x) body a4.0 a4.1 in
      let a2 = bind_ok (exp_walked low w >>= exp_walked high) (range_opened x) a3.0 a3.1 in
      let u = a2.0 in
      let u' = opened Plain u in
      let named = fresh class.LoopVar 0 u' in
      let a1 = bind_ok (declared class.LoopVar ty.S32 None x u') (shown x named) a3.0 a2.2 in
      let one = hidden 1 d in
      let hide = step_then T s (hidden_step T s 1 w d) (step_then T s (hidden_step T s 1 w one) (hidden_step T s 1 w (hidden 1 one))) in
      let ends = made_then T s xs ys ⊤ ⊤ w dh d1 d2 (exp_walked low w) (exp_walked high) (exp_made T s t low w dh) (λ v. exp_made T s t high v d1) u a2.1 in
      let first = step_made T s xy (⊤ × ⊤) hide ends in
      let st = stands i d2 in
      let dec = declares T s class.LoopVar ty.S32 None x i u' d2 last st.uses st.numbers st.slot a1.0 a1.1 in
      let sh = shown_shows T s x named a1.0 last a3.0 a1.2 in
      let enter = step_then T s first.step (step_then T s (opened_step T s Plain u d2) dec.step) in
      let slot2 : d2.slot ≡ dh.slot = slot_of dh d2 (frame_exp high d1 ∙ frame_exp low dh) in
      let high' : last.slot ≡ d.slot + 3 = st.slot ∙ slot2 ∙ hidden_slot d in
      let slots : d.slot ≤ last.slot = enter.slots in
      let turn : Step T s w d a3.0 last =
      record {
        fits = λ g. enter.fits ((sh 0).fits g);
        slots = enter.slots;
        knows = λ n o kn.
            let ku = first.step.knows n (λ lo hi. o lo (omega (arith, hi, st.slot))) kn in
            let opened_knows = (opened_step T s Plain u d2).knows n (λ lo hi. omega (arith, lo, hi)) ku in
            let other : i ≢ n = λ e. o (omega (arith, e)) (omega (arith, e, high')) in
            (sh n).knows (enter.knows n o kn) (fresh_slot T s class.LoopVar 0 u' n last.numbers i refl (dec.number opened_knows.decls) other);
        means = enter.means;
      } in
      let before : Made T s w d a3.0 last xy (⊤ × ⊤) =
      record {
        step = turn;
        so = λ fits n o kn own. first.so ((opened_step T s Plain u d2).fits (dec.step.fits ((sh 0).fits fits))) n (λ lo hi. o lo (omega (arith, hi, st.slot))) kn own;
        whole = λ fits top up clear. (tt, tt);
      } in
      made_step T s all ((⊤ × ⊤) × S) (made_join T s xy zs (⊤ × ⊤) S w a3.0 a4.0 d last c before (h a3.0 a4.0 a3.2)) (closed_goes T s a4.0 c z a4.2)
