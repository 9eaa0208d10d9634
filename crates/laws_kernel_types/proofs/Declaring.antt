-- Declarations: what they stand for in the whole kernel, and their types.
use Rattle.std.proofs.Common.{◌≡◌, refl, sym, ap, ◌∙◌, subst, ℕ, ◌+◌, ◌<◌, length, arith, List, [], ◌∷◌, ◌++◌, Option, Some, None, Result, Ok, Bool, true, false}
use Rattle.std.specs.Prelude.{⊤, not, if◌then◌else◌}
use Rattle.std.proofs.lemmas.Bool.Decides.{Decides-eqb}
use Rattle.ceu_base.specs.declared.kinds.Ty.{Ty}
use Rattle.ceu_base.specs.declared.kinds.Ty.TheVariants as ty
use Rattle.ceu_base.specs.declared.kinds.Pos.{Pos}
use Rattle.ceu_base.specs.declared.kinds.Port.{Port}
use Rattle.ceu_base.specs.declared.kinds.Rule.{Rule}
use Rattle.ceu_tree.specs.declared.source.Class.{Class}
use Rattle.ceu_tree.specs.declared.source.Class.TheVariants as class
use Rattle.ceu_tree.specs.declared.source.Decl.{Decl}
use Rattle.ceu_tree.specs.declared.source.Ident.{Ident}
use Rattle.ceu_tree.specs.declared.source.Spawn.{Spawn}
use Rattle.ceu_tree.specs.declared.kernel.Kernel.{Kernel}
use Rattle.ceu_tree.specs.declared.kernel.KEvent.{KEvent}
use Rattle.ceu_tree.specs.declared.kernel.KKind.{KKind}
use Rattle.ceu_tree.specs.declared.kernel.KKind.TheVariants as kind
use Rattle.ceu_tree.specs.declared.kernel.KStmt as kernel
use Rattle.ceu_tree.specs.Typing.{same_ty}
use Rattle.ceu_tree.specs.Proper.{Where, port_ty, event_at, is_code}
use Rattle.ceu_scopes.specs.declared.known.Known.{Known}
use Rattle.ceu_scopes.specs.declared.known.Role.TheVariants as role
use Rattle.ceu_scopes.specs.declared.known.Scopes.{Scopes}
use Rattle.ceu_scopes.specs.declared.walk.Walk.{Walk}
use Rattle.ceu_scopes.specs.Walk as walk
use Rattle.ceu_scopes.specs.Walk.{Broken, ◌>>=◌, shown, fresh}
use Rattle.ceu_scopes.specs.Rules.{used, inside_broken, declared}
use Rattle.ceu_scopes.specs.Names.{ident_declared, port_declared, pool_declared, pool_walked, start_broken, alias_declared, alias_walked, if_spawn_walked}
use Rattle.ceu_types.specs.declared.typing.Types.{Types}
use Rattle.ceu_types.specs.declared.found.Found.{Found}
use Rattle.ceu_types.specs.Notes.{passed}
use Rattle.ceu_types.specs.Uses.{is_parameter}
use Rattle.ceu_types.specs.Statements.{if_spawn_found, acts}
use Rattle.ceu_expand.specs.declared.draft.Draft.{Draft}
use Rattle.ceu_expand.specs.Draft as draft
use Rattle.ceu_expand.specs.Draft.{begun, standing, event_declared, input_declared, output_declared}
use Rattle.ceu_expand.specs.Lists.{each}
use Rattle.ceu_expand.specs.Uses as uses
use Rattle.ceu_expand.specs.Uses.{use_number}
use Rattle.ceu_expand.specs.Parts as parts
use Rattle.ceu_expand.specs.Parts.{started}
use Rattle.laws_kernel_shape.proofs.Inside.{append_assoc}
use Rattle.laws_kernel_shape.proofs.Frames.{frame_used}
use Rattle.laws_kernel_names.proofs.Stepping.{length_more}
use Rattle.laws_kernel_types.specs.Typed.{event_ty, DeclTyped, StmtTyped}
use Rattle.laws_kernel_types.proofs.Noting as noting
use Rattle.laws_kernel_types.proofs.Noting.{Prefix, none_step, acts_step, used_step, declared_step, draft_step}
use Rattle.laws_kernel_types.proofs.Meaning.{Means, MeansOf, Stands, HasType, PortIs, EventIs}
use Rattle.laws_kernel_types.proofs.Naming.{then_ok, ok_is, prefix_same, same_tables, Ends, Goes, goes_then, Takes, used_ok, used_goes, declared_ok, declared_goes, shown_by, stands_there}
use Rattle.laws_kernel_types.proofs.Running.{Run, of_goes}
use Rattle.laws_kernel_types.proofs.Walking.{calm_same, still}
use Rattle.laws_kernel_types.proofs.Holding.{holds_declared}
use Rattle.laws_kernel_types.proofs.Leaves.{Part, part_then, same_part, simple_part, spawned_part, parts_of}

module _ (s : Scopes) (numbers : List ℕ) (K : Kernel) (code : Option ℕ) where
  -- ---- numbers that are taken

  pub declared_takes : (k : KKind) (x : Ident) (d : Draft) → Takes s numbers K code d.parts.slot d (draft.declared k x d)
  unfolding draft.declared
  declared_takes k x d = record { uses = refl; takes = refl; tables = same_tables d (draft.declared k x d) refl refl refl refl }

  pub standing_takes : (n : ℕ) (d : Draft) → Takes s numbers K code n d (standing n d)
  unfolding standing
  standing_takes n d = record { uses = refl; takes = refl; tables = same_tables d (standing n d) refl refl refl refl }

  more_at : {A : Type 0} (xs : List A) (x : A) → Prefix xs (xs ++ x ∷ [])
  more_at xs x = (x ∷ [], refl)

  event_takes : (c : Option ℕ) (u : Ty) (x : Ident) (d : Draft) → Takes s numbers K code (length d.events) d (event_declared c u x d)
  unfolding event_declared
  event_takes c u x d =
      record {
        uses = refl;
        takes = refl;
        tables = record { inputs = prefix_same d.inputs d.inputs refl; outputs = prefix_same d.outputs d.outputs refl; events = more_at d.events _; codes = prefix_same d.codes d.codes refl };
      }

  input_takes : (u : Ty) (x : Ident) (d : Draft) → Takes s numbers K code (length d.inputs) d (input_declared u x d)
  unfolding input_declared
  input_takes u x d =
      record {
        uses = refl;
        takes = refl;
        tables = record { inputs = more_at d.inputs _; outputs = prefix_same d.outputs d.outputs refl; events = prefix_same d.events d.events refl; codes = prefix_same d.codes d.codes refl };
      }

  output_takes : (u : Ty) (x : Ident) (d : Draft) → Takes s numbers K code (length d.outputs) d (output_declared u x d)
  unfolding output_declared
  output_takes u x d =
      record {
        uses = refl;
        takes = refl;
        tables = record { inputs = prefix_same d.inputs d.inputs refl; outputs = more_at d.outputs _; events = prefix_same d.events d.events refl; codes = prefix_same d.codes d.codes refl };
      }

  -- ---- names that are shown as they are declared

  fresh_is : (c : Class) (n : ℕ) (w : Walk) → ((fresh c n w).number ≡ length w.decls) × ((fresh c n w).class ≡ c)
  unfolding fresh
  fresh_is c n w = (refl, refl)

  -- a declaration that stands for this, where it is visible
  pub means_there : (c : Class) (n m : ℕ) (w : Walk) → length w.decls < m → MeansOf s numbers K code c (length w.decls) → Means s numbers K code m (fresh c n w)
  unfolding fresh
  means_there c n m w lt h = record { below = lt; so = h }

  -- a name that is declared and then shown
  pub ident_goes : (c : Class) (u : Ty) (r : Option Rule) (x : Ident) (n : ℕ) (w v : Walk) (d e : Draft) → is_parameter c ≡ false → Takes s numbers K code n d e → ident_declared c u r x w ≡ Ok v → (P : Decl → ℕ → Type 0) →
      (Stands s numbers K c (length w.decls) P → MeansOf s numbers K code c (length w.decls)) → (Ends s numbers K v e → (z : Decl) → z.ty ≡ u → P z n) → Goes s numbers K code w d v e
  ident_goes c u r x n w v d e plain takes is P as_means so =
      let k = then_ok (declared c u r x w) (shown x (fresh c 0 w)) v is in
      let one = declared_goes s numbers K code c u r x n w k.0 d e plain takes k.1 in
      let show = shown_by s numbers K code x (fresh c 0 w) k.0 v e k.2 in
      let count : length e.numbers ≡ length d.numbers + 1 = ap length takes.takes ∙ length_more d.numbers n in
      let up = one.up in
      let same : length v.decls ≡ length k.0.decls = ap length show.decls in
      record {
        ends = λ h. one.ends (show.ends h);
        now = λ h now.
            let below = show.ends h in
            let equal = now.decls in
            let there = stands_there s numbers K code c u r x n w k.0 d e k.1 takes.takes below.decls below.given now P (λ z a b. so h z b) in
            show.now (means_there c 0 (length e.numbers) w (omega (arith, count, equal)) (as_means there)) (one.now below now);
        rest = show.rest ∙ one.rest;
        up = omega (arith, up, same);
      }

  -- ---- events and ports

  event_next : (xs : List KEvent) (x : KEvent) (ys : List KEvent) → event_at K (length xs) (xs ++ x ∷ ys) ≡ Some x
  event_next [] x ys = refl
  event_next (y ∷ xs) x ys = event_next xs x ys

  port_next : (xs : List Port) (x : Port) (ys : List Port) → port_ty K (length xs) (xs ++ x ∷ ys) ≡ Some x.ty
  port_next [] x ys = refl
  port_next (y ∷ xs) x ys = port_next xs x ys

  event_own : (e : KEvent) (c : Option ℕ) → e.code ≡ c → c ≡ code → event_ty code (Some e) ≡ Some e.ty
  event_own e c h same = by_code e.code (h ∙ same)
    where
      own : (b : Bool) → b ≡ true → (if b then Some e.ty else None) ≡ Some e.ty
      own true h = refl
      own false h = absurd (cc)

      by_code : (o : Option ℕ) → o ≡ code → elim o [ None ↦ Some e.ty | Some k ↦ (if is_code k code then Some e.ty else None) ] ≡ Some e.ty
      by_code None h = refl
      by_code (Some k) h = own (is_code k code) (ap (is_code k) (sym h) ∙ (Decides-eqb k k).1 refl)

  pub event_goes : (c : Option ℕ) → c ≡ code → (u : Ty) (x : Ident) (w v : Walk) (d : Draft) → ident_declared class.Event u None x w ≡ Ok v → Goes s numbers K code w d v (event_declared c u x d)
  unfolding event_declared
  event_goes c same u x w v d h =
      ident_goes class.Event u None x (length d.events) w v d (event_declared c u x d) refl (event_takes c u x d) h (EventIs s numbers K code) (λ k. k) (so same)
    where
      so : c ≡ code → Ends s numbers K v (event_declared c u x d) → (z : Decl) → z.ty ≡ u → EventIs s numbers K code z (length d.events)
      so same k z typed =
          let e : KEvent = record { ty = u; code = c; pos = x.pos } in
          let is : K.events ≡ d.events ++ (e ∷ k.events.0) = k.events.1 ∙ append_assoc d.events (e ∷ []) k.events.0 in
          ap (λ xs. event_ty code (event_at K (length d.events) xs)) is ∙ ap (event_ty code) (event_next d.events e k.events.0) ∙ event_own e c refl same ∙ ap Some (sym typed)

  pub input_goes : (u : Ty) (x : Ident) (w v : Walk) (d : Draft) → port_declared class.Input u x w ≡ Ok v → Goes s numbers K code w d v (input_declared u x d)
  unfolding input_declared
  input_goes u x w v d h =
      ident_goes class.Input u (inside_broken w.scopes) x (length d.inputs) w v d (input_declared u x d) refl (input_takes u x d) h (PortIs s numbers K K.inputs) (λ k. k) so
    where
      so : Ends s numbers K v (input_declared u x d) → (z : Decl) → z.ty ≡ u → PortIs s numbers K K.inputs z (length d.inputs)
      so k z typed =
          let p : Port = record { ty = u; name = x.name } in
          ap (port_ty K (length d.inputs)) (k.inputs.1 ∙ append_assoc d.inputs (p ∷ []) k.inputs.0) ∙ port_next d.inputs p k.inputs.0 ∙ ap Some (sym typed)

  pub output_goes : (u : Ty) (x : Ident) (w v : Walk) (d : Draft) → port_declared class.Output u x w ≡ Ok v → Goes s numbers K code w d v (output_declared u x d)
  unfolding output_declared
  output_goes u x w v d h =
      ident_goes class.Output u (inside_broken w.scopes) x (length d.outputs) w v d (output_declared u x d) refl (output_takes u x d) h (PortIs s numbers K K.outputs) (λ k. k) so
    where
      so : Ends s numbers K v (output_declared u x d) → (z : Decl) → z.ty ≡ u → PortIs s numbers K K.outputs z (length d.outputs)
      so k z typed =
          let p : Port = record { ty = u; name = x.name } in
          ap (port_ty K (length d.outputs)) (k.outputs.1 ∙ append_assoc d.outputs (p ∷ []) k.outputs.0) ∙ port_next d.outputs p k.outputs.0 ∙ ap Some (sym typed)

  pub each_goes : (step : Ident → Walk → Result Walk Broken) (pass : Ident → Draft → Draft) → ((x : Ident) (w v : Walk) (d : Draft) → step x w ≡ Ok v → Goes s numbers K code w d v (pass x d)) →
      (xs : List Ident) (w v : Walk) (d : Draft) → walk.each step xs w ≡ Ok v → Goes s numbers K code w d v (each pass xs d)
  unfolding each walk.each
  each_goes step pass one [] w v d h = still s numbers K code w v d d (calm_same d) (Ok w) refl h
  each_goes step pass one (x ∷ xs) w v d h =
      let k = then_ok (step x w) (walk.each step xs) v h in
      goes_then s numbers K code (one x w k.0 d k.1) (each_goes step pass one xs k.0 v (pass x d) k.2)

  -- ---- the variable of a loop

  pub loop_goes : (x : Ident) (n : ℕ) (w v : Walk) (d : Draft) → ident_declared class.LoopVar ty.S32 None x w ≡ Ok v → Goes s numbers K code w d v (standing n d)
  loop_goes x n w v d h =
      ident_goes class.LoopVar ty.S32 None x n w v d (standing n d) refl (standing_takes n d) h HasType (λ k. k) (λ k z typed. ap (λ u. not (same_ty u ty.None)) typed)

-- ---- pools and aliases

module _ (s : Scopes) (t : Types) (numbers : List ℕ) (K : Kernel) (code : Option ℕ) where
  declared_notes : (k : KKind) (x : Ident) (f : Found) (d : Draft) → noting.Step s t f d f (draft.declared k x d)
  declared_notes k x f d = declared_step s t k x f d

  pub declared_part : (c : Class) (u : Ty) (r : Option Rule) (k : KKind) (x : Ident) (w v : Walk) (f : Found) (d : Draft) → is_parameter c ≡ false → declared c u r x w ≡ Ok v →
      ((place : Where) → Run s t numbers K code place w f d v f (draft.declared k x d) → DeclTyped (record { slot = d.parts.slot; kind = k; name = x.name; pos = x.pos })) → Part s t numbers K code w f d v f (draft.declared k x d)
  declared_part c u r k x w v f d plain h typed =
      record {
        step = of_goes s t numbers K code (declared_notes k x f d) (declared_goes s numbers K code c u r x d.parts.slot w v d (draft.declared k x d) plain (declared_takes s numbers K code k x d) h);
        holds = λ q place aims run g. holds_declared K code aims k x d (typed place run) g;
      }

  -- a pool or an alias is shown, of which nothing is asked here
  shown_part : (c : Class) (n : ℕ) (x : Ident) (w u v : Walk) (f : Found) (d : Draft) → length w.decls < length u.decls → MeansOf s numbers K code c (length w.decls) → shown x (fresh c n w) u ≡ Ok v → Part s t numbers K code u f d v f d
  shown_part c n x w u v f d lt so h =
      let show = shown_by s numbers K code x (fresh c n w) u v d h in
      let same : length v.decls ≡ length u.decls = ap length show.decls in
      same_part s t numbers K code ⊤ u v f f d d
      (record {
        notes = none_step s t f d;
        ends = show.ends;
        now = λ place fine ends now. let equal = now.decls in show.now (means_there s numbers K code c n (length d.numbers) w (omega (arith, lt, equal)) so) now;
        rest = show.rest;
        up = omega (arith, same);
      })
      refl

  declared_more : (c : Class) (u : Ty) (r : Option Rule) (x : Ident) (w v : Walk) → declared c u r x w ≡ Ok v → length v.decls ≡ length w.decls + 1
  declared_more c u r x w v h = ap (λ (y : Walk). length y.decls) (declared_ok s numbers K code c u r x w v h) ∙ length_more w.decls _

  used_part : (x : Ident) (w : Walk) (p : Known × Walk) (f : Found) (d : Draft) → used role.Code x w ≡ Ok p → Part s t numbers K code w f d p.1 (passed s (acts f)) (uses.used d)
  used_part x w p f d h =
      let name = (used_ok s numbers K code role.Code x w p h).0 in
      same_part s t numbers K code ⊤ w p.1 f (passed s (acts f)) d (uses.used d)
      (of_goes s t numbers K code (noting.step_then s t (acts_step s t f d) (used_step s t (acts f) d)) (used_goes s numbers K code role.Code x w p.1 d name)) (parts_of d (uses.used d) (frame_used d))

  pub pool_part : (places : ℕ) (name x : Ident) (w v : Walk) (f : Found) (d : Draft) → pool_walked name x w ≡ Ok v → Part s t numbers K code w f d v (passed s (acts f)) (parts.pool_declared s places x d)
  unfolding parts.pool_declared
  pool_part places name x w v f d h =
      let k = then_ok (used role.Code name w) (pool_declared x) v h in
      let pool = fresh class.Pool k.0.0.number k.0.1 in
      let m = then_ok (declared class.Pool ty.None None x k.0.1) (shown x pool) v k.2 in
      let g = passed s (acts f) in
      let count = declared_more class.Pool ty.None None x k.0.1 m.0 m.1 in
      part_then s t numbers K code (used_part name w k.0 f d k.1)
      (part_then s t numbers K code (declared_part class.Pool ty.None None (kind.Pool places (use_number s d)) x k.0.1 m.0 g (uses.used d) refl m.1 (λ place run. tt))
      (shown_part class.Pool k.0.0.number x k.0.1 m.0 v g (draft.declared (kind.Pool places (use_number s d)) x (uses.used d)) (omega (arith, count)) tt m.2))

  started_part : (p : Pos) (alias : ℕ) (start : Option Spawn) (w v : Walk) (f : Found) (d : Draft) → if_spawn_walked start w ≡ Ok v → Part s t numbers K code w f d v (if_spawn_found s start f) (started s t p alias start d)
  unfolding StmtTyped
  started_part p alias None w v f d h =
      subst (λ v. Part s t numbers K code w f d v f (started s t p alias None d)) (ok_is w v (Ok w) refl h) (simple_part s t numbers K code ⊤ p (kernel.Unset alias) w f d (λ q aims. tt))
  started_part p alias (Some x) w v f d h = spawned_part s t numbers K code (Some alias) x w v f d h

  pub alias_part : (p : Pos) (name x : Ident) (start : Option Spawn) (w v : Walk) (f : Found) (d : Draft) → alias_walked name x start w ≡ Ok v →
      Part s t numbers K code w f d v (if_spawn_found s start (passed s (acts f))) (parts.alias_declared s t p x start d)
  unfolding parts.alias_declared
  alias_part p name x start w v f d h =
      let k = then_ok (used role.Code name w) (alias_declared x start) v h in
      let alias = fresh class.Alias k.0.0.number k.0.1 in
      let r = start_broken k.0.1.scopes start alias in
      let m = then_ok (declared class.Alias ty.None r x k.0.1 >>= if_spawn_walked start) (shown x alias) v k.2 in
      let n = then_ok (declared class.Alias ty.None r x k.0.1) (if_spawn_walked start) m.0 m.1 in
      let g = passed s (acts f) in
      let kd = kind.Alias (use_number s d) in
      let d2 = draft.declared kd x (uses.used d) in
      let count = declared_more class.Alias ty.None r x k.0.1 n.0 n.1 in
      let start_it = started_part p d.parts.slot start n.0 m.0 g d2 n.2 in
      let up = start_it.step.up in
      part_then s t numbers K code (used_part name w k.0 f d k.1)
      (part_then s t numbers K code (declared_part class.Alias ty.None r kd x k.0.1 n.0 g (uses.used d) refl n.1 (λ place run. tt))
      (part_then s t numbers K code start_it
      (shown_part class.Alias k.0.0.number x k.0.1 m.0 v (if_spawn_found s start g) (started s t p d.parts.slot start d2) (omega (arith, count, up)) tt m.2)))
