-- Statements without blocks of the text name what is there.
use Rattle.std.proofs.Common.{◌≡◌, refl, sym, ap, ◌∙◌, subst, ℕ, ◌≤◌, length, arith, List, [], ◌∷◌, ◌++◌, Option, Some, None, Result, Ok, Bool, true, false}
use Rattle.std.specs.Prelude.{⊤, is_some, IsTrue, slice_get}
use Rattle.ceu_base.specs.declared.kinds.Ty.{Ty}
use Rattle.ceu_base.specs.declared.kinds.Ty.TheVariants as ty
use Rattle.ceu_base.specs.declared.kinds.Pos.{Pos}
use Rattle.ceu_base.specs.declared.kinds.Rule.{Rule}
use Rattle.ceu_tree.specs.declared.source.Class.{Class}
use Rattle.ceu_tree.specs.declared.source.Class.TheVariants as class
use Rattle.ceu_tree.specs.declared.source.Ident.{Ident}
use Rattle.ceu_tree.specs.declared.source.Call.{Call}
use Rattle.ceu_tree.specs.declared.source.Spawn.{Spawn}
use Rattle.ceu_tree.specs.declared.source.Target.{Target}
use Rattle.ceu_tree.specs.declared.source.Target.TheVariants as target
use Rattle.ceu_tree.specs.declared.source.Exp.{Exp}
use Rattle.ceu_tree.specs.declared.kernel.Kernel.{Kernel}
use Rattle.ceu_tree.specs.declared.kernel.Loc.{Loc}
use Rattle.ceu_tree.specs.declared.kernel.KDecl.{KDecl}
use Rattle.ceu_tree.specs.declared.kernel.KKind.TheVariants as kind
use Rattle.ceu_tree.specs.declared.kernel.KStmt as kernel
use Rattle.ceu_tree.specs.declared.kernel.KStmt.{KStmt, Row_of-KArm, end_of-KArm, more_of-KArm, items-the_row-KArm, items_hidden-the_row-KArm-0, items_hidden-the_row-KBlock-1, Row_of-KBlock, end_of-KBlock, more_of-KBlock, items-the_row-KBlock}
use Rattle.ceu_tree.specs.Proper.{find, is_alias, is_pool_of, port_ty}
use Rattle.ceu_scopes.specs.declared.known.Known.{Known}
use Rattle.ceu_scopes.specs.declared.known.Role.TheVariants as role
use Rattle.ceu_scopes.specs.declared.known.Scopes.{Scopes}
use Rattle.ceu_scopes.specs.declared.walk.Walk.{Walk}
use Rattle.ceu_scopes.specs.Walk.{Broken, ◌>>=◌, shown, fresh, decl_of}
use Rattle.ceu_scopes.specs.Walk as walk
use Rattle.ceu_scopes.specs.Rules.{label_broken, used, named, pool_used, inside_broken, declared, set_broken}
use Rattle.ceu_scopes.specs.Names.{exp_walked, exps_walked, if_exp_walked, call_walked, spawned, spawn_walked, if_spawn_walked, target_walked, ident_declared, port_declared, pool_declared, start_broken, alias_declared, pool_walked, alias_walked, escape_walked, emit_walked, leave_walked}
use Rattle.ceu_types.specs.declared.typing.Types.{Types}
use Rattle.ceu_expand.specs.declared.around.Around.{Around}
use Rattle.ceu_expand.specs.declared.draft.Draft.{Draft}
use Rattle.ceu_expand.specs.Draft as draft
use Rattle.ceu_expand.specs.Draft.{begun, hidden, placed, event_declared, input_declared, output_declared}
use Rattle.ceu_expand.specs.Lists.{each, gathered}
use Rattle.ceu_expand.specs.Uses as uses
use Rattle.ceu_expand.specs.Uses.{names_output, use_number}
use Rattle.ceu_expand.specs.Expressions.{exp_passed, if_exp_passed, exp_written, if_exp_written}
use Rattle.ceu_expand.specs.Parts as parts
use Rattle.ceu_expand.specs.Parts.{simple, assigned, sent, emitted, escaped, await_written, target_passed, target_awaited, code_awaited, started, killed}
use Rattle.laws_kernel_shape.specs.Shaped.{AllOf}
use Rattle.laws_kernel_shape.proofs.Steps.{always_ok, always_checked, always_then}
use Rattle.laws_kernel_shape.proofs.Frames.{frame_used, frame_exp, frame_if_exp, frame_each, frame_target}
use Rattle.laws_kernel_shape.proofs.Inside.{append_none, append_assoc}
use Rattle.laws_kernel_names.proofs.Stepping.{get_more}
use Rattle.laws_kernel_names.proofs.Seeing.{Fits}
use Rattle.laws_kernel_names.proofs.Holding.{parts_of, parts_hid, parts_begun}
use Rattle.laws_kernel_uses.specs.Named.{TargetNamed, MaybeTarget, EventNamed, MaybeAlias}
use Rattle.laws_kernel_uses.proofs.Sites.{scope_of, NodeHeld, ExpHeld, MaybeHeld, StmtHeld}
use Rattle.laws_kernel_uses.proofs.Walking.{Ground, Begun, Begins, View, Both, Step, step_then, Goes, Found, used_found, named_found, used_goes, pool_found, Declares, declares, Entry, shown_step}
use Rattle.laws_kernel_uses.proofs.Finding.{SentNamed, use_is, decl_stands, found_stands, alias_named, event_named_by, input_named, sent_named, pool_shown}
use Rattle.laws_kernel_uses.proofs.Spawning.{pool_is, MaybeFor, AliasFor, maybe_alias, alias_for}
use Rattle.laws_kernel_uses.proofs.Spawning as spawning
use Rattle.laws_kernel_uses.proofs.Exps.{Made, Gives, made_then, goes_made, still, still_made, draft_made, exp_made, exps_made, if_exp_made, exps_keep}
use Rattle.laws_kernel_uses.proofs.Holding.{Holds, holds_as, Part, PartIf, PartsIf, Parts, parts_then, same_parts, hidden_step, of_made, of_made_if}
use Rattle.laws_kernel_uses.proofs.Showing.{step_shown, declared_counts, block_declares, own_slot, alias_entry, alias_of, pool_entry, event_entry, input_entry, output_entry}

module _ (s : Scopes) (t : Types) (K : Kernel) (g : Ground) (ds : List KDecl) (base : ℕ) where
  -- ---- assignments, emissions, escapes

  pub assigned_parts : (p : Pos) (into : Loc) (e : Exp) (w : Walk) (d : Draft) → PartsIf s t K g ds base (TargetNamed K (scope_of g.site) into) w d (exp_walked e w) (assigned s t p into e d)
  unfolding StmtHeld
  assigned_parts p into e w d =
      of_made_if s t K g ds base (TargetNamed K (scope_of g.site) into) p (kernel.Assign into (exp_written s t e (begun d))) (ExpHeld K g.site (exp_written s t e (begun d))) w d (exp_passed e (begun d)) (exp_walked e w)
      (parts_of (begun d) (exp_passed e (begun d)) (frame_exp e (begun d)) ∙ parts_begun d) (λ target u. (target, u)) (exp_made s t K g ds base e w (begun d))

  sent_held : (b : Bool) (n : ℕ) (e : Option Exp) (c : Draft) → SentNamed K g.site b n → MaybeHeld K g.site (if_exp_written s t e c) → StmtHeld K g.site (sent s t b n e c)
  unfolding StmtHeld
  sent_held true n e c h u = (h, u)
  sent_held false n e c h u = (h, u)

  emitted_made : (x : Ident) (w : Walk) (d : Draft) → Gives s t K g ds base w d (named role.Emitted x w) (uses.used d) (SentNamed K g.site (names_output s d.uses) (use_number s d))
  emitted_made x w d v e = let found = named_found s K g ds base role.Emitted x w d v e in record { step = found.1.step; so = λ fits begun both. sent_named s K g ds base x w v d found.0 found.1 fits both }

  pub emitted_parts : (p : Pos) (x : Ident) (e : Option Exp) (w : Walk) (d : Draft) → Parts s t K g ds base w d (emit_walked x e w) (emitted s t p e d)
  unfolding emitted
  emitted_parts p x e w d =
      let d' = begun d in
      let c = if_exp_passed e (uses.used d') in
      let A = SentNamed K g.site (names_output s d'.uses) (use_number s d') in
      let U = MaybeHeld K g.site (if_exp_written s t e (uses.used d')) in
      of_made s t K g ds base p (sent s t (names_output s d'.uses) (use_number s d') e (uses.used d')) (A × U) w d c (emit_walked x e w) (parts_of d' c (frame_if_exp e (uses.used d') ∙ frame_used d') ∙ parts_begun d)
      (λ u. sent_held (names_output s d'.uses) (use_number s d') e (uses.used d') u.0 u.1)
      (made_then s t K g ds base A U w d' (uses.used d') c (named role.Emitted x w) (if_exp_walked e) (emitted_made x w d') (λ v. if_exp_made s t K g ds base e v (uses.used d')))

  escape_made : (l : Option Ident) (w : Walk) (d : Draft) → Gives s t K g ds base w d (escape_walked l w) d ⊤
  escape_made None w d = still_made s t K g ds base ⊤ w d d (still s t K g ds base w d) tt
  escape_made (Some l) w d = always_checked (λ v. Made s t K g ds base w d v d ⊤) (label_broken w.labels l) l.pos w (record { step = still s t K g ds base w d; so = λ a b c. tt })

  pub escaped_parts : (a : Around) (p : Pos) (l : Option Ident) (e : Option Exp) (w : Walk) (d : Draft) → Parts s t K g ds base w d (leave_walked l e w) (escaped s t a p l e d)
  unfolding escaped StmtHeld
  escaped_parts a p l e w d =
      let d' = begun d in
      let c = if_exp_passed e d' in
      let U = MaybeHeld K g.site (if_exp_written s t e d') in
      of_made s t K g ds base p (kernel.Escape (uses.target a l d) (if_exp_written s t e d')) (⊤ × U) w d c (leave_walked l e w) (parts_of d' c (frame_if_exp e d') ∙ parts_begun d) (λ u. u.1)
      (made_then s t K g ds base ⊤ U w d' d' c (escape_walked l w) (if_exp_walked e) (escape_made l w d') (λ v. if_exp_made s t K g ds base e v d'))

  alias_made : (x : Ident) (w : Walk) (d : Draft) → Gives s t K g ds base w d (named role.Alias x w) (uses.used d) (IsTrue (is_alias (find (use_number s d) g.site.seen)))
  alias_made x w d v e =
      let found = named_found s K g ds base role.Alias x w d v e in
      record { step = found.1.step; so = λ fits begun both. alias_named s K g ds base role.Alias x w v d found.0 found.1 found.1.use_of.takes_it fits both }

  pub killed_parts : (p : Pos) (x : Ident) (w : Walk) (d : Draft) → Parts s t K g ds base w d (named role.Alias x w) (killed s p d)
  unfolding killed StmtHeld
  killed_parts p x w d =
      of_made s t K g ds base p (kernel.Kill (use_number s (begun d))) (IsTrue (is_alias (find (use_number s (begun d)) g.site.seen))) w d (uses.used (begun d)) (named role.Alias x w)
      (parts_of (begun d) (uses.used (begun d)) (frame_used (begun d)) ∙ parts_begun d) (λ u. u) (alias_made x w (begun d))

  -- ---- awaits

  abbrev AwaitGives : Target → Draft → Type 0
  AwaitGives (target.Ext x) d = IsTrue (is_some (port_ty K (use_number s d) K.inputs))
  AwaitGives (target.Event x) d = EventNamed K (scope_of g.site) (use_number s d)
  AwaitGives (target.TimeExp e u) d = ExpHeld K g.site (exp_written s t e d)
  AwaitGives _ d = ⊤

  target_made : (x : Target) (w : Walk) (d : Draft) → Gives s t K g ds base w d (target_walked x w) (target_passed x d) (AwaitGives x d)
  unfolding target_passed
  target_made (target.Ext x) w d = λ v e. let found = named_found s K g ds base role.Input x w d v e in record { step = found.1.step; so = λ fits begun both. input_named s K g ds base x w v d found.0 found.1 fits both }
  target_made (target.Event x) w d = λ v e. let found = named_found s K g ds base role.Event x w d v e in record { step = found.1.step; so = λ fits begun both. event_named_by s K g ds base x w v d found.0 found.1 fits both }
  target_made (target.Time us) w d = still_made s t K g ds base ⊤ w d d (still s t K g ds base w d) tt
  target_made (target.TimeExp e u) w d = exp_made s t K g ds base e w d

  await_held : (p : Pos) (into : Option Loc) (x : Target) (c : Draft) → MaybeTarget K (scope_of g.site) into → AwaitGives x c → StmtHeld K g.site (await_written s t p into x c)
  unfolding await_written StmtHeld NodeHeld
  await_held p into (target.Ext x) c m u = (u, m)
  await_held p into (target.Event x) c m u = (u, m)
  await_held p into (target.Time us) c m u = (tt, m)
  await_held p into (target.TimeExp e unit) c m u = (u, m)

  pub target_parts : (p : Pos) (into : Option Loc) (x : Target) (w : Walk) (d : Draft) → PartsIf s t K g ds base (MaybeTarget K (scope_of g.site) into) w d (target_walked x w) (target_awaited s t p into x d)
  unfolding target_awaited
  target_parts p into x w d =
      of_made_if s t K g ds base (MaybeTarget K (scope_of g.site) into) p (await_written s t p into x (begun d)) (AwaitGives x (begun d)) w d (target_passed x (begun d)) (target_walked x w)
      (parts_of (begun d) (target_passed x (begun d)) (frame_target x (begun d)) ∙ parts_begun d) (λ m u. await_held p into x (begun d) m u) (target_made x w (begun d))

  pub code_parts : (p : Pos) (into : Option Loc) (c : Call) (w : Walk) (d : Draft) → PartsIf s t K g ds base (MaybeTarget K (scope_of g.site) into) w d (call_walked c w) (code_awaited s t p into c d)
  unfolding code_awaited StmtHeld
  code_parts p into c w d =
      let d' = begun d in
      let start = hidden 1 d' in
      let inside = uses.used start in
      let last = each exp_passed c.args inside in
      let es = gathered (exp_written s t) exp_passed c.args inside in
      let U = AllOf (ExpHeld K g.site) es in
      of_made_if s t K g ds base (MaybeTarget K (scope_of g.site) into) p (kernel.AwaitCode (use_number s start) es d.slot into) (⊤ × U) w d last (call_walked c w) (parts_of start last (frame_each exp_passed frame_exp c.args inside ∙ frame_used start) ∙ parts_hid 1 d' ∙ parts_begun d) (λ m u. (u.1, m))
      (draft_made s t K g ds base (⊤ × U) w d' start last (call_walked c w) (hidden_step s t K g ds base 1 w d')
      (made_then s t K g ds base ⊤ U w start inside last (named role.Code c.code w) (exps_walked c.args) (goes_made s t K g ds base w start inside (named role.Code c.code w) (used_goes s K g ds base role.Code c.code w start)) (λ v. exps_made s t K g ds base c.args v inside)))

  -- ---- spawns

  begun_numbers : (d : Draft) → (begun d).numbers ≡ d.numbers
  unfolding begun
  begun_numbers d = refl

  pub used_numbers : (d : Draft) → (uses.used d).numbers ≡ d.numbers
  unfolding uses.used
  used_numbers d = refl

  number_later : (n k : ℕ) (d e : Draft) → Begins d.numbers e → slice_get d.numbers k ≡ Some n → slice_get e.numbers k ≡ Some n
  number_later n k d e more h = ap (λ xs. slice_get xs k) more.1 ∙ get_more d.numbers more.0 k n h

  abbrev SpawnGives : (alias : Option ℕ) → Spawn → Walk → Draft → Type 0
  SpawnGives alias x w d' =
      let behind = each exp_passed x.call.args (uses.used d') in
      AllOf (ExpHeld K g.site) (gathered (exp_written s t) exp_passed x.call.args (uses.used d')) × IsTrue (is_pool_of (use_number s d') (find (use_number s behind) g.site.seen)) ×
      (MaybeFor g.site.seen d'.numbers w.scopes x alias → MaybeAlias K (scope_of g.site) (use_number s d') (use_number s behind) alias)

  spawn_made : (alias : Option ℕ) (x : Spawn) (w : Walk) (d' : Draft) → Gives s t K g ds base w d' (spawn_walked x w) (uses.used (each exp_passed x.call.args (uses.used d'))) (SpawnGives alias x w d')
  spawn_made alias x w d' =
      let inside = uses.used d' in
      let behind = each exp_passed x.call.args inside in
      let last = uses.used behind in
      let U = AllOf (ExpHeld K g.site) (gathered (exp_written s t) exp_passed x.call.args inside) in
      always_then (λ (p : Known × Walk). Found s K g ds base role.Code x.call.code w d' p.0 p.1) (λ v. Made s t K g ds base w d' v last (SpawnGives alias x w d')) (used role.Code x.call.code w) (spawned x) (used_found s K g ds base role.Code x.call.code w d')
      (λ p found.
      always_then (λ u. Made s t K g ds base p.1 inside u behind U × (u.scopes ≡ p.1.scopes)) (λ v. Made s t K g ds base w d' v last (SpawnGives alias x w d')) (exps_walked x.call.args p.1) (pool_used p.0.number x.pool)
      (λ u k. (exps_made s t K g ds base x.call.args p.1 inside u k, exps_keep x.call.args p.1 u k))
      (λ u m v k.
      let q = pool_found s K g ds base p.0.number x.pool u behind v k in
      let front = step_then s K g ds base found.step m.0.step in
      record {
        step = step_then s K g ds base front q.found.step;
        so = λ fits begun both.
            let fits_u = q.found.step.fits fits in
            let fits_p = m.0.step.fits fits_u in
            let begun_u = q.found.step.begun begun in
            let begun_p = m.0.step.begun begun_u in
            let both_p = found.step.both fits_p begun_p both in
            let both_u = m.0.step.both fits_u begun_u both_p in
            let pool = q.known in
            let scopes : u.scopes ≡ w.scopes = m.1 ∙ found.scopes in
            let decl : decl_of w.scopes x.pool ≡ Ok pool = ap (λ sc. decl_of sc x.pool) (sym scopes) ∙ q.found.use_of.decl in
            let code = decl_stands s K g ds base x.call.code w d' p.0 found.use_of.decl both in
            let place = decl_stands s K g ds base x.pool w d' pool decl both in
            let is_code : use_number s d' ≡ code.number = use_is s d' p.0.number code.number (found.listed both.uses fits_p) code.is in
            let pool_later = number_later place.number pool.number d' behind front.more place.is in
            let is_place : use_number s behind ≡ place.number = use_is s behind pool.number place.number (q.found.listed both_u.uses fits) pool_later in
            let there = pool_shown s K g ds base x.pool u behind pool q.found.use_of.decl q.found.use_of.takes_it both_u in
            let fits_pool : is_pool_of code.number (find place.number g.site.seen) ≡ true =
            spawning.pool_found g.site.seen (both_u.limits pool.block) behind.numbers p.0 pool code.number place.number there (pool_is p.0.number pool q.unbroken) (number_later code.number p.0.number d' behind front.more code.is) pool_later in (
              m.0.so fits_u begun_u both_p,
              ap (λ n. is_pool_of (use_number s d') (find n g.site.seen)) is_place ∙ ap (λ n. is_pool_of n (find place.number g.site.seen)) is_code ∙ fits_pool,
              λ able.
                  subst (λ n. MaybeAlias K (scope_of g.site) (use_number s d') n alias) (sym is_place)
                  (subst (λ n. MaybeAlias K (scope_of g.site) n place.number alias) (sym is_code)
                  (maybe_alias K g.site d'.numbers w.scopes x alias p.0 pool code.number place.number able found.use_of.decl decl q.found.use_of.takes_it code.is place.is)),
            );
      }))

  pub spawned_parts : (alias : Option ℕ) (x : Spawn) (w : Walk) (d : Draft) → PartsIf s t K g ds base (MaybeFor g.site.seen d.numbers w.scopes x alias) w d (spawn_walked x w) (parts.spawned s t alias x d)
  unfolding parts.spawned StmtHeld
  spawned_parts alias x w d =
      let d' = begun d in
      let inside = uses.used d' in
      let behind = each exp_passed x.call.args inside in
      let es = gathered (exp_written s t) exp_passed x.call.args inside in
      let last = uses.used behind in
      of_made_if s t K g ds base (MaybeFor g.site.seen d.numbers w.scopes x alias) x.pos (kernel.Spawn (use_number s d') es (use_number s behind) alias) (SpawnGives alias x w d') w d last (spawn_walked x w)
      (parts_of d' last (frame_used behind ∙ frame_each exp_passed frame_exp x.call.args inside ∙ frame_used d') ∙ parts_begun d)
      (λ able u. (u.0, u.1, u.2 (subst (λ ns. MaybeFor g.site.seen ns w.scopes x alias) (sym (begun_numbers d)) able))) (spawn_made alias x w d')

  pub bare_spawn : (x : Spawn) (w : Walk) (d : Draft) → Parts s t K g ds base w d (spawn_walked x w) (parts.spawned s t None x d)
  bare_spawn x w d v e = let h = spawned_parts None x w d v e in record { step = h.step; sees = h.sees tt }

  -- ---- pools and aliases

  abbrev StartGives : Walk → Draft → (alias : ℕ) → Option Spawn → Type 0
  StartGives w d alias None = IsTrue (is_alias (find alias g.site.seen))
  StartGives w d alias (Some x) = AliasFor g.site.seen d.numbers w.scopes x alias

  started_parts : (p : Pos) (alias : ℕ) (x : Option Spawn) (w : Walk) (d : Draft) → PartsIf s t K g ds base (StartGives w d alias x) w d (if_spawn_walked x w) (started s t p alias x d)
  unfolding StmtHeld
  started_parts p alias None w d =
      of_made_if s t K g ds base (StartGives w d alias None) p (kernel.Unset alias) ⊤ w d (begun d) (Ok w) (parts_begun d) (λ m u. m) (still_made s t K g ds base ⊤ w (begun d) (begun d) (still s t K g ds base w (begun d)) tt)
  started_parts p alias (Some x) w d = spawned_parts (Some alias) x w d

  used_held : (d : Draft) → Holds K g.site d → Holds K g.site (uses.used d)
  used_held d held = holds_as K g.site d (uses.used d) (ap (λ p. p.list) (parts_of d (uses.used d) (frame_used d))) held

  -- the code of a pool or an alias has its number
  code_number : (code : Ident) (w v : Walk) (d : Draft) (k : Known) → Found s K g ds base role.Code code w d k v → Fits s v → Both s K g base w d → slice_get (uses.used d).numbers k.number ≡ Some (use_number s d)
  code_number code w v d k f fits b =
      let h = found_stands s K g ds base role.Code code w v d k f b in
      ap (λ ns. slice_get ns k.number) (used_numbers d) ∙ h.is ∙ ap Some (sym (use_is s d k.number h.number (f.listed b.uses fits) h.is))

  pub pool_parts : View g ds base → (places : ℕ) (code x : Ident) (w : Walk) (d : Draft) → Parts s t K g ds base w d (pool_walked code x w) (parts.pool_declared s places x d)
  unfolding parts.pool_declared
  pool_parts env places code x w d =
      let k = kind.Pool places (use_number s d) in
      let d' = uses.used d in
      let e = draft.declared k x d' in
      always_then (λ (p : Known × Walk). Found s K g ds base role.Code code w d p.0 p.1) (λ v. Part s t K g ds base w d v e) (used role.Code code w) (pool_declared x) (used_found s K g ds base role.Code code w d)
      (λ p found.
      let pool = fresh class.Pool p.0.number p.1 in
      always_then (λ y. Declares s K g ds base class.Pool ty.None None d'.parts.slot p.1 d' y e) (λ v. Part s t K g ds base w d v e) (declared class.Pool ty.None None x p.1) (shown x pool)
      (block_declares s K g ds base class.Pool ty.None None k x p.1 d')
      (λ y dec v is. record {
        step =
            step_shown s K g ds base x pool w y v d e (step_then s K g ds base found.step dec.step) is
            (λ fits begun o h.
            let fits_p = dec.step.fits fits in
            let o' = found.step.both fits_p (dec.step.begun begun) o in
            pool_entry s K g ds base places (use_number s d) ty.None None x p.0.number p.1 y d' env dec fits begun o' (code_number code w p.1 d p.0 found fits_p o) h);
        sees = λ fits begun both held. holds_as K g.site d' e (declared_counts s K g ds base k x d').3 (used_held d held);
      }))

  alias_starts : (env : View g ds base) (c : ℕ) (x : Ident) (code : ℕ) (start : Option Spawn) (w y : Walk) (d' : Draft) →
      let e = draft.declared (kind.Alias c) x d' in
      let alias = fresh class.Alias code w in
      Declares s K g ds base class.Alias ty.None (start_broken w.scopes start alias) d'.parts.slot w d' y e → Fits s y → Begun K ds e → Both s K g base w d' → slice_get d'.numbers code ≡ Some c → StartGives y e d'.parts.slot start
  alias_starts env c x code None w y d' dec fits begun o is = ap is_alias (own_slot s K g ds base (kind.Alias c) x d' env begun).there
  alias_starts env c x code (Some sp) w y d' dec fits begun o is =
      let e = draft.declared (kind.Alias c) x d' in
      let alias = fresh class.Alias code w in
      let h = dec.step.both fits begun o in
      let up = dec.blocks in
      let r = set_broken w.scopes sp alias in
      let entry = alias_entry s K g ds base c ty.None r x code w y y d' e env dec ([], append_none e.numbers) (omega (arith, up)) fits begun o is h.limits in
      let known = alias_of s K g ds base code h.limits w y e entry in
      alias_for g.site.seen h.limits base e.numbers y.scopes sp alias d'.parts.slot h.grows known.0 (known.1 d'.parts.slot (dec.number o.decls)) (ap (λ sc. set_broken sc sp alias) dec.scopes ∙ dec.unbroken)
      (λ pool decl pool_is. pool_shown s K g ds base sp.pool y e pool decl pool_is h)

  pub alias_parts : View g ds base → (p : Pos) (code x : Ident) (start : Option Spawn) (w : Walk) (d : Draft) → Parts s t K g ds base w d (alias_walked code x start w) (parts.alias_declared s t p x start d)
  unfolding parts.alias_declared uses.used
  alias_parts env p code x start w d =
      let k = kind.Alias (use_number s d) in
      let d' = uses.used d in
      let e = draft.declared k x d' in
      let c = started s t p d'.parts.slot start e in
      always_then (λ (q : Known × Walk). Found s K g ds base role.Code code w d q.0 q.1) (λ v. Part s t K g ds base w d v c) (used role.Code code w) (alias_declared x start) (used_found s K g ds base role.Code code w d)
      (λ q found.
      let alias = fresh class.Alias q.0.number q.1 in
      let r = start_broken q.1.scopes start alias in
      let Q : Walk → Type 0 = λ u. (y : Walk) × Declares s K g ds base class.Alias ty.None r d'.parts.slot q.1 d' y e × PartIf s t K g ds base (StartGives y e d'.parts.slot start) y e u c in
      always_then Q (λ v. Part s t K g ds base w d v c) (declared class.Alias ty.None r x q.1 >>= if_spawn_walked start) (shown x alias)
      (always_then (λ y. Declares s K g ds base class.Alias ty.None r d'.parts.slot q.1 d' y e) Q (declared class.Alias ty.None r x q.1) (if_spawn_walked start) (block_declares s K g ds base class.Alias ty.None r k x q.1 d')
      (λ y dec u j. (y, dec, started_parts p d'.parts.slot start y e u j)))
      (λ u all v is.
      let y = all.0 in
      let dec = all.1 in
      let part = all.2 in
      let front = step_then s K g ds base found.step dec.step in
      let step =
      step_shown s K g ds base x alias w u v d c (step_then s K g ds base front part.step) is
      (λ fits begun o h.
      let fits_y = part.step.fits fits in
      let begun_e = part.step.begun begun in
      let fits_q = dec.step.fits fits_y in
      let o' = found.step.both fits_q (dec.step.begun begun_e) o in
      let a = dec.step.blocks in
      let b = part.step.blocks in
      alias_entry s K g ds base (use_number s d) ty.None r x q.0.number q.1 y u d' c env dec part.step.more (omega (arith, a, b)) fits_y begun_e o' (code_number code w q.1 d q.0 found fits_q o) h.limits) in
      record {
        step = step;
        sees = λ fits begun both held.
            let fits_u = shown_fits x alias u v is fits in
            let fits_y = part.step.fits fits_u in
            let begun_e = part.step.begun begun in
            let fits_q = dec.step.fits fits_y in
            let o' = found.step.both fits_q (dec.step.begun begun_e) both in
            let starts = alias_starts env (use_number s d) x q.0.number start q.1 y d' dec fits_y begun_e o' (code_number code w q.1 d q.0 found fits_q both) in
            part.sees starts fits_u begun (dec.step.both fits_y begun_e o') (holds_as K g.site d' e (declared_counts s K g ds base k x d').3 (used_held d held));
      }))
    where
      shown_fits : (x : Ident) (k : Known) (u v : Walk) → shown x k u ≡ Ok v → Fits s v → Fits s u
      shown_fits x k u v is fits = (shown_step s K g ds base x k u d v is).fits fits

  -- ---- names that take no slots

  pub each_parts : {A : Type 0} (step : A → Walk → Result Walk Broken) (pass : A → Draft → Draft) → ((x : A) (w : Walk) (d : Draft) → Parts s t K g ds base w d (step x w) (pass x d)) → (xs : List A) (w : Walk) (d : Draft) → Parts s t K g ds base w d (walk.each step xs w) (each pass xs d)
  unfolding each walk.each
  each_parts step pass h [] w d = same_parts s t K g ds base w d d (Ok w) refl (always_ok (λ v. Step s K g ds base w d v d) w (still s t K g ds base w d))
  each_parts step pass h (x ∷ xs) w d = parts_then s t K g ds base w d (pass x d) (each pass xs (pass x d)) (step x w) (walk.each step xs) (h x w d) (λ v. each_parts step pass h xs v (pass x d))

  ident_goes : (c : Class) (u : Ty) (r : Option Rule) (x : Ident) (n : ℕ) (w : Walk) (d e : Draft) → e.uses ≡ d.uses → e.numbers ≡ d.numbers ++ n ∷ [] → d.slot ≤ e.slot → (Begun K ds e → Begun K ds d) →
      ((y : Walk) → Declares s K g ds base c u r n w d y e → Fits s y → Begun K ds e → Both s K g base w d → (limits : ℕ → ℕ) → Entry s K g ds base limits y e (fresh c 0 w)) → Goes s K g ds base w d (ident_declared c u r x w) e
  ident_goes c u r x n w d e us ns le begun entry =
      always_then (λ y. Declares s K g ds base c u r n w d y e) (λ v. Step s K g ds base w d v e) (declared c u r x w) (shown x (fresh c 0 w)) (declares s K g ds base c u r x n w d e us ns le begun)
      (λ y dec v is. step_shown s K g ds base x (fresh c 0 w) w y v d e dec.step is (λ fits begun o h. entry y dec fits begun o h.limits))

  pub event_parts : (code : Option ℕ) → code ≡ g.site.code → (u : Ty) (x : Ident) (w : Walk) (d : Draft) → Parts s t K g ds base w d (ident_declared class.Event u None x w) (event_declared code u x d)
  unfolding event_declared
  event_parts code same u x w d =
      same_parts s t K g ds base w d _ (ident_declared class.Event u None x w) refl
      (ident_goes class.Event u None x (length d.events) w d _ refl refl (omega arith)
      (λ h. record { more = h.more; is = h.is; lists = record { events = _ ∷ h.lists.events; events_are = h.lists.events_are ∙ append_assoc d.events (_ ∷ []) h.lists.events; inputs = h.lists.inputs; inputs_are = h.lists.inputs_are; outputs = h.lists.outputs; outputs_are = h.lists.outputs_are } })
      (λ y dec fits begun o limits. event_entry s K g ds base code u None x w y d same dec fits begun o limits))

  pub input_parts : (u : Ty) (x : Ident) (w : Walk) (d : Draft) → Parts s t K g ds base w d (port_declared class.Input u x w) (input_declared u x d)
  unfolding input_declared
  input_parts u x w d =
      same_parts s t K g ds base w d _ (port_declared class.Input u x w) refl
      (ident_goes class.Input u (inside_broken w.scopes) x (length d.inputs) w d _ refl refl (omega arith)
      (λ h. record { more = h.more; is = h.is; lists = record { events = h.lists.events; events_are = h.lists.events_are; inputs = _ ∷ h.lists.inputs; inputs_are = h.lists.inputs_are ∙ append_assoc d.inputs (_ ∷ []) h.lists.inputs; outputs = h.lists.outputs; outputs_are = h.lists.outputs_are } })
      (λ y dec fits begun o limits. input_entry s K g ds base u (inside_broken w.scopes) x w y d dec fits begun o limits))

  pub output_parts : (u : Ty) (x : Ident) (w : Walk) (d : Draft) → Parts s t K g ds base w d (port_declared class.Output u x w) (output_declared u x d)
  unfolding output_declared
  output_parts u x w d =
      same_parts s t K g ds base w d _ (port_declared class.Output u x w) refl
      (ident_goes class.Output u (inside_broken w.scopes) x (length d.outputs) w d _ refl refl (omega arith)
      (λ h. record { more = h.more; is = h.is; lists = record { events = h.lists.events; events_are = h.lists.events_are; inputs = h.lists.inputs; inputs_are = h.lists.inputs_are; outputs = _ ∷ h.lists.outputs; outputs_are = h.lists.outputs_are ∙ append_assoc d.outputs (_ ∷ []) h.lists.outputs } })
      (λ y dec fits begun o limits. output_entry s K g ds base u (inside_broken w.scopes) x w y d dec fits begun o limits))
