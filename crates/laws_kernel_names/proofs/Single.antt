-- Statements without blocks of the text name what is visible.
use Rattle.std.proofs.Common.{◌≡◌, refl, sym, ap, ◌∙◌, subst, ℕ, ◌≤◌, length, arith, List, [], ◌∷◌, ◌++◌, Option, Some, None, Result, Ok, Bool, true, false}
use Rattle.std.specs.Prelude.{⊤}
use Rattle.ceu_base.specs.declared.kinds.Ty.{Ty}
use Rattle.ceu_base.specs.declared.kinds.Ty.TheVariants as ty
use Rattle.ceu_base.specs.declared.kinds.Pos.{Pos}
use Rattle.ceu_base.specs.declared.kinds.Rule.{Rule}
use Rattle.ceu_tree.specs.declared.source.Class.{Class}
use Rattle.ceu_tree.specs.declared.source.Class.TheVariants as class
use Rattle.ceu_tree.specs.declared.source.Ident.{Ident}
use Rattle.ceu_tree.specs.declared.source.Call.{Call}
use Rattle.ceu_tree.specs.declared.source.Spawn.{Spawn}
use Rattle.ceu_tree.specs.declared.source.Target.{Target}
use Rattle.ceu_tree.specs.declared.source.Target.TheVariants as target
use Rattle.ceu_tree.specs.declared.source.Exp.{Exp}
use Rattle.ceu_tree.specs.declared.kernel.Loc.{Loc}
use Rattle.ceu_tree.specs.declared.kernel.KDecl.{KDecl}
use Rattle.ceu_tree.specs.declared.kernel.KKind.{KKind}
use Rattle.ceu_tree.specs.declared.kernel.KKind.TheVariants as kind
use Rattle.ceu_tree.specs.declared.kernel.KStmt as kernel
use Rattle.ceu_tree.specs.declared.kernel.KStmt.{KStmt, Row_of-KArm, end_of-KArm, more_of-KArm, items-the_row-KArm, items_hidden-the_row-KArm-0, items_hidden-the_row-KBlock-1, Row_of-KBlock, end_of-KBlock, more_of-KBlock, items-the_row-KBlock}
use Rattle.ceu_scopes.specs.declared.known.Known.{Known}
use Rattle.ceu_scopes.specs.declared.known.Role.TheVariants as role
use Rattle.ceu_scopes.specs.declared.known.Scopes.{Scopes}
use Rattle.ceu_scopes.specs.declared.walk.Walk.{Walk}
use Rattle.ceu_scopes.specs.Walk.{Broken, ◌>>=◌, opened, closed, shown, fresh, is_body}
use Rattle.ceu_scopes.specs.Walk as walk
use Rattle.ceu_scopes.specs.Rules.{is_variable, label_broken, used, named, pool_used, inside_broken, declared}
use Rattle.ceu_scopes.specs.Names.{exp_walked, exps_walked, if_exp_walked, call_walked, spawned, spawn_walked, if_spawn_walked, target_walked, ident_declared, port_declared, pool_declared, start_broken, alias_declared, pool_walked, alias_walked, escape_walked, emit_walked, leave_walked}
use Rattle.ceu_types.specs.declared.typing.Types.{Types}
use Rattle.ceu_expand.specs.declared.around.Around.{Around}
use Rattle.ceu_expand.specs.declared.draft.Draft.{Draft}
use Rattle.ceu_expand.specs.Draft as draft
use Rattle.ceu_expand.specs.Draft.{in_loop, in_do, begun, hidden, placed, outside, written, block_of, around_block, standing, event_declared, input_declared, output_declared, own}
use Rattle.ceu_expand.specs.Lists.{each, gathered}
use Rattle.ceu_expand.specs.Uses as uses
use Rattle.ceu_expand.specs.Uses.{names_output, use_number, variable, if_variable, if_used}
use Rattle.ceu_expand.specs.Expressions.{exp_passed, if_exp_passed, exp_written, if_exp_written}
use Rattle.ceu_expand.specs.Parts as parts
use Rattle.ceu_expand.specs.Parts.{simple, zeroed, nothing_in, assigned, sent, emitted, escaped, await_written, target_passed, target_awaited, broken_if, awaited_and_asked, awaited_until, code_awaited, awaited, started, killed, name_passed}
use Rattle.laws_kernel_shape.specs.Shaped.{AllOf}
use Rattle.laws_kernel_shape.proofs.Steps.{Always, always_ok, always_checked, always_then}
use Rattle.ceu_tree.specs.Numbering.{decl_slots}
use Rattle.ceu_tree.specs.Proper.{Seen, IsVariable, find, declared_seen}
use Rattle.laws_kernel_shape.proofs.Frames.{frame_used, frame_exp, frame_if_exp, frame_each, frame_target}
use Rattle.laws_kernel_shape.proofs.Inside.{append_assoc}
use Rattle.laws_kernel_shape.proofs.Runs.{Runs}
use Rattle.laws_kernel_names.specs.Sees.{TargetSeen, MaybeTarget, NodeSeen, ExpSeen, MaybeExp, StmtSeen}
use Rattle.laws_kernel_names.proofs.Views.{find_own, slot_within, Means}
use Rattle.laws_kernel_names.proofs.Seeing.{Fits, Begun, View, Both, Step, step_then, Goes, goes_then, Found, used_found, used_goes, pool_goes, Declares, declares, shown_goes}
use Rattle.laws_kernel_names.proofs.Looking.{Made, Gives, made_then, goes_made, still, still_made, draft_made, exp_made, exps_made, if_exp_made}
use Rattle.laws_kernel_names.proofs.Holding.{holds_as, parts_of, parts_hid, always_map, parts_begun, Part, PartsIf, Parts, part_then, parts_then, same_parts, hidden_step, of_made, of_made_if, simple_parts}

module _ (s : Scopes) (t : Types) where
  module _ (view : List Seen) (ds : List KDecl) (base : ℕ) where
    -- ---- assignments, emissions, escapes

    pub assigned_parts : (p : Pos) (into : Loc) (e : Exp) (w : Walk) (d : Draft) → PartsIf s t view ds base (TargetSeen view into) w d (exp_walked e w) (assigned s t p into e d)
    unfolding StmtSeen
    assigned_parts p into e w d =
        of_made_if s t view ds base (TargetSeen view into) p (kernel.Assign into (exp_written s t e (begun d))) (ExpSeen view (exp_written s t e (begun d))) w d (exp_passed e (begun d)) (exp_walked e w) (parts_of (begun d) (exp_passed e (begun d)) (frame_exp e (begun d)) ∙ parts_begun d)
        (λ target u. (target, u)) (exp_made s t view ds base e w (begun d))

    sent_seen : (b : Bool) (n : ℕ) (e : Option Exp) (c : Draft) → MaybeExp view (if_exp_written s t e c) → StmtSeen view (sent s t b n e c)
    unfolding StmtSeen
    sent_seen true n e c u = u
    sent_seen false n e c u = u

    pub emitted_parts : (p : Pos) (x : Ident) (e : Option Exp) (w : Walk) (d : Draft) → Parts s t view ds base w d (emit_walked x e w) (emitted s t p e d)
    unfolding emitted
    emitted_parts p x e w d =
        let d' = begun d in
        let c = if_exp_passed e (uses.used d') in
        let U = MaybeExp view (if_exp_written s t e (uses.used d')) in
        of_made s t view ds base p (sent s t (names_output s d'.uses) (use_number s d') e (uses.used d')) (⊤ × U) w d c (emit_walked x e w) (parts_of d' c (frame_if_exp e (uses.used d') ∙ frame_used d') ∙ parts_begun d)
        (λ u. sent_seen (names_output s d'.uses) (use_number s d') e (uses.used d') u.1)
        (made_then s t view ds base ⊤ U w d' (uses.used d') c (named role.Emitted x w) (if_exp_walked e) (goes_made s t view ds base w d' (uses.used d') (named role.Emitted x w) (used_goes s view ds base role.Emitted x w d'))
        (λ v. if_exp_made s t view ds base e v (uses.used d')))

    escape_made : (l : Option Ident) (w : Walk) (d : Draft) → Gives s t view ds base w d (escape_walked l w) d ⊤
    escape_made None w d = still_made s t view ds base ⊤ w d d (still s t view ds base w d) tt
    escape_made (Some l) w d = always_checked (λ v. Made s t view ds base w d v d ⊤) (label_broken w.labels l) l.pos w (record { step = still s t view ds base w d; so = λ a b c. tt })

    pub escaped_parts : (a : Around) (p : Pos) (l : Option Ident) (e : Option Exp) (w : Walk) (d : Draft) → Parts s t view ds base w d (leave_walked l e w) (escaped s t a p l e d)
    unfolding escaped StmtSeen
    escaped_parts a p l e w d =
        let d' = begun d in
        let c = if_exp_passed e d' in
        let U = MaybeExp view (if_exp_written s t e d') in
        of_made s t view ds base p (kernel.Escape (uses.target a l d) (if_exp_written s t e d')) (⊤ × U) w d c (leave_walked l e w) (parts_of d' c (frame_if_exp e d') ∙ parts_begun d) (λ u. u.1)
        (made_then s t view ds base ⊤ U w d' d' c (escape_walked l w) (if_exp_walked e) (escape_made l w d') (λ v. if_exp_made s t view ds base e v d'))

    pub killed_parts : (p : Pos) (x : Ident) (w : Walk) (d : Draft) → Parts s t view ds base w d (named role.Alias x w) (killed s p d)
    unfolding killed StmtSeen
    killed_parts p x w d =
        of_made s t view ds base p (kernel.Kill (use_number s (begun d))) ⊤ w d (uses.used (begun d)) (named role.Alias x w) (parts_of (begun d) (uses.used (begun d)) (frame_used (begun d)) ∙ parts_begun d) (λ u. u)
        (goes_made s t view ds base w (begun d) (uses.used (begun d)) (named role.Alias x w) (used_goes s view ds base role.Alias x w (begun d)))

    -- ---- awaits

    abbrev AwaitGives : Target → Draft → Type 0
    AwaitGives (target.TimeExp e u) d = ExpSeen view (exp_written s t e d)
    AwaitGives _ d = ⊤

    target_made : (x : Target) (w : Walk) (d : Draft) → Gives s t view ds base w d (target_walked x w) (target_passed x d) (AwaitGives x d)
    unfolding target_passed
    target_made (target.Ext x) w d = goes_made s t view ds base w d (uses.used d) (named role.Input x w) (used_goes s view ds base role.Input x w d)
    target_made (target.Event x) w d = goes_made s t view ds base w d (uses.used d) (named role.Event x w) (used_goes s view ds base role.Event x w d)
    target_made (target.Time us) w d = still_made s t view ds base ⊤ w d d (still s t view ds base w d) tt
    target_made (target.TimeExp e u) w d = exp_made s t view ds base e w d

    await_seen : (p : Pos) (into : Option Loc) (x : Target) (c : Draft) → MaybeTarget view into → AwaitGives x c → StmtSeen view (await_written s t p into x c)
    unfolding await_written StmtSeen NodeSeen
    await_seen p into (target.Ext x) c m u = m
    await_seen p into (target.Event x) c m u = m
    await_seen p into (target.Time us) c m u = (tt, m)
    await_seen p into (target.TimeExp e unit) c m u = (u, m)

    pub target_parts : (p : Pos) (into : Option Loc) (x : Target) (w : Walk) (d : Draft) → PartsIf s t view ds base (MaybeTarget view into) w d (target_walked x w) (target_awaited s t p into x d)
    unfolding target_awaited
    target_parts p into x w d =
        of_made_if s t view ds base (MaybeTarget view into) p (await_written s t p into x (begun d)) (AwaitGives x (begun d)) w d (target_passed x (begun d)) (target_walked x w) (parts_of (begun d) (target_passed x (begun d)) (frame_target x (begun d)) ∙ parts_begun d)
        (λ m u. await_seen p into x (begun d) m u) (target_made x w (begun d))

    pub code_parts : (p : Pos) (into : Option Loc) (c : Call) (w : Walk) (d : Draft) → PartsIf s t view ds base (MaybeTarget view into) w d (call_walked c w) (code_awaited s t p into c d)
    unfolding code_awaited StmtSeen
    code_parts p into c w d =
        let d' = begun d in
        let start = hidden 1 d' in
        let inside = uses.used start in
        let last = each exp_passed c.args inside in
        let es = gathered (exp_written s t) exp_passed c.args inside in
        let U = AllOf (ExpSeen view) es in
        of_made_if s t view ds base (MaybeTarget view into) p (kernel.AwaitCode (use_number s start) es d.slot into) (⊤ × U) w d last (call_walked c w) (parts_of start last (frame_each exp_passed frame_exp c.args inside ∙ frame_used start) ∙ parts_hid 1 d' ∙ parts_begun d) (λ m u. (u.1, m))
        (draft_made s t view ds base (⊤ × U) w d' start last (call_walked c w) (hidden_step s t view ds base 1 w d')
        (made_then s t view ds base ⊤ U w start inside last (named role.Code c.code w) (exps_walked c.args) (goes_made s t view ds base w start inside (named role.Code c.code w) (used_goes s view ds base role.Code c.code w start)) (λ v. exps_made s t view ds base c.args v inside)))

    -- ---- spawns, pools and aliases

    pub spawned_parts : (alias : Option ℕ) (x : Spawn) (w : Walk) (d : Draft) → Parts s t view ds base w d (spawn_walked x w) (parts.spawned s t alias x d)
    unfolding parts.spawned StmtSeen
    spawned_parts alias x w d =
        let d' = begun d in
        let inside = uses.used d' in
        let behind = each exp_passed x.call.args inside in
        let es = gathered (exp_written s t) exp_passed x.call.args inside in
        let U = AllOf (ExpSeen view) es in
        let last = uses.used behind in
        of_made s t view ds base x.pos (kernel.Spawn (use_number s d') es (use_number s behind) alias) U w d last (spawn_walked x w) (parts_of d' last (frame_used behind ∙ frame_each exp_passed frame_exp x.call.args inside ∙ frame_used d') ∙ parts_begun d) (λ u. u)
        (always_then (λ (p : Known × Walk). Found s view ds base role.Code x.call.code w d' p.0 p.1) (λ v. Made s t view ds base w d' v last U) (used role.Code x.call.code w) (spawned x) (used_found s view ds base role.Code x.call.code w d')
        (λ p found v k.
        let m = made_then s t view ds base U ⊤ p.1 inside behind last (exps_walked x.call.args p.1) (pool_used p.0.number x.pool) (exps_made s t view ds base x.call.args p.1 inside)
        (λ u. goes_made s t view ds base u behind last (pool_used p.0.number x.pool u) (pool_goes s view ds base p.0.number x.pool u behind)) v k in
        record {
          step = step_then s view ds base found.step m.step;
          so = λ fits begun both. (m.so fits begun (found.step.both (m.step.fits fits) (m.step.begun begun) both)).0;
        }))

    started_parts : (p : Pos) (alias : ℕ) (x : Option Spawn) (w : Walk) (d : Draft) → Parts s t view ds base w d (if_spawn_walked x w) (started s t p alias x d)
    unfolding StmtSeen
    started_parts p alias None w d = simple_parts s t view ds base p (kernel.Unset alias) w d tt
    started_parts p alias (Some x) w d = spawned_parts (Some alias) x w d

    declared_begun : (k : KKind) (x : Ident) (d : Draft) → Begun ds (draft.declared k x d) → Begun ds d
    unfolding draft.declared
    declared_begun k x d h = record { more = _ ∷ h.more; is = h.is ∙ append_assoc d.parts.decls (_ ∷ []) h.more }

    pub declared_counts : (k : KKind) (x : Ident) (d : Draft) → ((draft.declared k x d).uses ≡ d.uses) × ((draft.declared k x d).numbers ≡ d.numbers ++ d.parts.slot ∷ []) × (d.slot ≤ (draft.declared k x d).slot) × ((draft.declared k x d).parts.list ≡ d.parts.list)
    unfolding draft.declared
    declared_counts k x d = (refl, refl, omega arith, refl)

    -- a name of the block is declared
    pub block_declares : (c : Class) (u : Ty) (r : Option Rule) (k : KKind) (x : Ident) (w : Walk) (d : Draft) → Always (λ v. Declares s view ds base u d.parts.slot w d v (draft.declared k x d)) (declared c u r x w)
    block_declares c u r k x w d = let h = declared_counts k x d in declares s view ds base c u r x d.parts.slot w d (draft.declared k x d) h.0 h.1 h.2 (declared_begun k x d)

    fresh_means : (c : Class) (n : ℕ) (w : Walk) (numbers : List ℕ) → is_variable c ≡ false → Means s view base numbers (fresh c n w)
    unfolding fresh
    fresh_means class.Event n w numbers h = tt
    fresh_means class.Alias n w numbers h = tt
    fresh_means class.Pool n w numbers h = tt
    fresh_means class.Input n w numbers h = tt
    fresh_means class.Output n w numbers h = tt
    fresh_means class.Code n w numbers h = tt
    fresh_means class.Var n w numbers h = absurd (cc)
    fresh_means class.Param n w numbers h = absurd (cc)
    fresh_means class.LoopVar n w numbers h = absurd (cc)

    declared_parts : (c : Class) (u : Ty) (r : Option Rule) (k : KKind) (x : Ident) (w : Walk) (d : Draft) → Parts s t view ds base w d (declared c u r x w) (draft.declared k x d)
    declared_parts c u r k x w d =
        let h = declared_counts k x d in
        always_map (λ v. Declares s view ds base u d.parts.slot w d v (draft.declared k x d)) (λ v. Part s t view ds base w d v (draft.declared k x d)) (declared c u r x w)
        (λ v m. record { step = m.step; sees = λ fits begun both held. holds_as view d (draft.declared k x d) h.3 held }) (block_declares c u r k x w d)

    shown_parts : (x : Ident) (k : Known) (w : Walk) (d : Draft) → Means s view base d.numbers k → Parts s t view ds base w d (shown x k w) d
    shown_parts x k w d m = same_parts s t view ds base w d d (shown x k w) refl (shown_goes s view ds base x k w d m)

    used_parts : (r : _) (x : Ident) (w : Walk) (d : Draft) → Always (λ (p : Known × Walk). Part s t view ds base w d p.1 (uses.used d)) (used r x w)
    used_parts r x w d p e = let f = used_found s view ds base r x w d p e in record { step = f.step; sees = λ fits begun both held. holds_as view d (uses.used d) (ap (λ p. p.list) (parts_of d (uses.used d) (frame_used d))) held }

    pub pool_parts : (places : ℕ) (code x : Ident) (w : Walk) (d : Draft) → Parts s t view ds base w d (pool_walked code x w) (parts.pool_declared s places x d)
    unfolding parts.pool_declared
    pool_parts places code x w d =
        let k = kind.Pool places (use_number s d) in
        let e = draft.declared k x (uses.used d) in
        always_then (λ (p : Known × Walk). Part s t view ds base w d p.1 (uses.used d)) (λ v. Part s t view ds base w d v e) (used role.Code code w) (pool_declared x) (used_parts role.Code code w d)
        (λ p part v h.
        part_then s t view ds base part
        (parts_then s t view ds base p.1 (uses.used d) e e (declared class.Pool ty.None None x p.1) (shown x (fresh class.Pool p.0.number p.1)) (declared_parts class.Pool ty.None None k x p.1 (uses.used d))
        (λ u. shown_parts x (fresh class.Pool p.0.number p.1) u e (fresh_means class.Pool p.0.number p.1 e.numbers refl)) v h))

    pub alias_parts : (p : Pos) (code x : Ident) (start : Option Spawn) (w : Walk) (d : Draft) → Parts s t view ds base w d (alias_walked code x start w) (parts.alias_declared s t p x start d)
    unfolding parts.alias_declared
    alias_parts p code x start w d =
        let k = kind.Alias (use_number s d) in
        let d' = uses.used d in
        let e = draft.declared k x d' in
        let c = started s t p d.parts.slot start e in
        always_then (λ (q : Known × Walk). Part s t view ds base w d q.1 d') (λ v. Part s t view ds base w d v c) (used role.Code code w) (alias_declared x start) (used_parts role.Code code w d)
        (λ q part v h.
        let alias = fresh class.Alias q.0.number q.1 in
        let r = start_broken q.1.scopes start alias in
        part_then s t view ds base part
        (parts_then s t view ds base q.1 d' c c (declared class.Alias ty.None r x q.1 >>= if_spawn_walked start) (shown x alias)
        (parts_then s t view ds base q.1 d' e c (declared class.Alias ty.None r x q.1) (if_spawn_walked start) (declared_parts class.Alias ty.None r k x q.1 d') (λ u. started_parts p d.parts.slot start u e))
        (λ u. shown_parts x alias u c (fresh_means class.Alias q.0.number q.1 c.numbers refl)) v h))

    -- ---- names that take no slots

    pub each_parts : {A : Type 0} (step : A → Walk → Result Walk Broken) (pass : A → Draft → Draft) → ((x : A) (w : Walk) (d : Draft) → Parts s t view ds base w d (step x w) (pass x d)) → (xs : List A) (w : Walk) (d : Draft) → Parts s t view ds base w d (walk.each step xs w) (each pass xs d)
    unfolding each walk.each
    each_parts step pass h [] w d = same_parts s t view ds base w d d (Ok w) refl (always_ok (λ v. Step s view ds base w d v d) w (still s t view ds base w d))
    each_parts step pass h (x ∷ xs) w d = parts_then s t view ds base w d (pass x d) (each pass xs (pass x d)) (step x w) (walk.each step xs) (h x w d) (λ v. each_parts step pass h xs v (pass x d))

    ident_goes : (c : Class) (u : Ty) (r : Option Rule) (x : Ident) (n : ℕ) (w : Walk) (d e : Draft) → is_variable c ≡ false → e.uses ≡ d.uses → e.numbers ≡ d.numbers ++ n ∷ [] → d.slot ≤ e.slot → (Begun ds e → Begun ds d) → Goes s view ds base w d (ident_declared c u r x w) e
    ident_goes c u r x n w d e other us ns le begun =
        goes_then s view ds base w d e e (declared c u r x w) (shown x (fresh c 0 w)) (λ v k. (declares s view ds base c u r x n w d e us ns le begun v k).step)
        (λ v. shown_goes s view ds base x (fresh c 0 w) v e (fresh_means c 0 w e.numbers other))

    pub event_parts : (code : Option ℕ) (u : Ty) (x : Ident) (w : Walk) (d : Draft) → Parts s t view ds base w d (ident_declared class.Event u None x w) (event_declared code u x d)
    unfolding event_declared
    event_parts code u x w d = same_parts s t view ds base w d _ (ident_declared class.Event u None x w) refl (ident_goes class.Event u None x (length d.events) w d _ refl refl refl (omega arith) (λ h. record { more = h.more; is = h.is }))

    pub input_parts : (u : Ty) (x : Ident) (w : Walk) (d : Draft) → Parts s t view ds base w d (port_declared class.Input u x w) (input_declared u x d)
    unfolding input_declared
    input_parts u x w d = same_parts s t view ds base w d _ (port_declared class.Input u x w) refl (ident_goes class.Input u (inside_broken w.scopes) x (length d.inputs) w d _ refl refl refl (omega arith) (λ h. record { more = h.more; is = h.is }))

    pub output_parts : (u : Ty) (x : Ident) (w : Walk) (d : Draft) → Parts s t view ds base w d (port_declared class.Output u x w) (output_declared u x d)
    unfolding output_declared
    output_parts u x w d = same_parts s t view ds base w d _ (port_declared class.Output u x w) refl (ident_goes class.Output u (inside_broken w.scopes) x (length d.outputs) w d _ refl refl refl (omega arith) (λ h. record { more = h.more; is = h.is }))

    -- ---- a variable of the block

    pub var_means : (u : Ty) (x : Ident) (w : Walk) (d : Draft) (e : Draft) (v : Walk) → View view ds base → Declares s view ds base u d.parts.slot w d v e → e ≡ draft.declared (kind.Var u) x d → Fits s v → Begun ds e → Both s view base w d → Means s view base e.numbers (fresh class.Var 0 w)
    unfolding fresh draft.declared
    var_means u x w d e v env m same fits begun both =
        let own : KDecl = record { slot = d.parts.slot; kind = kind.Var u; name = x.name; pos = x.pos } in
        let all : ds ≡ d.parts.decls ++ own ∷ begun.more = begun.is ∙ ap (λ (c : Draft). c.parts.decls ++ begun.more) same ∙ append_assoc d.parts.decls (own ∷ []) begun.more in
        let runs : Runs env.first (decl_slots (d.parts.decls ++ own ∷ begun.more)) base = subst (λ xs. Runs env.first (decl_slots xs) base) all env.runs in
        let is_view : view ≡ declared_seen env.pools (d.parts.decls ++ own ∷ begun.more) env.older = env.is ∙ ap (λ xs. declared_seen env.pools xs env.older) all in
        record {
          number = d.parts.slot;
          is = m.number both.decls;
          below = (slot_within d.parts.decls own begun.more env.first base runs).1;
          there = ap (find d.parts.slot) is_view ∙ find_own env.pools d.parts.decls own begun.more env.older env.first base runs ∙ ap (λ u. Some (IsVariable u)) (sym (m.type fits));
        }
