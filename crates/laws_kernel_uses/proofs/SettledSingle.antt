-- Statements without blocks of the text name no slot but those that are shown, and the slot that they set.
use Rattle.std.proofs.Common.{◌≡◌, refl, ◌∙◌, subst, ℕ, length, arith, List, [], ◌∷◌, ◌++◌, Option, Some, None, Result, Ok, Bool, true, false}
use Rattle.std.specs.Prelude.{⊤, ◌==◌}
use Rattle.ceu_base.specs.declared.kinds.Ty.{Ty}
use Rattle.ceu_base.specs.declared.kinds.Ty.TheVariants as ty
use Rattle.ceu_base.specs.declared.kinds.Pos.{Pos}
use Rattle.ceu_base.specs.declared.kinds.Rule.{Rule}
use Rattle.ceu_tree.specs.declared.source.Class.{Class}
use Rattle.ceu_tree.specs.declared.source.Class.TheVariants as class
use Rattle.ceu_tree.specs.declared.source.Ident.{Ident}
use Rattle.ceu_tree.specs.declared.source.Call.{Call}
use Rattle.ceu_tree.specs.declared.source.Spawn.{Spawn}
use Rattle.ceu_tree.specs.declared.source.Target.{Target}
use Rattle.ceu_tree.specs.declared.source.Target.TheVariants as target
use Rattle.ceu_tree.specs.declared.source.Exp.{Exp}
use Rattle.ceu_tree.specs.declared.kernel.Loc.{Loc}
use Rattle.ceu_tree.specs.declared.kernel.KExp.{KExp}
use Rattle.ceu_tree.specs.declared.kernel.KKind.TheVariants as kind
use Rattle.ceu_tree.specs.declared.kernel.KStmt as kernel
use Rattle.ceu_tree.specs.declared.kernel.KStmt.{KStmt}
use Rattle.ceu_tree.specs.Mentions.{named_by, loc_names, own_names, maybe_loc, maybe_own, node_names, exp_names, maybe_exp, exps_names, stmt_names, count_of, sets, is_loc}
use Rattle.ceu_scopes.specs.declared.known.Known.{Known}
use Rattle.ceu_scopes.specs.declared.known.Role.{Role}
use Rattle.ceu_scopes.specs.declared.known.Role.TheVariants as role
use Rattle.ceu_scopes.specs.declared.known.Scopes.{Scopes}
use Rattle.ceu_scopes.specs.declared.walk.Walk.{Walk}
use Rattle.ceu_scopes.specs.Walk.{Broken, ◌>>=◌, shown, fresh}
use Rattle.ceu_scopes.specs.Walk as walk
use Rattle.ceu_scopes.specs.Rules.{label_broken, used, named, pool_used, inside_broken, declared, is_code}
use Rattle.ceu_scopes.specs.Names.{exp_walked, exps_walked, if_exp_walked, call_walked, spawned, spawn_walked, if_spawn_walked, target_walked, ident_declared, port_declared, pool_declared, start_broken, alias_declared, pool_walked, alias_walked, escape_walked, emit_walked, leave_walked}
use Rattle.ceu_types.specs.declared.typing.Types.{Types}
use Rattle.ceu_expand.specs.declared.around.Around.{Around}
use Rattle.ceu_expand.specs.declared.draft.Draft.{Draft}
use Rattle.ceu_expand.specs.Draft as draft
use Rattle.ceu_expand.specs.Draft.{begun, hidden, placed, event_declared, input_declared, output_declared}
use Rattle.ceu_expand.specs.Lists.{each, gathered}
use Rattle.ceu_expand.specs.Uses as uses
use Rattle.ceu_expand.specs.Uses.{names_output, use_number, variable}
use Rattle.ceu_expand.specs.Expressions.{exp_passed, if_exp_passed, exp_written, if_exp_written}
use Rattle.ceu_expand.specs.Parts as parts
use Rattle.ceu_expand.specs.Parts.{simple, zeroed, assigned, sent, emitted, escaped, await_written, target_passed, target_awaited, code_awaited, started, killed}
use Rattle.laws_kernel_shape.proofs.Steps.{Always, always_ok, always_checked, always_then}
use Rattle.laws_kernel_shape.proofs.Frames.{frame_used, frame_exp, frame_if_exp, frame_each, frame_target}
use Rattle.laws_kernel_names.proofs.Holding.{parts_of, parts_hid, parts_begun}
use Rattle.laws_kernel_uses.specs.Settled.{StmtSettled}
use Rattle.laws_kernel_uses.proofs.Absent.{eq_true, count_append, count_once, own_other}
use Rattle.laws_kernel_uses.proofs.Knowing.{is_slotted, Step, Goes, still, used_found, named_found, pool_found, code_other, Declares, declares, shown_shows}
use Rattle.laws_kernel_uses.proofs.Passing.{no_names, Made, Gives, made_join, made_then, made_step, goes_made, calm_made, draft_made, alias_made, used_goes, exp_made, exps_made, if_exp_made}
use Rattle.laws_kernel_uses.proofs.Parts.{PutsBy, hidden_step, put, Part, PartBy, part_then, parts_then, plain_part, same_part, fresh_other, decl_part, bare_part}

abbrev pub slot_of : Option Loc → Option ℕ
slot_of None = None
slot_of (Some l) = Some l.slot

module _ (T : List (List ℕ)) where
  abbrev pub loc_target : Option Loc → Bool → List ℕ
  loc_target into own = maybe_loc own T into

  pub target_is : (into : Option Loc) (m : ℕ) → slot_of into ≡ Some m → is_loc m into ≡ true
  target_is None m h = absurd (cc)
  target_is (Some l) m h = let same : l.slot ≡ m = cc in subst (λ i. (l.slot == i) ≡ true) same (eq_true l.slot)

  some_is : (l m : ℕ) → Some l ≡ Some m → (l == m) ≡ true
  some_is l m h = let same : l ≡ m = cc in subst (λ i. (l == i) ≡ true) same (eq_true l)

  -- names behind the target, or before it
  pub target_first : (n : ℕ) (xs ys : List ℕ) → count_of n ys ≡ 0 → count_of n (xs ++ ys) ≡ count_of n xs
  target_first n xs ys h = let e = count_append n xs ys in omega (arith, e, h)

  target_last : (n : ℕ) (xs ys : List ℕ) → count_of n xs ≡ 0 → count_of n (xs ++ ys) ≡ count_of n ys
  target_last n xs ys h = let e = count_append n xs ys in omega (arith, e, h)

  module _ (s : Scopes) (t : Types) where
    -- ---- statements without parts

    pub simple_put : (p : Pos) (st : KStmt) (slot : Option ℕ) (target : Bool → List ℕ) (w : Walk) (d : Draft) → ((m : ℕ) → slot ≡ Some m → sets m st ≡ true) → ((n : ℕ) (own : Bool) → count_of n (stmt_names own T st) ≡ count_of n (target own)) → StmtSettled T st →
        PutsBy T s w d (Ok w) (simple p st d) slot target
    simple_put p st slot target w d set count stands =
        put T s p st no_names ⊤ slot target w d (begun d) (Ok w) (parts_begun d) set (λ n own h. count n own) (λ u. stands) (calm_made T s w (begun d) (begun d) (still T s w (begun d)))

    pub simple_part : (p : Pos) (st : KStmt) (w : Walk) (d : Draft) → ((n : ℕ) (own : Bool) → count_of n (stmt_names own T st) ≡ 0) → StmtSettled T st → PartBy T s w d (Ok w) (simple p st d)
    simple_part p st w d count stands = plain_part T s w d (simple p st d) (Ok w) (simple_put p st None no_names w d (λ m e. absurd (cc)) count stands)

    pub zeroed_put : (p : Pos) (into : Loc) (w : Walk) (d : Draft) → PutsBy T s w d (Ok w) (zeroed p into d) (Some into.slot) (loc_target (Some into))
    unfolding stmt_names node_names StmtSettled
    zeroed_put p into w d = simple_put p _ (Some into.slot) (loc_target (Some into)) w d (some_is into.slot) (λ n own. target_first n (loc_names own T into) [] refl) tt

    -- ---- assignments, emissions, escapes

    pub assigned_put : (p : Pos) (into : Loc) (e : Exp) (w : Walk) (d : Draft) → PutsBy T s w d (exp_walked e w) (assigned s t p into e d) (Some into.slot) (loc_target (Some into))
    unfolding stmt_names StmtSettled
    assigned_put p into e w d =
        let made = exp_written s t e (begun d) in
        put T s p (kernel.Assign into made) (λ own. exp_names own T (exp_written s t e (begun d))) ⊤ (Some into.slot) (loc_target (Some into)) w d (exp_passed e (begun d)) (exp_walked e w) (parts_of (begun d) (exp_passed e (begun d)) (frame_exp e (begun d)) ∙ parts_begun d) (some_is into.slot)
        (λ n own h. target_first n (loc_names own T into) (exp_names own T (exp_written s t e (begun d))) h) (λ u. tt) (exp_made T s t e w (begun d))

    sent_absent : (b own : Bool) (m n : ℕ) (e : Option Exp) (c : Draft) → count_of n (maybe_exp own T (if_exp_written s t e c)) ≡ 0 → count_of n (stmt_names own T (sent s t b m e c)) ≡ 0
    unfolding stmt_names
    sent_absent true own m n e c u = u
    sent_absent false own m n e c u = u

    sent_settled : (b : Bool) (m : ℕ) (e : Option Exp) (c : Draft) → StmtSettled T (sent s t b m e c)
    unfolding StmtSettled
    sent_settled true m e c = tt
    sent_settled false m e c = tt

    pub emitted_part : (p : Pos) (x : Ident) (e : Option Exp) (w : Walk) (d : Draft) → PartBy T s w d (emit_walked x e w) (emitted s t p e d)
    unfolding emitted
    emitted_part p x e w d =
        let d' = begun d in
        let c = if_exp_passed e (uses.used d') in
        let b = names_output s d'.uses in
        let m = use_number s d' in
        plain_part T s w d _ (emit_walked x e w)
        (put T s p (sent s t b m e (uses.used d')) (λ own. [] ++ maybe_exp own T (if_exp_written s t e (uses.used (begun d)))) (⊤ × ⊤) None no_names w d c (emit_walked x e w) (parts_of d' c (frame_if_exp e (uses.used d') ∙ frame_used d') ∙ parts_begun d) (λ m e. absurd (cc))
        (λ n own u. sent_absent b own m n e (uses.used d') u) (λ u. sent_settled b m e (uses.used d'))
        (made_then T s no_names (λ own. maybe_exp own T (if_exp_written s t e (uses.used (begun d)))) ⊤ ⊤ w d' (uses.used d') c (named role.Emitted x w) (if_exp_walked e) (goes_made T s w d' (uses.used d') (named role.Emitted x w) (used_goes T s t role.Emitted x w d')) (λ v. if_exp_made T s t e v (uses.used d'))))

    escape_made : (l : Option Ident) (w : Walk) (d : Draft) → Gives T s w d (escape_walked l w) d no_names ⊤
    escape_made None w d = calm_made T s w d d (still T s w d)
    escape_made (Some l) w d = always_checked (λ v. Made T s w d v d no_names ⊤) (label_broken w.labels l) l.pos w (record { step = still T s w d; so = λ fits n o k own. refl; whole = λ fits top up c. tt })

    pub escaped_part : (a : Around) (p : Pos) (l : Option Ident) (e : Option Exp) (w : Walk) (d : Draft) → PartBy T s w d (leave_walked l e w) (escaped s t a p l e d)
    unfolding escaped stmt_names StmtSettled
    escaped_part a p l e w d =
        let d' = begun d in
        let c = if_exp_passed e d' in
        plain_part T s w d _ (leave_walked l e w)
        (put T s p (kernel.Escape (uses.target a l d) (if_exp_written s t e d')) (λ own. [] ++ maybe_exp own T (if_exp_written s t e (begun d))) (⊤ × ⊤) None no_names w d c (leave_walked l e w) (parts_of d' c (frame_if_exp e d') ∙ parts_begun d) (λ m e. absurd (cc)) (λ n own u. u) (λ u. tt)
        (made_then T s no_names (λ own. maybe_exp own T (if_exp_written s t e (begun d))) ⊤ ⊤ w d' d' c (escape_walked l w) (if_exp_walked e) (escape_made l w d') (λ v. if_exp_made T s t e v d')))

    pub killed_part : (p : Pos) (x : Ident) (w : Walk) (d : Draft) → PartBy T s w d (named role.Alias x w) (killed s p d)
    unfolding killed stmt_names StmtSettled
    killed_part p x w d =
        plain_part T s w d _ (named role.Alias x w)
        (put T s p (kernel.Kill (use_number s (begun d))) (λ own. own_names own T (use_number s (begun d))) ⊤ None no_names w d (uses.used (begun d)) (named role.Alias x w) (parts_of (begun d) (uses.used (begun d)) (frame_used (begun d)) ∙ parts_begun d) (λ m e. absurd (cc)) (λ n own u. u) (λ u. tt)
        (alias_made T s t role.Alias x w (begun d) refl))

    -- ---- awaits

    abbrev pub await_names : Target → Draft → Bool → List ℕ
    await_names (target.TimeExp e u) d own = exp_names own T (exp_written s t e d)
    await_names _ d own = []

    target_made : (x : Target) (w : Walk) (d : Draft) → Gives T s w d (target_walked x w) (target_passed x d) (await_names x d) ⊤
    unfolding target_passed
    target_made (target.Ext x) w d = goes_made T s w d (uses.used d) (named role.Input x w) (used_goes T s t role.Input x w d)
    target_made (target.Event x) w d = goes_made T s w d (uses.used d) (named role.Event x w) (used_goes T s t role.Event x w d)
    target_made (target.Time us) w d = calm_made T s w d d (still T s w d)
    target_made (target.TimeExp e u) w d = exp_made T s t e w d

    await_count : (p : Pos) (into : Option Loc) (x : Target) (c : Draft) (n : ℕ) (own : Bool) → count_of n (await_names x c own) ≡ 0 → count_of n (stmt_names own T (await_written s t p into x c)) ≡ count_of n (loc_target into own)
    unfolding await_written stmt_names node_names
    await_count p into (target.Ext x) c n own u = refl
    await_count p into (target.Event x) c n own u = refl
    await_count p into (target.Time us) c n own u = refl
    await_count p into (target.TimeExp e unit) c n own u = target_last n (exp_names own T (exp_written s t e c)) (maybe_loc own T into) u

    await_sets : (p : Pos) (into : Option Loc) (x : Target) (c : Draft) (m : ℕ) → slot_of into ≡ Some m → sets m (await_written s t p into x c) ≡ true
    unfolding await_written
    await_sets p into (target.Ext x) c m h = target_is into m h
    await_sets p into (target.Event x) c m h = target_is into m h
    await_sets p into (target.Time us) c m h = target_is into m h
    await_sets p into (target.TimeExp e unit) c m h = target_is into m h

    await_settled : (p : Pos) (into : Option Loc) (x : Target) (c : Draft) → StmtSettled T (await_written s t p into x c)
    unfolding await_written StmtSettled
    await_settled p into (target.Ext x) c = tt
    await_settled p into (target.Event x) c = tt
    await_settled p into (target.Time us) c = tt
    await_settled p into (target.TimeExp e unit) c = tt

    pub target_put : (p : Pos) (into : Option Loc) (x : Target) (w : Walk) (d : Draft) → PutsBy T s w d (target_walked x w) (target_awaited s t p into x d) (slot_of into) (loc_target into)
    unfolding target_awaited
    target_put p into x w d =
        put T s p (await_written s t p into x (begun d)) (await_names x (begun d)) ⊤ (slot_of into) (loc_target into) w d (target_passed x (begun d)) (target_walked x w) (parts_of (begun d) (target_passed x (begun d)) (frame_target x (begun d)) ∙ parts_begun d)
        (await_sets p into x (begun d)) (await_count p into x (begun d)) (λ u. await_settled p into x (begun d)) (target_made x w (begun d))

    -- code that a call names, and what it names
    code_made : (x : Ident) (w : Walk) (d : Draft) → Always (λ (q : Known × Walk). Made T s w d q.1 (uses.used d) (λ own. named_by (use_number s d) T) ⊤) (used role.Code x w)
    code_made x w d q k = let f = used_found T s role.Code x w d q k in record { step = f.step; so = λ fits n o i own. code_other T s w q.1 d q.0 f fits n i; whole = λ fits top up c. tt }

    code_named : (x : Ident) (w : Walk) (d : Draft) → Gives T s w d (named role.Code x w) (uses.used d) (λ own. named_by (use_number s d) T) ⊤
    code_named x w d v k = let f = named_found T s role.Code x w d v k in record { step = f.1.step; so = λ fits n o i own. code_other T s w v d f.0 f.1 fits n i; whole = λ fits top up c. tt }

    -- the arguments, the target and what the code names
    call_count : (n : ℕ) (xs ys zs : List ℕ) → count_of n (zs ++ xs) ≡ 0 → count_of n (xs ++ ys ++ zs) ≡ count_of n ys
    call_count n xs ys zs h = let a = count_append n zs xs in let b = count_append n (xs ++ ys) zs in let c = count_append n xs ys in omega (arith, h, a, b, c)

    pub code_put : (p : Pos) (into : Option Loc) (c : Call) (w : Walk) (d : Draft) → PutsBy T s w d (call_walked c w) (code_awaited s t p into c d) (slot_of into) (loc_target into)
    unfolding code_awaited stmt_names StmtSettled
    code_put p into c w d =
        let d' = begun d in
        let start = hidden 1 d' in
        let inside = uses.used start in
        let last = each exp_passed c.args inside in
        let es = gathered (exp_written s t) exp_passed c.args inside in
        let m = use_number s start in
        put T s p (kernel.AwaitCode m es d.slot into) (λ own. named_by (use_number s (hidden 1 (begun d))) T ++ exps_names own T (gathered (exp_written s t) exp_passed c.args (uses.used (hidden 1 (begun d))))) (⊤ × ⊤) (slot_of into) (loc_target into) w d last (call_walked c w)
        (parts_of start last (frame_each exp_passed frame_exp c.args inside ∙ frame_used start) ∙ parts_hid 1 d' ∙ parts_begun d) (target_is into)
        (λ n own h. call_count n (exps_names own T es) (maybe_loc own T into) (named_by m T) h) (λ u. tt)
        (draft_made T s (λ own. named_by (use_number s (hidden 1 (begun d))) T ++ exps_names own T (gathered (exp_written s t) exp_passed c.args (uses.used (hidden 1 (begun d))))) (⊤ × ⊤) w d' start last (call_walked c w) (hidden_step T s 1 w d')
        (made_then T s (λ own. named_by (use_number s (hidden 1 (begun d))) T) (λ own. exps_names own T (gathered (exp_written s t) exp_passed c.args (uses.used (hidden 1 (begun d))))) ⊤ ⊤ w start inside last (named role.Code c.code w) (exps_walked c.args) (code_named c.code w start) (λ v. exps_made T s t c.args v inside)))

    -- ---- spawns, pools and aliases

    abbrev pub alias_target : Option ℕ → Bool → List ℕ
    alias_target alias own = maybe_own own T alias

    alias_is : (alias : Option ℕ) (m c : ℕ) (es : List KExp) (pool : ℕ) → alias ≡ Some m → sets m (kernel.Spawn c es pool alias) ≡ true
    alias_is None m c es pool h = absurd (cc)
    alias_is (Some a) m c es pool h = some_is a m h

    pub spawned_put : (alias : Option ℕ) (x : Spawn) (w : Walk) (d : Draft) → PutsBy T s w d (spawn_walked x w) (parts.spawned s t alias x d) alias (alias_target alias)
    unfolding parts.spawned stmt_names StmtSettled
    spawned_put alias x w d =
        let d' = begun d in
        let inside = uses.used d' in
        let behind = each exp_passed x.call.args inside in
        let es = gathered (exp_written s t) exp_passed x.call.args inside in
        let last = uses.used behind in
        let m = use_number s d' in
        let cs : Bool → List ℕ = λ own. named_by m T in
        let xs : Bool → List ℕ = λ own. exps_names own T es in
        let all : Bool → List ℕ = λ own. named_by m T ++ exps_names own T es in
        let P : Draft → Walk → Type 0 = λ c u. Made T s w d' u c all (⊤ × ⊤) in
        put T s x.pos (kernel.Spawn m es (use_number s behind) alias) all (⊤ × ⊤) alias (alias_target alias) w d last (spawn_walked x w)
        (parts_of d' last (frame_used behind ∙ frame_each exp_passed frame_exp x.call.args inside ∙ frame_used d') ∙ parts_begun d) (λ i h. alias_is alias i m es (use_number s behind) h)
        (λ n own h. call_count n (exps_names own T es) (maybe_own own T alias) (named_by m T) h) (λ u. tt)
        (always_then (λ (q : Known × Walk). Made T s w d' q.1 inside cs ⊤) (P last) (used role.Code x.call.code w) (spawned x) (code_made x.call.code w d')
        (λ q first.
        always_then (P behind) (P last) (exps_walked x.call.args q.1) (pool_used q.0.number x.pool)
        (λ u e. made_join T s cs xs ⊤ ⊤ w q.1 u d' inside behind first (exps_made T s t x.call.args q.1 inside u e))
        (λ u m r e. made_step T s all (⊤ × ⊤) m (pool_found T s q.0.number x.pool u behind r e).1.step)))

    started_put : (p : Pos) (alias : ℕ) (x : Option Spawn) (w : Walk) (d : Draft) → PutsBy T s w d (if_spawn_walked x w) (started s t p alias x d) (Some alias) (alias_target (Some alias))
    unfolding stmt_names StmtSettled
    started_put p alias None w d = simple_put p (kernel.Unset alias) (Some alias) (alias_target (Some alias)) w d (some_is alias) (λ n own. refl) tt
    started_put p alias (Some x) w d = spawned_put (Some alias) x w d

    used_part : (r : Role) (x : Ident) (w : Walk) (d : Draft) → Always (λ (q : Known × Walk). Part T s w d q.1 (uses.used d)) (used r x w)
    used_part r x w d q e = same_part T s (parts_of d (uses.used d) (frame_used d)) (used_found T s r x w d q e).step

    pub pool_part : (places : ℕ) (code x : Ident) (w : Walk) (d : Draft) → PartBy T s w d (pool_walked code x w) (parts.pool_declared s places x d)
    unfolding parts.pool_declared
    pool_part places code x w d =
        let k = kind.Pool places (use_number s d) in
        let e = draft.declared k x (uses.used d) in
        always_then (λ (q : Known × Walk). Part T s w d q.1 (uses.used d)) (λ v. Part T s w d v e) (used role.Code code w) (pool_declared x) (used_part role.Code code w d)
        (λ q part v h. part_then T s part (bare_part T s class.Pool q.0.number ty.None None k x q.1 (uses.used d) refl refl refl v h))

    pub alias_part : (p : Pos) (code x : Ident) (start : Option Spawn) (w : Walk) (d : Draft) → PartBy T s w d (alias_walked code x start w) (parts.alias_declared s t p x start d)
    unfolding parts.alias_declared uses.used
    alias_part p code x start w d =
        let k = kind.Alias (use_number s d) in
        let d' = uses.used d in
        let e = draft.declared k x d' in
        let m = d.parts.slot in
        let c = started s t p m start e in
        always_then (λ (q : Known × Walk). Part T s w d q.1 d') (λ v. Part T s w d v c) (used role.Code code w) (alias_declared x start) (used_part role.Code code w d)
        (λ q part v h.
        let r = start_broken q.1.scopes start (fresh class.Alias q.0.number q.1) in
        part_then T s part
        (decl_part T s class.Alias q.0.number ty.None r k x q.1 d' c (if_spawn_walked start) (alias_target (Some m)) refl (λ n own other. own_other T n own m other) (count_once m) (λ y. started_put p m start y e) v h))

    -- ---- names that take no slots

    pub each_part : {A : Type 0} (step : A → Walk → Result Walk Broken) (pass : A → Draft → Draft) → ((x : A) (w : Walk) (d : Draft) → PartBy T s w d (step x w) (pass x d)) → (xs : List A) (w : Walk) (d : Draft) → PartBy T s w d (walk.each step xs w) (each pass xs d)
    unfolding each walk.each
    each_part step pass h [] w d = always_ok (λ v. Part T s w d v d) w (same_part T s refl (still T s w d))
    each_part step pass h (x ∷ xs) w d = parts_then T s w d (pass x d) (each pass xs (pass x d)) (step x w) (walk.each step xs) (h x w d) (λ v. each_part step pass h xs v (pass x d))

    ident_goes : (c : Class) (u : Ty) (r : Option Rule) (x : Ident) (m : ℕ) (w : Walk) (d e : Draft) → is_slotted c ≡ false → is_code c ≡ false → e.uses ≡ d.uses → e.numbers ≡ d.numbers ++ m ∷ [] → e.slot ≡ d.slot → Goes T s w d (ident_declared c u r x w) e
    ident_goes c u r x m w d e slotted coded us ns same =
        always_then (λ y. Declares T s m w d y e) (λ z. Step T s w d z e) (declared c u r x w) (shown x (fresh c 0 w)) (declares T s c u r x m w d e us ns same)
        (λ y dec z i.
        let sh = shown_shows T s x (fresh c 0 w) y e z i in
        record {
          fits = λ g. dec.step.fits ((sh 0).fits g);
          slots = dec.step.slots;
          knows = λ n o k. (sh n).knows (dec.step.knows n o k) (fresh_other T s c 0 w n e.numbers slotted coded);
          means = dec.step.means;
        })

    ident_part : (c : Class) (u : Ty) (r : Option Rule) (x : Ident) (m : ℕ) (w : Walk) (d e : Draft) → is_slotted c ≡ false → is_code c ≡ false → e.uses ≡ d.uses → e.numbers ≡ d.numbers ++ m ∷ [] → e.slot ≡ d.slot → e.parts ≡ d.parts → PartBy T s w d (ident_declared c u r x w) e
    ident_part c u r x m w d e slotted coded us ns same parts v h = same_part T s parts (ident_goes c u r x m w d e slotted coded us ns same v h)

    pub event_part : (code : Option ℕ) (u : Ty) (x : Ident) (w : Walk) (d : Draft) → PartBy T s w d (ident_declared class.Event u None x w) (event_declared code u x d)
    unfolding event_declared
    event_part code u x w d = ident_part class.Event u None x (length d.events) w d _ refl refl refl refl refl refl

    pub input_part : (u : Ty) (x : Ident) (w : Walk) (d : Draft) → PartBy T s w d (port_declared class.Input u x w) (input_declared u x d)
    unfolding input_declared
    input_part u x w d = ident_part class.Input u (inside_broken w.scopes) x (length d.inputs) w d _ refl refl refl refl refl refl

    pub output_part : (u : Ty) (x : Ident) (w : Walk) (d : Draft) → PartBy T s w d (port_declared class.Output u x w) (output_declared u x d)
    unfolding output_declared
    output_part u x w d = ident_part class.Output u (inside_broken w.scopes) x (length d.outputs) w d _ refl refl refl refl refl refl
