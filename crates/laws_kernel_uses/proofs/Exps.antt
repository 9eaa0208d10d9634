-- Expressions name what is there.
use Rattle.std.proofs.Common.{◌≡◌, refl, ◌∙◌, ℕ, arith, List, [], ◌∷◌, ◌++◌, Option, Some, None, Result, Ok}
use Rattle.std.specs.Prelude.{⊤, IsTrue}
use Rattle.ceu_tree.specs.declared.source.Ident.{Ident}
use Rattle.ceu_tree.specs.declared.source.Exp.{Exp}
use Rattle.ceu_tree.specs.declared.kernel.Kernel.{Kernel}
use Rattle.ceu_tree.specs.declared.kernel.KDecl.{KDecl}
use Rattle.ceu_scopes.specs.declared.known.Known.{Known}
use Rattle.ceu_scopes.specs.declared.known.Role.TheVariants as role
use Rattle.ceu_scopes.specs.declared.known.Scopes.{Scopes}
use Rattle.ceu_scopes.specs.declared.walk.Walk.{Walk}
use Rattle.ceu_scopes.specs.Walk.{Broken, ◌>>=◌}
use Rattle.ceu_scopes.specs.Walk as walk
use Rattle.ceu_scopes.specs.Rules.{resolved, noted, used, named, and_on}
use Rattle.ceu_scopes.specs.Names.{exp_walked, exps_walked, if_exp_walked, node_walked, operand_walked}
use Rattle.ceu_types.specs.declared.typing.Types.{Types}
use Rattle.ceu_expand.specs.declared.draft.Draft.{Draft}
use Rattle.ceu_expand.specs.Lists.{each, gathered}
use Rattle.ceu_expand.specs.Uses as uses
use Rattle.ceu_expand.specs.Uses.{use_number, variable}
use Rattle.ceu_expand.specs.Expressions as expressions
use Rattle.ceu_expand.specs.Expressions.{exp_passed, if_exp_passed, exp_written, if_exp_written, negated_or, row_negated, node_passed, row_passed, node_written, operand_written}
use Rattle.laws_kernel_shape.specs.Shaped.{AllOf}
use Rattle.laws_kernel_shape.proofs.Steps.{Always, always_ok, always_then}
use denote.Hole.Carrier
use Rattle.ceu_base.specs.declared.kinds.Op1.{Op1}
use Rattle.ceu_base.specs.declared.kinds.Op2.{Op2}
use Rattle.ceu_tree.specs.declared.source.ExpNode as exp
use Rattle.ceu_tree.specs.declared.source.ExpNode.{ExpNode, Row_of-Exp, end_of-Exp, more_of-Exp, One', Two', As'}
use Rattle.ceu_tree.specs.declared.kernel.KExp.{KExp}
use Rattle.ceu_tree.specs.declared.kernel.KExpNode as knode
use Rattle.ceu_tree.specs.declared.kernel.KExpNode.{KExpNode}
use Rattle.ceu_tree.specs.declared.kernel.KExpNode.TheBlock.{hidden-the_row-KExp-0}
use Rattle.ceu_tree.specs.Proper.{InsideAsync, find, is_alias}
use Rattle.laws_kernel_names.proofs.Seeing.{Fits}
use Rattle.laws_kernel_uses.specs.Named.{LocNamed, TargetNamed}
use Rattle.laws_kernel_uses.proofs.Sites.{Site, scope_of, NoAlias, NodeHeld, ExpHeld, MaybeHeld}
use Rattle.laws_kernel_uses.proofs.Walking.{Ground, Begun, Both, Step, step_then, Goes, calm_step, named_found}
use Rattle.laws_kernel_uses.proofs.Finding.{found_read, found_written, alias_named, asked_inside}

-- an expression of one or two parts
module _ (K : Kernel) (v : Site) where
  one_held : (op : Op1) (a : KExp) → ExpHeld K v a → NodeHeld K v (knode.One op a)
  unfolding NodeHeld hidden-the_row-KExp-0 Carrier.hidden
  one_held op a h = h

  two_held : (op : Op2) (a b : KExp) → ExpHeld K v a → ExpHeld K v b → NodeHeld K v (knode.Two op a b)
  unfolding NodeHeld hidden-the_row-KExp-0 Carrier.hidden
  two_held op a b h k = (h, k)

  as_held : (a : KExp) → ExpHeld K v a → NodeHeld K v (knode.As a)
  unfolding NodeHeld hidden-the_row-KExp-0 Carrier.hidden
  as_held a h = h

  negated_held : (r : Option ℕ) (literal : ℕ → KExpNode) (other : KExpNode) → ((n : ℕ) → NodeHeld K v (literal n)) → NodeHeld K v other → NodeHeld K v (negated_or r literal other)
  negated_held None literal other h k = k
  negated_held (Some n) literal other h k = h n

module _ (s : Scopes) (t : Types) (K : Kernel) (g : Ground) (ds : List KDecl) (base : ℕ) where
  -- a part of the walk, by which this is so
  pub record Made (w : Walk) (d : Draft) (v : Walk) (e : Draft) (U : Type 0) : Type 0 where
    pub step : Step s K g ds base w d v e
    pub so : Fits s v → Begun K ds e → Both s K g base w d → U

  abbrev pub Gives : Walk → Draft → Result Walk Broken → Draft → Type 0 → Type 0
  Gives w d x e U = Always (λ v. Made w d v e U) x

  pub made_map : (U V : Type 0) (w : Walk) (d e : Draft) (x : Result Walk Broken) → (U → V) → Gives w d x e U → Gives w d x e V
  made_map U V w d e x f h v k = let m = h v k in record { step = m.step; so = λ a b c. f (m.so a b c) }

  pub made_then : (U V : Type 0) (w : Walk) (d e c : Draft) (x : Result Walk Broken) (f : Walk → Result Walk Broken) → Gives w d x e U → ((v : Walk) → Gives v e (f v) c V) → Gives w d (x >>= f) c (U × V)
  made_then U V w d e c x f a b =
      always_then (λ v. Made w d v e U) (λ v. Made w d v c (U × V)) x f a
      (λ v m u k.
      let n = b v u k in
      record { step = step_then s K g ds base m.step n.step; so = λ fits begun both. (m.so (n.step.fits fits) (n.step.begun begun) both, n.so fits begun (m.step.both (n.step.fits fits) (n.step.begun begun) both)) })

  pub goes_made : (w : Walk) (d e : Draft) (x : Result Walk Broken) → Goes s K g ds base w d x e → Gives w d x e ⊤
  goes_made w d e x h v k = record { step = h v k; so = λ a b c. tt }

  pub still : (w : Walk) (d : Draft) → Step s K g ds base w d w d
  still w d = calm_step s K g ds base w d d refl refl (omega arith) refl (record { events = refl; inputs = refl; outputs = refl })

  pub still_made : (U : Type 0) (w : Walk) (d e : Draft) → Step s K g ds base w d w e → U → Gives w d (Ok w) e U
  still_made U w d e step u = always_ok (λ v. Made w d v e U) w (record { step = step; so = λ a b c. u })

  pub draft_made : (U : Type 0) (w : Walk) (d c e : Draft) (x : Result Walk Broken) → Step s K g ds base w d w c → Gives w c x e U → Gives w d x e U
  draft_made U w d c e x step h v k =
      let m = h v k in
      record { step = step_then s K g ds base step m.step; so = λ fits begun both. m.so fits begun (step.both (m.step.fits fits) (m.step.begun begun) both) }

  typed_step : (w : Walk) (d : Draft) → Step s K g ds base w d w (expressions.typed d)
  unfolding expressions.typed
  typed_step w d = calm_step s K g ds base w d _ refl refl (omega arith) refl (record { events = refl; inputs = refl; outputs = refl })

  -- ---- names

  pub read_made : (x : Ident) (w : Walk) (d : Draft) → Gives w d (named role.Read x w) (uses.used d) (LocNamed K (scope_of g.site) (variable s x d))
  read_made x w d v e =
      let found = named_found s K g ds base role.Read x w d v e in
      record { step = found.1.step; so = λ fits begun both. found_read s K g ds base x w v d found.0 found.1 fits both }

  pub written_made : (x : Ident) (w : Walk) (d : Draft) → Gives w d (named role.Written x w) (uses.used d) (TargetNamed K (scope_of g.site) (variable s x d))
  written_made x w d v e =
      let found = named_found s K g ds base role.Written x w d v e in
      record { step = found.1.step; so = λ fits begun both. found_written s K g ds base x w v d found.0 found.1 fits both }

  asked_made : (x : Ident) (w : Walk) (d : Draft) → Gives w d (named role.Asked x w) (uses.used d) (IsTrue (is_alias (find (use_number s d) g.site.seen)) × (g.site.place ≡ InsideAsync → NoAlias g.site.since → ⊥))
  asked_made x w d v e =
      let found = named_found s K g ds base role.Asked x w d v e in
      record {
        step = found.1.step;
        so = λ fits begun both. (alias_named s K g ds base role.Asked x w v d found.0 found.1 found.1.use_of.takes_it fits both, asked_inside s K g ds base x w v d found.0 found.1 both);
      }

  -- ---- expressions

  mutual
    unfolding node_walked node_passed node_written NodeHeld

    node_made : (e : ExpNode) (w : Walk) (d : Draft) → Gives w d (node_walked e w) (node_passed e d) (NodeHeld K g.site (node_written s t e d))
    node_made (exp.Number n) w d = still_made ⊤ w d (expressions.typed d) (typed_step w d) tt
    node_made (exp.Bool b) w d = still_made ⊤ w d (expressions.typed d) (typed_step w d) tt
    node_made (exp.Var x) w d = draft_made (LocNamed K (scope_of g.site) (variable s x (expressions.typed d))) w d (expressions.typed d) (uses.used (expressions.typed d)) (named role.Read x w) (typed_step w d) (read_made x w (expressions.typed d))
    node_made (exp.Alive x) w d =
        let d' = expressions.typed d in
        draft_made (IsTrue (is_alias (find (use_number s d') g.site.seen)) × (g.site.place ≡ InsideAsync → NoAlias g.site.since → ⊥)) w d d' (uses.used d') (named role.Asked x w) (typed_step w d) (asked_made x w d')
    node_made (One' op _ a) w d =
        let d' = expressions.typed d in
        draft_made (NodeHeld K g.site (node_written s t (One' op _ a) d)) w d d' (row_passed a d') (operand_walked a w) (typed_step w d)
        (made_map (ExpHeld K g.site (operand_written s t a d')) (NodeHeld K g.site (node_written s t (One' op _ a) d)) w d' (row_passed a d') (operand_walked a w)
        (λ u. negated_held K g.site (row_negated op a) _ (knode.One op (operand_written s t a d')) (λ n. tt) (one_held K g.site op (operand_written s t a d') u)) (row_made a w d'))
    node_made (Two' op _ a _ b) w d =
        let d' = expressions.typed d in
        let d'' = row_passed a d' in
        let x = operand_written s t a d' in
        let y = operand_written s t b d'' in
        draft_made (NodeHeld K g.site (knode.Two op x y)) w d d' (row_passed b d'') (operand_walked a w >>= operand_walked b) (typed_step w d)
        (made_map (ExpHeld K g.site x × ExpHeld K g.site y) (NodeHeld K g.site (knode.Two op x y)) w d' (row_passed b d'') (operand_walked a w >>= operand_walked b) (λ u. two_held K g.site op x y u.0 u.1)
        (made_then (ExpHeld K g.site x) (ExpHeld K g.site y) w d' d'' (row_passed b d'') (operand_walked a w) (operand_walked b) (row_made a w d') (λ v. row_made b v d'')))
    node_made (As' _ a u) w d =
        let d' = expressions.typed d in
        draft_made (NodeHeld K g.site (knode.As (operand_written s t a d'))) w d d' (row_passed a d') (operand_walked a w) (typed_step w d)
        (made_map (ExpHeld K g.site (operand_written s t a d')) (NodeHeld K g.site (knode.As (operand_written s t a d'))) w d' (row_passed a d') (operand_walked a w) (λ u. as_held K g.site (operand_written s t a d') u) (row_made a w d'))

    row_made : {n : _} (r : Row_of-Exp n) (w : Walk) (d : Draft) → Gives w d (operand_walked r w) (row_passed r d) (ExpHeld K g.site (operand_written s t r d))
    row_made end_of-Exp w d = still_made ⊤ w d d (still w d) tt
    row_made (more_of-Exp p e rest) w d = node_made e w d

  pub exp_made : (e : Exp) (w : Walk) (d : Draft) → Gives w d (exp_walked e w) (exp_passed e d) (ExpHeld K g.site (exp_written s t e d))
  exp_made e w d = node_made e.node w d

  pub exps_made : (es : List Exp) (w : Walk) (d : Draft) → Gives w d (exps_walked es w) (each exp_passed es d) (AllOf (ExpHeld K g.site) (gathered (exp_written s t) exp_passed es d))
  unfolding each walk.each gathered
  exps_made [] w d = still_made ⊤ w d d (still w d) tt
  exps_made (e ∷ es) w d =
      made_then (ExpHeld K g.site (exp_written s t e d)) (AllOf (ExpHeld K g.site) (gathered (exp_written s t) exp_passed es (exp_passed e d))) w d (exp_passed e d) (each exp_passed es (exp_passed e d)) (exp_walked e w) (exps_walked es) (exp_made e w d)
      (λ v. exps_made es v (exp_passed e d))

  pub if_exp_made : (e : Option Exp) (w : Walk) (d : Draft) → Gives w d (if_exp_walked e w) (if_exp_passed e d) (MaybeHeld K g.site (if_exp_written s t e d))
  if_exp_made None w d = still_made ⊤ w d d (still w d) tt
  if_exp_made (Some e) w d = exp_made e w d

-- ---- expressions leave what is shown

abbrev Keeps : Walk → Walk → Type 0
Keeps w v = v.scopes ≡ w.scopes

abbrev KeepsScopes : Walk → Result Walk Broken → Type 0
KeepsScopes w x = Always (Keeps w) x

named_keeps : (r : _) (x : Ident) (w : Walk) → KeepsScopes w (named r x w)
unfolding named used
named_keeps r x w =
    always_then (λ (p : Known × Walk). p.1.scopes ≡ w.scopes) (Keeps w) (used r x w) and_on
    (always_then (λ k. ⊤) (λ (p : Known × Walk). p.1.scopes ≡ w.scopes) (resolved r w.scopes x) (noted w) (λ k e. tt)
    (λ k u. always_ok (λ (p : Known × Walk). p.1.scopes ≡ w.scopes) (k, record w { uses = w.uses ++ k.number ∷ [] }) refl))
    (λ p h. always_ok (Keeps w) p.1 h)

keeps_then : (w : Walk) (x : Result Walk Broken) (f : Walk → Result Walk Broken) → KeepsScopes w x → ((v : Walk) → KeepsScopes v (f v)) → KeepsScopes w (x >>= f)
keeps_then w x f a b = always_then (Keeps w) (Keeps w) x f a (λ v k u h. b v u h ∙ k)

mutual
  unfolding node_walked

  node_keeps : (e : ExpNode) (w : Walk) → KeepsScopes w (node_walked e w)
  node_keeps (exp.Number n) w = always_ok (Keeps w) w refl
  node_keeps (exp.Bool b) w = always_ok (Keeps w) w refl
  node_keeps (exp.Var x) w = named_keeps role.Read x w
  node_keeps (exp.Alive x) w = named_keeps role.Asked x w
  node_keeps (One' op _ a) w = row_keeps a w
  node_keeps (Two' op _ a _ b) w = keeps_then w (operand_walked a w) (operand_walked b) (row_keeps a w) (row_keeps b)
  node_keeps (As' _ a u) w = row_keeps a w

  row_keeps : {n : _} (r : Row_of-Exp n) (w : Walk) → KeepsScopes w (operand_walked r w)
  row_keeps end_of-Exp w = always_ok (Keeps w) w refl
  row_keeps (more_of-Exp p e rest) w = node_keeps e w

pub exps_keep : (es : List Exp) (w : Walk) → KeepsScopes w (exps_walked es w)
unfolding walk.each
exps_keep [] w = always_ok (Keeps w) w refl
exps_keep (e ∷ es) w = keeps_then w (exp_walked e w) (exps_walked es) (node_keeps e.node w) (exps_keep es)
