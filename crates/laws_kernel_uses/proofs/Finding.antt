-- What a use of a name finds in the kernel.
use Rattle.std.proofs.Common.{◌≡◌, refl, sym, ap, ◌∙◌, subst, ℕ, List, Option, Some, None, Ok, Bool, true, false}
use Rattle.std.specs.Prelude.{not, is_some, IsTrue, if◌then◌else◌, slice_get, unwrap_or}
use Rattle.std.proofs.lemmas.Bool.Decides.{Decides-eqb}
use Rattle.ceu_base.specs.declared.kinds.Ty.{Ty}
use Rattle.ceu_tree.specs.declared.source.Class.{Class}
use Rattle.ceu_tree.specs.declared.source.Class.TheVariants as class
use Rattle.ceu_tree.specs.declared.source.Decl.{Decl}
use Rattle.ceu_tree.specs.declared.source.Ident.{Ident}
use Rattle.ceu_tree.specs.declared.kernel.Kernel.{Kernel}
use Rattle.ceu_tree.specs.declared.kernel.KDecl.{KDecl}
use Rattle.ceu_tree.specs.declared.kernel.KEvent.{KEvent}
use Rattle.ceu_tree.specs.declared.kernel.Loc.{Loc}
use Rattle.ceu_tree.specs.Proper.{SlotKind, IsVariable, IsLoopVariable, IsPool, IsAlias, InsideAsync, find, is_member, is_in_code, variable_ty, has_ty, is_loop_variable, is_pool_of, alias_takes, is_code, looked_up, reads, port_ty, event_at, event_seen}
use Rattle.ceu_tree.specs.Proper as proper
use Rattle.ceu_scopes.specs.declared.known.Known.{Known}
use Rattle.ceu_scopes.specs.declared.known.Role.{Role}
use Rattle.ceu_scopes.specs.declared.known.Role.TheVariants as role
use Rattle.ceu_scopes.specs.declared.known.Scopes.{Scopes}
use Rattle.ceu_scopes.specs.declared.walk.Walk.{Walk}
use Rattle.ceu_scopes.specs.Walk.{is_global, is_shared, decl_of, is_listed}
use Rattle.ceu_scopes.specs.Rules.{is_alias, is_pool, takes, pool_broken, alias_broken, set_broken}
use Rattle.ceu_scopes.specs.Rules as rules
use Rattle.ceu_expand.specs.declared.draft.Draft.{Draft}
use Rattle.ceu_expand.specs.Uses as uses
use Rattle.ceu_expand.specs.Uses.{is_output, is_output_decl, names_output, number_at, use_number, variable}
use Rattle.laws_kernel_names.proofs.Views.{decl_ty, shown_in}
use Rattle.laws_kernel_names.proofs.Looking.{same_type}
use Rattle.laws_kernel_names.proofs.Seeing.{Fits}
use Rattle.laws_kernel_uses.specs.Named.{LocNamed, TargetNamed, EventNamed}
use Rattle.laws_kernel_uses.proofs.Sites.{Site, scope_of, NoAlias}
use Rattle.laws_kernel_uses.proofs.Means.{class_of, shared, PortsOf, Stands, EventAt, AliasAt, PoolAt, MeansOf, Means, SharedVar, SharedOf, Shared}
use Rattle.laws_kernel_uses.proofs.Reach.{outer_found, outer_decl, own_decl, not_outer, any_decl, Unlisted}
use Rattle.laws_kernel_uses.proofs.Walking.{Ground, Both, Found}

-- ---- classes

outer_variable : (c : Class) → is_shared c ≡ true → takes role.Read c ≡ true → c ≡ class.Var
outer_variable class.Var h k = refl
outer_variable class.Event h k = absurd (cc)
outer_variable class.Param h k = absurd (cc)
outer_variable class.LoopVar h k = absurd (cc)
outer_variable class.Alias h k = absurd (cc)
outer_variable class.Pool h k = absurd (cc)
outer_variable class.Input h k = absurd (cc)
outer_variable class.Output h k = absurd (cc)
outer_variable class.Code h k = absurd (cc)

written_read : (c : Class) → takes role.Written c ≡ true → takes role.Read c ≡ true
written_read class.Var h = refl
written_read class.Param h = refl
written_read class.LoopVar h = absurd (cc)
written_read class.Event h = absurd (cc)
written_read class.Alias h = absurd (cc)
written_read class.Pool h = absurd (cc)
written_read class.Input h = absurd (cc)
written_read class.Output h = absurd (cc)
written_read class.Code h = absurd (cc)

pub alias_class : (c : Class) → is_alias c ≡ true → c ≡ class.Alias
alias_class class.Alias h = refl
alias_class class.Var h = absurd (cc)
alias_class class.Param h = absurd (cc)
alias_class class.LoopVar h = absurd (cc)
alias_class class.Event h = absurd (cc)
alias_class class.Pool h = absurd (cc)
alias_class class.Input h = absurd (cc)
alias_class class.Output h = absurd (cc)
alias_class class.Code h = absurd (cc)

pool_class : (c : Class) → is_pool c ≡ true → c ≡ class.Pool
pool_class class.Pool h = refl
pool_class class.Var h = absurd (cc)
pool_class class.Param h = absurd (cc)
pool_class class.LoopVar h = absurd (cc)
pool_class class.Event h = absurd (cc)
pool_class class.Alias h = absurd (cc)
pool_class class.Input h = absurd (cc)
pool_class class.Output h = absurd (cc)
pool_class class.Code h = absurd (cc)

event_class : (c : Class) → rules.is_event c ≡ true → c ≡ class.Event
event_class class.Event h = refl
event_class class.Var h = absurd (cc)
event_class class.Param h = absurd (cc)
event_class class.LoopVar h = absurd (cc)
event_class class.Alias h = absurd (cc)
event_class class.Pool h = absurd (cc)
event_class class.Input h = absurd (cc)
event_class class.Output h = absurd (cc)
event_class class.Code h = absurd (cc)

input_class : (c : Class) → rules.is_input c ≡ true → c ≡ class.Input
input_class class.Input h = refl
input_class class.Var h = absurd (cc)
input_class class.Param h = absurd (cc)
input_class class.LoopVar h = absurd (cc)
input_class class.Alias h = absurd (cc)
input_class class.Pool h = absurd (cc)
input_class class.Event h = absurd (cc)
input_class class.Output h = absurd (cc)
input_class class.Code h = absurd (cc)

abbrev EmittedClass : Bool → Class → Type 0
EmittedClass true c = c ≡ class.Output
EmittedClass false c = c ≡ class.Event

emitted_class : (c : Class) → rules.is_emitted c ≡ true → (b : Bool) → is_output c ≡ b → EmittedClass b c
emitted_class class.Output h true e = refl
emitted_class class.Output h false e = absurd (cc)
emitted_class class.Event h true e = absurd (cc)
emitted_class class.Event h false e = refl
emitted_class class.Var h b e = absurd (cc)
emitted_class class.Param h b e = absurd (cc)
emitted_class class.LoopVar h b e = absurd (cc)
emitted_class class.Alias h b e = absurd (cc)
emitted_class class.Pool h b e = absurd (cc)
emitted_class class.Input h b e = absurd (cc)
emitted_class class.Code h b e = absurd (cc)

-- ---- places in lists

number_is : (numbers : List ℕ) (k n : ℕ) (o : Option ℕ) → o ≡ Some k → slice_get numbers k ≡ Some n → number_at numbers o ≡ n
number_is numbers k n None e g = absurd (cc)
number_is numbers k n (Some j) e g = let same : j ≡ k = cc in ap (λ i. unwrap_or (slice_get numbers i) 0) same ∙ ap (λ o. unwrap_or o 0) g

output_is : (o : Option Decl) (c : Class) → class_of o ≡ Some c → is_output_decl o ≡ is_output c
output_is None c e = absurd (cc)
output_is (Some d) c e = let same : d.class ≡ c = cc in ap is_output same

module _ (s : Scopes) where
  pub use_is : (d : Draft) (k n : ℕ) → slice_get s.uses d.uses ≡ Some k → slice_get d.numbers k ≡ Some n → use_number s d ≡ n
  unfolding use_number
  use_is d k n e g = number_is d.numbers k n (slice_get s.uses d.uses) e g

  pub slot_is : (x : Ident) (d : Draft) (k n : ℕ) → slice_get s.uses d.uses ≡ Some k → slice_get d.numbers k ≡ Some n → (variable s x d).slot ≡ n
  unfolding variable
  slot_is x d k n e g = use_is d k n e g

  ty_is : (x : Ident) (d : Draft) (k : ℕ) → slice_get s.uses d.uses ≡ Some k → (variable s x d).ty ≡ decl_ty s k
  unfolding variable
  ty_is x d k e = ap (λ o. uses.type_of_decl (uses.decl_at s.decls o)) e

  outer_is : (x : Ident) (d : Draft) → (variable s x d).outer ≡ x.outer
  unfolding variable
  outer_is x d = refl

-- ---- what is asked of a kernel

module _ (K : Kernel) (v : Site) where
  looked : (l : Loc) (c : ℕ) → l.outer ≡ true → v.code ≡ Some c → looked_up K (scope_of v) l ≡ find l.slot (shared K)
  looked l c outer code =
      ap (λ b. if b then (if is_in_code v.code then find l.slot (shared K) else None) else find l.slot v.seen) outer ∙ ap (λ o. if is_in_code o then find l.slot (shared K) else None) code

  loc_found : (l : Loc) (c n : ℕ) (t : Ty) → l.outer ≡ true → v.code ≡ Some c → l.slot ≡ n → find n (shared K) ≡ Some (IsVariable t) → looked_up K (scope_of v) l ≡ Some (IsVariable t)
  loc_found l c n t outer code slot there = looked l c outer code ∙ ap (λ m. find m (shared K)) slot ∙ there

  own_event : (e : KEvent) (code : Option ℕ) → v.code ≡ code → e.code ≡ code → is_some (event_seen K (scope_of v) (Some e)) ≡ true
  own_event e None where_is is = ap (λ o. is_some (elim o as (λ o. Option Ty) [ None ↦ Some e.ty | Some c ↦ (if is_code c v.code then Some e.ty else None) ])) is
  own_event e (Some c) where_is is =
      ap (λ o. is_some (elim o as (λ o. Option Ty) [ None ↦ Some e.ty | Some c ↦ (if is_code c v.code then Some e.ty else None) ])) is ∙
      ap (λ o. is_some (if is_code c o then Some e.ty else None)) where_is ∙ ap (λ b. is_some (if b then Some e.ty else None)) ((Decides-eqb c c).1 refl)

  outer_event : (e : KEvent) → e.code ≡ None → is_some (event_seen K (scope_of v) (Some e)) ≡ true
  outer_event e is = ap (λ o. is_some (elim o as (λ o. Option Ty) [ None ↦ Some e.ty | Some c ↦ (if is_code c v.code then Some e.ty else None) ])) is

  event_named : (m n : ℕ) (e : KEvent) → m ≡ n → event_at K n K.events ≡ Some e → is_some (event_seen K (scope_of v) (Some e)) ≡ true → EventNamed K (scope_of v) m
  event_named m n e same there ok = ap (λ j. is_some (event_seen K (scope_of v) (event_at K j K.events))) same ∙ ap (λ o. is_some (event_seen K (scope_of v) o)) there ∙ ok

-- a port or an event that is emitted
abbrev pub SentNamed : Kernel → Site → Bool → ℕ → Type 0
SentNamed K v true n = IsTrue (is_some (port_ty K n K.outputs))
SentNamed K v false n = EventNamed K (scope_of v) n

module _ (s : Scopes) (K : Kernel) (g : Ground) (ds : List KDecl) (base : ℕ) where
  -- a name of the own body
  own_means : (x : Ident) (w : Walk) (d : Draft) (k : Known) → decl_of w.scopes x ≡ Ok k → (b : Both s K g base w d) → x.outer ≡ false → is_global k.class ≡ false → Means s K g.site b.limits base w.blocks d.numbers k
  own_means x w d k decl b own other = shown_in (λ k. Means s K g.site b.limits base w.blocks d.numbers k) w.scopes x.name k b.means (own_decl w.scopes x k decl own) other

  pub decl_stands : (x : Ident) (w : Walk) (d : Draft) (k : Known) → decl_of w.scopes x ≡ Ok k → Both s K g base w d → Stands s K d.numbers k
  decl_stands x w d k decl b = any_decl (λ k. Stands s K d.numbers k) w.scopes x k b.stands decl

  pub found_stands : (r : Role) (x : Ident) (w v : Walk) (d : Draft) (k : Known) → Found s K g ds base r x w d k v → Both s K g base w d → Stands s K d.numbers k
  found_stands r x w v d k f b = decl_stands x w d k f.use_of.decl b

  -- one of the outermost block, seen from code
  outer_shared : (r : Role) (x : Ident) (w v : Walk) (d : Draft) (k : Known) → Found s K g ds base r x w d k v → Both s K g base w d → x.outer ≡ true → (c : ℕ) × (g.site.code ≡ Some c) × Shared s K d.numbers k
  outer_shared r x w v d k f b outer =
      let h = outer_decl w.scopes x k f.use_of.decl outer in
      outer_found (λ k. Shared s K d.numbers k) g.site.code w.scopes x.name k b.outer h.inside h.there

  -- ---- variables of the outermost block

  record OuterVar (x : Ident) (d : Draft) : Type 0 where
    type : Ty
    is : looked_up K (scope_of g.site) (variable s x d) ≡ Some (IsVariable type)
    ty_is : (variable s x d).ty ≡ type

  outer_var : (r : Role) (x : Ident) (w v : Walk) (d : Draft) (k : Known) → Found s K g ds base r x w d k v → takes role.Read k.class ≡ true → Fits s v → Both s K g base w d → (variable s x d).outer ≡ true → OuterVar x d
  outer_var r x w v d k f reads fits b outer =
      let out : x.outer ≡ true = sym (outer_is s x d) ∙ outer in
      let is = outer_variable k.class (outer_decl w.scopes x k f.use_of.decl out).shares reads in
      let h = outer_shared r x w v d k f b out in
      let var : SharedVar s K d.numbers k = subst (λ c. SharedOf s K d.numbers k c) is h.2 in
      let listed = f.listed b.uses fits in
      record {
        type = decl_ty s k.number;
        is = loc_found K g.site (variable s x d) h.0 var.number (decl_ty s k.number) outer h.1 (slot_is s x d k.number var.number listed var.is) var.there;
        ty_is = ty_is s x d k.number listed;
      }

  loc_of : (x : Ident) (d : Draft) → OuterVar x d → reads K (scope_of g.site) (variable s x d) ≡ true
  loc_of x d h =
      ap (λ o. has_ty (variable_ty o) (variable s x d).ty) h.is ∙ ap (λ u. has_ty (Some h.type) u) h.ty_is ∙ same_type h.type

  pub found_read : (x : Ident) (w v : Walk) (d : Draft) (k : Known) → Found s K g ds base role.Read x w d k v → Fits s v → Both s K g base w d → LocNamed K (scope_of g.site) (variable s x d)
  found_read x w v d k f fits b outer = loc_of x d (outer_var role.Read x w v d k f f.use_of.takes_it fits b outer)

  pub found_written : (x : Ident) (w v : Walk) (d : Draft) (k : Known) → Found s K g ds base role.Written x w d k v → Fits s v → Both s K g base w d → TargetNamed K (scope_of g.site) (variable s x d)
  found_written x w v d k f fits b = (
    λ outer. loc_of x d (outer_var role.Written x w v d k f (written_read k.class f.use_of.takes_it) fits b outer),
    λ outer. ap (λ o. not (is_loop_variable o)) (outer_var role.Written x w v d k f (written_read k.class f.use_of.takes_it) fits b outer).is,
  )

  -- ---- aliases

  not_shared_alias : (c : Class) → is_alias c ≡ true → is_shared c ≡ false
  not_shared_alias c h = ap is_shared (alias_class c h)

  pub alias_shown : (x : Ident) (w : Walk) (d : Draft) (k : Known) → decl_of w.scopes x ≡ Ok k → is_alias k.class ≡ true → (b : Both s K g base w d) → AliasAt g.site.seen (b.limits k.block) base d.numbers k
  alias_shown x w d k decl alias b =
      let is = alias_class k.class alias in
      let own = not_outer w.scopes x k decl (not_shared_alias k.class alias) in
      subst (λ c. MeansOf s K g.site (b.limits k.block) base d.numbers k c) is (own_means x w d k decl b own (ap is_global is)).of

  pub alias_named : (r : Role) (x : Ident) (w v : Walk) (d : Draft) (k : Known) → Found s K g ds base r x w d k v → is_alias k.class ≡ true → Fits s v → Both s K g base w d → IsTrue (proper.is_alias (find (use_number s d) g.site.seen))
  alias_named r x w v d k f alias fits b =
      let a = alias_shown x w d k f.use_of.decl alias b in
      ap (λ j. proper.is_alias (find j g.site.seen)) (use_is s d k.number a.slot.number (f.listed b.uses fits) a.slot.is) ∙ ap proper.is_alias a.slot.there

  pub asked_inside : (x : Ident) (w v : Walk) (d : Draft) (k : Known) → Found s K g ds base role.Asked x w d k v → Both s K g base w d → g.site.place ≡ InsideAsync → NoAlias g.site.since → ⊥
  asked_inside x w v d k f b inside none =
      let alias = f.use_of.takes_it in
      let own = not_outer w.scopes x k f.use_of.decl (not_shared_alias k.class alias) in
      let out : is_listed w.scopes k ≡ false = shown_in (Unlisted w.scopes) w.scopes x.name k (b.quiet inside none) (own_decl w.scopes x k f.use_of.decl own) (ap is_global (alias_class k.class alias)) alias in
      let listed = f.use_of.is_in refl in
      absurd (cc)

  -- ---- ports and events

  pub found_event : (r : Role) (x : Ident) (w v : Walk) (d : Draft) (k : Known) → Found s K g ds base r x w d k v → k.class ≡ class.Event → Fits s v → Both s K g base w d → EventNamed K (scope_of g.site) (use_number s d)
  found_event r x w v d k f is fits b = by_outer x.outer refl
    where
      by_outer : (o : Bool) → x.outer ≡ o → EventNamed K (scope_of g.site) (use_number s d)
      by_outer true outer =
          let e : EventAt K d.numbers None k = subst (λ c. SharedOf s K d.numbers k c) is (outer_shared r x w v d k f b outer).2 in
          event_named K g.site (use_number s d) e.number e.event (use_is s d k.number e.number (f.listed b.uses fits) e.is) e.there (outer_event K g.site e.event e.code_is)
      by_outer false own =
          let e : EventAt K d.numbers g.site.code k = subst (λ c. MeansOf s K g.site (b.limits k.block) base d.numbers k c) is (own_means x w d k f.use_of.decl b own (ap is_global is)).of in
          event_named K g.site (use_number s d) e.number e.event (use_is s d k.number e.number (f.listed b.uses fits) e.is) e.there (own_event K g.site e.event g.site.code refl e.code_is)

  pub event_named_by : (x : Ident) (w v : Walk) (d : Draft) (k : Known) → Found s K g ds base role.Event x w d k v → Fits s v → Both s K g base w d → EventNamed K (scope_of g.site) (use_number s d)
  event_named_by x w v d k f fits b = found_event role.Event x w v d k f (event_class k.class f.use_of.takes_it) fits b

  number_found : (r : Role) (x : Ident) (w v : Walk) (d : Draft) (k : Known) → (f : Found s K g ds base r x w d k v) → Fits s v → (b : Both s K g base w d) → use_number s d ≡ (found_stands r x w v d k f b).number
  number_found r x w v d k f fits b = let h = found_stands r x w v d k f b in use_is s d k.number h.number (f.listed b.uses fits) h.is

  pub input_named : (x : Ident) (w v : Walk) (d : Draft) (k : Known) → Found s K g ds base role.Input x w d k v → Fits s v → Both s K g base w d → IsTrue (is_some (port_ty K (use_number s d) K.inputs))
  input_named x w v d k f fits b =
      let h = found_stands role.Input x w v d k f b in
      let port : IsTrue (is_some (port_ty K h.number K.inputs)) = subst (λ c. PortsOf s K c h.number) (input_class k.class f.use_of.takes_it) h.port in
      ap (λ n. is_some (port_ty K n K.inputs)) (number_found role.Input x w v d k f fits b) ∙ port

  sent_by : (b : Bool) (r : Role) (x : Ident) (w v : Walk) (d : Draft) (k : Known) → Found s K g ds base r x w d k v → Fits s v → Both s K g base w d → rules.is_emitted k.class ≡ true → is_output k.class ≡ b → SentNamed K g.site b (use_number s d)
  sent_by true r x w v d k f fits b emitted is =
      let h = found_stands r x w v d k f b in
      let class_is : k.class ≡ class.Output = emitted_class k.class emitted true is in
      let port : IsTrue (is_some (port_ty K h.number K.outputs)) = subst (λ c. PortsOf s K c h.number) class_is h.port in
      ap (λ n. is_some (port_ty K n K.outputs)) (number_found r x w v d k f fits b) ∙ port
  sent_by false r x w v d k f fits b emitted is = found_event r x w v d k f (emitted_class k.class emitted false is) fits b

  pub sent_named : (x : Ident) (w v : Walk) (d : Draft) (k : Known) → Found s K g ds base role.Emitted x w d k v → Fits s v → Both s K g base w d → SentNamed K g.site (names_output s d.uses) (use_number s d)
  sent_named x w v d k f fits b =
      let h = found_stands role.Emitted x w v d k f b in
      let is : names_output s d.uses ≡ is_output k.class = ap (λ o. is_output_decl (uses.decl_at s.decls o)) (f.listed b.uses fits) ∙ output_is (slice_get s.decls k.number) k.class h.class_is in
      sent_by (names_output s d.uses) role.Emitted x w v d k f fits b f.use_of.takes_it (sym is)

  -- ---- pools

  pub pool_shown : (x : Ident) (w : Walk) (d : Draft) (k : Known) → decl_of w.scopes x ≡ Ok k → is_pool k.class ≡ true → (b : Both s K g base w d) → PoolAt g.site.seen (b.limits k.block) d.numbers k
  pool_shown x w d k decl pool b =
      let is = pool_class k.class pool in
      let own = not_outer w.scopes x k decl (ap is_shared is) in
      subst (λ c. MeansOf s K g.site (b.limits k.block) base d.numbers k c) is (own_means x w d k decl b own (ap is_global is)).of
