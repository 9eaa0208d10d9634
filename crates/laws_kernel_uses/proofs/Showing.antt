-- What a name stands for when it is declared and shown.
use Rattle.std.proofs.Common.{◌≡◌, refl, sym, ap, ◌∙◌, subst, ℕ, ◌≤◌, ◌<◌, length, arith, List, [], ◌∷◌, ◌++◌, Option, Some, Ok, true, false}
use Rattle.std.specs.Prelude.{is_some, slice_get}
use Rattle.ceu_base.specs.declared.kinds.Ty.{Ty}
use Rattle.ceu_base.specs.declared.kinds.Port.{Port}
use Rattle.ceu_base.specs.declared.kinds.Rule.{Rule}
use Rattle.ceu_tree.specs.declared.source.Class.{Class}
use Rattle.ceu_tree.specs.declared.source.Class.TheVariants as class
use Rattle.ceu_tree.specs.declared.source.Ident.{Ident}
use Rattle.ceu_tree.specs.declared.kernel.Kernel.{Kernel}
use Rattle.ceu_tree.specs.declared.kernel.KDecl.{KDecl}
use Rattle.ceu_tree.specs.declared.kernel.KEvent.{KEvent}
use Rattle.ceu_tree.specs.declared.kernel.KKind.{KKind}
use Rattle.ceu_tree.specs.declared.kernel.KKind.TheVariants as kind
use Rattle.ceu_tree.specs.Numbering.{decl_slots}
use Rattle.ceu_tree.specs.Proper.{IsVariable, find, slot_kind, declared_seen, pool_slots, pools_seen, port_ty, event_at}
use Rattle.ceu_scopes.specs.declared.known.Known.{Known}
use Rattle.ceu_scopes.specs.declared.known.Scopes.{Scopes}
use Rattle.ceu_scopes.specs.declared.walk.Walk.{Walk}
use Rattle.ceu_scopes.specs.Walk.{shown, fresh, block_of}
use Rattle.ceu_scopes.specs.Rules.{is_alias, declared}
use Rattle.ceu_expand.specs.declared.draft.Draft.{Draft}
use Rattle.ceu_expand.specs.Draft as draft
use Rattle.ceu_expand.specs.Draft.{event_declared, input_declared, output_declared}
use Rattle.laws_kernel_shape.proofs.Inside.{append_none, append_assoc}
use Rattle.laws_kernel_shape.proofs.Runs.{Runs}
use Rattle.laws_kernel_shape.proofs.Steps.{Always}
use Rattle.laws_kernel_names.proofs.Stepping.{get_more}
use Rattle.laws_kernel_names.proofs.Views.{find_own, slot_within}
use Rattle.laws_kernel_names.proofs.Seeing.{Fits}
use Rattle.laws_kernel_uses.proofs.Sites.{NoAlias, is_alias_kind}
use Rattle.laws_kernel_uses.proofs.Means.{PortsOf, AliasAt, Stands, MeansOf, covers_all}
use Rattle.laws_kernel_uses.proofs.Reach.{top_block}
use Rattle.laws_kernel_uses.proofs.Walking.{Ground, lists_as, Begun, Begins, View, Both, Step, Declares, declares, Entry, shown_step}

-- ---- places in lists

pub event_here : (K : Kernel) (xs : List KEvent) (e : KEvent) (ys : List KEvent) → event_at K (length xs) (xs ++ e ∷ ys) ≡ Some e
event_here K [] e ys = refl
event_here K (x ∷ xs) e ys = event_here K xs e ys

pub port_here : (K : Kernel) (xs : List Port) (p : Port) (ys : List Port) → port_ty K (length xs) (xs ++ p ∷ ys) ≡ Some p.ty
port_here K [] p ys = refl
port_here K (x ∷ xs) p ys = port_here K xs p ys

none_in : (pre : List KDecl) (x : KDecl) (post later : List KDecl) → NoAlias ((pre ++ x ∷ post) ++ later) → is_alias_kind x.kind ≡ false
none_in [] x post later h = h.0
none_in (y ∷ pre) x post later h = none_in pre x post later h.1

module _ (s : Scopes) (K : Kernel) (g : Ground) (ds : List KDecl) (base : ℕ) where
  -- a step, then a name is shown
  pub step_shown : (x : Ident) (k : Known) (w y v : Walk) (d e : Draft) → Step s K g ds base w d y e → shown x k y ≡ Ok v → (Fits s y → Begun K ds e → (o : Both s K g base w d) → (h : Both s K g base y e) → Entry s K g ds base h.limits y e k) → Step s K g ds base w d v e
  step_shown x k w y v d e step is entry =
      let sh = shown_step s K g ds base x k y e v is in
      let up = step.blocks in
      let same = sh.blocks in
      record {
        fits = λ f. step.fits (sh.fits f);
        begun = step.begun;
        both = λ f p o. let h = step.both (sh.fits f) p o in sh.both h (entry (sh.fits f) p o h);
        slots = step.slots;
        more = step.more;
        rest = sh.rest ∙ step.rest;
        blocks = omega (arith, up, same);
      }

  -- ---- declarations of the block

  pub declared_begun : (k : KKind) (x : Ident) (d : Draft) → Begun K ds (draft.declared k x d) → Begun K ds d
  unfolding draft.declared
  declared_begun k x d h = record { more = _ ∷ h.more; is = h.is ∙ append_assoc d.parts.decls (_ ∷ []) h.more; lists = lists_as K d _ (record { events = refl; inputs = refl; outputs = refl }) h.lists }

  pub declared_counts : (k : KKind) (x : Ident) (d : Draft) → ((draft.declared k x d).uses ≡ d.uses) × ((draft.declared k x d).numbers ≡ d.numbers ++ d.parts.slot ∷ []) × (d.slot ≤ (draft.declared k x d).slot) × ((draft.declared k x d).parts.list ≡ d.parts.list)
  unfolding draft.declared
  declared_counts k x d = (refl, refl, omega arith, refl)

  -- a name of the block is declared
  pub block_declares : (c : Class) (u : Ty) (r : Option Rule) (k : KKind) (x : Ident) (w : Walk) (d : Draft) → Always (λ v. Declares s K g ds base c u r d.parts.slot w d v (draft.declared k x d)) (declared c u r x w)
  block_declares c u r k x w d = let h = declared_counts k x d in declares s K g ds base c u r x d.parts.slot w d (draft.declared k x d) h.0 h.1 h.2 (declared_begun k x d)

  -- what is found at its slot
  pub record OwnSlot (k : KKind) (d : Draft) (env : View g ds base) : Type 0 where
    pub there : find d.parts.slot g.site.seen ≡ Some (slot_kind (pool_slots ds ++ pools_seen env.older) k)
    pub below : d.parts.slot < base
    pub alias : is_alias_kind k ≡ true → NoAlias g.site.since → ⊥

  pub own_slot : (k : KKind) (x : Ident) (d : Draft) (env : View g ds base) → Begun K ds (draft.declared k x d) → OwnSlot k d env
  unfolding draft.declared
  own_slot k x d env begun =
      let own : KDecl = record { slot = d.parts.slot; kind = k; name = x.name; pos = x.pos } in
      let pools = pool_slots ds ++ pools_seen env.older in
      let all : ds ≡ d.parts.decls ++ own ∷ begun.more = begun.is ∙ append_assoc d.parts.decls (own ∷ []) begun.more in
      let runs : Runs env.first (decl_slots (d.parts.decls ++ own ∷ begun.more)) base = subst (λ xs. Runs env.first (decl_slots xs) base) all env.runs in
      record {
        there = ap (find d.parts.slot) (env.is ∙ ap (λ xs. declared_seen pools xs env.older) all) ∙ find_own pools d.parts.decls own begun.more env.older env.first base runs;
        below = (slot_within d.parts.decls own begun.more env.first base runs).1;
        alias = λ is none. let no = none_in d.parts.decls own begun.more env.later (subst NoAlias (env.since ∙ ap (λ xs. xs ++ env.later) all) none) in absurd (cc);
      }

  -- ---- what is known when the name is shown

  number_later : (n k : ℕ) (d e : Draft) → Begins d.numbers e → slice_get d.numbers k ≡ Some n → slice_get e.numbers k ≡ Some n
  number_later n k d e more h = ap (λ xs. slice_get xs k) more.1 ∙ get_more d.numbers more.0 k n h

  pub fresh_below : (c : Class) (n : ℕ) (w v : Walk) (d : Draft) → w.blocks ≤ v.blocks → Both s K g base w d → (fresh c n w).block < v.blocks
  unfolding fresh
  fresh_below c n w v d le o = let t = top_block w.blocks w.scopes o.top in omega (arith, t, le)

  pub fresh_stands : (c : Class) (u : Ty) (r : Option Rule) (code n : ℕ) (w y : Walk) (d e e' : Draft) → Declares s K g ds base c u r n w d y e → Begins e.numbers e' → Fits s y → Both s K g base w d → PortsOf s K c n → Stands s K e'.numbers (fresh c code w)
  unfolding fresh
  fresh_stands c u r code n w y d e e' dec more fits o port = record { number = n; is = number_later n (length w.decls) e e' more (dec.number o.decls); class_is = dec.class_is fits; port = port }

  own_number : (c : Class) (u : Ty) (r : Option Rule) (code n : ℕ) (w y : Walk) (d e e' : Draft) → Declares s K g ds base c u r n w d y e → Begins e.numbers e' → Both s K g base w d → slice_get e'.numbers (fresh c code w).number ≡ Some n
  unfolding fresh
  own_number c u r code n w y d e e' dec more o = number_later n (length w.decls) e e' more (dec.number o.decls)

  pub var_entry : (u : Ty) (r : Option Rule) (x : Ident) (w y v : Walk) (d e : Draft) (env : View g ds base) →
      let first = draft.declared (kind.Var u) x d in
      Declares s K g ds base class.Var u r d.parts.slot w d y first → Begins first.numbers e → w.blocks ≤ v.blocks → Fits s y → Begun K ds first → Both s K g base w d → (limits : ℕ → ℕ) → Entry s K g ds base limits v e (fresh class.Var 0 w)
  unfolding fresh
  var_entry u r x w y v d e env dec more le fits begun o limits =
      let own = own_slot (kind.Var u) x d env begun in
      let first = draft.declared (kind.Var u) x d in
      record {
        means = record {
          below = fresh_below class.Var 0 w v d le o;
          of = record {
            number = d.parts.slot;
            is = own_number class.Var u r 0 d.parts.slot w y d first e dec more o;
            below = own.below;
            there = own.there ∙ ap (λ u. Some (IsVariable u)) (sym (dec.type fits));
          };
        };
        stands = fresh_stands class.Var u r 0 d.parts.slot w y d first e dec more fits o tt;
        still = λ is. absurd (cc);
      }

  -- a parameter
  pub param_entry : (u : Ty) (r : Option Rule) (x : Ident) (w y : Walk) (d : Draft) → let e = draft.declared (kind.Var u) x d in
      Declares s K g ds base class.Param u r d.parts.slot w d y e → Fits s y → Both s K g base w d → (limits : ℕ → ℕ) → Entry s K g ds base limits y e (fresh class.Param 0 w)
  unfolding fresh
  param_entry u r x w y d dec fits o limits =
      let e = draft.declared (kind.Var u) x d in
      let same = dec.blocks in
      record {
        means = record { below = fresh_below class.Param 0 w y d (omega (arith, same)) o; of = tt };
        stands = fresh_stands class.Param u r 0 d.parts.slot w y d e e dec ([], append_none e.numbers) fits o tt;
        still = λ is. absurd (cc);
      }

  pub alias_entry : (c : ℕ) (u : Ty) (r : Option Rule) (x : Ident) (code : ℕ) (w y v : Walk) (d e : Draft) (env : View g ds base) →
      let first = draft.declared (kind.Alias c) x d in
      Declares s K g ds base class.Alias u r d.parts.slot w d y first → Begins first.numbers e → w.blocks ≤ v.blocks → Fits s y → Begun K ds first → Both s K g base w d → slice_get d.numbers code ≡ Some c → (limits : ℕ → ℕ) →
      Entry s K g ds base limits v e (fresh class.Alias code w)
  unfolding fresh
  alias_entry c u r x code w y v d e env dec more le fits begun o code_is limits =
      let own = own_slot (kind.Alias c) x d env begun in
      let first = draft.declared (kind.Alias c) x d in
      let pools = pool_slots ds ++ pools_seen env.older in
      record {
        means = record {
          below = fresh_below class.Alias code w v d le o;
          of = record {
            code = c;
            pools = pools;
            slot = record { number = d.parts.slot; is = own_number class.Alias u r code d.parts.slot w y d first e dec more o; below = own.below; there = own.there };
            code_is = number_later c code first e more (number_later c code d first dec.step.more code_is);
            covers = λ q j lt there. covers_all ds env.older q j (ap (find q) (sym env.is) ∙ there);
          };
        };
        stands = fresh_stands class.Alias u r code d.parts.slot w y d first e dec more fits o tt;
        still = λ is none. own.alias refl none;
      }

  -- what an alias stands for, by what is known of it
  pub alias_of : (code : ℕ) (limits : ℕ → ℕ) (w v : Walk) (e : Draft) → let k = fresh class.Alias code w in
      Entry s K g ds base limits v e k → AliasAt g.site.seen (limits k.block) base e.numbers k × ((n : ℕ) → slice_get e.numbers (length w.decls) ≡ Some n → slice_get e.numbers k.number ≡ Some n)
  unfolding fresh
  alias_of code limits w v e h = (h.means.of, λ n is. is)

  pub pool_entry : (places c : ℕ) (u : Ty) (r : Option Rule) (x : Ident) (code : ℕ) (w y : Walk) (d : Draft) (env : View g ds base) → let e = draft.declared (kind.Pool places c) x d in
      Declares s K g ds base class.Pool u r d.parts.slot w d y e → Fits s y → Begun K ds e → Both s K g base w d → slice_get d.numbers code ≡ Some c → (h : Both s K g base y e) → Entry s K g ds base h.limits y e (fresh class.Pool code w)
  unfolding fresh
  pool_entry places c u r x code w y d env dec fits begun o code_is h =
      let own = own_slot (kind.Pool places c) x d env begun in
      let e = draft.declared (kind.Pool places c) x d in
      let same = dec.blocks in
      let more : Begins e.numbers e = ([], append_none e.numbers) in
      let limit : h.limits (block_of w.scopes) ≡ base = ap (λ sc. h.limits (block_of sc)) (sym dec.scopes) ∙ h.here env.entered in
      let low = own.below in
      record {
        means = record {
          below = fresh_below class.Pool code w y d (omega (arith, same)) o;
          of = record {
            code = c;
            slot = record { number = d.parts.slot; is = own_number class.Pool u r code d.parts.slot w y d e e dec more o; below = omega (arith, low, limit); there = own.there };
            code_is = number_later c code d e dec.step.more code_is;
          };
        };
        stands = fresh_stands class.Pool u r code d.parts.slot w y d e e dec more fits o tt;
        still = λ is. absurd (cc);
      }

  -- ---- names that take no slots

  plain_begins : (e : Draft) → Begins e.numbers e
  plain_begins e = ([], append_none e.numbers)

  pub event_entry : (code : Option ℕ) (u : Ty) (r : Option Rule) (x : Ident) (w y : Walk) (d : Draft) → code ≡ g.site.code → let e = event_declared code u x d in
      Declares s K g ds base class.Event u r (length d.events) w d y e → Fits s y → Begun K ds e → Both s K g base w d → (limits : ℕ → ℕ) → Entry s K g ds base limits y e (fresh class.Event 0 w)
  unfolding fresh event_declared
  event_entry code u r x w y d same_code dec fits begun o limits =
      let e = event_declared code u x d in
      let same = dec.blocks in
      let more = plain_begins e in
      let ev : KEvent = record { ty = u; code = code; pos = x.pos } in
      record {
        means = record {
          below = fresh_below class.Event 0 w y d (omega (arith, same)) o;
          of = record {
            number = length d.events;
            is = own_number class.Event u r 0 (length d.events) w y d e e dec more o;
            event = ev;
            there = ap (event_at K (length d.events)) (begun.lists.events_are ∙ append_assoc d.events (ev ∷ []) begun.lists.events) ∙ event_here K d.events ev begun.lists.events;
            code_is = same_code;
          };
        };
        stands = fresh_stands class.Event u r 0 (length d.events) w y d e e dec more fits o tt;
        still = λ is. absurd (cc);
      }

  pub input_entry : (u : Ty) (r : Option Rule) (x : Ident) (w y : Walk) (d : Draft) → let e = input_declared u x d in
      Declares s K g ds base class.Input u r (length d.inputs) w d y e → Fits s y → Begun K ds e → Both s K g base w d → (limits : ℕ → ℕ) → Entry s K g ds base limits y e (fresh class.Input 0 w)
  unfolding fresh input_declared
  input_entry u r x w y d dec fits begun o limits =
      let e = input_declared u x d in
      let same = dec.blocks in
      let p : Port = record { ty = u; name = x.name } in
      record {
        means = record { below = fresh_below class.Input 0 w y d (omega (arith, same)) o; of = tt };
        stands =
            fresh_stands class.Input u r 0 (length d.inputs) w y d e e dec (plain_begins e) fits o
            (ap (λ xs. is_some (port_ty K (length d.inputs) xs)) (begun.lists.inputs_are ∙ append_assoc d.inputs (p ∷ []) begun.lists.inputs) ∙ ap is_some (port_here K d.inputs p begun.lists.inputs));
        still = λ is. absurd (cc);
      }

  pub output_entry : (u : Ty) (r : Option Rule) (x : Ident) (w y : Walk) (d : Draft) → let e = output_declared u x d in
      Declares s K g ds base class.Output u r (length d.outputs) w d y e → Fits s y → Begun K ds e → Both s K g base w d → (limits : ℕ → ℕ) → Entry s K g ds base limits y e (fresh class.Output 0 w)
  unfolding fresh output_declared
  output_entry u r x w y d dec fits begun o limits =
      let e = output_declared u x d in
      let same = dec.blocks in
      let p : Port = record { ty = u; name = x.name } in
      record {
        means = record { below = fresh_below class.Output 0 w y d (omega (arith, same)) o; of = tt };
        stands =
            fresh_stands class.Output u r 0 (length d.outputs) w y d e e dec (plain_begins e) fits o
            (ap (λ xs. is_some (port_ty K (length d.outputs) xs)) (begun.lists.outputs_are ∙ append_assoc d.outputs (p ∷ []) begun.lists.outputs) ∙ ap is_some (port_here K d.outputs p begun.lists.outputs));
        still = λ is. absurd (cc);
      }

  -- a name without a slot of its own in the block: the variable of a range, or code
  pub plain_entry : (c : Class) (u : Ty) (r : Option Rule) (n : ℕ) (w y : Walk) (d e : Draft) → Declares s K g ds base c u r n w d y e → (v : Walk) (e' : Draft) → Begins e.numbers e' → w.blocks ≤ v.blocks → Fits s y → Both s K g base w d → (limits : ℕ → ℕ) →
      PortsOf s K c n → ((limit : ℕ) → MeansOf s K g.site limit base e'.numbers (fresh c 0 w) c) → is_alias c ≡ false → Entry s K g ds base limits v e' (fresh c 0 w)
  unfolding fresh
  plain_entry c u r n w y d e dec v e' more le fits o limits port of other =
      record { means = record { below = fresh_below c 0 w v d le o; of = of (limits (block_of w.scopes)) }; stands = fresh_stands c u r 0 n w y d e e' dec more fits o port; still = λ is. absurd (cc) }
