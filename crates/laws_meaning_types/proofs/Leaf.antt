-- What a leaf does by itself keeps stores well-typed: what it evaluates is of the types that its places want.
use Rattle.std.proofs.Common.{◌≡◌, refl, sym, subst, ℕ, ℤ, pos, Bool, true, false, if◌then◌else◌, List, [], ◌∷◌, Option, Some, None, Result, Ok, Err}
use Rattle.ceu_base.specs.declared.kinds.Pos.{Pos}
use Rattle.ceu_base.specs.declared.kinds.Fault.{Fault}
use Rattle.ceu_base.specs.declared.kinds.Ty.{Ty}
use Rattle.ceu_base.specs.declared.kinds.Ty.TheVariants as ty
use Rattle.ceu_base.specs.Values.{IsValue}
use Rattle.ceu_tree.specs.declared.kernel.Kernel.{Kernel}
use Rattle.ceu_tree.specs.declared.kernel.KCode.{KCode}
use Rattle.ceu_tree.specs.declared.kernel.KEvent.{KEvent}
use Rattle.ceu_tree.specs.declared.kernel.KExp.{KExp}
use Rattle.ceu_tree.specs.declared.kernel.KLoop.{KLoop}
use Rattle.ceu_tree.specs.declared.kernel.KLoop.TheVariants as turns
use Rattle.ceu_tree.specs.declared.kernel.KNode.{KNode}
use Rattle.ceu_tree.specs.declared.kernel.KBlock.{KBlock, out-KBlock}
use Rattle.ceu_tree.specs.declared.kernel.KStmt.{out-KStmt}
use Rattle.ceu_tree.specs.declared.kernel.KStmt.TheOpen.{KStmt-F}
use Rattle.ceu_tree.specs.Residual.{Body, Awaited, Act, Begin, Start, Finish, AtEnd, AtHead, Again}
use Rattle.ceu_tree.specs.Focus.{leaf}
use Rattle.ceu_tree.specs.World.{World, Cell, Holds, NotSet, Names, look}
use Rattle.ceu_tree.specs.Expressions.{names_living, value_of, value_if, values_of}
use Rattle.ceu_tree.specs.Leaf as does
use Rattle.ceu_tree.specs.Leaf.{Layer, Exit, Escape, Break, Continue, Does, Opens, Waits, Passes, Spawns, Emits, Kills, Registers, Ends, Heads, Done, done, or_fails, target_of, target, code_at, chosen_part, branches_from, in_branches, loop_reached, called, spawning, killing, started, acted}
use Rattle.ceu_tree.specs.Around as outcome
use Rattle.ceu_tree.specs.Proper.{Scope, event_at, is_proper}
use Rattle.laws_meaning_basics.specs.Shape.{Part, AStatement, ActFits, begins, heads, goes_again, starts, finishes, ends}
use Rattle.laws_meaning_basics.proofs.Static.{names_of}
use Rattle.laws_meaning_basics.proofs.UpFits.{Sound}
use Rattle.laws_meaning_values.specs.Results.{IsResult}
use Rattle.laws_meaning_slots.specs.Declared.{inner_pools}
use Rattle.laws_meaning_slots.specs.Typed.{gives_if_any, arguments_typed, start_typed}
use Rattle.laws_meaning_slots.proofs.Known.{Known, params_known}
use Rattle.laws_meaning_slots.proofs.Starts.{at_start}
use Rattle.laws_meaning_slots.proofs.Typing.{AllTyped, zero_value, assign_typed}
use Rattle.laws_meaning_slots.proofs.Writes.{writes, at_writes}
use Rattle.laws_meaning_types.specs.Ready.{takes_all, act_ready, tree_ready, each_ready, frames_ready}
use Rattle.laws_meaning_types.proofs.Values.{ok_is, Given, unset_typed, params_typed, targets_typed, arguments_given}
use Rattle.laws_meaning_types.proofs.Hands.{takes_from, hands, layer_hands, zero_aimed, escape_fine}
use Rattle.laws_meaning_types.proofs.Exits.{next_ready, Suits, target_fine}

module _ (K : Kernel) (proper : is_proper K ≡ true) where
  -- an emission has a value of its event's type, and a spawn has one of each parameter's
  abbrev pub DoesSuit : Part → Does → Type 0
  DoesSuit e (Opens x) = frames_ready K x × act_ready (leaf x)
  DoesSuit e (Waits r) = tree_ready K r
  DoesSuit e (does.Leaves node x) = Suits K proper e (outcome.Leaves node x)
  DoesSuit e (Emits s event v) = (x : KEvent) → event_at K event K.events ≡ Some x → IsValue x.ty v
  DoesSuit e (Spawns s c code pool alias vs) = Given c.params vs
  DoesSuit e d = Unit {0}

  pub record DoneGood (e : Part) (d : Done) : Type 0 where
    pub suits : DoesSuit e d.does
    pub typed : AllTyped K proper d.world

  module _ (body : Body) (w : World) (y : AllTyped K proper w) where
    same : (e : Part) (d : Does) → DoesSuit e d → DoneGood e (done d w)
    same e d h = record { suits = h; typed = y }

    or_fails_good : {A : Type 0} (e : Part) (a : Result A (Fault × Pos)) (go : A → Done) → ((v : A) → a ≡ Ok v → DoneGood e (go v))
        → DoneGood e (or_fails a w go)
    or_fails_good e (Ok v) go h = h v refl
    or_fails_good e (Err z) go h = same e (does.Fails z) tt

    emitted_value : (e : Option KExp) (v : ℤ) (t : Ty) → value_if e body w ≡ Ok v → gives_if_any K body w t e → IsValue t v
    emitted_value None v t q h = subst (IsValue t) (ok_is (pos 0) v q) (zero_value t)
    emitted_value (Some e) v t q h = subst (IsResult t) q h

    branches_ready : (n : ℕ) (bs : List KBlock) → each_ready K (branches_from n bs)
    unfolding tree_ready
    branches_ready n [] = tt
    branches_ready n (b ∷ bs) = (tt, branches_ready n bs)

    par_good : (e : Part) (n : ℕ) (s : KNode) (bs : List KBlock) → DoneGood e (done (in_branches n s bs) w)
    unfolding tree_ready frames_ready
    par_good e n s [] = same e Passes tt
    par_good e n s (b ∷ bs) = same e _ (((tt, branches_ready n bs), tt), tt)

    loop_reached_good : (e : Part) (s : KNode) (k : KLoop) → DoneGood e (loop_reached s k body w)
    unfolding frames_ready
    loop_reached_good e s turns.Free = same e _ ((tt, tt), tt)
    loop_reached_good e s (turns.Times slot n) = same e _ ((tt, tt), tt)
    loop_reached_good e s (turns.Range i next end open_a a b open_b) = or_fails_good e (value_of a body w) _ (λ u p. or_fails_good e (value_of b body w) _ (λ v q. same e _ ((tt, tt), tt)))

    called_good : (e : Part) (s : KNode) (c : ℕ) (es : List KExp) (o : Option KCode) (vs : List ℤ) → code_at c K.codes ≡ o
        → ((k : KCode) → code_at c K.codes ≡ Some k → arguments_typed K body w k.params es) → values_of es body w ≡ Ok vs
        → DoneGood e (called s o vs body w)
    unfolding frames_ready
    called_good e s c es None vs q h p = same e Passes tt
    called_good e s c es (Some k) vs q h p =
        record { suits = ((tt, tt), tt); typed = params_typed K proper (inner_pools [] k.params) (Awaited body s.node) k.params vs w (params_known K proper c k q) (arguments_given K proper body w k.params es vs (h k q) p) y }

    spawning_good : (e : Part) (s : KNode) (c pool : ℕ) (alias : Option ℕ) (es : List KExp) (o : Option KCode) (vs : List ℤ) → code_at c K.codes ≡ o
        → ((k : KCode) → code_at c K.codes ≡ Some k → arguments_typed K body w k.params es) → values_of es body w ≡ Ok vs
        → DoneGood e (spawning s o c pool alias vs w)
    spawning_good e s c pool alias es None vs q h p = same e Passes tt
    spawning_good e s c pool alias es (Some k) vs q h p = same e (Spawns s k c pool alias vs) (arguments_given K proper body w k.params es vs (h k q) p)

    killing_good : (e : Part) (o : Option Cell) (living : List ℕ) → DoneGood e (done (killing o living) w)
    killing_good e (Some (Names m)) living = go (names_living (Some (Names m)) living)
      where
        go : (b : Bool) → DoneGood e (done (if b then Kills m else Passes) w)
        go true = same e (Kills m) tt
        go false = same e Passes tt
    killing_good e (Some (Holds v)) living = same e Passes tt
    killing_good e (Some NotSet) living = same e Passes tt
    killing_good e None living = same e Passes tt

    module _ (sc : Scope) (s : KNode) (h : Sound K proper (AStatement sc s)) (k : Known K proper (AStatement sc s)) where
      abbrev e : Part
      e = AStatement sc s

      takes : (layer : Layer) (t : Ty) → out-KStmt s.stmt ≡ layer → takes_from (target_of layer) t → takes_all s t
      takes layer t q f = subst (λ l. takes_from (target_of l) t) (sym q) f

      started_good : (n : ℕ) (layer : Layer) → out-KStmt s.stmt ≡ layer → start_typed K body w layer → writes K (names_of K) sc layer
          → hands K layer → DoneGood e (started K n body s layer w)
      unfolding frames_ready tree_ready
      started_good n (KStmt-F.Assign l x) q a b c = or_fails_good e (value_of x body w) _ (λ v p. record { suits = tt; typed = assign_typed K proper sc l v body w k.1 b (subst (IsResult l.ty) p a) y })
      started_good n (KStmt-F.Out i x) q a b c = or_fails_good e (value_if x body w) _ (λ v p. record { suits = tt; typed = y })
      started_good n (KStmt-F.Emit i x) q a b c = or_fails_good e (value_if x body w) _ (λ v p. same e (Emits s i v) (λ z r. emitted_value x v z.ty p (a z r)))
      started_good n (KStmt-F.AwaitIn i t) q a b c = same e _ (c.0, c.1, takes _ c.0 q c.2)
      started_good n (KStmt-F.AwaitTime x u t) q a b c = or_fails_good e (value_of x body w) _ (λ v p. same e _ (takes _ ty.S32 q c))
      started_good n (KStmt-F.AwaitEvent i t) q a b c = same e _ (c.0, c.1, takes _ c.0.ty q c.2)
      started_good n KStmt-F.Forever q a b c = same e _ tt
      started_good n (KStmt-F.AwaitCode i es f t) q a b c = or_fails_good e (values_of es body w) _ (λ vs p. called_good e s i es (code_at i K.codes) vs refl a p)
      started_good n (KStmt-F.Spawn i es p l) q a b c = or_fails_good e (values_of es body w) _ (λ vs r. spawning_good e s i p l es (code_at i K.codes) vs refl a r)
      started_good n (KStmt-F.Kill i) q a b c = killing_good e (look body i w.values) w.living
      started_good n (KStmt-F.Unset i) q a b c = record { suits = tt; typed = unset_typed K proper body i w y }
      started_good n (KStmt-F.Async i) q a b c = same e _ tt
      started_good n (KStmt-F.Do t i) q a b c = same e _ ((tt, tt), tt)
      started_good n (KStmt-F.Escape m x) q a b c = or_fails_good e (value_if x body w) _ (λ v p. same e (does.Leaves m (Escape v)) (escape_fine K proper sc k.1 body w y s m x q h v p))
      started_good n (KStmt-F.Break m) q a b c = same e (does.Leaves m Break) (zero_aimed m sc.aims)
      started_good n (KStmt-F.Continue m) q a b c = same e (does.Leaves m Continue) (zero_aimed m sc.aims)
      started_good n (KStmt-F.If arms last) q a b c = or_fails_good e (chosen_part arms last body w) _ (λ i p. same e _ ((tt, tt), tt))
      started_good n (KStmt-F.Loop i x) q a b c = loop_reached_good e s i
      started_good n (KStmt-F.Par i slot bs) q a b c = par_good e n s bs
      started_good n layer q a b c = same e _ tt

    pub acted_good : (n : ℕ) (d : Part) (a : Act) → Sound K proper d → Known K proper d → ActFits d a → act_ready a → DoneGood d (acted K n body a w)
    unfolding frames_ready tree_ready
    acted_good n d (Begin b) h k begins r = same d _ ((tt, tt), next_ready (out-KBlock b).list)
    acted_good n d AtHead h k heads r = same d Heads tt
    acted_good n d Again h k goes_again r = same d Heads tt
    acted_good n d (Start s) h k (starts {sc = sc}) r =
        started_good sc s h k n (out-KStmt s.stmt) refl (at_start K proper (AStatement sc s) s body w starts h k y) (at_writes K (names_of K) sc s (out-KStmt s.stmt) refl h) (layer_hands K sc s (out-KStmt s.stmt) refl h)
    acted_good n d (Finish s v) h k (finishes {sc = sc} p) r = record { suits = tt; typed = targets_typed K proper sc (target s) v body w k.1 (target_fine K proper sc s h) r y }
    acted_good n d AtEnd h k ends r = same d Ends tt
