-- What a leaf does by itself fits its place.
use Rattle.std.proofs.Common.{◌≡◌, refl, sym, ap, ◌∙◌, subst, ℕ, suc, ℤ, pos, Bool, true, false, if◌then◌else◌, ◌⊎◌, inl, inr, List, [], ◌∷◌, Option, Some, None, Result, Ok, Err, arith}
use Rattle.std.proofs.lemmas.Bool.{false≢true}
use Rattle.ceu_base.specs.declared.kinds.Pos.{Pos}
use Rattle.ceu_base.specs.declared.kinds.Fault.{Fault}
use Rattle.ceu_base.specs.Values.{same}
use Rattle.ceu_tree.specs.declared.kernel.Kernel.{Kernel}
use Rattle.ceu_tree.specs.declared.kernel.KCode.{KCode}
use Rattle.ceu_tree.specs.declared.kernel.KLoop.{KLoop}
use Rattle.ceu_tree.specs.declared.kernel.KLoop.TheVariants as turns
use Rattle.ceu_tree.specs.declared.kernel.ParKind.{ParKind}
use Rattle.ceu_tree.specs.declared.kernel.KNode.{KNode}
use Rattle.ceu_tree.specs.declared.kernel.KArm.{KArm, out-KArm}
use Rattle.ceu_tree.specs.declared.kernel.KBlock.{KBlock, out-KBlock}
use Rattle.ceu_tree.specs.declared.kernel.KStmt.{out-KStmt}
use Rattle.ceu_tree.specs.declared.kernel.KStmt.TheOpen.{KStmt-F}
use Rattle.ceu_tree.specs.Residual.{Body, Act, Begin, Start, Finish, AtEnd, AtHead, Again, no_instance}
use Rattle.ceu_tree.specs.World.{World, Cell, Names, look}
use Rattle.ceu_tree.specs.Expressions.{value_of, value_if, values_of, names_living}
use Rattle.ceu_tree.specs.Leaf.{Layer, Does, Opens, Waits, Passes, Leaves, Registers, Ends, Heads, Emits, Spawns, Kills, Fails, Done, or_fails, code_at, chosen_part, branches_from, in_branches, loop_reached, called, spawning, killing, started, acted}
use Rattle.ceu_tree.specs.Around as outcome
use Rattle.ceu_tree.specs.Proper.{Scope, is_trail, is_proper}
use Rattle.ceu_tree.specs.Legal.{is_finalizer}
use Rattle.laws_meaning_basics.specs.Shape.{Part, ABlock, AStatement, part_scope, turn_scope, code_part, opens_part, among_arms, pauses, Fits, to_begin, at_input, at_time, at_event, at_forever, at_async, EachFits, no_more, a_branch, none_lives, around_part, around_turn, around_call, around_branch, nothing_around, one_around, begins, heads, goes_again, starts, finishes, ends, ActFits, TurnFits, in_trail, Comes}
use Rattle.laws_meaning_basics.proofs.Static.{layer_fine, names_of}
use Rattle.laws_meaning_basics.proofs.UpFits.{finalizes, finalizer_layer, no_finalizer, Sound, layer_of, list_goes}

pub pauses_no_finalizer : (layer : Layer) → pauses layer ≡ true → finalizes layer ≡ false
pauses_no_finalizer (KStmt-F.Finalize b) h = absurd (false≢true h)
pauses_no_finalizer layer h = refl

module _ (K : Kernel) (proper : is_proper K ≡ true) (n : ℕ) where
  -- an emission and a spawn are paused at their statement
  pub record Pausing (d : Part) (s : KNode) : Type 0 where
    pub scope : Scope
    pub is : d ≡ AStatement scope s
    pub pausing : pauses (out-KStmt s.stmt) ≡ true
    pub trail : is_trail scope.place ≡ true

  abbrev pub DoesFit : Part → Does → Type 0
  DoesFit d (Opens x) = TurnFits K (suc n) d x
  DoesFit d (Waits r) = in_trail d × Fits K (suc n) d r
  DoesFit d Passes = Comes K n d outcome.Past
  DoesFit d (Leaves node x) = Comes K n d (outcome.Leaves node x)
  DoesFit d (Registers s) = Comes K n d (outcome.Registers s)
  DoesFit d Ends = Comes K n d outcome.AtBlockEnd
  DoesFit d Heads = Comes K n d outcome.AtLoopHead
  DoesFit d (Emits s e v) = Pausing d s
  DoesFit d (Spawns s c code pool alias vs) = Pausing d s × (code_at code K.codes ≡ Some c)
  DoesFit d (Kills k) = Comes K n d outcome.Past
  DoesFit d (Fails e) = Unit {0}

  or_fails_fits : {A : Type 0} (d : Part) (a : Result A (Fault × Pos)) (w : World) (go : A → Done) → ((x : A) → DoesFit d (go x).does) → DoesFit d (or_fails a w go).does
  or_fails_fits d (Ok x) w go h = h x
  or_fails_fits d (Err e) w go h = tt

  branches_fit : (sc : Scope) (k : ParKind) (bs : List KBlock) → EachFits K (suc n) sc k bs (branches_from n bs)
  branches_fit sc k [] = no_more
  branches_fit sc k (b ∷ bs) = a_branch (to_begin (omega arith)) (branches_fit sc k bs)

  -- the first part whose condition holds is one of them
  chosen_fits : (d : Part) (arms : List KArm) (last : KBlock) (body : Body) (w : World) (go : KBlock → Done)
      → ((b : KBlock) → among_arms arms b ⊎ (last ≡ b) → DoesFit d (go b).does) → DoesFit d (or_fails (chosen_part arms last body w) w go).does
  chosen_fits d [] last body w go h = h last (inr refl)
  chosen_fits d (a ∷ arms) last body w go h = case (value_of (out-KArm a).cond body w) (chosen_fits d arms last body w go (λ b x. h b (further b x)))
    where
      further : (b : KBlock) → among_arms arms b ⊎ (last ≡ b) → among_arms (a ∷ arms) b ⊎ (last ≡ b)
      further b (inl x) = inl (inr x)
      further b (inr e) = inr e

      either : (b : Bool) → DoesFit d (or_fails (chosen_part arms last body w) w go).does → DoesFit d (or_fails (if b then chosen_part arms last body w else Ok (out-KArm a).body) w go).does
      either true x = x
      either false x = h (out-KArm a).body (inl (inl refl))

      case : (o : Result ℤ (Fault × Pos)) → DoesFit d (or_fails (chosen_part arms last body w) w go).does
          → DoesFit d (or_fails (elim o [ Ok v ↦ if same v (pos 0) then chosen_part arms last body w else Ok (out-KArm a).body | Err e ↦ Err e ]) w go).does
      case (Ok v) x = either (same v (pos 0)) x
      case (Err e) x = tt

  module _ (sc : Scope) (s : KNode) (body : Body) (w : World) where
    loop_fits : (k : KLoop) (b : KBlock) → out-KStmt s.stmt ≡ KStmt-F.Loop k b → DoesFit (AStatement sc s) (loop_reached s k body w).does
    loop_fits turns.Free b e = record { part = ABlock true (turn_scope K sc s.node turns.Free) b; around = one_around (around_turn turns.Free b e refl) nothing_around; acts = heads }
    loop_fits (turns.Times slot m) b e = record { part = ABlock true (turn_scope K sc s.node (turns.Times slot m)) b; around = one_around (around_turn (turns.Times slot m) b e refl) nothing_around; acts = heads }
    loop_fits (turns.Range i next end open_a x y open_b) b e =
        or_fails_fits (AStatement sc s) (value_of x body w) w _ (λ u. or_fails_fits (AStatement sc s) (value_of y body w) w _ (λ v. record {
          part = ABlock true (turn_scope K sc s.node (turns.Range i next end open_a x y open_b)) b;
          around = one_around (around_turn (turns.Range i next end open_a x y open_b) b e refl) nothing_around;
          acts = heads;
        }))

    par_fits : (k : ParKind) (slot : ℕ) (bs : List KBlock) → out-KStmt s.stmt ≡ KStmt-F.Par k slot bs → DoesFit (AStatement sc s) (in_branches n s bs)
    par_fits k slot [] e = no_finalizer s _ e refl
    par_fits k slot (b ∷ bs) e = record { part = ABlock false sc b; around = one_around (around_branch k slot [] b bs e no_more (branches_fit sc k bs)) nothing_around; acts = begins }

    killing_fits : (o : Option Cell) (living : List ℕ) → is_finalizer s.stmt ≡ false → DoesFit (AStatement sc s) (killing o living)
    killing_fits (Some (Names m)) living h = go (names_living (Some (Names m)) living)
      where
        go : (b : Bool) → DoesFit (AStatement sc s) (if b then Kills m else Passes)
        go true = h
        go false = h
    killing_fits o living h = h

    called_fits : (c : ℕ) (es f t : _) (o : Option KCode) (vs : List ℤ) → out-KStmt s.stmt ≡ KStmt-F.AwaitCode c es f t → code_at c K.codes ≡ o → DoesFit (AStatement sc s) (called s o vs body w).does
    called_fits c es f t None vs e q = no_finalizer s _ e refl
    called_fits c es f t (Some k) vs e q = record { part = code_part K c k; around = one_around (around_call c es f t k e q) nothing_around; acts = begins }

    spawning_fits : (c : ℕ) (es : _) (p : ℕ) (a : Option ℕ) (o : Option KCode) (vs : List ℤ) → out-KStmt s.stmt ≡ KStmt-F.Spawn c es p a → code_at c K.codes ≡ o → is_trail sc.place ≡ true
        → DoesFit (AStatement sc s) (spawning s o c p a vs w).does
    spawning_fits c es p a None vs e q h = no_finalizer s _ e refl
    spawning_fits c es p a (Some k) vs e q h = (record { scope = sc; is = refl; pausing = ap pauses e; trail = h }, q)

    started_fits : (layer : Layer) → out-KStmt s.stmt ≡ layer → layer_fine K (names_of K) sc s.node layer → DoesFit (AStatement sc s) (started K n body s layer w).does
    started_fits (KStmt-F.Emit k x) e h = or_fails_fits (AStatement sc s) (value_if x body w) w _ (λ v. record { scope = sc; is = refl; pausing = ap pauses e; trail = h })
    started_fits (KStmt-F.AwaitIn k t) e h = (h, at_input t e)
    started_fits (KStmt-F.AwaitTime x u t) e h = or_fails_fits (AStatement sc s) (value_of x body w) w _ (λ v. (h, at_time x u t e))
    started_fits (KStmt-F.AwaitEvent k t) e h = (h, at_event t e)
    started_fits KStmt-F.Forever e h = (h, at_forever e)
    started_fits (KStmt-F.AwaitCode c es f t) e h = or_fails_fits (AStatement sc s) (values_of es body w) w _ (λ vs. called_fits c es f t (code_at c K.codes) vs e refl)
    started_fits (KStmt-F.Spawn c es p a) e h = or_fails_fits (AStatement sc s) (values_of es body w) w _ (λ vs. spawning_fits c es p a (code_at c K.codes) vs e refl h.0)
    started_fits (KStmt-F.Async b) e h = (h.0, at_async b e (to_begin (omega arith)))
    started_fits (KStmt-F.Finalize b) e h = (refl, finalizer_layer s.stmt ∙ ap finalizes e)
    started_fits (KStmt-F.Do t b) e h = record {
      part = ABlock false (part_scope K sc s.node (out-KStmt s.stmt)) b;
      around = one_around (around_part b (subst (λ l. opens_part l b) (sym e) refl)) nothing_around;
      acts = begins;
    }
    started_fits (KStmt-F.Escape m x) e h = or_fails_fits (AStatement sc s) (value_if x body w) w _ (λ v. h)
    started_fits (KStmt-F.Break m) e h = h
    started_fits (KStmt-F.Continue m) e h = h
    started_fits (KStmt-F.If arms last) e h = chosen_fits (AStatement sc s) arms last body w _ (λ b q. record {
      part = ABlock false (part_scope K sc s.node (out-KStmt s.stmt)) b;
      around = one_around (around_part b (subst (λ l. opens_part l b) (sym e) q)) nothing_around;
      acts = begins;
    })
    started_fits (KStmt-F.Loop k b) e h = loop_fits k b e
    started_fits (KStmt-F.Par k slot bs) e h = par_fits k slot bs e
    started_fits (KStmt-F.Kill c) e h = killing_fits (look body c w.values) w.living (no_finalizer s _ e refl)
    started_fits (KStmt-F.Assign l x) e h = or_fails_fits (AStatement sc s) (value_of x body w) w _ (λ v. no_finalizer s _ e refl)
    started_fits (KStmt-F.Out k x) e h = or_fails_fits (AStatement sc s) (value_if x body w) w _ (λ v. no_finalizer s _ e refl)
    started_fits layer e h = no_finalizer s _ e refl

  pub acted_fits : (body : Body) (d : Part) (a : Act) (w : World) → Sound K proper d → ActFits d a → DoesFit d (acted K n body a w).does
  acted_fits body d (Begin b) w h (begins {turn = turn} {sc = sc}) = list_goes K proper n turn sc b [] no_instance [] (out-KBlock b).list refl refl none_lives
  acted_fits body d AtHead w h heads = tt
  acted_fits body d Again w h goes_again = tt
  acted_fits body d (Start s) w h (starts {sc = sc}) = started_fits sc s body w (out-KStmt s.stmt) refl (layer_of K proper sc s (out-KStmt s.stmt) refl h)
  acted_fits body d (Finish s v) w h (finishes p) = no_finalizer s (out-KStmt s.stmt) refl (pauses_no_finalizer (out-KStmt s.stmt) p)
  acted_fits body d AtEnd w h ends = tt
