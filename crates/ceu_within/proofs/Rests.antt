-- What waits keeps values within the open parts: at boot, when its trail is chosen, and when an input or time wakes it.
use Rattle.std.proofs.Common.{◌≡◌, refl, sym, ap, ◌∙◌, subst, ℕ, min, ℤ, pos, Bool, true, false, if◌then◌else◌, ◌==◌, [], ◌++◌, Option, Some, None, arith, eqb-true}
use Rattle.std.proofs.lemmas.Int.{ints}
use Rattle.ceu_base.specs.declared.kinds.Ty.{Ty}
use Rattle.ceu_base.specs.declared.kinds.Ty.TheVariants as ty
use Rattle.ceu_base.specs.Values.{IsValue}
use Rattle.ceu_tree.specs.declared.kernel.Kernel.{Kernel}
use Rattle.ceu_tree.specs.declared.kernel.KStmt.{out-KStmt}
use Rattle.ceu_tree.specs.Residual.{Act, Finish, Residual, Over, Run, WaitInput, WaitTime, WaitEvent, WaitForever, InAsync, Block, Open, Loop, Call, Par}
use Rattle.ceu_tree.specs.Focus.{Frame, OfBlock, OfOpen, OfLoop, Focus, Here, In, leaf, here, under, or_else, in_block, choose, choose_instance}
use Rattle.ceu_tree.specs.Wake.{each_leaf, runs_at, by_input, later, by_time}
use Rattle.ceu_tree.specs.Proper.{port_ty}
use Rattle.laws_meaning_basics.specs.Shape.{Part, ABlock, AStatement, block_scope, part_scope, turn_scope, Fits, in_list, at_input, at_time, in_part, in_turn}
use Rattle.laws_meaning_values.proofs.Ranges.{value_from}
use Rattle.ceu_endings.specs.OneTrail.{OneLeaf}
use Rattle.ceu_trail.specs.Within.{looped, in_frame, in_focus, in_rest, frame_within, focus_within, brings, act_brings, rest_within}

-- ---- the trail that is chosen

pub record ChosenIn (K : Kernel) (r : Residual) (f : Focus Act) : Type 0 where
  pub variables : in_focus f ≡ in_rest r
  pub counters : focus_within f
  pub brought : act_brings K (leaf f)

none_focus : (f : Focus Act) → None ≡ Some f → ⊥
none_focus f h = absurd (cc)

abbrev focus_or : Focus Act → Option (Focus Act) → Focus Act
focus_or f None = f
focus_or f (Some g) = g

same_focus : (f g : Focus Act) → Some f ≡ Some g → f ≡ g
same_focus f g h = ap (focus_or f) h

module _ (K : Kernel) where
  under_frame : (fr : Frame) (r : Residual) (f : Focus Act) (o : Option (Focus Act)) → ((g : Focus Act) → o ≡ Some g → ChosenIn K r g) → frame_within fr → under fr o ≡ Some f → (in_frame fr ++ in_rest r ≡ in_focus f) × focus_within f × act_brings K (leaf f)
  unfolding focus_within
  under_frame fr r f None h c e = absurd (none_focus f e)
  under_frame fr r f (Some g) h c e =
      let i = h g refl in
      subst (λ x. (in_frame fr ++ in_rest r ≡ in_focus x) × focus_within x × act_brings K (leaf x)) (same_focus (In fr g) f e) (ap (λ l. in_frame fr ++ l) (sym i.variables), (c, i.counters), i.brought)

  here_chosen : (r : Residual) (f : Focus Act) (o : Option Act) → in_rest r ≡ [] → ((a : Act) → o ≡ Some a → act_brings K a) → here o ≡ Some f → ChosenIn K r f
  unfolding focus_within
  here_chosen r f None q h e = absurd (none_focus f e)
  here_chosen r f (Some a) q h e = subst (ChosenIn K r) (same_focus (Here a) f e) (record { variables = sym q; counters = tt; brought = h a refl })

  no_act : (a : Act) → None ≡ Some a → ⊥
  no_act a h = absurd (cc)

  abbrev act_or : Act → Option Act → Act
  act_or a None = a
  act_or a (Some b) = b

  pub chosen_in : (n top : ℕ) (r : Residual) (f : Focus Act) → OneLeaf top r → rest_within K r → choose Act (runs_at n) r ≡ Some f → ChosenIn K r f
  unfolding OneLeaf rest_within in_rest choose choose_instance
  chosen_in n top (Block b fin all r rest) f p h e =
      let e' : under (OfBlock b fin all rest) (choose Act (runs_at n) r) ≡ Some f =
      subst (λ x. or_else (in_block b fin r rest (choose_instance Act (runs_at n) x)) (under (OfBlock b fin all rest) (choose Act (runs_at n) r)) ≡ Some f) p.1 e in
      let a = under_frame (OfBlock b fin all rest) r f (choose Act (runs_at n) r) (λ g q. chosen_in n top r g p.2 h q) tt e' in
      record { variables = sym a.0; counters = a.1; brought = a.2 }
  chosen_in n top (Open s r) f p h e =
      let a = under_frame (OfOpen s) r f (choose Act (runs_at n) r) (λ g q. chosen_in n top r g p h q) tt e in record { variables = sym a.0; counters = a.1; brought = a.2 }
  chosen_in n top (Loop s c r) f p h e =
      let a = under_frame (OfLoop s c) r f (choose Act (runs_at n) r) (λ g q. chosen_in n top r g p h.1 q) h.0 e in record { variables = sym a.0; counters = a.1; brought = a.2 }
  chosen_in n top (Run m a) f p h e = go (m == n) e
    where
      go : (b : Bool) → here (if b then Some a else None) ≡ Some f → ChosenIn K (Run m a) f
      go true k = here_chosen (Run m a) f (Some a) refl (λ c q. subst (act_brings K) (ap (act_or a) q) h) k
      go false k = absurd (none_focus f k)
  chosen_in n top (WaitInput k s) f p h e = absurd (none_focus f e)
  chosen_in n top (WaitTime d s) f p h e = absurd (none_focus f e)
  chosen_in n top (WaitEvent k s) f p h e = absurd p
  chosen_in n top (WaitForever s) f p h e = absurd (none_focus f e)
  chosen_in n top (InAsync s served r) f p h e = absurd p
  chosen_in n top (Call s r) f p h e = absurd p
  chosen_in n top (Par s bs) f p h e = absurd p
  chosen_in n top Over f p h e = absurd p

  -- ---- a leaf that is woken

  abbrev pub ty_or : Ty → Option Ty → Ty
  ty_or t None = t
  ty_or t (Some u) = u

  -- a leaf that is changed has no variables, and goes on with a value that it takes
  pub record LeafKept (q r : Residual) : Type 0 where
    pub variables : in_rest q ≡ in_rest r
    pub kept : rest_within K r → rest_within K q

  module _ (g : Residual → Residual) where
    abbrev pub LeavesKept : Type 0
    LeavesKept = (d : Part) (r : Residual) → Fits K 0 d r → LeafKept (g r) r

    pub leaves_kept : LeavesKept → (d : Part) (r : Residual) → Fits K 0 d r → OneLeaf 0 r → LeafKept (each_leaf g r) r
    unfolding OneLeaf rest_within in_rest each_leaf
    leaves_kept h d (Block b fin all r rest) (in_list {sc = sc} {s = s} done q z i more) p =
        let a = leaves_kept h (AStatement (block_scope sc b) s) r more p.2 in
        record { variables = ap (λ l. in_frame (OfBlock b fin all rest) ++ l) a.variables; kept = λ k. a.kept k }
    leaves_kept h d (Open s r) (in_part {sc = sc} b o more) p = let a = leaves_kept h (ABlock false (part_scope K sc s.node (out-KStmt s.stmt)) b) r more p in record { variables = a.variables; kept = λ k. a.kept k }
    leaves_kept h d (Loop s c r) (in_turn {sc = sc} j b q o more) p =
        let a = leaves_kept h (ABlock true (turn_scope K sc s.node j) b) r more p in record { variables = ap (λ l. looped (out-KStmt s.stmt) ++ l) a.variables; kept = λ k. (k.0, a.kept k.1) }
    leaves_kept h d (Run n a) x p = h d (Run n a) x
    leaves_kept h d (WaitInput k s) x p = h d (WaitInput k s) x
    leaves_kept h d (WaitTime t s) x p = h d (WaitTime t s) x
    leaves_kept h d (WaitForever s) x p = h d (WaitForever s) x
    leaves_kept h d (WaitEvent e s) x p = absurd p
    leaves_kept h d (InAsync s served r) x p = absurd p
    leaves_kept h d (Call s r) x p = absurd p
    leaves_kept h d (Par s bs) x p = absurd p
    leaves_kept h d Over x p = absurd p

  pub input_leaf : (k : ℕ) (t : Ty) (v : ℤ) → port_ty K k K.inputs ≡ Some t → IsValue t v → LeavesKept (by_input k v)
  unfolding rest_within in_rest
  input_leaf k t v e i d (WaitInput j s) (at_input u q) = go (j == k) refl
    where
      bring : j ≡ k → brings K (out-KStmt s.stmt) v
      bring z = subst (λ l. brings K l v) (sym q) (λ y x. subst (λ w. IsValue w v) (ap (ty_or t) (sym e ∙ ap (λ m. port_ty K m K.inputs) (sym z) ∙ x)) i)

      go : (b : Bool) → (j == k) ≡ b → LeafKept (if b then Run 0 (Finish s v) else WaitInput j s) (WaitInput j s)
      go true z = record { variables = refl; kept = λ h. bring (eqb-true j k z) }
      go false z = record { variables = refl; kept = λ h. h }
  input_leaf k t v e i d (Run n a) x = record { variables = refl; kept = λ h. h }
  input_leaf k t v e i d r x = record { variables = refl; kept = λ h. h }

  pub later_leaf : (us : ℕ) → LeavesKept (later us)
  unfolding rest_within in_rest
  later_leaf us d (WaitTime left s) x = record { variables = refl; kept = λ h. h }
  later_leaf us d r x = record { variables = refl; kept = λ h. h }

  delay_value : (delay : ℕ) → IsValue ty.S32 (pos (min delay 2147483647))
  delay_value delay = value_from ty.S32 (pos (min delay 2147483647)) (omega (arith, ints)) (omega (arith, ints))

  pub time_leaf : (delay : ℕ) → LeavesKept (by_time delay)
  unfolding rest_within in_rest
  time_leaf delay d (WaitTime left s) (at_time e u t q) = go (left == 0)
    where
      go : (b : Bool) → LeafKept (if b then Run 0 (Finish s (pos (min delay 2147483647))) else WaitTime left s) (WaitTime left s)
      go true = record { variables = refl; kept = λ h. subst (λ l. brings K l (pos (min delay 2147483647))) (sym q) (delay_value delay) }
      go false = record { variables = refl; kept = λ h. h }
  time_leaf delay d r x = record { variables = refl; kept = λ h. h }
