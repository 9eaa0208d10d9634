-- What commands make of a program that waits: the configuration that they leave stands in the memory, and holds what it has to.
use Rattle.std.proofs.Common.{◌≡◌, refl, ap, ◌∙◌, subst, ℕ, zero, suc, ◌-◌, ℤ, nat_le, true, false, List, [], ◌∷◌, Some, None, inr, arith}
use Rattle.std.specs.Prelude.{slice_get}
use Rattle.ceu_base.specs.declared.kinds.Port.{Port}
use Rattle.ceu_base.specs.declared.kinds.Ty.{Ty}
use Rattle.ceu_base.specs.Values.{IsValue}
use Rattle.ceu_code.specs.declared.image.Image.{Image}
use Rattle.ceu_mem.proofs.Views.{number_written, number_outside}
use Rattle.ceu_isa.specs.Layout.{reacting, with_state, top_of}
use Rattle.ceu_isa.specs.Reactions as machine
use Rattle.ceu_isa.specs.Safety.{Fits, IsInput}
use Rattle.ceu_isa.specs.Turns.{Machine, rewritten}
use Rattle.ceu_tree.specs.declared.command.Command.{Command}
use Rattle.ceu_tree.specs.declared.command.Command.TheVariants.{Input, Advance}
use Rattle.ceu_tree.specs.declared.kernel.Kernel.{Kernel}
use Rattle.ceu_tree.specs.Residual.{Body, Residual}
use Rattle.ceu_tree.specs.World.{World}
use Rattle.ceu_tree.specs.Wake.{each_leaf, leaves, by_input, later, by_time, least_time}
use Rattle.ceu_tree.specs.Proper.{port_ty}
use Rattle.ceu_tree.specs.Run.{Config, Between, Waiting, world_of, steps, done, advance}
use Rattle.ceu_shape.specs.Plans.{Plan}
use Rattle.laws_meaning_basics.specs.Shape.{ConfigFits}
use Rattle.laws_meaning_basics.proofs.Leaves.{leaves_fit, later_fits}
use Rattle.laws_meaning_basics.proofs.RunFits.{done_fits}
use Rattle.laws_meaning_values.specs.Needed.{Valued}
use Rattle.laws_machine_layout.specs.Views.{Home}
use Rattle.ceu_endings.specs.Counted.{Counted}
use Rattle.laws_meaning_values.proofs.RunValues.{done_valued}
use Rattle.laws_machine_layout.specs.Laws.{AreBytes}
use Rattle.laws_machine_layout.specs.Values.{MemoryStands}
use Rattle.ceu_endings.specs.Ends.{EndsTurns}
use Rattle.ceu_endings.proofs.CountedRuns as counters
use Rattle.ceu_endings.proofs.Shapes.{no_codes}
use Rattle.ceu_trail.specs.Compiled.{Compiled}
use Rattle.ceu_trail.specs.Laws.{StepsAreDone}
use Rattle.ceu_trail.specs.Tables.{tables}
use Rattle.ceu_trail.specs.Within.{RestWithin}
use Rattle.ceu_within.proofs.Whole.{input_within, time_within}
use Rattle.ceu_follows.specs.Kept.{ConfigWithin, Kept}
use Rattle.ceu_follows.specs.Reactions.{Follows}
use Rattle.ceu_follows.proofs.Memory.{header_fits, number_bytes}
use Rattle.ceu_follows.proofs.Headers.{memory_same}
use Rattle.ceu_follows.proofs.Reacting.{reaction_follows}

-- ---- advances of the reference semantics

pub advance_none : (K : Kernel) (n j d : ℕ) (r : Residual) (w : World) → least_time (leaves r) ≡ None → advance K n (suc j) d (Waiting r w) ≡ Waiting r w
unfolding advance
advance_none K n j d r w e = rw (e, advance) refl

pub advance_due : (K : Kernel) (n j d t : ℕ) (r : Residual) (w : World) → least_time (leaves r) ≡ Some t → nat_le t d ≡ true
    → advance K n (suc j) d (Waiting r w) ≡ advance K n j (d - t) (steps K n (Between 0 (each_leaf (by_time (d - t)) (each_leaf (later t) r)) w))
unfolding advance
advance_due K n j d t r w e h = rw (e, advance) (rw (h, advance) refl)

pub advance_waits : (K : Kernel) (n j d t : ℕ) (r : Residual) (w : World) → least_time (leaves r) ≡ Some t → nat_le t d ≡ false → advance K n (suc j) d (Waiting r w) ≡ Waiting (each_leaf (later d) r) w
unfolding advance
advance_waits K n j d t r w e h = rw (e, advance) (rw (h, advance) refl)

advance_between : (K : Kernel) (n j d l : ℕ) (r : Residual) (w : World) → advance K n j d (Between l r w) ≡ Between l r w
unfolding advance
advance_between K n zero d l r w = refl
advance_between K n (suc j) d l r w = refl

-- ---- an input's type

pub record PortAt (K : Kernel) (k : ℕ) (ports : List Port) (v : ℤ) : Type 0 where
  pub ty : Ty
  pub there : port_ty K k ports ≡ Some ty
  pub is_value : IsValue ty v

port_at : (K : Kernel) (k : ℕ) (ports : List Port) (v : ℤ) → IsInput (slice_get ports k) v → PortAt K k ports v
port_at K k [] v h = absurd h
port_at K zero (p ∷ ps) v h = record { ty = p.ty; there = refl; is_value = h }
port_at K (suc k) (p ∷ ps) v h = let x = port_at K k ps v h in record { ty = x.ty; there = x.there; is_value = x.is_value }

module _ (K : Kernel) (ends : EndsTurns K) where
  -- ---- what holds after a command that comes at once to this configuration

  kept_by : (x : Command) (c d : Config) → Kept K c → done K 0 x c ≡ d → ConfigWithin K d → (world_of d).fault ≡ None → Kept K d
  kept_by x c d h e within unfaulted = record {
    fits = subst (ConfigFits K) e (done_fits K ends.proper 0 x c h.fits);
    valued = subst (Valued) e (done_valued K ends.proper (no_codes K ends.single).0 0 x c h.fits h.valued);
    counted = subst (Counted) e (counters.done_kept K 0 x c h.counted);
    within = within;
    unfaulted = unfaulted;
  }

  input_is : (k : ℕ) (v : ℤ) (r : Residual) (w : World) → done K 0 (Input k v) (Waiting r w) ≡ Between 0 (each_leaf (by_input k v) r) w
  unfolding done steps
  input_is k v r w = refl

  pub input_kept : (k : ℕ) (v : ℤ) (ports : List Port) (r : Residual) (w : World) → Kept K (Waiting r w) → IsInput (slice_get ports k) v → ports ≡ K.inputs → Kept K (Between 0 (each_leaf (by_input k v) r) w)
  input_kept k v ports r w h i e =
      let p : PortAt K k K.inputs v = port_at K k K.inputs v (subst (λ (l : List Port). IsInput (slice_get l k) v) e i) in
      kept_by (Input k v) (Waiting r w) (Between 0 (each_leaf (by_input k v) r) w) h (input_is k v r w) (input_within K r w k p.ty v ends.proper ends.single h.fits h.within p.there p.is_value) h.unfaulted

  none_yet : (c : Config) → steps K 0 c ≡ c
  unfolding steps
  none_yet c = refl

  advance_done : (n d : ℕ) (c : Config) → done K n (Advance d) c ≡ advance K n (suc d) d c
  unfolding done
  advance_done n d c = ap (λ (j : ℕ). advance K n j d c) (omega arith)

  pub due_kept : (d t : ℕ) (r : Residual) (w : World) → Kept K (Waiting r w) → least_time (leaves r) ≡ Some t → nat_le t d ≡ true → Kept K (Between 0 (each_leaf (by_time (d - t)) (each_leaf (later t) r)) w)
  due_kept d t r w h e le =
      let q : Residual = each_leaf (by_time (d - t)) (each_leaf (later t) r) in
      let is : done K 0 (Advance d) (Waiting r w) ≡ Between 0 (each_leaf (by_time (d - t)) (each_leaf (later t) r)) w =
      advance_done 0 d (Waiting r w) ∙ advance_due K 0 d d t r w e le ∙ ap (λ (c : Config). advance K 0 d (d - t) c) (none_yet (Between 0 q w)) ∙ advance_between K 0 d (d - t) 0 q w in
      let later_within : RestWithin K (each_leaf (later t) r) w = (time_within K r w t 0 ends.proper ends.single h.fits h.within).0 in
      kept_by (Advance d) (Waiting r w) (Between 0 (each_leaf (by_time (d - t)) (each_leaf (later t) r)) w) h is
      (time_within K (each_leaf (later t) r) w 0 (d - t) ends.proper ends.single (leaves_fit K 0 0 (later t) (later_fits K t) h.fits) later_within).1 h.unfaulted

  pub later_kept : (d t : ℕ) (r : Residual) (w : World) → Kept K (Waiting r w) → least_time (leaves r) ≡ Some t → nat_le t d ≡ false → Kept K (Waiting (each_leaf (later d) r) w)
  later_kept d t r w h e le =
      kept_by (Advance d) (Waiting r w) (Waiting (each_leaf (later d) r) w) h (advance_done 0 d (Waiting r w) ∙ advance_waits K 0 d d t r w e le)
      (time_within K r w d 0 ends.proper ends.single h.fits h.within).0 h.unfaulted

-- ---- a reaction begins

module _ (image : Image) (P : Plan) (width : ℕ → ℕ) (K : Kernel) (compiled : Compiled image P width K) (ends : EndsTurns K) (laws : StepsAreDone) where
  pub reacts_follow : (homes : Body → Home) (r : Residual) (w : World) (m : Machine) → Kept K (Between 0 r w) → Fits image m.bytes → AreBytes m.bytes → top_of m.bytes ≡ 0
      → MemoryStands image (tables P width K) homes r w m.bytes → Follows image P width K w.marks m.marks (λ n. steps K n (Between 0 r w)) (machine.reacts image m)
  reacts_follow homes r w m kept fits small top stands =
      reaction_follows image P width K compiled ends laws r w (rewritten (with_state reacting m.bytes) m) kept (record {
        fits = header_fits image m.bytes fits small 2 reacting 0;
        are_bytes = number_bytes 2 reacting m.bytes 0 small;
        stands = record {
          home = homes;
          memory = memory_same image m.bytes fits small 2 reacting 0 (omega arith) (tables P width K) homes r w (omega arith) stands;
          state_is = number_written 2 reacting m.bytes 0 (omega arith) (omega (arith, fits.size));
          top_is = number_outside 2 2 reacting m.bytes 0 2 (inr (omega arith)) ∙ top;
        };
      })
