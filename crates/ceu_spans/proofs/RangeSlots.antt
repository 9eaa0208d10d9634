-- The slots of a loop over a range: its variable, and the two hidden ones with the next value and the last one. One of the hidden ones is written, or the
-- variable takes a value: all else stays.
use Rattle.std.proofs.Common.{◌≡◌, ◌≢◌, refl, sym, ap, subst, ◌≤◌, ℕ, ◌+◌, ◌%◌, ◌^◌, ℤ, Bool, false, List, [], ◌∷◌, Contains, arith}
use Rattle.std.proofs.lemmas.List.Elements.{Contains-append_right, Contains-push}
use Rattle.ceu_base.specs.declared.kinds.Pos.{Pos}
use Rattle.ceu_base.specs.declared.kinds.Ty.TheVariants as ty
use Rattle.ceu_base.specs.Values.{IsValue}
use Rattle.ceu_code.specs.declared.image.Image.{Image}
use Rattle.ceu_code.specs.Instructions.{cell}
use Rattle.ceu_mem.specs.Bytes.{with_number}
use Rattle.ceu_mem.specs.Memory.{with_value}
use Rattle.ceu_isa.specs.Layout.{slots_at, end_of}
use Rattle.ceu_tree.specs.declared.kernel.Kernel.{Kernel}
use Rattle.ceu_tree.specs.declared.kernel.KExp.{KExp}
use Rattle.ceu_tree.specs.declared.kernel.KLoop.{KLoop}
use Rattle.ceu_tree.specs.declared.kernel.KLoop.TheVariants as turns
use Rattle.ceu_tree.specs.declared.kernel.KNode.{KNode}
use Rattle.ceu_tree.specs.declared.kernel.KBlock.{KBlock}
use Rattle.ceu_tree.specs.declared.kernel.KStmt.{out-KStmt, Loop}
use Rattle.ceu_tree.specs.declared.kernel.Loc.{Loc}
use Rattle.ceu_tree.specs.Leaf.{Layer}
use Rattle.ceu_tree.specs.Proper.{Scope}
use Rattle.ceu_tree.specs.Residual.{Program, Upward, no_instance}
use Rattle.ceu_tree.specs.Focus.{Frame, OfBlock, OfLoop}
use Rattle.ceu_tree.specs.World.{World, Holds, set}
use Rattle.ceu_shape.specs.Plans.{Plan}
use Rattle.ceu_slots.specs.Law.{TurnsSized}
use Rattle.laws_machine_layout.specs.Views.{view, slot_number}
use Rattle.ceu_trail.specs.Compiled.{Compiled}
use Rattle.ceu_trail.specs.Tables.{tables}
use Rattle.ceu_trail.specs.Turning.{FrameCounts, MemoryHolds}
use Rattle.ceu_trail.specs.Within.{Variable, ValuesWithin, looped}
use Rattle.ceu_within.proofs.Widths.{variable, set_within}
use Rattle.ceu_steps.specs.Premises.{BuiltLaws}
use Rattle.ceu_steps.specs.Live.{vars_in, slots_in, Live}
use Rattle.ceu_steps.proofs.Frames.{AllCount}
use Rattle.ceu_steps.proofs.Scenes.{scene_of}
use Rattle.ceu_steps.proofs.Store.{Stored, stored, hidden_is_in}
use Rattle.ceu_steps.proofs.Turns.{Standing, sizes_of, single_of}
use Rattle.ceu_rounds.proofs.Spots.{inside, loop_layer}
use Rattle.ceu_rounds.proofs.HiddenSlots.{hidden_number, hidden_other, hidden_memory, hidden_counts_stay}
use Rattle.ceu_rounds.proofs.LoopSlots.{all_live, own_sized, frames_sized, mine, seen_apart, outer_apart}
use denote.Hole.Carrier

module _ (laws : BuiltLaws) (image : Image) (P : Plan) (width : ℕ → ℕ) (K : Kernel) (compiled : Compiled image P width K) (outer : List Frame) (turn : Bool) (sc : Scope) (b : KBlock) (done rest : List KNode) (n : ℕ) (p : Pos)
    (i next end : ℕ) (open_a : Bool) (x y : KExp) (open_b : Bool) (body : KBlock) (u v : ℤ) (spot : Standing K outer turn sc b done rest (record { node = n; pos = p; stmt = Loop (turns.Range i next end open_a x y open_b) body })) where
  abbrev pub kind : KLoop
  kind = turns.Range i next end open_a x y open_b

  abbrev pub this : KNode
  this = record { node = n; pos = p; stmt = Loop (turns.Range i next end open_a x y open_b) body }

  abbrev pub frames : List Frame
  frames = OfBlock b [] no_instance rest ∷ outer

  abbrev pub all : List Frame
  all = OfLoop this (Upward u v) ∷ frames

  pub sizes : TurnsSized P.offset width P.frame kind
  sizes = own_sized laws image P width K compiled outer turn sc b done rest n p kind body (Upward u v) spot refl

  lives : Live P.offset width P.frame P.total all
  lives = all_live laws image P width K compiled outer turn sc b done rest n p kind body (Upward u v) spot refl

  pub next_there : Contains (next ∷ end ∷ []) next
  next_there = (0, omega arith, refl)

  pub end_there : Contains (next ∷ end ∷ []) end
  end_there = (1, omega arith, refl)

  pub end_behind : P.offset end ≡ P.offset next + 8
  end_behind = sizes.3

  -- the next value and the last one have two slots
  pub others : next ≢ end
  others q = let e : P.offset end ≡ P.offset next = ap P.offset (sym q) in absurd (omega (arith, e, end_behind))

  counters_in : (z : ℕ) → Contains (next ∷ end ∷ []) z → Contains (slots_in all) z
  counters_in z c = mine laws image P width K compiled outer turn sc b done rest n p kind body (Upward u v) spot refl z c

  counters_apart : (z : ℕ) → Contains (next ∷ end ∷ []) z → (r : Variable) → Contains (vars_in all) r → z ≢ r.slot
  counters_apart z c r d = seen_apart laws image P width K compiled outer turn sc b done rest n p kind body (Upward u v) spot refl z c r d

  pub room : (z : ℕ) → Contains (next ∷ end ∷ []) z → width z ≡ 8 → slots_at image + P.offset z + 8 ≤ end_of image
  room z c wide = let a = lives.within z (counters_in z c) in let e = (sizes_of image P width K compiled).slots_is in omega (arith, a, wide, e)

  -- ---- a hidden slot is written

  pub record Wrote (z number : ℕ) (w : World) (old : List ℕ) : Type 0 where
    pub memory : MemoryHolds image P width K w (with_number 8 number old (slots_at image + P.offset z))
    pub counts : AllCount (tables P width K) image (view image (with_number 8 number old (slots_at image + P.offset z))) frames
    pub there : slot_number image (with_number 8 number old (slots_at image + P.offset z)) 8 (slots_at image + P.offset z) ≡ number % 256 ^ 8
    pub still : (s : ℕ) → Contains (next ∷ end ∷ []) s → width s ≡ 8 → s ≢ z
        → slot_number image (with_number 8 number old (slots_at image + P.offset z)) 8 (slots_at image + P.offset s) ≡ slot_number image old 8 (slots_at image + P.offset s)

  pub wrote : (z number : ℕ) (w : World) (old : List ℕ) → Contains (next ∷ end ∷ []) z → width z ≡ 8 → ValuesWithin (vars_in all) w → MemoryHolds image P width K w old → AllCount (tables P width K) image (view image old) frames → Wrote z number w old
  wrote z number w old c wide held holds counts =
      let sz = (sizes_of image P width K compiled).slots_is in
      let new : List ℕ = with_number 8 number old (slots_at image + P.offset z) in
      let in_use = counters_in z c in
      let apart = counters_apart z c in
      record {
        memory = hidden_memory image P width K sz all lives z 8 number old in_use wide w held apart holds;
        counts = hidden_counts_stay image P width K sz all lives z 8 number old in_use wide w held apart holds frames (frames_sized laws image P width K compiled outer turn sc b done rest n p kind body (Upward u v) spot refl)
            (outer_apart laws image P width K compiled outer turn sc b done rest n p kind body (Upward u v) spot refl z c) counts;
        there = hidden_number image P width K sz all lives z 8 number old in_use wide w held apart holds;
        still = λ s d e ne. subst (λ (k : ℕ). slot_number image new k (slots_at image + P.offset s) ≡ slot_number image old k (slots_at image + P.offset s)) e
            (hidden_other image P width K sz all lives z 8 number old in_use wide w held apart holds s (counters_in s d) ne);
      }

  -- ---- the variable takes a value

  abbrev pub own_variable : Loc
  own_variable = record { outer = false; slot = i; ty = ty.S32 }

  pub variable_there : Contains (vars_in all) (variable i ty.S32)
  variable_there =
      Contains-append_right (vars_in frames) (looped (out-KStmt this.stmt)) (variable i ty.S32)
      (subst (λ (l : Layer). Contains (looped l) (variable i ty.S32)) (sym (loop_layer kind body)) (Contains-push [] (variable i ty.S32)))

  pub variable_room : slots_at image + P.offset i + 4 ≤ end_of image
  variable_room =
      let d = lives.variables (variable i ty.S32) variable_there in
      let a = lives.within i d.1 in let e = (sizes_of image P width K compiled).slots_is in let s = sizes.0 in omega (arith, a, e, s)

  pub taken : (z : ℤ) (w : World) → IsValue ty.S32 z → ValuesWithin (vars_in all) w → ValuesWithin (vars_in all) (set Program i (Holds z) w)
  taken z w h held = set_within (vars_in all) i ty.S32 z w variable_there h held

  pub variable_stored : (z : ℤ) (w : World) (old : List ℕ) → ValuesWithin (vars_in all) w → MemoryHolds image P width K w old → AllCount (tables P width K) image (view image old) all
      → Stored image P width K all (set Program i (Holds z) w) (with_value ty.S32 z old (slots_at image + P.offset i))
  variable_stored z w old held holds counts =
      let sz = (sizes_of image P width K compiled).slots_is in
      let s = (scene_of K compiled.proper (single_of laws image P width K compiled) (inside laws image P width K compiled n p kind body (Upward u v) spot refl)).0 in
      stored image P width K sz all lives own_variable z w old variable_there held holds all lives.sized (λ k c. (hidden_is_in all k c, s.hidden_apart k (variable i ty.S32) c variable_there)) counts

  -- ---- the counters

  pub counters_stand : (bytes : List ℕ) → slot_number image bytes 8 (slots_at image + P.offset next) ≡ cell u → slot_number image bytes 8 (slots_at image + P.offset end) ≡ cell v → FrameCounts (tables P width K) image (view image bytes) (OfLoop this (Upward u v))
  unfolding out-KStmt Carrier.out
  counters_stand bytes e f = (e, f)

  pub counters_out : (bytes : List ℕ) → FrameCounts (tables P width K) image (view image bytes) (OfLoop this (Upward u v)) → (slot_number image bytes 8 (slots_at image + P.offset next) ≡ cell u) × (slot_number image bytes 8 (slots_at image + P.offset end) ≡ cell v)
  unfolding out-KStmt Carrier.out
  counters_out bytes h = h
