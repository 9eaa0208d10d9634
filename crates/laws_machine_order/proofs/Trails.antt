-- The instances around the gate of each leaf, and the chain of its frame.
use Rattle.std.proofs.Common.{◌≡◌, ◌≢◌, refl, sym, ap, ◌∙◌, subst, ◌<◌, ◌≤◌, ◌⊎◌, inl, inr, ℕ, suc, ◌+◌, ◌-◌, Bool, true, false, ◌==◌, List, [], ◌∷◌, ◌++◌, Option, Some, None, arith}
use Rattle.std.specs.Prelude.{nat_le, if◌then◌else◌}
use Rattle.std.proofs.lemmas.Bool.{cases_lt, ne_eqb, and_parts, and_from, leb-true, le-leb}
use Rattle.ceu_code.specs.declared.image.Image.{Image}
use Rattle.ceu_mem.specs.declared.gate.Gate.{Gate}
use Rattle.ceu_mem.specs.Bytes.{number_at}
use Rattle.ceu_isa.specs.Layout.{slots_at, end_of, in_slots, free, finalizer, forever}
use Rattle.ceu_isa.specs.Pools.{return_of, outer_frame}
use Rattle.ceu_isa.specs.Order.{is_instance, chain}
use Rattle.ceu_tree.specs.declared.kernel.KDecl.{KDecl}
use Rattle.ceu_tree.specs.declared.kernel.KNode.{KNode}
use Rattle.ceu_tree.specs.declared.kernel.KStmt.{out-KStmt}
use Rattle.ceu_tree.specs.Residual.{Body, Awaited, Spawned, Act, Begin, Start, Finish, AtEnd, AtHead, Again, Seat, Residual, Over, Run, WaitInput, WaitTime, WaitEvent, WaitForever, InAsync, Block, Open, Loop, Call, Par}
use Rattle.laws_machine_layout.specs.Tables.{Tables}
use Rattle.laws_machine_layout.specs.Views.{view, slot_number, Home}
use Rattle.laws_machine_layout.specs.Leaves.{LeafGate}
use Rattle.laws_machine_layout.specs.Parts.{place_at, frame_slot}
use Rattle.laws_machine_layout.specs.Stands.{SeatStands, CallStands}
use Rattle.laws_machine_order.specs.Laid.{CallLaid, SeatLaid}
use Rattle.laws_machine_order.proofs.Chains.{chain_of_call, chain_of_instance}
use Rattle.laws_machine_order.proofs.Older.{Known}

-- Which leaves are picked, and by which test of their gates.
pub record Picks (A : Type 0) (pick : Residual → Option A) (test : Gate → Bool) (t : Tables) : Type 0 where
  pub free_passed : (gate : Gate) → gate.kind ≡ free → test gate ≡ false
  pub finalizer_passed : (gate : Gate) → gate.kind ≡ finalizer → test gate ≡ false
  pub forever_passed : (gate : Gate) → gate.kind ≡ forever → test gate ≡ false
  pub leaf_picked : (h : Home) (r : Residual) (gate : Gate) (a : A) → LeafGate t h r gate → pick r ≡ Some a → test gate ≡ true
  pub leaf_passed : (h : Home) (r : Residual) (gate : Gate) → LeafGate t h r gate → pick r ≡ None → test gate ≡ false

act_frame : (t : Tables) (h : Home) (n : ℕ) (a : Act) (gate : Gate) → LeafGate t h (Run n a) gate → gate.frame ≡ h.frame
act_frame t h n (Begin b) gate x = x.0.frame_is
act_frame t h n (Finish s value) gate x = x.0.0.frame_is
act_frame t h n (Start s) gate x = absurd x.0
act_frame t h n AtEnd gate x = absurd x.0
act_frame t h n AtHead gate x = absurd x.0
act_frame t h n Again gate x = absurd x.0

pub leaf_frame : (t : Tables) (h : Home) (r : Residual) (gate : Gate) → LeafGate t h r gate → gate.frame ≡ h.frame
leaf_frame t h (Run n a) gate x = act_frame t h n a gate x
leaf_frame t h (WaitInput k s) gate x = x.0.frame_is
leaf_frame t h (WaitTime left s) gate x = x.0.frame_is
leaf_frame t h (WaitEvent e s) gate x = x.0.frame_is
leaf_frame t h (WaitForever s) gate x = x.frame_is
leaf_frame t h (InAsync s served r) gate x = x.frame_is
leaf_frame t h Over gate x = absurd x
leaf_frame t h (Block b fin all r rest) gate x = absurd x
leaf_frame t h (Open s r) gate x = absurd x
leaf_frame t h (Loop s c r) gate x = absurd x
leaf_frame t h (Call s r) gate x = absurd x
leaf_frame t h (Par s bs) gate x = absurd x

module _ (image : Image) (bytes : List ℕ) where
  seen_at : (size at n : ℕ) → in_slots image at size ≡ true → slot_number image bytes size at ≡ n → number_at size bytes at ≡ n
  seen_at size at n e h = sym (ap (λ (b : Bool). if b then number_at size bytes at else 0) e) ∙ h

  -- what isn't 0 lies in the slots
  seen_in : (size at n : ℕ) → slot_number image bytes size at ≡ suc n → in_slots image at size ≡ true
  seen_in size at n h = go (in_slots image at size) refl h
    where
      go : (b : Bool) → in_slots image at size ≡ b → (if b then number_at size bytes at else 0) ≡ suc n → in_slots image at size ≡ true
      go true e k = e
      go false e k = absurd (omega (arith, k))

  -- a part of what lies in the slots
  pub part_in : (at size from n : ℕ) → in_slots image at size ≡ true → at ≤ from → from + n ≤ at + size → in_slots image from n ≡ true
  part_in at size from n e a b =
      let p = and_parts (nat_le (slots_at image) at) (nat_le (at + size) (end_of image)) e in
      let q = leb-true (slots_at image) at p.0 in let r = leb-true (at + size) (end_of image) p.1 in
      and_from (nat_le (slots_at image) from) (nat_le (from + n) (end_of image)) (le-leb (slots_at image) from (omega (arith, q))) (le-leb (from + n) (end_of image) (omega (arith, r)))

  link_chain : (f o back : ℕ) (c : List ℕ) → in_slots image f 8 ≡ true → slot_number image bytes 2 f ≡ back → back ≢ 65535 → slot_number image bytes 2 (f + 2) ≡ o → o ≤ f
      → chain image bytes o ≡ Some c → chain image bytes f ≡ Some c
  link_chain f o back c room goes_back ne out le e = go (cases_lt o f)
    where
      outer : outer_frame bytes f ≡ o
      outer = seen_at 2 (f + 2) o (part_in f 8 (f + 2) 2 room (omega arith) (omega arith)) out

      plain : is_instance bytes f ≡ false
      plain = ap (λ (n : ℕ). n == 65535) (seen_at 2 f back (part_in f 8 f 2 room (omega arith) (omega arith)) goes_back) ∙ ne_eqb back 65535 ne

      go : (o < f) ⊎ (f ≤ o) → chain image bytes f ≡ Some c
      go (inl lt) = chain_of_call image bytes f o c room plain lt outer e
      go (inr ge) = ap (chain image bytes) (omega (arith, le, ge)) ∙ e

  place_in : (at : ℕ) → in_slots image (at + 9) 8 ≡ true → slot_number image bytes 1 at ≡ 1 → in_slots image at 17 ≡ true
  place_in at room taken =
      let p = and_parts (nat_le (slots_at image) at) (nat_le (at + 1) (end_of image)) (seen_in 1 at 0 taken) in
      let q = and_parts (nat_le (slots_at image) (at + 9)) (nat_le (at + 9 + 8) (end_of image)) room in
      let r = leb-true (at + 9 + 8) (end_of image) q.1 in
      and_from (nat_le (slots_at image) at) (nat_le (at + 17) (end_of image)) p.0 (le-leb (at + 17) (end_of image) (omega (arith, r)))

  place_chain : (at o : ℕ) (c : List ℕ) → in_slots image (at + 9) 8 ≡ true → slot_number image bytes 1 at ≡ 1 → slot_number image bytes 2 (at + 9) ≡ 65535 → slot_number image bytes 2 (at + 11) ≡ o → o ≤ at
      → chain image bytes o ≡ Some c → chain image bytes (at + 9) ≡ Some (c ++ (at + 9) ∷ [])
  place_chain at o c room taken mark out le e = chain_of_instance image bytes (at + 9) o c room instance_here (omega arith) place (omega (arith, le)) outer e
    where
      whole : in_slots image at 17 ≡ true
      whole = place_in at room taken

      outer : outer_frame bytes (at + 9) ≡ o
      outer = ap (number_at 2 bytes) (let z : at + 9 + 2 ≡ at + 11 = omega arith in z) ∙ seen_at 2 (at + 11) o (part_in at 17 (at + 11) 2 whole (omega arith) (omega arith)) out

      instance_here : is_instance bytes (at + 9) ≡ true
      instance_here = ap (λ (n : ℕ). n == 65535) (seen_at 2 (at + 9) 65535 (part_in at 17 (at + 9) 2 whole (omega arith) (omega arith)) mark)

      place : in_slots image (at + 9 - 9) 9 ≡ true
      place = part_in at 17 (at + 9 - 9) 9 whole (omega arith) (omega arith)

  module _ (t : Tables) (home : Body → Home) where
    -- awaited code hasn't an instance of its own
    pub call_chain : (s : KNode) (body : Body) (low : ℕ) (Inner Laid_in : Type 0) (c : List ℕ) → CallStands t home (view image bytes) s body low Inner → CallLaid image t home s body Laid_in
        → chain image bytes (home body).frame ≡ Some c → chain image bytes (home (Awaited body s.node)).frame ≡ Some c
    call_chain s body low Inner Laid_in c x l e =
        let frame_is : (home (Awaited body s.node)).frame ≡ (home body).frame + t.offset (frame_slot (out-KStmt s.stmt)) = ap (λ (h : Home). h.frame) x.home_is in
        let room : in_slots image ((home body).frame + t.offset (frame_slot (out-KStmt s.stmt))) 8 ≡ true = sym (ap (λ (n : ℕ). in_slots image n 8) frame_is) ∙ l.has_link in
        ap (chain image bytes) frame_is ∙
        link_chain ((home body).frame + t.offset (frame_slot (out-KStmt s.stmt))) (home body).frame (t.resumed s.node) c room x.linked.goes_back l.goes_back x.linked.caller_frame (omega arith) e

    -- where it goes back to, and its caller's frame
    pub call_back : (s : KNode) (body : Body) (low : ℕ) (Inner Laid_in : Type 0) → CallStands t home (view image bytes) s body low Inner → CallLaid image t home s body Laid_in
        → (return_of bytes (home (Awaited body s.node)).frame ≡ t.resumed s.node) × (outer_frame bytes (home (Awaited body s.node)).frame ≡ (home body).frame)
    call_back s body low Inner Laid_in x l =
        let frame_is : (home (Awaited body s.node)).frame ≡ (home body).frame + t.offset (frame_slot (out-KStmt s.stmt)) = ap (λ (h : Home). h.frame) x.home_is in
        let f : ℕ = (home body).frame + t.offset (frame_slot (out-KStmt s.stmt)) in
        let room : in_slots image ((home body).frame + t.offset (frame_slot (out-KStmt s.stmt))) 8 ≡ true = sym (ap (λ (n : ℕ). in_slots image n 8) frame_is) ∙ l.has_link in (
          ap (return_of bytes) frame_is ∙ seen_at 2 f (t.resumed s.node) (part_in f 8 f 2 room (omega arith) (omega arith)) x.linked.goes_back,
          ap (outer_frame bytes) frame_is ∙ seen_at 2 (f + 2) (home body).frame (part_in f 8 (f + 2) 2 room (omega arith) (omega arith)) x.linked.caller_frame,
        )

    module _ (seat : Seat) (decls : List KDecl) (body : Body) (pools : ℕ) (Inner Laid_in : Type 0) (x : SeatStands t home (view image bytes) seat decls body pools Inner) (l : SeatLaid image t home seat.number Laid_in) where
      abbrev at : ℕ
      at = place_at t (home body) seat.pool seat.code seat.place

      frame_is : (home (Spawned seat.number)).frame ≡ at + 9
      frame_is = ap (λ (h : Home). h.frame) x.home_is

      room : in_slots image (at + 9) 8 ≡ true
      room = sym (ap (λ (n : ℕ). in_slots image n 8) frame_is) ∙ l.has_link

      whole : in_slots image at 17 ≡ true
      whole = place_in at room x.place.taken

      number_here : (size from back n : ℕ) → from + back ≡ at + 9 → at ≤ from → from + size ≤ at + 17 → slot_number image bytes size from ≡ n → number_at size bytes ((home (Spawned seat.number)).frame - back) ≡ n
      number_here size from back n e a b h =
          ap (number_at size bytes) (let z : (home (Spawned seat.number)).frame - back ≡ from = omega (arith, frame_is, e) in z) ∙ seen_at size from n (part_in at 17 from size whole a b) h

      -- the place of an instance
      pub seat_known : Known t home bytes (record { seat = seat; body = body })
      seat_known = record {
        number_is = number_here 4 (at + 1) 8 seat.number (omega arith) (omega arith) (omega arith) x.place.number_is;
        pool_is = number_here 2 (at + 7) 2 (t.pool seat.pool) (omega arith) (omega arith) (omega arith) x.place.place.row;
        outer_is = ap (number_at 2 bytes) (let z : (home (Spawned seat.number)).frame + 2 ≡ at + 11 = omega (arith, frame_is) in z) ∙ seen_at 2 (at + 11) (home body).frame (part_in at 17 (at + 11) 2 whole (omega arith) (omega arith)) x.place.spawner_frame;
      }

      pub seat_chain : (c : List ℕ) → chain image bytes (home body).frame ≡ Some c → chain image bytes (home (Spawned seat.number)).frame ≡ Some (c ++ (home (Spawned seat.number)).frame ∷ [])
      seat_chain c e =
          subst (λ (f : ℕ). chain image bytes f ≡ Some (c ++ f ∷ [])) (sym frame_is)
          (place_chain at (home body).frame c room x.place.taken x.place.is_instance x.place.spawner_frame (omega arith) e)

      pub seat_marked : return_of bytes (home (Spawned seat.number)).frame ≡ 65535
      seat_marked = ap (return_of bytes) frame_is ∙ seen_at 2 (at + 9) 65535 (part_in at 17 (at + 9) 2 whole (omega arith) (omega arith)) x.place.is_instance
