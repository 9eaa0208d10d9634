-- What each of the parts around a leaf does keeps each value in an open slot, and so do all of them.
use Rattle.std.proofs.Common.{◌≡◌, refl, sym, ℕ, ◌+◌, ℤ, pos, true, false, ◌==◌, List, [], ◌∷◌, ◌++◌, append-nil, arith}
use Rattle.ceu_tree.specs.declared.kernel.Kernel.{Kernel}
use Rattle.ceu_tree.specs.declared.kernel.KNode.{KNode}
use Rattle.ceu_tree.specs.declared.kernel.KBlock.{KBlock, out-KBlock}
use Rattle.ceu_tree.specs.declared.kernel.KStmt.{out-KStmt}
use Rattle.ceu_tree.specs.declared.kernel.KStmt.TheOpen.{KStmt-F}
use Rattle.ceu_tree.specs.Residual.{Body, Awaited, Spawned, Act, Again, Counter, Seat, Residual, Over, Par, Branches, branch, Instances}
use Rattle.ceu_tree.specs.Focus.{Frame, OfBlock, OfInstance, OfOpen, OfLoop, OfCall, OfPar, Focus, Here, In, join, join_instances, fill, plug, body_in}
use Rattle.ceu_tree.specs.World.{Held, World, assign_if}
use Rattle.ceu_tree.specs.Abort.{closed, returned, aborted}
use Rattle.ceu_tree.specs.Leaf.{Exit, code_at, target}
use Rattle.ceu_tree.specs.Legal.{called_code}
use Rattle.ceu_tree.specs.Around.{Outcome, Goes, Rests, Raises, Fails, Past, Registers, AtBlockEnd, AtLoopHead, Ends, Leaves, moved, kind_of, through, up}
use Rattle.ceu_tree.specs.Proper.{Scope, is_proper}
use Rattle.laws_meaning_basics.specs.Shape.{Part, ABlock, AStatement, AnEnd, block_scope, part_scope, turn_scope, FrameFits, around_statement, around_end, around_part, around_turn, around_call, around_branch, Around, nothing_around, one_around}
use Rattle.laws_meaning_basics.proofs.Static.{names_of}
use Rattle.laws_meaning_basics.proofs.UpFits.{Sound, layer_of, frame_sound}
use Rattle.laws_meaning_slots.proofs.Slots.{decls_room, layer_room, code_room, room, each_room, all_room, frame_room, focus_room, join_room, join_all_room, fill_room}
use Rattle.laws_meaning_slots.proofs.Values.{lie_more, lie_forget_body}
use Rattle.laws_meaning_slots.proofs.Covers.{Covers, covers_more, frame_covers}
use Rattle.laws_meaning_slots.proofs.Writes.{target_takes, at_writes, target_written}
use Rattle.laws_meaning_slots.proofs.Aborts.{lie_rest, LieIn, assign_if_lies, registered_fine}
use Rattle.laws_meaning_slots.proofs.Leaving as leaving
use Rattle.laws_meaning_slots.proofs.Leaving.{branches_lie, focus_leaves}
use Rattle.laws_meaning_slots.proofs.Up.{left, Left, ended, block_closed, body_left_lie, open_left_lie, loop_on, loop_left_lie, next_turn_lie, rejoined_lie}

module _ (K : Kernel) (proper : is_proper K ≡ true) (g : ℕ) where
  target_fine : (sc : Scope) (s : KNode) → Sound K proper (AStatement sc s) → target_takes K (names_of K) sc (target s)
  target_fine sc s h = target_written K (names_of K) sc (out-KStmt s.stmt) (at_writes K (names_of K) sc s (out-KStmt s.stmt) refl h)

  module _ (body : Body) (c : Held → ℕ) (f : Focus Act) (w : World) where
    abbrev Before : Frame → Outcome → Type 0
    Before fr x = LieIn (λ h. frame_room K.codes g h fr body + left K proper g h (body_in fr body) f x + c h) w

    abbrev After : Frame → Outcome → Type 0
    After fr x = Left K proper g c body (In fr f) (through body fr f x w)

    block_ends : {t : ℕ} {d e : Part} (b : KBlock) (fin : List KNode) (all : Instances) (rest : List KNode) → FrameFits K t (OfBlock b fin all rest) d e
        → Sound K proper d → Covers K g c d body → Before (OfBlock b fin all rest) AtBlockEnd → After (OfBlock b fin all rest) AtBlockEnd
    block_ends b fin all rest (around_statement {turn = turn} {sc = sc} {s = s} done e z fit) h o x =
        ended K proper g body c (In (OfBlock b fin all rest) f) (Ends (pos 0)) (closed b fin all body w) (λ k. refl)
        (block_closed K proper g body c turn b fin rest w fit o (registered_fine K proper g sc b fin done (s ∷ rest) h e z)
        (lie_more (λ k. frame_room K.codes g k (OfBlock b fin all rest) body + 0 + c k) (λ k. frame_room K.codes g k (OfBlock b fin all rest) body + c k) (λ k n. omega (arith, n)) w.values x))
    block_ends b fin all rest (around_end {turn = turn} {sc = sc} z fit) h o x =
        ended K proper g body c (In (OfBlock b fin all rest) f) (Ends (pos 0)) (closed b fin all body w) (λ k. refl)
        (block_closed K proper g body c turn b fin [] w fit o (registered_fine K proper g sc b fin (out-KBlock b).list [] h (sym (append-nil (out-KBlock b).list)) z)
        (lie_more (λ k. frame_room K.codes g k (OfBlock b fin all []) body + 0 + c k) (λ k. frame_room K.codes g k (OfBlock b fin all []) body + c k) (λ k n. omega (arith, n)) w.values x))

    block_leaves : {t : ℕ} {d e : Part} (b : KBlock) (fin : List KNode) (all : Instances) (rest : List KNode) (node : ℕ) (x : Exit)
        → FrameFits K t (OfBlock b fin all rest) d e → Sound K proper d → Covers K g c d body
        → leaving.Leaves K g (λ h. focus_room K.codes g h f body) (plug f Over) e body → Before (OfBlock b fin all rest) (Leaves node x) → After (OfBlock b fin all rest) (Leaves node x)
    block_leaves b fin all rest node x (around_statement {turn = turn} {sc = sc} {s = s} done e z fit) h o ih l =
        body_left_lie K proper g body c (AStatement (block_scope sc b) s) (node == (out-KBlock b).node) turn b fin rest f node x w fit o (registered_fine K proper g sc b fin done (s ∷ rest) h e z)
        (frame_covers K g {fr = OfBlock b fin all rest} {d = ABlock turn sc b} {e = AStatement (block_scope sc b) s} (around_statement done e z fit) c body o) ih l
    block_leaves b fin all rest node x (around_end {turn = turn} {sc = sc} z fit) h o ih l =
        body_left_lie K proper g body c AnEnd (node == (out-KBlock b).node) turn b fin [] f node x w fit o (registered_fine K proper g sc b fin (out-KBlock b).list [] h (sym (append-nil (out-KBlock b).list)) z) tt ih l

    instance_ends : (b : KBlock) (fin : List KNode) (front : Instances) (seat : Seat) (back : Instances) (r : Residual) (rest : List KNode) (v : ℤ)
        → Before (OfInstance b fin front seat back r rest) (Ends v) → After (OfInstance b fin front seat back r rest) (Ends v)
    unfolding room
    instance_ends b fin front seat back r rest v x =
        let code : Held → ℕ = λ h. code_room K.codes g h (Spawned seat.number) (code_at seat.code K.codes) in
        let d : Held → ℕ = λ h. decls_room K.codes g h body (out-KBlock b).decls + (all_room K.codes g h (join_instances front back) + room K.codes g h r body) + c h in
        lie_forget_body K.codes g (Spawned seat.number) (code_at seat.code K.codes) d w
        (lie_more (λ h. frame_room K.codes g h (OfInstance b fin front seat back r rest) body + 0 + c h) (λ h. code h + d h) (λ h n. (let a = join_all_room K.codes g h front back in omega (arith, a, n))) w.values x)

    call_ends : {t : ℕ} {d e : Part} (s : KNode) (v : ℤ) → FrameFits K t (OfCall s) d e → Sound K proper d → Covers K g c d body → Before (OfCall s) (Ends v)
        → After (OfCall s) (Ends v)
    call_ends s v (around_call {sc = sc} i es z t k e q) h o x =
        ended K proper g body c (In (OfCall s) f) Past (assign_if body (target s) v (returned body s w)) (λ k. refl)
        (assign_if_lies K proper g sc (target s) v body c (returned body s w) o.0 o.1 (target_fine sc s h)
        (lie_forget_body K.codes g (Awaited body s.node) (called_code K.codes (out-KStmt s.stmt)) c w
        (lie_more (λ k. frame_room K.codes g k (OfCall s) body + 0 + c k) (λ k. frame_room K.codes g k (OfCall s) body + c k) (λ k n. omega (arith, n)) w.values x)))

    part_ends : {t : ℕ} {d e : Part} (s : KNode) (v : ℤ) → FrameFits K t (OfOpen s) d e → Sound K proper d → Covers K g c d body → Before (OfOpen s) (Ends v)
        → After (OfOpen s) (Ends v)
    part_ends s v (around_part {sc = sc} b p) h o x =
        ended K proper g body c (In (OfOpen s) f) Past (assign_if body (target s) v w) (λ k. refl)
        (assign_if_lies K proper g sc (target s) v body c w o.0 o.1 (target_fine sc s h) (lie_more (λ k. 0 + 0 + c k) c (λ k n. omega (arith, n)) w.values x))

    part_leaves : {t : ℕ} {d e : Part} (s : KNode) (node : ℕ) (x : Exit) → FrameFits K t (OfOpen s) d e → Sound K proper d → Covers K g c d body
        → leaving.Leaves K g (λ h. focus_room K.codes g h f body) (plug f Over) e body
        → Before (OfOpen s) (Leaves node x) → After (OfOpen s) (Leaves node x)
    part_leaves s node x (around_part {sc = sc} b p) h o ih l =
        open_left_lie K proper g body c (ABlock false (part_scope K sc s.node (out-KStmt s.stmt)) b) (node == s.node) s sc f node x w o (target_fine sc s h)
        (covers_more K g (λ k. 0 + c k) c (ABlock false (part_scope K sc s.node (out-KStmt s.stmt)) b) body (λ k n. omega (arith, n)) (frame_covers K g {t = 0} {fr = OfOpen s} {d = AStatement sc s} {e = ABlock false (part_scope K sc s.node (out-KStmt s.stmt)) b} (around_part b p) c body o)) ih l

    turn_leaves : {t : ℕ} {d e : Part} (s : KNode) (j : Counter) (node : ℕ) (x : Exit) → FrameFits K t (OfLoop s j) d e → Covers K g c d body
        → leaving.Leaves K g (λ h. focus_room K.codes g h f body) (plug f Over) e body
        → Before (OfLoop s j) (Leaves node x) → After (OfLoop s j) (Leaves node x)
    turn_leaves s j node x (around_turn {sc = sc} k b e q) o ih l =
        loop_left_lie K proper g body c (ABlock true (turn_scope K sc s.node k) b) (node == s.node) s j f node x w (frame_covers K g {t = 0} {fr = OfLoop s j} {d = AStatement sc s} {e = ABlock true (turn_scope K sc s.node k) b} (around_turn k b e q) c body o) ih l

    branch_ends : {t : ℕ} {d e : Part} (s : KNode) (front back : Branches) (v : ℤ) → FrameFits K t (OfPar s front back) d e → Sound K proper d
        → Covers K g c d body → Before (OfPar s front back) (Ends v) → After (OfPar s front back) (Ends v)
    unfolding room aborted
    branch_ends s front back v (around_branch {sc = sc} k slot bs b cs e y z) h o x =
        rejoined_lie K proper g body c (kind_of (out-KStmt s.stmt)) s bs' (In (OfPar s front back) f) w gone
        (lie_more (λ j. each_room K.codes g j front body + each_room K.codes g j back body + 0 + c j) (λ j. each_room K.codes g j bs' body + c j) (λ j n. (let a = join_room K.codes g j front (branch Over back) body in omega (arith, a, n))) w.values x)
      where
        bs' : Branches
        bs' = join front (branch Over back)

        gone : LieIn (λ j. each_room K.codes g j bs' body + c j) w → LieIn c (aborted (Par s bs') body w)
        gone l =
            branches_lie K proper g b (λ j. 0) Over body c w y z (layer_of K proper sc s (KStmt-F.Par k slot (bs ++ b ∷ cs)) e h).1 o.0 o.1 (λ d u p n. lie_rest d u n)
            (lie_more (λ j. each_room K.codes g j bs' body + c j) (λ j. each_room K.codes g j front body + each_room K.codes g j back body + 0 + c j) (λ j n. (let a = join_room K.codes g j front (branch Over back) body in omega (arith, a, n))) w.values l)

    through_lie : {t : ℕ} {d e : Part} (fr : Frame) (x : Outcome) → FrameFits K t fr d e → Sound K proper d → Covers K g c d body
        → leaving.Leaves K g (λ h. focus_room K.codes g h f (body_in fr body)) (plug f Over) e (body_in fr body) → Before fr x → After fr x
    unfolding focus_room
    through_lie fr (Goes q) a h o ih l = l
    through_lie fr (Rests r) a h o ih l = lie_more (λ k. frame_room K.codes g k fr body + room K.codes g k r (body_in fr body) + c k) (λ k. room K.codes g k (fill fr r) body + c k) (λ k n. (let z = fill_room K.codes g k fr r body in omega (arith, z, n))) w.values l
    through_lie fr (Raises r) a h o ih l = lie_more (λ k. frame_room K.codes g k fr body + room K.codes g k r (body_in fr body) + c k) (λ k. room K.codes g k (fill fr r) body + c k) (λ k n. (let z = fill_room K.codes g k fr r body in omega (arith, z, n))) w.values l
    through_lie fr (Fails e r) a h o ih l = lie_more (λ k. frame_room K.codes g k fr body + 1 + c k) (λ k. 1 + c k) (λ k n. omega arith) w.values l
    through_lie (OfBlock b fin all rest) Past a h o ih l = l
    through_lie (OfBlock b fin all rest) (Registers s) a h o ih l = l
    through_lie (OfBlock b fin all rest) AtBlockEnd a h o ih l = block_ends b fin all rest a h o l
    through_lie (OfBlock b fin all rest) (Leaves node x) a h o ih l = block_leaves b fin all rest node x a h o ih l
    through_lie (OfOpen s) (Ends v) a h o ih l = part_ends s v a h o l
    through_lie (OfOpen s) (Leaves node x) a h o ih l = part_leaves s node x a h o ih l
    through_lie (OfLoop s j) AtLoopHead a h o ih l =
        next_turn_lie K proper g body c s (out-KStmt s.stmt) j (In (OfLoop s j) f) w refl (lie_more (λ k. layer_room K.codes g k body (out-KStmt s.stmt) + 0 + c k) (λ k. layer_room K.codes g k body (out-KStmt s.stmt) + c k) (λ k n. omega (arith, n)) w.values l)
    through_lie (OfLoop s j) (Ends v) a h o ih l =
        loop_on K proper g body c s j Again (In (OfLoop s j) f) w (lie_more (λ k. layer_room K.codes g k body (out-KStmt s.stmt) + 0 + c k) (λ k. layer_room K.codes g k body (out-KStmt s.stmt) + c k) (λ k n. omega (arith, n)) w.values l)
    through_lie (OfLoop s j) (Leaves node x) a h o ih l = turn_leaves s j node x a o ih l
    through_lie (OfCall s) (Ends v) a h o ih l = call_ends s v a h o l
    through_lie (OfPar s front back) (Ends v) a h o ih l = branch_ends s front back v a h o l
    through_lie (OfInstance b fin front seat back r rest) (Ends v) a h o ih l = instance_ends b fin front seat back r rest v l
    through_lie fr (Leaves node x) a h o ih l = l
    through_lie fr x a h o ih l = over fr l
      where
        over : (fr : Frame) → LieIn (λ k. frame_room K.codes g k fr body + 0 + c k) w → Left K proper g c body (In fr f) (moved (Rests (fill fr Over)) w)
        over fr m = lie_more (λ k. frame_room K.codes g k fr body + 0 + c k) (λ k. room K.codes g k (fill fr Over) body + c k) (λ k n. (let z = fill_room K.codes g k fr Over body in omega (arith, z, n))) w.values m

  pub up_lie : {t : ℕ} {f : Focus Act} {d e : Part} → Around K t Act f d e → Sound K proper d → (x : Outcome) (body : Body) (c : Held → ℕ) (w : World)
      → Covers K g c d body → ((h : Held) (b : Body) (a : Act) → left K proper g h b (Here a) x ≡ 0)
      → LieIn (λ h. focus_room K.codes g h f body + c h) w → Left K proper g c body f (up body f x w)
  unfolding up focus_room
  up_lie {f = Here a} nothing_around h x body c w o z l = ended K proper g body c (Here a) x w (λ k. z k body a) (lie_rest c w l)
  up_lie {f = In fr f} (one_around a more) h x body c w o z l =
      let m = up (body_in fr body) f x w in
      let i : Held → ℕ = λ k. frame_room K.codes g k fr body + c k in
      let inner = up_lie more (frame_sound K proper a h) x (body_in fr body) i w (frame_covers K g a c body o) z
      (lie_more (λ k. frame_room K.codes g k fr body + focus_room K.codes g k f (body_in fr body) + c k) (λ k. focus_room K.codes g k f (body_in fr body) + i k) (λ k n. omega (arith, n)) w.values l) in
      through_lie body c f m.world fr m.outcome a h o (focus_leaves K proper g more (frame_sound K proper a h) (body_in fr body))
      (lie_more (λ k. left K proper g k (body_in fr body) f m.outcome + i k) (λ k. frame_room K.codes g k fr body + left K proper g k (body_in fr body) f m.outcome + c k) (λ k n. omega (arith, n)) m.world.values inner)
