-- Programs without code: each part around a leaf, and all of them together, leave a value to each slot that needs one.
use Rattle.std.proofs.Common.{◌≡◌, refl, sym, ap, ◌∙◌, subst, ℕ, suc, ◌+◌, ℤ, pos, ◌+ℤ◌, int_lt, Bool, true, false, not, if◌then◌else◌, ◌==◌, ◌&&◌, ◌||◌, ◌⊎◌, inl, inr, List, [], ◌∷◌, ◌++◌, eqb-true}
use Rattle.std.proofs.lemmas.Bool.{and_parts, and_from, or_cases, false≢true}
use Rattle.ceu_base.specs.declared.kinds.Fault.TheVariants.{LoopLimit}
use Rattle.ceu_tree.specs.declared.kernel.Kernel.{Kernel}
use Rattle.ceu_tree.specs.declared.kernel.KLoop.{KLoop}
use Rattle.ceu_tree.specs.declared.kernel.KLoop.TheVariants as turns
use Rattle.ceu_tree.specs.declared.kernel.ParKind.{ParKind}
use Rattle.ceu_tree.specs.declared.kernel.ParKind.TheVariants as par
use Rattle.ceu_tree.specs.declared.kernel.KNode.{KNode}
use Rattle.ceu_tree.specs.declared.kernel.KBlock.{KBlock, out-KBlock}
use Rattle.ceu_tree.specs.declared.kernel.KStmt.{out-KStmt}
use Rattle.ceu_tree.specs.declared.kernel.KStmt.TheOpen.{KStmt-F}
use Rattle.ceu_tree.specs.Residual.{Program, Act, Begin, Start, Finish, AtEnd, AtHead, Again, Counter, Free, Turns, Upward, Residual, Over, Loop, Par, Branches, branch, Instances}
use Rattle.ceu_tree.specs.Focus.{Frame, OfBlock, OfOpen, OfLoop, OfPar, Focus, Here, In, join, fill, plug, leaf}
use Rattle.ceu_tree.specs.World.{World, Holds, set, assign_if}
use Rattle.ceu_tree.specs.Abort.{aborted, branches_aborted, closed, forget_loop}
use Rattle.ceu_tree.specs.Leaf.{Layer, Exit, Escape, Break, Continue, target, target_of}
use Rattle.ceu_tree.specs.Around.{Outcome, Goes, Rests, Raises, Fails, Past, Registers, AtBlockEnd, AtLoopHead, Ends, Leaves, moved, value_with, body_left, open_left, begins_turn, turn_of, next_turn, loop_exit, loop_left, all_over, kind_of, rejoined, through, up}
use Rattle.ceu_tree.specs.Legal.{before, is_set}
use Rattle.ceu_tree.specs.Mentions.{is_loc, await_target, body_target}
use Rattle.ceu_tree.specs.Numbering.{block_slots, block_nodes, stmt_slots, stmt_nodes}
use Rattle.ceu_tree.specs.Proper.{Scope, find, is_proper}
use Rattle.laws_meaning_basics.specs.Shape.{Part, ABlock, AStatement, turn_scope, opens_part, counts, AllFit, EachFits, FrameFits, around_statement, around_end, around_instance, around_part, around_turn, around_call, around_branch, Around, nothing_around, one_around, Comes}
use Rattle.laws_meaning_basics.proofs.Static.{BlockOk, names_of}
use Rattle.laws_meaning_basics.proofs.UpFits.{Sound, frame_sound, up_fits}
use Rattle.laws_meaning_values.specs.Ground.{has, Ground, Numbered, On, numbers_among}
use Rattle.laws_meaning_values.specs.Ready.{is_cell, declares}
use Rattle.laws_meaning_values.specs.Needed.{some_done, block_needs, own_variable, turn_needs, needs, each_needs, at_first_head, frame_needs, focus_needs}
use Rattle.laws_meaning_values.proofs.Grounds.{inner_ground, branch_ground}
use Rattle.laws_meaning_values.proofs.Stores.{never_true, or_left, or_right, set_keeps, set_has, assign_if_keeps}
use Rattle.laws_meaning_values.proofs.Names.{head_target, body_target_is, layer_sets}
use Rattle.laws_meaning_values.proofs.Spares.{turns_spared, each_spares}
use Rattle.laws_meaning_values.proofs.Positions.{before_at, Low, Beside, beside_outside, beside_inner}
use Rattle.laws_meaning_values.proofs.NeedsAt.{no_code, LowAt, FrameGround, frame_ground}
use Rattle.laws_meaning_values.proofs.FocusSpares.{branches_joined, closed_spares, focus_spares}
use Rattle.laws_meaning_values.proofs.UpValues.{is_at_head, SetNow, OutcomeHas, outcome_needs, is_head_outcome, UpFine, no_await, opens_no_await, finalizer_sets, layer_set, assigned_has, frame_later, each_joined, fill_needs, plain_body, next_needs}

module _ (K : Kernel) (proper : is_proper K ≡ true) (plain : K.codes ≡ []) (n : ℕ) where
  abbrev N : List (List ℕ)
  N = names_of K

  -- ---- ends of parts

  opened_set : (s : KNode) (layer : Layer) (b : KBlock) (v : ℤ) (w : World) (sc : Scope) → out-KStmt s.stmt ≡ layer → opens_part layer b → SetNow sc s (assign_if Program (target_of layer) v w)
  opened_set s (KStmt-F.Do t c) b v w sc e o = λ y u h. assigned_has t v y w (layer_set N s (KStmt-F.Do t c) y e h)
  opened_set s (KStmt-F.If arms last) b v w sc e o = λ y u h. absurd (false≢true (layer_set N s (KStmt-F.If arms last) y e h))
  opened_set s layer b v w sc e o = elim o [ ]

  sets_nothing : (s : KNode) (layer : Layer) (w : World) (sc : Scope) → out-KStmt s.stmt ≡ layer → ((y : ℕ) → layer_sets N y layer ≡ false) → SetNow sc s w
  sets_nothing s layer w sc e f = λ y c h. absurd (false≢true (sym (f y) ∙ layer_set N s layer y e h))

  ended : (d : Part) (g : Ground) (v : ℤ) (w u : World) → ((y : ℕ) → Beside g y → has Program y w ≡ true → has Program y u ≡ true) → UpFine d g w (moved (Ends v) u)
  ended d g v w u h = record { needed = λ y e. absurd (false≢true e); comes = tt; spares = h }

  past : (sc : Scope) (s : KNode) (g : Ground) (w u : World) → SetNow sc s u → ((y : ℕ) → Beside g y → has Program y w ≡ true → has Program y u ≡ true) → UpFine (AStatement sc s) g w (moved Past u)
  past sc s g w u now h = record { needed = λ y e. absurd (false≢true e); comes = now; spares = h }

  -- ---- what goes on in a frame

  later_needs : (fr : Frame) (g : Focus Act) (w : World) → ((y : ℕ) → frame_needs fr false y ≡ true → has Program y w ≡ true) → ((y : ℕ) → focus_needs g y ≡ true → has Program y w ≡ true) → (y : ℕ) → focus_needs (In fr g) y ≡ true → has Program y w ≡ true
  unfolding focus_needs
  later_needs fr g w a b y h = go (or_cases (frame_needs fr (at_first_head g) y) (focus_needs g y) h)
    where
      go : (frame_needs fr (at_first_head g) y ≡ true) ⊎ (focus_needs g y ≡ true) → has Program y w ≡ true
      go (inl u) = a y (frame_later fr (at_first_head g) y u)
      go (inr u) = b y u

  filled_needs : {t : ℕ} {d e : Part} (fr : Frame) → FrameFits K t fr d e → (r : Residual) (w : World) → ((y : ℕ) → frame_needs fr false y ≡ true → has Program y w ≡ true) → ((y : ℕ) → needs r y ≡ true → has Program y w ≡ true) → (y : ℕ) → needs (fill fr r) y ≡ true → has Program y w ≡ true
  filled_needs fr x r w a b y h = go (fill_needs K proper plain x r y h)
    where
      go : (frame_needs fr false y ≡ true) ⊎ (needs r y ≡ true) → has Program y w ≡ true
      go (inl u) = a y u
      go (inr u) = b y u

  -- ---- loops

  turn_fine : (sc : Scope) (s : KNode) (k : KLoop) (b : KBlock) (c : Counter) (a : Act) (g : Ground) (w : World) → out-KStmt s.stmt ≡ KStmt-F.Loop k b → at_first_head (Here a) ≡ false
      → ((y : ℕ) → own_variable y k ≡ true → has Program y w ≡ true) → (u : World) → ((y : ℕ) → Beside g y → has Program y u ≡ true → has Program y w ≡ true) → UpFine (AStatement sc s) g u (moved (Goes (In (OfLoop s c) (Here a))) w)
  unfolding focus_needs
  turn_fine sc s k b c a g w e f own u sp = record { needed = λ y h. go y (or_cases (frame_needs (OfLoop s c) (at_first_head (Here a)) y) false h); comes = tt; spares = sp }
    where
      go : (y : ℕ) → (frame_needs (OfLoop s c) (at_first_head (Here a)) y ≡ true) ⊎ (false ≡ true) → has Program y w ≡ true
      go y (inl q) = own y (subst (λ l. turn_needs l y ≡ true) e (and_parts (not (at_first_head (Here a))) (turn_needs (out-KStmt s.stmt) y) q).1)
      go y (inr q) = absurd (false≢true q)

  range_past : (sc : Scope) (s : KNode) (k : KLoop) (b : KBlock) (g : Ground) (w : World) → out-KStmt s.stmt ≡ KStmt-F.Loop k b → ((y : ℕ) → layer_sets N y (KStmt-F.Loop k b) ≡ false) → Numbered (stmt_slots s.stmt) (s.node ∷ stmt_nodes s.stmt) g
      → UpFine (AStatement sc s) g w (moved Past (forget_loop Program s.stmt w))
  range_past sc s k b g w e f on = past sc s g w (forget_loop Program s.stmt w) (sets_nothing s (KStmt-F.Loop k b) (forget_loop Program s.stmt w) sc e f) (λ y p h. turns_spared Program g [] s k b Program y w e on (beside_outside g [] y p) h)

  begun_fine : (sc : Scope) (s : KNode) (k : KLoop) (b : KBlock) (c : Counter) (g : Ground) (w : World) → out-KStmt s.stmt ≡ KStmt-F.Loop k b → counts k c ≡ true → Numbered (stmt_slots s.stmt) (s.node ∷ stmt_nodes s.stmt) g → UpFine (AStatement sc s) g w (turn_of s k b c Program w)
  begun_fine sc s turns.Free b c g w e z on = turn_fine sc s turns.Free b c (Begin b) g w e refl (λ y q. absurd (false≢true q)) w (λ y p h. h)
  begun_fine sc s (turns.Times slot limit) b Free g w e z on = turn_fine sc s (turns.Times slot limit) b Free (Begin b) g w e refl (λ y q. absurd (false≢true q)) w (λ y p h. h)
  begun_fine sc s (turns.Times slot limit) b (Upward v last) g w e z on = turn_fine sc s (turns.Times slot limit) b (Upward v last) (Begin b) g w e refl (λ y q. absurd (false≢true q)) w (λ y p h. h)
  begun_fine sc s (turns.Times slot limit) b (Turns j) g w e z on = go (j == limit)
    where
      go : (t : Bool) → UpFine (AStatement sc s) g w (if t then moved (Fails (LoopLimit, s.pos) (Loop s (Turns j) Over)) w else begins_turn s (Turns (j + 1)) b w)
      go true = record { needed = λ y q. absurd (false≢true q); comes = tt; spares = λ y p h. h }
      go false = turn_fine sc s (turns.Times slot limit) b (Turns (j + 1)) (Begin b) g w e refl (λ y q. absurd (false≢true q)) w (λ y p h. h)
  begun_fine sc s (turns.Range i next end open_a x y open_b) b (Upward v last) g w e z on = go (int_lt last v)
    where
      k : KLoop
      k = turns.Range i next end open_a x y open_b

      own : (m : ℕ) → own_variable m k ≡ true → has Program m (set Program i (Holds v) w) ≡ true
      own m q = subst (λ j. has Program j (set Program i (Holds v) w) ≡ true) (eqb-true i m q) (set_has Program i (Holds v) w)

      go : (t : Bool) → UpFine (AStatement sc s) g w (if t then moved Past (forget_loop Program s.stmt w) else begins_turn s (Upward (v +ℤ pos 1) last) b (set Program i (Holds v) w))
      go true = range_past sc s k b g w e (λ z. refl) on
      go false = turn_fine sc s k b (Upward (v +ℤ pos 1) last) (Begin b) g (set Program i (Holds v) w) e refl own w (λ z p h. set_keeps Program z Program i (Holds v) w h)
  begun_fine sc s (turns.Range i next end open_a x y open_b) b Free g w e q on = absurd (false≢true q)
  begun_fine sc s (turns.Range i next end open_a x y open_b) b (Turns j) g w e q on = absurd (false≢true q)

  -- what the body of a loop has come to is aborted, and the loop goes on or is left
  module _ (sc : Scope) (s : KNode) (k : KLoop) (b : KBlock) (c : Counter) (f : Focus Act) (e : Part) (g : Ground) (w : World) (q : out-KStmt s.stmt ≡ KStmt-F.Loop k b) (on : Numbered (stmt_slots s.stmt) (s.node ∷ stmt_nodes s.stmt) g) (low : Low sc g)
      (more : Around K (suc n) Act f (ABlock true (turn_scope K sc s.node k) b) e) (i : FrameGround K proper plain (OfLoop s c) (AStatement sc s) (ABlock true (turn_scope K sc s.node k) b) g) (ok : BlockOk K N (turn_scope K sc s.node k) b) where
    inside_spares : (y : ℕ) → Beside i.ground y → has Program y w ≡ true → has Program y (aborted (plug f Over) Program w) ≡ true
    inside_spares y p h = focus_spares K proper plain y f (ABlock true (turn_scope K sc s.node k) b) e more i.ground i.on i.low ok p w h

    outside_spares : (y : ℕ) → Beside g y → has Program y w ≡ true → has Program y (aborted (plug f Over) Program w) ≡ true
    outside_spares y p h = inside_spares y (beside_inner i.ground g y i.inner p) h

    left_past : SetNow sc s (forget_loop Program s.stmt (aborted (plug f Over) Program w)) → UpFine (AStatement sc s) g w (moved Past (forget_loop Program s.stmt (aborted (plug f Over) Program w)))
    left_past now = past sc s g w (forget_loop Program s.stmt (aborted (plug f Over) Program w)) now (λ y p h. turns_spared Program g [] s k b Program y (aborted (plug f Over) Program w) q on (beside_outside g [] y p) (outside_spares y p h))

    target_kept : (j : KLoop) → out-KStmt s.stmt ≡ KStmt-F.Loop j b → ((y : ℕ) → is_cell (find y (turn_scope K sc s.node j).seen) ≡ true → is_loc y (body_target b) ≡ true → has Program y w ≡ true)
        → SetNow sc s (forget_loop Program s.stmt (aborted (plug f Over) Program w))
    target_kept turns.Free z h = λ y cell set.
        (let l = low.seen y cell in turns_spared Program g [] s turns.Free b Program y (aborted (plug f Over) Program w) z on (beside_outside g [] y (inl l)) (outside_spares y (inl l) (h y cell (layer_set N s (KStmt-F.Loop turns.Free b) y z set))))
    target_kept (turns.Times slot m) z h = sets_nothing s (KStmt-F.Loop (turns.Times slot m) b) (forget_loop Program s.stmt (aborted (plug f Over) Program w)) sc z (λ y. refl)
    target_kept (turns.Range u v t open_a x y open_b) z h = sets_nothing s (KStmt-F.Loop (turns.Range u v t open_a x y open_b) b) (forget_loop Program s.stmt (aborted (plug f Over) Program w)) sc z (λ y. refl)

    exit_fine : (x : Exit) → ((y : ℕ) → frame_needs (OfLoop s c) false y ≡ true → has Program y w ≡ true) → ((y : ℕ) → is_cell (find y (turn_scope K sc s.node k).seen) ≡ true → is_loc y (body_target b) ≡ true → has Program y w ≡ true)
        → UpFine (AStatement sc s) g w (loop_exit s c x Program (aborted (plug f Over) Program w))
    exit_fine Continue own h =
        turn_fine sc s k b c Again g (aborted (plug f Over) Program w) q refl
        (λ y o. (let r = subst (λ l. turn_needs l y ≡ true) (sym q) o in inside_spares y (i.apart y false r) (own y r))) w outside_spares
    exit_fine Break own h = left_past (target_kept k q h)
    exit_fine (Escape v) own h = left_past (target_kept k q h)

    loop_left_fine : (t : Bool) (node : ℕ) (x : Exit) → ((y : ℕ) → frame_needs (OfLoop s c) false y ≡ true → has Program y w ≡ true) → ((y : ℕ) → is_cell (find y (turn_scope K sc s.node k).seen) ≡ true → is_loc y (body_target b) ≡ true → has Program y w ≡ true)
        → UpFine (AStatement sc s) g w (loop_left t s c f Program node x w)
    loop_left_fine true node x own h = exit_fine x own h
    loop_left_fine false node x own h = record { needed = λ y z. absurd (false≢true z); comes = λ y z. no_await s (KStmt-F.Loop k b) y q refl z; spares = λ y p z. z }

  -- ---- a branch that has ended

  rejoined_fine : (sc : Scope) (s : KNode) (k : ParKind) (slot : ℕ) (bs : List KBlock) (front back : Branches) (g : Ground) (w : World) → out-KStmt s.stmt ≡ KStmt-F.Par k slot bs
      → ((y : ℕ) → (each_needs front y || each_needs back y) ≡ true → has Program y w ≡ true)
      → ((y : ℕ) → Beside g y → has Program y w ≡ true → has Program y (branches_aborted (join front (branch Over back)) Program w) ≡ true) → UpFine (AStatement sc s) g w (rejoined k s (join front (branch Over back)) Program w)
  unfolding aborted needs
  rejoined_fine sc s par.Never slot bs front back g w e own sp = record { needed = λ y h. go y (each_joined front back Over y h); comes = tt; spares = λ y p h. h }
    where
      go : (y : ℕ) → ((each_needs front y || each_needs back y) ≡ true) ⊎ (false ≡ true) → has Program y w ≡ true
      go y (inl u) = own y u
      go y (inr u) = absurd (false≢true u)
  rejoined_fine sc s par.Or slot bs front back g w e own sp = past sc s g w (branches_aborted (join front (branch Over back)) Program w) (sets_nothing s (KStmt-F.Par par.Or slot bs) (branches_aborted (join front (branch Over back)) Program w) sc e (λ y. refl)) sp
  rejoined_fine sc s par.And slot bs front back g w e own sp = go (all_over (join front (branch Over back)))
    where
      needed : (y : ℕ) → ((each_needs front y || each_needs back y) ≡ true) ⊎ (false ≡ true) → has Program y w ≡ true
      needed y (inl u) = own y u
      needed y (inr u) = absurd (false≢true u)

      go : (t : Bool) → UpFine (AStatement sc s) g w (if t then moved Past w else moved (Rests (Par s (join front (branch Over back)))) w)
      go true = past sc s g w w (sets_nothing s (KStmt-F.Par par.And slot bs) w sc e (λ y. refl)) (λ y p h. h)
      go false = record { needed = λ y h. needed y (each_joined front back Over y h); comes = tt; spares = λ y p h. h }

  -- ---- one frame

  body_leaves_fine : (t : Bool) (turn : Bool) (sc : Scope) (b : KBlock) (fin : List KNode) (all : Instances) (done : List KNode) (s : KNode) (rest : List KNode) (f : Focus Act) (c : Part) (g : Ground) (w : World) (node : ℕ) (x : Exit)
      → (out-KBlock b).list ≡ done ++ s ∷ rest → AllFit K (suc n) sc all → Numbered (block_slots b) (block_nodes b) g → ((y : ℕ) → Beside g y → has Program y w ≡ true → has Program y (aborted (plug f Over) Program w) ≡ true)
      → ((y : ℕ) → block_needs b (before (out-KBlock b).list rest) y ≡ true → has Program y w ≡ true) → ((y : ℕ) → is_loc y (await_target s.stmt) ≡ true → ⊥) → UpFine (ABlock turn sc b) g w (body_left t b fin all f Program node x w)
  body_leaves_fine true turn sc b fin all done s rest f c g w node x e fit on sp own never =
      ended (ABlock turn sc b) g (value_with x) w (closed b fin all Program (aborted (plug f Over) Program w)) (λ y p h. closed_spares K proper plain y b fin g (aborted (plug f Over) Program w) fit on p (sp y p h))
  body_leaves_fine false turn sc b fin all done s rest f c g w node x e fit on sp own never = record { needed = λ y h. absurd (false≢true h); comes = λ y cell h. go y done refl h; spares = λ y p h. h }
    where
      go : (y : ℕ) (ds : List KNode) → done ≡ ds → is_loc y (body_target b) ≡ true → has Program y w ≡ true
      go y [] q h = absurd (never y (subst (λ l. is_loc y (head_target N l) ≡ true) (e ∙ ap (λ l. l ++ s ∷ rest) q) (sym (ap (is_loc y) (body_target_is N b)) ∙ h)))
      go y (d ∷ ds) q h =
          own y (subst (λ l. block_needs b l y ≡ true) (sym (before_at b done s rest e))
          (or_right (declares y (out-KBlock b).decls && is_set done y) (is_loc y (body_target b) && some_done done) (and_from (is_loc y (body_target b)) (some_done done) h (ap some_done q))))

  part_leaves_fine : (t : Bool) (sc : Scope) (s : KNode) (b : KBlock) (f : Focus Act) (g : Ground) (w : World) (node : ℕ) (x : Exit) → opens_part (out-KStmt s.stmt) b
      → ((y : ℕ) → Beside g y → has Program y w ≡ true → has Program y (aborted (plug f Over) Program w) ≡ true) → UpFine (AStatement sc s) g w (open_left t s f Program node x w)
  part_leaves_fine true sc s b f g w node x o sp =
      past sc s g w (assign_if Program (target s) (value_with x) (aborted (plug f Over) Program w)) (opened_set s (out-KStmt s.stmt) b (value_with x) _ sc refl o) (λ y p h. assign_if_keeps Program y Program (target s) (value_with x) (aborted (plug f Over) Program w) (sp y p h))
  part_leaves_fine false sc s b f g w node x o sp = record { needed = λ y h. absurd (false≢true h); comes = λ y h. no_await s (out-KStmt s.stmt) y refl (opens_no_await (out-KStmt s.stmt) b y o) h; spares = λ y p h. h }

  next_turn_fine : (sc : Scope) (s : KNode) (k : KLoop) (b : KBlock) (c : Counter) (g : Ground) (w : World) (layer : Layer) → out-KStmt s.stmt ≡ KStmt-F.Loop k b → KStmt-F.Loop k b ≡ layer → counts k c ≡ true
      → Numbered (stmt_slots s.stmt) (s.node ∷ stmt_nodes s.stmt) g → UpFine (AStatement sc s) g w (next_turn s layer c Program w)
  next_turn_fine sc s k b c g w layer e q h on = subst (λ l. UpFine (AStatement sc s) g w (next_turn s l c Program w)) q (begun_fine sc s k b c g w e h on)

  branches_spare : (sc : Scope) (s : KNode) (k : ParKind) (slot : ℕ) (bs : List KBlock) (b : KBlock) (cs : List KBlock) (front back : Branches) (g : Ground) → out-KStmt s.stmt ≡ KStmt-F.Par k slot (bs ++ b ∷ cs)
      → EachFits K (suc n) sc k bs front → EachFits K (suc n) sc k cs back → Numbered (stmt_slots s.stmt) (s.node ∷ stmt_nodes s.stmt) g
      → (w : World) (y : ℕ) → Beside g y → has Program y w ≡ true → has Program y (branches_aborted (join front (branch Over back)) Program w) ≡ true
  unfolding aborted
  branches_spare sc s k slot bs b cs front back g e p q on w y o h =
      let i = inner_ground s (KStmt-F.Par k slot (bs ++ b ∷ cs)) g e on in
      let j = branch_ground bs b cs i.ground i.on in
      let l = beside_inner i.ground g y i.inner o in
      subst (λ v. has Program y v ≡ true) (sym (branches_joined front (branch Over back) Program w))
      (each_spares K proper Program y p Program j.before (branches_aborted back Program w) j.on_before (beside_outside j.before (numbers_among front) y (beside_inner j.before i.ground y j.inner_before l))
      (each_spares K proper Program y q Program j.after w j.on_after (beside_outside j.after (numbers_among back) y (beside_inner j.after i.ground y j.inner_after l)) h))

  module _ (f : Focus Act) (x : Outcome) (w : World) where
    -- what the frame needs once the trail has left the head of its loop
    past_head : (fr : Frame) → ((y : ℕ) → frame_needs fr (at_first_head f) y ≡ true → has Program y w ≡ true) → (at_first_head f ≡ true → is_head_outcome x ≡ true) → is_head_outcome x ≡ false
        → (y : ℕ) → frame_needs fr false y ≡ true → has Program y w ≡ true
    past_head fr own first e y h = own y (subst (λ b. frame_needs fr b y ≡ true) (sym (never_true (at_first_head f) (λ u. false≢true (sym e ∙ first u)))) h)

  through_fine : (fr : Frame) (f : Focus Act) (x : Outcome) (w : World) (d e c : Part) (g : Ground) → On d g → LowAt d g → Sound K proper d → FrameFits K (suc n) fr d e → Around K (suc n) Act f e c → Comes K n e x → OutcomeHas x e w
      → ((y : ℕ) → frame_needs fr (at_first_head f) y ≡ true → has Program y w ≡ true) → (at_first_head f ≡ true → is_head_outcome x ≡ true) → ((y : ℕ) → outcome_needs x y ≡ true → has Program y w ≡ true) → UpFine d g w (through Program fr f x w)
  through_fine fr f (Goes q) w d e c g on low ok a more k now own first need = record { needed = later_needs fr q w (past_head f (Goes q) w fr own first refl) need; comes = tt; spares = λ y p h. h }
  through_fine fr f (Rests r) w d e c g on low ok a more k now own first need = record { needed = filled_needs fr a r w (past_head f (Rests r) w fr own first refl) need; comes = tt; spares = λ y p h. h }
  through_fine fr f (Raises r) w d e c g on low ok a more k now own first need = record { needed = filled_needs fr a r w (past_head f (Raises r) w fr own first refl) need; comes = tt; spares = λ y p h. h }
  through_fine fr f (Fails z r) w d e c g on low ok a more k now own first need = record { needed = λ y h. absurd (false≢true h); comes = tt; spares = λ y p h. h }
  through_fine (OfBlock b fin all rest) f Past w d e c g on low ok (around_statement {sc = sc} {s = s} done q z i) more k now own first need =
      record { needed = λ y h. next_needs K proper plain sc b fin all done s rest g w y q on low ok own now h; comes = tt; spares = λ y p h. h }
  through_fine (OfBlock b fin all rest) f (Registers v) w d e c g on low ok (around_statement {sc = sc} {s = s} done q z i) more k now own first need =
      record { needed = λ y h. next_needs K proper plain sc b (v ∷ fin) all done s rest g w y q on low ok own (λ u cell t. absurd (finalizer_sets s.stmt u k.1 t)) h; comes = tt; spares = λ y p h. h }
  through_fine (OfBlock b fin all rest) f (Leaves node x) w d e c g on low ok (around_statement {turn = turn} {sc = sc} {s = s} done q z i) more k now own first need =
      let fg = frame_ground K proper plain (around_statement {turn = turn} done q z i) g on low ok in
      body_leaves_fine (node == (out-KBlock b).node) turn sc b fin all done s rest f c g w node x q i on
      (λ y p h. focus_spares K proper plain y f e c more fg.ground fg.on fg.low (frame_sound K proper (around_statement {turn = turn} done q z i) ok) (beside_inner fg.ground g y fg.inner p) w h) own now
  through_fine (OfBlock b fin all rest) f AtBlockEnd w d e c g on low ok (around_end {turn = turn} {sc = sc} z i) more k now own first need =
      ended (ABlock turn sc b) g (pos 0) w (closed b fin all Program w) (λ y p h. closed_spares K proper plain y b fin g w i on p h)
  through_fine (OfOpen s) f (Ends v) w d e c g on low ok (around_part {sc = sc} b o) more k now own first need =
      past sc s g w (assign_if Program (target s) v w) (opened_set s (out-KStmt s.stmt) b v w sc refl o) (λ y p h. assign_if_keeps Program y Program (target s) v w h)
  through_fine (OfOpen s) f (Leaves node x) w d e c g on low ok (around_part {sc = sc} b o) more k now own first need =
      let fg = frame_ground K proper plain {t = suc n} (around_part {sc = sc} {s = s} b o) g on low ok in
      part_leaves_fine (node == s.node) sc s b f g w node x o
      (λ y p h. focus_spares K proper plain y f e c more fg.ground fg.on fg.low (frame_sound K proper {t = suc n} (around_part {sc = sc} {s = s} b o) ok) (beside_inner fg.ground g y fg.inner p) w h)
  through_fine (OfLoop s j) f AtLoopHead w d e c g on low ok (around_turn {sc = sc} k b q o) more z now own first need = next_turn_fine sc s k b j g w (out-KStmt s.stmt) q (sym q) o on
  through_fine (OfLoop s j) f (Ends v) w d e c g on low ok (around_turn {sc = sc} k b q o) more z now own first need =
      turn_fine sc s k b j Again g w q refl (λ y u. past_head f (Ends v) w (OfLoop s j) own first refl y (subst (λ l. turn_needs l y ≡ true) (sym q) u)) w (λ y p h. h)
  through_fine (OfLoop s j) f (Leaves node x) w d e c g on low ok (around_turn {sc = sc} k b q o) more z now own first need =
      loop_left_fine sc s k b j f c g w q on low more (frame_ground K proper plain {t = suc n} (around_turn {sc = sc} {s = s} {c = j} k b q o) g on low ok) (frame_sound K proper {t = suc n} (around_turn {sc = sc} {s = s} {c = j} k b q o) ok) (node == s.node) node x (past_head f (Leaves node x) w (OfLoop s j) own first refl) now
  through_fine (OfPar s front back) f (Ends v) w d e c g on low ok (around_branch {sc = sc} k slot bs b cs q y z) more u now own first need =
      subst (λ l. UpFine (AStatement sc s) g w (rejoined (kind_of l) s (join front (branch Over back)) Program w)) (sym q)
      (rejoined_fine sc s k slot (bs ++ b ∷ cs) front back g w q own (branches_spare sc s k slot bs b cs front back g q y z on w))
  through_fine (OfPar s front back) f (Leaves node x) w d e c g on low ok (around_branch {sc = sc} k slot bs b cs q y z) more u now own first need =
      record { needed = λ m h. absurd (false≢true h); comes = λ m h. no_await s (KStmt-F.Par k slot (bs ++ b ∷ cs)) m q refl h; spares = λ m p h. h }
  through_fine fr f x w d e c g on low ok (around_statement done q z i) more k now own first need = elim k [ ]
  through_fine fr f x w d e c g on low ok (around_end z i) more k now own first need = elim k [ ]
  through_fine fr f x w d e c g on low ok (around_part b o) more k now own first need = elim k [ ]
  through_fine fr f x w d e c g on low ok (around_turn j b q o) more k now own first need = elim k [ ]
  through_fine fr f x w d e c g on low ok (around_branch j slot bs b cs q y z) more k now own first need = elim k [ ]
  through_fine fr f x w d e c g on low ok (around_call m es h t j q o) more k now own first need = absurd (no_code K proper plain m j o)
  through_fine fr f x w d e c g on low ok (around_instance {seat = seat} done j q z i y h p o) more k now own first need = absurd (no_code K proper plain seat.code j o)

  -- ---- all of them

  head_first : (f : Focus Act) (x : Outcome) (w : World) → (is_at_head (leaf f) ≡ true → is_head_outcome x ≡ true) → at_first_head f ≡ true → is_head_outcome (up Program f x w).outcome ≡ true
  unfolding up
  head_first (Here AtHead) x w h e = h refl
  head_first (Here (Begin b)) x w h e = absurd (false≢true e)
  head_first (Here (Start s)) x w h e = absurd (false≢true e)
  head_first (Here (Finish s v)) x w h e = absurd (false≢true e)
  head_first (Here AtEnd) x w h e = absurd (false≢true e)
  head_first (Here Again) x w h e = absurd (false≢true e)
  head_first (In fr f) x w h e = absurd (false≢true e)

  pub up_fine : (f : Focus Act) (x : Outcome) (w : World) (d e : Part) (g : Ground) → On d g → LowAt d g → Sound K proper d → Around K (suc n) Act f d e → Comes K n e x → OutcomeHas x e w → (is_at_head (leaf f) ≡ true → is_head_outcome x ≡ true)
      → ((y : ℕ) → focus_needs f y ≡ true → has Program y w ≡ true) → ((y : ℕ) → outcome_needs x y ≡ true → has Program y w ≡ true) → UpFine d g w (up Program f x w)
  unfolding up focus_needs
  up_fine (Here a) x w d e g on low ok nothing_around k now first own need = record { needed = need; comes = now; spares = λ y p h. h }
  up_fine (In fr f) x w d e g on low ok (one_around {e = c} a more) k now first own need =
      let i = frame_ground K proper plain a g on low ok in
      let sound = frame_sound K proper a ok in
      let m = up Program f x w in
      let inner = up_fine f x w c e i.ground i.on i.low sound more k now first (λ y h. own y (or_right (frame_needs fr (at_first_head f) y) (focus_needs f y) h)) need in
      let outer = through_fine fr f m.outcome m.world d c e g on low ok a more (up_fits K proper n Program f x w c e sound more k) inner.comes
      (λ y h. inner.spares y (i.apart y (at_first_head f) h) (own y (or_left (frame_needs fr (at_first_head f) y) (focus_needs f y) h))) (head_first f x w first) inner.needed in
      subst (λ b. UpFine d g w (through Program fr f (up b f x w).outcome (up b f x w).world)) (sym (plain_body K proper plain a))
      (record { needed = outer.needed; comes = outer.comes; spares = λ y p h. outer.spares y p (inner.spares y (beside_inner i.ground g y i.inner p) h) })
