-- What the parts around a leaf do with what it comes to fits their places.
use Rattle.std.proofs.Common.{◌≡◌, refl, sym, ap, ◌∙◌, subst, ℕ, suc, ◌+◌, pos, ◌+ℤ◌, int_lt, Bool, true, false, not, if◌then◌else◌, ◌==◌, ◌||◌, inl, inr, List, [], ◌∷◌, ◌++◌, append_assoc, append-nil, Some, None, arith}
use Rattle.std.proofs.lemmas.Bool.{false≢true}
use Rattle.ceu_tree.specs.declared.kernel.Kernel.{Kernel}
use Rattle.ceu_tree.specs.declared.kernel.KLoop.{KLoop}
use Rattle.ceu_tree.specs.declared.kernel.KLoop.TheVariants as turns
use Rattle.ceu_tree.specs.declared.kernel.ParKind.{ParKind}
use Rattle.ceu_tree.specs.declared.kernel.ParKind.TheVariants as par
use Rattle.ceu_tree.specs.declared.kernel.KNode.{KNode}
use Rattle.ceu_tree.specs.declared.kernel.KArm.{KArm}
use Rattle.ceu_tree.specs.declared.kernel.KBlock.{KBlock, out-KBlock}
use Rattle.ceu_tree.specs.declared.kernel.KStmt as kernel
use Rattle.ceu_tree.specs.declared.kernel.KStmt.{KStmt, out-KStmt}
use Rattle.ceu_tree.specs.declared.kernel.KStmt.TheOpen.{KStmt-F}
use Rattle.ceu_tree.specs.Residual.{Body, Act, Begin, Again, Counter, Free, Turns, Upward, Over, Par, Branches, branch, Instances}
use Rattle.ceu_tree.specs.Focus.{Frame, OfBlock, OfInstance, OfOpen, OfLoop, OfCall, OfPar, Focus, Here, In, join, body_in}
use Rattle.ceu_tree.specs.World.{World}
use Rattle.ceu_tree.specs.Leaf.{Layer, Exit, Escape, Break, Continue, next_of, rest_of}
use Rattle.ceu_tree.specs.Around.{Outcome, Goes, Rests, Raises, Fails, Past, Registers, AtBlockEnd, AtLoopHead, Ends, Leaves, Moved, moved, body_left, open_left, turn_of, next_turn, loop_left, all_over, kind_of, rejoined, through, up}
use Rattle.ceu_tree.specs.Proper.{Scope, Aim, DoAim, BodyAim, LoopAim, is_trail, is_proper}
use Rattle.ceu_tree.specs.Legal.{finalizers_of, is_finalizer}
use Rattle.laws_meaning_basics.specs.Shape.{Part, ABlock, AStatement, AnEnd, block_scope, part_scope, turn_scope, opens_part, among_arms, counts, may_end, in_list, in_par, EachFits, an_ended, AllFit, FrameFits, around_statement, around_end, around_instance, around_part, around_turn, around_call, around_branch, Around, nothing_around, one_around, begins, goes_again, starts, ends, TurnFits, in_trail, aim_node, aimed, Comes}
use Rattle.laws_meaning_basics.proofs.Static.{BlockOk, StmtOk, nodes_fine, each_fine, arms_fine, layer_fine, block_static, stmt_static, names_of, code_static}
use denote.Hole.Carrier
use Rattle.laws_meaning_basics.proofs.Fits.{frame_raised, each_joined, all_joined, fill_fits}

-- ---- statements that are finalizers

abbrev pub finalizes : Layer → Bool
finalizes (KStmt-F.Finalize b) = true
finalizes layer = false

pub finalizer_layer : (st : KStmt) → is_finalizer st ≡ finalizes (out-KStmt st)
unfolding out-KStmt Carrier.out
finalizer_layer (kernel.Finalize b) = refl
finalizer_layer st = refl

pub no_finalizer : (s : KNode) (layer : Layer) → out-KStmt s.stmt ≡ layer → finalizes layer ≡ false → is_finalizer s.stmt ≡ false
no_finalizer s layer e h = finalizer_layer s.stmt ∙ ap finalizes e ∙ h

opens_no_finalizer : (layer : Layer) (b : KBlock) → opens_part layer b → finalizes layer ≡ false
opens_no_finalizer (KStmt-F.Do t c) b h = refl
opens_no_finalizer (KStmt-F.If arms last) b h = refl
opens_no_finalizer layer b h = elim h [ ]

pub finalizers_append : (found xs ys : List KNode) → finalizers_of found (xs ++ ys) ≡ finalizers_of (finalizers_of found xs) ys
finalizers_append found [] ys = refl
finalizers_append found (x ∷ xs) ys = finalizers_append (if is_finalizer x.stmt then x ∷ found else found) xs ys

-- one more is done
gone_past : (s : KNode) (done fin : List KNode) → is_finalizer s.stmt ≡ false → fin ≡ finalizers_of [] done → fin ≡ finalizers_of [] (done ++ s ∷ [])
gone_past s done fin h e = e ∙ sym (finalizers_append [] done (s ∷ []) ∙ ap (λ b. if b then s ∷ finalizers_of [] done else finalizers_of [] done) h)

gone_registered : (s q : KNode) (done fin : List KNode) → s ≡ q → is_finalizer s.stmt ≡ true → fin ≡ finalizers_of [] done → q ∷ fin ≡ finalizers_of [] (done ++ s ∷ [])
gone_registered s q done fin x h e = ap (λ z. z ∷ fin) (sym x) ∙ ap (◌∷◌ s) e ∙ sym (finalizers_append [] done (s ∷ []) ∙ ap (λ b. if b then s ∷ finalizers_of [] done else finalizers_of [] done) h)

-- ---- what holds of the kernel at a place

module _ (K : Kernel) (proper : is_proper K ≡ true) where
  abbrev pub Sound : Part → Type 0
  Sound (ABlock turn sc b) = BlockOk K (names_of K) sc b
  Sound (AStatement sc s) = StmtOk K (names_of K) sc s
  Sound AnEnd = Unit {0}

  pub layer_of : (sc : Scope) (s : KNode) (layer : Layer) → out-KStmt s.stmt ≡ layer → StmtOk K (names_of K) sc s → layer_fine K (names_of K) sc s.node layer
  layer_of sc s layer e h = subst (layer_fine K (names_of K) sc s.node) e (stmt_static K (names_of K) sc s.node s.stmt h)

  pub nodes_at : (sc : Scope) (done : List KNode) (s : KNode) (rest : List KNode) → nodes_fine K (names_of K) sc (done ++ s ∷ rest) → StmtOk K (names_of K) sc s
  nodes_at sc [] s rest h = h.0
  nodes_at sc (x ∷ done) s rest h = nodes_at sc done s rest h.1

  pub list_sound : (sc : Scope) (b : KBlock) (done : List KNode) (s : KNode) (rest : List KNode) → BlockOk K (names_of K) sc b → (out-KBlock b).list ≡ done ++ s ∷ rest → StmtOk K (names_of K) (block_scope sc b) s
  list_sound sc b done s rest h e = nodes_at (block_scope sc b) done s rest (subst (nodes_fine K (names_of K) (block_scope sc b)) e (block_static K (names_of K) sc b h))

  pub each_at : (sc : Scope) (bs : List KBlock) (b : KBlock) (cs : List KBlock) → each_fine K (names_of K) sc (bs ++ b ∷ cs) → BlockOk K (names_of K) sc b
  each_at sc [] b cs h = h.0
  each_at sc (x ∷ bs) b cs h = each_at sc bs b cs h.1

  arms_at : (sc : Scope) (arms : List KArm) (b : KBlock) → arms_fine K (names_of K) sc arms → among_arms arms b → BlockOk K (names_of K) sc b
  arms_at sc [] b h x = elim x [ ]
  arms_at sc (a ∷ arms) b h (inl e) = subst (BlockOk K (names_of K) sc) e h.0
  arms_at sc (a ∷ arms) b h (inr x) = arms_at sc arms b h.1 x

  pub part_sound : (sc : Scope) (n : ℕ) (layer : Layer) (b : KBlock) → layer_fine K (names_of K) sc n layer → opens_part layer b → BlockOk K (names_of K) (part_scope K sc n layer) b
  part_sound sc n (KStmt-F.Do t c) b h x = subst (BlockOk K (names_of K) (part_scope K sc n (KStmt-F.Do t c))) x h
  part_sound sc n (KStmt-F.If arms last) b h (inl x) = arms_at sc arms b h.0 x
  part_sound sc n (KStmt-F.If arms last) b h (inr e) = subst (BlockOk K (names_of K) sc) e h.1
  part_sound sc n layer b h x = elim x [ ]

  pub frame_sound : {t : ℕ} {fr : Frame} {d e : Part} → FrameFits K t fr d e → Sound d → Sound e
  frame_sound (around_statement {sc = sc} {b = b} {rest = rest} {s = s} done e f all) h = list_sound sc b done s rest h e
  frame_sound (around_end f all) h = tt
  frame_sound (around_instance {seat = seat} done k e f r before after p c) h = code_static K seat.code k proper c
  frame_sound (around_part {sc = sc} {s = s} b x) h = part_sound sc s.node (out-KStmt s.stmt) b (layer_of sc s (out-KStmt s.stmt) refl h) x
  frame_sound (around_turn {sc = sc} {s = s} k b e c) h = layer_of sc s (KStmt-F.Loop k b) e h
  frame_sound (around_call c es f t k e g) h = code_static K c k proper g
  frame_sound (around_branch {sc = sc} {s = s} k slot bs b cs e x y) h = each_at sc bs b cs (layer_of sc s (KStmt-F.Par k slot (bs ++ b ∷ cs)) e h).1

  -- ---- what a frame does with what its part comes to

  module _ (n : ℕ) where
    abbrev Fine : Part → Moved → Type 0
    Fine d m = Comes K n d m.outcome

    -- the next statement of a list, or its end
    pub list_goes : (turn : Bool) (sc : Scope) (b : KBlock) (fin : List KNode) (all : Instances) (done rest : List KNode)
        → (out-KBlock b).list ≡ done ++ rest → fin ≡ finalizers_of [] done → AllFit K (suc n) sc all
        → TurnFits K (suc n) (ABlock turn sc b) (In (OfBlock b fin all (rest_of rest)) (Here (next_of rest)))
    list_goes turn sc b fin all done [] e f h =
        let whole : (out-KBlock b).list ≡ done = e ∙ append-nil done in
        record { part = AnEnd; around = one_around (around_end (f ∙ ap (finalizers_of []) (sym whole)) h) nothing_around; acts = ends }
    list_goes turn sc b fin all done (s ∷ ss) e f h = record { part = AStatement (block_scope sc b) s; around = one_around (around_statement done e f h) nothing_around; acts = starts }

    goes_past : (turn : Bool) (sc : Scope) (b : KBlock) (fin : List KNode) (all : Instances) (done : List KNode) (s : KNode) (rest : List KNode)
        → (out-KBlock b).list ≡ done ++ s ∷ rest → fin ≡ finalizers_of [] (done ++ s ∷ []) → AllFit K (suc n) sc all
        → TurnFits K (suc n) (ABlock turn sc b) (In (OfBlock b fin all (rest_of rest)) (Here (next_of rest)))
    goes_past turn sc b fin all done s rest e f h = list_goes turn sc b fin all (done ++ s ∷ []) rest (e ∙ sym (append_assoc done (s ∷ []) rest)) f h

    body_leaves : (turn t : Bool) (sc : Scope) (b : KBlock) (fin : List KNode) (all : Instances) (f : Focus Act) (body : Body) (node : ℕ) (x : Exit) (w : World)
        → (node == (out-KBlock b).node) ≡ t → aimed node sc.aims ≡ true → Fine (ABlock turn sc b) (body_left t b fin all f body node x w)
    body_leaves true true sc b fin all f body node x w e h = tt
    body_leaves false true sc b fin all f body node x w e h = tt
    body_leaves true false sc b fin all f body node x w e h = (h, e)
    body_leaves false false sc b fin all f body node x w e h = (h, e)

    -- an exit that a statement does not take leads further out
    not_here : (node m : ℕ) (a : Aim) (aims : List Aim) → aim_node a ≡ m → (node == m) ≡ false → aimed node (a ∷ aims) ≡ true → aimed node aims ≡ true
    not_here node m a aims e f h = sym (ap (λ b. b || aimed node aims) (ap (λ j. node == j) e ∙ f)) ∙ h

    part_outward : (sc : Scope) (m node : ℕ) (layer : Layer) (b : KBlock) → opens_part layer b → (node == m) ≡ false → aimed node (part_scope K sc m layer).aims ≡ true → aimed node sc.aims ≡ true
    part_outward sc m node (KStmt-F.Do None c) b x e h = not_here node m (DoAim m None) sc.aims refl e h
    part_outward sc m node (KStmt-F.Do (Some l) c) b x e h = not_here node m (DoAim m (Some l.ty)) sc.aims refl e h
    part_outward sc m node (KStmt-F.If arms last) b x e h = h
    part_outward sc m node layer b x e h = elim x [ ]

    part_leaves : (t : Bool) (sc : Scope) (s : KNode) (b : KBlock) (f : Focus Act) (body : Body) (node : ℕ) (x : Exit) (w : World)
        → opens_part (out-KStmt s.stmt) b → (node == s.node) ≡ t → aimed node (part_scope K sc s.node (out-KStmt s.stmt)).aims ≡ true → Fine (AStatement sc s) (open_left t s f body node x w)
    part_leaves true sc s b f body node x w o e h = no_finalizer s (out-KStmt s.stmt) refl (opens_no_finalizer (out-KStmt s.stmt) b o)
    part_leaves false sc s b f body node x w o e h = part_outward sc s.node node (out-KStmt s.stmt) b o e h

    -- ---- loops

    turns_again : (sc : Scope) (s : KNode) (c : Counter) (k : KLoop) (b : KBlock) → out-KStmt s.stmt ≡ KStmt-F.Loop k b → counts k c ≡ true → TurnFits K (suc n) (AStatement sc s) (In (OfLoop s c) (Here Again))
    turns_again sc s c k b e h = record { part = ABlock true (turn_scope K sc s.node k) b; around = one_around (around_turn k b e h) nothing_around; acts = goes_again }

    turn_begins : (sc : Scope) (s : KNode) (c : Counter) (k : KLoop) (b : KBlock) → out-KStmt s.stmt ≡ KStmt-F.Loop k b → counts k c ≡ true → TurnFits K (suc n) (AStatement sc s) (In (OfLoop s c) (Here (Begin b)))
    turn_begins sc s c k b e h = record { part = ABlock true (turn_scope K sc s.node k) b; around = one_around (around_turn k b e h) nothing_around; acts = begins }

    loop_leaves : (t : Bool) (sc : Scope) (s : KNode) (c : Counter) (k : KLoop) (b : KBlock) (f : Focus Act) (body : Body) (node : ℕ) (x : Exit) (w : World)
        → out-KStmt s.stmt ≡ KStmt-F.Loop k b → counts k c ≡ true → (node == s.node) ≡ t → aimed node (turn_scope K sc s.node k).aims ≡ true → Fine (AStatement sc s) (loop_left t s c f body node x w)
    loop_leaves true sc s c k b f body node Continue w e h q a = turns_again sc s c k b e h
    loop_leaves true sc s c k b f body node Break w e h q a = no_finalizer s _ e refl
    loop_leaves true sc s c k b f body node (Escape v) w e h q a = no_finalizer s _ e refl
    loop_leaves false sc s c turns.Free b f body node x w e h q a = not_here node s.node (LoopAim s.node) sc.aims refl q a
    loop_leaves false sc s c (turns.Times slot m) b f body node x w e h q a = not_here node s.node (LoopAim s.node) sc.aims refl q a
    loop_leaves false sc s c (turns.Range i next end open_a y z open_b) b f body node x w e h q a = not_here node s.node (LoopAim s.node) sc.aims refl q a

    either : (d : Part) (b : Bool) (x y : Moved) → Fine d x → Fine d y → Fine d (if b then x else y)
    either d true x y h k = h
    either d false x y h k = k

    turn_fits : (sc : Scope) (s : KNode) (k : KLoop) (b : KBlock) (c : Counter) (body : Body) (w : World) → out-KStmt s.stmt ≡ KStmt-F.Loop k b → counts k c ≡ true → Fine (AStatement sc s) (turn_of s k b c body w)
    turn_fits sc s turns.Free b Free body w e h = turn_begins sc s Free turns.Free b e h
    turn_fits sc s (turns.Times slot limit) b (Turns j) body w e h =
        either (AStatement sc s) (j == limit) _ _ tt (turn_begins sc s (Turns (j + 1)) (turns.Times slot limit) b e refl)
    turn_fits sc s (turns.Range i next end open_a x y open_b) b (Upward v last) body w e h =
        either (AStatement sc s) (int_lt last v) _ _ (no_finalizer s _ e refl) (turn_begins sc s (Upward (v +ℤ pos 1) last) (turns.Range i next end open_a x y open_b) b e refl)
    turn_fits sc s turns.Free b (Turns j) body w e h = absurd (false≢true h)
    turn_fits sc s turns.Free b (Upward v last) body w e h = absurd (false≢true h)
    turn_fits sc s (turns.Times slot limit) b Free body w e h = absurd (false≢true h)
    turn_fits sc s (turns.Times slot limit) b (Upward v last) body w e h = absurd (false≢true h)
    turn_fits sc s (turns.Range i next end open_a x y open_b) b Free body w e h = absurd (false≢true h)
    turn_fits sc s (turns.Range i next end open_a x y open_b) b (Turns j) body w e h = absurd (false≢true h)

    next_turn_fits : (sc : Scope) (s : KNode) (k : KLoop) (b : KBlock) (c : Counter) (body : Body) (w : World) (layer : Layer) → out-KStmt s.stmt ≡ KStmt-F.Loop k b → KStmt-F.Loop k b ≡ layer → counts k c ≡ true → Fine (AStatement sc s) (next_turn s layer c body w)
    next_turn_fits sc s k b c body w layer e q h = subst (λ l. Fine (AStatement sc s) (next_turn s l c body w)) q (turn_fits sc s k b c body w e h)

    -- ---- a branch that has ended

    rejoined_fits : (sc : Scope) (s : KNode) (k : ParKind) (slot : ℕ) (bs : List KBlock) (rs : Branches) (body : Body) (w : World)
        → out-KStmt s.stmt ≡ KStmt-F.Par k slot bs → is_trail sc.place ≡ true → (may_end k ≡ true → EachFits K (suc n) sc k bs rs) → Fine (AStatement sc s) (rejoined k s rs body w)
    rejoined_fits sc s par.Never slot bs rs body w e p h = (p, in_par par.Never slot bs e refl (h refl))
    rejoined_fits sc s par.Or slot bs rs body w e p h = no_finalizer s _ e refl
    rejoined_fits sc s par.And slot bs rs body w e p h = go (all_over rs) refl
      where
        go : (b : Bool) → all_over rs ≡ b → Fine (AStatement sc s) (if b then moved Past w else moved (Rests (Par s rs)) w)
        go true q = no_finalizer s _ e refl
        go false q = (p, in_par par.And slot bs e (ap not q) (h refl))

    -- an exit never leaves the body that is its last aim
    pub inside_body : (node m : ℕ) (a : Aim) → aim_node a ≡ m → aimed node (a ∷ []) ≡ true → (node == m) ≡ false → ⊥
    inside_body node m a e h f = false≢true (not_here node m a [] e f h)

    pub frame_trail : {t : ℕ} {fr : Frame} {d e : Part} → FrameFits K t fr d e → Sound d → in_trail e → in_trail d
    frame_trail (around_statement done e f all) h p = p
    frame_trail (around_end f all) h p = elim p [ ]
    frame_trail (around_instance done k e f r before after q c) h p = q
    frame_trail (around_part {sc = sc} {s = s} b x) h p = go (out-KStmt s.stmt) x p
      where
        go : (layer : Layer) → opens_part layer b → in_trail (ABlock false (part_scope K sc s.node layer) b) → in_trail (AStatement sc s)
        go (KStmt-F.Do None c) o q = q
        go (KStmt-F.Do (Some l) c) o q = q
        go (KStmt-F.If arms last) o q = q
        go layer o q = elim o [ ]
    frame_trail (around_turn turns.Free b e c) h p = p
    frame_trail (around_turn (turns.Times slot m) b e c) h p = p
    frame_trail (around_turn (turns.Range i next end open_a y z open_b) b e c) h p = p
    frame_trail (around_call {sc = sc} {s = s} c es f t k e g) h p = (layer_of sc s (KStmt-F.AwaitCode c es f t) e h).0
    frame_trail (around_branch k slot bs b cs e x y) h p = p

    pub through_fits : (body : Body) (fr : Frame) (f : Focus Act) (x : Outcome) (w : World) (d e : Part) → Sound d → FrameFits K (suc n) fr d e → Comes K n e x → Comes K n d (through body fr f x w).outcome
    through_fits body fr f (Goes g) w d e h a c = record { part = c.part; around = one_around a c.around; acts = c.acts }
    through_fits body fr f (Rests r) w d e h a c = (frame_trail a h c.0, fill_fits K a c.1)
    through_fits body fr f (Raises r) w d e h a c = (frame_trail a h c.0, fill_fits K (frame_raised K (omega arith) a) c.1)
    through_fits body fr f (Fails y r) w d e h a c = tt
    through_fits body (OfBlock b fin all rest) f Past w d e h (around_statement {turn = turn} {sc = sc} {s = s} done q z i) c =
        goes_past turn sc b fin all done s rest q (gone_past s done fin c z) i
    through_fits body (OfBlock b fin all rest) f (Registers y) w d e h (around_statement {turn = turn} {sc = sc} {s = s} done q z i) c =
        goes_past turn sc b (y ∷ fin) all done s rest q (gone_registered s y done fin c.0 c.1 z) i
    through_fits body (OfBlock b fin all rest) f (Leaves node x) w d e h (around_statement {turn = turn} {sc = sc} done q z i) c =
        body_leaves turn (node == (out-KBlock b).node) sc b fin all f body node x w refl c
    through_fits body (OfBlock b fin all rest) f AtBlockEnd w d e h (around_end {turn = true} z i) c = tt
    through_fits body (OfBlock b fin all rest) f AtBlockEnd w d e h (around_end {turn = false} z i) c = tt
    through_fits body (OfOpen s) f (Ends v) w d e h (around_part b o) c = no_finalizer s (out-KStmt s.stmt) refl (opens_no_finalizer (out-KStmt s.stmt) b o)
    through_fits body (OfOpen s) f (Leaves node x) w d e h (around_part {sc = sc} b o) c = part_leaves (node == s.node) sc s b f body node x w o refl c.0
    through_fits body (OfLoop s j) f AtLoopHead w d e h (around_turn {sc = sc} k b q o) c = next_turn_fits sc s k b j body w (out-KStmt s.stmt) q (sym q) o
    through_fits body (OfLoop s j) f (Ends v) w d e h (around_turn {sc = sc} k b q o) c = turns_again sc s j k b q o
    through_fits body (OfLoop s j) f (Leaves node x) w d e h (around_turn {sc = sc} k b q o) c = loop_leaves (node == s.node) sc s j k b f body node x w q o refl c.0
    through_fits body (OfCall s) f (Ends v) w d e h (around_call m es g t k q o) c = no_finalizer s _ q refl
    through_fits body (OfCall s) f (Leaves node x) w d e h (around_call m es g t k q o) c = absurd (inside_body node (out-KBlock k.body).node (BodyAim (out-KBlock k.body).node k.result) refl c.0 c.1)
    through_fits body (OfPar s before after) f (Ends v) w d e h (around_branch {sc = sc} k slot bs b cs q x y) c =
        let p = (layer_of sc s (KStmt-F.Par k slot (bs ++ b ∷ cs)) q h).0 in
        subst (λ l. Comes K n (AStatement sc s) (rejoined (kind_of l) s (join before (branch Over after)) body w).outcome) (sym q)
        (rejoined_fits sc s k slot (bs ++ b ∷ cs) (join before (branch Over after)) body w q p (λ m. each_joined K x (an_ended m y)))
    through_fits body (OfPar s before after) f (Leaves node x) w d e h (around_branch k slot bs b cs q y z) c = c.0
    through_fits body (OfInstance b fin before seat after r rest) f (Ends v) w d e h (around_instance done k q z i x y p o) c = (p, in_list done q z (all_joined K x y) i)
    through_fits body (OfInstance b fin before seat after r rest) f (Leaves node x) w d e h (around_instance done k q z i y g p o) c =
        absurd (inside_body node (out-KBlock k.body).node (BodyAim (out-KBlock k.body).node k.result) refl c.0 c.1)
    through_fits body fr f x w d e h (around_statement done q z i) c = elim c [ ]
    through_fits body fr f x w d e h (around_end z i) c = elim c [ ]
    through_fits body fr f x w d e h (around_part b o) c = elim c [ ]
    through_fits body fr f x w d e h (around_turn k b q o) c = elim c [ ]
    through_fits body fr f x w d e h (around_call m es g t k q o) c = elim c [ ]
    through_fits body fr f x w d e h (around_branch k slot bs b cs q y z) c = elim c [ ]
    through_fits body fr f x w d e h (around_instance done k q z i y g p o) c = elim c [ ]

    pub up_fits : (body : Body) (f : Focus Act) (x : Outcome) (w : World) (d e : Part) → Sound d → Around K (suc n) Act f d e → Comes K n e x → Comes K n d (up body f x w).outcome
    unfolding up
    up_fits body (Here a) x w d e h nothing_around c = c
    up_fits body (In fr f) x w d g h (one_around {e = e} a more) c =
        through_fits body fr f (up (body_in fr body) f x w).outcome (up (body_in fr body) f x w).world d e h a (up_fits (body_in fr body) f x w e g (frame_sound a h) more c)
