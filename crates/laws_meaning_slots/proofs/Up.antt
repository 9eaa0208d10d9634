-- What the parts around a leaf do keeps each value in an open slot.
use Rattle.std.proofs.Common.{◌≡◌, refl, ap, subst, ◌≤◌, ℕ, ◌+◌, pos, ◌+ℤ◌, int_lt, Bool, true, false, if◌then◌else◌, ◌==◌, List, arith, eq-eqb}
use Rattle.std.proofs.lemmas.Bool.{and_parts, false≢true}
use Rattle.ceu_base.specs.declared.kinds.Ty.TheVariants as ty
use Rattle.ceu_tree.specs.declared.kernel.Kernel.{Kernel}
use Rattle.ceu_tree.specs.declared.kernel.KKind.TheVariants as kind
use Rattle.ceu_tree.specs.declared.kernel.KLoop.{KLoop}
use Rattle.ceu_tree.specs.declared.kernel.KLoop.TheVariants as turns
use Rattle.ceu_tree.specs.declared.kernel.ParKind.{ParKind}
use Rattle.ceu_tree.specs.declared.kernel.ParKind.TheVariants as par
use Rattle.ceu_tree.specs.declared.kernel.KNode.{KNode}
use Rattle.ceu_tree.specs.declared.kernel.KBlock.{KBlock, out-KBlock}
use Rattle.ceu_tree.specs.declared.kernel.KStmt.{out-KStmt}
use Rattle.ceu_tree.specs.declared.kernel.KStmt.TheOpen.{KStmt-F}
use Rattle.ceu_tree.specs.Residual.{Body, Act, Begin, Again, Counter, Turns, Upward, Residual, Over, Par, Branches, no_branch, branch, Instances}
use Rattle.ceu_tree.specs.Focus.{OfBlock, OfOpen, OfLoop, Focus, Here, In, plug}
use Rattle.ceu_tree.specs.World.{Holds, Held, World, set, assign_if}
use Rattle.ceu_tree.specs.Abort.{aborted, closed, forget_loop}
use Rattle.ceu_tree.specs.Leaf.{Layer, Exit, Escape, Break, Continue, target}
use Rattle.ceu_tree.specs.Around.{Outcome, Goes, Rests, Raises, Fails, Past, Ends, Leaves, Moved, moved, value_with, body_left, open_left, turn_of, next_turn, loop_exit, loop_left, is_over, all_over, rejoined}
use Rattle.ceu_tree.specs.Proper.{Scope, is_proper}
use Rattle.laws_meaning_basics.specs.Shape.{Part, ABlock, AStatement, block_scope, AllFit}
use Rattle.laws_meaning_basics.proofs.Static.{nodes_fine, names_of}
use Rattle.laws_meaning_slots.proofs.Slots.{decls_room, layer_room, room, each_room, all_room, frame_room, focus_room}
use Rattle.laws_meaning_slots.proofs.Values.{held, lie_more, lie_put, lie_forget_loop}
use Rattle.laws_meaning_slots.proofs.Covers.{Covers, at_one}
use Rattle.laws_meaning_slots.proofs.Writes.{target_takes}
use Rattle.laws_meaning_slots.proofs.Aborts.{LieIn, assign_if_lies}
use Rattle.laws_meaning_slots.proofs.Leaving as leaving
use Rattle.laws_meaning_slots.proofs.Leaving.{closed_lie, branches_lie, focus_leaves}

module _ (K : Kernel) (proper : is_proper K ≡ true) (g : ℕ) where
  -- the slots that are open in what an outcome of a part leaves: an exit leads out of all that is inside, a block that ends has none
  abbrev pub left : Held → Body → Focus Act → Outcome → ℕ
  left h body f (Goes x) = focus_room K.codes g h x body
  left h body f (Rests r) = room K.codes g h r body
  left h body f (Raises r) = room K.codes g h r body
  left h body f (Fails e r) = 1
  left h body f (Leaves node x) = focus_room K.codes g h f body
  left h body f _ = 0

  abbrev pub Left : (Held → ℕ) → Body → Focus Act → Moved → Type 0
  Left c body f m = LieIn (λ h. left h body f m.outcome + c h) m.world

  module _ (body : Body) (c : Held → ℕ) where
    -- nothing is left but what c counts
    pub ended : (f : Focus Act) (x : Outcome) (u : World) → ((h : Held) → left h body f x ≡ 0) → LieIn c u → Left c body f (moved x u)
    ended f x u e l = lie_more c (λ h. left h body f x + c h) (λ h n. (let a = e h in omega (arith, a, n))) u.values l

    pub stays : (m : Held → ℕ) (f : Focus Act) (x : Outcome) (w : World) → ((h : Held) → m h ≡ left h body f x) → LieIn (λ h. m h + c h) w
        → Left c body f (moved x w)
    stays m f x w e l = lie_more (λ h. m h + c h) (λ h. left h body f x + c h) (λ h n. (let a = e h in omega (arith, a, n))) w.values l

    either : (f : Focus Act) (b : Bool) (x y : Moved) → Left c body f x → Left c body f y → Left c body f (if b then x else y)
    either f true x y h k = h
    either f false x y h k = k

    -- ---- blocks

    pub block_closed : {t : ℕ} {sc : Scope} {all : Instances} (turn : Bool) (b : KBlock) (fin rest : List KNode) (w : World) → AllFit K t sc all
        → Covers K g c (ABlock turn sc b) body → nodes_fine K (names_of K) (block_scope sc b) fin
        → LieIn (λ h. frame_room K.codes g h (OfBlock b fin all rest) body + c h) w → LieIn c (closed b fin all body w)
    block_closed {all = all} turn b fin rest w fit o f x =
        closed_lie K proper g turn b fin body c w fit o f
        (lie_more (λ h. frame_room K.codes g h (OfBlock b fin all rest) body + c h) (λ h. all_room K.codes g h all + (decls_room K.codes g h body (out-KBlock b).decls + c h)) (λ h n. omega (arith, n)) w.values x)

    pub body_left_lie : {t : ℕ} {sc : Scope} {all : Instances} (e : Part) (v turn : Bool) (b : KBlock) (fin rest : List KNode) (f : Focus Act) (node : ℕ) (x : Exit) (w : World)
        → AllFit K t sc all → Covers K g c (ABlock turn sc b) body
        → nodes_fine K (names_of K) (block_scope sc b) fin → Covers K g (λ h. frame_room K.codes g h (OfBlock b fin all rest) body + c h) e body → leaving.Leaves K g (λ h. focus_room K.codes g h f body) (plug f Over) e body
        → LieIn (λ h. frame_room K.codes g h (OfBlock b fin all rest) body + focus_room K.codes g h f body + c h) w → Left c body (In (OfBlock b fin all rest) f) (body_left v b fin all f body node x w)
    unfolding focus_room
    body_left_lie {all = all} e true turn b fin rest f node x w fit o q p ih l =
        let i : Held → ℕ = λ h. frame_room K.codes g h (OfBlock b fin all rest) body + c h in
        ended (In (OfBlock b fin all rest) f) (Ends (value_with x)) (closed b fin all body (aborted (plug f Over) body w)) (λ h. refl)
        (block_closed turn b fin rest (aborted (plug f Over) body w) fit o q (ih i w p (lie_more (λ h. frame_room K.codes g h (OfBlock b fin all rest) body + focus_room K.codes g h f body + c h) (λ h. focus_room K.codes g h f body + i h) (λ h n. omega (arith, n)) w.values l)))
    body_left_lie e false turn b fin rest f node x w fit o q p ih l = l

    -- ---- do and if

    pub open_left_lie : (e : Part) (v : Bool) (s : KNode) (sc : Scope) (f : Focus Act) (node : ℕ) (x : Exit) (w : World) → Covers K g c (AStatement sc s) body
        → target_takes K (names_of K) sc (target s) → Covers K g c e body
        → leaving.Leaves K g (λ h. focus_room K.codes g h f body) (plug f Over) e body → LieIn (λ h. 0 + focus_room K.codes g h f body + c h) w → Left c body (In (OfOpen s) f) (open_left v s f body node x w)
    unfolding focus_room
    open_left_lie e true s sc f node x w o q p ih l =
        ended (In (OfOpen s) f) Past (assign_if body (target s) (value_with x) (aborted (plug f Over) body w)) (λ h. refl)
        (assign_if_lies K proper g sc (target s) (value_with x) body c (aborted (plug f Over) body w) o.0 o.1 q
        (ih c w p (lie_more (λ h. 0 + focus_room K.codes g h f body + c h) (λ h. focus_room K.codes g h f body + c h) (λ h n. omega (arith, n)) w.values l)))
    open_left_lie e false s sc f node x w o q p ih l = l

    -- ---- loops

    loop_past : (s : KNode) (f : Focus Act) (u : World) → LieIn (λ h. layer_room K.codes g h body (out-KStmt s.stmt) + c h) u
        → Left c body f (moved Past (forget_loop body s.stmt u))
    loop_past s f u l = ended f Past (forget_loop body s.stmt u) (λ h. refl) (lie_forget_loop K.codes g body s.stmt c u l)

    pub loop_on : (s : KNode) (j : Counter) (a : Act) (f : Focus Act) (u : World) → LieIn (λ h. layer_room K.codes g h body (out-KStmt s.stmt) + c h) u
        → Left c body f (moved (Goes (In (OfLoop s j) (Here a))) u)
    unfolding focus_room
    loop_on s j a f u l = stays (λ h. layer_room K.codes g h body (out-KStmt s.stmt)) f (Goes (In (OfLoop s j) (Here a))) u (λ h. omega arith) l

    loop_exit_lie : (s : KNode) (j : Counter) (x : Exit) (f : Focus Act) (u : World) → LieIn (λ h. layer_room K.codes g h body (out-KStmt s.stmt) + c h) u
        → Left c body f (loop_exit s j x body u)
    loop_exit_lie s j Continue f u l = loop_on s j Again f u l
    loop_exit_lie s j Break f u l = loop_past s f u l
    loop_exit_lie s j (Escape v) f u l = loop_past s f u l

    pub loop_left_lie : (e : Part) (v : Bool) (s : KNode) (j : Counter) (f : Focus Act) (node : ℕ) (x : Exit) (w : World)
        → Covers K g (λ h. layer_room K.codes g h body (out-KStmt s.stmt) + c h) e body
        → leaving.Leaves K g (λ h. focus_room K.codes g h f body) (plug f Over) e body → LieIn (λ h. layer_room K.codes g h body (out-KStmt s.stmt) + focus_room K.codes g h f body + c h) w
        → Left c body (In (OfLoop s j) f) (loop_left v s j f body node x w)
    unfolding focus_room
    loop_left_lie e true s j f node x w p ih l =
        let i : Held → ℕ = λ h. layer_room K.codes g h body (out-KStmt s.stmt) + c h in
        loop_exit_lie s j x (In (OfLoop s j) f) (aborted (plug f Over) body w)
        (ih i w p (lie_more (λ h. layer_room K.codes g h body (out-KStmt s.stmt) + focus_room K.codes g h f body + c h) (λ h. focus_room K.codes g h f body + i h) (λ h n. omega (arith, n)) w.values l))
    loop_left_lie e false s j f node x w p ih l = l

    turn_lie : (s : KNode) (k : KLoop) (b : KBlock) (j : Counter) (f : Focus Act) (w : World) → out-KStmt s.stmt ≡ KStmt-F.Loop k b
        → LieIn (λ h. layer_room K.codes g h body (out-KStmt s.stmt) + c h) w → Left c body f (turn_of s k b j body w)
    turn_lie s (turns.Times slot limit) b (Turns k) f w e l =
        either f (k == limit) _ _ (lie_more (λ h. layer_room K.codes g h body (out-KStmt s.stmt) + c h) (λ h. 1 + c h) (λ h n. omega arith) w.values l) (loop_on s (Turns (k + 1)) (Begin b) f w l)
    turn_lie s (turns.Range i next end open_a x y open_b) b (Upward v last) f w e l =
        either f (int_lt last v) _ _ (loop_past s f w l) (loop_on s (Upward (v +ℤ pos 1) last) (Begin b) f (set body i (Holds v) w) (lie_put (λ h. layer_room K.codes g h body (out-KStmt s.stmt) + c h) body i (Holds v) w.values there l))
      where
        there : 1 ≤ layer_room K.codes g (held body i (Holds v)) body (out-KStmt s.stmt) + c (held body i (Holds v))
        there =
            let a = ap (layer_room K.codes g (held body i (Holds v)) body) e in
            let n = at_one K g body i i (kind.Var ty.S32) (Holds v) (eq-eqb i i refl) refl in omega (arith, a, n)
    turn_lie s k b j f w e l = loop_on s j (Begin b) f w l

    pub next_turn_lie : (s : KNode) (layer : Layer) (j : Counter) (f : Focus Act) (w : World) → out-KStmt s.stmt ≡ layer
        → LieIn (λ h. layer_room K.codes g h body (out-KStmt s.stmt) + c h) w → Left c body f (next_turn s layer j body w)
    next_turn_lie s (KStmt-F.Loop k b) j f w e l = turn_lie s k b j f w e l
    next_turn_lie s layer j f w e l = subst (λ x. LieIn (λ h. layer_room K.codes g h body x + c h) w) e l

    -- ---- par

    over_room : (bs : Branches) → all_over bs ≡ true → (h : Held) → each_room K.codes g h bs body ≡ 0
    unfolding room
    over_room no_branch e h = refl
    over_room (branch r more) e h = let a = and_parts (is_over r) (all_over more) e in let b = over_room more a.1 h in let d = one r a.0 in omega (arith, b, d)
      where
        one : (r : Residual) → is_over r ≡ true → room K.codes g h r body ≡ 0
        one Over q = refl
        one r q = absurd (false≢true q)

    pub rejoined_lie : (k : ParKind) (s : KNode) (bs : Branches) (f : Focus Act) (w : World)
        → (LieIn (λ h. each_room K.codes g h bs body + c h) w → LieIn c (aborted (Par s bs) body w)) → LieIn (λ h. each_room K.codes g h bs body + c h) w
        → Left c body f (rejoined k s bs body w)
    unfolding room
    rejoined_lie par.Never s bs f w q l = l
    rejoined_lie par.Or s bs f w q l = ended f Past (aborted (Par s bs) body w) (λ h. refl) (q l)
    rejoined_lie par.And s bs f w q l = go (all_over bs) refl
      where
        go : (b : Bool) → all_over bs ≡ b → Left c body f (if b then moved Past w else moved (Rests (Par s bs)) w)
        go true e = lie_more (λ h. each_room K.codes g h bs body + c h) (λ h. 0 + c h) (λ h n. (let a = over_room bs e h in omega (arith, a, n))) w.values l
        go false e = l
