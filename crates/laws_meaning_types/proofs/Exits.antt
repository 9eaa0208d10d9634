-- What the parts around a leaf do keeps stores well-typed: what a statement or a body is left with is a value that its target takes.
use Rattle.std.proofs.Common.{◌≡◌, refl, sym, ap, ◌∙◌, subst, ℕ, suc, ◌+◌, pos, ◌+ℤ◌, int_lt, Bool, true, false, if◌then◌else◌, ◌==◌, inl, inr, List, [], ◌∷◌, append-nil, Some, eqb-true, eq-eqb}
use Rattle.ceu_tree.specs.declared.kernel.Kernel.{Kernel}
use Rattle.ceu_tree.specs.declared.kernel.KLoop.{KLoop}
use Rattle.ceu_tree.specs.declared.kernel.KLoop.TheVariants as turns
use Rattle.ceu_tree.specs.declared.kernel.ParKind.{ParKind}
use Rattle.ceu_tree.specs.declared.kernel.ParKind.TheVariants as par
use Rattle.ceu_tree.specs.declared.kernel.KNode.{KNode}
use Rattle.ceu_tree.specs.declared.kernel.KBlock.{KBlock, out-KBlock}
use Rattle.ceu_tree.specs.declared.kernel.KStmt.{out-KStmt}
use Rattle.ceu_tree.specs.declared.kernel.KStmt.TheOpen.{KStmt-F}
use Rattle.ceu_tree.specs.Residual.{Body, Awaited, Act, Begin, Again, Counter, Free, Turns, Upward, Over, Par, Branches, branch, Instances}
use Rattle.ceu_tree.specs.Focus.{Frame, OfBlock, OfInstance, OfOpen, OfLoop, OfCall, OfPar, Focus, Here, In, join, plug, leaf, body_in}
use Rattle.ceu_tree.specs.World.{World, Holds, set}
use Rattle.ceu_tree.specs.Abort.{aborted, returned}
use Rattle.ceu_tree.specs.Leaf.{Exit, Escape, Break, Continue, target_of, target, next_of, rest_of}
use Rattle.ceu_tree.specs.Around.{Outcome, Goes, Rests, Raises, Fails, Past, Registers, AtBlockEnd, AtLoopHead, Ends, Leaves, Moved, moved, value_with, body_left, open_left, turn_of, next_turn, loop_exit, loop_left, all_over, kind_of, rejoined, through, up}
use Rattle.ceu_tree.specs.Proper.{IsLoopVariable, BodyAim, Scope, find, is_proper}
use Rattle.laws_meaning_basics.specs.Shape.{Part, ABlock, AStatement, part_scope, turn_scope, opens_part, aimed, Comes, FrameFits, around_statement, around_end, around_instance, around_part, around_turn, around_call, around_branch, Around, nothing_around, one_around}
use Rattle.laws_meaning_basics.proofs.Static.{names_of}
use Rattle.laws_meaning_basics.proofs.UpFits.{Sound, frame_sound, inside_body, up_fits}
use Rattle.laws_meaning_slots.specs.Declared.{rows, kind_at}
use Rattle.laws_meaning_slots.specs.Typed.{cell_typed}
use Rattle.laws_meaning_slots.proofs.Aborts.{registered_fine}
use Rattle.laws_meaning_slots.proofs.Aims.{Inside, frame_inside, part_low, below_aimed}
use Rattle.laws_meaning_slots.proofs.Known.{KnownSeen, Known, turn_known}
use Rattle.laws_meaning_slots.proofs.Typing.{AllTyped, dead_typed, forget_body_typed, forget_loop_typed}
use Rattle.laws_meaning_slots.proofs.Writes.{target_takes, at_writes, target_written}
use Rattle.laws_meaning_counters.specs.Counters.{is_first, at_loop}
use Rattle.laws_meaning_counters.specs.Ints.{turns_int, layer_int, frame_int, focus_int}
use Rattle.laws_meaning_counters.proofs.IntRuns.{begun_int}
use Rattle.laws_meaning_types.specs.Ready.{takes_value, act_ready, tree_ready, each_ready, all_ready, frame_ready, frames_ready}
use Rattle.laws_meaning_types.proofs.Trees.{joined, joined_all, filled}
use Rattle.laws_meaning_types.proofs.Values.{put_typed, targets_typed}
use Rattle.laws_meaning_types.proofs.Aborts.{Gone, over_gone, closed_typed, frame_gone, frame_knows, focus_gone}
use Rattle.laws_meaning_types.proofs.Hands.{layer_hands, aim_takes, part_takes, part_outer, turn_outer, EndTakes, end_zero, end_result}

pub next_ready : (rest : List KNode) → act_ready (next_of rest)
next_ready [] = tt
next_ready (s ∷ ss) = tt

module _ (K : Kernel) (proper : is_proper K ≡ true) where
  -- what a part comes to is ready to go on, and an exit has a value that is taken where it leads to
  abbrev pub Suits : Part → Outcome → Type 0
  Suits d (Goes g) = frames_ready K g × act_ready (leaf g)
  Suits d (Rests r) = tree_ready K r
  Suits d (Raises r) = tree_ready K r
  Suits (ABlock turn sc b) (Ends v) = EndTakes K sc b v
  Suits (ABlock turn sc b) (Leaves node x) = aim_takes node (value_with x) sc.aims ≡ true
  Suits (AStatement sc s) (Leaves node x) = aim_takes node (value_with x) sc.aims ≡ true
  Suits d x = Unit {0}

  pub record Good (d : Part) (m : Moved) : Type 0 where
    pub suits : Suits d m.outcome
    pub typed : AllTyped K proper m.world

  pub target_fine : (sc : Scope) (s : KNode) → Sound K proper (AStatement sc s) → target_takes K (names_of K) sc (target s)
  target_fine sc s h = target_written K (names_of K) sc (out-KStmt s.stmt) (at_writes K (names_of K) sc s (out-KStmt s.stmt) refl h)

  -- ---- blocks

  goes_good : (turn : Bool) (sc : Scope) (b : KBlock) (fin : List KNode) (all : Instances) (rest : List KNode) (w : World) → all_ready K all
      → AllTyped K proper w
      → Good (ABlock turn sc b) (moved (Goes (In (OfBlock b fin all (rest_of rest)) (Here (next_of rest)))) w)
  unfolding frames_ready
  goes_good turn sc b fin all rest w r x = record { suits = ((r, tt), next_ready rest); typed = x }

  body_good : (t turn : Bool) (sc : Scope) (b : KBlock) (fin : List KNode) (all : Instances) (f : Focus Act) (body : Body) (node : ℕ) (x : Exit) (w : World)
      → (node == (out-KBlock b).node) ≡ t → aimed node sc.aims ≡ true → aim_takes node (value_with x) sc.aims ≡ true
      → Gone K proper (λ u. (body_left true b fin all f body node x u).world)
      → AllTyped K proper w → Good (ABlock turn sc b) (body_left t b fin all f body node x w)
  body_good true turn sc b fin all f body node x w e a h g y =
      record { suits = inr (subst (λ m. (aimed m sc.aims ≡ true) × (aim_takes m (value_with x) sc.aims ≡ true)) (eqb-true node (out-KBlock b).node e) (a, h)); typed = g w y }
  body_good false turn sc b fin all f body node x w e a h g y = record { suits = h; typed = y }

  -- ---- do and if

  open_good : (t : Bool) (sc : Scope) (s : KNode) (b : KBlock) (f : Focus Act) (body : Body) (node : ℕ) (x : Exit) (w : World)
      → (node == s.node) ≡ t → opens_part (out-KStmt s.stmt) b
      → Sound K proper (AStatement sc s) → KnownSeen K proper sc.seen
      → aim_takes node (value_with x) (part_scope K sc s.node (out-KStmt s.stmt)).aims ≡ true → Gone K proper (aborted (plug f Over) body)
      → AllTyped K proper w → Good (AStatement sc s) (open_left t s f body node x w)
  open_good true sc s b f body node x w e o h k z g y =
      record { suits = tt; typed = targets_typed K proper sc (target s) (value_with x) body (aborted (plug f Over) body w) k (target_fine sc s h) (part_takes K sc s.node node (out-KStmt s.stmt) b (value_with x) o e z) (g w y) }
  open_good false sc s b f body node x w e o h k z g y = record { suits = part_outer K sc s.node node (out-KStmt s.stmt) b (value_with x) o e z; typed = y }

  -- ---- loops

  on_good : (sc : Scope) (s : KNode) (c : Counter) (a : Act) (w : World) → act_ready a → AllTyped K proper w
      → Good (AStatement sc s) (moved (Goes (In (OfLoop s c) (Here a))) w)
  unfolding frames_ready
  on_good sc s c a w r x = record { suits = ((tt, tt), r); typed = x }

  past_good : (sc : Scope) (s : KNode) (w : World) → AllTyped K proper w → Good (AStatement sc s) (moved Past w)
  past_good sc s w x = record { suits = tt; typed = x }

  loop_exit_good : (sc : Scope) (s : KNode) (c : Counter) (x : Exit) (body : Body) (w : World) → AllTyped K proper w
      → Good (AStatement sc s) (loop_exit s c x body w)
  loop_exit_good sc s c Continue body w y = on_good sc s c Again w tt y
  loop_exit_good sc s c Break body w y = past_good sc s _ (forget_loop_typed K proper body s.stmt w y)
  loop_exit_good sc s c (Escape v) body w y = past_good sc s _ (forget_loop_typed K proper body s.stmt w y)

  loop_good : (t : Bool) (sc : Scope) (s : KNode) (c : Counter) (k : KLoop) (f : Focus Act) (body : Body) (node : ℕ) (x : Exit) (w : World)
      → aim_takes node (value_with x) (turn_scope K sc s.node k).aims ≡ true → Gone K proper (aborted (plug f Over) body) → AllTyped K proper w
      → Good (AStatement sc s) (loop_left t s c f body node x w)
  loop_good true sc s c k f body node x w h g y = loop_exit_good sc s c x body (aborted (plug f Over) body w) (g w y)
  loop_good false sc s c k f body node x w h g y = record { suits = turn_outer K sc s.node node k (value_with x) h; typed = y }

  either : (d : Part) (b : Bool) (x y : Moved) → (b ≡ true → Good d x) → (b ≡ false → Good d y) → Good d (if b then x else y)
  either d true x y h k = h refl
  either d false x y h k = k refl

  turn_good : (first : Bool) (sc : Scope) (s : KNode) (k : KLoop) (b : KBlock) (c : Counter) (body : Body) (w : World)
      → out-KStmt s.stmt ≡ KStmt-F.Loop k b → Known K proper (AStatement sc s)
      → turns_int first k c → AllTyped K proper w → Good (AStatement sc s) (turn_of s k b c body w)
  turn_good first sc s (turns.Times slot limit) b (Turns j) body w e n h y = either (AStatement sc s) (j == limit) _ _ (λ q. record { suits = tt; typed = y }) (λ q. on_good sc s (Turns (j + 1)) (Begin b) w tt y)
  turn_good first sc s (turns.Range i next end open_a a z open_b) b (Upward v last) body w e n h y =
      either (AStatement sc s) (int_lt last v) _ _ (λ q. past_good sc s _ (forget_loop_typed K proper body s.stmt w y))
      (λ q. on_good sc s (Upward (v +ℤ pos 1) last) (Begin b) (set body i (Holds v) w) tt (put_typed K proper body i (Holds v) w (ap (λ o. cell_typed o (Holds v)) kind ∙ begun_int first v last h q) y))
    where
      kind : kind_at i (rows K) ≡ Some IsLoopVariable
      kind = (turn_known K proper sc s (turns.Range i next end open_a a z open_b) b e n).1 i IsLoopVariable (ap (λ t. if t then Some IsLoopVariable else find i sc.seen) (eq-eqb i i refl))
  turn_good first sc s turns.Free b c body w e n h y = on_good sc s c (Begin b) w tt y
  turn_good first sc s (turns.Times slot limit) b Free body w e n h y = on_good sc s Free (Begin b) w tt y
  turn_good first sc s (turns.Times slot limit) b (Upward v last) body w e n h y = on_good sc s (Upward v last) (Begin b) w tt y
  turn_good first sc s (turns.Range i next end open_a a z open_b) b Free body w e n h y = on_good sc s Free (Begin b) w tt y
  turn_good first sc s (turns.Range i next end open_a a z open_b) b (Turns j) body w e n h y = on_good sc s (Turns j) (Begin b) w tt y

  -- ---- par

  rejoined_good : (sc : Scope) (s : KNode) (k : ParKind) (bs : Branches) (body : Body) (w : World) → each_ready K bs
      → Gone K proper (aborted (Par s bs) body) → AllTyped K proper w
      → Good (AStatement sc s) (rejoined k s bs body w)
  unfolding tree_ready
  rejoined_good sc s par.Never bs body w r g y = record { suits = r; typed = y }
  rejoined_good sc s par.Or bs body w r g y = past_good sc s _ (g w y)
  rejoined_good sc s par.And bs body w r g y = either (AStatement sc s) (all_over bs) _ _ (λ q. past_good sc s w y) (λ q. record { suits = r; typed = y })

  -- ---- one frame

  module _ (n : ℕ) (body : Body) (f : Focus Act) (w : World) (y : AllTyped K proper w) where
    through_good : {d e : Part} (fr : Frame) (x : Outcome) → FrameFits K (suc n) fr d e → Sound K proper d → Known K proper d → Inside d
        → Comes K n e x → Suits e x → frame_ready K fr
        → frame_int (at_loop is_first f) fr → Gone K proper (aborted (plug f Over) (body_in fr body)) → Good d (through body fr f x w)
    unfolding frames_ready tree_ready
    through_good fr (Goes g) a h k i c s r t q = record { suits = ((r, s.0), s.1); typed = y }
    through_good fr (Rests p) a h k i c s r t q = record { suits = filled K fr p r s; typed = y }
    through_good fr (Raises p) a h k i c s r t q = record { suits = filled K fr p r s; typed = y }
    through_good fr (Fails z p) a h k i c s r t q = record { suits = tt; typed = y }
    through_good (OfBlock b fin all rest) Past (around_statement {turn = turn} {sc = sc} done e z fit) h k i c s r t q = goes_good turn sc b fin all rest w r y
    through_good (OfBlock b fin all rest) (Registers p) (around_statement {turn = turn} {sc = sc} done e z fit) h k i c s r t q = goes_good turn sc b (p ∷ fin) all rest _ r y
    through_good (OfBlock b fin all rest) AtBlockEnd (around_end {turn = turn} {sc = sc} z fit) h k i c s r t q =
        record { suits = inl refl; typed = closed_typed K proper turn b fin body fit k (registered_fine K proper 0 sc b fin (out-KBlock b).list [] h (sym (append-nil (out-KBlock b).list)) z) w y }
    through_good (OfBlock b fin all rest) (Leaves node x) (around_statement {turn = turn} {sc = sc} {s = p} done e z fit) h k i c s r t q =
        body_good (node == (out-KBlock b).node) turn sc b fin all f body node x w refl c s
        (λ u v. closed_typed K proper turn b fin body fit k (registered_fine K proper 0 sc b fin done (p ∷ rest) h e z) (aborted (plug f Over) body u) (q u v)) y
    through_good (OfOpen p) (Ends v) (around_part {sc = sc} b o) h k i c s r t q =
        past_good sc p _ (targets_typed K proper sc (target p) v body w k.1 (target_fine sc p h)
        (end_zero K (part_scope K sc p.node (out-KStmt p.stmt)) b v (target p) (below_aimed (out-KBlock b).node (part_scope K sc p.node (out-KStmt p.stmt)).aims (part_low K proper sc p (out-KStmt p.stmt) b i.ground refl o i.on i.low)) s) y)
    through_good (OfOpen p) (Leaves node x) (around_part {sc = sc} b o) h k i c s r t q = open_good (node == p.node) sc p b f body node x w refl o h k.1 s q y
    through_good (OfLoop p j) AtLoopHead (around_turn {sc = sc} l b e o) h k i c s r t q =
        subst (λ m. Good (AStatement sc p) (next_turn p m j body w)) (sym e) (turn_good (at_loop is_first f) sc p l b j body w e k (subst (λ m. layer_int (at_loop is_first f) m j) e t) y)
    through_good (OfLoop p j) (Ends v) (around_turn {sc = sc} l b e o) h k i c s r t q = on_good sc p j Again w tt y
    through_good (OfLoop p j) (Leaves node x) (around_turn {sc = sc} l b e o) h k i c s r t q = loop_good (node == p.node) sc p j l f body node x w s q y
    through_good (OfCall p) (Ends v) (around_call {sc = sc} m es g u l e o) h k i c s r t q =
        past_good sc p _ (targets_typed K proper sc (target p) v body (returned body p w) k.1 (target_fine sc p h)
        (subst (λ z. takes_value (target_of z) v) (sym e) (layer_hands K sc p (KStmt-F.AwaitCode m es g u) e h l o v (end_result K m l v s))) (forget_body_typed K proper (Awaited body p.node) w y))
    through_good (OfCall p) (Leaves node x) (around_call m es g u l e o) h k i c s r t q = absurd (inside_body K proper n node (out-KBlock l.body).node (BodyAim (out-KBlock l.body).node l.result) refl c.0 c.1)
    through_good (OfPar p front back) (Ends v) (around_branch {sc = sc} l slot bs b cs e z1 z2) h k i c s r t q =
        rejoined_good sc p (kind_of (out-KStmt p.stmt)) (join front (branch Over back)) body w (joined K front (branch Over back) r.0 (tt, r.1))
        (frame_gone K proper {fr = OfPar p front back} (around_branch l slot bs b cs e z1 z2) h k Over (over_gone K proper) body) y
    through_good (OfPar p front back) (Leaves node x) (around_branch l slot bs b cs e z1 z2) h k i c s r t q = record { suits = s; typed = y }
    through_good (OfInstance b fin front seat back p rest) (Ends v) (around_instance done l e z fit z1 z2 g o) h k i c s r t q =
        record { suits = (joined_all K front back r.0 r.1, r.2); typed = dead_typed K proper seat.number w y }
    through_good (OfInstance b fin front seat back p rest) (Leaves node x) (around_instance done l e z fit z1 z2 g o) h k i c s r t q =
        absurd (inside_body K proper n node (out-KBlock l.body).node (BodyAim (out-KBlock l.body).node l.result) refl c.0 c.1)
    through_good fr x (around_statement done e z fit) h k i c s r t q = elim c [ ]
    through_good fr x (around_end z fit) h k i c s r t q = elim c [ ]
    through_good fr x (around_part b o) h k i c s r t q = elim c [ ]
    through_good fr x (around_turn l b e o) h k i c s r t q = elim c [ ]
    through_good fr x (around_call m es g u l e o) h k i c s r t q = elim c [ ]
    through_good fr x (around_branch l slot bs b cs e z1 z2) h k i c s r t q = elim c [ ]
    through_good fr x (around_instance done l e z fit z1 z2 g o) h k i c s r t q = elim c [ ]

  pub up_good : (n : ℕ) {f : Focus Act} {d e : Part} → Around K (suc n) Act f d e → Sound K proper d → Known K proper d → Inside d
      → (x : Outcome) (body : Body) (w : World)
      → Comes K n e x → Suits e x → frames_ready K f → focus_int f → AllTyped K proper w → Good d (up body f x w)
  unfolding up frames_ready focus_int
  up_good n {f = Here l} nothing_around h k i x body w c s r t y = record { suits = s; typed = y }
  up_good n {f = In fr f} (one_around {e = e} {g = g} a more) h k i x body w c s r t y =
      let m = up (body_in fr body) f x w in
      let h1 = frame_sound K proper a h in
      let k1 = frame_knows K proper a k in
      let z = up_good n more h1 k1 (frame_inside K proper a i.ground i.on i.low) x (body_in fr body) w c s r.1 t.1 y in
      through_good n body f m.world z.typed fr m.outcome a h k i (up_fits K proper n (body_in fr body) f x w e g h1 more c) z.suits r.0 t.0
      (focus_gone K proper more h1 k1 Over (over_gone K proper) (body_in fr body))
