-- Every turn of a program that breaks no rule on loops is over in the end, and so is every turn of an async.
use Rattle.std.proofs.Common.{◌≡◌, refl, sym, subst, ℕ, Bool, true, false, List, [], ◌∷◌, ◌++◌, None}
use Rattle.ceu_tree.specs.declared.kernel.Kernel.{Kernel}
use Rattle.ceu_tree.specs.declared.kernel.KLoop.{KLoop}
use Rattle.ceu_tree.specs.declared.kernel.KNode.{KNode}
use Rattle.ceu_tree.specs.declared.kernel.KBlock.{KBlock, out-KBlock}
use Rattle.ceu_tree.specs.declared.kernel.KStmt.{out-KStmt}
use Rattle.ceu_tree.specs.declared.kernel.KStmt.TheOpen.{KStmt-F}
use Rattle.ceu_tree.specs.Residual.{Body, Act, Begin, Start, Finish, AtEnd, AtHead, Again, Counter}
use Rattle.ceu_tree.specs.Focus.{Frame, OfBlock, OfInstance, OfOpen, OfLoop, OfCall, OfPar, Focus, Here, In, leaf}
use Rattle.ceu_tree.specs.World.{World}
use Rattle.ceu_tree.specs.Leaf.{Layer}
use Rattle.ceu_tree.specs.Around.{next_turn}
use Rattle.ceu_tree.specs.Paths.{passes_from}
use Rattle.ceu_tree.specs.Proper.{Scope, is_proper}
use Rattle.ceu_tree.specs.Run.{Turning, steps, serve}
use Rattle.laws_meaning_basics.specs.Shape.{Part, ABlock, AStatement, FrameFits, around_statement, around_end, around_instance, around_part, around_turn, around_call, around_branch, Around, nothing_around, one_around, ActFits, begins, heads, goes_again, starts, finishes, ends, ConfigFits}
use Rattle.laws_meaning_basics.proofs.Static.{names_of}
use Rattle.laws_meaning_basics.proofs.UpFits.{Sound, frame_sound}
use Rattle.laws_meaning_basics.proofs.RunFits.{root_sound}
use Rattle.ceu_endings.specs.Counted.{layer_counted, frame_counted, focus_counted, Counted}
use Rattle.ceu_endings.specs.Laws.{is_turning}
use Rattle.laws_bounds_steps.specs.Pays.{LoopKeeps}
use Rattle.laws_bounds_steps.specs.Kept.{starts_kept, block_kept, RulesKept}
use Rattle.laws_bounds_steps.proofs.Places.{PlaceKeeps}
use Rattle.laws_bounds_steps.proofs.Places as places
use Rattle.laws_bounds_turns.specs.TurnsLaws.{CodesLeave, is_finished}
use Rattle.laws_bounds_turns.proofs.Halting.{Halts, halts_more}
use Rattle.laws_bounds_turns.proofs.Parts.{any, EachHalts}
use Rattle.laws_bounds_turns.proofs.Started.{BlockHalts, CodeHalts, StmtHalts, turn_of_loop}
use Rattle.laws_bounds_turns.proofs.Statements.{block_each, block_halts, stmt_halts}
use Rattle.laws_bounds_turns.proofs.Codes.{code_halts}
use Rattle.laws_bounds_turns.proofs.MidTurn.{Comes_any, ActReady, FrameReady, FocusReady, focus_halts, counted_head, quiet_head}
use Rattle.laws_bounds_turns.proofs.Over.{turn_over, serve_over}

-- ---- in a program that breaks no rule on loops

module _ (K : Kernel) (n : ℕ) (proper : is_proper K ≡ true) (leave : CodesLeave K) (kept : RulesKept K) where
  codes_halt : (c : ℕ) → CodeHalts K n false c
  codes_halt = code_halts K n false proper (λ e. leave) (λ e. kept)

  block_at : (sc : Scope) (b : KBlock) (turn : Bool) → Sound K proper (ABlock turn sc b) → block_kept (passes_from [] K.codes) b → BlockHalts K n false b
  block_at sc b turn h k = block_halts K n false true (names_of K) sc.code (λ e. leave) (λ e. refl) (λ c a. codes_halt c) b (λ e. record { scope = sc; body = refl; holds = h }) (λ e. k)

  each_at : (sc : Scope) (b : KBlock) (turn : Bool) → Sound K proper (ABlock turn sc b) → block_kept (passes_from [] K.codes) b → EachHalts K n false (passes_from [] K.codes) (out-KBlock b).list
  each_at sc b turn h k = block_each K n false true (names_of K) sc.code (λ e. leave) (λ e. refl) (λ c a. codes_halt c) b (λ e. record { scope = sc; body = refl; holds = h }) (λ e. k)

  each_rest : (before : List KNode) (s : KNode) (rest : List KNode) → EachHalts K n false (passes_from [] K.codes) (before ++ s ∷ rest) → EachHalts K n false (passes_from [] K.codes) rest
  each_rest [] s rest h = h.1
  each_rest (x ∷ before) s rest h = each_rest before s rest h.1

  stmt_at : (sc : Scope) (s : KNode) → Sound K proper (AStatement sc s) → PlaceKeeps (passes_from [] K.codes) (AStatement sc s) → Halts K n false any (Here (Start s))
  stmt_at sc s h k = halts_more K n false _ any (Here (Start s)) (λ w i. tt)
      (stmt_halts K n false true (names_of K) sc.code (λ e. leave) (λ e. refl) (λ c a. codes_halt c) s (λ e. record { scope = sc; body = refl; holds = h }) (λ e. k))

  loop_at : (s : KNode) (c : Counter) (k : KLoop) (b : KBlock) → out-KStmt s.stmt ≡ KStmt-F.Loop k b → starts_kept (passes_from [] K.codes) s.node (out-KStmt s.stmt) → LoopKeeps (passes_from [] K.codes) s.node k b
  loop_at s c k b q h = subst (starts_kept (passes_from [] K.codes) s.node) q h

  frame_at : {t : ℕ} {fr : Frame} {d e : Part} → FrameFits K t fr d e → Sound K proper d → PlaceKeeps (passes_from [] K.codes) d → Sound K proper e → PlaceKeeps (passes_from [] K.codes) e → frame_counted fr → FrameReady K n false fr
  frame_at (around_statement {turn = turn} {sc = sc} {b = b} {rest = rest} {s = s} done q z i) h k m j c = each_rest done s rest (subst (EachHalts K n false (passes_from [] K.codes)) q (each_at sc b turn h k))
  frame_at (around_end z i) h k m j c = tt
  frame_at (around_instance done l q z i x y p o) h k m j c = tt
  frame_at (around_part b o) h k m j c = tt
  frame_at (around_turn {sc = sc} {s = s} {c = c} l b q o) h k m j x = λ body u.
      subst (λ y. Comes_any K n false (next_turn s y c body u)) (sym q)
      (counted_head K n false s b l q c (turn_of_loop K n false s l b (λ e. loop_at s c l b q k.0) (block_at _ b true m j)) o (subst (λ y. layer_counted y c) q x) body u)
  frame_at (around_call l es g t r q o) h k m j c = tt
  frame_at (around_branch l slot bs b cs q x y) h k m j c = tt

  act_at : {d : Part} {a : Act} → ActFits d a → Sound K proper d → PlaceKeeps (passes_from [] K.codes) d → ActReady K n false a
  act_at (begins {turn = turn} {sc = sc} {b = b}) h k = block_at sc b turn h k
  act_at heads h k = tt
  act_at goes_again h k = tt
  act_at (starts {sc = sc} {s = s}) h k = stmt_at sc s h k
  act_at (finishes p) h k = tt
  act_at ends h k = tt

  focus_at : {t : ℕ} (f : Focus Act) {d e : Part} → Around K t Act f d e → ActFits e (leaf f) → Sound K proper d → PlaceKeeps (passes_from [] K.codes) d → focus_counted f → FocusReady K n false f
  unfolding focus_counted
  focus_at (Here a) nothing_around p h k c = act_at p h k
  focus_at (In fr f) (one_around x more) p h k c =
      let m = frame_sound K proper x h in
      let j = (places.focus_at K kept (In fr (Here AtEnd)) (one_around x nothing_around) k).1 in
      (frame_at x h k m j c.0, focus_at f more p m j c.1)

pub turn_ends : (K : Kernel) (n : ℕ) (f : Focus Act) (w : World) → RulesKept K → CodesLeave K → ConfigFits K (Turning n f w) → Counted (Turning n f w) → (count : ℕ) × (is_turning (steps K count (Turning n f w)) ≡ false)
turn_ends K n f w kept leave t c = turn_over K n f w (focus_halts K n false f (focus_at K n kept.proper leave kept f t.around t.acts (root_sound K kept.proper) kept.body c))

-- ---- in an async

module _ (K : Kernel) (proper : is_proper K ≡ true) where
  quiet_codes : (c : ℕ) → CodeHalts K 0 true c
  quiet_codes = code_halts K 0 true proper (λ e. absurd (cc)) (λ e. absurd (cc))

  quiet_block : (b : KBlock) → BlockHalts K 0 true b
  quiet_block b = block_halts K 0 true false (names_of K) None (λ e. absurd (cc)) (λ e. absurd (cc)) (λ c a. quiet_codes c) b (λ e. absurd (cc)) (λ e. absurd (cc))

  quiet_stmt : (s : KNode) → StmtHalts K 0 true s
  quiet_stmt s = stmt_halts K 0 true false (names_of K) None (λ e. absurd (cc)) (λ e. absurd (cc)) (λ c a. quiet_codes c) s (λ e. absurd (cc)) (λ e. absurd (cc))

  quiet_each : (list : List KNode) → EachHalts K 0 true (passes_from [] K.codes) list
  quiet_each [] = tt
  quiet_each (s ∷ ss) = (quiet_stmt s, quiet_each ss)

  quiet_turn : (s : KNode) (c : Counter) (layer : Layer) → out-KStmt s.stmt ≡ layer → (body : Body) (u : World) → Comes_any K 0 true (next_turn s layer c body u)
  quiet_turn s c (KStmt-F.Loop k b) q body u = quiet_head K 0 true s b refl k q c (turn_of_loop K 0 true s k b (λ e. absurd (cc)) (quiet_block b)) body u
  quiet_turn s c layer q body u = tt

  quiet_frame : (fr : Frame) → FrameReady K 0 true fr
  quiet_frame (OfBlock b fin all rest) = quiet_each rest
  quiet_frame (OfLoop s c) = quiet_turn s c (out-KStmt s.stmt) refl
  quiet_frame (OfInstance b fin front seat back r rest) = tt
  quiet_frame (OfOpen s) = tt
  quiet_frame (OfCall s) = tt
  quiet_frame (OfPar s front back) = tt

  quiet_act : (a : Act) → ActReady K 0 true a
  quiet_act (Begin b) = quiet_block b
  quiet_act (Start s) = halts_more K 0 true _ any (Here (Start s)) (λ w i. tt) (quiet_stmt s)
  quiet_act (Finish s v) = tt
  quiet_act AtEnd = tt
  quiet_act AtHead = tt
  quiet_act Again = tt

  quiet_focus : (f : Focus Act) → FocusReady K 0 true f
  quiet_focus (Here a) = quiet_act a
  quiet_focus (In fr f) = (quiet_frame fr, quiet_focus f)

pub serving_ends : (K : Kernel) (root : Body) (f : Focus Act) (w : World) → is_proper K ≡ true → (count : ℕ) × (is_finished (serve K count root f w) ≡ true)
serving_ends K root f w proper = serve_over K root f w (focus_halts K 0 true f (quiet_focus K proper f))
