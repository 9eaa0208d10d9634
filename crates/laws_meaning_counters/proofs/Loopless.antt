-- Where no loop of a kernel counts in a slot, none that is open does.
use Rattle.std.proofs.Common.{◌≡◌, refl, sym, subst, ◌≤◌, ℕ, Bool, true, false, List, ◌∷◌, ◌++◌, Option, Some, arith, eqb-true, eq-eqb}
use Rattle.std.proofs.lemmas.Bool.{and_parts, false≢true}
use Rattle.ceu_tree.specs.declared.kernel.Kernel.{Kernel}
use Rattle.ceu_tree.specs.declared.kernel.KCode.{KCode}
use Rattle.ceu_tree.specs.declared.kernel.KLoop.{KLoop}
use Rattle.ceu_tree.specs.declared.kernel.KLoop.TheVariants as turns
use Rattle.ceu_tree.specs.declared.kernel.ParKind.{ParKind}
use Rattle.ceu_tree.specs.declared.kernel.KNode.{KNode}
use Rattle.ceu_tree.specs.declared.kernel.KBlock.{KBlock}
use Rattle.ceu_tree.specs.declared.kernel.KStmt.{out-KStmt}
use Rattle.ceu_tree.specs.declared.kernel.KStmt.TheOpen.{KStmt-F}
use Rattle.ceu_tree.specs.Residual.{Body, Program, Awaited, Spawned, Act, Counter, Residual, Branches, Instances}
use Rattle.ceu_tree.specs.Focus.{Frame, Focus, Here, In, body_in}
use Rattle.ceu_tree.specs.World.{Cell}
use Rattle.ceu_tree.specs.Leaf.{code_at}
use Rattle.ceu_tree.specs.Proper.{Scope}
use Rattle.ceu_tree.specs.Run.{Config, Turning, Between, Waiting, Ended, Faulted}
use Rattle.laws_meaning_basics.specs.Shape.{Part, ABlock, AStatement, AnEnd, program_part, Fits, to_begin, to_turn, in_list, to_finish, at_input, at_time, at_event, at_forever, at_async, in_part, in_turn, in_call, in_par, EachFits, no_more, an_ended, a_branch, AllFit, none_lives, one_lives, FrameFits, around_statement, around_end, around_instance, around_part, around_turn, around_call, around_branch, Around, nothing_around, one_around, ConfigFits}
use Rattle.laws_meaning_instances.proofs.Living.{often, once_true}
use Rattle.laws_meaning_counters.specs.Counters.{counts_in, loop_stands, loops_stand, each_loops_stand, all_loops_stand, frame_loops_stand, is_first, at_loop, focus_loops_stand}
use Rattle.laws_meaning_counters.proofs.Cells.{cell_in}
use Rattle.laws_meaning_counters.proofs.Marks.{turn_slots, stmt_marks, block_marks, kernel_marks, blocks_marks_all, list_none, layer_none, part_none, each_none, code_none}

-- what holds of one slot of one open body in a configuration
abbrev pub ConfigStands : Body → ℕ → Config → Type 0
ConfigStands b x (Turning n f w) = focus_loops_stand b x (cell_in b x w) is_first Program f
ConfigStands b x (Between n r w) = loops_stand b x (cell_in b x w) Program r
ConfigStands b x (Waiting r w) = loops_stand b x (cell_in b x w) Program r
ConfigStands b x (Ended v w) = Unit {0}
ConfigStands b x (Faulted e w) = Unit {0}

module _ (K : Kernel) (b : Body) (x : ℕ) (bare : kernel_marks false x K ≡ 0) where
  abbrev Bare : Part → Type 0
  Bare (ABlock turn sc c) = block_marks false x c ≡ 0
  Bare (AStatement sc s) = stmt_marks false x s.stmt ≡ 0
  Bare AnEnd = Unit {0}

  counted : (k : KLoop) → counts_in x k ≡ true → 1 ≤ often x (turn_slots k)
  counted turns.Free e = absurd (false≢true e)
  counted (turns.Times slot n) e = let o = once_true x slot (eq-eqb x slot (sym (eqb-true slot x e))) in omega (arith, o)
  counted (turns.Range i next end open_a y z open_b) e = let o = once_true x i (eq-eqb x i (sym (eqb-true i x e))) in omega (arith, o)

  bare_loop : (cell : Option Cell) (t : Bool) (here : Body) (k : KLoop) (c : KBlock) (j : Counter) → often x (turn_slots k) ≡ 0 → loop_stands b x cell t here (KStmt-F.Loop k c) j
  bare_loop cell true here k c j h = λ e. absurd (let o = counted k (and_parts _ (counts_in x k) e).1 in omega (arith, o, h))
  bare_loop cell false here k c j h = λ e. absurd (let o = counted k (and_parts _ (counts_in x k) e).1 in omega (arith, o, h))

  bare_layer : (cell : Option Cell) (t : Bool) (here : Body) (s : KNode) (k : KLoop) (c : KBlock) (j : Counter) → out-KStmt s.stmt ≡ KStmt-F.Loop k c → stmt_marks false x s.stmt ≡ 0 → loop_stands b x cell t here (out-KStmt s.stmt) j
  bare_layer cell t here s k c j e h = subst (λ l. loop_stands b x cell t here l j) (sym e) (bare_loop cell t here k c j (let m = layer_none false x s (KStmt-F.Loop k c) e h in omega (arith, m)))

  bare_code : (c : ℕ) (k : KCode) → code_at c K.codes ≡ Some k → block_marks false x k.body ≡ 0
  bare_code c k e = (code_none false x c K.codes k e (omega (arith, bare))).1

  frame_bare : {t : ℕ} {fr : Frame} {d e : Part} → FrameFits K t fr d e → Bare d → Bare e
  frame_bare (around_statement {b = c} {rest = rest} {s = s} done e f all) h = list_none false x c done s rest e h
  frame_bare (around_end f all) h = tt
  frame_bare (around_instance {seat = seat} done k e f r before after p c) h = bare_code seat.code k c
  frame_bare (around_part {s = s} c o) h = part_none false x (out-KStmt s.stmt) c o (layer_none false x s (out-KStmt s.stmt) refl h)
  frame_bare (around_turn {s = s} k c e q) h = let m = layer_none false x s (KStmt-F.Loop k c) e h in omega (arith, m)
  frame_bare (around_call c es f t k e g) h = bare_code c k g
  frame_bare (around_branch {s = s} k slot bs c cs e y z) h = (each_none false x bs c cs (layer_none false x s (KStmt-F.Par k slot (bs ++ c ∷ cs)) e h)).1

  module _ (cell : Option Cell) where
    mutual
      unfolding loops_stand

      fits_bare : {t : ℕ} {d : Part} {r : Residual} → Fits K t d r → Bare d → (here : Body) → loops_stand b x cell here r
      fits_bare (to_begin l) h here = tt
      fits_bare (to_turn l p) h here = tt
      fits_bare (in_list {b = c} {rest = rest} {s = s} done e f fit more) h here = (all_bare fit, fits_bare more (list_none false x c done s rest e h) here)
      fits_bare (to_finish l p) h here = tt
      fits_bare (at_input q e) h here = tt
      fits_bare (at_time q u y e) h here = tt
      fits_bare (at_event q e) h here = tt
      fits_bare (at_forever e) h here = tt
      fits_bare (at_async {s = s} c e more) h here = fits_bare more (layer_none false x s (KStmt-F.Async c) e h) here
      fits_bare (in_part {s = s} c o more) h here = fits_bare more (part_none false x (out-KStmt s.stmt) c o (layer_none false x s (out-KStmt s.stmt) refl h)) here
      fits_bare (in_turn {s = s} {c = j} k c e q more) h here = (bare_layer cell false here s k c j e h, fits_bare more (let m = layer_none false x s (KStmt-F.Loop k c) e h in omega (arith, m)) here)
      fits_bare (in_call {s = s} c es f y k e q more) h here = fits_bare more (bare_code c k q) (Awaited here s.node)
      fits_bare (in_par {s = s} k slot bs e q more) h here = each_bare more (layer_none false x s (KStmt-F.Par k slot bs) e h) here

      each_bare : {t : ℕ} {sc : Scope} {k : ParKind} {bs : List KBlock} {rs : Branches} → EachFits K t sc k bs rs → blocks_marks_all false x bs ≡ 0 → (here : Body) → each_loops_stand b x cell here rs
      each_bare no_more h here = tt
      each_bare (an_ended m rest) h here = (tt, each_bare rest (omega (arith, h)) here)
      each_bare (a_branch fit rest) h here = (fits_bare fit (omega (arith, h)) here, each_bare rest (omega (arith, h)) here)

      all_bare : {t : ℕ} {sc : Scope} {all : Instances} → AllFit K t sc all → all_loops_stand b x cell all
      all_bare none_lives = tt
      all_bare (one_lives {seat = seat} k p e fit rest) = (fits_bare fit (bare_code seat.code k e) (Spawned seat.number), all_bare rest)

    frame_stands : {t : ℕ} {fr : Frame} {d e : Part} → FrameFits K t fr d e → Bare d → (first : Bool) (here : Body) → frame_loops_stand b x cell first here fr
    frame_stands (around_statement done e f all) h first here = all_bare all
    frame_stands (around_end f all) h first here = all_bare all
    frame_stands (around_instance {b = c} {rest = rest} {s = s} done k e f fit front back p q) h first here = (all_bare front, all_bare back, fits_bare fit (list_none false x c done s rest e h) here)
    frame_stands (around_part c o) h first here = tt
    frame_stands (around_turn {s = s} {c = j} k c e q) h first here = bare_layer cell first here s k c j e h
    frame_stands (around_call c es f t k e g) h first here = tt
    frame_stands (around_branch {s = s} k slot bs c cs e y z) h first here =
        let m = each_none false x bs c cs (layer_none false x s (KStmt-F.Par k slot (bs ++ c ∷ cs)) e h) in (each_bare y m.0 here, each_bare z m.2 here)

    around_bare : {t : ℕ} (f : Focus Act) (d e : Part) → Around K t Act f d e → Bare d → (here : Body) → focus_loops_stand b x cell is_first here f
    unfolding focus_loops_stand
    around_bare (Here a) d e nothing_around h here = tt
    around_bare (In fr f) d e (one_around {e = c} a more) h here = (frame_stands a h (at_loop is_first f) here, around_bare f c e more (frame_bare a h) (body_in fr here))

  pub config_bare : (c : Config) → ConfigFits K c → ConfigStands b x c
  config_bare (Turning n f w) t = around_bare (cell_in b x w) f (program_part K) t.part t.around (omega (arith, bare)) Program
  config_bare (Between n r w) t = fits_bare (cell_in b x w) t (omega (arith, bare)) Program
  config_bare (Waiting r w) t = fits_bare (cell_in b x w) t (omega (arith, bare)) Program
  config_bare (Ended v w) t = tt
  config_bare (Faulted e w) t = tt
