-- The value of an escape: its lines, and how it comes to lie in the header.
use Rattle.std.proofs.Common.{◌≡◌, ◌≢◌, refl, ap, ◌∙◌, subst, ◌<◌, ℕ, ◌+◌, ℤ, Bool, true, List, [], ◌∷◌, ◌++◌, Some, arith}
use Rattle.std.specs.Prelude.{◌&&◌, not}
use Rattle.std.proofs.lemmas.Bool.{and_parts, le-leb, false≢true}
use Rattle.ceu_base.specs.declared.kinds.Pos.{Pos}
use Rattle.ceu_base.specs.declared.kinds.Ty.{Ty}
use Rattle.ceu_base.specs.declared.kinds.Ty.TheVariants as ty
use Rattle.ceu_code.specs.declared.image.Image.{Image}
use Rattle.ceu_code.specs.declared.instr.Instr.TheVariants as instr
use Rattle.ceu_code.specs.Instructions.{cell}
use Rattle.ceu_asm.specs.Lines.{code_size}
use Rattle.ceu_isa.specs.Layout.{cell_at, scratch_at, with_scratch}
use Rattle.ceu_isa.specs.Fetching.{fetched}
use Rattle.ceu_isa.specs.Effects as isa
use Rattle.ceu_isa.specs.Effects.{provided}
use Rattle.ceu_isa.specs.Rows.{effect}
use Rattle.ceu_isa.specs.Turns.{Machine, Trail, rewritten}
use Rattle.laws_machine_code.specs.Placed.{Placed}
use Rattle.laws_machine_code.proofs.Lines.{parts_are_placed}
use Rattle.ceu_mem.specs.Bytes.{number_at}
use Rattle.ceu_mem.proofs.Views.{number_written}
use Rattle.ceu_tree.specs.declared.kernel.Kernel.{Kernel}
use Rattle.ceu_tree.specs.declared.kernel.KExp.{KExp}
use Rattle.ceu_tree.specs.declared.kernel.KStmt as kernel
use Rattle.ceu_tree.specs.declared.kernel.KStmt.{out-KStmt}
use Rattle.ceu_tree.specs.Depth.{stmt_depth, exp_depth}
use Rattle.ceu_tree.specs.Expressions.{Answer, value_of}
use Rattle.ceu_tree.specs.Leaf as does
use Rattle.ceu_tree.specs.Leaf.{Escape, acted, or_fails}
use Rattle.ceu_tree.specs.Proper.{Scope, reads, asks, gives, gives_if}
use Rattle.ceu_tree.specs.Residual.{Program, Start}
use Rattle.ceu_tree.specs.Typing.{same_ty, typed, holds_all}
use Rattle.ceu_tree.specs.World.{World}
use Rattle.ceu_shape.specs.Plans.{Plan, own_label, end_label}
use Rattle.ceu_shape.specs.Flow.{keep}
use Rattle.ceu_shape.specs.Searches.{escape_target}
use Rattle.ceu_shape.specs.Words.{mark, goto}
use Rattle.ceu_shape.specs.Shape.{parts_draft, exp_part}
use Rattle.laws_meaning_values.specs.Ready.{layer_has, exp_has}
use Rattle.laws_machine_layout.proofs.Gates.{cell_small}
use Rattle.laws_machine_code.specs.Seen.{NodePlaced}
use Rattle.ceu_trail.specs.Built.{at_label, number, StatementBuilt}
use Rattle.ceu_trail.specs.Turning.{MemoryHolds}
use Rattle.ceu_steps.specs.Running.{Runs, Unseen, trail_at}
use Rattle.ceu_steps.specs.Ready.{longest, Brings}
use Rattle.ceu_steps.specs.Premises.{LayerPlaced}
use Rattle.ceu_steps.proofs.Lines.{line_runs}
use Rattle.ceu_steps.proofs.Ticks.{onward}
use Rattle.ceu_steps.proofs.Unseen.{unseen_then, scratch_unseen}
use Rattle.ceu_escapes.specs.Laws.{valued}
use denote.Hole.Carrier

-- ---- the value goes to the header

set_effect : (image : Image) (at : ℕ) (bytes : List ℕ) → 0 < image.depth → effect image instr.SetValue (trail_at image at 1) bytes ≡ isa.Goes (trail_at image at 0) (with_scratch (number_at 8 bytes (cell_at 0)) bytes) []
unfolding effect
set_effect image at bytes lt = ap (λ (b : Bool). provided b (isa.Goes (trail_at image at 0) (with_scratch (number_at 8 bytes (cell_at 0)) bytes) [])) (le-leb 1 image.depth (omega arith))

-- with the value in the header, behind the line that sets it
pub record Sets (image : Image) (m : Machine) (at : ℕ) (v : ℤ) : Type 0 where
  pub after : List ℕ
  pub runs : Runs image (longest + 1) (Trail (trail_at image at 0) m) (Trail (trail_at image (at + 3 + 1) 0) (rewritten after m))
  pub unseen : Unseen image m.bytes after
  pub holds : number_at 8 after scratch_at ≡ cell v

pub value_set : (image : Image) (P : Plan) (width : ℕ → ℕ) (K : Kernel) (at : ℕ) (v : ℤ) (w : World) (m : Machine) → MemoryHolds image P width K w m.bytes → 0 < image.depth → fetched image (at + 3) ≡ Some instr.SetValue → Brings image m at v → Sets image m at v
value_set image P width K at v w m holds lt f y =
    let small = cell_small v in
    record {
      after = with_scratch (number_at 8 y.after (cell_at 0)) y.after;
      runs = onward y.runs (line_runs {m = rewritten y.after m} instr.SetValue (trail_at image (at + 3 + 1) 0) (with_scratch (number_at 8 y.after (cell_at 0)) y.after) f (set_effect image (at + 3 + 1) y.after lt));
      unseen = unseen_then image m.bytes y.after (with_scratch (number_at 8 y.after (cell_at 0)) y.after) y.unseen (scratch_unseen image (number_at 8 y.after (cell_at 0)) y.after y.unseen.are_bytes);
      holds = number_written 8 (number_at 8 y.after (cell_at 0)) y.after scratch_at (omega (arith, y.holds, small)) (omega (arith, y.unseen.size, holds.fits.size)) ∙ y.holds;
    }

-- a value that a typed target takes has a type
pub some_value : (t u : Ty) → not (same_ty t ty.None) ≡ true → holds_all t u ≡ true → u ≢ ty.None
some_value t u h k q = go t h (subst (λ (x : Ty). holds_all t x ≡ true) q k)
  where
    go : (t : Ty) → not (same_ty t ty.None) ≡ true → holds_all t ty.None ≡ true → ⊥
    go ty.None h k = absurd (false≢true h)
    go t h k = absurd (false≢true k)

-- what it means that a value may be given
pub record Given (K : Kernel) (from : Scope) (t : Ty) (e : KExp) : Type 0 where
  pub some : not (same_ty t ty.None) ≡ true
  pub is_typed : typed (reads K from) (asks K from) e ≡ true
  pub wide : holds_all t e.ty ≡ true
  pub gives_it : gives K from t e ≡ true

pub given_parts : (K : Kernel) (from : Scope) (t : Ty) (e : KExp) → gives_if K from t (Some e) ≡ true → Given K from t e
given_parts K from t e h =
    let a = and_parts (not (same_ty t ty.None)) (gives K from t e) h in
    let b = and_parts (typed (reads K from) (asks K from) e) (holds_all t e.ty) (and_parts (typed (reads K from) (asks K from) e && holds_all t e.ty) _ a.1).0 in
    record { some = a.0; is_typed = b.0; wide = b.1; gives_it = a.1 }

-- ---- the statement

pub value_does : (K : Kernel) (n : ℕ) (p : Pos) (left : ℕ) (e : KExp) (w : World) (a : Answer) → value_of e Program w ≡ a → acted K 0 Program (Start (valued n p left e)) w ≡ or_fails a w (λ v. does.done (does.Leaves left (Escape v)) w)
unfolding out-KStmt Carrier.out
value_does K n p left e w a q = ap (λ (x : Answer). or_fails x w (λ v. does.done (does.Leaves left (Escape v)) w)) q

pub value_has : (left : ℕ) (e : KExp) (w : World) → layer_has Program w (out-KStmt (kernel.Escape left (Some e))) ≡ true → exp_has Program w e ≡ true
unfolding out-KStmt Carrier.out
value_has left e w h = h

pub value_deep : (left : ℕ) (e : KExp) → stmt_depth (kernel.Escape left (Some e)) ≡ exp_depth e
unfolding stmt_depth
value_deep left e = refl

module _ (image : Image) (P : Plan) (K : Kernel) where
  pub value_placed : (p : Pos) (left : ℕ) (e : KExp) → LayerPlaced image (number image P K) p (out-KStmt (kernel.Escape left (Some e))) → NodePlaced image (number image P K) e.node e.pos
  unfolding out-KStmt Carrier.out
  value_placed p left e h = h

  -- its lines
  pub record ValueLines (n left : ℕ) (e : KExp) : Type 0 where
    pub fresh : ℕ
    pub goes : fetched image (at_label image P K (own_label n)) ≡ Some (instr.Jump (at_label image P K fresh))
    pub back : at_label image P K (fresh + 1) ≡ at_label image P K (own_label n) + 3
    pub sets : fetched image (at_label image P K (own_label n) + 3) ≡ Some instr.SetValue
    pub aborts : fetched image (at_label image P K (own_label n) + 3 + 1) ≡ Some (instr.AbortGates (P.first left) (P.count left))
    pub kept : Placed image (at_label image P K) (at_label image P K (own_label n) + 3 + 1 + 5) (keep P.offset e.ty (escape_target K left) ++ goto (end_label left) ∷ [])
    pub begins : ℕ
    pub part : Placed image (at_label image P K) begins ((exp_part P K fresh e (fresh + 2)).lines (number image P K))

  pub value_lines : (n : ℕ) (p : Pos) (left : ℕ) (e : KExp) → StatementBuilt image P K (valued n p left e) → ValueLines n left e
  unfolding parts_draft
  value_lines n p left e built =
      let q = parts_are_placed image (at_label image P K) (at_label image P K (own_label n) + 3 + 1 + 5) ((keep P.offset e.ty (escape_target K left) ++ goto (end_label left) ∷ []) ++ ((exp_part P K built.fresh e (built.fresh + 2)).lines (number image P K) ++ mark (end_label n) ∷ [])) [] built.lines.1.1.1.1.1 in
      let r = parts_are_placed image (at_label image P K) (at_label image P K (own_label n) + 3 + 1 + 5) (keep P.offset e.ty (escape_target K left) ++ goto (end_label left) ∷ []) ((exp_part P K built.fresh e (built.fresh + 2)).lines (number image P K) ++ mark (end_label n) ∷ []) q.0 in
      let y = parts_are_placed image (at_label image P K) (at_label image P K (own_label n) + 3 + 1 + 5 + code_size (keep P.offset e.ty (escape_target K left) ++ goto (end_label left) ∷ [])) ((exp_part P K built.fresh e (built.fresh + 2)).lines (number image P K)) (mark (end_label n) ∷ []) r.1 in
      record {
        fresh = built.fresh;
        goes = built.lines.1.0;
        back = built.lines.1.1.0;
        sets = built.lines.1.1.1.0;
        aborts = built.lines.1.1.1.1.0;
        kept = r.0;
        begins = at_label image P K (own_label n) + 3 + 1 + 5 + code_size (keep P.offset e.ty (escape_target K left) ++ goto (end_label left) ∷ []);
        part = y.0;
      }
