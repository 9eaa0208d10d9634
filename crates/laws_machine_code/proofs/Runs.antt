-- What lines that are put together do: an operator behind its operands, and the tests of `and` and `or`.
use Rattle.std.proofs.Common.{◌≡◌, ◌≢◌, refl, sym, ap, ◌∙◌, subst, inl, inr, ◌⊎◌, ◌<◌, ◌≤◌, ℕ, ◌+◌, max, ℤ, pos, Bool, true, false, List, [], ◌∷◌, ◌++◌, Option, Some, Result, Ok, Err, arith}
use Rattle.std.specs.Prelude.{slice_get, if◌then◌else◌, ◌&&◌, ◌||◌, int_le}
use Rattle.std.proofs.lemmas.Int.{ints}
use Rattle.ceu_base.specs.declared.kinds.Ty.{Ty}
use Rattle.ceu_base.specs.declared.kinds.Ty.TheVariants as ty
use Rattle.ceu_base.specs.declared.kinds.Pos.{Pos}
use Rattle.ceu_base.specs.declared.kinds.Fault.{Fault}
use Rattle.ceu_base.specs.declared.kinds.Op1.{Op1}
use Rattle.ceu_base.specs.declared.kinds.Op2.{Op2}
use Rattle.ceu_base.specs.declared.kinds.Op2.TheVariants as op2
use Rattle.ceu_base.specs.Values.{IsValue, same, of_test, wrapped, right_type, applied1, applied2}
use Rattle.ceu_code.specs.declared.image.Image.{Image}
use Rattle.ceu_code.specs.declared.instr.Instr.{Instr}
use Rattle.ceu_code.specs.declared.instr.Instr.TheVariants as instr
use Rattle.ceu_code.specs.Instructions.{cell, size}
use Rattle.ceu_asm.specs.declared.line.Line.{Line}
use Rattle.ceu_asm.specs.declared.line.Line.TheVariants.{Plain}
use Rattle.ceu_asm.specs.Lines.{code_size}
use Rattle.ceu_mem.specs.Bytes.{number_at}
use Rattle.ceu_isa.specs.declared.registers.Registers.{Registers}
use Rattle.ceu_isa.specs.Layout.{cell_at}
use Rattle.ceu_isa.specs.Fetching.{fetched}
use Rattle.ceu_isa.specs.Effects.{Goes, provided, for_some}
use Rattle.ceu_isa.specs.Cells.{Popped, popped, pushed, answered, prefixed, combined, has_values}
use Rattle.ceu_isa.specs.Rows.{effect, in_finalizers}
use Rattle.ceu_isa.specs.Safety.{Fits}
use Rattle.ceu_isa.specs.Turns.{behind}
use Rattle.laws_machine_code.specs.Placed.{Placed}
use Rattle.laws_machine_code.proofs.Lines.{parts_are_placed}
use Rattle.laws_machine_code.proofs.Decoded.{some_bytes}
use Rattle.ceu_shape.specs.Pieces.{Draft, both, text, placed}
use Rattle.ceu_shape.specs.Words.{mark, plain, goto, goto_if_false}
use Rattle.ceu_shape.specs.Expressions.{and_draft, or_draft, binary_draft}
use Rattle.ceu_tree.specs.Expressions.{Answer, at, and_then}
use Rattle.laws_meaning_values.specs.Results.{IsResult}
use Rattle.laws_meaning_values.proofs.Ranges.{within}
use Rattle.laws_meaning_values.proofs.Operators.{and_left, and_right}
use Rattle.laws_machine_code.specs.Does.{Does, stays, goes, steps_of, Kept, Pushes, Gives}
use Rattle.laws_machine_code.proofs.Steps.{does_then, steps_then, fails_then, fails_before, kept_itself, kept_then, kept_lower, fits_kept, cell_kept, pushes, pops}
use Rattle.laws_machine_code.proofs.Works.{Works, Works1, bool_some}

pub code_size-append : (a b : List Line) → code_size (a ++ b) ≡ code_size a + code_size b
code_size-append [] b = omega arith
code_size-append (l ∷ a) b = let e = code_size-append a b in omega arith

pub bool_cases : (v : ℤ) → IsValue ty.Bool v → (v ≡ pos 0) ⊎ (v ≡ pos 1)
bool_cases v h = go (int_le v (pos 0)) refl
  where
    go : (b : Bool) → int_le v (pos 0) ≡ b → (v ≡ pos 0) ⊎ (v ≡ pos 1)
    go true e = let r = within ty.Bool v h in inl (omega (arith, ints, e, r.low))
    go false e = let r = within ty.Bool v h in inr (omega (arith, ints, e, r.high))

-- goes on with what was given, or has failed
pub behind_it : (image : Image) (u : Ty) (r : Registers) (bytes : List ℕ) (mid to : ℕ) (a : Answer) (k : ℤ → Answer) → mid ≤ to → Gives image r bytes mid a → IsResult u a
    → ((x : ℤ) → IsValue u x → Pushes image r bytes mid x → Gives image r bytes to (k x)) → Gives image r bytes to (and_then a k)
behind_it image u r bytes mid to (Ok x) k le g v f = f x v g
behind_it image u r bytes mid to (Err e) k le g v f = fails_before image mid to e.0 e.1 le g

gives_at : (image : Image) (r : Registers) (bytes : List ℕ) (a : Answer) (m n : ℕ) → m ≡ n → Gives image r bytes m a → Gives image r bytes n a
gives_at image r bytes a m n e g = subst (λ (k : ℕ). Gives image r bytes k a) e g

-- an instruction that pushes a result, or faults, behind what was done before it
finish : (image : Image) (r q : Registers) (bytes there : List ℕ) (i : Instr) (p : Pos) (result : Result ℤ Fault) (does : Does image r bytes q there) → steps_of does + r.at ≤ q.at → Kept image r.depth bytes there → Fits image there → r.depth < image.depth
    → fetched image q.at ≡ Some i → in_finalizers i ≡ true → effect image i (behind i q) there ≡ answered image p result (record r { at = q.at + size i }) there → Gives image r bytes (q.at + size i) (at p result)
finish image r q bytes there i p (Ok v) does few kept fits room f m e =
    let x = pushes image (record r { at = q.at + size i }) there v fits room in
    record { after = x.after; does = does_then image does (goes i f m (e ∙ x.is) stays); few = omega (arith, few, some_bytes i, steps_then image does (goes i f m (e ∙ x.is) stays)); kept = kept_then image r.depth r.depth bytes there x.after (omega arith) kept x.kept; holds = x.holds }
finish image r q bytes there i p (Err f') does few kept fits room f m e = record { at = q; there = there; does = does; few = omega (arith, few, some_bytes i); last = i; last_is = f; last_may = m; faults = e }

-- what an operator does with what was pushed, the top cell being number d
prefix_effect : (image : Image) (op : Op1) (t a : Ty) (p : Pos) (n : ℕ) (x : ℤ) (s : Registers) (d : ℕ) (m : List ℕ) → Works1 op t a → slice_get image.places n ≡ Some p → IsValue a x → number_at 8 m (cell_at d) ≡ cell x → d < image.depth → s.depth ≡ d + 1
    → effect image (instr.Prefix op t n) s m ≡ answered image p (applied1 op t x) (record s { depth = d }) m
unfolding effect
prefix_effect image op t a p n x s d m works place v holds lt deep =
    let pop = pops image t x d s m works.some_type (subst (λ (u : Ty). IsValue u x) (sym works.same) v) holds lt deep in
    ap (λ (o : Option Pos). for_some o (λ z. for_some (popped image t s m) (λ b. prefixed image op t z b m))) place
    ∙ ap (λ (o : Option Popped). for_some o (λ b. prefixed image op t p b m)) pop
    ∙ ap (λ (b : Bool). provided b (answered image p (applied1 op t x) (record s { depth = d }) m)) works.takes

convert_effect : (image : Image) (t u : Ty) (x : ℤ) (s : Registers) (d : ℕ) (m : List ℕ) → t ≢ ty.None → has_values u ≡ true → IsValue t x → number_at 8 m (cell_at d) ≡ cell x → d < image.depth → s.depth ≡ d + 1
    → effect image (instr.Convert t u) s m ≡ pushed image (wrapped u x) (record s { depth = d }) m
unfolding effect
convert_effect image t u x s d m some has v holds lt deep =
    ap (λ (b : Bool). provided b (for_some (popped image t s m) (λ a. pushed image (wrapped u a.value) a.registers m))) has
    ∙ ap (λ (o : Option Popped). for_some o (λ a. pushed image (wrapped u a.value) a.registers m)) (pops image t x d s m some v holds lt deep)

binary_effect : (image : Image) (op : Op2) (t a b u : Ty) (p : Pos) (n : ℕ) (x y : ℤ) (s : Registers) (d : ℕ) (m : List ℕ) → Works op t a b u → slice_get image.places n ≡ Some p → IsValue a x → IsValue b y
    → number_at 8 m (cell_at d) ≡ cell x → number_at 8 m (cell_at (d + 1)) ≡ cell y → d + 1 < image.depth → s.depth ≡ d + 1 + 1
    → effect image (instr.Binary op u n) s m ≡ answered image p (applied2 op t x y) (record s { depth = d }) m
unfolding effect
binary_effect image op t a b u p n x y s d m works place v w left right lt deep =
    let one = pops image (right_type op u) y (d + 1) s m works.right_some (works.right_value y w) right lt deep in
    let two = pops image u x d (record s { depth = d + 1 }) m works.some_type (works.left_value x v) left (omega arith) refl in
    ap (λ (o : Option Pos). for_some o (λ z. for_some (popped image (right_type op u) s m) (λ c. for_some (popped image u c.registers m) (λ e. combined image op u z e c m)))) place
    ∙ ap (λ (o : Option Popped). for_some o (λ c. for_some (popped image u c.registers m) (λ e. combined image op u p e c m))) one
    ∙ ap (λ (o : Option Popped). for_some o (λ e. combined image op u p e (record { value = y; registers = record s { depth = d + 1 } }) m)) two
    ∙ ap (λ (z : Bool). provided z (answered image p (applied2 op u x y) (record s { depth = d }) m)) works.takes
    ∙ ap (λ (z : Result ℤ Fault). answered image p z (record s { depth = d }) m) (works.same_result x y)

-- a jump where the top cell is false
test_effect : (image : Image) (to : ℕ) (x : ℤ) (s : Registers) (d : ℕ) (m : List ℕ) → IsValue ty.Bool x → number_at 8 m (cell_at d) ≡ cell x → d < image.depth → s.depth ≡ d + 1
    → effect image (instr.JumpIfFalse to) s m ≡ Goes (if same x (pos 0) then record s { at = to; depth = d } else record s { depth = d }) m []
unfolding effect
test_effect image to x s d m v holds lt deep =
    ap (λ (o : Option Popped). for_some o (λ a. Goes (if same a.value (pos 0) then record a.registers { at = to } else a.registers) m [])) (pops image ty.Bool x d s m (bool_some ty.Bool refl) v holds lt deep)

module _ (image : Image) (labels : ℕ → ℕ) (number : Pos → ℕ) (frame : ℕ) where
  -- Lines that do this wherever they stand, from any cell on from which there are enough. `seen` is asked of the memory.
  abbrev pub Runs : Draft → (seen : List ℕ → Type 0) → (deep : ℕ) → Answer → Type 0
  Runs d seen deep answer =
      (fresh : ℕ) (r : Registers) (bytes : List ℕ) → r.frame ≡ frame → Fits image bytes → ((later : List ℕ) → Kept image 0 bytes later → seen later) → Placed image labels r.at ((d fresh).lines number)
      → r.depth + deep ≤ image.depth → Gives image r bytes (r.at + code_size ((d fresh).lines number)) answer

  -- what is seen stays behind what was kept
  seen_behind : (seen : List ℕ → Type 0) (n : ℕ) (a b : List ℕ) → Kept image n a b → ((later : List ℕ) → Kept image 0 a later → seen later) → (later : List ℕ) → Kept image 0 b later → seen later
  seen_behind seen n a b k h later l = h later (kept_then image 0 0 a b later (omega arith) (kept_lower image 0 n a b (omega arith) k) l)

  -- one instruction that pushes a value
  pub run_one : (i : Instr) (seen : List ℕ → Type 0) (v : ℤ) → in_finalizers i ≡ true
      → ((r : Registers) (bytes : List ℕ) → r.frame ≡ frame → seen bytes → effect image i r bytes ≡ pushed image v r bytes) → Runs (text (plain i ∷ [])) seen 1 (Ok v)
  run_one i seen v m does fresh r bytes f fits sees there room =
      let x = pushes image (behind i r) bytes v fits (omega arith) in
      let e = does (behind i r) bytes f (sees bytes (kept_itself image 0 bytes)) in
      gives_at image r bytes (Ok v) (r.at + size i) (r.at + (size i + 0)) (omega arith)
      (record { after = x.after; does = goes i there.0 m (e ∙ x.is) stays; few = omega (arith, some_bytes i); kept = x.kept; holds = x.holds })

  pub run_prefix : (op : Op1) (t a : Ty) (p : Pos) (d : Draft) (seen : List ℕ → Type 0) (deep : ℕ) (answer : Answer) → Works1 op t a → IsResult a answer → slice_get image.places (number p) ≡ Some p
      → Runs d seen deep answer → Runs (both d (placed p (λ n. plain (instr.Prefix op t n) ∷ []))) seen (max deep 1) (and_then answer (λ x. at p (applied1 op t x)))
  run_prefix op t a p d seen deep answer works result place run fresh r bytes f fits sees there room =
      let lines = (d fresh).lines number in
      let i : Instr = instr.Prefix op t (number p) in
      let parts = parts_are_placed image labels r.at lines (Plain (instr.Prefix op t (number p)) ∷ []) there in
      let mid : ℕ = r.at + code_size ((d fresh).lines number) in
      let end : mid + size i ≡ r.at + code_size ((d fresh).lines number ++ (Plain (instr.Prefix op t (number p)) ∷ [])) = omega (arith, code_size-append ((d fresh).lines number) (Plain (instr.Prefix op t (number p)) ∷ [])) in
      gives_at image r bytes (and_then answer (λ x. at p (applied1 op t x))) (mid + size i) (r.at + code_size ((d fresh).lines number ++ (Plain (instr.Prefix op t (number p)) ∷ []))) end
      (behind_it image a r bytes mid (mid + size i) answer (λ x. at p (applied1 op t x)) (omega arith) (run fresh r bytes f fits sees parts.0 (omega arith)) result
      (λ x v g.
      finish image r (record r { at = mid; depth = r.depth + 1 }) bytes g.after i p (applied1 op t x) g.does g.few g.kept (fits_kept image r.depth bytes g.after g.kept fits) (omega arith) parts.1.0 refl
      (prefix_effect image op t a p (number p) x (behind i (record r { at = mid; depth = r.depth + 1 })) r.depth g.after works place v g.holds (omega arith) refl)))

  pub run_convert : (t u : Ty) (d : Draft) (seen : List ℕ → Type 0) (deep : ℕ) (answer : Answer) → t ≢ ty.None → has_values u ≡ true → IsResult t answer
      → Runs d seen deep answer → Runs (both d (text (plain (instr.Convert t u) ∷ []))) seen (max deep 1) (and_then answer (λ x. Ok (wrapped u x)))
  run_convert t u d seen deep answer some has result run fresh r bytes f fits sees there room =
      let i : Instr = instr.Convert t u in
      let parts = parts_are_placed image labels r.at ((d fresh).lines number) (Plain (instr.Convert t u) ∷ []) there in
      let mid : ℕ = r.at + code_size ((d fresh).lines number) in
      let end : mid + size i ≡ r.at + code_size ((d fresh).lines number ++ (Plain (instr.Convert t u) ∷ [])) = omega (arith, code_size-append ((d fresh).lines number) (Plain (instr.Convert t u) ∷ [])) in
      gives_at image r bytes (and_then answer (λ x. Ok (wrapped u x))) (mid + size i) (r.at + code_size ((d fresh).lines number ++ (Plain (instr.Convert t u) ∷ []))) end
      (behind_it image t r bytes mid (mid + size i) answer (λ x. Ok (wrapped u x)) (omega arith) (run fresh r bytes f fits sees parts.0 (omega arith)) result
      (λ x v g.
      finish image r (record r { at = mid; depth = r.depth + 1 }) bytes g.after i (record { line = 1; col = 1 }) (Ok (wrapped u x)) g.does g.few g.kept (fits_kept image r.depth bytes g.after g.kept fits) (omega arith) parts.1.0 refl
      (convert_effect image t u x (behind i (record r { at = mid; depth = r.depth + 1 })) r.depth g.after some has v g.holds (omega arith) refl)))

  pub run_binary : (op : Op2) (t a b u : Ty) (p : Pos) (d e : Draft) (left right : List ℕ → Type 0) (m n : ℕ) (x y : Answer) → Works op t a b u → 1 ≤ n → IsResult a x → IsResult b y → slice_get image.places (number p) ≡ Some p
      → Runs d left m x → Runs e right n y → Runs (binary_draft op u p d e) (λ bs. left bs × right bs) (max m (1 + n)) (and_then x (λ v. and_then y (λ w. at p (applied2 op t v w))))
  run_binary op t a b u p d e left right m n x y works some rx ry place rd re fresh r bytes f fits sees there room =
      let i : Instr = instr.Binary op u (number p) in
      let ls : List Line = (d fresh).lines number in
      let ks : List Line = (e (d fresh).next).lines number in
      let one = parts_are_placed image labels r.at ((d fresh).lines number) ((e (d fresh).next).lines number ++ (Plain (instr.Binary op u (number p)) ∷ [])) there in
      let mid : ℕ = r.at + code_size ((d fresh).lines number) in
      let two = parts_are_placed image labels mid ((e (d fresh).next).lines number) (Plain (instr.Binary op u (number p)) ∷ []) one.1 in
      let far : ℕ = mid + code_size ((e (d fresh).next).lines number) in
      let end : far + size i ≡ r.at + code_size ((d fresh).lines number ++ ((e (d fresh).next).lines number ++ (Plain (instr.Binary op u (number p)) ∷ []))) =
      omega (arith, code_size-append ((d fresh).lines number) ((e (d fresh).next).lines number ++ (Plain (instr.Binary op u (number p)) ∷ [])), code_size-append ((e (d fresh).next).lines number) (Plain (instr.Binary op u (number p)) ∷ [])) in
      gives_at image r bytes (and_then x (λ v. and_then y (λ w. at p (applied2 op t v w)))) (far + size i) (r.at + code_size ((d fresh).lines number ++ ((e (d fresh).next).lines number ++ (Plain (instr.Binary op u (number p)) ∷ [])))) end
      (behind_it image a r bytes mid (far + size i) x (λ v. and_then y (λ w. at p (applied2 op t v w))) (omega arith) (rd fresh r bytes f fits (λ later k. (sees later k).0) one.0 (omega arith)) rx
      (λ v vx g.
      let q : Registers = record r { at = mid; depth = r.depth + 1 } in
      let fits2 = fits_kept image r.depth bytes g.after g.kept fits in
      let run = re (d fresh).next (record r { at = mid; depth = r.depth + 1 }) g.after f fits2 (seen_behind right r.depth bytes g.after g.kept (λ later k. (sees later k).1)) two.0 (omega arith) in
      second v vx g (far + size i) y (omega arith) run ry (λ w wy h.
      let both = kept_then image r.depth (r.depth + 1) bytes g.after h.after (omega arith) g.kept h.kept in
      finish image r (record r { at = far; depth = r.depth + 1 + 1 }) bytes h.after i p (applied2 op t v w) (does_then image g.does h.does) (omega (arith, steps_then image g.does h.does, g.few, h.few)) both (fits_kept image r.depth bytes h.after both fits) (omega arith) two.1.0 refl
      (binary_effect image op t a b u p (number p) v w (behind i (record r { at = far; depth = r.depth + 1 + 1 })) r.depth h.after works place vx wy (cell_kept image r.depth (r.depth + 1) g.after h.after (omega arith) h.kept ∙ g.holds) h.holds (omega arith) refl))))
    where
      -- behind the left operand: the right one gives a value, or fails
      second : (v : ℤ) → IsValue a v → (g : Pushes image r bytes (r.at + code_size ((d fresh).lines number)) v) → (to : ℕ) → (z : Answer) → r.at + code_size ((d fresh).lines number) + code_size ((e (d fresh).next).lines number) ≤ to
          → Gives image (record r { at = r.at + code_size ((d fresh).lines number); depth = r.depth + 1 }) g.after (r.at + code_size ((d fresh).lines number) + code_size ((e (d fresh).next).lines number)) z → IsResult b z
          → ((w : ℤ) → IsValue b w → Pushes image (record r { at = r.at + code_size ((d fresh).lines number); depth = r.depth + 1 }) g.after (r.at + code_size ((d fresh).lines number) + code_size ((e (d fresh).next).lines number)) w → Gives image r bytes to (at p (applied2 op t v w)))
          → Gives image r bytes to (and_then z (λ w. at p (applied2 op t v w)))
      second v vx g to (Ok w) le run rz k = k w rz run
      second v vx g to (Err z) le run rz k = fails_then image to z.0 z.1 g.does g.few (fails_before image (r.at + code_size ((d fresh).lines number) + code_size ((e (d fresh).next).lines number)) to z.0 z.1 le run)

  -- ---- `and`, `or`: the right operand is asked only where the left one doesn't decide

  -- a line that jumps
  jump_step : (r : Registers) (m : List ℕ) (to : ℕ) → fetched image r.at ≡ Some (instr.Jump to) → Does image r m (record r { at = to }) m
  unfolding effect
  jump_step r m to f = goes (instr.Jump to) f refl refl stays

  -- a line that pushes a truth value
  push_step : (r : Registers) (m : List ℕ) (v : ℤ) → Fits image m → r.depth < image.depth → fetched image r.at ≡ Some (instr.Push ty.Bool v) → Pushes image r m (r.at + 10) v
  unfolding effect
  push_step r m v fits lt f =
      let x = pushes image (record r { at = r.at + 10 }) m v fits lt in
      record { after = x.after; does = goes (instr.Push ty.Bool v) f refl x.is stays; few = omega arith; kept = x.kept; holds = x.holds }

  -- what was done first, and then a push from the same cell on
  first_then : (r q : Registers) (a b : List ℕ) (to : ℕ) (v : ℤ) (d : Does image r a (record r { at = q.at }) b) → steps_of d + r.at ≤ q.at → Kept image r.depth a b → Pushes image (record r { at = q.at }) b to v → Pushes image r a to v
  first_then r q a b to v d few k p = record { after = p.after; does = does_then image d p.does; few = omega (arith, few, p.few, steps_then image d p.does); kept = kept_then image r.depth r.depth a b p.after (omega arith) k p.kept; holds = p.holds }

  -- a push, and then a jump
  then_jump : (r : Registers) (a : List ℕ) (mid to : ℕ) (v : ℤ) → mid < to → Pushes image r a mid v → fetched image mid ≡ Some (instr.Jump to) → Pushes image r a to v
  unfolding jump_step
  then_jump r a mid to v lt p f = record { after = p.after; does = does_then image p.does (jump_step (record r { at = mid; depth = r.depth + 1 }) p.after to f); few = omega (arith, p.few, steps_then image p.does (jump_step (record r { at = mid; depth = r.depth + 1 }) p.after to f)); kept = p.kept; holds = p.holds }

  same_zero : same (pos 0) (pos 0) ≡ true
  same_zero = refl

  -- what was done up to a place, in few steps
  record Came (r : Registers) (bytes : List ℕ) (q : Registers) (after : List ℕ) (most : ℕ) : Type 0 where
    pub does : Does image r bytes q after
    pub few : steps_of does + r.at ≤ most

  -- behind the left operand the trail stands at the test: where its value is false it goes to a place, else on
  tested : (r : Registers) (bytes : List ℕ) (mid to : ℕ) (x : ℤ) (b : Bool) → IsValue ty.Bool x → same x (pos 0) ≡ b → r.depth < image.depth → fetched image mid ≡ Some (instr.JumpIfFalse to)
      → (g : Pushes image r bytes mid x) → Came r bytes (record r { at = if b then to else (mid + 3) }) g.after (mid + 1)
  tested r bytes mid to x b v e lt f g =
      let s : Registers = behind (instr.JumpIfFalse to) (record r { at = mid; depth = r.depth + 1 }) in
      let e =
      test_effect image to x (behind (instr.JumpIfFalse to) (record r { at = mid; depth = r.depth + 1 })) r.depth g.after v g.holds lt refl
      ∙ ap (λ (z : Bool). Goes (if z then record r { at = to } else record r { at = mid + 3 }) g.after []) e ∙ pick b in
      record {
        does = does_then image g.does (goes (instr.JumpIfFalse to) f refl e stays);
        few = omega (arith, g.few, steps_then image g.does (goes (instr.JumpIfFalse to) f refl e stays));
      }
    where
      pick : (z : Bool) → Goes (if z then record r { at = to } else record r { at = mid + 3 }) g.after [] ≡ Goes (record r { at = if z then to else (mid + 3) }) g.after []
      pick true = refl
      pick false = refl

  -- of `and` where the left operand is false, and where it is true
  and_false : (v : ℤ) → same v (pos 0) ≡ true → pos 0 ≡ v
  and_false v e = omega (arith, ints, and_left (int_le v (pos 0)) (int_le (pos 0) v) e, and_right (int_le v (pos 0)) (int_le (pos 0) v) e)

  true_is : (v : ℤ) → IsValue ty.Bool v → same v (pos 0) ≡ false → v ≡ pos 1
  true_is v h e = elim (bool_cases v h) [ inl z ↦ absurd (let y : same (pos 0) (pos 0) ≡ false = subst (λ (k : ℤ). same k (pos 0) ≡ false) z e in cc) | inr z ↦ z ]

  and_true : (v w : ℤ) → v ≡ pos 1 → IsValue ty.Bool w → w ≡ of_test (same v (pos 1) && same w (pos 1))
  and_true v w e h = subst (λ (k : ℤ). w ≡ of_test (same k (pos 1) && same w (pos 1))) (sym e) (elim (bool_cases w h) [ inl z ↦ subst (λ (k : ℤ). k ≡ of_test (same (pos 1) (pos 1) && same k (pos 1))) (sym z) refl | inr z ↦ subst (λ (k : ℤ). k ≡ of_test (same (pos 1) (pos 1) && same k (pos 1))) (sym z) refl ])

  -- the right operand, from a place that was reached
  from_there : (r : Registers) (bytes m : List ℕ) (at_right far to : ℕ) (y : Answer) (k : ℤ → ℤ) (d : Does image r bytes (record r { at = at_right }) m) → steps_of d + r.at ≤ at_right → far < to → Kept image r.depth bytes m → fetched image far ≡ Some (instr.Jump to) → (p : Pos)
      → ((w : ℤ) → IsValue ty.Bool w → w ≡ k w) → IsResult ty.Bool y → Gives image (record r { at = at_right }) m far y → Gives image r bytes to (and_then y (λ w. at p (Ok (k w))))
  from_there r bytes m at_right far to (Ok w) k d few lt kept f p same h g =
      let x = then_jump r bytes far to w lt (first_then r (record r { at = at_right }) bytes m far w d few kept g) f in
      subst (λ (v : ℤ). Pushes image r bytes to v) (same w h) x
  from_there r bytes m at_right far to (Err z) k d few lt kept f p same h g = fails_then image to z.0 z.1 d few (fails_before image far to z.0 z.1 (omega arith) g)

  pub run_and : (t : Ty) (p : Pos) (d e : Draft) (left right : List ℕ → Type 0) (m n : ℕ) (x y : Answer) → 1 ≤ m → IsResult ty.Bool x → IsResult ty.Bool y
      → Runs d left m x → Runs e right n y → Runs (and_draft d e) (λ bs. left bs × right bs) (max m (1 + n)) (and_then x (λ v. if same v (pos 0) then Ok v else and_then y (λ w. at p (applied2 op2.And t v w))))
  run_and t p d e left right m n x y some rx ry rd re fresh r bytes f fits sees there room =
      let no : ℕ = fresh in
      let ls : List Line = (d (fresh + 2)).lines number in
      let ks : List Line = (e (d (fresh + 2)).next).lines number in
      let tail : List Line = goto (fresh + 1) ∷ mark fresh ∷ plain (instr.Push ty.Bool (pos 0)) ∷ mark (fresh + 1) ∷ [] in
      let one = parts_are_placed image labels r.at ((d (fresh + 2)).lines number) (goto_if_false fresh ∷ ((e (d (fresh + 2)).next).lines number ++ (goto (fresh + 1) ∷ mark fresh ∷ plain (instr.Push ty.Bool (pos 0)) ∷ mark (fresh + 1) ∷ []))) there in
      let mid : ℕ = r.at + code_size ((d (fresh + 2)).lines number) in
      let two = parts_are_placed image labels (mid + 3) ((e (d (fresh + 2)).next).lines number) (goto (fresh + 1) ∷ mark fresh ∷ plain (instr.Push ty.Bool (pos 0)) ∷ mark (fresh + 1) ∷ []) one.1.1 in
      let far : ℕ = mid + 3 + code_size ((e (d (fresh + 2)).next).lines number) in
      let end : labels (fresh + 1) ≡ r.at + code_size ((d (fresh + 2)).lines number ++ (goto_if_false fresh ∷ ((e (d (fresh + 2)).next).lines number ++ (goto (fresh + 1) ∷ mark fresh ∷ plain (instr.Push ty.Bool (pos 0)) ∷ mark (fresh + 1) ∷ [])))) =
      omega (arith, two.1.1.1.1.0, code_size-append ((d (fresh + 2)).lines number) (goto_if_false fresh ∷ ((e (d (fresh + 2)).next).lines number ++ (goto (fresh + 1) ∷ mark fresh ∷ plain (instr.Push ty.Bool (pos 0)) ∷ mark (fresh + 1) ∷ []))), code_size-append ((e (d (fresh + 2)).next).lines number) (goto (fresh + 1) ∷ mark fresh ∷ plain (instr.Push ty.Bool (pos 0)) ∷ mark (fresh + 1) ∷ [])) in
      gives_at image r bytes (and_then x (λ v. if same v (pos 0) then Ok v else and_then y (λ w. at p (applied2 op2.And t v w)))) (labels (fresh + 1)) _ end
      (behind_it image ty.Bool r bytes mid (labels (fresh + 1)) x (λ v. if same v (pos 0) then Ok v else and_then y (λ w. at p (applied2 op2.And t v w))) (omega (arith, two.1.1.1.1.0)) (rd (fresh + 2) r bytes f fits (λ later k. (sees later k).0) one.0 (omega arith)) rx
      (λ v vx g. by_test (same v (pos 0)) v refl vx g one.1.0 two.1 (fits_kept image r.depth bytes g.after g.kept fits)
      (re (d (fresh + 2)).next (record r { at = mid + 3 }) g.after f (fits_kept image r.depth bytes g.after g.kept fits) (seen_behind right r.depth bytes g.after g.kept (λ later k. (sees later k).1)) two.0 (omega arith)) ry))
    where
      mid' : ℕ
      mid' = r.at + code_size ((d (fresh + 2)).lines number)

      far' : ℕ
      far' = r.at + code_size ((d (fresh + 2)).lines number) + 3 + code_size ((e (d (fresh + 2)).next).lines number)

      by_test : (b : Bool) → (v : ℤ) → same v (pos 0) ≡ b → IsValue ty.Bool v → (g : Pushes image r bytes (r.at + code_size ((d (fresh + 2)).lines number)) v)
          → fetched image (r.at + code_size ((d (fresh + 2)).lines number)) ≡ Some (instr.JumpIfFalse (labels fresh))
          → Placed image labels (r.at + code_size ((d (fresh + 2)).lines number) + 3 + code_size ((e (d (fresh + 2)).next).lines number)) (goto (fresh + 1) ∷ mark fresh ∷ plain (instr.Push ty.Bool (pos 0)) ∷ mark (fresh + 1) ∷ [])
          → Fits image g.after → Gives image (record r { at = r.at + code_size ((d (fresh + 2)).lines number) + 3 }) g.after (r.at + code_size ((d (fresh + 2)).lines number) + 3 + code_size ((e (d (fresh + 2)).next).lines number)) y → IsResult ty.Bool y
          → Gives image r bytes (labels (fresh + 1)) (if b then Ok v else and_then y (λ w. at p (applied2 op2.And t v w)))
      by_test true v s vx g test tail fits3 run ry3 =
          let go = tested r bytes (r.at + code_size ((d (fresh + 2)).lines number)) (labels fresh) v true vx s (omega arith) test g in
          let push = push_step (record r { at = labels fresh }) g.after (pos 0) fits3 (omega arith) (ap (fetched image) tail.1.0 ∙ tail.1.1.0) in
          let done = first_then r (record r { at = labels fresh }) bytes g.after (labels fresh + 10) (pos 0) go.does (omega (arith, go.few, tail.1.0)) g.kept push in
          let there : labels fresh + 10 ≡ labels (fresh + 1) = omega (arith, tail.1.0, tail.1.1.1.0) in
          subst (λ (k : ℤ). Pushes image r bytes (labels (fresh + 1)) k) (and_false v s) (subst (λ (k : ℕ). Pushes image r bytes k (pos 0)) there done)
      by_test false v s vx g test tail fits3 run ry3 =
          let go = tested r bytes (r.at + code_size ((d (fresh + 2)).lines number)) (labels fresh) v false vx s (omega arith) test g in
          from_there r bytes g.after (r.at + code_size ((d (fresh + 2)).lines number) + 3) (r.at + code_size ((d (fresh + 2)).lines number) + 3 + code_size ((e (d (fresh + 2)).next).lines number)) (labels (fresh + 1)) y
          (λ w. of_test (same v (pos 1) && same w (pos 1))) go.does (omega (arith, go.few)) (omega (arith, tail.1.0, tail.1.1.1.0)) g.kept tail.0 p (λ w h. and_true v w (true_is v vx s) h) ry3 run

  -- of `or` where the left operand is true, and where it is false
  or_true : (v : ℤ) → IsValue ty.Bool v → same v (pos 0) ≡ false → same v (pos 1) ≡ true
  or_true v h e = ap (λ (k : ℤ). same k (pos 1)) (true_is v h e)

  or_false : (v w : ℤ) → same v (pos 0) ≡ true → IsValue ty.Bool w → w ≡ of_test (same v (pos 1) || same w (pos 1))
  or_false v w e h = subst (λ (k : ℤ). w ≡ of_test (same k (pos 1) || same w (pos 1))) (and_false v e) (elim (bool_cases w h) [ inl z ↦ subst (λ (k : ℤ). k ≡ of_test (same (pos 0) (pos 1) || same k (pos 1))) (sym z) refl | inr z ↦ subst (λ (k : ℤ). k ≡ of_test (same (pos 0) (pos 1) || same k (pos 1))) (sym z) refl ])

  -- the right operand at the end of the lines
  from_here : (r : Registers) (bytes m : List ℕ) (at_right to : ℕ) (y : Answer) (k : ℤ → ℤ) (d : Does image r bytes (record r { at = at_right }) m) → steps_of d + r.at ≤ at_right → Kept image r.depth bytes m → (p : Pos)
      → ((w : ℤ) → IsValue ty.Bool w → w ≡ k w) → IsResult ty.Bool y → Gives image (record r { at = at_right }) m to y → Gives image r bytes to (and_then y (λ w. at p (Ok (k w))))
  from_here r bytes m at_right to (Ok w) k d few kept p same h g = subst (λ (v : ℤ). Pushes image r bytes to v) (same w h) (first_then r (record r { at = at_right }) bytes m to w d few kept g)
  from_here r bytes m at_right to (Err z) k d few kept p same h g = fails_then image to z.0 z.1 d few g

  -- the value of `or` by whether the left operand is false
  by_left : (t : Ty) (p : Pos) (v : ℤ) (y : Answer) → IsValue ty.Bool v → (b : Bool) → same v (pos 0) ≡ b → (to : ℕ) (r : Registers) (bytes : List ℕ)
      → Gives image r bytes to (if b then and_then y (λ w. at p (applied2 op2.Or t v w)) else Ok v) → Gives image r bytes to (if same v (pos 1) then Ok v else and_then y (λ w. at p (applied2 op2.Or t v w)))
  by_left t p v y h true e to r bytes g = subst (λ (c : Bool). Gives image r bytes to (if c then Ok v else and_then y (λ w. at p (applied2 op2.Or t v w)))) (sym (ap (λ (k : ℤ). same k (pos 1)) (sym (and_false v e)))) g
  by_left t p v y h false e to r bytes g = subst (λ (c : Bool). Gives image r bytes to (if c then Ok v else and_then y (λ w. at p (applied2 op2.Or t v w)))) (sym (or_true v h e)) g

  pub run_or : (t : Ty) (p : Pos) (d e : Draft) (left right : List ℕ → Type 0) (m n : ℕ) (x y : Answer) → 1 ≤ m → IsResult ty.Bool x → IsResult ty.Bool y
      → Runs d left m x → Runs e right n y → Runs (or_draft d e) (λ bs. left bs × right bs) (max m (1 + n)) (and_then x (λ v. if same v (pos 1) then Ok v else and_then y (λ w. at p (applied2 op2.Or t v w))))
  run_or t p d e left right m n x y some rx ry rd re fresh r bytes f fits sees there room =
      let ls : List Line = (d (fresh + 2)).lines number in
      let ks : List Line = (e (d (fresh + 2)).next).lines number in
      let one = parts_are_placed image labels r.at ((d (fresh + 2)).lines number) (goto_if_false fresh ∷ plain (instr.Push ty.Bool (pos 1)) ∷ goto (fresh + 1) ∷ mark fresh ∷ ((e (d (fresh + 2)).next).lines number ++ (mark (fresh + 1) ∷ []))) there in
      let mid : ℕ = r.at + code_size ((d (fresh + 2)).lines number) in
      let low : ℕ = mid + 3 + 10 + 3 in
      let two = parts_are_placed image labels (mid + 3 + 10 + 3) ((e (d (fresh + 2)).next).lines number) (mark (fresh + 1) ∷ []) one.1.1.1.1.1 in
      let end : labels (fresh + 1) ≡ r.at + code_size ((d (fresh + 2)).lines number ++ (goto_if_false fresh ∷ plain (instr.Push ty.Bool (pos 1)) ∷ goto (fresh + 1) ∷ mark fresh ∷ ((e (d (fresh + 2)).next).lines number ++ (mark (fresh + 1) ∷ [])))) =
      omega (arith, two.1.0, code_size-append ((d (fresh + 2)).lines number) (goto_if_false fresh ∷ plain (instr.Push ty.Bool (pos 1)) ∷ goto (fresh + 1) ∷ mark fresh ∷ ((e (d (fresh + 2)).next).lines number ++ (mark (fresh + 1) ∷ []))), code_size-append ((e (d (fresh + 2)).next).lines number) (mark (fresh + 1) ∷ [])) in
      gives_at image r bytes (and_then x (λ v. if same v (pos 1) then Ok v else and_then y (λ w. at p (applied2 op2.Or t v w)))) (labels (fresh + 1)) _ end
      (behind_it image ty.Bool r bytes mid (labels (fresh + 1)) x (λ v. if same v (pos 1) then Ok v else and_then y (λ w. at p (applied2 op2.Or t v w))) (omega (arith, two.1.0)) (rd (fresh + 2) r bytes f fits (λ later k. (sees later k).0) one.0 (omega arith)) rx
      (λ v vx g.
      by_left t p v y vx (same v (pos 0)) refl (labels (fresh + 1)) r bytes
      (by_test (same v (pos 0)) v refl vx g one.1.0 one.1.1.0 one.1.1.1.0 one.1.1.1.1.0 two.1.0 (fits_kept image r.depth bytes g.after g.kept fits)
      (re (d (fresh + 2)).next (record r { at = mid + 3 + 10 + 3 }) g.after f (fits_kept image r.depth bytes g.after g.kept fits) (seen_behind right r.depth bytes g.after g.kept (λ later k. (sees later k).1)) two.0 (omega arith)) ry)))
    where
      by_test : (b : Bool) → (v : ℤ) → same v (pos 0) ≡ b → IsValue ty.Bool v → (g : Pushes image r bytes (r.at + code_size ((d (fresh + 2)).lines number)) v)
          → fetched image (r.at + code_size ((d (fresh + 2)).lines number)) ≡ Some (instr.JumpIfFalse (labels fresh))
          → fetched image (r.at + code_size ((d (fresh + 2)).lines number) + 3) ≡ Some (instr.Push ty.Bool (pos 1))
          → fetched image (r.at + code_size ((d (fresh + 2)).lines number) + 3 + 10) ≡ Some (instr.Jump (labels (fresh + 1)))
          → labels fresh ≡ r.at + code_size ((d (fresh + 2)).lines number) + 3 + 10 + 3
          → labels (fresh + 1) ≡ r.at + code_size ((d (fresh + 2)).lines number) + 3 + 10 + 3 + code_size ((e (d (fresh + 2)).next).lines number)
          → Fits image g.after → Gives image (record r { at = r.at + code_size ((d (fresh + 2)).lines number) + 3 + 10 + 3 }) g.after (r.at + code_size ((d (fresh + 2)).lines number) + 3 + 10 + 3 + code_size ((e (d (fresh + 2)).next).lines number)) y → IsResult ty.Bool y
          → Gives image r bytes (labels (fresh + 1)) (if b then and_then y (λ w. at p (applied2 op2.Or t v w)) else Ok v)
      by_test true v s vx g test push jump place end fits3 run ry3 =
          let go = tested r bytes (r.at + code_size ((d (fresh + 2)).lines number)) (labels fresh) v true vx s (omega arith) test g in
          let moved : Came r bytes (record r { at = r.at + code_size ((d (fresh + 2)).lines number) + 3 + 10 + 3 }) g.after (r.at + code_size ((d (fresh + 2)).lines number) + 1) = subst (λ (k : ℕ). Came r bytes (record r { at = k }) g.after (r.at + code_size ((d (fresh + 2)).lines number) + 1)) place go in
          from_here r bytes g.after (r.at + code_size ((d (fresh + 2)).lines number) + 3 + 10 + 3) (labels (fresh + 1)) y (λ w. of_test (same v (pos 1) || same w (pos 1))) moved.does (omega (arith, moved.few)) g.kept p (λ w h. or_false v w s h) ry3
          (subst (λ (k : ℕ). Gives image (record r { at = r.at + code_size ((d (fresh + 2)).lines number) + 3 + 10 + 3 }) g.after k y) (sym end) run)
      by_test false v s vx g test push jump place end fits3 run ry3 =
          let go = tested r bytes (r.at + code_size ((d (fresh + 2)).lines number)) (labels fresh) v false vx s (omega arith) test g in
          let pushed1 = push_step (record r { at = r.at + code_size ((d (fresh + 2)).lines number) + 3 }) g.after (pos 1) fits3 (omega arith) push in
          let done = then_jump r bytes (r.at + code_size ((d (fresh + 2)).lines number) + 3 + 10) (labels (fresh + 1)) (pos 1) (omega (arith, place, end))
          (first_then r (record r { at = r.at + code_size ((d (fresh + 2)).lines number) + 3 }) bytes g.after (r.at + code_size ((d (fresh + 2)).lines number) + 3 + 10) (pos 1) go.does (omega (arith, go.few)) g.kept pushed1) jump in
          subst (λ (k : ℤ). Pushes image r bytes (labels (fresh + 1)) k) (sym (true_is v vx s)) done
