-- Instructions in range are spelled as the table asks.
use Rattle.std.proofs.Common.{◌≡◌, ◌≢◌, ℕ, ◌%◌, ◌^◌, ◌≤◌, ◌<◌, List, [], ◌∷◌, ◌++◌, refl, sym, ap, ◌∙◌, subst, arith, lit≤, Some}
use Rattle.std.specs.List.{AllByRecursion, flat_map}
use Rattle.std.proofs.lemmas.List.Concat.{flat_map-cons}
use Rattle.ceu_base.specs.declared.kinds.Op1.{Op1}
use Rattle.ceu_base.specs.declared.kinds.Op1.TheVariants.{Not, Neg, Compl}
use Rattle.ceu_base.specs.declared.kinds.Ty.{Ty}
use Rattle.ceu_base.specs.declared.kinds.Ty.TheVariants as ty
use Rattle.ceu_code.specs.declared.instr.TimeUnit.{TimeUnit}
use Rattle.ceu_code.specs.declared.instr.TimeUnit.TheVariants.{H, Min, S, Ms, Us}
use Rattle.ceu_code.specs.declared.instr.Instr.{Instr}
use Rattle.ceu_code.specs.declared.instr.Instr.TheVariants as instr
use Rattle.ceu_code.specs.declared.table.Operand.{Operand}
use Rattle.ceu_code.specs.declared.table.Operand.TheVariants.{Nothing, Typed, AnyType, Prefix, Binary, Unit as Units, Open, Half, Word, Constant}
use Rattle.ceu_code.specs.Table.{low_first, type_byte, type_at, IsNumber, IsOperand, IsOperands, InEither, small_cells, negative_cells, row_of, table, IsInstruction}
use Rattle.ceu_code.specs.Instructions.{cell, spelled, binary_byte, prefix_byte, unit_byte}
use Rattle.ceu_code.specs.Spelling.{half, word}
use Rattle.ceu_asm.specs.Lines.{instructions}
use Rattle.ceu_asm.proofs.Cells.{value_cells}
use Rattle.ceu_asm.specs.Whole.{IsInRange, AreOfTheTable, BecomeWholeCode}

-- ---- operands

one_byte : (n : ℕ) → n ≤ 255 → n ∷ [] ≡ low_first 1 n
unfolding low_first
one_byte n small = let m : n ≡ n % 256 = grind arith in ap (λ (b : ℕ). b ∷ []) m

typed_from : (t : Ty) → t ≢ ty.None → 1 ≤ type_byte t
typed_from ty.None p = absurd (p refl)
typed_from ty.Bool p = lit≤ tt
typed_from ty.U8 p = lit≤ tt
typed_from ty.S8 p = lit≤ tt
typed_from ty.U16 p = lit≤ tt
typed_from ty.S16 p = lit≤ tt
typed_from ty.U32 p = lit≤ tt
typed_from ty.S32 p = lit≤ tt
typed_from ty.U64 p = lit≤ tt
typed_from ty.S64 p = lit≤ tt

type_to : (t : Ty) → type_byte t ≤ 9
type_to t = grind arith

type_back : (t : Ty) → type_at (type_byte t) ≡ t
type_back ty.None = refl
type_back ty.Bool = refl
type_back ty.U8 = refl
type_back ty.S8 = refl
type_back ty.U16 = refl
type_back ty.S16 = refl
type_back ty.U32 = refl
type_back ty.S32 = refl
type_back ty.U64 = refl
type_back ty.S64 = refl

is_typed : (t : Ty) → t ≢ ty.None → IsOperand Typed (type_byte t ∷ [])
is_typed t p = record { number = type_byte t; above = typed_from t p; below = type_to t; spelled = one_byte (type_byte t) (let h = type_to t in omega arith) }

is_type : (t : Ty) → IsOperand AnyType (type_byte t ∷ [])
is_type t = record { number = type_byte t; above = omega arith; below = type_to t; spelled = one_byte (type_byte t) (let h = type_to t in omega arith) }

prefix_to : (o : Op1) → prefix_byte o ≤ 2
prefix_to Not = lit≤ tt
prefix_to Neg = lit≤ tt
prefix_to Compl = lit≤ tt

is_prefix : (o : Op1) → IsOperand Prefix (prefix_byte o ∷ [])
is_prefix o = record { number = prefix_byte o; above = omega arith; below = prefix_to o; spelled = one_byte (prefix_byte o) (let h = prefix_to o in omega arith) }

is_small : (n k : ℕ) → n ≤ k → k ≤ 255 → IsNumber 1 0 k (n ∷ [])
is_small n k p q = record { number = n; above = omega arith; below = p; spelled = one_byte n (omega arith) }

unit_to : (u : TimeUnit) → unit_byte u ≤ 4
unit_to H = lit≤ tt
unit_to Min = lit≤ tt
unit_to S = lit≤ tt
unit_to Ms = lit≤ tt
unit_to Us = lit≤ tt

is_half : (n : ℕ) → n < 2 ^ 16 → IsOperand Half (half n)
is_half n p = record { number = n; above = omega arith; below = omega arith; spelled = refl }

is_word : (n : ℕ) → n < 2 ^ 32 → IsOperand Word (word n)
is_word n p = record { number = n; above = omega arith; below = omega arith; spelled = refl }

is_constant : (t : Ty) (n : ℕ) → t ≢ ty.None → InEither (small_cells t) (negative_cells t) n → IsOperand Constant (type_byte t ∷ low_first 8 n)
is_constant t n p v = record {
  type_number = type_byte t;
  cell = n;
  typed = (typed_from t p, type_to t);
  value = subst (λ (u : Ty). InEither (small_cells u) (negative_cells u) n) (sym (type_back t)) v;
  spelled = refl;
}

is_nothing : IsOperand Nothing []
unfolding low_first
is_nothing = record { number = 0; above = lit≤ tt; below = lit≤ tt; spelled = refl }

-- ---- instructions, by their number of operands

nothing0 : IsOperands ([]) []
nothing0 = refl

nothing1 : IsOperands (Nothing ∷ []) []
nothing1 = ([], [], is_nothing, refl, refl)

nothing2 : IsOperands (Nothing ∷ Nothing ∷ []) []
nothing2 = ([], [], is_nothing, ([], [], is_nothing, refl, refl), refl)

nothing3 : IsOperands (Nothing ∷ Nothing ∷ Nothing ∷ []) []
nothing3 = ([], [], is_nothing, ([], [], is_nothing, ([], [], is_nothing, refl, refl), refl), refl)

nothing4 : IsOperands (Nothing ∷ Nothing ∷ Nothing ∷ Nothing ∷ []) []
nothing4 = ([], [], is_nothing, ([], [], is_nothing, ([], [], is_nothing, ([], [], is_nothing, refl, refl), refl), refl), refl)

nothing5 : IsOperands (Nothing ∷ Nothing ∷ Nothing ∷ Nothing ∷ Nothing ∷ []) []
nothing5 = ([], [], is_nothing, ([], [], is_nothing, ([], [], is_nothing, ([], [], is_nothing, ([], [], is_nothing, refl, refl), refl), refl), refl), refl)

with0 : (op : ℕ) → row_of op ≡ Some (record { first = Nothing; second = Nothing; third = Nothing; fourth = Nothing; fifth = Nothing }) → IsInstruction (op ∷ ([]))
with0 op known = record { opcode = op; row = record { first = Nothing; second = Nothing; third = Nothing; fourth = Nothing; fifth = Nothing }; behind = []; known = known; whole = nothing5; spelled = refl }

with1 : (op : ℕ) (k0 : Operand) (w0 : List ℕ) → row_of op ≡ Some (record { first = k0; second = Nothing; third = Nothing; fourth = Nothing; fifth = Nothing }) → IsOperand k0 w0 → IsInstruction (op ∷ (w0 ++ []))
with1 op k0 w0 known f0 = record { opcode = op; row = record { first = k0; second = Nothing; third = Nothing; fourth = Nothing; fifth = Nothing }; behind = w0 ++ []; known = known; whole = (w0, [], f0, nothing4, refl); spelled = refl }

with2 : (op : ℕ) (k0 k1 : Operand) (w0 w1 : List ℕ) → row_of op ≡ Some (record { first = k0; second = k1; third = Nothing; fourth = Nothing; fifth = Nothing }) → IsOperand k0 w0 → IsOperand k1 w1 → IsInstruction (op ∷ (w0 ++ (w1 ++ [])))
with2 op k0 k1 w0 w1 known f0 f1 = record { opcode = op; row = record { first = k0; second = k1; third = Nothing; fourth = Nothing; fifth = Nothing }; behind = w0 ++ (w1 ++ []); known = known; whole = (w0, w1 ++ [], f0, (w1, [], f1, nothing3, refl), refl); spelled = refl }

with3 : (op : ℕ) (k0 k1 k2 : Operand) (w0 w1 w2 : List ℕ) → row_of op ≡ Some (record { first = k0; second = k1; third = k2; fourth = Nothing; fifth = Nothing }) → IsOperand k0 w0 → IsOperand k1 w1 → IsOperand k2 w2 → IsInstruction (op ∷ (w0 ++ (w1 ++ (w2 ++ []))))
with3 op k0 k1 k2 w0 w1 w2 known f0 f1 f2 = record { opcode = op; row = record { first = k0; second = k1; third = k2; fourth = Nothing; fifth = Nothing }; behind = w0 ++ (w1 ++ (w2 ++ [])); known = known; whole = (w0, w1 ++ (w2 ++ []), f0, (w1, w2 ++ [], f1, (w2, [], f2, nothing2, refl), refl), refl); spelled = refl }

with4 : (op : ℕ) (k0 k1 k2 k3 : Operand) (w0 w1 w2 w3 : List ℕ) → row_of op ≡ Some (record { first = k0; second = k1; third = k2; fourth = k3; fifth = Nothing }) → IsOperand k0 w0 → IsOperand k1 w1 → IsOperand k2 w2 → IsOperand k3 w3 → IsInstruction (op ∷ (w0 ++ (w1 ++ (w2 ++ (w3 ++ [])))))
with4 op k0 k1 k2 k3 w0 w1 w2 w3 known f0 f1 f2 f3 = record { opcode = op; row = record { first = k0; second = k1; third = k2; fourth = k3; fifth = Nothing }; behind = w0 ++ (w1 ++ (w2 ++ (w3 ++ []))); known = known; whole = (w0, w1 ++ (w2 ++ (w3 ++ [])), f0, (w1, w2 ++ (w3 ++ []), f1, (w2, w3 ++ [], f2, (w3, [], f3, nothing1, refl), refl), refl), refl); spelled = refl }

with5 : (op : ℕ) (k0 k1 k2 k3 k4 : Operand) (w0 w1 w2 w3 w4 : List ℕ) → row_of op ≡ Some (record { first = k0; second = k1; third = k2; fourth = k3; fifth = k4 }) → IsOperand k0 w0 → IsOperand k1 w1 → IsOperand k2 w2 → IsOperand k3 w3 → IsOperand k4 w4 → IsInstruction (op ∷ (w0 ++ (w1 ++ (w2 ++ (w3 ++ (w4 ++ []))))))
with5 op k0 k1 k2 k3 k4 w0 w1 w2 w3 w4 known f0 f1 f2 f3 f4 = record { opcode = op; row = record { first = k0; second = k1; third = k2; fourth = k3; fifth = k4 }; behind = w0 ++ (w1 ++ (w2 ++ (w3 ++ (w4 ++ [])))); known = known; whole = (w0, w1 ++ (w2 ++ (w3 ++ (w4 ++ []))), f0, (w1, w2 ++ (w3 ++ (w4 ++ [])), f1, (w2, w3 ++ (w4 ++ []), f2, (w3, w4 ++ [], f3, (w4, [], f4, nothing0, refl), refl), refl), refl), refl); spelled = refl }

pub of_the_table : AreOfTheTable
unfolding low_first row_of table
of_the_table (instr.Push t v) h = with1 1 Constant (type_byte t ∷ low_first 8 (cell v)) refl (is_constant t (cell v) h.0 (value_cells t v h.0 h.1))
of_the_table (instr.Load t a) h = with2 2 Typed Half (type_byte t ∷ []) (half a) refl (is_typed t h.0) (is_half a h.1)
of_the_table (instr.LoadOuter t a) h = with2 3 Typed Half (type_byte t ∷ []) (half a) refl (is_typed t h.0) (is_half a h.1)
of_the_table (instr.Store t a) h = with2 4 Typed Half (type_byte t ∷ []) (half a) refl (is_typed t h.0) (is_half a h.1)
of_the_table (instr.StoreOuter t a) h = with2 5 Typed Half (type_byte t ∷ []) (half a) refl (is_typed t h.0) (is_half a h.1)
of_the_table (instr.Prefix o t p) h = with3 6 Prefix Typed Half (prefix_byte o ∷ []) (type_byte t ∷ []) (half p) refl (is_prefix o) (is_typed t h.0) (is_half p h.1)
of_the_table (instr.Binary o t p) h = with3 7 Binary Typed Half (binary_byte o ∷ []) (type_byte t ∷ []) (half p) refl (is_small (binary_byte o) 15 h.0 (lit≤ tt)) (is_typed t h.1) (is_half p h.2)
of_the_table (instr.Convert t u) h = with2 8 Typed Typed (type_byte t ∷ []) (type_byte u ∷ []) refl (is_typed t h.0) (is_typed u h.1)
of_the_table (instr.Jump c) h = with1 9 Half (half c) refl (is_half c h)
of_the_table (instr.JumpIfFalse c) h = with1 10 Half (half c) refl (is_half c h)
of_the_table (instr.Value t) h = with1 11 Typed (type_byte t ∷ []) refl (is_typed t h)
of_the_table instr.SetValue h = with0 12 refl
of_the_table (instr.Output k t) h = with2 13 Half AnyType (half k) (type_byte t ∷ []) refl (is_half k h) (is_type t)
of_the_table instr.End h = with0 14 refl
of_the_table (instr.WaitInput k) h = with1 16 Half (half k) refl (is_half k h)
of_the_table (instr.WaitTime u) h = with1 17 Units (unit_byte u ∷ []) refl (is_small (unit_byte u) 4 (unit_to u) (lit≤ tt))
of_the_table (instr.WaitEvent k) h = with1 18 Half (half k) refl (is_half k h)
of_the_table instr.WaitForever h = with0 19 refl
of_the_table instr.StartAsync h = with0 20 refl
of_the_table instr.YieldAsync h = with0 21 refl
of_the_table instr.EndAsync h = with0 22 refl
of_the_table (instr.Emit k t) h = with2 23 Half AnyType (half k) (type_byte t ∷ []) refl (is_half k h) (is_type t)
of_the_table (instr.Fork g c) h = with2 24 Half Half (half g) (half c) refl (is_half g h.0) (is_half c h.1)
of_the_table (instr.Move g) h = with1 25 Half (half g) refl (is_half g h)
of_the_table instr.Halt h = with0 26 refl
of_the_table (instr.AbortGates g n) h = with2 27 Half Half (half g) (half n) refl (is_half g h.0) (is_half n h.1)
of_the_table (instr.Register g c p) h = with3 28 Half Half Half (half g) (half c) (half p) refl (is_half g h.0) (is_half c h.1) (is_half p h.2)
of_the_table instr.EndFinalizer h = with0 29 refl
of_the_table (instr.Call k a g) h = with3 30 Half Half Half (half k) (half a) (half g) refl (is_half k h.0) (is_half a h.1) (is_half g h.2)
of_the_table instr.Return h = with0 31 refl
of_the_table (instr.MakePool a n k g) h = with4 32 Half Half Half Half (half a) (half n) (half k) (half g) refl (is_half a h.0) (is_half n h.1) (is_half k h.2) (is_half g h.3)
of_the_table (instr.Spawn k a n b p) h = with5 33 Half Half Half Half Half (half k) (half a) (half n) (half b) (half p) refl (is_half k h.0) (is_half a h.1) (is_half n h.2) (is_half b h.3) (is_half p h.4)
of_the_table (instr.Kill a) h = with1 34 Half (half a) refl (is_half a h)
of_the_table (instr.Alive a) h = with1 35 Half (half a) refl (is_half a h)
of_the_table (instr.RangeBound a d) h = with2 36 Half Open (half a) (d ∷ []) refl (is_half a h.0) (is_small d 2 h.1 (lit≤ tt))
of_the_table (instr.RangeNext a i c) h = with3 37 Half Half Half (half a) (half i) (half c) refl (is_half a h.0) (is_half i h.1) (is_half c h.2)
of_the_table (instr.Limit a n p) h = with3 38 Half Word Half (half a) (word n) (half p) refl (is_half a h.0) (is_word n h.1) (is_half p h.2)

pieces : List Instr → List (List ℕ)
pieces [] = []
pieces (i ∷ is) = spelled i ∷ pieces is

all_whole : (is : List Instr) → AllByRecursion IsInRange is → AllByRecursion IsInstruction (pieces is)
unfolding pieces
all_whole [] p = tt
all_whole (i ∷ is) p = (of_the_table i p.0, all_whole is p.1)

pieces_flat : (is : List Instr) → flat_map spelled is ≡ flat_map (λ i. i) (pieces is)
unfolding pieces
pieces_flat [] = refl
pieces_flat (i ∷ is) = flat_map-cons spelled i is ∙ ap (λ (bs : List ℕ). spelled i ++ bs) (pieces_flat is) ∙ sym (flat_map-cons (λ w. w) (spelled i) (pieces is))

pub whole_code : BecomeWholeCode
whole_code lines p = record { instructions = pieces (instructions lines); whole = all_whole (instructions lines) p; spelled = pieces_flat (instructions lines) }
