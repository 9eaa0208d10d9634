-- Operands that are read from the bytes that spell them: types, operators, units and constants.
use Rattle.std.proofs.Common.{◌≡◌, ◌≢◌, refl, sym, ap, ◌∙◌, ◌<◌, ◌≤◌, ◌≤ℤ◌, ◌<ℤ◌, ℕ, ◌+◌, ◌-◌, ◌%◌, ◌^◌, ℤ, pos, negsuc, neg_ℤ, ◌-ℤ◌, Bool, true, false, Option, Some, None, arith}
use Rattle.std.proofs.lemmas.Int.{ints}
use Rattle.std.specs.Prelude.{nat_lt, if◌then◌else◌, slice_get, IsTrue}
use Rattle.std.proofs.lemmas.Bool.{ltb-true, ltb-false}
use Rattle.ceu_base.specs.Values.{is_value, IsValue}
use Rattle.ceu_base.specs.declared.kinds.Ty.{Ty}
use Rattle.ceu_base.specs.declared.kinds.Ty.TheVariants as ty
use Rattle.ceu_base.specs.declared.kinds.Op1.{Op1}
use Rattle.ceu_base.specs.declared.kinds.Op1.TheVariants as op1
use Rattle.ceu_base.specs.declared.kinds.Op2.{Op2}
use Rattle.ceu_base.specs.declared.kinds.Op2.TheVariants as op2
use Rattle.ceu_code.specs.declared.instr.TimeUnit.{TimeUnit}
use Rattle.ceu_code.specs.declared.instr.TimeUnit.TheVariants as unit
use Rattle.ceu_code.specs.Table.{type_byte}
use Rattle.ceu_code.specs.Instructions.{cell, prefix_byte, binary_byte, unit_byte}
use Rattle.ceu_mem.specs.Memory.{with_sign}
use Rattle.ceu_isa.specs.Fetching.{any_type, named_type, prefix_of, binary_of, unit_of, cell_type}

pub type_read : (t : Ty) → any_type (type_byte t) ≡ Some t
type_read ty.None = refl
type_read ty.Bool = refl
type_read ty.U8 = refl
type_read ty.S8 = refl
type_read ty.U16 = refl
type_read ty.S16 = refl
type_read ty.U32 = refl
type_read ty.S32 = refl
type_read ty.U64 = refl
type_read ty.S64 = refl

pub named_read : (t : Ty) → t ≢ ty.None → named_type (type_byte t) ≡ Some t
named_read ty.None some = absurd (some refl)
named_read ty.Bool some = refl
named_read ty.U8 some = refl
named_read ty.S8 some = refl
named_read ty.U16 some = refl
named_read ty.S16 some = refl
named_read ty.U32 some = refl
named_read ty.S32 some = refl
named_read ty.U64 some = refl
named_read ty.S64 some = refl

pub prefix_read : (o : Op1) → prefix_of (prefix_byte o) ≡ Some o
prefix_read op1.Not = refl
prefix_read op1.Neg = refl
prefix_read op1.Compl = refl

pub binary_read : (o : Op2) → binary_byte o ≤ 15 → binary_of (binary_byte o) ≡ Some o
binary_read op2.Or few = absurd (omega arith)
binary_read op2.And few = absurd (omega arith)
binary_read op2.Eq few = refl
binary_read op2.Ne few = refl
binary_read op2.Lt few = refl
binary_read op2.Gt few = refl
binary_read op2.Le few = refl
binary_read op2.Ge few = refl
binary_read op2.BitOr few = refl
binary_read op2.BitXor few = refl
binary_read op2.BitAnd few = refl
binary_read op2.Shl few = refl
binary_read op2.Shr few = refl
binary_read op2.Add few = refl
binary_read op2.Sub few = refl
binary_read op2.Mul few = refl
binary_read op2.Div few = refl
binary_read op2.Rem few = refl

pub unit_read : (u : TimeUnit) → unit_of (unit_byte u) ≡ Some u
unit_read unit.H = refl
unit_read unit.Min = refl
unit_read unit.S = refl
unit_read unit.Ms = refl
unit_read unit.Us = refl

-- ---- constants, which are extended to 8 bytes

pub cell_small : (v : ℤ) → cell v < 2 ^ 64
cell_small (pos n) = omega arith
cell_small (negsuc n) = omega arith

unsigned_back : (v : ℤ) → pos 0 ≤ℤ v → v <ℤ pos (2 ^ 64) → pos (cell v) ≡ v
unsigned_back (pos n) low high = let e : n % 2 ^ 64 ≡ n = omega (arith, ints) in ap pos e
unsigned_back (negsuc n) low high = absurd (omega (arith, ints))

signed_back : (v : ℤ) → neg_ℤ (pos (2 ^ 63)) ≤ℤ v → v <ℤ pos (2 ^ 63) → with_sign ty.S64 (cell v) ≡ v
signed_back (pos n) low high = go (nat_lt (n % 2 ^ 64) (2 ^ 63)) refl
  where
    go : (b : Bool) → nat_lt (n % 2 ^ 64) (2 ^ 63) ≡ b → (if b then pos (n % 2 ^ 64) else pos (n % 2 ^ 64) -ℤ pos (2 ^ 64)) ≡ pos n
    go true e = let same : n % 2 ^ 64 ≡ n = omega (arith, ints) in ap pos same
    go false e = let h = ltb-false _ _ e in absurd (omega (arith, ints, h))
signed_back (negsuc m) low high = go (nat_lt (2 ^ 64 - 1 - m % 2 ^ 64) (2 ^ 63)) refl
  where
    go : (b : Bool) → nat_lt (2 ^ 64 - 1 - m % 2 ^ 64) (2 ^ 63) ≡ b → (if b then pos (2 ^ 64 - 1 - m % 2 ^ 64) else pos (2 ^ 64 - 1 - m % 2 ^ 64) -ℤ pos (2 ^ 64)) ≡ negsuc m
    go true e = let h = ltb-true _ _ e in absurd (omega (arith, ints, h))
    go false e = omega (arith, ints)

pub constant_back : (t : Ty) (v : ℤ) → t ≢ ty.None → IsValue t v → with_sign (cell_type t) (cell v) ≡ v
constant_back ty.None v some h = absurd (some refl)
constant_back ty.Bool v some h = unsigned_back v (grind (arith, ints)) (grind (arith, ints))
constant_back ty.U8 v some h = unsigned_back v (grind (arith, ints)) (grind (arith, ints))
constant_back ty.U16 v some h = unsigned_back v (grind (arith, ints)) (grind (arith, ints))
constant_back ty.U32 v some h = unsigned_back v (grind (arith, ints)) (grind (arith, ints))
constant_back ty.U64 v some h = unsigned_back v (grind (arith, ints)) (grind (arith, ints))
constant_back ty.S8 v some h = signed_back v (grind (arith, ints)) (grind (arith, ints))
constant_back ty.S16 v some h = signed_back v (grind (arith, ints)) (grind (arith, ints))
constant_back ty.S32 v some h = signed_back v (grind (arith, ints)) (grind (arith, ints))
constant_back ty.S64 v some h = signed_back v (grind (arith, ints)) (grind (arith, ints))
