-- The values of a type as cells.
use Rattle.std.proofs.Common.{◌≢◌, refl, arith, inl, inr}
use Rattle.std.specs.Prelude.{ℤ, pos, negsuc}
use Rattle.ceu_base.specs.Values.{IsValue}
use Rattle.ceu_base.specs.declared.kinds.Ty.{Ty}
use Rattle.ceu_base.specs.declared.kinds.Ty.TheVariants as ty
use Rattle.ceu_code.specs.Table.{InEither, small_cells, negative_cells}
use Rattle.ceu_code.specs.Instructions.{cell}

pub value_cells : (t : Ty) (v : ℤ) → t ≢ ty.None → IsValue t v → InEither (small_cells t) (negative_cells t) (cell v)
value_cells ty.None v p h = absurd (p refl)
value_cells ty.Bool (pos n) p h = inl (grind arith)
value_cells ty.U8 (pos n) p h = inl (grind arith)
value_cells ty.U16 (pos n) p h = inl (grind arith)
value_cells ty.U32 (pos n) p h = inl (grind arith)
value_cells ty.U64 (pos n) p h = inl (grind arith)
value_cells ty.S8 (pos n) p h = inl (grind arith)
value_cells ty.S16 (pos n) p h = inl (grind arith)
value_cells ty.S32 (pos n) p h = inl (grind arith)
value_cells ty.S64 (pos n) p h = inl (grind arith)
value_cells ty.Bool (negsuc n) p h = absurd (grind arith)
value_cells ty.U8 (negsuc n) p h = absurd (grind arith)
value_cells ty.U16 (negsuc n) p h = absurd (grind arith)
value_cells ty.U32 (negsuc n) p h = absurd (grind arith)
value_cells ty.U64 (negsuc n) p h = absurd (grind arith)
value_cells ty.S8 (negsuc n) p h = inr (grind arith)
value_cells ty.S16 (negsuc n) p h = inr (grind arith)
value_cells ty.S32 (negsuc n) p h = inr (grind arith)
value_cells ty.S64 (negsuc n) p h = inr (grind arith)
