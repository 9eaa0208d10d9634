-- The value of an expression, or its fault with the position of the operator (this project's own arithmetic).
use Rattle.std.specs.Prelude.{ℕ, ℤ, pos, Bool, false, if◌then◌else◌, List, [], ◌∷◌, Result, Ok, Err, Option, Some, None}
use Rattle.ceu_base.specs.declared.kinds.Ty.{Ty}
use Rattle.ceu_base.specs.declared.kinds.Pos.{Pos}
use Rattle.ceu_base.specs.declared.kinds.Fault.{Fault}
use Rattle.ceu_base.specs.declared.kinds.Op2.{Op2}
use Rattle.ceu_base.specs.declared.kinds.Op2.TheVariants.{Or, And}
use Rattle.ceu_base.specs.Values.{applied1, applied2, wrapped, of_test, same}
use Rattle.ceu_tree.specs.declared.kernel.KExp.{KExp}
use Rattle.ceu_tree.specs.declared.kernel.KExpNode.{KExpNode, Row_of-KExp, end_of-KExp, more_of-KExp, Const, Read, Alive, One', Two', As'}
use Rattle.ceu_tree.specs.Residual.{Body}
use Rattle.ceu_tree.specs.World.{Cell, Holds, Names, World, look, place_of, is_among}

abbrev pub Answer : Type 0
Answer = Result ℤ (Fault × Pos)

-- A slot without a value reads as 0. In a proper kernel no such slot is read.
abbrev pub number_in : Option Cell → ℤ
number_in (Some (Holds v)) = v
number_in _ = pos 0

-- whether an alias is set and its instance still lives
abbrev pub names_living : Option Cell → List ℕ → Bool
names_living (Some (Names n)) living = is_among n living
names_living _ living = false

abbrev pub and_then : {A B : Type 0} → Result A (Fault × Pos) → (A → Result B (Fault × Pos)) → Result B (Fault × Pos)
and_then (Ok v) f = f v
and_then (Err e) f = Err e

-- a fault of an operator stands at the operator
abbrev pub at : Pos → Result ℤ Fault → Answer
at p (Ok v) = Ok v
at p (Err f) = Err (f, p)

-- where the left operand decides
abbrev pub decides : Op2 → ℤ → Bool
decides Or v = same v (pos 1)
decides And v = same v (pos 0)
decides _ v = false

-- The type of an operator's result is that of the expression; a comparison needs no type.
unfoldable mutual
  pub node_value : KExpNode → Ty → Pos → Body → World → Answer
  node_value (Const v) t p body w = Ok v
  node_value (Read l) t p body w = Ok (number_in (look (place_of l body) l.slot w.values))
  node_value (Alive c) t p body w = Ok (of_test (names_living (look body c w.values) w.living))
  node_value (One' op _ a) t p body w = and_then (operand_value a body w) (λ x. at p (applied1 op t x))
  node_value (Two' op _ a _ b) t p body w =
      and_then (operand_value a body w) (λ x. if decides op x then Ok x else and_then (operand_value b body w) (λ y. at p (applied2 op t x y)))
  node_value (As' _ a) t p body w = and_then (operand_value a body w) (λ x. Ok (wrapped t x))

  -- of an operand, which is a list of one
  pub operand_value : {n : _} → Row_of-KExp n → Body → World → Answer
  operand_value end_of-KExp body w = Ok (pos 0)
  operand_value (more_of-KExp t p e rest) body w = node_value e t p body w

unfoldable pub value_of : KExp → Body → World → Answer
value_of e body w = node_value e.node e.ty e.pos body w

-- no expression gives 0
abbrev pub value_if : Option KExp → Body → World → Answer
value_if None body w = Ok (pos 0)
value_if (Some e) body w = value_of e body w

-- from left to right
abbrev pub values_of : List KExp → Body → World → Result (List ℤ) (Fault × Pos)
values_of [] body w = Ok []
values_of (e ∷ es) body w = and_then (value_of e body w) (λ v. and_then (values_of es body w) (λ vs. Ok (v ∷ vs)))
