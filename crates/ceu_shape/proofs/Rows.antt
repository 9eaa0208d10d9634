-- Kernels whose code is computed.
use Rattle.std.proofs.Common.{◌≡◌, refl, pos, ℕ, [], ◌∷◌, List, Some, None, codes}
use Rattle.ceu_base.specs.declared.kinds.Ty.TheVariants as ty
use Rattle.ceu_tree.specs.declared.kernel.Kernel.{Kernel}
use Rattle.ceu_tree.specs.declared.kernel.ParKind.TheVariants as par
use Rattle.ceu_tree.specs.declared.kernel.KStmt as k
use Rattle.ceu_tree.proofs.Build.{node, const, block, port, kernel}
use Rattle.ceu_shape.specs.Plans.{Plan, plan_of}
use Rattle.ceu_shape.specs.Shape.{shape, begin_offset, finish_offset}
use Rattle.ceu_shape.proofs.Build.{coded}

no_numbers : ℕ → ℕ
no_numbers n = 0

-- input none A; output int O;
-- par/or do
--   await A;
-- with
--   do finalize with emit O(1); end
--   do finalize with emit O(2); end
--   do
--     do finalize with emit O(3); end
--     await FOREVER;
--   end
-- end
-- escape 0;
finalizers : Kernel
unfolding block
finalizers =
    kernel (block 0 ([]) (node 1 2 1 (k.Par par.Or 0 ((block 2 ([]) (node 3 3 3 (k.AwaitIn 0 None) ∷ [])) ∷ (block 4 ([]) (node 5 5 3 (k.Finalize
    (block 6 ([]) (node 7 5 20 (k.Out 0 (Some (const ty.S32 5 27 (pos 1)))) ∷ []))) ∷ node 8 6 3 (k.Finalize (block 9 ([]) (node 10 6 20 (k.Out 0
    (Some (const ty.S32 6 27 (pos 2)))) ∷ []))) ∷ node 11 7 3 (k.Do None (block 12 ([]) (node 13 8 5 (k.Finalize (block 14 ([]) (node 15 8 22
    (k.Out 0 (Some (const ty.S32 8 29 (pos 3)))) ∷ []))) ∷ node 16 9 5 k.Forever ∷ []))) ∷ [])) ∷ [])) ∷ node 17 12 1 (k.Escape 0 (Some (const
    ty.S32 12 8 (pos 0)))) ∷ [])) ([]) ((port ty.None (codes "A")) ∷ []) ((port ty.S32 (codes "O")) ∷ []) ([])

finalizers_plan : Plan
finalizers_plan =
    plan_of no_numbers no_numbers 0
    (0 ∷ 0 ∷ 0 ∷ 0 ∷ 1 ∷ 1 ∷ 1 ∷ 1 ∷ 2 ∷ 2 ∷ 2 ∷ 3 ∷ 3 ∷ 3 ∷ 3 ∷ 3 ∷ 4 ∷ 0 ∷ [])
    (5 ∷ 5 ∷ 1 ∷ 1 ∷ 4 ∷ 1 ∷ 1 ∷ 1 ∷ 1 ∷ 1 ∷ 1 ∷ 2 ∷ 2 ∷ 1 ∷ 1 ∷ 1 ∷ 1 ∷ 1 ∷ [])

finalizers_code : (shape finalizers_plan finalizers 4 0).code ≡
    25 ∷ 0 ∷ 0 ∷ 24 ∷ 1 ∷ 0 ∷ 31 ∷ 0 ∷ 9 ∷ 19 ∷ 0 ∷ 27 ∷ 0 ∷ 0 ∷ 5 ∷ 0 ∷ 9 ∷ 174 ∷ 0 ∷ 25 ∷ 0 ∷ 0 ∷ 16 ∷ 0 ∷ 0 ∷ 9 ∷ 28 ∷ 0 ∷ 9 ∷ 11 ∷ 0 ∷ 25 ∷ 3 ∷
    0 ∷ 28 ∷ 1 ∷ 0 ∷ 45 ∷ 0 ∷ 0 ∷ 0 ∷ 9 ∷ 71 ∷ 0 ∷ 29 ∷ 9 ∷ 55 ∷ 0 ∷ 13 ∷ 0 ∷ 0 ∷ 7 ∷ 9 ∷ 68 ∷ 0 ∷ 1 ∷ 7 ∷ 1 ∷ 0 ∷ 0 ∷ 0 ∷ 0 ∷ 0 ∷ 0 ∷ 0 ∷ 9 ∷ 48 ∷
    0 ∷ 9 ∷ 44 ∷ 0 ∷ 28 ∷ 2 ∷ 0 ∷ 82 ∷ 0 ∷ 1 ∷ 0 ∷ 9 ∷ 108 ∷ 0 ∷ 29 ∷ 9 ∷ 92 ∷ 0 ∷ 13 ∷ 0 ∷ 0 ∷ 7 ∷ 9 ∷ 105 ∷ 0 ∷ 1 ∷ 7 ∷ 2 ∷ 0 ∷ 0 ∷ 0 ∷ 0 ∷ 0 ∷ 0 ∷
    0 ∷ 9 ∷ 85 ∷ 0 ∷ 9 ∷ 81 ∷ 0 ∷ 9 ∷ 114 ∷ 0 ∷ 9 ∷ 166 ∷ 0 ∷ 25 ∷ 4 ∷ 0 ∷ 28 ∷ 3 ∷ 0 ∷ 128 ∷ 0 ∷ 2 ∷ 0 ∷ 9 ∷ 154 ∷ 0 ∷ 29 ∷ 9 ∷ 138 ∷ 0 ∷ 13 ∷ 0 ∷
    0 ∷ 7 ∷ 9 ∷ 151 ∷ 0 ∷ 1 ∷ 7 ∷ 3 ∷ 0 ∷ 0 ∷ 0 ∷ 0 ∷ 0 ∷ 0 ∷ 0 ∷ 9 ∷ 131 ∷ 0 ∷ 9 ∷ 127 ∷ 0 ∷ 25 ∷ 4 ∷ 0 ∷ 19 ∷ 27 ∷ 3 ∷ 0 ∷ 1 ∷ 0 ∷ 9 ∷ 111 ∷ 0 ∷
    27 ∷ 1 ∷ 0 ∷ 2 ∷ 0 ∷ 9 ∷ 11 ∷ 0 ∷ 9 ∷ 186 ∷ 0 ∷ 12 ∷ 27 ∷ 0 ∷ 0 ∷ 5 ∷ 0 ∷ 9 ∷ 210 ∷ 0 ∷ 1 ∷ 7 ∷ 0 ∷ 0 ∷ 0 ∷ 0 ∷ 0 ∷ 0 ∷ 0 ∷ 0 ∷ 9 ∷ 177 ∷ 0 ∷ 1 ∷
    7 ∷ 0 ∷ 0 ∷ 0 ∷ 0 ∷ 0 ∷ 0 ∷ 0 ∷ 0 ∷ 12 ∷ 14 ∷ []
unfolding finalizers finalizers_plan no_numbers coded
finalizers_code = refl

-- the await of A goes on behind its instruction, the second branch begins at its block, the inner await FOREVER stands behind its own
finalizers_awaits : finish_offset finalizers_plan finalizers 3 ≡ 25
unfolding finalizers finalizers_plan no_numbers coded
finalizers_awaits = refl

finalizers_begins : begin_offset finalizers_plan finalizers 4 ≡ 31
unfolding finalizers finalizers_plan no_numbers coded
finalizers_begins = refl

finalizers_stands : finish_offset finalizers_plan finalizers 16 ≡ 158
unfolding finalizers finalizers_plan no_numbers coded
finalizers_stands = refl
