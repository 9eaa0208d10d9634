-- The code of small kernels prints the marks of the reference semantics, by computation: trails, timers, events and finalizers.
use Rattle.ceu_base.specs.declared.kinds.Op2.TheVariants as op2
use Rattle.ceu_base.specs.declared.kinds.Ty.TheVariants as ty
use Rattle.ceu_tree.proofs.Build.{node, const, read, two, loc, declared, block, port, event, kernel}
use Rattle.ceu_tree.specs.declared.command.Command.TheVariants.{Input, Advance}
use Rattle.ceu_tree.specs.declared.kernel.KKind.TheVariants as kind
use Rattle.ceu_tree.specs.declared.kernel.KLoop.TheVariants as turns
use Rattle.ceu_tree.specs.declared.kernel.KStmt as k
use Rattle.ceu_tree.specs.declared.kernel.Kernel.{Kernel}
use Rattle.ceu_tree.specs.declared.kernel.ParKind.TheVariants as par
use Rattle.ceu_tree.specs.declared.kernel.Unit.TheVariants as unit
use Rattle.std.proofs.Common.{◌≡◌, refl, pos, false, [], ◌∷◌, Some, None, codes}
use Rattle.ceu_tree.specs.Run.{world_of, run}
use Rattle.ceu_isa.specs.Commands.{marks_of}
use Rattle.ceu_shape.specs.Shape.{shape}
use Rattle.laws_promise_examples.proofs.Build.{planned, machine, both_run}

-- escape 1;
escapes : Kernel
unfolding block
escapes =
    kernel (block 0 ([]) (node 1 1 1 (k.Escape 0 (Some (const ty.S32 1 8 (pos 1)))) ∷ [])) ([]) ([]) ([]) ([])

escapes_runs : marks_of (machine (shape (planned escapes) escapes 1 0) ([])) ≡ (world_of (run escapes 20000 ([]))).marks
unfolding escapes both_run
escapes_runs = refl

-- input int A;
-- output int O;
-- var int x = await A;
-- emit O(x);
-- escape x;
echo : Kernel
unfolding block
echo =
    kernel (block 0 ((declared 0 (kind.Var ty.S32)) ∷ []) (node 1 3 1 (k.AwaitIn 0 (Some (loc false 0 ty.S32))) ∷ node 2 4 1 (k.Out 0 (Some (read
    ty.S32 4 8 (loc false 0 ty.S32)))) ∷ node 3 5 1 (k.Escape 0 (Some (read ty.S32 5 8 (loc false 0 ty.S32)))) ∷ [])) ([]) ((port ty.S32 (codes
    "A")) ∷ []) ((port ty.S32 (codes "O")) ∷ []) ([])

echo_runs : marks_of (machine (shape (planned echo) echo 1 0) (Input 0 (pos 5) ∷ [])) ≡ (world_of (run echo 20000 (Input 0 (pos 5) ∷ []))).marks
unfolding echo both_run
echo_runs = refl

-- input none A; output int O;
-- par do every A do emit O(2); end
-- with every A do emit O(1); end
-- end
in_order : Kernel
unfolding block
in_order =
    kernel (block 0 ([]) (node 1 2 1 (k.Par par.Never 0 ((block 2 ([]) (node 3 2 8 (k.Loop turns.Free (block 4 ([]) (node 5 2 8 (k.AwaitIn 0 None) ∷
    node 6 2 19 (k.Out 0 (Some (const ty.S32 2 26 (pos 2)))) ∷ []))) ∷ [])) ∷ (block 7 ([]) (node 8 3 6 (k.Loop turns.Free (block 9 ([]) (node 10
    3 6 (k.AwaitIn 0 None) ∷ node 11 3 17 (k.Out 0 (Some (const ty.S32 3 24 (pos 1)))) ∷ []))) ∷ [])) ∷ [])) ∷ [])) ([]) ((port ty.None (codes
    "A")) ∷ []) ((port ty.S32 (codes "O")) ∷ []) ([])

in_order_runs : marks_of (machine (shape (planned in_order) in_order 2 0) (Input 0 (pos 0) ∷ [])) ≡ (world_of (run in_order 20000 (Input 0 (pos 0) ∷ []))).marks
unfolding in_order both_run
in_order_runs = refl

-- output int O;
-- var int d = await 10ms;
-- emit O(d);
-- d = await 1ms;
-- emit O(d);
-- await FOREVER;
late_timer : Kernel
unfolding block
late_timer =
    kernel (block 0 ((declared 0 (kind.Var ty.S32)) ∷ []) (node 1 2 1 (k.AwaitTime (const ty.S64 2 1 (pos 10000)) unit.Us (Some (loc false 0 ty.S32)))
    ∷ node 2 3 1 (k.Out 0 (Some (read ty.S32 3 8 (loc false 0 ty.S32)))) ∷ node 3 4 1 (k.AwaitTime (const ty.S64 4 1 (pos 1000)) unit.Us (Some
    (loc false 0 ty.S32))) ∷ node 4 5 1 (k.Out 0 (Some (read ty.S32 5 8 (loc false 0 ty.S32)))) ∷ node 5 6 1 k.Forever ∷ [])) ([]) ([]) ((port
    ty.S32 (codes "O")) ∷ []) ([])

late_timer_runs : marks_of (machine (shape (planned late_timer) late_timer 1 0) (Advance 15000 ∷ [])) ≡ (world_of (run late_timer 20000 (Advance 15000 ∷ []))).marks
unfolding late_timer both_run
late_timer_runs = refl

-- output int O;
-- par/and do
--     await 5ms; await 5ms; emit O(1);
-- with
--     await 10ms; emit O(2);
-- end
-- escape 0;
same_time : Kernel
unfolding block
same_time =
    kernel (block 0 ([]) (node 1 2 1 (k.Par par.And 0 ((block 2 ([]) (node 3 3 5 (k.AwaitTime (const ty.S64 3 5 (pos 5000)) unit.Us None) ∷ node 4 3
    16 (k.AwaitTime (const ty.S64 3 16 (pos 5000)) unit.Us None) ∷ node 5 3 27 (k.Out 0 (Some (const ty.S32 3 34 (pos 1)))) ∷ [])) ∷ (block 6 ([])
    (node 7 5 5 (k.AwaitTime (const ty.S64 5 5 (pos 10000)) unit.Us None) ∷ node 8 5 17 (k.Out 0 (Some (const ty.S32 5 24 (pos 2)))) ∷ [])) ∷ []))
    ∷ node 9 7 1 (k.Escape 0 (Some (const ty.S32 7 8 (pos 0)))) ∷ [])) ([]) ([]) ((port ty.S32 (codes "O")) ∷ []) ([])

same_time_runs : marks_of (machine (shape (planned same_time) same_time 2 0) (Advance 10000 ∷ [])) ≡ (world_of (run same_time 20000 (Advance 10000 ∷ []))).marks
unfolding same_time both_run
same_time_runs = refl

-- output int O;
-- event none e;
-- par/or do
--     await e;
-- with
--     emit e;
--     emit O(1);
-- end
-- emit O(2);
emitter_gone : Kernel
unfolding block
emitter_gone =
    kernel (block 0 ([]) (node 1 3 1 (k.Par par.Or 0 ((block 2 ([]) (node 3 4 5 (k.AwaitEvent 0 None) ∷ [])) ∷ (block 4 ([]) (node 5 6 5 (k.Emit 0
    None) ∷ node 6 7 5 (k.Out 0 (Some (const ty.S32 7 12 (pos 1)))) ∷ [])) ∷ [])) ∷ node 7 9 1 (k.Out 0 (Some (const ty.S32 9 8 (pos 2)))) ∷ []))
    ([]) ([]) ((port ty.S32 (codes "O")) ∷ []) ((event ty.None None) ∷ [])

emitter_gone_runs : marks_of (machine (shape (planned emitter_gone) emitter_gone 4 1) ([])) ≡ (world_of (run emitter_gone 20000 ([]))).marks
unfolding emitter_gone both_run
emitter_gone_runs = refl

-- output int O;
-- event none e;
-- par/or do
--     every e do emit O(1); end
-- with
--     emit e; emit e;
-- end
emitted_twice : Kernel
unfolding block
emitted_twice =
    kernel (block 0 ([]) (node 1 3 1 (k.Par par.Or 0 ((block 2 ([]) (node 3 4 5 (k.Loop turns.Free (block 4 ([]) (node 5 4 5 (k.AwaitEvent 0 None) ∷
    node 6 4 16 (k.Out 0 (Some (const ty.S32 4 23 (pos 1)))) ∷ []))) ∷ [])) ∷ (block 7 ([]) (node 8 6 5 (k.Emit 0 None) ∷ node 9 6 13 (k.Emit 0
    None) ∷ [])) ∷ [])) ∷ [])) ([]) ([]) ((port ty.S32 (codes "O")) ∷ []) ((event ty.None None) ∷ [])

emitted_twice_runs : marks_of (machine (shape (planned emitted_twice) emitted_twice 6 2) ([])) ≡ (world_of (run emitted_twice 20000 ([]))).marks
unfolding emitted_twice both_run
emitted_twice_runs = refl

-- input none A; output int O;
-- par/or do
--   await A;
-- with
--   do finalize with emit O(1); end
--   do finalize with emit O(2); end
--   do
--     do finalize with emit O(3); end
--     await FOREVER;
--   end
-- end
-- escape 0;
finalizers : Kernel
unfolding block
finalizers =
    kernel (block 0 ([]) (node 1 2 1 (k.Par par.Or 0 ((block 2 ([]) (node 3 3 3 (k.AwaitIn 0 None) ∷ [])) ∷ (block 4 ([]) (node 5 5 3 (k.Finalize
    (block 6 ([]) (node 7 5 20 (k.Out 0 (Some (const ty.S32 5 27 (pos 1)))) ∷ []))) ∷ node 8 6 3 (k.Finalize (block 9 ([]) (node 10 6 20 (k.Out 0
    (Some (const ty.S32 6 27 (pos 2)))) ∷ []))) ∷ node 11 7 3 (k.Do None (block 12 ([]) (node 13 8 5 (k.Finalize (block 14 ([]) (node 15 8 22
    (k.Out 0 (Some (const ty.S32 8 29 (pos 3)))) ∷ []))) ∷ node 16 9 5 k.Forever ∷ []))) ∷ [])) ∷ [])) ∷ node 17 12 1 (k.Escape 0 (Some (const
    ty.S32 12 8 (pos 0)))) ∷ [])) ([]) ((port ty.None (codes "A")) ∷ []) ((port ty.S32 (codes "O")) ∷ []) ([])

finalizers_runs : marks_of (machine (shape (planned finalizers) finalizers 2 0) (Input 0 (pos 0) ∷ [])) ≡ (world_of (run finalizers 20000 (Input 0 (pos 0) ∷ []))).marks
unfolding finalizers both_run
finalizers_runs = refl

-- output int O;
-- var int x = 0, y = 0;
-- do finalize with emit O(9); end
-- emit O(1);
-- x = 1 / y;
zero_divisor : Kernel
unfolding block
zero_divisor =
    kernel (block 0 ((declared 0 (kind.Var ty.S32)) ∷ (declared 1 (kind.Var ty.S32)) ∷ []) (node 1 2 1 (k.Assign (loc false 0 ty.S32) (const ty.S32 2
    13 (pos 0))) ∷ node 2 2 1 (k.Assign (loc false 1 ty.S32) (const ty.S32 2 20 (pos 0))) ∷ node 3 3 1 (k.Finalize (block 4 ([]) (node 5 3 18
    (k.Out 0 (Some (const ty.S32 3 25 (pos 9)))) ∷ []))) ∷ node 6 4 1 (k.Out 0 (Some (const ty.S32 4 8 (pos 1)))) ∷ node 7 5 1 (k.Assign (loc
    false 0 ty.S32) (two ty.S32 5 7 op2.Div (const ty.S32 5 5 (pos 1)) (read ty.S32 5 9 (loc false 1 ty.S32)))) ∷ [])) ([]) ([]) ((port ty.S32
    (codes "O")) ∷ []) ([])

zero_divisor_runs : marks_of (machine (shape (planned zero_divisor) zero_divisor 1 0) ([])) ≡ (world_of (run zero_divisor 20000 ([]))).marks
unfolding zero_divisor both_run
zero_divisor_runs = refl

-- input int A; output int O;
-- var int x;
-- every x in A do
--     emit O(x + 0);
--     emit O(x + 1);
-- end
overflow : Kernel
unfolding block
overflow =
    kernel (block 0 ((declared 0 (kind.Var ty.S32)) ∷ []) (node 1 2 1 (k.Assign (loc false 0 ty.S32) (const ty.S32 2 1 (pos 0))) ∷ node 2 3 1 (k.Loop
    turns.Free (block 3 ([]) (node 4 3 1 (k.AwaitIn 0 (Some (loc false 0 ty.S32))) ∷ node 5 4 5 (k.Out 0 (Some (two ty.S32 4 14 op2.Add (read
    ty.S32 4 12 (loc false 0 ty.S32)) (const ty.S32 4 16 (pos 0))))) ∷ node 6 5 5 (k.Out 0 (Some (two ty.S32 5 14 op2.Add (read ty.S32 5 12 (loc
    false 0 ty.S32)) (const ty.S32 5 16 (pos 1))))) ∷ []))) ∷ [])) ([]) ((port ty.S32 (codes "A")) ∷ []) ((port ty.S32 (codes "O")) ∷ []) ([])

overflow_runs : marks_of (machine (shape (planned overflow) overflow 1 0) (Input 0 (pos 2147483647) ∷ [])) ≡ (world_of (run overflow 20000 (Input 0 (pos 2147483647) ∷ []))).marks
unfolding overflow both_run
overflow_runs = refl
