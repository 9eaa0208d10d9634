-- The same: code, pools and nested emissions.
use Rattle.ceu_base.specs.declared.kinds.Op1.TheVariants as op1
use Rattle.ceu_base.specs.declared.kinds.Op2.TheVariants as op2
use Rattle.ceu_base.specs.declared.kinds.Ty.TheVariants as ty
use Rattle.ceu_tree.proofs.Build.{node, const, read, alive, two, loc, arm, declared, block, port, event, coded, kernel, one}
use Rattle.ceu_tree.specs.declared.command.Command.TheVariants.{Input, Advance}
use Rattle.ceu_tree.specs.declared.kernel.KKind.TheVariants as kind
use Rattle.ceu_tree.specs.declared.kernel.KLoop.TheVariants as turns
use Rattle.ceu_tree.specs.declared.kernel.KStmt as k
use Rattle.ceu_tree.specs.declared.kernel.Kernel.{Kernel}
use Rattle.ceu_tree.specs.declared.kernel.ParKind.TheVariants as par
use Rattle.ceu_tree.specs.declared.kernel.Unit.TheVariants as unit
use Rattle.std.proofs.Common.{◌≡◌, refl, pos, false, [], ◌∷◌, Some, None, codes}
use Rattle.ceu_tree.specs.Run.{world_of, run}
use Rattle.ceu_isa.specs.Commands.{marks_of}
use Rattle.ceu_shape.specs.Shape.{shape}
use Rattle.laws_promise_examples.proofs.Build.{planned, machine, both_run}

-- output int O;
-- code/await Tick (var int n) -> none do
--     emit O(n);
--     await 10ms;
--     emit O(n + 100);
-- end
-- pool[1] Tick p;
-- var&? Tick a = spawn Tick(1) in p;
-- var&? Tick b = spawn Tick(2) in p;
-- if a? then emit O(10); end
-- if b? then emit O(20); end
-- await FOREVER;
pool_full : Kernel
unfolding block
pool_full =
    kernel (block 0 ((declared 0 (kind.Pool 1 0)) ∷ (declared 1 (kind.Alias 0)) ∷ (declared 2 (kind.Alias 0)) ∷ []) (node 1 8 16 (k.Spawn 0 ((const
    ty.S32 8 27 (pos 1)) ∷ []) 0 (Some 1)) ∷ node 2 9 16 (k.Spawn 0 ((const ty.S32 9 27 (pos 2)) ∷ []) 0 (Some 2)) ∷ node 3 10 1 (k.If ((arm
    (alive ty.Bool 10 5 1) (block 4 ([]) (node 5 10 12 (k.Out 0 (Some (const ty.S32 10 19 (pos 10)))) ∷ []))) ∷ []) (block 6 ([]) ([]))) ∷ node 7
    11 1 (k.If ((arm (alive ty.Bool 11 5 2) (block 8 ([]) (node 9 11 12 (k.Out 0 (Some (const ty.S32 11 19 (pos 20)))) ∷ []))) ∷ []) (block 10
    ([]) ([]))) ∷ node 11 12 1 k.Forever ∷ [])) ((coded ((declared 3 (kind.Var ty.S32)) ∷ []) ty.None (block 12 ([]) (node 13 3 5 (k.Out 0 (Some
    (read ty.S32 3 12 (loc false 3 ty.S32)))) ∷ node 14 4 5 (k.AwaitTime (const ty.S64 4 5 (pos 10000)) unit.Us None) ∷ node 15 5 5 (k.Out 0 (Some
    (two ty.S32 5 14 op2.Add (read ty.S32 5 12 (loc false 3 ty.S32)) (const ty.S32 5 16 (pos 100))))) ∷ []))) ∷ []) ([]) ((port ty.S32 (codes
    "O")) ∷ []) ([])

pool_full_runs : marks_of (machine (shape (planned pool_full) pool_full 5 2) (Advance 10000 ∷ [])) ≡ (world_of (run pool_full 20000 (Advance 10000 ∷ []))).marks
unfolding pool_full both_run
pool_full_runs = refl

-- output int O;
-- event none e;
-- code/await Ping (var int n) -> none do
--     emit O(n);
--     emit outer.e;
--     emit O(n + 1);
--     await FOREVER;
-- end
-- pool[1] Ping p;
-- var&? Ping c;
-- par do
--     await e;
--     kill c;
--     c = spawn Ping(7) in p;
--     await FOREVER;
-- with
--     c = spawn Ping(1) in p;
--     emit O(99);
--     await FOREVER;
-- end
killed_place : Kernel
unfolding block
killed_place =
    kernel (block 0 ((declared 0 (kind.Pool 1 0)) ∷ (declared 1 (kind.Alias 0)) ∷ []) (node 1 10 1 (k.Unset 1) ∷ node 2 11 1 (k.Par par.Never 0
    ((block 3 ([]) (node 4 12 5 (k.AwaitEvent 0 None) ∷ node 5 13 5 (k.Kill 1) ∷ node 6 14 9 (k.Spawn 0 ((const ty.S32 14 20 (pos 7)) ∷ []) 0
    (Some 1)) ∷ node 7 15 5 k.Forever ∷ [])) ∷ (block 8 ([]) (node 9 17 9 (k.Spawn 0 ((const ty.S32 17 20 (pos 1)) ∷ []) 0 (Some 1)) ∷ node 10 18
    5 (k.Out 0 (Some (const ty.S32 18 12 (pos 99)))) ∷ node 11 19 5 k.Forever ∷ [])) ∷ [])) ∷ [])) ((coded ((declared 2 (kind.Var ty.S32)) ∷ [])
    ty.None (block 12 ([]) (node 13 4 5 (k.Out 0 (Some (read ty.S32 4 12 (loc false 2 ty.S32)))) ∷ node 14 5 5 (k.Emit 0 None) ∷ node 15 6 5
    (k.Out 0 (Some (two ty.S32 6 14 op2.Add (read ty.S32 6 12 (loc false 2 ty.S32)) (const ty.S32 6 16 (pos 1))))) ∷ node 16 7 5 k.Forever ∷ [])))
    ∷ []) ([]) ((port ty.S32 (codes "O")) ∷ []) ((event ty.None None) ∷ [])

killed_place_runs : marks_of (machine (shape (planned killed_place) killed_place 9 4) ([])) ≡ (world_of (run killed_place 20000 ([]))).marks
unfolding killed_place both_run
killed_place_runs = refl

-- output int O;
-- event none e, f;
-- par/or do
--     await f;
-- with
--     await e;
--     emit f;
--     emit O(1);
-- with
--     emit e;
--     emit O(2);
-- end
-- emit O(3);
two_levels_up : Kernel
unfolding block
two_levels_up =
    kernel (block 0 ([]) (node 1 3 1 (k.Par par.Or 0 ((block 2 ([]) (node 3 4 5 (k.AwaitEvent 1 None) ∷ [])) ∷ (block 4 ([]) (node 5 6 5 (k.AwaitEvent
    0 None) ∷ node 6 7 5 (k.Emit 1 None) ∷ node 7 8 5 (k.Out 0 (Some (const ty.S32 8 12 (pos 1)))) ∷ [])) ∷ (block 8 ([]) (node 9 10 5 (k.Emit 0
    None) ∷ node 10 11 5 (k.Out 0 (Some (const ty.S32 11 12 (pos 2)))) ∷ [])) ∷ [])) ∷ node 11 13 1 (k.Out 0 (Some (const ty.S32 13 8 (pos 3)))) ∷
    [])) ([]) ([]) ((port ty.S32 (codes "O")) ∷ []) ((event ty.None None) ∷ (event ty.None None) ∷ [])

two_levels_up_runs : marks_of (machine (shape (planned two_levels_up) two_levels_up 7 2) ([])) ≡ (world_of (run two_levels_up 20000 ([]))).marks
unfolding two_levels_up both_run
two_levels_up_runs = refl

-- input none A; output int O;
-- code/await Job (var int n) -> none do
--     do finalize with emit O(-n); end
--     every A do emit O(n); end
-- end
-- pool[2] Job p;
-- var&? Job c = spawn Job(1) in p;
-- spawn Job(2) in p;
-- kill c;
-- spawn Job(3) in p;
-- await A;
-- escape 0;
by_age : Kernel
unfolding block
by_age =
    kernel (block 0 ((declared 0 (kind.Pool 2 0)) ∷ (declared 1 (kind.Alias 0)) ∷ []) (node 1 7 15 (k.Spawn 0 ((const ty.S32 7 25 (pos 1)) ∷ []) 0
    (Some 1)) ∷ node 2 8 1 (k.Spawn 0 ((const ty.S32 8 11 (pos 2)) ∷ []) 0 None) ∷ node 3 9 1 (k.Kill 1) ∷ node 4 10 1 (k.Spawn 0 ((const ty.S32
    10 11 (pos 3)) ∷ []) 0 None) ∷ node 5 11 1 (k.AwaitIn 0 None) ∷ node 6 12 1 (k.Escape 0 (Some (const ty.S32 12 8 (pos 0)))) ∷ [])) ((coded
    ((declared 2 (kind.Var ty.S32)) ∷ []) ty.None (block 7 ([]) (node 8 3 5 (k.Finalize (block 9 ([]) (node 10 3 22 (k.Out 0 (Some (one ty.S32 3
    29 op1.Neg (read ty.S32 3 30 (loc false 2 ty.S32))))) ∷ []))) ∷ node 11 4 5 (k.Loop turns.Free (block 12 ([]) (node 13 4 5 (k.AwaitIn 0 None)
    ∷ node 14 4 16 (k.Out 0 (Some (read ty.S32 4 23 (loc false 2 ty.S32)))) ∷ []))) ∷ []))) ∷ []) ((port ty.None (codes "A")) ∷ []) ((port ty.S32
    (codes "O")) ∷ []) ([])

by_age_runs : marks_of (machine (shape (planned by_age) by_age 7 3) (Input 0 (pos 0) ∷ [])) ≡ (world_of (run by_age 20000 (Input 0 (pos 0) ∷ []))).marks
unfolding by_age both_run
by_age_runs = refl

-- output int O;
-- var int y = 0;
-- do finalize with emit O(8); end
-- do finalize with emit O(1 / y); end
-- y = 1 / 0;
finalizer_faults : Kernel
unfolding block
finalizer_faults =
    kernel (block 0 ((declared 0 (kind.Var ty.S32)) ∷ []) (node 1 2 1 (k.Assign (loc false 0 ty.S32) (const ty.S32 2 13 (pos 0))) ∷ node 2 3 1
    (k.Finalize (block 3 ([]) (node 4 3 18 (k.Out 0 (Some (const ty.S32 3 25 (pos 8)))) ∷ []))) ∷ node 5 4 1 (k.Finalize (block 6 ([]) (node 7 4
    18 (k.Out 0 (Some (two ty.S32 4 27 op2.Div (const ty.S32 4 25 (pos 1)) (read ty.S32 4 29 (loc false 0 ty.S32))))) ∷ []))) ∷ node 8 5 1
    (k.Assign (loc false 0 ty.S32) (two ty.S32 5 7 op2.Div (const ty.S32 5 5 (pos 1)) (const ty.S32 5 9 (pos 0)))) ∷ [])) ([]) ([]) ((port ty.S32
    (codes "O")) ∷ []) ([])

finalizer_faults_runs : marks_of (machine (shape (planned finalizer_faults) finalizer_faults 1 0) ([])) ≡ (world_of (run finalizer_faults 20000 ([]))).marks
unfolding finalizer_faults both_run
finalizer_faults_runs = refl
