-- The same: asyncs, loops, exits, awaited code, and parts that end at once.
use Rattle.ceu_base.specs.declared.kinds.Op2.TheVariants as op2
use Rattle.ceu_base.specs.declared.kinds.Ty.TheVariants as ty
use Rattle.ceu_tree.proofs.Build.{node, const, read, two, loc, arm, declared, block, port, kernel, coded}
use Rattle.ceu_base.specs.declared.kinds.Mark.TheVariants.{Output, Resume}
use Rattle.ceu_tree.specs.declared.command.Command.TheVariants.{Input, Idle}
use Rattle.ceu_tree.specs.declared.kernel.KKind.TheVariants as kind
use Rattle.ceu_tree.specs.declared.kernel.KLoop.TheVariants as turns
use Rattle.ceu_tree.specs.declared.kernel.KStmt as k
use Rattle.ceu_tree.specs.declared.kernel.Kernel.{Kernel}
use Rattle.ceu_tree.specs.declared.kernel.ParKind.TheVariants as par
use Rattle.std.proofs.Common.{◌≡◌, refl, pos, true, false, [], ◌∷◌, Some, None, codes}
use Rattle.ceu_tree.specs.Run.{world_of, run}
use Rattle.ceu_isa.specs.Commands.{marks_of}
use Rattle.ceu_isa.proofs.Build.{ending, With}
use Rattle.ceu_shape.specs.Shape.{shape}
use Rattle.laws_promise_examples.proofs.Build.{planned, machine, both_run}

-- input none A; output int O;
-- var int x = 0;
-- par do
--     async (x) do
--         loop i in [0 -> 3[ do
--             x = x + 1;
--         end
--     end
--     emit O(x);
--     await FOREVER;
-- with
--     every A do emit O(x); end
-- end
async_rounds : Kernel
unfolding block
async_rounds =
    kernel (block 0 ((declared 0 (kind.Var ty.S32)) ∷ []) (node 1 2 1 (k.Assign (loc false 0 ty.S32) (const ty.S32 2 13 (pos 0))) ∷ node 2 3 1 (k.Par
    par.Never 0 ((block 3 ([]) (node 4 4 5 (k.Async (block 5 ([]) (node 6 5 9 (k.Loop (turns.Range 1 2 3 false (const ty.S32 5 20 (pos 0)) (const
    ty.S32 5 25 (pos 3)) true) (block 7 ([]) (node 8 6 13 (k.Assign (loc false 0 ty.S32) (two ty.S32 6 19 op2.Add (read ty.S32 6 17 (loc false 0
    ty.S32)) (const ty.S32 6 21 (pos 1)))) ∷ []))) ∷ []))) ∷ node 9 9 5 (k.Out 0 (Some (read ty.S32 9 12 (loc false 0 ty.S32)))) ∷ node 10 10 5
    k.Forever ∷ [])) ∷ (block 11 ([]) (node 12 12 5 (k.Loop turns.Free (block 13 ([]) (node 14 12 5 (k.AwaitIn 0 None) ∷ node 15 12 16 (k.Out 0
    (Some (read ty.S32 12 23 (loc false 0 ty.S32)))) ∷ []))) ∷ [])) ∷ [])) ∷ [])) ([]) ((port ty.None (codes "A")) ∷ []) ((port ty.S32 (codes
    "O")) ∷ []) ([])

async_rounds_runs : marks_of (machine (shape (planned async_rounds) async_rounds 2 0) (Idle 2 ∷ Input 0 (pos 0) ∷ Idle 2 ∷ Idle 5 ∷ [])) ≡ (world_of (run async_rounds 20000 (Idle 2 ∷ Input 0 (pos 0) ∷ Idle 2 ∷ Idle 5 ∷ []))).marks
unfolding async_rounds both_run
async_rounds_runs = refl

-- input none A; output int O;
-- var int x = 0;
-- par do
--     async (x) do
--         loop i in [0 -> 3[ do
--             x = x + 1;
--         end
--     end
--     emit O(x);
--     await FOREVER;
-- with
--     every A do emit O(x); end
-- end
async_ends : Kernel
unfolding block
async_ends =
    kernel (block 0 ((declared 0 (kind.Var ty.S32)) ∷ []) (node 1 2 1 (k.Assign (loc false 0 ty.S32) (const ty.S32 2 13 (pos 0))) ∷ node 2 3 1 (k.Par
    par.Never 0 ((block 3 ([]) (node 4 4 5 (k.Async (block 5 ([]) (node 6 5 9 (k.Loop (turns.Range 1 2 3 false (const ty.S32 5 20 (pos 0)) (const
    ty.S32 5 25 (pos 3)) true) (block 7 ([]) (node 8 6 13 (k.Assign (loc false 0 ty.S32) (two ty.S32 6 19 op2.Add (read ty.S32 6 17 (loc false 0
    ty.S32)) (const ty.S32 6 21 (pos 1)))) ∷ []))) ∷ []))) ∷ node 9 9 5 (k.Out 0 (Some (read ty.S32 9 12 (loc false 0 ty.S32)))) ∷ node 10 10 5
    k.Forever ∷ [])) ∷ (block 11 ([]) (node 12 12 5 (k.Loop turns.Free (block 13 ([]) (node 14 12 5 (k.AwaitIn 0 None) ∷ node 15 12 16 (k.Out 0
    (Some (read ty.S32 12 23 (loc false 0 ty.S32)))) ∷ []))) ∷ [])) ∷ [])) ∷ [])) ([]) ((port ty.None (codes "A")) ∷ []) ((port ty.S32 (codes
    "O")) ∷ []) ([])

async_ends_runs : marks_of (machine (shape (planned async_ends) async_ends 2 0) (Idle 4 ∷ Input 0 (pos 0) ∷ [])) ≡ (world_of (run async_ends 20000 (Idle 4 ∷ Input 0 (pos 0) ∷ []))).marks
unfolding async_ends both_run
async_ends_runs = refl

-- do var int a = 1; end do var s64 b = 2; end escape 0;
shared_slots : Kernel
unfolding block
shared_slots =
    kernel (block 0 ([]) (node 1 1 1 (k.Do None (block 2 ((declared 0 (kind.Var ty.S32)) ∷ []) (node 3 1 4 (k.Assign (loc false 0 ty.S32) (const
    ty.S32 1 16 (pos 1))) ∷ []))) ∷ node 4 1 23 (k.Do None (block 5 ((declared 1 (kind.Var ty.S64)) ∷ []) (node 6 1 26 (k.Assign (loc false 1
    ty.S64) (const ty.S64 1 38 (pos 2))) ∷ []))) ∷ node 7 1 45 (k.Escape 0 (Some (const ty.S32 1 52 (pos 0)))) ∷ [])) ([]) ([]) ([]) ([])

shared_slots_runs : marks_of (machine (shape (planned shared_slots) shared_slots 1 0) ([])) ≡ (world_of (run shared_slots 20000 ([]))).marks
unfolding shared_slots both_run
shared_slots_runs = refl

-- loop/2 do nothing; end
loop_limit : Kernel
unfolding block
loop_limit =
    kernel (block 0 ([]) (node 1 1 1 (k.Loop (turns.Times 0 2) (block 2 ([]) (node 3 1 11 k.Nothing ∷ []))) ∷ [])) ([]) ([]) ([]) ([])

loop_limit_runs : marks_of (machine (shape (planned loop_limit) loop_limit 1 0) ([])) ≡ (world_of (run loop_limit 20000 ([]))).marks
unfolding loop_limit both_run
loop_limit_runs = refl

-- var int x = do
--     loop i in [0 -> 5[ do
--         if i == 3 then escape i; end
--     end
-- end
-- escape x;
one_trail : Kernel
unfolding block
one_trail =
    kernel (block 0 ((declared 0 (kind.Var ty.S32)) ∷ []) (node 1 1 1 (k.Do (Some (loc false 0 ty.S32)) (block 2 ([]) (node 3 2 5 (k.Loop (turns.Range
    1 2 3 false (const ty.S32 2 16 (pos 0)) (const ty.S32 2 21 (pos 5)) true) (block 4 ([]) (node 5 3 9 (k.If ((arm (two ty.Bool 3 14 op2.Eq (read
    ty.S32 3 12 (loc false 1 ty.S32)) (const ty.S32 3 17 (pos 3))) (block 6 ([]) (node 7 3 24 (k.Escape 1 (Some (read ty.S32 3 31 (loc false 1
    ty.S32)))) ∷ []))) ∷ []) (block 8 ([]) ([]))) ∷ []))) ∷ []))) ∷ node 9 6 1 (k.Escape 0 (Some (read ty.S32 6 8 (loc false 0 ty.S32)))) ∷ []))
    ([]) ([]) ([]) ([])

one_trail_runs : marks_of (machine (shape (planned one_trail) one_trail 1 0) ([])) ≡ (world_of (run one_trail 20000 ([]))).marks
unfolding one_trail both_run
one_trail_runs = refl

one_trail_ends : ending (machine (shape (planned one_trail) one_trail 1 0) ([])) ≡ With (pos 3)
unfolding one_trail both_run
one_trail_ends = refl

-- output int O; par/or do emit O(1); with emit O(2); end escape 0;
never_begun : Kernel
unfolding block
never_begun =
    kernel (block 0 ([]) (node 1 1 15 (k.Par par.Or 0 ((block 2 ([]) (node 3 1 25 (k.Out 0 (Some (const ty.S32 1 32 (pos 1)))) ∷ [])) ∷ (block 4 ([])
    (node 5 1 41 (k.Out 0 (Some (const ty.S32 1 48 (pos 2)))) ∷ [])) ∷ [])) ∷ node 6 1 56 (k.Escape 0 (Some (const ty.S32 1 63 (pos 0)))) ∷ []))
    ([]) ([]) ((port ty.S32 (codes "O")) ∷ []) ([])

never_begun_runs : marks_of (machine (shape (planned never_begun) never_begun 2 0) ([])) ≡ (world_of (run never_begun 20000 ([]))).marks
unfolding never_begun both_run
never_begun_runs = refl

-- input none A; par/and do await A; with end escape 4;
rejoins : Kernel
unfolding block
rejoins =
    kernel (block 0 ([]) (node 1 1 15 (k.Par par.And 0 ((block 2 ([]) (node 3 1 26 (k.AwaitIn 0 None) ∷ [])) ∷ (block 4 ([]) ([])) ∷ [])) ∷ node 5 1
    44 (k.Escape 0 (Some (const ty.S32 1 51 (pos 4)))) ∷ [])) ([]) ((port ty.None (codes "A")) ∷ []) ([]) ([])

rejoins_runs : marks_of (machine (shape (planned rejoins) rejoins 2 0) (Input 0 (pos 0) ∷ [])) ≡ (world_of (run rejoins 20000 (Input 0 (pos 0) ∷ []))).marks
unfolding rejoins both_run
rejoins_runs = refl

-- if true then var s64 a = 1; else var s64 b = 2; end escape 0;
parts_of_if : Kernel
unfolding block
parts_of_if =
    kernel (block 0 ([]) (node 1 1 1 (k.If ((arm (const ty.Bool 1 4 (pos 1)) (block 2 ((declared 0 (kind.Var ty.S64)) ∷ []) (node 3 1 14 (k.Assign
    (loc false 0 ty.S64) (const ty.S64 1 26 (pos 1))) ∷ []))) ∷ []) (block 4 ((declared 1 (kind.Var ty.S64)) ∷ []) (node 5 1 34 (k.Assign (loc
    false 1 ty.S64) (const ty.S64 1 46 (pos 2))) ∷ []))) ∷ node 6 1 53 (k.Escape 0 (Some (const ty.S32 1 60 (pos 0)))) ∷ [])) ([]) ([]) ([]) ([])

parts_of_if_runs : marks_of (machine (shape (planned parts_of_if) parts_of_if 1 0) ([])) ≡ (world_of (run parts_of_if 20000 ([]))).marks
unfolding parts_of_if both_run
parts_of_if_runs = refl

-- output int O;
-- loop i in [0 -> 3] do
--     if i == 1 then continue; end
--     emit O(i);
-- end
continues : Kernel
unfolding block
continues =
    kernel (block 0 ([]) (node 1 2 1 (k.Loop (turns.Range 0 1 2 false (const ty.S32 2 12 (pos 0)) (const ty.S32 2 17 (pos 3)) false) (block 2 ([]) (node 3 3 5 (k.If ((arm
    (two ty.Bool 3 10 op2.Eq (read ty.S32 3 8 (loc false 0 ty.S32)) (const ty.S32 3 13 (pos 1))) (block 4 ([]) (node 5 3 20 (k.Continue 1) ∷ []))) ∷ []) (block 6 ([]) ([]))) ∷ node 7 4 5
    (k.Out 0 (Some (read ty.S32 4 12 (loc false 0 ty.S32)))) ∷ []))) ∷ [])) ([]) ([]) ((port ty.S32 (codes "O")) ∷ []) ([])

continues_runs : marks_of (machine (shape (planned continues) continues 1 0) ([])) ≡ (Resume 0 ∷ Output 0 (pos 0) ∷ Output 0 (pos 2) ∷ Output 0 (pos 3) ∷ [])
unfolding continues both_run
continues_runs = refl

-- input int A; output int O;
-- code/await Twice (var int n) -> int do
--     var int m = await A;
--     escape n + m;
-- end
-- var int x = await Twice(5);
-- emit O(x);
-- x = do escape 7; end;
-- emit O(x);
awaits_code : Kernel
unfolding block
awaits_code =
    kernel (block 0 ((declared 0 (kind.Var ty.S32)) ∷ []) (node 1 6 1 (k.AwaitCode 0 ((const ty.S32 6 25 (pos 5)) ∷ []) 1 (Some (loc false 0 ty.S32))) ∷ node 2 7 1 (k.Out 0 (Some
    (read ty.S32 7 8 (loc false 0 ty.S32)))) ∷ node 3 8 1 (k.Do (Some (loc false 0 ty.S32)) (block 4 ([]) (node 5 8 8 (k.Escape 3 (Some (const ty.S32 8 15 (pos 7)))) ∷ []))) ∷ node 6 9 1 (k.Out 0
    (Some (read ty.S32 9 8 (loc false 0 ty.S32)))) ∷ [])) ((coded ((declared 2 (kind.Var ty.S32)) ∷ []) ty.S32 (block 7 ((declared 3 (kind.Var ty.S32)) ∷ []) (node 8 3 5 (k.AwaitIn 0 (Some (loc
    false 3 ty.S32))) ∷ node 9 4 5 (k.Escape 7 (Some (two ty.S32 4 14 op2.Add (read ty.S32 4 12 (loc false 2 ty.S32)) (read ty.S32 4 16 (loc false 3 ty.S32))))) ∷ []))) ∷ [])
    ((port ty.S32 (codes "A")) ∷ []) ((port ty.S32 (codes "O")) ∷ []) ([])

awaits_code_runs : marks_of (machine (shape (planned awaits_code) awaits_code 1 0) (Input 0 (pos 4) ∷ [])) ≡ (world_of (run awaits_code 20000 (Input 0 (pos 4) ∷ []))).marks
unfolding awaits_code both_run
awaits_code_runs = refl

awaits_code_prints : marks_of (machine (shape (planned awaits_code) awaits_code 1 0) (Input 0 (pos 4) ∷ [])) ≡ (Resume 0 ∷ Resume 0 ∷ Output 0 (pos 9) ∷ Output 0 (pos 7) ∷ [])
unfolding awaits_code both_run
awaits_code_prints = refl
