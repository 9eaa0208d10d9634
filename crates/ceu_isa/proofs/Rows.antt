-- Small images, assembled by hand, whose runs are computed.
use Rattle.std.proofs.Common.{◌≡◌, refl, pos, negsuc, [], ◌∷◌, codes}
use Rattle.ceu_base.specs.declared.kinds.Ty.TheVariants as ty
use Rattle.ceu_base.specs.declared.kinds.Fault.TheVariants.{DivZero}
use Rattle.ceu_base.specs.declared.kinds.Mark.TheVariants.{Output, Resume, Push, Registered, Ran}
use Rattle.ceu_code.specs.declared.image.Image.{Image}
use Rattle.ceu_tree.specs.declared.command.Command.TheVariants.{Input, Advance, Idle}
use Rattle.ceu_isa.specs.Commands.{run}
use Rattle.ceu_isa.proofs.Build.{at, port, row, image, shown, outputs, With, Still, By, computed}

-- escape 1;
escapes : Image
escapes =
    image 1 0 1 1 0 ([]) ([]) ([]) ([]) ([]) (
    1 ∷ 7 ∷ 1 ∷ 0 ∷ 0 ∷ 0 ∷ 0 ∷ 0 ∷ 0 ∷ 0 ∷ 12 ∷ 14 ∷ []
    )

escapes_ends : shown (run escapes ([])) ≡ ((Resume 0 ∷ []), With (pos 1))
unfolding escapes computed
escapes_ends = refl

-- the echo of one input
echoes : Image
echoes =
    image 1 0 1 1 4 (port ty.S32 (codes "A") ∷ []) (port ty.S32 (codes "O") ∷ []) ([]) ([]) ([]) (
    25 ∷ 0 ∷ 0 ∷ 16 ∷ 0 ∷ 0 ∷ 11 ∷ 7 ∷ 4 ∷ 7 ∷ 0 ∷ 0 ∷ 2 ∷ 7 ∷ 0 ∷ 0 ∷ 13 ∷ 0 ∷ 0 ∷ 7 ∷ 2 ∷ 7 ∷ 0 ∷ 0 ∷ 12 ∷ 27 ∷ 0 ∷ 0 ∷ 1 ∷ 0 ∷ 14 ∷ []
    )

echoes_value : shown (run echoes (Input 0 (pos 5) ∷ [])) ≡ ((Resume 0 ∷ Resume 0 ∷ Output 0 (pos 5) ∷ []), With (pos 5))
unfolding echoes computed
echoes_value = refl

-- par/or do await e; with emit e; emit O(1); end emit O(2);
emits : Image
emits =
    image 4 1 1 2 0 ([]) (port ty.S32 (codes "O") ∷ []) ([]) ([]) ([]) (
    25 ∷ 0 ∷ 0 ∷ 24 ∷ 1 ∷ 0 ∷ 17 ∷ 0 ∷ 25 ∷ 0 ∷ 0 ∷ 18 ∷ 0 ∷ 0 ∷ 9 ∷ 41 ∷ 0 ∷ 25 ∷ 1 ∷ 0 ∷ 23 ∷ 0 ∷ 0 ∷ 0 ∷ 1 ∷ 7 ∷ 1 ∷ 0 ∷ 0 ∷ 0 ∷ 0 ∷ 0 ∷ 0 ∷ 0 ∷
    13 ∷ 0 ∷ 0 ∷ 7 ∷ 9 ∷ 41 ∷ 0 ∷ 27 ∷ 0 ∷ 0 ∷ 2 ∷ 0 ∷ 1 ∷ 7 ∷ 2 ∷ 0 ∷ 0 ∷ 0 ∷ 0 ∷ 0 ∷ 0 ∷ 0 ∷ 13 ∷ 0 ∷ 0 ∷ 7 ∷ 1 ∷ 7 ∷ 0 ∷ 0 ∷ 0 ∷ 0 ∷ 0 ∷ 0 ∷ 0 ∷
    0 ∷ 12 ∷ 14 ∷ []
    )

emits_once : shown (run emits ([])) ≡ ((Resume 0 ∷ Resume 0 ∷ Push 1 ∷ Resume 1 ∷ Output 0 (pos 2) ∷ []), With (pos 0))
unfolding emits computed
emits_once = refl

-- a fault runs the registered finalizer
faults : Image
faults =
    image 1 0 2 2 8 ([]) (port ty.S32 (codes "O") ∷ []) ([]) ([]) (at 3 1 ∷ at 5 7 ∷ []) (
    25 ∷ 1 ∷ 0 ∷ 1 ∷ 7 ∷ 0 ∷ 0 ∷ 0 ∷ 0 ∷ 0 ∷ 0 ∷ 0 ∷ 0 ∷ 4 ∷ 7 ∷ 0 ∷ 0 ∷ 1 ∷ 7 ∷ 0 ∷ 0 ∷ 0 ∷ 0 ∷ 0 ∷ 0 ∷ 0 ∷ 0 ∷ 4 ∷ 7 ∷ 4 ∷ 0 ∷ 28 ∷ 0 ∷ 0 ∷ 92 ∷
    0 ∷ 0 ∷ 0 ∷ 1 ∷ 7 ∷ 1 ∷ 0 ∷ 0 ∷ 0 ∷ 0 ∷ 0 ∷ 0 ∷ 0 ∷ 13 ∷ 0 ∷ 0 ∷ 7 ∷ 1 ∷ 7 ∷ 1 ∷ 0 ∷ 0 ∷ 0 ∷ 0 ∷ 0 ∷ 0 ∷ 0 ∷ 2 ∷ 7 ∷ 4 ∷ 0 ∷ 7 ∷ 14 ∷ 7 ∷ 1 ∷ 0 ∷
    4 ∷ 7 ∷ 0 ∷ 0 ∷ 27 ∷ 0 ∷ 0 ∷ 1 ∷ 0 ∷ 1 ∷ 7 ∷ 0 ∷ 0 ∷ 0 ∷ 0 ∷ 0 ∷ 0 ∷ 0 ∷ 0 ∷ 12 ∷ 14 ∷ 1 ∷ 7 ∷ 9 ∷ 0 ∷ 0 ∷ 0 ∷ 0 ∷ 0 ∷ 0 ∷ 0 ∷ 13 ∷ 0 ∷ 0 ∷ 7 ∷
    29 ∷ []
    )

faults_and_cleans : shown (run faults ([])) ≡ ((Resume 0 ∷ Registered (at 3 1) ∷ Output 0 (pos 1) ∷ Ran (at 3 1) ∷ Output 0 (pos 9) ∷ []), By DivZero (at 5 7))
unfolding faults computed
faults_and_cleans = refl

-- a timer that comes late hands on the delay
times : Image
times =
    image 1 0 1 1 4 ([]) (port ty.S32 (codes "O") ∷ []) ([]) ([]) ([]) (
    25 ∷ 0 ∷ 0 ∷ 1 ∷ 9 ∷ 10 ∷ 0 ∷ 0 ∷ 0 ∷ 0 ∷ 0 ∷ 0 ∷ 0 ∷ 17 ∷ 3 ∷ 11 ∷ 7 ∷ 4 ∷ 7 ∷ 0 ∷ 0 ∷ 2 ∷ 7 ∷ 0 ∷ 0 ∷ 13 ∷ 0 ∷ 0 ∷ 7 ∷ 1 ∷ 9 ∷ 1 ∷ 0 ∷ 0 ∷ 0 ∷
    0 ∷ 0 ∷ 0 ∷ 0 ∷ 17 ∷ 3 ∷ 11 ∷ 7 ∷ 4 ∷ 7 ∷ 0 ∷ 0 ∷ 2 ∷ 7 ∷ 0 ∷ 0 ∷ 13 ∷ 0 ∷ 0 ∷ 7 ∷ 19 ∷ []
    )

times_in_turn : shown (run times (Advance 15000 ∷ [])) ≡ ((Resume 0 ∷ Resume 0 ∷ Output 0 (pos 5000) ∷ Resume 0 ∷ Output 0 (pos 4000) ∷ []), Still)
unfolding times computed
times_in_turn = refl

-- an async with a range, and a trail beside it
serves : Image
serves =
    image 2 0 2 2 24 (port ty.None (codes "A") ∷ []) (port ty.S32 (codes "O") ∷ []) ([]) ([]) (at 5 1 ∷ []) (
    1 ∷ 7 ∷ 0 ∷ 0 ∷ 0 ∷ 0 ∷ 0 ∷ 0 ∷ 0 ∷ 0 ∷ 4 ∷ 7 ∷ 0 ∷ 0 ∷ 25 ∷ 0 ∷ 0 ∷ 24 ∷ 1 ∷ 0 ∷ 101 ∷ 0 ∷ 25 ∷ 0 ∷ 0 ∷ 20 ∷ 1 ∷ 7 ∷ 0 ∷ 0 ∷ 0 ∷ 0 ∷ 0 ∷ 0 ∷ 0 ∷
    0 ∷ 36 ∷ 8 ∷ 0 ∷ 1 ∷ 1 ∷ 7 ∷ 3 ∷ 0 ∷ 0 ∷ 0 ∷ 0 ∷ 0 ∷ 0 ∷ 0 ∷ 36 ∷ 16 ∷ 0 ∷ 0 ∷ 37 ∷ 8 ∷ 0 ∷ 4 ∷ 0 ∷ 88 ∷ 0 ∷ 2 ∷ 7 ∷ 0 ∷ 0 ∷ 1 ∷ 7 ∷ 1 ∷ 0 ∷ 0 ∷
    0 ∷ 0 ∷ 0 ∷ 0 ∷ 0 ∷ 7 ∷ 11 ∷ 7 ∷ 0 ∷ 0 ∷ 4 ∷ 7 ∷ 0 ∷ 0 ∷ 21 ∷ 9 ∷ 54 ∷ 0 ∷ 22 ∷ 2 ∷ 7 ∷ 0 ∷ 0 ∷ 13 ∷ 0 ∷ 0 ∷ 7 ∷ 25 ∷ 0 ∷ 0 ∷ 19 ∷ 25 ∷ 1 ∷ 0 ∷
    16 ∷ 0 ∷ 0 ∷ 2 ∷ 7 ∷ 0 ∷ 0 ∷ 13 ∷ 0 ∷ 0 ∷ 7 ∷ 9 ∷ 101 ∷ 0 ∷ []
    )

serves_in_rounds : shown (run serves (Idle 2 ∷ Input 0 (pos 0) ∷ Idle 2 ∷ Idle 5 ∷ [])) ≡ ((Resume 0 ∷ Resume 0 ∷ Resume 0 ∷ Output 0 (pos 2) ∷ Resume 0 ∷ Output 0 (pos 3) ∷ []), Still)
unfolding serves computed
serves_in_rounds = refl

-- instances by age: spawned, killed, and one in the place of the killed one
jobs : Image
jobs =
    image 7 3 1 5 50 (port ty.None (codes "A") ∷ []) (port ty.S32 (codes "O") ∷ []) (row 101 12 2 (ty.S32 ∷ []) ∷ []) (0 ∷ []) (at 8 14 ∷ at 9 1 ∷ at 11 1 ∷ at 3 5 ∷ at 3 36 ∷ []) (
    25 ∷ 4 ∷ 0 ∷ 32 ∷ 0 ∷ 0 ∷ 2 ∷ 0 ∷ 0 ∷ 0 ∷ 0 ∷ 0 ∷ 1 ∷ 7 ∷ 1 ∷ 0 ∷ 0 ∷ 0 ∷ 0 ∷ 0 ∷ 0 ∷ 0 ∷ 33 ∷ 0 ∷ 0 ∷ 0 ∷ 0 ∷ 2 ∷ 0 ∷ 42 ∷ 0 ∷ 0 ∷ 0 ∷ 1 ∷ 7 ∷
    2 ∷ 0 ∷ 0 ∷ 0 ∷ 0 ∷ 0 ∷ 0 ∷ 0 ∷ 33 ∷ 0 ∷ 0 ∷ 0 ∷ 0 ∷ 2 ∷ 0 ∷ 255 ∷ 255 ∷ 1 ∷ 0 ∷ 34 ∷ 42 ∷ 0 ∷ 1 ∷ 7 ∷ 3 ∷ 0 ∷ 0 ∷ 0 ∷ 0 ∷ 0 ∷ 0 ∷ 0 ∷ 33 ∷ 0 ∷
    0 ∷ 0 ∷ 0 ∷ 2 ∷ 0 ∷ 255 ∷ 255 ∷ 2 ∷ 0 ∷ 25 ∷ 4 ∷ 0 ∷ 16 ∷ 0 ∷ 0 ∷ 1 ∷ 7 ∷ 0 ∷ 0 ∷ 0 ∷ 0 ∷ 0 ∷ 0 ∷ 0 ∷ 0 ∷ 12 ∷ 27 ∷ 0 ∷ 0 ∷ 5 ∷ 0 ∷ 14 ∷ 25 ∷ 1 ∷
    0 ∷ 28 ∷ 0 ∷ 0 ∷ 129 ∷ 0 ∷ 3 ∷ 0 ∷ 25 ∷ 1 ∷ 0 ∷ 16 ∷ 0 ∷ 0 ∷ 2 ∷ 7 ∷ 8 ∷ 0 ∷ 13 ∷ 0 ∷ 0 ∷ 7 ∷ 9 ∷ 111 ∷ 0 ∷ 31 ∷ 2 ∷ 7 ∷ 8 ∷ 0 ∷ 6 ∷ 1 ∷ 7 ∷ 4 ∷
    0 ∷ 13 ∷ 0 ∷ 0 ∷ 7 ∷ 29 ∷ []
    )

jobs_by_age : outputs (run jobs (Input 0 (pos 0) ∷ [])) ≡ ((Output 0 (negsuc 0) ∷ Output 0 (pos 2) ∷ Output 0 (pos 3) ∷ Output 0 (negsuc 2) ∷ Output 0 (negsuc 1) ∷ []), With (pos 0))
unfolding jobs computed
jobs_by_age = refl
