-- The instances of code that live: the numbers that they have, and where they stand in the pools of their blocks (this project's own).
use Rattle.std.specs.Prelude.{◌≡◌, ◌<◌, ◌^◌, nat_lt, Bool, true, false, not, ◌==◌, ◌&&◌, ◌||◌, List, [], ◌∷◌}
use Rattle.std.specs.List.{list_all}
use Rattle.ceu_tree.specs.declared.kernel.KDecl.{KDecl}
use Rattle.ceu_tree.specs.declared.kernel.KKind.TheVariants as kind
use Rattle.ceu_tree.specs.declared.kernel.KBlock.{out-KBlock}
use Rattle.ceu_tree.specs.Residual.{Program, Seat, Residual, Over, InAsync, Block, Open, Loop, Call, Par, Branches, no_branch, branch, Instances, no_instance, instance}
use Rattle.ceu_tree.specs.Focus.{plug}
use Rattle.ceu_tree.specs.World.{World, is_among}
use Rattle.ceu_tree.specs.Legal.{seats, numbers, all_differ, lies}
use Rattle.ceu_tree.specs.Run.{Config, Turning, Between, Waiting, Ended, Faulted}

-- The instances of a tree have numbers that differ, each from 1 to the last that was given, and just these live.
pub record NumbersStand (r : Residual) (w : World) : Type 0 where
  pub differ : all_differ (numbers (seats r Program)) ≡ true
  pub given : list_all (lies 1 w.given) (numbers (seats r Program)) ≡ true
  pub live : list_all (λ n. is_among n w.living) (numbers (seats r Program)) ≡ true
  pub seated : list_all (λ n. is_among n (numbers (seats r Program))) w.living ≡ true
  pub once : all_differ w.living ≡ true
  pub below : w.given < 2 ^ 32

-- ---- pools

-- one of the block's pools has that place, and is of that code
abbrev pub has_place : List KDecl → Seat → Bool
has_place [] seat = false
has_place (d ∷ ds) seat = elim d.kind [ kind.Pool n c ↦ ((d.slot == seat.pool) && (c == seat.code) && nat_lt seat.place n) | _ ↦ false ] || has_place ds seat

-- in lexical order of pools, in a pool by number and at another place
abbrev pub is_before : Seat → Seat → Bool
is_before a b = nat_lt a.pool b.pool || ((a.pool == b.pool) && nat_lt a.number b.number && not (a.place == b.place))

abbrev pub goes_before : Seat → Instances → Bool
goes_before seat no_instance = true
goes_before seat (instance other r more) = is_before seat other && goes_before seat more

unfoldable mutual
  pub pools_stand : Residual → Type 0
  pools_stand (Block b fin all r rest) = seats_stand (out-KBlock b).decls all × pools_stand r
  pools_stand (Open s r) = pools_stand r
  pools_stand (Loop s c r) = pools_stand r
  pools_stand (Call s r) = pools_stand r
  pools_stand (Par s bs) = each_pools_stand bs
  pools_stand (InAsync s served r) = pools_stand r
  pools_stand r = Unit {0}

  pub each_pools_stand : Branches → Type 0
  each_pools_stand no_branch = Unit {0}
  each_pools_stand (branch r more) = pools_stand r × each_pools_stand more

  pub seats_stand : List KDecl → Instances → Type 0
  seats_stand ds no_instance = Unit {0}
  seats_stand ds (instance seat r more) = (has_place ds seat ≡ true) × (goes_before seat more ≡ true) × pools_stand r × seats_stand ds more

-- ---- configurations. Of a turn that is on the tree is taken without its leaf; where a program has ended or faulted nothing is left.

pub record TreeStands (r : Residual) (w : World) : Type 0 where
  pub numbers : NumbersStand r w
  pub pools : pools_stand r

abbrev pub InstancesStand : Config → Type 0
InstancesStand (Turning n f w) = TreeStands (plug f Over) w
InstancesStand (Between n r w) = TreeStands r w
InstancesStand (Waiting r w) = TreeStands r w
InstancesStand (Ended v w) = Unit {0}
InstancesStand (Faulted e w) = Unit {0}
