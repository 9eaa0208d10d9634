-- Each alias of an open part that names an instance names one of its code, in a pool of its block or of one around, and of its body: in the words of
-- legal configurations.
use Rattle.std.specs.Prelude.{◌≡◌, ℕ, nat_le, Bool, true, false, not, ◌==◌, ◌&&◌, ◌||◌, List, [], ◌∷◌, ◌++◌, Option, Some}
use Rattle.std.specs.List.{list_all}
use Rattle.ceu_tree.specs.declared.kernel.Kernel.{Kernel}
use Rattle.ceu_tree.specs.declared.kernel.KDecl.{KDecl}
use Rattle.ceu_tree.specs.declared.kernel.KKind.{KKind}
use Rattle.ceu_tree.specs.declared.kernel.KKind.TheVariants as kind
use Rattle.ceu_tree.specs.declared.kernel.KBlock.{out-KBlock}
use Rattle.ceu_tree.specs.Residual.{Body, Program, Awaited, Spawned, same_body, Residual, Over, InAsync, Block, Open, Loop, Call, Par, Branches, no_branch, branch, Instances, no_instance, instance}
use Rattle.ceu_tree.specs.Focus.{plug}
use Rattle.ceu_tree.specs.World.{Cell, Names, Held, World, look}
use Rattle.ceu_tree.specs.Legal.{Seated, seats, names_ok}
use Rattle.ceu_tree.specs.Proper.{pool_slots, alias_takes}
use Rattle.ceu_tree.specs.Run.{Config, Turning, Between, Waiting, Ended, Faulted}
use Rattle.laws_meaning_slots.specs.Declared.{rows, kind_at}

module _ (K : Kernel) (w : World) (found : List Seated) where
  abbrev pub cell_agrees : Body → (code : ℕ) → (pools : List ℕ) → Option Cell → Bool
  cell_agrees body code pools (Some (Names k)) = names_ok K w found body code pools k
  cell_agrees body code pools c = true

  abbrev pub decl_agrees : Body → (pools : List ℕ) → (slot : ℕ) → KKind → Bool
  decl_agrees body pools slot (kind.Alias c) = cell_agrees body c pools (look body slot w.values)
  decl_agrees body pools slot k = true

  abbrev pub declared_agree : Body → (pools : List ℕ) → List KDecl → Bool
  declared_agree body pools [] = true
  declared_agree body pools (d ∷ ds) = decl_agrees body pools d.slot d.kind && declared_agree body pools ds

  -- with the pools of the blocks around
  unfoldable mutual
    pub names_agree : Residual → Body → List ℕ → Bool
    names_agree (Block b fin all r rest) body pools =
        let inner = pool_slots (out-KBlock b).decls ++ pools in declared_agree body inner (out-KBlock b).decls && (instances_agree all && names_agree r body inner)
    names_agree (Open s r) body pools = names_agree r body pools
    names_agree (Loop s c r) body pools = names_agree r body pools
    names_agree (Call s r) body pools = names_agree r (Awaited body s.node) []
    names_agree (Par s bs) body pools = branches_agree bs body pools
    names_agree (InAsync s served r) body pools = names_agree r body pools
    names_agree r body pools = true

    pub branches_agree : Branches → Body → List ℕ → Bool
    branches_agree no_branch body pools = true
    branches_agree (branch r more) body pools = names_agree r body pools && branches_agree more body pools

    pub instances_agree : Instances → Bool
    instances_agree no_instance = true
    instances_agree (instance seat r more) = names_agree r (Spawned seat.number) [] && instances_agree more

-- ---- as a step keeps it: by the numbers of slots

abbrev pub names : Cell → ℕ → Bool
names (Names k) n = n == k
names c n = false

-- no more than were given
abbrev pub low : (given : ℕ) → Cell → Bool
low given (Names k) = nat_le k given
low given c = true

module _ (K : Kernel) where
  -- an instance that the alias of that slot and body may name
  abbrev pub suits : Held → Seated → Bool
  suits h x = alias_takes x.seat.code x.seat.pool (kind_at h.slot (rows K)) && same_body x.body h.body

  -- it is not the one that is named, or suits
  abbrev pub one : Held → Seated → Bool
  one h x = not (names h.cell x.seat.number) || suits h x

  abbrev pub agrees : (given : ℕ) → (found : List Seated) → Held → Bool
  agrees given found h = low given h.cell && list_all (one h) found

  abbrev pub all_agree : Residual → World → Type 0
  all_agree r w = list_all (agrees w.given (seats r Program)) w.values ≡ true

  abbrev pub NamesHold : Config → Type 0
  NamesHold (Turning n f w) = all_agree (plug f Over) w
  NamesHold (Between n r w) = all_agree r w
  NamesHold (Waiting r w) = all_agree r w
  NamesHold (Ended v w) = Unit {0}
  NamesHold (Faulted e w) = Unit {0}
