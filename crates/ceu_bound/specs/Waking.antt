-- What the loops that an event paces cost where it is emitted, by the tables of the code.
use Rattle.std.specs.Prelude.{◌≡◌, ℕ, zero, suc, ◌+◌, ◌*◌, ◌<◌, length, if◌then◌else◌, ◌==◌, List, [], ◌∷◌, drop, Option, None}
use Rattle.ceu_tree.specs.declared.kernel.KBlock.{KBlock, out-KBlock}
use Rattle.ceu_tree.specs.declared.kernel.Kernel.{Kernel}
use Rattle.ceu_tree.specs.declared.kernel.KCode.{KCode}
use Rattle.ceu_tree.specs.declared.kernel.KEvent.{KEvent}
use Rattle.ceu_tree.specs.Greatest.{total}
use Rattle.ceu_tree.specs.Costs.{paced, is_event, is_owner}
use Rattle.ceu_paths.specs.Loops.{TrailLoop, block_loops}
use Rattle.ceu_bound.specs.declared.emissions.Wake.{Wake}
use Rattle.ceu_bound.specs.declared.settling.Group.{Group}
use Rattle.ceu_bound.specs.declared.tables.Tables.{Tables}
use Rattle.ceu_bound.specs.Parts.{turn}
use Rattle.ceu_bound.specs.Measured.{enter_list}

-- the code in which an event is declared
abbrev pub owner : ℕ → List KEvent → Option ℕ
owner e [] = None
owner zero (x ∷ xs) = x.code
owner (suc e) (x ∷ xs) = owner e xs

-- how many instances of the code k an emission reaches, of so many
abbrev pub copies : List KEvent → ℕ → ℕ → ℕ → ℕ
copies es k n e = if is_owner k (owner e es) then 1 else n

module _ (T : Tables) (e : ℕ) where
  -- one turn for a loop that the event paces, and the rest of its body
  abbrev pub loop_cost : TrailLoop → ℕ
  loop_cost l = if is_event e (paced l.kind l.body) then turn T.part + enter_list T (drop 1 (out-KBlock l.body).list) else 0

  abbrev pub wake_cost : Wake → ℕ
  wake_cost w = if w.event == e then w.copies * (turn T.part + enter_list T w.rest.now) else 0

  abbrev pub body_cost : KBlock → ℕ
  body_cost b = total loop_cost (block_loops b)

  -- over the codes from number k on, with their instances
  abbrev pub codes_cost : List KEvent → ℕ → List KCode → List ℕ → ℕ
  codes_cost es k [] ns = 0
  codes_cost es k (c ∷ cs) [] = 0
  codes_cost es k (c ∷ cs) (n ∷ ns) = copies es k n e * body_cost c.body + codes_cost es (k + 1) cs ns

-- over the program, whose codes have so many instances
abbrev pub woken_cost : Tables → Kernel → List ℕ → ℕ → ℕ
woken_cost T K counts e = body_cost T e K.body + codes_cost T e K.events 0 K.codes counts

-- the wakings of a program, whose codes have so many instances
abbrev pub AreWakes : Kernel → List ℕ → List Wake → Type 0
AreWakes K counts wakes = (T : Tables) (e : ℕ) → total (wake_cost T e) wakes ≡ woken_cost T K counts e

-- what the wakings in group number k cost where the event e is emitted
abbrev pub group_cost : Tables → ℕ → ℕ → List Group → ℕ
group_cost T e k [] = 0
group_cost T e zero (g ∷ gs) = total (wake_cost T e) g.wakes.items
group_cost T e (suc k) (g ∷ gs) = group_cost T e k gs

-- the wakings of a program, those of each event in a group of its own
abbrev pub AreGroups : Kernel → List ℕ → List Group → Type 0
AreGroups K counts groups = (T : Tables) (e : ℕ) → e < length groups → group_cost T e e groups ≡ woken_cost T K counts e
