-- Arrows between events: paths along them (this project's own).
use Rattle.std.specs.Prelude.{◌≡◌, ℕ, Bool, not, ◌&&◌, ◌==◌, nat_lt, List, None, find}
use Rattle.std.specs.List.{Contains, list_any}
use Rattle.ceu_tree.specs.Needs.{entry}
use Rattle.ceu_tree.specs.Paths.{flag}
use Rattle.ceu_bound.specs.declared.graph.Arrow.{Arrow}

abbrev pub arrow : ℕ → ℕ → Arrow
arrow e f = record { source = e; target = f }

-- a path of arrows from one event to another, of any length
pub data Path (arrows : List Arrow) : ℕ → ℕ → Type 0 where
  stays : (e : ℕ) → Path arrows e e
  goes : (e f g : ℕ) → Contains arrows (arrow e f) → Path arrows f g → Path arrows e g

abbrev pub is_member : ℕ → List ℕ → Bool
is_member n = list_any (λ x. x == n)

-- whether an arrow leads out of these events
abbrev pub is_open : List ℕ → Arrow → Bool
is_open reached a = is_member a.source reached && not (is_member a.target reached)

-- whether an arrow leads out of the marked events
abbrev pub leaks : List Bool → Arrow → Bool
leaks marks a = flag a.source marks && not (flag a.target marks)

-- whether an arrow leads to an event with a greater number
abbrev pub rises : List ℕ → Arrow → Bool
rises numbers a = nat_lt (entry a.source numbers) (entry a.target numbers)

abbrev pub NeverRises : List ℕ → List Arrow → Type 0
NeverRises numbers arrows = find (rises numbers) arrows ≡ None
