-- What a step reads and changes beside the residual tree: the values of the open bodies, the instances that live, and the marks so far.
use Rattle.std.specs.Prelude.{ℕ, ℤ, if◌then◌else◌, ◌==◌, ◌&&◌, ◌||◌, not, Bool, false, List, [], ◌∷◌, ◌++◌, Option, Some, None}
use Rattle.std.specs.List.{filter}
use Rattle.ceu_base.specs.declared.kinds.Pos.{Pos}
use Rattle.ceu_base.specs.declared.kinds.Fault.{Fault}
use Rattle.ceu_base.specs.declared.kinds.Mark.{Mark}
use Rattle.ceu_tree.specs.declared.kernel.Loc.{Loc}
use Rattle.ceu_tree.specs.declared.kernel.KDecl.{KDecl}
use Rattle.ceu_tree.specs.Residual.{Body, Program, Spawned, same_body}

-- what a slot holds: a variable's value; of an alias, that it is not set, or the number of the instance that it names
pub data Cell : Type 0 where
  Holds : ℤ → Cell
  NotSet : Cell
  Names : (number : ℕ) → Cell

-- the content of a slot of an open body; a slot that isn't listed has no value
pub record Held : Type 0 where
  pub body : Body
  pub slot : ℕ
  pub cell : Cell

pub record World : Type 0 where
  pub values : List Held
  pub living : List ℕ  -- the spawn numbers of the instances that live
  pub given : ℕ  -- how many spawn numbers were given
  pub marks : List Mark  -- in order
  pub fault : Option (Fault × Pos)  -- of a finalizer

abbrev pub empty_world : World
empty_world = record { values = []; living = []; given = 0; marks = []; fault = None }

abbrev pub marked : Mark → World → World
marked m w = record w { marks = w.marks ++ m ∷ [] }

-- ---- values

abbrev pub is_at : Body → ℕ → Held → Bool
is_at body slot h = (slot == h.slot) && same_body body h.body

abbrev pub look : Body → ℕ → List Held → Option Cell
look body slot [] = None
look body slot (h ∷ hs) = if is_at body slot h then Some h.cell else look body slot hs

abbrev pub put : Body → ℕ → Cell → List Held → List Held
put body slot c [] = record { body = body; slot = slot; cell = c } ∷ []
put body slot c (h ∷ hs) = if is_at body slot h then record h { cell = c } ∷ hs else h ∷ put body slot c hs

abbrev pub set : Body → ℕ → Cell → World → World
set body slot c w = record w { values = put body slot c w.values }

-- a variable of the own body, or with `outer` one of the program's
abbrev pub place_of : Loc → Body → Body
place_of l body = if l.outer then Program else body

abbrev pub assign : Body → Loc → ℤ → World → World
assign body l v w = set (place_of l body) l.slot (Holds v) w

abbrev pub assign_if : Body → Option Loc → ℤ → World → World
assign_if body None v w = w
assign_if body (Some l) v w = assign body l v w

abbrev pub set_alias : Body → Option ℕ → Cell → World → World
set_alias body None c w = w
set_alias body (Some slot) c w = set body slot c w

abbrev pub set_parameters : Body → List KDecl → List ℤ → World → World
set_parameters body [] vs w = w
set_parameters body (d ∷ ds) [] w = w
set_parameters body (d ∷ ds) (v ∷ vs) w = set_parameters body ds vs (set body d.slot (Holds v) w)

-- what is left has no value any more: a slot of a body, the declarations of a block, a whole body
abbrev pub forget : Body → ℕ → World → World
forget body slot w = record w { values = filter (λ h. not (is_at body slot h)) w.values }

abbrev pub forget_declared : Body → List KDecl → World → World
forget_declared body [] w = w
forget_declared body (d ∷ ds) w = forget_declared body ds (forget body d.slot w)

abbrev pub forget_body : Body → World → World
forget_body body w = record w { values = filter (λ h. not (same_body body h.body)) w.values }

-- ---- instances that live

abbrev pub is_among : ℕ → List ℕ → Bool
is_among n [] = false
is_among n (m ∷ ms) = (n == m) || is_among n ms

abbrev pub without : ℕ → List ℕ → List ℕ
without n [] = []
without n (m ∷ ms) = if n == m then ms else m ∷ without n ms

-- an instance that holds its place no longer
abbrev pub dead : ℕ → World → World
dead n w = forget_body (Spawned n) (record w { living = without n w.living })
