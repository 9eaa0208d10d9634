-- Lines that are put together from pieces, each of which takes the labels behind those of the piece before it.
use Rattle.std.specs.Prelude.{◌≡◌, ℕ, ◌+◌, List, [], ◌∷◌, ◌++◌}
use Rattle.ceu_base.specs.declared.kinds.Pos.{Pos}
use Rattle.ceu_asm.specs.declared.line.Line.{Line}
use Rattle.ceu_asm.specs.Pages.{Page}
use Rattle.ceu_asm.specs.Places.{number_of, with_place}

-- ---- positions

-- a list of positions with more of them, each put at its end where it isn't there
abbrev pub with_places : List Pos → List Pos → List Pos
with_places [] places = places
with_places (p ∷ ps) places = with_places ps (with_place p places)

-- the numbers of positions in a list
abbrev pub numbered : List Pos → Pos → ℕ
numbered places p = number_of p places

-- ---- places in the code

pub data Moment : Type 0 where
  Begins : Moment
  Finishes : Moment
  Turns : Moment  -- the next turn of a loop of an async begins

-- where a node is begun or finished: so many bytes behind a label
pub record Stop : Type 0 where
  pub moment : Moment
  pub node : ℕ
  pub label : ℕ
  pub behind : ℕ

abbrev pub stop : Moment → (node label behind : ℕ) → Stop
stop m n l b = record { moment = m; node = n; label = l; behind = b }

-- ---- pieces

-- Lines, in which positions stand by numbers, the first label that they don't take, the positions that they name, in their order, and the
-- places at which nodes begin or finish.
pub record Piece : Type 0 where
  pub lines : (Pos → ℕ) → List Line
  pub next : ℕ
  pub noted : List Pos
  pub stops : List Stop

-- by the first label that the piece may take
abbrev pub Draft : Type 0
Draft = ℕ → Piece

abbrev pub joined : Piece → Piece → Piece
joined a b = record {
  lines = λ number. a.lines number ++ b.lines number;
  next = b.next;
  noted = a.noted ++ b.noted;
  stops = a.stops ++ b.stops;
}

abbrev pub followed : Piece → Draft → Piece
followed a b = joined a (b a.next)

-- one after the other
abbrev pub both : Draft → Draft → Draft
both a b fresh = followed (a fresh) b

abbrev pub nothing : Draft
nothing fresh = record { lines = λ number. []; next = fresh; noted = []; stops = [] }

-- lines alone
abbrev pub text : List Line → Draft
text ls fresh = record { lines = λ number. ls; next = fresh; noted = []; stops = [] }

-- lines, with places in them
abbrev pub stopping : List Stop → List Line → Draft
stopping stops ls fresh = record { lines = λ number. ls; next = fresh; noted = []; stops = stops }

-- lines with the number of a position
abbrev pub placed : Pos → (ℕ → List Line) → Draft
placed p f fresh = record { lines = λ number. f (number p); next = fresh; noted = p ∷ []; stops = [] }

-- the same, with places in them
abbrev pub placed_stopping : List Stop → Pos → (ℕ → List Line) → Draft
placed_stopping stops p f fresh = record { lines = λ number. f (number p); next = fresh; noted = p ∷ []; stops = stops }

-- with so many labels taken first, of which this is the first one
abbrev pub taking : (count : ℕ) → (ℕ → Draft) → Draft
taking count f fresh = f fresh (fresh + count)

-- ---- a sheet with a piece added

-- Whatever positions the sheet takes later, the lines have the numbers of its list in them.
pub record Added (old new : Page) (draft : Draft) : Type 0 where
  pub labels : new.labels ≡ (draft old.labels).next
  pub places : new.places ≡ with_places (draft old.labels).noted old.places
  pub lines : (later : List Pos) → new.lines ≡ old.lines ++ (draft old.labels).lines (numbered (with_places later new.places))
