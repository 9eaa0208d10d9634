-- The order of gates (this project's own). The chain of a gate is the list of the instances that its frame lies in, the outermost first. Of two
-- gates the one with the older instance goes first, where their chains first differ by two instances of one pool; else the one with the lower number.
use Rattle.std.specs.Prelude.{ℕ, suc, zero, ◌-◌, nat_lt, nat_le, ◌==◌, not, Bool, true, false, ◌&&◌, ◌||◌, if◌then◌else◌, List, [], ◌∷◌, ◌++◌, Option, Some, None}
use Rattle.std.specs.List.{list_all}
use Rattle.std.specs.Option.{option_map}
use Rattle.ceu_code.specs.declared.image.Image.{Image}
use Rattle.ceu_mem.specs.Bytes.{number_at}
use Rattle.ceu_isa.specs.Layout.{slots_at, in_slots, gate_of}
use Rattle.ceu_isa.specs.Pools.{return_of, outer_frame}

-- ---- chains

abbrev pub is_instance : List ℕ → (frame : ℕ) → Bool
is_instance bytes frame = return_of bytes frame == 65535

-- a frame whose link leads to a lower one, and, of an instance, with a place before it
abbrev pub leads_down : Image → List ℕ → (frame : ℕ) → Bool
leads_down image bytes frame =
    (in_slots image frame 8 && nat_lt (outer_frame bytes frame) frame) && (not (is_instance bytes frame) || (nat_le 9 frame && in_slots image (frame - 9) 9))

abbrev pub with_frame : List ℕ → (frame : ℕ) → List ℕ → List ℕ
with_frame bytes frame chain = if is_instance bytes frame then chain ++ frame ∷ [] else chain

-- the instances from the program's frame down to this one, in at most n links; none where a link leads elsewhere
unfoldable pub chain_in : (n : ℕ) → Image → List ℕ → (frame : ℕ) → Option (List ℕ)
chain_in zero image bytes frame = None
chain_in (suc n) image bytes frame = elim (frame == slots_at image) [
  | true ↦ Some []
  | false ↦ elim (leads_down image bytes frame) [
    | true ↦ option_map (with_frame bytes frame) (chain_in n image bytes (outer_frame bytes frame))
    | false ↦ None
  ]
]

-- each link leads to a lower address, so there are no more links than that
abbrev pub chain : Image → List ℕ → (frame : ℕ) → Option (List ℕ)
chain image bytes frame = chain_in (suc frame) image bytes frame

-- ---- which of two gates goes first

-- the instance in the place that ends where this frame begins
abbrev pub number_of : List ℕ → (frame : ℕ) → ℕ
number_of bytes frame = number_at 4 bytes (frame - 8)

abbrev pub pool_of : List ℕ → (frame : ℕ) → ℕ
pool_of bytes frame = number_at 2 bytes (frame - 2)

abbrev pub of_one_pool : List ℕ → (f g : ℕ) → Bool
of_one_pool bytes f g = (pool_of bytes f == pool_of bytes g) && (outer_frame bytes f == outer_frame bytes g)

-- the older instance goes first, where both are of one pool and one of them is older; else `lower` says
abbrev pub older : List ℕ → (f g : ℕ) → (lower : Bool) → Bool
older bytes f g lower =
    if of_one_pool bytes f g && not (number_of bytes f == number_of bytes g) then nat_lt (number_of bytes f) (number_of bytes g) else lower

abbrev pub earlier : List ℕ → List ℕ → List ℕ → (lower : Bool) → Bool
earlier bytes (f ∷ fs) (g ∷ gs) lower = if f == g then earlier bytes fs gs lower else older bytes f g lower
earlier bytes _ _ lower = lower

abbrev pub goes_before : List ℕ → Option (List ℕ) → Option (List ℕ) → (lower : Bool) → Bool
goes_before bytes (Some fs) (Some gs) lower = earlier bytes fs gs lower
goes_before bytes _ _ lower = false

-- the gate g goes before the gate h
unfoldable pub before : Image → List ℕ → (g h : ℕ) → Bool
before image bytes g h =
    goes_before bytes (chain image bytes (gate_of image bytes g).frame) (chain image bytes (gate_of image bytes h).frame) (nat_lt g h)

-- ---- the first and the last of some gates

pub data Choice : Type 0 where
  Nowhere : Choice  -- there is none
  Unclear : Choice  -- none goes before all others
  Chosen : (gate : ℕ) → Choice

abbrev pub is_first : Image → List ℕ → List ℕ → ℕ → Bool
is_first image bytes gates g = list_all (λ h. (g == h) || before image bytes g h) gates

abbrev pub is_last : Image → List ℕ → List ℕ → ℕ → Bool
is_last image bytes gates g = list_all (λ h. (g == h) || before image bytes h g) gates

unfoldable pub found : (ℕ → Bool) → List ℕ → Choice
found test [] = Unclear
found test (g ∷ gs) = elim (test g) [ true ↦ Chosen g | false ↦ found test gs ]

abbrev pub first_of : Image → List ℕ → List ℕ → Choice
first_of image bytes [] = Nowhere
first_of image bytes (g ∷ gs) = found (is_first image bytes (g ∷ gs)) (g ∷ gs)

abbrev pub last_of : Image → List ℕ → List ℕ → Choice
last_of image bytes [] = Nowhere
last_of image bytes (g ∷ gs) = found (is_last image bytes (g ∷ gs)) (g ∷ gs)
