-- The parts of an image as they are read, and what is said of bytes that are refused.
use Rattle.std.specs.Prelude.{◌≡◌, ℕ, ◌-◌, ◌*◌, ◌/◌, ◌^◌, ◌<◌, ◌≤◌, List, [], ◌∷◌, ◌++◌, length, min}
use Rattle.std.specs.List.{AllByRecursion}
use Rattle.ceu_code.specs.declared.image.Image.{Image}
use Rattle.ceu_code.specs.declared.decoder.Numbers.{Numbers}
use Rattle.ceu_code.specs.declared.decoder.Lists.{Lists}
use Rattle.ceu_code.specs.declared.decoding.DecodeError.{DecodeError}
use Rattle.ceu_code.specs.declared.decoding.DecodeError.TheVariants.{Bad, Memory}
use Rattle.ceu_code.specs.Spelling.{half, word, port, code_row, position, version, pool_list, counted, IsPort, IsCodeRow, IsPlace, HasSpelling, spelling, Spells, LongestBeginning}
use Rattle.ceu_code.specs.Reading.{Spelled}

-- the letters CEU and a version
abbrev pub IsHead : ℕ → List ℕ → Type 0
IsHead v bytes = ((1 ≤ v) × (v ≤ 2)) × (bytes ≡ 67 ∷ 69 ∷ 85 ∷ v ∷ [])

-- as many gates, and as many bytes of frames, as fit beside the rest of the memory
abbrev pub most_gates : ℕ → ℕ
most_gates depth = min ((65519 - 8 * depth) / 19) 3000

abbrev pub most_slots : ℕ → ℕ → ℕ
most_slots depth gates = 65519 - 8 * depth - 19 * gates

pub record AreInRange (n : Numbers) : Type 0 where
  pub turns : (1 ≤ n.turns) × (n.turns ≤ 4294967295)
  pub levels : n.levels ≤ 65535
  pub depth : (1 ≤ n.depth) × (n.depth ≤ 8187)
  pub gates : (1 ≤ n.gates) × (n.gates ≤ most_gates n.depth)
  pub slots : n.slots ≤ most_slots n.depth n.gates

abbrev pub numbers_bytes : Numbers → List ℕ
numbers_bytes n = word n.turns ++ (half n.levels ++ (half n.depth ++ (half n.gates ++ half n.slots)))

abbrev pub IsNumbers : Numbers → List ℕ → Type 0
IsNumbers = Spelled AreInRange numbers_bytes

-- the pools of an image of that version
abbrev pub IsPools : ℕ → List ℕ → List ℕ → Type 0
IsPools v pools bytes = (version pools ≡ v) × ((length pools ≤ 65535) × (AllByRecursion (λ pool. pool < 2 ^ 16) pools × (bytes ≡ pool_list pools)))

-- the lists of an image of that version
pub record IsLists (v : ℕ) (l : Lists) (bytes : List ℕ) : Type 0 where
  pub inputs : (length l.inputs ≤ 65535) × AllByRecursion IsPort l.inputs
  pub outputs : (length l.outputs ≤ 65535) × AllByRecursion IsPort l.outputs
  pub codes : (length l.codes ≤ 65535) × AllByRecursion IsCodeRow l.codes
  pub version_is : version l.pools ≡ v
  pub pools : (length l.pools ≤ 65535) × AllByRecursion (λ pool. pool < 2 ^ 16) l.pools
  pub places : (length l.places ≤ 65535) × AllByRecursion IsPlace l.places
  pub spelled : bytes ≡ counted port l.inputs ++ (counted port l.outputs ++ (counted code_row l.codes ++ (pool_list l.pools ++ counted position l.places)))

abbrev pub image_of : Numbers → Lists → List ℕ → Image
image_of n l code = record { turns = n.turns; levels = n.levels; depth = n.depth; gates = n.gates; slots = n.slots; inputs = l.inputs; outputs = l.outputs; codes = l.codes; pools = l.pools; places = l.places; code = code }

abbrev pub IsImage : Image → List ℕ → Type 0
IsImage = Spelled HasSpelling spelling

-- bytes are refused where they spell no image, with the length of their longest beginning of one; want of memory may come at any time
abbrev pub IsCause : List ℕ → DecodeError → Type 0
IsCause bytes (Bad k) = LongestBeginning k bytes × ((image : Image) → Spells image bytes → ⊥)
IsCause bytes Memory = Unit {0}

-- bytes spell at most one image, and an image has at most one spelling
abbrev pub BytesSpellOneImage : Type 0
BytesSpellOneImage = (image other : Image) (bytes : List ℕ) → Spells image bytes → Spells other bytes → image ≡ other

abbrev pub ImagesHaveOneSpelling : Type 0
ImagesHaveOneSpelling = (image : Image) (bytes others : List ℕ) → Spells image bytes → Spells image others → bytes ≡ others
