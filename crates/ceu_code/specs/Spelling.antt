-- Images as bytes: the one spelling of each image, and which images have one.
use Rattle.std.specs.Prelude.{◌≡◌, ◌≢◌, ℕ, ◌+◌, ◌*◌, ◌^◌, ◌<◌, ◌≤◌, Bool, ◌&&◌, ◌||◌, nat_le, ◌==◌, IsTrue, List, [], ◌∷◌, ◌++◌, length, map, take}
use Rattle.std.specs.List.{flat_map, AllByRecursion}
use Rattle.ceu_base.specs.declared.kinds.Ty.TheVariants as ty
use Rattle.ceu_base.specs.declared.kinds.Port.{Port}
use Rattle.ceu_base.specs.declared.kinds.Pos.{Pos}
use Rattle.ceu_code.specs.declared.image.CodeRow.{CodeRow}
use Rattle.ceu_code.specs.declared.image.Image.{Image}
use Rattle.ceu_code.specs.Table.{low_first, type_byte, IsCode}

-- a number of two bytes, and one of four
abbrev pub half : ℕ → List ℕ
half n = low_first 2 n

abbrev pub word : ℕ → List ℕ
word n = low_first 4 n

-- the count of the items, and then each of them
abbrev pub counted : {X : Type 0} → (X → List ℕ) → List X → List ℕ
counted item items = half (length items) ++ flat_map item items

abbrev pub port : Port → List ℕ
port p = type_byte p.ty ∷ length p.name ∷ p.name

abbrev pub code_row : CodeRow → List ℕ
code_row r = half r.entry ++ (half r.frame ++ (half r.gates ++ (length r.params ∷ map type_byte r.params)))

abbrev pub position : Pos → List ℕ
position p = word p.line ++ word p.col

-- an image without pools is spelled in version 1, which has no list of pools, and any other in version 2
abbrev pub version : List ℕ → ℕ
version [] = 1
version (pool ∷ pools) = 2

abbrev pub pool_list : List ℕ → List ℕ
pool_list [] = []
pool_list (pool ∷ pools) = counted half (pool ∷ pools)

abbrev pub numbers : Image → List ℕ
numbers image = word image.turns ++ (half image.levels ++ (half image.depth ++ (half image.gates ++ half image.slots)))

abbrev pub lists : Image → List ℕ
lists image = counted port image.inputs ++ (counted port image.outputs ++ (counted code_row image.codes ++ (pool_list image.pools ++ counted position image.places)))

-- the letters CEU and the version, the numbers, the lists, and the code with its length
abbrev pub spelling : Image → List ℕ
spelling image = (67 ∷ 69 ∷ 85 ∷ version image.pools ∷ []) ++ (numbers image ++ (lists image ++ (half (length image.code) ++ image.code)))

-- ---- which images have a spelling

abbrev pub is_capital : ℕ → Bool
is_capital b = nat_le 65 b && nat_le b 90

abbrev pub is_name_byte : ℕ → Bool
is_name_byte b = is_capital b || (nat_le 48 b && nat_le b 57) || b == 95

-- a capital, and then capitals, digits and underscores
abbrev pub IsExternalName : List ℕ → Type 0
IsExternalName [] = ⊥
IsExternalName (b ∷ bytes) = IsTrue (is_capital b) × AllByRecursion (λ c. IsTrue (is_name_byte c)) bytes

abbrev pub HasItems : {X : Type 0} → (X → Type 0) → List X → Type 0
HasItems Item items = (length items < 2 ^ 16) × AllByRecursion Item items

pub record IsPort (p : Port) : Type 0 where
  pub form : IsExternalName p.name
  pub short : length p.name ≤ 64

pub record IsCodeRow (r : CodeRow) : Type 0 where
  pub entry : r.entry < 2 ^ 16
  pub frame : r.frame < 2 ^ 16
  pub gates : r.gates < 2 ^ 16
  pub few : length r.params < 256
  pub typed : AllByRecursion (λ t. t ≢ ty.None) r.params

pub record IsPlace (p : Pos) : Type 0 where
  pub line : (1 ≤ p.line) × (p.line < 2 ^ 32)
  pub col : (1 ≤ p.col) × (p.col < 2 ^ 32)

pub record HasSpelling (image : Image) : Type 0 where
  pub turns : (1 ≤ image.turns) × (image.turns < 2 ^ 32)
  pub levels : image.levels < 2 ^ 16
  pub depth : 1 ≤ image.depth
  pub gates : (1 ≤ image.gates) × (image.gates ≤ 3000)
  pub memory : 16 + 8 * image.depth + 19 * image.gates + image.slots ≤ 65535
  pub inputs : HasItems IsPort image.inputs
  pub outputs : HasItems IsPort image.outputs
  pub codes : HasItems IsCodeRow image.codes
  pub pools : HasItems (λ pool. pool < 2 ^ 16) image.pools
  pub places : HasItems IsPlace image.places
  pub code : (length image.code < 2 ^ 16) × IsCode image.code

abbrev pub Spells : Image → List ℕ → Type 0
Spells image bytes = HasSpelling image × (bytes ≡ spelling image)

-- what fits into the byte of its length
abbrev pub HasShortName : Port → Type 0
HasShortName p = length p.name < 256

abbrev pub HasFewParams : CodeRow → Type 0
HasFewParams r = length r.params < 256

-- ---- what is said of bytes that spell no image

-- some image's spelling begins so
abbrev pub BeginsImage : List ℕ → Type 0
BeginsImage bytes = (image : Image) × (more : List ℕ) × Spells image (bytes ++ more)

-- the first k of these bytes begin an image, and no more of them do
pub record LongestBeginning (k : ℕ) (bytes : List ℕ) : Type 0 where
  pub within : k ≤ length bytes
  pub begins : BeginsImage (take k bytes)
  pub longest : (n : ℕ) → k < n → n ≤ length bytes → BeginsImage (take n bytes) → ⊥
