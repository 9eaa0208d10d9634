-- What a reader of bytes answers: what it read and where it ended, or the first place at which nothing that it reads goes on so.
use Rattle.std.specs.Prelude.{◌≡◌, ℕ, ◌+◌, ◌-◌, ◌/◌, ◌≤◌, nat_lt, nat_le, if◌then◌else◌, IsTrue, List, ◌∷◌, ◌++◌, length, drop}
use Rattle.std.specs.List.{AllByRecursion, flat_map}
use Rattle.ceu_code.specs.declared.decoding.DecodeError.{DecodeError}
use Rattle.ceu_code.specs.declared.decoding.DecodeError.TheVariants.{Bad, Memory}
use Rattle.ceu_code.specs.declared.span.Span.{Span}
use Rattle.ceu_code.specs.Table.{low_first, InEither, empty_span, IsInstruction, IsCode}
use Rattle.ceu_code.specs.Spelling.{counted, is_name_byte, IsExternalName}

-- behind the first `at` bytes stands a word of the form F, a value's, up to `next`
pub record Reads {V : Type 0} (F : V → List ℕ → Type 0) (bytes : List ℕ) (at : ℕ) (v : V) (next : ℕ) : Type 0 where
  pub word : List ℕ
  pub form : F v word
  pub split : drop at bytes ≡ word ++ drop next bytes
  pub ahead : next ≡ at + length word
  pub within : next ≤ length bytes

-- the words of a form
abbrev pub Words : {V : Type 0} → (V → List ℕ → Type 0) → List ℕ → Type 0
Words {V} F word = (v : V) × F v word

-- behind the first `at` bytes stands no word of L, and k is the end of what begins one there
pub record Stops (L : List ℕ → Type 0) (bytes : List ℕ) (at k : ℕ) : Type 0 where
  pub front : List ℕ
  pub split : drop at bytes ≡ front ++ drop k bytes
  pub ahead : k ≡ at + length front
  pub within : k ≤ length bytes
  pub begins : (more : List ℕ) × L (front ++ more)
  pub never : (word rest : List ℕ) → L word → drop at bytes ≡ word ++ rest → ⊥
  pub longest : (b : ℕ) (rest more : List ℕ) → drop k bytes ≡ b ∷ rest → L (front ++ b ∷ more) → ⊥

-- the refusal of what stands there; want of memory may come at any time
abbrev pub Refused : (List ℕ → Type 0) → List ℕ → ℕ → DecodeError → Type 0
Refused L bytes at (Bad k) = Stops L bytes at k
Refused L bytes at Memory = Unit {0}

-- a word of the form F, and behind it one that its value asks for
pub record Then {V : Type 0} (F : V → List ℕ → Type 0) (L : V → List ℕ → Type 0) (word : List ℕ) : Type 0 where
  pub value : V
  pub first : List ℕ
  pub second : List ℕ
  pub is_first : F value first
  pub is_second : L value second
  pub joined : word ≡ first ++ second

-- of two words that begin the same bytes, both are one, with one value
abbrev pub Unique : {V : Type 0} → (V → List ℕ → Type 0) → Type 0
Unique {V} F = (v u : V) (a b x y : List ℕ) → F v a → F u b → a ++ x ≡ b ++ y → (v ≡ u) × (a ≡ b)

-- ---- the forms

-- a value that is valid, as it is spelled
abbrev pub Spelled : {V : Type 0} → (V → Type 0) → (V → List ℕ) → V → List ℕ → Type 0
Spelled Valid spell v word = Valid v × (word ≡ spell v)

-- a number of k bytes in one of two spans
abbrev pub IsIn : ℕ → Span → Span → ℕ → List ℕ → Type 0
IsIn k a b n word = InEither a b n × (word ≡ low_first k n)

-- so many items
abbrev pub Items : {V : Type 0} → (V → Type 0) → (V → List ℕ) → ℕ → List V → List ℕ → Type 0
Items Valid spell n items word = (length items ≡ n) × AllByRecursion Valid items × (word ≡ flat_map spell items)

-- a number of k bytes from one number to another
abbrev pub IsBetween : ℕ → ℕ → ℕ → ℕ → List ℕ → Type 0
IsBetween k least greatest n word = ((least ≤ n) × (n ≤ greatest)) × (word ≡ low_first k n)

-- what is left of a span's numbers, divided by 256, where their lowest byte is b
abbrev pub narrowed : Span → ℕ → Span
narrowed span b = if nat_lt span.to b then empty_span else record { from = if nat_le span.from b then 0 else (span.from - b - 1) / 256 + 1; to = (span.to - b) / 256 }

abbrev pub HasNumbers : Span → Type 0
HasNumbers span = span.from ≤ span.to

-- the count of the items, at least so many, and then each of them
abbrev pub Counted : {V : Type 0} → (V → Type 0) → (V → List ℕ) → ℕ → List V → List ℕ → Type 0
Counted Valid spell least items word = ((least ≤ length items) × (length items ≤ 65535)) × (AllByRecursion Valid items × (word ≡ counted spell items))

-- so many capitals, digits and underscores; and so many behind a capital
abbrev pub IsNameRest : ℕ → List ℕ → List ℕ → Type 0
IsNameRest n name word = (length name ≡ n) × AllByRecursion (λ b. IsTrue (is_name_byte b)) name × (word ≡ name)

abbrev pub IsNameOf : ℕ → List ℕ → List ℕ → Type 0
IsNameOf n name word = (length name ≡ n + 1) × IsExternalName name × (word ≡ name)

-- a word of L, which is its own value
abbrev pub Word : (List ℕ → Type 0) → List ℕ → List ℕ → Type 0
Word L value word = L word × (word ≡ value)

-- an instruction of at most n bytes, and whole instructions of n bytes in all
abbrev pub IsInstructionIn : ℕ → List ℕ → Type 0
IsInstructionIn n word = IsInstruction word × (length word ≤ n)

abbrev pub IsCodeOf : ℕ → List ℕ → Type 0
IsCodeOf n word = IsCode word × (length word ≡ n)
