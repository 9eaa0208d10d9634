-- Each instruction is decoded from the bytes that spell it.
use Rattle.std.proofs.Common.{◌≡◌, ◌≢◌, refl, sym, ap, ◌∙◌, subst, ◌<◌, ◌≤◌, ℕ, ◌+◌, ◌^◌, ℤ, Bool, true, false, List, [], ◌∷◌, ◌++◌, length, Option, Some, None, append_assoc, arith}
use Rattle.std.specs.Prelude.{slice_get, slice_index, nat_le, if◌then◌else◌, option_and_then}
use Rattle.std.specs.Option.{option_map}
use Rattle.std.proofs.lemmas.Bool.{le-leb}
use Rattle.ceu_base.specs.Values.{is_value, is_signed}
use Rattle.ceu_base.specs.declared.kinds.Ty.{Ty}
use Rattle.ceu_base.specs.declared.kinds.Ty.TheVariants as ty
use Rattle.ceu_base.specs.declared.kinds.Op1.{Op1}
use Rattle.ceu_base.specs.declared.kinds.Op2.{Op2}
use Rattle.ceu_code.specs.declared.instr.TimeUnit.{TimeUnit}
use Rattle.ceu_code.specs.declared.instr.Instr.{Instr}
use Rattle.ceu_code.specs.declared.instr.Instr.TheVariants as instr
use Rattle.ceu_code.specs.declared.image.Image.{Image}
use Rattle.ceu_code.specs.Table.{low_first, type_byte}
use Rattle.ceu_code.specs.Instructions.{cell, spelled, size, prefix_byte, binary_byte, unit_byte}
use Rattle.ceu_code.specs.Spelling.{half, word}
use Rattle.ceu_code.proofs.Codes.{length-low_first}
use Rattle.ceu_asm.specs.Whole.{IsInRange}
use Rattle.ceu_asm.specs.Fetch.{IsAt}
use Rattle.ceu_mem.specs.Bytes.{number_at}
use Rattle.ceu_mem.specs.Memory.{value_at, with_sign, size as bytes_of}
use Rattle.ceu_isa.specs.Fetching.{Reader, readers, read_by, decoded, if_whole, fetched, any_type, named_type, prefix_of, binary_of, unit_of, cell_type, constant_of}
use Rattle.ceu_isa.specs.Fetching as reading
use Rattle.laws_machine_code.specs.Fetches.{FetchesSpelled}
use Rattle.laws_machine_code.proofs.Standing.{Stands, stands_there, fits_there, stands_parts, number_there, byte_there}
use Rattle.laws_machine_code.proofs.Constants.{type_read, named_read, prefix_read, binary_read, unit_read, cell_small, constant_back}

-- ---- operands one behind the other

module _ (code : List ℕ) (at : ℕ) where
  -- a number of 16 bits, and what stands behind it
  half_then : (a : ℕ) (rest : List ℕ) → a < 2 ^ 16 → Stands code at (half a ++ rest) → (number_at 2 code at ≡ a) × Stands code (at + 2) rest
  half_then a rest small h =
      let parts = stands_parts code at (half a) rest h in
      (number_there 2 a code at small parts.0, subst (λ (k : ℕ). Stands code k rest) (ap (λ (n : ℕ). at + n) (length-low_first 2 a)) parts.1)

  word_then : (a : ℕ) (rest : List ℕ) → a < 2 ^ 32 → Stands code at (word a ++ rest) → (number_at 4 code at ≡ a) × Stands code (at + 4) rest
  word_then a rest small h =
      let parts = stands_parts code at (word a) rest h in
      (number_there 4 a code at small parts.0, subst (λ (k : ℕ). Stands code k rest) (ap (λ (n : ℕ). at + n) (length-low_first 4 a)) parts.1)

  half_only : (a : ℕ) → a < 2 ^ 16 → Stands code at (half a) → number_at 2 code at ≡ a
  half_only a small h = number_there 2 a code at small h

  byte_only : (b : ℕ) → slice_index code at ≡ b → number_at 1 code at ≡ b
  byte_only b e = byte_there b code at e

-- ---- the readers

module _ (code : List ℕ) (at : ℕ) where
  -- the opcode chooses the reader
  opcode : (b : ℕ) → slice_index code at ≡ b → decoded code at ≡ read_by (slice_get readers b) code (at + 1)
  unfolding decoded
  opcode b e = ap (λ (k : ℕ). read_by (slice_get readers k) code (at + 1)) (byte_there b code at e)

  -- numbers at places that are told in another way
  half_at : (p a : ℕ) (q : ℕ) → q ≡ p → a < 2 ^ 16 → Stands code p (half a) → number_at 2 code q ≡ a
  half_at p a q e small h = ap (number_at 2 code) e ∙ number_there 2 a code p small h

  byte_at : (p b : ℕ) (q : ℕ) → q ≡ p → slice_index code p ≡ b → number_at 1 code q ≡ b
  byte_at p b q e h = ap (number_at 1 code) e ∙ byte_there b code p h

  with_type : (f : Ty → Instr) (t : Ty) → t ≢ ty.None → (p : ℕ) → number_at 1 code p ≡ type_byte t → option_map f (named_type (number_at 1 code p)) ≡ Some (f t)
  with_type f t some p e = ap (λ (n : ℕ). option_map f (named_type n)) e ∙ ap (option_map f) (named_read t some)

  type_and_half : (f : Ty → ℕ → Instr) (t : Ty) (a : ℕ) → t ≢ ty.None → a < 2 ^ 16 → Stands code (at + 1) (type_byte t ∷ half a)
      → option_map (λ u. f u (number_at 2 code (at + 1 + 1))) (named_type (number_at 1 code (at + 1))) ≡ Some (f t a)
  type_and_half f t a some small h =
      with_type (λ u. f u (number_at 2 code (at + 1 + 1))) t some (at + 1) (byte_there (type_byte t) code (at + 1) h.0) ∙ ap (λ (n : ℕ). Some (f t n)) (number_there 2 a code (at + 1 + 1) small h.1)

  half_and_type : (f : ℕ → Ty → Instr) (k : ℕ) (t : Ty) → k < 2 ^ 16 → Stands code (at + 1) (half k ++ (type_byte t ∷ []))
      → option_map (λ u. f (number_at 2 code (at + 1)) u) (any_type (number_at 1 code (at + 1 + 2))) ≡ Some (f k t)
  half_and_type f k t small h =
      let parts = half_then code (at + 1) k (type_byte t ∷ []) small h in
      ap (λ (n : ℕ). option_map (λ u. f n u) (any_type (number_at 1 code (at + 1 + 2)))) parts.0
      ∙ ap (λ (n : ℕ). option_map (λ u. f k u) (any_type n)) (byte_there (type_byte t) code (at + 1 + 2) parts.1.0)
      ∙ ap (option_map (λ u. f k u)) (type_read t)

  two_halves : (f : ℕ → ℕ → Instr) (a b : ℕ) → a < 2 ^ 16 → b < 2 ^ 16 → Stands code (at + 1) (half a ++ half b) → Some (f (number_at 2 code (at + 1)) (number_at 2 code (at + 1 + 2))) ≡ Some (f a b)
  two_halves f a b sa sb h =
      let parts = half_then code (at + 1) a (half b) sa h in
      ap (λ (n : ℕ). Some (f n (number_at 2 code (at + 1 + 2)))) parts.0 ∙ ap (λ (n : ℕ). Some (f a n)) (number_there 2 b code (at + 1 + 2) sb parts.1)

  -- the numbers of halves one behind the other
  pub record Halves (p a b : ℕ) (rest : List ℕ) : Type 0 where
    pub first : number_at 2 code p ≡ a
    pub second : number_at 2 code (p + 2) ≡ b
    pub behind : Stands code (p + 4) rest

  halves_at : (p a b : ℕ) (rest : List ℕ) → a < 2 ^ 16 → b < 2 ^ 16 → Stands code p (half a ++ (half b ++ rest)) → Halves p a b rest
  halves_at p a b rest sa sb h =
      let one = half_then code p a (half b ++ rest) sa h in
      let two = half_then code (p + 2) b rest sb one.1 in
      record { first = one.0; second = two.0; behind = subst (λ (k : ℕ). Stands code k rest) (let e : p + 2 + 2 ≡ p + 4 = omega arith in e) two.1 }

  three_halves : (f : ℕ → ℕ → ℕ → Instr) (a b c : ℕ) → a < 2 ^ 16 → b < 2 ^ 16 → c < 2 ^ 16 → Stands code (at + 1) (half a ++ (half b ++ half c))
      → Some (f (number_at 2 code (at + 1)) (number_at 2 code (at + 1 + 2)) (number_at 2 code (at + 1 + 4))) ≡ Some (f a b c)
  three_halves f a b c sa sb sc h =
      let x = halves_at (at + 1) a b (half c) sa sb h in
      let z : number_at 2 code (at + 1 + 4) ≡ c = number_there 2 c code (at + 1 + 4) sc x.behind in
      ap (λ (n : ℕ). Some (f n (number_at 2 code (at + 1 + 2)) (number_at 2 code (at + 1 + 4)))) x.first
      ∙ ap (λ (n : ℕ). Some (f a n (number_at 2 code (at + 1 + 4)))) x.second ∙ ap (λ (n : ℕ). Some (f a b n)) z

-- a constant: its type and its value, extended to 8 bytes
constant_read : (code : List ℕ) (at : ℕ) (t : Ty) (v : ℤ) → t ≢ ty.None → is_value t v ≡ true → Stands code (at + 1) (type_byte t ∷ low_first 8 (cell v))
    → option_and_then (λ u. constant_of (value_at (cell_type u) code (at + 1 + 1)) u) (named_type (number_at 1 code (at + 1))) ≡ Some (instr.Push t v)
constant_read code at t v some ok h =
    ap (λ (n : ℕ). option_and_then (λ u. constant_of (value_at (cell_type u) code (at + 1 + 1)) u) (named_type n)) (byte_there (type_byte t) code (at + 1) h.0)
    ∙ ap (option_and_then (λ u. constant_of (value_at (cell_type u) code (at + 1 + 1)) u)) (named_read t some)
    ∙ ap (λ (x : ℤ). constant_of x t) value_is
    ∙ ap (λ (b : Bool). if b then Some (instr.Push t v) else None) ok
  where
    long : (b : Bool) → bytes_of (if b then ty.S64 else ty.U64) ≡ 8
    long true = refl
    long false = refl

    value_is : value_at (cell_type t) code (at + 1 + 1) ≡ v
    value_is =
        ap (λ (k : ℕ). with_sign (cell_type t) (number_at k code (at + 1 + 1))) (long (is_signed t))
        ∙ ap (with_sign (cell_type t)) (number_there 8 (cell v) code (at + 1 + 1) (cell_small v) h.1)
        ∙ constant_back t v some ok

module _ (code : List ℕ) (at : ℕ) where
  prefix_read_at : (o : Op1) (t : Ty) (p : ℕ) → t ≢ ty.None → p < 2 ^ 16 → Stands code (at + 1) (prefix_byte o ∷ type_byte t ∷ half p)
      → reading.prefix_operator code (at + 1) ≡ Some (instr.Prefix o t p)
  prefix_read_at o t p some small h =
      let second : number_at 1 code (at + 1 + 1) ≡ type_byte t = byte_there (type_byte t) code (at + 1 + 1) h.1.0 in
      let third : number_at 2 code (at + 1 + 2) ≡ p = half_at code at (at + 1 + 1 + 1) p (at + 1 + 2) (omega arith) small h.1.1 in
      ap (λ (n : ℕ). option_and_then (λ q. option_map (λ u. instr.Prefix q u (number_at 2 code (at + 1 + 2))) (named_type (number_at 1 code (at + 1 + 1)))) (prefix_of n)) (byte_there (prefix_byte o) code (at + 1) h.0)
      ∙ ap (option_and_then (λ q. option_map (λ u. instr.Prefix q u (number_at 2 code (at + 1 + 2))) (named_type (number_at 1 code (at + 1 + 1))))) (prefix_read o)
      ∙ with_type code at (λ u. instr.Prefix o u (number_at 2 code (at + 1 + 2))) t some (at + 1 + 1) second
      ∙ ap (λ (n : ℕ). Some (instr.Prefix o t n)) third

  binary_read_at : (o : Op2) (t : Ty) (p : ℕ) → binary_byte o ≤ 15 → t ≢ ty.None → p < 2 ^ 16 → Stands code (at + 1) (binary_byte o ∷ type_byte t ∷ half p)
      → reading.binary_operator code (at + 1) ≡ Some (instr.Binary o t p)
  binary_read_at o t p few some small h =
      let second : number_at 1 code (at + 1 + 1) ≡ type_byte t = byte_there (type_byte t) code (at + 1 + 1) h.1.0 in
      let third : number_at 2 code (at + 1 + 2) ≡ p = half_at code at (at + 1 + 1 + 1) p (at + 1 + 2) (omega arith) small h.1.1 in
      ap (λ (n : ℕ). option_and_then (λ q. option_map (λ u. instr.Binary q u (number_at 2 code (at + 1 + 2))) (named_type (number_at 1 code (at + 1 + 1)))) (binary_of n)) (byte_there (binary_byte o) code (at + 1) h.0)
      ∙ ap (option_and_then (λ q. option_map (λ u. instr.Binary q u (number_at 2 code (at + 1 + 2))) (named_type (number_at 1 code (at + 1 + 1))))) (binary_read o few)
      ∙ with_type code at (λ u. instr.Binary o u (number_at 2 code (at + 1 + 2))) t some (at + 1 + 1) second
      ∙ ap (λ (n : ℕ). Some (instr.Binary o t n)) third

  convert_read : (t u : Ty) → t ≢ ty.None → u ≢ ty.None → Stands code (at + 1) (type_byte t ∷ type_byte u ∷ []) → reading.conversion code (at + 1) ≡ Some (instr.Convert t u)
  convert_read t u some other h =
      ap (λ (n : ℕ). option_and_then (λ x. option_map (λ y. instr.Convert x y) (named_type (number_at 1 code (at + 1 + 1)))) (named_type n)) (byte_there (type_byte t) code (at + 1) h.0)
      ∙ ap (option_and_then (λ x. option_map (λ y. instr.Convert x y) (named_type (number_at 1 code (at + 1 + 1))))) (named_read t some)
      ∙ with_type code at (λ y. instr.Convert t y) u other (at + 1 + 1) (byte_there (type_byte u) code (at + 1 + 1) h.1.0)

  pool_read : (a n k g : ℕ) → a < 2 ^ 16 → n < 2 ^ 16 → k < 2 ^ 16 → g < 2 ^ 16 → Stands code (at + 1) (half a ++ (half n ++ (half k ++ half g))) → reading.pool code (at + 1) ≡ Some (instr.MakePool a n k g)
  pool_read a n k g sa sn sk sg h =
      let x = halves_at code at (at + 1) a n (half k ++ half g) sa sn h in
      let y = half_then code (at + 1 + 4) k (half g) sk x.behind in
      let z : number_at 2 code (at + 1 + 6) ≡ g = half_at code at (at + 1 + 4 + 2) g (at + 1 + 6) (omega arith) sg y.1 in
      ap (λ (m : ℕ). Some (instr.MakePool m (number_at 2 code (at + 1 + 2)) (number_at 2 code (at + 1 + 4)) (number_at 2 code (at + 1 + 6)))) x.first
      ∙ ap (λ (m : ℕ). Some (instr.MakePool a m (number_at 2 code (at + 1 + 4)) (number_at 2 code (at + 1 + 6)))) x.second
      ∙ ap (λ (m : ℕ). Some (instr.MakePool a n m (number_at 2 code (at + 1 + 6)))) y.0
      ∙ ap (λ (m : ℕ). Some (instr.MakePool a n k m)) z

  spawn_read : (k a n b p : ℕ) → k < 2 ^ 16 → a < 2 ^ 16 → n < 2 ^ 16 → b < 2 ^ 16 → p < 2 ^ 16 → Stands code (at + 1) (half k ++ (half a ++ (half n ++ (half b ++ half p))))
      → reading.spawn code (at + 1) ≡ Some (instr.Spawn k a n b p)
  spawn_read k a n b p sk sa sn sb sp h =
      let x = halves_at code at (at + 1) k a (half n ++ (half b ++ half p)) sk sa h in
      let y = halves_at code at (at + 1 + 4) n b (half p) sn sb x.behind in
      let third : number_at 2 code (at + 1 + 4) ≡ n = y.first in
      let fourth : number_at 2 code (at + 1 + 6) ≡ b = ap (number_at 2 code) (let e : at + 1 + 6 ≡ at + 1 + 4 + 2 = omega arith in e) ∙ y.second in
      let fifth : number_at 2 code (at + 1 + 8) ≡ p = half_at code at (at + 1 + 4 + 4) p (at + 1 + 8) (omega arith) sp y.behind in
      ap (λ (m : ℕ). Some (instr.Spawn m (number_at 2 code (at + 1 + 2)) (number_at 2 code (at + 1 + 4)) (number_at 2 code (at + 1 + 6)) (number_at 2 code (at + 1 + 8)))) x.first
      ∙ ap (λ (m : ℕ). Some (instr.Spawn k m (number_at 2 code (at + 1 + 4)) (number_at 2 code (at + 1 + 6)) (number_at 2 code (at + 1 + 8)))) x.second
      ∙ ap (λ (m : ℕ). Some (instr.Spawn k a m (number_at 2 code (at + 1 + 6)) (number_at 2 code (at + 1 + 8)))) third
      ∙ ap (λ (m : ℕ). Some (instr.Spawn k a n m (number_at 2 code (at + 1 + 8)))) fourth
      ∙ ap (λ (m : ℕ). Some (instr.Spawn k a n b m)) fifth

  bound_read : (a d : ℕ) → a < 2 ^ 16 → d ≤ 2 → Stands code (at + 1) (half a ++ (d ∷ [])) → reading.range_bound code (at + 1) ≡ Some (instr.RangeBound a d)
  bound_read a d sa few h =
      let parts = half_then code (at + 1) a (d ∷ []) sa h in
      let second : number_at 1 code (at + 1 + 2) ≡ d = byte_there d code (at + 1 + 2) parts.1.0 in
      ap (λ (n : ℕ). if nat_le n 2 then Some (instr.RangeBound (number_at 2 code (at + 1)) n) else None) second
      ∙ ap (λ (b : Bool). if b then Some (instr.RangeBound (number_at 2 code (at + 1)) d) else None) (le-leb d 2 few)
      ∙ ap (λ (n : ℕ). Some (instr.RangeBound n d)) parts.0

  limit_read : (a n p : ℕ) → a < 2 ^ 16 → n < 2 ^ 32 → p < 2 ^ 16 → Stands code (at + 1) (half a ++ (word n ++ half p))
      → Some (instr.Limit (number_at 2 code (at + 1)) (number_at 4 code (at + 1 + 2)) (number_at 2 code (at + 1 + 6))) ≡ Some (instr.Limit a n p)
  limit_read a n p sa sn sp h =
      let one = half_then code (at + 1) a (word n ++ half p) sa h in
      let two = word_then code (at + 1 + 2) n (half p) sn one.1 in
      let third : number_at 2 code (at + 1 + 6) ≡ p = half_at code at (at + 1 + 2 + 4) p (at + 1 + 6) (omega arith) sp two.1 in
      ap (λ (m : ℕ). Some (instr.Limit m (number_at 4 code (at + 1 + 2)) (number_at 2 code (at + 1 + 6)))) one.0
      ∙ ap (λ (m : ℕ). Some (instr.Limit a m (number_at 2 code (at + 1 + 6)))) two.0 ∙ ap (λ (m : ℕ). Some (instr.Limit a n m)) third

-- ---- the instructions

pub decodes : (code : List ℕ) (at : ℕ) (i : Instr) → IsInRange i → Stands code at (spelled i) → decoded code at ≡ Some i
unfolding read_by readers
decodes code at (instr.Push t v) r h = opcode code at 1 h.0 ∙ constant_read code at t v r.0 r.1 h.1
decodes code at (instr.Load t a) r h = opcode code at 2 h.0 ∙ type_and_half code at instr.Load t a r.0 r.1 h.1
decodes code at (instr.LoadOuter t a) r h = opcode code at 3 h.0 ∙ type_and_half code at instr.LoadOuter t a r.0 r.1 h.1
decodes code at (instr.Store t a) r h = opcode code at 4 h.0 ∙ type_and_half code at instr.Store t a r.0 r.1 h.1
decodes code at (instr.StoreOuter t a) r h = opcode code at 5 h.0 ∙ type_and_half code at instr.StoreOuter t a r.0 r.1 h.1
decodes code at (instr.Prefix o t p) r h = opcode code at 6 h.0 ∙ prefix_read_at code at o t p r.0 r.1 h.1
decodes code at (instr.Binary o t p) r h = opcode code at 7 h.0 ∙ binary_read_at code at o t p r.0 r.1 r.2 h.1
decodes code at (instr.Convert t u) r h = opcode code at 8 h.0 ∙ convert_read code at t u r.0 r.1 h.1
decodes code at (instr.Jump c) r h = opcode code at 9 h.0 ∙ ap (λ (n : ℕ). Some (instr.Jump n)) (number_there 2 c code (at + 1) r h.1)
decodes code at (instr.JumpIfFalse c) r h = opcode code at 10 h.0 ∙ ap (λ (n : ℕ). Some (instr.JumpIfFalse n)) (number_there 2 c code (at + 1) r h.1)
decodes code at (instr.Value t) r h = opcode code at 11 h.0 ∙ with_type code at (λ u. instr.Value u) t r (at + 1) (byte_there (type_byte t) code (at + 1) h.1.0)
decodes code at instr.SetValue r h = opcode code at 12 h.0
decodes code at (instr.Output k t) r h = opcode code at 13 h.0 ∙ half_and_type code at instr.Output k t r h.1
decodes code at instr.End r h = opcode code at 14 h.0
decodes code at (instr.WaitInput k) r h = opcode code at 16 h.0 ∙ ap (λ (n : ℕ). Some (instr.WaitInput n)) (number_there 2 k code (at + 1) r h.1)
decodes code at (instr.WaitTime u) r h = opcode code at 17 h.0 ∙ ap (λ (n : ℕ). option_map instr.WaitTime (unit_of n)) (byte_there (unit_byte u) code (at + 1) h.1.0) ∙ ap (option_map instr.WaitTime) (unit_read u)
decodes code at (instr.WaitEvent k) r h = opcode code at 18 h.0 ∙ ap (λ (n : ℕ). Some (instr.WaitEvent n)) (number_there 2 k code (at + 1) r h.1)
decodes code at instr.WaitForever r h = opcode code at 19 h.0
decodes code at instr.StartAsync r h = opcode code at 20 h.0
decodes code at instr.YieldAsync r h = opcode code at 21 h.0
decodes code at instr.EndAsync r h = opcode code at 22 h.0
decodes code at (instr.Emit k t) r h = opcode code at 23 h.0 ∙ half_and_type code at instr.Emit k t r h.1
decodes code at (instr.Fork g c) r h = opcode code at 24 h.0 ∙ two_halves code at instr.Fork g c r.0 r.1 h.1
decodes code at (instr.Move g) r h = opcode code at 25 h.0 ∙ ap (λ (n : ℕ). Some (instr.Move n)) (number_there 2 g code (at + 1) r h.1)
decodes code at instr.Halt r h = opcode code at 26 h.0
decodes code at (instr.AbortGates g n) r h = opcode code at 27 h.0 ∙ two_halves code at instr.AbortGates g n r.0 r.1 h.1
decodes code at (instr.Register g c p) r h = opcode code at 28 h.0 ∙ three_halves code at instr.Register g c p r.0 r.1 r.2 (subst (Stands code (at + 1)) (append_assoc (half g) (half c) (half p)) h.1)
decodes code at instr.EndFinalizer r h = opcode code at 29 h.0
decodes code at (instr.Call k a g) r h = opcode code at 30 h.0 ∙ three_halves code at instr.Call k a g r.0 r.1 r.2 (subst (Stands code (at + 1)) (append_assoc (half k) (half a) (half g)) h.1)
decodes code at instr.Return r h = opcode code at 31 h.0
decodes code at (instr.MakePool a n k g) r h =
    opcode code at 32 h.0 ∙ pool_read code at a n k g r.0 r.1 r.2 r.3 (subst (Stands code (at + 1)) (append_assoc (half a ++ half n) (half k) (half g) ∙ append_assoc (half a) (half n) (half k ++ half g)) h.1)
decodes code at (instr.Spawn k a n b p) r h =
    opcode code at 33 h.0 ∙ spawn_read code at k a n b p r.0 r.1 r.2 r.3 r.4
    (subst (Stands code (at + 1)) (append_assoc ((half k ++ half a) ++ half n) (half b) (half p) ∙ append_assoc (half k ++ half a) (half n) (half b ++ half p) ∙ append_assoc (half k) (half a) (half n ++ (half b ++ half p))) h.1)
decodes code at (instr.Kill a) r h = opcode code at 34 h.0 ∙ ap (λ (n : ℕ). Some (instr.Kill n)) (number_there 2 a code (at + 1) r h.1)
decodes code at (instr.Alive a) r h = opcode code at 35 h.0 ∙ ap (λ (n : ℕ). Some (instr.Alive n)) (number_there 2 a code (at + 1) r h.1)
decodes code at (instr.RangeBound a d) r h = opcode code at 36 h.0 ∙ bound_read code at a d r.0 r.1 h.1
decodes code at (instr.RangeNext a i c) r h = opcode code at 37 h.0 ∙ three_halves code at instr.RangeNext a i c r.0 r.1 r.2 (subst (Stands code (at + 1)) (append_assoc (half a) (half i) (half c)) h.1)
decodes code at (instr.Limit a n p) r h = opcode code at 38 h.0 ∙ limit_read code at a n p r.0 r.1 r.2 (subst (Stands code (at + 1)) (append_assoc (half a) (word n) (half p)) h.1)

-- ---- how long they are

pub long_as_told : (i : Instr) → length (spelled i) ≡ size i
unfolding low_first
long_as_told i = grind arith

pub some_bytes : (i : Instr) → 0 < size i
some_bytes i = grind arith

pub fetches_spelled : FetchesSpelled
unfolding fetched
fetches_spelled image at i r h =
    let there = stands_there (size i) image.code at (spelled i) (long_as_told i) h in
    let fits = fits_there (size i) image.code at (spelled i) (long_as_told i) (some_bytes i) h in
    ap (option_and_then (if_whole image.code at)) (decodes image.code at i r there) ∙ ap (λ (b : Bool). if b then Some i else None) (le-leb (at + size i) (length image.code) fits)
