-- Operands and instructions, part by part.
use Rattle.std.proofs.Common.{◌≡◌, ℕ, zero, suc, ◌+◌, ◌-◌, ◌/◌, ◌%◌, ◌^◌, ◌≤◌, ◌<◌, ◌⊎◌, inl, inr, List, [], ◌∷◌, ◌++◌, length, take, drop, get_or, Option, Some, None, refl, sym, ap, ◌∙◌, subst, arith, lit<, lit≤, append_assoc, length-append, drop-drop}
use Rattle.std.specs.Prelude.{slice_range, slice_get, option_and_then}
use Rattle.std.specs.List.{AllByRecursion, flat_map}
use Rattle.std.proofs.lemmas.Option.{slice_get-get_or, slice_get_past}
use Rattle.std.proofs.lemmas.List.{append-nil}
use Rattle.std.proofs.lemmas.List.Concat.{flat_map-cons}
use Rattle.std.proofs.lemmas.Grind.{flat_map-append}
use Rattle.std.proofs.Math.Seq.{drop-append_seam, take-append_seam, take-length}
use Rattle.ceu_base.specs.declared.kinds.Ty.{Ty}
use Rattle.ceu_base.specs.declared.kinds.Ty.TheVariants as ty
use Rattle.ceu_code.specs.declared.span.Span.{Span}
use Rattle.ceu_code.specs.declared.table.Operand.{Operand}
use Rattle.ceu_code.specs.declared.table.Operand.TheVariants.{Nothing, Typed, AnyType, Prefix, Binary, Unit as Units, Open, Half, Word as FourBytes, Constant}
use Rattle.ceu_code.specs.declared.table.Row.{Row}
use Rattle.ceu_code.specs.declared.decoding.DecodeError.{DecodeError}
use Rattle.ceu_code.specs.declared.decoding.DecodeError.TheVariants.{Bad}
use Rattle.ceu_code.specs.Table.{low_first, type_at, InEither, small_cells, negative_cells, IsConstant, IsNumber, IsOperand, IsOperands, operand_width, operand_least, operand_greatest, operands_width, operands, row_of, table, IsInstruction, IsCode}
use Rattle.ceu_code.specs.Reading.{Reads, Words, Stops, Unique, Refused, IsIn, IsBetween, Word, IsInstructionIn, IsCodeOf, HasNumbers}
use Rattle.ceu_code.proofs.Reading.{same_head, same_tail, stop_here, stop_byte, stop_same, refused_more, read_both, Pair, pair_first, pair_second, read_pair, unique_pair}
use Rattle.ceu_code.proofs.Numbers.{unique_between, low_first_same, some_number}
use Rattle.ceu_code.proofs.Ports.{slice_word, read_slice, read_cons, nothing_left}

-- ---- the table

pub row_there : (xs : List (Option Row)) (n : ℕ) (d : Option Row) → n < length xs → get_or xs n d ≡ option_and_then (λ row. row) (slice_get xs n)
row_there xs n d h = sym (ap (option_and_then (λ row. row)) (slice_get-get_or xs n d h))

pub row_past : (xs : List (Option Row)) (n : ℕ) → length xs ≤ n → None ≡ option_and_then (λ row. row) (slice_get xs n)
row_past xs n h = sym (ap (option_and_then (λ row. row)) (slice_get_past xs n h))

-- ---- a word that is its own value

pub own : (L : List ℕ → Type 0) (v : List ℕ) (w : List ℕ) → Word L v w → w ≡ v
own L v w f = f.1

pub reads_own : {V : Type 0} (F : V → List ℕ → Type 0) (L : List ℕ → Type 0) (bytes : List ℕ) (at next : ℕ) (v : V) → ((w : List ℕ) → F v w → L w) → Reads F bytes at v next → Reads (Word L) bytes at (slice_range bytes at next) next
reads_own F L bytes at next v to r = record { word = r.word; form = (to r.word r.form, sym (slice_word F bytes at next v r)); split = r.split; ahead = r.ahead; within = r.within }

pub refused_own : {V : Type 0} (F : V → List ℕ → Type 0) (L : List ℕ → Type 0) (bytes : List ℕ) (at : ℕ) (e : DecodeError) → ((v : V) (w : List ℕ) → F v w → L w) → ((w : List ℕ) → L w → Words F w) → Refused (Words F) bytes at e → Refused (Words (Word L)) bytes at e
refused_own F L bytes at e to from r = refused_more (Words (Word L)) (Words F) bytes at at e (λ k s. stop_same (Words F) (Words (Word L)) bytes at k (λ w h. (w, (to h.0 w h.1, refl))) (λ w h. from w h.1.0) s) r

-- a language in which comparable words are one
abbrev pub Apart : (List ℕ → Type 0) → Type 0
Apart L = (a b x y : List ℕ) → L a → L b → a ++ x ≡ b ++ y → a ≡ b

pub unique_own : (L : List ℕ → Type 0) → Apart L → Unique (Word L)
unique_own L one v u a b x y f g e = let same = one a b x y f.0 g.0 e in (sym f.1 ∙ same ∙ g.1, same)

apart_of : {V : Type 0} (F : V → List ℕ → Type 0) (L : List ℕ → Type 0) → ((w : List ℕ) → L w → Words F w) → Unique F → Apart L
apart_of F L from one a b x y f g e = let p = from a f in let q = from b g in (one p.0 q.0 a b x y p.1 q.1 e).1

-- ---- constants

abbrev Cell : ℕ → ℕ → List ℕ → Type 0
Cell n = IsIn 8 (small_cells (type_at n)) (negative_cells (type_at n))

abbrev Kind : ℕ → List ℕ → Type 0
Kind = IsBetween 1 1 9

pub cells_some : (t : Ty) → HasNumbers (small_cells t)
cells_some t = omega arith

pub small_fits : (t : Ty) → (small_cells t).to < 256 ^ 8
small_fits ty.None = lit< tt
small_fits ty.Bool = lit< tt
small_fits ty.U8 = lit< tt
small_fits ty.S8 = lit< tt
small_fits ty.U16 = lit< tt
small_fits ty.S16 = lit< tt
small_fits ty.U32 = lit< tt
small_fits ty.S32 = lit< tt
small_fits ty.U64 = lit< tt
small_fits ty.S64 = lit< tt

pub negative_fits : (t : Ty) → (negative_cells t).to < 256 ^ 8
negative_fits ty.None = lit< tt
negative_fits ty.Bool = lit< tt
negative_fits ty.U8 = lit< tt
negative_fits ty.S8 = lit< tt
negative_fits ty.U16 = lit< tt
negative_fits ty.S16 = lit< tt
negative_fits ty.U32 = lit< tt
negative_fits ty.S32 = lit< tt
negative_fits ty.U64 = lit< tt
negative_fits ty.S64 = lit< tt

either_below : (k : ℕ) (low high : Span) → low.to < 256 ^ k → high.to < 256 ^ k → (n : ℕ) → InEither low high n → n < 256 ^ k
either_below k low high p q n (inl h) = let l : n ≤ low.to = h.1 in omega arith
either_below k low high p q n (inr h) = let l : n ≤ high.to = h.1 in omega arith

unique_in : (k : ℕ) (low high : Span) → low.to < 256 ^ k → high.to < 256 ^ k → Unique (IsIn k low high)
unique_in k low high p q n m a b x y (i, c) (j, d) e =
    let same : n ≡ m = low_first_same k n m x y (either_below k low high p q n i) (either_below k low high p q m j) (ap (λ (w : List ℕ). w ++ x) (sym c) ∙ e ∙ ap (λ (w : List ℕ). w ++ y) d) in
    (same, c ∙ ap (low_first k) same ∙ sym d)

abbrev Const : ℕ × ℕ → List ℕ → Type 0
Const = Pair Kind Cell

one_byte : (n : ℕ) → n ≤ 9 → low_first 1 n ≡ n ∷ []
unfolding low_first
one_byte n h = let m : n % 256 ≡ n = grind arith in ap (λ (b : ℕ). b ∷ []) m

constant_to : (p : ℕ × ℕ) (w : List ℕ) → Const p w → IsConstant w
constant_to p w t = record { type_number = p.0; cell = p.1; typed = t.is_first.0; value = t.is_second.0; spelled = t.joined ∙ ap (λ (a : List ℕ). a ++ t.second) (t.is_first.1 ∙ one_byte p.0 t.is_first.0.1) ∙ ap (λ (a : List ℕ). p.0 ∷ a) t.is_second.1 }

constant_from : (w : List ℕ) → IsConstant w → Words Const w
constant_from w c = ((c.type_number, c.cell), record { first = low_first 1 c.type_number; second = low_first 8 c.cell; is_first = (c.typed, refl); is_second = (c.value, refl); joined = c.spelled ∙ ap (λ (a : List ℕ). a ++ low_first 8 c.cell) (sym (one_byte c.type_number c.typed.1)) })

unique_kind : Unique Kind
unique_kind = unique_between 1 1 9 (lit< tt)

unique_cell : (n : ℕ) → Unique (Cell n)
unique_cell n = unique_in 8 (small_cells (type_at n)) (negative_cells (type_at n)) (small_fits (type_at n)) (negative_fits (type_at n))

apart_constant : Apart IsConstant
apart_constant = apart_of Const IsConstant constant_from (unique_pair Kind Cell unique_kind unique_cell)

some_cell : (n : ℕ) → (w : List ℕ) × Words (Cell n) w
some_cell n = some_number 8 (small_cells (type_at n)) (negative_cells (type_at n)) (inl (cells_some (type_at n)))

module _ (bytes : List ℕ) (at : ℕ) where
  pub constant_kind : (e : DecodeError) → Refused (Words Kind) bytes at e → Refused (Words (Word IsConstant)) bytes at e
  constant_kind e r = refused_own Const IsConstant bytes at e constant_to constant_from (pair_first Kind Cell bytes at e some_cell r)

  pub constant_cell : (mid n : ℕ) (e : DecodeError) → Reads Kind bytes at n mid → Refused (Words (Cell n)) bytes mid e → Refused (Words (Word IsConstant)) bytes at e
  constant_cell mid n e r1 r = refused_own Const IsConstant bytes at e constant_to constant_from (pair_second Kind Cell bytes at mid n e unique_kind r1 r)

  pub constant_read : (mid next n m : ℕ) → Reads Kind bytes at n mid → Reads (Cell n) bytes mid m next → Reads (Word IsConstant) bytes at (slice_range bytes at next) next
  constant_read mid next n m r1 r2 = reads_own Const IsConstant bytes at next (n, m) (constant_to (n, m)) (read_pair Kind Cell bytes at mid next n m r1 r2)

-- ---- operands

operand_to : (kind : Operand) → (kind ≡ Constant → ⊥) → (n : ℕ) (w : List ℕ) → IsBetween (operand_width kind) (operand_least kind) (operand_greatest kind) n w → IsOperand kind w
operand_to Constant p n w f = absurd (p refl)
operand_to Nothing p n w f = record { number = n; above = f.0.0; below = f.0.1; spelled = f.1 }
operand_to Typed p n w f = record { number = n; above = f.0.0; below = f.0.1; spelled = f.1 }
operand_to AnyType p n w f = record { number = n; above = f.0.0; below = f.0.1; spelled = f.1 }
operand_to Prefix p n w f = record { number = n; above = f.0.0; below = f.0.1; spelled = f.1 }
operand_to Binary p n w f = record { number = n; above = f.0.0; below = f.0.1; spelled = f.1 }
operand_to Units p n w f = record { number = n; above = f.0.0; below = f.0.1; spelled = f.1 }
operand_to Open p n w f = record { number = n; above = f.0.0; below = f.0.1; spelled = f.1 }
operand_to Half p n w f = record { number = n; above = f.0.0; below = f.0.1; spelled = f.1 }
operand_to FourBytes p n w f = record { number = n; above = f.0.0; below = f.0.1; spelled = f.1 }

number_from : (k least greatest : ℕ) (w : List ℕ) → IsNumber k least greatest w → Words (IsBetween k least greatest) w
number_from k least greatest w f = (f.number, ((f.above, f.below), f.spelled))

operand_from : (kind : Operand) → (kind ≡ Constant → ⊥) → (w : List ℕ) → IsOperand kind w → Words (IsBetween (operand_width kind) (operand_least kind) (operand_greatest kind)) w
operand_from Constant p w f = absurd (p refl)
operand_from Nothing p w f = number_from 0 0 0 w f
operand_from Typed p w f = number_from 1 1 9 w f
operand_from AnyType p w f = number_from 1 0 9 w f
operand_from Prefix p w f = number_from 1 0 2 w f
operand_from Binary p w f = number_from 1 0 15 w f
operand_from Units p w f = number_from 1 0 4 w f
operand_from Open p w f = number_from 1 0 2 w f
operand_from Half p w f = number_from 2 0 65535 w f
operand_from FourBytes p w f = number_from 4 0 4294967295 w f

pub operand_fits : (kind : Operand) → operand_greatest kind < 256 ^ operand_width kind
operand_fits Constant = lit< tt
operand_fits Nothing = lit< tt
operand_fits Typed = lit< tt
operand_fits AnyType = lit< tt
operand_fits Prefix = lit< tt
operand_fits Binary = lit< tt
operand_fits Units = lit< tt
operand_fits Open = lit< tt
operand_fits Half = lit< tt
operand_fits FourBytes = lit< tt

pub operand_some : (kind : Operand) → operand_least kind ≤ operand_greatest kind
operand_some Constant = lit≤ tt
operand_some Nothing = lit≤ tt
operand_some Typed = lit≤ tt
operand_some AnyType = lit≤ tt
operand_some Prefix = lit≤ tt
operand_some Binary = lit≤ tt
operand_some Units = lit≤ tt
operand_some Open = lit≤ tt
operand_some Half = lit≤ tt
operand_some FourBytes = lit≤ tt

is_constant_or : (kind : Operand) → (kind ≡ Constant) ⊎ (kind ≡ Constant → ⊥)
is_constant_or Constant = inl refl
is_constant_or Nothing = inr (λ e. cc)
is_constant_or Typed = inr (λ e. cc)
is_constant_or AnyType = inr (λ e. cc)
is_constant_or Prefix = inr (λ e. cc)
is_constant_or Binary = inr (λ e. cc)
is_constant_or Units = inr (λ e. cc)
is_constant_or Open = inr (λ e. cc)
is_constant_or Half = inr (λ e. cc)
is_constant_or FourBytes = inr (λ e. cc)

apart_operand : (kind : Operand) → Apart (IsOperand kind)
apart_operand kind = go (is_constant_or kind)
  where
    go : (kind ≡ Constant) ⊎ (kind ≡ Constant → ⊥) → Apart (IsOperand kind)
    go (inl e) = subst (λ (k : Operand). Apart (IsOperand k)) (sym e) apart_constant
    go (inr p) = apart_of (IsBetween (operand_width kind) (operand_least kind) (operand_greatest kind)) (IsOperand kind) (operand_from kind p) (unique_between (operand_width kind) (operand_least kind) (operand_greatest kind) (operand_fits kind))

some_constant : (w : List ℕ) × IsConstant w
some_constant = (1 ∷ low_first 8 0, record { type_number = 1; cell = 0; typed = (lit≤ tt, lit≤ tt); value = inl (lit≤ tt, lit≤ tt); spelled = refl })

some_operand : (kind : Operand) → (w : List ℕ) × IsOperand kind w
some_operand kind = go (is_constant_or kind)
  where
    go : (kind ≡ Constant) ⊎ (kind ≡ Constant → ⊥) → (w : List ℕ) × IsOperand kind w
    go (inl e) = subst (λ (k : Operand). (w : List ℕ) × IsOperand k w) (sym e) some_constant
    go (inr p) = (low_first (operand_width kind) (operand_least kind), operand_to kind p (operand_least kind) (low_first (operand_width kind) (operand_least kind)) ((omega arith, operand_some kind), refl))

module _ (bytes : List ℕ) (at : ℕ) (kind : Operand) (other : kind ≡ Constant → ⊥) where
  pub operand_refused : (e : DecodeError) → Refused (Words (IsBetween (operand_width kind) (operand_least kind) (operand_greatest kind))) bytes at e → Refused (Words (Word (IsOperand kind))) bytes at e
  operand_refused e r = refused_own (IsBetween (operand_width kind) (operand_least kind) (operand_greatest kind)) (IsOperand kind) bytes at e (operand_to kind other) (operand_from kind other) r

  pub operand_read : (next n : ℕ) → Reads (IsBetween (operand_width kind) (operand_least kind) (operand_greatest kind)) bytes at n next → Reads (Word (IsOperand kind)) bytes at (slice_range bytes at next) next
  operand_read next n r = reads_own (IsBetween (operand_width kind) (operand_least kind) (operand_greatest kind)) (IsOperand kind) bytes at next n (operand_to kind other n) r

-- ---- operands one after the other

abbrev Both : Operand → List Operand → List ℕ × List ℕ → List ℕ → Type 0
Both kind kinds = Pair (Word (IsOperand kind)) (λ _. Word (IsOperands kinds))

operands_to : (kind : Operand) (kinds : List Operand) (p : List ℕ × List ℕ) (w : List ℕ) → Both kind kinds p w → IsOperands (kind ∷ kinds) w
operands_to kind kinds p w t = (t.first, t.second, t.is_first.0, t.is_second.0, t.joined)

operands_from : (kind : Operand) (kinds : List Operand) (w : List ℕ) → IsOperands (kind ∷ kinds) w → Words (Both kind kinds) w
operands_from kind kinds w (a, b, f, g, e) = ((a, b), record { first = a; second = b; is_first = (f, refl); is_second = (g, refl); joined = e })

apart_operands : (kinds : List Operand) → Apart (IsOperands kinds)
apart_operands [] = λ a b x y f g e. f ∙ sym g
apart_operands (kind ∷ kinds) = apart_of (Both kind kinds) (IsOperands (kind ∷ kinds)) (operands_from kind kinds) (unique_pair (Word (IsOperand kind)) (λ _. Word (IsOperands kinds)) (unique_own (IsOperand kind) (apart_operand kind)) (λ _. unique_own (IsOperands kinds) (apart_operands kinds)))

some_operands : (kinds : List Operand) → (w : List ℕ) × IsOperands kinds w
some_operands [] = ([], refl)
some_operands (kind ∷ kinds) = let a = some_operand kind in let b = some_operands kinds in (a.0 ++ b.0, (a.0, b.0, a.1, b.1, refl))

pub kinds_split : (ks : List Operand) → 1 ≤ length ks → get_or ks 0 Nothing ∷ take (length ks - 1) (drop 1 ks) ≡ ks
kinds_split [] h = absurd (omega arith)
kinds_split (k ∷ ks) h = ap (λ (rest : List Operand). k ∷ rest) (ap (λ (n : ℕ). take n ks) (let e : suc (length ks) - 1 ≡ length ks = omega arith in e) ∙ take-length ks)

module _ (bytes : List ℕ) (at : ℕ) (all : List Operand) (kind : Operand) (kinds : List Operand) (is : kind ∷ kinds ≡ all) where
  pub first_refused : (e : DecodeError) → Refused (Words (Word (IsOperand kind))) bytes at e → Refused (Words (Word (IsOperands all))) bytes at e
  first_refused e r =
      subst (λ (ks : List Operand). Refused (Words (Word (IsOperands ks))) bytes at e) is
      (refused_own (Both kind kinds) (IsOperands (kind ∷ kinds)) bytes at e (operands_to kind kinds) (operands_from kind kinds)
      (pair_first (Word (IsOperand kind)) (λ _. Word (IsOperands kinds)) bytes at e (λ _. let s = some_operands kinds in (s.0, (s.0, (s.1, refl)))) r))

  pub rest_refused : (mid : ℕ) (v : List ℕ) (e : DecodeError) → Reads (Word (IsOperand kind)) bytes at v mid → Refused (Words (Word (IsOperands kinds))) bytes mid e → Refused (Words (Word (IsOperands all))) bytes at e
  rest_refused mid v e r1 r =
      subst (λ (ks : List Operand). Refused (Words (Word (IsOperands ks))) bytes at e) is
      (refused_own (Both kind kinds) (IsOperands (kind ∷ kinds)) bytes at e (operands_to kind kinds) (operands_from kind kinds)
      (pair_second (Word (IsOperand kind)) (λ _. Word (IsOperands kinds)) bytes at mid v e (unique_own (IsOperand kind) (apart_operand kind)) r1 r))

  pub all_read : (mid next : ℕ) (v u : List ℕ) → Reads (Word (IsOperand kind)) bytes at v mid → Reads (Word (IsOperands kinds)) bytes mid u next → Reads (Word (IsOperands all)) bytes at (slice_range bytes at next) next
  all_read mid next v u r1 r2 =
      subst (λ (ks : List Operand). Reads (Word (IsOperands ks)) bytes at (slice_range bytes at next) next) is
      (reads_own (Both kind kinds) (IsOperands (kind ∷ kinds)) bytes at next (v, u) (operands_to kind kinds (v, u)) (read_pair (Word (IsOperand kind)) (λ _. Word (IsOperands kinds)) bytes at mid next v u r1 r2))

-- ---- whole instructions

pub length-low_first : (k n : ℕ) → length (low_first k n) ≡ k
unfolding low_first
length-low_first zero n = refl
length-low_first (suc k) n = ap suc (length-low_first k (n / 256))

number_long : (k least greatest : ℕ) (w : List ℕ) → IsNumber k least greatest w → length w ≡ k
number_long k least greatest w f = ap length f.spelled ∙ length-low_first k f.number

operand_long : (kind : Operand) (w : List ℕ) → IsOperand kind w → length w ≡ operand_width kind
operand_long Constant w f = ap length f.spelled ∙ ap suc (length-low_first 8 f.cell)
operand_long Nothing w f = number_long 0 0 0 w f
operand_long Typed w f = number_long 1 1 9 w f
operand_long AnyType w f = number_long 1 0 9 w f
operand_long Prefix w f = number_long 1 0 2 w f
operand_long Binary w f = number_long 1 0 15 w f
operand_long Units w f = number_long 1 0 4 w f
operand_long Open w f = number_long 1 0 2 w f
operand_long Half w f = number_long 2 0 65535 w f
operand_long FourBytes w f = number_long 4 0 4294967295 w f

pub operands_long : (kinds : List Operand) (w : List ℕ) → IsOperands kinds w → length w ≡ operands_width kinds
operands_long [] w f = ap length f
operands_long (kind ∷ kinds) w (a, b, f, g, e) =
    ap length e ∙ length-append a b ∙ (let p = operand_long kind a f in let q = operands_long kinds b g in omega arith)

pub apart_instruction : Apart IsInstruction
apart_instruction a b x y f g e =
    let both : f.opcode ∷ (f.behind ++ x) ≡ g.opcode ∷ (g.behind ++ y) = ap (λ (w : List ℕ). w ++ x) (sym f.spelled) ∙ e ∙ ap (λ (w : List ℕ). w ++ y) g.spelled in
    let op : f.opcode ≡ g.opcode = same_head f.opcode g.opcode (f.behind ++ x) (g.behind ++ y) both in
    let row : Some f.row ≡ Some g.row = sym f.known ∙ ap row_of op ∙ g.known in
    let same_row : f.row ≡ g.row = some_same f.row g.row row in
    let behind : f.behind ≡ g.behind = apart_operands (operands g.row) f.behind g.behind x y (subst (λ (r : Row). IsOperands (operands r) f.behind) same_row f.whole) g.whole (same_tail f.opcode g.opcode (f.behind ++ x) (g.behind ++ y) both) in
    f.spelled ∙ ap (λ (n : ℕ). n ∷ f.behind) op ∙ ap (λ (w : List ℕ). g.opcode ∷ w) behind ∙ sym g.spelled
  where
    some_same : (r s : Row) → Some r ≡ Some s → r ≡ s
    some_same r s h = cc

the_end : List ℕ
the_end = 14 ∷ []

end_row : Row
end_row = record { first = Nothing; second = Nothing; third = Nothing; fourth = Nothing; fifth = Nothing }

nothing_is : IsOperand Nothing []
unfolding low_first
nothing_is = record { number = 0; above = lit≤ tt; below = lit≤ tt; spelled = refl }

pub end_is : IsInstruction (14 ∷ [])
unfolding row_of table end_row
end_is = record { opcode = 14; row = end_row; behind = []; known = refl; whole = ([], [], nothing_is, ([], [], nothing_is, ([], [], nothing_is, ([], [], nothing_is, ([], [], nothing_is, refl, refl), refl), refl), refl), refl); spelled = refl }

instruction_head : (b : ℕ) (w : List ℕ) → IsInstruction (b ∷ w) → (row : Row) × (row_of b ≡ Some row) × IsOperands (operands row) w
instruction_head b w f = (f.row, ap row_of (same_head b f.opcode w f.behind f.spelled) ∙ f.known, subst (IsOperands (operands f.row)) (sym (same_tail b f.opcode w f.behind f.spelled)) f.whole)

no_empty_instruction : IsInstruction [] → ⊥
no_empty_instruction f = let z : 0 ≡ suc (length f.behind) = ap length f.spelled in absurd (omega arith)

some_instruction : (left : ℕ) → 0 < left → (w : List ℕ) × Words (Word (IsInstructionIn left)) w
some_instruction left h = (14 ∷ [], (14 ∷ [], ((end_is, omega arith), refl)))

row_same : (r s : Row) → Some r ≡ Some s → r ≡ s
row_same r s h = cc

no_row : (r : Row) → None ≡ Some r → ⊥
no_row r e = cc

module _ (bytes : List ℕ) (at left : ℕ) (some : 0 < left) where
  pub instruction_ends : at ≡ length bytes → Stops (Words (Word (IsInstructionIn left))) bytes at at
  instruction_ends end = stop_here (Words (Word (IsInstructionIn left))) bytes at (omega arith) (some_instruction left some).0 (some_instruction left some).1 (λ l. no_empty_instruction l.1.0.0) (λ b rest more e l. nothing_left bytes at b rest end e)

  module _ (b : ℕ) (inside : at < length bytes) (cut : drop at bytes ≡ b ∷ drop (at + 1) bytes) where
    pub opcode_refused : row_of b ≡ None → Stops (Words (Word (IsInstructionIn left))) bytes at at
    opcode_refused none = stop_here (Words (Word (IsInstructionIn left))) bytes at (omega arith) (some_instruction left some).0 (some_instruction left some).1 (λ l. no_empty_instruction l.1.0.0) (λ c rest more e l.
        let h = instruction_head c more l.1.0.0 in
        no_row h.0 (sym none ∙ ap row_of (sym (same_head c b rest (drop (at + 1) bytes) (sym e ∙ cut))) ∙ h.1))

    module _ (row : Row) (known : row_of b ≡ Some row) where
      pub width_refused : left ≤ operands_width (operands row) → Stops (Words (Word (IsInstructionIn left))) bytes at at
      width_refused wide = stop_here (Words (Word (IsInstructionIn left))) bytes at (omega arith) (some_instruction left some).0 (some_instruction left some).1 (λ l. no_empty_instruction l.1.0.0) (λ c rest more e l.
          let h = instruction_head c more l.1.0.0 in
          let r : h.0 ≡ row = row_same h.0 row (sym h.1 ∙ ap row_of (same_head c b rest (drop (at + 1) bytes) (sym e ∙ cut)) ∙ known) in
          let long : length more ≡ operands_width (operands row) = operands_long (operands h.0) more h.2 ∙ ap (λ (s : Row). operands_width (operands s)) r in
          let fits : suc (length more) ≤ left = l.1.0.1 in
          absurd (omega arith))

      into : operands_width (operands row) < left → (w : List ℕ) → Words (Word (IsOperands (operands row))) w → Words (Word (IsInstructionIn left)) (b ∷ w)
      into fits w h =
          let long = operands_long (operands row) w h.1.0 in
          (b ∷ w, ((record { opcode = b; row = row; behind = w; known = known; whole = h.1.0; spelled = refl }, omega arith), refl))

      out_of : (w : List ℕ) → Words (Word (IsInstructionIn left)) (b ∷ w) → Words (Word (IsOperands (operands row))) w
      out_of w l =
          let h = instruction_head b w l.1.0.0 in
          let r : h.0 ≡ row = row_same h.0 row (sym h.1 ∙ known) in
          (w, (subst (λ (s : Row). IsOperands (operands s) w) r h.2, refl))

      pub behind_refused : (e : DecodeError) → operands_width (operands row) < left → Refused (Words (Word (IsOperands (operands row)))) bytes (at + 1) e → Refused (Words (Word (IsInstructionIn left))) bytes at e
      behind_refused e fits r = refused_more (Words (Word (IsInstructionIn left))) (Words (Word (IsOperands (operands row)))) bytes at (at + 1) e (λ stop s. stop_byte (Words (Word (IsInstructionIn left))) (Words (Word (IsOperands (operands row)))) bytes at stop b cut (into fits) out_of (λ l. no_empty_instruction l.1.0.0) s) r

      pub behind_read : (next : ℕ) → operands_width (operands row) < left → Reads (Word (IsOperands (operands row))) bytes (at + 1) (slice_range bytes (at + 1) next) next → Reads (Word (IsInstructionIn left)) bytes at (slice_range bytes at next) next
      behind_read next fits r =
          let v = slice_range bytes (at + 1) next in
          read_slice (Word (IsInstructionIn left)) bytes at next (b ∷ v) (λ w f. f.1) (read_cons (Word (IsInstructionIn left)) (Word (IsOperands (operands row))) bytes at next b v cut (λ w f.
          let long = operands_long (operands row) w f.0 in
          ((record { opcode = b; row = row; behind = w; known = known; whole = f.0; spelled = refl }, omega arith), ap (λ (u : List ℕ). b ∷ u) f.1)) r)

-- ---- code

all_instructions : (vs us : List (List ℕ)) → AllByRecursion IsInstruction vs → AllByRecursion IsInstruction us → AllByRecursion IsInstruction (vs ++ us)
all_instructions [] us p q = q
all_instructions (v ∷ vs) us p q = (p.0, all_instructions vs us p.1 q)

instruction_long : (i : List ℕ) → IsInstruction i → 0 < length i
instruction_long i f = let e = ap length f.spelled in omega arith

abbrev Next : ℕ → List ℕ × List ℕ → List ℕ → Type 0
Next n = Pair (Word (IsInstructionIn n)) (λ v. Word (IsCodeOf (n - length v)))

next_to : (n : ℕ) (p : List ℕ × List ℕ) (w : List ℕ) → Next n p w → IsCodeOf n w
next_to n p w t =
    let code = t.is_second.0.0 in
    let long = ap length t.joined ∙ length-append t.first t.second in
    let own_word = ap length t.is_first.1 in
    let fits : length t.first ≤ n = t.is_first.0.1 in
    let rest : length t.second ≡ n - length p.0 = t.is_second.0.1 in
    (record { instructions = t.first ∷ code.instructions; whole = (t.is_first.0.0, code.whole); spelled = t.joined ∙ ap (λ (a : List ℕ). t.first ++ a) code.spelled ∙ sym (flat_map-cons (λ i. i) t.first code.instructions) }, omega arith)

next_from : (n : ℕ) → 0 < n → (w : List ℕ) → IsCodeOf n w → Words (Next n) w
next_from n some w (code, long) = go code.instructions code.whole code.spelled
  where
    go : (is : List (List ℕ)) → AllByRecursion IsInstruction is → w ≡ flat_map (λ i. i) is → Words (Next n) w
    go [] p e = let z : length w ≡ 0 = ap length e in absurd (omega arith)
    go (i ∷ is) p e =
        let joined : w ≡ i ++ flat_map (λ i. i) is = e ∙ flat_map-cons (λ i. i) i is in
        let all = ap length joined ∙ length-append i (flat_map (λ i. i) is) in
        ((i, flat_map (λ i. i) is), record { first = i; second = flat_map (λ i. i) is; is_first = ((p.0, omega arith), refl); is_second = ((record { instructions = is; whole = p.1; spelled = refl }, omega arith), refl); joined = joined })

ends : ℕ → List (List ℕ)
ends zero = []
ends (suc n) = (14 ∷ []) ∷ ends n

ends_whole : (n : ℕ) → AllByRecursion IsInstruction (ends n)
unfolding ends
ends_whole zero = tt
ends_whole (suc n) = (end_is, ends_whole n)

ends_long : (n : ℕ) → length (flat_map (λ i. i) (ends n)) ≡ n
unfolding ends
ends_long zero = refl
ends_long (suc n) = ap length (flat_map-cons (λ i. i) (14 ∷ []) (ends n)) ∙ ap suc (ends_long n)

pub some_code : (n : ℕ) → (w : List ℕ) × Words (Word (IsCodeOf n)) w
some_code n = let w = flat_map (λ i. i) (ends n) in (w, (w, ((record { instructions = ends n; whole = ends_whole n; spelled = refl }, ends_long n), refl)))

unique_instruction : (n : ℕ) → Unique (Word (IsInstructionIn n))
unique_instruction n = unique_own (IsInstructionIn n) (λ a b x y f g e. apart_instruction a b x y f.0 g.0 e)

pub code_stops_here : (bytes : List ℕ) (at n k : ℕ) → 0 < n → Stops (Words (Word (IsInstructionIn n))) bytes at k → Stops (Words (Word (IsCodeOf n))) bytes at k
code_stops_here bytes at n k some s =
    refused_own (Next n) (IsCodeOf n) bytes at (Bad k) (next_to n) (next_from n some) (pair_first (Word (IsInstructionIn n)) (λ v. Word (IsCodeOf (n - length v))) bytes at (Bad k) (λ v. some_code (n - length v)) s)

-- behind instructions that were read, code stops where the rest of it stops
pub code_stops : (is : List (List ℕ)) → AllByRecursion IsInstruction is → (bytes : List ℕ) (at mid n k : ℕ) → mid ≤ length bytes → drop at bytes ≡ flat_map (λ i. i) is ++ drop mid bytes → mid ≡ at + length (flat_map (λ i. i) is) → Stops (Words (Word (IsCodeOf n))) bytes mid k → Stops (Words (Word (IsCodeOf (length (flat_map (λ i. i) is) + n)))) bytes at k
code_stops [] p bytes at mid n k within split ahead s =
    subst (λ (m : ℕ). Stops (Words (Word (IsCodeOf m))) bytes at k) (let e : n ≡ 0 + n = omega arith in e) (subst (λ (a : ℕ). Stops (Words (Word (IsCodeOf n))) bytes a k) (let e : mid ≡ at = ahead ∙ omega arith in e) s)
code_stops (i ∷ is) p bytes at mid n k within split ahead s =
    let rest : List ℕ = flat_map (λ i. i) is in
    let cons : flat_map (λ i. i) (i ∷ is) ≡ i ++ rest = flat_map-cons (λ i. i) i is in
    let long : length (flat_map (λ i. i) (i ∷ is)) ≡ length i + length rest = ap length cons ∙ length-append i rest in
    let next : ℕ = at + length i in
    let whole : drop at bytes ≡ i ++ (rest ++ drop mid bytes) = split ∙ ap (λ (a : List ℕ). a ++ drop mid bytes) cons ∙ append_assoc i rest (drop mid bytes) in
    let tail : drop next bytes ≡ rest ++ drop mid bytes = sym (drop-drop (length i) at bytes) ∙ ap (drop (length i)) whole ∙ drop-append_seam i (rest ++ drop mid bytes) in
    let inner = code_stops is p.1 bytes next mid n k within tail (omega arith) s in
    let total : ℕ = length (flat_map (λ i. i) (i ∷ is)) + n in
    let left : total - length i ≡ length rest + n = omega arith in
    let read : Reads (Word (IsInstructionIn total)) bytes at i next = record { word = i; form = ((p.0, omega arith), refl); split = whole ∙ ap (λ (a : List ℕ). i ++ a) (sym tail); ahead = refl; within = omega arith } in
    let some : 0 < length i = instruction_long i p.0 in
    refused_own (Next total) (IsCodeOf total) bytes at (Bad k) (next_to total) (next_from total (omega arith))
    (pair_second (Word (IsInstructionIn total)) (λ v. Word (IsCodeOf (total - length v))) bytes at next i (Bad k) (unique_instruction total) read
    (subst (λ (m : ℕ). Stops (Words (Word (IsCodeOf m))) bytes next k) (sym left) inner))

pub code_read_on : (bytes : List ℕ) (at mid next left : ℕ) → Reads (Word IsCode) bytes at (slice_range bytes at mid) mid → Reads (Word (IsInstructionIn left)) bytes mid (slice_range bytes mid next) next → Reads (Word IsCode) bytes at (slice_range bytes at next) next
code_read_on bytes at mid next left r s =
    let code = r.form.0 in
    let whole = read_both (Word IsCode) (Word (IsInstructionIn left)) (λ (v : List ℕ) (w : List ℕ). IsCode w) bytes at mid next (slice_range bytes at mid) (slice_range bytes mid next) [] (λ a b f g.
    record { instructions = f.0.instructions ++ (b ∷ []); whole = all_instructions f.0.instructions (b ∷ []) f.0.whole (g.0.0, tt); spelled = ap (λ (l : List ℕ). l ++ b) f.0.spelled ∙ ap (λ (l : List ℕ). flat_map (λ i. i) f.0.instructions ++ l) (sym (append-nil b)) ∙ sym (flat_map-append (λ i. i) f.0.instructions (b ∷ [])) }) r s in
    reads_own (λ (v : List ℕ) (w : List ℕ). IsCode w) IsCode bytes at next [] (λ w f. f) whole

pub no_code_read : (bytes : List ℕ) (at : ℕ) → at ≤ length bytes → Reads (Word IsCode) bytes at (slice_range bytes at at) at
no_code_read bytes at inside = reads_own (λ (v : List ℕ) (w : List ℕ). IsCode w) IsCode bytes at at [] (λ w f. f) (record { word = []; form = record { instructions = []; whole = tt; spelled = refl }; split = refl; ahead = omega arith; within = inside })

pub code_refused : (bytes : List ℕ) (at mid left count : ℕ) (v : List ℕ) (e : DecodeError) → 0 < left → mid + left ≡ at + count → Reads (Word IsCode) bytes at v mid → Refused (Words (Word (IsInstructionIn left))) bytes mid e → Refused (Words (Word (IsCodeOf count))) bytes at e
code_refused bytes at mid left count v e some total r refused =
    refused_more (Words (Word (IsCodeOf count))) (Words (Word (IsInstructionIn left))) bytes at mid e (λ k s.
    let code = r.form.0 in
    let spelled = code.spelled in
    let long : length r.word ≡ length (flat_map (λ i. i) code.instructions) = ap length spelled in
    let ahead : mid ≡ at + length (flat_map (λ i. i) code.instructions) = r.ahead ∙ ap (λ (n : ℕ). at + n) long in
    let all = code_stops code.instructions code.whole bytes at mid left k r.within (r.split ∙ ap (λ (w : List ℕ). w ++ drop mid bytes) spelled) ahead (code_stops_here bytes mid left k some s) in
    let sum : length (flat_map (λ i. i) code.instructions) + left ≡ count = omega arith in
    subst (λ (n : ℕ). Stops (Words (Word (IsCodeOf n))) bytes at k) sum all) refused

pub apart_code : (n : ℕ) → Apart (IsCodeOf n)
apart_code n a b x y f g e = sym (take-append_seam a x) ∙ ap (take (length a)) e ∙ ap (λ (m : ℕ). take m (b ++ y)) (f.1 ∙ sym g.1) ∙ take-append_seam b y
