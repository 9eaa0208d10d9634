-- Steps one behind the other, what they leave as it was, and cells that are pushed and popped.
use Rattle.std.proofs.Common.{◌≡◌, ◌≢◌, refl, ap, ◌∙◌, ◌<◌, ◌≤◌, inl, inr, ⊎_elim, ℕ, ◌+◌, ◌-◌, ℤ, Bool, true, false, List, [], length, Option, Some, None, arith}
use Rattle.std.specs.Prelude.{nat_le, if◌then◌else◌, ◌&&◌}
use Rattle.std.proofs.lemmas.Bool.{lt-ltb, le-leb}
use Rattle.ceu_base.specs.declared.kinds.Ty.{Ty}
use Rattle.ceu_base.specs.declared.kinds.Ty.TheVariants as ty
use Rattle.ceu_base.specs.declared.kinds.Fault.{Fault}
use Rattle.ceu_base.specs.declared.kinds.Pos.{Pos}
use Rattle.ceu_base.specs.Values.{is_signed, is_value, IsValue}
use Rattle.ceu_code.specs.declared.image.Image.{Image}
use Rattle.ceu_code.specs.Instructions.{cell}
use Rattle.ceu_mem.specs.Bytes.{number_at, with_number}
use Rattle.ceu_mem.specs.Memory.{value_at, with_sign, size as bytes_of}
use Rattle.ceu_mem.proofs.Views.{length-with_number, byte_outside, number_written}
use Rattle.ceu_isa.specs.declared.registers.Registers.{Registers}
use Rattle.ceu_isa.specs.Layout.{cell_at}
use Rattle.ceu_isa.specs.Fetching.{cell_type}
use Rattle.ceu_isa.specs.Effects.{Goes, provided}
use Rattle.ceu_isa.specs.Cells.{Popped, has_top, top_value, popped, pushed}
use Rattle.ceu_isa.specs.Safety.{Fits}
use Rattle.laws_machine_code.proofs.Constants.{cell_small, constant_back}
use Rattle.laws_machine_code.specs.Does.{Does, stays, goes, steps_of, Fails, Kept}
use Rattle.laws_machine_code.proofs.Numbers.{number_agrees}

pub does_then : (image : Image) {r q s : Registers} {a b c : List ℕ} → Does image r a q b → Does image q b s c → Does image r a s c
does_then image stays y = y
does_then image (goes i f m e x) y = goes i f m e (does_then image x y)

pub steps_then : (image : Image) {r q s : Registers} {a b c : List ℕ} (x : Does image r a q b) (y : Does image q b s c) → steps_of (does_then image x y) ≡ steps_of x + steps_of y
unfolding does_then
steps_then image stays y = omega arith
steps_then image (goes i f m e x) y = let h = steps_then image x y in omega (arith, h)

pub fails_then : (image : Image) {r q : Registers} {a b : List ℕ} (to : ℕ) (fault : Fault) (place : Pos) (x : Does image r a q b) → steps_of x + r.at ≤ q.at → Fails image q b to fault place → Fails image r a to fault place
fails_then image to fault place x le y =
    record {
      at = y.at;
      there = y.there;
      does = does_then image x y.does;
      few = omega (arith, steps_then image x y.does, y.few);
      last = y.last;
      last_is = y.last_is;
      last_may = y.last_may;
      faults = y.faults;
    }

-- before an offset further on
pub fails_before : (image : Image) {r : Registers} {a : List ℕ} (mid to : ℕ) (fault : Fault) (place : Pos) → mid ≤ to → Fails image r a mid fault place → Fails image r a to fault place
fails_before image mid to fault place le y =
    record { at = y.at; there = y.there; does = y.does; few = omega (arith, y.few); last = y.last; last_is = y.last_is; last_may = y.last_may; faults = y.faults }

-- ---- what is kept

pub kept_itself : (image : Image) (n : ℕ) (bytes : List ℕ) → Kept image n bytes bytes
kept_itself image n bytes = record { size = refl; outside = λ i o. refl }

pub kept_then : (image : Image) (n m : ℕ) (a b c : List ℕ) → n ≤ m → Kept image n a b → Kept image m b c → Kept image n a c
kept_then image n m a b c le x y = record {
  size = y.size ∙ x.size;
  outside = λ i o. y.outside i (⊎_elim (λ z. inl (omega arith)) (λ z. inr z) o) ∙ x.outside i o;
}

pub kept_lower : (image : Image) (n m : ℕ) (a b : List ℕ) → n ≤ m → Kept image m a b → Kept image n a b
kept_lower image n m a b le x = record { size = x.size; outside = λ i o. x.outside i (⊎_elim (λ z. inl (omega arith)) (λ z. inr z) o) }

pub fits_kept : (image : Image) (n : ℕ) (a b : List ℕ) → Kept image n a b → Fits image a → Fits image b
fits_kept image n a b x f = record { size = x.size ∙ f.size; memory = f.memory; code = f.code }

-- a cell below those that may change
pub cell_kept : (image : Image) (n m : ℕ) (a b : List ℕ) → n < m → Kept image m a b → number_at 8 b (cell_at n) ≡ number_at 8 a (cell_at n)
cell_kept image n m a b lt x = number_agrees 8 b a (cell_at n) (λ i low high. x.outside i (inl (omega arith)))

-- ---- pushing

pub record Pushed (image : Image) (r : Registers) (bytes : List ℕ) (value : ℤ) : Type 0 where
  pub after : List ℕ
  pub is : pushed image value r bytes ≡ Goes (record r { depth = r.depth + 1 }) after []
  pub kept : Kept image r.depth bytes after
  pub holds : number_at 8 after (cell_at r.depth) ≡ cell value

pub pushes : (image : Image) (r : Registers) (bytes : List ℕ) (value : ℤ) → Fits image bytes → r.depth < image.depth → Pushed image r bytes value
unfolding pushed
pushes image r bytes value fits lt =
    let room : cell_at r.depth + 8 ≤ length bytes = omega (arith, fits.size) in
    record {
      after = with_number 8 (cell value) bytes (cell_at r.depth);
      is = ap (λ (b : Bool). provided b (Goes (record r { depth = r.depth + 1 }) (with_number 8 (cell value) bytes (cell_at r.depth)) [])) (lt-ltb r.depth image.depth lt);
      kept = record { size = length-with_number 8 (cell value) bytes (cell_at r.depth); outside = λ i o. byte_outside 8 (cell value) bytes (cell_at r.depth) i (⊎_elim (λ z. inl z) (λ z. inr (omega arith)) o) };
      holds = number_written 8 (cell value) bytes (cell_at r.depth) (cell_small value) room;
    }

-- ---- popping

pub cell_value : (t : Ty) (v : ℤ) (bytes : List ℕ) (at : ℕ) → t ≢ ty.None → IsValue t v → number_at 8 bytes at ≡ cell v → value_at (cell_type t) bytes at ≡ v
cell_value t v bytes at some ok e =
    ap (λ (k : ℕ). with_sign (cell_type t) (number_at k bytes at)) (long (is_signed t)) ∙ ap (with_sign (cell_type t)) e ∙ constant_back t v some ok
  where
    long : (b : Bool) → bytes_of (if b then ty.S64 else ty.U64) ≡ 8
    long true = refl
    long false = refl

-- the top cell is number d
abbrev made : Registers → Bool → ℤ → ℕ → Option Popped
made r b v d = if b then Some (record { value = v; registers = record r { depth = d } }) else None

pub pops : (image : Image) (t : Ty) (v : ℤ) (d : ℕ) (r : Registers) (bytes : List ℕ) → t ≢ ty.None → IsValue t v → number_at 8 bytes (cell_at d) ≡ cell v → d < image.depth → r.depth ≡ d + 1
    → popped image t r bytes ≡ Some (record { value = v; registers = record r { depth = d } })
unfolding popped
pops image t v d r bytes some ok holds lt deep =
    let down : r.depth - 1 ≡ d = omega arith in
    let top : top_value t r bytes ≡ v = ap (λ (k : ℕ). value_at (cell_type t) bytes (cell_at k)) down ∙ cell_value t v bytes (cell_at d) some ok holds in
    let one : nat_le 1 r.depth ≡ true = le-leb 1 r.depth (omega arith) in
    let all : nat_le r.depth image.depth ≡ true = le-leb r.depth image.depth (omega arith) in
    let has : has_top image r ≡ true = ap (λ (b : Bool). b && nat_le r.depth image.depth) one ∙ all in
    let test : (has_top image r && is_value t (top_value t r bytes)) ≡ true = ap (λ (b : Bool). b && is_value t (top_value t r bytes)) has ∙ ap (is_value t) top ∙ ok in
    ap (λ (b : Bool). made r b (top_value t r bytes) (r.depth - 1)) test ∙ ap (λ (x : ℤ). made r true x (r.depth - 1)) top ∙ ap (λ (k : ℕ). made r true v k) down
