-- Lines of which the code is made stand there.
use Rattle.std.proofs.Common.{◌≡◌, refl, sym, ap, ◌∙◌, subst, ℕ, ◌+◌, ◌≤◌, List, [], ◌∷◌, ◌++◌, length, Some, append_assoc, arith}
use Rattle.std.specs.List.{AllByRecursion, flat_map}
use Rattle.std.proofs.lemmas.Bool.{eq-eqb}
use Rattle.std.proofs.lemmas.List.{append-nil}
use Rattle.std.specs.Prelude.{Bool, if◌then◌else◌}
use Rattle.ceu_code.specs.declared.instr.Instr.{Instr}
use Rattle.ceu_code.specs.declared.image.Image.{Image}
use Rattle.ceu_code.specs.Instructions.{spelled, size, with_target}
use Rattle.ceu_asm.specs.declared.line.Line.{Line}
use Rattle.ceu_asm.specs.declared.line.Line.TheVariants.{Mark, Plain, Jump}
use Rattle.ceu_asm.specs.Lines.{marks, line_size, code_size, offset_of, resolved, instructions, assembled}
use Rattle.ceu_asm.specs.Fetch.{HasAt}
use Rattle.ceu_asm.specs.Whole.{IsInRange}
use Rattle.ceu_asm.proofs.Following.{size-with_target, has_all, marks-append, offset_at}
use Rattle.ceu_isa.specs.Fetching.{fetched}
use Rattle.laws_machine_code.specs.Placed.{Placed, LinesArePlaced, PartsArePlaced}
use Rattle.laws_machine_code.proofs.Decoded.{fetches_spelled}

size_behind : (a : List Line) (line : Line) → code_size (a ++ line ∷ []) ≡ code_size a + line_size line
size_behind [] line = omega arith
size_behind (l ∷ a) line = let e = size_behind a line in omega arith

pub parts_are_placed : PartsArePlaced
parts_are_placed image offset at [] b h = (tt, subst (λ (n : ℕ). Placed image offset n b) (let e : at ≡ at + 0 = omega arith in e) h)
parts_are_placed image offset at (Mark l ∷ a) b h =
    let rest = parts_are_placed image offset at a b h.1 in
    ((h.0, rest.0), subst (λ (n : ℕ). Placed image offset n b) (let e : at + code_size a ≡ at + (0 + code_size a) = omega arith in e) rest.1)
parts_are_placed image offset at (Plain i ∷ a) b h =
    let rest = parts_are_placed image offset (at + size i) a b h.1 in
    ((h.0, rest.0), subst (λ (n : ℕ). Placed image offset n b) (let e : at + size i + code_size a ≡ at + (size i + code_size a) = omega arith in e) rest.1)
parts_are_placed image offset at (Jump i l ∷ a) b h =
    let rest = parts_are_placed image offset (at + size i) a b h.1 in
    ((h.0, rest.0), subst (λ (n : ℕ). Placed image offset n b) (let e : at + size i + code_size a ≡ at + (size i + code_size a) = omega arith in e) rest.1)

module _ (image : Image) (all : List Line) (once : (label : ℕ) → marks label all ≤ 1) where
  abbrev offset : ℕ → ℕ
  offset l = offset_of l all

  -- the lines behind those before
  placed_behind : (before lines : List Line) → all ≡ before ++ lines → HasAt image.code (code_size before) (resolved offset lines) → AllByRecursion IsInRange (resolved offset lines) → Placed image offset (code_size before) lines
  placed_behind before [] is has fit = tt
  placed_behind before (Mark l ∷ lines) is has fit =
      let counted : marks l all ≡ marks l before + marks l (Mark l ∷ lines) = ap (marks l) is ∙ marks-append l before (Mark l ∷ lines) in
      let own : marks l (Mark l ∷ lines) ≡ 1 + marks l lines = ap (λ (b : Bool). (if b then 1 else 0) + marks l lines) (eq-eqb l l refl) in
      let none : marks l before ≡ 0 = omega (arith, once l) in
      let here : offset_of l all ≡ code_size before = ap (offset_of l) is ∙ offset_at l before lines none in
      let same : code_size (before ++ Mark l ∷ []) ≡ code_size before = size_behind before (Mark l) ∙ (let e : code_size before + 0 ≡ code_size before = omega arith in e) in
      let rest = placed_behind (before ++ Mark l ∷ []) lines (is ∙ sym (append_assoc before (Mark l ∷ []) lines)) (subst (λ (n : ℕ). HasAt image.code n (resolved offset lines)) (sym same) has) fit in
      (here, subst (λ (n : ℕ). Placed image offset n lines) same rest)
  placed_behind before (Plain i ∷ lines) is has fit =
      let same : code_size (before ++ Plain i ∷ []) ≡ code_size before + size i = size_behind before (Plain i) in
      let rest = placed_behind (before ++ Plain i ∷ []) lines (is ∙ sym (append_assoc before (Plain i ∷ []) lines)) (subst (λ (n : ℕ). HasAt image.code n (resolved offset lines)) (sym same) has.1) fit.1 in
      (fetches_spelled image (code_size before) i fit.0 has.0, subst (λ (n : ℕ). Placed image offset n lines) same rest)
  placed_behind before (Jump i l ∷ lines) is has fit =
      let same : code_size (before ++ Jump i l ∷ []) ≡ code_size before + size i = size_behind before (Jump i l) in
      let moved : code_size before + size (with_target i (offset l)) ≡ code_size (before ++ Jump i l ∷ []) = ap (λ (n : ℕ). code_size before + n) (size-with_target i (offset l)) ∙ sym same in
      let rest = placed_behind (before ++ Jump i l ∷ []) lines (is ∙ sym (append_assoc before (Jump i l ∷ []) lines)) (subst (λ (n : ℕ). HasAt image.code n (resolved offset lines)) moved has.1) fit.1 in
      (fetches_spelled image (code_size before) (with_target i (offset l)) fit.0 has.0, subst (λ (n : ℕ). Placed image offset n lines) same rest)

pub lines_are_placed : LinesArePlaced
lines_are_placed image lines code fit once =
    let at : ℕ → ℕ = λ (l : ℕ). offset_of l lines in
    let whole : HasAt ([] ++ (assembled lines ++ [])) 0 (instructions lines) = has_all (instructions lines) [] [] in
    let there : HasAt image.code 0 (instructions lines) = subst (λ (bs : List ℕ). HasAt bs 0 (instructions lines)) (append-nil (assembled lines) ∙ sym code) whole in
    placed_behind image lines once [] lines refl there fit
