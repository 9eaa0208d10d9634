-- What stands behind a label's mark in the assembled bytes.
use Rattle.std.proofs.Common.{◌≡◌, ℕ, ◌+◌, Bool, true, false, List, [], ◌∷◌, ◌++◌, length, take, drop, refl, sym, ap, ◌∙◌, subst, arith, if◌then◌else◌, append_assoc, length-append}
use Rattle.std.specs.List.{flat_map}
use Rattle.std.proofs.lemmas.Bool.{eq-eqb}
use Rattle.std.proofs.lemmas.List.Concat.{flat_map-cons}
use Rattle.std.proofs.lemmas.Grind.{flat_map-append}
use Rattle.std.proofs.Math.Seq.{drop-append_seam, take-append_seam}
use Rattle.ceu_code.specs.declared.instr.Instr.{Instr}
use Rattle.ceu_code.specs.declared.instr.Instr.TheVariants as instr
use Rattle.ceu_code.specs.Table.{low_first}
use Rattle.ceu_code.specs.Instructions.{spelled, size, with_target}
use Rattle.ceu_asm.specs.declared.line.Line.{Line}
use Rattle.ceu_asm.specs.declared.line.Line.TheVariants.{Mark, Plain, Jump}
use Rattle.ceu_asm.specs.Lines.{is_mark, marks, line_size, code_size, offset_of, resolved, assembled}
use Rattle.ceu_asm.specs.Fetch.{IsAt, HasAt, FollowTheirLabel}

-- an instruction has as many bytes as its size says
pub length-spelled : (i : Instr) → length (spelled i) ≡ size i
unfolding low_first
length-spelled (instr.Push t v) = refl
length-spelled (instr.Load t a) = refl
length-spelled (instr.LoadOuter t a) = refl
length-spelled (instr.Store t a) = refl
length-spelled (instr.StoreOuter t a) = refl
length-spelled (instr.Prefix o t p) = refl
length-spelled (instr.Binary o t p) = refl
length-spelled (instr.Convert t u) = refl
length-spelled (instr.Jump c) = refl
length-spelled (instr.JumpIfFalse c) = refl
length-spelled (instr.Value t) = refl
length-spelled (instr.Output k t) = refl
length-spelled (instr.Emit k t) = refl
length-spelled (instr.WaitInput k) = refl
length-spelled (instr.WaitTime u) = refl
length-spelled (instr.WaitEvent k) = refl
length-spelled (instr.Fork g c) = refl
length-spelled (instr.Move g) = refl
length-spelled (instr.AbortGates g n) = refl
length-spelled (instr.Register g c p) = refl
length-spelled (instr.Call k a g) = refl
length-spelled (instr.MakePool a n k g) = refl
length-spelled (instr.Spawn k a n b p) = refl
length-spelled (instr.Kill a) = refl
length-spelled (instr.Alive a) = refl
length-spelled (instr.RangeBound a d) = refl
length-spelled (instr.RangeNext a i c) = refl
length-spelled (instr.Limit a n p) = refl
length-spelled _ = refl

pub size-with_target : (i : Instr) (n : ℕ) → size (with_target i n) ≡ size i
size-with_target (instr.Jump c) n = refl
size-with_target (instr.JumpIfFalse c) n = refl
size-with_target (instr.Fork g c) n = refl
size-with_target (instr.Register g c p) n = refl
size-with_target (instr.RangeNext a i c) n = refl
size-with_target _ n = refl

-- instructions stand behind the bytes before them
pub has_all : (is : List Instr) (before behind : List ℕ) → HasAt (before ++ (flat_map spelled is ++ behind)) (length before) is
has_all [] before behind = tt
has_all (i ∷ is) before behind =
    let split : before ++ (flat_map spelled (i ∷ is) ++ behind) ≡ before ++ (spelled i ++ (flat_map spelled is ++ behind)) = ap (λ (bs : List ℕ). before ++ (bs ++ behind)) (flat_map-cons spelled i is) ∙ ap (λ (bs : List ℕ). before ++ bs) (append_assoc (spelled i) (flat_map spelled is) behind) in
    let dropped : drop (length before) (before ++ (spelled i ++ (flat_map spelled is ++ behind))) ≡ spelled i ++ (flat_map spelled is ++ behind) = drop-append_seam before (spelled i ++ (flat_map spelled is ++ behind)) in
    let taken : take (size i) (spelled i ++ (flat_map spelled is ++ behind)) ≡ spelled i = ap (λ (n : ℕ). take n (spelled i ++ (flat_map spelled is ++ behind))) (sym (length-spelled i)) ∙ take-append_seam (spelled i) (flat_map spelled is ++ behind) in
    let here : IsAt (before ++ (flat_map spelled (i ∷ is) ++ behind)) (length before) i = ap (λ (bs : List ℕ). take (size i) (drop (length before) bs)) split ∙ ap (λ (bs : List ℕ). take (size i) bs) dropped ∙ taken in
    let next : length (before ++ spelled i) ≡ length before + size i = length-append before (spelled i) ∙ ap (λ (n : ℕ). length before + n) (length-spelled i) in
    let rest = has_all is (before ++ spelled i) behind in
    let rest_at : HasAt ((before ++ spelled i) ++ (flat_map spelled is ++ behind)) (length before + size i) is = subst (λ (n : ℕ). HasAt ((before ++ spelled i) ++ (flat_map spelled is ++ behind)) n is) next rest in
    (here, subst (λ (bs : List ℕ). HasAt bs (length before + size i) is) (append_assoc before (spelled i) (flat_map spelled is ++ behind) ∙ sym split) rest_at)

resolved-append : (at : ℕ → ℕ) (a b : List Line) → resolved at (a ++ b) ≡ resolved at a ++ resolved at b
resolved-append at [] b = refl
resolved-append at (Mark l ∷ a) b = resolved-append at a b
resolved-append at (Plain i ∷ a) b = ap (λ (r : List Instr). i ∷ r) (resolved-append at a b)
resolved-append at (Jump i l ∷ a) b = ap (λ (r : List Instr). with_target i (at l) ∷ r) (resolved-append at a b)

pub marks-append : (label : ℕ) (a b : List Line) → marks label (a ++ b) ≡ marks label a + marks label b
marks-append label [] b = omega arith
marks-append label (line ∷ a) b = let e = marks-append label a b in omega arith

-- the bytes of lines are as many as their sizes say
length-resolved : (at : ℕ → ℕ) (lines : List Line) → length (flat_map spelled (resolved at lines)) ≡ code_size lines
length-resolved at [] = refl
length-resolved at (Mark l ∷ lines) = length-resolved at lines ∙ omega arith
length-resolved at (Plain i ∷ lines) =
    ap length (flat_map-cons spelled i (resolved at lines)) ∙ length-append (spelled i) (flat_map spelled (resolved at lines)) ∙ (let e = length-spelled i in let r = length-resolved at lines in omega arith)
length-resolved at (Jump i l ∷ lines) =
    ap length (flat_map-cons spelled (with_target i (at l)) (resolved at lines)) ∙ length-append (spelled (with_target i (at l))) (flat_map spelled (resolved at lines))
    ∙ (let e = length-spelled (with_target i (at l)) ∙ size-with_target i (at l) in let r = length-resolved at lines in omega arith)

pub length-assembled : (lines : List Line) → length (assembled lines) ≡ code_size lines
length-assembled lines = length-resolved (λ l. offset_of l lines) lines

pub offset_at : (label : ℕ) (before behind : List Line) → marks label before ≡ 0 → offset_of label (before ++ Mark label ∷ behind) ≡ code_size before
offset_at label [] behind h = ap (λ (b : Bool). if b then 0 else (0 + offset_of label behind)) (eq-eqb label label refl)
offset_at label (line ∷ before) behind h = go (is_mark label line) (offset_at label before behind) h
  where
    go : (b : Bool) → (marks label before ≡ 0 → offset_of label (before ++ Mark label ∷ behind) ≡ code_size before) → (if b then 1 else 0) + marks label before ≡ 0 → (if b then 0 else (line_size line + offset_of label (before ++ Mark label ∷ behind))) ≡ line_size line + code_size before
    go true rest h = absurd (omega arith)
    go false rest h = ap (λ (n : ℕ). line_size line + n) (rest (omega arith))

pub follow : FollowTheirLabel
follow lines piece label once part =
    let at : ℕ → ℕ = λ (l : ℕ). offset_of l lines in
    let behind = piece ++ part.behind in
    let counted : marks label lines ≡ marks label part.before + marks label (Mark label ∷ behind) = ap (marks label) part.is ∙ marks-append label part.before (Mark label ∷ behind) in
    let own : marks label (Mark label ∷ behind) ≡ 1 + marks label behind = ap (λ (b : Bool). (if b then 1 else 0) + marks label behind) (eq-eqb label label refl) in
    let none : marks label part.before ≡ 0 = omega arith in
    let before = flat_map spelled (resolved at part.before) in
    let place : length before ≡ offset_of label lines = length-resolved at part.before ∙ sym (offset_at label part.before behind none) ∙ ap (offset_of label) (sym part.is) in
    let instrs : resolved at lines ≡ resolved at part.before ++ (resolved at piece ++ resolved at part.behind) = ap (resolved at) part.is ∙ resolved-append at part.before (Mark label ∷ behind) ∙ ap (λ (r : List Instr). resolved at part.before ++ r) (resolved-append at piece part.behind) in
    let bytes : assembled lines ≡ before ++ (flat_map spelled (resolved at piece) ++ flat_map spelled (resolved at part.behind)) =
    ap (flat_map spelled) instrs
    ∙ flat_map-append spelled (resolved at part.before) (resolved at piece ++ resolved at part.behind)
    ∙ ap (λ (bs : List ℕ). before ++ bs) (flat_map-append spelled (resolved at piece) (resolved at part.behind)) in
    let all = has_all (resolved at piece) before (flat_map spelled (resolved at part.behind)) in
    let placed : HasAt (before ++ (flat_map spelled (resolved at piece) ++ flat_map spelled (resolved at part.behind))) (offset_of label lines) (resolved at piece) =
    subst (λ (n : ℕ). HasAt (before ++ (flat_map spelled (resolved at piece) ++ flat_map spelled (resolved at part.behind))) n (resolved at piece)) place all in
    subst (λ (bs : List ℕ). HasAt bs (offset_of label lines) (resolved at piece)) (sym bytes) placed
