-- The lines of a loop: how it begins, its head, and how its body goes back to the head.
use Rattle.std.proofs.Common.{◌≡◌, sym, subst, ℕ, ◌+◌, ◌-◌, ◌*◌, pos, Bool, true, false, List, [], ◌∷◌, ◌++◌, Some}
use Rattle.std.proofs.lemmas.Bool.{false≢true}
use Rattle.ceu_base.specs.declared.kinds.Pos.{Pos}
use Rattle.ceu_base.specs.declared.kinds.Ty.TheVariants as ty
use Rattle.ceu_code.specs.declared.image.Image.{Image}
use Rattle.ceu_code.specs.declared.instr.Instr.TheVariants as instr
use Rattle.ceu_asm.specs.declared.line.Line.{Line}
use Rattle.ceu_isa.specs.Fetching.{fetched}
use Rattle.laws_machine_code.specs.Placed.{Placed}
use Rattle.laws_machine_code.proofs.Lines.{parts_are_placed}
use Rattle.ceu_tree.specs.declared.kernel.Kernel.{Kernel}
use Rattle.ceu_tree.specs.declared.kernel.KExp.{KExp}
use Rattle.ceu_tree.specs.declared.kernel.KLoop.TheVariants as turns
use Rattle.ceu_tree.specs.declared.kernel.KBlock.{KBlock}
use Rattle.ceu_tree.specs.declared.kernel.KStmt.{Loop}
use Rattle.ceu_single.specs.Single.{Single}
use Rattle.ceu_shape.specs.Plans.{Plan, own_label, end_label}
use Rattle.ceu_shape.specs.Words.{goto}
use Rattle.ceu_shape.specs.Flow.{turn_end, one_if}
use Rattle.ceu_shape.specs.Searches.{node_of_block, stands_in_async}
use Rattle.ceu_shape.specs.Shape.{expression_count, exp_part, parts_draft}
use Rattle.ceu_trail.specs.Built.{at_label, number, StatementBuilt}
use Rattle.ceu_rounds.proofs.Asyncs.{no_async}

module _ (image : Image) (P : Plan) (K : Kernel) where
  goes_round : (yields : Bool) (at head : ℕ) (x y : List Line) → yields ≡ false → Placed image (at_label image P K) at (((turn_end yields ++ (goto head ∷ [])) ++ x) ++ y)
      → (fetched image at ≡ Some (instr.Jump (at_label image P K head))) × Placed image (at_label image P K) (at + 3) (x ++ y)
  goes_round true at head x y e h = absurd (false≢true (sym e))
  goes_round false at head x y e h = h

  -- into the body, and back to the head
  pub record RoundLines (b : KBlock) (at head : ℕ) : Type 0 where
    pub into : fetched image at ≡ Some (instr.Jump (at_label image P K (own_label (node_of_block b))))
    pub round : fetched image (at_label image P K (end_label (node_of_block b))) ≡ Some (instr.Jump head)

  round_at : (b : KBlock) (at there head : ℕ) → fetched image at ≡ Some (instr.Jump (at_label image P K (own_label (node_of_block b)))) → at_label image P K (end_label (node_of_block b)) ≡ there → fetched image there ≡ Some (instr.Jump head) → RoundLines b at head
  round_at b at there head into is round = record { into = into; round = subst (λ (k : ℕ). fetched image k ≡ Some (instr.Jump head)) (sym is) round }

  -- ---- a loop without a bound

  pub record FreeLines (n : ℕ) (b : KBlock) (head : ℕ) : Type 0 where
    pub head_is : at_label image P K head ≡ at_label image P K (own_label n)
    pub turn : RoundLines b (at_label image P K (own_label n)) (at_label image P K head)

  pub free_lines : Single K → (n : ℕ) (p : Pos) (b : KBlock) → (built : StatementBuilt image P K (record { node = n; pos = p; stmt = Loop turns.Free b })) → FreeLines n b (built.fresh + 2 * expression_count (Loop turns.Free b))
  free_lines single n p b built = record {
    head_is = built.lines.1.0;
    turn = round_at b (at_label image P K (own_label n)) _ (at_label image P K (built.fresh + 2 * expression_count (Loop turns.Free b))) built.lines.1.1.0 built.lines.1.1.1.0
        (goes_round (stands_in_async K n) _ (built.fresh + 2 * expression_count (Loop turns.Free b)) _ _ (no_async K n single) built.lines.1.1.1.1).0;
  }

  -- ---- a loop with a bound

  pub record TimesLines (n : ℕ) (p : Pos) (slot limit : ℕ) (b : KBlock) (head : ℕ) : Type 0 where
    pub zero : fetched image (at_label image P K (own_label n)) ≡ Some (instr.Push ty.U32 (pos 0))
    pub stores : fetched image (at_label image P K (own_label n) + 10) ≡ Some (instr.Store ty.U32 (P.offset slot))
    pub head_is : at_label image P K head ≡ at_label image P K (own_label n) + 10 + 4
    pub limits : fetched image (at_label image P K (own_label n) + 10 + 4) ≡ Some (instr.Limit (P.offset slot) limit (number image P K p))
    pub turn : RoundLines b (at_label image P K (own_label n) + 10 + 4 + 9) (at_label image P K head)

  pub times_lines : Single K → (n : ℕ) (p : Pos) (slot limit : ℕ) (b : KBlock) → (built : StatementBuilt image P K (record { node = n; pos = p; stmt = Loop (turns.Times slot limit) b }))
      → TimesLines n p slot limit b (built.fresh + 2 * expression_count (Loop (turns.Times slot limit) b))
  times_lines single n p slot limit b built = record {
    zero = built.lines.1.0;
    stores = built.lines.1.1.0;
    head_is = built.lines.1.1.1.0;
    limits = built.lines.1.1.1.1.0;
    turn = round_at b (at_label image P K (own_label n) + 10 + 4 + 9) _ (at_label image P K (built.fresh + 2 * expression_count (Loop (turns.Times slot limit) b))) built.lines.1.1.1.1.1.0 built.lines.1.1.1.1.1.1.0
        (goes_round (stands_in_async K n) _ (built.fresh + 2 * expression_count (Loop (turns.Times slot limit) b)) _ _ (no_async K n single) built.lines.1.1.1.1.1.1.1).0;
  }

  -- ---- a loop over a range

  pub record PartLines (begin : ℕ) (e : KExp) : Type 0 where
    pub fresh : ℕ
    pub begins : ℕ
    pub there : Placed image (at_label image P K) begins ((exp_part P K begin e fresh).lines (number image P K))

  pub record RangeLines (n : ℕ) (i next end : ℕ) (open_a : Bool) (x y : KExp) (open_b : Bool) (b : KBlock) (fresh head : ℕ) : Type 0 where
    pub first_goes : fetched image (at_label image P K (own_label n)) ≡ Some (instr.Jump (at_label image P K fresh))
    pub first_back : at_label image P K (fresh + 1) ≡ at_label image P K (own_label n) + 3
    pub first_bound : fetched image (at_label image P K (own_label n) + 3) ≡ Some (instr.RangeBound (P.offset next) (1 + one_if open_a))
    pub last_goes : fetched image (at_label image P K (own_label n) + 3 + 4) ≡ Some (instr.Jump (at_label image P K (fresh + 2)))
    pub last_back : at_label image P K (fresh + 2 + 1) ≡ at_label image P K (own_label n) + 3 + 4 + 3
    pub last_bound : fetched image (at_label image P K (own_label n) + 3 + 4 + 3) ≡ Some (instr.RangeBound (P.offset end) (1 - one_if open_b))
    pub head_is : at_label image P K head ≡ at_label image P K (own_label n) + 3 + 4 + 3 + 4
    pub nexts : fetched image (at_label image P K (own_label n) + 3 + 4 + 3 + 4) ≡ Some (instr.RangeNext (P.offset next) (P.offset i) (at_label image P K (end_label n)))
    pub turn : RoundLines b (at_label image P K (own_label n) + 3 + 4 + 3 + 4 + 7) (at_label image P K head)
    pub first_part : PartLines fresh x
    pub last_part : PartLines (fresh + 2) y

  -- the parts of the ends
  end_parts : (at : ℕ) (x y : KExp) (begin fresh more : ℕ) (rest last : List Line)
      → Placed image (at_label image P K) at ((((((exp_part P K begin x fresh).lines (number image P K)) ++ ((exp_part P K (begin + 2) y more).lines (number image P K))) ++ rest) ++ last) ++ []) → PartLines begin x × PartLines (begin + 2) y
  end_parts at x y begin fresh more rest last h =
      let a : List Line = (exp_part P K begin x fresh).lines (number image P K) in
      let b : List Line = (exp_part P K (begin + 2) y more).lines (number image P K) in
      let one = (parts_are_placed image (at_label image P K) at (((a ++ b) ++ rest) ++ last) [] h).0 in
      let two = (parts_are_placed image (at_label image P K) at ((a ++ b) ++ rest) last one).0 in
      let three = (parts_are_placed image (at_label image P K) at (a ++ b) rest two).0 in
      let four = parts_are_placed image (at_label image P K) at a b three in
      (record { fresh = fresh; begins = at; there = four.0 }, record { fresh = more; begins = _; there = four.1 })

  pub range_lines : Single K → (n : ℕ) (p : Pos) (i next end : ℕ) (open_a : Bool) (x y : KExp) (open_b : Bool) (b : KBlock) → (built : StatementBuilt image P K (record { node = n; pos = p; stmt = Loop (turns.Range i next end open_a x y open_b) b }))
      → RangeLines n i next end open_a x y open_b b built.fresh (built.fresh + 2 * expression_count (Loop (turns.Range i next end open_a x y open_b) b))
  unfolding parts_draft
  range_lines single n p i next end open_a x y open_b b built =
      let back = goes_round (stands_in_async K n) _ (built.fresh + 2 * expression_count (Loop (turns.Range i next end open_a x y open_b) b)) _ _ (no_async K n single) built.lines.1.1.1.1.1.1.1.1.1.1.1 in
      let parts = end_parts _ x y built.fresh _ _ _ _ back.1 in
      record {
        first_goes = built.lines.1.0;
        first_back = built.lines.1.1.0;
        first_bound = built.lines.1.1.1.0;
        last_goes = built.lines.1.1.1.1.0;
        last_back = built.lines.1.1.1.1.1.0;
        last_bound = built.lines.1.1.1.1.1.1.0;
        head_is = built.lines.1.1.1.1.1.1.1.0;
        nexts = built.lines.1.1.1.1.1.1.1.1.0;
        turn = round_at b (at_label image P K (own_label n) + 3 + 4 + 3 + 4 + 7) _ (at_label image P K (built.fresh + 2 * expression_count (Loop (turns.Range i next end open_a x y open_b) b))) built.lines.1.1.1.1.1.1.1.1.1.0 built.lines.1.1.1.1.1.1.1.1.1.1.0 back.0;
        first_part = parts.0;
        last_part = parts.1;
      }
