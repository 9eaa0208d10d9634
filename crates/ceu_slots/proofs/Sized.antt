-- Slots have their sizes, where offsets and sizes are those of the places and a frame is that of the table.
use Rattle.std.proofs.Common.{◌≡◌, refl, sym, ap, subst, ◌∙◌, ℕ, zero, suc, ◌+◌, ◌*◌, Bool, true, ◌&&◌, IsTrue, nat_le, List, [], ◌∷◌, Option, arith}
use Rattle.std.specs.List.{list_all}
use Rattle.ceu_base.specs.declared.kinds.Ty.TheVariants as ty
use Rattle.ceu_tree.specs.declared.kernel.Kernel.{Kernel}
use Rattle.ceu_tree.specs.declared.kernel.KCode.{KCode}
use Rattle.ceu_tree.specs.declared.kernel.KDecl.{KDecl}
use Rattle.ceu_tree.specs.declared.kernel.KKind.{KKind}
use Rattle.ceu_tree.specs.declared.kernel.KKind.TheVariants as kind
use Rattle.ceu_tree.specs.declared.kernel.KLoop.{KLoop}
use Rattle.ceu_tree.specs.declared.kernel.KLoop.TheVariants as turns
use Rattle.ceu_tree.specs.declared.kernel.ParKind.{ParKind}
use Rattle.ceu_tree.specs.declared.kernel.ParKind.TheVariants as par
use Rattle.ceu_tree.specs.declared.kernel.KBlock.{KBlock, KBlock', Row_of-KNode, end_of-KNode, more_of-KNode}
use Rattle.ceu_tree.specs.declared.kernel.KArm.{KArm, KArm'}
use Rattle.ceu_tree.specs.declared.kernel.KStmt.{KStmt, Row_of-KArm, end_of-KArm, more_of-KArm, Row_of-KBlock, end_of-KBlock, more_of-KBlock, AwaitCode, Async, Do, If', Loop, Par'}
use Rattle.ceu_tree.specs.Needs.{entry, decl_size, decls_size, loop_size, branch_size, stmt_need, block_need, arm_need, arms_need}
use Rattle.ceu_tree.specs.Numbering.{par_slots, range_of, row_length}
use Rattle.ceu_tree.specs.Proper.{Scope, is_trail, is_above, on_code, outside_finalizers, with_decls, with_turns, with_aim, do_aim, LoopAim, in_async, decl_ok, loop_ok, par_ok, gives, stmt_ok, block_ok, arm_ok, nodes_ok, arms_ok, blocks_ok, is_parameter}
use Rattle.ceu_tree.specs.Mentions.{all_set}
use Rattle.ceu_slots.specs.Layout.{behind, decl_places, turn_places, byte_places, stmt_places, block_places, arm_places, nodes_places, arms_places, blocks_places}
use Rattle.ceu_slots.specs.Law.{declared_size, DeclsSized, TurnsSized, BytesSized, StandFrom, StmtSized, BlockSized, ArmSized, NodesSized, ArmsSized, BlocksSized}
use Rattle.ceu_slots.proofs.Each.{Each, each_left, each_right, both_left, both_right}
use Rattle.ceu_slots.proofs.Apart.{Agrees}

same_code : (K : Kernel) (k : KLoop) (sc : Scope) → (with_turns K k sc).code ≡ sc.code
same_code K turns.Free sc = refl
same_code K (turns.Times slot n) sc = refl
same_code K (turns.Range i next end open_a a b open_b) sc = refl

module _ (offset size frame : ℕ → ℕ) where
  turns_sized : (at : ℕ) (k : KLoop) → Each (Agrees offset size) (turn_places at k) → TurnsSized offset size frame k
  turns_sized at turns.Free agree = tt
  turns_sized at (turns.Times slot n) agree = agree.0.1
  turns_sized at (turns.Range i next end open_a a b open_b) agree =
      let later : offset end ≡ offset next + 8 = omega (arith, agree.1.0.0, agree.1.1.0.0) in
      (agree.0.1, agree.1.0.1, agree.1.1.0.1, later)

  bytes_sized : (slot at n : ℕ) → Each (Agrees offset size) (byte_places slot at n) → BytesSized offset size frame (range_of slot n)
  bytes_sized slot at zero agree = tt
  bytes_sized slot at (suc n) agree = (agree.0.1, bytes_sized (slot + 1) (at + 1) n agree.1)

  par_sized : (k : ParKind) (slot at n : ℕ) → Each (Agrees offset size) (byte_places slot at (branch_size k * n)) → BytesSized offset size frame (par_slots k slot n)
  par_sized par.And slot at n agree = let one : 1 * n ≡ n = omega arith in bytes_sized slot at n (subst (λ m. Each (Agrees offset size) (byte_places slot at m)) one agree)
  par_sized par.Or slot at n agree = tt
  par_sized par.Never slot at n agree = tt

  module _ (K : Kernel) (names : List (List ℕ)) (plain : Bool) (frames : List ℕ) (code : Option ℕ) (known : (c : ℕ) → IsTrue (is_above K c code) → frame c ≡ entry c frames) where
    used : (sc : Scope) (c : ℕ) (f : KCode → Bool) → sc.code ≡ code → IsTrue (on_code K sc c f) → frame c ≡ entry c frames
    used sc c f e ok = known c (subst (λ (x : Option ℕ). IsTrue (is_above K c x)) e (both_left (is_above K c sc.code) _ ok))

    decl_sized : (sc : Scope) (d : KDecl) (k : KKind) → sc.code ≡ code → IsTrue (decl_ok K sc (record d { kind = k })) → decl_size frames k ≡ declared_size offset size frame k
    decl_sized sc d (kind.Var t) e ok = refl
    decl_sized sc d (kind.Alias c) e ok = refl
    decl_sized sc d (kind.Pool n c) e ok =
        ap (λ x. n * (9 + x)) (sym (used sc c (λ k. true) e (both_right (is_trail sc.place && _) _ (both_left _ (nat_le 1 d.pos.line) (both_left _ (nat_le 1 d.pos.col) ok)))))

    decls_sized : (sc : Scope) (ds : List KDecl) (at : ℕ) → sc.code ≡ code → IsTrue (list_all (decl_ok K sc) ds) → Each (Agrees offset size) (decl_places frames at ds) → DeclsSized offset size frame ds
    decls_sized sc [] at e ok agree = tt
    decls_sized sc (d ∷ ds) at e ok agree =
        (agree.0.1 ∙ decl_sized sc d d.kind e (both_left (decl_ok K sc d) _ ok), decls_sized sc ds (at + decl_size frames d.kind) e (both_right (decl_ok K sc d) _ ok) agree.1)

    mutual
      unfolding stmt_ok stmt_places StmtSized

      stmt_sized : (sc : Scope) (n : ℕ) (s : KStmt) (at : ℕ) → sc.code ≡ code → IsTrue (stmt_ok K names sc n s) → Each (Agrees offset size) (stmt_places plain frames at s) → StmtSized offset size frame s
      stmt_sized sc n (AwaitCode c es slot t) at e ok agree = agree.0.1 ∙ sym (used sc c _ e (both_right (is_trail sc.place) _ ok))
      stmt_sized sc n (Async body) at e ok agree = block_sized (in_async K sc) body at e (both_right (is_trail sc.place) _ ok) agree
      stmt_sized sc n (Do l body) at e ok agree = block_sized (with_aim (do_aim K n l) sc) body at e (both_right (outside_finalizers sc.place && _) _ ok) agree
      stmt_sized sc n (If' _ arms last) at e ok agree =
          let parts : IsTrue (outside_finalizers sc.place && arms_ok K names sc arms) = both_left (outside_finalizers sc.place && arms_ok K names sc arms) _ ok in
          let next = behind plain at (arms_need plain frames arms) in (
            arms_sized sc arms at e (both_right (outside_finalizers sc.place) _ parts) (each_left (Agrees offset size) (arms_places plain frames at arms) (block_places plain frames next last) agree),
            block_sized sc last next e (both_right (outside_finalizers sc.place && arms_ok K names sc arms) _ ok) (each_right (Agrees offset size) (arms_places plain frames at arms) (block_places plain frames next last) agree),
          )
      stmt_sized sc n (Loop k body) at e ok agree =
          let next = at + loop_size k in (
            turns_sized at k (each_left (Agrees offset size) (turn_places at k) (block_places plain frames next body) agree),
            block_sized (with_aim (LoopAim n) (with_turns K k sc)) body next (same_code K k sc ∙ e) (both_right (outside_finalizers sc.place && loop_ok K sc k) _ ok) (each_right (Agrees offset size) (turn_places at k) (block_places plain frames next body) agree),
          )
      stmt_sized sc n (Par' k slot _ bs) at e ok agree =
          let bytes = branch_size k * row_length bs in (
            par_sized k slot at (row_length bs) (each_left (Agrees offset size) (byte_places slot at bytes) (blocks_places plain frames (at + bytes) bs) agree),
            blocks_sized sc bs (at + bytes) e (both_right (is_trail sc.place && par_ok K k slot (row_length bs)) _ ok) (each_right (Agrees offset size) (byte_places slot at bytes) (blocks_places plain frames (at + bytes) bs) agree),
          )
      stmt_sized sc n _ at e ok agree = tt

      pub block_sized : (sc : Scope) (body : KBlock) (at : ℕ) → sc.code ≡ code → IsTrue (block_ok K names sc body) → Each (Agrees offset size) (block_places plain frames at body) → BlockSized offset size frame body
      block_sized sc (KBlock' n ds x list) at e ok agree =
          let next = at + decls_size frames ds in (
            decls_sized sc ds at e (both_left (list_all (decl_ok K sc) ds) _ (both_left (list_all (decl_ok K sc) ds && all_set names ds list) _ ok)) (each_left (Agrees offset size) (decl_places frames at ds) (nodes_places plain frames next list) agree),
            nodes_sized (with_decls ds sc) list next e (both_right (list_all (decl_ok K sc) ds && all_set names ds list) _ ok) (each_right (Agrees offset size) (decl_places frames at ds) (nodes_places plain frames next list) agree),
          )

      arm_sized : (sc : Scope) (arm : KArm) (at : ℕ) → sc.code ≡ code → IsTrue (arm_ok K names sc arm) → Each (Agrees offset size) (arm_places plain frames at arm) → ArmSized offset size frame arm
      arm_sized sc (KArm' c body) at e ok agree = block_sized sc body at e (both_right (gives K sc ty.Bool c) _ ok) agree

      nodes_sized : {n : _} (sc : Scope) (r : Row_of-KNode n) (at : ℕ) → sc.code ≡ code → IsTrue (nodes_ok K names sc r) → Each (Agrees offset size) (nodes_places plain frames at r) → NodesSized offset size frame r
      nodes_sized sc end_of-KNode at e ok agree = tt
      nodes_sized sc (more_of-KNode n p s rest) at e ok agree =
          let next = behind plain at (stmt_need plain frames s) in (
            stmt_sized sc n s at e (both_right (nat_le 1 p.line && nat_le 1 p.col) _ (both_left (nat_le 1 p.line && nat_le 1 p.col && stmt_ok K names sc n s) _ ok))
                (each_left (Agrees offset size) (stmt_places plain frames at s) (nodes_places plain frames next rest) agree),
            nodes_sized sc rest next e (both_right (nat_le 1 p.line && nat_le 1 p.col && stmt_ok K names sc n s) _ ok) (each_right (Agrees offset size) (stmt_places plain frames at s) (nodes_places plain frames next rest) agree),
          )

      arms_sized : {n : _} (sc : Scope) (r : Row_of-KArm n) (at : ℕ) → sc.code ≡ code → IsTrue (arms_ok K names sc r) → Each (Agrees offset size) (arms_places plain frames at r) → ArmsSized offset size frame r
      arms_sized sc end_of-KArm at e ok agree = tt
      arms_sized sc (more_of-KArm arm rest) at e ok agree =
          let next = behind plain at (arm_need plain frames arm) in (
            arm_sized sc arm at e (both_left (arm_ok K names sc arm) _ ok) (each_left (Agrees offset size) (arm_places plain frames at arm) (arms_places plain frames next rest) agree),
            arms_sized sc rest next e (both_right (arm_ok K names sc arm) _ ok) (each_right (Agrees offset size) (arm_places plain frames at arm) (arms_places plain frames next rest) agree),
          )

      blocks_sized : {n : _} (sc : Scope) (r : Row_of-KBlock n) (at : ℕ) → sc.code ≡ code → IsTrue (blocks_ok K names sc r) → Each (Agrees offset size) (blocks_places plain frames at r) → BlocksSized offset size frame r
      blocks_sized sc end_of-KBlock at e ok agree = tt
      blocks_sized sc (more_of-KBlock body rest) at e ok agree =
          let next = at + block_need plain frames body in (
            block_sized sc body at e (both_left (block_ok K names sc body) _ ok) (each_left (Agrees offset size) (block_places plain frames at body) (blocks_places plain frames next rest) agree),
            blocks_sized sc rest next e (both_right (block_ok K names sc body) _ ok) (each_right (Agrees offset size) (block_places plain frames at body) (blocks_places plain frames next rest) agree),
          )

    -- parameters are variables
    parameter_sized : (d : KDecl) (k : KKind) → IsTrue (is_parameter K names (record d { kind = k })) → decl_size frames k ≡ declared_size offset size frame k
    parameter_sized d (kind.Var t) ok = refl
    parameter_sized d (kind.Alias c) ok = absurd cc
    parameter_sized d (kind.Pool n c) ok = absurd cc

    pub parameters_sized : (ds : List KDecl) (at : ℕ) → IsTrue (list_all (is_parameter K names) ds) → Each (Agrees offset size) (decl_places frames at ds) → DeclsSized offset size frame ds
    parameters_sized [] at ok agree = tt
    parameters_sized (d ∷ ds) at ok agree =
        (agree.0.1 ∙ parameter_sized d d.kind (both_left (is_parameter K names d) _ ok), parameters_sized ds (at + decl_size frames d.kind) (both_right (is_parameter K names d) _ ok) agree.1)

  pub parameters_stand : (frames : List ℕ) (ds : List KDecl) (at : ℕ) → Each (Agrees offset size) (decl_places frames at ds) → StandFrom offset size frame at ds
  parameters_stand frames [] at agree = tt
  parameters_stand frames (d ∷ ds) at agree =
      (agree.0.0, subst (λ n. StandFrom offset size frame (at + n) ds) (sym agree.0.1) (parameters_stand frames ds (at + decl_size frames d.kind) agree.1))
