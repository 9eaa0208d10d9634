-- The code of each part of a program of one trail stands where its own label is.
use Rattle.std.proofs.Common.{◌≡◌, refl, sym, ap, subst, ℕ, ◌+◌, ◌*◌, Bool, true, false, List, [], ◌∷◌, ◌++◌, append_assoc, arith}
use Rattle.std.proofs.lemmas.List.{append-nil}
use Rattle.std.proofs.lemmas.Bool.{false≢true}
use Rattle.ceu_base.specs.declared.kinds.Pos.{Pos}
use Rattle.ceu_code.specs.declared.image.Image.{Image}
use Rattle.ceu_asm.specs.declared.line.Line.{Line}
use Rattle.ceu_asm.specs.Lines.{code_size}
use Rattle.laws_machine_code.specs.Placed.{Placed}
use Rattle.laws_machine_code.proofs.Lines.{parts_are_placed}
use Rattle.ceu_tree.specs.declared.kernel.Kernel.{Kernel}
use Rattle.ceu_tree.specs.declared.kernel.KLoop.{KLoop}
use Rattle.ceu_tree.specs.declared.kernel.KLoop.TheVariants as turns
use Rattle.ceu_tree.specs.declared.kernel.KNode.{KNode}
use Rattle.ceu_tree.specs.declared.kernel.KBlock.{KBlock, KBlock', out-KBlock}
use Rattle.ceu_tree.specs.declared.kernel.KStmt.{KStmt, out-KStmt, Nothing, Assign, Out, AwaitIn, AwaitTime, Forever, Do, Escape, Break, Continue, If', Loop, Par'}
use Rattle.ceu_tree.specs.declared.kernel.KStmt.TheOpen.{KStmt-F}
use Rattle.ceu_tree.specs.Residual.{Act}
use Rattle.ceu_tree.specs.Focus.{Frame, Focus, Here, In}
use Rattle.laws_meaning_basics.specs.Shape.{Part, FrameFits, around_statement, around_end, around_instance, around_part, around_turn, around_call, around_branch, Around, nothing_around, one_around, program_part}
use Rattle.ceu_shape.specs.Plans.{Plan, own_label, end_label}
use Rattle.ceu_shape.specs.Pieces.{Draft}
use Rattle.ceu_shape.specs.Words.{mark}
use Rattle.ceu_shape.specs.Searches.{node_of_block}
use Rattle.ceu_shape.specs.Shape.{labels_of, expression_count, node_draft, with_parts, parts_draft, block_draft, codes_draft, program_draft, first_fresh, kernel_piece, shape_lines}
use Rattle.ceu_single.specs.Single.{stmt_single, block_single, Single}
use Rattle.ceu_trail.specs.Built.{behind, ending, at_label, number, node_whole, list_draft, StatementBuilt, BlockBuilt, ListBuilt, PartBuilt}
use Rattle.ceu_trail.specs.Compiled.{Compiled}
use Rattle.ceu_trail.specs.Laws.{is_here, PartsAreBuilt}
use Rattle.ceu_trail.specs.Parts.{PartSingle}
use Rattle.ceu_trail.specs.PartLaws.{ProgramIsBuilt, FramesAreBuilt, BlocksOpen, ListsBegin}
use Rattle.ceu_trail.proofs.Cuts.{Found, placed_cut}
use Rattle.ceu_trail.proofs.Singles.{no_code_at, body_single, AllSingle, list_single, among_single, part_single, end_empty}
use Rattle.ceu_trail.proofs.Pieces.{Somewhere, block_is, statement_inside, part_inside, turn_inside}
use denote.Hole.Carrier

size_append : (a b : List Line) → code_size (a ++ b) ≡ code_size a + code_size b
size_append [] b = omega arith
size_append (l ∷ a) b = let e = size_append a b in omega (arith, e)

module _ (image : Image) (P : Plan) (K : Kernel) where
  abbrev label : ℕ → ℕ
  label = at_label image P K

  abbrev pub Put : ℕ → List Line → Type 0
  Put at lines = Placed image (at_label image P K) at lines

  -- ---- each part begins with its own label

  pub statement_begins : (n : ℕ) (p : Pos) (st : KStmt) (fresh at : ℕ) (more : List Line) → stmt_single st ≡ true
      → Put at ((with_parts P K n p st (parts_draft P K st) fresh).lines (number image P K) ++ more) → at_label image P K (own_label n) ≡ at
  unfolding stmt_single
  statement_begins n p Nothing fresh at more h x = x.0
  statement_begins n p (Assign l e) fresh at more h x = x.0
  statement_begins n p (Out k e) fresh at more h x = x.0
  statement_begins n p (AwaitIn k t) fresh at more h x = x.0
  statement_begins n p (AwaitTime e u t) fresh at more h x = x.0
  statement_begins n p Forever fresh at more h x = x.0
  statement_begins n p (Do t b) fresh at more h x = x.0
  statement_begins n p (Escape m e) fresh at more h x = x.0
  statement_begins n p (Break m) fresh at more h x = x.0
  statement_begins n p (Continue m) fresh at more h x = x.0
  statement_begins n p (If' y arms last) fresh at more h x = x.0
  statement_begins n p (Loop turns.Free b) fresh at more h x = x.0
  statement_begins n p (Loop (turns.Times slot c) b) fresh at more h x = x.0
  statement_begins n p (Loop (turns.Range i next end open_a a c open_b) b) fresh at more h x = x.0
  statement_begins n p st fresh at more h x = absurd (false≢true h)

  pub block_begins : (b : KBlock) (fresh at : ℕ) (more : List Line) → Put at ((block_draft P K b fresh).lines (number image P K) ++ more) → at_label image P K (own_label (node_of_block b)) ≡ at
  unfolding parts_draft
  block_begins (KBlock' n ds x list) fresh at more h = h.0

  -- a statement is followed by what stands at its end label
  statement_ends : (s : KNode) (fresh at : ℕ) → Put at ((node_whole image P K s fresh).lines (number image P K)) → at_label image P K (end_label s.node) ≡ at + code_size ((node_whole image P K s fresh).lines (number image P K))
  statement_ends s fresh at h =
      let own = node_draft P K s.node s.pos s.stmt (labels_of fresh s.node s.stmt) (fresh + 2 * expression_count s.stmt) in
      let parts = parts_draft P K s.stmt fresh own.next in
      let end : List Line = mark (end_label s.node) ∷ [] in
      let a : List Line = own.lines (number image P K) in
      let b : List Line = parts.lines (number image P K) in
      let one = (parts_are_placed image (at_label image P K) at a (b ++ end) h).1 in
      let two = (parts_are_placed image (at_label image P K) (at + code_size a) b end one).1 in
      omega (arith, two.0, size_append a (b ++ end), size_append b end)

  -- ---- frames

  abbrev pub found_statement : (s : KNode) (fresh : ℕ) → stmt_single s.stmt ≡ true → Found image (at_label image P K) ((node_whole image P K s fresh).lines (number image P K) ++ []) → StatementBuilt image P K s
  found_statement s fresh h f = record {
    fresh = fresh;
    lines = subst (λ k. Put k ((node_whole image P K s fresh).lines (number image P K) ++ [])) (sym (statement_begins s.node s.pos s.stmt fresh f.at [] h f.there)) f.there;
  }

  abbrev pub found_block : (b : KBlock) (fresh : ℕ) → Found image (at_label image P K) ((block_draft P K b fresh).lines (number image P K) ++ behind P K false b) → BlockBuilt image P K false b
  found_block b fresh f = record {
    fresh = fresh;
    lines = subst (λ k. Put k ((block_draft P K b fresh).lines (number image P K) ++ behind P K false b)) (sym (block_begins b fresh f.at (behind P K false b) f.there)) f.there;
  }

  pub statement_found : (whole : Bool) (b : KBlock) (done : List KNode) (s : KNode) (rest : List KNode) → block_single b ≡ true → (out-KBlock b).list ≡ done ++ s ∷ rest → BlockBuilt image P K whole b
      → (stmt_single s.stmt ≡ true) × StatementBuilt image P K s
  statement_found whole b done s rest h is built =
      let single = among_single done s rest (subst AllSingle is (list_single b h)) in
      let x = statement_inside image P K b done s rest built.fresh h is in (
        single,
        found_statement s x.fresh single (placed_cut image (at_label image P K) (at_label image P K (own_label (node_of_block b))) ((block_draft P K b built.fresh).lines (number image P K))
            ((node_whole image P K s x.fresh).lines (number image P K) ++ []) (behind P K whole b) (x.inside.lines (number image P K)) built.lines),
      )

  block_found : (s : KNode) (b : KBlock) (built : StatementBuilt image P K s) → Somewhere (node_whole image P K s built.fresh) (block_draft P K b) (behind P K false b) → BlockBuilt image P K false b
  block_found s b built x =
      found_block b x.fresh (placed_cut image (at_label image P K) (at_label image P K (own_label s.node)) ((node_whole image P K s built.fresh).lines (number image P K))
      ((block_draft P K b x.fresh).lines (number image P K) ++ behind P K false b) [] (x.inside.lines (number image P K)) built.lines)

pub loop_single : (s : KStmt) (k : KLoop) (b : KBlock) → out-KStmt s ≡ KStmt-F.Loop k b → stmt_single s ≡ true → block_single b ≡ true
unfolding stmt_single out-KStmt Carrier.out
loop_single (Loop j c) k b e h = subst (λ y. block_single y ≡ true) (ap (λ l. elim l as (λ _. KBlock) [ KStmt-F.Loop i d ↦ d | _ ↦ c ]) e) h
loop_single s k b e h = absurd (cc)

pub no_par : {A : Type 0} (s : KStmt) (k : _) (slot : _) (bs : _) → out-KStmt s ≡ KStmt-F.Par k slot bs → stmt_single s ≡ true → A
unfolding stmt_single out-KStmt Carrier.out
no_par (Par' k slot x bs) j i cs e h = absurd (false≢true h)
no_par s k slot bs e h = absurd (cc)

-- what is inside a part of a program of one trail is of such a program
pub frame_single : (K : Kernel) (top : ℕ) (fr : Frame) (d e : Part) → Single K → FrameFits K top fr d e → PartSingle d → PartSingle e
frame_single K top fr d e single (around_statement {b = b} {rest = rest} {s = s} done is fin all) h = among_single done s rest (subst AllSingle is (list_single b h))
frame_single K top fr d e single (around_end fin all) h = tt
frame_single K top fr d e single (around_instance {seat = seat} done k is fin fit before after trail code) h = no_code_at K seat.code k single code
frame_single K top fr d e single (around_part {s = s} b o) h = part_single s.stmt b h o
frame_single K top fr d e single (around_turn {s = s} k b is counts) h = loop_single s.stmt k b is h
frame_single K top fr d e single (around_call c es f t k is code) h = no_code_at K c k single code
frame_single K top fr d e single (around_branch {s = s} k slot bs b cs is before after) h = no_par s.stmt k slot (bs ++ b ∷ cs) is h

pub frames_are_built : FramesAreBuilt
frames_are_built image P K top whole fr d e single (around_statement {b = b} {rest = rest} {s = s} done is fin all) h built = statement_found image P K whole b done s rest h is built
frames_are_built image P K top whole fr d e single (around_end fin all) h built = (tt, tt)
frames_are_built image P K top whole fr d e single (around_instance {seat = seat} done k is fin fit before after trail code) h built = no_code_at K seat.code k single code
frames_are_built image P K top whole fr d e single (around_part {s = s} b o) h built = (part_single s.stmt b h o, block_found image P K s b built (part_inside image P K s b built.fresh o))
frames_are_built image P K top whole fr d e single (around_turn {s = s} k b is counts) h built = (loop_single s.stmt k b is h, block_found image P K s b built (turn_inside image P K s k b built.fresh is))
frames_are_built image P K top whole fr d e single (around_call c es f t k is code) h built = no_code_at K c k single code
frames_are_built image P K top whole fr d e single (around_branch {s = s} k slot bs b cs is before after) h built = no_par s.stmt k slot (bs ++ b ∷ cs) is h

-- the program's body comes first
whole_lines : (image : Image) (P : Plan) (K : Kernel)
    → shape_lines P K ≡ ((block_draft P K K.body (first_fresh K)).lines (number image P K) ++ behind P K true K.body) ++ (codes_draft P K K.codes (program_draft P K K.body (first_fresh K)).next).lines (number image P K)
unfolding shape_lines kernel_piece
whole_lines image P K = refl

pub body_placed : (image : Image) (P : Plan) (width : ℕ → ℕ) (K : Kernel) → Compiled image P width K
    → Placed image (at_label image P K) (at_label image P K (own_label (node_of_block K.body))) ((block_draft P K K.body (first_fresh K)).lines (number image P K) ++ behind P K true K.body)
body_placed image P width K c =
    let lines : List Line = (block_draft P K K.body (first_fresh K)).lines (number image P K) ++ behind P K true K.body in
    let codes : List Line = (codes_draft P K K.codes (program_draft P K K.body (first_fresh K)).next).lines (number image P K) in
    let first = (parts_are_placed image (at_label image P K) 0 lines codes (subst (Placed image (at_label image P K) 0) (whole_lines image P K) c.placed)).0 in
    subst (λ k. Placed image (at_label image P K) k lines) (sym (block_begins image P K K.body (first_fresh K) 0 (behind P K true K.body) first)) first

pub program_is_built : ProgramIsBuilt
program_is_built image P width K c = (body_single K c.single, record { fresh = first_fresh K; lines = body_placed image P width K c })

-- from the whole program inward
module _ (image : Image) (P : Plan) (K : Kernel) (single : Single K) where
  further : (f : Focus Act) (d e : Part) → Around K 1 Act f d e → PartSingle d → PartBuilt image P K false d → PartSingle e × PartBuilt image P K false e
  further (Here a) d e nothing_around h built = (h, built)
  further (In fr f) d e (one_around {e = g} fits inner) h built =
      let x = frames_are_built image P K 1 false fr d g single fits h built in
      further f g e inner x.0 x.1

  pub around_is_built : (f : Focus Act) (d e : Part) → Around K 1 Act f d e → PartSingle d → PartBuilt image P K true d → PartSingle e × PartBuilt image P K (is_here f) e
  around_is_built (Here a) d e nothing_around h built = (h, built)
  around_is_built (In fr f) d e (one_around {e = g} fits inner) h built =
      let x = frames_are_built image P K 1 true fr d g single fits h built in
      further f g e inner x.0 x.1

pub parts_are_built : PartsAreBuilt
parts_are_built image P width K f d c around =
    let x = program_is_built image P width K c in
    (around_is_built image P K c.single f (program_part K) d around x.0 x.1).1

-- ---- the statements of a block

module _ (image : Image) (P : Plan) (K : Kernel) (whole : Bool) (b : KBlock) where
  no_ending : (c : KBlock) → block_single c ≡ true → ending P K c ≡ []
  unfolding stmt_single
  no_ending (KBlock' n ds x list) g = end_empty P K n ds list g

  ending_empty : block_single b ≡ true → ending P K b ≡ []
  ending_empty h = no_ending b h

  list_opened : block_single b ≡ true → BlockBuilt image P K whole b → ListBuilt image P K whole b (out-KBlock b).list (at_label image P K (own_label (node_of_block b)))
  list_opened h built =
      let lines : List Line = (list_draft image P K (out-KBlock b).list built.fresh).lines (number image P K) in
      let moved = subst (λ (d : Draft). Placed image (at_label image P K) (at_label image P K (own_label (node_of_block b))) ((d built.fresh).lines (number image P K) ++ behind P K whole b)) (block_is image P K b h) built.lines in
      let one : Placed image (at_label image P K) (at_label image P K (own_label (node_of_block b))) ((lines ++ []) ++ behind P K whole b) = moved.1 in
      let two = subst (Placed image (at_label image P K) (at_label image P K (own_label (node_of_block b)))) (append_assoc lines [] (behind P K whole b)) one in
      record {
        fresh = built.fresh;
        lines = subst (λ e. Placed image (at_label image P K) (at_label image P K (own_label (node_of_block b))) (lines ++ (e ++ behind P K whole b))) (sym (ending_empty h)) two;
      }

  -- the first statement, and those behind it
  list_split : (s : KNode) (rest : List KNode) (at : ℕ) (built : ListBuilt image P K whole b (s ∷ rest) at)
      → Placed image (at_label image P K) at ((node_whole image P K s built.fresh).lines (number image P K)) × ListBuilt image P K whole b rest (at_label image P K (end_label s.node))
  list_split s rest at built =
      let first = node_whole image P K s built.fresh in
      let a : List Line = first.lines (number image P K) in
      let l : List Line = (list_draft image P K rest first.next).lines (number image P K) in
      let tail : List Line = ending P K b ++ behind P K whole b in
      let parts = parts_are_placed image (at_label image P K) at a (l ++ tail) (subst (Placed image (at_label image P K) at) (append_assoc a l tail) built.lines) in
      (parts.0, record { fresh = first.next; lines = subst (λ k. Placed image (at_label image P K) k (l ++ tail)) (sym (statement_ends image P K s built.fresh at parts.0)) parts.1 })

  list_begins : (s : KNode) (rest : List KNode) (at : ℕ) → stmt_single s.stmt ≡ true → ListBuilt image P K whole b (s ∷ rest) at → at ≡ at_label image P K (own_label s.node)
  list_begins s rest at h built =
      let a : List Line = (node_whole image P K s built.fresh).lines (number image P K) in
      sym (statement_begins image P K s.node s.pos s.stmt built.fresh at [] h (subst (Placed image (at_label image P K) at) (sym (append-nil a)) (list_split s rest at built).0))

  list_after : (done : List KNode) (s : KNode) (rest : List KNode) (at : ℕ) → ListBuilt image P K whole b (done ++ s ∷ rest) at → ListBuilt image P K whole b rest (at_label image P K (end_label s.node))
  list_after [] s rest at built = (list_split s rest at built).1
  list_after (x ∷ done) s rest at built = list_after done s rest (at_label image P K (end_label x.node)) (list_split x (done ++ s ∷ rest) at built).1

pub blocks_open : BlocksOpen
blocks_open image P K whole b h built =
    let list = list_opened image P K whole b h built in
    record {
      list = list;
      statement =
          λ done rest s is.
          let x = statement_found image P K whole b done s rest h is built in
          record {
            single = x.0;
            built = x.1;
            follows = list_after image P K whole b done s rest (at_label image P K (own_label (node_of_block b))) (subst (λ ls. ListBuilt image P K whole b ls (at_label image P K (own_label (node_of_block b)))) is list);
          };
      nothing_at_end = ending_empty image P K whole b h;
    }

pub lists_begin : ListsBegin
lists_begin image P K whole b s rest at h built = list_begins image P K whole b s rest at h built
