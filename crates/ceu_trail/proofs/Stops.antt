-- Where the trail of a program of one trail goes on behind a wait, and where a block begins.
use Rattle.std.proofs.Common.{◌≡◌, refl, sym, ap, ◌∙◌, subst, ℕ, ◌+◌, Bool, true, false, List, [], ◌∷◌, ◌++◌, length, Option, arith}
use Rattle.std.proofs.lemmas.List.{append-nil}
use Rattle.ceu_base.specs.declared.kinds.Pos.{Pos}
use Rattle.ceu_code.specs.declared.image.Image.{Image}
use Rattle.ceu_asm.specs.Lines.{offset_of}
use Rattle.ceu_tree.specs.declared.kernel.Kernel.{Kernel}
use Rattle.ceu_tree.specs.declared.kernel.KCode.{KCode}
use Rattle.ceu_tree.specs.declared.kernel.KExp.{KExp}
use Rattle.ceu_tree.specs.declared.kernel.KNode.{KNode}
use Rattle.ceu_tree.specs.declared.kernel.KBlock.{KBlock}
use Rattle.ceu_tree.specs.declared.kernel.KStmt.{KStmt, out-KStmt, AwaitIn, AwaitTime, Forever}
use Rattle.ceu_tree.specs.declared.kernel.KStmt.TheOpen.{KStmt-F}
use Rattle.ceu_tree.specs.declared.kernel.Loc.{Loc}
use Rattle.ceu_tree.specs.declared.kernel.Unit.{Unit as TimeUnit}
use Rattle.ceu_tree.specs.Numbering.{block_nodes, codes_nodes}
use Rattle.ceu_tree.specs.Proper.{Proper}
use Rattle.ceu_tree.specs.Residual.{Act}
use Rattle.ceu_tree.specs.Focus.{Frame, Focus, Here, In}
use Rattle.laws_meaning_basics.specs.Shape.{Part, ABlock, AStatement, AnEnd, FrameFits, around_statement, around_end, around_instance, around_part, around_turn, around_call, around_branch, Around, nothing_around, one_around, program_part}
use Rattle.ceu_shape.specs.Plans.{Plan, own_label}
use Rattle.ceu_shape.specs.Pieces.{Finishes, Stop, stop}
use Rattle.ceu_shape.specs.Searches.{node_of_block}
use Rattle.ceu_shape.specs.Shape.{with_parts, parts_draft, block_draft, codes_draft, program_draft, first_fresh, kernel_piece, shape_lines, same_moment, stop_in, offset_at, begin_offset, finish_offset}
use Rattle.ceu_single.specs.Single.{stmt_single, Single}
use Rattle.ceu_trail.specs.Built.{behind, at_label, number, node_whole, StatementBuilt, BlockBuilt}
use Rattle.ceu_trail.specs.Compiled.{Compiled}
use Rattle.ceu_trail.specs.Parts.{PartSingle, StopsAt, PartStops}
use Rattle.ceu_trail.specs.PartLaws.{StopsAreThere}
use Rattle.ceu_trail.proofs.Cuts.{Cut, cut_all, cut_then, cut_left, placed_cut}
use Rattle.ceu_trail.proofs.Singles.{no_code, no_code_at, body_single, AllSingle, list_single, among_single}
use Rattle.ceu_trail.proofs.Pieces.{Somewhere, statement_inside, part_inside, turn_inside}
use Rattle.ceu_trail.proofs.Codes.{Put, found_statement, found_block, frame_single, no_par, body_placed}
use Rattle.ceu_trail.proofs.Planned.{in_order}
use Rattle.ceu_trail.proofs.Rising.{Rising, found_stop, none_begins, counts_both, block_rises}
use denote.Hole.Carrier

module _ (image : Image) (P : Plan) (K : Kernel) where
  -- ---- parts with their code and with their places among those of the program

  record BlockReached (whole : Bool) (b : KBlock) : Type 0 where
    pub built : BlockBuilt image P K whole b
    pub stops : Cut (kernel_piece P K).stops (block_draft P K b built.fresh).stops

  record StatementReached (s : KNode) : Type 0 where
    pub built : StatementBuilt image P K s
    pub stops : Cut (kernel_piece P K).stops (node_whole image P K s built.fresh).stops

  PartReached : (whole : Bool) → Part → Type 0
  PartReached whole (ABlock turn sc b) = BlockReached whole b
  PartReached whole (AStatement sc s) = StatementReached s
  PartReached whole AnEnd = Unit {0}

  statement_reached : (whole : Bool) (b : KBlock) (s : KNode) → stmt_single s.stmt ≡ true → (x : BlockReached whole b) → Somewhere (block_draft P K b x.built.fresh) (node_whole image P K s) [] → StatementReached s
  statement_reached whole b s h x i = record {
    built =
        found_statement image P K s i.fresh h (placed_cut image (at_label image P K) (at_label image P K (own_label (node_of_block b))) ((block_draft P K b x.built.fresh).lines (number image P K))
        ((node_whole image P K s i.fresh).lines (number image P K) ++ []) (behind P K whole b) (i.inside.lines (number image P K)) x.built.lines);
    stops = cut_then (kernel_piece P K).stops (block_draft P K b x.built.fresh).stops (node_whole image P K s i.fresh).stops x.stops i.inside.stops;
  }

  block_reached : (s : KNode) (b : KBlock) (x : StatementReached s) → Somewhere (node_whole image P K s x.built.fresh) (block_draft P K b) (behind P K false b) → BlockReached false b
  block_reached s b x i = record {
    built =
        found_block image P K b i.fresh (placed_cut image (at_label image P K) (at_label image P K (own_label s.node)) ((node_whole image P K s x.built.fresh).lines (number image P K))
        ((block_draft P K b i.fresh).lines (number image P K) ++ behind P K false b) [] (i.inside.lines (number image P K)) x.built.lines);
    stops = cut_then (kernel_piece P K).stops (node_whole image P K s x.built.fresh).stops (block_draft P K b i.fresh).stops x.stops i.inside.stops;
  }

  frame_reached : (whole : Bool) (fr : Frame) (d e : Part) → Single K → FrameFits K 1 fr d e → PartSingle d → PartReached whole d → PartReached false e
  unfolding PartReached
  frame_reached whole fr d e single (around_statement {b = b} {rest = rest} {s = s} done is fin all) h x =
      statement_reached whole b s (among_single done s rest (subst AllSingle is (list_single b h))) x (statement_inside image P K b done s rest x.built.fresh h is)
  frame_reached whole fr d e single (around_end fin all) h x = tt
  frame_reached whole fr d e single (around_instance {seat = seat} done k is fin fit before after trail code) h x = no_code_at K seat.code k single code
  frame_reached whole fr d e single (around_part {s = s} b o) h x = block_reached s b x (part_inside image P K s b x.built.fresh o)
  frame_reached whole fr d e single (around_turn {s = s} k b is counts) h x = block_reached s b x (turn_inside image P K s k b x.built.fresh is)
  frame_reached whole fr d e single (around_call c es f t k is code) h x = no_code_at K c k single code
  frame_reached whole fr d e single (around_branch {s = s} k slot bs b cs is before after) h x = no_par s.stmt k slot (bs ++ b ∷ cs) is h

  record Reached (d : Part) : Type 0 where
    pub whole : Bool
    pub single : PartSingle d
    pub part : PartReached whole d

  further : (f : Focus Act) (d e : Part) → Single K → Around K 1 Act f d e → Reached d → Reached e
  further (Here a) d e s nothing_around x = x
  further (In fr f) d e s (one_around {e = g} fits inner) x =
      further f g e s inner (record { whole = false; single = frame_single K 1 fr d g s fits x.single; part = frame_reached x.whole fr d g s fits x.single x.part })

  whole_stops : Cut (kernel_piece P K).stops (block_draft P K K.body (first_fresh K)).stops
  unfolding kernel_piece
  whole_stops =
      let own : List Stop = (block_draft P K K.body (first_fresh K)).stops in
      cut_left (own ++ []) (codes_draft P K K.codes (program_draft P K K.body (first_fresh K)).next).stops own (cut_left own [] own (cut_all own))

  reached : (width : ℕ → ℕ) (f : Focus Act) (d : Part) → Compiled image P width K → Around K 1 Act f (program_part K) d → Reached d
  unfolding PartReached
  reached width f d c around = further f (program_part K) d c.single around (record {
    whole = true;
    single = body_single K c.single;
    part = record { built = record { fresh = first_fresh K; lines = body_placed image P width K c }; stops = whole_stops };
  })

  -- ---- their order

  codes_stops : (cs : List KCode) (fresh : ℕ) → cs ≡ [] → (codes_draft P K cs fresh).stops ≡ []
  codes_stops [] fresh e = refl
  codes_stops (c ∷ cs) fresh e = absurd (cc)

  stops_are : Single K → (kernel_piece P K).stops ≡ (block_draft P K K.body (first_fresh K)).stops
  unfolding kernel_piece
  stops_are s =
      let own : List Stop = (block_draft P K K.body (first_fresh K)).stops in
      ap (λ l. (own ++ []) ++ l) (codes_stops K.codes (program_draft P K K.body (first_fresh K)).next (no_code K s)) ∙ append-nil (own ++ []) ∙ append-nil own

  all_rise : Proper K → Single K → Rising 0 (0 + length (block_nodes K.body)) (kernel_piece P K).stops
  all_rise ok s =
      subst (Rising 0 (0 + length (block_nodes K.body))) (sym (stops_are s))
      (block_rises P K K.body 0 (first_fresh K) (body_single K s) (counts_both 0 (block_nodes K.body) (codes_nodes K.codes) (in_order K ok)).0)

  -- ---- what the tables say

  begin_is : (n : ℕ) → Proper K → Single K → begin_offset P K n ≡ at_label image P K (own_label n)
  begin_is n ok s = ap (offset_at (shape_lines P K) (offset_of (own_label n) (shape_lines P K))) (none_begins n 0 (0 + length (block_nodes K.body)) (kernel_piece P K).stops (all_rise ok s))

  finish_is : (x : Stop) (more : List Stop) → Proper K → Single K → Cut (kernel_piece P K).stops (x ∷ more) → same_moment x.moment Finishes ≡ true → finish_offset P K x.node ≡ at_label image P K x.label + x.behind
  finish_is x more ok s cut e =
      let rise = subst (Rising 0 (0 + length (block_nodes K.body))) cut.is (all_rise ok s) in
      ap (offset_at (shape_lines P K) 65535) (ap (stop_in Finishes x.node) cut.is ∙ found_stop Finishes 0 (0 + length (block_nodes K.body)) cut.before x (more ++ cut.after) rise e)

  -- the first place of a statement
  record HeadStop (x : Stop) (xs : List Stop) : Type 0 where
    pub more : List Stop
    pub is : xs ≡ x ∷ more

  input_stop : (n : ℕ) (p : Pos) (s : KStmt) (fresh k : ℕ) (t : Option Loc) → out-KStmt s ≡ KStmt-F.AwaitIn k t → HeadStop (stop Finishes n (own_label n) 6) (with_parts P K n p s (parts_draft P K s) fresh).stops
  unfolding out-KStmt Carrier.out parts_draft
  input_stop n p (AwaitIn j u) fresh k t e = record { more = []; is = refl }
  input_stop n p s fresh k t e = absurd (cc)

  time_stop : (n : ℕ) (p : Pos) (s : KStmt) (fresh : ℕ) (x : KExp) (u : TimeUnit) (t : Option Loc) → out-KStmt s ≡ KStmt-F.AwaitTime x u t → HeadStop (stop Finishes n (fresh + 1) 2) (with_parts P K n p s (parts_draft P K s) fresh).stops
  unfolding out-KStmt Carrier.out
  time_stop n p (AwaitTime y v w) fresh x u t e = record { more = (parts_draft P K (AwaitTime y v w) fresh (fresh + 2)).stops ++ []; is = refl }
  time_stop n p s fresh x u t e = absurd (cc)

  forever_stop : (n : ℕ) (p : Pos) (s : KStmt) (fresh : ℕ) → out-KStmt s ≡ KStmt-F.Forever → HeadStop (stop Finishes n (own_label n) 4) (with_parts P K n p s (parts_draft P K s) fresh).stops
  unfolding out-KStmt Carrier.out parts_draft
  forever_stop n p Forever fresh e = record { more = []; is = refl }
  forever_stop n p s fresh e = absurd (cc)

  -- the end of the expression of a wait for a time stands behind the move to its gate and the jump to the expression
  time_label : (n : ℕ) (p : Pos) (s : KStmt) (fresh at : ℕ) (x : KExp) (u : TimeUnit) (t : Option Loc) → out-KStmt s ≡ KStmt-F.AwaitTime x u t
      → Put image P K at ((with_parts P K n p s (parts_draft P K s) fresh).lines (number image P K) ++ []) → at_label image P K (fresh + 1) ≡ at + 6
  unfolding out-KStmt Carrier.out
  time_label n p (AwaitTime y v w) fresh at x u t e h = let l = h.1.1.1.0 in omega (arith, l)
  time_label n p s fresh at x u t e h = absurd (cc)

  head_cut : (x : Stop) (s : KNode) (r : StatementReached s) → (h : HeadStop x (node_whole image P K s r.built.fresh).stops) → Cut (kernel_piece P K).stops (x ∷ h.more)
  head_cut x s r h = subst (Cut (kernel_piece P K).stops) h.is r.stops

  module _ (width : ℕ → ℕ) (ok : Proper K) (single : Single K) where
    statement_stops : (s : KNode) → StatementReached s → StopsAt image P width K s
    statement_stops s r = record {
      at_input =
          λ k t e.
          let h = input_stop s.node s.pos s.stmt r.built.fresh k t e in
          finish_is (stop Finishes s.node (own_label s.node) 6) h.more ok single (head_cut (stop Finishes s.node (own_label s.node) 6) s r h) refl;
      at_time = λ x u t e. let l = time_label s.node s.pos s.stmt r.built.fresh (at_label image P K (own_label s.node)) x u t e r.built.lines in let f = timed x u t e in omega (arith, f, l);
      behind_time =
          λ x u t e built.
          let l = time_label s.node s.pos s.stmt r.built.fresh (at_label image P K (own_label s.node)) x u t e r.built.lines in
          let m = time_label s.node s.pos s.stmt built.fresh (at_label image P K (own_label s.node)) x u t e built.lines in
          let f = timed x u t e in omega (arith, f, l, m);
      at_forever =
          λ e.
          let h = forever_stop s.node s.pos s.stmt r.built.fresh e in
          finish_is (stop Finishes s.node (own_label s.node) 4) h.more ok single (head_cut (stop Finishes s.node (own_label s.node) 4) s r h) refl;
    }
      where
        timed : (x : KExp) (u : TimeUnit) (t : Option Loc) → out-KStmt s.stmt ≡ KStmt-F.AwaitTime x u t → finish_offset P K s.node ≡ at_label image P K (r.built.fresh + 1) + 2
        timed x u t e =
            let h = time_stop s.node s.pos s.stmt r.built.fresh x u t e in
            finish_is (stop Finishes s.node (r.built.fresh + 1) 2) h.more ok single (head_cut (stop Finishes s.node (r.built.fresh + 1) 2) s r h) refl

    part_stops : (whole : Bool) (d : Part) → PartReached whole d → PartStops image P width K d
    unfolding PartReached
    part_stops whole (ABlock turn sc b) r = begin_is (node_of_block b) ok single
    part_stops whole (AStatement sc s) r = statement_stops s r
    part_stops whole AnEnd r = tt

pub stops_are_there : StopsAreThere
stops_are_there image P width K f d c around =
    let r = reached image P K width f d c around in
    part_stops image P K width c.proper c.single r.whole d r.part
