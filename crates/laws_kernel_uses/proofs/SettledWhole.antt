-- The program and its codes: in each block what it declares is set, and named otherwise only after that.
use Rattle.std.proofs.Common.{◌≡◌, refl, sym, ap, ◌∙◌, subst, ℕ, ◌≤◌, ◌<◌, ◌+◌, length, arith, List, [], ◌∷◌, ◌++◌, Ok, false}
use Rattle.ceu_base.specs.declared.kinds.Ty.{Ty}
use Rattle.ceu_base.specs.declared.kinds.Pos.{Pos}
use Rattle.ceu_tree.specs.declared.source.Class.TheVariants as class
use Rattle.ceu_tree.specs.declared.source.Ident.{Ident}
use Rattle.ceu_tree.specs.declared.source.Param.{Param}
use Rattle.ceu_tree.specs.declared.source.Block.{Block, Block', Row_of-Node, end_of-Node, more_of-Node}
use Rattle.ceu_tree.specs.declared.source.Stmt as stmt
use Rattle.ceu_tree.specs.declared.source.Stmt.{Stmt}
use Rattle.ceu_tree.specs.declared.source.Tree.{Tree}
use Rattle.ceu_tree.specs.declared.kernel.KCode.{KCode}
use Rattle.ceu_tree.specs.Mentions.{named_by, count_of, outer_names_from}
use Rattle.ceu_scopes.specs.declared.known.Scopes.{Scopes}
use Rattle.ceu_scopes.specs.declared.scope.Border.TheVariants.{Plain}
use Rattle.ceu_scopes.specs.declared.walk.Walk.{Walk}
use Rattle.ceu_scopes.specs.Walk.{◌>>=◌, opened, closed, shown, fresh, block_of}
use Rattle.ceu_scopes.specs.Rules.{inside_broken, declared}
use Rattle.ceu_scopes.specs.Names.{params_opened, code_opened, stmt_walked, block_walked, nodes_walked, fresh_walk, gathered, scopes_of}
use Rattle.ceu_types.specs.declared.typing.Types.{Types}
use Rattle.ceu_expand.specs.declared.draft.Draft.{Draft}
use Rattle.ceu_expand.specs.Draft as draft
use Rattle.ceu_expand.specs.Draft.{of_program, nothing_written, around_block}
use Rattle.ceu_expand.specs.Expansion.{declared_by, declared_in, code_begun, code_around, code_ended, stmt_written, nodes_written, block_written, block_passed, counted, kernel_of}
use Rattle.laws_kernel_shape.specs.Shaped.{AllOf}
use Rattle.laws_kernel_shape.proofs.Codes.{NoCodeInBlock, Outermost, OutermostNodes, OutermostBlock, CodesOutermost}
use Rattle.laws_kernel_shape.proofs.Counts.{stmt_hides, nodes_hide}
use Rattle.laws_kernel_shape.proofs.Good.{all_append}
use Rattle.laws_kernel_shape.proofs.Inside.{append_none}
use Rattle.laws_kernel_shape.proofs.Steps.{Always, always_ok, always_then}
use Rattle.laws_kernel_shape.proofs.Whole.{row_counted}
use Rattle.laws_kernel_shape.proofs.Wrote.{stmt_wrote, block_in}
use Rattle.laws_kernel_names.proofs.Stepping.{Fits}
use Rattle.laws_kernel_uses.specs.Settled.{BlockSettled, CodeSettled, KernelSettled}
use Rattle.laws_kernel_uses.proofs.Knowing.{Means, MeansOf, Knows, Outside, calm_knows, shown_shows, closed_goes}
use Rattle.laws_kernel_uses.proofs.Passing.{Clear}
use Rattle.laws_kernel_uses.proofs.Parts.{HoldsIn, SetAll, SettledIn, Part, Pending}
use Rattle.laws_kernel_uses.proofs.SettledBlocks.{bind_ok, block_settled, opened_empty, opened_set}
use Rattle.laws_kernel_uses.proofs.SettledNaming.{stmt_part, block_made}
use Rattle.laws_kernel_uses.proofs.Tables.{table_of, Tabled, tabled_same, tabled_before, tabled_own}
use Rattle.laws_kernel_uses.proofs.SettledCodes.{knows_of, began, enters, ended}
use Rattle.laws_kernel_uses.proofs.Waiting.{Ends, BlockEnds, NodesEnd, TreeEnds}

module _ (s : Scopes) (t : Types) where
  -- ---- how many slots the program's text takes

  record Counted (own hides : ℕ) (d e : Draft) : Type 0 where
    slot : e.slot ≡ d.slot + hides
    parts : e.parts.slot ≡ d.parts.slot + own

  code_counted : (p : Pos) (x : Ident) (ps : List Param) (result : Ty) (b : Block) → NoCodeInBlock b → (d : Draft) → Counted 0 0 d (stmt_written s t of_program p (stmt.Code x ps result b) d)
  unfolding stmt_written
  code_counted p x ps result b h d =
      let inside = code_begun ps d in
      let around = code_around inside in
      let after = block_passed s t around b inside in
      let end' = ended [] s x result (block_written s t around b inside) d after in
      let stays = (block_in s t around b h inside).stays in
      let slot : (code_ended x result (block_written s t around b inside) d.parts after).slot ≡ d.slot = end'.slot ∙ ap (λ (e : Draft). e.other_slot) stays ∙ (began [] s ps d).other in
      let own : (code_ended x result (block_written s t around b inside) d.parts after).parts.slot ≡ d.parts.slot = ap (λ p. p.slot) end'.parts_are in
      record { slot = omega (arith, slot); parts = omega (arith, own) }

  stmt_counted : (p : Pos) (st : Stmt) → Outermost st → (d : Draft) → Counted (declared_by st) (stmt_hides st) d (stmt_written s t of_program p st d)
  unfolding Outermost declared_by stmt_hides
  stmt_counted p (stmt.Code x ps result b) h d = code_counted p x ps result b h d
  stmt_counted p st h d = let k = stmt_wrote s t of_program p st h d in record { slot = k.hidden_is; parts = k.slot_is }

  nodes_counted : {n : _} (r : Row_of-Node n) → OutermostNodes r → (d : Draft) → Counted (declared_in r) (nodes_hide r) d (nodes_written s t of_program r d)
  unfolding OutermostNodes declared_in stmt_hides stmt_written
  nodes_counted end_of-Node h d = record { slot = omega arith; parts = omega arith }
  nodes_counted (more_of-Node p st rest) h d =
      let e = stmt_written s t of_program p st d in
      let a = stmt_counted p st h.0 d in
      let b = nodes_counted rest h.1 e in
      let a0 = a.slot in
      let b0 = b.slot in
      let a1 = a.parts in
      let b1 = b.parts in
      record { slot = omega (arith, a0, b0); parts = omega (arith, a1, b1) }

  module _ (T : List (List ℕ)) (top last : ℕ) where
    -- what is so in the outermost block, whose declarations end at `last`; the program's slots end at `top`
    record State (w : Walk) (d : Draft) : Type 0 where
      known : (n : ℕ) → d.parts.slot ≤ n → (last ≤ n → d.slot ≤ n) → (top ≤ n → d.other_slot ≤ n) → Knows T n w d × HoldsIn T n d.parts
      settled : SettledIn T d.parts
      set : SetAll T d.parts
      codes : AllOf (CodeSettled T) d.codes

    record Outer (w : Walk) (d : Draft) (v : Walk) (e : Draft) : Type 0 where
      fits : Fits s v → Fits s w
      tabled : Tabled T e → Tabled T d
      slots : d.slot ≤ e.slot
      owns : d.parts.slot ≤ e.parts.slot
      others : d.other_slot ≤ e.other_slot
      goes : Fits s v → Tabled T e → top ≤ d.other_slot → e.slot ≤ top → e.parts.slot ≤ last → last ≤ d.slot → State w d → State v e

    outer_then : {w v u : Walk} {d e c : Draft} → Outer w d v e → Outer v e u c → Outer w d u c
    outer_then {d = d} {e = e} {c = c} a b =
        let x : d.slot ≤ e.slot = a.slots in
        let y : e.slot ≤ c.slot = b.slots in
        let p : d.parts.slot ≤ e.parts.slot = a.owns in
        let q : e.parts.slot ≤ c.parts.slot = b.owns in
        let i : d.other_slot ≤ e.other_slot = a.others in
        let j : e.other_slot ≤ c.other_slot = b.others in
        record {
          fits = λ f. a.fits (b.fits f);
          tabled = λ h. a.tabled (b.tabled h);
          slots = omega (arith, x, y);
          owns = omega (arith, p, q);
          others = omega (arith, i, j);
          goes = λ f h lo up own first st. b.goes f h (omega (arith, lo, i)) up own (omega (arith, first, x)) (a.goes (b.fits f) (b.tabled h) lo (omega (arith, up, y)) (omega (arith, own, q)) first st);
        }

    -- a statement that isn't code
    plain_outer : {w v : Walk} {d e : Draft} → Part T s w d v e → e.codes ≡ d.codes → e.other_slot ≡ d.other_slot → Outer w d v e
    plain_outer {w = w} {d = d} {e = e} part codes other =
        let x : d.slot ≤ e.slot = part.slots in
        let p : d.parts.slot ≤ e.parts.slot = part.owns in
        record {
          fits = part.fits;
          tabled = tabled_same T d e codes;
          slots = x;
          owns = p;
          others = omega (arith, other);
          goes = λ f h lo up own first st.
              let clear : Clear T s top w d = λ n le lt. (st.known n (omega (arith, le, first, own, p)) (λ k. le) (λ k. omega (arith, k, lt))).0 in
              let pending : Pending T s w d e.parts.slot = λ n le lt. st.known n le (λ k. omega (arith, k, lt, own)) (λ k. omega (arith, k, lt, own, first, x, up)) in
              let all = part.goes f top up (omega (arith, own, first)) clear pending st.settled st.set in
              record {
                known = λ n a b c.
                    let o : Outside d.slot e.slot n = λ l u. let k = b (omega (arith, l, first)) in omega (arith, k, u) in
                    let i : Outside d.parts.slot e.parts.slot n = λ l u. omega (arith, a, u) in
                    let k = st.known n (omega (arith, a, p)) (λ q. let r = b q in omega (arith, r, x)) (λ q. let r = c q in omega (arith, r, other)) in
                    (part.knows n o i k.0, part.holds f n o i k.0 k.1);
                settled = all.0;
                set = all.1;
                codes = subst (AllOf (CodeSettled T)) (sym codes) st.codes;
              };
        }

    -- ---- code

    code_shown : (n : ℕ) (w : Walk) (numbers : List ℕ) (c : ℕ) → MeansOf T n numbers (record { number = length w.decls; class = class.Code; code = 0; block = block_of w.scopes }) class.Code → Means T n numbers (fresh class.Code 0 w)
    unfolding fresh
    code_shown n w numbers c m = m

    code_outer : (x : Ident) (ps : List Param) (result : Ty) (b : Block) → NoCodeInBlock b → BlockEnds b → (w w1 w3 w4 w5 z : Walk) (d : Draft) →
        let inside = code_begun ps d in
        let around = code_around inside in
        declared class.Code result (inside_broken w.scopes) x w ≡ Ok w1 → params_opened x.name ps w1 ≡ Ok w3 → block_walked b Plain w3 ≡ Ok w4 → closed w4 ≡ Ok w5 → shown x (fresh class.Code 0 w) w5 ≡ Ok z →
        Outer w d z (code_ended x result (block_written s t around b inside) d.parts (block_passed s t around b inside))
    code_outer x ps result b bare ends w w1 w3 w4 w5 z d e1 e3 e4 e5 ez =
        let inside = code_begun ps d in
        let around = code_around inside in
        let made = block_written s t around b inside in
        let after = block_passed s t around b inside in
        let e = code_ended x result made d.parts after in
        let stays = (block_in s t around b bare inside).stays in
        let begin = began T s ps d in
        let end' = ended T s x result made d after in
        let U = table_of d in
        let enter = enters T s x ps result w w1 w3 d e1 e3 in
        let enter' = enters U s x ps result w w1 w3 d e1 e3 in
        let body = block_made T s t around b Plain bare ends w3 inside w4 e4 in
        let body' = block_made U s t around b Plain bare ends w3 inside w4 e4 in
        let close = closed_goes T s w4 after w5 e5 in
        let sh = shown_shows T s x (fresh class.Code 0 w) w5 e z ez in
        let code : KCode = record { name = x.name; params = after.parts.decls; result = result; body = made } in
        let codes : after.codes ≡ d.codes = ap (λ (c : Draft). c.codes) stays ∙ begin.codes in
        let one : e.codes ≡ d.codes ++ code ∷ [] = end'.codes ∙ ap (λ cs. cs ++ code ∷ []) codes in
        let slot : e.slot ≡ d.slot = end'.slot ∙ ap (λ (c : Draft). c.other_slot) stays ∙ begin.other in
        let own : e.parts.slot ≡ d.parts.slot = ap (λ p. p.slot) end'.parts_are in
        let slots : inside.slot ≤ after.slot = body.step.slots in
        let inner : inside.slot ≡ d.other_slot + length ps = begin.slot in
        let params : inside.parts.slot ≡ d.other_slot + length ps = begin.own in
        let other : e.other_slot ≡ after.slot = end'.other in
        let fits4 : Fits s z → Fits s w4 = λ g. close.fits ((sh 0).fits g) in
        record {
          fits = λ g. enter.fits (body.step.fits (fits4 g));
          tabled = tabled_before T d e code one;
          slots = omega (arith, slot);
          owns = omega (arith, own);
          others = omega (arith, other, slots, inner);
          goes = λ g h lo up own' first st.
              let table = tabled_before T d e code one h in
              let begun_at : (n : ℕ) → d.parts.slot ≤ n → (last ≤ n → d.slot ≤ n) → (top ≤ n → d.other_slot ≤ n) → Outside d.other_slot inside.parts.slot n → Knows T n w3 inside = λ n a b c o. enter.knows n o (st.known n a b c).0 in
              let settled : BlockSettled T made =
              body.whole (fits4 g) after.slot (omega arith)
              (λ n le lt. begun_at n (omega (arith, le, inner, lo, up, slot, own, own', first)) (λ k. omega (arith, le, inner, lo, up, slot)) (λ k. omega (arith, le, inner)) (λ l u. omega (arith, le, inner, params, u))) in
              record {
                known = λ n a b c.
                    let a' : d.parts.slot ≤ n = omega (arith, a, own) in
                    let b' : last ≤ n → d.slot ≤ n = λ q. let r = b q in omega (arith, r, slot) in
                    let c' : top ≤ n → d.other_slot ≤ n = λ q. let r = c q in omega (arith, r, other, slots, inner) in
                    let k = st.known n a' b' c' in
                    let outer : (l : ℕ) → d.other_slot ≤ l → l ≤ n → n < after.slot → ⊥ = λ l p q u. let r = c (omega (arith, lo, p, q)) in omega (arith, r, other, u) in
                    let o1 : Outside d.other_slot inside.parts.slot n = λ l u. outer d.other_slot (omega arith) l (omega (arith, u, params, inner, slots)) in
                    let o2 : Outside inside.slot after.slot n = λ l u. outer inside.slot (omega (arith, inner)) l u in
                    let k3 = enter.knows n o1 k.0 in
                    let k4 = body.step.knows n o2 k3 in
                    let k5 = close.knows n (λ l u. omega (arith, l, u)) k4 in
                    let k6 = calm_knows T s n w5 after e end'.uses end'.numbers k5 in
                    let j3 = enter'.knows n o1 (knows_of T U table.rest table.is n w d k.0) in
                    let absent : count_of n (named_by (length d.codes) T) ≡ 0 = ap (count_of n) (tabled_own T d e code one h) ∙ body'.so (fits4 g) n o2 j3 false in
                    let stood : Means T n (draft.standing (length d.codes) d).numbers (fresh class.Code 0 w) = code_shown n w (draft.standing (length d.codes) d).numbers 0 (length d.codes, enter.number k.0.decls, absent) in
                    let means : Means T n e.numbers (fresh class.Code 0 w) = subst (λ ns. Means T n ns (fresh class.Code 0 w)) (sym end'.numbers) (body.step.means n (fresh class.Code 0 w) (enter.means n (fresh class.Code 0 w) stood)) in
                    ((sh n).knows k6 means, subst (HoldsIn T n) (sym end'.parts_are) k.1);
                settled = subst (SettledIn T) (sym end'.parts_are) st.settled;
                set = subst (SetAll T) (sym end'.parts_are) st.set;
                codes = subst (AllOf (CodeSettled T)) (sym one) (all_append (CodeSettled T) d.codes code st.codes settled);
              };
        }

    stmt_outer : (p : Pos) (st : Stmt) → Outermost st → Ends st → (w : Walk) (d : Draft) → Always (λ v. Outer w d v (stmt_written s t of_program p st d)) (stmt_walked st w)
    unfolding Outermost Ends stmt_walked stmt_written
    stmt_outer p (stmt.Code x ps result b) o i w d =
        λ z k.
        let named = fresh class.Code 0 w in
        let a5 = bind_ok (code_opened x ps result w >>= block_walked b Plain >>= closed) (shown x named) z k in
        let a4 = bind_ok (code_opened x ps result w >>= block_walked b Plain) closed a5.0 a5.1 in
        let a3 = bind_ok (code_opened x ps result w) (block_walked b Plain) a4.0 a4.1 in
        let a1 = bind_ok (declared class.Code result (inside_broken w.scopes) x w) (params_opened x.name ps) a3.0 a3.1 in
        code_outer x ps result b o i w a1.0 a3.0 a4.0 a5.0 z d a1.1 a1.2 a3.2 a4.2 a5.2
    stmt_outer p st o i w d = λ v k. let wrote = stmt_wrote s t of_program p st o d in plain_outer (stmt_part T s t of_program p st o i w d v k) wrote.codes wrote.other_slot

    nodes_outer : {n : _} (r : Row_of-Node n) → OutermostNodes r → NodesEnd r → (w : Walk) (d : Draft) → Always (λ v. Outer w d v (nodes_written s t of_program r d)) (nodes_walked r w)
    unfolding OutermostNodes Ends stmt_walked stmt_written
    nodes_outer end_of-Node o i w d =
        always_ok (λ v. Outer w d v d) w (record { fits = λ f. f; tabled = λ h. h; slots = omega arith; owns = omega arith; others = omega arith; goes = λ f h lo up own first st. st })
    nodes_outer (more_of-Node p st rest) o i w d =
        let e = stmt_written s t of_program p st d in
        always_then (λ v. Outer w d v e) (λ v. Outer w d v (nodes_written s t of_program rest e)) (stmt_walked st w) (nodes_walked rest) (stmt_outer p st o.0 i.0 w d) (λ v one u k. outer_then one (nodes_outer rest o.1 i.1 v e u k))

  -- ---- the whole program

  start_known : (T : List (List ℕ)) (n : ℕ) (k : ℕ) (d : Draft) → d.uses ≡ 0 → d.numbers ≡ [] → Knows T n (opened Plain fresh_walk) (draft.opened k d)
  unfolding draft.opened opened
  start_known T n k d u ns = record { uses = sym u; decls = ap length (sym ns); means = (tt, tt) }

  record Start (m k count : ℕ) : Type 0 where
    uses : (nothing_written m k).uses ≡ 0
    numbers : (nothing_written m k).numbers ≡ []
    slot : (draft.opened count (nothing_written m k)).slot ≡ count
    own : (draft.opened count (nothing_written m k)).parts.slot ≡ 0
    other : (draft.opened count (nothing_written m k)).other_slot ≡ k
    codes : (draft.opened count (nothing_written m k)).codes ≡ []

  start : (m k count : ℕ) → Start m k count
  unfolding nothing_written draft.opened
  start m k count = record { uses = refl; numbers = refl; slot = omega arith; own = refl; other = refl; codes = refl }

  around_codes : (n : ℕ) (f : Draft → Draft) (d : Draft) → (around_block n f d).codes ≡ (f (draft.opened n d)).codes
  unfolding draft.outside draft.closed
  around_codes n f d = refl

  row_settled : {n : _} (list : Row_of-Node n) → OutermostNodes list → NodesEnd list → (m k : ℕ) → k ≡ declared_in list + nodes_hide list → (v : Walk) → nodes_walked list (opened Plain fresh_walk) ≡ Ok v → Fits s v →
      let f = nodes_written s t of_program list in
      let d = nothing_written m k in
      let names = outer_names_from [] (around_block (declared_in list) f d).codes in
      BlockSettled names (draft.block_of (declared_in list) f d) × AllOf (CodeSettled names) (around_block (declared_in list) f d).codes
  row_settled list o i m k total v h fits =
      let count = declared_in list in
      let f = nodes_written s t of_program list in
      let d = nothing_written m k in
      let first = draft.opened count d in
      let e = f first in
      let T = outer_names_from [] (around_block count f d).codes in
      let st = start m k count in
      let counts = nodes_counted list o first in
      let c0 = counts.slot in
      let c1 = counts.parts in
      let outer = nodes_outer T k first.slot list o i (opened Plain fresh_walk) first v h in
      let none = opened_set T count d in
      let state : State T k first.slot (opened Plain fresh_walk) first =
      record {
        known = λ n a b c. (start_known T n count d st.uses st.numbers, opened_empty T count d n);
        settled = none.1;
        set = none.0;
        codes = subst (AllOf (CodeSettled T)) (sym st.codes) tt;
      } in
      let table : Tabled T e = record { rest = []; is = ap (outer_names_from []) (around_codes count f d) ∙ append_none (table_of e) } in
      let all = outer.goes fits table (omega (arith, st.other)) (omega (arith, c0, st.slot, total)) (omega (arith, c1, st.own, st.slot)) (omega arith) state in
      (block_settled T count f d all.set all.settled, subst (AllOf (CodeSettled T)) (sym (around_codes count f d)) all.codes)

  fits_closed : (u v : Walk) → closed u ≡ Ok v → Fits s v → Fits s u
  fits_closed u v h g = (closed_goes [] s u (nothing_written 0 0) v h).fits g

  block_whole : (b : Block) → OutermostBlock b → BlockEnds b → (m k : ℕ) → k ≡ (counted s t b).slot → (v : Walk) → block_walked b Plain fresh_walk ≡ Ok v → Fits s v →
      let d = nothing_written m k in
      let names = outer_names_from [] (block_passed s t of_program b d).codes in
      BlockSettled names (block_written s t of_program b d) × AllOf (CodeSettled names) (block_passed s t of_program b d).codes
  unfolding OutermostBlock Ends stmt_written stmt_walked
  block_whole (Block' _ list) o i m k total v h fits =
      let split = bind_ok (nodes_walked list (opened Plain fresh_walk)) closed v h in
      row_settled list o i m k (total ∙ (row_counted s t list o).1) split.0 split.1 (fits_closed split.0 v split.2 fits)

  pub settles : (tree : Tree) → CodesOutermost tree → TreeEnds tree → scopes_of tree ≡ Ok s → KernelSettled (kernel_of s t tree)
  unfolding kernel_of
  settles tree o i h =
      let m = (counted s t tree.body).node in
      let k = (counted s t tree.body).slot in
      let d = nothing_written m k in
      let names = outer_names_from [] (block_passed s t of_program tree.body d).codes in
      let Q : Type 0 = BlockSettled names (block_written s t of_program tree.body d) × AllOf (CodeSettled names) (block_passed s t of_program tree.body d).codes in
      always_then (λ v. Fits s v → Q) (λ sc. sc ≡ s → Q) (block_walked tree.body Plain fresh_walk) gathered (λ v e fits. block_whole tree.body o i m k refl v e fits)
      (λ v all sc e same.
      let one : record { decls = v.decls; uses = v.uses } ≡ sc = cc in
      let is : record { decls = v.decls; uses = v.uses } ≡ s = one ∙ same in
      all (record { rest = []; is = ap (λ (x : Scopes). x.uses) (sym is) ∙ append_none v.uses }))
      s h refl
