-- The places at which nodes of a program of one trail finish come in the order of the nodes, each node once at most.
use Rattle.std.proofs.Common.{◌≡◌, ◌≢◌, refl, sym, ap, ◌∙◌, subst, ◌≤◌, ℕ, suc, ◌+◌, ◌*◌, Bool, true, false, ◌==◌, if◌then◌else◌, List, [], ◌∷◌, ◌++◌, length, Option, Some, None, eqb-true, arith}
use Rattle.std.specs.Prelude.{◌&&◌}
use Rattle.std.proofs.lemmas.List.{append-nil, length-append}
use Rattle.std.proofs.lemmas.Bool.{false≢true, eq-eqb, ne_eqb}
use Rattle.std.specs.List.{list_all}
use Rattle.ceu_base.specs.declared.kinds.Pos.{Pos}
use Rattle.ceu_base.specs.declared.kinds.Ty.{Ty}
use Rattle.ceu_base.specs.declared.kinds.Op2.{Op2}
use Rattle.ceu_base.specs.declared.kinds.Op2.TheVariants as op2
use Rattle.ceu_tree.specs.declared.kernel.Kernel.{Kernel}
use Rattle.ceu_tree.specs.declared.kernel.KLoop.{KLoop}
use Rattle.ceu_tree.specs.declared.kernel.KLoop.TheVariants as turns
use Rattle.ceu_tree.specs.declared.kernel.KExp.{KExp}
use Rattle.ceu_tree.specs.declared.kernel.KExpNode.{KExpNode, Row_of-KExp, end_of-KExp, more_of-KExp, Const, Read, Alive, One', Two', As'}
use Rattle.ceu_tree.specs.declared.kernel.KArm.{KArm, KArm'}
use Rattle.ceu_tree.specs.declared.kernel.KBlock.{KBlock, KBlock', Row_of-KNode, end_of-KNode, more_of-KNode}
use Rattle.ceu_tree.specs.declared.kernel.KStmt.{KStmt, Row_of-KArm, end_of-KArm, more_of-KArm, Nothing, Assign, Out, AwaitIn, AwaitTime, Forever, Do, Escape, Break, Continue, If', Loop}
use Rattle.ceu_tree.specs.Numbering.{stmt_nodes, block_nodes, arm_nodes, list_nodes, arms_nodes, counts_from}
use Rattle.ceu_shape.specs.Plans.{Plan, own_label}
use Rattle.ceu_shape.specs.Pieces.{Draft, Moment, Begins, Finishes, Turns, Stop, stop}
use Rattle.ceu_shape.specs.Expressions.{two_draft, operand_draft, exp_draft}
use Rattle.ceu_shape.specs.Expressions as expressions
use Rattle.ceu_shape.specs.Searches.{stands_in_async}
use Rattle.ceu_shape.specs.Shape.{labels_of, expression_count, node_draft, with_parts, turn_parts, exp_part, exp_part_if, parts_draft, block_draft, arm_parts, nodes_draft, arms_parts, same_moment, stop_in}
use Rattle.ceu_shape.specs.Flow.{turn_stops}
use Rattle.ceu_single.specs.Single.{is_variable_decl, stmt_single, block_single, arm_single, nodes_single, arms_single}
use Rattle.ceu_trail.proofs.Singles.{last_holds, first_holds}

-- from one number up to another, none of them where a part begins
abbrev pub Rising : (low high : ℕ) → List Stop → Type 0
Rising low high [] = low ≤ high
Rising low high (x ∷ xs) = (low ≤ x.node) × (same_moment x.moment Begins ≡ false) × Rising (x.node + 1) high xs

rising_from : (low from high : ℕ) (xs : List Stop) → low ≤ from → Rising from high xs → Rising low high xs
rising_from low from high [] le h = omega (arith, le, h)
rising_from low from high (x ∷ xs) le h = let a = h.0 in (omega (arith, le, a), h.1, h.2)

rising_to : (low high to : ℕ) (xs : List Stop) → high ≤ to → Rising low high xs → Rising low to xs
rising_to low high to [] le h = omega (arith, le, h)
rising_to low high to (x ∷ xs) le h = (h.0, h.1, rising_to (x.node + 1) high to xs le h.2)

rising_both : (low mid high : ℕ) (xs ys : List Stop) → Rising low mid xs → Rising mid high ys → Rising low high (xs ++ ys)
rising_both low mid high [] ys h k = rising_from low mid high ys h k
rising_both low mid high (x ∷ xs) ys h k = (h.0, h.1, rising_both (x.node + 1) mid high xs ys h.2 k)

rising_end : (low high : ℕ) (xs : List Stop) → Rising low high xs → Rising low high (xs ++ [])
rising_end low high xs h = subst (Rising low high) (sym (append-nil xs)) h

rising_none : (low high : ℕ) (xs : List Stop) → low ≤ high → xs ≡ [] → Rising low high xs
rising_none low high xs le e = subst (Rising low high) (sym e) le

-- ---- what is found among them

later_than : (low high : ℕ) (front : List Stop) (x : Stop) (back : List Stop) → Rising low high (front ++ x ∷ back) → low ≤ x.node
later_than low high [] x back h = h.0
later_than low high (y ∷ front) x back h = let a = h.0 in let b = later_than (y.node + 1) high front x back h.2 in omega (arith, a, b)

found_here : (m : Moment) (n : ℕ) (x : Stop) (xs : List Stop) (a b : Bool) → a ≡ true → b ≡ true → (if a then (if b then Some x else stop_in m n xs) else stop_in m n xs) ≡ Some x
found_here m n x xs true true d e = refl
found_here m n x xs true false d e = cc
found_here m n x xs false b d e = cc

passed_by : (m : Moment) (n : ℕ) (x : Stop) (xs : List Stop) (a b : Bool) → a ≡ false → (if a then (if b then Some x else stop_in m n xs) else stop_in m n xs) ≡ stop_in m n xs
passed_by m n x xs true b d = cc
passed_by m n x xs false b d = refl

pub found_stop : (m : Moment) (low high : ℕ) (front : List Stop) (x : Stop) (back : List Stop) → Rising low high (front ++ x ∷ back) → same_moment x.moment m ≡ true → stop_in m x.node (front ++ x ∷ back) ≡ Some x
found_stop m low high [] x back h e = found_here m x.node x back (x.node == x.node) (same_moment x.moment m) (eq-eqb x.node x.node refl) e
found_stop m low high (y ∷ front) x back h e =
    let later = later_than (y.node + 1) high front x back h.2 in
    let other : y.node ≢ x.node = λ q. omega (arith, later, q) in
    passed_by m x.node y (front ++ x ∷ back) (y.node == x.node) (same_moment y.moment m) (ne_eqb y.node x.node other) ∙ found_stop m (y.node + 1) high front x back h.2 e

none_here : (n : ℕ) (x : Stop) (xs : List Stop) (a b : Bool) → b ≡ false → (if a then (if b then Some x else stop_in Begins n xs) else stop_in Begins n xs) ≡ stop_in Begins n xs
none_here n x xs true true e = cc
none_here n x xs true false e = refl
none_here n x xs false b e = refl

pub none_begins : (n low high : ℕ) (xs : List Stop) → Rising low high xs → stop_in Begins n xs ≡ None
none_begins n low high [] h = refl
none_begins n low high (x ∷ xs) h = none_here n x xs (x.node == n) (same_moment x.moment Begins) h.1 ∙ none_begins n (x.node + 1) high xs h.2

-- ---- numbers

pub counts_both : (low : ℕ) (xs ys : List ℕ) → counts_from low (xs ++ ys) ≡ true → (counts_from low xs ≡ true) × (counts_from (low + length xs) ys ≡ true)
counts_both low [] ys h = (refl, subst (λ k. counts_from k ys ≡ true) (let e : low ≡ low + 0 = omega arith in e) h)
counts_both low (x ∷ xs) ys h =
    let rest = counts_both (low + 1) xs ys (last_holds (x == low) (counts_from (low + 1) (xs ++ ys)) h) in (
      ap (λ b. b && counts_from (low + 1) xs) (first_holds (x == low) (counts_from (low + 1) (xs ++ ys)) h) ∙ rest.0,
      subst (λ k. counts_from k ys ≡ true) (let e : low + 1 + length xs ≡ low + suc (length xs) = omega arith in e) rest.1,
    )

-- ---- expressions have none

no_stops_both : (xs ys : List Stop) → xs ≡ [] → ys ≡ [] → xs ++ ys ≡ []
no_stops_both xs ys d e = ap (λ l. l ++ ys) d ∙ e

two_none : (op : Op2) (t u v : Ty) (p : Pos) (a b : Draft) → ((fresh : ℕ) → (a fresh).stops ≡ []) → ((fresh : ℕ) → (b fresh).stops ≡ []) → (fresh : ℕ) → (two_draft op t u v p a b fresh).stops ≡ []
two_none op2.And t u v p a b d e fresh =
    let x = a (fresh + 2) in
    no_stops_both x.stops ([] ++ ((b x.next).stops ++ [])) (d (fresh + 2)) (no_stops_both (b x.next).stops [] (e x.next) refl)
two_none op2.Or t u v p a b d e fresh =
    let x = a (fresh + 2) in
    no_stops_both x.stops ([] ++ ((b x.next).stops ++ [])) (d (fresh + 2)) (no_stops_both (b x.next).stops [] (e x.next) refl)
two_none op t u v p a b d e fresh =
    let x = a fresh in
    no_stops_both x.stops ((b x.next).stops ++ []) (d fresh) (no_stops_both (b x.next).stops [] (e x.next) refl)

module _ (P : Plan) (K : Kernel) where
  mutual
    unfolding operand_draft

    node_none : (e : KExpNode) (t : Ty) (p : Pos) (fresh : ℕ) → (expressions.node_draft P.offset e t p fresh).stops ≡ []
    node_none (Const v) t p fresh = refl
    node_none (Read l) t p fresh = refl
    node_none (Alive c) t p fresh = refl
    node_none (One' op x a) t p fresh = no_stops_both (operand_draft P.offset a fresh).stops [] (operand_none a fresh) refl
    node_none (Two' op x a y b) t p fresh = two_none op t _ _ p (operand_draft P.offset a) (operand_draft P.offset b) (λ f. operand_none a f) (λ f. operand_none b f) fresh
    node_none (As' x a) t p fresh = no_stops_both (operand_draft P.offset a fresh).stops [] (operand_none a fresh) refl

    operand_none : {n : _} (a : Row_of-KExp n) (fresh : ℕ) → (operand_draft P.offset a fresh).stops ≡ []
    operand_none end_of-KExp fresh = refl
    operand_none (more_of-KExp t p e rest) fresh = node_none e t p fresh

  exp_none : (begin : ℕ) (e : KExp) (fresh : ℕ) → (exp_part P K begin e fresh).stops ≡ []
  exp_none begin e fresh = no_stops_both (exp_draft P.offset e fresh).stops [] (node_none e.node e.ty e.pos fresh) refl

  exp_if_none : (begin : ℕ) (e : Option KExp) (fresh : ℕ) → (exp_part_if P K begin e fresh).stops ≡ []
  exp_if_none begin None fresh = refl
  exp_if_none begin (Some e) fresh = exp_none begin e fresh

  turn_none : (begin : ℕ) (k : KLoop) (fresh : ℕ) → (turn_parts P K begin k fresh).stops ≡ []
  turn_none begin turns.Free fresh = refl
  turn_none begin (turns.Times slot n) fresh = refl
  turn_none begin (turns.Range i next end open_a a b open_b) fresh =
      let x = exp_part P K begin a fresh in
      no_stops_both x.stops (exp_part P K (begin + 2) b x.next).stops (exp_none begin a fresh) (exp_none (begin + 2) b x.next)

  -- ---- the own one of a statement

  one_stop : (m : Moment) (n low label behind : ℕ) → n ≡ low → same_moment m Begins ≡ false → Rising low (low + 1) (stop m n label behind ∷ [])
  one_stop m n low label behind e f = (omega (arith, e), f, omega (arith, e))

  turn_rises : (b : Bool) (n low label : ℕ) → n ≡ low → Rising low (low + 1) (turn_stops b n label)
  turn_rises true n low label e = one_stop Turns n low label 1 e refl
  turn_rises false n low label e = omega arith

  own_rises : (n : ℕ) (p : Pos) (s : KStmt) (fresh next low : ℕ) → stmt_single s ≡ true → n ≡ low → Rising low (low + 1) (node_draft P K n p s (labels_of fresh n s) next).stops
  unfolding stmt_single
  own_rises n p (AwaitIn k t) fresh next low h e = one_stop Finishes n low (own_label n) 6 e refl
  own_rises n p (AwaitTime x u t) fresh next low h e = one_stop Finishes n low (fresh + 1) 2 e refl
  own_rises n p Forever fresh next low h e = one_stop Finishes n low (own_label n) 4 e refl
  own_rises n p Nothing fresh next low h e = omega arith
  own_rises n p (Assign l x) fresh next low h e = omega arith
  own_rises n p (Out k x) fresh next low h e = omega arith
  own_rises n p (Do t b) fresh next low h e = omega arith
  own_rises n p (Escape m x) fresh next low h e = omega arith
  own_rises n p (Break m) fresh next low h e = omega arith
  own_rises n p (Continue m) fresh next low h e = omega arith
  own_rises n p (If' y arms last) fresh next low h e = omega arith
  own_rises n p (Loop turns.Free b) fresh next low h e = turn_rises (stands_in_async K n) n low _ e
  own_rises n p (Loop (turns.Times slot c) b) fresh next low h e = turn_rises (stands_in_async K n) n low _ e
  own_rises n p (Loop (turns.Range i x end open_a a c open_b) b) fresh next low h e = turn_rises (stands_in_async K n) n low _ e
  own_rises n p s fresh next low h e = absurd (false≢true h)

  -- ---- all of them

  -- of a statement with its parts
  whole_rises : (n : ℕ) (p : Pos) (s : KStmt) (low high fresh : ℕ) → stmt_single s ≡ true → n ≡ low → low + 1 ≤ high
      → ((begin next : ℕ) → Rising (low + 1) high (parts_draft P K s begin next).stops) → Rising low high (with_parts P K n p s (parts_draft P K s) fresh).stops
  whole_rises n p s low high fresh h e le parts =
      let own = node_draft P K n p s (labels_of fresh n s) (fresh + 2 * expression_count s) in
      let inner = parts_draft P K s fresh own.next in
      rising_both low (low + 1) high own.stops (inner.stops ++ []) (own_rises n p s fresh (fresh + 2 * expression_count s) low h e) (rising_end (low + 1) high inner.stops (parts fresh own.next))

  mutual
    unfolding parts_draft stmt_nodes stmt_single

    stmt_rises : (s : KStmt) (low begin fresh : ℕ) → stmt_single s ≡ true → counts_from low (stmt_nodes s) ≡ true → Rising low (low + length (stmt_nodes s)) (parts_draft P K s begin fresh).stops
    stmt_rises Nothing low begin fresh h c = omega arith
    stmt_rises (Assign l e) low begin fresh h c = rising_none low (low + 0) (exp_part P K begin e fresh).stops (omega arith) (exp_none begin e fresh)
    stmt_rises (Out k e) low begin fresh h c = rising_none low (low + 0) (exp_part_if P K begin e fresh).stops (omega arith) (exp_if_none begin e fresh)
    stmt_rises (AwaitIn k t) low begin fresh h c = omega arith
    stmt_rises (AwaitTime e u t) low begin fresh h c = rising_none low (low + 0) (exp_part P K begin e fresh).stops (omega arith) (exp_none begin e fresh)
    stmt_rises Forever low begin fresh h c = omega arith
    stmt_rises (Do t b) low begin fresh h c = rising_end low (low + length (block_nodes b)) (block_draft P K b fresh).stops (block_rises b low fresh h c)
    stmt_rises (Escape m e) low begin fresh h c = rising_none low (low + 0) (exp_part_if P K begin e fresh).stops (omega arith) (exp_if_none begin e fresh)
    stmt_rises (Break m) low begin fresh h c = omega arith
    stmt_rises (Continue m) low begin fresh h c = omega arith
    stmt_rises (If' y arms last) low begin fresh h c =
        let front = arms_parts P K arms begin fresh in
        let counts = counts_both low (arms_nodes arms) (block_nodes last) c in
        let mid : ℕ = low + length (arms_nodes arms) in
        let long : low + length (arms_nodes arms ++ block_nodes last) ≡ low + length (arms_nodes arms) + length (block_nodes last) = let l = length-append (arms_nodes arms) (block_nodes last) in omega (arith, l) in
        rising_both low mid (low + length (arms_nodes arms ++ block_nodes last)) front.stops ((block_draft P K last front.next).stops ++ [])
        (arms_rise arms low begin fresh (first_holds (arms_single arms) (block_single last) h) counts.0)
        (rising_end mid (low + length (arms_nodes arms ++ block_nodes last)) (block_draft P K last front.next).stops
        (subst (λ k. Rising mid k (block_draft P K last front.next).stops) (sym long) (block_rises last mid front.next (last_holds (arms_single arms) (block_single last) h) counts.1)))
    stmt_rises (Loop k b) low begin fresh h c =
        let front = turn_parts P K begin k fresh in
        rising_both low low (low + length (block_nodes b)) front.stops ((block_draft P K b front.next).stops ++ []) (rising_none low low front.stops (omega arith) (turn_none begin k fresh))
        (rising_end low (low + length (block_nodes b)) (block_draft P K b front.next).stops (block_rises b low front.next h c))
    stmt_rises s low begin fresh h c = absurd (false≢true h)

    pub block_rises : (b : KBlock) (low fresh : ℕ) → block_single b ≡ true → counts_from low (block_nodes b) ≡ true → Rising low (low + length (block_nodes b)) (block_draft P K b fresh).stops
    block_rises (KBlock' n ds x list) low fresh h c =
        let later = last_holds (n == low) (counts_from (low + 1) (list_nodes list)) c in
        let inner = nodes_draft P K list fresh in
        let long : low + 1 + length (list_nodes list) ≡ low + suc (length (list_nodes list)) = omega arith in
        rising_from low (low + 1) (low + suc (length (list_nodes list))) (inner.stops ++ []) (omega arith)
        (rising_end (low + 1) (low + suc (length (list_nodes list))) inner.stops (subst (λ k. Rising (low + 1) k inner.stops) long (nodes_rise list (low + 1) fresh (last_holds (list_all is_variable_decl ds) (nodes_single list) h) later)))

    arm_rises : (a : KArm) (low begin fresh : ℕ) → arm_single a ≡ true → counts_from low (arm_nodes a) ≡ true → Rising low (low + length (arm_nodes a)) (arm_parts P K a begin fresh).stops
    arm_rises (KArm' e b) low begin fresh h c =
        let front = exp_part P K begin e fresh in
        rising_both low low (low + length (block_nodes b)) front.stops ((block_draft P K b front.next).stops ++ []) (rising_none low low front.stops (omega arith) (exp_none begin e fresh))
        (rising_end low (low + length (block_nodes b)) (block_draft P K b front.next).stops (block_rises b low front.next h c))

    nodes_rise : {n : _} (rows : Row_of-KNode n) (low fresh : ℕ) → nodes_single rows ≡ true → counts_from low (list_nodes rows) ≡ true → Rising low (low + length (list_nodes rows)) (nodes_draft P K rows fresh).stops
    nodes_rise end_of-KNode low fresh h c = omega arith
    nodes_rise (more_of-KNode n p s rest) low fresh h c =
        let same = eqb-true n low (first_holds (n == low) (counts_from (low + 1) (stmt_nodes s ++ list_nodes rest)) c) in
        let counts = counts_both (low + 1) (stmt_nodes s) (list_nodes rest) (last_holds (n == low) (counts_from (low + 1) (stmt_nodes s ++ list_nodes rest)) c) in
        let mid : ℕ = low + 1 + length (stmt_nodes s) in
        let front = with_parts P K n p s (parts_draft P K s) fresh in
        let long : mid + length (list_nodes rest) ≡ low + suc (length (stmt_nodes s ++ list_nodes rest)) = let l = length-append (stmt_nodes s) (list_nodes rest) in omega (arith, l) in
        let single = first_holds (stmt_single s) (nodes_single rest) h in
        rising_both low mid (low + suc (length (stmt_nodes s ++ list_nodes rest))) front.stops (nodes_draft P K rest front.next).stops
        (whole_rises n p s low mid fresh single same (omega arith) (λ begin next. stmt_rises s (low + 1) begin next single counts.0))
        (subst (λ k. Rising mid k (nodes_draft P K rest front.next).stops) long (nodes_rise rest mid front.next (last_holds (stmt_single s) (nodes_single rest) h) counts.1))

    arms_rise : {n : _} (rows : Row_of-KArm n) (low begin fresh : ℕ) → arms_single rows ≡ true → counts_from low (arms_nodes rows) ≡ true → Rising low (low + length (arms_nodes rows)) (arms_parts P K rows begin fresh).stops
    arms_rise end_of-KArm low begin fresh h c = omega arith
    arms_rise (more_of-KArm a rest) low begin fresh h c =
        let counts = counts_both low (arm_nodes a) (arms_nodes rest) c in
        let mid : ℕ = low + length (arm_nodes a) in
        let front = arm_parts P K a begin fresh in
        let long : mid + length (arms_nodes rest) ≡ low + length (arm_nodes a ++ arms_nodes rest) = let l = length-append (arm_nodes a) (arms_nodes rest) in omega (arith, l) in
        rising_both low mid (low + length (arm_nodes a ++ arms_nodes rest)) front.stops (arms_parts P K rest (begin + 2) front.next).stops (arm_rises a low begin fresh (first_holds (arm_single a) (arms_single rest) h) counts.0)
        (subst (λ k. Rising mid k (arms_parts P K rest (begin + 2) front.next).stops) long (arms_rise rest mid (begin + 2) front.next (last_holds (arm_single a) (arms_single rest) h) counts.1))
