-- In a proper kernel the range of each node lies within that of the block around it.
use Rattle.std.proofs.Common.{◌≡◌, refl, ap, sym, ◌∙◌, ℕ, ◌+◌, ◌≤◌, max, ◌&&◌, IsTrue, List, [], ◌∷◌, ◌++◌, length, nat_le, Some, None, zero-le, arith}
use Rattle.std.specs.List.{list_all}
use Rattle.ceu_tree.specs.declared.kernel.Kernel.{Kernel}
use Rattle.ceu_tree.specs.declared.kernel.KCode.{KCode}
use Rattle.ceu_tree.specs.declared.kernel.KBlock.{KBlock, KBlock', Row_of-KNode, end_of-KNode, more_of-KNode}
use Rattle.ceu_tree.specs.declared.kernel.KArm.{KArm, KArm'}
use Rattle.ceu_tree.specs.declared.kernel.KStmt.{KStmt, Row_of-KArm, end_of-KArm, more_of-KArm, Row_of-KBlock, end_of-KBlock, more_of-KBlock, Async, Finalize, Do, If', Loop, Par'}
use Rattle.ceu_tree.specs.Needs.{finalizers, nodes_finalizers, pools_gates, stmt_gates, block_gates, nodes_gates, arm_gates, arms_gates, blocks_gates, gates_from, greatest_of, gates}
use Rattle.ceu_tree.specs.Proper.{Scope, is_trail, outside_finalizers, with_decls, with_turns, with_aim, do_aim, LoopAim, in_async, in_finalizer, decl_ok, loop_ok, par_ok, gives, stmt_ok, block_ok, arm_ok, nodes_ok, arms_ok, blocks_ok, codes_ok, body_scope, is_parameter, is_proper, ports_ok, events_ok, Proper}
use Rattle.ceu_base.specs.declared.kinds.Ty.TheVariants as ty
use Rattle.ceu_tree.specs.Mentions.{all_set, outer_names_from}
use Rattle.ceu_tree.specs.Numbering.{row_length, is_numbered}
use Rattle.ceu_gates.specs.Ranges.{reach, starts, stmt_ranges, block_ranges, arm_ranges, nodes_ranges, arms_ranges, blocks_ranges, codes_ranges, ranges}
use Rattle.ceu_gates.proofs.Reaches.{reach_append}
use Rattle.ceu_gates.proofs.Tests.{both_left, both_right}
use Rattle.ceu_gates.proofs.Quiet.{quiet_block}

join_within : (a b c d e : ℕ) → a ≡ max b c → b ≤ d → c ≤ e → a ≤ max d e
join_within a b c d e s h k = grind arith

above : (a g c d : ℕ) → a ≤ max (g + c) (g + d) → a ≤ g + max c d
above a g c d h = grind arith

block_over : (g f p m r : ℕ) → r ≤ max (g + f) (g + (f + p) + m) → max (g + max 1 (f + p + m)) r ≤ g + max 1 (f + p + m)
block_over g f p m r h = grind arith

beside : (a b c g x y : ℕ) → a ≡ max b c → b ≤ g + x → c ≤ g + x + y → a ≤ g + (x + y)
beside a b c g x y s h k = grind arith

node_over : (here inner rest f g df c m s f' m' : ℕ) → max here (max inner rest) ≡ s → here ≤ max (f + df) (g + c) → inner ≤ here → rest ≤ max (f + df + f') (g + m') → m ≡ max c m' → s ≤ max (f + (df + f')) (g + m)
node_over here inner rest f g df c m s f' m' a b d e k = grind arith

module _ (K : Kernel) (names : List (List ℕ)) (table : List ℕ) where
  start_within : (f g : ℕ) (s : KStmt) → starts f g s + stmt_gates table s ≤ max (f + finalizers s) (g + stmt_gates table s)
  unfolding stmt_gates
  start_within f g (Finalize b) = left_of (f + 1) (g + 1)
    where
      left_of : (a b : ℕ) → a ≤ max a b
      left_of a b = grind arith
  start_within f g s = right_of (f + finalizers s) (g + stmt_gates table s)
    where
      right_of : (a b : ℕ) → b ≤ max a b
      right_of a b = grind arith

  mutual
    unfolding stmt_ok stmt_gates stmt_ranges nodes_finalizers

    pub within_stmt : (sc : Scope) (n : ℕ) (s : KStmt) (g : ℕ) → IsTrue (stmt_ok K names sc n s) → reach (stmt_ranges table g s) ≤ g + stmt_gates table s
    within_stmt sc n (Async b) g ok =
        let ok' = both_right (is_trail sc.place) _ ok in
        let one : block_gates table b ≡ 1 = quiet_block K names table (in_async K sc) b refl ok' in
        let inner : reach (block_ranges table g b) ≤ g + block_gates table b = within_block (in_async K sc) b g ok' in
        omega (arith, one, inner)
    within_stmt sc n (Finalize b) g ok =
        let ok' = both_right (is_trail sc.place) _ ok in
        let one : block_gates table b ≡ 1 = quiet_block K names table (in_finalizer K sc) b refl ok' in
        let inner : reach (block_ranges table g b) ≤ g + block_gates table b = within_block (in_finalizer K sc) b g ok' in
        omega (arith, one, inner)
    within_stmt sc n (Do t b) g ok = within_block (with_aim (do_aim K n t) sc) b g (both_right (outside_finalizers sc.place && _) _ ok)
    within_stmt sc n (If' _ arms last) g ok =
        let parts : IsTrue (outside_finalizers sc.place && arms_ok K names sc arms) = both_left (outside_finalizers sc.place && arms_ok K names sc arms) _ ok in
        above _ g (arms_gates table arms) (block_gates table last)
        (join_within _ (reach (arms_ranges table g arms)) (reach (block_ranges table g last)) _ _ (reach_append (arms_ranges table g arms) (block_ranges table g last))
        (within_arms sc arms g (both_right (outside_finalizers sc.place) _ parts)) (within_block sc last g (both_right (outside_finalizers sc.place && arms_ok K names sc arms) _ ok)))
    within_stmt sc n (Loop k b) g ok = within_block (with_aim (LoopAim n) (with_turns K k sc)) b g (both_right (outside_finalizers sc.place && loop_ok K sc k) _ ok)
    within_stmt sc n (Par' k slot _ bs) g ok = within_blocks sc bs g (both_right (is_trail sc.place && par_ok K k slot (row_length bs)) _ ok)
    within_stmt sc n _ g ok = zero-le

    pub within_block : (sc : Scope) (b : KBlock) (g : ℕ) → IsTrue (block_ok K names sc b) → reach (block_ranges table g b) ≤ g + block_gates table b
    within_block sc (KBlock' n ds x list) g ok =
        block_over g (nodes_finalizers list) (pools_gates table ds) (nodes_gates table list) _
        (within_nodes (with_decls ds sc) list g (g + (nodes_finalizers list + pools_gates table ds)) (both_right (list_all (decl_ok K sc) ds && all_set names ds list) _ ok))

    within_nodes : {n : _} (sc : Scope) (r : Row_of-KNode n) (f g : ℕ) → IsTrue (nodes_ok K names sc r) → reach (nodes_ranges table f g r) ≤ max (f + nodes_finalizers r) (g + nodes_gates table r)
    within_nodes sc end_of-KNode f g ok = zero-le
    within_nodes sc (more_of-KNode n p s rest) f g ok =
        let here = within_stmt sc n s (starts f g s) (both_right (nat_le 1 p.line && nat_le 1 p.col) _ (both_left (nat_le 1 p.line && nat_le 1 p.col && stmt_ok K names sc n s) _ ok)) in
        let more = within_nodes sc rest (f + finalizers s) g (both_right (nat_le 1 p.line && nat_le 1 p.col && stmt_ok K names sc n s) _ ok) in
        node_over (starts f g s + stmt_gates table s) (reach (stmt_ranges table (starts f g s) s)) (reach (nodes_ranges table (f + finalizers s) g rest)) f g (finalizers s) (stmt_gates table s)
        (max (stmt_gates table s) (nodes_gates table rest)) _ (nodes_finalizers rest) (nodes_gates table rest)
        (ap (max (starts f g s + stmt_gates table s)) (sym (reach_append (stmt_ranges table (starts f g s) s) (nodes_ranges table (f + finalizers s) g rest)))) (start_within f g s) here more refl

    within_arm : (sc : Scope) (a : KArm) (g : ℕ) → IsTrue (arm_ok K names sc a) → reach (arm_ranges table g a) ≤ g + arm_gates table a
    within_arm sc (KArm' c b) g ok = within_block sc b g (both_right (gives K sc ty.Bool c) _ ok)

    within_arms : {n : _} (sc : Scope) (r : Row_of-KArm n) (g : ℕ) → IsTrue (arms_ok K names sc r) → reach (arms_ranges table g r) ≤ g + arms_gates table r
    within_arms sc end_of-KArm g ok = zero-le
    within_arms sc (more_of-KArm a rest) g ok =
        above _ g (arm_gates table a) (arms_gates table rest)
        (join_within _ (reach (arm_ranges table g a)) (reach (arms_ranges table g rest)) _ _ (reach_append (arm_ranges table g a) (arms_ranges table g rest))
        (within_arm sc a g (both_left (arm_ok K names sc a) _ ok)) (within_arms sc rest g (both_right (arm_ok K names sc a) _ ok)))

    within_blocks : {n : _} (sc : Scope) (r : Row_of-KBlock n) (g : ℕ) → IsTrue (blocks_ok K names sc r) → reach (blocks_ranges table g r) ≤ g + blocks_gates table r
    within_blocks sc end_of-KBlock g ok = zero-le
    within_blocks sc (more_of-KBlock b rest) g ok =
        beside _ (reach (block_ranges table g b)) (reach (blocks_ranges table (g + block_gates table b) rest)) g (block_gates table b) (blocks_gates table rest)
        (reach_append (block_ranges table g b) (blocks_ranges table (g + block_gates table b) rest)) (within_block sc b g (both_left (block_ok K names sc b) _ ok))
        (within_blocks sc rest (g + block_gates table b) (both_right (block_ok K names sc b) _ ok))

greatest_last : (xs : List ℕ) (x : ℕ) → greatest_of (xs ++ x ∷ []) ≡ max (greatest_of xs) x
greatest_last [] x = most_none x
  where
    most_none : (x : ℕ) → max x 0 ≡ max 0 x
    most_none x = grind arith
greatest_last (y ∷ xs) x = ap (max y) (greatest_last xs x) ∙ most_assoc y (greatest_of xs) x
  where
    most_assoc : (a b c : ℕ) → max a (max b c) ≡ max (max a b) c
    most_assoc a b c = grind arith

grows : (a b c x : ℕ) → a ≡ max b x → a ≤ c → (b ≤ c) × (x ≤ c)
grows a b c x e h = (grind arith, grind arith)

more_codes : (table : List ℕ) (cs : List KCode) → greatest_of table ≤ greatest_of (gates_from table cs)
more_codes table [] = omega arith
more_codes table (c ∷ cs) =
    (grows (greatest_of (table ++ block_gates table c.body ∷ [])) (greatest_of table) _ (block_gates table c.body) (greatest_last table (block_gates table c.body)) (more_codes (table ++ block_gates table c.body ∷ []) cs)).0

code_over : (a b c x r : ℕ) → a ≡ max b c → b ≤ x → x ≤ r → c ≤ r → a ≤ r
code_over a b c x r e f g h = grind arith

module _ (K : Kernel) (names : List (List ℕ)) where
  codes_within : (k : ℕ) (table : List ℕ) (cs : List KCode) → IsTrue (codes_ok K names k cs) → reach (codes_ranges table cs) ≤ greatest_of (gates_from table cs)
  codes_within k table [] ok = zero-le
  codes_within k table (c ∷ cs) ok =
      let first = both_left (list_all (is_parameter K names) c.params && nat_le (length c.params) 255 && block_ok K names (with_decls c.params (body_scope K names (Some k) c.body c.result)) c.body) _ ok in
      let body = both_right (list_all (is_parameter K names) c.params && nat_le (length c.params) 255) _ first in
      let later = table ++ block_gates table c.body ∷ [] in
      let own = (grows (greatest_of later) (greatest_of table) _ (block_gates table c.body) (greatest_last table (block_gates table c.body)) (more_codes later cs)).1 in
      code_over _ (reach (block_ranges table 0 c.body)) (reach (codes_ranges later cs)) (0 + block_gates table c.body) _ (reach_append (block_ranges table 0 c.body) (codes_ranges later cs))
      (within_block K names table (with_decls c.params (body_scope K names (Some k) c.body c.result)) c.body 0 body) (omega (arith, own))
      (codes_within (k + 1) later cs (both_right (list_all (is_parameter K names) c.params && nat_le (length c.params) 255 && block_ok K names (with_decls c.params (body_scope K names (Some k) c.body c.result)) c.body) _ ok))

whole : (a b c x y : ℕ) → a ≡ max b c → b ≤ 0 + x → c ≤ y → a ≤ max x y
whole a b c x y e f g = grind arith

pub ranges_within : (K : Kernel) → Proper K → reach (ranges K) ≤ gates K
unfolding is_proper ranges gates
ranges_within K ok =
    let names = outer_names_from [] K.codes in
    let all = gates_from [] K.codes in
    let body = body_scope K names None K.body ty.S32 in
    let first : IsTrue (is_numbered K && ports_ok (K.inputs ++ K.outputs) && events_ok (length K.codes) K.events && block_ok K names body K.body) = both_left _ (codes_ok K names 0 K.codes) ok in
    whole _ (reach (block_ranges all 0 K.body)) (reach (codes_ranges [] K.codes)) (block_gates all K.body) (greatest_of all) (reach_append (block_ranges all 0 K.body) (codes_ranges [] K.codes))
    (within_block K names all body K.body 0 (both_right (is_numbered K && ports_ok (K.inputs ++ K.outputs) && events_ok (length K.codes) K.events) _ first))
    (codes_within K names 0 [] K.codes (both_right (is_numbered K && ports_ok (K.inputs ++ K.outputs) && events_ok (length K.codes) K.events && block_ok K names body K.body) _ ok))

most_left : (a b c d : ℕ) → d ≡ max a b → d ≤ c → a ≤ c
most_left a b c d e h = grind arith

most_right : (a b c d : ℕ) → d ≡ max a b → d ≤ c → b ≤ c
most_right a b c d e h = grind arith

-- what the walk asks of its parts
pub parts_within : (K : Kernel) → reach (ranges K) ≤ 65535 → (reach (block_ranges (gates_from [] K.codes) 0 K.body) ≤ 65535) × (reach (codes_ranges [] K.codes) ≤ 65535)
unfolding ranges
parts_within K h =
    let body = reach (block_ranges (gates_from [] K.codes) 0 K.body) in
    let codes = reach (codes_ranges [] K.codes) in
    let both = reach_append (block_ranges (gates_from [] K.codes) 0 K.body) (codes_ranges [] K.codes) in
    (most_left body codes 65535 (reach (ranges K)) both h, most_right body codes 65535 (reach (ranges K)) both h)

pub whole_ranges : (K : Kernel) → ranges K ≡ block_ranges (gates_from [] K.codes) 0 K.body ++ codes_ranges [] K.codes
unfolding ranges
whole_ranges K = refl
