-- The inputs and outputs of a program differ, and have the names that its text gives them.
use Rattle.std.proofs.Common.{◌≡◌, refl, sym, ap, ◌∙◌, subst, ℕ, suc, ◌≢◌, length, arith, List, [], ◌∷◌, ◌++◌, Ok, Bool, true, false}
use Rattle.std.specs.Prelude.{⊤, IsTrue, not, ◌&&◌, ◌||◌, ◌==◌, is_some}
use Rattle.std.specs.List.{list_any}
use Rattle.ceu_base.specs.declared.kinds.Ty.{Ty}
use Rattle.ceu_base.specs.declared.kinds.Port.{Port}
use Rattle.ceu_base.specs.declared.kinds.Pos.{Pos}
use Rattle.ceu_tree.specs.declared.source.Class.{Class}
use Rattle.ceu_tree.specs.declared.source.Class.TheVariants as class
use Rattle.ceu_tree.specs.declared.source.Ident.{Ident}
use Rattle.ceu_tree.specs.declared.source.Param.{Param}
use Rattle.ceu_tree.specs.declared.source.Block.{Block, Block', Row_of-Node, end_of-Node, more_of-Node}
use Rattle.ceu_tree.specs.declared.source.Stmt as stmt
use Rattle.ceu_tree.specs.declared.source.Stmt.{Stmt, Vars', If', Par'}
use Rattle.ceu_tree.specs.declared.source.Tree.{Tree}
use Rattle.ceu_tree.specs.declared.kernel.KKind.TheVariants as kind
use Rattle.ceu_tree.specs.Proper.{is_external, same_name, ports_ok}
use Rattle.ceu_scopes.specs.declared.known.Scopes.{Scopes}
use Rattle.ceu_scopes.specs.declared.scope.Border.TheVariants.{Plain}
use Rattle.ceu_scopes.specs.declared.walk.Walk.{Walk}
use Rattle.ceu_scopes.specs.Shown.{found, rest_of}
use Rattle.ceu_scopes.specs.declared.scope.Scope.{Scope}
use Rattle.ceu_scopes.specs.Walk.{Step, ◌>>=◌, opened, closed, outermost}
use Rattle.ceu_scopes.specs.Walk as walk
use Rattle.ceu_scopes.specs.Names.{port_declared, stmt_walked, block_walked, nodes_walked, fresh_walk, gathered, scopes_of}
use Rattle.ceu_types.specs.declared.typing.Types.{Types}
use Rattle.ceu_expand.specs.declared.around.Around.{Around}
use Rattle.ceu_expand.specs.declared.draft.Draft.{Draft}
use Rattle.ceu_expand.specs.Draft as draft
use Rattle.ceu_expand.specs.Draft.{of_program, nothing_written, around_block, standing, input_declared, output_declared, entered, left, with_code}
use Rattle.ceu_expand.specs.Lists.{each}
use Rattle.ceu_expand.specs.Uses.{used}
use Rattle.ceu_expand.specs.Expressions.{typed}
use Rattle.ceu_expand.specs.Parts.{param_declared}
use Rattle.ceu_expand.specs.Expansion.{declared_in, code_begun, code_around, code_ended, stmt_written, nodes_written, block_passed, counted, kernel_of}
use Rattle.laws_kernel_shape.specs.Shaped.{AllOf}
use Rattle.laws_kernel_shape.proofs.Inside.{append_none, append_assoc}
use Rattle.laws_kernel_shape.proofs.Steps.{Always, always_ok, always_then, Deep, opened_deep, with_name_length}
use Rattle.std.proofs.lemmas.Bool.Decides.{Decides-eqb}
use Rattle.laws_kernel_names.specs.Ports.{IsExternal, PortsNamed, NodesNamed, BlockNamed, TreeNamed}
use Rattle.laws_kernel_names.proofs.Inner.{InnerInBlock, Outer, OuterNodes, OuterBlock, TreeOuter}
use Rattle.laws_kernel_names.proofs.NamesKept as names
use Rattle.laws_kernel_names.proofs.DraftKept.{Writes}
use Rattle.laws_kernel_names.proofs.DraftKept as drafts
use Rattle.laws_kernel_names.proofs.PortSteps.{IsShown, StaysShown, stays_shown, Shows, port_shows}

-- ---- lists of ports

head_spelt : (b : Bool) (x y : ℕ) (xs ys : List ℕ) → (b ≡ true → x ≡ y) → (same_name xs ys ≡ true → xs ≡ ys) → (b && same_name xs ys) ≡ true → x ∷ xs ≡ y ∷ ys
head_spelt true x y xs ys e rest k = let one = e refl in let all = rest k in cc
head_spelt false x y xs ys e rest k = absurd (cc)

same_spelt : (x y : List ℕ) → same_name x y ≡ true → x ≡ y
same_spelt [] [] h = refl
same_spelt [] (y ∷ ys) h = absurd (cc)
same_spelt (x ∷ xs) [] h = absurd (cc)
same_spelt (x ∷ xs) (y ∷ ys) h = head_spelt (x == y) x y xs ys (Decides-eqb x y).0 (same_spelt xs ys) h

abbrev Differs : List ℕ → List Port → Type 0
Differs x = AllOf (λ (q : Port). x ≢ q.name)

abbrev Ports : List Port → Type 0
Ports [] = ⊤
Ports (p ∷ ps) = IsTrue (is_external p.name) × Differs p.name ps × Ports ps

differs_bool : (x y : List ℕ) → x ≢ y → same_name x y ≡ false
differs_bool x y h = by_test (same_name x y) refl
  where
    by_test : (b : Bool) → same_name x y ≡ b → same_name x y ≡ false
    by_test true e = absurd (h (same_spelt x y e))
    by_test false e = e

differs_any : (x : List ℕ) (ps : List Port) → Differs x ps → list_any (λ (q : Port). same_name x q.name) ps ≡ false
differs_any x [] h = refl
differs_any x (p ∷ ps) h = let e = differs_bool x p.name h.0 in let k = differs_any x ps h.1 in ap (λ b. b || list_any (λ (q : Port). same_name x q.name) ps) e ∙ k

all_three : (a b c : Bool) → a ≡ true → b ≡ false → c ≡ true → (a && not b && c) ≡ true
all_three true false true h k l = refl
all_three true false false h k l = l
all_three true true c h k l = absurd (cc)
all_three false b c h k l = absurd (cc)

ports_bool : (ps : List Port) → Ports ps → IsTrue (ports_ok ps)
ports_bool [] h = refl
ports_bool (p ∷ ps) h = all_three (is_external p.name) (list_any (λ (q : Port). same_name p.name q.name) ps) (ports_ok ps) h.0 (differs_any p.name ps h.1) (ports_bool ps h.2)

all_insert : {A : Type 0} (P : A → Type 0) (xs : List A) (x : A) (ys : List A) → AllOf P (xs ++ ys) → P x → AllOf P (xs ++ x ∷ ys)
all_insert P [] x ys h k = (k, h)
all_insert P (y ∷ xs) x ys h k = (h.0, all_insert P xs x ys h.1 k)

-- the port differs from all that are there
ports_insert : (xs : List Port) (p : Port) (ys : List Port) → Ports (xs ++ ys) → IsTrue (is_external p.name) → Differs p.name (xs ++ ys) → Ports (xs ++ p ∷ ys)
ports_insert [] p ys h e k = (e, k, h)
ports_insert (x ∷ xs) p ys h e k =
    (h.0, all_insert (λ (q : Port). x.name ≢ q.name) xs p ys h.1 (λ same. k.0 (sym same)), ports_insert xs p ys h.2 e k.1)

-- ---- the invariant

abbrev ShownIn : Walk → Port → Type 0
ShownIn w q = IsShown q.name w

record Keeping (w : Walk) (d : Draft) : Type 0 where
  deep : Deep 1 w
  all_shown : AllOf (ShownIn w) (d.inputs ++ d.outputs)
  ports : Ports (d.inputs ++ d.outputs)

all_map : {A : Type 0} (P Q : A → Type 0) → ((x : A) → P x → Q x) → (xs : List A) → AllOf P xs → AllOf Q xs
all_map P Q f [] h = tt
all_map P Q f (x ∷ xs) h = (f x h.0, all_map P Q f xs h.1)

unlike : (x : List ℕ) (w : Walk) (q : Port) → is_some (found (outermost w.scopes) x) ≡ false → ShownIn w q → x ≢ q.name
unlike x w q new shown same = let e : is_some (found (outermost w.scopes) x) ≡ true = subst (λ n. is_some (found (outermost w.scopes) n) ≡ true) (sym same) shown in absurd (cc)

-- one more port, anywhere among the others
port_more : (xs : List Port) (p : Port) (ys : List Port) (w v : Walk) → IsTrue (is_external p.name) → Shows p.name w v → AllOf (ShownIn w) (xs ++ ys) → Ports (xs ++ ys) →
    AllOf (ShownIn v) (xs ++ p ∷ ys) × Ports (xs ++ p ∷ ys)
port_more xs p ys w v e s h k = (
  all_insert (ShownIn v) xs p ys (all_map (ShownIn w) (ShownIn v) (λ q. s.others q.name) (xs ++ ys) h) s.own,
  ports_insert xs p ys k e (all_map (ShownIn w) (λ (q : Port). p.name ≢ q.name) (λ q i. unlike p.name w q s.new i) (xs ++ ys) h),
)

input_keeps : (c : Class) (t : Ty) (x : Ident) (w : Walk) (d : Draft) → IsExternal x → Keeping w d → Always (λ v. Keeping v (input_declared t x d)) (port_declared c t x w)
unfolding input_declared
input_keeps c t x w d e g v h =
    let s = port_shows c t x w g.deep v h in
    let p : Port = record { ty = t; name = x.name } in
    let all = port_more d.inputs p d.outputs w v e s g.all_shown g.ports in
    let same : d.inputs ++ (p ∷ d.outputs) ≡ (d.inputs ++ p ∷ []) ++ d.outputs = sym (append_assoc d.inputs (p ∷ []) d.outputs) in
    record { deep = s.deep; all_shown = subst (AllOf (ShownIn v)) same all.0; ports = subst Ports same all.1 }

output_keeps : (c : Class) (t : Ty) (x : Ident) (w : Walk) (d : Draft) → IsExternal x → Keeping w d → Always (λ v. Keeping v (output_declared t x d)) (port_declared c t x w)
unfolding output_declared
output_keeps c t x w d e g v h =
    let s = port_shows c t x w g.deep v h in
    let p : Port = record { ty = t; name = x.name } in
    let begin : d.inputs ++ d.outputs ≡ (d.inputs ++ d.outputs) ++ [] = append_none (d.inputs ++ d.outputs) in
    let all = port_more (d.inputs ++ d.outputs) p [] w v e s (subst (AllOf (ShownIn w)) begin g.all_shown) (subst Ports begin g.ports) in
    let same : (d.inputs ++ d.outputs) ++ (p ∷ []) ≡ d.inputs ++ (d.outputs ++ p ∷ []) = append_assoc d.inputs d.outputs (p ∷ []) in
    record { deep = s.deep; all_shown = subst (AllOf (ShownIn v)) same all.0; ports = subst Ports same all.1 }

inputs_keep : (c : Class) (t : Ty) (xs : List Ident) (w : Walk) (d : Draft) → AllOf IsExternal xs → Keeping w d → Always (λ v. Keeping v (each (input_declared t) xs d)) (walk.each (port_declared c t) xs w)
unfolding each walk.each
inputs_keep c t [] w d h g = always_ok (λ v. Keeping v d) w g
inputs_keep c t (x ∷ xs) w d h g =
    always_then (λ v. Keeping v (input_declared t x d)) (λ v. Keeping v (each (input_declared t) xs (input_declared t x d))) (port_declared c t x w) (walk.each (port_declared c t) xs)
    (input_keeps c t x w d h.0 g) (λ v k. inputs_keep c t xs v (input_declared t x d) h.1 k)

outputs_keep : (c : Class) (t : Ty) (xs : List Ident) (w : Walk) (d : Draft) → AllOf IsExternal xs → Keeping w d → Always (λ v. Keeping v (each (output_declared t) xs d)) (walk.each (port_declared c t) xs w)
unfolding each walk.each
outputs_keep c t [] w d h g = always_ok (λ v. Keeping v d) w g
outputs_keep c t (x ∷ xs) w d h g =
    always_then (λ v. Keeping v (output_declared t x d)) (λ v. Keeping v (each (output_declared t) xs (output_declared t x d))) (port_declared c t x w) (walk.each (port_declared c t) xs)
    (output_keeps c t x w d h.0 g) (λ v k. outputs_keep c t xs v (output_declared t x d) h.1 k)

-- ---- other statements leave the ports as they are

abbrev Same : Draft → Draft → Type 0
Same d e = (e.inputs ≡ d.inputs) × (e.outputs ≡ d.outputs)

same_ports : (d : Draft) → Writes (Same d)
unfolding used typed draft.begun draft.hidden standing draft.declared draft.event_declared draft.placed draft.opened draft.closed
same_ports d =
    record {
      by_used = λ e h. h;
      by_typed = λ e h. h;
      by_begun = λ e h. h;
      by_hidden = λ n e h. h;
      by_standing = λ n e h. h;
      by_declared = λ k x e h. h;
      by_event = λ code ty x e h. h;
      by_placed = λ n p st e h. h;
      by_opened = λ n e h. h;
      by_closed = λ n f e h. h;
      by_labels = λ ls e h. h;
    }

length_rest : (n : ℕ) (sc : List Scope) → length sc ≡ suc n → length (rest_of sc) ≡ n
length_rest n [] h = absurd (omega (arith, h))
length_rest n (x ∷ xs) h = omega (arith, h)

deep_kept : names.Keeps Deep
unfolding opened
deep_kept =
    record {
      by_noted = λ n w k h. h;
      by_declared = λ n w x h. h;
      by_shown = λ n w x k one h. with_name_length x k w.scopes ∙ h;
      by_opened = λ n w b one h. ap suc h;
      by_closed = λ n w one h. length_rest n w.scopes h;
      by_labels = λ n w ls h. h;
    }

-- what was shown and had these ports has them, where the names stay
keeps_on : (w v : Walk) (d e : Draft) → Keeping w d → Deep 1 v → ((y : List ℕ) → IsShown y w → IsShown y v) → Same d e → Keeping v e
keeps_on w v d e g deep stay same =
    let is : d.inputs ++ d.outputs ≡ e.inputs ++ e.outputs = ap (λ x. x ++ d.outputs) (sym same.0) ∙ ap (λ x. e.inputs ++ x) (sym same.1) in
    record {
      deep = deep;
      all_shown = subst (AllOf (ShownIn v)) is (all_map (ShownIn w) (ShownIn v) (λ q. stay q.name) (d.inputs ++ d.outputs) g.all_shown);
      ports = subst Ports is g.ports;
    }

module _ (s : Scopes) (t : Types) where
  -- a statement that shows what was shown, and leaves the ports as they are
  other_keeps : (st : Stmt) (w : Walk) (d e : Draft) → Keeping w d → Same d e → Always (λ v. Keeping v e) (stmt_walked st w)
  other_keeps st w d e g same v h =
      keeps_on w v d e g (names.stmt_kept Deep deep_kept st 1 w (omega arith) (omega arith, g.deep) v h).1
      (λ y seen. (names.stmt_kept (StaysShown y) (stays_shown y) st 1 w (omega arith) (omega arith, (g.deep, seen)) v h).1.1) same

  code_same : (a : Around) (p : Pos) (x : Ident) (ps : List Param) (result : Ty) (b : Block) (d : Draft) → InnerInBlock b → Same d (stmt_written s t a p (stmt.Code x ps result b) d)
  unfolding stmt_written code_begun code_ended standing entered left with_code
  code_same a p x ps result b d h =
      let first : Draft = entered (length ps) (standing (length d.codes) d) in
      let inside : Draft = each param_declared ps first in
      let begin : Same d inside = drafts.kept_each (Same d) (same_ports d) param_declared (λ y e. (same_ports d).by_declared (kind.Var y.ty) y.name e) ps first (refl, refl) in
      drafts.block_kept (Same d) (same_ports d) s t (code_around inside) b h inside begin

  stmt_keeps : (a : Around) (p : Pos) (st : Stmt) → Outer st → PortsNamed st → (w : Walk) (d : Draft) → Keeping w d → Always (λ v. Keeping v (stmt_written s t a p st d)) (stmt_walked st w)
  unfolding Outer stmt_written stmt_walked
  stmt_keeps a p (stmt.Inputs ty xs) o n w d g = inputs_keep class.Input ty xs w d n g
  stmt_keeps a p (stmt.Outputs ty xs) o n w d g = outputs_keep class.Output ty xs w d n g
  stmt_keeps a p (stmt.Code x ps result b) o n w d g = other_keeps (stmt.Code x ps result b) w d (stmt_written s t a p (stmt.Code x ps result b) d) g (code_same a p x ps result b d o)
  stmt_keeps a p st o n w d g = other_keeps st w d (stmt_written s t a p st d) g (drafts.stmt_kept (Same d) (same_ports d) s t a p st o d (refl, refl))

  nodes_keep : {n : _} (a : Around) (r : Row_of-Node n) → OuterNodes r → NodesNamed r → (w : Walk) (d : Draft) → Keeping w d → Always (λ v. Keeping v (nodes_written s t a r d)) (nodes_walked r w)
  unfolding OuterNodes stmt_written stmt_walked
  nodes_keep a end_of-Node o n w d g = always_ok (λ v. Keeping v d) w g
  nodes_keep a (more_of-Node p st rest) o n w d g =
      always_then (λ v. Keeping v (stmt_written s t a p st d)) (λ v. Keeping v (nodes_written s t a rest (stmt_written s t a p st d))) (stmt_walked st w) (nodes_walked rest)
      (stmt_keeps a p st o.0 n.0 w d g) (λ v k. nodes_keep a rest o.1 n.1 v (stmt_written s t a p st d) k)

  abbrev PortsOf : Draft → Type 0
  PortsOf d = Ports (d.inputs ++ d.outputs)

  block_ports : (b : Block) → OuterBlock b → BlockNamed b → (m k : ℕ) → Always (λ v. PortsOf (block_passed s t of_program b (nothing_written m k))) (block_walked b Plain fresh_walk)
  unfolding OuterBlock stmt_written stmt_walked nothing_written draft.opened draft.closed
  block_ports (Block' _ list) o n m k =
      let d : Draft = draft.opened (declared_in list) (nothing_written m k) in
      always_then (λ v. Keeping v (nodes_written s t of_program list d)) (λ v. PortsOf (nodes_written s t of_program list d)) (nodes_walked list (opened Plain fresh_walk)) closed
      (nodes_keep of_program list o n (opened Plain fresh_walk) d (record { deep = opened_deep Plain 0 fresh_walk refl; all_shown = tt; ports = tt })) (λ v g u e. g.ports)

  pub ports : (tree : Tree) → TreeOuter tree → (sc : Scopes) → scopes_of tree ≡ Ok sc → TreeNamed tree → let K = kernel_of s t tree in IsTrue (ports_ok (K.inputs ++ K.outputs))
  unfolding kernel_of
  ports tree o sc h n =
      let d : Draft = block_passed s t of_program tree.body (nothing_written (counted s t tree.body).node (counted s t tree.body).slot) in
      ports_bool (d.inputs ++ d.outputs)
      (always_then (λ v. PortsOf d) (λ sc. PortsOf d) (block_walked tree.body Plain fresh_walk) gathered (block_ports tree.body o n (counted s t tree.body).node (counted s t tree.body).slot) (λ v k u e. k) sc h)
