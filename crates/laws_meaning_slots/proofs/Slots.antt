-- At how many open slots a value lies: of a part, of the parts around a leaf, and of the tree of both.
use Rattle.std.proofs.Common.{◌≡◌, refl, sym, ap, ◌∙◌, ℕ, ◌+◌, Bool, true, false, if◌then◌else◌, ◌||◌, nat_lt, List, [], ◌∷◌, Option, Some, None, arith}
use Rattle.std.proofs.lemmas.Bool.{ltb-false, ltb-true, lt-ltb}
use Rattle.ceu_base.specs.declared.kinds.Ty.TheVariants as ty
use Rattle.ceu_tree.specs.declared.kernel.KCode.{KCode}
use Rattle.ceu_tree.specs.declared.kernel.KDecl.{KDecl}
use Rattle.ceu_tree.specs.declared.kernel.KKind.{KKind}
use Rattle.ceu_tree.specs.declared.kernel.KKind.TheVariants as kind
use Rattle.ceu_tree.specs.declared.kernel.KLoop.{KLoop}
use Rattle.ceu_tree.specs.declared.kernel.KLoop.TheVariants as turns
use Rattle.ceu_tree.specs.declared.kernel.KBlock.{out-KBlock}
use Rattle.ceu_tree.specs.declared.kernel.KStmt.{out-KStmt}
use Rattle.ceu_tree.specs.declared.kernel.KStmt.TheOpen.{KStmt-F}
use Rattle.ceu_tree.specs.Residual.{Body, Awaited, Spawned, Residual, Over, Run, WaitInput, WaitTime, WaitEvent, WaitForever, InAsync, Block, Open, Loop, Call, Par, Branches, no_branch, branch, Instances, no_instance, instance}
use Rattle.ceu_tree.specs.Focus.{Frame, OfBlock, OfInstance, OfOpen, OfLoop, OfCall, OfPar, Focus, Here, In, join, join_instances, fill, plug, graft, body_in, body_of, has_body}
use Rattle.ceu_tree.specs.Wake.{each_leaf, each_in_branches, each_in_instances, each_in_body, woken}
use Rattle.ceu_tree.specs.World.{Held}
use Rattle.ceu_tree.specs.Leaf.{Layer, code_at}
use Rattle.ceu_tree.specs.Legal.{called_code}
use Rattle.laws_meaning_slots.specs.Held.{lies_at, lies_declared, lies_counted, lies_turning, lies_given, lies_in, lies_in_branches, lies_in_instances}

abbrev pub once : Bool → ℕ
once b = if b then 1 else 0

pub once_is : (b : Bool) → b ≡ nat_lt 0 (once b)
once_is true = refl
once_is false = refl

module _ (codes : List KCode) (g : ℕ) (h : Held) where
  abbrev pub at_room : Body → ℕ → KKind → ℕ
  at_room body slot k = once (lies_at codes g h body slot k)

  abbrev pub decls_room : Body → List KDecl → ℕ
  decls_room body [] = 0
  decls_room body (d ∷ ds) = at_room body d.slot d.kind + decls_room body ds

  abbrev pub turns_room : Body → KLoop → ℕ
  turns_room body (turns.Range i next end open_a a b open_b) = at_room body i (kind.Var ty.S32)
  turns_room body k = 0

  abbrev pub layer_room : Body → Layer → ℕ
  layer_room body (KStmt-F.Loop k b) = turns_room body k
  layer_room body layer = 0

  abbrev pub code_room : Body → Option KCode → ℕ
  code_room body None = 0
  code_room body (Some c) = decls_room body c.params

  unfoldable mutual
    pub room : Residual → Body → ℕ
    room (Block b fin all r rest) body = decls_room body (out-KBlock b).decls + (all_room all + room r body)
    room (Open s r) body = room r body
    room (Loop s c r) body = layer_room body (out-KStmt s.stmt) + room r body
    room (Call s r) body = code_room (Awaited body s.node) (called_code codes (out-KStmt s.stmt)) + room r (Awaited body s.node)
    room (Par s bs) body = each_room bs body
    room (InAsync s served r) body = room r body
    room r body = 0

    pub each_room : Branches → Body → ℕ
    each_room no_branch body = 0
    each_room (branch r more) body = room r body + each_room more body

    pub all_room : Instances → ℕ
    all_room no_instance = 0
    all_room (instance seat r more) = code_room (Spawned seat.number) (code_at seat.code codes) + (room r (Spawned seat.number) + all_room more)

  abbrev pub frame_room : Frame → Body → ℕ
  frame_room (OfBlock b fin all rest) body = decls_room body (out-KBlock b).decls + all_room all
  frame_room (OfInstance b fin front seat back r rest) body =
      decls_room body (out-KBlock b).decls + (all_room front + (code_room (Spawned seat.number) (code_at seat.code codes) + all_room back)) + room r body
  frame_room (OfOpen s) body = 0
  frame_room (OfLoop s c) body = layer_room body (out-KStmt s.stmt)
  frame_room (OfCall s) body = code_room (Awaited body s.node) (called_code codes (out-KStmt s.stmt))
  frame_room (OfPar s front back) body = each_room front body + each_room back body

  unfoldable pub focus_room : {A : Type 0} → Focus A → Body → ℕ
  focus_room (Here a) body = 0
  focus_room (In fr f) body = frame_room fr body + focus_room f (body_in fr body)

  -- ---- the tree of a focus

  pub join_room : (front bs : Branches) (body : Body) → each_room (join front bs) body ≡ each_room front body + each_room bs body
  unfolding room
  join_room no_branch bs body = omega arith
  join_room (branch r more) bs body = omega (arith, join_room more bs body)

  pub join_all_room : (front all : Instances) → all_room (join_instances front all) ≡ all_room front + all_room all
  unfolding room
  join_all_room no_instance all = omega arith
  join_all_room (instance seat r more) all = omega (arith, join_all_room more all)

  pub fill_room : (fr : Frame) (r : Residual) (body : Body) → room (fill fr r) body ≡ frame_room fr body + room r (body_in fr body)
  unfolding room
  fill_room (OfBlock b fin all rest) r body = omega arith
  fill_room (OfInstance b fin front seat back q rest) r body = omega (arith, join_all_room front (instance seat r back))
  fill_room (OfOpen s) r body = omega arith
  fill_room (OfLoop s c) r body = refl
  fill_room (OfCall s) r body = refl
  fill_room (OfPar s front back) r body = omega (arith, join_room front (branch r back) body)

  pub plug_room : {A : Type 0} (f : Focus A) (r : Residual) (body : Body) → room (plug f r) body ≡ focus_room f body + room r (body_of f body)
  unfolding focus_room
  plug_room (Here a) r body = omega arith
  plug_room (In fr f) r body = omega (arith, fill_room fr (plug f r) body, plug_room f r (body_in fr body))

  pub graft_room : {A B : Type 0} (f : Focus A) (x : Focus B) (body : Body) → focus_room (graft f x) body ≡ focus_room f body + focus_room x (body_of f body)
  unfolding focus_room
  graft_room (Here a) x body = omega arith
  graft_room (In fr f) x body = omega (arith, graft_room f x (body_in fr body))

  -- ---- leaves that become others

  -- a change of leaves at which a value lies as often as before
  abbrev pub Calm : (Residual → Residual) → Type 0
  Calm c = (r : Residual) (body : Body) → room (c r) body ≡ room r body

  module _ (c : Residual → Residual) (calm : Calm c) where
    mutual
      unfolding room each_leaf

      pub leaves_room : (r : Residual) (body : Body) → room (each_leaf c r) body ≡ room r body
      leaves_room (Block b fin all r rest) body = let a = instances_room all in let d = leaves_room r body in omega (arith, a, d)
      leaves_room (Open s r) body = leaves_room r body
      leaves_room (Loop s k r) body = let a = leaves_room r body in omega (arith, a)
      leaves_room (Call s r) body = let a = leaves_room r (Awaited body s.node) in omega (arith, a)
      leaves_room (Par s bs) body = branches_room bs body
      leaves_room Over body = refl
      leaves_room (Run k a) body = calm (Run k a) body
      leaves_room (WaitInput k s) body = calm (WaitInput k s) body
      leaves_room (WaitTime d s) body = calm (WaitTime d s) body
      leaves_room (WaitEvent e s) body = calm (WaitEvent e s) body
      leaves_room (WaitForever s) body = calm (WaitForever s) body
      leaves_room (InAsync s served r) body = calm (InAsync s served r) body

      branches_room : (bs : Branches) (body : Body) → each_room (each_in_branches c bs) body ≡ each_room bs body
      branches_room no_branch body = refl
      branches_room (branch r more) body = let a = leaves_room r body in let d = branches_room more body in omega (arith, a, d)

      instances_room : (all : Instances) → all_room (each_in_instances c all) ≡ all_room all
      instances_room no_instance = refl
      instances_room (instance seat r more) = let a = leaves_room r (Spawned seat.number) in let d = instances_room more in omega (arith, a, d)

    body_room : {A : Type 0} (f : Focus A) (r : Residual) (body : Body) → room (each_in_body c f r) body ≡ focus_room f body + room r (body_of f body)
    unfolding focus_room
    body_room (Here a) r body = omega (arith, leaves_room r body)
    body_room (In fr f) r body = go (has_body (In fr f)) (body_room f r (body_in fr body))
      where
        go : (b : Bool) → room (each_in_body c f r) (body_in fr body) ≡ focus_room f (body_in fr body) + room r (body_of f (body_in fr body))
            → room (if b then fill fr (each_in_body c f r) else each_leaf c (plug (In fr f) r)) body ≡ frame_room fr body + focus_room f (body_in fr body) + room r (body_of f (body_in fr body))
        go true e = omega (arith, fill_room fr (each_in_body c f r) body, e)
        go false e = let a = plug_room (In fr f) r body in omega (arith, leaves_room (plug (In fr f) r) body, a)

    pub woken_room : {A : Type 0} (code : Option ℕ) (f : Focus A) (r : Residual) (body : Body)
        → room (woken code c f r) body ≡ focus_room f body + room r (body_of f body)
    woken_room None f r body = leaves_room (plug f r) body ∙ plug_room f r body
    woken_room (Some k) f r body = body_room f r body

  -- ---- whether it lies anywhere

  either : (a b : Bool) (m n : ℕ) → a ≡ nat_lt 0 m → b ≡ nat_lt 0 n → (a || b) ≡ nat_lt 0 (m + n)
  either a b m n p q = go (nat_lt 0 m) refl
    where
      go : (c : Bool) → nat_lt 0 m ≡ c → (a || b) ≡ nat_lt 0 (m + n)
      go true e = ap (λ x. x || b) (p ∙ e) ∙ sym (lt-ltb 0 (m + n) (let l = ltb-true 0 m e in omega (arith, l)))
      go false e = ap (λ x. x || b) (p ∙ e) ∙ q ∙ ap (nat_lt 0) (let l = ltb-false 0 m e in omega (arith, l))

  lies_decls : (body : Body) (ds : List KDecl) → lies_declared codes g h body ds ≡ nat_lt 0 (decls_room body ds)
  lies_decls body [] = refl
  lies_decls body (d ∷ ds) = either _ _ (at_room body d.slot d.kind) (decls_room body ds) (once_is _) (lies_decls body ds)

  lies_turns : (body : Body) (k : KLoop) → lies_counted codes g h body k ≡ nat_lt 0 (turns_room body k)
  lies_turns body (turns.Range i next end open_a a b open_b) = once_is _
  lies_turns body turns.Free = refl
  lies_turns body (turns.Times slot n) = refl

  lies_layer : (body : Body) (layer : Layer) → lies_turning codes g h body layer ≡ nat_lt 0 (layer_room body layer)
  lies_layer body (KStmt-F.Loop k b) = lies_turns body k
  lies_layer body layer = refl

  lies_code : (body : Body) (o : Option KCode) → lies_given codes g h body o ≡ nat_lt 0 (code_room body o)
  lies_code body None = refl
  lies_code body (Some c) = lies_decls body c.params

  mutual
    unfolding room lies_in

    pub lies_room : (r : Residual) (body : Body) → lies_in codes g h r body ≡ nat_lt 0 (room r body)
    lies_room (Block b fin all r rest) body = either _ _ _ _ (lies_decls body (out-KBlock b).decls) (either _ _ (all_room all) (room r body) (lies_all all) (lies_room r body))
    lies_room (Open s r) body = lies_room r body
    lies_room (Loop s c r) body = either _ _ (layer_room body (out-KStmt s.stmt)) (room r body) (lies_layer body (out-KStmt s.stmt)) (lies_room r body)
    lies_room (Call s r) body =
        either _ _ (code_room (Awaited body s.node) (called_code codes (out-KStmt s.stmt))) (room r (Awaited body s.node)) (lies_code (Awaited body s.node) (called_code codes (out-KStmt s.stmt))) (lies_room r (Awaited body s.node))
    lies_room (Par s bs) body = lies_each bs body
    lies_room (InAsync s served r) body = lies_room r body
    lies_room Over body = refl
    lies_room (Run k a) body = refl
    lies_room (WaitInput k s) body = refl
    lies_room (WaitTime d s) body = refl
    lies_room (WaitEvent e s) body = refl
    lies_room (WaitForever s) body = refl

    lies_each : (bs : Branches) (body : Body) → lies_in_branches codes g h bs body ≡ nat_lt 0 (each_room bs body)
    lies_each no_branch body = refl
    lies_each (branch r more) body = either _ _ (room r body) (each_room more body) (lies_room r body) (lies_each more body)

    lies_all : (all : Instances) → lies_in_instances codes g h all ≡ nat_lt 0 (all_room all)
    lies_all no_instance = refl
    lies_all (instance seat r more) =
        either _ _ (code_room (Spawned seat.number) (code_at seat.code codes)) (room r (Spawned seat.number) + all_room more) (lies_code (Spawned seat.number) (code_at seat.code codes))
        (either _ _ (room r (Spawned seat.number)) (all_room more) (lies_room r (Spawned seat.number)) (lies_all more))
