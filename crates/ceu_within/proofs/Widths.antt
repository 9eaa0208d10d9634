-- Values that lie within a list of variables: a variable is set, the variables of a part that ends are forgotten.
use Rattle.std.proofs.Common.{◌≡◌, sym, ap, ◌∙◌, subst, ◌<◌, ℕ, zero, suc, ℤ, ◌⊎◌, inl, inr, List, [], ◌∷◌, ◌++◌, append_assoc, append-nil, length, get_or, Some, Contains, arith}
use Rattle.std.proofs.lemmas.List.Elements.{Contains-append_left, Contains-append_cases}
use Rattle.ceu_base.specs.declared.kinds.Ty.{Ty}
use Rattle.ceu_base.specs.declared.kinds.Ty.TheVariants as ty
use Rattle.ceu_base.specs.Values.{IsValue}
use Rattle.ceu_tree.specs.declared.kernel.KDecl.{KDecl}
use Rattle.ceu_tree.specs.declared.kernel.KKind.{KKind}
use Rattle.ceu_tree.specs.declared.kernel.KKind.TheVariants as kind
use Rattle.ceu_tree.specs.declared.kernel.KLoop.{KLoop}
use Rattle.ceu_tree.specs.declared.kernel.KLoop.TheVariants as turns
use Rattle.ceu_tree.specs.declared.kernel.KNode.{KNode}
use Rattle.ceu_tree.specs.declared.kernel.KBlock.{KBlock, out-KBlock}
use Rattle.ceu_tree.specs.declared.kernel.KStmt.{out-KStmt}
use Rattle.ceu_tree.specs.declared.kernel.KStmt.TheOpen.{KStmt-F}
use Rattle.ceu_tree.specs.Leaf.{Layer}
use Rattle.ceu_tree.specs.Residual.{Body, Program, Act, Over, Instances, no_instance}
use Rattle.ceu_tree.specs.Focus.{OfBlock, OfInstance, OfOpen, OfLoop, OfCall, OfPar, Focus, Here, In, plug}
use Rattle.ceu_tree.specs.World.{Cell, Holds, World, look, set, forget, forget_declared}
use Rattle.ceu_tree.specs.Abort.{aborted, forget_turns, forget_loop, closed}
use Rattle.laws_meaning_values.proofs.Stores.{forget_layer, forget_loop_is}
use Rattle.ceu_endings.specs.OneTrail.{PlainFocus}
use Rattle.ceu_trail.specs.Within.{Variable, declared, all_declared, turned, looped, in_focus, IsHeld, OneOf, ValuesWithin}
use Rattle.ceu_within.proofs.Looks.{put_either, forgotten, Declares, all_forgotten}

abbrev pub variable : ℕ → Ty → Variable
variable slot t = record { slot = slot; ty = t }

-- each one of these is one of those
abbrev pub Includes : (vs us : List Variable) → Type 0
Includes vs us = (x : Variable) → Contains vs x → Contains us x

one_of : (vs us : List Variable) (body : Body) (slot : ℕ) (c : Cell) → Includes vs us → OneOf vs body slot c → OneOf us body slot c
one_of vs us body slot c i o = record { program = o.program; variable = o.variable; there = i o.variable o.there; slot_is = o.slot_is; is_held = o.is_held }

pub widen : (vs us : List Variable) (w : World) → Includes vs us → ValuesWithin vs w → ValuesWithin us w
widen vs us w i h = record { within = λ body slot c e. one_of vs us body slot c i (h.within body slot c e) }

pub wider : (vs us : List Variable) (w : World) → ValuesWithin vs w → ValuesWithin (vs ++ us) w
wider vs us w h = widen vs (vs ++ us) w (λ x k. Contains-append_left vs us x k) h

pub regroup : (vs us ws : List Variable) (w : World) → ValuesWithin (vs ++ (us ++ ws)) w → ValuesWithin ((vs ++ us) ++ ws) w
regroup vs us ws w h = subst (λ l. ValuesWithin l w) (sym (append_assoc vs us ws)) h

pub ungroup : (vs us ws : List Variable) (w : World) → ValuesWithin ((vs ++ us) ++ ws) w → ValuesWithin (vs ++ (us ++ ws)) w
ungroup vs us ws w h = subst (λ l. ValuesWithin l w) (append_assoc vs us ws) h

pub nothing_more : (vs : List Variable) (w : World) → ValuesWithin (vs ++ []) w → ValuesWithin vs w
nothing_more vs w h = subst (λ l. ValuesWithin l w) (append-nil vs) h

pub with_nothing : (vs : List Variable) (w : World) → ValuesWithin vs w → ValuesWithin (vs ++ []) w
with_nothing vs w h = subst (λ l. ValuesWithin l w) (sym (append-nil vs)) h

-- the marks and the rest of the world don't matter
pub same_values : (vs : List Variable) (w u : World) → u.values ≡ w.values → ValuesWithin vs w → ValuesWithin vs u
same_values vs w u e h = record { within = λ body slot c k. h.within body slot c (subst (λ l. look body slot l ≡ Some c) e k) }

-- ---- a variable is set

pub set_within : (vs : List Variable) (slot : ℕ) (t : Ty) (v : ℤ) (w : World) → Contains vs (variable slot t) → IsValue t v → ValuesWithin vs w → ValuesWithin vs (set Program slot (Holds v) w)
set_within vs slot t v w k i h = record { within = λ body s c e. go body s c (put_either body s Program slot (Holds v) c w.values e) }
  where
    go : (body : Body) (s : ℕ) (c : Cell) → ((body ≡ Program) × (s ≡ slot) × (Holds v ≡ c)) ⊎ (look body s w.values ≡ Some c) → OneOf vs body s c
    go body s c (inl a) = record { program = a.0; variable = variable slot t; there = k; slot_is = sym a.1; is_held = subst (IsHeld t) a.2 i }
    go body s c (inr e) = h.within body s c e

-- ---- the variables of a part that ends

cons_cases : (y x : Variable) (xs : List Variable) (k : ℕ) → k < length (y ∷ xs) → get_or (y ∷ xs) k x ≡ x → (y ≡ x) ⊎ Contains xs x
cons_cases y x xs zero l e = inl e
cons_cases y x xs (suc k) l e = inr (k, omega arith, e)

pub none_there : (x : Variable) → Contains [] x → ⊥
none_there x k = let l = k.1 in absurd (omega arith)

pub one_there : (y x : Variable) → Contains (y ∷ []) x → y ≡ x
one_there y x k = elim (cons_cases y x [] k.0 k.1 k.2) [ inl e ↦ e | inr r ↦ absurd (none_there x r) ]

pub of_decl : (d : KDecl) (j : KKind) (x : Variable) → Contains (declared d j) x → x.slot ≡ d.slot
of_decl d (kind.Var t) x k = sym (ap (λ y. y.slot) (one_there (variable d.slot t) x k))
of_decl d (kind.Alias c) x k = absurd (none_there x k)
of_decl d (kind.Pool n c) x k = absurd (none_there x k)

slot_declared : (ds : List KDecl) (x : Variable) → Contains (all_declared ds) x → Declares x.slot ds
slot_declared [] x k = none_there x k
slot_declared (d ∷ ds) x k = go (Contains-append_cases (declared d d.kind) (all_declared ds) x k) (slot_declared ds x)
  where
    go : Contains (declared d d.kind) x ⊎ Contains (all_declared ds) x → (Contains (all_declared ds) x → Declares x.slot ds) → Declares x.slot (d ∷ ds)
    go (inl l) ih = inl (of_decl d d.kind x l)
    go (inr r) ih = inr (ih r)

-- what is left of the values when a block's declarations are forgotten lies around the block
pub declared_gone : (vs : List Variable) (ds : List KDecl) (w : World) → ValuesWithin (vs ++ all_declared ds) w → ValuesWithin vs (forget_declared Program ds w)
declared_gone vs ds w h = record { within = λ body slot c e. go body slot c (all_forgotten body slot c Program ds w e) }
  where
    around : (body : Body) (slot : ℕ) (c : Cell) → (body ≡ Program → Declares slot ds → ⊥) → (o : OneOf (vs ++ all_declared ds) body slot c) → Contains vs o.variable ⊎ Contains (all_declared ds) o.variable → OneOf vs body slot c
    around body slot c n o (inl k) = record { program = o.program; variable = o.variable; there = k; slot_is = o.slot_is; is_held = o.is_held }
    around body slot c n o (inr k) = absurd (n o.program (subst (λ s. Declares s ds) o.slot_is (slot_declared ds o.variable k)))

    go : (body : Body) (slot : ℕ) (c : Cell) → (look body slot w.values ≡ Some c) × (body ≡ Program → Declares slot ds → ⊥) → OneOf vs body slot c
    go body slot c a = let o = h.within body slot c a.0 in around body slot c a.1 o (Contains-append_cases vs (all_declared ds) o.variable o.there)

-- and so when a loop's variable is
one_gone : (vs : List Variable) (i : ℕ) (t : Ty) (w : World) → ValuesWithin (vs ++ variable i t ∷ []) w → ValuesWithin vs (forget Program i w)
one_gone vs i t w h = record { within = λ body slot c e. go body slot c (forgotten body slot Program i c w.values e) }
  where
    around : (body : Body) (slot : ℕ) (c : Cell) → (body ≡ Program → slot ≡ i → ⊥) → (o : OneOf (vs ++ variable i t ∷ []) body slot c) → Contains vs o.variable ⊎ Contains (variable i t ∷ []) o.variable → OneOf vs body slot c
    around body slot c n o (inl k) = record { program = o.program; variable = o.variable; there = k; slot_is = o.slot_is; is_held = o.is_held }
    around body slot c n o (inr k) = absurd (n o.program (sym o.slot_is ∙ sym (ap (λ y. y.slot) (one_there (variable i t) o.variable k))))

    go : (body : Body) (slot : ℕ) (c : Cell) → (look body slot w.values ≡ Some c) × (body ≡ Program → slot ≡ i → ⊥) → OneOf vs body slot c
    go body slot c a = let o = h.within body slot c a.0 in around body slot c a.1 o (Contains-append_cases vs (variable i t ∷ []) o.variable o.there)

turns_gone : (vs : List Variable) (k : KLoop) (w : World) → ValuesWithin (vs ++ turned k) w → ValuesWithin vs (forget_turns Program k w)
turns_gone vs turns.Free w h = nothing_more vs w h
turns_gone vs (turns.Times slot n) w h = nothing_more vs w h
turns_gone vs (turns.Range i next end open_a a b open_b) w h = one_gone vs i ty.S32 w h

layer_gone : (vs : List Variable) (layer : Layer) (w : World) → ValuesWithin (vs ++ looped layer) w → ValuesWithin vs (forget_layer Program layer w)
layer_gone vs (KStmt-F.Loop k b) w h = turns_gone vs k w h
layer_gone vs layer w h = nothing_more vs w h

pub loop_gone : (vs : List Variable) (s : KNode) (w : World) → ValuesWithin (vs ++ looped (out-KStmt s.stmt)) w → ValuesWithin vs (forget_loop Program s.stmt w)
loop_gone vs s w h = subst (ValuesWithin vs) (sym (forget_loop_is Program s.stmt w)) (layer_gone vs (out-KStmt s.stmt) w h)

-- ---- parts that are aborted

pub closed_within : (vs : List Variable) (b : KBlock) (fin : List KNode) (all : Instances) (w : World) → (fin ≡ []) → (all ≡ no_instance) → ValuesWithin (vs ++ all_declared (out-KBlock b).decls) w → ValuesWithin vs (closed b fin all Program w)
unfolding aborted
closed_within vs b fin all w e f h =
    subst (λ z. ValuesWithin vs (closed b z all Program w)) (sym e) (subst (λ z. ValuesWithin vs (closed b [] z Program w)) (sym f) (declared_gone vs (out-KBlock b).decls w h))

pub aborted_within : (f : Focus Act) (vs : List Variable) (w : World) → PlainFocus f → ValuesWithin (vs ++ in_focus f) w → ValuesWithin vs (aborted (plug f Over) Program w)
unfolding aborted PlainFocus
aborted_within (Here a) vs w p h = nothing_more vs w h
aborted_within (In (OfBlock b fin all rest) f) vs w p h =
    closed_within vs b fin all (aborted (plug f Over) Program w) p.0.0 p.0.1 (aborted_within f (vs ++ all_declared (out-KBlock b).decls) w p.1 (regroup vs (all_declared (out-KBlock b).decls) (in_focus f) w h))
aborted_within (In (OfOpen s) f) vs w p h = aborted_within f vs w p.1 h
aborted_within (In (OfLoop s c) f) vs w p h =
    loop_gone vs s (aborted (plug f Over) Program w) (aborted_within f (vs ++ looped (out-KStmt s.stmt)) w p.1 (regroup vs (looped (out-KStmt s.stmt)) (in_focus f) w h))
aborted_within (In (OfInstance b fin front seat back r rest) f) vs w p h = absurd p.0
aborted_within (In (OfCall s) f) vs w p h = absurd p.0
aborted_within (In (OfPar s front back) f) vs w p h = absurd p.0
