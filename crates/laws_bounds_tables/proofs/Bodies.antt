-- In a proper kernel whose loops break no rule the program's body and each code's keep the rules, and a code's body is left by its end alone.
use Rattle.std.proofs.Common.{◌≡◌, refl, sym, ap, ◌∙◌, subst, ℕ, zero, suc, Bool, true, false, not, ◌||◌, ◌⊎◌, inl, inr, Contains, List, [], ◌∷◌, Some, None, arith, eq-eqb}
use Rattle.std.proofs.lemmas.Bool.{false≢true}
use Rattle.std.proofs.lemmas.List.Elements.{Contains-append_left, Contains-append_right}
use Rattle.std.specs.List.{list_any}
use Rattle.ceu_base.specs.declared.kinds.Rule.TheVariants.{B1}
use Rattle.ceu_base.specs.declared.kinds.Ty.{Ty}
use Rattle.ceu_base.specs.declared.kinds.Ty.TheVariants as ty
use Rattle.ceu_tree.specs.declared.kernel.Kernel.{Kernel}
use Rattle.ceu_tree.specs.declared.kernel.KCode.{KCode}
use Rattle.ceu_tree.specs.declared.kernel.KBlock.{out-KBlock}
use Rattle.ceu_tree.specs.Leaf.{code_at}
use Rattle.ceu_tree.specs.Paths.{Way, ToEnd, ToEscape, ToBreak, ToContinue, is_end, is_escape, has_end, end_if, quick_block, passes, passes_from}
use Rattle.ceu_tree.specs.Proper.{BodyAim, body_scope, is_proper}
use Rattle.laws_meaning_basics.specs.Shape.{code_scope}
use Rattle.laws_meaning_basics.proofs.Static.{names_of, code_static, program_static}
use Rattle.laws_meaning_values.proofs.Grounds.{program_ground, code_ground}
use Rattle.ceu_paths.specs.Joined.{joined}
use Rattle.ceu_paths.specs.Loops.{TrailLoop, block_loops}
use Rattle.ceu_bound.specs.PhaseB.{code_loops, all_loops, goes_round, KeepsLoopRules}
use Rattle.ceu_endings.proofs.Rules.{block_counts}
use Rattle.laws_bounds_steps.specs.Ways.{leads_to, outward, out_of}
use Rattle.laws_bounds_steps.specs.Pays.{IsOf, Fewer}
use Rattle.laws_bounds_steps.specs.Kept.{block_kept, RulesKept}
use Rattle.laws_bounds_steps.proofs.WayLists.{among_case, any_among, any_some, filter_out, end_here, end_out, or_sub}
use Rattle.laws_bounds_tables.specs.Exits.{Leads, AllLead}
use Rattle.laws_bounds_tables.proofs.Exits.{block_leads}
use Rattle.laws_bounds_tables.proofs.Rules.{Stands, block_is}

-- ---- loops

code_loops_in : (cs : List KCode) (c : ℕ) (k : KCode) → code_at c cs ≡ Some k → (l : TrailLoop) → Contains (block_loops k.body) l → Contains (joined code_loops cs) l
code_loops_in [] c k e l h = absurd (cc)
code_loops_in (x ∷ cs) zero k e l h =
    let same : x ≡ k = ap (λ o. elim o [ None ↦ x | Some y ↦ y ]) e in
    Contains-append_left (code_loops x) (joined code_loops cs) l (subst (λ (y : KCode). Contains (block_loops y.body) l) (sym same) h)
code_loops_in (x ∷ cs) (suc c) k e l h = Contains-append_right (code_loops x) (joined code_loops cs) l (code_loops_in cs c k e l h)

module _ (K : Kernel) (proper : is_proper K ≡ true) (keeps : KeepsLoopRules K) where
  stands : (l : TrailLoop) → Contains (all_loops K) l → Stands (passes_from [] K.codes) l
  stands l c o q = go (goes_round (passes_from [] K.codes) l) refl
    where
      go : (b : Bool) → goes_round (passes_from [] K.codes) l ≡ b → goes_round (passes_from [] K.codes) l ≡ false
      go false e = e
      go true e = absurd (keeps B1 l.pos (record { loop = l; within = c; place = refl; broken = (o, q, e) }))

  -- ---- bodies

  body_kept : block_kept (passes_from [] K.codes) K.body
  body_kept =
      let g = program_ground K proper in
      let at = block_counts K.body 0 g.nodes_from in
      block_is (passes_from [] K.codes) K (names_of K) (body_scope K [] None K.body ty.S32) K.body 0 (program_static K proper) g.nodes_from
      (λ l h. stands l (Contains-append_left (block_loops K.body) (joined code_loops K.codes) l h)) (omega (arith, at), tt)

  code_kept : (c : ℕ) (k : KCode) → code_at c K.codes ≡ Some k → block_kept (passes_from [] K.codes) k.body
  code_kept c k e =
      let g = code_ground K c k proper e in
      let at = block_counts k.body g.ground.first g.on.nodes_from in
      block_is (passes_from [] K.codes) K (names_of K) (code_scope K c k) k.body g.ground.first (code_static K c k proper e) g.on.nodes_from
      (λ l h. stands l (Contains-append_right (block_loops K.body) (joined code_loops K.codes) l (code_loops_in K.codes c k e l h))) (omega (arith, at), tt)

  pub rules_kept : RulesKept K
  rules_kept = record { proper = proper; body = body_kept; codes = code_kept }

-- ---- codes

module _ (n : ℕ) (t : Ty) (q : List Way) (all : AllLead (BodyAim n t ∷ []) q) where
  -- no exit leads past the body
  past_body : (w : Way) → not (is_end w || leads_to n w) ≡ true → Leads (BodyAim n t ∷ []) w → ⊥
  past_body w p (inl e) = false≢true (sym (ap (λ v. not (is_end v || leads_to n v)) e) ∙ p)
  past_body ToEnd p (inr (inl h)) = h
  past_body (ToEscape m) p (inr (inl h)) = false≢true (sym (ap (λ b. not (b || false || false)) (eq-eqb n m h)) ∙ p)
  past_body (ToBreak m) p (inr (inl h)) = h
  past_body (ToContinue m) p (inr (inl h)) = h
  past_body w p (inr (inr h)) = h

  -- what leads to it is an escape
  escapes_there : list_any (leads_to n) q ≡ true → list_any (is_escape n) q ≡ true
  escapes_there h = let i = any_some (leads_to n) q h in any_among (is_escape n) i.0 q (go i.0 i.2 (all i.0 i.1)) i.1
    where
      go : (w : Way) → leads_to n w ≡ true → Leads (BodyAim n t ∷ []) w → is_escape n w ≡ true
      go w p (inl e) = absurd (false≢true (sym (ap (leads_to n) e) ∙ p))
      go ToEnd p (inr (inl i)) = absurd i
      go (ToEscape m) p (inr (inl i)) = eq-eqb n m i
      go (ToBreak m) p (inr (inl i)) = absurd i
      go (ToContinue m) p (inr (inl i)) = absurd i
      go w p (inr (inr i)) = absurd i

  left_by_end : Fewer (out_of n q) (end_if (has_end q || list_any (is_escape n) q))
  left_by_end w h = go (among_case w (outward n q) (end_if (has_end q || list_any (leads_to n) q)) h)
    where
      go : IsOf (outward n q) w ⊎ IsOf (end_if (has_end q || list_any (leads_to n) q)) w → IsOf (end_if (has_end q || list_any (is_escape n) q)) w
      go (inl i) = let j = filter_out (λ v. not (is_end v || leads_to n v)) w q i in absurd (past_body w j.0 (all w j.1))
      go (inr i) =
          let j = end_out w (has_end q || list_any (leads_to n) q) i in
          subst (λ v. IsOf (end_if (has_end q || list_any (is_escape n) q)) v) j.1 (end_here _ (or_sub (has_end q) (list_any (leads_to n) q) (has_end q) (list_any (is_escape n) q) (λ x. x) escapes_there j.0))

pub code_leaves : (P : List Bool) (K : Kernel) (c : ℕ) (k : KCode) → is_proper K ≡ true → code_at c K.codes ≡ Some k → Fewer (out_of (out-KBlock k.body).node (quick_block P k.body)) (end_if (passes P k))
code_leaves P K c k proper e = left_by_end (out-KBlock k.body).node k.result (quick_block P k.body) (block_leads P K (names_of K) (code_scope K c k) k.body (code_static K c k proper e))
