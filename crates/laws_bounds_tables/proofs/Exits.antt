-- The ways on which statements and blocks that keep the rules of their scope may be left at once: to their end, or to an aim around them.
use Rattle.std.proofs.Common.{◌≡◌, refl, sym, ap, ◌∙◌, subst, ℕ, pos, Bool, true, false, not, if◌then◌else◌, ◌||◌, ◌&&◌, ◌⊎◌, inl, inr, List, [], ◌∷◌, ◌++◌, Option, Some, None, eq-eqb}
use Rattle.std.proofs.lemmas.Bool.{and_parts, false≢true}
use Rattle.ceu_tree.specs.declared.kernel.Kernel.{Kernel}
use Rattle.ceu_tree.specs.declared.kernel.KLoop.{KLoop}
use Rattle.ceu_tree.specs.declared.kernel.Loc.{Loc}
use Rattle.ceu_tree.specs.declared.kernel.ParKind.{ParKind}
use Rattle.ceu_tree.specs.declared.kernel.ParKind.TheVariants as par
use Rattle.ceu_tree.specs.declared.kernel.KArm.{KArm, KArm'}
use Rattle.ceu_tree.specs.declared.kernel.KBlock.{KBlock, KBlock', Row_of-KNode, end_of-KNode, more_of-KNode}
use Rattle.ceu_tree.specs.declared.kernel.KStmt.{KStmt, Row_of-KArm, end_of-KArm, more_of-KArm, Row_of-KBlock, end_of-KBlock, more_of-KBlock, AwaitIn, AwaitTime, Forever, AwaitCode, Async, Do, Escape, Break, Continue, If', Loop, Par'}
use Rattle.ceu_tree.specs.Leaf as leaf
use Rattle.ceu_tree.specs.Leaf.{Exit}
use Rattle.ceu_tree.specs.Paths.{Way, ToEnd, ToEscape, ToBreak, ToContinue, is_end, is_escape, is_break, is_continue, has_end, without_end, end_if, flag, outer_ways, loop_ways, seq_ways, do_ways, par_ways, quick, quick_block, quick_arm, quick_nodes, quick_arms, quick_blocks, all_end}
use Rattle.ceu_tree.specs.Proper.{Scope, Aim, DoAim, BodyAim, LoopAim, with_decls, with_aim, with_turns, do_aim, outside_finalizers, escape_ok, stmt_ok, block_ok, arm_ok, nodes_ok, arms_ok, blocks_ok}
use Rattle.ceu_endings.proofs.Aims as aims
use Rattle.ceu_endings.proofs.Aims.{aims_at, turns_aims, escape_leads, loop_leads}
use Rattle.laws_bounds_steps.specs.Pays.{IsOf, way_of}
use Rattle.laws_bounds_steps.proofs.WayLists.{among_case, filter_out, end_out}
use Rattle.laws_bounds_tables.specs.Exits.{aim_takes, IsAimed, Leads, AllLead}

-- ---- exits

taken : (a : Aim) (n : ℕ) (x : Exit) → aims_at a n x → aim_takes a (way_of n x)
taken (DoAim m t) n (leaf.Escape v) h = h
taken (DoAim m t) n leaf.Break h = h
taken (DoAim m t) n leaf.Continue h = h
taken (BodyAim m t) n (leaf.Escape v) h = h
taken (BodyAim m t) n leaf.Break h = h
taken (BodyAim m t) n leaf.Continue h = h
taken (LoopAim m) n (leaf.Escape v) h = h
taken (LoopAim m) n leaf.Break h = h
taken (LoopAim m) n leaf.Continue h = h

aimed : (as' : List Aim) (n : ℕ) (x : Exit) → aims.Leads as' n x → IsAimed as' (way_of n x)
aimed [] n x h = h
aimed (a ∷ as') n x (inl h) = inl (taken a n x h)
aimed (a ∷ as') n x (inr h) = inr (aimed as' n x h)

exit_leads : (as' : List Aim) (n : ℕ) (x : Exit) → aims.Leads as' n x → AllLead as' (way_of n x ∷ [])
exit_leads as' n x h w (inl e) = subst (λ v. Leads as' v) e (inr (aimed as' n x h))
exit_leads as' n x h w (inr i) = absurd i

-- ---- lists of ways

module _ (as' : List Aim) where
  end_leads : AllLead as' (ToEnd ∷ [])
  end_leads w (inl e) = inl (sym e)
  end_leads w (inr h) = absurd h

  none_leads : AllLead as' []
  none_leads w h = absurd h

  ends_lead : (b : Bool) → AllLead as' (end_if b)
  ends_lead b w h = inl (sym (end_out w b h).1)

  both_lead : (xs ys : List Way) → AllLead as' xs → AllLead as' ys → AllLead as' (xs ++ ys)
  both_lead xs ys f g w h = go (among_case w xs ys h)
    where
      go : IsOf xs w ⊎ IsOf ys w → Leads as' w
      go (inl i) = f w i
      go (inr i) = g w i

  rest_leads : (q : List Way) → AllLead as' q → AllLead as' (without_end q)
  rest_leads q f w h = f w (filter_out (λ v. not (is_end v)) w q h).1

  seq_lead : (a rest : List Way) → AllLead as' a → AllLead as' rest → AllLead as' (seq_ways a rest)
  seq_lead a rest f g w h = go (has_end a) h
    where
      go : (b : Bool) → IsOf (if b then without_end a ++ rest else a) w → Leads as' w
      go true i = both_lead (without_end a) rest (rest_leads a f) g w i
      go false i = f w i

  par_lead : (k : ParKind) (q : List Way) (all : Bool) → AllLead as' q → AllLead as' (par_ways k q all)
  par_lead par.Never q all f = rest_leads q f
  par_lead par.Or q all f = f
  par_lead par.And q all f = both_lead (without_end q) (end_if all) (rest_leads q f) (ends_lead all)

  -- what leads past a do or a loop leads to an aim around it
  past_loop : (n : ℕ) (w : Way) → not (is_end w || is_break n w || is_continue n w) ≡ true → Leads (LoopAim n ∷ as') w → Leads as' w
  past_loop n w p (inl e) = inl e
  past_loop n w p (inr (inr a)) = inr a
  past_loop n w p (inr (inl a)) = absurd (none w p a)
    where
      none : (w : Way) → not (is_end w || is_break n w || is_continue n w) ≡ true → aim_takes (LoopAim n) w → ⊥
      none ToEnd q h = h
      none (ToEscape m) q h = h
      none (ToBreak m) q h = false≢true (sym (ap (λ b. not (b || false)) (eq-eqb n m h)) ∙ q)
      none (ToContinue m) q h = false≢true (sym (ap not (eq-eqb n m h)) ∙ q)

  loop_lead : (n : ℕ) (k : KLoop) (q : List Way) → AllLead (LoopAim n ∷ as') q → AllLead as' (loop_ways n k q)
  loop_lead n k q f = both_lead (outer_ways n q) _ (λ w h. let i = filter_out (λ v. not (is_end v || is_break n v || is_continue n v)) w q h in past_loop n w i.0 (f w i.1)) (ends_lead _)

  module _ (K : Kernel) where
    past_do : (n : ℕ) (t : Option Loc) (w : Way) → not (is_end w || is_escape n w) ≡ true → Leads (do_aim K n t ∷ as') w → Leads as' w
    past_do n t w p (inl e) = inl e
    past_do n t w p (inr (inr a)) = inr a
    past_do n t w p (inr (inl a)) = absurd (none t w p a)
      where
        none : (t : Option Loc) (w : Way) → not (is_end w || is_escape n w) ≡ true → aim_takes (do_aim K n t) w → ⊥
        none None ToEnd q h = h
        none None (ToEscape m) q h = false≢true (sym (ap not (eq-eqb n m h)) ∙ q)
        none None (ToBreak m) q h = h
        none None (ToContinue m) q h = h
        none (Some l) ToEnd q h = h
        none (Some l) (ToEscape m) q h = false≢true (sym (ap not (eq-eqb n m h)) ∙ q)
        none (Some l) (ToBreak m) q h = h
        none (Some l) (ToContinue m) q h = h

    do_lead : (n : ℕ) (t : Option Loc) (q : List Way) → AllLead (do_aim K n t ∷ as') q → AllLead as' (do_ways n q)
    do_lead n t q f = both_lead _ _ (λ w h. let i = filter_out (λ v. not (is_end v || is_escape n v)) w q h in past_do n t w i.0 (f w i.1)) (ends_lead _)

-- ---- statements

module _ (P : List Bool) (K : Kernel) (names : List (List ℕ)) where
  mutual
    unfolding quick stmt_ok

    stmt_leads : (sc : Scope) (n : ℕ) (st : KStmt) → stmt_ok K names sc n st ≡ true → AllLead sc.aims (quick P n st)
    stmt_leads sc n (AwaitIn k t) ok = none_leads sc.aims
    stmt_leads sc n (AwaitTime e u t) ok = none_leads sc.aims
    stmt_leads sc n Forever ok = none_leads sc.aims
    stmt_leads sc n (Async b) ok = none_leads sc.aims
    stmt_leads sc n (Break m) ok = exit_leads sc.aims m leaf.Break (loop_leads K m sc.aims leaf.Break (inl refl) (and_parts (outside_finalizers sc.place) _ ok).1)
    stmt_leads sc n (Continue m) ok = exit_leads sc.aims m leaf.Continue (loop_leads K m sc.aims leaf.Continue (inr refl) (and_parts (outside_finalizers sc.place) _ ok).1)
    stmt_leads sc n (Escape m e) ok = exit_leads sc.aims m (leaf.Escape (pos 0)) (escape_leads K sc m e sc.aims (pos 0) (and_parts (outside_finalizers sc.place) (escape_ok K sc m e sc.aims) ok).1)
    stmt_leads sc n (AwaitCode c es f t) ok = ends_lead sc.aims (flag c P)
    stmt_leads sc n (Do t b) ok = do_lead sc.aims K n t (quick_block P b) (block_leads (with_aim (do_aim K n t) sc) b (and_parts _ (block_ok K names (with_aim (do_aim K n t) sc) b) ok).1)
    stmt_leads sc n (If' x arms last) ok =
        let a = and_parts (outside_finalizers sc.place && arms_ok K names sc arms) (block_ok K names sc last) ok in
        both_lead sc.aims (quick_arms P arms) (quick_block P last) (arms_lead sc arms (and_parts (outside_finalizers sc.place) (arms_ok K names sc arms) a.0).1) (block_leads sc last a.1)
    stmt_leads sc n (Loop k b) ok =
        loop_lead sc.aims n k (quick_block P b)
        (subst (λ y. AllLead (LoopAim n ∷ y) (quick_block P b)) (turns_aims K k sc) (block_leads (with_aim (LoopAim n) (with_turns K k sc)) b (and_parts _ (block_ok K names (with_aim (LoopAim n) (with_turns K k sc)) b) ok).1))
    stmt_leads sc n (Par' k slot x bs) ok = par_lead sc.aims k (quick_blocks P bs) (all_end P bs) (blocks_lead sc bs (and_parts _ (blocks_ok K names sc bs) ok).1)
    stmt_leads sc n st ok = end_leads sc.aims

    pub block_leads : (sc : Scope) (b : KBlock) → block_ok K names sc b ≡ true → AllLead sc.aims (quick_block P b)
    block_leads sc (KBlock' n ds x list) ok = nodes_lead (with_decls ds sc) list (and_parts _ (nodes_ok K names (with_decls ds sc) list) ok).1

    arm_leads : (sc : Scope) (a : KArm) → arm_ok K names sc a ≡ true → AllLead sc.aims (quick_arm P a)
    arm_leads sc (KArm' c b) ok = block_leads sc b (and_parts _ (block_ok K names sc b) ok).1

    nodes_lead : {m : _} (sc : Scope) (rows : Row_of-KNode m) → nodes_ok K names sc rows ≡ true → AllLead sc.aims (quick_nodes P rows)
    nodes_lead sc end_of-KNode ok = end_leads sc.aims
    nodes_lead sc (more_of-KNode n p s rest) ok =
        let a = and_parts _ (nodes_ok K names sc rest) ok in
        seq_lead sc.aims (quick P n s) (quick_nodes P rest) (stmt_leads sc n s (and_parts _ (stmt_ok K names sc n s) a.0).1) (nodes_lead sc rest a.1)

    arms_lead : {m : _} (sc : Scope) (rows : Row_of-KArm m) → arms_ok K names sc rows ≡ true → AllLead sc.aims (quick_arms P rows)
    arms_lead sc end_of-KArm ok = none_leads sc.aims
    arms_lead sc (more_of-KArm a rest) ok =
        let x = and_parts (arm_ok K names sc a) (arms_ok K names sc rest) ok in
        both_lead sc.aims (quick_arm P a) (quick_arms P rest) (arm_leads sc a x.0) (arms_lead sc rest x.1)

    blocks_lead : {m : _} (sc : Scope) (rows : Row_of-KBlock m) → blocks_ok K names sc rows ≡ true → AllLead sc.aims (quick_blocks P rows)
    blocks_lead sc end_of-KBlock ok = none_leads sc.aims
    blocks_lead sc (more_of-KBlock b rest) ok =
        let x = and_parts (block_ok K names sc b) (blocks_ok K names sc rest) ok in
        both_lead sc.aims (quick_block P b) (quick_blocks P rest) (block_leads sc b x.0) (blocks_lead sc rest x.1)
