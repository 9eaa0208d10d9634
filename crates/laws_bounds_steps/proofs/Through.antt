-- What the parts around a trail make of what it comes to pays as much, one part after the other.
use Rattle.std.proofs.Common.{◌≡◌, refl, sym, subst, ℕ, suc, Bool, true, ◌==◌, List, [], ◌∷◌, inl}
use Rattle.ceu_tree.specs.declared.kernel.Kernel.{Kernel}
use Rattle.ceu_tree.specs.declared.kernel.KBlock.{out-KBlock}
use Rattle.ceu_tree.specs.declared.kernel.KStmt.{out-KStmt}
use Rattle.ceu_tree.specs.Residual.{Body, Act, Residual, Run, Loop}
use Rattle.ceu_tree.specs.Focus.{Frame, OfBlock, OfInstance, OfOpen, OfLoop, OfCall, OfPar, Focus, Here, In, fill, plug, leaf, body_in}
use Rattle.ceu_tree.specs.World.{World}
use Rattle.ceu_tree.specs.Around.{Outcome, Goes, Rests, Raises, Fails, Past, Registers, AtBlockEnd, AtLoopHead, Ends, Leaves, next_turn, kind_of, through, up}
use Rattle.ceu_tree.specs.Paths.{ToEnd, quick_list}
use Rattle.ceu_tree.specs.Costs.{Cost, cost, nothing}
use Rattle.laws_meaning_basics.specs.Shape.{Part, ABlock, AStatement, AnEnd, counts, Fits, FrameFits, around_statement, around_end, around_instance, around_part, around_turn, around_call, around_branch}
use Rattle.ceu_tree.specs.Proper.{BodyAim}
use Rattle.laws_meaning_basics.specs.Shape as shape
use Rattle.ceu_endings.specs.Counted.{layer_counted, frame_counted}
use Rattle.laws_bounds_steps.specs.Ways.{ways}
use Rattle.laws_bounds_steps.specs.Pays.{way_of, Pays, Comes, layer_keeps, frame_keeps}
use Rattle.laws_bounds_steps.proofs.WayLists.{out_end, par_exit}
use Rattle.laws_bounds_steps.proofs.Steps.{seq_then, next_pays, block_ends, block_left, open_ends, open_left_pays, call_ends, again_pays}
use Rattle.laws_bounds_steps.proofs.Frames.{fill_pays}
use Rattle.ceu_tree.specs.Proper.{is_proper}
use Rattle.ceu_tree.specs.Focus.{graft}
use Rattle.laws_meaning_basics.specs.Shape.{Around, nothing_around, one_around, TurnFits}
use Rattle.laws_meaning_basics.proofs.UpFits.{Sound, frame_sound, up_fits, inside_body}
use Rattle.ceu_endings.specs.Counted.{focus_counted}
use Rattle.laws_bounds_steps.specs.Pays.{focus_keeps}
use Rattle.laws_bounds_steps.proofs.Rejoined.{par_ends, branch_way, rejoined_pays, instance_ends, goes_end, loop_left_pays, turn_of_pays}

module _ (P : List Bool) (E N : List Cost) (n : ℕ) where
  module _ (K : Kernel) (proper : is_proper K ≡ true) where
    -- ---- one part around

    pub through_pays : (body : Body) (fr : Frame) (f : Focus Act) (x : Outcome) (w : World) (d e : Part) (r : Residual) → frame_counted fr → frame_keeps P fr → FrameFits K (suc n) fr d e
        → shape.Comes K n e x → Comes P E N n e r x → Comes P E N n d (fill fr r) (through body fr f x w).outcome
    through_pays body fr f (Goes g) w d e r m keeps a c l = fill_pays P E N nothing _ r a l
    through_pays body fr f (Rests q) w d e r m keeps a c l = fill_pays P E N (cost 1 0) q r a l
    through_pays body fr f (Raises q) w d e r m keeps a c l = fill_pays P E N (cost 1 1) q r a l
    through_pays body fr f (Fails y q) w d e r m keeps a c l = tt
    through_pays body (OfBlock b fin all rest) f Past w d e r m keeps (around_statement done q z i) c l = next_pays P E N n d b fin fin rest all r l
    through_pays body (OfBlock b fin all rest) f (Registers y) w d e r m keeps (around_statement done q z i) c l = next_pays P E N n d b fin (y ∷ fin) rest all r l
    through_pays body (OfBlock b fin all rest) f (Leaves node x) w d e r m keeps (around_statement {turn = turn} {sc = sc} done q z i) c l =
        block_left P E N n (node == (out-KBlock b).node) turn sc b fin rest all f body node x w r refl l
    through_pays body (OfBlock b fin all rest) f AtBlockEnd w d e r m keeps (around_end z i) c l =
        block_ends P E N n b fin [] all r ToEnd ToEnd l (out_end (out-KBlock b).node _ (seq_then (ways P r) (quick_list P []) l.way ToEnd (inl refl)))
    through_pays body (OfOpen s) f (Ends v) w d e r m keeps (around_part b o) c l = open_ends P E N n s r ToEnd ToEnd l (out_end s.node (ways P r) l.way)
    through_pays body (OfOpen s) f (Leaves node x) w d e r m keeps (around_part b o) c l = open_left_pays P E N n (node == s.node) d s f body node x w r refl l
    through_pays body (OfLoop s j) f AtLoopHead w d e r m keeps (around_turn k b q o) c l =
        subst (λ y. Comes P E N n d (Loop s j r) (next_turn s y j body w).outcome) (sym q) (turn_of_pays P E N n d s k b j body w r q (subst (layer_keeps P s.node) q keeps) o (subst (λ y. layer_counted y j) q m) l)
    through_pays body (OfLoop s j) f (Ends v) w d e r m keeps (around_turn k b q o) c l = again_pays P E N n d s k b j r ToEnd q l (goes_end P E N n s.node (ways P r) l.way)
    through_pays body (OfLoop s j) f (Leaves node x) w d e r m keeps (around_turn k b q o) c l = loop_left_pays P E N n (node == s.node) d s k b j f body node x w r q refl l
    through_pays body (OfCall s) f (Ends v) w d e r m keeps (around_call i es g t k q o) c l = call_ends P E N n s r ToEnd l
    through_pays body (OfCall s) f (Leaves node x) w d e r m keeps (around_call i es g t k q o) c l = call_ends P E N n s r (way_of node x) l
    through_pays body (OfPar s front back) f (Ends v) w d e r m keeps (around_branch k slot bs b cs q y z) c l = rejoined_pays P E N n d s front back r body w (kind_of (out-KStmt s.stmt)) refl l
    through_pays body (OfPar s front back) f (Leaves node x) w d e r m keeps (around_branch k slot bs b cs q y z) c l =
        par_ends P E N n s front back r (way_of node x) (way_of node x) l (par_exit (kind_of (out-KStmt s.stmt)) node x _ _ (branch_way P E N n front back r (way_of node x) l.way))
    through_pays body (OfInstance b fin front seat back q rest) f (Ends v) w d e r m keeps (around_instance done k p z i x y o u) c l = instance_ends P E N n d b fin front back seat q r rest ToEnd l
    through_pays body (OfInstance b fin front seat back q rest) f (Leaves node x) w d e r m keeps (around_instance done k p z i y g o u) c l =
        absurd (inside_body K proper n node (out-KBlock k.body).node (BodyAim (out-KBlock k.body).node k.result) refl c.0 c.1)
    through_pays body fr f x w d e r m keeps (around_statement done q z i) c l = elim c [ ]
    through_pays body fr f x w d e r m keeps (around_end z i) c l = elim c [ ]
    through_pays body fr f x w d e r m keeps (around_part b o) c l = elim c [ ]
    through_pays body fr f x w d e r m keeps (around_turn k b q o) c l = elim c [ ]
    through_pays body fr f x w d e r m keeps (around_call i es g t k q o) c l = elim c [ ]
    through_pays body fr f x w d e r m keeps (around_branch k slot bs b cs q y z) c l = elim c [ ]
    through_pays body fr f x w d e r m keeps (around_instance done k q z i y g p o) c l = elim c [ ]

    -- ---- all of them

    pub up_pays : (body : Body) (f : Focus Act) (x : Outcome) (w : World) (d e : Part) → Sound K proper d → Around K (suc n) Act f d e → focus_counted f → focus_keeps P f
        → shape.Comes K n e x → Comes P E N n e (Run n (leaf f)) x → Comes P E N n d (plug f (Run n (leaf f))) (up body f x w).outcome
    unfolding up focus_counted focus_keeps
    up_pays body (Here a) x w d e h nothing_around m keeps c l = l
    up_pays body (In fr f) x w d g h (one_around {e = e} a more) m keeps c l =
        through_pays body fr f (up (body_in fr body) f x w).outcome (up (body_in fr body) f x w).world d e (plug f (Run n (leaf f))) m.0 keeps.0 a
        (up_fits K proper n (body_in fr body) f x w e g (frame_sound K proper a h) more c)
        (up_pays (body_in fr body) f x w e g (frame_sound K proper a h) more m.1 keeps.1 c l)

  -- ---- what the leaf becomes, in all the parts around it

  pub plug_pays : {K : Kernel} {t : ℕ} (f : Focus Act) (k : Cost) (q r : Residual) (d e : Part) → Around K t Act f d e → Pays P E N e k q r → Pays P E N d k (plug f q) (plug f r)
  plug_pays (Here a) k q r d e nothing_around h = h
  plug_pays (In fr f) k q r d g (one_around {e = e} a more) h = fill_pays P E N k (plug f q) (plug f r) a (plug_pays f k q r e g more h)

  pub graft_pays : {K : Kernel} {t : ℕ} (f x : Focus Act) (r : Residual) (d e : Part) → Around K t Act f d e → Pays P E N e nothing (plug x (Run n (leaf x))) r → Pays P E N d nothing (plug (graft f x) (Run n (leaf (graft f x)))) (plug f r)
  graft_pays (Here a) x r d e nothing_around h = h
  graft_pays (In fr f) x r d g (one_around {e = e} a more) h = fill_pays P E N nothing (plug (graft f x) (Run n (leaf (graft f x)))) (plug f r) a (graft_pays f x r e g more h)
