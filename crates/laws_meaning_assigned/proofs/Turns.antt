-- Where each slot that is needed has a value, a turn reads no slot of its own body without one.
use Rattle.std.proofs.Common.{◌≡◌, refl, sym, ap, ◌∙◌, subst, ◌≤◌, ℕ, Bool, true, false, ◌&&◌, arith}
use Rattle.std.proofs.lemmas.Bool.{and_from, false≢true}
use Rattle.ceu_tree.specs.declared.kernel.Kernel.{Kernel}
use Rattle.ceu_tree.specs.declared.kernel.KBlock.{out-KBlock}
use Rattle.ceu_tree.specs.declared.kernel.KStmt.{out-KStmt}
use Rattle.ceu_tree.specs.Residual.{Body, Program, Awaited, Spawned, Act, Begin, Start, Finish, AtEnd, AtHead, Again}
use Rattle.ceu_tree.specs.Focus.{Frame, OfBlock, OfInstance, OfOpen, OfLoop, OfCall, OfPar, Focus, Here, In, leaf, body_in, body_of}
use Rattle.ceu_tree.specs.World.{World}
use Rattle.ceu_tree.specs.Legal.{is_set, called_code}
use Rattle.ceu_tree.specs.Mentions.{body_target}
use Rattle.ceu_tree.specs.Proper.{is_proper}
use Rattle.ceu_tree.specs.Run.{Turning, done}
use Rattle.laws_meaning_basics.specs.Shape.{Part, program_part, FrameFits, around_statement, around_end, around_instance, around_part, around_turn, around_call, around_branch, Around, nothing_around, one_around, ActFits, starts, ConfigFits}
use Rattle.laws_meaning_basics.proofs.UpFits.{Sound, frame_sound}
use Rattle.laws_meaning_basics.proofs.StepFits.{around_sound}
use Rattle.laws_meaning_basics.proofs.RunFits.{root_sound}
use Rattle.laws_meaning_values.specs.Ground.{has}
use Rattle.laws_meaning_values.specs.Needed.{some_done, turn_needs}
use Rattle.laws_meaning_values.specs.Ready.{declares, act_has, Ready}
use Rattle.laws_meaning_values.proofs.Positions.{before_at}
use Rattle.laws_meaning_values.proofs.Readies.{ready_list, ready_part, ready_turn, ready_branch, ready_code, ready_program}
use Rattle.laws_meaning_values.proofs.Stores.{same_self, or_left}
use Rattle.laws_meaning_values.proofs.Evaluated.{started_has}
use Rattle.laws_meaning_counters.specs.Counters.{is_first, at_loop}
use Rattle.laws_meaning_assigned.specs.Needed.{own_target, block_asks, asked, given_needed, turn_needed, frame_needed, focus_needed, Stocked}
use Rattle.laws_meaning_assigned.proofs.Settled.{asked_yes}

module _ (K : Kernel) (proper : is_proper K ≡ true) (w : World) where
  -- a slot of the own body that is asked for
  own_yes : (here : Body) (x : ℕ) (t : Bool) → t ≡ true → 1 ≤ asked K.codes here x here t
  own_yes here x t h = asked_yes K here x here t (same_self here) h

  frame_ready : {t : ℕ} (fr : Frame) (first : Bool) (d c : Part) (here : Body) → FrameFits K t fr d c → Sound K proper d → first ≡ false → ((b : Body) (x : ℕ) → 1 ≤ frame_needed K.codes b x first here fr → has b x w ≡ true) → Ready K here w d → Ready K (body_in fr here) w c
  frame_ready (OfBlock b fin all rest) first d c here (around_statement {turn = turn} {sc = sc} {s = s} done e z i) ok l own h =
      ready_list K here w turn sc b done s rest ok e
      (λ y p q. own here y
      (let a = own_yes here y (block_asks b done y) (or_left (declares y (out-KBlock b).decls && is_set done y) (own_target y (body_target b) && some_done done) (and_from (declares y (out-KBlock b).decls) (is_set done y) p q)) in
      let m = ap (λ l. asked K.codes here y here (block_asks b l y)) (before_at b done s rest e) in omega (arith, a, m))) h
  frame_ready fr first d c here (around_end z i) ok l own h = tt
  frame_ready (OfInstance b fin front seat back r rest) first d c here (around_instance done k e z i p1 p2 p q) ok l own h =
      ready_code K (Spawned seat.number) w seat.code k
      (λ y v. own (Spawned seat.number) y (let a = own_yes (Spawned seat.number) y (declares y k.params) v in let m = ap (given_needed K.codes (Spawned seat.number) y (Spawned seat.number)) q in omega (arith, a, m)))
  frame_ready (OfOpen s) first d c here (around_part {sc = sc} b o) ok l own h = ready_part K here w sc s b o h
  frame_ready (OfLoop s j) first d c here (around_turn {sc = sc} k b e o) ok l own h =
      ready_turn K here w sc s k b e
      (λ y q. own here y (subst (λ t. 1 ≤ turn_needed K.codes here y t here s) (sym l) (own_yes here y (turn_needs (out-KStmt s.stmt) y) (subst (λ l. turn_needs l y ≡ true) (sym e) q)))) h
  frame_ready (OfCall s) first d c here (around_call m es g t k e q) ok l own h =
      ready_code K (Awaited here s.node) w m k
      (λ y v. own (Awaited here s.node) y (let a = own_yes (Awaited here s.node) y (declares y k.params) v in let z = ap (given_needed K.codes (Awaited here s.node) y (Awaited here s.node)) (ap (called_code K.codes) e ∙ q) in omega (arith, a, z)))
  frame_ready (OfPar s front back) first d c here (around_branch {sc = sc} k slot bs b cs e p q) ok l own h = ready_branch K here w sc s k slot bs b cs e h

  not_at : (f : Focus Act) → is_first (leaf f) ≡ false → at_loop is_first f ≡ false
  not_at (Here a) e = e
  not_at (In fr f) e = refl

  -- a leaf may name what it names
  pub ready_down : {t : ℕ} (f : Focus Act) (d e : Part) (here : Body) → Around K t Act f d e → Sound K proper d → is_first (leaf f) ≡ false → ((b : Body) (x : ℕ) → 1 ≤ focus_needed K.codes b x is_first here f → has b x w ≡ true) → Ready K here w d
      → Ready K (body_of f here) w e
  unfolding focus_needed
  ready_down (Here a) d e here nothing_around ok l own h = h
  ready_down (In fr f) d e here (one_around {e = c} a more) ok l own h =
      ready_down f c e (body_in fr here) more (frame_sound K proper a ok) l (λ b x m. own b x (omega (arith, m)))
      (frame_ready fr (at_loop is_first f) d c here a ok (not_at f l) (λ b x m. own b x (omega (arith, m))) h)

  act_reads : (e : Part) (a : Act) (here : Body) → ActFits e a → Sound K proper e → Ready K here w e → act_has here w a ≡ true
  act_reads e (Start s) here (starts {sc = sc}) ok h = started_has K sc here w s.node s.stmt ok h
  act_reads e (Begin b) here x ok h = refl
  act_reads e (Finish s v) here x ok h = refl
  act_reads e AtEnd here x ok h = refl
  act_reads e AtHead here x ok h = refl
  act_reads e Again here x ok h = refl

  first_reads : (a : Act) (here : Body) → is_first a ≡ true → act_has here w a ≡ true
  first_reads AtHead here z = refl
  first_reads (Start s) here z = absurd (false≢true z)
  first_reads (Begin b) here z = refl
  first_reads (Finish s v) here z = refl
  first_reads AtEnd here z = refl
  first_reads Again here z = refl

  -- at the head of its loop a trail reads nothing
  pub turn_reads : (n : ℕ) (f : Focus Act) → ConfigFits K (Turning n f w) → Stocked K (Turning n f w) → act_has (body_of f Program) w (leaf f) ≡ true
  turn_reads n f t own = go (is_first (leaf f)) refl
    where
      go : (b : Bool) → is_first (leaf f) ≡ b → act_has (body_of f Program) w (leaf f) ≡ true
      go true z = first_reads (leaf f) (body_of f Program) z
      go false z =
          act_reads t.part (leaf f) (body_of f Program) t.acts (around_sound K proper t.around (root_sound K proper))
          (ready_down f (program_part K) t.part Program t.around (root_sound K proper) z (λ b x m. own b x (omega (arith, m))) (ready_program K Program w))
