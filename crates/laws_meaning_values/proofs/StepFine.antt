-- Programs without code: one step of the whole.
use Rattle.std.proofs.Common.{◌≡◌, refl, sym, ap, ◌∙◌, subst, ℕ, suc, ◌+◌, pos, Bool, true, false, ◌⊎◌, inl, inr, [], length}
use Rattle.std.proofs.lemmas.Bool.{false≢true}
use Rattle.ceu_tree.specs.declared.kernel.Kernel.{Kernel}
use Rattle.ceu_tree.specs.Residual.{Program, Act, Begin, Start, Finish, AtEnd, AtHead, Again, Over, Run}
use Rattle.ceu_tree.specs.Numbering.{block_slots, block_nodes}
use Rattle.laws_meaning_values.specs.Ground.{has, Ground, On}
use Rattle.laws_meaning_values.specs.Needed.{needs, focus_needs}
use Rattle.laws_meaning_values.proofs.NeedsAt.{no_code, LowAt}
use Rattle.ceu_tree.specs.Focus.{Focus, Here, In, plug, graft, leaf, body_of}
use Rattle.ceu_tree.specs.World.{World}
use Rattle.ceu_tree.specs.Wake.{woken, by_event}
use Rattle.ceu_tree.specs.Leaf as does
use Rattle.ceu_tree.specs.Leaf.{Layer, Exit, Does, Opens, Waits, Passes, Kills, Done, or_fails, code_at, target, target_of, chosen_part, branches_from, in_branches, loop_reached, called, spawning, killing, started, next_of, rest_of, acted}
use Rattle.ceu_tree.specs.Around.{Outcome, Goes, Rests, Raises, Fails, Past, Registers, AtBlockEnd, AtLoopHead, Ends, Leaves, Moved, moved, up, taken, answered}
use Rattle.ceu_tree.specs.Step.{event_code, unseat, does_in, stepped}
use Rattle.ceu_tree.specs.Proper.{is_proper}
use Rattle.laws_meaning_basics.specs.Shape.{Part, ABlock, Around, nothing_around, one_around, ActFits, starts, TurnFits, Comes}
use Rattle.laws_meaning_basics.proofs.UpFits.{Sound, up_fits}
use Rattle.laws_meaning_basics.proofs.LeafFits.{DoesFit, acted_fits}
use Rattle.laws_meaning_basics.proofs.StepFits.{Closed, around_sound}
use Rattle.laws_meaning_values.specs.Ready.{act_has, Ready}
use Rattle.laws_meaning_values.proofs.Stores.{never_true}
use Rattle.laws_meaning_values.proofs.Positions.{Beside}
use Rattle.laws_meaning_values.proofs.Evaluated.{started_has}
use Rattle.laws_meaning_values.proofs.UpValues.{is_at_head, OutcomeHas, outcome_needs, is_head_outcome, plain_body}
use Rattle.laws_meaning_values.proofs.ThroughValues.{up_fine}
use Rattle.laws_meaning_basics.proofs.StepFits.{unseated_around}
use Rattle.laws_meaning_values.proofs.StepValues.{ready_down, ActDone, acted_fine, plug_needs, graft_needs, leaf_needs, by_event_needs, woken_flat, unseated_needs, unseated_leaf, killed_same}

abbrev is_heads : Does → Bool
is_heads does.Heads = true
is_heads x = false

module _ (K : Kernel) (proper : is_proper K ≡ true) (plain : K.codes ≡ []) where
  pub plain_body_of : {A : Type 0} {t : ℕ} (f : Focus A) (d e : Part) → Around K t A f d e → body_of f Program ≡ Program
  plain_body_of (Here a) d e nothing_around = refl
  plain_body_of (In fr f) d e (one_around {e = c} a more) = ap (body_of f) (plain_body K proper plain a) ∙ plain_body_of f c e more

  head_does : (n : ℕ) (a : Act) (w : World) → is_at_head a ≡ true → is_heads (acted K n Program a w).does ≡ true
  head_does n AtHead w h = refl
  head_does n (Begin b) w h = absurd (false≢true h)
  head_does n (Start s) w h = absurd (false≢true h)
  head_does n (Finish s v) w h = absurd (false≢true h)
  head_does n AtEnd w h = absurd (false≢true h)
  head_does n Again w h = absurd (false≢true h)

  module _ (n : ℕ) (d : Part) (g : Ground) (closed : Closed K proper d) (on : On d g) (low : LowAt d g) (ok : Sound K proper d) where
    pub record WholeFine (w : World) (m : Moved) : Type 0 where
      pub needed : (y : ℕ) → outcome_needs m.outcome y ≡ true → has Program y m.world ≡ true
      pub spares : (y : ℕ) → Beside g y → has Program y w ≡ true → has Program y m.world ≡ true

    taken_needs : (d : Part) (f : Focus Act) (x : Outcome) (y : ℕ) → Closed K proper d → Comes K n d x → outcome_needs (taken f x) y ≡ true → outcome_needs x y ≡ true
    taken_needs (ABlock false sc b) f (Goes q) y c h e = e
    taken_needs (ABlock false sc b) f (Rests r) y c h e = e
    taken_needs (ABlock false sc b) f (Raises r) y c h e = e
    taken_needs (ABlock false sc b) f (Fails z r) y c h e = e
    taken_needs (ABlock false sc b) f (Ends v) y c h e = e
    taken_needs (ABlock false sc b) f (Leaves node x) y c h e = absurd (c node h.0 h.1)
    taken_needs (ABlock false sc b) f x y c h e = elim h [ ]
    taken_needs d f x y c h e = elim c [ ]

    module _ (f : Focus Act) (e : Part) (a : Around K (suc n) Act f d e) where
      answered_fine : (x : Outcome) (w : World) → Comes K n e x → OutcomeHas x e w → (is_at_head (leaf f) ≡ true → is_head_outcome x ≡ true) → ((y : ℕ) → focus_needs f y ≡ true → has Program y w ≡ true)
          → ((y : ℕ) → outcome_needs x y ≡ true → has Program y w ≡ true) → WholeFine w (answered Program f x w)
      answered_fine x w k now first own need =
          let m = up_fine K proper plain n f x w d e g on low ok a k now first own need in
          record { needed = λ y h. m.needed y (taken_needs d f (up Program f x w).outcome y closed (up_fits K proper n Program f x w d e ok a k) h); spares = m.spares }

    not_head : (f : Focus Act) (x : Does) → (is_at_head (leaf f) ≡ true → is_heads x ≡ true) → is_heads x ≡ false → is_at_head (leaf f) ≡ false
    not_head f x h e = never_true (is_at_head (leaf f)) (λ u. false≢true (sym e ∙ h u))

    stays_fine : (x : Outcome) (w : World) → ((y : ℕ) → outcome_needs x y ≡ true → has Program y w ≡ true) → WholeFine w (moved x w)
    stays_fine x w h = record { needed = h; spares = λ y p q. q }

    does_fine : (f : Focus Act) (e : Part) (x : Does) (w : World) → Around K (suc n) Act f d e → DoesFit K proper n e x → ActDone K proper plain e x w → (is_at_head (leaf f) ≡ true → is_heads x ≡ true)
        → ((y : ℕ) → focus_needs f y ≡ true → has Program y w ≡ true) → WholeFine w (does_in K n Program Program f x w)
    unfolding needs
    does_fine f e (does.Opens x) w a k done hd own = stays_fine (Goes (graft f x)) w (λ y h. go y (graft_needs K proper plain f x y (not_head f (does.Opens x) hd refl) h))
      where
        go : (y : ℕ) → (focus_needs f y ≡ true) ⊎ (focus_needs x y ≡ true) → has Program y w ≡ true
        go y (inl u) = own y u
        go y (inr u) = absurd (done y u)
    does_fine f e (does.Waits r) w a k done hd own = stays_fine (Rests (plug f r)) w (λ y h. go y (plug_needs K proper plain f d e r y a (not_head f (does.Waits r) hd refl) h))
      where
        go : (y : ℕ) → (focus_needs f y ≡ true) ⊎ (needs r y ≡ true) → has Program y w ≡ true
        go y (inl u) = own y u
        go y (inr u) = absurd (done y u)
    does_fine f e does.Passes w a k done hd own = answered_fine f e a Past w k done (λ h. absurd (false≢true (hd h))) own (λ y h. absurd (false≢true h))
    does_fine f e (does.Leaves node x) w a k done hd own = answered_fine f e a (Leaves node x) w k done (λ h. absurd (false≢true (hd h))) own (λ y h. absurd (false≢true h))
    does_fine f e (does.Registers s) w a k done hd own = answered_fine f e a (Registers s) w k tt (λ h. absurd (false≢true (hd h))) own (λ y h. absurd (false≢true h))
    does_fine f e does.Ends w a k done hd own = answered_fine f e a AtBlockEnd w k tt (λ h. absurd (false≢true (hd h))) own (λ y h. absurd (false≢true h))
    does_fine f e does.Heads w a k done hd own = answered_fine f e a AtLoopHead w k tt (λ h. refl) own (λ y h. absurd (false≢true h))
    does_fine f e (does.Emits s event v) w a k done hd own = record { needed = λ y h. go y (plug_needs K proper plain f d e (Run n (Finish s (pos 0))) y a (not_head f (does.Emits s event v) hd refl) (flat y h)); spares = λ y p q. q }
      where
        flat : (y : ℕ) → needs (woken (event_code event K.events) (by_event (n + 1) event v) f (Run n (Finish s (pos 0)))) y ≡ true → needs (plug f (Run n (Finish s (pos 0)))) y ≡ true
        flat y h = leaf_needs K proper plain (by_event (n + 1) event v) (by_event_needs K proper plain (n + 1) event v) (plug f (Run n (Finish s (pos 0)))) y
            (subst (λ r. needs r y ≡ true) (woken_flat K proper plain (event_code event K.events) (by_event (n + 1) event v) f (Run n (Finish s (pos 0))) d e a) h)

        go : (y : ℕ) → (focus_needs f y ≡ true) ⊎ (false ≡ true) → has Program y w ≡ true
        go y (inl u) = own y u
        go y (inr u) = absurd (false≢true u)
    does_fine f e (does.Spawns s c code pool alias vs) w a k done hd own = absurd (no_code K proper plain code c k.1)
    does_fine f e (does.Kills j) w a k done hd own =
        subst (λ u. WholeFine w (answered Program (unseat j f) Past u)) (sym (killed_same K proper plain j w a))
        (answered_fine (unseat j f) e (unseated_around K proper (suc n) j a) Past w k done (λ h. absurd (false≢true (hd (subst (λ b. is_at_head b ≡ true) (unseated_leaf K proper plain j f) h))))
        (λ y h. own y (sym (unseated_needs K proper plain j f y) ∙ h)) (λ y h. absurd (false≢true h)))
    does_fine f e (does.Fails z) w a k done hd own = stays_fine (Fails z (plug f Over)) w (λ y h. absurd (false≢true h))

    pub stepped_fine : (f : Focus Act) (w : World) → TurnFits K (suc n) d f → ((y : ℕ) → focus_needs f y ≡ true → has Program y w ≡ true) → WholeFine w (stepped K n Program f w)
    unfolding stepped
    stepped_fine f w t own =
        let m = acted K n Program (leaf f) w in
        let sound = around_sound K proper t.around ok in
        let fine = acted_fine K proper plain w n t.part (leaf f) t.acts sound in
        let r = does_fine f t.part m.does m.world t.around (acted_fits K proper n Program t.part (leaf f) w sound t.acts) fine.done (head_does n (leaf f) w) (λ y h. fine.keeps y (own y h)) in
        subst (λ b. WholeFine w (does_in K n Program b f (acted K n b (leaf f) w).does (acted K n b (leaf f) w).world)) (sym (plain_body_of f d t.part t.around))
        (record { needed = r.needed; spares = λ y p h. r.spares y p (fine.keeps y h) })

  -- ---- the whole program

  abbrev pub root_ground : Ground
  root_ground = record { low = 0; high = length (block_slots K.body); first = 0; last = length (block_nodes K.body) }

  act_reads : (e : Part) (a : Act) (w : World) → ActFits e a → Sound K proper e → Ready K Program w e → act_has Program w a ≡ true
  act_reads e (Start s) w (starts {sc = sc}) ok h = started_has K sc Program w s.node s.stmt ok h
  act_reads e (Begin b) w x ok h = refl
  act_reads e (Finish s v) w x ok h = refl
  act_reads e AtEnd w x ok h = refl
  act_reads e AtHead w x ok h = refl
  act_reads e Again w x ok h = refl

  -- at the head of its loop a trail reads nothing
  pub turn_reads : (n : ℕ) (f : Focus Act) (w : World) (d : Part) → Sound K proper d → Ready K Program w d → TurnFits K (suc n) d f → ((y : ℕ) → focus_needs f y ≡ true → has Program y w ≡ true) → act_has (body_of f Program) w (leaf f) ≡ true
  turn_reads n f w d ok h t own = subst (λ b. act_has b w (leaf f) ≡ true) (sym (plain_body_of f d t.part t.around)) (go (is_at_head (leaf f)) refl)
    where
      head : (a : Act) → is_at_head a ≡ true → act_has Program w a ≡ true
      head AtHead z = refl
      head (Start s) z = absurd (false≢true z)
      head (Begin b) z = refl
      head (Finish s v) z = refl
      head AtEnd z = refl
      head Again z = refl

      go : (b : Bool) → is_at_head (leaf f) ≡ b → act_has Program w (leaf f) ≡ true
      go true z = head (leaf f) z
      go false z = act_reads t.part (leaf f) w t.acts (around_sound K proper t.around ok) (ready_down K proper plain f d t.part w t.around ok h z own)
