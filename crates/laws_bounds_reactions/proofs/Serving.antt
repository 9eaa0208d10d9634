-- A turn of an async that is over stays so with a larger bound on its steps.
use Rattle.std.proofs.Common.{◌≡◌, refl, ◌≤◌, ℕ, zero, suc, Bool, true, false, arith}
use Rattle.std.proofs.lemmas.Bool.{false≢true}
use Rattle.ceu_tree.specs.declared.kernel.Kernel.{Kernel}
use Rattle.ceu_tree.specs.Residual.{Body, Act, Again, Run}
use Rattle.ceu_tree.specs.Focus.{Focus, plug, leaf}
use Rattle.ceu_tree.specs.World.{World}
use Rattle.ceu_tree.specs.Around.{Outcome, Goes, Rests, Raises, Fails, Past, Registers, AtBlockEnd, AtLoopHead, Ends, Leaves}
use Rattle.ceu_tree.specs.Step.{stepped}
use Rattle.ceu_tree.specs.Run.{is_again, Served, Turned, Done, Failed, serve}
use Rattle.laws_bounds_turns.specs.TurnsLaws.{is_finished}

pub serve_stays : (K : Kernel) (n k : ℕ) (root : Body) (f : Focus Act) (w : World) → n ≤ k → is_finished (serve K n root f w) ≡ true → serve K k root f w ≡ serve K n root f w
unfolding serve
serve_stays K zero k root f w h e = absurd (false≢true e)
serve_stays K (suc n) zero root f w h e = absurd (omega (arith, h))
serve_stays K (suc n) (suc k) root f w h e = go (stepped K 0 root f w).outcome (λ g. serve_stays K n k root g u (omega (arith, h))) e
  where
    u : World
    u = (stepped K 0 root f w).world

    found : ℕ → Outcome → Served
    found b x = elim x [
      | Goes g ↦ elim (is_again (leaf g)) [ true ↦ Turned (plug g (Run 0 Again)) u | false ↦ serve K b root g u ]
      | Fails e r ↦ Failed e r u
      | Rests r ↦ Turned r u
      | Raises r ↦ Turned r u
      | _ ↦ Done u
    ]

    go : (x : Outcome) → ((g : Focus Act) → is_finished (serve K n root g u) ≡ true → serve K k root g u ≡ serve K n root g u) → is_finished (found n x) ≡ true → found k x ≡ found n x
    go (Goes g) ih e = inner (is_again (leaf g)) e
      where
        inner : (b : Bool) → is_finished (elim b [ true ↦ Turned (plug g (Run 0 Again)) u | false ↦ serve K n root g u ]) ≡ true
            → ◌≡◌ {A = Served} (elim b [ true ↦ Turned (plug g (Run 0 Again)) u | false ↦ serve K k root g u ]) (elim b [ true ↦ Turned (plug g (Run 0 Again)) u | false ↦ serve K n root g u ])
        inner true e = refl
        inner false e = ih g e
    go (Fails x r) ih e = refl
    go (Rests r) ih e = refl
    go (Raises r) ih e = refl
    go (Ends v) ih e = refl
    go Past ih e = refl
    go (Registers s) ih e = refl
    go AtBlockEnd ih e = refl
    go AtLoopHead ih e = refl
    go (Leaves node x) ih e = refl
