-- Marks of pieces that are put together.
use Rattle.std.proofs.Common.{◌≡◌, ℕ, ◌+◌, ◌≤◌, List, ◌++◌, arith}
use Rattle.ceu_base.specs.declared.kinds.Pos.{Pos}
use Rattle.ceu_asm.specs.declared.line.Line.{Line}
use Rattle.ceu_asm.specs.Lines.{marks}
use Rattle.ceu_shape.specs.Pieces.{Draft, Stop, both, nothing, text, stopping, placed, placed_stopping}
use Rattle.ceu_asm.proofs.Following.{marks-append}
use Rattle.laws_code_placed.proofs.Below.{below}

module _ (label : ℕ) (number : Pos → ℕ) where
  -- From a first label on a draft marks each label that it takes once, and besides as much of this one as the two numbers are apart.
  pub record Adds (draft : Draft) (fresh less more : ℕ) : Type 0 where
    pub is : marks label ((draft fresh).lines number) + below label fresh + less ≡ below label (draft fresh).next + more
    pub grows : fresh ≤ (draft fresh).next

  pub adds_text : (ls : List Line) (fresh less more : ℕ) → marks label ls + less ≡ more → Adds (text ls) fresh less more
  adds_text ls fresh less more h = record { is = omega (arith, h); grows = omega arith }

  pub adds_stopping : (stops : List Stop) (ls : List Line) (fresh less more : ℕ) → marks label ls + less ≡ more → Adds (stopping stops ls) fresh less more
  adds_stopping stops ls fresh less more h = record { is = omega (arith, h); grows = omega arith }

  pub adds_placed : (p : Pos) (f : ℕ → List Line) (fresh less more : ℕ) → marks label (f (number p)) + less ≡ more → Adds (placed p f) fresh less more
  adds_placed p f fresh less more h = record { is = omega (arith, h); grows = omega arith }

  pub adds_placed_stopping : (stops : List Stop) (p : Pos) (f : ℕ → List Line) (fresh less more : ℕ) → marks label (f (number p)) + less ≡ more → Adds (placed_stopping stops p f) fresh less more
  adds_placed_stopping stops p f fresh less more h = record { is = omega (arith, h); grows = omega arith }

  pub adds_nothing : (fresh : ℕ) → Adds nothing fresh 0 0
  adds_nothing fresh = record { is = omega arith; grows = omega arith }

  pub adds_both : (a b : Draft) (fresh p q r s : ℕ) → Adds a fresh p q → Adds b (a fresh).next r s → Adds (both a b) fresh (p + r) (q + s)
  adds_both a b fresh p q r s f g = record { is = go f.is g.is; grows = omega (arith, f.grows, g.grows) }
    where
      go : marks label ((a fresh).lines number) + below label fresh + p ≡ below label (a fresh).next + q →
          marks label ((b (a fresh).next).lines number) + below label (a fresh).next + r ≡ below label (b (a fresh).next).next + s →
          marks label ((a fresh).lines number ++ (b (a fresh).next).lines number) + below label fresh + (p + r) ≡ below label (b (a fresh).next).next + (q + s)
      go x y = omega (arith, x, y, marks-append label ((a fresh).lines number) ((b (a fresh).next).lines number))

  pub adds_as : (d : Draft) (fresh p q r s : ℕ) → p + s ≡ q + r → Adds d fresh p q → Adds d fresh r s
  adds_as d fresh p q r s e f = record { is = omega (arith, f.is, e); grows = f.grows }
