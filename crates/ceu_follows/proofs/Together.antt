-- What follows what: configurations that agree, and commands one after the other.
use Rattle.std.proofs.Common.{◌≡◌, refl, sym, ap, ◌∙◌, ℕ, ◌+◌, List, [], ◌++◌, append_assoc, append-nil, arith}
use Rattle.ceu_base.specs.declared.kinds.Mark.{Mark}
use Rattle.ceu_code.specs.declared.image.Image.{Image}
use Rattle.ceu_isa.specs.Reactions as machine
use Rattle.ceu_isa.specs.Commands.{marks_of}
use Rattle.ceu_tree.specs.declared.kernel.Kernel.{Kernel}
use Rattle.ceu_tree.specs.Run.{Config, Waiting, world_of}
use Rattle.ceu_shape.specs.Plans.{Plan}
use Rattle.ceu_follows.specs.Reactions.{Agrees, SameAdded, Follows}

module _ (image : Image) (P : Plan) (width : ℕ → ℕ) (K : Kernel) where
  abbrev pub Follow : List Mark → List Mark → (ℕ → Config) → machine.Config → Type 0
  Follow = Follows image P width K

  -- nothing is done on both sides
  pub stays : (c : Config) (d : machine.Config) → Agrees image P width K c d → Follow (world_of c).marks (marks_of d) (λ n. c) d
  stays c d a = record { config = c; bound = 0; comes = λ n le. refl; agrees = a; marks = record { added = []; semantics = sym (append-nil (world_of c).marks); machine = sym (append-nil (marks_of d)) } }

  pub as_well : (before had : List Mark) (f g : ℕ → Config) (d : machine.Config) → ((n : ℕ) → g n ≡ f n) → Follow before had f d → Follow before had g d
  as_well before had f g d e x = record { config = x.config; bound = x.bound; comes = λ n le. e n ∙ x.comes n le; agrees = x.agrees; marks = x.marks }

  pub added_then : (a b c had mid has : List Mark) → SameAdded a b had mid → SameAdded b c mid has → SameAdded a c had has
  added_then a b c had mid has x y = record {
    added = x.added ++ y.added;
    semantics = y.semantics ∙ ap (λ (l : List Mark). l ++ y.added) x.semantics ∙ append_assoc a x.added y.added;
    machine = y.machine ∙ ap (λ (l : List Mark). l ++ y.added) x.machine ∙ append_assoc had x.added y.added;
  }

  pub follows_then : (before had : List Mark) (f g : ℕ → Config) (next : ℕ → Config → Config) (d e : machine.Config) → (x : Follow before had f d) → ((n : ℕ) → g n ≡ next n (f n))
      → Follow (world_of x.config).marks (marks_of d) (λ n. next n x.config) e → Follow before had g e
  follows_then before had f g next d e x is y = record {
    config = y.config;
    bound = x.bound + y.bound;
    comes = λ n le. is n ∙ ap (λ (c : Config). next n c) (x.comes n (omega (arith, le))) ∙ y.comes n (omega (arith, le));
    agrees = y.agrees;
    marks = added_then before (world_of x.config).marks (world_of y.config).marks had (marks_of d) (marks_of e) x.marks y.marks;
  }

  pub without_marks : (c : Config) (bytes : List ℕ) (ms ns : List Mark) → Agrees image P width K c (machine.Waits (record { bytes = bytes; marks = ms })) → Agrees image P width K c (machine.Waits (record { bytes = bytes; marks = ns }))
  without_marks (Waiting r w) bytes ms ns h = record { kept = h.kept; fits = h.fits; are_bytes = h.are_bytes; top_is = h.top_is; stands = h.stands }
  without_marks c bytes ms ns h = absurd h
