-- A world that holds no more than another stands where that one does.
use Rattle.std.proofs.Common.{◌≡◌, refl, sym, ◌∙◌, subst, ℕ, ◌+◌, true, false, List, [], ◌∷◌, Some}
use Rattle.ceu_base.specs.declared.kinds.Mark.{Mark}
use Rattle.ceu_code.specs.declared.image.Image.{Image}
use Rattle.ceu_tree.specs.declared.kernel.Kernel.{Kernel}
use Rattle.ceu_tree.specs.declared.kernel.KBlock.{KBlock, out-KBlock}
use Rattle.ceu_tree.specs.declared.kernel.KDecl.{KDecl}
use Rattle.ceu_tree.specs.Residual.{Body, no_instance}
use Rattle.ceu_tree.specs.World.{World, Cell, Holds, NotSet, Names, look, is_among, marked, forget, forget_declared}
use Rattle.ceu_tree.specs.Abort.{closed, instances_aborted}
use Rattle.ceu_shape.specs.Plans.{Plan}
use Rattle.laws_machine_layout.specs.Views.{View, view, Home}
use Rattle.laws_machine_layout.specs.Values.{CellStands}
use Rattle.ceu_trail.specs.Turning.{home, MemoryHolds}
use Rattle.ceu_within.proofs.Looks.{forgotten}

-- u has at most the values of w, and all else that w has but marks
pub record Fades (w u : World) : Type 0 where
  pub values : (body : Body) (slot : ℕ) (c : Cell) → look body slot u.values ≡ Some c → look body slot w.values ≡ Some c
  pub living : u.living ≡ w.living
  pub given : u.given ≡ w.given
  pub fault : u.fault ≡ w.fault

cell_fades : (h : Body → Home) (v : View) (w u : World) (c : Cell) (width at : ℕ) → u.living ≡ w.living → CellStands h v w c width at → CellStands h v u c width at
cell_fades h v w u (Holds value) width at e s = s
cell_fades h v w u NotSet width at e s = s
cell_fades h v w u (Names n) width at e s =
    record {
      number_is = s.number_is;
      is_set = s.is_set;
      lives = λ q. s.lives (subst (λ (l : List ℕ). is_among n l ≡ true) e q);
      is_gone = λ q. s.is_gone (subst (λ (l : List ℕ). is_among n l ≡ false) e q);
    }

pub holds_fades : (image : Image) (P : Plan) (width : ℕ → ℕ) (K : Kernel) (w u : World) (bytes : List ℕ) → Fades w u → MemoryHolds image P width K w bytes → MemoryHolds image P width K u bytes
holds_fades image P width K w u bytes f m = record {
  fits = m.fits;
  are_bytes = m.are_bytes;
  state_is = m.state_is;
  top_is = m.top_is;
  given_is = m.given_is ∙ sym f.given;
  free = m.free;
  values = record {
    held = λ body slot c e. cell_fades (home image) (view image bytes) w u c (width slot) ((home image body).frame + P.offset slot) f.living (m.values.held body slot c (f.values body slot c e));
  };
  unfaulted = f.fault ∙ m.unfaulted;
}

pub marked_fades : (x : Mark) (w : World) → Fades w (marked x w)
marked_fades x w = record { values = λ body slot c e. e; living = refl; given = refl; fault = refl }

pub fades_itself : (w : World) → Fades w w
fades_itself w = record { values = λ body slot c e. e; living = refl; given = refl; fault = refl }

pub fades_then : (w u v : World) → Fades w u → Fades u v → Fades w v
fades_then w u v a b = record { values = λ body slot c e. a.values body slot c (b.values body slot c e); living = b.living ∙ a.living; given = b.given ∙ a.given; fault = b.fault ∙ a.fault }

pub forget_fades : (here : Body) (y : ℕ) (w : World) → Fades w (forget here y w)
forget_fades here y w = record { values = λ body slot c e. (forgotten body slot here y c w.values e).0; living = refl; given = refl; fault = refl }

pub declared_fades : (here : Body) (ds : List KDecl) (w : World) → Fades w (forget_declared here ds w)
declared_fades here [] w = fades_itself w
declared_fades here (d ∷ ds) w = fades_then w (forget here d.slot w) (forget_declared here ds (forget here d.slot w)) (forget_fades here d.slot w) (declared_fades here ds (forget here d.slot w))

-- a block that ends has no finalizers and no instances
pub closed_fades : (b : KBlock) (here : Body) (w : World) → Fades w (closed b [] no_instance here w)
unfolding instances_aborted
closed_fades b here w = declared_fades here (out-KBlock b).decls w

pub marks_declared : (here : Body) (ds : List KDecl) (w : World) → (forget_declared here ds w).marks ≡ w.marks
marks_declared here [] w = refl
marks_declared here (d ∷ ds) w = marks_declared here ds (forget here d.slot w)
