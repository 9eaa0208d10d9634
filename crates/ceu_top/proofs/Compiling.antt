-- The image of a program of one trail is a compiled one.
use Rattle.std.proofs.Common.{◌≡◌, sym, subst, ℕ, List, None}
use Rattle.ceu_bound.specs.PhaseB.{AreBounds}
use Rattle.ceu_bound.specs.declared.bounds.Bounds.{Bounds}
use Rattle.ceu_code.specs.declared.image.Image.{Image}
use Rattle.ceu_compile.specs.Images.{IsImageOf}
use Rattle.ceu_compile.specs.Programs.{IsProgram}
use Rattle.ceu_run.specs.Standing.{IsCompiled}
use Rattle.ceu_endings.proofs.Running.{one_turn_in_bounds}
use Rattle.ceu_forms.specs.Forms.{first_unbuilt}
use Rattle.ceu_forms.proofs.Same.{runs_single}
use Rattle.laws_promise_texts.specs.ImagesLaws.{IsSmall, joined}
use Rattle.laws_promise_texts.proofs.Made.{images_compiled}
use Rattle.ceu_single.specs.Single.{Single}
use Rattle.ceu_trail.specs.Compiled.{Compiled}
use Rattle.ceu_tree.specs.Costs.{bounds}
use Rattle.ceu_tree.specs.Proper.{Proper}
use Rattle.ceu_tree.specs.declared.kernel.Kernel.{Kernel}
use Rattle.ceu_top.proofs.Limits.{small}

pub image_compiled : (K : Kernel) (image : Image) → Proper K → Single K → IsSmall K → (i : IsImageOf K image)
    → Compiled image (joined i.places i.gates.first i.gates.count) i.places.size K
image_compiled K image proper single is_small i =
    subst (λ (x : Image). Compiled x (joined i.places i.gates.first i.gates.count) i.places.size K) (sym i.shaped)
    (images_compiled K i.places i.gates.first i.gates.count (bounds K).turns (bounds K).opens proper single is_small
    (record { lawful = i.lawful; places = i.laid; first_gates = i.firsts; gate_counts = i.counts }) (one_turn_in_bounds K))

pub compiled : (text : List ℕ) (K : Kernel) (b : Bounds) (image : Image) → IsProgram text K → Proper K → first_unbuilt K ≡ None → AreBounds K b → IsImageOf K image → IsCompiled image K
compiled text K b image program proper built bounded i =
    let single : Single K = (runs_single K built).single in
    let is_small : IsSmall K = small K program.3.2 in
    record {
      plan = joined i.places i.gates.first i.gates.count;
      width = i.places.size;
      compiled = image_compiled K image proper single is_small i;
      ends = record { proper = proper; single = single; keeps = bounded.keeps; weighs = is_small.light };
    }
