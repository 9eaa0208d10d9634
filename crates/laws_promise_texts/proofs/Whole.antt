-- The image of a text whose program is one of one trail refines the program's kernel.
use Rattle.std.proofs.Common.{◌≡◌, refl, sym, subst, ℕ, List}
use Rattle.ceu_code.specs.declared.image.Image.{Image}
use Rattle.ceu_tree.specs.Costs.{bounds}
use Rattle.ceu_tree.specs.declared.kernel.Kernel.{Kernel}
use Rattle.ceu_shape.specs.Shape.{shape}
use Rattle.ceu_single.specs.Single.{Single}
use Rattle.ceu_endings.proofs.Running.{one_turn_in_bounds}
use Rattle.ceu_trail.specs.Compiled.{Compiled}
use Rattle.ceu_simulates.proofs.Whole.{compiled_programs_run, compiled_images_are_sound}
use Rattle.ceu_forms.proofs.Same.{runs_single}
use Rattle.laws_promise_texts.specs.ImagesLaws.{ArePlans, joined}
use Rattle.laws_promise_texts.proofs.Made.{images_compiled}
use Rattle.ceu_compile.specs.Programs.{IsProgram}
use Rattle.ceu_compile.specs.Images.{IsImageOf}
use Rattle.laws_promise_texts.specs.RefinesLaws.{HasSizes, Refines, ImagesRefineTexts, WhatRunsIsRefined}
use Rattle.laws_promise_texts.proofs.Programs.{proper_program, small_program, ending_program}

-- it has the sizes of the kernel
pub sized : (K : Kernel) (image : Image) → IsImageOf K image → HasSizes K image
unfolding shape
sized K image of =
    subst (λ (x : Image). HasSizes K x) (sym of.shaped) (record { turns = refl; levels = refl; depth = refl; gates = refl; slots = of.laid.whole })

-- it is a compiled image of the kernel
pub compiled : (text : List ℕ) (K : Kernel) (image : Image) → IsProgram text K → (of : IsImageOf K image) → Single K →
    Compiled image (joined of.places of.gates.first of.gates.count) of.places.size K
compiled text K image program of single =
    let plans : ArePlans K of.places of.gates.first of.gates.count = record { lawful = of.lawful; places = of.laid; first_gates = of.firsts; gate_counts = of.counts } in
    subst (λ (x : Image). Compiled x (joined of.places of.gates.first of.gates.count) of.places.size K) (sym of.shaped)
    (images_compiled K of.places of.gates.first of.gates.count (bounds K).turns (bounds K).opens (proper_program text K program) single (small_program text K program) plans (one_turn_in_bounds K))

pub refined : (text : List ℕ) (K : Kernel) (image : Image) → IsProgram text K → IsImageOf K image → Single K → Refines K image
refined text K image program of single =
    let P = joined of.places of.gates.first of.gates.count in
    let c = compiled text K image program of single in
    let ends = ending_program text K program single in
    record {
      sizes = sized K image of;
      sound = compiled_images_are_sound image P of.places.size K c ends;
      runs = λ xs valid. compiled_programs_run image P of.places.size K xs c ends valid;
    }

-- A text has one kernel.
pub images_refine_texts : ((text : List ℕ) (K L : Kernel) → IsProgram text K → IsProgram text L → K ≡ L) → ImagesRefineTexts
images_refine_texts once text K image program (L, other, of) single =
    refined text K image program (subst (λ M. IsImageOf M image) (once text L K other program) of) single

pub what_runs_is_refined : ImagesRefineTexts → WhatRunsIsRefined
what_runs_is_refined refine text K image program is built = refine text K image program is (runs_single K built).single
