-- What the image of a text has of the text's kernel, and that its runs are those of the reference semantics.
use Rattle.std.specs.Prelude.{◌≡◌, ℕ, false, List, None}
use Rattle.std.specs.List.{AllByRecursion}
use Rattle.ceu_code.specs.declared.image.Image.{Image}
use Rattle.ceu_isa.specs.Commands.{run, marks_of}
use Rattle.ceu_isa.specs.Safety.{IsCommand, IsSound}
use Rattle.ceu_tree.specs.Costs.{bounds}
use Rattle.ceu_tree.specs.declared.command.Command.{Command}
use Rattle.ceu_tree.specs.declared.kernel.Kernel.{Kernel}
use Rattle.ceu_tree.specs.Depth.{depth}
use Rattle.ceu_tree.specs.Needs.{gates, slots}
use Rattle.ceu_tree.specs.Run.{Runs}
use Rattle.ceu_single.specs.Single.{Single}
use Rattle.ceu_follows.specs.Laws.{outcome_of}
use Rattle.ceu_forms.specs.Forms.{first_unbuilt}
use Rattle.ceu_compile.specs.Programs.{IsProgram}
use Rattle.ceu_compile.specs.Images.{IsImage}

-- the turns and the levels of the kernel's reactions at most, its evaluation cells, its gates, and the bytes of its slots
pub record HasSizes (K : Kernel) (image : Image) : Type 0 where
  pub turns : image.turns ≡ (bounds K).turns
  pub levels : image.levels ≡ (bounds K).opens
  pub depth : image.depth ≡ depth K
  pub gates : image.gates ≡ gates K
  pub slots : image.slots ≡ slots false K

-- whatever commands of the image come, the machine's run has the marks and the outcome of the run by the reference semantics
abbrev pub RunsAlike : Kernel → Image → Type 0
RunsAlike K image = (xs : List Command) → AllByRecursion (IsCommand image) xs → Runs K xs (marks_of (run image xs)) (outcome_of (run image xs))

-- nothing is done in a run of it that isn't allowed, and the runs are those of the kernel
pub record Refines (K : Kernel) (image : Image) : Type 0 where
  pub sizes : HasSizes K image
  pub sound : IsSound image
  pub runs : RunsAlike K image

-- The image of a text whose program is one of one trail refines the program's kernel.
abbrev pub ImagesRefineTexts : Type 0
ImagesRefineTexts = (text : List ℕ) (K : Kernel) (image : Image) → IsProgram text K → IsImage text image → Single K → Refines K image

-- So does that of a text in whose program no statement is found whose form doesn't run.
abbrev pub WhatRunsIsRefined : Type 0
WhatRunsIsRefined = (text : List ℕ) (K : Kernel) (image : Image) → IsProgram text K → IsImage text image → first_unbuilt K ≡ None → Refines K image
