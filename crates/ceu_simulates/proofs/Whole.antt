-- Whole runs of compiled programs of one trail.
use Rattle.ceu_follows.proofs.Runs.{run_done, image_is_sound}
use Rattle.ceu_simulates.specs.Laws.{CompiledProgramsRun, CompiledImagesAreSound}
use Rattle.ceu_simulates.proofs.Steps.{steps_are_done}

pub compiled_programs_run : CompiledProgramsRun
compiled_programs_run image P width K xs compiled ends valid = run_done image P width K compiled ends steps_are_done xs valid

pub compiled_images_are_sound : CompiledImagesAreSound
compiled_images_are_sound image P width K compiled ends = image_is_sound image P width K compiled ends steps_are_done
