use Rattle.std.proofs.Common.{◌≡◌, ◌++◌, drop}
use Rattle.ceu_tree.specs.Needs.{frames_from}
use Rattle.ceu_slots.specs.Layout.{codes_places}
use Rattle.ceu_slots.proofs.plans.place_codes.Given as goal

abbrev pub invariant-loop-code : goal.invariant-loop-code
invariant-loop-code l = record {
  rows : l.initial.rows.items ++ codes_places l.plain l.initial.frames.items l.codes ≡ l.rows.items ++ codes_places l.plain l.frames.items (drop l.code-index l.codes);
  frames : frames_from l.plain l.initial.frames.items l.codes ≡ frames_from l.plain l.frames.items (drop l.code-index l.codes);
}
