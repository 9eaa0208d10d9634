use Rattle.std.proofs.Common.{◌≡◌, ◌++◌, drop, length}
use Rattle.ceu_shape.specs.Shape as shape
use Rattle.ceu_codegen.specs.Conditions.{planned}
use Rattle.ceu_codegen.specs.Images.{CodesMarked}
use Rattle.ceu_codegen.proofs.image.code_rows.Given as goal

abbrev pub invariant-loop-code : goal.invariant-loop-code
invariant-loop-code g l =
    let plan = planned (g.P.Places.planned l.places) l.gates in
    record {
      rows : shape.code_rows plan l.sheet.lines 0 l.codes ≡ l.rows ++ shape.code_rows plan l.sheet.lines l.number (drop l.code-index l.codes);
      codes : CodesMarked l.sheet.lines (length l.gates.count) (drop l.code-index l.codes);
      number : l.number ≡ l.code-index;
    }
