-- What a loop that the code has found stands for.
use Rattle.ceu_paths.specs.Loops.{TrailLoop, trail_loop}
use Rattle.ceu_paths.specs.declared.loops.FoundLoop.{FoundLoop}

abbrev pub seen : FoundLoop → TrailLoop
seen l = trail_loop l.node l.pos l.kind.now l.body.now
