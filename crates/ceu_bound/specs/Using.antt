-- How often a use of code uses a code.
use Rattle.std.specs.Prelude.{ℕ, if◌then◌else◌, ◌==◌}
use Rattle.ceu_paths.specs.declared.uses.CodeUse.{CodeUse}

abbrev pub times_used : ℕ → CodeUse → ℕ
times_used j u = if u.code == j then u.times else 0
