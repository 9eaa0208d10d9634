-- What programs run.
use Rattle.std.specs.Prelude.{◌≡◌, ◌≤◌, true, length, None}
use Rattle.ceu_single.specs.Single.{Single}
use Rattle.ceu_trace.specs.Lines.{short_names}
use Rattle.ceu_tree.specs.declared.kernel.Kernel.{Kernel}
use Rattle.ceu_tree.specs.Needs.{gates}
use Rattle.ceu_forms.specs.Forms.{first_unbuilt}

-- one of one trail, whose outputs have names of at most 64 bytes, with at most 65,535 inputs
pub record IsBuilt (K : Kernel) : Type 0 where
  pub single : Single K
  pub short : short_names K.outputs ≡ true
  pub few : length K.inputs ≤ 65535

-- Where no statement is found whose form doesn't run, the program is one of one trail.
abbrev pub WhatRunsIsSingle : Type 0
WhatRunsIsSingle = (K : Kernel) → first_unbuilt K ≡ None → IsBuilt K

-- In such a program none is found.
abbrev pub SinglesRun : Type 0
SinglesRun = (K : Kernel) → IsBuilt K → first_unbuilt K ≡ None

-- It has one gate, so that a turn finds the next one at once, however many statements wait one behind the other.
abbrev pub SinglesHaveOneGate : Type 0
SinglesHaveOneGate = (K : Kernel) → Single K → gates K ≡ 1
