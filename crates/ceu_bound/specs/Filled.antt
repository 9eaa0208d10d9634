-- What the tables of the code stand for once they are filled.
use Rattle.std.specs.Prelude.{◌≡◌, List, [], length}
use Rattle.ceu_tree.specs.declared.kernel.Kernel.{Kernel}
use Rattle.ceu_tree.specs.Paths.{passes_from}
use Rattle.ceu_tree.specs.Costs.{Cost, emissions, enters_from, stays_from}
use Rattle.ceu_bound.specs.declared.tables.Tables.{Tables}
use Rattle.ceu_bound.specs.Parts.{costs, SameTables}

abbrev pub emitting : Kernel → List Cost
emitting K = emissions K (length K.events)

abbrev pub entering : Kernel → List Cost
entering K = enters_from (passes_from [] K.codes) (emitting K) [] K.codes

abbrev pub staying : Kernel → List Cost
staying K = stays_from (passes_from [] K.codes) (emitting K) (entering K) [] K.codes

pub record AreTables (K : Kernel) (T : Tables) : Type 0 where
  pub passes : T.passing.items ≡ passes_from [] K.codes
  pub emissions_cost : SameTables T.part (costs T.events.items) (emitting K)
  pub codes_enter : SameTables T.part (costs T.entering.items) (entering K)
  pub codes_stay : SameTables T.part (costs T.staying.items) (staying K)
