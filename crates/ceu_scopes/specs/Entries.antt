-- The entries of a table of names as contracts see them: each name as the list of its bytes.
use Rattle.std.specs.Prelude.{ℕ, List, map, String, string_bytes}
use Rattle.ceu_scopes.specs.declared.known.Known.{Known}

module _ {A : Type 0} where
  abbrev pub pair : String A × Known → List ℕ × Known
  pair e = (string_bytes e.0, e.1)

  abbrev pub pairs : List (String A × Known) → List (List ℕ × Known)
  pairs es = map pair es
