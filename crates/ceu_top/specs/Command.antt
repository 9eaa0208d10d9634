-- The words of the command line.
use Rattle.std.specs.Prelude.{ℕ, List, [], ◌∷◌, Option, Some, None, if◌then◌else◌, String, string_bytes, bytes_eq, codes}
use Rattle.ceu_top.specs.declared.words.Mode.{Mode}
use Rattle.ceu_top.specs.declared.words.Mode.TheVariants as asked
use Rattle.ceu_top.specs.declared.words.Mode.TheVariants.{Run, Check, Tidy, Show}

-- the mode of a name
unfoldable pub mode_of : List ℕ → Option Mode
mode_of name = if bytes_eq name (codes "run") then Some Run else (if bytes_eq name (codes "check") then Some Check else (if bytes_eq name (codes "list") then Some asked.List else (if bytes_eq name (codes "tidy") then Some Tidy else (if bytes_eq name (codes "show") then Some Show else None))))

abbrev pub on_file : List ℕ → Option Mode → Option (Mode × List ℕ)
on_file file None = None
on_file file (Some mode) = Some (mode, file)

-- The mode and the file: three words are taken, the program's name, that of a mode and that of a file.
abbrev pub command_of : {A : Type 0} → List (String A) → Option (Mode × List ℕ)
command_of (program ∷ mode ∷ file ∷ []) = on_file (string_bytes file) (mode_of (string_bytes mode))
command_of words = None
