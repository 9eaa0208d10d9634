-- What a call of `ceu` comes to: its status, what it writes, and why.
use Rattle.std.specs.Prelude.{◌≡◌, ◌≢◌, ◌==◌, ◌⊎◌, ℕ, ◌<◌, ◌≤◌, ◌++◌, false, List, [], length, Option, Some, None, IfSome, MatchOption, String}
use Rattle.std.specs.Bool.{MatchBool}
use Rattle.ceu_base.specs.declared.kinds.Pos.{Pos}
use Rattle.ceu_base.specs.declared.kinds.Rule.{Rule}
use Rattle.ceu_base.specs.declared.kinds.Rule.TheVariants.{B0}
use Rattle.ceu_code.specs.Spelling.{LongestBeginning, Spells}
use Rattle.ceu_code.specs.declared.image.Image.{Image}
use Rattle.ceu_compile.specs.Programs.{IsProgram, Breaks}
use Rattle.ceu_compile.specs.Trees.{HasTree, HasNoTree}
use Rattle.ceu_run.specs.Printing.{run_text}
use Rattle.ceu_run.specs.Playing.{TakesLittle}
use Rattle.ceu_run.specs.declared.answers.Played.{Played}
use Rattle.ceu_run.specs.declared.answers.Played.TheVariants as played
use Rattle.ceu_io.specs.Bytes.{Appends, AppendsProperFront}
use Rattle.ceu_io.specs.Counts.{Quiet}
use Rattle.ceu_io.specs.Told.{WhereTold}
use Rattle.ceu_forms.specs.Forms.{first_unbuilt}
use Rattle.ceu_gates.specs.Ranges.{first_gate, gate_count, IsByNode}
use Rattle.ceu_gates.specs.declared.plan.GatePlan.{GatePlan}
use Rattle.ceu_lex.specs.declared.token.Token.{Token}
use Rattle.ceu_listing.specs.Lines.{listing_text}
use Rattle.ceu_print.specs.Statements.{program_text}
use Rattle.ceu_run.specs.Lines.{memory_line}
use Rattle.ceu_run.specs.Runs.{IsRun, IsCut, IsUpTo, lines_of}
use Rattle.ceu_listing.specs.Shown.{show_text}
use Rattle.ceu_slots.specs.Plans.{Planned, HasPlaces}
use Rattle.ceu_tree.specs.Costs.{bounds}
use Rattle.ceu_tree.specs.Needs.{memory}
use Rattle.ceu_tree.specs.declared.kernel.Kernel.{Kernel}
use Rattle.ceu_tree.specs.declared.source.Tree.{Tree}
use Rattle.ceu_top.specs.Command.{command_of}
use Rattle.ceu_top.specs.Fetching.{Files}
use Rattle.ceu_top.specs.Lines.{refusal_line, no_image_line}
use Rattle.ceu_top.specs.declared.status.Status.{Status}
use Rattle.ceu_top.specs.declared.status.Status.TheVariants.{Done, Refused, Words, Script, Fault, Read, Write, Memory, Absent, TooLong}
use Rattle.ceu_top.specs.declared.words.Mode.{Mode}
use Rattle.ceu_top.specs.declared.words.Mode.TheVariants as asked
use Rattle.ceu_top.specs.declared.words.Mode.TheVariants.{Run, Check, Tidy, Show}

-- ---- what is printed

-- The bytes of a program's memory, and the turns and levels of its reactions at most.
abbrev pub first_line : Kernel → List ℕ
first_line K = memory_line (memory false K) (bounds K).turns (bounds K).opens

-- The text breaks no rule, this is its kernel, and all its statements have forms that run.
abbrev pub IsRunnable : List ℕ → Kernel → Type 0
IsRunnable text K = IsProgram text K × (first_unbuilt K ≡ None)

-- The first rule that the text breaks; or it breaks none, and the first statement whose form doesn't run stands there.
abbrev pub RefusesToRun : List ℕ → Rule → Pos → Type 0
RefusesToRun text rule place = Breaks text rule place ⊎ ((K : Kernel) × IsProgram text K × (rule ≡ B0) × (first_unbuilt K ≡ Some place))

-- The rule and the place that a mode names: `run`, `check` and `list` ask all rules, `tidy` those on tokens and on grammar alone, `show`, which takes no
-- text, none.
abbrev pub Names : Mode → List ℕ → Rule → Pos → Type 0
Names Run text rule place = RefusesToRun text rule place
Names Check text rule place = Breaks text rule place
Names asked.List text rule place = Breaks text rule place
Names Tidy text rule place = HasNoTree text rule place
Names Show text rule place = ⊥

-- The run of a text on a script, by the reference semantics.
abbrev pub Runs : Played → (text script written : List ℕ) → Type 0
Runs answer text script written = (K : Kernel) × IsRunnable text K × IsRun answer (first_line K) K script written

-- The memory line of a text that breaks no rule.
abbrev pub Checks : (text written : List ℕ) → Type 0
Checks text written = (K : Kernel) × IsProgram text K × (written ≡ first_line K)

-- The listing of a kernel by plans of its slots, overlapped, and of its gates.
abbrev pub IsListing : Kernel → (lines : List ℕ) → Type 0
IsListing K lines = (places : Planned) × (gates : GatePlan) × HasPlaces false K places × IsByNode K (first_gate K) gates.first × IsByNode K (gate_count K) gates.count
    × (lines ≡ listing_text places gates K)

-- The memory line of a text that breaks no rule, and the listing of its kernel.
abbrev pub Lists : (text written : List ℕ) → Type 0
Lists text written = (K : Kernel) × (lines : List ℕ) × IsProgram text K × IsListing K lines × (written ≡ first_line K ++ lines)

-- The printed form of a text that breaks no rule on tokens and on grammar.
abbrev pub Tidies : (text written : List ℕ) → Type 0
Tidies text written = (tokens : List Token) × (tree : Tree) × HasTree text tokens tree × (written ≡ program_text tree)

-- The line of a refusal.
abbrev pub Refuses : Mode → (text written : List ℕ) → Type 0
Refuses mode text written = (rule : Rule) × (place : Pos) × Names mode text rule place × (written ≡ refusal_line rule place)

-- The listing of the image that the bytes spell.
abbrev pub Shows : (bytes written : List ℕ) → Type 0
Shows bytes written = (image : Image) × Spells image bytes × (written ≡ show_text image)

-- The bytes spell no image, and the first of them, so many at most, begin one.
abbrev pub RefusesBytes : (bytes written : List ℕ) → Type 0
RefusesBytes bytes written = (k : ℕ) × LongestBeginning k bytes × ((image : Image) → Spells image bytes → ⊥) × (written ≡ no_image_line k)

-- what is printed in a mode with a status; `run` alone looks at the script
abbrev pub Prints : Mode → Status → (text script written : List ℕ) → Type 0
Prints Run Done text script written = Runs played.Done text script written
Prints Run Script text script written = Runs played.Script text script written
Prints Run Fault text script written = Runs played.Fault text script written
Prints Check Done text script written = Checks text written
Prints asked.List Done text script written = Lists text written
Prints Tidy Done text script written = Tidies text written
Prints Show Done bytes script written = Shows bytes written
Prints Show Refused bytes script written = RefusesBytes bytes written
Prints mode Refused text script written = Refuses mode text written
Prints _ _ text script written = ⊥

-- The words ask in this mode for a file, whose text has at most 1,048,576 bytes and is this one.
abbrev pub IsText : {A : Type 0} → List (String A) → Files → Mode → List ℕ → Type 0
IsText words files mode text = (file : List ℕ) × (command_of words ≡ Some (mode, file)) × (files file ≡ Some text) × (length text ≤ 1048576)

abbrev pub IsAbsent : {A : Type 0} → List (String A) → Files → Type 0
IsAbsent words files = (mode : Mode) × (file : List ℕ) × (command_of words ≡ Some (mode, file)) × (files file ≡ None)

abbrev pub IsTooLong : {A : Type 0} → List (String A) → Files → Type 0
IsTooLong words files = (mode : Mode) × (file : List ℕ) × (text : List ℕ) × (command_of words ≡ Some (mode, file)) × (files file ≡ Some text) × (1048576 < length text)

-- What is defined for words, files and a script: the status and what is written.
abbrev pub Outcome : {A : Type 0} → Status → List (String A) → Files → (script written : List ℕ) → Type 0
Outcome Words words files script written = (command_of words ≡ None) × (written ≡ [])
Outcome Absent words files script written = IsAbsent words files × (written ≡ [])
Outcome TooLong words files script written = IsTooLong words files × (written ≡ [])
Outcome status words files script written = (mode : Mode) × (text : List ℕ) × IsText words files mode text × Prints mode status text script written

-- ---- clauses of `ceu`; what is said of contents holds where the objects tell them

abbrev pub number : Status → ℕ
number Done = 0
number Refused = 1
number Words = 2
number Script = 3
number Fault = 4
number Read = 5
number Write = 6
number Memory = 7
number Absent = 8
number TooLong = 9

-- P holds where the answer is that status.
abbrev pub On : Status → Status → Type 0 → Type 0
On wanted status P = MatchBool (number wanted == number status) P (Unit {0})

-- Where nothing fails, all tell and memory is found, the answer and what is written are those that are defined.
abbrev pub Headline : {A : Type 0} → Status → List (String A) → Option Files → Option (List ℕ) → (held now : Option (List ℕ)) → (s s' i i' o o' : ℕ) → Type 0
Headline status words files left held now s s' i i' o o' = IfSome files (λ fs. IfSome left (λ script. IfSome held (λ before.
    Quiet s s' → Quiet i i' → Quiet o o' → status ≢ Memory → (written : List ℕ) × Outcome status words fs script written × Appends written held now)))

-- What is defined for this status was printed whole.
abbrev pub IsWhole : {A : Type 0} → Status → List (String A) → Option Files → Option (List ℕ) → (held now : Option (List ℕ)) → Type 0
IsWhole status words files left held now = IfSome files (λ fs. IfSome left (λ script.
    (mode : Mode) × (text : List ℕ) × (written : List ℕ) × IsText words fs mode text × Prints mode status text script written × Appends written held now))

-- A proper prefix of the text of a run, with each bound on the steps of a reaction that is large enough.
abbrev pub BeginsRun : Kernel → (script : List ℕ) → (held now : Option (List ℕ)) → Type 0
BeginsRun K script held now = (bound : ℕ) × ((n : ℕ) → bound ≤ n → AppendsProperFront (first_line K ++ run_text false K.outputs K n (lines_of K script)) held now)

-- A proper prefix of what is defined for the text was printed.
abbrev pub IsFront : Mode → (text script : List ℕ) → (held now : Option (List ℕ)) → Type 0
IsFront mode text script held now =
    ((whole : Status) × (written : List ℕ) × Prints mode whole text script written × AppendsProperFront written held now)
    ⊎ ((K : Kernel) × (mode ≡ Run) × IsRunnable text K × BeginsRun K script held now)

abbrev pub IsCutShort : {A : Type 0} → List (String A) → Option Files → Option (List ℕ) → (held now : Option (List ℕ)) → Type 0
IsCutShort words files left held now = IfSome files (λ fs. IfSome left (λ script.
    (mode : Mode) × (text : List ℕ) × IsText words fs mode text × IsFront mode text script held now))

-- The run was printed up to some whole lines of the script, without a status line, and at most 4,096 bytes were taken from the start of the last
-- of these lines.
abbrev pub IsRunUpTo : {A : Type 0} → List (String A) → Files → (script rest : List ℕ) → (held now : Option (List ℕ)) → Type 0
IsRunUpTo words files script rest held now = (text : List ℕ) × (K : Kernel) × (written : List ℕ)
    × IsText words files Run text × IsRunnable text K × IsUpTo (first_line K) K script (length rest) written × Appends written held now

-- Nothing was printed, or a run up to some whole lines.
abbrev pub IsStopped : {A : Type 0} → List (String A) → Option Files → (left left' held now : Option (List ℕ)) → Type 0
IsStopped words files left left' held now =
    (now ≡ held) ⊎ IfSome files (λ fs. WhereTold left left' (λ script rest. IsRunUpTo words fs script rest held now))

-- What a run takes of the script: at most 4,096 bytes from the start of a line, where the program waits after the lines before it. After `Write`
-- the lines of boot and of the commands before it are written instead.
abbrev pub TakesFor : Status → Kernel → (script rest : List ℕ) → (held now : Option (List ℕ)) → Type 0
TakesFor Done K script rest held now = TakesLittle K (lines_of K script) script (length rest)
TakesFor Script K script rest held now = TakesLittle K (lines_of K script) script (length rest)
TakesFor Fault K script rest held now = TakesLittle K (lines_of K script) script (length rest)
TakesFor Read K script rest held now = TakesLittle K (lines_of K script) script (length rest)
TakesFor Write K script rest held now = IsCut (first_line K) K script (length rest) held now
TakesFor _ K script rest held now = ⊥

-- Nothing of the script was taken, or a run took so much.
abbrev pub IsTaken : {A : Type 0} → Status → List (String A) → Option Files → (left left' held now : Option (List ℕ)) → Type 0
IsTaken status words files left left' held now = WhereTold left left' (λ script rest. (rest ≡ script)
    ⊎ IfSome files (λ fs. (text : List ℕ) × (K : Kernel) × IsText words fs Run text × IsRunnable text K × TakesFor status K script rest held now))

-- In every other mode than `run`.
abbrev pub UnlessRun : Mode → Type 0 → Type 0
UnlessRun Run P = Unit {0}
UnlessRun _ P = P

-- P holds where the words are no command, or ask for another mode than `run`.
abbrev pub UnlessRunning : {A : Type 0} → List (String A) → Type 0 → Type 0
UnlessRunning words P = MatchOption (command_of words) P (λ command. UnlessRun command.0 P)

-- With these answers nothing is written.
abbrev pub IsUnwritten : Status → Type 0 → Type 0
IsUnwritten Words P = P
IsUnwritten Memory P = P
IsUnwritten Absent P = P
IsUnwritten TooLong P = P
IsUnwritten _ P = Unit {0}

-- Every answer but `Read` and `Write` comes only where no count rose.
abbrev pub UnlessFailed : Status → Type 0 → Type 0
UnlessFailed Read P = Unit {0}
UnlessFailed Write P = Unit {0}
UnlessFailed _ P = P
