-- What the parts of `ceu` answer, from the last one up.
use Rattle.std.specs.Prelude.{◌≡◌, ◌⊎◌, ℕ, ◌≤◌, List, length, Option, Some, None, IfSome, Result, Ok, Err, String}
use Rattle.ceu_run.specs.Playing.{PlayCause}
use Rattle.ceu_run.specs.declared.answers.Played.{Played}
use Rattle.ceu_run.specs.declared.answers.Played.TheVariants as played
use Rattle.ceu_io.specs.Bytes.{Appends, AppendsProperFront}
use Rattle.ceu_io.specs.Counts.{Rose}
use Rattle.ceu_io.specs.Told.{WhereTold}
use Rattle.ceu_io.specs.declared.outside.Failed.{Failed}
use Rattle.ceu_run.specs.Runs.{RunPrints}
use Rattle.ceu_tree.specs.declared.kernel.Kernel.{Kernel}
use Rattle.ceu_top.specs.Command.{command_of}
use Rattle.ceu_top.specs.Fetching.{Files, HasFetched}
use Rattle.ceu_top.specs.Outcomes.{first_line, IsRunnable, Prints}
use Rattle.ceu_top.specs.declared.status.Status.{Status}
use Rattle.ceu_top.specs.declared.status.Status.TheVariants.{Done, Refused, Words, Script, Fault, Read, Write, Memory}
use Rattle.ceu_top.specs.declared.words.Mode.{Mode}
use Rattle.ceu_top.specs.declared.words.Mode.TheVariants.{Run}

abbrev pub status_of : Result (Unit {0}) Failed → Status → Status
status_of (Ok u) whole = whole
status_of (Err e) whole = Write

abbrev pub played_status : Played → Status
played_status played.Done = Done
played_status played.Fault = Fault
played_status played.Script = Script
played_status played.Read = Read
played_status played.Write = Write

-- The text was written whole and the answer is `whole`, or a proper prefix was written and the sink failed.
abbrev pub Written : (text : List ℕ) → (whole status : Status) → (held now : Option (List ℕ)) → (o o' : ℕ) → Type 0
Written text whole status held now o o' =
    ((status ≡ whole) × Appends text held now × (o' ≡ o)) ⊎ ((status ≡ Write) × AppendsProperFront text held now × (o ≤ o') × Rose o o')

pub record IsWritten (text : List ℕ) (whole status : Status) (held now : Option (List ℕ)) (o o' : ℕ) : Type 0 where
  pub is : Written text whole status held now o o'

-- ---- what is known before the first byte

-- What is defined whatever the script is printed whole.
pub record Printed (mode : Mode) (whole : Status) (text : List ℕ) (held now : Option (List ℕ)) (o o' : ℕ) : Type 0 where
  pub line : List ℕ
  pub defined : (script : List ℕ) → Prints mode whole text script line
  pub written : Appends line held now
  pub out : o' ≡ o

-- The sink failed on it.
pub record Broken (mode : Mode) (text : List ℕ) (held now : Option (List ℕ)) (o o' : ℕ) : Type 0 where
  pub whole : Status
  pub line : List ℕ
  pub defined : (script : List ℕ) → Prints mode whole text script line
  pub front : AppendsProperFront line held now
  pub rises : o ≤ o'
  pub rose : Rose o o'

abbrev pub PrintAnswer : Mode → Status → (text : List ℕ) → (held now : Option (List ℕ)) → (o o' : ℕ) → Type 0
PrintAnswer mode Done text held now o o' = Printed mode Done text held now o o'
PrintAnswer mode Refused text held now o o' = Printed mode Refused text held now o o'
PrintAnswer mode Write text held now o o' = Broken mode text held now o o'
PrintAnswer mode Memory text held now o o' = (now ≡ held) × (o' ≡ o)
PrintAnswer mode _ text held now o o' = ⊥

pub record IsPrintAnswer (mode : Mode) (status : Status) (text : List ℕ) (held now : Option (List ℕ)) (o o' : ℕ) : Type 0 where
  pub is : PrintAnswer mode status text held now o o'

-- The input is as it was.
pub record Unread (left left' : Option (List ℕ)) (i i' : ℕ) : Type 0 where
  pub bytes : left' ≡ left
  pub input : i' ≡ i

-- ---- a run

pub record Ran (mode : Mode) (answer : Played) (text : List ℕ) (left left' held now : Option (List ℕ)) (i i' o o' : ℕ) : Type 0 where
  pub in_run : mode ≡ Run
  pub kernel : Kernel
  pub runnable : IsRunnable text kernel
  pub told : WhereTold left left' (λ old new. RunPrints answer (first_line kernel) kernel old (length new) held now)
  pub cause : PlayCause answer i i' o o'

abbrev pub RunAnswer : Mode → Status → (text : List ℕ) → (left left' held now : Option (List ℕ)) → (i i' o o' : ℕ) → Type 0
RunAnswer mode Done text left left' held now i i' o o' = Ran mode played.Done text left left' held now i i' o o'
RunAnswer mode Script text left left' held now i i' o o' = Ran mode played.Script text left left' held now i i' o o'
RunAnswer mode Fault text left left' held now i i' o o' = Ran mode played.Fault text left left' held now i i' o o'
RunAnswer mode Read text left left' held now i i' o o' = Ran mode played.Read text left left' held now i i' o o'
RunAnswer mode Write text left left' held now i i' o o' = Ran mode played.Write text left left' held now i i' o o'
RunAnswer mode _ text left left' held now i i' o o' = ⊥

-- ---- with a text, with a file's name, with the words

abbrev pub TextAnswer : Mode → Status → (text : List ℕ) → (left left' held now : Option (List ℕ)) → (i i' o o' : ℕ) → Type 0
TextAnswer mode status text left left' held now i i' o o' =
    RunAnswer mode status text left left' held now i i' o o' ⊎ (PrintAnswer mode status text held now o o' × Unread left left' i i')

pub record IsTextAnswer (mode : Mode) (status : Status) (text : List ℕ) (left left' held now : Option (List ℕ)) (i i' o o' : ℕ) : Type 0 where
  pub is : TextAnswer mode status text left left' held now i i' o o'

-- The text wasn't fetched, or it was.
pub record Unfetched (status : Status) (file : List ℕ) (files : Option Files) (left left' held now : Option (List ℕ)) (s s' i i' o o' : ℕ) : Type 0 where
  pub why : HasFetched files file s s' (Err status)
  pub unwritten : now ≡ held
  pub unread : Unread left left' i i'
  pub out : o' ≡ o

pub record Fetched (mode : Mode) (status : Status) (file : List ℕ) (files : Option Files) (left left' held now : Option (List ℕ)) (s s' i i' o o' : ℕ) : Type 0 where
  pub text : List ℕ
  pub text_is : IfSome files (λ fs. fs file ≡ Some text)
  pub within : length text ≤ 1048576
  pub shelf : s' ≡ s
  pub answer : TextAnswer mode status text left left' held now i i' o o'

abbrev pub FileAnswer : Mode → Status → (file : List ℕ) → Option Files → (left left' held now : Option (List ℕ)) → (s s' i i' o o' : ℕ) → Type 0
FileAnswer mode status file files left left' held now s s' i i' o o' =
    Unfetched status file files left left' held now s s' i i' o o' ⊎ Fetched mode status file files left left' held now s s' i i' o o'

pub record IsFileAnswer (mode : Mode) (status : Status) (file : List ℕ) (files : Option Files) (left left' held now : Option (List ℕ)) (s s' i i' o o' : ℕ) : Type 0 where
  pub is : FileAnswer mode status file files left left' held now s s' i i' o o'

-- Nothing was done for these words.
pub record NoCommand (status : Status) (left left' held now : Option (List ℕ)) (s s' i i' o o' : ℕ) : Type 0 where
  pub words : status ≡ Words
  pub unwritten : now ≡ held
  pub unread : Unread left left' i i'
  pub shelf : s' ≡ s
  pub out : o' ≡ o

abbrev pub Answer : {A : Type 0} → Status → List (String A) → Option Files → (left left' held now : Option (List ℕ)) → (s s' i i' o o' : ℕ) → Type 0
Answer status words files left left' held now s s' i i' o o' =
    ((command_of words ≡ None) × NoCommand status left left' held now s s' i i' o o')
    ⊎ ((mode : Mode) × (file : List ℕ) × (command_of words ≡ Some (mode, file)) × FileAnswer mode status file files left left' held now s s' i i' o o')

pub record IsAnswer {A : Type 0} (status : Status) (words : List (String A)) (files : Option Files) (left left' held now : Option (List ℕ)) (s s' i i' o o' : ℕ) : Type 0 where
  pub is : Answer status words files left left' held now s s' i i' o o'
