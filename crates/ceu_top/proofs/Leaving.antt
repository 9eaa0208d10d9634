-- From the machine that a run leaves to the one that the whole does.
use Rattle.std.proofs.Common.{◌≡◌, sym, subst, inl, inr, ℕ, List, Option, Some, None, Ok, Err}
use Rattle.std.specs.Prelude.{IfSome, MatchOption, String}
use Rattle.std.specs.Global.{Vec}
use Rattle.ceu_code.specs.declared.image.Image.{Image}
use Rattle.ceu_compile.specs.Images.{IsImageOf}
use Rattle.ceu_compile.specs.Programs.{IsProgram}
use Rattle.ceu_run.specs.Printing.{commands_of}
use Rattle.ceu_run.specs.declared.answers.Played.{Played}
use Rattle.ceu_run.specs.declared.answers.Played.TheVariants as played
use Rattle.ceu_run.specs.Leaves as run
use Rattle.ceu_run.specs.Leaves.{IsOf, Leaves}
use Rattle.ceu_react.specs.Sessions.{Seen}
use Rattle.ceu_run.specs.Runs.{lines_of}
use Rattle.ceu_tree.specs.declared.kernel.Kernel.{Kernel}
use Rattle.ceu_top.specs.Answering.{played_status, Written, IsWritten}
use Rattle.ceu_top.specs.Command.{command_of}
use Rattle.ceu_top.specs.Fetching.{Files, HasFetched, IsFetch}
use Rattle.ceu_top.specs.Left.{IsMachineOf, AfterRun, IfRun, IsTextLeft, IsFileLeft, IsLeft}
use Rattle.ceu_top.specs.declared.status.Status.{Status}
use Rattle.ceu_top.specs.declared.status.Status.TheVariants.{Done, Refused, Words, Script, Fault, Read, Write, Memory, Absent, TooLong}
use Rattle.ceu_top.specs.declared.words.Mode.{Mode}
use Rattle.ceu_top.specs.declared.words.Mode.TheVariants as asked
use Rattle.ceu_top.specs.declared.words.Mode.TheVariants.{Run, Check, Tidy, Show}
use Rattle.ceu_top.proofs.Answering.{told_old, if_some_map}

-- ---- a run

ran_left : (text : List ℕ) (K : Kernel) (image : Image) (old now : Option (List ℕ)) (left : Option Seen) → IsProgram text K → IsImageOf K image → run.IsLeft image K old now left
    → (s : Seen) × (left ≡ Some s) × IfSome old (λ bytes. IsMachineOf text bytes s)
ran_left text K image old now left program of l = (
  l.session,
  l.is,
  if_some_map old (λ bytes. IsOf image (commands_of (lines_of K bytes)) l.session) (λ bytes. IsMachineOf text bytes l.session)
      (λ bytes h. (K, program, subst (λ (i : Image). IsImageOf K i) (sym h.image_is) of, h.has_run))
      (told_old old now (λ bytes. IsOf image (commands_of (lines_of K bytes)) l.session) l.has_run),
)

played_left : (answer : Played) (text : List ℕ) (K : Kernel) (image : Image) (old now : Option (List ℕ)) (left : Option Seen) → IsProgram text K → IsImageOf K image → Leaves (Ok answer) image K old now left
    → IsTextLeft Run (played_status answer) text old left
played_left played.Done text K image old now left program of l = ran_left text K image old now left program of l
played_left played.Fault text K image old now left program of l = ran_left text K image old now left program of l
played_left played.Script text K image old now left program of l = ran_left text K image old now left program of l
played_left played.Read text K image old now left program of l = l
played_left played.Write text K image old now left program of l = l

pub run_left : (answer : Played) (status : Status) (text : List ℕ) (K : Kernel) (image : Image) (old now : Option (List ℕ)) (left : Option Seen) → IsProgram text K → IsImageOf K image → Leaves (Ok answer) image K old now left
    → status ≡ played_status answer → IsTextLeft Run status text old left
run_left answer status text K image old now left program of l e = subst (λ s. IsTextLeft Run s text old left) (sym e) (played_left answer text K image old now left program of l)

-- ---- with a text

written_left : (P : Seen → Type 0) (text : List ℕ) (status : Status) (held now : Option (List ℕ)) (o o' : ℕ) (left : Option Seen) → Written text Refused status held now o o' → left ≡ None → AfterRun status P left
written_left P text status held now o o' left (inl w) none = subst (λ s. AfterRun s P left) (sym w.0) none
written_left P text status held now o o' left (inr w) none = subst (λ s. AfterRun s P left) (sym w.0) none

-- a refusal leaves none, written or not
pub refused_left : {line : List ℕ} {status : Status} {held now : Option (List ℕ)} {o o' : ℕ} (text : List ℕ) (script : Option (List ℕ)) (left : Option Seen) → IsWritten line Refused status held now o o' → left ≡ None
    → IsTextLeft Run status text script left
refused_left {line = line} {status = status} {held = held} {now = now} {o = o} {o' = o'} text script left w none = written_left (λ s. IfSome script (λ bytes. IsMachineOf text bytes s)) line status held now o o' left w.is none

-- ---- with a file's name

after_map : (status : Status) (P Q : Seen → Type 0) (left : Option Seen) → ((s : Seen) → P s → Q s) → AfterRun status P left → AfterRun status Q left
after_map Done P Q left f h = (h.0, h.1, f h.0 h.2)
after_map Script P Q left f h = (h.0, h.1, f h.0 h.2)
after_map Fault P Q left f h = (h.0, h.1, f h.0 h.2)
after_map Refused P Q left f h = h
after_map Words P Q left f h = h
after_map Read P Q left f h = h
after_map Write P Q left f h = h
after_map Memory P Q left f h = h
after_map Absent P Q left f h = h
after_map TooLong P Q left f h = h

run_map : (mode : Mode) (status : Status) (P Q : Seen → Type 0) (left : Option Seen) → ((s : Seen) → P s → Q s) → IfRun mode status P left → IfRun mode status Q left
run_map Run status P Q left f h = after_map status P Q left f h
run_map Check status P Q left f h = h
run_map asked.List status P Q left f h = h
run_map Tidy status P Q left f h = h
run_map Show status P Q left f h = h

with_files : (files : Option Files) (file text bytes : List ℕ) (script : Option (List ℕ)) (s : Seen) → bytes ≡ text → IfSome files (λ fs. fs file ≡ Some text) → IfSome script (λ b. IsMachineOf bytes b s)
    → IfSome files (λ fs. IfSome script (λ b. (t : List ℕ) × (fs file ≡ Some t) × IsMachineOf t b s))
with_files None file text bytes script s e is h = tt
with_files (Some fs) file text bytes None s e is h = tt
with_files (Some fs) file text bytes (Some b) s e is h = (text, is, subst (λ t. IsMachineOf t b s) e h)

pub file_left : {file bytes : List ℕ} {files : Option Files} {s s' : ℕ} {text : Vec ℕ} (mode : Mode) (status : Status) (script : Option (List ℕ)) (left : Option Seen)
    → IsFetch files file s s' (Ok text) → bytes ≡ text.items → IsTextLeft mode status bytes script left → IsFileLeft mode status file files script left
file_left {file = file} {bytes = bytes} {files = files} {text = text} mode status script left fetched e h =
    run_map mode status (λ m. IfSome script (λ b. IsMachineOf bytes b m)) (λ m. IfSome files (λ fs. IfSome script (λ b. (t : List ℕ) × (fs file ≡ Some t) × IsMachineOf t b m))) left
    (λ m. with_files files file text.items bytes script m e fetched.is.0) h

missed : (status : Status) (P : Seen → Type 0) (files : Option Files) (file : List ℕ) (s s' : ℕ) (left : Option Seen) → HasFetched files file s s' (Err status) → left ≡ None → AfterRun status P left
missed Done P files file s s' left why none = absurd why
missed Script P files file s s' left why none = absurd why
missed Fault P files file s s' left why none = absurd why
missed Refused P files file s s' left why none = none
missed Words P files file s s' left why none = none
missed Read P files file s s' left why none = none
missed Write P files file s s' left why none = none
missed Memory P files file s s' left why none = none
missed Absent P files file s s' left why none = none
missed TooLong P files file s s' left why none = none

missed_in : (mode : Mode) (status : Status) (P : Seen → Type 0) (files : Option Files) (file : List ℕ) (s s' : ℕ) (left : Option Seen) → HasFetched files file s s' (Err status) → left ≡ None → IfRun mode status P left
missed_in Run status P files file s s' left why none = missed status P files file s s' left why none
missed_in Check status P files file s s' left why none = none
missed_in asked.List status P files file s s' left why none = none
missed_in Tidy status P files file s s' left why none = none
missed_in Show status P files file s s' left why none = none

pub unfetched_left : {status : Status} {file : List ℕ} {files : Option Files} {s s' : ℕ} (mode : Mode) (script : Option (List ℕ)) (left : Option Seen) → IsFetch files file s s' (Err status) → left ≡ None
    → IsFileLeft mode status file files script left
unfetched_left {status = status} {file = file} {files = files} {s = s} {s' = s'} mode script left fetched none =
    missed_in mode status (λ m. IfSome files (λ fs. IfSome script (λ b. (t : List ℕ) × (fs file ≡ Some t) × IsMachineOf t b m))) files file s s' left fetched.is none

-- ---- with the words

pub command_left : {A : Type 0} (words : List (String A)) (status : Status) (files : Option Files) (script : Option (List ℕ)) (left : Option Seen) (mode : Mode) (file : List ℕ)
    → command_of words ≡ Some (mode, file) → IsFileLeft mode status file files script left → IsLeft status words files script left
command_left words status files script left mode file e h = subst (λ c. MatchOption c (left ≡ None) (λ command. IsFileLeft command.0 status command.1 files script left)) (sym e) h

pub no_command_left : {A : Type 0} (words : List (String A)) (status : Status) (files : Option Files) (script : Option (List ℕ)) (left : Option Seen) → command_of words ≡ None → left ≡ None → IsLeft status words files script left
no_command_left words status files script left e none = subst (λ c. MatchOption c (left ≡ None) (λ command. IsFileLeft command.0 status command.1 files script left)) (sym e) none
