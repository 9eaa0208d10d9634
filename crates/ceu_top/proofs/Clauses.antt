-- The clauses of `ceu`, from the one answer that holds all of them.
use Rattle.std.proofs.Common.{◌≡◌, ◌≢◌, refl, sym, subst, ℕ, ◌<◌, ◌⊎◌, inl, inr, arith, List, [], length, Option, Some, None, Err}
use Rattle.std.specs.Prelude.{IfSome, MatchOption, String}
use Rattle.ceu_run.specs.Playing.{TakesLittle}
use Rattle.ceu_run.specs.declared.answers.Played.{Played}
use Rattle.ceu_run.specs.declared.answers.Played.TheVariants as played
use Rattle.ceu_io.specs.Bytes.{Appends}
use Rattle.ceu_io.specs.Counts.{Rose, Quiet}
use Rattle.ceu_io.specs.Told.{WhereTold}
use Rattle.ceu_io.proofs.Offers.{appends_nothing}
use Rattle.ceu_io.proofs.Telling.{where_told_map, where_told_same}
use Rattle.ceu_run.specs.Runs.{IsRun, IsCut, RunPrints, lines_of}
use Rattle.ceu_tree.specs.declared.kernel.Kernel.{Kernel}
use Rattle.ceu_top.specs.Answering.{Printed, Unread, Ran, TextAnswer, Unfetched, Fetched, FileAnswer, NoCommand, IsAnswer}
use Rattle.ceu_top.specs.Command.{command_of}
use Rattle.ceu_top.specs.Fetching.{Files, HasFetched}
use Rattle.ceu_top.specs.Outcomes.{first_line, IsRunnable, Runs, Prints, IsText, IsAbsent, IsTooLong, Outcome, On, Headline, IsWhole, BeginsRun, IsFront, IsCutShort, IsRunUpTo, IsStopped, TakesFor, IsTaken, IsUnwritten, UnlessFailed}
use Rattle.ceu_top.specs.declared.status.Status.{Status}
use Rattle.ceu_top.specs.declared.status.Status.TheVariants.{Done, Refused, Words, Script, Fault, Read, Write, Memory, Absent, TooLong}
use Rattle.ceu_top.specs.declared.words.Mode.{Mode}
use Rattle.ceu_top.specs.declared.words.Mode.TheVariants.{Run}
use Rattle.ceu_top.proofs.Statuses.{on_done, on_refused, on_script, on_fault, on_read, on_write, on_absent, on_too_long, unwritten_all}

not_rose : (a b : ℕ) → Quiet a b → Rose a b → ⊥
not_rose a b quiet (inl rises) = omega (arith, quiet.0)
not_rose a b quiet (inr last) = omega (arith, quiet.1)

if_some : {A : Type 0} (x : Option A) (P : A → Type 0) → ((a : A) → x ≡ Some a → P a) → IfSome x P
if_some None P f = tt
if_some (Some a) P f = f a refl

some_at : {A : Type 0} (x : Option A) (a : A) (P : A → Type 0) → x ≡ Some a → IfSome x P → P a
some_at x a P e h = subst (λ y. IfSome y P) e h

told_some : {A : Type 0} (a : A) (y : Option A) (Q : A → A → Type 0) → WhereTold (Some a) y Q → (b : A) × Q a b
told_some a None Q told = absurd told
told_some a (Some b) Q told = (b, told)

told_at : {A : Type 0} (x y : Option A) (a : A) (Q : A → A → Type 0) → x ≡ Some a → WhereTold x y Q → (b : A) × Q a b
told_at x y a Q e told = told_some a y Q (subst (λ z. WhereTold z y Q) e told)

told_untouched : {A : Type 0} (x y : Option A) (Q : A → A → Type 0) → y ≡ x → ((a : A) → Q a a) → WhereTold x y Q
told_untouched x y Q e f = subst (λ z. WhereTold x z Q) (sym e) (where_told_same x Q f)

words_at : {A : Type 0} (words : List (String A)) (status : Status) (c : Option (Mode × List ℕ)) → command_of words ≡ c → MatchOption c (status ≡ Words) (λ command. status ≢ Words)
    → MatchOption (command_of words) (status ≡ Words) (λ command. status ≢ Words)
words_at words status c e h = subst (λ c. MatchOption c (status ≡ Words) (λ command. status ≢ Words)) (sym e) h

module _ {A : Type 0} (words : List (String A)) (files : Option Files) (left left' held now : Option (List ℕ)) (s s' i i' o o' : ℕ) where
  -- the answer of this call, of a fetch that failed, of a text in a mode
  abbrev Answered : Status → Type 0
  Answered status = IsAnswer status words files left left' held now s s' i i' o o'

  abbrev Missed : Status → List ℕ → Type 0
  Missed status file = Unfetched status file files left left' held now s s' i i' o o'

  abbrev Got : Mode → Status → List ℕ → Type 0
  Got mode status file = Fetched mode status file files left left' held now s s' i i' o o'

  abbrev OfText : Mode → Status → List ℕ → Type 0
  OfText mode status text = TextAnswer mode status text left left' held now i i' o o'

  abbrev RanAs : Mode → Played → List ℕ → Type 0
  RanAs mode answer text = Ran mode answer text left left' held now i i' o o'

  abbrev Asks : Mode → List ℕ → Type 0
  Asks mode file = command_of words ≡ Some (mode, file)

  -- From the three ways of an answer.
  file_answered : (P : Status → Type 0) → ((status : Status) → (mode : Mode) (file : List ℕ) → Asks mode file → Missed status file → P status)
      → ((status : Status) → (mode : Mode) (file : List ℕ) → Asks mode file → Got mode status file → P status)
      → (status : Status) (mode : Mode) (file : List ℕ) → Asks mode file → FileAnswer mode status file files left left' held now s s' i i' o o' → P status
  file_answered P missed got status mode file asks (inl u) = missed status mode file asks u
  file_answered P missed got status mode file asks (inr f) = got status mode file asks f

  ways : (P : Status → Type 0) → (command_of words ≡ None → now ≡ held → Unread left left' i i' → s' ≡ s → o' ≡ o → P Words)
      → ((status : Status) → (mode : Mode) (file : List ℕ) → Asks mode file → Missed status file → P status)
      → ((status : Status) → (mode : Mode) (file : List ℕ) → Asks mode file → Got mode status file → P status)
      → (status : Status)
      → ((command_of words ≡ None) × NoCommand status left left' held now s s' i i' o o')
      ⊎ ((mode : Mode) × (file : List ℕ) × Asks mode file × FileAnswer mode status file files left left' held now s s' i i' o o')
      → P status
  ways P none missed got status (inl n) = subst P (sym n.1.words) (none n.0 n.1.unwritten n.1.unread n.1.shelf n.1.out)
  ways P none missed got status (inr f) = file_answered P missed got status f.0 f.1 f.2 f.3

  nothing : now ≡ held → Appends [] held now
  nothing e = subst (λ n. Appends [] held n) (sym e) (appends_nothing held)

  -- ---- whole texts

  abbrev Whole : Status → Files → List ℕ → Type 0
  Whole status fs script = (mode : Mode) × (text : List ℕ) × (written : List ℕ) × IsText words fs mode text × Prints mode status text script written × Appends written held now

  shown : (answer : Played) (text : List ℕ) (K : Kernel) → IsRunnable text K → (script : List ℕ) → left ≡ Some script
      → WhereTold left left' (λ old new. ((written : List ℕ) × IsRun answer (first_line K) K old written × Appends written held now) × TakesLittle K (lines_of K old) old (length new))
      → (written : List ℕ) × Runs answer text script written × Appends written held now
  shown answer text K runnable script is told =
      let t : (new : List ℕ) × (((written : List ℕ) × IsRun answer (first_line K) K script written × Appends written held now) × TakesLittle K (lines_of K script) script (length new)) =
      told_at left left' script (λ old new. ((written : List ℕ) × IsRun answer (first_line K) K old written × Appends written held now) × TakesLittle K (lines_of K old) old (length new)) is told in
      (t.1.0.0, (K, runnable, t.1.0.1), t.1.0.2)

  run_whole : (status : Status) (answer : Played) (mode : Mode) (text : List ℕ) → mode ≡ Run → (fs : Files) → IsText words fs mode text → (script : List ℕ)
      → ((written : List ℕ) → Runs answer text script written → Prints Run status text script written)
      → (written : List ℕ) × Runs answer text script written × Appends written held now → Whole status fs script
  run_whole status answer mode text in_run fs is script prints t =
      (mode, text, t.0, is, subst (λ m. Prints m status text script t.0) (sym in_run) (prints t.0 t.1), t.2)

  printed_whole : (status : Status) (mode : Mode) (text : List ℕ) → Printed mode status text held now o o' → (fs : Files) → IsText words fs mode text → (script : List ℕ) → Whole status fs script
  printed_whole status mode text p fs is script = (mode, text, p.line, is, p.defined script, p.written)

  whole_done : (mode : Mode) (text : List ℕ) → OfText mode Done text → (fs : Files) → IsText words fs mode text → (script : List ℕ) → left ≡ Some script → Whole Done fs script
  whole_done mode text (inl r) fs is script told = run_whole Done played.Done mode text r.in_run fs is script (λ w h. h) (shown played.Done text r.kernel r.runnable script told r.told)
  whole_done mode text (inr p) fs is script told = printed_whole Done mode text p.0 fs is script

  whole_script : (mode : Mode) (text : List ℕ) → OfText mode Script text → (fs : Files) → IsText words fs mode text → (script : List ℕ) → left ≡ Some script → Whole Script fs script
  whole_script mode text (inl r) fs is script told = run_whole Script played.Script mode text r.in_run fs is script (λ w h. h) (shown played.Script text r.kernel r.runnable script told r.told)
  whole_script mode text (inr p) fs is script told = absurd p.0

  whole_fault : (mode : Mode) (text : List ℕ) → OfText mode Fault text → (fs : Files) → IsText words fs mode text → (script : List ℕ) → left ≡ Some script → Whole Fault fs script
  whole_fault mode text (inl r) fs is script told = run_whole Fault played.Fault mode text r.in_run fs is script (λ w h. h) (shown played.Fault text r.kernel r.runnable script told r.told)
  whole_fault mode text (inr p) fs is script told = absurd p.0

  whole_refused : (mode : Mode) (text : List ℕ) → OfText mode Refused text → (fs : Files) → IsText words fs mode text → (script : List ℕ) → Whole Refused fs script
  whole_refused mode text (inl r) fs is script = absurd r
  whole_refused mode text (inr p) fs is script = printed_whole Refused mode text p.0 fs is script

  -- ---- answers that don't come

  no_words : (mode : Mode) (text : List ℕ) → OfText mode Words text → ⊥
  no_words mode text (inl r) = r
  no_words mode text (inr p) = p.0

  no_absent : (mode : Mode) (text : List ℕ) → OfText mode Absent text → ⊥
  no_absent mode text (inl r) = r
  no_absent mode text (inr p) = p.0

  no_too_long : (mode : Mode) (text : List ℕ) → OfText mode TooLong text → ⊥
  no_too_long mode text (inl r) = r
  no_too_long mode text (inr p) = p.0

  -- ---- counts

  write_rose : (mode : Mode) (text : List ℕ) → OfText mode Write text → Rose o o'
  write_rose mode text (inl r) = r.cause.1.1
  write_rose mode text (inr p) = p.0.rose

  read_rose : (mode : Mode) (text : List ℕ) → OfText mode Read text → Rose i i'
  read_rose mode text (inl r) = r.cause.0.1
  read_rose mode text (inr p) = absurd p.0

  text_quiet : (status : Status) (mode : Mode) (text : List ℕ) → OfText mode status text → UnlessFailed status ((i' ≡ i) × (o' ≡ o))
  text_quiet Done mode text (inl r) = r.cause
  text_quiet Done mode text (inr p) = (p.1.input, p.0.out)
  text_quiet Script mode text (inl r) = r.cause
  text_quiet Script mode text (inr p) = absurd p.0
  text_quiet Fault mode text (inl r) = r.cause
  text_quiet Fault mode text (inr p) = absurd p.0
  text_quiet Refused mode text (inl r) = absurd r
  text_quiet Refused mode text (inr p) = (p.1.input, p.0.out)
  text_quiet Memory mode text (inl r) = absurd r
  text_quiet Memory mode text (inr p) = (p.1.input, p.0.1)
  text_quiet Read mode text a = tt
  text_quiet Write mode text a = tt
  text_quiet Words mode text a = absurd (no_words mode text a)
  text_quiet Absent mode text a = absurd (no_absent mode text a)
  text_quiet TooLong mode text a = absurd (no_too_long mode text a)

  with_shelf : (status : Status) → s' ≡ s → UnlessFailed status ((i' ≡ i) × (o' ≡ o)) → UnlessFailed status ((s' ≡ s) × (i' ≡ i) × (o' ≡ o))
  with_shelf Done e q = (e, q.0, q.1)
  with_shelf Refused e q = (e, q.0, q.1)
  with_shelf Words e q = (e, q.0, q.1)
  with_shelf Script e q = (e, q.0, q.1)
  with_shelf Fault e q = (e, q.0, q.1)
  with_shelf Read e q = tt
  with_shelf Write e q = tt
  with_shelf Memory e q = (e, q.0, q.1)
  with_shelf Absent e q = (e, q.0, q.1)
  with_shelf TooLong e q = (e, q.0, q.1)

  quiet_missed : (status : Status) (file : List ℕ) → Missed status file → UnlessFailed status ((s' ≡ s) × (i' ≡ i) × (o' ≡ o))
  quiet_missed Absent file u = (u.why.1, u.unread.input, u.out)
  quiet_missed TooLong file u = (u.why.1, u.unread.input, u.out)
  quiet_missed Memory file u = (u.why, u.unread.input, u.out)
  quiet_missed Read file u = tt
  quiet_missed Write file u = tt
  quiet_missed Done file u = absurd u.why
  quiet_missed Refused file u = absurd u.why
  quiet_missed Words file u = absurd u.why
  quiet_missed Script file u = absurd u.why
  quiet_missed Fault file u = absurd u.why

  unwritten_text : (status : Status) (mode : Mode) (text : List ℕ) → OfText mode status text → IsUnwritten status (now ≡ held)
  unwritten_text Memory mode text (inl r) = absurd r
  unwritten_text Memory mode text (inr p) = p.0.0
  unwritten_text Words mode text a = absurd (no_words mode text a)
  unwritten_text Absent mode text a = absurd (no_absent mode text a)
  unwritten_text TooLong mode text a = absurd (no_too_long mode text a)
  unwritten_text Done mode text a = tt
  unwritten_text Refused mode text a = tt
  unwritten_text Script mode text a = tt
  unwritten_text Fault mode text a = tt
  unwritten_text Read mode text a = tt
  unwritten_text Write mode text a = tt

  -- ---- the status that is asked for

  why_at : (status wanted : Status) (file : List ℕ) → Missed status file → status ≡ wanted → HasFetched files file s s' (Err wanted)
  why_at status wanted file u e = subst (λ st. HasFetched files file s s' (Err st)) e u.why

  answer_at : (status wanted : Status) (mode : Mode) (file : List ℕ) → (f : Got mode status file) → status ≡ wanted → OfText mode wanted f.text
  answer_at status wanted mode file f e = subst (λ st. OfText mode st f.text) e f.answer

  is_text : (status : Status) (mode : Mode) (file : List ℕ) → Asks mode file → (f : Got mode status file) → (fs : Files) → files ≡ Some fs → IsText words fs mode f.text
  is_text status mode file asks f fs is = (file, asks, some_at files fs (λ fs. fs file ≡ Some f.text) is f.text_is, f.within)

  both : (P : Files → List ℕ → Type 0) → ((fs : Files) → files ≡ Some fs → (script : List ℕ) → left ≡ Some script → P fs script) → IfSome files (λ fs. IfSome left (λ script. P fs script))
  both P f = if_some files (λ fs. IfSome left (λ script. P fs script)) (λ fs is. if_some left (λ script. P fs script) (λ script told. f fs is script told))

  -- ---- what is defined

  outcome_missed : (status : Status) (mode : Mode) (file : List ℕ) → Asks mode file → Missed status file → (fs : Files) → files ≡ Some fs → (script : List ℕ) → Quiet s s' → status ≢ Memory
      → (written : List ℕ) × Outcome status words fs script written × Appends written held now
  outcome_missed Absent mode file asks u fs is script quiet found = ([], ((mode, file, asks, some_at files fs (λ fs. fs file ≡ None) is u.why.0), refl), nothing u.unwritten)
  outcome_missed TooLong mode file asks u fs is script quiet found =
      let t : (text : List ℕ) × (fs file ≡ Some text) × (1048576 < length text) = some_at files fs (λ fs. (text : List ℕ) × (fs file ≡ Some text) × (1048576 < length text)) is u.why.0 in
      ([], ((mode, file, t.0, asks, t.1, t.2), refl), nothing u.unwritten)
  outcome_missed Read mode file asks u fs is script quiet found = absurd (not_rose s s' quiet u.why.1)
  outcome_missed Memory mode file asks u fs is script quiet found = absurd (found refl)
  outcome_missed Done mode file asks u fs is script quiet found = absurd u.why
  outcome_missed Refused mode file asks u fs is script quiet found = absurd u.why
  outcome_missed Words mode file asks u fs is script quiet found = absurd u.why
  outcome_missed Script mode file asks u fs is script quiet found = absurd u.why
  outcome_missed Fault mode file asks u fs is script quiet found = absurd u.why
  outcome_missed Write mode file asks u fs is script quiet found = absurd u.why

  as_outcome : (status : Status) (fs : Files) (script : List ℕ) → Whole status fs script
      → (written : List ℕ) × ((mode : Mode) × (text : List ℕ) × IsText words fs mode text × Prints mode status text script written) × Appends written held now
  as_outcome status fs script h = (h.2, (h.0, h.1, h.3, h.4), h.5)

  outcome_got : (status : Status) (mode : Mode) (file : List ℕ) → Asks mode file → (f : Got mode status file) → (fs : Files) → files ≡ Some fs → (script : List ℕ) → left ≡ Some script
      → Quiet i i' → Quiet o o' → status ≢ Memory → (written : List ℕ) × Outcome status words fs script written × Appends written held now
  outcome_got Done mode file asks f fs is script told qi qo found = as_outcome Done fs script (whole_done mode f.text f.answer fs (is_text Done mode file asks f fs is) script told)
  outcome_got Script mode file asks f fs is script told qi qo found = as_outcome Script fs script (whole_script mode f.text f.answer fs (is_text Script mode file asks f fs is) script told)
  outcome_got Fault mode file asks f fs is script told qi qo found = as_outcome Fault fs script (whole_fault mode f.text f.answer fs (is_text Fault mode file asks f fs is) script told)
  outcome_got Refused mode file asks f fs is script told qi qo found = as_outcome Refused fs script (whole_refused mode f.text f.answer fs (is_text Refused mode file asks f fs is) script)
  outcome_got Read mode file asks f fs is script told qi qo found = absurd (not_rose i i' qi (read_rose mode f.text f.answer))
  outcome_got Write mode file asks f fs is script told qi qo found = absurd (not_rose o o' qo (write_rose mode f.text f.answer))
  outcome_got Memory mode file asks f fs is script told qi qo found = absurd (found refl)
  outcome_got Words mode file asks f fs is script told qi qo found = absurd (no_words mode f.text f.answer)
  outcome_got Absent mode file asks f fs is script told qi qo found = absurd (no_absent mode f.text f.answer)
  outcome_got TooLong mode file asks f fs is script told qi qo found = absurd (no_too_long mode f.text f.answer)

  -- ---- a run that was stopped

  begins : (K : Kernel) (script : List ℕ) (more : ℕ) → IsCut (first_line K) K script more held now → BeginsRun K script held now
  begins K script more c = (c.bound, λ n h. ((c.front n h).0, (c.front n h).1, (c.front n h).2))

  cut_at : (mode : Mode) (text : List ℕ) → OfText mode Write text → (fs : Files) → IsText words fs mode text → (script : List ℕ) → left ≡ Some script
      → (mode : Mode) × (text : List ℕ) × IsText words fs mode text × IsFront mode text script held now
  cut_at mode text (inl r) fs is script told =
      let t : (new : List ℕ) × IsCut (first_line r.kernel) r.kernel script (length new) held now =
      told_at left left' script (λ old new. IsCut (first_line r.kernel) r.kernel old (length new) held now) told r.told in
      (mode, text, is, inr (r.kernel, r.in_run, r.runnable, begins r.kernel script (length t.0) t.1))
  cut_at mode text (inr p) fs is script told = (mode, text, is, inl (p.0.whole, p.0.line, p.0.defined script, p.0.front))

  is_run_text : (mode : Mode) (text : List ℕ) (fs : Files) → mode ≡ Run → IsText words fs mode text → IsText words fs Run text
  is_run_text mode text fs in_run is = subst (λ m. IsText words fs m text) in_run is

  stopped_at : (mode : Mode) (text : List ℕ) → OfText mode Read text → (fs : Files) → IsText words fs mode text → WhereTold left left' (λ script rest. IsRunUpTo words fs script rest held now)
  stopped_at mode text (inl r) fs is =
      where_told_map left left' (λ old new. RunPrints played.Read (first_line r.kernel) r.kernel old (length new) held now) (λ script rest. IsRunUpTo words fs script rest held now)
      (λ script rest h. (text, r.kernel, h.0.0, is_run_text mode text fs r.in_run is, r.runnable, h.0.1, h.0.2)) r.told
  stopped_at mode text (inr p) fs is = absurd p.0

  -- ---- bytes of the script

  abbrev Takes : Status → List ℕ → List ℕ → Type 0
  Takes status script rest = (rest ≡ script)
      ⊎ IfSome files (λ fs. (text : List ℕ) × (K : Kernel) × IsText words fs Run text × IsRunnable text K × TakesFor status K script rest held now)

  untaken : (status : Status) → Unread left left' i i' → WhereTold left left' (λ script rest. Takes status script rest)
  untaken status u = told_untouched left left' (λ script rest. Takes status script rest) u.bytes (λ script. inl refl)

  run_taken : (status : Status) (answer : Played) (mode : Mode) (file : List ℕ) → Asks mode file → (f : Got mode status file) → (r : RanAs mode answer f.text)
      → ((script rest : List ℕ) → RunPrints answer (first_line r.kernel) r.kernel script (length rest) held now → TakesFor status r.kernel script rest held now)
      → WhereTold left left' (λ script rest. Takes status script rest)
  run_taken status answer mode file asks f r takes =
      where_told_map left left' (λ old new. RunPrints answer (first_line r.kernel) r.kernel old (length new) held now) (λ script rest. Takes status script rest)
      (λ script rest h. inr (if_some files (λ fs. (text : List ℕ) × (K : Kernel) × IsText words fs Run text × IsRunnable text K × TakesFor status K script rest held now)
      (λ fs is. (f.text, r.kernel, is_run_text mode f.text fs r.in_run (is_text status mode file asks f fs is), r.runnable, takes script rest h)))) r.told

  taken_by : (status : Status) (mode : Mode) (file : List ℕ) → Asks mode file → (f : Got mode status file) → OfText mode status f.text → WhereTold left left' (λ script rest. Takes status script rest)
  taken_by status mode file asks f (inr p) = untaken status p.1
  taken_by Done mode file asks f (inl r) = run_taken Done played.Done mode file asks f r (λ script rest h. h.1)
  taken_by Script mode file asks f (inl r) = run_taken Script played.Script mode file asks f r (λ script rest h. h.1)
  taken_by Fault mode file asks f (inl r) = run_taken Fault played.Fault mode file asks f r (λ script rest h. h.1)
  taken_by Read mode file asks f (inl r) = run_taken Read played.Read mode file asks f r (λ script rest h. h.1)
  taken_by Write mode file asks f (inl r) = run_taken Write played.Write mode file asks f r (λ script rest h. h)
  taken_by Refused mode file asks f (inl r) = absurd r
  taken_by Words mode file asks f (inl r) = absurd r
  taken_by Memory mode file asks f (inl r) = absurd r
  taken_by Absent mode file asks f (inl r) = absurd r
  taken_by TooLong mode file asks f (inl r) = absurd r

  -- ---- the clauses

  pub clause_headline : (status : Status) → Answered status → Headline status words files left held now s s' i i' o o'
  clause_headline status a = ways (λ status. Headline status words files left held now s s' i i' o o')
      (λ none same unread qs qo. if_some files _ (λ fs is. if_some left _ (λ script told. if_some held _ (λ before h. λ x y z found. ([], (none, refl), nothing same)))))
      (λ status mode file asks u. if_some files _ (λ fs is. if_some left _ (λ script told. if_some held _ (λ before h. λ x y z found. outcome_missed status mode file asks u fs is script x found))))
      (λ status mode file asks f. if_some files _ (λ fs is. if_some left _ (λ script told. if_some held _ (λ before h. λ x y z found. outcome_got status mode file asks f fs is script told y z found))))
      status a.is

  pub clause_words : (status : Status) → Answered status → MatchOption (command_of words) (status ≡ Words) (λ command. status ≢ Words)
  clause_words status a = ways (λ status. MatchOption (command_of words) (status ≡ Words) (λ command. status ≢ Words))
      (λ none same unread qs qo. words_at words Words None none refl)
      (λ status mode file asks u. words_at words status (Some (mode, file)) asks (λ e. why_at status Words file u e))
      (λ status mode file asks f. words_at words status (Some (mode, file)) asks (λ e. no_words mode f.text (answer_at status Words mode file f e)))
      status a.is

  pub clause_absent : (status : Status) → Answered status → On Absent status (IfSome files (IsAbsent words))
  clause_absent status a = ways (λ status. On Absent status (IfSome files (IsAbsent words))) (λ none same unread qs qo. tt)
      (λ status mode file asks u. on_absent status _ (λ e. if_some files (IsAbsent words) (λ fs is. (mode, file, asks, some_at files fs (λ fs. fs file ≡ None) is (why_at status Absent file u e).0))))
      (λ status mode file asks f. on_absent status _ (λ e. absurd (no_absent mode f.text (answer_at status Absent mode file f e))))
      status a.is

  long_at : (mode : Mode) (file : List ℕ) → Asks mode file → HasFetched files file s s' (Err TooLong) → IfSome files (IsTooLong words)
  long_at mode file asks why = if_some files (IsTooLong words) (λ fs is.
      let t : (text : List ℕ) × (fs file ≡ Some text) × (1048576 < length text) = some_at files fs (λ fs. (text : List ℕ) × (fs file ≡ Some text) × (1048576 < length text)) is why.0 in
      (mode, file, t.0, asks, t.1, t.2))

  pub clause_too_long : (status : Status) → Answered status → On TooLong status (IfSome files (IsTooLong words))
  clause_too_long status a = ways (λ status. On TooLong status (IfSome files (IsTooLong words))) (λ none same unread qs qo. tt)
      (λ status mode file asks u. on_too_long status _ (λ e. long_at mode file asks (why_at status TooLong file u e)))
      (λ status mode file asks f. on_too_long status _ (λ e. absurd (no_too_long mode f.text (answer_at status TooLong mode file f e))))
      status a.is

  pub clause_done : (status : Status) → Answered status → On Done status (IsWhole Done words files left held now)
  clause_done status a = ways (λ status. On Done status (IsWhole Done words files left held now)) (λ none same unread qs qo. tt)
      (λ status mode file asks u. on_done status _ (λ e. absurd (why_at status Done file u e)))
      (λ status mode file asks f. on_done status _ (λ e. both (Whole Done) (λ fs is script told. whole_done mode f.text (answer_at status Done mode file f e) fs (is_text status mode file asks f fs is) script told)))
      status a.is

  pub clause_refused : (status : Status) → Answered status → On Refused status (IsWhole Refused words files left held now)
  clause_refused status a = ways (λ status. On Refused status (IsWhole Refused words files left held now)) (λ none same unread qs qo. tt)
      (λ status mode file asks u. on_refused status _ (λ e. absurd (why_at status Refused file u e)))
      (λ status mode file asks f. on_refused status _ (λ e. both (Whole Refused) (λ fs is script told. whole_refused mode f.text (answer_at status Refused mode file f e) fs (is_text status mode file asks f fs is) script)))
      status a.is

  pub clause_script : (status : Status) → Answered status → On Script status (IsWhole Script words files left held now)
  clause_script status a = ways (λ status. On Script status (IsWhole Script words files left held now)) (λ none same unread qs qo. tt)
      (λ status mode file asks u. on_script status _ (λ e. absurd (why_at status Script file u e)))
      (λ status mode file asks f. on_script status _ (λ e. both (Whole Script) (λ fs is script told. whole_script mode f.text (answer_at status Script mode file f e) fs (is_text status mode file asks f fs is) script told)))
      status a.is

  pub clause_fault : (status : Status) → Answered status → On Fault status (IsWhole Fault words files left held now)
  clause_fault status a = ways (λ status. On Fault status (IsWhole Fault words files left held now)) (λ none same unread qs qo. tt)
      (λ status mode file asks u. on_fault status _ (λ e. absurd (why_at status Fault file u e)))
      (λ status mode file asks f. on_fault status _ (λ e. both (Whole Fault) (λ fs is script told. whole_fault mode f.text (answer_at status Fault mode file f e) fs (is_text status mode file asks f fs is) script told)))
      status a.is

  pub clause_read : (status : Status) → Answered status → On Read status (Rose s s' ⊎ Rose i i')
  clause_read status a = ways (λ status. On Read status (Rose s s' ⊎ Rose i i')) (λ none same unread qs qo. tt)
      (λ status mode file asks u. on_read status _ (λ e. inl (why_at status Read file u e).1))
      (λ status mode file asks f. on_read status _ (λ e. inr (read_rose mode f.text (answer_at status Read mode file f e))))
      status a.is

  pub clause_write : (status : Status) → Answered status → On Write status (Rose o o')
  clause_write status a = ways (λ status. On Write status (Rose o o')) (λ none same unread qs qo. tt)
      (λ status mode file asks u. on_write status _ (λ e. absurd (why_at status Write file u e)))
      (λ status mode file asks f. on_write status _ (λ e. write_rose mode f.text (answer_at status Write mode file f e)))
      status a.is

  pub clause_cut_short : (status : Status) → Answered status → On Write status (IsCutShort words files left held now)
  clause_cut_short status a = ways (λ status. On Write status (IsCutShort words files left held now)) (λ none same unread qs qo. tt)
      (λ status mode file asks u. on_write status _ (λ e. absurd (why_at status Write file u e)))
      (λ status mode file asks f. on_write status _ (λ e. both (λ fs script. (mode : Mode) × (text : List ℕ) × IsText words fs mode text × IsFront mode text script held now)
      (λ fs is script told. cut_at mode f.text (answer_at status Write mode file f e) fs (is_text status mode file asks f fs is) script told)))
      status a.is

  pub clause_stopped : (status : Status) → Answered status → On Read status (IsStopped words files left left' held now)
  clause_stopped status a = ways (λ status. On Read status (IsStopped words files left left' held now)) (λ none same unread qs qo. tt)
      (λ status mode file asks u. on_read status _ (λ e. inl u.unwritten))
      (λ status mode file asks f. on_read status _ (λ e. inr (if_some files (λ fs. WhereTold left left' (λ script rest. IsRunUpTo words fs script rest held now))
      (λ fs is. stopped_at mode f.text (answer_at status Read mode file f e) fs (is_text status mode file asks f fs is)))))
      status a.is

  pub clause_taken : (status : Status) → Answered status → IsTaken status words files left left' held now
  clause_taken status a = ways (λ status. IsTaken status words files left left' held now)
      (λ none same unread qs qo. untaken Words unread)
      (λ status mode file asks u. untaken status u.unread)
      (λ status mode file asks f. taken_by status mode file asks f f.answer)
      status a.is

  pub clause_unwritten : (status : Status) → Answered status → IsUnwritten status (now ≡ held)
  clause_unwritten status a = ways (λ status. IsUnwritten status (now ≡ held)) (λ none same unread qs qo. same)
      (λ status mode file asks u. unwritten_all status _ u.unwritten)
      (λ status mode file asks f. unwritten_text status mode f.text f.answer)
      status a.is

  pub clause_quiet : (status : Status) → Answered status → UnlessFailed status ((s' ≡ s) × (i' ≡ i) × (o' ≡ o))
  clause_quiet status a = ways (λ status. UnlessFailed status ((s' ≡ s) × (i' ≡ i) × (o' ≡ o)))
      (λ none same unread qs qo. (qs, unread.input, qo))
      (λ status mode file asks u. quiet_missed status file u)
      (λ status mode file asks f. with_shelf status f.shelf (text_quiet status mode f.text f.answer))
      status a.is
