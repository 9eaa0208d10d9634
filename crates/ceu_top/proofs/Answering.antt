-- From the answers of the parts to that of the whole.
use Rattle.std.proofs.Common.{◌≡◌, ◌∙◌, refl, sym, ap, subst, ℕ, ◌<◌, ◌≤◌, inl, inr, false, List, ◌++◌, length, Option, Some, None, Result, Ok, Err}
use Rattle.std.specs.Prelude.{IfSome, IfOk, OnOk, OnErr}
use Rattle.std.specs.Global.{Vec}
use Rattle.ceu_base.specs.declared.kinds.Pos.{Pos}
use Rattle.ceu_base.specs.declared.kinds.Rule.{Rule}
use Rattle.ceu_bound.specs.PhaseB.{AreBounds}
use Rattle.ceu_bound.specs.declared.bounds.Bounds.{Bounds}
use Rattle.ceu_code.specs.Decoding.{IsCause}
use Rattle.ceu_code.specs.Spelling.{Spells}
use Rattle.ceu_code.specs.declared.decoding.DecodeError.{DecodeError}
use Rattle.ceu_code.specs.declared.decoding.DecodeError.TheVariants as undecoded
use Rattle.ceu_code.specs.declared.image.Image.{Image}
use Rattle.ceu_compile.specs.Programs.{IsProgram, IsBroken}
use Rattle.ceu_compile.specs.Trees.{HasTree, IsTreeRefusal}
use Rattle.ceu_compile.specs.declared.errors.CompileError.{CompileError}
use Rattle.ceu_compile.specs.declared.errors.CompileError.TheVariants as broken
use Rattle.ceu_run.proofs.Fronts.{front_behind, front_of_more}
use Rattle.ceu_run.specs.Playing.{PlayCause}
use Rattle.ceu_run.specs.declared.answers.Played.{Played}
use Rattle.ceu_run.specs.declared.answers.Played.TheVariants as played
use Rattle.ceu_forms.specs.Forms.{first_unbuilt}
use Rattle.ceu_io.specs.Bytes.{Appends, AppendsProperFront}
use Rattle.ceu_gates.specs.Ranges.{first_gate, gate_count, IsByNode}
use Rattle.ceu_gates.specs.declared.plan.GatePlan.{GatePlan}
use Rattle.ceu_io.proofs.Offers.{appends_then}
use Rattle.ceu_io.specs.Counts.{HasCause, Rose}
use Rattle.ceu_io.specs.Shelves.{Fetches, IsWithin, HasShelfCause}
use Rattle.ceu_io.specs.Told.{WhereTold}
use Rattle.ceu_io.specs.declared.outside.Failed.{Failed}
use Rattle.ceu_io.specs.declared.shelves.Fetched.{Fetched}
use Rattle.ceu_io.specs.declared.shelves.Fetched.TheVariants as fetched
use Rattle.ceu_io.specs.declared.shelves.ShelfError.{ShelfError}
use Rattle.ceu_io.specs.declared.shelves.ShelfError.TheVariants as failed
use Rattle.ceu_lex.specs.declared.token.Token.{Token}
use Rattle.ceu_listing.specs.Lines.{listing_text}
use Rattle.ceu_print.specs.Statements.{program_text}
use Rattle.ceu_run.specs.Lines.{memory_line}
use Rattle.ceu_run.specs.Runs.{RunPrints}
use Rattle.ceu_listing.specs.Shown.{show_text}
use Rattle.ceu_slots.specs.Plans.{Planned, HasPlaces}
use Rattle.ceu_tree.specs.Costs.{bounds}
use Rattle.ceu_tree.specs.Needs.{memory}
use Rattle.ceu_tree.specs.declared.kernel.Kernel.{Kernel}
use Rattle.ceu_tree.specs.declared.source.Tree.{Tree}
use Rattle.ceu_top.specs.Answering.{status_of, played_status, Written, IsWritten, PrintAnswer, IsPrintAnswer, Ran, RunAnswer, TextAnswer, IsTextAnswer, IsFileAnswer}
use Rattle.ceu_top.specs.Fetching.{Files, answer_of, HasFetched, IsFetch}
use Rattle.ceu_top.specs.Lines.{refusal_line, no_image_line}
use Rattle.ceu_top.specs.Outcomes.{Names, Prints}
use Rattle.ceu_top.specs.declared.status.Status.{Status}
use Rattle.ceu_top.specs.declared.status.Status.TheVariants.{Done, Refused, Write, Memory}
use Rattle.ceu_top.specs.declared.words.Mode.{Mode}
use Rattle.ceu_top.specs.declared.words.Mode.TheVariants as asked
use Rattle.ceu_top.specs.declared.words.Mode.TheVariants.{Run, Check, Tidy, Show}

-- what was told before a call
pub told_old : {A : Type 0} (x y : Option A) (P : A → Type 0) → WhereTold x y (λ old new. P old) → IfSome x P
told_old None y P told = tt
told_old (Some a) None P told = absurd told
told_old (Some a) (Some b) P told = told

pub if_some_map : {A : Type 0} (x : Option A) (P Q : A → Type 0) → ((a : A) → P a → Q a) → IfSome x P → IfSome x Q
if_some_map None P Q f h = tt
if_some_map (Some a) P Q f h = f a h

-- ---- the fetch

fetched_from : (files files' : Option Files) (file : List ℕ) (s s' : ℕ) (r : Result Fetched ShelfError)
    → IfOk r (λ f. WhereTold files files' (λ old new. Fetches f 1048576 file old)) → IfOk r (λ f. IsWithin f 1048576) → HasShelfCause s s' r
    → HasFetched files file s s' (answer_of r)
fetched_from files files' file s s' (Ok (fetched.Bytes text)) told within cause =
    (if_some_map files (λ fs. (fs file ≡ Some text.items) × (length text.items ≤ 1048576)) (λ fs. fs file ≡ Some text.items) (λ fs h. h.0) (told_old files files' (λ fs. (fs file ≡ Some text.items) × (length text.items ≤ 1048576)) told), within, cause)
fetched_from files files' file s s' (Ok fetched.Absent) told within cause = (told_old files files' (λ fs. fs file ≡ None) told, cause)
fetched_from files files' file s s' (Ok fetched.TooLong) told within cause =
    (told_old files files' (λ fs. (text : List ℕ) × (fs file ≡ Some text) × (1048576 < length text)) told, cause)
fetched_from files files' file s s' (Err failed.Failed) told within cause = cause
fetched_from files files' file s s' (Err failed.Memory) told within cause = cause

pub fetch_is : {files : Option Files} {file : List ℕ} {s s' : ℕ} {result : Result (Vec ℕ) Status} (files' : Option Files) (r : Result Fetched ShelfError)
    → IfOk r (λ f. WhereTold files files' (λ old new. Fetches f 1048576 file old)) → IfOk r (λ f. IsWithin f 1048576) → HasShelfCause s s' r → result ≡ answer_of r
    → IsFetch files file s s' result
fetch_is {files = files} {file = file} {s = s} {s' = s'} files' r told within cause e = record { is = rw e (fetched_from files files' file s s' r told within cause) }

pub file_unanswered : {mode : Mode} {status : Status} {file : List ℕ} {files : Option Files} {left held : Option (List ℕ)} {s s' i o : ℕ}
    → IsFetch files file s s' (Err status) → IsFileAnswer mode status file files left left held held s s' i i o o
file_unanswered h = record { is = inl (record { why = h.is; unwritten = refl; unread = record { bytes = refl; input = refl }; out = refl }) }

pub file_answered : {mode : Mode} {status : Status} {file bytes : List ℕ} {files : Option Files} {text : Vec ℕ} {left left' held now : Option (List ℕ)} {s s' i i' o o' : ℕ}
    → IsFetch files file s s' (Ok text) → bytes ≡ text.items → IsTextAnswer mode status bytes left left' held now i i' o o' → IsFileAnswer mode status file files left left' held now s s' i i' o o'
file_answered {mode = mode} {status = status} {text = text} {left = left} {left' = left'} {held = held} {now = now} {i = i} {i' = i'} {o = o} {o' = o'} h e a = record {
  is = inr (record {
    text = text.items;
    text_is = h.is.0;
    within = h.is.1;
    shelf = h.is.2;
    answer = subst (λ l. TextAnswer mode status l left left' held now i i' o o') e a.is;
  });
}

-- ---- what is known before the first byte

written_from : (text : List ℕ) (whole : Status) (r : Result (Unit {0}) Failed) (held now : Option (List ℕ)) (o o' : ℕ)
    → OnOk r (Appends text held now) → OnErr r (AppendsProperFront text held now) → HasCause o o' r → Written text whole (status_of r whole) held now o o'
written_from text whole (Ok u) held now o o' appends front cause = inl (refl, appends, cause)
written_from text whole (Err e) held now o o' appends front cause = inr (refl, front, cause.0, cause.1)

pub write_is : (text : List ℕ) (whole status : Status) (r : Result (Unit {0}) Failed) (held now : Option (List ℕ)) (o o' : ℕ)
    → OnOk r (Appends text held now) → OnErr r (AppendsProperFront text held now) → HasCause o o' r → status ≡ status_of r whole → IsWritten text whole status held now o o'
write_is text whole status r held now o o' appends front cause e =
    record { is = subst (λ s. Written text whole s held now o o') (sym e) (written_from text whole r held now o o' appends front cause) }

refused_from : (mode : Mode) (text line : List ℕ) (status : Status) (held now : Option (List ℕ)) (o o' : ℕ)
    → ((script : List ℕ) → Prints mode Refused text script line) → Written line Refused status held now o o' → PrintAnswer mode status text held now o o'
refused_from mode text line status held now o o' defined (inl w) =
    subst (λ s. PrintAnswer mode s text held now o o') (sym w.0) (record { line = line; defined = defined; written = w.1; out = w.2 })
refused_from mode text line status held now o o' defined (inr w) =
    subst (λ s. PrintAnswer mode s text held now o o') (sym w.0) (record { whole = Refused; line = line; defined = defined; front = w.1; rises = w.2; rose = w.3 })

done_from : (mode : Mode) (text line : List ℕ) (status : Status) (held now : Option (List ℕ)) (o o' : ℕ)
    → ((script : List ℕ) → Prints mode Done text script line) → Written line Done status held now o o' → PrintAnswer mode status text held now o o'
done_from mode text line status held now o o' defined (inl w) =
    subst (λ s. PrintAnswer mode s text held now o o') (sym w.0) (record { line = line; defined = defined; written = w.1; out = w.2 })
done_from mode text line status held now o o' defined (inr w) =
    subst (λ s. PrintAnswer mode s text held now o o') (sym w.0) (record { whole = Done; line = line; defined = defined; front = w.1; rises = w.2; rose = w.3 })

refusal_printed : (mode : Mode) (text : List ℕ) (rule : Rule) (place : Pos) → Names mode text rule place → (script : List ℕ) → Prints mode Refused text script (refusal_line rule place)
refusal_printed Run text rule place named script = (rule, place, named, refl)
refusal_printed Check text rule place named script = (rule, place, named, refl)
refusal_printed asked.List text rule place named script = (rule, place, named, refl)
refusal_printed Tidy text rule place named script = (rule, place, named, refl)
refusal_printed Show text rule place named script = absurd named

pub refused_with : (mode : Mode) (text : List ℕ) (rule : Rule) (place : Pos) (status : Status) (held now : Option (List ℕ)) (o o' : ℕ)
    → Names mode text rule place → IsWritten (refusal_line rule place) Refused status held now o o' → IsPrintAnswer mode status text held now o o'
refused_with mode text rule place status held now o o' named w =
    record { is = refused_from mode text (refusal_line rule place) status held now o o' (refusal_printed mode text rule place named) w.is }

pub memory_wanted : {mode : Mode} {text : List ℕ} {held now : Option (List ℕ)} {o o' : ℕ} → now ≡ held → o' ≡ o → IsPrintAnswer mode Memory text held now o o'
memory_wanted same quiet = record { is = (same, quiet) }

pub broken_text : (text : List ℕ) (e : CompileError) (rule : Rule) (place : Pos) → IsBroken text e → e ≡ broken.Refused rule place → Names Check text rule place
broken_text text e rule place h is = subst (λ x. IsBroken text x) is h

pub broken_tree : (text : List ℕ) (e : CompileError) (rule : Rule) (place : Pos) → IsTreeRefusal text e → e ≡ broken.Refused rule place → Names Tidy text rule place
broken_tree text e rule place h is = subst (λ x. IsTreeRefusal text x) is h

lines_same : (m m' t t' l l' : ℕ) → m ≡ m' → t ≡ t' → l ≡ l' → memory_line m t l ≡ memory_line m' t' l'
lines_same m m' t t' l l' e f g = ap (λ k. memory_line k t l) e ∙ ap (λ k. memory_line m' k l) f ∙ ap (λ k. memory_line m' t' k) g

pub memory_shown : (text : List ℕ) (K : Kernel) (m : ℕ) (b : Bounds) (status : Status) (held now : Option (List ℕ)) (o o' : ℕ)
    → IsProgram text K → m ≡ memory false K → AreBounds K b → IsWritten (memory_line m b.turns b.levels) Done status held now o o' → IsPrintAnswer Check status text held now o o'
memory_shown text K m b status held now o o' program sized bounded w =
    record { is = done_from Check text (memory_line m b.turns b.levels) status held now o o' (λ script. (K, program, lines_same m (memory false K) b.turns (bounds K).turns b.levels (bounds K).opens sized bounded.turns bounded.levels)) w.is }

-- a line, and then more
both_written : (a b : List ℕ) (r : Result (Unit {0}) Failed) (held between now : Option (List ℕ)) (o p o' : ℕ)
    → Appends a held between → p ≡ o → OnOk r (Appends b between now) → OnErr r (AppendsProperFront b between now) → HasCause p o' r → Written (a ++ b) Done (status_of r Done) held now o o'
both_written a b (Ok u) held between now o p o' first same appends front cause = inl (refl, appends_then a b held between now first appends, cause ∙ same)
both_written a b (Err e) held between now o p o' first same appends front cause =
    let c : HasCause {T = Unit {0}} o o' (Err e) = subst (λ n. HasCause {T = Unit {0}} n o' (Err e)) same cause in inr (refl, front_behind a b held between now first front, c.0, c.1)

pub both_shown : (a b : List ℕ) (status : Status) (r : Result (Unit {0}) Failed) (held between now : Option (List ℕ)) (o p o' : ℕ)
    → Appends a held between → p ≡ o → OnOk r (Appends b between now) → OnErr r (AppendsProperFront b between now) → HasCause p o' r → status ≡ status_of r Done → IsWritten (a ++ b) Done status held now o o'
both_shown a b status r held between now o p o' first same appends front cause e =
    record { is = subst (λ s. Written (a ++ b) Done s held now o o') (sym e) (both_written a b r held between now o p o' first same appends front cause) }

pub first_broken : (a b : List ℕ) (held now : Option (List ℕ)) (o o' : ℕ) → AppendsProperFront a held now → (o ≤ o') × Rose o o' → IsWritten (a ++ b) Done Write held now o o'
first_broken a b held now o o' front cause = record { is = inr (refl, front_of_more a b held now front, cause.0, cause.1) }

pub listing_shown : (text : List ℕ) (K : Kernel) (m : ℕ) (b : Bounds) (places : Planned) (gates : GatePlan) (status : Status) (held now : Option (List ℕ)) (o o' : ℕ)
    → IsProgram text K → m ≡ memory false K → AreBounds K b → HasPlaces false K places → IsByNode K (first_gate K) gates.first → IsByNode K (gate_count K) gates.count
    → IsWritten (memory_line m b.turns b.levels ++ listing_text places gates K) Done status held now o o' → IsPrintAnswer asked.List status text held now o o'
listing_shown text K m b places gates status held now o o' program sized bounded placed first count w = record {
  is = done_from asked.List text (memory_line m b.turns b.levels ++ listing_text places gates K) status held now o o' (λ script. (
    K,
    listing_text places gates K,
    program,
    (places, gates, placed, first, count, refl),
    ap (λ l. l ++ listing_text places gates K) (lines_same m (memory false K) b.turns (bounds K).turns b.levels (bounds K).opens sized bounded.turns bounded.levels),
  )) w.is;
}

pub form_shown : (text form bytes : List ℕ) (tokens : List Token) (tree : Tree) (status : Status) (held now : Option (List ℕ)) (o o' : ℕ)
    → HasTree text tokens tree → form ≡ program_text tree → bytes ≡ form → IsWritten bytes Done status held now o o' → IsPrintAnswer Tidy status text held now o o'
form_shown text form bytes tokens tree status held now o o' has is same w =
    record { is = done_from Tidy text bytes status held now o o' (λ script. (tokens, tree, has, same ∙ is)) w.is }

pub image_shown : (bytes : List ℕ) (image : Image) (status : Status) (held now : Option (List ℕ)) (o o' : ℕ)
    → Spells image bytes → IsWritten (show_text image) Done status held now o o' → IsPrintAnswer Show status bytes held now o o'
image_shown bytes image status held now o o' spells w =
    record { is = done_from Show bytes (show_text image) status held now o o' (λ script. (image, spells, refl)) w.is }

pub bytes_refused : (bytes : List ℕ) (e : DecodeError) (at : ℕ) (status : Status) (held now : Option (List ℕ)) (o o' : ℕ)
    → IsCause bytes e → e ≡ undecoded.Bad at → IsWritten (no_image_line at) Refused status held now o o' → IsPrintAnswer Show status bytes held now o o'
bytes_refused bytes e at status held now o o' cause is w =
    let bad : IsCause bytes (undecoded.Bad at) = subst (λ x. IsCause bytes x) is cause in
    record { is = refused_from Show bytes (no_image_line at) status held now o o' (λ script. (at, bad.0, bad.1, refl)) w.is }

-- the script isn't read
pub text_printed : {mode : Mode} {status : Status} {text : List ℕ} {left held now : Option (List ℕ)} {i o o' : ℕ}
    → IsPrintAnswer mode status text held now o o' → IsTextAnswer mode status text left left held now i i o o'
text_printed a = record { is = inr (a.is, record { bytes = refl; input = refl }) }

pub text_unmet : {mode : Mode} {text : List ℕ} {left left' held now : Option (List ℕ)} {i i' o o' : ℕ}
    → left' ≡ left → now ≡ held → i' ≡ i → o' ≡ o → IsTextAnswer mode Memory text left left' held now i i' o o'
text_unmet bytes same input out = record { is = inr ((same, out), record { bytes = bytes; input = input }) }

-- ---- a run

text_ran : (answer : Played) (text : List ℕ) (left left' held now : Option (List ℕ)) (i i' o o' : ℕ) → Ran Run answer text left left' held now i i' o o'
    → RunAnswer Run (played_status answer) text left left' held now i i' o o'
text_ran played.Done text left left' held now i i' o o' ran = ran
text_ran played.Fault text left left' held now i i' o o' ran = ran
text_ran played.Script text left left' held now i i' o o' ran = ran
text_ran played.Read text left left' held now i i' o o' ran = ran
text_ran played.Write text left left' held now i i' o o' ran = ran

pub run_is : (answer : Played) (status : Status) (text : List ℕ) (K : Kernel) (m : ℕ) (b : Bounds) (left left' held now : Option (List ℕ)) (i i' o o' : ℕ)
    → IsProgram text K → first_unbuilt K ≡ None → m ≡ memory false K → AreBounds K b
    → WhereTold left left' (λ old new. RunPrints answer (memory_line m b.turns b.levels) K old (length new) held now)
    → PlayCause answer i i' o o' → status ≡ played_status answer → IsTextAnswer Run status text left left' held now i i' o o'
run_is answer status text K m b left left' held now i i' o o' program built sized bounded told cause e = record {
  is = inl (subst (λ s. RunAnswer Run s text left left' held now i i' o o') (sym e) (text_ran answer text left left' held now i i' o o' (record {
    in_run = refl;
    kernel = K;
    runnable = (program, built);
    told = subst (λ line. WhereTold left left' (λ old new. RunPrints answer line K old (length new) held now))
        (lines_same m (memory false K) b.turns (bounds K).turns b.levels (bounds K).opens sized bounded.turns bounded.levels) told;
    cause = cause;
  })));
}
