-- A run behind its first line.
use Rattle.std.proofs.Common.{◌≡◌, refl, sym, ap, subst, ℕ, ◌+◌, ◌≤◌, arith, inl, inr, false, List, [], ◌++◌, length, length-append, take, Option, Some, None}
use Rattle.std.specs.Prelude.{◌⊎◌}
use Rattle.std.proofs.lemmas.List.{take-append-le}
use Rattle.std.proofs.Math.Seq.{take-append-add}
use Rattle.ceu_run.specs.Printing.{commands_of, run_text}
use Rattle.ceu_run.specs.Playing.{Whole, StopsReading, StopsWriting, Plays, shown_text}
use Rattle.ceu_run.specs.declared.answers.Played.{Played}
use Rattle.ceu_run.specs.declared.answers.Played.TheVariants as played
use Rattle.ceu_io.specs.Bytes.{Appends, AppendsProperFront}
use Rattle.ceu_io.specs.Told.{WhereTold}
use Rattle.ceu_io.proofs.Offers.{appends_then}
use Rattle.ceu_script.specs.Lines.{Line}
use Rattle.ceu_tree.specs.declared.command.Command.{Command}
use Rattle.ceu_tree.specs.declared.kernel.Kernel.{Kernel}
use Rattle.ceu_run.specs.Runs.{lines_of, IsRun, IsCut, IsUpTo, RunPrints}

module _ (first : List ℕ) (K : Kernel) (bytes : List ℕ) (left : ℕ) (held mid now : Option (List ℕ)) (line : Appends first held mid) where
  whole : (answer : Played) → Whole answer K (lines_of K bytes) false K.outputs mid now → (written : List ℕ) × IsRun answer first K bytes written × Appends written held now
  whole answer h = (
    first ++ h.text,
    record { bound = h.bound; texts = λ n le. ap (λ t. first ++ t) (h.texts n le); ends = h.ends },
    appends_then first h.text held mid now line h.written,
  )

  read : StopsReading K (lines_of K bytes) bytes left false K.outputs mid now → (written : List ℕ) × IsUpTo first K bytes left written × Appends written held now
  read h = (
    first ++ h.text,
    record {
      before = h.before;
      behind = h.behind;
      lines_are = h.lines_are;
      good = h.good;
      taken = h.taken;
      bound = h.bound;
      waits = h.waits;
      texts = λ n le. ap (λ t. first ++ t) (h.texts n le);
    },
    appends_then first h.text held mid now line h.written,
  )

  longer : (n m : ℕ) (before : List (Line Command)) → ((before ≡ []) ⊎ (length (shown_text false K.outputs K n (commands_of before)) ≤ m))
      → ((before ≡ []) ⊎ (length (first ++ shown_text false K.outputs K n (commands_of before)) ≤ length first + m))
  longer n m before (inl none) = inl none
  longer n m before (inr le) = inr (omega (arith, length-append first (shown_text false K.outputs K n (commands_of before))))

  cut : StopsWriting K (lines_of K bytes) bytes left false K.outputs mid now → IsCut first K bytes left held now
  cut h = record {
    before = h.before;
    behind = h.behind;
    lines_are = h.lines_are;
    taken = h.taken;
    bound = h.bound;
    front = λ n le. (let f = h.front n le in (
      length first + f.0,
      omega (arith, length-append first (run_text false K.outputs K n (lines_of K bytes)), f.1),
      subst (λ l. Appends l held now) (sym (take-append-add first (run_text false K.outputs K n (lines_of K bytes)) f.0))
          (appends_then first (take f.0 (run_text false K.outputs K n (lines_of K bytes))) held mid now line f.2),
      longer n f.0 h.before f.3,
    ));
  }

  behind : (answer : Played) → Plays answer K (lines_of K bytes) bytes left false K.outputs mid now → RunPrints answer first K bytes left held now
  behind played.Done h = (whole played.Done h.0, h.1)
  behind played.Fault h = (whole played.Fault h.0, h.1)
  behind played.Script h = (whole played.Script h.0, h.1)
  behind played.Read h = (read h.0, h.1)
  behind played.Write h = cut h

-- the sink failed on the first line, and nothing of the script was taken
cut_at_once : (first : List ℕ) (K : Kernel) (bytes : List ℕ) (held now : Option (List ℕ)) → AppendsProperFront first held now → IsCut first K bytes (length bytes) held now
cut_at_once first K bytes held now (m, less, appends) = record {
  before = [];
  behind = lines_of K bytes;
  lines_are = refl;
  taken = omega arith;
  bound = 0;
  front = λ n le. (
    m,
    omega (arith, length-append first (run_text false K.outputs K n (lines_of K bytes))),
    subst (λ l. Appends l held now) (sym (take-append-le m first (run_text false K.outputs K n (lines_of K bytes)) (omega arith))) appends,
    inl refl,
  );
}

pub told_behind : (first : List ℕ) (K : Kernel) (answer : Played) (left left' : Option (List ℕ)) (held mid now : Option (List ℕ)) → Appends first held mid
    → WhereTold left left' (λ old new. Plays answer K (lines_of K old) old (length new) false K.outputs mid now)
    → WhereTold left left' (λ old new. RunPrints answer first K old (length new) held now)
told_behind first K answer None left' held mid now line t = t
told_behind first K answer (Some old) None held mid now line t = absurd t
told_behind first K answer (Some old) (Some new) held mid now line t = behind first K old (length new) held mid now line answer t

pub told_at_once : (first : List ℕ) (K : Kernel) (left : Option (List ℕ)) (held now : Option (List ℕ)) → AppendsProperFront first held now
    → WhereTold left left (λ old new. RunPrints played.Write first K old (length new) held now)
told_at_once first K None held now front = refl
told_at_once first K (Some old) held now front = cut_at_once first K old held now front
