-- What a reaction that is noted as lines writes, and what it leaves of the sink of lines.
use Rattle.std.proofs.Common.{◌≡◌, ℕ, List, Option, Result}
use Rattle.ceu_base.specs.declared.kinds.Mark.{Mark}
use Rattle.ceu_io.specs.Bytes.{Appends, AppendsProperFront}
use Rattle.ceu_io.specs.declared.outside.Failed.{Failed}
use Rattle.ceu_trace.specs.Lines.{printed}
use Rattle.ceu_trace.specs.declared.marks.TextMarks.{TextMarks}
use Rattle.ceu_tree.specs.Run.{Config}
use Rattle.ceu_run.specs.Reactions.{Reaction}
use Rattle.ceu_run.specs.Printing.{Prints, new_text}
use Rattle.ceu_run.specs.declared.reactor.After.{After}
use Rattle.ceu_run.proofs.Marking.{reaction_prints, reaction_keeps}

abbrev notes : {D : Type 0} {s : _} → (D → Option (List ℕ)) → TextMarks D s → Mark → TextMarks D s → Type 0
notes held old m new = Appends (printed old.all old.outputs.now m) (held old.out.now) (held new.out.now) × (new.outputs.now ≡ old.outputs.now) × (new.all ≡ old.all) × (new.out.ghost_name ≡ old.out.ghost_name)

abbrev stops : {D : Type 0} {s : _} → (D → Option (List ℕ)) → TextMarks D s → Mark → TextMarks D s → Type 0
stops held old m new = AppendsProperFront (printed old.all old.outputs.now m) (held old.out.now) (held new.out.now) × (new.outputs.now ≡ old.outputs.now) × (new.all ≡ old.all) × (new.out.ghost_name ≡ old.out.ghost_name)

pub lines_printed : {D : Type 0} {s : _} (held : D → Option (List ℕ)) (stands : Config → Type 0) (later : ℕ → Config) (before : List Mark) (a b : TextMarks D s) (r : Result After Failed)
    → Reaction (notes held) (stops held) stands later before a b r → Prints stands later (λ n. new_text a.all a.outputs.now before (later n)) (held a.out.now) (held b.out.now) r
lines_printed {D = D} {s = s} held stands later before a b r is =
    reaction_prints (TextMarks D s) (λ w. held w.out.now) (λ w. w.outputs.now) (λ w. w.all) (λ w. w.out.ghost_name) (notes held) (stops held) (λ old m new f. f) (λ old m new f. f) stands later before a b r is

pub lines_kept : {D : Type 0} {s : _} (held : D → Option (List ℕ)) (stands : Config → Type 0) (later : ℕ → Config) (before : List Mark) (a b : TextMarks D s) (r : Result After Failed)
    → Reaction (notes held) (stops held) stands later before a b r → (b.outputs.now ≡ a.outputs.now) × (b.all ≡ a.all) × (b.out.ghost_name ≡ a.out.ghost_name)
lines_kept {D = D} {s = s} held stands later before a b r is =
    let f = reaction_keeps (TextMarks D s) (λ w. held w.out.now) (λ w. w.outputs.now) (λ w. w.all) (λ w. w.out.ghost_name) (notes held) (stops held) (λ old m new f. f) (λ old m new f. f) stands later before a b r is in
    (f.outputs_same, f.all_same, f.name_same)
