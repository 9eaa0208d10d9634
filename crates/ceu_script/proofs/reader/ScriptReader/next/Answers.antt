use Rattle.std.proofs.Common.{ℕ, List, sym, subst}
use Rattle.std.proofs.lemmas.Result.{err_from_is_err_and}
use Rattle.ceu_io.specs.Told.{WhereTold}
use Rattle.ceu_io.proofs.Telling.{where_told_map}
use Rattle.ceu_script.specs.Lines.{GivesLine, Comes, Spoils, Ends, script_lines, script}
use Rattle.ceu_script.specs.Places.{Skips}
use Rattle.ceu_script.specs.Reader.{ahead}
use Rattle.ceu_script.specs.declared.items.LineItem.{LineItem}
use Rattle.ceu_script.proofs.Judging.{script_skips, command_comes, line_spoils, bad_spoils, script_ends}
use Rattle.ceu_script.proofs.reader.ScriptReader.next.Goals as goal

pub returns-in-Ok-clause-told : goal.returns-in-Ok-clause-told
returns-in-Ok-clause-told g c =
    where_told_map _ _ _ (λ old new. Comes c.in-Ok.command c.args.self.now.last.lines c.next_line.new.self.last.lines (script c.args.inputs.now (ahead c.args.self.now old)) (script c.args.inputs.now (ahead c.next_line.new.self new)))
    (λ old new is. command_comes c.args.inputs.now (ahead c.args.self.now old) (ahead c.next_line.new.self new) _ _ c.line.result.now c.in-Ok.command (sym c.in-Ok.ensures.command)
    (subst (λ (t : List ℕ). Comes t c.args.self.now.last.lines c.next_line.new.self.last.lines (script_lines (ahead c.args.self.now old)) (script_lines (ahead c.next_line.new.self new))) (sym c.line.ensures) is))
    (subst (λ (l : LineItem). WhereTold (g.I.Source.left c.args.src.now) (g.I.Source.left c.next_line.new.src) (λ old new. GivesLine l c.args.self.now c.next_line.new.self (script_lines (ahead c.args.self.now old)) (script_lines (ahead c.next_line.new.self new)))) c.in-Line.is c.in_ok-next_line.ensures.told)

pub returns-in-Err-clause-told : goal.returns-in-Err-clause-told
returns-in-Err-clause-told g c =
    subst (λ (n : ℕ). WhereTold (g.I.Source.left c.args.src.now) (g.I.Source.left c.next_line.new.src) (λ old new. Spoils c.in-Err.kind c.args.self.now.last.lines n (script c.args.inputs.now (ahead c.args.self.now old)))) (sym c.lines.ensures)
    (where_told_map _ _ _ (λ old new. Spoils c.in-Err.kind c.args.self.now.last.lines c.next_line.new.self.last.lines (script c.args.inputs.now (ahead c.args.self.now old)))
    (λ old new is. line_spoils c.args.inputs.now (ahead c.args.self.now old) (ahead c.next_line.new.self new) _ _ c.line.result.now c.in-Err.kind (sym c.in-Err.ensures.command)
    (subst (λ (t : List ℕ). Comes t c.args.self.now.last.lines c.next_line.new.self.last.lines (script_lines (ahead c.args.self.now old)) (script_lines (ahead c.next_line.new.self new))) (sym c.line.ensures) is))
    (subst (λ (l : LineItem). WhereTold (g.I.Source.left c.args.src.now) (g.I.Source.left c.next_line.new.src) (λ old new. GivesLine l c.args.self.now c.next_line.new.self (script_lines (ahead c.args.self.now old)) (script_lines (ahead c.next_line.new.self new)))) c.in-Line.is c.in_ok-next_line.ensures.told))

pub returns-in-End-clause-told : goal.returns-in-End-clause-told
returns-in-End-clause-told g c =
    where_told_map _ _ _ (λ old new. Ends c.args.self.now.last.lines c.next_line.new.self.last.lines (script c.args.inputs.now (ahead c.args.self.now old)))
    (λ old new is. script_ends c.args.inputs.now (ahead c.args.self.now old) (ahead c.next_line.new.self new) _ _ is)
    (subst (λ (l : LineItem). WhereTold (g.I.Source.left c.args.src.now) (g.I.Source.left c.next_line.new.src) (λ old new. GivesLine l c.args.self.now c.next_line.new.self (script_lines (ahead c.args.self.now old)) (script_lines (ahead c.next_line.new.self new)))) c.in-End.is c.in_ok-next_line.ensures.told)

pub returns-in-Bad-clause-told : goal.returns-in-Bad-clause-told
returns-in-Bad-clause-told g c =
    where_told_map _ _ _ (λ old new. Spoils c.in-Bad.kind c.args.self.now.last.lines c.in-Bad.number (script c.args.inputs.now (ahead c.args.self.now old)))
    (λ old new is. bad_spoils c.args.inputs.now (ahead c.args.self.now old) (ahead c.next_line.new.self new) _ _ c.in-Bad.kind is)
    (subst (λ (l : LineItem). WhereTold (g.I.Source.left c.args.src.now) (g.I.Source.left c.next_line.new.src) (λ old new. GivesLine l c.args.self.now c.next_line.new.self (script_lines (ahead c.args.self.now old)) (script_lines (ahead c.next_line.new.self new)))) c.in-Bad.is c.in_ok-next_line.ensures.told)

pub returns-in_err-next_line-clause-skipped : goal.returns-in_err-next_line-clause-skipped
returns-in_err-next_line-clause-skipped g c =
    let p = err_from_is_err_and c.from_residual.result c.from_residual.ensures.1 in
    rw p.1 (where_told_map _ _ _ (λ old new. Skips c.args.self.now.last.lines c.next_line.new.self.last.lines (script c.args.inputs.now (ahead c.args.self.now old)))
    (λ old new is. script_skips c.args.inputs.now (ahead c.args.self.now old) c.args.self.now.last.lines c.next_line.new.self.last.lines is) c.in_err-next_line.ensures.skipped)
