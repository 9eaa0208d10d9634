use Rattle.std.proofs.Common.{◌≡◌, ◌+◌, ℕ, [], ◌∷◌, length, Ok, sym, ◌∙◌, ap, subst, arith}
use Rattle.std.proofs.lemmas.Bool.Decides.{nat_tests}
use Rattle.std.proofs.lemmas.Result.{err_from_is_err_and}
use Rattle.ceu_io.specs.Told.{WhereTold}
use Rattle.ceu_io.proofs.Telling.{where_told_map}
use Rattle.ceu_script.specs.Bytewise.{Answers, Passes, lines_after}
use Rattle.ceu_script.specs.Lines.{Spoils, script_lines, bad}
use Rattle.ceu_script.specs.Places.{start_after}
use Rattle.ceu_script.specs.Reader.{ahead, position}
use Rattle.ceu_script.specs.declared.items.BadKind.TheVariants.{Long, Budget}
use Rattle.ceu_script.specs.declared.lines.RawLine.{RawLine}
use Rattle.ceu_script.proofs.Front.{moved_then}
use Rattle.ceu_script.proofs.Listing.{no_line, long_line_is, budget_line}
use Rattle.ceu_script.proofs.Placing.{text_stands, line_stands, nothing_stands, some_skipped}
use Rattle.ceu_script.proofs.Skipping.{text_comes, text_skipped, goes_on_after, spoils, ends}
use Rattle.ceu_script.proofs.reader.ScriptReader.next_line.Goals as goal

pub returns-then-not-is_empty-clause-told : goal.returns-then-not-is_empty-clause-told
returns-then-not-is_empty-clause-told g c =
    text_comes c.args.self.now c.loop-text.self c.read_line.new.self c.keep.new.self _ _ _ c.in-Text.text.items c.loop-text.invariant.skipped
    (subst (λ (r : RawLine). WhereTold (g.I.Source.left c.loop-text.src) (g.I.Source.left c.read_line.new.src) (λ old new. Answers r (ahead c.loop-text.self old) (ahead c.read_line.new.self new))) c.in-Text.is c.in_ok-text.ensures.told)
    (subst (λ (r : RawLine). c.read_line.new.self.last.lines ≡ lines_after (Ok r) c.loop-text.self.last.lines) c.in-Text.is c.in_ok-text.ensures.lines)
    c.keep.ensures.pending c.keep.ensures.taken c.keep.ensures.lines c.keep.ensures.text
    (let none : length c.keep.new.self.last.text ≡ length c.line.result.now = ap length (sym c.line.ensures) in grind (arith, nat_tests, none, c.is_empty.ensures, c.if-not-is_empty.true))

pub loop-text-preserved : goal.loop-text-preserved
loop-text-preserved g c =
    let next = subst (λ (r : RawLine). WhereTold (g.I.Source.left c.loop-text.src) (g.I.Source.left c.read_line.new.src) (λ old new. Answers r (ahead c.loop-text.self old) (ahead c.read_line.new.self new))) c.in-Text.is c.in_ok-text.ensures.told in
    let counted : c.read_line.new.self.last.lines ≡ c.loop-text.self.last.lines + 1 = subst (λ (r : RawLine). c.read_line.new.self.last.lines ≡ lines_after (Ok r) c.loop-text.self.last.lines) c.in-Text.is c.in_ok-text.ensures.lines in
    let passes = subst (λ (r : RawLine). Passes r c.loop-text.self c.read_line.new.self) c.in-Text.is c.in_ok-text.ensures.passes in
    let none : length c.keep.new.self.last.text ≡ length c.line.result.now = ap length (sym c.line.ensures) in
    record {
      skipped = text_skipped c.args.self.now c.loop-text.self c.read_line.new.self c.keep.new.self _ _ _ c.in-Text.text.items c.loop-text.invariant.skipped next counted
          c.keep.ensures.pending c.keep.ensures.taken c.keep.ensures.lines c.keep.ensures.text (grind (arith, nat_tests, none, c.is_empty.ensures, c.if-not-is_empty.false));
      at = text_stands c.loop-text.self c.read_line.new.self c.keep.new.self c.in-Text.text.items
          (subst (λ (r : RawLine). c.read_line.new.self.last.start ≡ start_after (Ok r) (position c.loop-text.self) c.loop-text.self.last.start) c.in-Text.is c.in_ok-text.ensures.start) counted c.read_line.ensures.held c.loop-text.invariant.goes_on.within
          c.keep.ensures.pending c.keep.ensures.taken c.keep.ensures.start c.keep.ensures.lines c.keep.ensures.held c.read_line.ensures.taken.1
          c.args.self.now (g.I.Source.left c.args.src.now) (g.I.Source.left c.loop-text.src) (g.I.Source.left c.read_line.new.src) c.loop-text.invariant.at next c.read_line.ensures.moved;
      moved = subst (λ (n : ℕ). WhereTold (g.I.Source.left c.args.src.now) (g.I.Source.left c.read_line.new.src) (λ old new. n + length new ≡ c.args.self.now.taken + length old)) (sym c.keep.ensures.taken)
          (moved_then _ _ _ c.args.self.now.taken c.loop-text.self.taken c.read_line.new.self.taken c.loop-text.invariant.moved c.read_line.ensures.moved);
      quiet = c.in_ok-text.ensures.cause ∙ c.loop-text.invariant.quiet;
      goes_on = goes_on_after c.args.self.now c.loop-text.self c.read_line.new.self c.keep.new.self _ _ _ c.in-Text.text.items c.loop-text.invariant.skipped next counted
          c.keep.ensures.pending c.keep.ensures.taken c.keep.ensures.lines c.keep.ensures.text passes.0 c.keep.ensures.start passes.1 passes.2 c.read_line.ensures.taken.1 c.loop-text.invariant.goes_on;
      behind = let held : length c.keep.new.self.pending ≡ length c.read_line.new.self.pending = ap length c.keep.ensures.pending in omega (arith, held, passes.1, c.loop-text.invariant.behind, c.keep.ensures.taken);
    }

pub returns-in-End-clause-told : goal.returns-in-End-clause-told
returns-in-End-clause-told g c =
    ends c.args.self.now c.loop-text.self c.read_line.new.self _ _ _ c.loop-text.invariant.skipped
    (subst (λ (r : RawLine). c.read_line.new.self.last.lines ≡ lines_after (Ok r) c.loop-text.self.last.lines) c.in-End.is c.in_ok-text.ensures.lines)
    (where_told_map _ _ _ (λ old new. script_lines (ahead c.loop-text.self old) ≡ []) (λ old new is. no_line _ is)
    (subst (λ (r : RawLine). WhereTold (g.I.Source.left c.loop-text.src) (g.I.Source.left c.read_line.new.src) (λ old new. Answers r (ahead c.loop-text.self old) (ahead c.read_line.new.self new))) c.in-End.is c.in_ok-text.ensures.told))

pub returns-in-Long-clause-told : goal.returns-in-Long-clause-told
returns-in-Long-clause-told g c =
    subst (λ (n : ℕ). WhereTold (g.I.Source.left c.args.src.now) (g.I.Source.left c.read_line.new.src) (λ old new. Spoils Long c.args.self.now.last.lines n (script_lines (ahead c.args.self.now old)))) (sym c.lines.ensures)
    (spoils c.args.self.now c.loop-text.self c.read_line.new.self _ _ _ c.loop-text.invariant.skipped Long
    (subst (λ (r : RawLine). c.read_line.new.self.last.lines ≡ lines_after (Ok r) c.loop-text.self.last.lines) c.in-Long.is c.in_ok-text.ensures.lines)
    (where_told_map _ _ _ (λ old new. script_lines (ahead c.loop-text.self old) ≡ bad Long ∷ []) (λ old new is. long_line_is _ is)
    (subst (λ (r : RawLine). WhereTold (g.I.Source.left c.loop-text.src) (g.I.Source.left c.read_line.new.src) (λ old new. Answers r (ahead c.loop-text.self old) (ahead c.read_line.new.self new))) c.in-Long.is c.in_ok-text.ensures.told)))

pub returns-in-Budget-clause-told : goal.returns-in-Budget-clause-told
returns-in-Budget-clause-told g c =
    subst (λ (n : ℕ). WhereTold (g.I.Source.left c.args.src.now) (g.I.Source.left c.read_line.new.src) (λ old new. Spoils Budget c.args.self.now.last.lines n (script_lines (ahead c.args.self.now old)))) (sym c.lines-in-Budget.ensures)
    (spoils c.args.self.now c.loop-text.self c.read_line.new.self _ _ _ c.loop-text.invariant.skipped Budget
    (subst (λ (r : RawLine). c.read_line.new.self.last.lines ≡ lines_after (Ok r) c.loop-text.self.last.lines) c.in-Budget.is c.in_ok-text.ensures.lines)
    (where_told_map _ _ _ (λ old new. script_lines (ahead c.loop-text.self old) ≡ bad Budget ∷ []) (λ old new is. budget_line _ is)
    (subst (λ (r : RawLine). WhereTold (g.I.Source.left c.loop-text.src) (g.I.Source.left c.read_line.new.src) (λ old new. Answers r (ahead c.loop-text.self old) (ahead c.read_line.new.self new))) c.in-Budget.is c.in_ok-text.ensures.told)))

pub returns-then-not-is_empty-clause-places : goal.returns-then-not-is_empty-clause-places
returns-then-not-is_empty-clause-places g c =
    text_stands c.loop-text.self c.read_line.new.self c.keep.new.self c.in-Text.text.items
    (subst (λ (r : RawLine). c.read_line.new.self.last.start ≡ start_after (Ok r) (position c.loop-text.self) c.loop-text.self.last.start) c.in-Text.is c.in_ok-text.ensures.start)
    (subst (λ (r : RawLine). c.read_line.new.self.last.lines ≡ lines_after (Ok r) c.loop-text.self.last.lines) c.in-Text.is c.in_ok-text.ensures.lines)
    c.read_line.ensures.held c.loop-text.invariant.goes_on.within
    c.keep.ensures.pending c.keep.ensures.taken c.keep.ensures.start c.keep.ensures.lines c.keep.ensures.held c.read_line.ensures.taken.1
    c.args.self.now (g.I.Source.left c.args.src.now) (g.I.Source.left c.loop-text.src) (g.I.Source.left c.read_line.new.src) c.loop-text.invariant.at
    (subst (λ (r : RawLine). WhereTold (g.I.Source.left c.loop-text.src) (g.I.Source.left c.read_line.new.src) (λ old new. Answers r (ahead c.loop-text.self old) (ahead c.read_line.new.self new))) c.in-Text.is c.in_ok-text.ensures.told)
    c.read_line.ensures.moved

pub returns-in-End-clause-places : goal.returns-in-End-clause-places
returns-in-End-clause-places g c = nothing_stands c.args.self.now c.loop-text.self c.read_line.new.self (g.I.Source.left c.args.src.now) (g.I.Source.left c.loop-text.src) (g.I.Source.left c.read_line.new.src)
    (subst (λ (r : RawLine). c.read_line.new.self.last.start ≡ start_after (Ok r) (position c.loop-text.self) c.loop-text.self.last.start) c.in-End.is c.in_ok-text.ensures.start)
    (subst (λ (r : RawLine). c.read_line.new.self.last.lines ≡ lines_after (Ok r) c.loop-text.self.last.lines) c.in-End.is c.in_ok-text.ensures.lines) c.loop-text.invariant.at c.read_line.ensures.moved

pub returns-in-Long-clause-places : goal.returns-in-Long-clause-places
returns-in-Long-clause-places g c = line_stands c.args.self.now c.loop-text.self c.read_line.new.self (g.I.Source.left c.args.src.now) (g.I.Source.left c.loop-text.src) (g.I.Source.left c.read_line.new.src)
    (subst (λ (r : RawLine). c.read_line.new.self.last.start ≡ start_after (Ok r) (position c.loop-text.self) c.loop-text.self.last.start) c.in-Long.is c.in_ok-text.ensures.start)
    (subst (λ (r : RawLine). c.read_line.new.self.last.lines ≡ lines_after (Ok r) c.loop-text.self.last.lines) c.in-Long.is c.in_ok-text.ensures.lines) c.loop-text.invariant.at c.read_line.ensures.moved

pub returns-in-Budget-clause-places : goal.returns-in-Budget-clause-places
returns-in-Budget-clause-places g c = line_stands c.args.self.now c.loop-text.self c.read_line.new.self (g.I.Source.left c.args.src.now) (g.I.Source.left c.loop-text.src) (g.I.Source.left c.read_line.new.src)
    (subst (λ (r : RawLine). c.read_line.new.self.last.start ≡ start_after (Ok r) (position c.loop-text.self) c.loop-text.self.last.start) c.in-Budget.is c.in_ok-text.ensures.start)
    (subst (λ (r : RawLine). c.read_line.new.self.last.lines ≡ lines_after (Ok r) c.loop-text.self.last.lines) c.in-Budget.is c.in_ok-text.ensures.lines) c.loop-text.invariant.at c.read_line.ensures.moved

pub returns-in_err-text-clause-places : goal.returns-in_err-text-clause-places
returns-in_err-text-clause-places g c =
    let p = err_from_is_err_and c.from_residual.result c.from_residual.ensures.1 in
    rw p.1 (nothing_stands c.args.self.now c.loop-text.self c.read_line.new.self (g.I.Source.left c.args.src.now) (g.I.Source.left c.loop-text.src) (g.I.Source.left c.read_line.new.src) c.in_err-text.ensures.start c.in_err-text.ensures.lines c.loop-text.invariant.at c.read_line.ensures.moved)

pub returns-in_err-text-clause-skipped : goal.returns-in_err-text-clause-skipped
returns-in_err-text-clause-skipped g c =
    let p = err_from_is_err_and c.from_residual.result c.from_residual.ensures.1 in
    rw p.1 (some_skipped c.args.self.now c.loop-text.self c.read_line.new.self (g.I.Source.left c.args.src.now) (g.I.Source.left c.loop-text.src) (g.I.Source.left c.read_line.new.src) c.loop-text.invariant.skipped c.in_err-text.ensures.lines c.read_line.ensures.moved)
