use Rattle.std.proofs.Common.{◌≤◌, ◌+◌, length, refl, sym, subst, arith}
use Rattle.ceu_lex.specs.Positions.{pos_after}
use Rattle.ceu_lex.specs.Texts.{ReadsTo}
use Rattle.ceu_lex.proofs.Once.{tokens_are, no_rule, no_tokens, rule_is}
use Rattle.ceu_lex.proofs.Reading.{nothing_read, breaks_gap, breaks_token, is_next, reads_more, position_more, length_rest, length_piece, at_ok, all_read}
use Rattle.ceu_lex.proofs.lexer.lex.Goals as goal

pub loop-begin-init : goal.loop-begin-init
unfolding pos_after
loop-begin-init c = record { read = nothing_read _ _ c.new-tokens.ensures; within = omega arith; place = refl; line = omega arith; col = (omega arith, omega arith) }

pub returns-in-Err-clause-refused : goal.returns-in-Err-clause-refused
returns-in-Err-clause-refused c = breaks_gap _ _ _ _ _ _ c.loop-begin.invariant.read c.loop-begin.invariant.place c.in-Err.ensures.err.0 c.in-Err.ensures.value c.pos_after.ensures.place

pub returns-in-Err-clause-only_tokens : goal.returns-in-Err-clause-only_tokens
returns-in-Err-clause-only_tokens c = no_tokens _ _ _ _ _ (breaks_gap _ _ _ _ _ _ c.loop-begin.invariant.read c.loop-begin.invariant.place c.in-Err.ensures.err.0 c.in-Err.ensures.value c.pos_after.ensures.place)

pub returns-in-Err-clause-only_rule : goal.returns-in-Err-clause-only_rule
returns-in-Err-clause-only_rule c = rule_is _ _ _ (breaks_gap _ _ _ _ _ _ c.loop-begin.invariant.read c.loop-begin.invariant.place c.in-Err.ensures.err.0 c.in-Err.ensures.value c.pos_after.ensures.place)

pub returns-in-Err-lexeme-clause-refused : goal.returns-in-Err-lexeme-clause-refused
returns-in-Err-lexeme-clause-refused c = breaks_token _ _ _ c.in-Ok.begin _ _ _ c.loop-begin.invariant.read c.loop-begin.invariant.place c.in-Ok.ensures.ok.0 c.in-Ok.ensures.value c.pos_after-pos.ensures.place
    (omega (arith, c.if-begin-text.false, c.in-Ok.ensures.ok.1, length_rest c.args.text.now c.loop-begin.at c.loop-begin.invariant.within)) c.in-Err-lexeme.ensures.value

pub returns-in-Err-lexeme-clause-only_tokens : goal.returns-in-Err-lexeme-clause-only_tokens
returns-in-Err-lexeme-clause-only_tokens c = no_tokens _ _ _ _ _ (breaks_token _ _ _ c.in-Ok.begin _ _ _ c.loop-begin.invariant.read c.loop-begin.invariant.place c.in-Ok.ensures.ok.0 c.in-Ok.ensures.value c.pos_after-pos.ensures.place
    (omega (arith, c.if-begin-text.false, c.in-Ok.ensures.ok.1, length_rest c.args.text.now c.loop-begin.at c.loop-begin.invariant.within)) c.in-Err-lexeme.ensures.value)

pub returns-in-Err-lexeme-clause-only_rule : goal.returns-in-Err-lexeme-clause-only_rule
returns-in-Err-lexeme-clause-only_rule c = rule_is _ _ _ (breaks_token _ _ _ c.in-Ok.begin _ _ _ c.loop-begin.invariant.read c.loop-begin.invariant.place c.in-Ok.ensures.ok.0 c.in-Ok.ensures.value c.pos_after-pos.ensures.place
    (omega (arith, c.if-begin-text.false, c.in-Ok.ensures.ok.1, length_rest c.args.text.now c.loop-begin.at c.loop-begin.invariant.within)) c.in-Err-lexeme.ensures.value)

pub returns-then-begin-text-clause-only_tokens : goal.returns-then-begin-text-clause-only_tokens
returns-then-begin-text-clause-only_tokens c = tokens_are _ _ (all_read _ _ _ _ c.loop-begin.invariant.read c.in-Ok.ensures.value c.if-begin-text.true)

pub returns-then-begin-text-clause-only_rule : goal.returns-then-begin-text-clause-only_rule
returns-then-begin-text-clause-only_rule c = no_rule _ _ (all_read _ _ _ _ c.loop-begin.invariant.read c.in-Ok.ensures.value c.if-begin-text.true)

pub loop-begin-preserved : goal.loop-begin-preserved
loop-begin-preserved c =
    let text = c.args.text.now in
    let begin = c.in-Ok.begin in
    let n = c.in-Ok-lexeme.found.1 in
    let ends : begin ≤ length text = omega (arith, c.in-Ok.ensures.ok.1, length_rest text c.loop-begin.at c.loop-begin.invariant.within) in
    let within : begin + n ≤ length text = omega (arith, c.in-Ok-lexeme.ensures.within.1, length_rest text begin ends) in
    let here = position_more text c.loop-begin.at begin _ _ c.loop-begin.invariant.place c.in-Ok.ensures.ok.0 c.pos_after-pos.ensures.place in
    let pushed = at_ok _ _ c.in_ok-push.was c.push.ensures.ok in
    record {
      read = subst (λ l. ReadsTo text 0 l (begin + n)) (sym pushed) (reads_more text 0 _ c.loop-begin.at _ c.loop-begin.invariant.read (is_next text c.loop-begin.at begin n _ _ _ c.loop-begin.invariant.place c.in-Ok.ensures.ok.0 c.in-Ok.ensures.value c.pos_after-pos.ensures.place c.in-Ok-lexeme.ensures.value));
      within = within;
      place = position_more text begin (begin + n) _ _ here (omega arith) c.pos_after-pos-in-loop-begin.ensures.place;
      line = omega (arith, c.pos_after-pos-in-loop-begin.ensures.line, c.pos_after-pos.ensures.line, c.loop-begin.invariant.line, c.in-Ok.ensures.ok.0, length_piece text c.loop-begin.at begin, length_piece text begin (begin + n));
      col = (c.pos_after-pos-in-loop-begin.ensures.col.0, omega (arith, c.pos_after-pos-in-loop-begin.ensures.col.1, c.pos_after-pos.ensures.col.1, c.loop-begin.invariant.col.1, c.in-Ok.ensures.ok.0, length_piece text c.loop-begin.at begin, length_piece text begin (begin + n)));
    }
