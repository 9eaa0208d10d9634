-- The same of names, parameters and emissions.
use Rattle.std.proofs.Common.{sym, List, ◌∷◌, subst}
use Rattle.ceu_tree.specs.declared.kernel.ParKind.{ParKind}
use Rattle.ceu_tree.specs.declared.kernel.ParKind.TheVariants as par
use Rattle.ceu_tree.specs.declared.source.Ident.{Ident}
use Rattle.ceu_tree.specs.declared.source.Param.{Param}
use Rattle.ceu_syntax.specs.declared.machine.Case.TheVariants as case
use Rattle.ceu_syntax.specs.declared.terminal.Kind.{Kind}
use Rattle.ceu_syntax.specs.declared.terminal.Kind.TheVariants as k
use Rattle.ceu_syntax.specs.declared.terminal.Terminal.{Terminal}
use Rattle.ceu_syntax.specs.Expressions.{is_here, is_outer}
use Rattle.ceu_syntax.specs.Forms.{Names, last_name, one_name, Shares, no_list, empty_list, shared, ParamList, last_param, one_param, Params, no_params, none_params, some_params, Pars, is_never, is_or, is_and, Emits, emits_output, emits_event}
use Rattle.laws_text_printed.specs.ReadingWords.{of_lexeme, event_kind, event_kinds, par_kinds}
use Rattle.laws_text_printed.specs.Statements.{lowers_kinds, exts_kinds, params_kinds, shared_kinds}
use Rattle.laws_text_printed.specs.Spelled.{IsSpelled, AllSpelled, TokensSpelled}
use Rattle.laws_text_printed.proofs.Forms.{lower_comma, ext_comma, listed_shared, param_comma}
use Rattle.laws_text_printed.proofs.SpelledExpressions.{Kept}

pub lowers_kept : {tokens : List Terminal} {xs : List Ident} {rest : List Terminal} → Names case.Lower tokens xs rest → TokensSpelled tokens → Kept rest (lowers_kinds xs)
lowers_kept (last_name x at rest) h = record { rest = h.1; printed = λ after g. (h.0, g) }
lowers_kept (one_name {xs = xs} x at comma d) h =
    let r = lowers_kept d h.1.1 in
    record { rest = r.rest; printed = λ after g. (h.0, subst AllSpelled (lower_comma d after) (let both : AllSpelled (k.Comma ∷ lowers_kinds xs after) = (tt, r.printed after g) in both)) }

pub exts_kept : {tokens : List Terminal} {xs : List Ident} {rest : List Terminal} → Names case.Upper tokens xs rest → TokensSpelled tokens → Kept rest (exts_kinds xs)
exts_kept (last_name x at rest) h = record { rest = h.1; printed = λ after g. (h.0, g) }
exts_kept (one_name {xs = xs} x at comma d) h =
    let r = exts_kept d h.1.1 in
    record { rest = r.rest; printed = λ after g. (h.0, subst AllSpelled (ext_comma d after) (let both : AllSpelled (k.Comma ∷ exts_kinds xs after) = (tt, r.printed after g) in both)) }

pub shares_kept : {tokens : List Terminal} {xs : List Ident} {rest : List Terminal} → Shares tokens xs rest → TokensSpelled tokens → Kept rest (shared_kinds xs)
shares_kept (no_list rest) h = record { rest = h; printed = λ after g. g }
shares_kept (empty_list paren close rest) h = record { rest = h.1.1; printed = λ after g. g }
shares_kept (shared {xs = xs} paren close d) h =
    let r = lowers_kept d h.1 in
    record { rest = r.rest.1; printed = λ after g. subst AllSpelled (listed_shared d after) (let all : AllSpelled (k.OpenParen ∷ lowers_kinds xs (k.CloseParen ∷ after)) = (tt, r.printed (k.CloseParen ∷ after) (tt, g)) in all) }

param_list_kept : {tokens : List Terminal} {ps : List Param} {rest : List Terminal} → ParamList tokens ps rest → TokensSpelled tokens → Kept rest (params_kinds ps)
param_list_kept (last_param ty x at of name close rest) h = record { rest = h.1.1.1.1; printed = λ after g. (tt, (tt, (h.1.1.0, g))) }
param_list_kept (one_param {ps = ps} ty x at of name comma d) h =
    let r = param_list_kept d h.1.1.1.1 in
    record { rest = r.rest; printed = λ after g. (tt, (tt, (h.1.1.0, subst AllSpelled (param_comma d after) (let both : AllSpelled (k.Comma ∷ params_kinds ps after) = (tt, r.printed after g) in both)))) }

pub params_kept : {tokens : List Terminal} {ps : List Param} {rest : List Terminal} → Params tokens ps rest → TokensSpelled tokens → Kept rest (params_kinds ps)
params_kept (no_params close rest) h = record { rest = h.1; printed = λ after g. (tt, g) }
params_kept (none_params at close rest) h = record { rest = h.1.1; printed = λ after g. (tt, g) }
params_kept (some_params d) h = let r = param_list_kept d h in record { rest = r.rest; printed = r.printed }

pub par_spelled : (kind : ParKind) (after : List Kind) → AllSpelled after → AllSpelled (par_kinds kind after)
par_spelled par.Never after g = (tt, (tt, g))
par_spelled par.Or after g = (tt, (tt, (tt, (tt, g))))
par_spelled par.And after g = (tt, (tt, (tt, (tt, g))))

pub pars_rest : {tokens : List Terminal} {kind : ParKind} {rest : List Terminal} → Pars tokens kind rest → TokensSpelled tokens → TokensSpelled rest
pars_rest (is_never rest) h = h
pars_rest (is_or slash at rest) h = h.1.1
pars_rest (is_and slash at rest) h = h.1.1

pub emits_kept : {tokens : List Terminal} {x : Ident} {rest : List Terminal} → Emits tokens x rest → TokensSpelled tokens → Kept rest (event_kinds x)
unfolding event_kind
emits_kept (emits_output x at rest) h = record { rest = h.1; printed = λ after g. (subst (λ l. IsSpelled (of_lexeme l x)) (sym h.0) h.0, g) }
emits_kept (emits_event (is_here x at rest)) h = record { rest = h.1; printed = λ after g. (subst (λ l. IsSpelled (of_lexeme l x)) (sym h.0) h.0, g) }
emits_kept (emits_event (is_outer x at dot name rest)) h = record { rest = h.1.1.1; printed = λ after g. (tt, (tt, (subst (λ l. IsSpelled (of_lexeme l x)) (sym h.1.1.0) h.1.1.0, g))) }
