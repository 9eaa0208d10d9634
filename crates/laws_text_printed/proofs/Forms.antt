-- Printed lists of names and parameters, and the words behind `par` and `emit`, read back.
use Rattle.std.proofs.Common.{◌≡◌, refl, sym, ap, List, [], ◌∷◌, map, subst}
use Rattle.ceu_tree.specs.declared.kernel.ParKind.{ParKind}
use Rattle.ceu_tree.specs.declared.kernel.ParKind.TheVariants as par
use Rattle.ceu_tree.specs.declared.source.Ident.{Ident}
use Rattle.ceu_tree.specs.declared.source.Param.{Param}
use Rattle.ceu_syntax.specs.declared.machine.Case.TheVariants as case
use Rattle.ceu_syntax.specs.declared.terminal.Kind.{Kind}
use Rattle.ceu_syntax.specs.declared.terminal.Kind.TheVariants as k
use Rattle.ceu_syntax.specs.declared.terminal.Terminal.{Terminal}
use Rattle.ceu_syntax.specs.Trees.{ident, outer, param}
use Rattle.ceu_syntax.specs.Expressions.{is_here, is_outer}
use Rattle.ceu_syntax.specs.Forms.{Names, last_name, one_name, Shares, no_list, empty_list, shared, ParamList, last_param, one_param, Params, no_params, none_params, some_params, Pars, is_never, is_or, is_and, Emits, emits_output, emits_event}
use Rattle.laws_text_printed.specs.ReadingWords.{of_lexeme, event_kind, event_kinds, par_kinds}
use Rattle.laws_text_printed.specs.Statements.{more_lowers, lowers_kinds, more_exts, exts_kinds, more_params, params_kinds, shared_kinds}
use Rattle.laws_text_printed.specs.Places.{nowhere, unplaced_ident, unplaced_param}
use Rattle.laws_text_printed.specs.Spelled.{TokensSpelled}
use Rattle.laws_text_printed.proofs.Placed.{Places, next, placed, Reading}

-- ---- names

pub lower_comma : {tokens : List Terminal} {xs : List Ident} {rest : List Terminal} → Names case.Lower tokens xs rest → (after : List Kind) → k.Comma ∷ lowers_kinds xs after ≡ more_lowers xs after
lower_comma (last_name x at rest) after = refl
lower_comma (one_name x at comma d) after = refl

pub ext_comma : {tokens : List Terminal} {xs : List Ident} {rest : List Terminal} → Names case.Upper tokens xs rest → (after : List Kind) → k.Comma ∷ exts_kinds xs after ≡ more_exts xs after
ext_comma (last_name x at rest) after = refl
ext_comma (one_name x at comma d) after = refl

pub lowers_read : {tokens : List Terminal} {xs : List Ident} {rest : List Terminal} → Names case.Lower tokens xs rest → (after : List Kind) (p : Places) → Reading (Names case.Lower) (map unplaced_ident) xs (lowers_kinds xs after) after p
lowers_read (last_name x at rest) after p = record { found = ident x (p 0) ∷ []; places = next p; derives = last_name x (p 0) (placed after (next p)); same = refl }
lowers_read (one_name {xs = xs} x at comma d) after p =
    let r = lowers_read d after (next (next p)) in
    subst (λ kinds. Reading (Names case.Lower) (map unplaced_ident) (ident x at ∷ xs) (k.Lower x ∷ kinds) after p) (lower_comma d after)
    (record { found = ident x (p 0) ∷ r.found; places = r.places; derives = one_name x (p 0) (p 1) r.derives; same = λ i. ident x nowhere ∷ r.same i })

pub exts_read : {tokens : List Terminal} {xs : List Ident} {rest : List Terminal} → Names case.Upper tokens xs rest → (after : List Kind) (p : Places) → Reading (Names case.Upper) (map unplaced_ident) xs (exts_kinds xs after) after p
exts_read (last_name x at rest) after p = record { found = ident x (p 0) ∷ []; places = next p; derives = last_name x (p 0) (placed after (next p)); same = refl }
exts_read (one_name {xs = xs} x at comma d) after p =
    let r = exts_read d after (next (next p)) in
    subst (λ kinds. Reading (Names case.Upper) (map unplaced_ident) (ident x at ∷ xs) (k.Ext x ∷ kinds) after p) (ext_comma d after)
    (record { found = ident x (p 0) ∷ r.found; places = r.places; derives = one_name x (p 0) (p 1) r.derives; same = λ i. ident x nowhere ∷ r.same i })

pub listed_shared : {tokens : List Terminal} {xs : List Ident} {rest : List Terminal} → Names case.Lower tokens xs rest → (after : List Kind) → k.OpenParen ∷ lowers_kinds xs (k.CloseParen ∷ after) ≡ shared_kinds xs after
listed_shared (last_name x at rest) after = refl
listed_shared (one_name x at comma d) after = refl

pub shares_read : {tokens : List Terminal} {xs : List Ident} {rest : List Terminal} → Shares tokens xs rest → (after : List Kind) (p : Places) → Reading Shares (map unplaced_ident) xs (shared_kinds xs after) after p
shares_read (no_list rest) after p = record { found = []; places = p; derives = no_list (placed after p); same = refl }
shares_read (empty_list paren close rest) after p = record { found = []; places = p; derives = no_list (placed after p); same = refl }
shares_read (shared {xs = xs} paren close d) after p =
    let r = lowers_read d (k.CloseParen ∷ after) (next p) in
    subst (λ kinds. Reading Shares (map unplaced_ident) xs kinds after p) (listed_shared d after)
    (record { found = r.found; places = next r.places; derives = shared (p 0) (r.places 0) r.derives; same = r.same })

-- ---- parameters

pub param_comma : {tokens : List Terminal} {ps : List Param} {rest : List Terminal} → ParamList tokens ps rest → (after : List Kind) → k.Comma ∷ params_kinds ps after ≡ more_params ps after
param_comma (last_param ty x at of name close rest) after = refl
param_comma (one_param ty x at of name comma d) after = refl

param_list_reads : {tokens : List Terminal} {ps : List Param} {rest : List Terminal} → ParamList tokens ps rest → (after : List Kind) (p : Places) → Reading ParamList (map unplaced_param) ps (params_kinds ps (k.CloseParen ∷ after)) after p
param_list_reads (last_param ty x at of name close rest) after p =
    record { found = param ty (ident x (p 2)) ∷ []; places = next (next (next (next p))); derives = last_param ty x (p 0) (p 1) (p 2) (p 3) (placed after (next (next (next (next p))))); same = refl }
param_list_reads (one_param {ps = ps} ty x at of name comma d) after p =
    let r = param_list_reads d after (next (next (next (next p)))) in
    subst (λ kinds. Reading ParamList (map unplaced_param) (param ty (ident x name) ∷ ps) (k.Var ∷ k.Type ty ∷ k.Lower x ∷ kinds) after p) (param_comma d (k.CloseParen ∷ after))
    (record { found = param ty (ident x (p 2)) ∷ r.found; places = r.places; derives = one_param ty x (p 0) (p 1) (p 2) (p 3) r.derives; same = λ i. param ty (ident x nowhere) ∷ r.same i })

pub params_read : {tokens : List Terminal} {ps : List Param} {rest : List Terminal} → Params tokens ps rest → (after : List Kind) (p : Places) → Reading Params (map unplaced_param) ps (params_kinds ps (k.CloseParen ∷ after)) after p
params_read (no_params close rest) after p = record { found = []; places = next (next p); derives = none_params (p 0) (p 1) (placed after (next (next p))); same = refl }
params_read (none_params at close rest) after p = record { found = []; places = next (next p); derives = none_params (p 0) (p 1) (placed after (next (next p))); same = refl }
params_read (some_params d) after p =
    let r = param_list_reads d after p in
    record { found = r.found; places = r.places; derives = some_params r.derives; same = r.same }

-- ---- par, emit

-- behind `par`
abbrev pub behind_par : ParKind → (after : List Kind) → List Kind
behind_par par.Never after = k.Do ∷ after
behind_par par.Or after = k.Slash ∷ k.Or ∷ k.Do ∷ after
behind_par par.And after = k.Slash ∷ k.And ∷ k.Do ∷ after

pub par_first : (kind : ParKind) (after : List Kind) → k.Par ∷ behind_par kind after ≡ par_kinds kind after
par_first par.Never after = refl
par_first par.Or after = refl
par_first par.And after = refl

pub pars_read : (kind : ParKind) (after : List Kind) (p : Places) → Reading Pars (λ (kind : ParKind). kind) kind (behind_par kind after) (k.Do ∷ after) p
pars_read par.Never after p = record { found = par.Never; places = p; derives = is_never (placed (k.Do ∷ after) p); same = refl }
pars_read par.Or after p = record { found = par.Or; places = next (next p); derives = is_or (p 0) (p 1) (placed (k.Do ∷ after) (next (next p))); same = refl }
pars_read par.And after p = record { found = par.And; places = next (next p); derives = is_and (p 0) (p 1) (placed (k.Do ∷ after) (next (next p))); same = refl }

pub emits_read : {tokens : List Terminal} {x : Ident} {rest : List Terminal} → Emits tokens x rest → TokensSpelled tokens → (after : List Kind) (p : Places) → Reading Emits unplaced_ident x (event_kinds x after) after p
unfolding event_kind
emits_read (emits_output x at rest) h after p =
    subst (λ kind. Reading Emits unplaced_ident (ident x at) (kind ∷ after) after p) (sym (ap (λ l. of_lexeme l x) h.0))
    (record { found = ident x (p 0); places = next p; derives = emits_output x (p 0) (placed after (next p)); same = refl })
emits_read (emits_event (is_here x at rest)) h after p =
    subst (λ kind. Reading Emits unplaced_ident (ident x at) (kind ∷ after) after p) (sym (ap (λ l. of_lexeme l x) h.0))
    (record { found = ident x (p 0); places = next p; derives = emits_event (is_here x (p 0) (placed after (next p))); same = refl })
emits_read (emits_event (is_outer x at dot name rest)) h after p =
    subst (λ kind. Reading Emits unplaced_ident (outer x at) (k.Outer ∷ k.Dot ∷ kind ∷ after) after p) (sym (ap (λ l. of_lexeme l x) h.1.1.0))
    (record { found = outer x (p 0); places = next (next (next p)); derives = emits_event (is_outer x (p 0) (p 1) (p 2) (placed after (next (next (next p))))); same = refl })
