use Rattle.std.proofs.Common.{ℕ, ◌+◌, length, drop, sym, ap, ◌∙◌, take}
use Rattle.std.proofs.lemmas.List.{take_rest}
use Rattle.ceu_lex.specs.Lexemes.{Groups, value, capped}
use Rattle.ceu_lex.proofs.Values.{digits_are_hex}
use Rattle.ceu_lex.proofs.Limits.{group-capped, group-taken, group-left}
use Rattle.ceu_lex.proofs.times.after_group.Goals as goal

pub value-requires : goal.value-requires
value-requires c = digits_are_hex (take c.digits_len-digits.result c.args.bytes.now) c.digits_len-digits.ensures.digits

pub returns-then-not-has_group-clause-total : goal.returns-then-not-has_group-clause-total
returns-then-not-has_group-clause-total c exact is = is ∙ ap (λ (g : Groups). capped g.total) (sym (group-left c.args.unit.now c.args.micros exact c.args.bytes.now (sym c.if-not-has_group.ensures.value)))

pub returns-then-not-has_group-clause-rest : goal.returns-then-not-has_group-clause-rest
returns-then-not-has_group-clause-rest c exact = ap (λ (g : Groups). g.rest) (sym (group-left c.args.unit.now c.args.micros exact c.args.bytes.now (sym c.if-not-has_group.ensures.value)))

pub returns-clause-total : goal.returns-clause-total
returns-clause-total c exact is =
    c.capped.ensures
    ∙ group-capped exact _ c.args.micros c.args.total c.value.result c.saturating_mul-more.result c.saturating_add.result c.requires is
    (c.value.ensures ∙ ap (λ (d : ℕ). capped (value 10 0 (take d c.args.bytes.now))) c.digits_len-digits.ensures.value) c.saturating_mul-more.ensures c.saturating_add.ensures
    ∙ ap (λ (g : Groups). capped g.total) (sym (group-taken c.args.unit.now c.args.micros exact c.args.bytes.now (sym c.if-not-has_group.ensures.value)))

pub returns-clause-rest : goal.returns-clause-rest
returns-clause-rest c exact =
    take_rest c.args.bytes.now _
    ∙ ap (λ (d : ℕ). drop (d + length c.args.unit.now) c.args.bytes.now) c.digits_len-digits.ensures.value
    ∙ ap (λ (g : Groups). g.rest) (sym (group-taken c.args.unit.now c.args.micros exact c.args.bytes.now (sym c.if-not-has_group.ensures.value)))
