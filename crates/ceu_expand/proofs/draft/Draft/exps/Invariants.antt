use Rattle.std.proofs.Common.{◌≡◌, take}
use Rattle.ceu_expand.specs.Expressions as spec
use Rattle.ceu_expand.specs.Lists.{each, gathered}
use Rattle.ceu_expand.proofs.draft.Draft.exps.Given as goal

abbrev pub invariant-loop-exp : goal.invariant-loop-exp
invariant-loop-exp l =
    record {
      made : l.made ≡ gathered (spec.exp_written l.scopes l.types) spec.exp_passed (take l.exp-index l.exps) l.initial.self;
      self : l.self ≡ each spec.exp_passed (take l.exp-index l.exps) l.initial.self;
    }
