use Rattle.std.proofs.Common.{ap}
use Rattle.ceu_script.proofs.Ahead.{no_more_ahead, spent_ahead, more_ahead_from, held_ahead_from, after_piece, after_held}
use Rattle.ceu_script.proofs.reader.ScriptReader.next_byte.Goals as goal
use Rattle.ceu_script.proofs.reader.ScriptReader.next_byte.Goals.{then-is_used_up+in_ok-refill+in-More, else-is_used_up}

pub returns-in-NoMore-clause-told : goal.returns-in-NoMore-clause-told
returns-in-NoMore-clause-told g c = no_more_ahead _ _ _ _ _ c.in-NoMore.is c.if-is_used_up.ensures c.in_ok-refill.ensures.some c.refill.ensures.taken c.in_ok-refill.ensures.told

pub returns-in-Spent-clause-told : goal.returns-in-Spent-clause-told
returns-in-Spent-clause-told g c = spent_ahead _ _ _ _ _ c.in-Spent.is c.if-is_used_up.ensures c.in_ok-refill.ensures.some c.refill.ensures.taken c.in_ok-refill.ensures.told

pub returns-clause-told : goal.returns-clause-told
returns-clause-told g c = elim c.if-is_used_up.branch [
  | then-is_used_up+in_ok-refill+in-More w ↦ more_ahead_from _ _ _ _ w.refill.new.self _ _ _ (g.I.Source.left w.refill.new.src) w.self-is (ap g.I.Source.left w.src-is) w.in-More.is w.if-is_used_up.ensures w.refill.ensures.taken w.refill.ensures.within.1 c.take_byte.ensures.byte c.take_byte.ensures.taken w.in_ok-refill.ensures.told
  | else-is_used_up w ↦ held_ahead_from _ _ _ _ _ _ w.self-is (ap g.I.Source.left w.src-is) c.take_byte.ensures.byte c.take_byte.ensures.taken c.take_byte.ensures.within.1
]

pub returns-clause-taken : goal.returns-clause-taken
returns-clause-taken g c = elim c.if-is_used_up.branch [
  | then-is_used_up+in_ok-refill+in-More w ↦ (after_piece c.args.self.now c.if-is_used_up.self c.take_byte.new.self w.refill.new.self _ w.self-is w.if-is_used_up.ensures w.refill.ensures.taken w.refill.ensures.within.0 w.refill.ensures.within.1 c.take_byte.ensures.byte c.take_byte.ensures.taken).taken
  | else-is_used_up w ↦ (after_held c.args.self.now c.if-is_used_up.self c.take_byte.new.self _ w.self-is c.take_byte.ensures.byte c.take_byte.ensures.taken c.take_byte.ensures.within.0 c.take_byte.ensures.within.1 c.take_byte.ensures.within.2).taken
]

pub returns-clause-here : goal.returns-clause-here
returns-clause-here g c = elim c.if-is_used_up.branch [
  | then-is_used_up+in_ok-refill+in-More w ↦ (after_piece c.args.self.now c.if-is_used_up.self c.take_byte.new.self w.refill.new.self _ w.self-is w.if-is_used_up.ensures w.refill.ensures.taken w.refill.ensures.within.0 w.refill.ensures.within.1 c.take_byte.ensures.byte c.take_byte.ensures.taken).here
  | else-is_used_up w ↦ (after_held c.args.self.now c.if-is_used_up.self c.take_byte.new.self _ w.self-is c.take_byte.ensures.byte c.take_byte.ensures.taken c.take_byte.ensures.within.0 c.take_byte.ensures.within.1 c.take_byte.ensures.within.2).here
]
