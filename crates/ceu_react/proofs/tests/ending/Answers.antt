use Rattle.ceu_react.proofs.Examples.{ends_sound}
use Rattle.ceu_react.proofs.tests.ending.Goals as goal

pub returns : goal.returns
returns c =
    ends_sound c.new-2.result c.new-3.result c.new-4.result c.new-5.result c.new.result c.new-code.result c.push.new.self c.new-2.ensures c.new-3.ensures c.new-4.ensures c.new-5.ensures c.new.ensures c.new-code.ensures
    c.in_ok-push.ensures.ok
