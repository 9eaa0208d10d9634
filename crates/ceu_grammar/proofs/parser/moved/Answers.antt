use Rattle.ceu_grammar.proofs.parser.moved.Goals as goal

pub returns-in-Start : goal.returns-in-Start
returns-in-Start c = rw c.in-Start.is (c.starts.ensures)

pub returns-in-Named : goal.returns-in-Named
returns-in-Named c = rw c.in-Named.is (c.named.ensures)

pub returns-in-After : goal.returns-in-After
returns-in-After c = rw c.in-After.is (c.follows.ensures)

pub returns-in-Cast : goal.returns-in-Cast
returns-in-Cast c = rw c.in-Cast.is (c.casts.ensures _)

pub returns-in-Typed : goal.returns-in-Typed
returns-in-Typed c = rw c.in-Typed.is (c.ends.ensures)

pub returns-in-Outer : goal.returns-in-Outer
returns-in-Outer c = rw c.in-Outer.is (c.of_outer.ensures _)

pub returns-in-OuterName : goal.returns-in-OuterName
returns-in-OuterName c = rw c.in-OuterName.is (c.of_outer_name.ensures)

pub returns-in-In : goal.returns-in-In
returns-in-In c = rw c.in-In.is (c.in_block.ensures)

pub returns-in-Semicolon : goal.returns-in-Semicolon
returns-in-Semicolon c = rw c.in-Semicolon.is (c.of_semicolon.ensures)

pub returns-in-Declaring : goal.returns-in-Declaring
returns-in-Declaring c = rw c.in-Declaring.is (c.declared.ensures)

pub returns-in-Coding : goal.returns-in-Coding
returns-in-Coding c = rw c.in-Coding.is (c.coded.ensures)

pub returns-in-Acting : goal.returns-in-Acting
returns-in-Acting c = rw c.in-Acting.is (c.acted.ensures)

pub returns-in-Opening : goal.returns-in-Opening
returns-in-Opening c = rw c.in-Opening.is (c.opening.ensures)

pub returns-in-Looping : goal.returns-in-Looping
returns-in-Looping c = rw c.in-Looping.is (c.looping.ensures)
