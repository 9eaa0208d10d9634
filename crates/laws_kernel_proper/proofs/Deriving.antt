-- What tokens derive takes its positions, names and numbers from them.
use Rattle.std.proofs.Common.{◌≡◌, inl, inr, sym, subst, ℕ, ◌≤◌, Bool, true, false, List, [], ◌∷◌, Option, if◌then◌else◌, arith}
use Rattle.std.specs.Prelude.{nat_le}
use Rattle.std.proofs.lemmas.Bool.Decides.{leb_tells}
use Rattle.ceu_tree.specs.declared.source.Ident.{Ident}
use Rattle.ceu_tree.specs.declared.source.Param.{Param}
use Rattle.ceu_tree.specs.declared.source.Spawn.{Spawn}
use Rattle.ceu_tree.specs.declared.source.Target.{Target}
use Rattle.ceu_tree.specs.declared.source.Await.{Await}
use Rattle.ceu_tree.specs.declared.source.Source.{Source}
use Rattle.ceu_tree.specs.declared.source.Source.TheBlock.{hidden-the_row-Item-0, hidden-the_row-Arm-1, hidden-the_row-Block-2, hidden-the_row-Node-3}
use Rattle.ceu_tree.specs.declared.source.Item.{Item}
use Rattle.ceu_tree.specs.declared.source.Do.{Do}
use Rattle.ceu_tree.specs.declared.source.Block.{Block, roll-Block}
use Rattle.ceu_tree.specs.declared.source.Node.{Node}
use Rattle.ceu_tree.specs.declared.source.Arm.{Arm}
use Rattle.ceu_tree.specs.declared.source.Stmt.{back-Stmt-If-1}
use Rattle.ceu_syntax.specs.declared.machine.Case.TheVariants as case
use Rattle.ceu_syntax.specs.declared.terminal.Terminal.{Terminal}
use Rattle.ceu_syntax.specs.Terminals.{saturated}
use Rattle.ceu_syntax.specs.Expressions.{Location, is_here, is_outer, Calls, Spawns, spawns, Targets, is_input, is_event, is_time, is_time_expression, Awaits, is_forever, is_target, is_until}
use Rattle.ceu_syntax.specs.Expressions as expressions
use Rattle.ceu_syntax.specs.Forms.{Names, last_name, one_name, ParamList, last_param, one_param, Params, no_params, none_params, some_params}
use Rattle.ceu_syntax.specs.Grammar.{Forms, is_nothing, is_break, is_continue, is_vars, is_alias, is_alias_of, is_events, is_inputs, is_outputs, is_pool, is_code, is_assign, is_emit, is_emit_empty, is_emit_value, is_await, is_spawn, is_async, is_await_async, is_do, is_kill, is_escape, is_escape_value, is_escape_label, is_escape_both, is_finalize, is_if, is_loop, is_times, is_range, is_every, is_every_in, is_watching, is_par, Does, does_plain, does_under, does_named, Sources, is_value, is_wait, is_start, is_done, ItemOf, is_bare, is_initial, Items, last_item, one_item, Statement, is_simple, is_ended, Statements, no_more, skips, one_more, Branches, last_branch, one_branch, Arms, no_else, last_else, else_if}
use Rattle.laws_text_printed.specs.Spelled.{IsSpelled}
use Rattle.ceu_expand.specs.Expansion.{row_blocks}
use Rattle.laws_kernel_shape.specs.Shaped.{AllOf, IsPlace, InRange, NamePlaced, ParamPlaced, Placed, SourcePlaced, DoPlaced, LastPlaced, ItemsPlaced, ArmsPlaced, BlocksPlaced, NodesPlaced}
use Rattle.laws_kernel_names.specs.Ports.{IsExternal, PortsNamed, NodesNamed}
use Rattle.laws_kernel_types.specs.Times.{TargetTimed, AwaitTimed, Timed, TimedSource, TimedDo, TimedLast, TimedItems, TimedArms, TimedBlocks, TimedNodes}
use Rattle.laws_kernel_proper.proofs.Following.{behind_location, behind_expression, behind_call, behind_lowers, behind_shares, behind_pars, behind_emits}
use Rattle.laws_kernel_proper.proofs.External.{external}
use denote.Hole.Carrier

-- a token with a position, and of a kind that is spelled
abbrev pub IsGood : Terminal → Type 0
IsGood t = IsPlace t.pos × IsSpelled t.kind

abbrev pub Good : List Terminal → Type 0
Good tokens = AllOf IsGood tokens

saturated_in : (n : ℕ) → InRange (saturated n)
saturated_in n = elim (leb_tells n 4294967295) [ inl h ↦ in_then h.0 h.1 | inr h ↦ in_else h.0 ]
  where
    in_then : nat_le n 4294967295 ≡ true → n ≤ 4294967295 → InRange (saturated n)
    in_then e le = subst (λ b. InRange (if b then n else 4294967295)) (sym e) (omega arith)

    in_else : nat_le n 4294967295 ≡ false → InRange (saturated n)
    in_else e = subst (λ b. InRange (if b then n else 4294967295)) (sym e) (omega arith)

-- ---- names, parameters, spawns and targets

lowers_placed : {tokens : List Terminal} {xs : List Ident} {rest : List Terminal} → Names case.Lower tokens xs rest → Good tokens → AllOf NamePlaced xs
lowers_placed (last_name x at rest) h = (h.0.0, tt)
lowers_placed (one_name x at comma d) h = (h.0.0, lowers_placed d h.1.1)

record Ports (xs : List Ident) (after : List Terminal) : Type 0 where
  rest : Good after
  named : AllOf IsExternal xs

ports_named : {tokens : List Terminal} {xs : List Ident} {rest : List Terminal} → Names case.Upper tokens xs rest → Good tokens → Ports xs rest
ports_named (last_name x at rest) h = record { rest = h.1; named = (external x h.0.1, tt) }
ports_named (one_name x at comma d) h = let r = ports_named d h.1.1 in record { rest = r.rest; named = (external x h.0.1, r.named) }

record Placing (P : Type 0) (after : List Terminal) : Type 0 where
  rest : Good after
  placed : P

param_list : {tokens : List Terminal} {ps : List Param} {rest : List Terminal} → ParamList tokens ps rest → Good tokens → Placing (AllOf ParamPlaced ps) rest
param_list (last_param ty x at of name close rest) h = record { rest = h.1.1.1.1; placed = (h.1.1.0.0, tt) }
param_list (one_param ty x at of name comma d) h = let r = param_list d h.1.1.1.1 in record { rest = r.rest; placed = (h.1.1.0.0, r.placed) }

params : {tokens : List Terminal} {ps : List Param} {rest : List Terminal} → Params tokens ps rest → Good tokens → Placing (AllOf ParamPlaced ps) rest
params (no_params close rest) h = record { rest = h.1; placed = tt }
params (none_params at close rest) h = record { rest = h.1.1; placed = tt }
params (some_params d) h = param_list d h

spawn_placed : {tokens : List Terminal} {sp : Spawn} {rest : List Terminal} → Spawns tokens sp rest → Good tokens → Placing (IsPlace sp.pos) rest
spawn_placed (spawns x at into name d) h = let r = behind_call IsGood d h.1 in record { rest = r.1.1; placed = h.0.0 }

target_timed : {tokens : List Terminal} {t : Target} {rest : List Terminal} → Targets tokens t rest → Good tokens → Placing (TargetTimed t) rest
target_timed (is_input x at rest) h = record { rest = h.1; placed = tt }
target_timed (is_event l) h = record { rest = behind_location IsGood l h; placed = tt }
target_timed (is_time n at rest) h = record { rest = h.1; placed = h.0.1 }
target_timed (is_time_expression unit paren close name d) h = record { rest = (behind_expression IsGood d h.1).1.1; placed = tt }

await_timed : {tokens : List Terminal} {a : Await} {rest : List Terminal} → Awaits tokens a rest → Good tokens → Placing (AwaitTimed a) rest
await_timed (is_forever at rest) h = record { rest = h.1; placed = tt }
await_timed (expressions.is_code d) h = record { rest = behind_call IsGood d h; placed = tt }
await_timed (is_target d) h = let r = target_timed d h in record { rest = r.rest; placed = r.placed }
await_timed (is_until until d e) h = let r = target_timed d h in record { rest = behind_expression IsGood e r.rest.1; placed = r.placed }

location_place : {tokens : List Terminal} {x : Ident} {rest : List Terminal} → Location tokens x rest → Good tokens → IsPlace x.pos
location_place (is_here x at rest) h = h.0.0
location_place (is_outer x at dot name rest) h = h.0.0

-- ---- statements

record Deriving (P Q : Type 0) (after : List Terminal) : Type 0 where
  rest : Good after
  placed : P
  timed : Q

record One (n : Node) (after : List Terminal) : Type 0 where
  rest : Good after
  place : IsPlace n.pos
  placed : Placed n.stmt
  timed : Timed n.stmt
  ports : PortsNamed n.stmt

pub record Many (ns : List Node) (after : List Terminal) : Type 0 where
  pub rest : Good after
  pub placed : NodesPlaced (hidden-the_row-Node-3 ns)
  pub timed : TimedNodes (hidden-the_row-Node-3 ns)
  pub ports : NodesNamed (hidden-the_row-Node-3 ns)

mutual
  unfolding Placed Timed hidden-the_row-Item-0 hidden-the_row-Arm-1 hidden-the_row-Block-2 hidden-the_row-Node-3 roll-Block Carrier.hidden Carrier.roll

  form : {tokens : List Terminal} {n : Node} {b : Bool} {rest : List Terminal} → Forms tokens n b rest → Good tokens → One n rest
  form (is_nothing at rest) h = record { rest = h.1; place = h.0.0; placed = tt; timed = tt; ports = tt }
  form (is_break at rest) h = record { rest = h.1; place = h.0.0; placed = tt; timed = tt; ports = tt }
  form (is_continue at rest) h = record { rest = h.1; place = h.0.0; placed = tt; timed = tt; ports = tt }
  form (is_vars ty at of d) h = let r = items d h.1.1 in record { rest = r.rest; place = h.0.0; placed = r.placed; timed = r.timed; ports = tt }
  form (is_alias c x at and mark code name rest) h = record { rest = h.1.1.1.1.1; place = h.0.0; placed = (h.1.1.1.1.0.0, tt); timed = tt; ports = tt }
  form (is_alias_of c x at and mark code name equal d) h = let r = spawn_placed d h.1.1.1.1.1.1 in record { rest = r.rest; place = h.0.0; placed = (h.1.1.1.1.0.0, r.placed); timed = tt; ports = tt }
  form (is_events ty at of d) h = record { rest = behind_lowers IsGood d h.1.1; place = h.0.0; placed = lowers_placed d h.1.1; timed = tt; ports = tt }
  form (is_inputs ty at of d) h = let r = ports_named d h.1.1 in record { rest = r.rest; place = h.0.0; placed = tt; timed = tt; ports = r.named }
  form (is_outputs ty at of d) h = let r = ports_named d h.1.1 in record { rest = r.rest; place = h.0.0; placed = tt; timed = tt; ports = r.named }
  form (is_pool n c x at left count close code name rest) h =
      record { rest = h.1.1.1.1.1.1; place = h.0.0; placed = (h.1.1.1.1.1.0.0, saturated_in n); timed = tt; ports = tt }
  form (is_code c ty at slash wait code paren arrow of begin end d m) h =
      let r = params d h.1.1.1.1.1 in
      let s = many m r.rest.1.1.1 in
      record { rest = s.rest.1; place = h.0.0; placed = (r.placed, s.placed); timed = s.timed; ports = tt }
  form (is_assign {tokens = tokens} {x = x} equal l d) h =
      let s = source d (behind_location IsGood l h).1 in
      record { rest = s.rest; place = location_place l h; placed = s.placed; timed = s.timed; ports = tt }
  form (is_emit at d) h = record { rest = behind_emits IsGood d h.1; place = h.0.0; placed = tt; timed = tt; ports = tt }
  form (is_emit_empty at paren close d) h = record { rest = (behind_emits IsGood d h.1).1.1; place = h.0.0; placed = tt; timed = tt; ports = tt }
  form (is_emit_value at paren close d m) h = record { rest = (behind_expression IsGood m (behind_emits IsGood d h.1).1).1; place = h.0.0; placed = tt; timed = tt; ports = tt }
  form (is_await at d) h = let r = await_timed d h.1 in record { rest = r.rest; place = h.0.0; placed = tt; timed = r.placed; ports = tt }
  form (is_spawn d) h = let r = spawn_placed d h in record { rest = r.rest; place = r.placed; placed = r.placed; timed = tt; ports = tt }
  form (is_async at begin end d m) h =
      let s = many m (behind_shares IsGood d h.1).1 in
      record { rest = s.rest.1; place = h.0.0; placed = s.placed; timed = s.timed; ports = tt }
  form (is_await_async at async begin end d m) h =
      let s = many m (behind_shares IsGood d h.1.1).1 in
      record { rest = s.rest.1; place = h.0.0; placed = s.placed; timed = s.timed; ports = tt }
  form (is_do at d) h = let r = does d h.1 in record { rest = r.rest; place = h.0.0; placed = r.placed; timed = r.timed; ports = tt }
  form (is_kill x at name rest) h = record { rest = h.1.1; place = h.0.0; placed = tt; timed = tt; ports = tt }
  form (is_escape at rest) h = record { rest = h.1; place = h.0.0; placed = tt; timed = tt; ports = tt }
  form (is_escape_value at d) h = record { rest = behind_expression IsGood d h.1; place = h.0.0; placed = tt; timed = tt; ports = tt }
  form (is_escape_label x at slash name rest) h = record { rest = h.1.1.1; place = h.0.0; placed = tt; timed = tt; ports = tt }
  form (is_escape_both x at slash name d) h = record { rest = behind_expression IsGood d h.1.1.1; place = h.0.0; placed = tt; timed = tt; ports = tt }
  form (is_finalize at finalize with end m) h = let s = many m h.1.1.1 in record { rest = s.rest.1; place = h.0.0; placed = s.placed; timed = s.timed; ports = tt }
  form (is_if at by d m a) h =
      let s = many m (behind_expression IsGood d h.1).1 in
      let r = others a s.rest in
      record { rest = r.rest; place = h.0.0; placed = ((s.placed, r.placed.0), r.placed.1); timed = ((s.timed, r.timed.0), r.timed.1); ports = tt }
  form (is_loop at begin end m) h = let s = many m h.1.1 in record { rest = s.rest.1; place = h.0.0; placed = (tt, s.placed); timed = s.timed; ports = tt }
  form (is_times n at slash count begin end m) h = let s = many m h.1.1.1.1 in record { rest = s.rest.1; place = h.0.0; placed = (saturated_in n, s.placed); timed = s.timed; ports = tt }
  form (is_range x open_a open_b at name into left arrow right begin end d e m) h =
      let s = many m (behind_expression IsGood e (behind_expression IsGood d h.1.1.1.1).1).1.1 in
      record { rest = s.rest.1; place = h.0.0; placed = s.placed; timed = s.timed; ports = tt }
  form (is_every at begin end d m) h =
      let r = target_timed d h.1 in
      let s = many m r.rest.1 in
      record { rest = s.rest.1; place = h.0.0; placed = s.placed; timed = (r.placed, s.timed); ports = tt }
  form (is_every_in at into begin end l d m) h =
      let r = target_timed d (behind_location IsGood l h.1).1 in
      let s = many m r.rest.1 in
      record { rest = s.rest.1; place = h.0.0; placed = s.placed; timed = (r.placed, s.timed); ports = tt }
  form (is_watching at begin end d m) h =
      let r = target_timed d h.1 in
      let s = many m r.rest.1 in
      record { rest = s.rest.1; place = h.0.0; placed = s.placed; timed = (r.placed, s.timed); ports = tt }
  form (is_par {bs = bs} at begin with d m bd) h =
      let s = many m (behind_pars IsGood d h.1).1 in
      let r = branches bd s.rest.1 in
      let two : 1 ≤ row_blocks (hidden-the_row-Block-2 bs) = r.placed.0 in
      record { rest = r.rest; place = h.0.0; placed = (omega (arith, two), (s.placed, r.placed.1)); timed = (s.timed, r.timed); ports = tt }

  does : {tokens : List Terminal} {d : Do} {rest : List Terminal} → Does tokens d rest → Good tokens → Deriving (DoPlaced d) (TimedDo d) rest
  does (does_plain end m) h = let s = many m h in record { rest = s.rest.1; placed = s.placed; timed = s.timed }
  does (does_under slash at end m) h = let s = many m h.1.1 in record { rest = s.rest.1; placed = s.placed; timed = s.timed }
  does (does_named x slash at end m) h = let s = many m h.1.1 in record { rest = s.rest.1; placed = s.placed; timed = s.timed }

  source : {tokens : List Terminal} {s : Source} {b : Bool} {rest : List Terminal} → Sources tokens s b rest → Good tokens → Deriving (SourcePlaced s) (TimedSource s) rest
  source (is_value d) h = record { rest = behind_expression IsGood d h; placed = tt; timed = tt }
  source (is_wait at d) h = let r = await_timed d h.1 in record { rest = r.rest; placed = tt; timed = r.placed }
  source (is_start d) h = let r = spawn_placed d h in record { rest = r.rest; placed = r.placed; timed = tt }
  source (is_done at d) h = does d h.1

  item : {tokens : List Terminal} {i : Item} {b : Bool} {rest : List Terminal} → ItemOf tokens i b rest → Good tokens → Deriving (ItemsPlaced (hidden-the_row-Item-0 (i ∷ []))) (TimedItems (hidden-the_row-Item-0 (i ∷ []))) rest
  item (is_bare x at rest) h = record { rest = h.1; placed = ((h.0.0, tt), tt); timed = (tt, tt) }
  item (is_initial x at equal d) h = let r = source d h.1.1 in record { rest = r.rest; placed = ((h.0.0, r.placed), tt); timed = (r.timed, tt) }

  items : {tokens : List Terminal} {is : List Item} {b : Bool} {rest : List Terminal} → Items tokens is b rest → Good tokens → Deriving (ItemsPlaced (hidden-the_row-Item-0 is)) (TimedItems (hidden-the_row-Item-0 is)) rest
  items (last_item d) h = item d h
  items (one_item comma d m) h =
      let r = item d h in
      let s = items m r.rest.1 in
      record { rest = s.rest; placed = (r.placed.0, s.placed); timed = (r.timed.0, s.timed) }

  one : {tokens : List Terminal} {n : Node} {rest : List Terminal} → Statement tokens n rest → Good tokens → One n rest
  one (is_simple semicolon d) h = let r = form d h in record { rest = r.rest.1; place = r.place; placed = r.placed; timed = r.timed; ports = r.ports }
  one (is_ended d) h = form d h

  pub many : {tokens : List Terminal} {ns : List Node} {rest : List Terminal} → Statements tokens ns rest → Good tokens → Many ns rest
  many (no_more rest) h = record { rest = h; placed = tt; timed = tt; ports = tt }
  many (skips at d) h = many d h.1
  many (one_more d m) h =
      let r = one d h in
      let s = many m r.rest in
      record { rest = s.rest; placed = ((r.place, r.placed), s.placed); timed = (r.timed, s.timed); ports = (r.ports, s.ports) }

  branches : {tokens : List Terminal} {bs : List Block} {rest : List Terminal} → Branches tokens bs rest → Good tokens →
      Deriving ((1 ≤ row_blocks (hidden-the_row-Block-2 bs)) × BlocksPlaced (hidden-the_row-Block-2 bs)) (TimedBlocks (hidden-the_row-Block-2 bs)) rest
  branches (last_branch end m) h = let s = many m h in record { rest = s.rest.1; placed = (omega arith, (s.placed, tt)); timed = (s.timed, tt) }
  branches (one_branch with m bd) h =
      let s = many m h in
      let r = branches bd s.rest.1 in
      record { rest = r.rest; placed = (omega arith, (s.placed, r.placed.1)); timed = (s.timed, r.timed) }

  others : {tokens : List Terminal} {arms : List Arm} {last : Option Block} {rest : List Terminal} → Arms tokens arms last rest → Good tokens →
      Deriving (ArmsPlaced (hidden-the_row-Arm-1 arms) × LastPlaced (back-Stmt-If-1 last)) (TimedArms (hidden-the_row-Arm-1 arms) × TimedLast (back-Stmt-If-1 last)) rest
  others (no_else end rest) h = record { rest = h.1; placed = (tt, tt); timed = (tt, tt) }
  others (last_else at end m) h = let s = many m h.1 in record { rest = s.rest.1; placed = (tt, s.placed); timed = (tt, s.timed) }
  others (else_if at slash again by d m a) h =
      let s = many m (behind_expression IsGood d h.1.1.1).1 in
      let r = others a s.rest in
      record { rest = r.rest; placed = ((s.placed, r.placed.0), r.placed.1); timed = ((s.timed, r.timed.0), r.timed.1) }
