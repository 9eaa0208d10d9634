-- Which lists of tokens derive which tree.
use Rattle.std.specs.Prelude.{◌≡◌, ℕ, suc, ◌≤◌, ◌<◌, Bool, true, false, List, [], ◌∷◌, ◌++◌, Option, Some, None, length, take}
use Rattle.ceu_base.specs.declared.kinds.Pos.{Pos}
use Rattle.ceu_base.specs.declared.kinds.Ty.{Ty}
use Rattle.ceu_lex.specs.declared.token.Token.{Token}
use Rattle.ceu_tree.specs.declared.kernel.ParKind.{ParKind}
use Rattle.ceu_tree.specs.declared.source.Ident.{Ident}
use Rattle.ceu_tree.specs.declared.source.Exp.{Exp}
use Rattle.ceu_tree.specs.declared.source.Spawn.{Spawn}
use Rattle.ceu_tree.specs.declared.source.Label.TheVariants as label
use Rattle.ceu_tree.specs.declared.source.Target.{Target}
use Rattle.ceu_tree.specs.declared.source.Await.{Await}
use Rattle.ceu_tree.specs.declared.source.Param.{Param}
use Rattle.ceu_tree.specs.declared.source.Block.{Block}
use Rattle.ceu_tree.specs.declared.source.Node.{Node}
use Rattle.ceu_tree.specs.declared.source.Do.{Do}
use Rattle.ceu_tree.specs.declared.source.Source.{Source}
use Rattle.ceu_tree.specs.declared.source.Source as source
use Rattle.ceu_tree.specs.declared.source.Item.{Item}
use Rattle.ceu_tree.specs.declared.source.Arm.{Arm}
use Rattle.ceu_tree.specs.declared.source.Stmt as stmt
use Rattle.ceu_tree.specs.declared.source.Tree.{Tree}
use Rattle.ceu_syntax.specs.declared.machine.Case.TheVariants as case
use Rattle.ceu_syntax.specs.declared.terminal.Kind.TheVariants as k
use Rattle.ceu_syntax.specs.declared.terminal.Terminal.{Terminal}
use Rattle.ceu_syntax.specs.Terminals.{token, lower, abs, digits, left_bracket, right_bracket, saturated, terminals}
use Rattle.ceu_syntax.specs.Trees.{ident, block, node, do_block, item, arm, range, tree}
use Rattle.ceu_syntax.specs.Expressions.{Location, Expression, Spawns, Targets, Awaits}
use Rattle.ceu_syntax.specs.Forms.{Names, Shares, Params, Pars, Emits}

mutual
  -- `Forms tokens n b rest`: a statement without its `;`. Its last token is `end` where b is true.
  pub data Forms : List Terminal → Node → Bool → List Terminal → Type 0 where
    is_nothing : (at : Pos) (rest : List Terminal) → Forms (token k.Nothing at ∷ rest) (node at stmt.Nothing) false rest
    is_break : (at : Pos) (rest : List Terminal) → Forms (token k.Break at ∷ rest) (node at stmt.Break) false rest
    is_continue : (at : Pos) (rest : List Terminal) → Forms (token k.Continue at ∷ rest) (node at stmt.Continue) false rest
    -- var type item { , item }
    is_vars : {tokens : List Terminal} {is : List Item} {b : Bool} {rest : List Terminal} (ty : Ty) (at of : Pos) →
        Items tokens is b rest → Forms (token k.Var at ∷ token (k.Type ty) of ∷ tokens) (node at (stmt.Vars ty is)) b rest
    -- var & ? Abs Lower [ = spawn ]
    is_alias : (c x : List ℕ) (at and mark code name : Pos) (rest : List Terminal) →
        Forms (token k.Var at ∷ token k.Ampersand and ∷ token k.Question mark ∷ abs c code ∷ lower x name ∷ rest) (node at (stmt.AliasDecl (ident c code) (ident x name) None)) false rest
    is_alias_of : {tokens : List Terminal} {sp : Spawn} {rest : List Terminal} (c x : List ℕ) (at and mark code name equal : Pos) → Spawns tokens sp rest →
        Forms (token k.Var at ∷ token k.Ampersand and ∷ token k.Question mark ∷ abs c code ∷ lower x name ∷ token k.Assign equal ∷ tokens) (node at (stmt.AliasDecl (ident c code) (ident x name) (Some sp))) false rest
    is_events : {tokens : List Terminal} {xs : List Ident} {rest : List Terminal} (ty : Ty) (at of : Pos) →
        Names case.Lower tokens xs rest → Forms (token k.Event at ∷ token (k.Type ty) of ∷ tokens) (node at (stmt.Events ty xs)) false rest
    is_inputs : {tokens : List Terminal} {xs : List Ident} {rest : List Terminal} (ty : Ty) (at of : Pos) →
        Names case.Upper tokens xs rest → Forms (token k.Input at ∷ token (k.Type ty) of ∷ tokens) (node at (stmt.Inputs ty xs)) false rest
    is_outputs : {tokens : List Terminal} {xs : List Ident} {rest : List Terminal} (ty : Ty) (at of : Pos) →
        Names case.Upper tokens xs rest → Forms (token k.Output at ∷ token (k.Type ty) of ∷ tokens) (node at (stmt.Outputs ty xs)) false rest
    -- pool [ Number ] Abs Lower
    is_pool : (n : ℕ) (c x : List ℕ) (at left count close code name : Pos) (rest : List Terminal) →
        Forms (token k.Pool at ∷ token k.OpenBracket left ∷ digits n count ∷ token k.CloseBracket close ∷ abs c code ∷ lower x name ∷ rest) (node at (stmt.Pool (saturated n) (ident c code) (ident x name))) false rest
    -- code / await Abs ( params ) -> type do block end
    is_code : {tokens body : List Terminal} {ps : List Param} {ns : List Node} {rest : List Terminal} (c : List ℕ) (ty : Ty) (at slash wait code paren arrow of begin end : Pos) →
        Params tokens ps (token k.Arrow arrow ∷ token (k.Type ty) of ∷ token k.Do begin ∷ body) → Statements body ns (token k.End end ∷ rest) →
        Forms (token k.Code at ∷ token k.Slash slash ∷ token k.Await wait ∷ abs c code ∷ token k.OpenParen paren ∷ tokens) (node at (stmt.Code (ident c code) ps ty (block ns))) true rest
    -- loc = source
    is_assign : {tokens : List Terminal} {x : Ident} {mid : List Terminal} {source : Source} {b : Bool} {rest : List Terminal} (equal : Pos) →
        Location tokens x (token k.Assign equal ∷ mid) → Sources mid source b rest → Forms tokens (node x.pos (stmt.Assign x source)) b rest
    -- emit ( Ext | loc ) [ ( [ exp ] ) ]
    is_emit : {tokens : List Terminal} {x : Ident} {rest : List Terminal} (at : Pos) → Emits tokens x rest → Forms (token k.Emit at ∷ tokens) (node at (stmt.Emit x None)) false rest
    is_emit_empty : {tokens : List Terminal} {x : Ident} {rest : List Terminal} (at paren close : Pos) →
        Emits tokens x (token k.OpenParen paren ∷ token k.CloseParen close ∷ rest) → Forms (token k.Emit at ∷ tokens) (node at (stmt.Emit x None)) false rest
    is_emit_value : {tokens : List Terminal} {x : Ident} {mid : List Terminal} {e : Exp} {rest : List Terminal} (at paren close : Pos) →
        Emits tokens x (token k.OpenParen paren ∷ mid) → Expression 0 mid e (token k.CloseParen close ∷ rest) → Forms (token k.Emit at ∷ tokens) (node at (stmt.Emit x (Some e))) false rest
    is_await : {tokens : List Terminal} {a : Await} {rest : List Terminal} (at : Pos) → Awaits tokens a rest → Forms (token k.Await at ∷ tokens) (node at (stmt.Await a)) false rest
    is_spawn : {tokens : List Terminal} {sp : Spawn} {rest : List Terminal} → Spawns tokens sp rest → Forms tokens (node sp.pos (stmt.Spawn sp)) false rest
    -- [ await ] async [ ( [ Lower { , Lower } ] ) ] do block end
    is_async : {tokens : List Terminal} {xs : List Ident} {body : List Terminal} {ns : List Node} {rest : List Terminal} (at begin end : Pos) →
        Shares tokens xs (token k.Do begin ∷ body) → Statements body ns (token k.End end ∷ rest) → Forms (token k.Async at ∷ tokens) (node at (stmt.Async xs (block ns))) true rest
    is_await_async : {tokens : List Terminal} {xs : List Ident} {body : List Terminal} {ns : List Node} {rest : List Terminal} (at async begin end : Pos) →
        Shares tokens xs (token k.Do begin ∷ body) → Statements body ns (token k.End end ∷ rest) → Forms (token k.Await at ∷ token k.Async async ∷ tokens) (node at (stmt.Async xs (block ns))) true rest
    is_do : {tokens : List Terminal} {d : Do} {rest : List Terminal} (at : Pos) → Does tokens d rest → Forms (token k.Do at ∷ tokens) (node at (stmt.Do d)) true rest
    is_kill : (x : List ℕ) (at name : Pos) (rest : List Terminal) → Forms (token k.Kill at ∷ lower x name ∷ rest) (node at (stmt.Kill (ident x name))) false rest
    -- escape [ / Lower ] [ exp ]
    is_escape : (at : Pos) (rest : List Terminal) → Forms (token k.Escape at ∷ rest) (node at (stmt.Escape None None)) false rest
    is_escape_value : {tokens : List Terminal} {e : Exp} {rest : List Terminal} (at : Pos) → Expression 0 tokens e rest → Forms (token k.Escape at ∷ tokens) (node at (stmt.Escape None (Some e))) false rest
    is_escape_label : (x : List ℕ) (at slash name : Pos) (rest : List Terminal) → Forms (token k.Escape at ∷ token k.Slash slash ∷ lower x name ∷ rest) (node at (stmt.Escape (Some (ident x name)) None)) false rest
    is_escape_both : {tokens : List Terminal} {e : Exp} {rest : List Terminal} (x : List ℕ) (at slash name : Pos) → Expression 0 tokens e rest →
        Forms (token k.Escape at ∷ token k.Slash slash ∷ lower x name ∷ tokens) (node at (stmt.Escape (Some (ident x name)) (Some e))) false rest
    -- do finalize with block end
    is_finalize : {tokens : List Terminal} {ns : List Node} {rest : List Terminal} (at finalize with end : Pos) → Statements tokens ns (token k.End end ∷ rest) →
        Forms (token k.Do at ∷ token k.Finalize finalize ∷ token k.With with ∷ tokens) (node at (stmt.Finalize (block ns))) true rest
    -- if exp then block ..
    is_if : {tokens : List Terminal} {e : Exp} {body : List Terminal} {ns : List Node} {mid : List Terminal} {arms : List Arm} {last : Option Block} {rest : List Terminal} (at by : Pos) →
        Expression 0 tokens e (token k.Then by ∷ body) → Statements body ns mid → Arms mid arms last rest → Forms (token k.If at ∷ tokens) (node at (stmt.If (arm e ns ∷ arms) last)) true rest
    -- loop [ / Number ] do block end
    is_loop : {tokens : List Terminal} {ns : List Node} {rest : List Terminal} (at begin end : Pos) → Statements tokens ns (token k.End end ∷ rest) →
        Forms (token k.Loop at ∷ token k.Do begin ∷ tokens) (node at (stmt.Loop None (block ns))) true rest
    is_times : {tokens : List Terminal} {ns : List Node} {rest : List Terminal} (n : ℕ) (at slash count begin end : Pos) → Statements tokens ns (token k.End end ∷ rest) →
        Forms (token k.Loop at ∷ token k.Slash slash ∷ digits n count ∷ token k.Do begin ∷ tokens) (node at (stmt.Loop (Some (saturated n)) (block ns))) true rest
    -- loop Lower in ( [ | ] ) exp -> exp ( [ | ] ) do block end
    is_range : {tokens mid body : List Terminal} {a b : Exp} {ns : List Node} {rest : List Terminal} (x : List ℕ) (open_a open_b : Bool) (at name into left arrow right begin end : Pos) →
        Expression 0 tokens a (token k.Arrow arrow ∷ mid) → Expression 0 mid b (token (right_bracket open_b) right ∷ token k.Do begin ∷ body) → Statements body ns (token k.End end ∷ rest) →
        Forms (token k.Loop at ∷ lower x name ∷ token k.In into ∷ token (left_bracket open_a) left ∷ tokens) (node at (stmt.Range (range (ident x name) open_a a b open_b ns))) true rest
    -- every [ loc in ] target do block end
    is_every : {tokens body : List Terminal} {t : Target} {ns : List Node} {rest : List Terminal} (at begin end : Pos) →
        Targets tokens t (token k.Do begin ∷ body) → Statements body ns (token k.End end ∷ rest) → Forms (token k.Every at ∷ tokens) (node at (stmt.Every None t (block ns))) true rest
    is_every_in : {tokens mid body : List Terminal} {x : Ident} {t : Target} {ns : List Node} {rest : List Terminal} (at into begin end : Pos) →
        Location tokens x (token k.In into ∷ mid) → Targets mid t (token k.Do begin ∷ body) → Statements body ns (token k.End end ∷ rest) → Forms (token k.Every at ∷ tokens) (node at (stmt.Every (Some x) t (block ns))) true rest
    is_watching : {tokens body : List Terminal} {t : Target} {ns : List Node} {rest : List Terminal} (at begin end : Pos) →
        Targets tokens t (token k.Do begin ∷ body) → Statements body ns (token k.End end ∷ rest) → Forms (token k.Watching at ∷ tokens) (node at (stmt.Watching t (block ns))) true rest
    -- par [ / ( or | and ) ] do block with block { with block } end
    is_par : {tokens body mid : List Terminal} {kind : ParKind} {ns : List Node} {bs : List Block} {rest : List Terminal} (at begin with : Pos) →
        Pars tokens kind (token k.Do begin ∷ body) → Statements body ns (token k.With with ∷ mid) → Branches mid bs rest → Forms (token k.Par at ∷ tokens) (node at (stmt.Par kind (block ns ∷ bs))) true rest

  -- What follows the word `do`: [ / ( Lower | _ ) ] block end
  pub data Does : List Terminal → Do → List Terminal → Type 0 where
    does_plain : {tokens : List Terminal} {ns : List Node} {rest : List Terminal} (end : Pos) → Statements tokens ns (token k.End end ∷ rest) → Does tokens (do_block label.Plain ns) rest
    does_under : {tokens : List Terminal} {ns : List Node} {rest : List Terminal} (slash at end : Pos) → Statements tokens ns (token k.End end ∷ rest) →
        Does (token k.Slash slash ∷ token k.Under at ∷ tokens) (do_block label.Under ns) rest
    does_named : {tokens : List Terminal} {ns : List Node} {rest : List Terminal} (x : List ℕ) (slash at end : Pos) → Statements tokens ns (token k.End end ∷ rest) →
        Does (token k.Slash slash ∷ lower x at ∷ tokens) (do_block (label.Named (ident x at)) ns) rest

  -- exp, await, spawn, do; b as above
  pub data Sources : List Terminal → Source → Bool → List Terminal → Type 0 where
    is_value : {tokens : List Terminal} {e : Exp} {rest : List Terminal} → Expression 0 tokens e rest → Sources tokens (source.Value e) false rest
    is_wait : {tokens : List Terminal} {a : Await} {rest : List Terminal} (at : Pos) → Awaits tokens a rest → Sources (token k.Await at ∷ tokens) (source.Wait a) false rest
    is_start : {tokens : List Terminal} {sp : Spawn} {rest : List Terminal} → Spawns tokens sp rest → Sources tokens (source.Start sp) false rest
    is_done : {tokens : List Terminal} {d : Do} {rest : List Terminal} (at : Pos) → Does tokens d rest → Sources (token k.Do at ∷ tokens) (source.Done d) true rest

  -- Lower [ = source ]
  pub data ItemOf : List Terminal → Item → Bool → List Terminal → Type 0 where
    is_bare : (x : List ℕ) (at : Pos) (rest : List Terminal) → ItemOf (lower x at ∷ rest) (item (ident x at) None) false rest
    is_initial : {tokens : List Terminal} {source : Source} {b : Bool} {rest : List Terminal} (x : List ℕ) (at equal : Pos) →
        Sources tokens source b rest → ItemOf (lower x at ∷ token k.Assign equal ∷ tokens) (item (ident x at) (Some source)) b rest

  -- item { , item }
  pub data Items : List Terminal → List Item → Bool → List Terminal → Type 0 where
    last_item : {tokens : List Terminal} {i : Item} {b : Bool} {rest : List Terminal} → ItemOf tokens i b rest → Items tokens (i ∷ []) b rest
    one_item : {tokens mid : List Terminal} {i : Item} {c : Bool} {is : List Item} {b : Bool} {rest : List Terminal} (comma : Pos) →
        ItemOf tokens i c (token k.Comma comma ∷ mid) → Items mid is b rest → Items tokens (i ∷ is) b rest

  -- A statement has a `;` unless its last token is `end`.
  pub data Statement : List Terminal → Node → List Terminal → Type 0 where
    is_simple : {tokens : List Terminal} {n : Node} {rest : List Terminal} (semicolon : Pos) → Forms tokens n false (token k.Semicolon semicolon ∷ rest) → Statement tokens n rest
    is_ended : {tokens : List Terminal} {n : Node} {rest : List Terminal} → Forms tokens n true rest → Statement tokens n rest

  -- { ; | statement }
  pub data Statements : List Terminal → List Node → List Terminal → Type 0 where
    no_more : (rest : List Terminal) → Statements rest [] rest
    skips : {tokens : List Terminal} {ns : List Node} {rest : List Terminal} (at : Pos) → Statements tokens ns rest → Statements (token k.Semicolon at ∷ tokens) ns rest
    one_more : {tokens mid : List Terminal} {n : Node} {ns : List Node} {rest : List Terminal} → Statement tokens n mid → Statements mid ns rest → Statements tokens (n ∷ ns) rest

  -- What follows the first `with` of a par: block { with block } end
  pub data Branches : List Terminal → List Block → List Terminal → Type 0 where
    last_branch : {tokens : List Terminal} {ns : List Node} {rest : List Terminal} (end : Pos) → Statements tokens ns (token k.End end ∷ rest) → Branches tokens (block ns ∷ []) rest
    one_branch : {tokens : List Terminal} {ns : List Node} {mid : List Terminal} {bs : List Block} {rest : List Terminal} (with : Pos) →
        Statements tokens ns (token k.With with ∷ mid) → Branches mid bs rest → Branches tokens (block ns ∷ bs) rest

  -- What follows the first block of an if: { else / if exp then block } [ else block ] end
  pub data Arms : List Terminal → List Arm → Option Block → List Terminal → Type 0 where
    no_else : (end : Pos) (rest : List Terminal) → Arms (token k.End end ∷ rest) [] None rest
    last_else : {tokens : List Terminal} {ns : List Node} {rest : List Terminal} (at end : Pos) → Statements tokens ns (token k.End end ∷ rest) → Arms (token k.Else at ∷ tokens) [] (Some (block ns)) rest
    else_if : {tokens : List Terminal} {e : Exp} {body : List Terminal} {ns : List Node} {mid : List Terminal} {arms : List Arm} {last : Option Block} {rest : List Terminal} (at slash again by : Pos) →
        Expression 0 tokens e (token k.Then by ∷ body) → Statements body ns mid → Arms mid arms last rest →
        Arms (token k.Else at ∷ token k.Slash slash ∷ token k.If again ∷ tokens) (arm e ns ∷ arms) last rest

-- The tokens are a program with these statements.
abbrev pub Program : List Terminal → List Node → Type 0
Program tokens ns = Statements tokens ns []

-- The tokens of the text are a program that has this tree.
abbrev pub Derives : List ℕ → List Token → Tree → Type 0
Derives text tokens t = (ns : List Node) × Program (terminals text tokens) ns × (t ≡ tree ns)

-- Some program begins with the tokens.
abbrev pub Begins : List Terminal → Type 0
Begins tokens = (more : List Terminal) × (ns : List Node) × Program (tokens ++ more) ns

-- At token k it is no program any more: the tokens before it begin one, and those up to it begin none.
-- The end counts as a last token: up to it the tokens have to be a program.
pub record FirstWrong (tokens : List Terminal) (k : ℕ) : Type 0 where
  pub within : k ≤ length tokens
  pub before : Begins (take k tokens)
  pub at : k < length tokens → Begins (take (suc k) tokens) → ⊥
  pub end : k ≡ length tokens → (ns : List Node) → Program tokens ns → ⊥
