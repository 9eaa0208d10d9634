-- The reserved words that are printed.
use Rattle.std.proofs.Common.{refl, true, false, codes}
use Rattle.ceu_base.specs.declared.kinds.Ty.{Ty}
use Rattle.ceu_base.specs.declared.kinds.Ty.TheVariants as ty
use Rattle.std.specs.Prelude.{Bool}
use Rattle.ceu_lex.specs.declared.token.Word.TheVariants as w
use Rattle.ceu_lex.specs.Tables.{reserved_words}
use Rattle.ceu_lex.specs.Lexemes.{reserved}
use Rattle.ceu_syntax.specs.declared.terminal.Kind.TheVariants as k
use Rattle.ceu_print.specs.Words.{type_text, truth_text}
use Rattle.laws_text_printed.proofs.Printing.{Leaf, keyword}

pub word_and : Leaf (codes "and") k.And
unfolding reserved reserved_words
word_and = keyword w.And (codes "and") refl refl refl refl

pub word_as : Leaf (codes "as") k.As
unfolding reserved reserved_words
word_as = keyword w.As (codes "as") refl refl refl refl

pub word_async : Leaf (codes "async") k.Async
unfolding reserved reserved_words
word_async = keyword w.Async (codes "async") refl refl refl refl

pub word_await : Leaf (codes "await") k.Await
unfolding reserved reserved_words
word_await = keyword w.Await (codes "await") refl refl refl refl

pub word_break : Leaf (codes "break") k.Break
unfolding reserved reserved_words
word_break = keyword w.Break (codes "break") refl refl refl refl

pub word_code : Leaf (codes "code") k.Code
unfolding reserved reserved_words
word_code = keyword w.Code (codes "code") refl refl refl refl

pub word_continue : Leaf (codes "continue") k.Continue
unfolding reserved reserved_words
word_continue = keyword w.Continue (codes "continue") refl refl refl refl

pub word_do : Leaf (codes "do") k.Do
unfolding reserved reserved_words
word_do = keyword w.Do (codes "do") refl refl refl refl

pub word_else : Leaf (codes "else") k.Else
unfolding reserved reserved_words
word_else = keyword w.Else (codes "else") refl refl refl refl

pub word_emit : Leaf (codes "emit") k.Emit
unfolding reserved reserved_words
word_emit = keyword w.Emit (codes "emit") refl refl refl refl

pub word_end : Leaf (codes "end") k.End
unfolding reserved reserved_words
word_end = keyword w.End (codes "end") refl refl refl refl

pub word_escape : Leaf (codes "escape") k.Escape
unfolding reserved reserved_words
word_escape = keyword w.Escape (codes "escape") refl refl refl refl

pub word_event : Leaf (codes "event") k.Event
unfolding reserved reserved_words
word_event = keyword w.Event (codes "event") refl refl refl refl

pub word_every : Leaf (codes "every") k.Every
unfolding reserved reserved_words
word_every = keyword w.Every (codes "every") refl refl refl refl

pub word_finalize : Leaf (codes "finalize") k.Finalize
unfolding reserved reserved_words
word_finalize = keyword w.Finalize (codes "finalize") refl refl refl refl

pub word_if : Leaf (codes "if") k.If
unfolding reserved reserved_words
word_if = keyword w.If (codes "if") refl refl refl refl

pub word_in : Leaf (codes "in") k.In
unfolding reserved reserved_words
word_in = keyword w.In (codes "in") refl refl refl refl

pub word_input : Leaf (codes "input") k.Input
unfolding reserved reserved_words
word_input = keyword w.Input (codes "input") refl refl refl refl

pub word_kill : Leaf (codes "kill") k.Kill
unfolding reserved reserved_words
word_kill = keyword w.Kill (codes "kill") refl refl refl refl

pub word_loop : Leaf (codes "loop") k.Loop
unfolding reserved reserved_words
word_loop = keyword w.Loop (codes "loop") refl refl refl refl

pub word_not : Leaf (codes "not") k.Not
unfolding reserved reserved_words
word_not = keyword w.Not (codes "not") refl refl refl refl

pub word_nothing : Leaf (codes "nothing") k.Nothing
unfolding reserved reserved_words
word_nothing = keyword w.Nothing (codes "nothing") refl refl refl refl

pub word_or : Leaf (codes "or") k.Or
unfolding reserved reserved_words
word_or = keyword w.Or (codes "or") refl refl refl refl

pub word_outer : Leaf (codes "outer") k.Outer
unfolding reserved reserved_words
word_outer = keyword w.Outer (codes "outer") refl refl refl refl

pub word_output : Leaf (codes "output") k.Output
unfolding reserved reserved_words
word_output = keyword w.Output (codes "output") refl refl refl refl

pub word_par : Leaf (codes "par") k.Par
unfolding reserved reserved_words
word_par = keyword w.Par (codes "par") refl refl refl refl

pub word_pool : Leaf (codes "pool") k.Pool
unfolding reserved reserved_words
word_pool = keyword w.Pool (codes "pool") refl refl refl refl

pub word_spawn : Leaf (codes "spawn") k.Spawn
unfolding reserved reserved_words
word_spawn = keyword w.Spawn (codes "spawn") refl refl refl refl

pub word_then : Leaf (codes "then") k.Then
unfolding reserved reserved_words
word_then = keyword w.Then (codes "then") refl refl refl refl

pub word_until : Leaf (codes "until") k.Until
unfolding reserved reserved_words
word_until = keyword w.Until (codes "until") refl refl refl refl

pub word_var : Leaf (codes "var") k.Var
unfolding reserved reserved_words
word_var = keyword w.Var (codes "var") refl refl refl refl

pub word_watching : Leaf (codes "watching") k.Watching
unfolding reserved reserved_words
word_watching = keyword w.Watching (codes "watching") refl refl refl refl

pub word_with : Leaf (codes "with") k.With
unfolding reserved reserved_words
word_with = keyword w.With (codes "with") refl refl refl refl

pub word_forever : Leaf (codes "FOREVER") k.Forever
unfolding reserved reserved_words
word_forever = keyword w.Forever (codes "FOREVER") refl refl refl refl

pub word_type : (t : Ty) → Leaf (type_text t) (k.Type t)
unfolding reserved reserved_words
word_type ty.None = keyword w.None (codes "none") refl refl refl refl
word_type ty.Bool = keyword w.Bool (codes "bool") refl refl refl refl
word_type ty.U8 = keyword w.Byte (codes "byte") refl refl refl refl
word_type ty.S8 = keyword w.S8 (codes "s8") refl refl refl refl
word_type ty.U16 = keyword w.U16 (codes "u16") refl refl refl refl
word_type ty.S16 = keyword w.S16 (codes "s16") refl refl refl refl
word_type ty.U32 = keyword w.Uint (codes "uint") refl refl refl refl
word_type ty.S32 = keyword w.Int (codes "int") refl refl refl refl
word_type ty.U64 = keyword w.U64 (codes "u64") refl refl refl refl
word_type ty.S64 = keyword w.S64 (codes "s64") refl refl refl refl

pub word_truth : (b : Bool) → Leaf (truth_text b) (k.Truth b)
unfolding reserved reserved_words
word_truth true = keyword w.True (codes "true") refl refl refl refl
word_truth false = keyword w.False (codes "false") refl refl refl refl
