-- The bodies of a program and of its codes: each exit has its target around it.
use Rattle.std.proofs.Common.{◌≡◌, refl, sym, ap, ◌∙◌, subst, ℕ, ◌<◌, length, arith, List, [], ◌∷◌, Option, Some, None, Ok, inl, Bool, true, false}
use Rattle.std.specs.Prelude.{◌==◌, nat_le, if◌then◌else◌, fold}
use Rattle.std.proofs.lemmas.Bool.Decides.{Decides-eqb}
use Rattle.ceu_base.specs.declared.kinds.Ty.{Ty}
use Rattle.ceu_base.specs.declared.kinds.Ty.TheVariants as ty
use Rattle.ceu_base.specs.declared.kinds.Pos.{Pos}
use Rattle.ceu_base.specs.declared.kinds.Rule.TheVariants.{T4}
use Rattle.ceu_tree.specs.declared.source.Ident.{Ident}
use Rattle.ceu_tree.specs.declared.source.Param.{Param}
use Rattle.ceu_tree.specs.declared.source.Block.{Block, Block', Row_of-Node, end_of-Node, more_of-Node}
use Rattle.ceu_tree.specs.declared.source.Stmt as stmt
use Rattle.ceu_tree.specs.declared.source.Stmt.{Stmt, Vars', If', Par'}
use Rattle.ceu_tree.specs.declared.source.Tree.{Tree}
use Rattle.ceu_tree.specs.declared.kernel.KBlock.{KBlock, out-KBlock, roll-KBlock}
use Rattle.ceu_tree.specs.Proper.{Aim, BodyAim, InTrail}
use Rattle.ceu_scopes.specs.declared.known.Scopes.{Scopes}
use Rattle.ceu_types.specs.declared.typing.Types.{Types}
use Rattle.ceu_types.specs.declared.found.Found.{Found}
use Rattle.ceu_types.specs.declared.found.Broken.{Broken}
use Rattle.ceu_types.specs.declared.around.Around as types_around
use Rattle.ceu_types.specs.Notes.{asks, begun, ended, ended_after}
use Rattle.ceu_types.specs.Around as types
use Rattle.ceu_types.specs.Around.{program_around, label_takes}
use Rattle.ceu_types.specs.Statements.{acts, name_typed, param_found, params_found, stmt_found, block_found, nodes_found, nothing_found, answer, types_of}
use Rattle.ceu_expand.specs.declared.around.Around as draft_around
use Rattle.ceu_expand.specs.declared.draft.Draft.{Draft}
use Rattle.ceu_expand.specs.Draft.{of_program, nothing_written, opened, outside, written, closed, block_of, standing, entered, left, with_code}
use Rattle.ceu_expand.specs.Lists.{each}
use Rattle.ceu_expand.specs.Parts.{param_declared}
use Rattle.ceu_expand.specs.Expansion.{declared_in, code_begun, code_around, code_ended, stmt_written, nodes_written, block_written, block_passed, counted, kernel_of}
use Rattle.laws_kernel_shape.specs.Shaped.{AllOf}
use Rattle.laws_kernel_shape.proofs.Good.{all_append}
use Rattle.laws_kernel_shape.proofs.Codes.{NoCode, NoCodeInBlock, Outermost, OutermostNodes, OutermostBlock, CodesOutermost}
use Rattle.laws_kernel_shape.proofs.Wrote.{stmt_wrote, block_in}
use Rattle.laws_kernel_shape.proofs.Whole.{bare, params_are}
use Rattle.laws_kernel_shape.specs.Exits.{taken_at, BlockStands, BodyStands, CodeStands, KernelStands}
use Rattle.laws_kernel_shape.proofs.Fine.{Fine, fine_ended, fine_begun}
use Rattle.laws_kernel_shape.proofs.Beside.{Alike, Level, Step, none_step, step_then, asks_step, acts_step, block_step}
use Rattle.laws_kernel_shape.proofs.Pieces.{typed_name_step}
use Rattle.laws_kernel_shape.proofs.Held.{Holds, holds_opened, holds_block, Rel}
use Rattle.laws_kernel_shape.proofs.Standing.{Main, stmt_main, nodes_main}
use denote.Hole.Carrier

own_body : (n : ℕ) (u : Ty) → taken_at n (BodyAim n u ∷ []) ≡ Some u
own_body n u = here (n == n) ((Decides-eqb n n).1 refl)
  where
    here : (b : Bool) → b ≡ true → (if b then Some u else None) ≡ Some u
    here true h = refl
    here false h = absurd (cc)

block_node : (n : ℕ) (f : Draft → Draft) (d : Draft) → (out-KBlock (block_of n f d)).node ≡ d.node
unfolding outside written roll-KBlock Carrier.roll out-KBlock Carrier.out
block_node n f d = refl

module _ (s : Scopes) (t : Types) where
  -- ---- a body

  -- at a body's beginning
  body_rel : (u : Ty) (a : types_around.Around) (b : draft_around.Around) (n : ℕ) (f : Found) (d : Draft) → a.plain ≡ Some u → a.in_loop ≡ false → b.plain ≡ d.node → f.labels ≡ [] → Level s f d →
      Rel s InTrail (BodyAim d.node u ∷ []) a b f (opened n d)
  unfolding opened label_takes
  body_rel u a b n f d plain turns node none level =
      record {
        level = level;
        plain = λ o t k. ap (λ m. taken_at m (BodyAim d.node u ∷ [])) node ∙ own_body d.node u ∙ sym plain ∙ k;
        turns = λ o i. absurd (cc);
        labels = λ o x t k. let e : label_takes [] x ≡ Some t = subst (λ ls. label_takes ls x ≡ Some t) none k in absurd (cc);
        fresh = (omega arith, tt);
      }

  -- ---- code

  params_step : (x : Ident) (ps : List Param) (f : Found) (d : Draft) → Step s f d (params_found x ps f) d
  unfolding params_found
  params_step x ps f d =
      let f' = acts f in
      step_then s (acts_step s f d) (step_then s (asks_step s (nat_le (length ps) 255) T4 x.pos f' d) (each_step ps (asks (nat_le (length ps) 255) T4 x.pos f')))
    where
      each_step : (ps : List Param) (f : Found) → Step s f d (fold param_found f ps) d
      each_step [] f = none_step s f d
      each_step (p ∷ ps) f = step_then s (typed_name_step s p.ty p.name f d) (each_step ps (name_typed p.ty p.name f))

  -- what holds between the statements of the outermost block
  record Outer (f : Found) (d : Draft) : Type 0 where
    level : Level s f d
    labels : f.labels ≡ []
    node : 0 < d.node

  abbrev program_aims : List Aim
  program_aims = BodyAim 0 ty.S32 ∷ []

  outer_rel : (f : Found) (d : Draft) → Outer f d → Rel s InTrail program_aims program_around of_program f d
  unfolding label_takes
  outer_rel f d h =
      record {
        level = h.level;
        plain = λ o t k. k;
        turns = λ o i. absurd (cc);
        labels = λ o x t k. let e : label_takes [] x ≡ Some t = subst (λ ls. label_takes ls x ≡ Some t) h.labels k in absurd (cc);
        fresh = (h.node, tt);
      }

  record Stood (d : Draft) : Type 0 where
    body : Holds InTrail program_aims d
    codes : AllOf CodeStands d.codes

  -- a statement of the outermost block
  record Goes (f : Found) (d : Draft) (g : Found) (e : Draft) : Type 0 where
    outer : Outer f d → Outer g e
    back : Fine InTrail g → Fine InTrail f
    stood : Outer f d → Fine InTrail g → Stood d → Stood e

  code_goes : (p : Pos) (x : Ident) (ps : List Param) (result : Ty) (blk : Block) → NoCodeInBlock blk → (f : Found) (d : Draft) →
      Goes f d (stmt_found s program_around (stmt.Code x ps result blk) f) (stmt_written s t of_program p (stmt.Code x ps result blk) d)
  unfolding stmt_found stmt_written NoCode code_begun code_around code_ended standing entered left with_code bare
  code_goes p x ps result (Block' _ list) h f d =
      let first : Draft = entered (length ps) (standing (length d.codes) d) in
      let inside : Draft = each param_declared ps first in
      let around = code_around inside in
      let n = declared_in list in
      let after : Draft = block_passed s t around (Block' _ list) inside in
      let made : KBlock = block_written s t around (Block' _ list) inside in
      let f' = params_found x ps f in
      let a = types.code_around result in
      let params = (params_are ps first).stays in
      let block = (block_in s t around (Block' _ list) h inside).stays in
      let nodes = nodes_main s t a around list h f' (opened n inside) in
      let uses : inside.uses ≡ d.uses = ap (λ (e : Draft). e.uses) params in
      let asked = params_step x ps f inside in
      let start : Outer f d → Level s f' inside = λ o. asked.level (subst (λ k. Alike (length s.uses) f.names k) (sym uses) o.level) in
      let none : Outer f d → f'.labels ≡ [] = λ o. asked.labels ∙ o.labels in
      let node : after.other_node ≡ d.node = ap (λ (e : Draft). e.other_node) block ∙ ap (λ (e : Draft). e.other_node) params in
      let codes : after.codes ≡ d.codes = ap (λ (e : Draft). e.codes) block ∙ ap (λ (e : Draft). e.codes) params in
      let g : Found = nodes_found s a list f' in
      let whole = block_step s n (nodes_written s t around list) f' g inside nodes.step in
      let aims = BodyAim inside.node result ∷ [] in
      record {
        outer = λ o. record { level = whole.level (start o); labels = whole.labels ∙ none o; node = let m = o.node in omega (arith, node, m) };
        back = λ fine. asked.back InTrail (whole.back InTrail fine);
        stood = λ o fine k.
            let stands : BlockStands InTrail aims made =
            holds_block InTrail aims n (nodes_written s t around list) inside (nodes.holds InTrail aims (body_rel result a around n f' inside refl refl refl (none o) (start o)) fine (holds_opened InTrail aims n inside)) in
            record {
              body = record { decls = k.body.decls; list = k.body.list };
              codes =
                  all_append CodeStands after.codes _ (subst (AllOf CodeStands) (sym codes) k.codes)
                  (subst (λ m. BlockStands InTrail (BodyAim m result ∷ []) made) (sym (block_node n (nodes_written s t around list) inside)) stands);
            };
      }

  main_goes : (f g : Found) (d e : Draft) → Main s t program_around of_program f d g e → e.codes ≡ d.codes → Goes f d g e
  main_goes f g d e m codes =
      record {
        outer = λ o. record { level = m.step.level o.level; labels = m.step.labels ∙ o.labels; node = let up = m.step.up in let n = o.node in omega (arith, up, n) };
        back = λ fine. m.step.back InTrail fine;
        stood = λ o fine h. record { body = m.holds InTrail program_aims (outer_rel f d o) fine h.body; codes = subst (AllOf CodeStands) (sym codes) h.codes };
      }

  stmt_goes : (p : Pos) (st : Stmt) → Outermost st → (f : Found) (d : Draft) → Goes f d (stmt_found s program_around st f) (stmt_written s t of_program p st d)
  unfolding Outermost
  stmt_goes p (stmt.Code x ps result blk) o f d = code_goes p x ps result blk o f d
  stmt_goes p st o f d = main_goes f (stmt_found s program_around st f) d (stmt_written s t of_program p st d) (stmt_main s t program_around of_program p st o f d) (stmt_wrote s t of_program p st o d).codes

  outer_begun : (f : Found) (d : Draft) → Outer f d → Outer (begun f) d
  unfolding begun
  outer_begun f d h = record { level = h.level; labels = h.labels; node = h.node }

  outer_ended : (p : Pos) (f g : Found) (d : Draft) → Outer g d → Outer (ended p f g) d
  unfolding ended_after
  outer_ended p f g d h = record { level = h.level; labels = h.labels; node = h.node }

  node_goes : (p : Pos) (f g : Found) (d e : Draft) → Goes (begun f) d g e → Goes f d (ended p f g) e
  node_goes p f g d e h =
      record {
        outer = λ o. outer_ended p f g e (h.outer (outer_begun f d o));
        back = λ fine. let k = fine_ended InTrail p f g fine in fine_begun InTrail f k.0 k.1 (h.back k.2);
        stood = λ o fine k. h.stood (outer_begun f d o) (fine_ended InTrail p f g fine).2 k;
      }

  nodes_go : {n : _} (r : Row_of-Node n) → OutermostNodes r → (f : Found) (d : Draft) → Goes f d (nodes_found s program_around r f) (nodes_written s t of_program r d)
  unfolding OutermostNodes stmt_found stmt_written
  nodes_go end_of-Node o f d = record { outer = λ h. h; back = λ h. h; stood = λ o fine h. h }
  nodes_go (more_of-Node p st rest) o f d =
      let e = stmt_written s t of_program p st d in
      let g = stmt_found s program_around st (begun f) in
      let one = node_goes p f g d e (stmt_goes p st o.0 (begun f) d) in
      let behind = nodes_go rest o.1 (ended p f g) e in
      record {
        outer = λ h. behind.outer (one.outer h);
        back = λ h. one.back (behind.back h);
        stood = λ h fine k. behind.stood (one.outer h) fine (one.stood h (behind.back fine) k);
      }

  -- the rule at a statement's first token isn't kept behind the statement
  own_kept : {n : _} (a : types_around.Around) (r : Row_of-Node n) (f : Found) → (nodes_found s a r f).own ≡ f.own
  unfolding stmt_found ended_after
  own_kept a end_of-Node f = refl
  own_kept a (more_of-Node p st rest) f = own_kept a rest (ended p f (stmt_found s a st (begun f)))

  answered : (b : Option Broken) (us : List Ty) (ts : List Ty) → answer b us ≡ Ok ts → b ≡ None
  answered None us ts h = refl
  answered (Some b) us ts h = absurd (cc)

  block_stood : (blk : Block) → OutermostBlock blk → (m k : ℕ) → (block_found s program_around blk nothing_found).broken ≡ None →
      BodyStands ty.S32 (block_written s t of_program blk (nothing_written m k)) × AllOf CodeStands (block_passed s t of_program blk (nothing_written m k)).codes
  unfolding OutermostBlock stmt_found stmt_written nothing_written opened closed
  block_stood (Block' _ list) o m k none =
      let n = declared_in list in
      let d : Draft = nothing_written m k in
      let start : Draft = opened n d in
      let f = nothing_found in
      let all = nodes_go list o f start in
      let begin : Outer f start = record { level = inl refl; labels = refl; node = omega arith } in
      let fine : Fine InTrail (nodes_found s program_around list f) = record { broken = none; own = own_kept program_around list f; allows = tt } in
      let stood = all.stood begin fine (record { body = record { decls = tt; list = tt }; codes = tt }) in
      let body : BlockStands InTrail program_aims (block_of n (nodes_written s t of_program list) d) = holds_block InTrail program_aims n (nodes_written s t of_program list) d stood.body in
      (subst (λ x. BlockStands InTrail (BodyAim x ty.S32 ∷ []) (block_of n (nodes_written s t of_program list) d)) (sym (block_node n (nodes_written s t of_program list) d)) body, stood.codes)

  pub stands : (tree : Tree) → CodesOutermost tree → (ts : List Ty) → types_of s tree ≡ Ok ts → KernelStands (kernel_of s t tree)
  unfolding kernel_of types_of
  stands tree o ts h =
      block_stood tree.body o (counted s t tree.body).node (counted s t tree.body).slot
      (answered (block_found s program_around tree.body nothing_found).broken (block_found s program_around tree.body nothing_found).types ts h)
