-- The head of code: what its parameters stand for, and what code stands for behind it.
use Rattle.std.proofs.Common.{◌≡◌, refl, sym, ap, ◌∙◌, subst, ℕ, ◌+◌, ◌<◌, length, drop, arith, List, [], ◌∷◌, ◌++◌, Some, None, Ok, Bool, true, false}
use Rattle.std.specs.Prelude.{◌==◌, if◌then◌else◌}
use Rattle.std.proofs.lemmas.Bool.Decides.{Decides-eqb}
use Rattle.std.proofs.lemmas.List.{drop_at}
use Rattle.ceu_base.specs.declared.kinds.Ty.{Ty}
use Rattle.ceu_tree.specs.declared.source.Class.TheVariants as class
use Rattle.ceu_tree.specs.declared.source.Decl.{Decl}
use Rattle.ceu_tree.specs.declared.source.Ident.{Ident}
use Rattle.ceu_tree.specs.declared.source.Param.{Param}
use Rattle.ceu_tree.specs.declared.kernel.Kernel.{Kernel}
use Rattle.ceu_tree.specs.declared.kernel.KCode.{KCode}
use Rattle.ceu_tree.specs.declared.kernel.KDecl.{KDecl}
use Rattle.ceu_tree.specs.declared.kernel.KBlock.{out-KBlock, roll-KBlock}
use Rattle.ceu_tree.specs.Leaf.{code_at}
use Rattle.ceu_tree.specs.Proper.{BodyAim, InTrail}
use Rattle.ceu_scopes.specs.declared.known.Scopes.{Scopes}
use Rattle.ceu_scopes.specs.declared.scope.Border.TheVariants.{Body}
use Rattle.ceu_scopes.specs.declared.walk.Walk.{Walk}
use Rattle.ceu_scopes.specs.Shown.{rest_of}
use Rattle.ceu_scopes.specs.Walk as walk
use Rattle.ceu_scopes.specs.Walk.{Broken, ◌>>=◌, shown, fresh, block_of}
use Rattle.ceu_scopes.specs.Rules.{inside_broken, declared}
use Rattle.ceu_scopes.specs.Names.{params_opened, code_opened}
use Rattle.ceu_types.specs.declared.typing.Types.{Types}
use Rattle.ceu_types.specs.declared.found.Found.{Found}
use Rattle.ceu_types.specs.declared.around.Around as types_around
use Rattle.ceu_types.specs.Around.{label_takes}
use Rattle.ceu_expand.specs.declared.around.Around as draft_around
use Rattle.ceu_expand.specs.declared.draft.Draft.{Draft}
use Rattle.ceu_expand.specs.Draft.{opened, outside, written, closed, around_block, standing, entered, left, with_code}
use Rattle.ceu_expand.specs.Draft as draft
use Rattle.ceu_expand.specs.Lists.{each}
use Rattle.ceu_expand.specs.Parts.{param_declared}
use Rattle.laws_kernel_shape.specs.Shaped.{AllOf}
use Rattle.laws_kernel_shape.proofs.Inside.{append_assoc}
use Rattle.laws_kernel_shape.proofs.Whole.{bare, params_are}
use Rattle.laws_kernel_names.proofs.Stepping.{AllScopes, scopes_map, length_more}
use Rattle.laws_kernel_shape.specs.Exits.{taken_at}
use Rattle.laws_kernel_shape.proofs.Beside.{Level}
use Rattle.laws_kernel_shape.proofs.Held.{Rel}
use Rattle.laws_kernel_types.specs.Typed.{ParamTyped, CodeTyped, CodesTyped}
use Rattle.laws_kernel_types.proofs.Noting.{Prefix, prefix_less, prefix_as}
use Rattle.laws_kernel_types.proofs.Meaning.{Means, means_inside, CodeIs, Matches}
use Rattle.laws_kernel_types.proofs.Naming.{then_ok, prefix_then, same_tables, Calm, Ends, Now, declared_ok, declared_now, stands_there, opened_now}
use Rattle.laws_kernel_types.proofs.Declaring.{standing_takes, means_there}
use Rattle.laws_kernel_types.proofs.Parameters.{pair_matches, AllTyped, Params, params_walked}
use denote.Hole.Carrier

own_body : (n : ℕ) (u : Ty) → taken_at n (BodyAim n u ∷ []) ≡ Some u
own_body n u = here (n == n) ((Decides-eqb n n).1 refl)
  where
    here : (b : Bool) → b ≡ true → (if b then Some u else None) ≡ Some u
    here true h = refl
    here false h = absurd (cc)

pub block_node : (n : ℕ) (f : Draft → Draft) (d : Draft) → (out-KBlock (draft.block_of n f d)).node ≡ d.node
unfolding outside written roll-KBlock Carrier.roll out-KBlock Carrier.out
block_node n f d = refl

pub code_next : (xs : List KCode) (x : KCode) (ys : List KCode) → code_at (length xs) (xs ++ x ∷ ys) ≡ Some x
code_next [] x ys = refl
code_next (y ∷ xs) x ys = code_next xs x ys

codes_append : (K : Kernel) (k : ℕ) (cs : List KCode) (c : KCode) → CodesTyped K k cs → CodeTyped K (k + length cs) c → CodesTyped K k (cs ++ c ∷ [])
codes_append K k [] c h one = let e : k + 0 ≡ k = omega arith in (subst (λ n. CodeTyped K n c) e one, tt)
codes_append K k (x ∷ cs) c h one =
    let e : k + length (x ∷ cs) ≡ (k + 1) + length cs = omega arith in
    (h.0, codes_append K (k + 1) cs c h.1 (subst (λ n. CodeTyped K n c) e one))

pub codes_ended : (K : Kernel) (old new all : List KCode) (c : KCode) → new ≡ old → all ≡ new ++ c ∷ [] → CodesTyped K 0 old → CodeTyped K (length old) c → CodesTyped K 0 all
codes_ended K old new all c same is h one =
    let e : 0 + length new ≡ length old = (let k : length new ≡ length old = ap length same in omega (arith, k)) in
    subst (CodesTyped K 0) (sym is) (codes_append K 0 new c (subst (CodesTyped K 0) (sym same) h) (subst (λ n. CodeTyped K n c) (sym e) one))

pub params_typed : (ks ls : List KDecl) → ls ≡ ks → AllOf ParamTyped ks → AllOf ParamTyped ls
params_typed ks ls same h = subst (AllOf ParamTyped) (sym same) h

module _ (s : Scopes) (t : Types) where
  -- at a body's beginning
  pub body_rel : (u : Ty) (a : types_around.Around) (b : draft_around.Around) (n : ℕ) (f : Found) (d : Draft) → a.plain ≡ Some u → a.in_loop ≡ false → b.plain ≡ d.node → f.labels ≡ [] → Level s f d →
      Rel s InTrail (BodyAim d.node u ∷ []) a b f (opened n d)
  unfolding opened label_takes
  body_rel u a b n f d plain turns node none level =
      record {
        level = level;
        plain = λ o t k. ap (λ m. taken_at m (BodyAim d.node u ∷ [])) node ∙ own_body d.node u ∙ sym plain ∙ k;
        turns = λ o i. absurd (cc);
        labels = λ o x t k. let e : label_takes [] x ≡ Some t = subst (λ ls. label_takes ls x ≡ Some t) none k in absurd (cc);
        fresh = (omega arith, tt);
      }

  module _ (numbers : List ℕ) (K : Kernel) where
    -- what holds between the statements of the outermost block
    pub record Stage (w : Walk) (f : Found) (d : Draft) : Type 0 where
      pub level : Level s f d
      pub labels : f.labels ≡ []
      pub node : 0 < d.node
      pub count : length f.types ≡ d.exps
      pub now : Now s numbers K None w d

    -- ---- the head of code

    -- the draft where the parameters begin
    abbrev pub Head : List Param → Draft → Draft
    Head ps d = entered (length ps) (standing (length d.codes) d)

    head_takes : (ps : List Param) (d : Draft) → Calm (standing (length d.codes) d) (Head ps d)
    unfolding entered standing
    head_takes ps d = record { uses = refl; numbers = refl; tables = same_tables (standing (length d.codes) d) (Head ps d) refl refl refl refl }

    pub record Opened (x : Ident) (ps : List Param) (result : Ty) (w v : Walk) (d : Draft) : Type 0 where
      pub first : Walk
      pub declares : declared class.Code result (inside_broken w.scopes) x w ≡ Ok first
      pub params : Params s numbers K (Some (length d.codes)) ps (walk.opened (Body x.name) first) v (Head ps d) (each param_declared ps (Head ps d))

    pub head_opened : (x : Ident) (ps : List Param) (result : Ty) (w v : Walk) (d : Draft) → code_opened x ps result w ≡ Ok v → Opened x ps result w v d
    head_opened x ps result w v d h =
        let k = then_ok (declared class.Code result (inside_broken w.scopes) x w) (params_opened x.name ps) v h in
        record { first = k.0; declares = k.1; params = params_walked s numbers K (Some (length d.codes)) ps (walk.opened (Body x.name) k.0) v (Head ps d) k.2 }

    opened_same : (x : Ident) (w : Walk) → ((walk.opened (Body x.name) w).uses ≡ w.uses) × ((walk.opened (Body x.name) w).decls ≡ w.decls) × (rest_of (walk.opened (Body x.name) w).scopes ≡ w.scopes)
    unfolding walk.opened
    opened_same x w = (refl, refl, refl)

    head_same : (ps : List Param) (d : Draft) → bare (each param_declared ps (Head ps d)) ≡ bare (Head ps d)
    head_same ps d = (params_are ps (Head ps d)).stays

    -- what the head leaves of the draft
    pub record Kept (d e : Draft) : Type 0 where
      pub uses : e.uses ≡ d.uses
      pub exps : e.exps ≡ d.exps
      pub labels : e.labels ≡ d.labels
      pub codes : e.codes ≡ d.codes
      pub inputs : e.inputs ≡ d.inputs
      pub outputs : e.outputs ≡ d.outputs
      pub events : e.events ≡ d.events
      pub other_node : e.other_node ≡ d.node

    pub head_kept : (ps : List Param) (d : Draft) → Kept d (each param_declared ps (Head ps d))
    unfolding bare entered standing
    head_kept ps d =
        let h = head_same ps d in
        record {
          uses = ap (λ (e : Draft). e.uses) h;
          exps = ap (λ (e : Draft). e.exps) h;
          labels = ap (λ (e : Draft). e.labels) h;
          codes = ap (λ (e : Draft). e.codes) h;
          inputs = ap (λ (e : Draft). e.inputs) h;
          outputs = ap (λ (e : Draft). e.outputs) h;
          events = ap (λ (e : Draft). e.events) h;
          other_node = ap (λ (e : Draft). e.other_node) h;
        }

    head_numbers : (ps : List Param) (d : Draft) → (Head ps d).numbers ≡ d.numbers ++ length d.codes ∷ []
    unfolding entered standing
    head_numbers ps d = refl

    head_parts : (ps : List Param) (d : Draft) → (Head ps d).parts.decls ≡ []
    unfolding entered standing
    head_parts ps d = refl

    abbrev code_decl : Ident → Ty → Walk → Decl
    code_decl x result w = record { class = class.Code; ty = result; pos = x.pos; block = block_of w.scopes; name = x.name }

    first_is : (x : Ident) (ps : List Param) (result : Ty) (w v : Walk) (d : Draft) (o : Opened x ps result w v d) → o.first ≡ record w { decls = w.decls ++ code_decl x result w ∷ [] }
    first_is x ps result w v d o = declared_ok s numbers K None class.Code result (inside_broken w.scopes) x w o.first o.declares

    module _ (x : Ident) (ps : List Param) (result : Ty) (w v : Walk) (d : Draft) (o : Opened x ps result w v d) where
      abbrev pub Inside : Draft
      Inside = each param_declared ps (Head ps d)

      same : ((walk.opened (Body x.name) o.first).uses ≡ o.first.uses) × ((walk.opened (Body x.name) o.first).decls ≡ o.first.decls) × (rest_of (walk.opened (Body x.name) o.first).scopes ≡ o.first.scopes)
      same = opened_same x o.first

      one_decls : o.first.decls ≡ w.decls ++ code_decl x result w ∷ []
      one_decls = ap (λ (w : Walk). w.decls) (first_is x ps result w v d o)

      from_first : v.decls ≡ o.first.decls ++ o.params.ds
      from_first = o.params.is ∙ ap (λ ds. ds ++ o.params.ds) same.1

      all_decls : v.decls ≡ w.decls ++ (code_decl x result w ∷ o.params.ds)
      all_decls = from_first ∙ ap (λ ds. ds ++ o.params.ds) one_decls ∙ append_assoc w.decls (code_decl x result w ∷ []) o.params.ds

      all_uses : v.uses ≡ w.uses
      all_uses = o.params.uses ∙ same.0 ∙ ap (λ (w : Walk). w.uses) (first_is x ps result w v d o)

      pub rest_scopes : rest_of v.scopes ≡ w.scopes
      rest_scopes = o.params.rest ∙ same.2 ∙ ap (λ (w : Walk). w.scopes) (first_is x ps result w v d o)

      pub more_decls : length v.decls ≡ length w.decls + 1 + length o.params.ds
      more_decls =
          let e : length (w.decls ++ (code_decl x result w ∷ o.params.ds)) ≡ length w.decls + 1 + length o.params.ds = count_append w.decls (code_decl x result w) o.params.ds in
          ap length all_decls ∙ e
        where
          count_append : (xs : List Decl) (y : Decl) (ys : List Decl) → length (xs ++ y ∷ ys) ≡ length xs + 1 + length ys
          count_append [] y ys = omega arith
          count_append (z ∷ xs) y ys = let e = count_append xs y ys in omega (arith, e)

      all_numbers : Prefix d.numbers Inside.numbers
      all_numbers = prefix_less d.numbers (length d.codes ∷ []) Inside.numbers (prefix_as (d.numbers ++ length d.codes ∷ []) (Head ps d).numbers Inside.numbers (head_numbers ps d) o.params.given)

      pub head_ends : Ends s numbers K v Inside → Ends s numbers K w d
      head_ends h =
          let k = head_kept ps d in
          record {
            uses = prefix_as w.uses v.uses s.uses all_uses h.uses;
            decls = (code_decl x result w ∷ (o.params.ds ++ h.decls.0), h.decls.1 ∙ ap (λ ds. ds ++ h.decls.0) all_decls ∙ append_assoc w.decls (code_decl x result w ∷ o.params.ds) h.decls.0);
            plain = refl;
            given = prefix_then d.numbers Inside.numbers numbers all_numbers h.given;
            inputs = prefix_as d.inputs Inside.inputs K.inputs k.inputs h.inputs;
            outputs = prefix_as d.outputs Inside.outputs K.outputs k.outputs h.outputs;
            events = prefix_as d.events Inside.events K.events k.events h.events;
            codes = prefix_as d.codes Inside.codes K.codes k.codes h.codes;
          }

      first_more : Ends s numbers K v Inside → Prefix o.first.decls s.decls
      first_more h = prefix_then o.first.decls v.decls s.decls (o.params.ds, from_first) h.decls

      first_given : Ends s numbers K v Inside → Prefix (standing (length d.codes) d).numbers numbers
      unfolding standing
      first_given h = prefix_then (d.numbers ++ length d.codes ∷ []) Inside.numbers numbers (prefix_as (d.numbers ++ length d.codes ∷ []) (Head ps d).numbers Inside.numbers (head_numbers ps d) o.params.given) h.given

      pub head_now : AllTyped ps → Ends s numbers K v Inside → Now s numbers K None w d → Now s numbers K (Some (length d.codes)) v Inside
      head_now typed h now =
          let c = Some (length d.codes) in
          let stand = standing (length d.codes) d in
          let n1 = declared_now s numbers K None class.Code result (inside_broken w.scopes) x (length d.codes) w o.first d stand (standing_takes s numbers K None (length d.codes) d) o.declares now in
          let calm = head_takes ps d in
          let n2 : Now s numbers K c o.first (Head ps d) = record {
            uses = n1.uses ∙ sym calm.uses;
            decls = n1.decls ∙ ap length (sym calm.numbers);
            shows =
                subst (λ ns. AllScopes (Means s numbers K c (length ns)) o.first.scopes) (sym calm.numbers)
                (scopes_map (Means s numbers K None (length stand.numbers)) (Means s numbers K c (length stand.numbers)) (means_inside s numbers K c (length stand.numbers)) o.first.scopes n1.shows);
          } in
          o.params.now typed h.decls h.given (opened_now s numbers K c (Body x.name) o.first (Head ps d) n2)

      pub head_params : Ends s numbers K v Inside → Matches o.params.ks (drop (length w.decls + 1) s.decls)
      head_params h =
          let tail = o.params.ds ++ h.decls.0 in
          let all : s.decls ≡ o.first.decls ++ tail = h.decls.1 ∙ ap (λ ds. ds ++ h.decls.0) from_first ∙ append_assoc o.first.decls o.params.ds h.decls.0 in
          let count : length o.first.decls ≡ length w.decls + 1 = ap length one_decls ∙ length_more w.decls (code_decl x result w) in
          let dropped : drop (length w.decls + 1) s.decls ≡ tail = ap (drop (length w.decls + 1)) all ∙ drop_at o.first.decls tail (length w.decls + 1) count in
          subst (Matches o.params.ks) (sym dropped) (pair_matches o.params.ks o.params.ds h.decls.0 o.params.paired h.plain)

      pub head_stands : Ends s numbers K v Inside → Now s numbers K None w d → (kc : KCode) → code_at (length d.codes) K.codes ≡ Some kc → kc.result ≡ result → kc.params ≡ o.params.ks → (m : ℕ) → length w.decls < m → Means s numbers K None m (fresh class.Code 0 w)
      head_stands h now kc there is params m lt =
          let stand = standing (length d.codes) d in
          let takes = standing_takes s numbers K None (length d.codes) d in
          means_there s numbers K None class.Code 0 m w lt
          (stands_there s numbers K None class.Code result (inside_broken w.scopes) x (length d.codes) w o.first d stand o.declares takes.takes (first_more h) (first_given h) now (CodeIs s numbers K (length w.decls))
          (λ z a b. record { code = kc; there = there; result = is ∙ sym b; params = subst (λ ks. Matches ks (drop (length w.decls + 1) s.decls)) (sym params) (head_params h) }))

      pub head_decls : Inside.parts.decls ≡ o.params.ks
      head_decls = o.params.decls ∙ ap (λ ds. ds ++ o.params.ks) (head_parts ps d)
