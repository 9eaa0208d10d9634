-- What the names that a statement uses stand for, by what they are used for.
use Rattle.std.proofs.Common.{◌≡◌, ℕ, List, Option, Some, true, ◌⊎◌, inl, inr}
use Rattle.std.specs.Prelude.{slice_get}
use Rattle.ceu_tree.specs.declared.source.Class.{Class}
use Rattle.ceu_tree.specs.declared.source.Class.TheVariants as class
use Rattle.ceu_tree.specs.declared.source.Decl.{Decl}
use Rattle.ceu_tree.specs.declared.source.Ident.{Ident}
use Rattle.ceu_tree.specs.declared.kernel.Kernel.{Kernel}
use Rattle.ceu_scopes.specs.declared.known.Role.{Role}
use Rattle.ceu_scopes.specs.declared.known.Role.TheVariants as role
use Rattle.ceu_scopes.specs.declared.known.Scopes.{Scopes}
use Rattle.ceu_scopes.specs.declared.walk.Walk.{Walk}
use Rattle.ceu_scopes.specs.Rules.{takes}
use Rattle.ceu_expand.specs.declared.draft.Draft.{Draft}
use Rattle.ceu_expand.specs.Uses as uses
use Rattle.laws_kernel_types.proofs.Meaning.{Stands, HasType, PortIs, EventIs, CodeIs, MeansOf}
use Rattle.laws_kernel_types.proofs.Naming.{Ends, Now, Used, Here, here, use_means, use_listed, used_goes}

module _ (s : Scopes) (numbers : List ℕ) (K : Kernel) (code : Option ℕ) where
  module _ (n : ℕ) where
    input_stands : (c : Class) → takes role.Input c ≡ true → MeansOf s numbers K code c n → Stands s numbers K class.Input n (PortIs s numbers K K.inputs)
    input_stands class.Input e h = h
    input_stands class.Var e h = absurd (cc)
    input_stands class.Param e h = absurd (cc)
    input_stands class.LoopVar e h = absurd (cc)
    input_stands class.Event e h = absurd (cc)
    input_stands class.Output e h = absurd (cc)
    input_stands class.Pool e h = absurd (cc)
    input_stands class.Alias e h = absurd (cc)
    input_stands class.Code e h = absurd (cc)

    event_stands : (c : Class) → takes role.Event c ≡ true → MeansOf s numbers K code c n → Stands s numbers K class.Event n (EventIs s numbers K code)
    event_stands class.Event e h = h
    event_stands class.Var e h = absurd (cc)
    event_stands class.Param e h = absurd (cc)
    event_stands class.LoopVar e h = absurd (cc)
    event_stands class.Input e h = absurd (cc)
    event_stands class.Output e h = absurd (cc)
    event_stands class.Pool e h = absurd (cc)
    event_stands class.Alias e h = absurd (cc)
    event_stands class.Code e h = absurd (cc)

    code_stands : (c : Class) → takes role.Code c ≡ true → MeansOf s numbers K code c n → Stands s numbers K class.Code n (CodeIs s numbers K n)
    code_stands class.Code e h = h
    code_stands class.Var e h = absurd (cc)
    code_stands class.Param e h = absurd (cc)
    code_stands class.LoopVar e h = absurd (cc)
    code_stands class.Event e h = absurd (cc)
    code_stands class.Input e h = absurd (cc)
    code_stands class.Output e h = absurd (cc)
    code_stands class.Pool e h = absurd (cc)
    code_stands class.Alias e h = absurd (cc)

    emitted_stands : (c : Class) → takes role.Emitted c ≡ true → MeansOf s numbers K code c n → Stands s numbers K class.Output n (PortIs s numbers K K.outputs) ⊎ Stands s numbers K class.Event n (EventIs s numbers K code)
    emitted_stands class.Output e h = inl h
    emitted_stands class.Event e h = inr h
    emitted_stands class.Var e h = absurd (cc)
    emitted_stands class.Param e h = absurd (cc)
    emitted_stands class.LoopVar e h = absurd (cc)
    emitted_stands class.Input e h = absurd (cc)
    emitted_stands class.Pool e h = absurd (cc)
    emitted_stands class.Alias e h = absurd (cc)
    emitted_stands class.Code e h = absurd (cc)

    written_stands : (c : Class) → takes role.Written c ≡ true → MeansOf s numbers K code c n → (k : Class) × Stands s numbers K k n HasType
    written_stands class.Var e h = (class.Var, h)
    written_stands class.Param e h = (class.Param, h)
    written_stands class.LoopVar e h = absurd (cc)
    written_stands class.Event e h = absurd (cc)
    written_stands class.Input e h = absurd (cc)
    written_stands class.Output e h = absurd (cc)
    written_stands class.Pool e h = absurd (cc)
    written_stands class.Alias e h = absurd (cc)
    written_stands class.Code e h = absurd (cc)

  module _ (r : Role) (x : Ident) (w u : Walk) (d : Draft) (name : Used s numbers K code r x w u) (now : Now s numbers K code w d) (ends : Ends s numbers K u (uses.used d)) where
    before : Ends s numbers K w d
    before = (used_goes s numbers K code r x w u d name).ends ends

    here_as : (c : Class) (P : Decl → ℕ → Type 0) → Stands s numbers K c name.known.number P → Here s numbers K code c d P
    here_as c P h =
        here s numbers K code c P d name.known.number (use_means s numbers K code r x w u d name now).below before.given
        (use_listed s numbers K code r x w u d (uses.used d) name now ends) h

    means_it : MeansOf s numbers K code name.known.class name.known.number
    means_it = (use_means s numbers K code r x w u d name now).so

  module _ (x : Ident) (w u : Walk) (d : Draft) where
    pub input_here : Used s numbers K code role.Input x w u → Now s numbers K code w d → Ends s numbers K u (uses.used d) → Here s numbers K code class.Input d (PortIs s numbers K K.inputs)
    input_here name now ends = here_as role.Input x w u d name now ends class.Input (PortIs s numbers K K.inputs) (input_stands name.known.number name.known.class name.takes_it (means_it role.Input x w u d name now ends))

    pub event_here : Used s numbers K code role.Event x w u → Now s numbers K code w d → Ends s numbers K u (uses.used d) → Here s numbers K code class.Event d (EventIs s numbers K code)
    event_here name now ends = here_as role.Event x w u d name now ends class.Event (EventIs s numbers K code) (event_stands name.known.number name.known.class name.takes_it (means_it role.Event x w u d name now ends))

    pub record CodeHere : Type 0 where
      pub place : ℕ
      pub listed : slice_get s.uses d.uses ≡ Some place
      pub is : Here s numbers K code class.Code d (CodeIs s numbers K place)

    pub code_here : Used s numbers K code role.Code x w u → Now s numbers K code w d → Ends s numbers K u (uses.used d) → CodeHere
    code_here name now ends =
        record {
          place = name.known.number;
          listed = use_listed s numbers K code role.Code x w u d (uses.used d) name now ends;
          is = here_as role.Code x w u d name now ends class.Code (CodeIs s numbers K name.known.number) (code_stands name.known.number name.known.class name.takes_it (means_it role.Code x w u d name now ends));
        }

    pub emitted_here : Used s numbers K code role.Emitted x w u → Now s numbers K code w d → Ends s numbers K u (uses.used d) →
        Here s numbers K code class.Output d (PortIs s numbers K K.outputs) ⊎ Here s numbers K code class.Event d (EventIs s numbers K code)
    emitted_here name now ends = by_class (emitted_stands name.known.number name.known.class name.takes_it (means_it role.Emitted x w u d name now ends))
      where
        by_class : Stands s numbers K class.Output name.known.number (PortIs s numbers K K.outputs) ⊎ Stands s numbers K class.Event name.known.number (EventIs s numbers K code) →
            Here s numbers K code class.Output d (PortIs s numbers K K.outputs) ⊎ Here s numbers K code class.Event d (EventIs s numbers K code)
        by_class (inl h) = inl (here_as role.Emitted x w u d name now ends class.Output (PortIs s numbers K K.outputs) h)
        by_class (inr h) = inr (here_as role.Emitted x w u d name now ends class.Event (EventIs s numbers K code) h)

    pub written_here : Used s numbers K code role.Written x w u → Now s numbers K code w d → Ends s numbers K u (uses.used d) → (c : Class) × Here s numbers K code c d HasType
    written_here name now ends =
        let h = written_stands name.known.number name.known.class name.takes_it (means_it role.Written x w u d name now ends) in
        (h.0, here_as role.Written x w u d name now ends h.0 HasType h.1)
