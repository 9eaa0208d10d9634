use Rattle.std.proofs.Common.{List, ℕ, [], ◌∷◌, ◌++◌, length, map, ap, ◌∙◌, append_assoc}
use Rattle.std.specs.List.{flat_map}
use Rattle.ceu_base.specs.declared.kinds.Ty.{Ty}
use Rattle.ceu_code.specs.Table.{type_byte}
use Rattle.ceu_code.proofs.Writing.{types_put}
use Rattle.ceu_code.proofs.encoding.put_params.Goals as goal

pub returns : goal.returns
returns c =
    c.in_ok-put_items.ensures
    ∙ ap (λ (types : List Ty). c.push.new.self ++ flat_map (λ (t : Ty). type_byte t ∷ []) types) c.items-2.ensures
    ∙ ap (λ (bs : List ℕ). c.push.new.self ++ bs) (types_put c.args.params.now)
    ∙ ap (λ (bs : List ℕ). bs ++ map type_byte c.args.params.now) (c.in_ok-push.ensures.ok ∙ ap (λ (types : List Ty). c.args.out.now ++ (length types ∷ [])) c.items.ensures)
    ∙ append_assoc c.args.out.now (length c.args.params.now ∷ []) (map type_byte c.args.params.now)
