use Rattle.std.proofs.Common.{◌++◌, ◌∷◌, [], ap, ◌∙◌, append_assoc}
use Rattle.std.specs.Prelude.{string_bytes}
use Rattle.scan_conditions.proofs.selection.push_dotted.Goals as goal

pub returns : goal.returns
returns c =
    c.in_ok-push_str-2.ensures.bytes
    ∙ (ap (λ t. string_bytes c.push_str.new.self ++ t) c.as_str.ensures
    ∙ (ap (λ t. t ++ c.args.name.now) c.in_ok-push_str.ensures.bytes ∙ append_assoc (string_bytes c.args.text.now) (46 ∷ []) c.args.name.now))
