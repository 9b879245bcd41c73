use Rattle.std.proofs.Common.{map, ap, ◌∙◌, ◌++◌, ◌∷◌, []}
use Rattle.scan_conditions.specs.Parts.{part_of}
use Rattle.scan_conditions.proofs.Reading.{selected_first, selected_more}
use Rattle.scan_conditions.proofs.selection.fields_at.Goals as goal

pub commas-init : goal.commas-init
commas-init c =
    selected_first (map part_of c.args.parts.now) c.in_ok-name.begun c.in_ok-name.name c.in_ok-name.field c.in_ok-first.first.names.items c.in_ok-first.first.fields.items c.in_ok-name.ensures
    (c.in_ok-first.ensures.names ∙ ap (λ r. r ++ c.in_ok-name.name ∷ []) c.new-names.ensures.items) (c.in_ok-first.ensures.fields ∙ ap (λ r. r ++ c.in_ok-name.field ∷ []) c.new-fields.ensures.items)

pub commas-preserved : goal.commas-preserved
commas-preserved c =
    selected_more (map part_of c.args.parts.now) c.commas.end c.in_ok-more.next c.in_ok-more.more c.in_ok-more.other c.commas.selected.names.items c.in_ok-longer.longer.names.items c.commas.selected.fields.items
    c.in_ok-longer.longer.fields.items c.commas.invariant (c.is_sign_at.ensures.is c.if-not-is_sign_at.false) c.in_ok-more.ensures c.in_ok-longer.ensures.names c.in_ok-longer.ensures.fields
