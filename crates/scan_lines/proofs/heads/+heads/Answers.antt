use Rattle.std.proofs.Common.{◌≡◌, ◌++◌, ◌∷◌, [], sym, ap, ◌∙◌, arith, rules}
use Rattle.std.proofs.lemmas.Result.{IfOk-weaker}
use Rattle.scan_values.specs.DataType.{fields_of}
use Rattle.scan_values.specs.FieldLists.{dtypes_of}
use Rattle.scan_lines.proofs.Heading.{fields_sized, element_sized, part_size, parts_struct, parts_more}
use Rattle.scan_lines.proofs.heads.+heads.Goals as goal

pub parts_in-field_parts-requires : goal.parts_in-field_parts-requires
parts_in-field_parts-requires t c = let s = fields_sized c.args.dtype.now (fields_of c.in-Some.fields.now) c.in-Some.ensures in (omega (arith, s), tt)

pub parts_in-returns-in-Some : goal.parts_in-returns-in-Some
parts_in-returns-in-Some t c =
    IfOk-weaker c.field_parts.result _ _ (λ v h. parts_struct c.args.dtype.now c.in-Some.fields.now v.items c.in-Some.ensures h) c.field_parts.ensures

pub element_parts-of-requires : goal.element_parts-of-requires
element_parts-of-requires t c = let s = element_sized c.args.dtype.now c.in-Some.element.now c.in-Some.ensures in (omega (arith, s), tt)

pub field_parts-of-requires : goal.field_parts-of-requires
field_parts-of-requires t c = let s = part_size c.args.fields.now c.loop-i.i c.in-Some.dtype.now c.in-Some.ensures in (omega (arith, s), tt)

pub field_parts-loop-i-preserved : goal.field_parts-loop-i-preserved
field_parts-loop-i-preserved t c =
    let pushed : c.push.new.self.items ≡ c.loop-i.made.items ++ (c.in-Some.dtype.now ∷ []) = search (rules, c.in_ok-push.ensures.items, c.in_ok-of.ensures) in
    parts_more (dtypes_of c.args.fields.now) c.loop-i.i c.in-Some.dtype.now c.loop-i.made.items c.push.new.self.items c.in-Some.ensures c.loop-i.invariant pushed
