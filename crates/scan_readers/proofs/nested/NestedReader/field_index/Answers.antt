use Rattle.std.proofs.Common.{rules, arith, ◌≡◌, ◌+◌, ◌<◌, length, Some, None, ap, ◌∙◌}
use Rattle.scan_values.specs.DataType.{nullability_of}
use Rattle.scan_layout.specs.Layout.{dtype_of}
use Rattle.scan_layout.specs.Slots.{one_where}
use Rattle.scan_readers.proofs.Making.{place_seen, place_small, few}
use Rattle.scan_readers.proofs.nested.NestedReader.field_index.Goals as goal

pub overflow_add-result : goal.overflow_add-result
overflow_add-result c =
    let small : c.in-Some-find.place < length c.in-Some.fields.now = place_small c.in-Some.fields.now c.args.name.now c.in-Some-find.place c.in-Some-find.ensures in
    let one = few (nullability_of (dtype_of c.args.self.now.layout)) in
    omega (arith, small, one, c.first_field.ensures, c.nfields-count.ensures, c.nfields-count.type_inv)

pub returns-in-Some-find : goal.returns-in-Some-find
returns-in-Some-find c =
    let own : c.dtype.result.now ≡ dtype_of c.args.self.now.layout = search rules in
    ap (λ z. z + c.in-Some-find.place) c.first_field.ensures ∙ place_seen (one_where (nullability_of (dtype_of c.args.self.now.layout))) (dtype_of c.args.self.now.layout) c.dtype.result.now c.in-Some.fields.now c.args.name.now (Some c.in-Some-find.place) c.in-Some.ensures own c.in-Some-find.ensures

pub returns-in-None-find : goal.returns-in-None-find
returns-in-None-find c =
    let own : c.dtype.result.now ≡ dtype_of c.args.self.now.layout = search rules in
    place_seen (one_where (nullability_of (dtype_of c.args.self.now.layout))) (dtype_of c.args.self.now.layout) c.dtype.result.now c.in-Some.fields.now c.args.name.now None c.in-Some.ensures own c.in-None-find.ensures
