use Rattle.std.proofs.Common.{map, ap, ◌∙◌, arith}
use Rattle.scan_values.specs.Values.{val_of}
use Rattle.scan_groups.specs.Order.{are_scalars}
use Rattle.scan_table.proofs.Rowing.{row_added, row_parts}
use Rattle.scan_table.proofs.rows.add_fields.Goals as goal

pub returns : goal.returns
returns c = λ ms rows v h e k.
    let keys = c.args.keys in
    let fields = c.args.fields.items in
    let at = c.min-at.result in
    let small = c.min-at.ensures in
    let parts = row_parts keys v fields at c.split_off.new.self.items c.in_ok-read.read.items e (omega (arith, c.min-at.ensures, c.len.ensures, c.args.fields.ok.0)) c.in_ok-read.ensures.items c.in_ok-read.ensures.tail in
    let key = c.new.ensures ∙ parts.0 in
    let read = ap (map val_of) c.as_slice.ensures.value ∙ parts.1 in
    row_added c.add.result keys ms rows c.new.result (map val_of c.as_slice.result.now) v c.add.new.self key read (c.add.ensures keys ms rows h (ap are_scalars key ∙ k))
