use Rattle.std.proofs.Common.{◌≡◌, rules}
use mir.Val.{to_z, of_z}
use mir.Syntax.{w128}
use Rattle.scan_columns.specs.Kept.{numbers_in}
use Rattle.scan_columns.proofs.TypedLemmas.{typed_compare}
use Rattle.scan_columns.proofs.ints.Ints.compare.Goals as goal

pub returns : goal.returns
returns c =
    let back : to_z w128 (of_z w128 c.args.literal) ≡ c.args.literal = search rules in
    rw (c.new.ensures, c.in_ok-values.ensures, back, c.in_ok-valid.ensures.items, c.as_slice.ensures.value, ← c.self.view_is)
    (typed_compare c.args.op c.args.literal (numbers_in c.self.inside.numbers) c.self.inside.valid.items)
