use Rattle.std.proofs.Common.{◌≡◌, rules}
use mir.Val.{to_z, of_z}
use mir.Syntax.{w128}
use Rattle.scan_values.specs.Val.{int_val}
use Rattle.scan_columns.specs.Kept.{numbers_in}
use Rattle.scan_columns.proofs.KeptLemmas.{typed_at}
use Rattle.scan_columns.proofs.ints.int_slot_at.Goals as goal

pub returns : goal.returns
returns c =
    let back : to_z w128 (of_z w128 c.at.result) ≡ c.at.result = search rules in
    rw (c.int_pair.ensures, back) (typed_at int_val (numbers_in c.args.numbers.now) c.args.valid.now c.args.i c.at.result c.at.ensures c.requires.even)
