use Rattle.std.proofs.Common.{rules}
use Rattle.std.proofs.lemmas.Iterator.{YieldsList-from_slice, YieldsList-from_map_by}
use Rattle.std.proofs.lemmas.Iterator.Consumers.{map_from_collect}
use Rattle.scan_values.specs.Values.{val_of}
use Rattle.scan_values.specs.Val.{int_val}
use Rattle.scan_columns.proofs.ints.full_values.Goals as goal

pub returns : goal.returns
returns c =
    map_from_collect c.collect.result c.collect.ensures.ran
    (YieldsList-from_map_by _ val_of int_val (YieldsList-from_slice c.args.numbers.now cc) c.map.ensures.closure (λ x r q k. search rules))
