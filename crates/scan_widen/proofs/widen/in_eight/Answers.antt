use Rattle.std.proofs.Common.{map, rules}
use Rattle.std.proofs.lemmas.Iterator.{YieldsList-from_slice, YieldsList-from_map_by, items_from_collect}
use Rattle.scan_values.specs.declared.ptype.PType.TheVariants.{I64}
use Rattle.scan_spelling.specs.Written.{int_bytes}
use Rattle.scan_widen.proofs.widen.in_eight.Goals as goal

pub returns : goal.returns
returns c =
    items_from_collect c.collect.result c.collect.ensures.ran
    (YieldsList-from_map_by _ (λ r. r) (int_bytes I64) (YieldsList-from_slice c.args.numbers.now cc) c.map.ensures.closure (λ x r q k. search rules))
