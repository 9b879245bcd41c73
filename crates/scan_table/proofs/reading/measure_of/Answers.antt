use Rattle.std.proofs.Common.{rules}
use Rattle.scan_manifest.proofs.Lists.{parse_same}
use Rattle.scan_table.proofs.Parsing.{count_pair, long_measure, over_three, short_measure}
use Rattle.scan_table.proofs.reading.measure_of.Goals.{in_default-via-then-items-lt2, in_default-via-else-items-lt2+else-items-lt3+else-items-lt4}
use Rattle.scan_table.proofs.reading.measure_of.Goals as goal

pub returns-in-len2 : goal.returns-in-len2
returns-in-len2 c =
    parse_same _ _ c.named_count.result (count_pair c.args.items.now c.name-item.result c.kind-item.result c.in-len2.len_at_least c.in-len2.len_below c.name-item.is c.kind-item.is) c.named_count.ensures

pub returns-in-len3 : goal.returns-in-len3
returns-in-len3 c =
    parse_same _ _ c.named_over.result
    (over_three c.args.items.now c.name-item-then-items-lt4.result c.kind-item-then-items-lt4.result c.part-item.result c.in-len3.len_at_least c.in-len3.len_below c.name-item-then-items-lt4.is c.kind-item-then-items-lt4.is c.part-item.is) c.named_over.ensures

pub returns-in_default : goal.returns-in_default
returns-in_default c = elim c.in_default.branch [
  | in_default-via-then-items-lt2 w ↦ short_measure c.args.items.now (search rules)
  | in_default-via-else-items-lt2+else-items-lt3+else-items-lt4 w ↦ long_measure c.args.items.now (search rules)
]
