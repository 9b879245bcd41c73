use Rattle.std.proofs.Common.{rules}
use Rattle.scan_manifest.proofs.Lists.{parse_same}
use Rattle.scan_table.proofs.Parsing.{key_pair, long_key, short_key}
use Rattle.scan_table.proofs.reading.key_of.Goals.{in_default-via-then-items-lt2, in_default-via-else-items-lt2+else-items-lt3}
use Rattle.scan_table.proofs.reading.key_of.Goals as goal

pub returns-in-len2 : goal.returns-in-len2
returns-in-len2 c =
    parse_same _ _ c.named_part.result (key_pair c.args.items.now c.name-item.result c.part-item.result c.in-len2.len_at_least c.in-len2.len_below c.name-item.is c.part-item.is) c.named_part.ensures

pub returns-in_default : goal.returns-in_default
returns-in_default c = elim c.in_default.branch [
  | in_default-via-then-items-lt2 w ↦ short_key c.args.items.now (search rules)
  | in_default-via-else-items-lt2+else-items-lt3 w ↦ long_key c.args.items.now (search rules)
]
