use Rattle.std.proofs.Common.{rules}
use Rattle.scan_manifest.proofs.Lists.{parse_same}
use Rattle.scan_lookup_run.proofs.Parsing.{long_place, place_pair, short_place}
use Rattle.scan_lookup_run.proofs.reading.place_of.Goals as goal

pub returns-in-len2 : goal.returns-in-len2
returns-in-len2 c =
    parse_same _ _ c.place_at.result (place_pair c.args.items.now c.file-item.result c.row-item.result c.in-len2.len_at_least c.in-len2.len_below c.file-item.is c.row-item.is) c.place_at.ensures

pub returns-in_default : goal.returns-in_default
returns-in_default c = short_place c.args.items.now (search rules)

pub returns-in_default-2 : goal.returns-in_default-2
returns-in_default-2 c = long_place c.args.items.now (search rules)
