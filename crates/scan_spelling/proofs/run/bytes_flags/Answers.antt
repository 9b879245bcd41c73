use Rattle.std.proofs.Common.{map, rules}
use Rattle.std.proofs.lemmas.Iterator.{YieldsList-from_slice, YieldsList-from_map_by, items_from_collect}
use Rattle.scan_spelling.specs.Spelling.{byte_bits}
use Rattle.scan_spelling.specs.LeafColumns.{is_set}
use Rattle.scan_spelling.proofs.run.bytes_flags.Goals as goal

pub returns : goal.returns
returns c =
    items_from_collect c.collect.result c.collect.ensures.ran
    (YieldsList-from_map_by _ (λ r. r) (λ b. map is_set (byte_bits b)) (YieldsList-from_slice c.args.bytes.now cc) c.map.ensures.closure (λ x r q k. search rules))
