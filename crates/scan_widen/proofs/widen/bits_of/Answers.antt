use Rattle.std.proofs.Common.{map, rules}
use Rattle.std.proofs.lemmas.Iterator.{YieldsList-from_slice, YieldsList-from_map_by, items_from_collect}
use Rattle.scan_widen.specs.Slots.{bit}
use Rattle.scan_widen.proofs.widen.bits_of.Goals as goal

pub returns : goal.returns
returns c =
    items_from_collect c.collect.result c.collect.ensures.ran
    (YieldsList-from_map_by _ (λ r. r) bit (YieldsList-from_slice c.args.valid.now cc) c.map.ensures.closure (λ x r q k. search rules))
