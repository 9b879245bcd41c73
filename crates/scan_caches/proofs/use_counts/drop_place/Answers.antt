use Rattle.std.proofs.Common.{◌≡◌, false, rules, Some}
use Rattle.std.specs.BTreeMap.{get}
use Rattle.scan_caches.specs.UseOrder.{behind, is_place, place_cmp}
use Rattle.scan_caches.proofs.UseOrder.{index_passed, in_behind}
use Rattle.scan_caches.proofs.use_counts.drop_place.Goals as goal

pub returns : goal.returns
returns g c =
    let at : get place_cmp c.args.order.now c.in-Some.place ≡ Some c.in-Some-get.key.now = search rules in
    let stale : is_place c.args.uses.now.entries c.args.pairs.now.entries c.in-Some.place c.in-Some-get.key.now ≡ false = search rules in
    index_passed c.args.uses.now.entries c.args.order.now c.remove.new.self c.args.pairs.now.entries
    (behind c.args.fresh c.args.pairs.now.entries) c.in-Some.place c.in-Some-get.key.now c.len-len.ensures.valid.0
    (in_behind c.args.fresh c.args.pairs.now.entries) at stale c.remove.ensures.updates c.requires
