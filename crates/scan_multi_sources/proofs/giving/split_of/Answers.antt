use Rattle.std.proofs.Common.{◌≡◌, ◌-◌, ℕ, rules, sym, subst}
use Rattle.std.specs.declared.ops.Range.{Range}
use Rattle.scan_streams.specs.Grants.{HasRoom}
use Rattle.scan_multi_sources.specs.Partitions.{part_rows}
use Rattle.scan_multi_sources.proofs.Parting.{made_part, split_is}
use Rattle.scan_multi_sources.proofs.giving.split_of.Goals as goal

pub claims_of-requires : goal.claims_of-requires
claims_of-requires c =
    let rows : c.range_or_all-rows.result ≡ part_rows c.args.request.now c.args.layout.now.value = search rules in
    subst (λ (z : Range ℕ). HasRoom c.args.shared.now (z.end - z.start)) (sym rows) c.requires.room

pub new-requires : goal.new-requires
new-requires c =
    let rows : c.range_or_all-rows.result ≡ part_rows c.args.request.now c.args.layout.now.value = search rules in
    split_is c.args.request.now c.args.layout.now.value c.args.shared.now c.in_ok-claims.claims c.in_ok-all.all c.in_ok-scan.scan c.own_limit.result c.range_or_all-rows.result c.in_ok-all.ensures c.in_ok-scan.ensures.made c.own_limit.ensures rows c.in_ok-claims.ensures.0 c.requires.range c.in_ok-scan.ensures.stands

pub returns : goal.returns
returns c =
    let rows : c.range_or_all-rows.result ≡ part_rows c.args.request.now c.args.layout.now.value = search rules in
    made_part c.args.request.now c.args.layout.now.value c.args.shared.now c.in_ok-claims.claims c.in_ok-all.all c.in_ok-scan.scan c.own_limit.result c.range_or_all-rows.result c.in_ok-all.ensures
    c.in_ok-scan.ensures.made c.own_limit.ensures rows c.in_ok-claims.ensures.0 c.new.result c.claims_of.new.limit c.new.ensures c.in_ok-claims.ensures.1
