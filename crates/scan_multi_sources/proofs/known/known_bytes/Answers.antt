use Rattle.std.proofs.Common.{◌≡◌, ap, ◌∙◌, arith, map}
use Rattle.scan_multi_sources.specs.ChildView.{child_data}
use Rattle.scan_multi_sources.specs.Children.{child_bytes}
use Rattle.scan_multi_sources.specs.declared.known.Known.{Known}
use Rattle.scan_multi_sources.proofs.Counting.{added, from_none}
use Rattle.scan_multi_sources.proofs.known.known_bytes.Goals as goal

pub loop-child-init : goal.loop-child-init
loop-child-init g c =
    let os = map child_bytes (map child_data c.args.children.now) in
    let none = c.none_known-known.ensures in
    let zero : c.none_known-known.result.count ≡ 0 = ap (λ (k : Known). k.count) none in
    record { count = omega (arith, zero); same = ap (λ (k : Known). added k os) none ∙ from_none os }
