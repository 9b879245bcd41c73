use Rattle.std.proofs.Common.{◌≡◌, ◌+◌, Some, ap, rules}
use Rattle.std.specs.Prelude.{min}
use Rattle.std.specs.Map.{lookup}
use Rattle.lru.specs.LruCache.{lru_cache}
use Rattle.scan_segments.specs.Keys.{same_key}
use Rattle.scan_caches.proofs.UseOrder.{again_is}
use Rattle.scan_caches.proofs.use_counts.count_again.Goals as goal

pub returns-clause-uses : goal.returns-clause-uses
returns-clause-uses g c =
    let at : lookup (same_key c.args.key.now) c.args.uses.now.entries ≡ Some c.in_ok-count.count.now = search rules in
    let more : c.saturating_add.result ≡ min (c.in_ok-count.count.now + 1) 18446744073709551615 = search rules in
    ap (λ es. lru_cache es c.args.uses.now.cap)
    (again_is c.args.uses.now.cap c.in_ok-count.count.now c.saturating_add.result c.args.key.now c.args.uses.now.entries at more)
