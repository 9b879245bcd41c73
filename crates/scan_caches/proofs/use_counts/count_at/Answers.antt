use Rattle.std.proofs.Common.{◌≡◌, Some, ap, sym, subst}
use Rattle.std.specs.Map.{lookup, remove_entry}
use Rattle.scan_segments.specs.Keys.{same_key}
use Rattle.scan_caches.specs.UseOrder.{Indexed}
use Rattle.scan_caches.proofs.UseOrder.{index_kept, kept_where}
use Rattle.scan_caches.proofs.use_counts.count_at.Goals as goal

pub returns-in-Some-clause-indexed : goal.returns-in-Some-clause-indexed
returns-in-Some-clause-indexed g c =
    let known : lookup (same_key c.args.key.now) c.args.uses.now.entries ≡ Some c.in-Some.count = sym c.in-Some.ensures.count in
    let kept = index_kept c.args.uses.now.cap c.args.key.now c.args.uses.now.entries c.args.order.now c.args.pairs.now.entries c.len-count.ensures.valid.1
    c.len-len.ensures.valid.0 c.requires.indexed (kept_where c.args.uses.now.cap c.in-Some.count c.args.key.now c.args.uses.now.entries known) in
    subst (λ us. Indexed us c.args.order.now (remove_entry (same_key c.args.key.now) c.args.pairs.now.entries)) (sym (ap (λ l. l.entries) c.in-Some.ensures.uses)) kept
