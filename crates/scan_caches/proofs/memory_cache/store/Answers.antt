use Rattle.std.proofs.Common.{Some, cond, ◌∙◌}
use Rattle.std.specs.BTreeMap.{is_at}
use Rattle.std.specs.Map.{lookup}
use Rattle.scan_caches.proofs.KeyOrder.{key_cmp, at_put}
use Rattle.scan_caches.proofs.memory_cache.store.Goals as goal

pub returns-in-Ok-clause-entries : goal.returns-in-Ok-clause-entries
returns-in-Ok-clause-entries c =
    at_put c.args.key.now (Some c.args.buffer.now) c.args.entries.now.entries c.insert.new.self.entries
    (λ q. c.in-Ok.ensures.updates.0 q ∙ (λ i. cond (is_at (key_cmp (c.in_ok-stored.ensures i)) q) (Some (c.in_ok-buffer.ensures i)) (lookup (is_at (key_cmp q)) c.args.entries.now.entries)))
