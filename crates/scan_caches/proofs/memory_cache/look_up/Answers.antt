use Rattle.std.proofs.Common.{◌≡◌, None, Some, ◌∙◌, rules}
use Rattle.std.specs.BTreeMap.{is_at}
use Rattle.std.specs.Map.{lookup}
use Rattle.scan_caches.proofs.KeyOrder.{key_cmp, at_is}
use Rattle.scan_caches.proofs.memory_cache.look_up.Goals as goal

pub returns-in-Ok : goal.returns-in-Ok
returns-in-Ok c =
    let none : lookup (is_at (key_cmp c.args.key.now)) c.args.entries.now.entries ≡ None = search rules in
    (at_is c.args.entries.now.entries c.args.key.now ∙ none, c.in-Ok.ensures.ok)

pub returns-in-Ok-note_found : goal.returns-in-Ok-note_found
returns-in-Ok-note_found c =
    let there : lookup (is_at (key_cmp c.args.key.now)) c.args.entries.now.entries ≡ Some c.in-Ok-try_clone.buffer = search rules in
    (at_is c.args.entries.now.entries c.args.key.now ∙ there, c.in-Ok-note_found.ensures.ok)
