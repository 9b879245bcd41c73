use Rattle.std.proofs.Common.{◌≡◌, ◌&&◌, ◌∙◌, true, false, is_some, rules, ap, sym}
use Rattle.std.specs.Map.{lookup}
use Rattle.scan_segments.specs.Keys.{same_key}
use Rattle.scan_caches.specs.Bounded.{is_least}
use Rattle.scan_caches.specs.UseOrder.{plain}
use Rattle.scan_caches.proofs.UseOrder.{rare_there, rare_none}
use Rattle.scan_caches.proofs.bounded.is_rare.Goals as goal

pub returns-then-known-clause-rare : goal.returns-then-known-clause-rare
returns-then-known-clause-rare g c =
    let there : is_some (lookup (same_key c.args.key.now) c.args.pairs.now.entries) ≡ true = search rules in
    rare_there (same_key c.args.key.now) c.args.pairs.now.entries c.args.full (is_least c.args.uses.now.entries c.args.key.now (plain c.args.pairs.now.entries)) there

pub returns-then-not-full-clause-rare : goal.returns-then-not-full-clause-rare
returns-then-not-full-clause-rare g c =
    let none : is_some (lookup (same_key c.args.key.now) c.args.pairs.now.entries) ≡ false = search rules in
    let full : c.args.full ≡ false = search rules in
    sym (ap (λ b. b && is_least c.args.uses.now.entries c.args.key.now (plain c.args.pairs.now.entries)) full) ∙ rare_none (same_key c.args.key.now) c.args.pairs.now.entries c.args.full (is_least c.args.uses.now.entries c.args.key.now (plain c.args.pairs.now.entries)) none

pub returns-clause-rare : goal.returns-clause-rare
returns-clause-rare g c =
    let none : is_some (lookup (same_key c.args.key.now) c.args.pairs.now.entries) ≡ false = search rules in
    let full : c.args.full ≡ true = search rules in
    c.is_least.ensures.least ∙ sym (ap (λ b. b && is_least c.args.uses.now.entries c.args.key.now (plain c.args.pairs.now.entries)) full) ∙ rare_none (same_key c.args.key.now) c.args.pairs.now.entries c.args.full (is_least c.args.uses.now.entries c.args.key.now (plain c.args.pairs.now.entries)) none
