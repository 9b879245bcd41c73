use Rattle.std.proofs.Common.{◌≡◌, [], List, ℕ, subst, rules}
use Rattle.scan_lookup_run.specs.Served.{HasServedAll}
use Rattle.scan_lookup_run.proofs.program.session_text.Goals as goal

pub returns-in-Ok-clause-ok : goal.returns-in-Ok-clause-ok
returns-in-Ok-clause-ok g c =
    let none : c.new-text.result.items ≡ [] = search rules in
    λ j s is. subst (λ (xs : List ℕ). HasServedAll j xs c.push_lookups.new.out.items) none (c.in-Ok.ensures.ok j s is)
