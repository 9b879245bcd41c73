use Rattle.std.proofs.Common.{◌≡◌, map, ap, ◌∙◌}
use Rattle.scan_groups.specs.Running.{made_of}
use Rattle.scan_groups.proofs.Whole.{finished, stopped}
use Rattle.scan_groups.proofs.groups.Groups.into_groups.Goals as goal

pub returns-in-Some-clause-err : goal.returns-in-Some-clause-err
returns-in-Some-clause-err c = λ keys ms rows h. stopped keys ms rows c.args.self c.in-Some.measure c.len-count.ensures.ordered h c.in-Some.ensures.0 c.in-Some.ensures.1

pub returns-clause-ok : goal.returns-clause-ok
returns-clause-ok c =
    let g = c.args.self in
    let made : c.in_ok-groups_of.field-0.items ≡ map (made_of g.tallies.items) g.places.keys.entries =
    c.in_ok-groups_of.ensures ∙ ap (λ ts. map (made_of ts) c.into_keys.result.entries) c.deref.ensures.value ∙ ap (λ m. map (made_of g.tallies.items) m.entries) c.into_keys.ensures in
    λ keys ms rows h. finished keys ms rows g c.in_ok-groups_of.field-0.items c.len-count.ensures.ordered h c.in_default.ensures made
