use Rattle.std.proofs.Common.{◌≡◌, ◌+◌, refl, rules}
use Rattle.scan_groups.proofs.places.Places.begin.Goals as goal

pub returns : goal.returns
returns c =
    let count : c.in-Some.count ≡ c.args.self.now.count + 1 = search rules in
    record { is = refl; count = count; known = refl; near = refl; at = c.in_ok-insert.ensures.updates.0 }
