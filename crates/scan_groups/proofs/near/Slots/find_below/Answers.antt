use Rattle.std.proofs.Common.{◌≡◌, subst, rules}
use mir.Val.{to_z, of_z}
use mir.Syntax.{w64}
use Rattle.scan_groups.specs.Near.{IsAt}
use Rattle.scan_groups.proofs.near.Slots.find_below.Goals as goal

pub returns-then-place-end-clause-at : goal.returns-then-place-end-clause-at
returns-then-place-end-clause-at c = λ m all.
    let read : to_z w64 (of_z w64 c.args.number) ≡ c.args.number = search rules in
    subst (λ z. IsAt m (record { number = z; place = c.in-Some.place })) read (c.in-Some.ensures m all)
