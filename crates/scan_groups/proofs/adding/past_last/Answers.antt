use Rattle.std.proofs.Common.{◌≡◌, ◌<◌, ◌+◌, length, arith, rules}
use Rattle.scan_groups.proofs.Added.{all_below, none_below, some_below}
use Rattle.scan_groups.proofs.adding.past_last.Goals as goal

pub returns-then-is_empty-clause-past : goal.returns-then-is_empty-clause-past
returns-then-is_empty-clause-past c =
    let none : length c.args.places.now ≡ 0 = search rules in
    none_below c.args.places.now 0 none

pub returns-in-Some-clause-past : goal.returns-in-Some-clause-past
returns-in-Some-clause-past c =
    let is : c.in-Some.end ≡ c.last_of.result + 1 = search rules in
    all_below c.args.places.now c.last_of.result c.in-Some.end is c.last_of.ensures.past

pub returns-in-Some-clause-least : goal.returns-in-Some-clause-least
returns-in-Some-clause-least c = λ n h.
    let is : c.in-Some.end ≡ c.last_of.result + 1 = search rules in
    let more : 0 < length c.args.places.now = search rules in
    let l = c.last_of.ensures.least n (some_below c.args.places.now n more h) h in
    omega (arith, is, l)
