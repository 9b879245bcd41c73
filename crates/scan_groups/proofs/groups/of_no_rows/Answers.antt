use Rattle.std.proofs.Common.{◌≡◌, [], List, subst, cond, arith, rules}
use Rattle.std.specs.Prelude.{Some}
use Rattle.std.specs.BTreeMap.{is_at}
use Rattle.scan_values.specs.Val.{Val}
use Rattle.scan_groups.specs.Order.{key_cmp}
use Rattle.scan_groups.specs.Places.{place_of}
use Rattle.scan_groups.proofs.Placing.{no_places, one_place, nothing_at}
use Rattle.scan_groups.proofs.groups.of_no_rows.Goals as goal

pub returns-then-keys-gt0 : goal.returns-then-keys-gt0
returns-then-keys-gt0 c = let e = c.new-places.ensures in no_places c.args.keys c.new-places.result (e.keys, e.count, e.known, e.near) c.if-keys-gt0.true

pub begin-requires : goal.begin-requires
begin-requires c = nothing_at c.new-places.result c.new-3.result c.new-places.ensures.keys

pub returns : goal.returns
returns c =
    let e = c.new-places.ensures in
    let old = c.new-places.result in
    let new = c.begin.new.self in
    let b = c.in_ok-begin.ensures in
    let empty : c.new-3.result ≡ [] = search rules in
    one_place c.args.keys old new (e.keys, e.count, e.known, e.near) (omega (arith, c.if-keys-gt0.false)) b.count b.known b.near
    (subst (λ (k : List Val). (q : List Val) → place_of new q ≡ cond (is_at (key_cmp k) q) (Some old.count) (place_of old q)) empty b.at)
