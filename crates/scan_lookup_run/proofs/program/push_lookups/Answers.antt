use Rattle.std.proofs.Common.{◌<◌, ◌≤◌, List, ℕ, length, arith, subst}
use Rattle.scan_places.specs.declared.place.Place.{Place}
use Rattle.scan_lookup_run.specs.Runs.{status_of_fault}
use Rattle.scan_lookup_run.specs.Served.{EndsBy, HasServed}
use Rattle.scan_lookup_run.proofs.Serving.{all_served, first_served, one_ended, one_served}
use Rattle.scan_lookup_run.proofs.program.push_lookups.Goals as goal

pub loop-places-init : goal.loop-places-init
loop-places-init g c = λ j s is. first_served j c.args.session.now c.args.lookups.now c.args.out.now.items s

pub loop-places-preserved : goal.loop-places-preserved
loop-places-preserved g c =
    let lists : List (List Place) = c.args.lookups.now in
    let i : ℕ = c.loop-places.places-index in
    let ps : List Place = c.places-item.result in
    let lt : i < length lists = omega (arith, c.loop-places-test.true) in
    let old : List ℕ = c.args.out.now.items in
    let now : List ℕ = c.loop-places.out.items in
    let next : List ℕ = c.push_lookup.new.out.items in
    λ j s is. one_served j c.loop-places.session c.push_lookup.new.session i lists ps old now next lt c.places-item.is (c.loop-places.invariant j s is)
    (λ v. subst (λ (qs : List Place). HasServed j qs c.push_lookup.new.session now next) c.as_slice.ensures (c.in-Ok.ensures.ok j v))

pub returns-in-Err-clause-err : goal.returns-in-Err-clause-err
returns-in-Err-clause-err g c =
    let lists : List (List Place) = c.args.lookups.now in
    let i : ℕ = c.loop-places.places-index in
    let ps : List Place = c.places-item.result in
    let lt : i < length lists = omega (arith, c.loop-places-test.true) in
    let status : ℕ = status_of_fault c.in-Err.fault in
    λ j s is. one_ended j c.loop-places.session i lists ps c.args.out.now.items c.loop-places.out.items status lt c.places-item.is is (c.loop-places.invariant j s is)
    (subst (λ (qs : List Place). EndsBy qs c.loop-places.session status) c.as_slice.ensures c.in-Err.ensures.err)

pub returns-clause-ok : goal.returns-clause-ok
returns-clause-ok g c =
    let lists : List (List Place) = c.args.lookups.now in
    let end : length lists ≤ c.loop-places.places-index = omega (arith, c.loop-places-test.false) in
    λ j s is. all_served j c.loop-places.session c.loop-places.places-index lists c.args.out.now.items c.loop-places.out.items end is (c.loop-places.invariant j s is)
