use Rattle.std.proofs.Common.{◌≡◌, subst, rules, true, Some, slice_get}
use Rattle.scan_caches.specs.UseOrder.{Indexed, behind}
use Rattle.scan_caches.proofs.UseOrder.{index_front, index_same}
use Rattle.scan_caches.proofs.use_counts.place_front.Goals as goal

pub returns-in-Ok-clause-ok : goal.returns-in-Ok-clause-ok
returns-in-Ok-clause-ok g c =
    let fresh : c.args.fresh ≡ true = search rules in
    let front : slice_get c.args.pairs.now.entries 0 ≡ Some (c.in-Some.key.now, c.in-Some.held.now) = search rules in
    index_front c.args.uses.now.entries c.args.order.now c.insert.new.self c.args.pairs.now.entries c.requires.fall.0 c.in-Some.key.now c.in-Some.held.now c.count_of.result c.in_ok-try_clone.field-0 c.requires.fall.1 front
    (subst (λ b. Indexed c.args.uses.now.entries c.args.order.now (behind b c.args.pairs.now.entries)) fresh c.requires.behind) c.count_of.ensures c.in_ok-try_clone.ensures c.in-Ok.ensures.updates

pub returns-clause-err : goal.returns-clause-err
returns-clause-err g c = index_same c.args.uses.now.entries c.args.order.now c.insert.new.self (behind c.args.fresh c.args.pairs.now.entries) c.in-Err.ensures.err c.requires.behind
