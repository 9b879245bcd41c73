use Rattle.std.proofs.Common.{◌≡◌, rules, Some, None}
use Rattle.std.specs.Map.{lookup}
use Rattle.scan_segments.specs.Keys.{same_key}
use Rattle.scan_caches.specs.UseOrder.{forgotten}
use Rattle.scan_caches.proofs.UseOrder.{index_kept, index_other, index_lost, index_moved, index_same}
use Rattle.scan_caches.proofs.use_counts.place_forgotten.Goals as goal

pub returns-in_default-clause-counted : goal.returns-in_default-clause-counted
returns-in_default-clause-counted g c =
    let none : forgotten c.args.uses.now.cap c.args.key.now c.args.uses.now.entries ≡ None = search rules in
    index_kept c.args.uses.now.cap c.args.key.now c.args.uses.now.entries c.args.order.now c.args.pairs.now.entries c.len-count.ensures.valid.1 c.len-len.ensures.valid.0 c.requires.indexed none

pub returns-in_default-peek-clause-counted : goal.returns-in_default-peek-clause-counted
returns-in_default-peek-clause-counted g c =
    let lost : forgotten c.args.uses.now.cap c.args.key.now c.args.uses.now.entries ≡ Some c.in-Some.lost.now = search rules in
    let none : lookup (same_key c.in-Some.lost.now) c.args.pairs.now.entries ≡ None = search rules in
    index_other c.args.uses.now.cap c.args.key.now c.args.uses.now.entries c.args.order.now c.args.pairs.now.entries c.len-count.ensures.valid.1 c.len-len.ensures.valid.0 c.requires.indexed c.in-Some.lost.now lost none

pub returns-in-Ok-clause-kept : goal.returns-in-Ok-clause-kept
returns-in-Ok-clause-kept g c =
    let lost : forgotten c.args.uses.now.cap c.args.key.now c.args.uses.now.entries ≡ Some c.in-Some.lost.now = search rules in
    let there : lookup (same_key c.in-Some.lost.now) c.args.pairs.now.entries ≡ Some c.in-Some-peek.held.now = search rules in
    index_lost c.args.uses.now.cap c.args.key.now c.args.uses.now.entries c.args.order.now c.args.pairs.now.entries c.len-count.ensures.valid.1
    c.len-len.ensures.valid.0 c.requires.indexed c.requires.fall.0 c.requires.fall.1 c.insert.new.self c.in-Some.lost.now c.in_ok-try_clone.field-0
    c.in-Some-peek.held.now lost there c.in_ok-try_clone.ensures c.in-Ok.ensures.updates

pub returns-in-Ok-clause-counted : goal.returns-in-Ok-clause-counted
returns-in-Ok-clause-counted g c =
    let lost : forgotten c.args.uses.now.cap c.args.key.now c.args.uses.now.entries ≡ Some c.in-Some.lost.now = search rules in
    let there : lookup (same_key c.in-Some.lost.now) c.args.pairs.now.entries ≡ Some c.in-Some-peek.held.now = search rules in
    index_moved c.args.uses.now.cap c.args.key.now c.args.uses.now.entries c.args.order.now c.args.pairs.now.entries c.len-count.ensures.valid.1
    c.len-len.ensures.valid.0 c.requires.indexed c.requires.fall.0 c.requires.fall.1 c.insert.new.self c.in-Some.lost.now c.in_ok-try_clone.field-0
    c.in-Some-peek.held.now lost there c.in_ok-try_clone.ensures c.in-Ok.ensures.updates c.len-count.ensures.valid.0

pub returns-clause-kept : goal.returns-clause-kept
returns-clause-kept g c = index_same c.args.uses.now.entries c.args.order.now c.insert.new.self c.args.pairs.now.entries c.in-Err.ensures.err c.requires.indexed
