use Rattle.std.proofs.Common.{◌≡◌, ◌≤◌, ◌+◌, ◌∙◌, false, is_some, rules, Some, sym, ap, subst, arith, true}
use Rattle.std.specs.Prelude.{option_map}
use Rattle.std.specs.Map.{lookup}
use Rattle.scan_segments.specs.Keys.{same_key}
use Rattle.scan_caches.specs.UseOrder.{Indexed, behind}
use Rattle.scan_caches.proofs.Plain.{plain-lookup}
use Rattle.scan_caches.proofs.UseOrder.{absent_now, brought, index_left, fall_more, fall_front}
use Rattle.scan_caches.proofs.use_counts.use_key.Goals as goal

pub drop_place-requires : goal.drop_place-requires
drop_place-requires g c =
    let none : is_some (lookup (same_key c.args.key.now) c.args.pairs.now.entries) ≡ false = search rules in
    let a = absent_now c.args.key.now c.args.pairs.now.entries none in
    subst (λ es. Indexed c.count_at.new.uses.entries c.count_at.new.order es) a.0 c.in_ok-stale.ensures.indexed

pub returns-in_default-clause-value : goal.returns-in_default-clause-value
returns-in_default-clause-value g c =
    let none : is_some (lookup (same_key c.args.key.now) c.args.pairs.now.entries) ≡ false = search rules in
    let a = absent_now c.args.key.now c.args.pairs.now.entries none in
    a.1

pub returns-in_default-clause-pairs : goal.returns-in_default-clause-pairs
returns-in_default-clause-pairs g c =
    let none : is_some (lookup (same_key c.args.key.now) c.args.pairs.now.entries) ≡ false = search rules in
    let a = absent_now c.args.key.now c.args.pairs.now.entries none in
    a.2

pub returns-in_default-clause-fall : goal.returns-in_default-clause-fall
returns-in_default-clause-fall g c = let more : c.args.tick ≤ c.args.tick + 1 = omega arith in fall_more c.args.tick (c.args.tick + 1) c.args.pairs.now.entries more c.requires.fall

pub drop_place-requires-2 : goal.drop_place-requires-2
drop_place-requires-2 g c =
    let there : lookup (same_key c.args.key.now) c.args.pairs.now.entries ≡ Some c.in-Some.held.now = search rules in
    let b = brought c.args.pairs.now c.bring_front.new.pairs c.args.key.now c.in_ok-own.own c.in_ok-try_clone.field-0 c.args.tick c.in-Some.held.now there c.in_ok-own.ensures c.in_ok-try_clone.ensures c.bring_front.ensures in
    let left = index_left c.count_at-2.new.uses.entries c.count_at-2.new.order c.remove.new.self c.args.pairs.now.entries c.args.tick _ c.args.key.now c.in-Some.held.now c.requires.fall there c.remove.ensures.updates c.in_ok-count.ensures.indexed in
    subst (λ es. Indexed c.count_at-2.new.uses.entries c.remove.new.self es) (sym (ap (behind true) b.0)) left

pub returns-clause-value : goal.returns-clause-value
returns-clause-value g c =
    let there : lookup (same_key c.args.key.now) c.args.pairs.now.entries ≡ Some c.in-Some.held.now = search rules in
    ap Some c.in_ok-bytes.ensures ∙ sym (plain-lookup (same_key c.args.key.now) c.args.pairs.now.entries ∙ ap (option_map (λ h. h.bytes)) there)

pub returns-clause-pairs : goal.returns-clause-pairs
returns-clause-pairs g c =
    let there : lookup (same_key c.args.key.now) c.args.pairs.now.entries ≡ Some c.in-Some.held.now = search rules in
    let b = brought c.args.pairs.now c.bring_front.new.pairs c.args.key.now c.in_ok-own.own c.in_ok-try_clone.field-0 c.args.tick c.in-Some.held.now there c.in_ok-own.ensures c.in_ok-try_clone.ensures c.bring_front.ensures in
    b.1

pub returns-clause-fall : goal.returns-clause-fall
returns-clause-fall g c =
    let there : lookup (same_key c.args.key.now) c.args.pairs.now.entries ≡ Some c.in-Some.held.now = search rules in
    let b = brought c.args.pairs.now c.bring_front.new.pairs c.args.key.now c.in_ok-own.own c.in_ok-try_clone.field-0 c.args.tick c.in-Some.held.now there c.in_ok-own.ensures c.in_ok-try_clone.ensures c.bring_front.ensures in
    fall_front c.args.tick c.args.key.now c.in_ok-try_clone.field-0 c.args.pairs.now.entries c.bring_front.new.pairs.entries b.0 c.requires.fall
