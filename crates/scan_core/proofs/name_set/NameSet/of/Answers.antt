use Rattle.std.proofs.Common.{ap, ◌∙◌, arith}
use Rattle.std.proofs.lemmas.Grind.{common_steps}
use Rattle.scan_values.specs.NameFaults.{has_name}
use Rattle.scan_core.proofs.Naming.{none_seen, seen_turn}
use Rattle.scan_core.proofs.name_set.NameSet.of.Goals as goal

pub loop-name-init : goal.loop-name-init
loop-name-init c = λ n. none_seen c.new-seen.result n c.new-seen.ensures.empty

pub loop-name-preserved : goal.loop-name-preserved
loop-name-preserved c =
    seen_turn c.as_slice-name-items.result.now c.loop-name.name-index c.as_str.result c.name-item.result c.loop-name.seen c.insert.new.self
    c.loop-name-test.true c.name-item.is c.as_str.ensures c.in_ok-insert.ensures.updates c.loop-name.invariant

pub invariant_of-result : goal.invariant_of-result
invariant_of-result c = record { held = λ n. c.loop-name.invariant n ∙ ap (has_name n) (grind (arith, common_steps, c.as_slice-name-items.ensures)) }
