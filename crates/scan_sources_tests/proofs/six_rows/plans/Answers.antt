use Rattle.std.proofs.Common.{ap, ◌∙◌}
use Rattle.scan_plans.specs.PlanData.{plans_of}
use Rattle.scan_sources_tests.proofs.Parting.{of_six}
use Rattle.scan_sources_tests.proofs.six_rows.plans.Goals as goal

pub returns : goal.returns
returns c =
    of_six c.in_ok-new.field-0.value (plans_of c.new.result.items) c.in_ok-projection.projection.value (c.in_ok-new.ensures.ok ∙ c.new-2.ensures) (ap plans_of c.new.ensures.items) c.in_ok-projection.ensures.dtype c.in_ok-projection.ensures.rows
