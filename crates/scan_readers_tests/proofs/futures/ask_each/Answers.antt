use denote.Param.Send.{sendable}
use Rattle.scan_plans.proofs.PlansSent.{ArrayFuture-send}
use Rattle.scan_readers_tests.proofs.futures.ask_each.Goals as goal

pub for_each_mut-requires-send-T : goal.for_each_mut-requires-send-T
for_each_mut-requires-send-T g c κs within = let a = ArrayFuture-send in search sendable depth 40
