use Rattle.std.proofs.Common.{arith}
use Rattle.scan_core.proofs.Masking.{path_back}
use Rattle.scan_core.proofs.field_masks.path_to.Goals as goal

pub loop-left-preserved : goal.loop-left-preserved
loop-left-preserved c =
    let within = c.loop-left.invariant.within in
    record {
      within = omega (arith, within);
      made = λ e. path_back c.args.names.now c.loop-left.made.items c.push.new.self.items e c.loop-left.left c.index-names-left.result c.in_ok-try_clone.field-0 (omega arith) within c.index-names-left.is c.in_ok-try_clone.ensures c.in_ok-push.ensures.items c.loop-left.invariant.made;
    }
