use Rattle.std.proofs.lemmas.Result.{IfOk-weaker}
use Rattle.scan_run.specs.Generated.{values}
use Rattle.scan_run.proofs.Valuing.{value_again}
use Rattle.scan_run.proofs.generate.segments.value_segment.Goals as goal

pub returns : goal.returns
returns c =
    let vs = values c.args.first c.args.count in
    let bytes = c.in_ok-bytes.bytes.items in
    IfOk-weaker c.respelled.result _ _ (λ v h. h vs (value_again c.args.first c.args.count bytes c.in_ok-bytes.ensures.bytes c.in_ok-bytes.ensures.same) c.in_ok-bytes.ensures.same) c.respelled.ensures
