use Rattle.std.proofs.Common.{◌≡◌, Some, ap, ◌∙◌, sym, rules, subst}
use Rattle.std.specs.Prelude.{IfOk}
use mir.Val.{of_z, to_z}
use mir.Syntax.{w128}
use Rattle.scan_conditions.specs.Reads.{said_of}
use Rattle.scan_conditions.specs.Written.{Said, joined_said, untyped}
use Rattle.scan_conditions.proofs.operand.join.Goals as goal

pub returns-in-Typed : goal.returns-in-Typed
returns-in-Typed c =
    subst (λ (x : Said). IfOk c.join_behind.result (λ o. joined_said c.args.rows.now c.args.op x (said_of c.args.second) ≡ Some (said_of o))) (sym (ap said_of c.in-Typed.is)) c.join_behind.ensures

pub returns-in-Number : goal.returns-in-Number
returns-in-Number c =
    let n = c.in-Number.number in
    let back : to_z w128 (of_z w128 n) ≡ n = search rules in
    subst (λ (x : Said). IfOk c.join_before.result (λ o. joined_said c.args.rows.now c.args.op x (said_of c.args.second) ≡ Some (said_of o))) (ap untyped back ∙ sym (ap said_of c.in-Number.is)) c.join_before.ensures
