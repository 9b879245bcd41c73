use Rattle.std.proofs.Common.{rules, arith}
use Rattle.scan_expr.proofs.Falling.{parts_of_pack_fall}
use Rattle.scan_expr.proofs.+expression.Goals as goal

pub expression::Node::drop-drop-self-requires-in-Pack-2 : goal.expression::Node::drop-drop-self-requires-in-Pack-2
expression::Node::drop-drop-self-requires-in-Pack-2 t c κs =
    let d = c.self-in-Pack-1 in
    (((grind (arith, parts_of_pack_fall d.given.0.0 d.given.0.1.0 d.given.0.1.1.0), tt), tt), search rules)
