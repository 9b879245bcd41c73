use Rattle.std.proofs.Common.{◌≡◌, Ok, Err, List, sym, ap, ◌∙◌, rules, arith}
use Rattle.scan_expr.specs.Bound.{bound_unless}
use Rattle.scan_expr.specs.Expr.{Expr, pack, parts_of}
use Rattle.scan_expr.specs.Typing.{nodes_fault}
use Rattle.scan_expr.specs.Nodes.{expr_of}
use Rattle.scan_expr.proofs.Binds.{is_bound, unary_bound, binary_bound, bind_stop, bind_done, pack_bound, pack_stopped}
use Rattle.scan_expr.proofs.expression.Expression.+bind_node.Goals as goal

pub returns-in_err-bind_node-in-Pack : goal.returns-in_err-bind_node-in-Pack
returns-in_err-bind_node-in-Pack t c = λ ne.
    let s = c.args.scope.now.value in
    let es = c.deref-part-items.result.now in
    let f = c.in_err-bind_node-in-Pack.field-0.0 in
    let is : c.from_residual-in_err-bind_node-in-Pack.result ≡ Err f = search rules in
    let known = c.in_err-bind_node-in-Pack.ensures (λ e. ne (is ∙ e)) in
    let stop = bind_stop s es c.loop-part.part-index c.part-item.result f c.loop-part.bound.items (omega arith) c.part-item.is known c.loop-part.invariant in
    let self : pack (parts_of c.in-Pack.names es) c.in-Pack.n ≡ c.args.self.now =
    ap (λ (es : List Expr). pack (parts_of c.in-Pack.names es) c.in-Pack.n) c.deref-part-items.ensures.value ∙ sym (ap expr_of c.in-Pack.is) ∙ c.self.view_is in
    is ∙ pack_stopped s c.in-Pack.names es c.in-Pack.n f stop ∙ ap (λ (e : Expr). bound_unless (nodes_fault s e) s e) self

pub bind_pack-requires-clause-scopes : goal.bind_pack-requires-clause-scopes
bind_pack-requires-clause-scopes t c =
    (bind_done c.args.scope.now.value c.deref-part-items.result.now c.loop-part.part-index c.loop-part.bound.items c.loop-part-test.false c.loop-part.invariant).scopes

pub returns-in_ok-child-in-Unary : goal.returns-in_ok-child-in-Unary
returns-in_ok-child-in-Unary t c = λ ne.
    let s = c.args.scope.now.value in
    let e = c.in-Unary.e.value in
    let known : Ok c.in_ok-child-in-Unary.child ≡ bound_unless (nodes_fault s e) s e = c.in_ok-child-in-Unary.ensures (λ x. cc) ∙ ap (λ (e : Expr). bound_unless (nodes_fault s e) s e) c.deref.ensures in
    c.bind_unary.ensures ne
    ∙ unary_bound s e c.in-Unary.op c.in_ok-child-in-Unary.child (is_bound (nodes_fault s e) s e c.in_ok-child-in-Unary.child known)
    ∙ ap (λ (e : Expr). bound_unless (nodes_fault s e) s e) (sym (ap expr_of c.in-Unary.is) ∙ c.self.view_is)

pub returns-in_ok-second-in-Binary : goal.returns-in_ok-second-in-Binary
returns-in_ok-second-in-Binary t c = λ ne.
    let s = c.args.scope.now.value in
    let x = c.in-Binary.a.value in
    let y = c.in-Binary.b.value in
    let a = c.in_ok-first-in-Binary.first in
    let b = c.in_ok-second-in-Binary.second in
    let known : Ok a ≡ bound_unless (nodes_fault s x) s x = c.in_ok-first-in-Binary.ensures (λ x. cc) ∙ ap (λ (e : Expr). bound_unless (nodes_fault s e) s e) c.deref-in-Binary.ensures in
    let known-2 : Ok b ≡ bound_unless (nodes_fault s y) s y = c.in_ok-second-in-Binary.ensures (λ x. cc) ∙ ap (λ (e : Expr). bound_unless (nodes_fault s e) s e) c.deref-in-Binary-2.ensures in
    c.bind_binary.ensures ne
    ∙ binary_bound s x y c.in-Binary.op a b (is_bound (nodes_fault s x) s x a known) (is_bound (nodes_fault s y) s y b known-2)
    ∙ ap (λ (e : Expr). bound_unless (nodes_fault s e) s e) (sym (ap expr_of c.in-Binary.is) ∙ c.self.view_is)

pub returns-after-loop-part : goal.returns-after-loop-part
returns-after-loop-part t c = λ ne.
    let s = c.args.scope.now.value in
    let es = c.deref-part-items.result.now in
    let all = bind_done s es c.loop-part.part-index c.loop-part.bound.items c.loop-part-test.false c.loop-part.invariant in
    c.bind_pack.ensures ne
    ∙ pack_bound s c.in-Pack.names es c.loop-part.bound.items c.in-Pack.n all
    ∙ ap (λ (es : List Expr). bound_unless (nodes_fault s (pack (parts_of c.in-Pack.names es) c.in-Pack.n)) s (pack (parts_of c.in-Pack.names es) c.in-Pack.n)) c.deref-part-items.ensures.value
    ∙ ap (λ (e : Expr). bound_unless (nodes_fault s e) s e) (sym (ap expr_of c.in-Pack.is) ∙ c.self.view_is)
