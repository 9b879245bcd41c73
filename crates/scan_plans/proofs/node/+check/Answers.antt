use borrow.Author.Rules.{rules}
use Rattle.std.proofs.Common.{◌≡◌, ◌+◌, ◌≤◌, arith, length, sym, ◌∙◌, ap, subst, List, Option, Ok, Err}
use Rattle.std.proofs.lemmas.Result.{err_from_is_err_and}
use Rattle.scan_plans.specs.Came.{came}
use Rattle.scan_plans.specs.Checking.{ChecksPlan, KnownOf}
use Rattle.scan_plans.specs.Meaning.{Within, AllWithin, true_rows}
use Rattle.scan_plans.specs.PlanTree.{PlanTree, lists, lengths, valid, plans, tree_size, trees_size}
use Rattle.scan_plans.specs.PlanView.{plan_of}
use Rattle.scan_plans.specs.declared.lists.Span.{Span}
use Rattle.scan_plans.proofs.Checked.{inspected_start, inspected_next, inspected_fault, inspected_end, offsets_stop, known_stop, none_more, then_more, validity_stop, values_checked}
use Rattle.scan_plans.proofs.Columns.{plans_next, drop_past, within_at, size_at}
use Rattle.scan_plans.proofs.ListWants.{within_fewer}
use Rattle.scan_plans.proofs.node.+check.Goals as goal

pub PlanNodes::check-loop-node-init : goal.PlanNodes::check-loop-node-init
PlanNodes::check-loop-node-init t c =
    inspected_start _ _ (came c.args.inbox.now) (true_rows c.args.first c.args.mask.now) (ap plans (c.deref-node-items.ensures.value ∙ c.self.view_is))

pub PlanNodes::check-returns-in_err-check : goal.PlanNodes::check-returns-in_err-check
PlanNodes::check-returns-in_err-check t c =
    let here = came c.args.inbox.now in
    let is = true_rows c.args.first c.args.mask.now in
    let q = err_from_is_err_and c.from_residual.result c.from_residual.ensures.1 in
    let next = ap plans (plans_next c.loop-node.node-index c.deref-node-items.result.now c.node-item.result c.loop-node-test.true c.node-item.is) in
    rw (q.1, q.2) (inspected_fault (Unit {0}) (Unit {0}) _ c.node-item.result _ _ here is c.in_err-check.field-0.0 next c.loop-node.invariant c.in_err-check.ensures)

pub PlanNodes::check-loop-node-preserved : goal.PlanNodes::check-loop-node-preserved
PlanNodes::check-loop-node-preserved t c =
    let here = came c.args.inbox.now in
    let is = true_rows c.args.first c.args.mask.now in
    let next = ap plans (plans_next c.loop-node.node-index c.deref-node-items.result.now c.node-item.result c.loop-node-test.true c.node-item.is) in
    inspected_next _ c.node-item.result _ _ here is next c.loop-node.invariant c.in_ok-check.ensures

pub PlanNodes::check-returns : goal.PlanNodes::check-returns
PlanNodes::check-returns t c =
    let here = came c.args.inbox.now in
    let is = true_rows c.args.first c.args.mask.now in
    inspected_end _ _ here is (ap plans (drop_past c.loop-node.node-index c.deref-node-items.result.now c.loop-node-test.false)) c.loop-node.invariant

pub PlanNodes::check-check-requires : goal.PlanNodes::check-check-requires
PlanNodes::check-check-requires t c =
    let items = c.deref-node-items.ensures.value ∙ c.self.view_is in
    let n = c.args.first + length c.args.mask.now in
    let all : AllWithin (plans c.deref-node-items.result.now) n = subst (λ (ps : List PlanTree). AllWithin (plans ps) n) (sym items) c.requires in
    let w : Within c.node-item.result n = within_at c.loop-node.node-index n c.deref-node-items.result.now c.node-item.result c.loop-node-test.true c.node-item.is all in
    let sized : tree_size c.node-item.result + 1 ≤ trees_size (plans c.args.self.now) =
    subst (λ (ps : List PlanTree). tree_size c.node-item.result + 1 ≤ trees_size (plans ps)) items
    (size_at c.loop-node.node-index c.deref-node-items.result.now c.node-item.result c.loop-node-test.true c.node-item.is) in
    (search (rules, sized), w)

pub PlanNode::check-check-requires-in-Lists : goal.PlanNode::check-check-requires-in-Lists
PlanNode::check-check-requires-in-Lists t c =
    let n = c.args.first + length c.args.mask.now in
    let d = c.in-Lists.field-0.value in
    let p = c.in-Lists.elements.value in
    let o = c.in-Lists.offsets in
    let e : c.args.self.now ≡ lists d p o = sym c.self.view_is ∙ ap plan_of c.in-Lists.is in
    let w : Within (lists d p o) n = subst (λ (x : PlanTree). Within x n) e c.requires in
    search (rules, w.0)

pub PlanNode::check-known-requires : goal.PlanNode::check-known-requires
PlanNode::check-known-requires t c =
    let n = c.args.first + length c.args.mask.now in
    let d = c.in-Lists.field-0.value in
    let p = c.in-Lists.elements.value in
    let o = c.in-Lists.offsets in
    let e : c.args.self.now ≡ lists d p o = sym c.self.view_is ∙ ap plan_of c.in-Lists.is in
    let w : Within (lists d p o) n = subst (λ (x : PlanTree). Within x n) e c.requires in
    search (rules, w.0)

pub PlanNode::check-returns-in_err-check-in-Lists : goal.PlanNode::check-returns-in_err-check-in-Lists
PlanNode::check-returns-in_err-check-in-Lists t c =
    let d = c.in-Lists.field-0.value in
    let p = c.in-Lists.elements.value in
    let o = c.in-Lists.offsets in
    let e : c.args.self.now ≡ lists d p o = sym c.self.view_is ∙ ap plan_of c.in-Lists.is in
    let q = err_from_is_err_and c.from_residual.result c.from_residual.ensures.1 in
    let here = came c.args.inbox.now in
    let is = true_rows c.args.first c.args.mask.now in
    let fault = c.in_err-check-in-Lists.field-0.0 in
    rw (q.1, q.2) (subst (λ (x : PlanTree). ChecksPlan {A = Unit {0}} x here is (Err fault)) (sym e) (offsets_stop (Unit {0}) (Unit {0}) d p o here is fault c.in_err-check-in-Lists.ensures))

pub PlanNode::check-returns-in_err-rows-in-Lists : goal.PlanNode::check-returns-in_err-rows-in-Lists
PlanNode::check-returns-in_err-rows-in-Lists t c =
    let d = c.in-Lists.field-0.value in
    let p = c.in-Lists.elements.value in
    let o = c.in-Lists.offsets in
    let e : c.args.self.now ≡ lists d p o = sym c.self.view_is ∙ ap plan_of c.in-Lists.is in
    let q = err_from_is_err_and c.from_residual-in_err-rows-in-Lists.result c.from_residual-in_err-rows-in-Lists.ensures.1 in
    let here = came c.args.inbox.now in
    let is = true_rows c.args.first c.args.mask.now in
    let fault = c.in_err-rows-in-Lists.field-0.0 in
    rw (q.1, q.2) (subst (λ (x : PlanTree). ChecksPlan {A = Unit {0}} x here is (Err fault)) (sym e) (known_stop (Unit {0}) d p o here is fault c.in_err-rows-in-Lists.ensures))

pub PlanNode::check-returns-in-None : goal.PlanNode::check-returns-in-None
PlanNode::check-returns-in-None t c =
    let here = came c.args.inbox.now in
    let is = true_rows c.args.first c.args.mask.now in
    let d = c.in-Lists.field-0.value in
    let p = c.in-Lists.elements.value in
    let o = c.in-Lists.offsets in
    let e : c.args.self.now ≡ lists d p o = sym c.self.view_is ∙ ap plan_of c.in-Lists.is in
    let k = subst (λ (x : Option Span). KnownOf o here is (Ok x)) c.in-None.is c.in_ok-rows-in-Lists.ensures in
    rw e (none_more d p o here is c.in_ok-check-in-Lists.ensures k)

pub PlanNode::check-check-requires-in-Some : goal.PlanNode::check-check-requires-in-Some
PlanNode::check-check-requires-in-Some t c =
    let here = came c.args.inbox.now in
    let is = true_rows c.args.first c.args.mask.now in
    let n = c.args.first + length c.args.mask.now in
    let d = c.in-Lists.field-0.value in
    let p = c.in-Lists.elements.value in
    let o = c.in-Lists.offsets in
    let e : c.args.self.now ≡ lists d p o = sym c.self.view_is ∙ ap plan_of c.in-Lists.is in
    let w : Within (lists d p o) n = subst (λ (x : PlanTree). Within x n) e c.requires in
    let k = subst (λ (x : Option Span). KnownOf o here is (Ok x)) c.in-Some.is c.in_ok-rows-in-Lists.ensures in
    let m = c.in-Some.rows.first + length c.in-Some.rows.mask in
    let fewer : Within c.deref-in-Some.result.now m = subst (λ (x : PlanTree). Within x m) (sym c.deref-in-Some.ensures) (within_fewer p o.elements m k.within w.1) in
    let sized : tree_size c.deref-in-Some.result.now + 1 ≤ tree_size c.args.self.now = subst (λ (x : PlanTree). tree_size x + 1 ≤ tree_size c.args.self.now) (sym c.deref-in-Some.ensures) (subst (λ (x : PlanTree). tree_size p + 1 ≤ tree_size x) (sym e) (omega arith)) in
    (search (rules, sized), fewer)

pub PlanNode::check-returns-in-Some : goal.PlanNode::check-returns-in-Some
PlanNode::check-returns-in-Some t c =
    let here = came c.args.inbox.now in
    let is = true_rows c.args.first c.args.mask.now in
    let d = c.in-Lists.field-0.value in
    let p = c.in-Lists.elements.value in
    let o = c.in-Lists.offsets in
    let e : c.args.self.now ≡ lists d p o = sym c.self.view_is ∙ ap plan_of c.in-Lists.is in
    let k = subst (λ (x : Option Span). KnownOf o here is (Ok x)) c.in-Some.is c.in_ok-rows-in-Lists.ensures in
    let js = true_rows c.in-Some.rows.first c.in-Some.rows.mask in
    let own = subst (λ (x : PlanTree). ChecksPlan x here js c.check-in-Some.result) c.deref-in-Some.ensures c.check-in-Some.ensures in
    rw e (then_more d p o here is c.in-Some.rows c.check-in-Some.result c.in_ok-check-in-Lists.ensures k own)

pub PlanNode::check-check-requires-in-Lengths : goal.PlanNode::check-check-requires-in-Lengths
PlanNode::check-check-requires-in-Lengths t c =
    let n = c.args.first + length c.args.mask.now in
    let o = c.in-Lengths.offsets in
    let e : c.args.self.now ≡ lengths o = sym c.self.view_is ∙ ap plan_of c.in-Lengths.is in
    let w : Within (lengths o) n = subst (λ (x : PlanTree). Within x n) e c.requires in
    search (rules, w)

pub PlanNode::check-returns-in-Lengths : goal.PlanNode::check-returns-in-Lengths
PlanNode::check-returns-in-Lengths t c =
    let o = c.in-Lengths.offsets in
    let e : c.args.self.now ≡ lengths o = sym c.self.view_is ∙ ap plan_of c.in-Lengths.is in
    rw e c.check-in-Lengths.ensures

pub PlanNode::check-check-requires-in-Valid : goal.PlanNode::check-check-requires-in-Valid
PlanNode::check-check-requires-in-Valid t c =
    let n = c.args.first + length c.args.mask.now in
    let p = c.in-Valid.values.value in
    let v = c.in-Valid.validity.value in
    let e : c.args.self.now ≡ valid p v = sym c.self.view_is ∙ ap plan_of c.in-Valid.is in
    let w : Within (valid p v) n = subst (λ (x : PlanTree). Within x n) e c.requires in
    let own : Within c.deref-in-Valid.result.now n = subst (λ (x : PlanTree). Within x n) (sym c.deref-in-Valid.ensures) w.0 in
    let sized : tree_size c.deref-in-Valid.result.now + 1 ≤ tree_size c.args.self.now = subst (λ (x : PlanTree). tree_size x + 1 ≤ tree_size c.args.self.now) (sym c.deref-in-Valid.ensures) (subst (λ (x : PlanTree). tree_size v + 1 ≤ tree_size x) (sym e) (omega arith)) in
    (search (rules, sized), own)

pub PlanNode::check-check-requires-in-Valid-2 : goal.PlanNode::check-check-requires-in-Valid-2
PlanNode::check-check-requires-in-Valid-2 t c =
    let n = c.args.first + length c.args.mask.now in
    let p = c.in-Valid.values.value in
    let v = c.in-Valid.validity.value in
    let e : c.args.self.now ≡ valid p v = sym c.self.view_is ∙ ap plan_of c.in-Valid.is in
    let w : Within (valid p v) n = subst (λ (x : PlanTree). Within x n) e c.requires in
    let own : Within c.deref-in-Valid-2.result.now n = subst (λ (x : PlanTree). Within x n) (sym c.deref-in-Valid-2.ensures) w.1 in
    let sized : tree_size c.deref-in-Valid-2.result.now + 1 ≤ tree_size c.args.self.now = subst (λ (x : PlanTree). tree_size x + 1 ≤ tree_size c.args.self.now) (sym c.deref-in-Valid-2.ensures) (subst (λ (x : PlanTree). tree_size p + 1 ≤ tree_size x) (sym e) (omega arith)) in
    (search (rules, sized), own)

pub PlanNode::check-returns-in_err-check-in-Valid : goal.PlanNode::check-returns-in_err-check-in-Valid
PlanNode::check-returns-in_err-check-in-Valid t c =
    let here = came c.args.inbox.now in
    let is = true_rows c.args.first c.args.mask.now in
    let p = c.in-Valid.values.value in
    let v = c.in-Valid.validity.value in
    let e : c.args.self.now ≡ valid p v = sym c.self.view_is ∙ ap plan_of c.in-Valid.is in
    let q = err_from_is_err_and c.from_residual-in_err-check-in-Valid.result c.from_residual-in_err-check-in-Valid.ensures.1 in
    let fault = c.in_err-check-in-Valid.field-0.0 in
    let own = subst (λ (x : PlanTree). ChecksPlan {A = Unit {0}} x here is (Err fault)) c.deref-in-Valid.ensures c.in_err-check-in-Valid.ensures in
    rw (q.1, q.2) (subst (λ (x : PlanTree). ChecksPlan {A = Unit {0}} x here is (Err fault)) (sym e) (validity_stop (Unit {0}) (Unit {0}) p v here is fault own))

pub PlanNode::check-returns-in_ok-check-in-Valid : goal.PlanNode::check-returns-in_ok-check-in-Valid
PlanNode::check-returns-in_ok-check-in-Valid t c =
    let here = came c.args.inbox.now in
    let is = true_rows c.args.first c.args.mask.now in
    let p = c.in-Valid.values.value in
    let v = c.in-Valid.validity.value in
    let e : c.args.self.now ≡ valid p v = sym c.self.view_is ∙ ap plan_of c.in-Valid.is in
    let first = subst (λ (x : PlanTree). ChecksPlan {A = Unit {0}} x here is (Ok (tt {0}))) c.deref-in-Valid.ensures c.in_ok-check-in-Valid.ensures in
    let own = subst (λ (x : PlanTree). ChecksPlan x here is c.check-in-Valid-2.result) c.deref-in-Valid-2.ensures c.check-in-Valid-2.ensures in
    rw e (values_checked p v here is c.check-in-Valid-2.result first own)
