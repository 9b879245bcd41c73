use borrow.Author.Rules.{rules}
use Rattle.std.proofs.Common.{◌≡◌, ◌+◌, ◌≤◌, arith, length, sym, ◌∙◌, ap, subst, List, Option, Ok, Err}
use Rattle.std.proofs.lemmas.Result.{err_from_is_err_and}
use Rattle.scan_plans.specs.Came.{came}
use Rattle.scan_plans.specs.Meaning.{true_rows}
use Rattle.scan_plans.specs.PlanTree.{PlanTree, leaf, lists, lengths, valid, plans}
use Rattle.scan_plans.proofs.Gathering.{gathers_start, gathers_next, gathers_fault, gathers_end}
use Rattle.scan_plans.specs.Meaning.{Within, AllWithin}
use Rattle.scan_plans.specs.PlanTree.{tree_size, trees_size}
use Rattle.scan_plans.proofs.Columns.{plans_next, drop_past, within_at, size_at}
use Rattle.scan_plans.specs.PlanView.{plan_of}
use Rattle.scan_plans.specs.OffsetReads.{NextOf}
use Rattle.scan_plans.specs.declared.lists.Span.{Span}
use Rattle.scan_plans.proofs.ListWants.{lists_stopped, none_known, then_elements, within_fewer}
use Rattle.scan_plans.proofs.ListRows.{then_values, no_validity}
use Rattle.scan_plans.specs.Reads.{CollectsPlan}
use Rattle.scan_plans.proofs.node.+collect.Goals as goal

pub PlanNode::collect-returns-in-Leaf : goal.PlanNode::collect-returns-in-Leaf
PlanNode::collect-returns-in-Leaf t c =
    let e : c.args.self.now ≡ leaf c.in-Leaf.field-0.value c.in-Leaf.field-1 c.in-Leaf.runs.value = sym c.self.view_is ∙ ap plan_of c.in-Leaf.is in
    rw (e, ← c.deref.ensures, ← c.as_slice.ensures) (c.collect_leaf.ensures c.in-Leaf.field-0.value c.in-Leaf.field-1)

pub PlanNodes::collect-loop-node-init : goal.PlanNodes::collect-loop-node-init
PlanNodes::collect-loop-node-init t c =
    gathers_start c.args.wants.now _ _ (came c.args.inbox.now) (true_rows c.args.first c.args.mask.now) (ap plans (c.deref-node-items.ensures.value ∙ c.self.view_is))

pub PlanNodes::collect-returns-in_err-collect : goal.PlanNodes::collect-returns-in_err-collect
PlanNodes::collect-returns-in_err-collect t c =
    let here = came c.args.inbox.now in
    let is = true_rows c.args.first c.args.mask.now in
    let q = err_from_is_err_and c.from_residual.result c.from_residual.ensures.1 in
    let next = ap plans (plans_next c.loop-node.node-index c.deref-node-items.result.now c.node-item.result c.loop-node-test.true c.node-item.is) in
    rw (q.1, q.2) (gathers_fault (Unit {0}) (Unit {0}) c.args.wants.now c.loop-node.wants c.collect.new.wants c.collect.new.wants _ c.node-item.result _ _ here is c.in_err-collect.field-0.0 next c.loop-node.invariant c.in_err-collect.ensures)

pub PlanNodes::collect-loop-node-preserved : goal.PlanNodes::collect-loop-node-preserved
PlanNodes::collect-loop-node-preserved t c =
    let here = came c.args.inbox.now in
    let is = true_rows c.args.first c.args.mask.now in
    let next = ap plans (plans_next c.loop-node.node-index c.deref-node-items.result.now c.node-item.result c.loop-node-test.true c.node-item.is) in
    gathers_next c.args.wants.now c.loop-node.wants c.collect.new.wants _ c.node-item.result _ _ here is (tt {0}) next c.loop-node.invariant c.in_ok-collect.ensures

pub PlanNodes::collect-returns : goal.PlanNodes::collect-returns
PlanNodes::collect-returns t c =
    let here = came c.args.inbox.now in
    let is = true_rows c.args.first c.args.mask.now in
    gathers_end c.args.wants.now c.loop-node.wants _ _ here is (tt {0}) (ap plans (drop_past c.loop-node.node-index c.deref-node-items.result.now c.loop-node-test.false)) c.loop-node.invariant

pub PlanNodes::collect-collect-requires : goal.PlanNodes::collect-collect-requires
PlanNodes::collect-collect-requires t c =
    let items = c.deref-node-items.ensures.value ∙ c.self.view_is in
    let n = c.args.first + length c.args.mask.now in
    let all : AllWithin (plans c.deref-node-items.result.now) n = subst (λ (ps : List PlanTree). AllWithin (plans ps) n) (sym items) c.requires in
    let w : Within c.node-item.result n = within_at c.loop-node.node-index n c.deref-node-items.result.now c.node-item.result c.loop-node-test.true c.node-item.is all in
    let sized : tree_size c.node-item.result + 1 ≤ trees_size (plans c.args.self.now) =
    subst (λ (ps : List PlanTree). tree_size c.node-item.result + 1 ≤ trees_size (plans ps)) items
    (size_at c.loop-node.node-index c.deref-node-items.result.now c.node-item.result c.loop-node-test.true c.node-item.is) in
    (search (rules, sized), w)

pub PlanNode::collect-returns-in_err-rows-in-Lists : goal.PlanNode::collect-returns-in_err-rows-in-Lists
PlanNode::collect-returns-in_err-rows-in-Lists t c =
    let d = c.in-Lists.field-0.value in
    let p = c.in-Lists.elements.value in
    let o = c.in-Lists.offsets in
    let e : c.args.self.now ≡ lists d p o = sym c.self.view_is ∙ ap plan_of c.in-Lists.is in
    let q = err_from_is_err_and c.from_residual.result c.from_residual.ensures.1 in
    let here = came c.args.inbox.now in
    let is = true_rows c.args.first c.args.mask.now in
    let fault = c.in_err-rows-in-Lists.field-0.0 in
    rw (q.1, q.2) (subst (λ (x : PlanTree). CollectsPlan {A = Unit {0}} c.args.wants.now c.next.new.wants x here is (Err fault)) (sym e) (lists_stopped (Unit {0}) c.args.wants.now c.next.new.wants c.args.wants.now c.next.new.wants d p o here is fault c.in_err-rows-in-Lists.ensures))

pub PlanNode::collect-returns-in-None : goal.PlanNode::collect-returns-in-None
PlanNode::collect-returns-in-None t c =
    let here = came c.args.inbox.now in
    let is = true_rows c.args.first c.args.mask.now in
    let d = c.in-Lists.field-0.value in
    let p = c.in-Lists.elements.value in
    let o = c.in-Lists.offsets in
    let e : c.args.self.now ≡ lists d p o = sym c.self.view_is ∙ ap plan_of c.in-Lists.is in
    let k = subst (λ (x : Option Span). NextOf c.args.wants.now c.next.new.wants o here is (Ok x)) c.in-None.is c.in_ok-rows-in-Lists.ensures in
    rw e (none_known c.args.wants.now c.next.new.wants d p o here is (tt {0}) k.0 k.1)

pub PlanNode::collect-next-requires : goal.PlanNode::collect-next-requires
PlanNode::collect-next-requires t c =
    let here = came c.args.inbox.now in
    let is = true_rows c.args.first c.args.mask.now in
    let n = c.args.first + length c.args.mask.now in
    let d = c.in-Lists.field-0.value in
    let p = c.in-Lists.elements.value in
    let o = c.in-Lists.offsets in
    let e : c.args.self.now ≡ lists d p o = sym c.self.view_is ∙ ap plan_of c.in-Lists.is in
    let w : Within (lists d p o) n = subst (λ (x : PlanTree). Within x n) e c.requires in
    search (rules, w.0)

pub PlanNode::collect-collect-requires-in-Some : goal.PlanNode::collect-collect-requires-in-Some
PlanNode::collect-collect-requires-in-Some t c =
    let here = came c.args.inbox.now in
    let is = true_rows c.args.first c.args.mask.now in
    let n = c.args.first + length c.args.mask.now in
    let d = c.in-Lists.field-0.value in
    let p = c.in-Lists.elements.value in
    let o = c.in-Lists.offsets in
    let e : c.args.self.now ≡ lists d p o = sym c.self.view_is ∙ ap plan_of c.in-Lists.is in
    let w : Within (lists d p o) n = subst (λ (x : PlanTree). Within x n) e c.requires in
    let k = subst (λ (x : Option Span). NextOf c.args.wants.now c.next.new.wants o here is (Ok x)) c.in-Some.is c.in_ok-rows-in-Lists.ensures in
    let m = c.in-Some.rows.first + length c.in-Some.rows.mask in
    let fewer : Within c.deref-in-Some.result.now m = subst (λ (x : PlanTree). Within x m) (sym c.deref-in-Some.ensures) (within_fewer p o.elements m (k.1).within w.1) in
    let sized : tree_size c.deref-in-Some.result.now + 1 ≤ tree_size c.args.self.now = subst (λ (x : PlanTree). tree_size x + 1 ≤ tree_size c.args.self.now) (sym c.deref-in-Some.ensures) (subst (λ (x : PlanTree). tree_size p + 1 ≤ tree_size x) (sym e) (omega arith)) in
    (search (rules, sized), fewer)

pub PlanNode::collect-returns-in-Some : goal.PlanNode::collect-returns-in-Some
PlanNode::collect-returns-in-Some t c =
    let here = came c.args.inbox.now in
    let is = true_rows c.args.first c.args.mask.now in
    let n = c.args.first + length c.args.mask.now in
    let d = c.in-Lists.field-0.value in
    let p = c.in-Lists.elements.value in
    let o = c.in-Lists.offsets in
    let e : c.args.self.now ≡ lists d p o = sym c.self.view_is ∙ ap plan_of c.in-Lists.is in
    let k = subst (λ (x : Option Span). NextOf c.args.wants.now c.next.new.wants o here is (Ok x)) c.in-Some.is c.in_ok-rows-in-Lists.ensures in
    let js = true_rows c.in-Some.rows.first c.in-Some.rows.mask in
    let own = subst (λ (x : PlanTree). CollectsPlan c.next.new.wants c.collect-in-Some.new.wants x here js c.collect-in-Some.result) c.deref-in-Some.ensures c.collect-in-Some.ensures in
    rw e (then_elements c.args.wants.now c.next.new.wants c.collect-in-Some.new.wants d p o here is c.in-Some.rows c.collect-in-Some.result k.0 k.1 own)

pub PlanNode::collect-collect-requires-in-Lengths : goal.PlanNode::collect-collect-requires-in-Lengths
PlanNode::collect-collect-requires-in-Lengths t c =
    let here = came c.args.inbox.now in
    let is = true_rows c.args.first c.args.mask.now in
    let n = c.args.first + length c.args.mask.now in
    let o = c.in-Lengths.offsets in
    let e : c.args.self.now ≡ lengths o = sym c.self.view_is ∙ ap plan_of c.in-Lengths.is in
    let w : Within (lengths o) n = subst (λ (x : PlanTree). Within x n) e c.requires in
    search (rules, w)

pub PlanNode::collect-returns-in-Lengths : goal.PlanNode::collect-returns-in-Lengths
PlanNode::collect-returns-in-Lengths t c =
    let o = c.in-Lengths.offsets in
    let e : c.args.self.now ≡ lengths o = sym c.self.view_is ∙ ap plan_of c.in-Lengths.is in
    rw e c.collect-in-Lengths.ensures

pub PlanNode::collect-collect-requires-in-Valid : goal.PlanNode::collect-collect-requires-in-Valid
PlanNode::collect-collect-requires-in-Valid t c =
    let here = came c.args.inbox.now in
    let is = true_rows c.args.first c.args.mask.now in
    let n = c.args.first + length c.args.mask.now in
    let p = c.in-Valid.values.value in
    let v = c.in-Valid.validity.value in
    let e : c.args.self.now ≡ valid p v = sym c.self.view_is ∙ ap plan_of c.in-Valid.is in
    let w : Within (valid p v) n = subst (λ (x : PlanTree). Within x n) e c.requires in
    let own : Within c.deref-in-Valid.result.now n = subst (λ (x : PlanTree). Within x n) (sym c.deref-in-Valid.ensures) w.0 in
    let sized : tree_size c.deref-in-Valid.result.now + 1 ≤ tree_size c.args.self.now = subst (λ (x : PlanTree). tree_size x + 1 ≤ tree_size c.args.self.now) (sym c.deref-in-Valid.ensures) (subst (λ (x : PlanTree). tree_size v + 1 ≤ tree_size x) (sym e) (omega arith)) in
    (search (rules, sized), own)

pub PlanNode::collect-collect-requires-in-Valid-2 : goal.PlanNode::collect-collect-requires-in-Valid-2
PlanNode::collect-collect-requires-in-Valid-2 t c =
    let here = came c.args.inbox.now in
    let is = true_rows c.args.first c.args.mask.now in
    let n = c.args.first + length c.args.mask.now in
    let p = c.in-Valid.values.value in
    let v = c.in-Valid.validity.value in
    let e : c.args.self.now ≡ valid p v = sym c.self.view_is ∙ ap plan_of c.in-Valid.is in
    let w : Within (valid p v) n = subst (λ (x : PlanTree). Within x n) e c.requires in
    let own : Within c.deref-in-Valid-2.result.now n = subst (λ (x : PlanTree). Within x n) (sym c.deref-in-Valid-2.ensures) w.1 in
    let sized : tree_size c.deref-in-Valid-2.result.now + 1 ≤ tree_size c.args.self.now = subst (λ (x : PlanTree). tree_size x + 1 ≤ tree_size c.args.self.now) (sym c.deref-in-Valid-2.ensures) (subst (λ (x : PlanTree). tree_size p + 1 ≤ tree_size x) (sym e) (omega arith)) in
    (search (rules, sized), own)

pub PlanNode::collect-returns-in_err-collect-in-Valid : goal.PlanNode::collect-returns-in_err-collect-in-Valid
PlanNode::collect-returns-in_err-collect-in-Valid t c =
    let here = came c.args.inbox.now in
    let is = true_rows c.args.first c.args.mask.now in
    let n = c.args.first + length c.args.mask.now in
    let p = c.in-Valid.values.value in
    let v = c.in-Valid.validity.value in
    let e : c.args.self.now ≡ valid p v = sym c.self.view_is ∙ ap plan_of c.in-Valid.is in
    let q = err_from_is_err_and c.from_residual-in_err-collect-in-Valid.result c.from_residual-in_err-collect-in-Valid.ensures.1 in
    let own = subst (λ (x : PlanTree). CollectsPlan {A = Unit {0}} c.args.wants.now c.collect-in-Valid.new.wants x here is (Err c.in_err-collect-in-Valid.field-0.0)) c.deref-in-Valid.ensures c.in_err-collect-in-Valid.ensures in
    rw (q.1, q.2) (subst (λ (x : PlanTree). CollectsPlan {A = Unit {0}} c.args.wants.now c.collect-in-Valid.new.wants x here is
    (Err c.in_err-collect-in-Valid.field-0.0)) (sym e)
    (no_validity (Unit {0}) (Unit {0}) c.args.wants.now c.collect-in-Valid.new.wants c.collect-in-Valid.new.wants p v here is
    c.in_err-collect-in-Valid.field-0.0 own))

pub PlanNode::collect-returns-in_ok-collect-in-Valid : goal.PlanNode::collect-returns-in_ok-collect-in-Valid
PlanNode::collect-returns-in_ok-collect-in-Valid t c =
    let here = came c.args.inbox.now in
    let is = true_rows c.args.first c.args.mask.now in
    let n = c.args.first + length c.args.mask.now in
    let p = c.in-Valid.values.value in
    let v = c.in-Valid.validity.value in
    let e : c.args.self.now ≡ valid p v = sym c.self.view_is ∙ ap plan_of c.in-Valid.is in
    let first = subst (λ (x : PlanTree). CollectsPlan {A = Unit {0}} c.args.wants.now c.collect-in-Valid.new.wants x here is (Ok (tt {0}))) c.deref-in-Valid.ensures c.in_ok-collect-in-Valid.ensures in
    let own = subst (λ (x : PlanTree). CollectsPlan c.collect-in-Valid.new.wants c.collect-in-Valid-2.new.wants x here is c.collect-in-Valid-2.result) c.deref-in-Valid-2.ensures c.collect-in-Valid-2.ensures in
    rw e (then_values c.args.wants.now c.collect-in-Valid.new.wants c.collect-in-Valid-2.new.wants p v here is (tt {0}) c.collect-in-Valid-2.result first own)
