use borrow.Author.Rules.{rules}
use Rattle.std.proofs.Common.{arith, Bool, Some, ◌≡◌, ◌+◌, ◌≤◌, ◌++◌, Vec, Global, ◌∷◌, [], length, ℕ, List, Option, Ok, Err, sym, ◌∙◌, ap, subst}
use Rattle.std.proofs.lemmas.Result.{err_from_is_err_and}
use Rattle.scan_plans.specs.Came.{came, arrived}
use Rattle.scan_plans.specs.Formed.{IsNode}
use Rattle.scan_plans.specs.Lists.{element_rows}
use Rattle.scan_plans.specs.OffsetReads.{CutsWhole, elements_in}
use Rattle.scan_plans.specs.declared.lists.Whole.{Whole}
use Rattle.scan_plans.proofs.ListCells.{lists_fault, lists_given, none_given, elements_fault, climbs_rises, cut_count}
use Rattle.scan_plans.proofs.ListRows.{validity_fault, values_fault}
use Rattle.scan_plans.proofs.ListWants.{within_fewer}
use Rattle.scan_plans.proofs.WholeLists.{cut_read, read_mask, read_long, read_items}
use Rattle.scan_plans.proofs.Filtering.{values_long}
use Rattle.scan_values.specs.Kinds.{element_of}
use Rattle.scan_plans.specs.Meaning.{true_rows, Within, AllWithin}
use Rattle.scan_columns.specs.declared.column.Column.{Column}
use Rattle.scan_plans.specs.PlanTree.{PlanTree, tree_size, trees_size, rows, evaluate, over, constant, lists, lengths, valid, numbers, by_lengths, plans}
use Rattle.scan_plans.specs.PlanView.{plan_of}
use Rattle.scan_plans.specs.Reads.{AreValues, Reads, ReadsAll}
use Rattle.scan_plans.specs.declared.node.Kind.{Kind}
use Rattle.scan_plans.proofs.Columns.{Filled, filled_next, filled_fault, filled_end, within_at, count_rows, size_at}
use Rattle.scan_plans.proofs.Nodes.{evaluate_passes, over_passes}
use Rattle.scan_plans.proofs.OverLengths.{by_lengths_reads, by_lengths_passes}
use Rattle.scan_plans.proofs.Parts.{columns_long, columns_scope}
use Rattle.scan_plans.proofs.node.+read.Goals as goal

pub PlanNode::read-returns-in_err-column-in-Evaluate : goal.PlanNode::read-returns-in_err-column-in-Evaluate
PlanNode::read-returns-in_err-column-in-Evaluate t c =
    let here = came c.args.inbox.now in
    let is = true_rows c.args.first c.args.mask.now in
    let b = c.in-Evaluate.expr in
    let e : c.args.self.now ≡ evaluate b.scope b.expr c.in-Evaluate.node.value = sym c.self.view_is ∙ ap plan_of c.in-Evaluate.is in
    let q = err_from_is_err_and c.from_residual.result c.from_residual.ensures.1 in
    let fault = c.in_err-column-in-Evaluate.field-0.0 in
    rw (q.1, q.2) (subst (λ (p : PlanTree). Reads p here is (Err fault)) (sym e) (evaluate_passes b.scope b.expr c.in-Evaluate.node.value here is fault (subst (λ (p : PlanTree). Reads p here is (Err fault)) c.deref-in-Evaluate.ensures c.in_err-column-in-Evaluate.ensures)))

pub PlanNode::read-returns-in_err-columns-in-Over : goal.PlanNode::read-returns-in_err-columns-in-Over
PlanNode::read-returns-in_err-columns-in-Over t c =
    let b = c.in-Over.root in
    let e : c.args.self.now ≡ over b.scope b.expr (plans c.in-Over.parts) = sym c.self.view_is ∙ ap plan_of c.in-Over.is in
    let q = err_from_is_err_and c.from_residual-in_err-columns-in-Over.result c.from_residual-in_err-columns-in-Over.ensures.1 in
    rw (q.1, q.2) (subst (λ (p : PlanTree). Reads p (came c.args.inbox.now) (true_rows c.args.first c.args.mask.now) (Err c.in_err-columns-in-Over.field-0.0))
    (sym e) (over_passes (λ (v : Vec Column Global). v.items) b.scope b.expr (plans c.in-Over.parts) (came c.args.inbox.now)
    (true_rows c.args.first c.args.mask.now) c.in_err-columns-in-Over.field-0.0 c.in_err-columns-in-Over.ensures))

pub PlanNode::read-joined-requires-clause-scope : goal.PlanNode::read-joined-requires-clause-scope
PlanNode::read-joined-requires-clause-scope t c =
    let b = c.in-Over.root in
    let f : IsNode (over b.scope b.expr (plans c.in-Over.parts)) = subst (λ (k : Kind). IsNode (plan_of k)) c.in-Over.is c.self.invariant in
    columns_scope b.scope f.0 (plans c.in-Over.parts) (came c.args.inbox.now) (true_rows c.args.first c.args.mask.now) c.in_ok-columns-in-Over.columns.items f.1 f.2 c.in_ok-columns-in-Over.ensures

pub PlanNode::read-joined-requires-clause-length : goal.PlanNode::read-joined-requires-clause-length
PlanNode::read-joined-requires-clause-length t c =
    let is = true_rows c.args.first c.args.mask.now in
    rw (c.true_count.ensures.count, count_rows c.args.first c.args.mask.now) (columns_long (plans c.in-Over.parts) (came c.args.inbox.now) is c.in_ok-columns-in-Over.columns.items c.in_ok-columns-in-Over.ensures)

pub PlanNode::read-returns-in-Rows : goal.PlanNode::read-returns-in-Rows
PlanNode::read-returns-in-Rows t c =
    let a = c.in-Rows.array.value in
    let e : c.args.self.now ≡ rows a.dtype a.items = sym c.self.view_is ∙ ap plan_of c.in-Rows.is in
    rw (e, ← c.deref-in-Rows.ensures) (c.read_rows.ensures (came c.args.inbox.now))

pub PlanNode::read-returns-in_ok-columns-in-Over : goal.PlanNode::read-returns-in_ok-columns-in-Over
PlanNode::read-returns-in_ok-columns-in-Over t c =
    let b = c.in-Over.root in
    let is = true_rows c.args.first c.args.mask.now in
    let e : c.args.self.now ≡ over b.scope b.expr (plans c.in-Over.parts) = sym c.self.view_is ∙ ap plan_of c.in-Over.is in
    rw e (c.joined.ensures (plans c.in-Over.parts) (came c.args.inbox.now) is c.in_ok-columns-in-Over.ensures (c.true_count.ensures.count ∙ count_rows c.args.first c.args.mask.now))

pub PlanNode::read-returns-in-Constant : goal.PlanNode::read-returns-in-Constant
PlanNode::read-returns-in-Constant t c =
    let b = c.in-Constant.expr in
    let is = true_rows c.args.first c.args.mask.now in
    let e : c.args.self.now ≡ constant b.scope b.expr = sym c.self.view_is ∙ ap plan_of c.in-Constant.is in
    rw e (c.repeated.ensures (came c.args.inbox.now) is (c.true_count-in-Constant.ensures.count ∙ count_rows c.args.first c.args.mask.now))

pub PlanNodes::read-read-requires : goal.PlanNodes::read-read-requires
PlanNodes::read-read-requires t c =
    let items = c.deref-node-items.ensures.value ∙ c.self.view_is in
    let n = c.args.first + length c.args.mask.now in
    let all : AllWithin (plans c.deref-node-items.result.now) n = subst (λ (ps : List PlanTree). AllWithin (plans ps) n) (sym items) c.requires in
    let w : Within c.node-item.result n = within_at c.loop-node.node-index n c.deref-node-items.result.now c.node-item.result c.loop-node-test.true c.node-item.is all in
    let sized : tree_size c.node-item.result + 1 ≤ trees_size (plans c.args.self.now) =
    subst (λ (ps : List PlanTree). tree_size c.node-item.result + 1 ≤ trees_size (plans ps)) items
    (size_at c.loop-node.node-index c.deref-node-items.result.now c.node-item.result c.loop-node-test.true c.node-item.is) in
    (search (rules, sized), w)

pub PlanNodes::read-returns-in_err-read : goal.PlanNodes::read-returns-in_err-read
PlanNodes::read-returns-in_err-read t c =
    let here = came c.args.inbox.now in
    let is = true_rows c.args.first c.args.mask.now in
    let items = c.deref-node-items.ensures.value ∙ c.self.view_is in
    let k = c.loop-node.node-index in
    let q = err_from_is_err_and c.from_residual-in_err-read.result c.from_residual-in_err-read.ensures.1 in
    let filled : Filled k c.deref-node-items.result.now here is c.loop-node.columns.items = subst (λ (ps : List PlanTree). Filled k ps here is c.loop-node.columns.items) (sym items) c.loop-node.invariant in
    rw (q.1, q.2) (subst (λ (ps : List PlanTree). ReadsAll (λ (v : Vec Column Global). v.items) (plans ps) here is (Err c.in_err-read.field-0.0)) items
    (filled_fault (λ (v : Vec Column Global). v.items) k c.deref-node-items.result.now here is c.loop-node.columns.items c.node-item.result
    c.in_err-read.field-0.0 c.loop-node-test.true c.node-item.is filled c.in_err-read.ensures))

pub PlanNodes::read-loop-node-preserved : goal.PlanNodes::read-loop-node-preserved
PlanNodes::read-loop-node-preserved t c =
    let here = came c.args.inbox.now in
    let is = true_rows c.args.first c.args.mask.now in
    let items = c.deref-node-items.ensures.value ∙ c.self.view_is in
    let k = c.loop-node.node-index in
    let filled : Filled k c.deref-node-items.result.now here is c.loop-node.columns.items = subst (λ (ps : List PlanTree). Filled k ps here is c.loop-node.columns.items) (sym items) c.loop-node.invariant in
    let pushed : c.push.new.self.items ≡ c.loop-node.columns.items ++ c.in_ok-read.field-0 ∷ [] = search (rules, c.in_ok-push.ensures.items) in
    rw (pushed, ← items) (filled_next k c.deref-node-items.result.now here is c.loop-node.columns.items c.node-item.result c.in_ok-read.field-0 c.loop-node-test.true c.node-item.is filled c.in_ok-read.ensures)

pub PlanNodes::read-returns : goal.PlanNodes::read-returns
PlanNodes::read-returns t c =
    let here = came c.args.inbox.now in
    let is = true_rows c.args.first c.args.mask.now in
    let items = c.deref-node-items.ensures.value ∙ c.self.view_is in
    let k = c.loop-node.node-index in
    let filled : Filled k c.deref-node-items.result.now here is c.loop-node.columns.items = subst (λ (ps : List PlanTree). Filled k ps here is c.loop-node.columns.items) (sym items) c.loop-node.invariant in
    rw (← items) (filled_end k c.deref-node-items.result.now here is c.loop-node.columns.items c.loop-node-test.false filled)

pub PlanNode::read-returns-in_err-whole-in-Lists : goal.PlanNode::read-returns-in_err-whole-in-Lists
PlanNode::read-returns-in_err-whole-in-Lists t c =
    let here = came c.args.inbox.now in
    let is = true_rows c.args.first c.args.mask.now in
    let d = c.in-Lists.dtype.value in
    let p = c.in-Lists.elements.value in
    let e : c.args.self.now ≡ lists d p c.in-Lists.offsets = sym c.self.view_is ∙ ap plan_of c.in-Lists.is in
    let q = err_from_is_err_and c.from_residual-in_err-whole-in-Lists.result c.from_residual-in_err-whole-in-Lists.ensures.1 in
    let fault = c.in_err-whole-in-Lists.field-0.0 in
    rw (q.1, q.2) (subst (λ (x : PlanTree). Reads x here is (Err fault)) (sym e) (lists_fault d p c.in-Lists.offsets here is fault c.in_err-whole-in-Lists.ensures))

pub PlanNode::read-returns-in_ok-column-in-Some : goal.PlanNode::read-returns-in_ok-column-in-Some
PlanNode::read-returns-in_ok-column-in-Some t c =
    let here = came c.args.inbox.now in
    let is = true_rows c.args.first c.args.mask.now in
    let d = c.in-Lists.dtype.value in
    let p = c.in-Lists.elements.value in
    let o = c.in-Lists.offsets in
    let w = c.in-Some.whole in
    let e : c.args.self.now ≡ lists d p o = sym c.self.view_is ∙ ap plan_of c.in-Lists.is in
    let k = subst (λ (x : Option Whole). CutsWhole o here is (Ok x)) c.in-Some.is c.in_ok-whole-in-Lists.ensures in
    let z = cut_read o (arrived here) is w.cut w.rows.first w.rows.mask k.0 k.1 in
    let same = read_mask o (arrived here) is w.cut.offsets.items w.rows.first w.rows.mask z in
    let v : AreValues p here (element_rows o (arrived here) is) c.in_ok-column-in-Some.column = subst (λ (js : List ℕ). AreValues p here js c.in_ok-column-in-Some.column) (sym same) (search (rules, c.in_ok-column-in-Some.ensures, c.deref-in-Some.ensures)) in
    let ns : List ℕ = w.cut.offsets.items in
    let own = read_items p o here is ns w.rows.first w.rows.mask c.in_ok-column-in-Some.column z v in
    rw e (lists_given d p o here is w.cut (elements_in ns w.rows.first c.in_ok-column-in-Some.column) c.lists_of.result k.0 own v.found (search (rules, c.lists_of.ensures)))

pub PlanNode::read-whole-requires : goal.PlanNode::read-whole-requires
PlanNode::read-whole-requires t c =
    let here = came c.args.inbox.now in
    let is = true_rows c.args.first c.args.mask.now in
    let n = c.args.first + length c.args.mask.now in
    let d = c.in-Lists.dtype.value in
    let p = c.in-Lists.elements.value in
    let o = c.in-Lists.offsets in
    let e : c.args.self.now ≡ lists d p o = sym c.self.view_is ∙ ap plan_of c.in-Lists.is in
    let w : Within (lists d p o) n = subst (λ (x : PlanTree). Within x n) e c.requires in
    search (rules, w.0)

pub PlanNode::read-read-requires-in-Some : goal.PlanNode::read-read-requires-in-Some
PlanNode::read-read-requires-in-Some t c =
    let here = came c.args.inbox.now in
    let is = true_rows c.args.first c.args.mask.now in
    let n = c.args.first + length c.args.mask.now in
    let d = c.in-Lists.dtype.value in
    let p = c.in-Lists.elements.value in
    let o = c.in-Lists.offsets in
    let e : c.args.self.now ≡ lists d p o = sym c.self.view_is ∙ ap plan_of c.in-Lists.is in
    let w : Within (lists d p o) n = subst (λ (x : PlanTree). Within x n) e c.requires in
    let u = c.in-Some.whole in
    let k = subst (λ (x : Option Whole). CutsWhole o here is (Ok x)) c.in-Some.is c.in_ok-whole-in-Lists.ensures in
    let z = cut_read o (arrived here) is u.cut u.rows.first u.rows.mask k.0 k.1 in
    let same = read_mask o (arrived here) is u.cut.offsets.items u.rows.first u.rows.mask z in
    let m = u.rows.first + length u.rows.mask in
    let fewer : Within c.deref-in-Some.result.now m = subst (λ (x : PlanTree). Within x m) (sym c.deref-in-Some.ensures) (within_fewer p o.elements m z.within w.1) in
    let sized : tree_size c.deref-in-Some.result.now + 1 ≤ tree_size c.args.self.now = subst (λ (x : PlanTree). tree_size x + 1 ≤ tree_size c.args.self.now) (sym c.deref-in-Some.ensures) (subst (λ (x : PlanTree). tree_size p + 1 ≤ tree_size x) (sym e) (omega arith)) in
    (search (rules, sized), fewer)

pub PlanNode::read-returns-in_err-column-in-Some : goal.PlanNode::read-returns-in_err-column-in-Some
PlanNode::read-returns-in_err-column-in-Some t c =
    let here = came c.args.inbox.now in
    let is = true_rows c.args.first c.args.mask.now in
    let n = c.args.first + length c.args.mask.now in
    let d = c.in-Lists.dtype.value in
    let p = c.in-Lists.elements.value in
    let o = c.in-Lists.offsets in
    let e : c.args.self.now ≡ lists d p o = sym c.self.view_is ∙ ap plan_of c.in-Lists.is in
    let u = c.in-Some.whole in
    let k = subst (λ (x : Option Whole). CutsWhole o here is (Ok x)) c.in-Some.is c.in_ok-whole-in-Lists.ensures in
    let z = cut_read o (arrived here) is u.cut u.rows.first u.rows.mask k.0 k.1 in
    let same = read_mask o (arrived here) is u.cut.offsets.items u.rows.first u.rows.mask z in
    let f : IsNode (lists d p o) = subst (λ (x : Kind). IsNode (plan_of x)) c.in-Lists.is c.self.invariant in
    let q = err_from_is_err_and c.from_residual-in_err-column-in-Some.result c.from_residual-in_err-column-in-Some.ensures.1 in
    let fault = c.in_err-column-in-Some.field-0.0 in
    let own : Reads p here (element_rows o (arrived here) is) (Err fault) = subst (λ (js : List ℕ). Reads p here js (Err fault)) (sym same) (subst (λ (x : PlanTree). Reads x here (true_rows u.rows.first u.rows.mask) (Err fault)) c.deref-in-Some.ensures c.in_err-column-in-Some.ensures) in
    rw (q.1, q.2) (subst (λ (x : PlanTree). Reads x here is (Err fault)) (sym e) (elements_fault d p o here is u.rows.first u.rows.mask fault f.1 same z.within own))

pub PlanNode::read-lists_of-requires-clause-element : goal.PlanNode::read-lists_of-requires-clause-element
PlanNode::read-lists_of-requires-clause-element t c =
    let here = came c.args.inbox.now in
    let is = true_rows c.args.first c.args.mask.now in
    let n = c.args.first + length c.args.mask.now in
    let d = c.in-Lists.dtype.value in
    let p = c.in-Lists.elements.value in
    let o = c.in-Lists.offsets in
    let e : c.args.self.now ≡ lists d p o = sym c.self.view_is ∙ ap plan_of c.in-Lists.is in
    let u = c.in-Some.whole in
    let k = subst (λ (x : Option Whole). CutsWhole o here is (Ok x)) c.in-Some.is c.in_ok-whole-in-Lists.ensures in
    let z = cut_read o (arrived here) is u.cut u.rows.first u.rows.mask k.0 k.1 in
    let same = read_mask o (arrived here) is u.cut.offsets.items u.rows.first u.rows.mask z in
    let f : IsNode (lists d p o) = subst (λ (x : Kind). IsNode (plan_of x)) c.in-Lists.is c.self.invariant in
    let v : AreValues p here (element_rows o (arrived here) is) c.in_ok-column-in-Some.column = subst (λ (js : List ℕ). AreValues p here js c.in_ok-column-in-Some.column) (sym same) (search (rules, c.in_ok-column-in-Some.ensures, c.deref-in-Some.ensures)) in
    ap (λ t. Some t) v.dtype ∙ sym (ap element_of f.0)

pub PlanNode::read-lists_of-requires-clause-length : goal.PlanNode::read-lists_of-requires-clause-length
PlanNode::read-lists_of-requires-clause-length t c =
    let here = came c.args.inbox.now in
    let is = true_rows c.args.first c.args.mask.now in
    let n = c.args.first + length c.args.mask.now in
    let d = c.in-Lists.dtype.value in
    let p = c.in-Lists.elements.value in
    let o = c.in-Lists.offsets in
    let e : c.args.self.now ≡ lists d p o = sym c.self.view_is ∙ ap plan_of c.in-Lists.is in
    let u = c.in-Some.whole in
    let k = subst (λ (x : Option Whole). CutsWhole o here is (Ok x)) c.in-Some.is c.in_ok-whole-in-Lists.ensures in
    let z = cut_read o (arrived here) is u.cut u.rows.first u.rows.mask k.0 k.1 in
    let same = read_mask o (arrived here) is u.cut.offsets.items u.rows.first u.rows.mask z in
    cut_count o (arrived here) u.cut.first (length u.cut.mask + 1) u.cut.offsets.items (k.0).offsets

pub PlanNode::read-lists_of-requires-clause-rises : goal.PlanNode::read-lists_of-requires-clause-rises
PlanNode::read-lists_of-requires-clause-rises t c =
    let here = came c.args.inbox.now in
    let is = true_rows c.args.first c.args.mask.now in
    let n = c.args.first + length c.args.mask.now in
    let d = c.in-Lists.dtype.value in
    let p = c.in-Lists.elements.value in
    let o = c.in-Lists.offsets in
    let e : c.args.self.now ≡ lists d p o = sym c.self.view_is ∙ ap plan_of c.in-Lists.is in
    let u = c.in-Some.whole in
    let k = subst (λ (x : Option Whole). CutsWhole o here is (Ok x)) c.in-Some.is c.in_ok-whole-in-Lists.ensures in
    let z = cut_read o (arrived here) is u.cut u.rows.first u.rows.mask k.0 k.1 in
    let same = read_mask o (arrived here) is u.cut.offsets.items u.rows.first u.rows.mask z in
    climbs_rises o.elements 0 u.cut.offsets.items ((k.0).offsets).climbs

pub PlanNode::read-lists_of-requires-clause-among : goal.PlanNode::read-lists_of-requires-clause-among
PlanNode::read-lists_of-requires-clause-among t c =
    let here = came c.args.inbox.now in
    let is = true_rows c.args.first c.args.mask.now in
    let n = c.args.first + length c.args.mask.now in
    let d = c.in-Lists.dtype.value in
    let p = c.in-Lists.elements.value in
    let o = c.in-Lists.offsets in
    let e : c.args.self.now ≡ lists d p o = sym c.self.view_is ∙ ap plan_of c.in-Lists.is in
    let u = c.in-Some.whole in
    let k = subst (λ (x : Option Whole). CutsWhole o here is (Ok x)) c.in-Some.is c.in_ok-whole-in-Lists.ensures in
    let z = cut_read o (arrived here) is u.cut u.rows.first u.rows.mask k.0 k.1 in
    let same = read_mask o (arrived here) is u.cut.offsets.items u.rows.first u.rows.mask z in
    let v : AreValues p here (element_rows o (arrived here) is) c.in_ok-column-in-Some.column = subst (λ (js : List ℕ). AreValues p here js c.in_ok-column-in-Some.column) (sym same) (search (rules, c.in_ok-column-in-Some.ensures, c.deref-in-Some.ensures)) in
    let ns : List ℕ = u.cut.offsets.items in
    let long = read_long p o here is ns u.rows.first u.rows.mask c.in_ok-column-in-Some.column z v in
    (z.begins, omega (arith, long, z.ends))

pub PlanNode::read-returns-in-None : goal.PlanNode::read-returns-in-None
PlanNode::read-returns-in-None t c =
    let here = came c.args.inbox.now in
    let is = true_rows c.args.first c.args.mask.now in
    let n = c.args.first + length c.args.mask.now in
    let d = c.in-Lists.dtype.value in
    let p = c.in-Lists.elements.value in
    let o = c.in-Lists.offsets in
    let e : c.args.self.now ≡ lists d p o = sym c.self.view_is ∙ ap plan_of c.in-Lists.is in
    let none = subst (λ (x : Option Whole). CutsWhole o here is (Ok x)) c.in-None.is c.in_ok-whole-in-Lists.ensures in
    rw e (none_given d p o here is c.no_lists.result none (search (rules, c.no_lists.ensures)))

pub PlanNode::read-read_lengths-requires : goal.PlanNode::read-read_lengths-requires
PlanNode::read-read_lengths-requires t c =
    let here = came c.args.inbox.now in
    let is = true_rows c.args.first c.args.mask.now in
    let n = c.args.first + length c.args.mask.now in
    let o = c.in-Lengths.offsets in
    let e : c.args.self.now ≡ lengths o = sym c.self.view_is ∙ ap plan_of c.in-Lengths.is in
    let w : Within (lengths o) n = subst (λ (x : PlanTree). Within x n) e c.requires in
    search (rules, w)

pub PlanNode::read-returns-in-Lengths : goal.PlanNode::read-returns-in-Lengths
PlanNode::read-returns-in-Lengths t c =
    let o = c.in-Lengths.offsets in
    let e : c.args.self.now ≡ lengths o = sym c.self.view_is ∙ ap plan_of c.in-Lengths.is in
    rw e c.read_lengths.ensures

pub PlanNode::read-read-requires-in-Valid : goal.PlanNode::read-read-requires-in-Valid
PlanNode::read-read-requires-in-Valid t c =
    let here = came c.args.inbox.now in
    let is = true_rows c.args.first c.args.mask.now in
    let n = c.args.first + length c.args.mask.now in
    let p = c.in-Valid.values.value in
    let v = c.in-Valid.validity.value in
    let e : c.args.self.now ≡ valid p v = sym c.self.view_is ∙ ap plan_of c.in-Valid.is in
    let w : Within (valid p v) n = subst (λ (x : PlanTree). Within x n) e c.requires in
    let own : Within c.deref-in-Valid.result.now n = subst (λ (x : PlanTree). Within x n) (sym c.deref-in-Valid.ensures) w.0 in
    let sized : tree_size c.deref-in-Valid.result.now + 1 ≤ tree_size c.args.self.now = subst (λ (x : PlanTree). tree_size x + 1 ≤ tree_size c.args.self.now) (sym c.deref-in-Valid.ensures) (subst (λ (x : PlanTree). tree_size v + 1 ≤ tree_size x) (sym e) (omega arith)) in
    (search (rules, sized), own)

pub PlanNode::read-read-requires-in-Valid-2 : goal.PlanNode::read-read-requires-in-Valid-2
PlanNode::read-read-requires-in-Valid-2 t c =
    let here = came c.args.inbox.now in
    let is = true_rows c.args.first c.args.mask.now in
    let n = c.args.first + length c.args.mask.now in
    let p = c.in-Valid.values.value in
    let v = c.in-Valid.validity.value in
    let e : c.args.self.now ≡ valid p v = sym c.self.view_is ∙ ap plan_of c.in-Valid.is in
    let w : Within (valid p v) n = subst (λ (x : PlanTree). Within x n) e c.requires in
    let own : Within c.deref-in-Valid-2.result.now n = subst (λ (x : PlanTree). Within x n) (sym c.deref-in-Valid-2.ensures) w.1 in
    let sized : tree_size c.deref-in-Valid-2.result.now + 1 ≤ tree_size c.args.self.now = subst (λ (x : PlanTree). tree_size x + 1 ≤ tree_size c.args.self.now) (sym c.deref-in-Valid-2.ensures) (subst (λ (x : PlanTree). tree_size p + 1 ≤ tree_size x) (sym e) (omega arith)) in
    (search (rules, sized), own)

pub PlanNode::read-returns-in_err-validity-in-Valid : goal.PlanNode::read-returns-in_err-validity-in-Valid
PlanNode::read-returns-in_err-validity-in-Valid t c =
    let here = came c.args.inbox.now in
    let is = true_rows c.args.first c.args.mask.now in
    let n = c.args.first + length c.args.mask.now in
    let p = c.in-Valid.values.value in
    let v = c.in-Valid.validity.value in
    let e : c.args.self.now ≡ valid p v = sym c.self.view_is ∙ ap plan_of c.in-Valid.is in
    let q = err_from_is_err_and c.from_residual-in_err-validity-in-Valid.result c.from_residual-in_err-validity-in-Valid.ensures.1 in
    let fault = c.in_err-validity-in-Valid.field-0.0 in
    let own = subst (λ (x : PlanTree). Reads x here is (Err fault)) c.deref-in-Valid.ensures c.in_err-validity-in-Valid.ensures in
    rw (q.1, q.2) (subst (λ (x : PlanTree). Reads x here is (Err fault)) (sym e) (validity_fault p v here is fault own))

pub PlanNode::read-returns-in_err-column-in-Valid : goal.PlanNode::read-returns-in_err-column-in-Valid
PlanNode::read-returns-in_err-column-in-Valid t c =
    let here = came c.args.inbox.now in
    let is = true_rows c.args.first c.args.mask.now in
    let n = c.args.first + length c.args.mask.now in
    let p = c.in-Valid.values.value in
    let v = c.in-Valid.validity.value in
    let e : c.args.self.now ≡ valid p v = sym c.self.view_is ∙ ap plan_of c.in-Valid.is in
    let q = err_from_is_err_and c.from_residual-in_err-column-in-Valid.result c.from_residual-in_err-column-in-Valid.ensures.1 in
    let fault = c.in_err-column-in-Valid.field-0.0 in
    let own = subst (λ (x : PlanTree). Reads x here is (Err fault)) c.deref-in-Valid-2.ensures c.in_err-column-in-Valid.ensures in
    rw (q.1, q.2) (subst (λ (x : PlanTree). Reads x here is (Err fault)) (sym e) (values_fault p v here is fault own))

pub PlanNode::read-validated-requires-clause-dtype : goal.PlanNode::read-validated-requires-clause-dtype
PlanNode::read-validated-requires-clause-dtype t c =
    let here = came c.args.inbox.now in
    let is = true_rows c.args.first c.args.mask.now in
    let n = c.args.first + length c.args.mask.now in
    let p = c.in-Valid.values.value in
    let v = c.in-Valid.validity.value in
    let e : c.args.self.now ≡ valid p v = sym c.self.view_is ∙ ap plan_of c.in-Valid.is in
    let first : AreValues v here is c.in_ok-validity-in-Valid.validity = subst (λ (x : PlanTree). AreValues x here is c.in_ok-validity-in-Valid.validity) c.deref-in-Valid.ensures c.in_ok-validity-in-Valid.ensures in
    let f : IsNode (valid p v) = subst (λ (x : Kind). IsNode (plan_of x)) c.in-Valid.is c.self.invariant in
    first.dtype ∙ f

pub PlanNode::read-validated-requires-clause-length : goal.PlanNode::read-validated-requires-clause-length
PlanNode::read-validated-requires-clause-length t c =
    let here = came c.args.inbox.now in
    let is = true_rows c.args.first c.args.mask.now in
    let n = c.args.first + length c.args.mask.now in
    let p = c.in-Valid.values.value in
    let v = c.in-Valid.validity.value in
    let e : c.args.self.now ≡ valid p v = sym c.self.view_is ∙ ap plan_of c.in-Valid.is in
    let first : AreValues v here is c.in_ok-validity-in-Valid.validity = subst (λ (x : PlanTree). AreValues x here is c.in_ok-validity-in-Valid.validity) c.deref-in-Valid.ensures c.in_ok-validity-in-Valid.ensures in
    let own : AreValues p here is c.in_ok-column-in-Valid.column = subst (λ (x : PlanTree). AreValues x here is c.in_ok-column-in-Valid.column) c.deref-in-Valid-2.ensures c.in_ok-column-in-Valid.ensures in
    values_long v here c.args.first c.args.mask.now c.in_ok-validity-in-Valid.validity first ∙ sym (values_long p here c.args.first c.args.mask.now c.in_ok-column-in-Valid.column own)

pub PlanNode::read-returns-in_ok-column-in-Valid : goal.PlanNode::read-returns-in_ok-column-in-Valid
PlanNode::read-returns-in_ok-column-in-Valid t c =
    let here = came c.args.inbox.now in
    let is = true_rows c.args.first c.args.mask.now in
    let n = c.args.first + length c.args.mask.now in
    let p = c.in-Valid.values.value in
    let v = c.in-Valid.validity.value in
    let e : c.args.self.now ≡ valid p v = sym c.self.view_is ∙ ap plan_of c.in-Valid.is in
    let first : AreValues v here is c.in_ok-validity-in-Valid.validity = subst (λ (x : PlanTree). AreValues x here is c.in_ok-validity-in-Valid.validity) c.deref-in-Valid.ensures c.in_ok-validity-in-Valid.ensures in
    let own : AreValues p here is c.in_ok-column-in-Valid.column = subst (λ (x : PlanTree). AreValues x here is c.in_ok-column-in-Valid.column) c.deref-in-Valid-2.ensures c.in_ok-column-in-Valid.ensures in
    rw e (c.validated.ensures p v here is first own)

pub PlanNode::read-returns-in_err-column-in-ByLengths : goal.PlanNode::read-returns-in_err-column-in-ByLengths
PlanNode::read-returns-in_err-column-in-ByLengths t c =
    let here = came c.args.inbox.now in
    let is = true_rows c.args.first c.args.mask.now in
    let b = c.in-ByLengths.field-0 in
    let l = c.in-ByLengths.over_lengths in
    let p = c.in-ByLengths.node.value in
    let e : c.args.self.now ≡ by_lengths b.scope b.expr l.scope l.expr p = sym c.self.view_is ∙ ap plan_of c.in-ByLengths.is in
    let q = err_from_is_err_and c.from_residual-in_err-column-in-ByLengths.result c.from_residual-in_err-column-in-ByLengths.ensures.1 in
    let fault = c.in_err-column-in-ByLengths.field-0.0 in
    let own = subst (λ (x : PlanTree). Reads x here is (Err fault)) c.deref-in-ByLengths.ensures c.in_err-column-in-ByLengths.ensures in
    rw (q.1, q.2) (subst (λ (x : PlanTree). Reads x here is (Err fault)) (sym e) (by_lengths_passes b.scope b.expr l.scope l.expr p here is fault own))

pub PlanNode::read-evaluated-requires-in-ByLengths-clause-scope : goal.PlanNode::read-evaluated-requires-in-ByLengths-clause-scope
PlanNode::read-evaluated-requires-in-ByLengths-clause-scope t c =
    let b = c.in-ByLengths.field-0 in
    let l = c.in-ByLengths.over_lengths in
    let p = c.in-ByLengths.node.value in
    let here = came c.args.inbox.now in
    let is = true_rows c.args.first c.args.mask.now in
    let k : IsNode (by_lengths b.scope b.expr l.scope l.expr p) = subst (λ (x : Kind). IsNode (plan_of x)) c.in-ByLengths.is c.self.invariant in
    let v : AreValues p here is c.in_ok-column-in-ByLengths.column = subst (λ (x : PlanTree). AreValues x here is c.in_ok-column-in-ByLengths.column) c.deref-in-ByLengths.ensures c.in_ok-column-in-ByLengths.ensures in
    v.dtype ∙ k.0

pub PlanNode::read-evaluated-requires-in-ByLengths-clause-rows : goal.PlanNode::read-evaluated-requires-in-ByLengths-clause-rows
PlanNode::read-evaluated-requires-in-ByLengths-clause-rows t c =
    let b = c.in-ByLengths.field-0 in
    let l = c.in-ByLengths.over_lengths in
    let p = c.in-ByLengths.node.value in
    let k : IsNode (by_lengths b.scope b.expr l.scope l.expr p) = subst (λ (x : Kind). IsNode (plan_of x)) c.in-ByLengths.is c.self.invariant in
    (k.2).unnumbered

pub PlanNode::read-returns-in_ok-column-in-ByLengths : goal.PlanNode::read-returns-in_ok-column-in-ByLengths
PlanNode::read-returns-in_ok-column-in-ByLengths t c =
    let b = c.in-ByLengths.field-0 in
    let l = c.in-ByLengths.over_lengths in
    let p = c.in-ByLengths.node.value in
    let here = came c.args.inbox.now in
    let is = true_rows c.args.first c.args.mask.now in
    let k : IsNode (by_lengths b.scope b.expr l.scope l.expr p) = subst (λ (x : Kind). IsNode (plan_of x)) c.in-ByLengths.is c.self.invariant in
    let e : c.args.self.now ≡ by_lengths b.scope b.expr l.scope l.expr p = sym c.self.view_is ∙ ap plan_of c.in-ByLengths.is in
    let v : AreValues p here is c.in_ok-column-in-ByLengths.column = subst (λ (x : PlanTree). AreValues x here is c.in_ok-column-in-ByLengths.column) c.deref-in-ByLengths.ensures c.in_ok-column-in-ByLengths.ensures in
    rw e (by_lengths_reads b.scope b.expr l.scope l.expr k.2 p here is c.in_ok-column-in-ByLengths.column c.evaluated-in-ByLengths.result k.1 k.0 v (c.evaluated-in-ByLengths.ensures p here is v))

pub PlanNode::read-returns-in-Numbers : goal.PlanNode::read-returns-in-Numbers
PlanNode::read-returns-in-Numbers t c =
    let here = came c.args.inbox.now in
    let e : c.args.self.now ≡ numbers c.in-Numbers.number = sym c.self.view_is ∙ ap plan_of c.in-Numbers.is in
    let own = subst (λ (bits : List Bool). Reads (numbers c.in-Numbers.number) here (true_rows c.args.first bits) c.numbered.result) c.as_slice-in-Numbers.ensures (c.numbered.ensures here) in
    subst (λ (x : PlanTree). Reads x here (true_rows c.args.first c.args.mask.now) c.numbered.result) (sym e) own
