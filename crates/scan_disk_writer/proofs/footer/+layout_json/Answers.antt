use Rattle.std.proofs.Common.{◌+◌, ◌∙◌, drop, map, sym, ap, subst, arith}
use Rattle.std.proofs.lemmas.List.{drop_all}
use Rattle.serde_json.specs.Data.{array}
use Rattle.serde_json.proofs.Views.{view-Array}
use Rattle.serde_json.specs.View.{items_of}
use Rattle.scan_layout.specs.Layout.{node, nodes, layout_size}
use Rattle.scan_layout.specs.LayoutView.{layouts_of}
use Rattle.scan_layout.proofs.Sizes.{child_below}
use Rattle.scan_disk_writer.specs.FileBytes.{SegmentIdsFit, IdsFit, AllIdsFit}
use Rattle.scan_disk_writer.specs.Json.{json_of_layout}
use Rattle.scan_disk_writer.proofs.Jsons.{item_at, step_one, step_end, json_as, holds_as, leaf_read, struct_node_read, list_node_read, leaf_ids, struct_ids, list_ids, kids_fall, kid_ids}
use Rattle.scan_disk_writer.proofs.footer.+layout_json.Goals as goal

-- ---- each kind
pub layout_json-struct_json-requires : goal.layout_json-struct_json-requires
layout_json-struct_json-requires t c =
    let is = ap (λ ls. node c.layout.inside.dtype c.layout.inside.row_count c.layout.inside.kind (nodes ls)) c.as_slice-children.ensures ∙ c.layout.view_is in
    let s = kids_fall c.args.layout.now c.layout.inside.dtype c.layout.inside.row_count c.layout.inside.kind (layouts_of c.as_slice-children.result.now) is in
    (omega (arith, s), tt)

pub layout_json-list_json-requires : goal.layout_json-list_json-requires
layout_json-list_json-requires t c =
    let is = ap (λ ls. node c.layout.inside.dtype c.layout.inside.row_count c.layout.inside.kind (nodes ls)) c.as_slice-children.ensures ∙ c.layout.view_is in
    let s = kids_fall c.args.layout.now c.layout.inside.dtype c.layout.inside.row_count c.layout.inside.kind (layouts_of c.as_slice-children.result.now) is in
    (omega (arith, s), tt)

pub layout_json-returns-in-Struct-clause-json : goal.layout_json-returns-in-Struct-clause-json
layout_json-returns-in-Struct-clause-json t c =
    let is = ap (λ ls. node c.layout.inside.dtype c.layout.inside.row_count c.layout.inside.kind (nodes ls)) c.as_slice-children.ensures ∙ c.layout.view_is in
    json_as c.struct_json.result _ _ (struct_node_read c.args.layout.now c.layout.inside.dtype c.layout.inside.row_count c.layout.inside.kind (layouts_of c.as_slice-children.result.now) is c.in-Struct.is)
    c.struct_json.ensures.json

pub layout_json-returns-in-Struct-clause-ids : goal.layout_json-returns-in-Struct-clause-ids
layout_json-returns-in-Struct-clause-ids t c =
    let is = ap (λ ls. node c.layout.inside.dtype c.layout.inside.row_count c.layout.inside.kind (nodes ls)) c.as_slice-children.ensures ∙ c.layout.view_is in
    holds_as c.struct_json.result (AllIdsFit (nodes (layouts_of c.as_slice-children.result.now))) (IdsFit c.args.layout.now)
    (struct_ids c.args.layout.now c.layout.inside.dtype c.layout.inside.row_count c.layout.inside.kind (layouts_of c.as_slice-children.result.now) is c.in-Struct.is) c.struct_json.ensures.ids

pub layout_json-returns-in-List-clause-json : goal.layout_json-returns-in-List-clause-json
layout_json-returns-in-List-clause-json t c =
    let is = ap (λ ls. node c.layout.inside.dtype c.layout.inside.row_count c.layout.inside.kind (nodes ls)) c.as_slice-children.ensures ∙ c.layout.view_is in
    json_as c.list_json.result _ _ (list_node_read c.args.layout.now c.layout.inside.dtype c.layout.inside.row_count c.layout.inside.kind (layouts_of c.as_slice-children.result.now) is c.in-List.p c.in-List.is)
    c.list_json.ensures.json

pub layout_json-returns-in-List-clause-ids : goal.layout_json-returns-in-List-clause-ids
layout_json-returns-in-List-clause-ids t c =
    let is = ap (λ ls. node c.layout.inside.dtype c.layout.inside.row_count c.layout.inside.kind (nodes ls)) c.as_slice-children.ensures ∙ c.layout.view_is in
    holds_as c.list_json.result (AllIdsFit (nodes (layouts_of c.as_slice-children.result.now))) (IdsFit c.args.layout.now)
    (list_ids c.args.layout.now c.layout.inside.dtype c.layout.inside.row_count c.layout.inside.kind (layouts_of c.as_slice-children.result.now) is c.in-List.p c.in-List.is) c.list_json.ensures.ids

pub layout_json-returns-in-Leaf-clause-json : goal.layout_json-returns-in-Leaf-clause-json
layout_json-returns-in-Leaf-clause-json t c =
    let is = ap (λ ls. node c.layout.inside.dtype c.layout.inside.row_count c.layout.inside.kind (nodes ls)) c.as_slice-children.ensures ∙ c.layout.view_is in
    json_as c.leaf_json.result _ _ (leaf_read c.args.layout.now c.layout.inside.dtype c.layout.inside.row_count c.layout.inside.kind (layouts_of c.as_slice-children.result.now) is c.in-Leaf.segments c.in-Leaf.spelling c.in-Leaf.is)
    (rw c.as_slice.ensures at c.leaf_json.ensures.json)

pub layout_json-returns-in-Leaf-clause-ids : goal.layout_json-returns-in-Leaf-clause-ids
layout_json-returns-in-Leaf-clause-ids t c =
    let is = ap (λ ls. node c.layout.inside.dtype c.layout.inside.row_count c.layout.inside.kind (nodes ls)) c.as_slice-children.ensures ∙ c.layout.view_is in
    holds_as c.leaf_json.result (SegmentIdsFit c.as_slice.result.now) (IdsFit c.args.layout.now)
    (λ f. leaf_ids c.args.layout.now c.layout.inside.dtype c.layout.inside.row_count c.layout.inside.kind (layouts_of c.as_slice-children.result.now) is c.in-Leaf.segments c.in-Leaf.spelling c.in-Leaf.is
    (subst SegmentIdsFit c.as_slice.ensures f)) c.leaf_json.ensures.ids

-- ---- children
pub children_json-layout_json-requires : goal.children_json-layout_json-requires
children_json-layout_json-requires t c =
    let s = child_below c.args.children.now c.loop-child.child-index c.child-item.result (omega arith) in
    let e = ap layout_size c.deref.ensures in
    let g = ap (λ r. layout_size r.value) c.child-item.is in
    (omega (arith, s, e, g), tt)

pub children_json-loop-child-preserved : goal.children_json-loop-child-preserved
children_json-loop-child-preserved t c =
    let rs = c.args.children.now in
    let i = c.loop-child.child-index in
    let d = item_at rs i c.child-item.result (omega arith) c.child-item.is in
    record {
      same = step_one json_of_layout c.loop-child.made.items c.push.new.self.items c.in_ok-json.json (layouts_of (drop i rs)) (layouts_of (drop (i + 1) rs)) c.child-item.result.value
          (map json_of_layout (layouts_of rs)) c.in_ok-push.ensures.items (c.in_ok-json.ensures.json ∙ ap json_of_layout c.deref.ensures) (ap layouts_of d) c.loop-child.invariant.same;
      ids = kid_ids rs i c.child-item.result c.deref.result.now d c.deref.ensures c.in_ok-json.ensures.ids c.loop-child.invariant.ids;
    }

pub children_json-returns-clause-json : goal.children_json-returns-clause-json
children_json-returns-clause-json t c =
    let rs = c.args.children.now in
    view-Array c.loop-child.made
    ∙ ap (λ z. array (items_of z))
    (step_end json_of_layout c.loop-child.made.items (layouts_of (drop c.loop-child.child-index rs)) (map json_of_layout (layouts_of rs))
    (ap layouts_of (drop_all c.loop-child.child-index rs (omega arith))) c.loop-child.invariant.same)

pub children_json-returns-clause-ids : goal.children_json-returns-clause-ids
children_json-returns-clause-ids t c =
    c.loop-child.invariant.ids (subst (λ z. AllIdsFit (nodes (layouts_of z))) (sym (drop_all c.loop-child.child-index c.args.children.now (omega arith))) tt)
