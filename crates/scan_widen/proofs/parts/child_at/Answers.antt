use Rattle.std.proofs.Common.{rules, arith, ◌≡◌, ◌<◌, length, ap, sym, ◌∙◌}
use Rattle.scan_layout.specs.Layout.{nodes, kids_of, count}
use Rattle.scan_layout.specs.LayoutView.{layouts_of}
use Rattle.scan_layout.proofs.Kids.{count_nodes}
use Rattle.scan_widen.specs.Under.{kid_at}
use Rattle.scan_widen.proofs.Forming.{kid_is}
use Rattle.scan_widen.proofs.parts.child_at.Goals as goal

pub bounds-as_slice-index : goal.bounds-as_slice-index
bounds-as_slice-index c =
    let kids : kids_of c.args.node.now ≡ nodes (layouts_of c.as_slice.result.now) = ap kids_of (sym c.node.view_is) ∙ ap nodes (sym c.as_slice.ensures) in
    let all : count (kids_of c.args.node.now) ≡ length c.as_slice.result.now = ap count kids ∙ count_nodes c.as_slice.result.now in
    omega (arith, all, c.requires)

pub offset_bounds-as_slice-index : goal.offset_bounds-as_slice-index
offset_bounds-as_slice-index c =
    let kids : kids_of c.args.node.now ≡ nodes (layouts_of c.as_slice.result.now) = ap kids_of (sym c.node.view_is) ∙ ap nodes (sym c.as_slice.ensures) in
    let all : count (kids_of c.args.node.now) ≡ length c.as_slice.result.now = ap count kids ∙ count_nodes c.as_slice.result.now in
    let below : c.args.index < length c.as_slice.result.now = omega (arith, all, c.requires) in
    search (rules, below)

pub returns : goal.returns
returns c =
    let kids : kids_of c.args.node.now ≡ nodes (layouts_of c.as_slice.result.now) = ap kids_of (sym c.node.view_is) ∙ ap nodes (sym c.as_slice.ensures) in
    let all : count (kids_of c.args.node.now) ≡ length c.as_slice.result.now = ap count kids ∙ count_nodes c.as_slice.result.now in
    let below : c.args.index < length c.as_slice.result.now = omega (arith, all, c.requires) in
    c.deref.ensures ∙ kid_is c.as_slice.result.now c.args.index c.index-as_slice-index.result below c.index-as_slice-index.is ∙ ap (λ ks. kid_at ks c.args.index) (sym kids)
