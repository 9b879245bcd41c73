use Rattle.std.proofs.Common.{rules, arith, ◌≡◌, ◌<◌, length, ap, sym, ◌∙◌}
use Rattle.scan_layout.specs.Layout.{nodes, kids_of, count}
use Rattle.scan_layout.specs.LayoutView.{layouts_of}
use Rattle.scan_layout.proofs.Kids.{count_nodes}
use Rattle.scan_readers.proofs.Making.{kid_of}
use Rattle.scan_readers.proofs.nested.child_layout.Goals as goal

pub bounds-as_slice-index : goal.bounds-as_slice-index
bounds-as_slice-index c =
    let kids : kids_of c.args.layout.now.value ≡ nodes (layouts_of c.as_slice.result.now) = ap kids_of (sym (c.behind-layout.view_is ∙ c.deref.ensures)) ∙ ap nodes (sym c.as_slice.ensures) in
    let all : count (kids_of c.args.layout.now.value) ≡ length c.as_slice.result.now = ap count kids ∙ count_nodes c.as_slice.result.now in
    omega (arith, all, c.requires)

pub offset_bounds-as_slice-index : goal.offset_bounds-as_slice-index
offset_bounds-as_slice-index c =
    let kids : kids_of c.args.layout.now.value ≡ nodes (layouts_of c.as_slice.result.now) = ap kids_of (sym (c.behind-layout.view_is ∙ c.deref.ensures)) ∙ ap nodes (sym c.as_slice.ensures) in
    let all : count (kids_of c.args.layout.now.value) ≡ length c.as_slice.result.now = ap count kids ∙ count_nodes c.as_slice.result.now in
    let below : c.args.index < length c.as_slice.result.now = omega (arith, all, c.requires) in
    search (rules, below)

pub returns : goal.returns
returns c =
    let kids : kids_of c.args.layout.now.value ≡ nodes (layouts_of c.as_slice.result.now) = ap kids_of (sym (c.behind-layout.view_is ∙ c.deref.ensures)) ∙ ap nodes (sym c.as_slice.ensures) in
    let all : count (kids_of c.args.layout.now.value) ≡ length c.as_slice.result.now = ap count kids ∙ count_nodes c.as_slice.result.now in
    let below : c.args.index < length c.as_slice.result.now = omega (arith, all, c.requires) in
    rw kids (kid_of c.as_slice.result.now c.args.index c.index-as_slice-index.result below c.index-as_slice-index.is)
