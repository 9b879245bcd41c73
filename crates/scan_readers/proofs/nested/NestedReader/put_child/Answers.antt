use Rattle.std.proofs.Common.{arith, ◌≡◌, ◌<◌, Some, length, ap, sym, subst}
use Rattle.scan_layout.specs.Layout.{kids_of}
use Rattle.scan_layout.specs.Slots.{nth_kid}
use Rattle.scan_readers.specs.KindView.{layout_of}
use Rattle.scan_readers.specs.StructData.{StructData, struct_data}
use Rattle.scan_readers.proofs.Making.{kid_within, set_all, put_reader}
use Rattle.scan_readers.proofs.nested.NestedReader.put_child.Goals as goal

pub index_mut-requires : goal.index_mut-requires
index_mut-requires c =
    let kid : nth_kid (kids_of c.self.inside.layout.value) c.args.index ≡ Some (layout_of c.args.child) = (let P : StructData → Type 0 = λ v. nth_kid (kids_of v.layout) c.args.index ≡ Some (layout_of c.args.child) in subst P (sym c.self.view_is) c.requires) in
    let below : c.args.index < length c.self.inside.children.items = kid_within (kids_of c.self.inside.layout.value) c.self.inside.children.items c.args.index (layout_of c.args.child) c.self.invariant.kids kid in
    omega (arith, below, c.self.inside.children.ok.0)

pub invariant_of-self : goal.invariant_of-self
invariant_of-self c =
    let kid : nth_kid (kids_of c.self.inside.layout.value) c.args.index ≡ Some (layout_of c.args.child) = (let P : StructData → Type 0 = λ v. nth_kid (kids_of v.layout) c.args.index ≡ Some (layout_of c.args.child) in subst P (sym c.self.view_is) c.requires) in
    put_reader c.self.inside.layout.value c.self.inside.children.items c.args.index c.args.child c.self.invariant kid

pub returns : goal.returns
returns c = rw (← c.self.view_is) (ap (struct_data c.self.inside.layout.value) (set_all c.self.inside.children.items c.args.index (Some c.args.child)))
