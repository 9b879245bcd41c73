use Rattle.scan_readers.proofs.ListKids.{element_below}
use Rattle.scan_readers.specs.ListKids.{IsList}
use Rattle.scan_readers.specs.StructData.{StructData}
use Rattle.std.proofs.Common.{subst, sym}
use Rattle.scan_readers.proofs.nested.NestedReader.element_count.Goals as goal

pub child_layout-requires : goal.child_layout-requires
child_layout-requires c = element_below c.self.inside.layout.value (let P : StructData → Type 0 = λ v. IsList v.layout in subst P (sym c.self.view_is) c.requires)
