use Rattle.std.proofs.Common.{rules, ◌≡◌, None, length, replicate, ap, sym, ◌∙◌}
use Rattle.std.specs.Prelude.{Option}
use Rattle.scan_layout.specs.Layout.{nodes, kids_of}
use Rattle.scan_layout.specs.LayoutView.{layouts_of}
use Rattle.scan_readers.specs.declared.kind.ReaderKind.{ReaderKind}
use Rattle.scan_readers.specs.StructData.{struct_data}
use Rattle.scan_readers.proofs.Making.{new_reader, new_made}
use Rattle.scan_readers.proofs.nested.NestedReader.new.Goals as goal

pub invariant_of-result : goal.invariant_of-result
invariant_of-result c =
    let kids : kids_of c.args.layout.now.value ≡ nodes (layouts_of c.as_slice.result.now) = ap kids_of (sym (c.behind-layout.view_is ∙ c.deref.ensures)) ∙ ap nodes (sym c.as_slice.ensures) in
    let same : c.in-Ok.layout.value ≡ c.args.layout.now.value = search rules in
    let none : c.in_ok-children.children.items ≡ replicate {A = Option ReaderKind} (length c.as_slice.result.now) None = search rules in
    new_reader c.args.layout.now.value c.in-Ok.layout.value c.as_slice.result.now c.in_ok-children.children.items same kids none c.requires.readable c.requires.nested

pub returns-in-Ok : goal.returns-in-Ok
returns-in-Ok c =
    let kids : kids_of c.args.layout.now.value ≡ nodes (layouts_of c.as_slice.result.now) = ap kids_of (sym (c.behind-layout.view_is ∙ c.deref.ensures)) ∙ ap nodes (sym c.as_slice.ensures) in
    let same : c.in-Ok.layout.value ≡ c.args.layout.now.value = search rules in
    let none : c.in_ok-children.children.items ≡ replicate {A = Option ReaderKind} (length c.as_slice.result.now) None = search rules in
    λ i. struct_data (same i) (new_made c.args.layout.now.value c.as_slice.result.now c.in_ok-children.children.items kids none i)
