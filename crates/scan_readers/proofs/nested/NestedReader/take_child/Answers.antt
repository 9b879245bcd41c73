use Rattle.std.proofs.Common.{arith, ◌≡◌, ◌<◌, None, get_or, ap, sym, subst, ◌∙◌}
use Rattle.std.specs.Prelude.{Option, slice_set}
use Rattle.scan_layout.specs.Layout.{kids_of, count}
use Rattle.scan_readers.specs.declared.kind.ReaderKind.{ReaderKind}
use Rattle.scan_readers.specs.KindView.{IsNestedReader, all_made}
use Rattle.scan_readers.specs.Made.{set_made, width}
use Rattle.scan_readers.specs.StructData.{StructData}
use Rattle.scan_readers.proofs.Making.{as_many, readable_kid, taken_is_of, taken_reader, taken_own, taken_readable, width_all, set_all, on_ok}
use Rattle.scan_readers.proofs.nested.NestedReader.take_child.Goals as goal

pub index_mut-requires : goal.index_mut-requires
index_mut-requires c =
    let P : StructData → Type 0 = λ v. c.args.index < count (kids_of v.layout) in
    let below : c.args.index < count (kids_of c.self.inside.layout.value) = subst P (sym c.self.view_is) c.requires in
    let all = as_many (kids_of c.self.inside.layout.value) c.self.inside.children.items c.self.invariant.kids in
    omega (arith, below, all, c.self.inside.children.ok.0)

pub made_child-requires-clause-readable : goal.made_child-requires-clause-readable
made_child-requires-clause-readable c = readable_kid c.self.inside.layout.value c.child_layout.result.now.value c.args.index c.self.invariant.readable c.child_layout.ensures

pub made_child-requires-clause-of : goal.made_child-requires-clause-of
made_child-requires-clause-of c =
    let os = c.self.inside.children.items in
    let here : c.take-child.result ≡ get_or os c.args.index c.take-child.result = c.take-child.ensures.value ∙ c.index_mut.ensures.value ∙ ap (λ (d : Option ReaderKind). get_or os c.args.index d) (sym c.take-child.ensures.value) in
    taken_is_of c.self.inside.layout.value os c.args.index c.take-child.result c.self.invariant here c.child_layout.result.now.value c.child_layout.ensures

pub invariant_of-self : goal.invariant_of-self
invariant_of-self c =
    let l = c.self.inside.layout.value in
    let os = c.self.inside.children.items in
    let here : c.take-child.result ≡ get_or os c.args.index c.take-child.result = c.take-child.ensures.value ∙ c.index_mut.ensures.value ∙ ap (λ (d : Option ReaderKind). get_or os c.args.index d) (sym c.take-child.ensures.value) in
    subst (λ (z : Option ReaderKind). IsNestedReader l (slice_set os c.args.index z)) (sym c.take-child.ensures.after) (taken_reader l os c.args.index c.take-child.result c.self.invariant here)

pub returns-clause-own : goal.returns-clause-own
returns-clause-own c =
    let l = c.self.inside.layout.value in
    let os = c.self.inside.children.items in
    let here : c.take-child.result ≡ get_or os c.args.index c.take-child.result = c.take-child.ensures.value ∙ c.index_mut.ensures.value ∙ ap (λ (d : Option ReaderKind). get_or os c.args.index d) (sym c.take-child.ensures.value) in
    rw (← c.self.view_is) (taken_own l os c.args.index c.take-child.result c.self.invariant here c.made_child.result c.child_layout.result.now.value c.child_layout.ensures c.made_child.ensures.layout c.made_child.ensures.made)

pub returns-clause-out : goal.returns-clause-out
returns-clause-out c =
    let os = c.self.inside.children.items in
    rw (← c.self.view_is) (on_ok (all_made (slice_set os c.args.index c.take-child.new.self) ≡ set_made (all_made os) c.args.index None) c.made_child.result (ap (λ (z : Option ReaderKind). all_made (slice_set os c.args.index z)) c.take-child.ensures.after ∙ set_all os c.args.index None))

pub returns-clause-wide : goal.returns-clause-wide
returns-clause-wide c =
    let P : StructData → Type 0 = λ v. c.args.index < count (kids_of v.layout) in
    let below : c.args.index < count (kids_of c.self.inside.layout.value) = subst P (sym c.self.view_is) c.requires in
    let all = as_many (kids_of c.self.inside.layout.value) c.self.inside.children.items c.self.invariant.kids in
    let wide : c.args.index < width (all_made c.self.inside.children.items) = (let w = width_all c.self.inside.children.items in omega (arith, below, all, w)) in
    rw (← c.self.view_is) wide

pub returns-clause-readable : goal.returns-clause-readable
returns-clause-readable c = taken_readable c.made_child.result c.child_layout.result.now.value (readable_kid c.self.inside.layout.value c.child_layout.result.now.value c.args.index c.self.invariant.readable c.child_layout.ensures) c.made_child.ensures.layout
