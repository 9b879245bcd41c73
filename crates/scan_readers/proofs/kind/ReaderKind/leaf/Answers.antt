use Rattle.std.proofs.Common.{◌≡◌, true, false, ap, sym, ◌∙◌}
use Rattle.scan_readers.specs.KindView.{layout_of}
use Rattle.scan_readers.specs.LeafPlans.{is_leaf}
use Rattle.scan_readers.proofs.kind.ReaderKind.leaf.Goals as goal

pub unreachable-requires : goal.unreachable-requires
unreachable-requires c = (let z : true ≡ false = sym c.requires ∙ ap (λ k. is_leaf (layout_of k)) c.in-Nested.is ∙ c.layout-own.ensures.nested in cc)
