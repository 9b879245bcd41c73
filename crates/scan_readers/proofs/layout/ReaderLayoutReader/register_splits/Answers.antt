use Rattle.scan_layout.specs.Layout.{dtype_of}
use Rattle.scan_readers.specs.KindView.{layout_of}
use Rattle.scan_readers.proofs.Naming.{none_missed}
use Rattle.scan_readers.proofs.layout.ReaderLayoutReader.register_splits.Goals as goal

pub returns-clause-first : goal.returns-clause-first
returns-clause-first g c = rw (← c.self.view_is) (c.register_splits.ensures.first c.self.inside.name)

pub returns-clause-named : goal.returns-clause-named
returns-clause-named g c =
    let l = layout_of c.self.inside.kind in
    rw (← c.self.view_is) (none_missed l (dtype_of l) c.args.masks.now c.self.invariant.readable.form)

pub returns-clause-pushed : goal.returns-clause-pushed
returns-clause-pushed g c = rw (← c.self.view_is) (c.register_splits.ensures.pushed c.self.inside.name)
