use Rattle.std.specs.Vec.Iter.{into_iter_items, into_iter_len}
use Rattle.scan_run.proofs.Stopping.{all_made}
use Rattle.scan_run.proofs.run.make_files.Goals as goal

pub returns : goal.returns
returns c =
    let l = c.loop-spec in
    all_made c.args.files l.made.items (into_iter_items l.spec-iterator) (into_iter_len l.spec-iterator) l.invariant.len c.in-None.ensures.steps.0 l.invariant.made
