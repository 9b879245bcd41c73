use Rattle.std.proofs.Common.{◌<◌, arith, length}
use Rattle.scan_multi_sources.proofs.Moving.{asks_at}
use Rattle.scan_multi_sources.proofs.child.poll_child.Goals as goal

pub returns : goal.returns
returns g c =
    let within : c.args.place < length c.args.children.now.items = omega (arith, c.if-len-place.false, c.len.ensures, c.args.children.now.ok.0) in
    asks_at g.O.LayoutReaderFactory.opener c.args.children.now.items c.args.place c.index_mut-child.result.now c.poll_open.new.self c.poll_open.result within c.index_mut-child.ensures.value c.poll_open.ensures
