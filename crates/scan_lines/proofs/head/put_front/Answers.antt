use Rattle.std.proofs.Common.{◌≡◌, ◌++◌}
use Rattle.std.specs.Prelude.{codes}
use Rattle.std.specs.Fmt.{decimal}
use Rattle.scan_lines.proofs.Puts.{writes_then, found}
use Rattle.scan_lines.proofs.head.put_front.Goals as goal

pub returns : goal.returns
returns c =
    let a = found (codes "{\"file\":") c.args.buf.now c.put_bytes.new.buf c.args.at c.in_ok-end.end c.put_bytes.result c.put_bytes.ensures c.in_ok-end.was in
    let b = found (decimal c.args.file) c.put_bytes.new.buf c.put_count.new.buf c.in_ok-end.end c.in_ok-end-2.end c.put_count.result c.put_count.ensures c.in_ok-end-2.was in
    writes_then (codes "{\"file\":") (decimal c.args.file ++ codes ",\"row\":") c.args.buf.now c.put_bytes.new.buf c.put_bytes-2.new.buf c.args.at c.in_ok-end.end c.put_bytes-2.result a
    (writes_then (decimal c.args.file) (codes ",\"row\":") c.put_bytes.new.buf c.put_count.new.buf c.put_bytes-2.new.buf c.in_ok-end.end c.in_ok-end-2.end c.put_bytes-2.result b c.put_bytes-2.ensures)
