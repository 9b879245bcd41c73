use Rattle.std.proofs.Common.{◌≡◌, ◌++◌}
use Rattle.std.specs.Prelude.{codes}
use Rattle.scan_lines.specs.Line.{comma, quoted}
use Rattle.scan_lines.proofs.Puts.{writes_then, found}
use Rattle.scan_lines.proofs.head.put_head.Goals as goal

pub returns : goal.returns
returns c =
    let a = found (comma c.args.is_first) c.args.buf.now c.put_comma.new.buf c.args.at c.in_ok-end.end c.put_comma.result c.put_comma.ensures c.in_ok-end.was in
    let b = found (quoted c.args.name.now) c.put_comma.new.buf c.put_quoted.new.buf c.in_ok-end.end c.in_ok-end-2.end c.put_quoted.result c.put_quoted.ensures c.in_ok-end-2.was in
    writes_then (comma c.args.is_first) (quoted c.args.name.now ++ codes ":") c.args.buf.now c.put_comma.new.buf c.put_bytes.new.buf c.args.at c.in_ok-end.end c.put_bytes.result a
    (writes_then (quoted c.args.name.now) (codes ":") c.put_comma.new.buf c.put_quoted.new.buf c.put_bytes.new.buf c.in_ok-end.end c.in_ok-end-2.end c.put_bytes.result b c.put_bytes.ensures)
