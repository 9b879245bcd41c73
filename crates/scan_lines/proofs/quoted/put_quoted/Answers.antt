use Rattle.std.proofs.Common.{◌≡◌, ◌+◌, ◌<◌, ◌≤◌, ◌++◌, length, take, get_or, subst, arith}
use Rattle.std.specs.Prelude.{codes, Some}
use Rattle.scan_lines.specs.Line.{escaped, quoted}
use Rattle.scan_lines.specs.Writes.{Writes}
use Rattle.scan_lines.proofs.Puts.{writes_then, stopped, found}
use Rattle.scan_lines.proofs.Quoting.{front_text, byte_more, run_more, all_written, rest_is}
use Rattle.scan_lines.proofs.quoted.put_quoted.Goals as goal

pub runs-preserved-then-n-eq0 : goal.runs-preserved-then-n-eq0
runs-preserved-then-n-eq0 c =
    let text = c.args.text.now in
    let b = escaped (get_or text c.runs.start 0) in
    let w = found b c.runs.buf c.put_escaped.new.buf c.runs.end c.in_ok-end-2.end c.put_escaped.result c.put_escaped.ensures c.in_ok-end-2.was in (
      subst (λ t. Writes t c.args.at c.args.buf.now c.put_escaped.new.buf (Some c.in_ok-end-2.end)) (byte_more text c.runs.start (omega arith))
          (writes_then (front_text text c.runs.start) b c.args.buf.now c.runs.buf c.put_escaped.new.buf c.args.at c.runs.end (Some c.in_ok-end-2.end) c.runs.invariant.0 w),
      omega arith,
    )

pub returns-in_err-end-3 : goal.returns-in_err-end-3
returns-in_err-end-3 c =
    stopped (quoted c.args.text.now) (front_text c.args.text.now c.runs.start) _ c.args.buf.now c.runs.buf c.put_bytes-else-n-eq0.new.buf c.args.at c.runs.end _ _
    c.runs.invariant.0 c.put_bytes-else-n-eq0.ensures c.from_residual-in_err-end-3.ensures

pub runs-preserved : goal.runs-preserved
runs-preserved c =
    let text = c.args.text.now in
    let n = c.plain_length-n.result in
    let p = c.put_bytes-else-n-eq0 in
    let w = found _ c.runs.buf p.new.buf c.runs.end c.in_ok-end-3.end p.result p.ensures c.in_ok-end-3.was in (
      subst (λ t. Writes t c.args.at c.args.buf.now p.new.buf (Some c.in_ok-end-3.end)) (run_more text _ c.runs.start n (rest_is text c.runs.start) c.plain_length-n.ensures.plain)
          (writes_then (front_text text c.runs.start) _ c.args.buf.now c.runs.buf p.new.buf c.args.at c.runs.end (Some c.in_ok-end-3.end) c.runs.invariant.0 w),
      omega arith,
    )

pub returns : goal.returns
returns c =
    let text = c.args.text.now in
    subst (λ t. Writes t c.args.at c.args.buf.now c.put_bytes-2.new.buf c.put_bytes-2.result) (all_written text c.runs.start (omega arith))
    (writes_then (front_text text c.runs.start) (codes "\"") c.args.buf.now c.runs.buf c.put_bytes-2.new.buf c.args.at c.runs.end c.put_bytes-2.result c.runs.invariant.0 c.put_bytes-2.ensures)
