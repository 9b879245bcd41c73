use Rattle.std.proofs.Common.{◌/◌, ◌%◌}
use Rattle.scan_lines.specs.Digits.{two}
use Rattle.scan_lines.proofs.Puts.{put_then}
use Rattle.scan_lines.proofs.digits.write_four.Goals as goal

pub returns-clause-written : goal.returns-clause-written
returns-clause-written c =
    (put_then (two (c.args.n / 100)) (two (c.args.n % 100)) c.args.buf.now c.write_two-middle.new.buf c.write_two.new.buf c.args.at _ _
    c.write_two-middle.ensures.end c.write_two-middle.ensures.written c.write_two.ensures.end c.write_two.ensures.written).1
