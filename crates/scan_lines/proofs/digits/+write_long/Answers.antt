use Rattle.std.proofs.Common.{arith, ◌/◌, ◌%◌}
use Rattle.itoa.proofs.Decimal.{decimal_four, length_four}
use Rattle.std.specs.Fmt.{decimal}
use Rattle.scan_lines.specs.Digits.{four}
use Rattle.scan_lines.proofs.Puts.{put_then}
use Rattle.scan_lines.proofs.digits.+write_long.Goals as goal

pub write_long-middle-requires : goal.write_long-middle-requires
write_long-middle-requires t c = let l = length_four c.args.n c.if-n-lt10000.false (omega arith) in (omega arith, omega (arith, l))

pub write_four-requires : goal.write_four-requires
write_four-requires t c = let l = length_four c.args.n c.if-n-lt10000.false (omega arith) in (omega arith, omega (arith, l))

pub returns-clause-end : goal.returns-clause-end
returns-clause-end t c = omega (arith, length_four c.args.n c.if-n-lt10000.false (omega arith))

pub returns-clause-written : goal.returns-clause-written
returns-clause-written t c =
    let e = decimal_four c.args.n c.if-n-lt10000.false (omega arith) in
    let whole = put_then (decimal (c.args.n / 10000)) (four (c.args.n % 10000)) c.args.buf.now c.write_long-middle.new.buf c.write_four.new.buf c.args.at _ _
    c.write_long-middle.ensures.end c.write_long-middle.ensures.written c.write_four.ensures.end c.write_four.ensures.written in
    rw e whole.1
