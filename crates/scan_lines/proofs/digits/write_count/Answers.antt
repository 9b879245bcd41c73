use Rattle.std.proofs.Common.{arith, ◌/◌, ◌%◌}
use Rattle.itoa.proofs.Decimal.{decimal_four, length_four}
use Rattle.std.specs.Fmt.{decimal}
use Rattle.scan_lines.specs.Digits.{four}
use Rattle.scan_lines.proofs.Puts.{put_then}
use Rattle.scan_lines.proofs.digits.write_count.Goals as goal

pub write_short-middle-requires : goal.write_short-middle-requires
write_short-middle-requires c = let l = length_four c.args.n c.if-n-lt10000.false (omega arith) in (omega arith, omega (arith, l))

pub write_four-requires : goal.write_four-requires
write_four-requires c = let l = length_four c.args.n c.if-n-lt10000.false (omega arith) in (omega arith, omega (arith, l))

pub returns-then-n-lt100000000-clause-end : goal.returns-then-n-lt100000000-clause-end
returns-then-n-lt100000000-clause-end c = omega (arith, length_four c.args.n c.if-n-lt10000.false (omega arith))

pub returns-then-n-lt100000000-clause-written : goal.returns-then-n-lt100000000-clause-written
returns-then-n-lt100000000-clause-written c =
    let e = decimal_four c.args.n c.if-n-lt10000.false (omega arith) in
    let whole = put_then (decimal (c.args.n / 10000)) (four (c.args.n % 10000)) c.args.buf.now c.write_short-middle.new.buf c.write_four.new.buf c.args.at _ _
    c.write_short-middle.ensures.end c.write_short-middle.ensures.written c.write_four.ensures.end c.write_four.ensures.written in
    rw e whole.1
