use Rattle.std.proofs.Common.{arith, ◌/◌, ◌%◌}
use Rattle.itoa.proofs.Decimal.{decimal_pair, length_pair}
use Rattle.std.specs.Fmt.{decimal}
use Rattle.scan_lines.specs.Digits.{two}
use Rattle.scan_lines.proofs.Puts.{put_then}
use Rattle.scan_lines.proofs.digits.write_short.Goals as goal

pub write_first-middle-requires : goal.write_first-middle-requires
write_first-middle-requires c = let l = length_pair c.args.n c.if-n-lt100.false (omega arith) in (omega arith, omega (arith, l))

pub write_two-requires : goal.write_two-requires
write_two-requires c = let l = length_pair c.args.n c.if-n-lt100.false (omega arith) in (omega arith, omega (arith, l))

pub returns-clause-end : goal.returns-clause-end
returns-clause-end c = omega (arith, length_pair c.args.n c.if-n-lt100.false (omega arith))

pub returns-clause-written : goal.returns-clause-written
returns-clause-written c =
    let e = decimal_pair c.args.n c.if-n-lt100.false (omega arith) in
    let whole = put_then (decimal (c.args.n / 100)) (two (c.args.n % 100)) c.args.buf.now c.write_first-middle.new.buf c.write_two.new.buf c.args.at _ _
    c.write_first-middle.ensures.end c.write_first-middle.ensures.written c.write_two.ensures.end c.write_two.ensures.written in
    rw e whole.1
