use Rattle.std.proofs.Common.{arith, ◌+◌, ◌≡◌, length, ap, sym, ◌∙◌, ◌++◌, take}
use Rattle.itoa.proofs.Decimal.{length_one, decimal_two, length_two}
use Rattle.std.proofs.lemmas.Fmt.{decimal_digit}
use Rattle.std.specs.Fmt.{decimal}
use Rattle.scan_lines.proofs.Puts.{put_one}
use Rattle.scan_lines.proofs.digits.write_first.Goals as goal

pub bounds-buf-at : goal.bounds-buf-at
bounds-buf-at c = omega (arith, length_one c.args.n c.if-n-lt10.true)

pub returns-then-n-lt10-clause-end : goal.returns-then-n-lt10-clause-end
returns-then-n-lt10-clause-end c = omega (arith, length_one c.args.n c.if-n-lt10.true)

pub returns-then-n-lt10-clause-written : goal.returns-then-n-lt10-clause-written
returns-then-n-lt10-clause-written c =
    let e = decimal_digit c.args.n c.if-n-lt10.true in
    rw e (put_one c.args.buf.now c.args.at _ (omega (arith, length_one c.args.n c.if-n-lt10.true)))

pub write_two-requires : goal.write_two-requires
write_two-requires c = (c.requires.0, omega (arith, length_two c.args.n c.if-n-lt10.false c.requires.0))

pub returns-clause-end : goal.returns-clause-end
returns-clause-end c = omega (arith, length_two c.args.n c.if-n-lt10.false c.requires.0)

pub returns-clause-written : goal.returns-clause-written
returns-clause-written c =
    let e = decimal_two c.args.n c.if-n-lt10.false c.requires.0 in
    rw e c.write_two.ensures.written
