use Rattle.std.proofs.Common.{arith}
use Rattle.scan_lines.proofs.Numbers.{PAIRS_at}
use Rattle.scan_lines.proofs.Puts.{put_two}
use Rattle.scan_lines.proofs.digits.write_two.Goals as goal

pub returns-clause-written : goal.returns-clause-written
returns-clause-written c =
    let p = PAIRS_at c.args.n c.requires.0 in
    rw (p.0, p.1) (put_two c.args.buf.now c.args.at _ _ (omega arith))
