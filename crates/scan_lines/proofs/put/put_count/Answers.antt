use Rattle.std.proofs.Common.{arith}
use Rattle.std.proofs.lemmas.Fmt.{length-decimal-le}
use Rattle.scan_lines.proofs.Puts.{writes}
use Rattle.scan_lines.proofs.put.put_count.Goals as goal

pub write_count-requires : goal.write_count-requires
write_count-requires c = let l = length-decimal-le 20 c.args.n (omega arith) (omega arith) (omega arith) in omega (arith, l)

pub returns : goal.returns
returns c =
    let l = length-decimal-le 20 c.args.n (omega arith) (omega arith) (omega arith) in
    writes _ c.args.buf.now c.write_count.new.buf c.args.at _ (omega arith) c.write_count.ensures.end (omega (arith, l, c.write_count.auto.buf)) c.write_count.ensures.written
