use Rattle.std.proofs.Common.{◌≡◌, ◌+◌, ◌≤◌, ap, length, take, arith}
use Rattle.std.proofs.lemmas.List.{length-take-le}
use Rattle.scan_lines.proofs.Puts.{writes, front_of_middle}
use Rattle.scan_lines.proofs.put.put_padded.Goals as goal

pub returns : goal.returns
returns c =
    let t = c.args.text.now in
    let same = c.copy_from_slice.ensures.after in
    let long : length c.copy_from_slice.new.self ≡ length t = ap length same in
    let l = length-take-le c.args.len t (omega arith) in
    writes (take c.args.len t) c.args.buf.now _ c.args.at (c.args.at + c.args.len) (omega arith) (omega (arith, l)) (omega arith)
    (front_of_middle c.args.buf.now c.copy_from_slice.new.self _ t c.args.at c.args.len (omega arith) (omega (arith, long)) same)
