use Rattle.std.proofs.Common.{arith}
use Rattle.scan_spelling.proofs.Bytes.{small_bytes}
use Rattle.scan_spelling.proofs.column.are_bytes.Goals as goal

pub returns : goal.returns
returns c = small_bytes c.args.bytes.now (λ i. omega (arith, c.type_inv.bytes i))
