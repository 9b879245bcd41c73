use Rattle.std.proofs.Common.{arith, rules}
use Rattle.scan_spelling.proofs.Bytes.{small_items}
use Rattle.scan_run.proofs.generate.columns.push_words.Goals as goal

pub returns-clause-bytes : goal.returns-clause-bytes
returns-clause-bytes c = let h = small_items c.extend_from_slice.new.self.items (λ i h. omega (arith, c.type_inv.out i, h)) in search (rules, h)
