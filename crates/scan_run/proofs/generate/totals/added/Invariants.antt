use Rattle.std.proofs.Common.{◌≡◌, drop}
use Rattle.scan_run.specs.Totals.{added}
use Rattle.scan_run.proofs.generate.totals.added.Given as goal

abbrev pub invariant-loop-number : goal.invariant-loop-number
invariant-loop-number l = added l.now (drop l.number-index l.numbers) ≡ added l.fn.first l.numbers
