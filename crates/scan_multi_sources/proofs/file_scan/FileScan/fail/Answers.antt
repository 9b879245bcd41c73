use Rattle.std.proofs.Common.{◌∙◌, sym, subst}
use Rattle.scan_multi_sources.specs.Files.{failed}
use Rattle.scan_multi_sources.specs.Opens as asks
use Rattle.scan_multi_sources.specs.Polls.{ComesTo}
use Rattle.scan_multi_sources.specs.declared.scan.Step.TheVariants.{Next}
use Rattle.scan_multi_sources.proofs.Stepping.{fails_later, fails_now, may_keep}
use Rattle.scan_multi_sources.proofs.file_scan.FileScan.fail.Goals as goal

pub keep-requires-clause-kept : goal.keep-requires-clause-kept
keep-requires-clause-kept g c = may_keep c.args.self.now c.args.at failed (sym c.is_turn.ensures ∙ c.if-is_turn.false)

pub returns-then-is_turn : goal.returns-then-is_turn
returns-then-is_turn g c = fails_now c.args.self.now c.deliver.new.self c.args.at c.args.place (sym c.is_turn.ensures ∙ c.if-is_turn.true) c.deliver.ensures

pub returns : goal.returns
returns g c =
    subst (λ n. ComesTo c.args.self.now c.keep.new.self c.args.at c.args.place asks.fails (Next n)) (sym c.after-next.ensures)
    (fails_later c.args.self.now c.keep.new.self c.args.at c.args.place c.requires (sym c.is_turn.ensures ∙ c.if-is_turn.false) c.keep.ensures)
