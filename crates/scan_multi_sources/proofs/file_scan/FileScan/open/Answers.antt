use Rattle.std.proofs.Common.{sym, subst}
use Rattle.scan_multi_sources.specs.Polls.{IsStep}
use Rattle.scan_multi_sources.specs.declared.scan.Step.TheVariants.{Next}
use Rattle.scan_multi_sources.proofs.Stepping.{open_failed, open_found, open_pending, open_short, open_skipped, polled_within}
use Rattle.scan_multi_sources.proofs.file_scan.FileScan.open.Goals as goal

pub found-requires : goal.found-requires
found-requires g c = polled_within g.O.LayoutReaderFactory.opener c.args.self.now c.poll_file.new.self c.args.at c.args.place c.requires.slot c.poll_file.result c.poll_file.ensures

pub leave_out-requires : goal.leave_out-requires
leave_out-requires g c = polled_within g.O.LayoutReaderFactory.opener c.args.self.now c.poll_file.new.self c.args.at c.args.place c.requires.slot c.poll_file.result c.poll_file.ensures

pub fail-requires : goal.fail-requires
fail-requires g c = polled_within g.O.LayoutReaderFactory.opener c.args.self.now c.poll_file.new.self c.args.at c.args.place c.requires.slot c.poll_file.result c.poll_file.ensures

pub returns-in-Pending : goal.returns-in-Pending
returns-in-Pending g c =
    subst (λ n. IsStep g.O.LayoutReaderFactory.opener c.args.self.now c.poll_file.new.self c.args.at (Next n)) (sym c.after.ensures)
    (open_pending g.O.LayoutReaderFactory.opener c.args.self.now c.poll_file.new.self c.args.at c.args.place c.requires.slot c.requires.before c.in-Pending.ensures)

pub returns-in-Opened : goal.returns-in-Opened
returns-in-Opened g c = open_found g.O.LayoutReaderFactory.opener c.args.self.now c.poll_file.new.self c.args.at c.args.place c.requires.slot c.requires.before c.in-Opened.layout c.found.new.self c.found.result c.in-Opened.ensures c.found.ensures

pub returns-in-Skipped : goal.returns-in-Skipped
returns-in-Skipped g c = open_skipped g.O.LayoutReaderFactory.opener c.args.self.now c.poll_file.new.self c.args.at c.args.place c.requires.slot c.requires.before c.leave_out.new.self c.in-Skipped.ensures c.leave_out.ensures

pub returns-in-Failed : goal.returns-in-Failed
returns-in-Failed g c = open_failed g.O.LayoutReaderFactory.opener c.args.self.now c.poll_file.new.self c.args.at c.args.place c.requires.slot c.requires.before c.fail.new.self c.fail.result c.in-Failed.ensures c.fail.ensures

pub returns-in-NoMemory : goal.returns-in-NoMemory
returns-in-NoMemory g c =
    subst (λ z. IsStep g.O.LayoutReaderFactory.opener c.args.self.now c.poll_file.new.self c.args.at z) (sym c.short.ensures)
    (open_short g.O.LayoutReaderFactory.opener c.args.self.now c.poll_file.new.self c.args.at c.args.place c.requires.slot c.requires.before c.in-NoMemory.ensures)

pub after-requires : goal.after-requires
after-requires g c = polled_within g.O.LayoutReaderFactory.opener c.args.self.now c.poll_file.new.self c.args.at c.args.place c.requires.slot c.poll_file.result c.poll_file.ensures
