use Rattle.scan_file.proofs.Polling.{opened_so}
use Rattle.scan_file.proofs.opener.FileOpenerSplitOpenerFileSplitFileFault.poll_open.Goals as goal

pub returns-in-Opened-clause-answer : goal.returns-in-Opened-clause-answer
returns-in-Opened-clause-answer g c =
    opened_so g.O.LayoutReaderFactory.opener c.args.self.now c.in-Opened.layout.value c.args.opener.now c.poll_open.new.self c.in-Opened.ensures.0 c.in-Opened.ensures.1 c.opened.result c.opened.ensures
