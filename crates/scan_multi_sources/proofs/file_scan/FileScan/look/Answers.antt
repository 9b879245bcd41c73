use Rattle.std.proofs.Common.{rules}
use Rattle.scan_multi_sources.proofs.Stepping.{look_failed, look_found}
use Rattle.scan_multi_sources.proofs.file_scan.FileScan.look.Goals as goal

pub returns-in-Opened : goal.returns-in-Opened
returns-in-Opened g c = look_found g.O.LayoutReaderFactory.opener c.args.self.now c.found.new.self c.args.at c.args.slot.place c.in-Opened.layout.value c.found.result (search rules) c.requires.before c.found.ensures

pub returns-in-Failed : goal.returns-in-Failed
returns-in-Failed g c = look_failed g.O.LayoutReaderFactory.opener c.args.self.now c.fail.new.self c.args.at c.args.slot.place c.fail.result (search rules) c.requires.before c.fail.ensures
