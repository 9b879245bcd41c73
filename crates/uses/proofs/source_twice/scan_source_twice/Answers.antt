use Rattle.uses.proofs.Again.{again}
use Rattle.uses.proofs.source_twice.scan_source_twice.Goals as goal

pub returns-clause-second : goal.returns-clause-second
returns-clause-second g c =
    let state = g.R.LayoutReader.state in
    again (state c.args.source.now.reader) (state c.scan.new.self.reader) c.args.source.now.size c.scan.new.self.size c.args.second c.in_ok-second.second
    c.scan.ensures.same c.scan.ensures.size c.in_ok-second.ensures.scan
