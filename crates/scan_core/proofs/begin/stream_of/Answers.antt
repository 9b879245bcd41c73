use Rattle.scan_core.proofs.Beginning.{begun_ok}
use Rattle.scan_core.proofs.begin.stream_of.Goals as goal

pub returns : goal.returns
returns g c = begun_ok (g.R.LayoutReader.state c.args.builder.reader) c.args.builder c.in_ok-scan.scan c.execute_stream.result c.in_ok-scan.ensures c.execute_stream.ensures.stream
