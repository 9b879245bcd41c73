use Rattle.scan_core.specs.BuilderData.{boundaries_in}
use Rattle.scan_core.proofs.OneProof.{builder_is}
use Rattle.scan_core.proofs.builder.LentReader+R+ScanSettings+M.into_parts.Goals as goal

pub returns-clause-over : goal.returns-clause-over
returns-clause-over g c = builder_is (g.R.LayoutReader.state c.args.self.reader.now) c.args.self.settings.projection c.args.self.settings.filter (boundaries_in c.args.self.settings.natural_splits) c.args.self.over
