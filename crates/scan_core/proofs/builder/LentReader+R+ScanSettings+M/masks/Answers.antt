use Rattle.std.proofs.Common.{rules}
use Rattle.scan_core.specs.BuilderData.{boundaries_in}
use Rattle.scan_core.proofs.OneProof.{builder_is}
use Rattle.scan_core.proofs.builder.LentReader+R+ScanSettings+M.masks.Goals as goal

pub returns-clause-named : goal.returns-clause-named
returns-clause-named g c =
    let h = builder_is (g.R.LayoutReader.state c.args.self.now.reader.now) c.args.self.now.settings.projection c.args.self.now.settings.filter (boundaries_in c.args.self.now.settings.natural_splits) c.args.self.now.over in
    search (rules, h)
