use Rattle.uses.proofs.Matched.{scan_prepared}
use Rattle.uses.proofs.matching.scan_of_matches.Goals as goal

pub of-builder-requires : goal.of-builder-requires
of-builder-requires g c = record { over = c.requires.over; passes = c.requires.passes; splits = tt }

pub returns-clause-prepared : goal.returns-clause-prepared
returns-clause-prepared g c =
    let builder = c.of-builder in
    scan_prepared g.R.LayoutReader.state c.args.reader.now builder.result.reader.now c.args.projection c.args.filter c.args.most c.new.result builder.result.settings c.prepare.result
    builder.ensures.reader builder.ensures.settings c.prepare.ensures.prepared
