use Rattle.std.proofs.Common.{sym, ◌∙◌}
use Rattle.scan_sharing.proofs.Agrees.{enters_there}
use Rattle.scan_sharing.proofs.shared.enter.Goals as goal

pub returns-then-contains_key-clause-agree : goal.returns-then-contains_key-clause-agree
returns-then-contains_key-clause-agree g c =
    enters_there c.join_entry.result (g.S.SegmentSource.state c.args.source.now).live c.args.entries.now.entries c.join_entry.new.entries.entries c.args.number c.args.id c.requires
    (sym c.contains_key.ensures ∙ c.if-contains_key.true) c.join_entry.ensures.ok c.join_entry.ensures.err
