use Rattle.std.proofs.Common.{sym, ap, ◌∙◌, arith}
use Rattle.scan_groups.specs.Totals.{measured_by, place_read}
use Rattle.scan_groups.proofs.Totalling.{reads_there}
use Rattle.scan_groups.proofs.groups.Groups.reads.Goals as goal

pub index-requires : goal.index-requires
index-requires c = omega (arith, c.requires, c.args.self.now.tallies.ok.0)

pub returns : goal.returns
returns c =
    let t = c.index.result.now in
    c.reads.ensures ∙ ap (λ u. place_read (measured_by u)) c.index.ensures ∙ sym (reads_there c.args.self.now.tallies.items c.args.measure t c.requires)
