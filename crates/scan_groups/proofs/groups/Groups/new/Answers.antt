use Rattle.std.proofs.Common.{length, ◌∙◌}
use Rattle.scan_groups.specs.declared.groups.Groups.{Groups}
use Rattle.scan_groups.proofs.Totalling.{none_yet}
use Rattle.scan_groups.proofs.groups.Groups.new.Goals as goal

pub returns : goal.returns
returns c =
    let new : Groups = record { places = c.in_ok-places.places; tallies = c.in_ok-tallies.tallies } in
    none_yet c.args.keys c.args.measures.items (length c.as_slice.result.now) new (c.in_ok-tallies.ensures.of ∙ c.as_slice.ensures.value) c.in_ok-tallies.ensures.none c.in_ok-places.ensures
