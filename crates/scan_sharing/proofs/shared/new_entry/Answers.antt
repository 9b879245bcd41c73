use Rattle.std.proofs.Common.{ap, ◌∙◌}
use Rattle.std.specs.Ordering.{nat_cmp}
use Rattle.std.specs.BTreeMap.{is_at}
use Rattle.std.specs.Map.{remove_entry}
use Rattle.scan_sharing.specs.SharedTables.{begun}
use Rattle.scan_sharing.proofs.Slots.{undone}
use Rattle.scan_sharing.proofs.shared.new_entry.Goals as goal

pub returns-in-Err-request-clause-err : goal.returns-in-Err-request-clause-err
returns-in-Err-request-clause-err g c =
    c.remove.ensures.entries ∙ ap (remove_entry (is_at (nat_cmp c.args.id))) c.in-Ok.ensures.entries ∙ undone c.args.entries.now.entries c.args.id (begun c.args.number) c.requires.absent
