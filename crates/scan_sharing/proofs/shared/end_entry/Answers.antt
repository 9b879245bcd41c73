use Rattle.std.proofs.Common.{◌≤◌, sym, subst}
use Rattle.std.specs.Ordering.{nat_cmp}
use Rattle.std.specs.BTreeMap.{is_at}
use Rattle.scan_sharing.specs.Sharing.{owed}
use Rattle.scan_sharing.proofs.Slots.{owed-remove}
use Rattle.scan_sharing.proofs.shared.end_entry.Goals as goal

pub returns-in-Some-clause-owed : goal.returns-in-Some-clause-owed
returns-in-Some-clause-owed c = subst (λ es. owed es ≤ owed c.args.entries.now.entries) (sym c.remove.ensures.entries) (owed-remove (is_at (nat_cmp c.args.id)) c.args.entries.now.entries)
