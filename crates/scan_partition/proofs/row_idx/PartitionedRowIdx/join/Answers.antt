use Rattle.std.proofs.Common.{◌≡◌, ap, sym, subst, length, ◌∙◌}
use Rattle.scan_partition.specs.Joining.{AreOfParts, root_overflows}
use Rattle.scan_partition.specs.RowDivided.{RowDivided}
use Rattle.scan_partition.specs.RowJoining.{JoinsRows}
use Rattle.scan_partition.proofs.Joins.{parts_join}
use Rattle.scan_partition.proofs.Loops.{if_ok}
use Rattle.scan_partition.proofs.RowParts.{rows_of}
use Rattle.scan_partition.proofs.RowJoins.{rows_join}
use Rattle.scan_partition.proofs.row_idx.PartitionedRowIdx.join.Goals as goal

pub returns-clause-whole : goal.returns-clause-whole
returns-clause-whole c =
    let even : length c.self.inside.whole.parts ≡ length c.self.inside.whole.items = c.items-even.ensures.even ∙ ap length c.items-even.ensures.items in
    let parts : AreOfParts c.args.len c.self.inside.whole.parts c.args.parts.items = subst (λ (d : RowDivided). AreOfParts c.args.len d.parts c.args.parts.items) (sym c.self.view_is) c.requires in
    if_ok _ _ c.join.result
    (λ a h.
    subst (λ (d : RowDivided). JoinsRows d c.args.parts.items c.args.len a.items) (ap (λ is. rows_of is c.self.inside.whole) (sym c.self.invariant) ∙ c.self.view_is)
    (rows_join c.self.inside.whole c.args.parts.items c.args.len a.items (parts_join c.self.inside.whole c.args.parts.items c.args.len a.items even parts h)))
    c.join.ensures.items

pub returns-clause-within : goal.returns-clause-within
returns-clause-within c = if_ok _ _ c.join.result (λ a h. sym (ap (λ (d : RowDivided). root_overflows d.root c.args.parts.items c.args.len) c.self.view_is) ∙ h) c.join.ensures.within

pub returns-clause-overflow : goal.returns-clause-overflow
returns-clause-overflow c = λ q. sym (ap (λ (d : RowDivided). root_overflows d.root c.args.parts.items c.args.len) c.self.view_is) ∙ c.join.ensures.overflow q
