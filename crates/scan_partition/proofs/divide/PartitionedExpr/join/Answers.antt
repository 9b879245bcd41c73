use Rattle.std.proofs.Common.{◌≡◌, ◌∙◌, length, map, ap, sym, subst}
use Rattle.std.specs.List.{range_with_len}
use Rattle.scan_partition.specs.Divided.{Divided}
use Rattle.scan_partition.specs.Joining.{AreOfParts, joined_at, root_overflows}
use Rattle.scan_partition.proofs.Loops.{if_ok}
use Rattle.scan_partition.proofs.Joins.{as_long, is_scope, parts_join, whole_joins}
use Rattle.scan_partition.proofs.divide.PartitionedExpr.join.Goals as goal

pub joined-requires-clause-scope : goal.joined-requires-clause-scope
joined-requires-clause-scope c =
    is_scope c.args.len c.self.inside.items.items c.self.inside.parts.items c.self.inside.root c.args.parts.items c.self.invariant (subst (λ (d : Divided). AreOfParts c.args.len d.parts c.args.parts.items) (sym c.self.view_is) c.requires)

pub joined-requires-clause-length : goal.joined-requires-clause-length
joined-requires-clause-length c = as_long c.args.len c.args.self.now.parts c.args.parts.items c.requires

pub returns-clause-whole : goal.returns-clause-whole
returns-clause-whole c =
    if_ok _ _ c.joined.result
    (λ a h.
    whole_joins c.args.self.now c.args.parts.items c.args.len a.items
    (parts_join c.args.self.now c.args.parts.items c.args.len a.items (subst (λ (d : Divided). length d.parts ≡ length d.items) c.self.view_is c.self.invariant.even) c.requires
    (h ∙ ap (λ (d : Divided). map (joined_at d.root c.args.parts.items) (range_with_len 0 c.args.len)) c.self.view_is)))
    c.joined.ensures.items

pub returns-clause-within : goal.returns-clause-within
returns-clause-within c = if_ok _ _ c.joined.result (λ a h. sym (ap (λ (d : Divided). root_overflows d.root c.args.parts.items c.args.len) c.self.view_is) ∙ h) c.joined.ensures.within

pub returns-clause-overflow : goal.returns-clause-overflow
returns-clause-overflow c = λ q. sym (ap (λ (d : Divided). root_overflows d.root c.args.parts.items c.args.len) c.self.view_is) ∙ c.joined.ensures.overflow q
