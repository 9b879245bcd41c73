use Rattle.std.proofs.Common.{[], ◌∷◌, ◌++◌, ap, sym, subst, ◌∙◌}
use Rattle.scan_partition.specs.Joining.{AreOfParts}
use Rattle.scan_expr_tests.proofs.OfParts.{of_two}
use Rattle.scan_expr_tests.proofs.joins.joined.Goals as goal

pub join-requires : goal.join-requires
join-requires c =
    subst (AreOfParts c.args.rows c.args.parts.now.parts)
    (sym (c.in_ok-push-2.ensures.items ∙ ap (λ ys. ys ++ c.in_ok-other.other ∷ []) (c.in_ok-push.ensures.items ∙ ap (λ ys. ys ++ c.in_ok-one.one ∷ []) c.new-columns.ensures.items)))
    (of_two c.args.rows c.args.parts.now.parts c.part.result.now c.part-2.result.now c.in_ok-one.one c.in_ok-other.other c.requires.parts c.part.ensures c.part-2.ensures
    (c.in_ok-one.ensures.dtype, c.in_ok-one.ensures.length ∙ c.requires.first) (c.in_ok-other.ensures.dtype, c.in_ok-other.ensures.length ∙ c.requires.second))
