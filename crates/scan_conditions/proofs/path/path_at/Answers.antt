use Rattle.std.proofs.Common.{map, ap, ◌∙◌, ◌++◌, ◌∷◌, []}
use Rattle.scan_conditions.specs.Parts.{part_of}
use Rattle.scan_conditions.proofs.Reading.{path_first, path_more}
use Rattle.scan_conditions.proofs.path.path_at.Goals as goal

pub dots-init : goal.dots-init
dots-init c =
    path_first (map part_of c.args.parts.now) c.args.at c.in_ok-first.first c.push.new.self.items c.in_ok-first.ensures.is (c.in_ok-push.ensures.items ∙ ap (λ r. r ++ c.in_ok-first.first ∷ []) c.new-names.ensures.items)

pub dots-preserved : goal.dots-preserved
dots-preserved c =
    path_more (map part_of c.args.parts.now) c.args.at c.dots.end c.in_ok-name.name c.dots.names.items c.push-in-dots.new.self.items c.dots.invariant (c.is_sign_at.ensures.is c.if-not-is_sign_at.false) c.in_ok-name.ensures.is
    c.in_ok-push-2.ensures.items
