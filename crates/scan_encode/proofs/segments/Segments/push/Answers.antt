use Rattle.std.proofs.Common.{◌++◌, ◌∷◌, [], ap, ◌∙◌}
use Rattle.scan_encode.specs.SegmentsView.{bytes_of}
use Rattle.scan_encode.proofs.Having.{has_pushed, bytes_push}
use Rattle.scan_encode.proofs.segments.Segments.push.Goals as goal

pub returns-clause-has : goal.returns-clause-has
returns-clause-has c =
    has_pushed c.args.self.now (bytes_of c.push.new.self.items) c.args.bytes.items
    (bytes_push c.self.inside.items.items c.push.new.self.items c.args.bytes c.in_ok-push.ensures.items ∙ ap (λ z. z ++ c.args.bytes.items ∷ []) c.self.view_is)
