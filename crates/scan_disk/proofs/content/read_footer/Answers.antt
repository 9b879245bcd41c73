use Rattle.std.proofs.Common.{◌≡◌, ◌-◌, ℕ, List, length, IfSome, Ok, sym, ap, subst, arith}
use Rattle.scan_disk.specs.BytesAt.{part_at}
use Rattle.scan_disk.specs.Segments.{or_place}
use Rattle.scan_disk.proofs.Contents.{size_is, content_given}
use Rattle.scan_disk.proofs.content.read_footer.Goals as goal

pub footer_from-requires : goal.footer_from-requires
footer_from-requires g c =
    let size = ap length c.as_slice.ensures in
    omega (arith, size, c.in_ok-bytes.ensures.size, c.in_ok-start.ensures.before, c.in_ok-check_marks.ensures.framed)

pub returns : goal.returns
returns g c =
    let found : IfSome (g.F.BytesAt.bytes c.args.file.now) (λ bytes. or_place (part_at c.in_ok-start.start (c.in_ok-size.size - 16 - c.in_ok-start.start) bytes) ≡ Ok c.as_slice.result.now)
    = subst (λ (x : List ℕ). IfSome (g.F.BytesAt.bytes c.args.file.now) (λ bytes. or_place (part_at c.in_ok-start.start (c.in_ok-size.size - 16 - c.in_ok-start.start) bytes) ≡ Ok x)) (sym c.as_slice.ensures) c.in_ok-bytes.ensures.given in
    content_given (g.F.BytesAt.bytes c.args.file.now) (g.F.BytesAt.can_fail c.args.file.now) c.in_ok-size.size c.in_ok-start.start c.as_slice.result.now c.footer_from.result c.in_ok-check_marks.ensures.framed c.in_ok-start.ensures.before
    (size_is (g.F.BytesAt.bytes c.args.file.now) c.in_ok-size.size c.in_ok-size.ensures) c.in_ok-check_marks.ensures.given c.in_ok-start.ensures.given found c.footer_from.ensures
