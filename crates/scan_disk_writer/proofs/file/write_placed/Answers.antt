use Rattle.std.proofs.Common.{◌≡◌, ◌<◌, ◌^◌, ◌∙◌, length, ap, rules, arith, string_bytes}
use Rattle.scan_encode.specs.SegmentsView.{bytes_of}
use Rattle.scan_disk.specs.Footers.{footer_in, footer_of}
use Rattle.scan_disk_writer.specs.FileBytes.{framed, joined, places_from}
use Rattle.scan_disk_writer.specs.Json.{json_of_footer}
use Rattle.scan_disk_writer.proofs.Depths.{footer_depth}
use Rattle.scan_disk_writer.proofs.Files.{file_is}
use Rattle.scan_disk_writer.proofs.file.write_placed.Goals as goal

pub returns-in-Ok-clause-written : goal.returns-in-Ok-clause-written
returns-in-Ok-clause-written g c =
    let l = c.args.layout.now in
    let segments = bytes_of c.args.segments.now in
    let footer = c.as_bytes.result.now in
    let text : c.as_bytes.result.now ≡ string_bytes c.in_ok-footer.footer = search rules in
    let short : length c.as_bytes.result.now < 2 ^ 64 = omega arith in
    let told = c.in_ok-footer.ensures.says (footer_depth l c.args.places.now c.requires.form c.requires.shallow) in
    let said : footer_of c.as_bytes.result.now ≡ footer_in (json_of_footer l (places_from 8 segments)) =
    ap footer_of text ∙ (told ∙ ap (λ ps. footer_in (json_of_footer l ps)) c.requires.places) in
    (framed (joined segments) footer, file_is l segments c.requires.form c.requires.shallow c.in_ok-footer.ensures.ids c.requires.few footer short said, c.in-Ok.ensures.taken)
