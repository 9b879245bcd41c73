use Rattle.std.proofs.Common.{◌≡◌, ◌≤◌, sym, subst, rules, string_bytes}
use Rattle.std.proofs.lemmas.Str.{is_utf8-from_IsUtf8}
use Rattle.std.specs.Prelude.{IsUtf8}
use Rattle.serde_json.specs.Data.{depth}
use Rattle.serde_json.specs.View.{view}
use Rattle.scan_disk_writer.proofs.Files.{footer_said, footer_data}
use Rattle.scan_disk_writer.proofs.footer.footer_text.Goals as goal

pub returns-clause-says : goal.returns-clause-says
returns-clause-says c h =
    let whole = footer_data c.args.layout.now c.args.places.now (view c.in_ok-json.json) (view c.in_ok-dtype.dtype) (view c.in_ok-tree.tree) (view c.in_ok-segments.segments) c.dtype.result.now c.in_ok-json.ensures
    c.in_ok-dtype.ensures c.dtype.ensures c.in_ok-tree.ensures.json c.in_ok-segments.ensures in
    let read = c.in_ok-text.ensures.reads_back (subst (λ z. depth z ≤ 127) (sym whole) h) in
    let bytes : c.as_str-bytes.result.now ≡ string_bytes c.in_ok-text.text = search rules in
    let utf8 : IsUtf8 (string_bytes c.in_ok-text.text) = subst IsUtf8 bytes c.as_str-bytes.utf8 in
    footer_said (string_bytes c.in_ok-text.text) (view c.in_ok-json.json) c.args.layout.now c.args.places.now (is_utf8-from_IsUtf8 (string_bytes c.in_ok-text.text) utf8) read whole
