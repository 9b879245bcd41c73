use Rattle.std.proofs.Common.{◌≡◌, ◌++◌, ◌∷◌, [], map, sym, ap, ◌∙◌, rules}
use Rattle.std.specs.Str.Iter.{lines_rest}
use Rattle.scan_values.specs.Values.{val_of}
use Rattle.scan_import.specs.JsonLines.{line_in}
use Rattle.scan_import.specs.Lists.{known}
use Rattle.scan_import.proofs.Lines.{each_blank, each_row, lines_more}
use Rattle.scan_import.proofs.Meant.{sure_somes}
use Rattle.scan_import.proofs.json_rows.rows_of_lines.Goals as goal

pub loop-line-init : goal.loop-line-init
loop-line-init c =
    let start : c.args.text.now ≡ lines_rest c.into_iter-line-iterator.result = search rules in
    ([], start, ap (map known) (sym c.new-rows.ensures.items))

pub loop-line-preserved-then-is_blank : goal.loop-line-preserved-then-is_blank
loop-line-preserved-then-is_blank c =
    let inv = c.loop-line.invariant in
    let s = rw c.in-Some.is at c.next.ensures.steps.0 in (
      inv.0 ++ c.in-Some.line.now ∷ [],
      lines_more c.args.text.now inv.0 (lines_rest c.loop-line.line-iterator) c.in-Some.line.now (lines_rest c.next.new.self) inv.1 s.0 s.2,
      each_blank (line_in c.args.fields.now) inv.0 c.in-Some.line.now (map known c.loop-line.rows.items) (sym c.is_blank.ensures ∙ c.if-is_blank.true) inv.2,
    )

pub loop-line-preserved : goal.loop-line-preserved
loop-line-preserved c =
    let inv = c.loop-line.invariant in
    let s = rw c.in-Some.is at c.next.ensures.steps.0 in (
      inv.0 ++ c.in-Some.line.now ∷ [],
      lines_more c.args.text.now inv.0 (lines_rest c.loop-line.line-iterator) c.in-Some.line.now (lines_rest c.next.new.self) inv.1 s.0 s.2,
      each_row (line_in c.args.fields.now) known inv.0 c.in-Some.line.now c.loop-line.rows.items c.push.new.self.items c.in-Ok.row (sym c.is_blank.ensures ∙ c.if-is_blank.false) c.in-Ok.ensures c.in_ok-push-in-Ok.ensures.items inv.2,
    )

pub returns : goal.returns
returns c =
    let inv = c.loop-line.invariant in
    let s = rw c.in-None.is at c.next.ensures.steps.0 in
    record {
      lines = inv.0;
      left = lines_rest c.loop-line.line-iterator;
      are = inv.1;
      none = s.0;
      each = inv.2 ∙ sure_somes val_of c.loop-line.rows.items;
    }
