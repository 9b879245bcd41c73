use Rattle.std.proofs.Common.{◌≡◌, ◌++◌, ◌∷◌, [], map, Some, sym, ap, ◌∙◌, rules}
use Rattle.std.specs.Str.Iter.{lines_rest}
use Rattle.serde_json.specs.Read.{read}
use Rattle.serde_json.specs.View.{view}
use Rattle.scan_import.proofs.Lines.{each_blank, each_row, lines_more}
use Rattle.scan_import.proofs.Meant.{sure_somes}
use Rattle.scan_import.proofs.json_rows.values_of_lines.Goals as goal

pub loop-line-init : goal.loop-line-init
loop-line-init c =
    let start : c.args.text.now ≡ lines_rest c.into_iter-line-iterator.result = search rules in
    ([], start, ap (map (λ r. Some (view r.1))) (sym c.new-rows.ensures.items))

pub loop-line-preserved-then-is_blank : goal.loop-line-preserved-then-is_blank
loop-line-preserved-then-is_blank c =
    let inv = c.loop-line.invariant in
    let s = rw c.in-Some.is at c.next.ensures.steps.0 in (
      inv.0 ++ c.in-Some.line.now ∷ [],
      lines_more c.args.text.now inv.0 (lines_rest c.loop-line.line-iterator) c.in-Some.line.now (lines_rest c.next.new.self) inv.1 s.0 s.2,
      each_blank read inv.0 c.in-Some.line.now (map (λ r. Some (view r.1)) c.loop-line.rows.items) (sym c.is_blank.ensures ∙ c.if-is_blank.true) inv.2,
    )

pub loop-line-preserved : goal.loop-line-preserved
loop-line-preserved c =
    let inv = c.loop-line.invariant in
    let s = rw c.in-Some.is at c.next.ensures.steps.0 in (
      inv.0 ++ c.in-Some.line.now ∷ [],
      lines_more c.args.text.now inv.0 (lines_rest c.loop-line.line-iterator) c.in-Some.line.now (lines_rest c.next.new.self) inv.1 s.0 s.2,
      each_row read (λ r. Some (view r.1)) inv.0 c.in-Some.line.now c.loop-line.rows.items c.push.new.self.items _ (sym c.is_blank.ensures ∙ c.if-is_blank.false) c.in-Ok.ensures c.in_ok-push-in-Ok.ensures.items inv.2,
    )

pub returns : goal.returns
returns c =
    let inv = c.loop-line.invariant in
    let s = rw c.in-None.is at c.next.ensures.steps.0 in
    record {
      lines = inv.0;
      left = lines_rest c.loop-line.line-iterator;
      are = inv.1;
      none = s.0;
      each = inv.2 ∙ sure_somes (λ r. view r.1) c.loop-line.rows.items;
    }
