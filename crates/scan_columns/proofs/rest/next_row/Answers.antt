use Rattle.std.proofs.Common.{◌≡◌, ◌<◌, ◌≤◌, ◌++◌, ◌∷◌, [], length, map, take, drop, ap, sym, ◌∙◌, arith}
use Rattle.std.proofs.lemmas.List.{map-append, append-nil}
use Rattle.scan_values.specs.Values.{val_of}
use Rattle.scan_columns.specs.Nested.{heads}
use Rattle.scan_columns.proofs.FieldLemmas.{row_more, rest_more, row_done}
use Rattle.scan_columns.proofs.rest.next_row.Goals as goal
use Rattle.scan_columns.proofs.rest.next_row.Goals.{in-Some+in_ok-push, in_default}

pub loop-column-preserved : goal.loop-column-preserved
loop-column-preserved c =
    let cs = c.loop-column.columns in
    let k = c.loop-column.column-index in
    let row = c.loop-column.row.items in
    let l : k < length cs = omega (arith, c.loop-column.auto.columns) in
    let item : map val_of c.match-next.row.items ≡ map val_of row ++ take 1 c.column-item.result =
    elim c.match-next.branch [
      | in-Some+in_ok-push w ↦ ap (λ v. map val_of v.items) w.row-is ∙ ap (map val_of) w.in_ok-push.ensures.items ∙ map-append val_of row (w.in-Some.value ∷ []) ∙ ap (λ vs. map val_of row ++ vs) w.in-Some.ensures.item ∙ ap (λ ds. map val_of row ++ take 1 ds) (sym c.column-item.is)
      | in_default w ↦ ap (λ v. map val_of v.items) w.row-is ∙ sym (append-nil (map val_of row)) ∙ ap (λ vs. map val_of row ++ vs) w.in_default.ensures.item ∙ ap (λ ds. map val_of row ++ take 1 ds) (sym c.column-item.is)
    ] in
    record {
      row = row_more cs k c.column-item.result l c.column-item.is (map val_of row) (map val_of c.match-next.row.items) c.next.new.self (heads c.args.columns.now) item c.loop-column.invariant.row;
      rest = rest_more cs k c.column-item.result l c.column-item.is c.next.new.self _ (c.next.ensures.rest ∙ ap (drop 1) (sym c.column-item.is)) c.loop-column.invariant.rest;
    }

pub returns-clause-row : goal.returns-clause-row
returns-clause-row c =
    let l : length c.loop-column.columns ≤ c.loop-column.column-index = omega (arith, c.loop-column.auto.columns) in
    row_done c.loop-column.columns c.loop-column.column-index _ _ l c.loop-column.invariant.row
