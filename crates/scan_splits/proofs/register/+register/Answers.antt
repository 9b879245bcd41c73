use Rattle.std.proofs.Common.{false, ◌≡◌, ◌+◌, ◌∷◌, [], ◌++◌, ◌∙◌, Ok, Err, refl, sym, ap, drop, map, length, subst, arith}
use Rattle.std.specs.List.{flat_map}
use Rattle.std.proofs.lemmas.Result.{err_from_is_err_and}
use Rattle.scan_values.specs.declared.field_path.FieldMask.TheVariants.{All}
use Rattle.scan_values.specs.DataType.{fields_of, struct_type, nullability_of, field_list}
use Rattle.scan_values.specs.FieldLists.{names_of}
use Rattle.scan_values.specs.FieldPaths.{stepped}
use Rattle.scan_values.specs.Kinds.{struct_fields_of}
use Rattle.scan_layout.specs.Layout.{node, nodes, rows_of}
use Rattle.scan_layout.specs.LayoutView.{layouts_of}
use Rattle.scan_layout.specs.RowValue.{nth_rows}
use Rattle.scan_layout.specs.Laws.{path_of}
use Rattle.scan_layout.specs.Slots.{named_fields, matching_fields, one_where}
use Rattle.scan_layout.specs.Edges as cut
use Rattle.scan_layout.specs.Edges.{edges, nth_edges, matching, matching_one, struct_matches, list_split_grid_size}
use Rattle.scan_splits.specs.RowLists.{shifted, SameNumbers}
use Rattle.scan_splits.specs.SplitFaults.{Tells}
use Rattle.scan_splits.specs.ListSplits.{mapped_inside}
use Rattle.scan_splits.specs.LayoutSplits.{matched_edges, any_found, found_fields, misses, nth_misses, missing}
use Rattle.scan_splits.proofs.Pushing.{goes_on, stops, ends, adds_none, adds_less, adds_same, adds_some_of, shifted_part, then_all, then_some, pushes_then}
use Rattle.scan_splits.proofs.Registered.{nth_at, nth_past, misses_at, misses_past, tells_same, tells_none, tells_more, nth_there, struct_edges, list_edges, struct_none, matching_every, matching_named, fields_every, fields_named, none_of_every, every_at, every_past, named_at}
use Rattle.scan_splits.proofs.Registered.{named_past, found_here, found_later, found_none, pushes_as, adds_as, some_as, not_missing_of, names_length, found_past, never, struct_misses, struct_found, struct_cut, list_none, list_same, all_splits, is_empty_of, some_there}
use Rattle.scan_splits.proofs.register.+register.Goals as goal

pub register_child-returns-then-i-children-clause-first : goal.register_child-returns-then-i-children-clause-first
register_child-returns-then-i-children-clause-first t c =
    let rs = c.args.children.now in
    let kids = nodes (layouts_of rs) in
    let i = c.args.i in
    let mask = c.args.mask.now ∷ [] in
    let given = c.from_ref.result.now in
    let child = c.deref.result.now in
    let here : misses child given ≡ nth_misses kids i mask =
    (λ j. misses (c.deref.ensures j) (c.from_ref.ensures.value j)) ∙ sym (misses_at mask rs i c.index-children-i.result c.if-i-children.true c.index-children-i.is) in
    tells_same c.register_node.result (misses child given) (nth_misses kids i mask) here c.register_node.ensures.first

pub register_child-returns-then-i-children-clause-pushed : goal.register_child-returns-then-i-children-clause-pushed
register_child-returns-then-i-children-clause-pushed t c =
    let rs = c.args.children.now in
    let i = c.args.i in
    let path = path_of c.args.mask.now ∷ [] in
    let given = c.from_ref.result.now in
    let child = c.deref.result.now in
    let span = c.args.range.now in
    let found = edges child (map path_of given) span.start span.end in
    let wanted = nth_edges (nodes (layouts_of rs)) i path span.start span.end in
    let here : found ≡ wanted =
    (λ j. edges (c.deref.ensures j) (map path_of (c.from_ref.ensures.value j)) span.start span.end) ∙ sym (nth_at path span.start span.end rs i c.index-children-i.result c.if-i-children.true c.index-children-i.is) in
    pushes_as c.register_node.result span.offset found wanted c.args.splits.now c.register_node.new.splits here c.register_node.ensures.pushed

pub register_child-returns-clause-first : goal.register_child-returns-clause-first
register_child-returns-clause-first t c =
    ap missing (misses_past (c.args.mask.now ∷ []) c.args.children.now c.args.i c.if-i-children.false)

pub register_child-returns-clause-pushed : goal.register_child-returns-clause-pushed
register_child-returns-clause-pushed t c =
    let span = c.args.range.now in
    rw (nth_past (path_of c.args.mask.now ∷ []) span.start span.end c.args.children.now c.args.i c.if-i-children.false) (adds_none c.args.splits.now)

pub register_every-returns-in_err-register_child-clause-first : goal.register_every-returns-in_err-register_child-clause-first
register_every-returns-in_err-register_child-clause-first t c =
    let p = err_from_is_err_and c.from_residual.result c.from_residual.ensures.1 in
    let kids = nodes (layouts_of c.args.children.now) in
    let at = c.args.first + c.loop-i.i in
    rw (p.1, p.2) (tells_none (Err c.in_err-register_child.field-0.0) (nth_misses kids at (All ∷ [])) (nth_there kids at) c.in_err-register_child.ensures.first)

pub register_every-returns-in_err-register_child-clause-pushed : goal.register_every-returns-in_err-register_child-clause-pushed
register_every-returns-in_err-register_child-clause-pushed t c =
    let p = err_from_is_err_and c.from_residual.result c.from_residual.ensures.1 in
    let span = c.args.range.now in
    let kids = nodes (layouts_of c.args.children.now) in
    let fs = c.args.fields.now in
    let i = c.loop-i.i in
    let at = c.args.first + i in
    let whole = matched_edges kids (cut.every_field (fields_of fs) c.args.first) span.start span.end in
    let rest = matched_edges kids (cut.every_field (fields_of (drop i fs)) at) span.start span.end in
    let one = nth_edges kids at ([] ∷ []) span.start span.end in
    let next = matched_edges kids (cut.every_field (fields_of (drop (i + 1) fs)) (c.args.first + (i + 1))) span.start span.end in
    let step : rest ≡ one ++ next = every_at kids fs c.args.first i span.start span.end (omega (arith, c.loop-i-test.true, ap length c.names-i-end.ensures, names_length fs)) in
    rw p.1 (stops span.offset whole c.args.splits.now rest one next c.loop-i.splits c.register_child.new.splits step c.loop-i.invariant c.in_err-register_child.ensures.pushed)

pub register_every-loop-i-preserved : goal.register_every-loop-i-preserved
register_every-loop-i-preserved t c =
    let span = c.args.range.now in
    let kids = nodes (layouts_of c.args.children.now) in
    let fs = c.args.fields.now in
    let i = c.loop-i.i in
    let at = c.args.first + i in
    let whole = matched_edges kids (cut.every_field (fields_of fs) c.args.first) span.start span.end in
    let rest = matched_edges kids (cut.every_field (fields_of (drop i fs)) at) span.start span.end in
    let one = nth_edges kids at ([] ∷ []) span.start span.end in
    let next = matched_edges kids (cut.every_field (fields_of (drop (i + 1) fs)) (c.args.first + (i + 1))) span.start span.end in
    let step : rest ≡ one ++ next = every_at kids fs c.args.first i span.start span.end (omega (arith, c.loop-i-test.true, ap length c.names-i-end.ensures, names_length fs)) in
    goes_on span.offset whole c.args.splits.now rest one next c.loop-i.splits c.register_child.new.splits step c.loop-i.invariant c.in_ok-register_child.ensures.pushed

pub register_every-returns-clause-pushed : goal.register_every-returns-clause-pushed
register_every-returns-clause-pushed t c =
    let span = c.args.range.now in
    let kids = nodes (layouts_of c.args.children.now) in
    let fs = c.args.fields.now in
    let i = c.loop-i.i in
    let at = c.args.first + i in
    let whole = matched_edges kids (cut.every_field (fields_of fs) c.args.first) span.start span.end in
    let rest = matched_edges kids (cut.every_field (fields_of (drop i fs)) at) span.start span.end in
    let past : rest ≡ [] = every_past kids fs i at span.start span.end (omega (arith, c.loop-i-test.false, ap length c.names-i-end.ensures, names_length fs)) in
    ends span.offset whole c.args.splits.now rest c.loop-i.splits past c.loop-i.invariant

pub register_fields-returns-in_err-register_child-in-Nullable-clause-first : goal.register_fields-returns-in_err-register_child-in-Nullable-clause-first
register_fields-returns-in_err-register_child-in-Nullable-clause-first t c =
    let p = err_from_is_err_and c.from_residual.result c.from_residual.ensures.1 in
    let kids = nodes (layouts_of c.args.children.now) in
    let none = nth_misses kids 0 (All ∷ []) in
    let some = any_found (λ m. nth_misses kids (one_where c.args.nullability + m.1) (m.0 ∷ [])) (matching_fields (fields_of c.args.fields.now) c.args.masks.now) in
    rw (p.1, p.2) (tells_more c.in_err-register_child-in-Nullable.field-0.0 none some (λ q. never none (nth_there kids 0) q) c.in_err-register_child-in-Nullable.ensures.first)

pub register_fields-returns-in_err-register_child-in-Nullable-clause-pushed : goal.register_fields-returns-in_err-register_child-in-Nullable-clause-pushed
register_fields-returns-in_err-register_child-in-Nullable-clause-pushed t c =
    let p = err_from_is_err_and c.from_residual.result c.from_residual.ensures.1 in
    let kids = nodes (layouts_of c.args.children.now) in
    let span = c.args.range.now in
    let validity = nth_edges kids 0 ([] ∷ []) span.start span.end in
    let others = matched_edges kids (matching (fields_of c.args.fields.now) 1 (map path_of c.args.masks.now)) span.start span.end in
    rw (p.1, c.in-Nullable.is) (shifted_part span.offset validity others c.args.splits.now c.register_child.new.splits c.in_err-register_child-in-Nullable.ensures.pushed)

pub register_fields-returns-in_ok-register_child-in-Nullable-clause-pushed : goal.register_fields-returns-in_ok-register_child-in-Nullable-clause-pushed
register_fields-returns-in_ok-register_child-in-Nullable-clause-pushed t c =
    let kids = nodes (layouts_of c.args.children.now) in
    let span = c.args.range.now in
    let validity = nth_edges kids 0 ([] ∷ []) span.start span.end in
    let others = matched_edges kids (matching (fields_of c.args.fields.now) 1 (map path_of c.args.masks.now)) span.start span.end in
    let later = c.register_matching-in-Nullable in
    rw c.in-Nullable.is (pushes_then later.result span.offset validity others c.args.splits.now c.register_child.new.splits later.new.splits c.in_ok-register_child-in-Nullable.ensures.pushed later.ensures.pushed)

pub register_list-returns-in_err-push_end-clause-pushed : goal.register_list-returns-in_err-push_end-clause-pushed
register_list-returns-in_err-push_end-clause-pushed t c =
    let p = err_from_is_err_and c.from_residual.result c.from_residual.ensures.1 in
    let kids = nodes (layouts_of c.args.children.now) in
    let span = c.args.range.now in
    let grid = list_split_grid_size c.args.rows in
    let rows = nth_rows kids 0 in
    let whole = mapped_inside rows c.args.rows grid span.start span.end (nth_edges kids 0 ([] ∷ []) 0 rows) ++ span.end ∷ [] in
    let none = list_none c.args.children.now c.args.rows grid span.start span.end (is_empty_of (length c.args.children.now) c.is_empty.result c.is_empty.ensures c.if-is_empty.true) in
    rw p.1 (some_as span.offset (span.end ∷ []) whole c.args.splits.now c.push_end.new.splits none c.in_err-push_end.ensures)

pub register_list-returns-then-is_empty-clause-pushed : goal.register_list-returns-then-is_empty-clause-pushed
register_list-returns-then-is_empty-clause-pushed t c =
    let kids = nodes (layouts_of c.args.children.now) in
    let span = c.args.range.now in
    let grid = list_split_grid_size c.args.rows in
    let rows = nth_rows kids 0 in
    let whole = mapped_inside rows c.args.rows grid span.start span.end (nth_edges kids 0 ([] ∷ []) 0 rows) ++ span.end ∷ [] in
    let none = list_none c.args.children.now c.args.rows grid span.start span.end (is_empty_of (length c.args.children.now) c.is_empty.result c.is_empty.ensures c.if-is_empty.true) in
    adds_as span.offset (span.end ∷ []) whole c.args.splits.now c.push_end.new.splits none c.in_ok-push_end.ensures

pub register_list-returns-in_err-found-clause-pushed : goal.register_list-returns-in_err-found-clause-pushed
register_list-returns-in_err-found-clause-pushed t c =
    let p = err_from_is_err_and c.from_residual-in_err-found.result c.from_residual-in_err-found.ensures.1 in
    let kids = nodes (layouts_of c.args.children.now) in
    let span = c.args.range.now in
    let grid = list_split_grid_size c.args.rows in
    let rows = nth_rows kids 0 in
    let whole = mapped_inside rows c.args.rows grid span.start span.end (nth_edges kids 0 ([] ∷ []) 0 rows) ++ span.end ∷ [] in
    rw p.1 (adds_less (shifted span.offset whole) c.args.splits.now c.args.splits.now refl)

pub register_list-returns-in_err-register_list_splits-clause-pushed : goal.register_list-returns-in_err-register_list_splits-clause-pushed
register_list-returns-in_err-register_list_splits-clause-pushed t c =
    let p = err_from_is_err_and c.from_residual-in_err-register_list_splits.result c.from_residual-in_err-register_list_splits.ensures.1 in
    let kids = nodes (layouts_of c.args.children.now) in
    let span = c.args.range.now in
    let grid = list_split_grid_size c.args.rows in
    let rows = nth_rows kids 0 in
    let whole = mapped_inside rows c.args.rows grid span.start span.end (nth_edges kids 0 ([] ∷ []) 0 rows) ++ span.end ∷ [] in
    let r = c.index-children-0.result in
    let found = c.in_ok-found.found.items in
    let given = mapped_inside c.row_count.result c.args.rows grid span.start span.end c.deref-2.result.now ++ span.end ∷ [] in
    let some = some_there (length c.args.children.now) c.is_empty.result c.is_empty.ensures c.if-is_empty.false in
    let all = subst (λ l. SameNumbers found (edges l ([] ∷ []) 0 (rows_of l))) c.deref.ensures c.in_ok-found.ensures in
    let same = list_same c.args.children.now r span.offset c.args.rows grid span.start span.end c.row_count.result c.deref-2.result.now found
    some c.index-children-0.is (c.row_count.ensures ∙ ap rows_of c.deref-3.ensures) c.deref-2.ensures.value all in
    rw p.1 (adds_some_of (shifted span.offset given) (shifted span.offset whole) c.args.splits.now c.register_list_splits.new.splits (λ n. (same n).0) c.in_err-register_list_splits.ensures)

pub register_list-returns-clause-pushed : goal.register_list-returns-clause-pushed
register_list-returns-clause-pushed t c =
    let kids = nodes (layouts_of c.args.children.now) in
    let span = c.args.range.now in
    let grid = list_split_grid_size c.args.rows in
    let rows = nth_rows kids 0 in
    let whole = mapped_inside rows c.args.rows grid span.start span.end (nth_edges kids 0 ([] ∷ []) 0 rows) ++ span.end ∷ [] in
    let r = c.index-children-0.result in
    let found = c.in_ok-found.found.items in
    let given = mapped_inside c.row_count.result c.args.rows grid span.start span.end c.deref-2.result.now ++ span.end ∷ [] in
    let some = some_there (length c.args.children.now) c.is_empty.result c.is_empty.ensures c.if-is_empty.false in
    let all = subst (λ l. SameNumbers found (edges l ([] ∷ []) 0 (rows_of l))) c.deref.ensures c.in_ok-found.ensures in
    let same = list_same c.args.children.now r span.offset c.args.rows grid span.start span.end c.row_count.result c.deref-2.result.now found
    some c.index-children-0.is (c.row_count.ensures ∙ ap rows_of c.deref-3.ensures) c.deref-2.ensures.value all in
    adds_same (shifted span.offset given) (shifted span.offset whole) c.args.splits.now c.register_list_splits.new.splits same c.in_ok-register_list_splits.ensures

pub register_matching-returns-then-some_matches_all-clause-first : goal.register_matching-returns-then-some_matches_all-clause-first
register_matching-returns-then-some_matches_all-clause-first t c =
    let kids = nodes (layouts_of c.args.children.now) in
    let fs = fields_of c.args.fields.now in
    let first = c.args.first in
    let masks = c.args.masks.now in
    let yes = sym c.some_matches_all.ensures ∙ c.if-some_matches_all.true in
    let found = ap (any_found (λ m. nth_misses kids (first + m.1) (m.0 ∷ []))) (sym (fields_every fs masks yes)) ∙ none_of_every kids first (length (field_list fs)) in
    subst (λ o. Tells c.register_every.result o) (sym (ap missing found)) c.register_every.ensures.first

pub register_matching-returns-then-some_matches_all-clause-pushed : goal.register_matching-returns-then-some_matches_all-clause-pushed
register_matching-returns-then-some_matches_all-clause-pushed t c =
    let kids = nodes (layouts_of c.args.children.now) in
    let fs = fields_of c.args.fields.now in
    let first = c.args.first in
    let masks = c.args.masks.now in
    let span = c.args.range.now in
    let wanted = matched_edges kids (matching fs first (map path_of masks)) span.start span.end in
    let yes = sym c.some_matches_all.ensures ∙ c.if-some_matches_all.true in
    let given = matched_edges kids (cut.every_field fs first) span.start span.end in
    pushes_as c.register_every.result span.offset given wanted c.args.splits.now c.register_every.new.splits (ap (λ found. matched_edges kids found span.start span.end) (matching_every fs first masks yes)) c.register_every.ensures.pushed

pub register_matching-returns-else-some_matches_all-clause-first : goal.register_matching-returns-else-some_matches_all-clause-first
register_matching-returns-else-some_matches_all-clause-first t c =
    let kids = nodes (layouts_of c.args.children.now) in
    let fs = fields_of c.args.fields.now in
    let first = c.args.first in
    let masks = c.args.masks.now in
    let no = sym c.some_matches_all.ensures ∙ c.if-some_matches_all.false in
    let given = any_found (λ m. nth_misses kids (first + m.1) (m.0 ∷ [])) (named_fields (names_of c.args.fields.now) masks) in
    let wanted = any_found (λ m. nth_misses kids (first + m.1) (m.0 ∷ [])) (matching_fields fs masks) in
    tells_same c.register_named.result given wanted (ap (any_found (λ m. nth_misses kids (first + m.1) (m.0 ∷ []))) (fields_named c.args.fields.now masks no)) c.register_named.ensures.first

pub register_matching-returns-else-some_matches_all-clause-pushed : goal.register_matching-returns-else-some_matches_all-clause-pushed
register_matching-returns-else-some_matches_all-clause-pushed t c =
    let kids = nodes (layouts_of c.args.children.now) in
    let fs = fields_of c.args.fields.now in
    let first = c.args.first in
    let masks = c.args.masks.now in
    let span = c.args.range.now in
    let wanted = matched_edges kids (matching fs first (map path_of masks)) span.start span.end in
    let no = sym c.some_matches_all.ensures ∙ c.if-some_matches_all.false in
    let given = matched_edges kids (flat_map (matching_one fs first) (map path_of masks)) span.start span.end in
    pushes_as c.register_named.result span.offset given wanted c.args.splits.now c.register_named.new.splits (ap (λ found. matched_edges kids found span.start span.end) (matching_named fs first masks no)) c.register_named.ensures.pushed

pub register_named-returns-in_default-clause-first : goal.register_named-returns-in_default-clause-first
register_named-returns-in_default-clause-first t c =
    let kids = nodes (layouts_of c.args.children.now) in
    let fs = c.args.fields.now in
    let first = c.args.first in
    let ms = c.args.masks.now in
    let k = c.loop-mask.mask-index in
    let m = c.mask-item.result in
    ap missing (c.loop-mask.invariant.0 ∙ found_none (λ x. nth_misses kids (first + x.1) (x.0 ∷ [])) (names_of fs) ms k m c.loop-mask-test.true c.mask-item.is c.in_default.ensures.place)

pub register_named-returns-in_default-clause-pushed : goal.register_named-returns-in_default-clause-pushed
register_named-returns-in_default-clause-pushed t c =
    let kids = nodes (layouts_of c.args.children.now) in
    let fs = c.args.fields.now in
    let first = c.args.first in
    let ms = c.args.masks.now in
    let k = c.loop-mask.mask-index in
    let span = c.args.range.now in
    let paths = matching_one (fields_of fs) first in
    let whole = matched_edges kids (flat_map paths (map path_of ms)) span.start span.end in
    let rest = matched_edges kids (flat_map paths (map path_of (drop k ms))) span.start span.end in
    let now = c.loop-mask.splits in
    c.loop-mask.invariant.1.some now (adds_less (shifted span.offset rest) now now refl)

pub register_named-returns-in_err-try_clone-clause-pushed : goal.register_named-returns-in_err-try_clone-clause-pushed
register_named-returns-in_err-try_clone-clause-pushed t c =
    let p = err_from_is_err_and c.from_residual.result c.from_residual.ensures.1 in
    let kids = nodes (layouts_of c.args.children.now) in
    let fs = c.args.fields.now in
    let first = c.args.first in
    let ms = c.args.masks.now in
    let k = c.loop-mask.mask-index in
    let span = c.args.range.now in
    let paths = matching_one (fields_of fs) first in
    let whole = matched_edges kids (flat_map paths (map path_of ms)) span.start span.end in
    let rest = matched_edges kids (flat_map paths (map path_of (drop k ms))) span.start span.end in
    let now = c.loop-mask.splits in
    rw p.1 (c.loop-mask.invariant.1.some now (adds_less (shifted span.offset rest) now now refl))

pub register_named-returns-in_err-register_child-clause-first : goal.register_named-returns-in_err-register_child-clause-first
register_named-returns-in_err-register_child-clause-first t c =
    let p = err_from_is_err_and c.from_residual-in_err-register_child.result c.from_residual-in_err-register_child.ensures.1 in
    let kids = nodes (layouts_of c.args.children.now) in
    let fs = c.args.fields.now in
    let first = c.args.first in
    let ms = c.args.masks.now in
    let k = c.loop-mask.mask-index in
    let m = c.mask-item.result in
    let below : c.step_into-below.result ≡ stepped c.mask-item.result = c.step_into-below.ensures ∙ ap stepped c.in_ok-try_clone.ensures in
    let at = first + c.in-Some.i in
    let one = nth_misses kids at (c.step_into-below.result ∷ []) in
    let same : nth_misses kids at (stepped m ∷ []) ≡ one = ap (λ x. nth_misses kids at (x ∷ [])) (sym below) in
    rw (p.1, p.2) (tells_more c.in_err-register_child.field-0.0 one (any_found (λ x. nth_misses kids (first + x.1) (x.0 ∷ [])) (named_fields (names_of fs) ms))
    (λ q. c.loop-mask.invariant.0 ∙ found_here (λ x. nth_misses kids (first + x.1) (x.0 ∷ [])) (names_of fs) ms k m c.in-Some.i c.loop-mask-test.true c.mask-item.is c.in-Some.ensures.place (same ∙ q)) c.in_err-register_child.ensures.first)

pub register_named-returns-in_err-register_child-clause-pushed : goal.register_named-returns-in_err-register_child-clause-pushed
register_named-returns-in_err-register_child-clause-pushed t c =
    let p = err_from_is_err_and c.from_residual-in_err-register_child.result c.from_residual-in_err-register_child.ensures.1 in
    let kids = nodes (layouts_of c.args.children.now) in
    let fs = c.args.fields.now in
    let first = c.args.first in
    let ms = c.args.masks.now in
    let k = c.loop-mask.mask-index in
    let span = c.args.range.now in
    let paths = matching_one (fields_of fs) first in
    let whole = matched_edges kids (flat_map paths (map path_of ms)) span.start span.end in
    let rest = matched_edges kids (flat_map paths (map path_of (drop k ms))) span.start span.end in
    let now = c.loop-mask.splits in
    let below : c.step_into-below.result ≡ stepped c.mask-item.result = c.step_into-below.ensures ∙ ap stepped c.in_ok-try_clone.ensures in
    let at = first + c.in-Some.i in
    let next = matched_edges kids (flat_map paths (map path_of (drop (k + 1) ms))) span.start span.end in
    let one = nth_edges kids at (path_of (stepped c.mask-item.result) ∷ []) span.start span.end in
    let given = nth_edges kids at (path_of c.step_into-below.result ∷ []) span.start span.end in
    let same : given ≡ one = (λ j. nth_edges kids at (path_of (below j) ∷ []) span.start span.end) in
    let step : rest ≡ one ++ next = named_at kids fs first span.start span.end ms k c.mask-item.result c.in-Some.i c.loop-mask-test.true c.mask-item.is c.in-Some.ensures.place in
    let new = c.register_child.new.splits in
    rw p.1 (stops span.offset whole c.args.splits.now rest one next now new step c.loop-mask.invariant.1 (some_as span.offset given one now new same c.in_err-register_child.ensures.pushed))

pub register_named-loop-mask-preserved : goal.register_named-loop-mask-preserved
register_named-loop-mask-preserved t c =
    let kids = nodes (layouts_of c.args.children.now) in
    let fs = c.args.fields.now in
    let first = c.args.first in
    let ms = c.args.masks.now in
    let k = c.loop-mask.mask-index in
    let span = c.args.range.now in
    let paths = matching_one (fields_of fs) first in
    let whole = matched_edges kids (flat_map paths (map path_of ms)) span.start span.end in
    let rest = matched_edges kids (flat_map paths (map path_of (drop k ms))) span.start span.end in
    let now = c.loop-mask.splits in
    let below : c.step_into-below.result ≡ stepped c.mask-item.result = c.step_into-below.ensures ∙ ap stepped c.in_ok-try_clone.ensures in
    let at = first + c.in-Some.i in
    let next = matched_edges kids (flat_map paths (map path_of (drop (k + 1) ms))) span.start span.end in
    let one = nth_edges kids at (path_of (stepped c.mask-item.result) ∷ []) span.start span.end in
    let given = nth_edges kids at (path_of c.step_into-below.result ∷ []) span.start span.end in
    let same : given ≡ one = (λ j. nth_edges kids at (path_of (below j) ∷ []) span.start span.end) in
    let step : rest ≡ one ++ next = named_at kids fs first span.start span.end ms k c.mask-item.result c.in-Some.i c.loop-mask-test.true c.mask-item.is c.in-Some.ensures.place in
    let m = c.mask-item.result in
    let none : nth_misses kids at (stepped m ∷ []) ≡ false = ap (λ x. nth_misses kids at (x ∷ [])) (sym below) ∙ not_missing_of c.in_ok-register_child.field-0 (nth_misses kids at (c.step_into-below.result ∷ [])) c.in_ok-register_child.ensures.first in
    let new = c.register_child.new.splits in (
      c.loop-mask.invariant.0 ∙ found_later (λ x. nth_misses kids (first + x.1) (x.0 ∷ [])) (names_of fs) ms k m c.in-Some.i c.loop-mask-test.true c.mask-item.is c.in-Some.ensures.place none,
      goes_on span.offset whole c.args.splits.now rest one next now new step c.loop-mask.invariant.1 (adds_as span.offset given one now new same c.in_ok-register_child.ensures.pushed),
    )

pub register_named-returns-clause-first : goal.register_named-returns-clause-first
register_named-returns-clause-first t c =
    let kids = nodes (layouts_of c.args.children.now) in
    let fs = c.args.fields.now in
    let first = c.args.first in
    let ms = c.args.masks.now in
    let k = c.loop-mask.mask-index in
    ap missing (c.loop-mask.invariant.0 ∙ found_past (λ x. nth_misses kids (first + x.1) (x.0 ∷ [])) (names_of fs) ms k c.loop-mask-test.false)

pub register_named-returns-clause-pushed : goal.register_named-returns-clause-pushed
register_named-returns-clause-pushed t c =
    let kids = nodes (layouts_of c.args.children.now) in
    let fs = c.args.fields.now in
    let first = c.args.first in
    let ms = c.args.masks.now in
    let k = c.loop-mask.mask-index in
    let span = c.args.range.now in
    let paths = matching_one (fields_of fs) first in
    let whole = matched_edges kids (flat_map paths (map path_of ms)) span.start span.end in
    let rest = matched_edges kids (flat_map paths (map path_of (drop k ms))) span.start span.end in
    let now = c.loop-mask.splits in
    ends span.offset whole c.args.splits.now rest now (named_past kids fs first span.start span.end ms k c.loop-mask-test.false) c.loop-mask.invariant.1

pub register_node-returns-in-Struct-clause-first : goal.register_node-returns-in-Struct-clause-first
register_node-returns-in-Struct-clause-first t c =
    let d = c.node.inside.dtype in
    let rows = c.node.inside.row_count in
    let kind = c.node.inside.kind in
    let masks = c.args.masks.now in
    let kids = nodes (layouts_of c.as_slice-children.result.now) in
    let is = ap (λ ls. node d rows kind (nodes ls)) c.as_slice-children.ensures ∙ c.node.view_is in
    let given = any_found (λ m. nth_misses kids (one_where (nullability_of d) + m.1) (m.0 ∷ [])) (found_fields (struct_fields_of d) masks) in
    tells_same c.register_struct.result given (misses c.args.node.now masks) (struct_misses c.args.node.now d rows kind kids masks is c.in-Struct.is) c.register_struct.ensures.first

pub register_node-returns-in-Struct-clause-pushed : goal.register_node-returns-in-Struct-clause-pushed
register_node-returns-in-Struct-clause-pushed t c =
    let d = c.node.inside.dtype in
    let rows = c.node.inside.row_count in
    let kind = c.node.inside.kind in
    let masks = c.args.masks.now in
    let kids = nodes (layouts_of c.as_slice-children.result.now) in
    let is = ap (λ ls. node d rows kind (nodes ls)) c.as_slice-children.ensures ∙ c.node.view_is in
    let span = c.args.range.now in
    let paths = map path_of masks in
    let wanted = edges c.args.node.now paths span.start span.end in
    let given = matched_edges kids (struct_matches d paths) span.start span.end ++ span.end ∷ [] in
    pushes_as c.register_struct.result span.offset given wanted c.args.splits.now c.register_struct.new.splits (struct_edges c.args.node.now d rows kind kids paths span.start span.end is c.in-Struct.is) c.register_struct.ensures.pushed

pub register_node-returns-in-List-clause-pushed : goal.register_node-returns-in-List-clause-pushed
register_node-returns-in-List-clause-pushed t c =
    let d = c.node.inside.dtype in
    let rows = c.node.inside.row_count in
    let kind = c.node.inside.kind in
    let masks = c.args.masks.now in
    let kids = nodes (layouts_of c.as_slice-children.result.now) in
    let is = ap (λ ls. node d rows kind (nodes ls)) c.as_slice-children.ensures ∙ c.node.view_is in
    let span = c.args.range.now in
    let paths = map path_of masks in
    let wanted = edges c.args.node.now paths span.start span.end in
    let count = nth_rows kids 0 in
    let given = mapped_inside count rows (list_split_grid_size rows) span.start span.end (nth_edges kids 0 ([] ∷ []) 0 count) ++ span.end ∷ [] in
    pushes_as c.register_list.result span.offset given wanted c.args.splits.now c.register_list.new.splits (list_edges c.args.node.now d rows kind c.in-List.field-0 kids paths span.start span.end is c.in-List.is) c.register_list.ensures.pushed

pub register_struct-returns-in_err-push_end-clause-pushed : goal.register_struct-returns-in_err-push_end-clause-pushed
register_struct-returns-in_err-push_end-clause-pushed t c =
    let p = err_from_is_err_and c.from_residual.result c.from_residual.ensures.1 in
    rw (p.1, struct_none c.args.dtype.now (map path_of c.args.masks.now) c.in_default.ensures) c.in_err-push_end.ensures

pub register_struct-returns-in_default-clause-first : goal.register_struct-returns-in_default-clause-first
register_struct-returns-in_default-clause-first t c =
    rw (← c.in_default.ensures) refl

pub register_struct-returns-in_default-clause-pushed : goal.register_struct-returns-in_default-clause-pushed
register_struct-returns-in_default-clause-pushed t c =
    rw (struct_none c.args.dtype.now (map path_of c.args.masks.now) c.in_default.ensures) c.in_ok-push_end.ensures

pub register_struct-returns-in_err-register_fields-clause-first : goal.register_struct-returns-in_err-register_fields-clause-first
register_struct-returns-in_err-register_fields-clause-first t c =
    let p = err_from_is_err_and c.from_residual-in_err-register_fields.result c.from_residual-in_err-register_fields.ensures.1 in
    let kids = nodes (layouts_of c.args.children.now) in
    let d = c.args.dtype.now in
    let masks = c.args.masks.now in
    let n = c.nullability-nullability.result in
    let fs = fields_of c.in-Some.fields.now in
    let given = any_found (λ m. nth_misses kids (one_where n + m.1) (m.0 ∷ [])) (matching_fields fs masks) in
    let wanted = any_found (λ m. nth_misses kids (one_where (nullability_of d) + m.1) (m.0 ∷ [])) (found_fields (struct_fields_of d) masks) in
    let same : given ≡ wanted = struct_found kids d n fs masks c.nullability-nullability.ensures c.in-Some.ensures in
    rw (p.1, p.2) (tells_same (Err c.in_err-register_fields.field-0.0) given wanted same c.in_err-register_fields.ensures.first)

pub register_struct-returns-in_err-register_fields-clause-pushed : goal.register_struct-returns-in_err-register_fields-clause-pushed
register_struct-returns-in_err-register_fields-clause-pushed t c =
    let p = err_from_is_err_and c.from_residual-in_err-register_fields.result c.from_residual-in_err-register_fields.ensures.1 in
    let kids = nodes (layouts_of c.args.children.now) in
    let d = c.args.dtype.now in
    let masks = c.args.masks.now in
    let span = c.args.range.now in
    let paths = map path_of masks in
    let n = c.nullability-nullability.result in
    let fs = fields_of c.in-Some.fields.now in
    let given = matched_edges kids (struct_matches (struct_type fs n) paths) span.start span.end in
    let wanted = matched_edges kids (struct_matches d paths) span.start span.end in
    let same : given ≡ wanted = struct_cut kids d n fs paths span.start span.end c.nullability-nullability.ensures c.in-Some.ensures in
    let mid = c.register_fields.new.splits in
    rw p.1 (shifted_part span.offset wanted (span.end ∷ []) c.args.splits.now mid (some_as span.offset given wanted c.args.splits.now mid same c.in_err-register_fields.ensures.pushed))

pub register_struct-returns-in_err-push_end-2-clause-pushed : goal.register_struct-returns-in_err-push_end-2-clause-pushed
register_struct-returns-in_err-push_end-2-clause-pushed t c =
    let p = err_from_is_err_and c.from_residual-in_err-push_end-2.result c.from_residual-in_err-push_end-2.ensures.1 in
    let kids = nodes (layouts_of c.args.children.now) in
    let d = c.args.dtype.now in
    let masks = c.args.masks.now in
    let span = c.args.range.now in
    let paths = map path_of masks in
    let n = c.nullability-nullability.result in
    let fs = fields_of c.in-Some.fields.now in
    let given = matched_edges kids (struct_matches (struct_type fs n) paths) span.start span.end in
    let wanted = matched_edges kids (struct_matches d paths) span.start span.end in
    let same : given ≡ wanted = struct_cut kids d n fs paths span.start span.end c.nullability-nullability.ensures c.in-Some.ensures in
    let mid = c.register_fields.new.splits in
    let front = adds_as span.offset given wanted c.args.splits.now mid same c.in_ok-register_fields.ensures.pushed in
    rw p.1 (then_some span.offset wanted (span.end ∷ []) c.args.splits.now mid c.push_end-2.new.splits front c.in_err-push_end-2.ensures)

pub register_struct-returns-clause-first : goal.register_struct-returns-clause-first
register_struct-returns-clause-first t c =
    let kids = nodes (layouts_of c.args.children.now) in
    let d = c.args.dtype.now in
    let masks = c.args.masks.now in
    let n = c.nullability-nullability.result in
    let fs = fields_of c.in-Some.fields.now in
    let given = any_found (λ m. nth_misses kids (one_where n + m.1) (m.0 ∷ [])) (matching_fields fs masks) in
    let wanted = any_found (λ m. nth_misses kids (one_where (nullability_of d) + m.1) (m.0 ∷ [])) (found_fields (struct_fields_of d) masks) in
    let same : given ≡ wanted = struct_found kids d n fs masks c.nullability-nullability.ensures c.in-Some.ensures in
    tells_same (Ok c.in_ok-push_end-2.field-0) given wanted same c.in_ok-register_fields.ensures.first

pub register_struct-returns-clause-pushed : goal.register_struct-returns-clause-pushed
register_struct-returns-clause-pushed t c =
    let kids = nodes (layouts_of c.args.children.now) in
    let d = c.args.dtype.now in
    let masks = c.args.masks.now in
    let span = c.args.range.now in
    let paths = map path_of masks in
    let n = c.nullability-nullability.result in
    let fs = fields_of c.in-Some.fields.now in
    let given = matched_edges kids (struct_matches (struct_type fs n) paths) span.start span.end in
    let wanted = matched_edges kids (struct_matches d paths) span.start span.end in
    let same : given ≡ wanted = struct_cut kids d n fs paths span.start span.end c.nullability-nullability.ensures c.in-Some.ensures in
    let mid = c.register_fields.new.splits in
    let front = adds_as span.offset given wanted c.args.splits.now mid same c.in_ok-register_fields.ensures.pushed in
    then_all span.offset wanted (span.end ∷ []) c.args.splits.now mid c.push_end-2.new.splits front c.in_ok-push_end-2.ensures

pub splits_of_all-returns-in-Ok : goal.splits_of_all-returns-in-Ok
splits_of_all-returns-in-Ok t c =
    all_splits c.args.node.now c.whole-whole.result c.row_count.result c.in_ok-found.found c.register_node.new.splits c.into_sorted_deduped.result.items
    c.whole-whole.ensures c.row_count.ensures c.in_ok-found.ensures c.in-Ok.ensures.pushed c.into_sorted_deduped.ensures.same
