use borrow.Author.Rules.{rules}
use Rattle.std.proofs.Common.{◌≡◌, ◌+◌, ◌<◌, ◌++◌, ◌∷◌, [], ℕ, List, Bool, true, false, ◌∙◌, ap, sym, cond, length, drop, get_or, arith, append_assoc}
use Rattle.std.specs.List.{items_where_true, slice_range}
use Rattle.scan_values.specs.Val.{Val, null_val, text_val}
use Rattle.scan_values.specs.declared.dtype.DTypeKind.TheVariants as kinds
use Rattle.scan_spelling.specs.Spelling.{cells}
use Rattle.scan_spelling.specs.LeafColumns.{or_none}
use Rattle.scan_spelling.specs.TextColumns.{row_flags}
use Rattle.scan_spelling.proofs.Columns.{range_passed}
use Rattle.scan_spelling.proofs.Cutting.{range_taken, run_values, run_more, values_more}
use Rattle.scan_spelling.proofs.Lengths.{cells_length}
use Rattle.scan_spelling.proofs.TextRows.{flags_length}
use Rattle.scan_spelling.proofs.text_run.picked_texts.Goals as goal

pub loop-i-preserved-then-not-mask-i : goal.loop-i-preserved-then-not-mask-i
loop-i-preserved-then-not-mask-i c =
    let mask : List Bool = c.args.mask.now in
    let i = c.loop-i.i in
    let fs : List ℕ = row_flags c.args.spelling c.args.nullability c.args.rows c.args.flags.now in
    let vs : List Val = or_none (cells kinds.Utf8 fs c.args.bytes.now) in
    let many : length vs ≡ c.args.rows = cells_length kinds.Utf8 fs c.args.bytes.now vs c.requires.spelled ∙ flags_length c.args.spelling c.args.nullability c.args.rows c.args.flags.now c.requires.flags in
    let low : i < length mask = search (rules, c.loop-i-test.true) in
    let here : get_or mask i false ≡ false = search (rules, c.if-not-mask-i.true) in
    record {
      run = c.loop-i.invariant.run;
      values = ap (λ us. run_values c.loop-i.made.items c.loop-i.places.items c.loop-i.valid.items ++ us) (sym (range_passed mask vs c.args.first i low (omega (arith, c.requires.within, many)) here)) ∙ c.loop-i.invariant.values;
    }

pub loop-i-preserved : goal.loop-i-preserved
loop-i-preserved c =
    let mask : List Bool = c.args.mask.now in
    let i = c.loop-i.i in
    let fs : List ℕ = row_flags c.args.spelling c.args.nullability c.args.rows c.args.flags.now in
    let vs : List Val = or_none (cells kinds.Utf8 fs c.args.bytes.now) in
    let low : i < length mask = search (rules, c.loop-i-test.true) in
    let here : get_or mask i false ≡ true = search (rules, c.if-not-mask-i.false) in
    let made : List ℕ = c.loop-i.made.items in
    let places : List ℕ = c.loop-i.places.items in
    let valid : List Bool = c.loop-i.valid.items in
    let text : List ℕ = c.row_part-there.result.1.now in
    let b : Bool = c.row_part-there.result.0 in
    let more : c.extend_from_slice.new.self.items ≡ made ++ text = search (rules, c.in_ok-extend_from_slice.ensures.items) in
    let count : c.len.result ≡ length (made ++ text) = search (rules, c.len.ensures, more) in
    let ends : c.push.new.self.items ≡ places ++ (length (made ++ text) ∷ []) = c.in_ok-push.ensures.items ∙ ap (λ k. places ++ (k ∷ [])) count in
    let bits : c.push-in-loop-i.new.self.items ≡ valid ++ (b ∷ []) = search (rules, c.in_ok-push-2.ensures.items) in
    let rest : List Val = items_where_true (drop (i + 1) mask) (drop (i + 1) (slice_range vs c.args.first (c.args.first + length mask))) in
    let taken = range_taken mask vs c.args.first i (cond b (text_val text) null_val) low here c.row_part-there.ensures.value in
    rw (more, ends, bits) (record {
      run = run_more made places valid text b c.loop-i.invariant.run c.row_part-there.ensures.text;
      values = ap (λ us. us ++ rest) (values_more made places valid text b c.loop-i.invariant.run) ∙ append_assoc (run_values made places valid) (cond b (text_val text) null_val ∷ []) rest
          ∙ ap (λ us. run_values made places valid ++ us) (sym taken) ∙ c.loop-i.invariant.values;
    })
