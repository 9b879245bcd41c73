use Rattle.std.proofs.Common.{◌≡◌, ◌++◌, length, map, None, Some, sym, ap, ◌∙◌, arith}
use Rattle.std.specs.Prelude.{option_map}
use Rattle.std.proofs.lemmas.List.{length-map}
use Rattle.scan_values.specs.DataType.{Name}
use Rattle.scan_values.specs.FieldLists.{dtypes_of}
use Rattle.scan_expr.specs.Expr.{Expr}
use Rattle.scan_expr.specs.Infer.{infer}
use Rattle.scan_table.specs.declared.fault.TableFault.TheVariants as fault
use Rattle.scan_table.specs.Request.{key_fault, measure_fault, or_else}
use Rattle.scan_table.specs.Spec.{key_parts, measure_parts}
use Rattle.scan_table.proofs.Checking.{no_place}
use Rattle.scan_table.proofs.check.check_parts.Goals as goal

pub returns-in-Some-clause-err : goal.returns-in-Some-clause-err
returns-in-Some-clause-err c = λ d are.
    let s = c.args.spec.now in
    let es = measure_parts s.measures.items in
    let ks = key_parts s.keys.items in
    let ts = dtypes_of c.args.types.now in
    let here : ts ≡ map (infer d) (key_parts c.as_slice.result.now ++ es) = are ∙ ap (λ xs. map (infer d) (key_parts xs ++ es)) (sym c.as_slice.ensures.value) in
    let keys : key_fault d 0 s.keys.items ≡ option_map (λ key. fault.KeyType key) c.first_bad_key.result = ap (key_fault d 0) (sym c.as_slice.ensures.value) ∙ c.first_bad_key.ensures d es here in
    let is : key_fault d 0 s.keys.items ≡ Some (fault.KeyType c.in-Some.key) = keys ∙ ap (λ o. option_map (λ key. fault.KeyType key) o) c.in-Some.is in
    ap (λ o. or_else o (measure_fault d 0 s.measures.items)) is

pub returns-in-Some-first_bad_measure-clause-err : goal.returns-in-Some-first_bad_measure-clause-err
returns-in-Some-first_bad_measure-clause-err c = λ d are.
    let s = c.args.spec.now in
    let es = measure_parts s.measures.items in
    let ks = key_parts s.keys.items in
    let ts = dtypes_of c.args.types.now in
    let here : ts ≡ map (infer d) (key_parts c.as_slice.result.now ++ es) = are ∙ ap (λ xs. map (infer d) (key_parts xs ++ es)) (sym c.as_slice.ensures.value) in
    let keys : key_fault d 0 s.keys.items ≡ option_map (λ key. fault.KeyType key) c.first_bad_key.result = ap (key_fault d 0) (sym c.as_slice.ensures.value) ∙ c.first_bad_key.ensures d es here in
    let none : key_fault d 0 s.keys.items ≡ None = keys ∙ ap (λ o. option_map (λ key. fault.KeyType key) o) (no_place c.first_bad_key.result c.in_default.not-Some) in
    let there : ts ≡ map (infer d) (ks ++ measure_parts c.as_slice-2.result.now) = are ∙ ap (λ ms. map (infer d) (ks ++ measure_parts ms)) (sym c.as_slice-2.ensures.value) in
    let n : length s.keys.items ≡ c.len.result = omega (arith, c.len.ensures, s.keys.ok.0) in
    let long : length ks ≡ c.len.result = length-map s.keys.items (λ (k : Name × Expr). k.1) ∙ n in
    ap (λ o. or_else o (measure_fault d 0 s.measures.items)) none ∙ ap (measure_fault d 0) (sym c.as_slice-2.ensures.value)
    ∙ c.first_bad_measure.ensures d ks long there ∙ ap (λ o. option_map (λ measure. fault.MeasureType measure) o) c.in-Some-first_bad_measure.is

pub returns-in-None-clause-ok : goal.returns-in-None-clause-ok
returns-in-None-clause-ok c = λ d are.
    let s = c.args.spec.now in
    let es = measure_parts s.measures.items in
    let ks = key_parts s.keys.items in
    let ts = dtypes_of c.args.types.now in
    let here : ts ≡ map (infer d) (key_parts c.as_slice.result.now ++ es) = are ∙ ap (λ xs. map (infer d) (key_parts xs ++ es)) (sym c.as_slice.ensures.value) in
    let keys : key_fault d 0 s.keys.items ≡ option_map (λ key. fault.KeyType key) c.first_bad_key.result = ap (key_fault d 0) (sym c.as_slice.ensures.value) ∙ c.first_bad_key.ensures d es here in
    let none : key_fault d 0 s.keys.items ≡ None = keys ∙ ap (λ o. option_map (λ key. fault.KeyType key) o) (no_place c.first_bad_key.result c.in_default.not-Some) in
    let there : ts ≡ map (infer d) (ks ++ measure_parts c.as_slice-2.result.now) = are ∙ ap (λ ms. map (infer d) (ks ++ measure_parts ms)) (sym c.as_slice-2.ensures.value) in
    let n : length s.keys.items ≡ c.len.result = omega (arith, c.len.ensures, s.keys.ok.0) in
    let long : length ks ≡ c.len.result = length-map s.keys.items (λ (k : Name × Expr). k.1) ∙ n in
    ap (λ o. or_else o (measure_fault d 0 s.measures.items)) none ∙ ap (measure_fault d 0) (sym c.as_slice-2.ensures.value)
    ∙ c.first_bad_measure.ensures d ks long there ∙ ap (λ o. option_map (λ measure. fault.MeasureType measure) o) c.in-None.is
