-- One level of what a JSON value says, over the levels below.
use Rattle.std.proofs.Common.{◌≡◌, ℕ, zero, suc, ◌-◌, ◌<◌, ◌≢◌, ◌∙◌, List, [], ◌∷◌, length, refl, sym, ap, arith}
use Rattle.std.specs.Prelude.{codes, true, Option, Some, None, option_and_then, unwrap_or, slice_get, cond, string_bytes, String}
use Rattle.std.specs.declared.alloc.Global.{Global}
use Rattle.std.specs.List.{zip}
use Rattle.serde_json.specs.Data.{Data, Items}
use Rattle.serde_json.specs.Find.{get, as_str, as_array}
use Rattle.serde_json.specs.declared.value.Value.{Value}
use Rattle.serde_json.specs.View.{view, members_view}
use Rattle.scan_values.specs.declared.ptype.Nullability.{Nullability}
use Rattle.scan_values.specs.DataType.{DataType, Name, field_list, fields_of}
use Rattle.scan_values.specs.FieldLists.{dtypes_of}
use Rattle.scan_expr.specs.Expr.{Expr, part, pack, parts_of}
use Rattle.scan_manifest.specs.declared.json.Form.TheVariants.{Pack}
use Rattle.scan_manifest.specs.Json.{has_form, each, both}
use Rattle.scan_manifest.specs.DTypes.{dtype_from, dtype_within, nullability_in}
use Rattle.scan_manifest.specs.Layouts.{layout_from, layout_within, truth, field_or_truth}
use Rattle.scan_manifest.specs.Exprs.{expr_from, expr_within, part_in, parts_from, pack_in, only_member}

pub dtype_level : (n : ℕ) (d : Data) → 0 < n → dtype_within n d ≡ dtype_from (dtype_within (n - 1)) d (as_str d)
dtype_level zero d h = absurd (omega arith)
dtype_level (suc n) d h = let e : suc n - 1 ≡ n = omega arith in ap (λ k. dtype_from (dtype_within k) d (as_str d)) (sym e)

pub layout_level : (n : ℕ) (t : DataType) (d : Data) → 0 < n → layout_within n t d ≡ layout_from (layout_within (n - 1)) t d (get (codes "leaf") d)
layout_level zero t d h = absurd (omega arith)
layout_level (suc n) t d h = let e : suc n - 1 ≡ n = omega arith in ap (λ k. layout_from (layout_within k) t d (get (codes "leaf") d)) (sym e)

pub expr_level : (n : ℕ) (d : Data) → 0 < n → expr_within n d ≡ expr_from (expr_within (n - 1)) d (as_str d)
expr_level zero d h = absurd (omega arith)
expr_level (suc n) d h = let e : suc n - 1 ≡ n = omega arith in ap (λ k. expr_from (expr_within k) d (as_str d)) (sym e)

pub parts_zip : (ns : List Name) (es : List Expr) → length es ≡ length ns → parts_of ns es ≡ parts_from (zip ns es)
parts_zip [] [] h = refl
parts_zip [] (e ∷ es) h = absurd (omega arith)
parts_zip (n ∷ ns) [] h = absurd (omega arith)
parts_zip (n ∷ ns) (e ∷ es) h = ap (λ ps. part n e ps) (parts_zip ns es (omega arith))

pub pack_read : (inner : Data → Option Expr) (d p : Data) (ds : Items) (ns : List Name) (es : List Expr) (n : Nullability) → has_form Pack d ≡ true → as_array p ≡ Some ds → each (part_in inner) ds ≡ Some (zip ns es)
    → nullability_in d ≡ Some n → length es ≡ length ns → pack_in inner d p ≡ Some (pack (parts_of ns es) n)
pack_read inner d p ds ns es n h e g k l =
    let f : List (Name × Expr) → Nullability → Option Expr = λ ps m. Some (pack (parts_from ps) m) in
    ap (λ b. cond b (both f (option_and_then (each (part_in inner)) (as_array p)) (nullability_in d)) None) h
    ∙ ap (λ o. both f (option_and_then (each (part_in inner)) o) (nullability_in d)) e
    ∙ ap (λ o. both f o (nullability_in d)) g
    ∙ ap (λ o. option_and_then (f (zip ns es)) o) k
    ∙ ap (λ q. Some (pack q n)) (sym (parts_zip ns es l))

fields_listed : (fs : List (Name × DataType)) → field_list (fields_of fs) ≡ fs
fields_listed [] = refl
fields_listed (f ∷ fs) = ap (λ gs. f ∷ gs) (fields_listed fs)

pub field_found : (fs : List (Name × DataType)) (i : ℕ) (d : DataType) → Some d ≡ slice_get (dtypes_of fs) i → d ≡ field_or_truth (fields_of fs) i
field_found fs i d h = ap (λ o. unwrap_or o truth) h ∙ ap (λ gs. unwrap_or (slice_get (dtypes_of gs) i) truth) (sym (fields_listed fs))

pub field_missing : (fs : List (Name × DataType)) (i : ℕ) → None ≡ slice_get (dtypes_of fs) i → truth ≡ field_or_truth (fields_of fs) i
field_missing fs i h = ap (λ o. unwrap_or o truth) h ∙ ap (λ gs. unwrap_or (slice_get (dtypes_of gs) i) truth) (sym (fields_listed fs))

pub no_only_member : (es : List (String Global × Value)) → length es ≢ 1 → None ≡ only_member (members_view es)
no_only_member [] h = refl
no_only_member (e ∷ []) h = absurd (h refl)
no_only_member (e ∷ f ∷ es) h = refl

pub one_member : (es : List (String Global × Value)) (k : String Global) (v : Value) → length es ≡ 1 → slice_get es 0 ≡ Some (k, v) → Some (string_bytes k, view v) ≡ only_member (members_view es)
one_member [] k v h e = absurd (omega arith)
one_member (f ∷ []) k v h e = let same : f ≡ (k, v) = cc in ap (λ p. Some (string_bytes p.0, view p.1)) (sym same)
one_member (f ∷ g ∷ es) k v h e = absurd (omega arith)
