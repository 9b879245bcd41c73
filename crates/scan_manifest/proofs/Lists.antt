-- Lists of JSON values, item by item, and the keys of objects.
use Rattle.std.proofs.Common.{◌≡◌, ◌≢◌, ℕ, ◌+◌, ◌<◌, List, [], ◌∷◌, ◌++◌, length, get_or, drop, refl, sym, ap, ◌∙◌, append_assoc, arith, subst}
use Rattle.std.specs.Prelude.{Option, None, Some, option_map, option_and_then, ◌&&◌, string_bytes, String, Result}
use Rattle.std.specs.declared.alloc.Global.{Global}
use Rattle.std.specs.List.{list_all, zip}
use Rattle.std.specs.Map.{keys_of}
use Rattle.std.proofs.lemmas.List.{drop_more}
use Rattle.serde_json.specs.Data.{Data, null, boolean, number, string, array, object, Members}
use Rattle.serde_json.specs.Find.{as_object}
use Rattle.serde_json.specs.declared.value.Value.{Value}
use Rattle.serde_json.specs.View.{view, items_view, members_view}
use Rattle.scan_manifest.specs.declared.json.Form.{Form}
use Rattle.scan_manifest.specs.Forms.{is_key}
use Rattle.scan_manifest.specs.Json.{pair_of, each, each_from, has_keys, has_form}
use Rattle.scan_manifest.specs.Parse.{IsParse, IsParseBy}
use Rattle.scan_manifest.specs.declared.json.ParseFault.{ParseFault}

pub pair_of-not : (vs : List Value) → length vs ≢ 2 → pair_of (items_view vs) ≡ None
pair_of-not [] h = refl
pair_of-not (a ∷ []) h = refl
pair_of-not (a ∷ b ∷ []) h = absurd (h refl)
pair_of-not (a ∷ b ∷ c ∷ vs) h = refl

module _ {T : Type 0} (f : ℕ → Data → Option T) where
  glued : (found : List T) (x : T) (o : Option (List T)) → option_map (λ xs. found ++ xs) (option_map (λ xs. x ∷ xs) o) ≡ option_map (λ xs. (found ++ x ∷ []) ++ xs) o
  glued found x None = refl
  glued found x (Some xs) = ap Some (sym (append_assoc found (x ∷ []) xs))

  -- one more item is something
  pub each_more : (all : List Value) (found : List T) (i : ℕ) (d : Value) (x : T) → i < length all
      → each_from f 0 (items_view all) ≡ option_map (λ xs. found ++ xs) (each_from f i (items_view (drop i all))) → f i (view (get_or all i d)) ≡ Some x
      → each_from f 0 (items_view all) ≡ option_map (λ xs. (found ++ x ∷ []) ++ xs) (each_from f (i + 1) (items_view (drop (i + 1) all)))
  each_more all found i d x lt inv e =
      inv ∙ ap (λ vs. option_map (λ xs. found ++ xs) (each_from f i (items_view vs))) (drop_more all i d lt)
      ∙ ap (λ o. option_map (λ xs. found ++ xs) (option_and_then (λ y. option_map (λ ys. y ∷ ys) (each_from f (i + 1) (items_view (drop (i + 1) all)))) o)) e
      ∙ glued found x (each_from f (i + 1) (items_view (drop (i + 1) all)))

pub has_keys-keys : (f : Form) (es : List (String Global × Value)) → has_keys f (members_view es) ≡ list_all (λ k. is_key f (string_bytes k)) (keys_of es)
has_keys-keys f [] = refl
has_keys-keys f (e ∷ es) = ap (λ b. is_key f (string_bytes e.0) && b) (has_keys-keys f es)

pub form_of : (f : Form) (d : Data) (ms : Members) → Some ms ≡ as_object d → has_form f d ≡ has_keys f ms
form_of f null ms e = cc
form_of f (boolean b) ms e = cc
form_of f (number n) ms e = cc
form_of f (string s) ms e = cc
form_of f (array ds) ms e = cc
form_of f (object ns) ms e = let same : ns ≡ ms = cc in ap (has_keys f) same

zip_more : {A B : Type 0} (xs : List A) (ys : List B) (x : A) (y : B) → length xs ≡ length ys → zip (xs ++ x ∷ []) (ys ++ y ∷ []) ≡ zip xs ys ++ (x, y) ∷ []
zip_more [] [] x y h = refl
zip_more [] (b ∷ ys) x y h = absurd (omega arith)
zip_more (a ∷ xs) [] x y h = absurd (omega arith)
zip_more (a ∷ xs) (b ∷ ys) x y h = ap (λ zs. (a, b) ∷ zs) (zip_more xs ys x y (omega arith))

-- one more item is a pair, whose parts are kept apart
pub pairs_more : {A B : Type 0} (f : Data → Option (A × B)) (all : List Value) (xs xs' : List A) (ys ys' : List B) (i : ℕ) (v : Value) (x : A) (y : B) → i < length all → v ≡ get_or all i v
    → length xs ≡ length ys → xs' ≡ xs ++ x ∷ [] → ys' ≡ ys ++ y ∷ []
    → each f (items_view all) ≡ option_map (λ zs. zip xs ys ++ zs) (each_from (λ _. f) i (items_view (drop i all))) → f (view v) ≡ Some (x, y)
    → each f (items_view all) ≡ option_map (λ zs. zip xs' ys' ++ zs) (each_from (λ _. f) (i + 1) (items_view (drop (i + 1) all)))
pairs_more f all xs xs' ys ys' i v x y lt at h ex ey inv e =
    each_more (λ _. f) all (zip xs ys) i v (x, y) lt inv (ap (λ w. f (view w)) (sym at) ∙ e)
    ∙ ap (λ ws. option_map (λ zs. ws ++ zs) (each_from (λ _. f) (i + 1) (items_view (drop (i + 1) all))))
    (sym (ap (λ us. zip us ys') ex ∙ ap (λ us. zip (xs ++ x ∷ []) us) ey ∙ zip_more xs ys x y h))

pub parse_same : {T : Type 0} (o p : Option T) (r : Result T ParseFault) → o ≡ p → IsParse p r → IsParse o r
parse_same o p r e h = subst (λ q. IsParse q r) (sym e) h

pub parse_same_by : {T U : Type 0} (f : U → T) (o p : Option T) (r : Result U ParseFault) → o ≡ p → IsParseBy f p r → IsParseBy f o r
parse_same_by f o p r e h = subst (λ q. IsParseBy f q r) (sym e) h
