-- Steps of loops over names and digits, and selections.
use Rattle.std.proofs.Common.{◌≡◌, ℕ, ◌+◌, ◌*◌, ◌-◌, ◌<◌, ◌≤◌, List, [], ◌∷◌, ◌++◌, Bool, true, false, drop, get_or, length, map, refl, sym, ap, ◌∙◌, add-one, drop-cons, append_assoc, append-nil, subst, arith}
use Rattle.std.proofs.lemmas.List.{drop_all, length-map}
use Rattle.std.specs.Prelude.{◌&&◌, nat_le}
use Rattle.std.proofs.lemmas.Bool.{leb-true}
use Rattle.std.specs.List.{list_all}
use Rattle.scan_values.specs.DataType.{Name}
use Rattle.scan_values.specs.declared.ptype.Nullability.TheVariants.{NonNullable}
use Rattle.scan_expr.specs.Expr.{Expr, pack, unary, parts_of as packed_parts}
use Rattle.scan_expr.specs.declared.op.Unary.TheVariants as un
use Rattle.scan_conditions.specs.Reads.{AreSelected}
use Rattle.scan_conditions.specs.Spelling.{Part, Spells, is_digit}
use Rattle.scan_conditions.specs.Written.{IsSelection, digits_behind, is_number, joined_names, nested, path_expr, path_name, with_dots}

-- ---- a field of a field
pub nested_step : (names : List Name) (i : ℕ) (n : Name) (e now whole : Expr) → drop i names ≡ n ∷ drop (i + 1) names → now ≡ unary (un.GetItem n) e → nested e (drop i names) ≡ whole → nested now (drop (i + 1) names) ≡ whole
nested_step names i n e now whole h k inv = ap (λ x. nested x (drop (i + 1) names)) k ∙ (sym (ap (nested e) h) ∙ inv)

pub nested_end : (names : List Name) (i : ℕ) (e whole : Expr) → length names ≤ i → nested e (drop i names) ≡ whole → e ≡ whole
nested_end names i e whole h inv = sym (ap (nested e) (drop_all i names h)) ∙ inv

-- ---- digits
pub digits_step : (ds : List ℕ) (i c number now whole : ℕ) → drop i ds ≡ c ∷ drop (i + 1) ds → now ≡ number * 10 + (c - 48) → digits_behind number (drop i ds) ≡ whole → digits_behind now (drop (i + 1) ds) ≡ whole
digits_step ds i c number now whole h k inv = ap (λ n. digits_behind n (drop (i + 1) ds)) k ∙ (sym (ap (digits_behind number) h) ∙ inv)

pub all_step : (ds : List ℕ) (i c : ℕ) (whole : Bool) → drop i ds ≡ c ∷ drop (i + 1) ds → is_digit c ≡ true → list_all is_digit (drop i ds) ≡ whole → list_all is_digit (drop (i + 1) ds) ≡ whole
all_step ds i c whole h e inv = sym (ap (λ b. b && list_all is_digit (drop (i + 1) ds)) e) ∙ (sym (ap (list_all is_digit) h) ∙ inv)

pub digits_end : (ds : List ℕ) (i number : ℕ) → length ds ≤ i → digits_behind number (drop i ds) ≡ digits_behind 0 ds → number ≡ digits_behind 0 ds
digits_end ds i number h inv = sym (ap (digits_behind number) (drop_all i ds h)) ∙ inv

pub are_digits : (ds : List ℕ) (i : ℕ) → 0 < length ds → length ds ≤ i → list_all is_digit (drop i ds) ≡ list_all is_digit ds → is_number ds ≡ true
are_digits [] i f h inv = absurd (omega (arith, f))
are_digits (d ∷ ds) i f h inv = sym inv ∙ ap (list_all is_digit) (drop_all i (d ∷ ds) h)

pub digit_at : (ds : List ℕ) (i : ℕ) → i < length ds → drop i ds ≡ get_or ds i 0 ∷ drop (i + 1) ds
digit_at ds i h = drop-cons ds i 0 h ∙ ap (λ k. get_or ds i 0 ∷ drop k ds) (sym (add-one i))

-- ---- names with dots
pub dots_begin : (names : List Name) (n : Name) (text : List ℕ) → 0 < length names → n ≡ get_or names 0 n → text ≡ n → text ++ with_dots (drop 1 names) ≡ joined_names names
dots_begin [] n text f h e = absurd (omega (arith, f))
dots_begin (m ∷ ms) n text f h e = ap (λ t. t ++ with_dots ms) (e ∙ h)

pub dots_step : (names : List Name) (i : ℕ) (n : Name) (old now whole : List ℕ) → drop i names ≡ n ∷ drop (i + 1) names → now ≡ old ++ (46 ∷ n) → old ++ with_dots (drop i names) ≡ whole → now ++ with_dots (drop (i + 1) names) ≡ whole
dots_step names i n old now whole h k inv =
    ap (λ t. t ++ with_dots (drop (i + 1) names)) k ∙ (append_assoc old (46 ∷ n) (with_dots (drop (i + 1) names)) ∙ (ap (λ r. old ++ with_dots r) (sym h) ∙ inv))

pub dots_end : (names : List Name) (i : ℕ) (text whole : List ℕ) → length names ≤ i → text ++ with_dots (drop i names) ≡ whole → text ≡ whole
dots_end names i text whole h inv = sym (append-nil text) ∙ (ap (λ r. text ++ with_dots r) (sym (drop_all i names h)) ∙ inv)

-- ---- selections
pub selection_said : (bytes : List ℕ) (made ps : List Part) (names : List Name) (es : List Expr) (e : Expr) → ps ≡ made → Spells bytes made → AreSelected ps names es → e ≡ pack (packed_parts names es) NonNullable → IsSelection bytes e
selection_said bytes made ps names es e q h a k = record {
  first = a.first;
  others = a.others;
  spells = subst (Spells bytes) (sym q ∙ a.from) h;
  fields = a.fields;
  is = k ∙ ap (λ p. pack p NonNullable) (ap (λ ns. packed_parts ns es) a.names_are ∙ ap (packed_parts (map path_name (a.first ∷ a.others))) a.are);
}

pub even : (ps : List Part) (names : List Name) (es : List Expr) → AreSelected ps names es → length es ≡ length names
even ps names es a =
    ap length a.are ∙ (length-map (a.first ∷ a.others) path_expr ∙ sym (ap length a.names_are ∙ length-map (a.first ∷ a.others) path_name))

pub digit_least : (c : ℕ) → is_digit c ≡ true → 48 ≤ c
digit_least c h = leb-true 48 c (first (nat_le 48 c) (nat_le c 57) h)
  where
    first : (a b : Bool) → (a && b) ≡ true → a ≡ true
    first true b h = refl
    first false b h = absurd cc
