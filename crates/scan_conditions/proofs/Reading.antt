-- What a reader has read, and one part more.
use Rattle.std.proofs.Common.{◌≡◌, ℕ, pos, ◌+◌, ◌<◌, ◌≤◌, List, [], ◌∷◌, ◌++◌, Bool, true, false, drop, length, map, Some, refl, sym, ap, ◌∙◌, append_assoc, append-nil, subst, arith}
use Rattle.std.specs.Prelude.{◌&&◌, leb, ltb, codes, neg_ℤ, option_and_then}
use Rattle.std.specs.List.{list_all}
use Rattle.std.proofs.lemmas.List.{drop_all, map-append}
use Rattle.std.proofs.lemmas.Bool.Decides.{Decides-ltb}
use Rattle.std.proofs.lemmas.Bool.{leb-true, le-leb}
use Rattle.scan_values.specs.DataType.{DataType, Name, bool_type, utf8_type}
use Rattle.scan_values.specs.Val.{bool_val, text_val}
use Rattle.scan_values.specs.declared.ptype.Nullability.TheVariants.{NonNullable}
use Rattle.scan_expr.specs.Expr.{Expr, root, row_index, literal, unary}
use Rattle.scan_expr.specs.declared.op.Unary.TheVariants as un
use Rattle.scan_conditions.specs.declared.operator.Infix.{Infix}
use Rattle.scan_conditions.specs.declared.operator.Function.{Function}
use Rattle.scan_conditions.specs.Spelling.{Part, Spells, sign, text, word}
use Rattle.scan_conditions.specs.Written.{IsCondition, Path, Said, Written, applied, call, contrary, field, field_name, function_name, grouped, infix_level, infix_part, is_path, is_ranked, joined, joined_said, level_of}
use Rattle.scan_conditions.specs.Written.{names_field, negative, nested, number, parts_of, path_expr, path_name, path_names, path_parts, quoted_text, row_number, said, truth, truth_name, typed, unary_of, untyped, with_commas, dotted}
use Rattle.scan_conditions.specs.Reads.{AreSelected, IsName, IsNumber, IsPath, IsRead, IsSelected, SaysAll, SelectedTo}
use Rattle.scan_conditions.proofs.Places.{all_more}

both_true : (a b : Bool) → a ≡ true → b ≡ true → (a && b) ≡ true
both_true a b h k = ap (λ x. x && b) h ∙ k

test_le : (n m : ℕ) → leb n m ≡ true → n ≤ m
test_le n m h = leb-true n m h

le_test : (n m : ℕ) → n ≤ m → leb n m ≡ true
le_test n m h = le-leb n m h

lt_test : (n m : ℕ) → n < m → ltb n m ≡ true
lt_test n m h = (Decides-ltb n m).1 h

ranked_joined : (o : Infix) (x y : Written) → leb (infix_level o) (level_of x) ≡ true → ltb (infix_level o) (level_of y) ≡ true → is_ranked x ≡ true → is_ranked y ≡ true → is_ranked (joined o x y) ≡ true
ranked_joined o x y a b c d =
    both_true (leb (infix_level o) (level_of x)) (ltb (infix_level o) (level_of y) && (is_ranked x && is_ranked y)) a
    (both_true (ltb (infix_level o) (level_of y)) (is_ranked x && is_ranked y) b (both_true (is_ranked x) (is_ranked y) c d))

-- what binds more closely may stand there too
pub looser : (s : DataType) (level least_level : ℕ) (ps : List Part) (at end : ℕ) (x : Said) → level ≤ least_level → IsRead s least_level ps at end x → IsRead s level ps at end x
looser s level high ps at end x h r = record {
  written = r.written;
  from = r.from;
  ranked = r.ranked;
  least = let up = test_le high (level_of r.written) r.least in le_test level (level_of r.written) (omega (arith, up, h));
  says = r.says;
}

pub read_joined : (s : DataType) (level : ℕ) (ps : List Part) (at mid end : ℕ) (o : Infix) (x y z : Said) → infix_level o ≡ level
    → drop mid ps ≡ infix_part o ∷ drop (mid + 1) ps → IsRead s level ps at mid x → IsRead s (level + 1) ps (mid + 1) end y → joined_said s o x y ≡ Some z → IsRead s level ps at end z
read_joined s level ps at mid end o x y z e h a b j = record {
  written = joined o a.written b.written;
  from = a.from ∙ (ap (λ r. parts_of a.written ++ r) (h ∙ ap (λ r. infix_part o ∷ r) b.from) ∙ sym (append_assoc (parts_of a.written) (infix_part o ∷ parts_of b.written) (drop end ps)));
  ranked = let up = test_le (level + 1) (level_of b.written) b.least in
      ranked_joined o a.written b.written (ap (λ n. leb n (level_of a.written)) e ∙ a.least)
      (ap (λ n. ltb n (level_of b.written)) e ∙ lt_test level (level_of b.written) (omega (arith, up))) a.ranked b.ranked;
  least = let same : level ≤ infix_level o = omega (arith, e) in le_test level (infix_level o) same;
  says = ap (option_and_then (λ v. option_and_then (λ w. joined_said s o v w) (said s b.written))) a.says ∙ (ap (option_and_then (λ w. joined_said s o x w)) b.says ∙ j);
}

pub read_contrary : (s : DataType) (ps : List Part) (at end : ℕ) (x y : Said) → drop at ps ≡ word (codes "not") ∷ drop (at + 1) ps → IsRead s 3 ps (at + 1) end x → applied un.Not x ≡ Some y → IsRead s 3 ps at end y
read_contrary s ps at end x y h a j = record {
  written = contrary a.written;
  from = h ∙ ap (λ r. word (codes "not") ∷ r) a.from;
  ranked = both_true (leb 3 (level_of a.written)) (is_ranked a.written) a.least a.ranked;
  least = refl;
  says = ap (option_and_then (applied un.Not)) a.says ∙ j;
}

in_parentheses : (ps : List Part) (w : List Part) (at mid : ℕ) → drop at ps ≡ sign (codes "(") ∷ drop (at + 1) ps → drop (at + 1) ps ≡ w ++ drop mid ps → drop mid ps ≡ sign (codes ")") ∷ drop (mid + 1) ps
    → drop at ps ≡ (sign (codes "(") ∷ (w ++ sign (codes ")") ∷ [])) ++ drop (mid + 1) ps
in_parentheses ps w at mid h f k = h ∙ ap (λ r. sign (codes "(") ∷ r) (f ∙ (ap (λ r. w ++ r) k ∙ sym (append_assoc w (sign (codes ")") ∷ []) (drop (mid + 1) ps))))

pub read_grouped : (s : DataType) (ps : List Part) (at mid : ℕ) (x : Said) → drop at ps ≡ sign (codes "(") ∷ drop (at + 1) ps → drop mid ps ≡ sign (codes ")") ∷ drop (mid + 1) ps → IsRead s 1 ps (at + 1) mid x → IsRead s 6 ps at (mid + 1) x
read_grouped s ps at mid x h k a = record {
  written = grouped a.written;
  from = in_parentheses ps (parts_of a.written) at mid h a.from k;
  ranked = a.ranked;
  least = refl;
  says = a.says;
}

pub read_call : (s : DataType) (ps : List Part) (at mid : ℕ) (f : Function) (x y : Said) → drop at ps ≡ word (function_name f) ∷ drop (at + 1) ps → drop (at + 1) ps ≡ sign (codes "(") ∷ drop (at + 1 + 1) ps
    → drop mid ps ≡ sign (codes ")") ∷ drop (mid + 1) ps → IsRead s 1 ps (at + 2) mid x → applied (unary_of f) x ≡ Some y → IsRead s 6 ps at (mid + 1) y
read_call s ps at mid f x y n h k a j = record {
  written = call f a.written;
  from = n ∙ ap (λ r. word (function_name f) ∷ r) (in_parentheses ps (parts_of a.written) (at + 1) mid h (ap (λ i. drop i ps) (two at) ∙ a.from) k);
  ranked = a.ranked;
  least = refl;
  says = ap (option_and_then (applied (unary_of f))) a.says ∙ j;
}
  where
    two : (n : ℕ) → n + 1 + 1 ≡ n + 2
    two n = omega arith

pub not_said : (u : _) (x : Said) (e : Expr) (y : Said) → x ≡ typed e → y ≡ typed (unary u e) → applied u x ≡ Some y
not_said u x e y h k = ap (applied u) h ∙ ap Some (sym k)

-- ---- without parts
leaf : (s : DataType) (ps : List Part) (at end : ℕ) (x y : Said) (w : Written) → drop at ps ≡ parts_of w ++ drop end ps → is_ranked w ≡ true → level_of w ≡ 6 → said s w ≡ Some y → x ≡ y → IsRead s 6 ps at end x
leaf s ps at end x y w h r l m e = record { written = w; from = h; ranked = r; least = ap (leb 6) l; says = m ∙ ap Some (sym e) }

pub read_text : (s : DataType) (ps : List Part) (at : ℕ) (t : List ℕ) (x : Said) → drop at ps ≡ text t ∷ drop (at + 1) ps → x ≡ typed (literal (utf8_type NonNullable) (text_val t)) → IsRead s 6 ps at (at + 1) x
read_text s ps at t x h e = leaf s ps at (at + 1) x _ (quoted_text t) h refl refl refl e

pub read_truth : (s : DataType) (ps : List Part) (at : ℕ) (b : Bool) (x : Said) → drop at ps ≡ word (truth_name b) ∷ drop (at + 1) ps → x ≡ typed (literal (bool_type NonNullable) (bool_val b)) → IsRead s 6 ps at (at + 1) x
read_truth s ps at b x h e = leaf s ps at (at + 1) x _ (truth b) h refl refl refl e

pub read_row : (s : DataType) (ps : List Part) (at : ℕ) (x : Said) → drop at ps ≡ word (codes "#row_idx") ∷ drop (at + 1) ps → x ≡ typed row_index → IsRead s 6 ps at (at + 1) x
read_row s ps at x h e = leaf s ps at (at + 1) x _ row_number h refl refl refl e

pub read_number : (s : DataType) (ps : List Part) (at n : ℕ) (x : Said) → IsNumber ps at n → x ≡ untyped (pos n) → IsRead s 6 ps at (at + 1) x
read_number s ps at n x h e = leaf s ps at (at + 1) x _ (number h.digits) h.from h.all refl refl (e ∙ ap (λ m. untyped (pos m)) h.is)

pub read_negative : (s : DataType) (ps : List Part) (at n : ℕ) (x : Said) → drop at ps ≡ sign (codes "-") ∷ drop (at + 1) ps → IsNumber ps (at + 1) n → x ≡ untyped (neg_ℤ (pos n)) → IsRead s 6 ps at (at + 2) x
read_negative s ps at n x k h e =
    leaf s ps at (at + 2) x _ (negative h.digits) (k ∙ ap (λ r. sign (codes "-") ∷ r) (h.from ∙ ap (λ i. word h.digits ∷ drop i ps) (two at))) h.all refl refl (e ∙ ap (λ m. untyped (neg_ℤ (pos m))) h.is)
  where
    two : (n : ℕ) → n + 1 + 1 ≡ n + 2
    two n = omega arith

pub read_field : (s : DataType) (ps : List Part) (at end : ℕ) (names : List Name) (e : Expr) (x : Said) → IsPath ps at end names → e ≡ nested root names → x ≡ typed e → IsRead s 6 ps at end x
read_field s ps at end names e x p n h = leaf s ps at end x _ (field p.path) p.from p.fields refl refl (h ∙ ap typed (n ∙ ap (nested root) p.are))

-- ---- all of it
pub says_all : (s : DataType) (ps : List Part) (end : ℕ) (x y : Said) → length ps ≤ end → IsRead s 1 ps 0 end x → x ≡ y → SaysAll s ps y
says_all s ps end x y h r e = record {
  written = r.written;
  are = r.from ∙ (ap (λ z. parts_of r.written ++ z) (drop_all end ps h) ∙ append-nil (parts_of r.written));
  ranked = r.ranked;
  says = r.says ∙ ap Some e;
}

pub condition_said : (s : DataType) (bytes : List ℕ) (made ps : List Part) (e : Expr) → ps ≡ made → Spells bytes made → SaysAll s ps (typed e) → IsCondition s bytes e
condition_said s bytes made ps e q h a = record { written = a.written; spells = subst (Spells bytes) (sym q ∙ a.are) h; ranked = a.ranked; says = a.says }

-- ---- paths
pub path_first : (ps : List Part) (at : ℕ) (n : Name) (names : List Name) → IsName ps at n → names ≡ n ∷ [] → IsPath ps at (at + 1) names
path_first ps at n names h e = record {
  path = (h.part, []);
  from = h.from;
  fields = both_true (names_field h.part) (list_all names_field []) h.names refl;
  are = e ∙ ap (λ m. m ∷ []) h.is;
}

dotted_more : (xs : List Part) (p : Part) → dotted (xs ++ p ∷ []) ≡ dotted xs ++ (sign (codes ".") ∷ p ∷ [])
dotted_more [] p = refl
dotted_more (x ∷ xs) p = ap (λ r. sign (codes ".") ∷ x ∷ r) (dotted_more xs p)

split : (a b : Bool) → (a && b) ≡ true → (a ≡ true) × (b ≡ true)
split true b h = (refl, h)
split false b h = absurd cc

pub path_more : (ps : List Part) (at end : ℕ) (n : Name) (names now : List Name) → IsPath ps at end names → drop end ps ≡ sign (codes ".") ∷ drop (end + 1) ps → IsName ps (end + 1) n → now ≡ names ++ n ∷ [] → IsPath ps at (end + 2) now
path_more ps at end n names now p h m e = record {
  path = (p.path.0, p.path.1 ++ m.part ∷ []);
  from = p.from ∙ (ap (λ r. path_parts p.path ++ r) (h ∙ ap (λ r. sign (codes ".") ∷ r) (m.from ∙ ap (λ i. m.part ∷ drop i ps) (two end)))
      ∙ (sym (append_assoc (path_parts p.path) (sign (codes ".") ∷ m.part ∷ []) (drop (end + 2) ps)) ∙ ap (λ r. (p.path.0 ∷ r) ++ drop (end + 2) ps) (sym (dotted_more p.path.1 m.part))));
  fields = let b = split (names_field p.path.0) (list_all names_field p.path.1) p.fields in both_true (names_field p.path.0) (list_all names_field (p.path.1 ++ m.part ∷ [])) b.0 (all_more names_field p.path.1 m.part b.1 m.names);
  are = e ∙ (ap (λ r. r ++ n ∷ []) p.are ∙ (ap (λ r. path_names p.path ++ r ∷ []) m.is ∙ sym (map-append field_name (p.path.0 ∷ p.path.1) (m.part ∷ []))));
}
  where
    two : (n : ℕ) → n + 1 + 1 ≡ n + 2
    two n = omega arith

-- ---- selections
pub selected_first : (ps : List Part) (end : ℕ) (n : Name) (e : Expr) (names : List Name) (es : List Expr) → IsSelected ps 0 end n e → names ≡ n ∷ [] → es ≡ e ∷ [] → SelectedTo ps end names es
selected_first ps end n e names es h k m = record {
  first = h.path;
  others = [];
  from = h.from ∙ ap (λ r. r ++ drop end ps) (sym (append-nil (path_parts h.path)));
  fields = both_true (is_path h.path) (list_all is_path []) h.fields refl;
  names_are = k ∙ ap (λ x. x ∷ []) h.name;
  are = m ∙ ap (λ x. x ∷ []) h.is;
}

commas_more : (xs : List Path) (p : Path) → with_commas (xs ++ p ∷ []) ≡ with_commas xs ++ (sign (codes ",") ∷ path_parts p)
commas_more [] p = ap (λ r. sign (codes ",") ∷ r) (append-nil (path_parts p))
commas_more (x ∷ xs) p = ap (λ r. sign (codes ",") ∷ r) (ap (λ r. path_parts x ++ r) (commas_more xs p) ∙ sym (append_assoc (path_parts x) (with_commas xs) (sign (codes ",") ∷ path_parts p)))

pub selected_more : (ps : List Part) (end next : ℕ) (n : Name) (e : Expr) (names now : List Name) (es new : List Expr) → SelectedTo ps end names es → drop end ps ≡ sign (codes ",") ∷ drop (end + 1) ps
    → IsSelected ps (end + 1) next n e → now ≡ names ++ n ∷ [] → new ≡ es ++ e ∷ [] → SelectedTo ps next now new
selected_more ps end next n e names now es new s h m k j = record {
  first = s.first;
  others = s.others ++ m.path ∷ [];
  from = s.from ∙ (ap (λ r. (path_parts s.first ++ with_commas s.others) ++ r) (h ∙ ap (λ r. sign (codes ",") ∷ r) m.from)
      ∙ (sym (append_assoc (path_parts s.first ++ with_commas s.others) (sign (codes ",") ∷ path_parts m.path) (drop next ps))
      ∙ ap (λ r. r ++ drop next ps) (append_assoc (path_parts s.first) (with_commas s.others) (sign (codes ",") ∷ path_parts m.path) ∙ ap (λ r. path_parts s.first ++ r) (sym (commas_more s.others m.path)))));
  fields = all_more is_path (s.first ∷ s.others) m.path s.fields m.fields;
  names_are = k ∙ (ap (λ r. r ++ n ∷ []) s.names_are ∙ (ap (λ x. map path_name (s.first ∷ s.others) ++ x ∷ []) m.name ∙ sym (map-append path_name (s.first ∷ s.others) (m.path ∷ []))));
  are = j ∙ (ap (λ r. r ++ e ∷ []) s.are ∙ (ap (λ x. map path_expr (s.first ∷ s.others) ++ x ∷ []) m.is ∙ sym (map-append path_expr (s.first ∷ s.others) (m.path ∷ []))));
}

pub selected_all : (ps : List Part) (end : ℕ) (names : List Name) (es : List Expr) → length ps ≤ end → SelectedTo ps end names es → AreSelected ps names es
selected_all ps end names es h s = record {
  first = s.first;
  others = s.others;
  from = s.from ∙ (ap (λ r. (path_parts s.first ++ with_commas s.others) ++ r) (drop_all end ps h) ∙ append-nil (path_parts s.first ++ with_commas s.others));
  fields = s.fields;
  names_are = s.names_are;
  are = s.are;
}
