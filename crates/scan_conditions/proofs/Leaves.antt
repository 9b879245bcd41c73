-- Names and numbers at a place.
use Rattle.std.proofs.Common.{◌≡◌, ℕ, ◌+◌, ◌<◌, List, ◌∷◌, Bool, true, drop, length, map, get_or, refl, sym, ap, ◌∙◌, Option, None, Some}
use Rattle.std.specs.Prelude.{string_bytes, IfSome}
use Rattle.scan_values.specs.DataType.{Name}
use Rattle.scan_conditions.specs.declared.token.Kind.{Kind}
use Rattle.scan_conditions.specs.declared.token.Kind.TheVariants as kinds
use Rattle.scan_conditions.specs.declared.token.Part.{Part}
use Rattle.scan_conditions.specs.Parts.{part_of}
use Rattle.scan_conditions.specs.Reads.{IsName, IsNumber}
use Rattle.scan_conditions.specs.Spelling.{part_as, word}
use Rattle.scan_conditions.specs.Spelling as spelling
use Rattle.scan_conditions.specs.Written.{digits_behind, field_name, is_number, names_field}
use Rattle.scan_conditions.proofs.Places.{mapped_item}

pub anyway : {A : Type 0} {X : Type 0} (r : Option X) → A → IfSome r (λ _. A)
anyway (Some x) a = a
anyway None a = tt

-- what a part of a known kind is
pub of_kind : (p : Part) (k : Kind) (b : Bool) → p.kind ≡ k → b ≡ names_field (part_as k (string_bytes p.text)) → b ≡ names_field (part_of p)
of_kind p k b e h = h ∙ ap (λ j. names_field (part_as j (string_bytes p.text))) (sym e)

named_so : (k : Kind) (w : List ℕ) → field_name (part_as k w) ≡ w
named_so kinds.Word w = refl
named_so kinds.Name w = refl
named_so kinds.Text w = refl
named_so kinds.Sign w = refl

pub is_name : (ps : List Part) (i : ℕ) (p : Part) (n : Name) → i < length ps → p ≡ get_or ps i p → names_field (part_of p) ≡ true → n ≡ string_bytes p.text → IsName (map part_of ps) i n
is_name ps i p n h e t q = record {
  part = part_of p;
  from = mapped_item part_of ps i p h e;
  names = t;
  is = q ∙ sym (named_so p.kind (string_bytes p.text));
}

pub number_read : (r : Option ℕ) (ps : List spelling.Part) (i : ℕ) (w b : List ℕ) → b ≡ w → drop i ps ≡ word w ∷ drop (i + 1) ps → IfSome r (λ n. (is_number b ≡ true) × (n ≡ digits_behind 0 b)) → IfSome r (λ n. IsNumber ps i n)
number_read (Some n) ps i w b e h k = record {
  digits = b;
  from = h ∙ ap (λ z. word z ∷ drop (i + 1) ps) (sym e);
  all = k.0;
  is = k.1;
}
number_read None ps i w b e h k = tt
