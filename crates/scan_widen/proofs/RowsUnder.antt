-- The rows of a leaf under another dtype.
use Rattle.std.proofs.Common.{◌≡◌, ℕ, zero, suc, ◌+◌, ◌-◌, List, [], ◌∷◌, map, refl, sym, subst, ap, ◌∙◌, Bool, true, false, Option, Some, None}
use Rattle.std.specs.Prelude.{nat_lt, if◌then◌else◌, option_and_then, option_map, slice_get}
use Rattle.scan_values.specs.declared.ptype.Nullability.{Nullability}
use Rattle.scan_values.specs.declared.ptype.Nullability.TheVariants.{NonNullable, Nullable}
use Rattle.scan_values.specs.DataType.{DataType, nullability_of}
use Rattle.scan_values.specs.Damage.{damaged, damaged_of}
use Rattle.scan_values.specs.Kinds.{is_scalar_type}
use Rattle.scan_values.specs.Marked.{Marked, lost, null, gone, boolean, integer, text, list, struct}
use Rattle.scan_values.specs.Same.{same_type, same_type-Decides}
use Rattle.scan_values.specs.Val.{Val, null_val, bool_val, int_val, text_val, list_val, struct_val, marked}
use Rattle.scan_segments.specs.Source.{Store}
use Rattle.scan_spelling.specs.declared.spelling.Spelling.{Spelling}
use Rattle.scan_spelling.specs.declared.spelling.Spelling.TheVariants.{One}
use Rattle.scan_spelling.specs.Spelling.{decode}
use Rattle.scan_spelling.specs.Written.{spelled}
use Rattle.scan_spelling.specs.Places.{Place, place_of, places_of, decoded}
use Rattle.scan_layout.specs.RowValue.{item_of, segment_value, leaf_value}
use Rattle.scan_widen.specs.declared.behind.Behind.{Behind}
use Rattle.scan_widen.specs.declared.behind.Behind.TheVariants.{Kept, Widened}
use Rattle.scan_widen.specs.declared.behind.Widening.{Widening}
use Rattle.scan_widen.specs.FitsUnder.{fits_under}
use Rattle.scan_widen.specs.Wide.{scalar_as}
use Rattle.scan_widen.specs.Under.{numbered, segment_behind, spelling_under}
use Rattle.scan_widen.specs.Stores.{bytes_behind, widened}
use Rattle.scan_widen.specs.Rows.{StandAt, Shows}
use Rattle.scan_widen.proofs.Again.{widened_again}

-- ---- values
damage_goes : (n : Nullability) (to : DataType) → damaged_of to ≡ scalar_as to (damaged n)
damage_goes NonNullable to = refl
damage_goes Nullable to = refl

marked_stays : (to : DataType) (v : Val) → marked v ≡ scalar_as to (marked v)
marked_stays to null_val = refl
marked_stays to (bool_val b) = refl
marked_stays to (int_val z) = refl
marked_stays to (text_val s) = refl
marked_stays to (list_val vs) = refl
marked_stays to (struct_val vs) = refl

item_goes : (from to : DataType) (i : ℕ) (o : Option (List Val)) → item_of to i o ≡ scalar_as to (item_of from i o)
item_goes from to i None = damage_goes (nullability_of from) to
item_goes from to i (Some vs) = marked_stays to _

-- ---- a segment that is widened is read as it was
read_widened : (w : Widening) → is_scalar_type w.from ≡ true → fits_under w.from w.to ≡ true → (o : Option (List ℕ))
    → option_and_then (decode One w.to w.rows) (option_and_then (widened w) o) ≡ option_and_then (decode w.spelling w.from w.rows) o
read_widened w scalar f None = refl
read_widened w scalar f (Some bytes) = go (decode w.spelling w.from w.rows bytes) refl
  where
    go : (r : Option (List Val)) → decode w.spelling w.from w.rows bytes ≡ r → option_and_then (decode One w.to w.rows) (option_map (spelled One w.to) (decode w.spelling w.from w.rows bytes)) ≡ decode w.spelling w.from w.rows bytes
    go None e = rw e refl
    go (Some vs) e = rw e (widened_again w.spelling w.from w.to w.rows bytes vs scalar f e)

-- ---- a segment
segment_goes : (from to : DataType) (sp : Spelling) (k : ℕ) (g : ℕ × ℕ) (s u : Store) (i : ℕ) → is_scalar_type from ≡ true → fits_under from to ≡ true
    → u k ≡ bytes_behind s (segment_behind from to sp g)
    → segment_value u (place_of to (spelling_under from to sp) (k, g.1)) i ≡ scalar_as to (segment_value s (place_of from sp g) i)
segment_goes from to sp k g s u i scalar f h = go (same_type from to) refl
  where
    kept : from ≡ to → option_and_then (decode sp to g.1) (s g.0) ≡ option_and_then (decode sp from g.1) (s g.0)
    kept p = ap (λ t. option_and_then (decode sp t g.1) (s g.0)) (sym p)

    go : (b : Bool) → same_type from to ≡ b → segment_value u (place_of to (spelling_under from to sp) (k, g.1)) i ≡ scalar_as to (segment_value s (place_of from sp g) i)
    go true e =
        let bytes : u k ≡ s g.0 = rw e at h in
        rw (e, bytes) (ap (item_of to i) (kept ((same_type-Decides from to).0 e)) ∙ item_goes from to i (option_and_then (decode sp from g.1) (s g.0)))
    go false e =
        let w : Widening = record { id = g.0; rows = g.1; spelling = sp; from = from; to = to } in
        let bytes : u k ≡ option_and_then (widened w) (s g.0) = rw e at h in
        rw (e, bytes) (ap (item_of to i) (read_widened w scalar f (s g.0)) ∙ item_goes from to i (option_and_then (decode sp from g.1) (s g.0)))

-- ---- a leaf
choose : (b : Bool) (x y x' y' : Marked) (to : DataType) → x ≡ scalar_as to x' → y ≡ scalar_as to y' → (if b then x else y) ≡ scalar_as to (if b then x' else y')
choose true x y x' y' to h k = h
choose false x y x' y' to h k = k

pub leaves_widen : (from to : DataType) (sp : Spelling) (k : ℕ) (segments : List (ℕ × ℕ)) (all : List Behind) (s u : Store) (i : ℕ)
    → is_scalar_type from ≡ true → fits_under from to ≡ true → Shows u all s → StandAt all k (map (segment_behind from to sp) segments)
    → leaf_value to u (places_of to (spelling_under from to sp) (numbered k segments)) i ≡ scalar_as to (leaf_value from s (places_of from sp segments) i)
leaves_widen from to sp k [] all s u i scalar f h stand = damage_goes (nullability_of from) to
leaves_widen from to sp k (g ∷ segments) all s u i scalar f h stand =
    choose (nat_lt i g.1) _ _ _ _ to
    (segment_goes from to sp k g s u i scalar f (h k (segment_behind from to sp g) stand.0))
    (leaves_widen from to sp (k + 1) segments all s u (i - g.1) scalar f h stand.1)
