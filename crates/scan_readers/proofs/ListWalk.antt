-- What of a list's children is made.
use Rattle.std.proofs.Common.{◌≡◌, ℕ, true, false, ◌||◌, List, [], ◌∷◌, Result, Ok, Err, refl, ap, sym, subst, ◌∙◌}
use Rattle.std.specs.Prelude.{IfOk}
use Rattle.scan_expr.specs.Bound.{Bound}
use Rattle.scan_layout.specs.declared.node.LayoutKind.TheVariants.{Leaf, Struct, List as List'}
use Rattle.scan_layout.specs.Layout.{Layout, node, kids_of, kind_of}
use Rattle.scan_layout.specs.Slots.{is_list_kind}
use Rattle.scan_partition.specs.Lists.{necessary}
use Rattle.scan_readers.specs.LeafPlans.{is_leaf}
use Rattle.scan_readers.specs.Made.{Made, is_made}
use Rattle.scan_readers.specs.Reached.{ChildPart, list_parts, reached, parts_reached, MakesWithin, MakesAll}
use Rattle.scan_readers.specs.StructData.{StructData}
use Rattle.scan_readers.specs.StructPlans.{Asks, AsksAll}
use Rattle.scan_readers.proofs.Making.{nothing_made}
use Rattle.scan_readers.proofs.Planning.{within_same}
use Rattle.scan_readers.proofs.Walking.{reaches_first, none_left, or_first, or_second, or_assoc, either}

pub asks_none : (es : List ChildPart) (s : StructData) → Asks es s s
asks_none es s = record { layout = refl; made = nothing_made (parts_reached (kids_of s.layout) es) s.made }

pub all_none : (s : StructData) → AsksAll [] s s
all_none s path = sym (none_left (kids_of s.layout) s.made path)

pub asks_same : (es : List ChildPart) (old new : StructData) → new.layout ≡ old.layout → new.made ≡ old.made → Asks es old new
asks_same es old new layout same = record { layout = layout; made = subst (MakesWithin (parts_reached (kids_of old.layout) es) old.made) (sym same) (nothing_made (parts_reached (kids_of old.layout) es) old.made) }

-- the first part, and no other
pub asks_first : (e : ChildPart) (es : List ChildPart) (old new : StructData) → Asks (e ∷ []) old new → Asks (e ∷ es) old new
asks_first e es old new a = record {
  layout = a.layout;
  made = record {
    stay = (a.made).stay;
    only = λ path h. either (is_made old.made path) (parts_reached (kids_of old.layout) (e ∷ []) path) (is_made old.made path || parts_reached (kids_of old.layout) (e ∷ es) path) ((a.made).only path h)
        (λ w. or_first (is_made old.made path) (parts_reached (kids_of old.layout) (e ∷ es) path) w)
        (λ r. or_second (is_made old.made path) (parts_reached (kids_of old.layout) (e ∷ es) path) (reaches_first (kids_of old.layout) e es path ∙ or_first (parts_reached (kids_of old.layout) (e ∷ []) path) (parts_reached (kids_of old.layout) es path) r));
  };
}

-- the first part, and then the others
pub asks_more : (e : ChildPart) (es : List ChildPart) (old now new : StructData) → Asks (e ∷ []) old now → Asks es now new → Asks (e ∷ es) old new
asks_more e es old now new a b =
    let first = asks_first e es old now a in
    record {
      layout = b.layout ∙ a.layout;
      made = record {
        stay = λ path h. (b.made).stay path ((a.made).stay path h);
        only = λ path h. either (is_made now.made path) (parts_reached (kids_of now.layout) es path) (is_made old.made path || parts_reached (kids_of old.layout) (e ∷ es) path) ((b.made).only path h)
            (λ w. (first.made).only path w)
            (λ r. or_second (is_made old.made path) (parts_reached (kids_of old.layout) (e ∷ es) path) (reaches_first (kids_of old.layout) e es path
            ∙ or_second (parts_reached (kids_of old.layout) (e ∷ []) path) (parts_reached (kids_of old.layout) es path) (ap (λ (l : Layout). parts_reached (kids_of l) es path) (sym a.layout) ∙ r)));
      };
    }

pub all_more : (e : ChildPart) (es : List ChildPart) (old now new : StructData) → now.layout ≡ old.layout → AsksAll (e ∷ []) old now → AsksAll es now new → AsksAll (e ∷ es) old new
all_more e es old now new same a b path =
    b path ∙ ap (λ (l : Layout). is_made now.made path || parts_reached (kids_of l) es path) same
    ∙ ap (λ x. x || parts_reached (kids_of old.layout) es path) (a path)
    ∙ or_assoc (is_made old.made path) (parts_reached (kids_of old.layout) (e ∷ []) path) (parts_reached (kids_of old.layout) es path)
    ∙ ap (λ x. is_made old.made path || x) (sym (reaches_first (kids_of old.layout) e es path))

-- ---- a leaf reaches nothing
leaf_reaches : (l : Layout) (e : Bound) (m : Made) → is_leaf l ≡ true → MakesAll (reached l e) m m
leaf_reaches (node t rows (Leaf gs sp) kids) e m h [] = refl
leaf_reaches (node t rows (Leaf gs sp) kids) e m h (k ∷ path) = sym (none_left kids m (k ∷ path))
leaf_reaches (node t rows Struct kids) e m h path = absurd (let z : false ≡ true = h in cc)
leaf_reaches (node t rows (List' q) kids) e m h path = absurd (let z : false ≡ true = h in cc)

pub leaf_within : (l : Layout) (e : Bound) (m : Made) → MakesWithin (reached l e) m m
leaf_within l e m = nothing_made (reached l e) m

pub leaf_all : {A E : Type 0} (l : Layout) (e : Bound) (m : Made) (r : Result A E) → is_leaf l ≡ true → IfOk r (λ _. MakesAll (reached l e) m m)
leaf_all l e m (Ok x) h = leaf_reaches l e m h
leaf_all l e m (Err f) h = tt

-- ---- what an expression over a list reaches
list_reached : (l : Layout) (e : Bound) → is_list_kind (kind_of l) ≡ true → (path : List ℕ) → parts_reached (kids_of l) (list_parts l (necessary e.expr)) path ≡ reached l e path
list_reached (node t rows (List' q) kids) e h [] = refl
list_reached (node t rows (List' q) kids) e h (k ∷ path) = refl
list_reached (node t rows Struct kids) e h path = absurd (let z : false ≡ true = h in cc)
list_reached (node t rows (Leaf gs sp) kids) e h path = absurd (let z : false ≡ true = h in cc)

pub list_within : (e : Bound) (old new : StructData) → is_list_kind (kind_of old.layout) ≡ true → Asks (list_parts old.layout (necessary e.expr)) old new → MakesWithin (reached old.layout e) old.made new.made
list_within e old new h asks = within_same (parts_reached (kids_of old.layout) (list_parts old.layout (necessary e.expr))) (reached old.layout e) old.made new.made (list_reached old.layout e h) asks.made

pub list_all : {A E : Type 0} (e : Bound) (old new : StructData) (r : Result A E) → is_list_kind (kind_of old.layout) ≡ true → IfOk r (λ _. AsksAll (list_parts old.layout (necessary e.expr)) old new) → IfOk r (λ _. MakesAll (reached old.layout e) old.made new.made)
list_all e old new (Ok x) h all = λ path. all path ∙ ap (λ b. is_made old.made path || b) (list_reached old.layout e h path)
list_all e old new (Err f) h all = tt

pub on_all : {A E : Type 0} {P : Type 0} (r : Result A E) → P → IfOk r (λ _. P)
on_all (Ok x) p = p
on_all (Err f) p = tt
