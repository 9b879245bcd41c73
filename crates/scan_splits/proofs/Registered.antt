-- The edges and the faults of a node, by those of its children.
use Rattle.std.proofs.Common.{◌≡◌, ℕ, zero, suc, ◌+◌, ◌<◌, ◌≤◌, List, [], ◌∷◌, ◌++◌, length, get_or, drop, map, Bool, true, false, ◌||◌, nat_eq, Option, Some, None, Result, Ok, Err, refl, sym, ap, ◌∙◌, subst, arith, add-one, append-nil, drop-cons, zero-add, inl, inr}
use Rattle.std.specs.Prelude.{option_map, option_and_then}
use Rattle.std.specs.List.{Contains, list_any, flat_map}
use Rattle.std.proofs.lemmas.List.Elements.{Contains-append_left, Contains-append_right, Contains-append_cases}
use Rattle.std.proofs.lemmas.Bool.Decides.{nat_tests}
use Rattle.std.specs.declared.alloc.Global.{Global}
use Rattle.std.specs.declared.rc.Rc.{Rc}
use Rattle.scan_values.specs.declared.ptype.PType.{PType}
use Rattle.scan_values.specs.declared.ptype.Nullability.{Nullability}
use Rattle.scan_values.specs.declared.field_path.FieldMask.{FieldMask}
use Rattle.scan_values.specs.declared.field_path.FieldMask.TheVariants.{All, Prefix}
use Rattle.scan_values.specs.DataType.{DataType, bool_type, int_type, utf8_type, list_type, struct_type, Fields, Name, field_list, fields_of, nullability_of}
use Rattle.scan_values.specs.FieldLists.{names_of}
use Rattle.scan_values.specs.FieldPaths.{matches_all, stepped}
use Rattle.scan_values.specs.Kinds.{struct_fields_of}
use Rattle.scan_layout.specs.declared.node.LayoutKind.{LayoutKind}
use Rattle.scan_layout.specs.declared.node.LayoutKind.TheVariants.{Leaf, Struct, List as List'}
use Rattle.scan_layout.specs.Layout.{Layout, Nodes, node, no_nodes, child, nodes, rows_of}
use Rattle.scan_layout.specs.LayoutView.{layouts_of}
use Rattle.scan_layout.specs.RowValue.{nth_rows}
use Rattle.scan_layout.specs.Laws.{path_of}
use Rattle.scan_layout.specs.Slots.{one_where, every_field, named_fields, field_of, matching_fields}
use Rattle.scan_layout.specs.Edges as cut
use Rattle.scan_layout.specs.Edges.{MaskPath, edges, nth_edges, is_all, matching, matching_one, struct_matches, list_split_grid_size, is_inside, map_element_split_to_outer_grid}
use Rattle.scan_layout.proofs.Splits.{splits_by_fields}
use Rattle.scan_layout.proofs.Matches.{names_again}
use Rattle.scan_splits.specs.declared.fault.SplitFault.{SplitFault}
use Rattle.scan_splits.specs.declared.fault.SplitFault.TheVariants.{Bounds, NoSuchField, NoMemory}
use Rattle.scan_splits.specs.SplitFaults.{Tells}
use Rattle.scan_splits.specs.RowLists.{SameNumbers, shifted, Adds, AddsSome, Pushes}
use Rattle.scan_splits.specs.ListSplits.{mapped_inside}
use Rattle.scan_splits.specs.RowSpans.{RowSpan}
use Rattle.scan_splits.specs.LayoutSplits.{matched_edges, any_found, found_fields, misses, nth_misses, missing}
use Rattle.scan_splits.proofs.Numbers.{same_shifted}
use Rattle.scan_splits.proofs.Mapping.{same_kept}
use Rattle.scan_splits.proofs.Rising.{same-trans}

-- the child of an index
module _ (masks : List MaskPath) (lo hi : ℕ) where
  pub nth_at : (rs : List (Rc Layout Global)) (i : ℕ) (r : Rc Layout Global) → i < length rs → r ≡ get_or rs i r → nth_edges (nodes (layouts_of rs)) i masks lo hi ≡ edges r.value masks lo hi
  nth_at [] i r h e = absurd (omega arith)
  nth_at (x ∷ rs) zero r h e = ap (λ (y : Rc Layout Global). edges y.value masks lo hi) (sym e)
  nth_at (x ∷ rs) (suc i) r h e = let h' : i < length rs = omega arith in nth_at rs i r h' e

  pub nth_past : (rs : List (Rc Layout Global)) (i : ℕ) → length rs ≤ i → nth_edges (nodes (layouts_of rs)) i masks lo hi ≡ []
  nth_past [] i h = refl
  nth_past (x ∷ rs) zero h = absurd (omega arith)
  nth_past (x ∷ rs) (suc i) h = nth_past rs i (omega arith)

module _ (masks : List FieldMask) where
  pub misses_at : (rs : List (Rc Layout Global)) (i : ℕ) (r : Rc Layout Global) → i < length rs → r ≡ get_or rs i r → nth_misses (nodes (layouts_of rs)) i masks ≡ misses r.value masks
  misses_at [] i r h e = absurd (omega arith)
  misses_at (x ∷ rs) zero r h e = ap (λ (y : Rc Layout Global). misses y.value masks) (sym e)
  misses_at (x ∷ rs) (suc i) r h e = let h' : i < length rs = omega arith in misses_at rs i r h' e

  pub misses_past : (rs : List (Rc Layout Global)) (i : ℕ) → length rs ≤ i → nth_misses (nodes (layouts_of rs)) i masks ≡ false
  misses_past [] i h = refl
  misses_past (x ∷ rs) zero h = absurd (omega arith)
  misses_past (x ∷ rs) (suc i) h = misses_past rs i (omega arith)

pub rows_at_first : (rs : List (Rc Layout Global)) (r : Rc Layout Global) → 0 < length rs → r ≡ get_or rs 0 r → nth_rows (nodes (layouts_of rs)) 0 ≡ rows_of r.value
rows_at_first [] r h e = absurd (omega arith)
rows_at_first (x ∷ rs) r h e = ap (λ (y : Rc Layout Global). rows_of y.value) (sym e)

-- what an answer tells
pub tells_same : (r : Result (Unit {0}) SplitFault) (a b : Bool) → a ≡ b → Tells r (missing a) → Tells r (missing b)
tells_same r a b e h = subst (λ x. Tells r (missing x)) e h

pub tells_none : (r : Result (Unit {0}) SplitFault) (a : Bool) → a ≡ false → Tells r (missing a) → Tells r None
tells_none r a e h = subst (λ x. Tells r (missing x)) e h

no_bounds : {P : Type 0} (a : Bool) → missing a ≡ Some Bounds → P
no_bounds true e = absurd cc
no_bounds false e = absurd cc

is_missing : (a : Bool) → missing a ≡ Some NoSuchField → a ≡ true
is_missing true e = refl
is_missing false e = absurd cc

not_missing : (a : Bool) → missing a ≡ None → a ≡ false
not_missing true e = absurd cc
not_missing false e = refl

-- an error is told of the whole where it is told of a part
pub tells_more : (f : SplitFault) (a b : Bool) → (a ≡ true → b ≡ true) → Tells {T = Unit {0}} (Err f) (missing a) → Tells {T = Unit {0}} (Err f) (missing b)
tells_more Bounds a b more h = no_bounds a h
tells_more NoSuchField a b more h = ap missing (more (is_missing a h))
tells_more NoMemory a b more h = tt

-- no mask of all misses a field
none_every : (kids : Nodes) (k : ℕ) → ((i : ℕ) → nth_misses kids i (All ∷ []) ≡ false) → (j n : ℕ) → list_any (λ m. nth_misses kids (k + m.1) (m.0 ∷ [])) (every_field j n) ≡ false
none_every kids k none j zero = refl
none_every kids k none j (suc n) = rw (none (k + j)) (none_every kids k none (j + 1) n)

found_all : (kids : Nodes) (k : ℕ) (o : Option Fields) → ((i : ℕ) → nth_misses kids i (All ∷ []) ≡ false) → any_found (λ m. nth_misses kids (k + m.1) (m.0 ∷ [])) (found_fields o (All ∷ [])) ≡ false
found_all kids k None none = refl
found_all kids k (Some fs) none = none_every kids k none 0 (length (field_list fs))

mutual
  all_there : (l : Layout) → misses l (All ∷ []) ≡ false
  all_there (node t rows (Leaf segments spelling) kids) = refl
  all_there (node t rows Struct kids) = found_all kids (one_where (nullability_of t)) (struct_fields_of t) (nth_there kids)
  all_there (node t rows (List' p) kids) = refl

  pub nth_there : (kids : Nodes) (i : ℕ) → nth_misses kids i (All ∷ []) ≡ false
  nth_there no_nodes i = refl
  nth_there (child l ls) zero = all_there l
  nth_there (child l ls) (suc i) = nth_there ls i

-- the edges of a node of a kind
pub struct_edges : (l : Layout) (t : DataType) (rows : ℕ) (kind : LayoutKind) (kids : Nodes) (paths : List MaskPath) (lo hi : ℕ) → node t rows kind kids ≡ l → kind ≡ Struct → matched_edges kids (struct_matches t paths) lo hi ++ hi ∷ [] ≡ edges l paths lo hi
struct_edges l t rows kind kids paths lo hi e k = ap (λ x. edges (node t rows x kids) paths lo hi) (sym k) ∙ ap (λ x. edges x paths lo hi) e

pub list_edges : (l : Layout) (t : DataType) (rows : ℕ) (kind : LayoutKind) (p : PType) (kids : Nodes) (paths : List MaskPath) (lo hi : ℕ) → node t rows kind kids ≡ l → kind ≡ List' p
    → mapped_inside (nth_rows kids 0) rows (list_split_grid_size rows) lo hi (nth_edges kids 0 ([] ∷ []) 0 (nth_rows kids 0)) ++ hi ∷ [] ≡ edges l paths lo hi
list_edges l t rows kind p kids paths lo hi e k = ap (λ x. edges (node t rows x kids) paths lo hi) (sym k) ∙ ap (λ x. edges x paths lo hi) e

pub struct_none : (t : DataType) (paths : List MaskPath) → None ≡ struct_fields_of t → struct_matches t paths ≡ []
struct_none (bool_type n) paths e = refl
struct_none (int_type p n) paths e = refl
struct_none (utf8_type n) paths e = refl
struct_none (list_type t n) paths e = refl
struct_none (struct_type fs n) paths e = absurd cc

pub struct_some : (t : DataType) (fs : Fields) (paths : List MaskPath) → Some fs ≡ struct_fields_of t → struct_matches (struct_type fs (nullability_of t)) paths ≡ struct_matches t paths
struct_some (struct_type gs n) fs paths e = let same : fs ≡ gs = cc in ap (λ x. struct_matches (struct_type x n) paths) same
struct_some (bool_type n) fs paths e = absurd cc
struct_some (int_type p n) fs paths e = absurd cc
struct_some (utf8_type n) fs paths e = absurd cc
struct_some (list_type t n) fs paths e = absurd cc

-- the masks that match all, as masks and as paths
same_all : (m : FieldMask) → is_all (path_of m) ≡ matches_all m
same_all All = refl
same_all (Prefix []) = refl
same_all (Prefix (n ∷ ns)) = refl

some_all : (ms : List FieldMask) → list_any is_all (map path_of ms) ≡ list_any matches_all ms
some_all [] = refl
some_all (m ∷ ms) = λ i. same_all m i || some_all ms i

pub matching_every : (fs : Fields) (k : ℕ) (ms : List FieldMask) → list_any matches_all ms ≡ true → cut.every_field fs k ≡ matching fs k (map path_of ms)
matching_every fs k ms h = rw (some_all ms, h) refl

pub matching_named : (fs : Fields) (k : ℕ) (ms : List FieldMask) → list_any matches_all ms ≡ false → flat_map (matching_one fs k) (map path_of ms) ≡ matching fs k (map path_of ms)
matching_named fs k ms h = rw (some_all ms, h) refl

pub fields_every : (fs : Fields) (ms : List FieldMask) → list_any matches_all ms ≡ true → Some (every_field 0 (length (field_list fs))) ≡ matching_fields fs ms
fields_every fs ms h = rw h refl

pub fields_named : (fs : List (Name × DataType)) (ms : List FieldMask) → list_any matches_all ms ≡ false → named_fields (names_of fs) ms ≡ matching_fields (fields_of fs) ms
fields_named fs ms h = rw (h, names_again fs) refl

pub none_of_every : (kids : Nodes) (k n : ℕ) → any_found (λ m. nth_misses kids (k + m.1) (m.0 ∷ [])) (Some (every_field 0 n)) ≡ false
none_of_every kids k n = none_every kids k (nth_there kids) 0 n

-- every field from one on
pub every_at : (kids : Nodes) (fs : List (Name × DataType)) (first i lo hi : ℕ) → i < length fs
    → matched_edges kids (cut.every_field (fields_of (drop i fs)) (first + i)) lo hi ≡ nth_edges kids (first + i) ([] ∷ []) lo hi ++ matched_edges kids (cut.every_field (fields_of (drop (i + 1) fs)) (first + (i + 1))) lo hi
every_at kids fs first i lo hi h = go fs i h (first + i) (first + (i + 1)) (omega arith)
  where
    go : (gs : List (Name × DataType)) (j : ℕ) → j < length gs → (k n : ℕ) → n ≡ k + 1 → matched_edges kids (cut.every_field (fields_of (drop j gs)) k) lo hi ≡ nth_edges kids k ([] ∷ []) lo hi ++ matched_edges kids (cut.every_field (fields_of (drop (j + 1) gs)) n) lo hi
    go [] j l k n e = absurd (omega arith)
    go (g ∷ gs) zero l k n e = ap (λ x. nth_edges kids k ([] ∷ []) lo hi ++ matched_edges kids (cut.every_field (fields_of gs) x) lo hi) (sym e)
    go (g ∷ gs) (suc j) l k n e = let l' : j < length gs = omega arith in rw add-one (rw add-one at (go gs j l' k n e))

pub every_past : (kids : Nodes) (fs : List (Name × DataType)) (i k lo hi : ℕ) → length fs ≤ i → matched_edges kids (cut.every_field (fields_of (drop i fs)) k) lo hi ≡ []
every_past kids [] zero k lo hi h = refl
every_past kids [] (suc i) k lo hi h = refl
every_past kids (f ∷ fs) zero k lo hi h = absurd (omega arith)
every_past kids (f ∷ fs) (suc i) k lo hi h = every_past kids fs i k lo hi (omega arith)

-- the field of one mask
one_found : (fs : Fields) (k i : ℕ) (m : FieldMask) → field_of (names_of (field_list fs)) m ≡ Some i → matching_one fs k (path_of m) ≡ (path_of (stepped m), k + i) ∷ []
one_found fs k i All e = absurd cc
one_found fs k i (Prefix []) e = absurd cc
one_found fs k i (Prefix (n ∷ ns)) e =
    sym (append-nil (matching_one fs k (n ∷ ns))) ∙ splits_by_fields fs k (Prefix (n ∷ ns) ∷ []) ((stepped (Prefix (n ∷ ns)), i) ∷ []) (ap (λ o. option_and_then (λ j. Some ((stepped (Prefix (n ∷ ns)), j) ∷ [])) o) e)

module _ (kids : Nodes) (fs : List (Name × DataType)) (first lo hi : ℕ) (ms : List FieldMask) (k : ℕ) where
  pub named_at : (m : FieldMask) (i : ℕ) → k < length ms → m ≡ get_or ms k m → Some i ≡ field_of (names_of fs) m
      → matched_edges kids (flat_map (matching_one (fields_of fs) first) (map path_of (drop k ms))) lo hi
      ≡ nth_edges kids (first + i) (path_of (stepped m) ∷ []) lo hi ++ matched_edges kids (flat_map (matching_one (fields_of fs) first) (map path_of (drop (k + 1) ms))) lo hi
  named_at m i h e g =
      let one = one_found (fields_of fs) first i m (ap (λ ns. field_of ns m) (names_again fs) ∙ sym g) in
      rw (drop-cons ms k m h, ← e, one, add-one) refl

  pub named_past : length ms ≤ k → matched_edges kids (flat_map (matching_one (fields_of fs) first) (map path_of (drop k ms))) lo hi ≡ []
  named_past h = ap (λ xs. matched_edges kids (flat_map (matching_one (fields_of fs) first) (map path_of xs)) lo hi) (past ms k h)
    where
      past : (xs : List FieldMask) (j : ℕ) → length xs ≤ j → drop j xs ≡ []
      past [] zero l = refl
      past [] (suc j) l = refl
      past (x ∷ xs) zero l = absurd (omega arith)
      past (x ∷ xs) (suc j) l = past xs j (omega arith)

module _ (p : FieldMask × ℕ → Bool) (names : List Name) (ms : List FieldMask) (k : ℕ) (m : FieldMask) where
  rest_true : (i : ℕ) (o : Option (List (FieldMask × ℕ))) → p (stepped m, i) ≡ true → any_found p (option_map (λ rest. (stepped m, i) ∷ rest) o) ≡ true
  rest_true i None t = refl
  rest_true i (Some found) t = ap (λ b. b || list_any p found) t

  rest_false : (i : ℕ) (o : Option (List (FieldMask × ℕ))) → p (stepped m, i) ≡ false → any_found p (option_map (λ rest. (stepped m, i) ∷ rest) o) ≡ any_found p o
  rest_false i None t = refl
  rest_false i (Some found) t = ap (λ b. b || list_any p found) t

  pub found_here : (i : ℕ) → k < length ms → m ≡ get_or ms k m → Some i ≡ field_of names m → p (stepped m, i) ≡ true → any_found p (named_fields names (drop k ms)) ≡ true
  found_here i h e g t = rw (drop-cons ms k m h, ← e, ← g) (rest_true i (named_fields names (drop (suc k) ms)) t)

  pub found_later : (i : ℕ) → k < length ms → m ≡ get_or ms k m → Some i ≡ field_of names m → p (stepped m, i) ≡ false → any_found p (named_fields names (drop k ms)) ≡ any_found p (named_fields names (drop (k + 1) ms))
  found_later i h e g t = rw (drop-cons ms k m h, ← e, ← g, add-one) (rest_false i (named_fields names (drop (suc k) ms)) t)

  pub found_none : k < length ms → m ≡ get_or ms k m → None ≡ field_of names m → any_found p (named_fields names (drop k ms)) ≡ true
  found_none h e g = rw (drop-cons ms k m h, ← e, ← g) refl

-- what is pushed is called otherwise
pub pushes_as : (r : Result (Unit {0}) SplitFault) (offset : ℕ) (xs ys old new : List ℕ) → xs ≡ ys → Pushes r (shifted offset xs) old new → Pushes r (shifted offset ys) old new
pushes_as r offset xs ys old new e h = subst (λ zs. Pushes r (shifted offset zs) old new) e h

pub adds_as : (offset : ℕ) (xs ys old new : List ℕ) → xs ≡ ys → Adds (shifted offset xs) old new → Adds (shifted offset ys) old new
adds_as offset xs ys old new e h = subst (λ zs. Adds (shifted offset zs) old new) e h

pub some_as : (offset : ℕ) (xs ys old new : List ℕ) → xs ≡ ys → AddsSome (shifted offset xs) old new → AddsSome (shifted offset ys) old new
some_as offset xs ys old new e h = subst (λ zs. AddsSome (shifted offset zs) old new) e h

pub not_missing_of : (u : Unit {0}) (a : Bool) → Tells {T = Unit {0}} (Ok u) (missing a) → a ≡ false
not_missing_of u a h = not_missing a h

pub names_length : (fs : List (Name × DataType)) → length (names_of fs) ≡ length fs
names_length [] = refl
names_length (f ∷ fs) = ap suc (names_length fs)

pub found_past : (p : FieldMask × ℕ → Bool) (names : List Name) (ms : List FieldMask) (k : ℕ) → length ms ≤ k → any_found p (named_fields names (drop k ms)) ≡ false
found_past p names [] zero h = refl
found_past p names [] (suc k) h = refl
found_past p names (m ∷ ms) zero h = absurd (omega arith)
found_past p names (m ∷ ms) (suc k) h = found_past p names ms k (omega arith)

pub never : {P : Type 0} (b : Bool) → b ≡ false → b ≡ true → P
never true e q = absurd cc
never false e q = absurd cc

-- the masks that miss a field of a struct
pub struct_misses : (l : Layout) (t : DataType) (rows : ℕ) (kind : LayoutKind) (kids : Nodes) (masks : List FieldMask) → node t rows kind kids ≡ l → kind ≡ Struct
    → any_found (λ m. nth_misses kids (one_where (nullability_of t) + m.1) (m.0 ∷ [])) (found_fields (struct_fields_of t) masks) ≡ misses l masks
struct_misses l t rows kind kids masks e k = ap (λ x. misses (node t rows x kids) masks) (sym k) ∙ ap (λ x. misses x masks) e

pub struct_found : (kids : Nodes) (t : DataType) (n : Nullability) (fs : Fields) (masks : List FieldMask) → n ≡ nullability_of t → Some fs ≡ struct_fields_of t
    → any_found (λ m. nth_misses kids (one_where n + m.1) (m.0 ∷ [])) (matching_fields fs masks) ≡ any_found (λ m. nth_misses kids (one_where (nullability_of t) + m.1) (m.0 ∷ [])) (found_fields (struct_fields_of t) masks)
struct_found kids t n fs masks e s = λ i. any_found (λ m. nth_misses kids (one_where (e i) + m.1) (m.0 ∷ [])) (found_fields (s i) masks)

pub struct_cut : (kids : Nodes) (t : DataType) (n : Nullability) (fs : Fields) (paths : List MaskPath) (lo hi : ℕ) → n ≡ nullability_of t → Some fs ≡ struct_fields_of t
    → matched_edges kids (struct_matches (struct_type fs n) paths) lo hi ≡ matched_edges kids (struct_matches t paths) lo hi
struct_cut kids t n fs paths lo hi e s = ap (λ x. matched_edges kids (struct_matches (struct_type fs x) paths) lo hi) e ∙ ap (λ x. matched_edges kids x lo hi) (struct_some t fs paths s)

-- a list without children has no edge inside a range
pub list_none : (rs : List (Rc Layout Global)) (rows grid lo hi : ℕ) → length rs ≡ 0 → hi ∷ [] ≡ mapped_inside (nth_rows (nodes (layouts_of rs)) 0) rows grid lo hi (nth_edges (nodes (layouts_of rs)) 0 ([] ∷ []) 0 (nth_rows (nodes (layouts_of rs)) 0)) ++ hi ∷ []
list_none [] rows grid lo hi h = refl
list_none (r ∷ rs) rows grid lo hi h = absurd (omega arith)

same_append : (xs ys zs : List ℕ) → SameNumbers xs ys → SameNumbers (xs ++ zs) (ys ++ zs)
same_append xs ys zs same n = (front xs ys n (same n).0, front ys xs n (same n).1)
  where
    front : (us vs : List ℕ) (m : ℕ) → (Contains us m → Contains vs m) → Contains (us ++ zs) m → Contains (vs ++ zs) m
    front us vs m f h = elim (Contains-append_cases us zs m h) [ inl x ↦ Contains-append_left vs zs m (f x) | inr y ↦ Contains-append_right vs zs m y ]

-- the edges of a list, by the splits of all its elements
pub list_same : (rs : List (Rc Layout Global)) (r : Rc Layout Global) (offset rows grid lo hi element_rows : ℕ) (given found : List ℕ) → 0 < length rs → r ≡ get_or rs 0 r → element_rows ≡ rows_of r.value → given ≡ found
    → SameNumbers found (edges r.value ([] ∷ []) 0 (rows_of r.value))
    → SameNumbers (shifted offset (mapped_inside element_rows rows grid lo hi given ++ hi ∷ [])) (shifted offset (mapped_inside (nth_rows (nodes (layouts_of rs)) 0) rows grid lo hi (nth_edges (nodes (layouts_of rs)) 0 ([] ∷ []) 0 (nth_rows (nodes (layouts_of rs)) 0)) ++ hi ∷ []))
list_same rs r offset rows grid lo hi element_rows given found h e er is same =
    rw (rows_at_first rs r h e, nth_at ([] ∷ []) 0 (rows_of r.value) rs 0 r h e, er, is)
    (same_shifted offset (mapped_inside (rows_of r.value) rows grid lo hi found ++ hi ∷ []) (mapped_inside (rows_of r.value) rows grid lo hi (edges r.value ([] ∷ []) 0 (rows_of r.value)) ++ hi ∷ [])
    (same_append (mapped_inside (rows_of r.value) rows grid lo hi found) (mapped_inside (rows_of r.value) rows grid lo hi (edges r.value ([] ∷ []) 0 (rows_of r.value))) (hi ∷ [])
    (same_kept (is_inside lo hi) (λ x. map_element_split_to_outer_grid x (rows_of r.value) rows grid) found (edges r.value ([] ∷ []) 0 (rows_of r.value)) same)))

not_shifted : (xs : List ℕ) → shifted 0 xs ≡ xs
not_shifted [] = refl
not_shifted (x ∷ xs) = λ i. zero-add x i ∷ not_shifted xs i

pub all_splits : (l : Layout) (span : RowSpan) (rows : ℕ) (old new out : List ℕ) → span ≡ record { offset = 0; start = 0; end = rows } → rows ≡ rows_of l → old ≡ []
    → Adds (shifted span.offset (edges l ([] ∷ []) span.start span.end)) old new → SameNumbers out new → SameNumbers out (edges l ([] ∷ []) 0 (rows_of l))
all_splits l span rows old new out is count none p same =
    let whole : shifted span.offset (edges l ([] ∷ []) span.start span.end) ≡ edges l ([] ∷ []) 0 (rows_of l) = ap (λ (s : RowSpan). shifted s.offset (edges l ([] ∷ []) s.start s.end)) is ∙ not_shifted (edges l ([] ∷ []) 0 rows) ∙ ap (edges l ([] ∷ []) 0) count in
    let grown : new ≡ p.added = p.grows ∙ ap (λ xs. xs ++ p.added) none in
    let found : SameNumbers p.added (edges l ([] ∷ []) 0 (rows_of l)) = subst (λ xs. SameNumbers p.added xs) whole p.same in
    same-trans out new (edges l ([] ∷ []) 0 (rows_of l)) same (subst (λ xs. SameNumbers xs (edges l ([] ∷ []) 0 (rows_of l))) (sym grown) found)

pub is_empty_of : (n : ℕ) (b : Bool) → b ≡ nat_eq n 0 → b ≡ true → n ≡ 0
is_empty_of n b e t = let is : nat_eq n 0 ≡ true = sym e ∙ t in grind (arith, nat_tests)

pub some_there : (n : ℕ) (b : Bool) → b ≡ nat_eq n 0 → b ≡ false → 0 < n
some_there n b e t = let is : nat_eq n 0 ≡ false = sym e ∙ t in grind (arith, nat_tests)
