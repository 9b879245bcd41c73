-- Rows of structs, by their items, and what they touch.
use Rattle.std.proofs.Common.{◌≡◌, ℕ, zero, suc, ◌+◌, ◌≤◌, Bool, true, false, cond, List, [], ◌∷◌, map, filter, Option, Some, None, ◌⊎◌, inl, inr, refl, ap, sym, subst, ◌∙◌, arith}
use Rattle.std.specs.Prelude.{option_map, position, bytes_eq}
use Rattle.std.specs.List.{position_from, list_any}
use Rattle.std.proofs.lemmas.Slice.Eq.{bytes_eq-Decides}
use Rattle.std.proofs.lemmas.List.Folds.{list_any-append}
use Rattle.scan_values.specs.declared.ptype.Nullability.{Nullability}
use Rattle.scan_values.specs.declared.ptype.Nullability.TheVariants.{NonNullable, Nullable}
use Rattle.scan_values.specs.DataType.{DataType, Fields, no_fields, field, field_list, Name, bool_type, struct_type}
use Rattle.scan_values.specs.FieldLists.{names_of, dtypes_of as field_types}
use Rattle.scan_values.specs.Fits.{fits}
use Rattle.scan_values.specs.Marked.{Marked, lost, null, gone, boolean, integer, text, list, struct, Markeds}
use Rattle.scan_values.specs.Paths.{Path, Step, to_field, to_validity}
use Rattle.scan_segments.specs.Source.{Store}
use Rattle.scan_expr.specs.Eval.{pick, null_test}
use Rattle.scan_layout.specs.Check.{with_validity}
use Rattle.scan_layout.specs.Form.{HasForm, HaveForms}
use Rattle.scan_layout.specs.Layout.{Layout, Nodes, no_nodes, child}
use Rattle.scan_spelling.specs.Places.{Place}
use Rattle.scan_layout.specs.RowValue.{row_value, row_values, struct_value, under}
use Rattle.scan_layout.specs.Slots.{nth_kid}
use Rattle.scan_layout.specs.Touched.{touched, all_touched, under_step, field_steps, struct_steps}
use Rattle.scan_layout.proofs.Placing.{from_first}
use Rattle.scan_partition.specs.Rows.{Even, IsRow, FieldsAgree, Agrees}
use Rattle.scan_partition.specs.declared.item.Item.{Item}
use Rattle.scan_partition.specs.declared.item.Item.TheVariants.{Field, Validity}
use Rattle.scan_partition.specs.Needing.{item_step}
use Rattle.scan_readers.specs.Flaws.{ListOffsets, below, lists_of, lists_under}
use Rattle.scan_readers.specs.Reached.{item_child}
use Rattle.scan_readers.specs.StructPlans.{item_value}
use Rattle.scan_readers.proofs.SomePlace.{or_left, or_right, needed_append}

-- ---- a row is a value of the struct
even : (fs : Fields) (kids : Nodes) (store : Store) (i : ℕ) → HaveForms kids (field_types (field_list fs)) → Even fs (row_values kids store i)
even no_fields no_nodes store i h = tt
even no_fields (child l ls) store i h = absurd h
even (field f d fs) no_nodes store i h = absurd h
even (field f d fs) (child l ls) store i h = even fs ls store i h.1

under_row : (fs : Fields) (v : Marked) (ms : Markeds) → Even fs ms → IsRow fs Nullable (under v (struct ms))
under_row fs (boolean true) ms e = e
under_row fs (boolean false) ms e = tt
under_row fs lost ms e = tt
under_row fs null ms e = tt
under_row fs gone ms e = tt
under_row fs (integer z) ms e = tt
under_row fs (text t) ms e = tt
under_row fs (list ns) ms e = tt
under_row fs (struct ns) ms e = tt

pub is_row : (fs : Fields) (n : Nullability) (kids : Nodes) (store : Store) (i : ℕ) → HaveForms kids (with_validity n (field_types (field_list fs))) → IsRow fs n (struct_value n (row_values kids store i))
is_row fs NonNullable kids store i h = even fs kids store i h
is_row fs Nullable no_nodes store i h = absurd h
is_row fs Nullable (child v ls) store i h = under_row fs (row_value v store i) (row_values ls store i) (even fs ls store i h.1)

under_agrees : (fs : Fields) (v : Marked) (ms : Markeds) (w : Item → Marked) → ((f : Name) → w (Field f) ≡ pick f fs ms) → FieldsAgree fs (under v (struct ms)) w
under_agrees fs (boolean true) ms w h = h
under_agrees fs (boolean false) ms w h = tt
under_agrees fs lost ms w h = tt
under_agrees fs null ms w h = tt
under_agrees fs gone ms w h = tt
under_agrees fs (integer z) ms w h = tt
under_agrees fs (text t) ms w h = tt
under_agrees fs (list ns) ms w h = tt
under_agrees fs (struct ns) ms w h = tt

pub agrees : (fs : Fields) (n : Nullability) (kids : Nodes) (store : Store) (i : ℕ) → HaveForms kids (with_validity n (field_types (field_list fs))) → Agrees fs (struct_value n (row_values kids store i)) (item_value fs n kids store i)
agrees fs NonNullable kids store i h = record { fields = λ f. refl; here = refl }
agrees fs Nullable no_nodes store i h = absurd h
agrees fs Nullable (child v ls) store i h = record { fields = under_agrees fs (row_value v store i) (row_values ls store i) (item_value fs Nullable (child v ls) store i) (λ f. refl); here = refl }

-- ---- what is read of an item is the value of its child
validity_read : (v : Marked) (ms : Markeds) → fits v (bool_type NonNullable) ≡ true → null_test false (under v (struct ms)) ≡ v
validity_read (boolean true) ms h = refl
validity_read (boolean false) ms h = refl
validity_read gone ms h = refl
validity_read lost ms h = absurd cc
validity_read null ms h = absurd cc
validity_read (integer z) ms h = absurd cc
validity_read (text t) ms h = absurd cc
validity_read (list ns) ms h = absurd cc
validity_read (struct ns) ms h = absurd cc

not_before : (t : Name → Bool) (k p : ℕ) (ns : List Name) → position_from t k ns ≡ Some p → k ≤ p
not_before t k p [] h = absurd (let z : None ≡ Some p = h in cc)
not_before t k p (n ∷ ns) h = by (t n) (not_before t (k + 1) p ns) h
  where
    by : (b : Bool) → (position_from t (k + 1) ns ≡ Some p → k + 1 ≤ p) → cond b (Some k) (position_from t (k + 1) ns) ≡ Some p → k ≤ p
    by true later e = let same : k ≡ p = cc in omega (arith, same)
    by false later e = let rest = later e in omega (arith, rest)

-- the child at the place of a name, from a place on
pub picked : (fs : Fields) (kids : Nodes) (f : Name) (k j : ℕ) (c : Layout) (store : Store) (i : ℕ)
    → position_from (bytes_eq f) k (names_of (field_list fs)) ≡ Some (k + j) → nth_kid kids j ≡ Some c → HaveForms kids (field_types (field_list fs))
    → row_value c store i ≡ pick f fs (row_values kids store i)
picked no_fields kids f k j c store i p e h = absurd (let z : None ≡ Some (k + j) = p in cc)
picked (field m d fs) no_nodes f k j c store i p e h = absurd h
picked (field m d fs) (child l ls) f k zero c store i p e h = by (bytes_eq f m) p
  where
    by : (b : Bool) → cond b (Some k) (position_from (bytes_eq f) (k + 1) (names_of (field_list fs))) ≡ Some (k + 0) → row_value c store i ≡ cond b (row_value l store i) (pick f fs (row_values ls store i))
    by true q = let same : l ≡ c = cc in ap (λ (x : Layout). row_value x store i) (sym same)
    by false q = let late : k + 1 ≤ k + 0 = not_before (bytes_eq f) (k + 1) (k + 0) (names_of (field_list fs)) q in absurd (omega (arith, late))
picked (field m d fs) (child l ls) f k (suc j) c store i p e h = by (bytes_eq f m) (λ q. picked fs ls f (k + 1) j c store i q e h.1) p
  where
    moved : k + suc j ≡ k + 1 + j
    moved = omega arith

    by : (b : Bool) → (position_from (bytes_eq f) (k + 1) (names_of (field_list fs)) ≡ Some (k + 1 + j)
        → row_value c store i ≡ pick f fs (row_values ls store i))
        → cond b (Some k) (position_from (bytes_eq f) (k + 1) (names_of (field_list fs))) ≡ Some (k + suc j)
        → row_value c store i ≡ cond b (row_value l store i) (pick f fs (row_values ls store i))
    by true later q = let same : k ≡ k + suc j = cc in absurd (omega (arith, same))
    by false later q = later (q ∙ ap Some moved)

-- ---- the child at a step
-- a step leads to a child
abbrev pub Leads : Nodes → List Step → Step → Layout → Type 0
Leads no_nodes steps step c = ⊥
Leads (child l ls) [] step c = ⊥
Leads (child l ls) (s ∷ steps) step c = ((s ≡ step) × (l ≡ c)) ⊎ Leads ls steps step c

leads_field : (fs : Fields) (kids : Nodes) (f : Name) (k j : ℕ) (c : Layout) → position_from (bytes_eq f) k (names_of (field_list fs)) ≡ Some (k + j) → nth_kid kids j ≡ Some c → HaveForms kids (field_types (field_list fs))
    → Leads kids (field_steps fs) (to_field f) c
leads_field no_fields kids f k j c p e h = absurd (let z : None ≡ Some (k + j) = p in cc)
leads_field (field m d fs) no_nodes f k j c p e h = absurd h
leads_field (field m d fs) (child l ls) f k zero c p e h = by (bytes_eq f m) refl p
  where
    by : (t : Bool) → bytes_eq f m ≡ t → cond t (Some k) (position_from (bytes_eq f) (k + 1) (names_of (field_list fs))) ≡ Some (k + 0) → Leads (child l ls) (to_field m ∷ field_steps fs) (to_field f) c
    by true s q = let same : l ≡ c = cc in let name : f ≡ m = (bytes_eq-Decides f m).0 s in inl (ap to_field (sym name), same)
    by false s q = let late : k + 1 ≤ k + 0 = not_before (bytes_eq f) (k + 1) (k + 0) (names_of (field_list fs)) q in absurd (omega (arith, late))
leads_field (field m d fs) (child l ls) f k (suc j) c p e h = by (bytes_eq f m) (λ q. leads_field fs ls f (k + 1) j c q e h.1) p
  where
    moved : k + suc j ≡ k + 1 + j
    moved = omega arith

    by : (t : Bool) → (position_from (bytes_eq f) (k + 1) (names_of (field_list fs)) ≡ Some (k + 1 + j) → Leads ls (field_steps fs) (to_field f) c)
        → cond t (Some k) (position_from (bytes_eq f) (k + 1) (names_of (field_list fs))) ≡ Some (k + suc j) → Leads (child l ls) (to_field m ∷ field_steps fs) (to_field f) c
    by true later q = let same : k ≡ k + suc j = cc in absurd (omega (arith, same))
    by false later q = inr (later (q ∙ ap Some moved))

-- that of an item
pub leads_item : (fs : Fields) (n : Nullability) (kids : Nodes) (item : Item) (j : ℕ) (c : Layout) → item_child fs n item ≡ Some j → nth_kid kids j ≡ Some c → HaveForms kids (with_validity n (field_types (field_list fs)))
    → Leads kids (struct_steps (struct_type fs n)) (item_step item) c
leads_item fs NonNullable kids (Field f) j c p e h = by (position (bytes_eq f) (names_of (field_list fs))) refl p
  where
    by : (o : Option ℕ) → position (bytes_eq f) (names_of (field_list fs)) ≡ o → option_map (λ k. 0 + k) o ≡ Some j → Leads kids (field_steps fs) (to_field f) c
    by None s q = absurd (let z : None ≡ Some j = q in cc)
    by (Some k) s q = let same : 0 + k ≡ j = cc in leads_field fs kids f 0 j c (from_first (bytes_eq f) (names_of (field_list fs)) ∙ s ∙ ap Some (omega (arith, same))) e h
leads_item fs NonNullable kids Validity j c p e h = absurd (let z : None ≡ Some j = p in cc)
leads_item fs Nullable no_nodes item j c p e h = absurd h
leads_item fs Nullable (child v ls) (Field f) j c p e h = by (position (bytes_eq f) (names_of (field_list fs))) refl p
  where
    by : (o : Option ℕ) → position (bytes_eq f) (names_of (field_list fs)) ≡ o → option_map (λ k. 1 + k) o ≡ Some j → Leads (child v ls) (to_validity ∷ field_steps fs) (to_field f) c
    by None s q = absurd (let z : None ≡ Some j = q in cc)
    by (Some k) s q =
        let same : 1 + k ≡ j = cc in
        let next : j ≡ suc k = omega (arith, same) in
        let kid : nth_kid ls k ≡ Some c = subst (λ (m : ℕ). nth_kid (child v ls) m ≡ Some c) next e in
        inr (leads_field fs ls f 0 k c (from_first (bytes_eq f) (names_of (field_list fs)) ∙ s ∙ ap Some (omega arith)) kid h.1)
leads_item fs Nullable (child v ls) Validity j c p e h =
    let first : 0 ≡ j = cc in
    let kid : nth_kid (child v ls) 0 ≡ Some c = subst (λ (m : ℕ). nth_kid (child v ls) m ≡ Some c) (sym first) e in
    let same : v ≡ c = cc in
    inl (refl, same)

-- the segments of the child are among those of all, where they are needed
pub leads_touched : (Q : Path → Bool) (T : Place → Bool) (kids : Nodes) (steps : List Step) (step : Step) (c : Layout) (store : Store) (a b : ℕ) → Leads kids steps step c
    → list_any T (filter (λ (x : Place). Q x.path) (under_step step (touched c store a b))) ≡ true → list_any T (filter (λ (x : Place). Q x.path) (all_touched kids steps store a b)) ≡ true
leads_touched Q T no_nodes steps step c store a b h w = absurd h
leads_touched Q T (child l ls) [] step c store a b h w = absurd h
leads_touched Q T (child l ls) (s ∷ steps) step c store a b (inl h) w =
    let F : Step → Layout → Bool = λ u z. list_any T (filter (λ (x : Place). Q x.path) (under_step u (touched z store a b))) in
    needed_append Q T (under_step s (touched l store a b)) (all_touched ls steps store a b)
    ∙ or_left (F s l) (list_any T (filter (λ (x : Place). Q x.path) (all_touched ls steps store a b))) ((λ r. F (h.0 r) (h.1 r)) ∙ w)
leads_touched Q T (child l ls) (s ∷ steps) step c store a b (inr h) w =
    needed_append Q T (under_step s (touched l store a b)) (all_touched ls steps store a b)
    ∙ or_right (list_any T (filter (λ (x : Place). Q x.path) (under_step s (touched l store a b)))) (list_any T (filter (λ (x : Place). Q x.path) (all_touched ls steps store a b)))
    (leads_touched Q T ls steps step c store a b h w)

-- and so are its lists
pub leads_lists : (B : ListOffsets → Bool) (kids : Nodes) (steps : List Step) (step : Step) (c : Layout) → Leads kids steps step c → list_any B (map (below step) (lists_of c)) ≡ true → list_any B (lists_under kids steps) ≡ true
leads_lists B no_nodes steps step c h w = absurd h
leads_lists B (child l ls) [] step c h w = absurd h
leads_lists B (child l ls) (s ∷ steps) step c (inl h) w =
    let F : Step → Layout → Bool = λ u z. list_any B (map (below u) (lists_of z)) in
    list_any-append B (map (below s) (lists_of l)) (lists_under ls steps) ∙ or_left (F s l) (list_any B (lists_under ls steps)) ((λ r. F (h.0 r) (h.1 r)) ∙ w)
leads_lists B (child l ls) (s ∷ steps) step c (inr h) w =
    list_any-append B (map (below s) (lists_of l)) (lists_under ls steps) ∙ or_right (list_any B (map (below s) (lists_of l))) (list_any B (lists_under ls steps)) (leads_lists B ls steps step c h w)

-- ---- what is read of an item
pub child_value : (fs : Fields) (n : Nullability) (kids : Nodes) (item : Item) (j : ℕ) (c : Layout) (store : Store) (i : ℕ)
    → ((l : Layout) (t : DataType) → HasForm l t → fits (row_value l store i) t ≡ true) → item_child fs n item ≡ Some j → nth_kid kids j ≡ Some c
    → HaveForms kids (with_validity n (field_types (field_list fs))) → row_value c store i ≡ item_value fs n kids store i item
child_value fs NonNullable kids (Field f) j c store i fit p e h = by (position (bytes_eq f) (names_of (field_list fs))) refl p
  where
    by : (o : Option ℕ) → position (bytes_eq f) (names_of (field_list fs)) ≡ o → option_map (λ k. 0 + k) o ≡ Some j → row_value c store i ≡ pick f fs (row_values kids store i)
    by None s q = absurd (let z : None ≡ Some j = q in cc)
    by (Some k) s q = let same : 0 + k ≡ j = cc in picked fs kids f 0 j c store i (from_first (bytes_eq f) (names_of (field_list fs)) ∙ s ∙ ap Some (omega (arith, same))) e h
child_value fs NonNullable kids Validity j c store i fit p e h = absurd (let z : None ≡ Some j = p in cc)
child_value fs Nullable no_nodes item j c store i fit p e h = absurd h
child_value fs Nullable (child v ls) (Field f) j c store i fit p e h = by (position (bytes_eq f) (names_of (field_list fs))) refl p
  where
    by : (o : Option ℕ) → position (bytes_eq f) (names_of (field_list fs)) ≡ o → option_map (λ k. 1 + k) o ≡ Some j → row_value c store i ≡ pick f fs (row_values ls store i)
    by None s q = absurd (let z : None ≡ Some j = q in cc)
    by (Some k) s q =
        let same : 1 + k ≡ j = cc in
        let next : j ≡ suc k = omega (arith, same) in
        let kid : nth_kid ls k ≡ Some c = subst (λ (m : ℕ). nth_kid (child v ls) m ≡ Some c) next e in
        picked fs ls f 0 k c store i (from_first (bytes_eq f) (names_of (field_list fs)) ∙ s ∙ ap Some (omega arith)) kid h.1
child_value fs Nullable (child v ls) Validity j c store i fit p e h =
    let first : 0 ≡ j = cc in
    let kid : nth_kid (child v ls) 0 ≡ Some c = subst (λ (m : ℕ). nth_kid (child v ls) m ≡ Some c) (sym first) e in
    let same : v ≡ c = cc in
    ap (λ (z : Layout). row_value z store i) (sym same) ∙ sym (validity_read (row_value v store i) (row_values ls store i) (fit v (bool_type NonNullable) h.0))
