-- A layout that is written as JSON is read again.
use Rattle.std.proofs.Common.{◌≡◌, ℕ, zero, suc, ◌+◌, ◌-◌, ◌^◌, ◌≤◌, ◌<◌, true, false, cond, ◌==◌, List, [], ◌∷◌, map, refl, sym, ap, ◌∙◌, subst, arith}
use Rattle.std.specs.Prelude.{Option, None, Some, option_and_then, slice_get, unwrap_or, nat_le}
use Rattle.std.proofs.lemmas.Bool.Decides.{nat_tests}
use Rattle.serde_json.specs.View.{items_of}
use Rattle.scan_values.specs.declared.ptype.Nullability.TheVariants.{NonNullable, Nullable}
use Rattle.scan_values.specs.DataType.{DataType, Fields, no_fields, field, bool_type, int_type, utf8_type, list_type, struct_type, field_list, depth_of, fields_depth}
use Rattle.scan_values.specs.FieldLists.{dtypes_of}
use Rattle.scan_spelling.specs.declared.spelling.Spelling.{Spelling}
use Rattle.scan_spelling.specs.declared.spelling.Spelling.TheVariants.{One, Two}
use Rattle.scan_layout.specs.declared.node.LayoutKind.TheVariants.{Leaf, Struct, List as Listed}
use Rattle.scan_layout.specs.Layout.{Layout, Nodes, node, nodes, no_nodes, child}
use Rattle.scan_layout.specs.Check.{child_types}
use Rattle.scan_layout.specs.Form.{HasForm, HaveForms}
use Rattle.scan_manifest.specs.Json.{each_from, both}
use Rattle.scan_manifest.specs.Layouts.{place_in, layout_within, child_type, field_or_truth, truth}
use Rattle.scan_disk_writer.specs.Json.{json_of_segment, json_of_layout, json_of_nodes}
use Rattle.scan_disk_writer.specs.FileBytes.{IdsFit, AllIdsFit, SegmentIdsFit}
use Rattle.scan_disk_writer.proofs.DTypesAgain.{ptype_again, each_more}

-- ---- levels: what a layout of a dtype nests
abbrev mutual
  pub LevelsFit : DataType → ℕ → Type 0
  LevelsFit (bool_type n) k = Unit {0}
  LevelsFit (int_type p n) k = Unit {0}
  LevelsFit (utf8_type n) k = Unit {0}
  LevelsFit (list_type d n) zero = ⊥
  LevelsFit (list_type d n) (suc k) = LevelsFit d k
  LevelsFit (struct_type fs n) zero = ⊥
  LevelsFit (struct_type fs n) (suc k) = FieldLevels fs k

  FieldLevels : Fields → ℕ → Type 0
  FieldLevels no_fields k = Unit {0}
  FieldLevels (field name d fs) k = LevelsFit d k × FieldLevels fs k

abbrev AllLevels : List DataType → ℕ → Type 0
AllLevels [] k = Unit {0}
AllLevels (t ∷ ts) k = LevelsFit t k × AllLevels ts k

mutual
  pub levels_fit : (d : DataType) (k : ℕ) → depth_of d ≤ k → LevelsFit d k
  levels_fit (bool_type n) k h = tt
  levels_fit (int_type p n) k h = tt
  levels_fit (utf8_type n) k h = tt
  levels_fit (list_type d n) zero h = absurd (omega (arith, h))
  levels_fit (list_type d n) (suc k) h = levels_fit d k (omega (arith, h))
  levels_fit (struct_type fs n) zero h = absurd (omega (arith, h))
  levels_fit (struct_type fs n) (suc k) h = field_levels fs k (omega (arith, h))

  field_levels : (fs : Fields) (k : ℕ) → fields_depth fs ≤ k → FieldLevels fs k
  field_levels no_fields k h = tt
  field_levels (field name d fs) k h = (levels_fit d k (omega (arith, h)), field_levels fs k (omega (arith, h)))

type_levels : (fs : Fields) (k : ℕ) → FieldLevels fs k → AllLevels (dtypes_of (field_list fs)) k
type_levels no_fields k h = tt
type_levels (field name d fs) k h = (h.0, type_levels fs k h.1)

-- ---- a leaf
id_again : (g : ℕ × ℕ) → g.0 < 2 ^ 32 → place_in (json_of_segment g) ≡ Some g
id_again g h =
    let yes : nat_le g.0 (2 ^ 32 - 1) ≡ true = let q : g.0 ≤ 2 ^ 32 - 1 = omega (arith, h) in grind (arith, nat_tests) in
    ap (λ b. both (λ id rows. Some (id, rows)) (cond b (Some g.0) None) (Some g.1)) yes

segments_again : (gs : List (ℕ × ℕ)) (i : ℕ) → SegmentIdsFit gs → each_from (λ _. place_in) i (items_of (map json_of_segment gs)) ≡ Some gs
segments_again [] i h = refl
segments_again (g ∷ gs) i h = each_more (λ _. place_in) i (json_of_segment g) (items_of (map json_of_segment gs)) g gs (id_again g h.0) (segments_again gs (i + 1) h.1)

no_kids : (t : DataType) (gs : List (ℕ × ℕ)) (s : Spelling) (kids : Nodes) → HaveForms kids (child_types t (Leaf gs s)) → kids ≡ no_nodes
no_kids (bool_type n) gs s no_nodes h = refl
no_kids (int_type p n) gs s no_nodes h = refl
no_kids (utf8_type n) gs s no_nodes h = refl
no_kids (list_type d n) gs s no_nodes h = refl
no_kids (struct_type fs n) gs s no_nodes h = refl
no_kids (bool_type n) gs s (child l ls) h = absurd h
no_kids (int_type p n) gs s (child l ls) h = absurd h
no_kids (utf8_type n) gs s (child l ls) h = absurd h
no_kids (list_type d n) gs s (child l ls) h = absurd h
no_kids (struct_type fs n) gs s (child l ls) h = absurd h

leaf_again : (t : DataType) (rows k : ℕ) (gs : List (ℕ × ℕ)) (s : Spelling) → SegmentIdsFit gs
    → layout_within (suc k) t (json_of_layout (node t rows (Leaf gs s) no_nodes)) ≡ Some (node t rows (Leaf gs s) no_nodes)
leaf_again t rows k gs One h = ap (λ o. both (λ ps n. Some (node t n (Leaf ps One) no_nodes)) o (Some rows)) (segments_again gs 0 h)
leaf_again t rows k gs Two h = ap (λ o. both (λ ps n. Some (node t n (Leaf ps Two) no_nodes)) o (Some rows)) (segments_again gs 0 h)

-- ---- children
abbrev kid_list : Nodes → List Layout
kid_list no_nodes = []
kid_list (child l ls) = l ∷ kid_list ls

kids_again : (ls : Nodes) → nodes (kid_list ls) ≡ ls
kids_again no_nodes = refl
kids_again (child l ls) = ap (child l) (kids_again ls)

-- the dtypes that are told of children are those of this list
abbrev Tells : (ℕ → DataType) → ℕ → List DataType → Type 0
Tells f i [] = Unit {0}
Tells f i (t ∷ ts) = (f i ≡ t) × Tells f (i + 1) ts

-- each of a list of dtypes, from a place on
tells_at : (f : ℕ → DataType) (ts : List DataType) (i : ℕ) → ((j k : ℕ) (t : DataType) → k ≡ i + j → slice_get ts j ≡ Some t → f k ≡ t) → Tells f i ts
tells_at f [] i h = tt
tells_at f (t ∷ ts) i h = (h 0 i t (omega arith) refl, tells_at f ts (i + 1) (λ j k u e g. h (suc j) k u (omega (arith, e)) g))

unwrapped : (o : Option DataType) (t : DataType) → o ≡ Some t → unwrap_or o truth ≡ t
unwrapped o t e = ap (λ z. unwrap_or z truth) e

plain_fields : (fs : Fields) → Tells (child_type Struct (struct_type fs NonNullable)) 0 (dtypes_of (field_list fs))
plain_fields fs = tells_at (child_type Struct (struct_type fs NonNullable)) (dtypes_of (field_list fs)) 0
    (λ j k t e g. unwrapped (slice_get (dtypes_of (field_list fs)) k) t (let s : k ≡ j = omega (arith, e) in ap (slice_get (dtypes_of (field_list fs))) s ∙ g))

null_fields : (fs : Fields) → Tells (child_type Struct (struct_type fs Nullable)) 0 (bool_type NonNullable ∷ dtypes_of (field_list fs))
null_fields fs = tells_at (child_type Struct (struct_type fs Nullable)) (bool_type NonNullable ∷ dtypes_of (field_list fs)) 0 (field_at fs)
  where
    field_at : (fs : Fields) (j k : ℕ) (t : DataType) → k ≡ 0 + j → slice_get (bool_type NonNullable ∷ dtypes_of (field_list fs)) j ≡ Some t
        → child_type Struct (struct_type fs Nullable) k ≡ t
    field_at fs zero k t e g = let s : k ≡ 0 = omega (arith, e) in ap (child_type Struct (struct_type fs Nullable)) s ∙ cc
    field_at fs (suc j) k t e g =
        let s : k ≡ suc j = omega (arith, e) in
        let a : (suc j == 0) ≡ false = grind (arith, nat_tests) in
        let b : suc j - 1 ≡ j = omega arith in
        ap (child_type Struct (struct_type fs Nullable)) s
        ∙ (ap (λ z. cond z truth (field_or_truth fs (suc j - 1))) a ∙ (ap (field_or_truth fs) b ∙ unwrapped (slice_get (dtypes_of (field_list fs)) j) t g))

mutual
  pub layout_again : (l : Layout) (t : DataType) (k : ℕ) → HasForm l t → LevelsFit t k → IdsFit l → layout_within (suc k) t (json_of_layout l) ≡ Some l
  layout_again (node u rows (Leaf gs s) kids) t k h f ids =
      let a = no_kids u gs s kids h.3 in
      ap (λ z. layout_within (suc k) z (json_of_layout (node u rows (Leaf gs s) kids))) (sym h.0)
      ∙ (leaf_again u rows k gs s ids ∙ ap (λ z. Some (node u rows (Leaf gs s) z)) (sym a))
  layout_again (node (bool_type n) rows Struct kids) t k h f ids = absurd cc
  layout_again (node (int_type p n) rows Struct kids) t k h f ids = absurd cc
  layout_again (node (utf8_type n) rows Struct kids) t k h f ids = absurd cc
  layout_again (node (list_type d n) rows Struct kids) t k h f ids = absurd cc
  layout_again (node (struct_type fs n) rows Struct kids) t zero h f ids = absurd (subst (λ z. LevelsFit z 0) (sym h.0) f)
  layout_again (node (struct_type fs NonNullable) rows Struct kids) t (suc k) h f ids =
      let e : t ≡ struct_type fs NonNullable = sym h.0 in
      let levels : FieldLevels fs k = subst (λ z. LevelsFit z (suc k)) e f in
      let made = nodes_again kids (dtypes_of (field_list fs)) (child_type Struct (struct_type fs NonNullable)) 0 k (plain_fields fs) h.3 (type_levels fs k levels) ids in
      ap (λ z. layout_within (suc (suc k)) z (json_of_layout (node (struct_type fs NonNullable) rows Struct kids))) e
      ∙ (ap (λ o. both (λ ls n. Some (node (struct_type fs NonNullable) n Struct (nodes ls))) o (Some rows)) made
      ∙ ap (λ z. Some (node (struct_type fs NonNullable) rows Struct z)) (kids_again kids))
  layout_again (node (struct_type fs Nullable) rows Struct kids) t (suc k) h f ids =
      let e : t ≡ struct_type fs Nullable = sym h.0 in
      let levels : FieldLevels fs k = subst (λ z. LevelsFit z (suc k)) e f in
      let made = nodes_again kids (bool_type NonNullable ∷ dtypes_of (field_list fs)) (child_type Struct (struct_type fs Nullable)) 0 k (null_fields fs) h.3 (tt, type_levels fs k levels) ids in
      ap (λ z. layout_within (suc (suc k)) z (json_of_layout (node (struct_type fs Nullable) rows Struct kids))) e
      ∙ (ap (λ o. both (λ ls n. Some (node (struct_type fs Nullable) n Struct (nodes ls))) o (Some rows)) made
      ∙ ap (λ z. Some (node (struct_type fs Nullable) rows Struct z)) (kids_again kids))
  layout_again (node (bool_type n) rows (Listed p) kids) t k h f ids = absurd cc
  layout_again (node (int_type q n) rows (Listed p) kids) t k h f ids = absurd cc
  layout_again (node (utf8_type n) rows (Listed p) kids) t k h f ids = absurd cc
  layout_again (node (struct_type fs n) rows (Listed p) kids) t k h f ids = absurd cc
  layout_again (node (list_type d n) rows (Listed p) kids) t zero h f ids = absurd (subst (λ z. LevelsFit z 0) (sym h.0) f)
  layout_again (node (list_type d NonNullable) rows (Listed p) kids) t (suc k) h f ids =
      let e : t ≡ list_type d NonNullable = sym h.0 in
      let level : LevelsFit d k = subst (λ z. LevelsFit z (suc k)) e f in
      let made = nodes_again kids (d ∷ int_type p NonNullable ∷ []) (child_type (Listed p) (list_type d NonNullable)) 0 k (refl, (refl, tt)) h.3 (level, (tt, tt)) ids in
      ap (λ z. layout_within (suc (suc k)) z (json_of_layout (node (list_type d NonNullable) rows (Listed p) kids))) e
      ∙ (ap (λ o. option_and_then (λ q. both (λ ls n. Some (node (list_type d NonNullable) n (Listed q) (nodes ls)))
      (each_from (λ i. layout_within (suc k) (child_type (Listed q) (list_type d NonNullable) i)) 0 (json_of_nodes kids)) (Some rows)) o) (ptype_again p)
      ∙ (ap (λ o. both (λ ls n. Some (node (list_type d NonNullable) n (Listed p) (nodes ls))) o (Some rows)) made
      ∙ ap (λ z. Some (node (list_type d NonNullable) rows (Listed p) z)) (kids_again kids)))
  layout_again (node (list_type d Nullable) rows (Listed p) kids) t (suc k) h f ids =
      let e : t ≡ list_type d Nullable = sym h.0 in
      let level : LevelsFit d k = subst (λ z. LevelsFit z (suc k)) e f in
      let made = nodes_again kids (d ∷ int_type p NonNullable ∷ bool_type NonNullable ∷ []) (child_type (Listed p) (list_type d Nullable)) 0 k (refl, (refl, (refl, tt))) h.3 (level, (tt, (tt, tt))) ids in
      ap (λ z. layout_within (suc (suc k)) z (json_of_layout (node (list_type d Nullable) rows (Listed p) kids))) e
      ∙ (ap (λ o. option_and_then (λ q. both (λ ls n. Some (node (list_type d Nullable) n (Listed q) (nodes ls)))
      (each_from (λ i. layout_within (suc k) (child_type (Listed q) (list_type d Nullable) i)) 0 (json_of_nodes kids)) (Some rows)) o) (ptype_again p)
      ∙ (ap (λ o. both (λ ls n. Some (node (list_type d Nullable) n (Listed p) (nodes ls))) o (Some rows)) made
      ∙ ap (λ z. Some (node (list_type d Nullable) rows (Listed p) z)) (kids_again kids)))

  nodes_again : (ls : Nodes) (ts : List DataType) (f : ℕ → DataType) (i k : ℕ) → Tells f i ts → HaveForms ls ts → AllLevels ts k → AllIdsFit ls
      → each_from (λ j. layout_within (suc k) (f j)) i (json_of_nodes ls) ≡ Some (kid_list ls)
  nodes_again no_nodes ts f i k told h lv ids = refl
  nodes_again (child l ls) [] f i k told h lv ids = absurd h
  nodes_again (child l ls) (t ∷ ts) f i k told h lv ids =
      each_more (λ j. layout_within (suc k) (f j)) i (json_of_layout l) (json_of_nodes ls) l (kid_list ls)
      (ap (λ z. layout_within (suc k) z (json_of_layout l)) told.0 ∙ layout_again l t k h.0 lv.0 ids.0) (nodes_again ls ts f (i + 1) k told.1 h.1 lv.1 ids.1)
