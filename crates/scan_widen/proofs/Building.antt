-- The layout under another dtype, as it is built.
use Rattle.std.proofs.Common.{◌≡◌, ℕ, zero, suc, ◌+◌, ◌<◌, ◌≤◌, List, [], ◌∷◌, ◌++◌, length, length-append, append_assoc, append-nil, map, drop, get_or, refl, sym, subst, ap, ◌∙◌, Bool, true, false, Option, Some, None, Result, Ok, Err, arith, add-one}
use Rattle.std.specs.Prelude.{slice_get, IfOk, OnOk, if◌then◌else◌}
use Rattle.std.specs.declared.alloc.Global.{Global}
use Rattle.std.specs.declared.rc.Rc.{Rc}
use Rattle.scan_values.specs.declared.ptype.PType.{PType}
use Rattle.scan_values.specs.declared.ptype.PType.TheVariants.{U32}
use Rattle.scan_values.specs.declared.ptype.Nullability.{Nullability}
use Rattle.scan_values.specs.declared.ptype.Nullability.TheVariants.{NonNullable, Nullable}
use Rattle.scan_values.specs.declared.dtype.DTypeKind.{DTypeKind}
use Rattle.scan_values.specs.DataType.{DataType, Name, Fields, bool_type, int_type, utf8_type, list_type, struct_type, no_fields, field, fields_of, nullability_of}
use Rattle.scan_values.specs.FieldLists.{names_of, dtypes_of}
use Rattle.scan_values.specs.Kinds.{kind_of, element_of, struct_fields_of, is_scalar_type}
use Rattle.scan_values.specs.Same.{same_type}
use Rattle.scan_layout.specs.declared.node.LayoutKind.{LayoutKind}
use Rattle.scan_layout.specs.declared.node.LayoutKind.TheVariants.{Leaf, Struct, List as List'}
use Rattle.scan_layout.specs.Layout.{Layout, Nodes, node, nodes, no_nodes, child, dtype_of, rows_of, kids_of, kind_of as node_kind}
use Rattle.scan_layout.specs.LayoutView.{layouts_of}
use Rattle.scan_spelling.specs.declared.spelling.Spelling.{Spelling}
use Rattle.scan_spelling.specs.declared.spelling.Spelling.TheVariants.{One}
use Rattle.scan_widen.specs.declared.behind.Behind.{Behind}
use Rattle.scan_widen.specs.declared.behind.Behind.TheVariants.{Kept, Widened, Blank, Valid}
use Rattle.scan_widen.specs.Blanks.{flags, only_rows, one_leaf, blank_flags, flags_leaf, flags_layouts, blank_behind, blanks_behind, blank_under, blanks_under, blank_layouts}
use Rattle.scan_widen.specs.Under.{kid_at, segment_behind, segments_of, spelling_of, numbered, spelling_under, leaf_behind, leaf_under, validity_behind, validity_under, validity_layouts, own_or_valid, behind, under, fields_behind, fields_under, field_behind, field_under, field_layouts}
use Rattle.scan_widen.proofs.Fitting.{fields_at, fields_past, fields_short}
use Rattle.scan_widen.proofs.Counting.{only_some, fields_end}

-- an answer of the same layout, and with the same segments
pub ok_as : {E : Type 0} (r : Result (Rc Layout Global) E) (x y : Layout) → x ≡ y → IfOk r (λ z. z.value ≡ x) → IfOk r (λ z. z.value ≡ y)
ok_as r x y e h = subst (λ w. IfOk r (λ z. z.value ≡ w)) e h

pub on_as : {X E : Type 0} (r : Result X E) (made old x y : List Behind) → x ≡ y → OnOk r (made ≡ old ++ x) → OnOk r (made ≡ old ++ y)
on_as r made old x y e h = subst (λ w. OnOk r (made ≡ old ++ w)) e h

pub on_behind : {X E : Type 0} (r : Result X E) (made old part whole : List Behind) → made ≡ old ++ part → part ≡ whole → OnOk r (made ≡ old ++ whole)
on_behind (Ok x) made old part whole h e = h ∙ ap (λ bs. old ++ bs) e
on_behind (Err f) made old part whole h e = tt

drop_at : {A : Type 0} (xs : List A) (i : ℕ) (x : A) → i < length xs → x ≡ get_or xs i x → drop i xs ≡ x ∷ drop (i + 1) xs
drop_at [] i x h e = absurd (omega arith)
drop_at (y ∷ xs) zero x h e = ap (λ z. z ∷ xs) (sym e)
drop_at (y ∷ xs) (suc i) x h e = let h' : i < length xs = omega arith in rw add-one (rw add-one at (drop_at xs i x h' e))

drop_end : {A : Type 0} (xs : List A) (i : ℕ) → length xs ≤ i → drop i xs ≡ []
drop_end [] zero h = refl
drop_end [] (suc i) h = refl
drop_end (y ∷ xs) zero h = absurd (omega arith)
drop_end (y ∷ xs) (suc i) h = drop_end xs i (omega arith)

-- ---- one more after another
-- what stands behind: one part more, or none
pub made_step : (made made' part rest later whole : List Behind) → made' ≡ made ++ part → rest ≡ part ++ later → made ++ rest ≡ whole → made' ++ later ≡ whole
made_step made made' part rest later whole hm hr h =
    ap (λ xs. xs ++ later) hm ∙ append_assoc made part later ∙ ap (λ xs. made ++ xs) (sym hr) ∙ h

pub made_end : (made rest whole : List Behind) → rest ≡ [] → made ++ rest ≡ whole → made ≡ whole
made_end made rest whole hr h = sym (append-nil made) ∙ ap (λ xs. made ++ xs) (sym hr) ∙ h

longer : (made made' part : List Behind) → made' ≡ made ++ part → length made' ≡ length made + length part
longer made made' part h = ap length h ∙ length-append made part

-- children, numbered on: one more, or none
pub kids_step : (kids kids' : List Layout) (x : Layout) (made made' part : List Behind) (rest later : ℕ → List Layout) (whole : List Layout) → kids' ≡ kids ++ x ∷ [] → made' ≡ made ++ part
    → rest (length made) ≡ x ∷ later (length made + length part) → kids ++ rest (length made) ≡ whole → kids' ++ later (length made') ≡ whole
kids_step kids kids' x made made' part rest later whole hk hm hr h =
    let long = longer made made' part hm in
    ap (λ n. kids' ++ later n) long ∙ ap (λ xs. xs ++ later (length made + length part)) hk ∙ append_assoc kids (x ∷ []) (later (length made + length part)) ∙ ap (λ xs. kids ++ xs) (sym hr) ∙ h

pub kids_end : (kids rest whole : List Layout) → rest ≡ [] → kids ++ rest ≡ whole → kids ≡ whole
kids_end kids rest whole hr h = sym (append-nil kids) ∙ ap (λ xs. kids ++ xs) (sym hr) ∙ h

pub layouts_push : (rs rs' : List (Rc Layout Global)) (r : Rc Layout Global) (x : Layout) → rs' ≡ rs ++ r ∷ [] → r.value ≡ x → layouts_of rs' ≡ layouts_of rs ++ x ∷ []
layouts_push rs rs' r x h e = ap layouts_of h ∙ go rs ∙ ap (λ y. layouts_of rs ++ y ∷ []) e
  where
    go : (ys : List (Rc Layout Global)) → layouts_of (ys ++ r ∷ []) ≡ layouts_of ys ++ r.value ∷ []
    go [] = refl
    go (y ∷ ys) = ap (λ zs. y.value ∷ zs) (go ys)

-- two children, and more behind them
pub two_kids : (rs0 rs1 rs2 : List (Rc Layout Global)) (a b : Rc Layout Global) (x y : Layout) (kids tail : List Layout) → rs0 ≡ [] → rs1 ≡ rs0 ++ a ∷ [] → rs2 ≡ rs1 ++ b ∷ [] → a.value ≡ x → b.value ≡ y
    → kids ≡ layouts_of rs2 ++ tail → kids ≡ x ∷ y ∷ tail
two_kids rs0 rs1 rs2 a b x y kids tail h0 h1 h2 ex ey hk =
    hk ∙ ap (λ ls. ls ++ tail) (layouts_push rs1 rs2 b y h2 ey ∙ ap (λ ls. ls ++ y ∷ []) (layouts_push rs0 rs1 a x h1 ex ∙ ap (λ rs. layouts_of rs ++ x ∷ []) h0))

-- some children, and more behind them
pub more_kids : (rs : List (Rc Layout Global)) (l1 l2 x y : List Layout) → rs ≡ [] → l1 ≡ layouts_of rs ++ x → l2 ≡ l1 ++ y → l2 ≡ x ++ y
more_kids rs l1 l2 x y h0 h1 h2 = h2 ∙ ap (λ ls. ls ++ y) (h1 ∙ ap (λ qs. layouts_of qs ++ x) h0)

-- ---- leaves
module _ (segments : List (ℕ × ℕ)) (i : ℕ) where
  pub numbers_step : (g : ℕ × ℕ) (numbers numbers' whole : List (ℕ × ℕ)) (made made' : List Behind) (b : Behind) → i < length segments → g ≡ get_or segments i g → made' ≡ made ++ b ∷ [] → numbers' ≡ numbers ++ (length made, g.1) ∷ []
      → numbers ++ numbered (length made) (drop i segments) ≡ whole → numbers' ++ numbered (length made') (drop (i + 1) segments) ≡ whole
  numbers_step g numbers numbers' whole made made' b inside e hm hn h =
      let rest : List (ℕ × ℕ) = drop (i + 1) segments in
      let step : numbered (length made) (drop i segments) ≡ (length made, g.1) ∷ numbered (length made + 1) rest = ap (numbered (length made)) (drop_at segments i g inside e) in
      let long : length made' ≡ length made + 1 = longer made made' (b ∷ []) hm in
      ap (λ k. numbers' ++ numbered k rest) long ∙ ap (λ ns. ns ++ numbered (length made + 1) rest) hn
      ∙ append_assoc numbers ((length made, g.1) ∷ []) (numbered (length made + 1) rest) ∙ ap (λ ys. numbers ++ ys) (sym step) ∙ h

  pub numbers_end : (numbers whole : List (ℕ × ℕ)) (k : ℕ) → length segments ≤ i → numbers ++ numbered k (drop i segments) ≡ whole → numbers ≡ whole
  numbers_end numbers whole k past h = sym (append-nil numbers) ∙ ap (λ ss. numbers ++ numbered k ss) (sym (drop_end segments i past)) ∙ h

module _ (from to : DataType) (sp : Spelling) (segments : List (ℕ × ℕ)) (i : ℕ) where
  pub behinds_step : (g : ℕ × ℕ) (made made' whole : List Behind) → i < length segments → g ≡ get_or segments i g → made' ≡ made ++ segment_behind from to sp g ∷ []
      → made ++ map (segment_behind from to sp) (drop i segments) ≡ whole → made' ++ map (segment_behind from to sp) (drop (i + 1) segments) ≡ whole
  behinds_step g made made' whole inside e hm h =
      made_step made made' (segment_behind from to sp g ∷ []) (map (segment_behind from to sp) (drop i segments)) (map (segment_behind from to sp) (drop (i + 1) segments)) whole hm
      (ap (map (segment_behind from to sp)) (drop_at segments i g inside e)) h

  pub behinds_end : (made whole : List Behind) → length segments ≤ i → made ++ map (segment_behind from to sp) (drop i segments) ≡ whole → made ≡ whole
  behinds_end made whole past h = made_end made (map (segment_behind from to sp) (drop i segments)) whole (ap (map (segment_behind from to sp)) (drop_end segments i past)) h

pub leaf_whole : (k : ℕ) (from to : DataType) (l : Layout) (rows : ℕ) (segments numbers : List (ℕ × ℕ)) (sp kept : Spelling) (same : Bool) → from ≡ dtype_of l → rows ≡ rows_of l → segments ≡ segments_of (node_kind l) → sp ≡ spelling_of (node_kind l)
    → same ≡ same_type from to → numbers ≡ numbered k segments → kept ≡ (if same then sp else One) → node to rows (Leaf numbers kept) no_nodes ≡ leaf_under k to l
leaf_whole k from to l rows segments numbers sp kept same hf hr hs hp hb hn hk =
    let spelling : kept ≡ spelling_under (dtype_of l) to (spelling_of (node_kind l)) =
    hk ∙ (λ i. if hb i then hp i else One) ∙ ap (λ f. spelling_under f to (spelling_of (node_kind l))) hf in
    let leaves : numbers ≡ numbered k (segments_of (node_kind l)) = hn ∙ ap (numbered k) hs in
    λ i. node to (hr i) (Leaf (leaves i) (spelling i)) no_nodes

pub leaf_stands : (from to : DataType) (l : Layout) (segments : List (ℕ × ℕ)) (sp : Spelling) → from ≡ dtype_of l → segments ≡ segments_of (node_kind l) → sp ≡ spelling_of (node_kind l)
    → map (segment_behind from to sp) segments ≡ leaf_behind to l
leaf_stands from to l segments sp hf hs hp = λ i. map (segment_behind (hf i) to (hp i)) (hs i)

pub under_scalar : (k : ℕ) (t : DataType) (l : Layout) → is_scalar_type t ≡ true → leaf_under k t l ≡ under k t l
under_scalar k (bool_type n) l e = refl
under_scalar k (int_type p n) l e = refl
under_scalar k (utf8_type n) l e = refl
under_scalar k (list_type d n) l e = absurd cc
under_scalar k (struct_type fs n) l e = absurd cc

pub blank_scalar_under : (k : ℕ) (t : DataType) (rows : ℕ) → is_scalar_type t ≡ true → one_leaf k t rows ≡ blank_under k t rows
blank_scalar_under k (bool_type n) rows e = refl
blank_scalar_under k (int_type p n) rows e = refl
blank_scalar_under k (utf8_type n) rows e = refl
blank_scalar_under k (list_type d n) rows e = absurd cc
blank_scalar_under k (struct_type fs n) rows e = absurd cc

-- ---- children as a list, and as nodes
flags_nodes : (k : ℕ) (n : Nullability) (rows : ℕ) (others : List Layout) → nodes (flags_layouts k n rows ++ others) ≡ flags_leaf k n rows (nodes others)
flags_nodes k NonNullable rows others = refl
flags_nodes k Nullable rows others = refl

flags_alone : (k : ℕ) (n : Nullability) (rows : ℕ) → nodes (flags_layouts k n rows) ≡ flags_leaf k n rows no_nodes
flags_alone k NonNullable rows = refl
flags_alone k Nullable rows = refl

blanks_nodes : (k : ℕ) (fs : Fields) (rows : ℕ) → nodes (blank_layouts k fs rows) ≡ blanks_under k fs rows
blanks_nodes k no_fields rows = refl
blanks_nodes k (field n t fs) rows = ap (child (blank_under k t rows)) (blanks_nodes (k + length (blank_behind t rows)) fs rows)

validity_nodes : (k : ℕ) (n : Nullability) (l v : Layout) (others : List Layout) → nodes (validity_layouts k n l v ++ others) ≡ validity_under k n l v (nodes others)
validity_nodes k NonNullable l v others = refl
validity_nodes k Nullable l v others = refl

validity_alone : (k : ℕ) (n : Nullability) (l v : Layout) → nodes (validity_layouts k n l v) ≡ validity_under k n l v no_nodes
validity_alone k NonNullable l v = refl
validity_alone k Nullable l v = refl

fields_nodes : (k : ℕ) (gs : Fields) (l : Layout) → nodes (field_layouts k gs l) ≡ fields_under k gs l
fields_nodes k no_fields l = refl
fields_nodes k (field n t gs) l = ap (child (field_under k n t l)) (fields_nodes (k + length (field_behind n t l)) gs l)

-- ---- rows that the file does not have
pub blank_list_whole : (k j m : ℕ) (t e : DataType) (rows : ℕ) (kids : List Layout) → element_of t ≡ Some e → j ≡ k + length (blank_behind e 0) → m ≡ j + 1
    → kids ≡ blank_under k e 0 ∷ one_leaf j (int_type U32 NonNullable) (rows + 1) ∷ flags_layouts m (nullability_of t) rows → node t rows (List' U32) (nodes kids) ≡ blank_under k t rows
blank_list_whole k j m (list_type d n) e rows kids h hj hm hk =
    let same : e ≡ d = cc in
    let last : m ≡ k + length (blank_behind e 0) + 1 = hm ∙ ap (λ x. x + 1) hj in
    ap (λ xs. node (list_type d n) rows (List' U32) (nodes xs)) hk
    ∙ (λ i. node (list_type d n) rows (List' U32) (child (blank_under k e 0) (child (one_leaf (hj i) (int_type U32 NonNullable) (rows + 1)) (flags_alone (last i) n rows i))))
    ∙ ap (λ x. node (list_type d n) rows (List' U32) (child (blank_under k x 0) (child (one_leaf (k + length (blank_behind x 0)) (int_type U32 NonNullable) (rows + 1)) (flags_leaf (k + length (blank_behind x 0) + 1) n rows no_nodes)))) same
blank_list_whole k j m (bool_type n) e rows kids h hj hm hk = absurd cc
blank_list_whole k j m (int_type p n) e rows kids h hj hm hk = absurd cc
blank_list_whole k j m (utf8_type n) e rows kids h hj hm hk = absurd cc
blank_list_whole k j m (struct_type fs n) e rows kids h hj hm hk = absurd cc

pub blank_struct_whole : (k j : ℕ) (t : DataType) (fs : Fields) (rows : ℕ) (kids : List Layout) → struct_fields_of t ≡ Some fs → j ≡ k + length (blank_flags (nullability_of t) rows)
    → kids ≡ flags_layouts k (nullability_of t) rows ++ blank_layouts j fs rows → node t rows Struct (nodes kids) ≡ blank_under k t rows
blank_struct_whole k j (struct_type gs n) fs rows kids h hj hk =
    let same : fs ≡ gs = cc in
    ap (λ xs. node (struct_type gs n) rows Struct (nodes xs)) hk
    ∙ ap (node (struct_type gs n) rows Struct) (flags_nodes k n rows (blank_layouts j fs rows) ∙ ap (flags_leaf k n rows) (blanks_nodes j fs rows ∙ (λ i. blanks_under (hj i) (same i) rows)))
blank_struct_whole k j (bool_type n) fs rows kids h hj hk = absurd cc
blank_struct_whole k j (int_type p n) fs rows kids h hj hk = absurd cc
blank_struct_whole k j (utf8_type n) fs rows kids h hj hk = absurd cc
blank_struct_whole k j (list_type d n) fs rows kids h hj hk = absurd cc

pub one_more_row : (rows : ℕ) (b : Behind) → only_rows (rows + 1) b ≡ b ∷ []
one_more_row rows b = only_some (rows + 1) b (λ e. omega (arith, e))

-- ---- lists and structs of the file
pub list_whole : (k j m : ℕ) (t e : DataType) (p : PType) (l : Layout) (rows : ℕ) (kids : List Layout) → element_of t ≡ Some e → node_kind l ≡ List' p → rows ≡ rows_of l → j ≡ k + length (behind e (kid_at (kids_of l) 0))
    → m ≡ j + length (leaf_behind (dtype_of (kid_at (kids_of l) 1)) (kid_at (kids_of l) 1))
    → kids ≡ under k e (kid_at (kids_of l) 0) ∷ leaf_under j (dtype_of (kid_at (kids_of l) 1)) (kid_at (kids_of l) 1) ∷ validity_layouts m (nullability_of t) l (kid_at (kids_of l) 2)
    → node t rows (List' p) (nodes kids) ≡ under k t l
list_whole k j m (list_type d n) e p l rows kids h hp hr hj hm hk =
    let same : e ≡ d = cc in
    let a : Layout = kid_at (kids_of l) 0 in
    let o : Layout = kid_at (kids_of l) 1 in
    let v : Layout = kid_at (kids_of l) 2 in
    let last : m ≡ k + length (behind e a) + length (leaf_behind (dtype_of o) o) = hm ∙ ap (λ x. x + length (leaf_behind (dtype_of o) o)) hj in
    ap (λ xs. node (list_type d n) rows (List' p) (nodes xs)) hk
    ∙ (λ i. node (list_type d n) (hr i) (hp' i) (child (under k e a) (child (leaf_under (hj i) (dtype_of o) o) (validity_alone (last i) n l v i))))
    ∙ ap (λ x. node (list_type d n) (rows_of l) (node_kind l) (child (under k x a) (child (leaf_under (k + length (behind x a)) (dtype_of o) o) (validity_under (k + length (behind x a) + length (leaf_behind (dtype_of o) o)) n l v no_nodes)))) same
  where
    hp' : List' p ≡ node_kind l
    hp' = sym hp
list_whole k j m (bool_type n) e p l rows kids h hp hr hj hm hk = absurd cc
list_whole k j m (int_type q n) e p l rows kids h hp hr hj hm hk = absurd cc
list_whole k j m (utf8_type n) e p l rows kids h hp hr hj hm hk = absurd cc
list_whole k j m (struct_type fs n) e p l rows kids h hp hr hj hm hk = absurd cc

pub struct_whole : (k j : ℕ) (t : DataType) (gs : Fields) (l : Layout) (rows : ℕ) (kids : List Layout) → struct_fields_of t ≡ Some gs → rows ≡ rows_of l → j ≡ k + length (validity_behind (nullability_of t) l (kid_at (kids_of l) 0))
    → kids ≡ validity_layouts k (nullability_of t) l (kid_at (kids_of l) 0) ++ field_layouts j gs l → node t rows Struct (nodes kids) ≡ under k t l
struct_whole k j (struct_type fs n) gs l rows kids h hr hj hk =
    let same : gs ≡ fs = cc in
    let v : Layout = kid_at (kids_of l) 0 in
    ap (λ xs. node (struct_type fs n) rows Struct (nodes xs)) hk
    ∙ (λ i. node (struct_type fs n) (hr i) Struct (validity_nodes k n l v (field_layouts j gs l) i))
    ∙ ap (λ xs. node (struct_type fs n) (rows_of l) Struct (validity_under k n l v xs)) (fields_nodes j gs l ∙ (λ i. fields_under (hj i) (same i) l))
struct_whole k j (bool_type n) gs l rows kids h hr hj hk = absurd cc
struct_whole k j (int_type p n) gs l rows kids h hr hj hk = absurd cc
struct_whole k j (utf8_type n) gs l rows kids h hr hj hk = absurd cc
struct_whole k j (list_type d n) gs l rows kids h hr hj hk = absurd cc

-- three parts one after another
pub three_parts : (old first second third a b c : List Behind) → a ≡ old ++ first → b ≡ a ++ second → c ≡ b ++ third → c ≡ old ++ (first ++ (second ++ third))
three_parts old first second third a b c ha hb hc =
    hc ∙ ap (λ xs. xs ++ third) (hb ∙ ap (λ xs. xs ++ second) ha) ∙ append_assoc (old ++ first) second third ∙ append_assoc old first (second ++ third)

pub two_parts : (old first second a b : List Behind) → a ≡ old ++ first → b ≡ a ++ second → b ≡ old ++ (first ++ second)
two_parts old first second a b ha hb = hb ∙ ap (λ xs. xs ++ second) ha ∙ append_assoc old first second

pub longer_by : (made made' part : List Behind) → made' ≡ made ++ part → length made' ≡ length made + length part
longer_by made made' part h = longer made made' part h

-- ---- fields, one after another
pub blanks_kids : (xs : List (Name × DataType)) (i k rows : ℕ) (t : DataType) → Some t ≡ slice_get (dtypes_of xs) i
    → blank_layouts k (fields_of (drop i xs)) rows ≡ blank_under k t rows ∷ blank_layouts (k + length (blank_behind t rows)) (fields_of (drop (i + 1) xs)) rows
blanks_kids [] zero k rows t h = absurd cc
blanks_kids [] (suc i) k rows t h = absurd cc
blanks_kids (x ∷ xs) zero k rows t h = let same : t ≡ x.1 = cc in rw same refl
blanks_kids (x ∷ xs) (suc i) k rows t h = rw add-one (rw add-one at (blanks_kids xs i k rows t h))

pub fields_kids : (xs : List (Name × DataType)) (ns : List Name) (i k : ℕ) (n : Name) (t : DataType) (l : Layout) → ns ≡ names_of xs → i < length ns → n ≡ get_or ns i n → Some t ≡ slice_get (dtypes_of xs) i
    → field_layouts k (fields_of (drop i xs)) l ≡ field_under k n t l ∷ field_layouts (k + length (field_behind n t l)) (fields_of (drop (i + 1) xs)) l
fields_kids xs ns i k n t l s h e g = ap (λ f. field_layouts k f l) (fields_at xs ns i n t s h e g)
