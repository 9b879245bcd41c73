-- What of a reader's children is made.
use Rattle.std.proofs.Common.{◌≡◌, ℕ, zero, suc, ◌==◌, ◌+◌, ◌<◌, ◌≤◌, Bool, true, false, ◌||◌, List, [], ◌∷◌, ◌++◌, length, drop, get_or, replicate, Option, Some, None, Result, Ok, Err, refl, ap, sym, subst, ◌∙◌, arith, add-one, drop-cons}
use Rattle.std.specs.Prelude.{slice_get, slice_set, option_map, IfOk, OnOk, unwrap_or, position, bytes_eq}
use Rattle.std.proofs.lemmas.Bool.{eqb-true, eq-eqb}
use Rattle.std.specs.Borrow.{Bor}
use Rattle.std.proofs.lemmas.Option.{slice_get-get_or, slice_get_past}
use Rattle.std.specs.declared.alloc.Global.{Global}
use Rattle.std.specs.declared.rc.Rc.{Rc}
use Rattle.scan_expr.specs.Bound.{Bound}
use Rattle.std.proofs.lemmas.List.{length-map}
use Rattle.std.proofs.lemmas.List.Quantifiers.{position-Some}
use Rattle.scan_values.specs.declared.ptype.Nullability.{Nullability}
use Rattle.scan_values.specs.declared.ptype.Nullability.TheVariants.{NonNullable, Nullable}
use Rattle.scan_values.specs.DataType.{DataType, Fields, Name, fields_of, field_list}
use Rattle.scan_values.specs.FieldLists.{names_of}
use Rattle.scan_values.specs.Kinds.{struct_fields_of}
use Rattle.scan_expr.specs.Infer.{struct_fields, fields_or_none}
use Rattle.scan_layout.proofs.Matches.{names_again}
use Rattle.scan_layout.specs.Check.{child_types}
use Rattle.scan_layout.specs.Form.{HasForm, HaveForms}
use Rattle.scan_layout.specs.Layout.{Layout, Nodes, node, no_nodes, child, nodes, count, kids_of, dtype_of, layout_size, nodes_size}
use Rattle.scan_layout.specs.LayoutView.{layouts_of}
use Rattle.scan_layout.specs.Slots.{nth_kid, one_where}
use Rattle.scan_readers.specs.declared.leaf.LeafReader.{LeafReader}
use Rattle.scan_readers.specs.declared.kind.ReaderKind.{ReaderKind}
use Rattle.scan_readers.specs.declared.kind.ReaderKind.TheVariants.{Leaf as LeafReaders}
use Rattle.scan_readers.specs.LeafPlans.{is_leaf}
use Rattle.scan_readers.specs.KindView.{layout_of, leaf_of, made_of, made_in, all_made, IsOf, AreOf, IsNestedReader}
use Rattle.scan_readers.specs.StructData.{IsReadable}
use Rattle.scan_readers.specs.Made.{Made, no_child, unmade, made, nth_made, is_made, holds_in, set_made, none_of, none_made, made_or_none, width}
use Rattle.scan_readers.specs.Reached.{reached, reached_in, parts_reached, MakesWithin, MakesAll}

-- ---- places
pub none_more : {A : Type 0} (n : ℕ) → replicate {A = Option A} n None ++ None ∷ [] ≡ replicate {A = Option A} (n + 1) None
none_more zero = refl
none_more {A = A} (suc n) = rw add-one (ap (λ xs. None ∷ xs) (rw add-one at (none_more {A = A} n)))

pub all_none : (rs : List (Rc Layout Global)) → all_made (replicate (length rs) None) ≡ none_of (nodes (layouts_of rs))
all_none [] = refl
all_none (r ∷ rs) = ap unmade (all_none rs)

pub none_are_of : (rs : List (Rc Layout Global)) → AreOf (nodes (layouts_of rs)) (replicate (length rs) None)
none_are_of [] = tt
none_are_of (r ∷ rs) = (tt, none_are_of rs)

pub as_many : (ls : Nodes) (os : List (Option ReaderKind)) → AreOf ls os → count ls ≡ length os
as_many no_nodes [] h = refl
as_many no_nodes (o ∷ os) h = absurd h
as_many (child l ls) [] h = absurd h
as_many (child l ls) (o ∷ os) h = let rest = as_many ls os h.1 in omega (arith, rest)

pub set_all : (os : List (Option ReaderKind)) (k : ℕ) (o : Option ReaderKind) → all_made (slice_set os k o) ≡ set_made (all_made os) k (made_in o)
set_all [] k o = refl
set_all (None ∷ os) zero o = refl
set_all (Some c ∷ os) zero o = refl
set_all (None ∷ os) (suc k) o = ap unmade (set_all os k o)
set_all (Some c ∷ os) (suc k) o = ap (made (made_of c)) (set_all os k o)

pub are_set : (ls : Nodes) (os : List (Option ReaderKind)) (k : ℕ) (l : Layout) (o : Option ReaderKind) → AreOf ls os → nth_kid ls k ≡ Some l → IsOf l o → AreOf ls (slice_set os k o)
are_set no_nodes os k l o h e is = absurd (let z : None ≡ Some l = e in cc)
are_set (child m ls) [] k l o h e is = absurd h
are_set (child m ls) (x ∷ os) zero l o h e is = let same : l ≡ m = cc in (subst (λ (z : Layout). IsOf z o) same is, h.1)
are_set (child m ls) (x ∷ os) (suc k) l o h e is = (h.0, are_set ls os k l o h.1 e is)

pub none_set : (ls : Nodes) (os : List (Option ReaderKind)) (k : ℕ) → AreOf ls os → AreOf ls (slice_set os k None)
none_set no_nodes [] k h = tt
none_set no_nodes (x ∷ os) k h = absurd h
none_set (child m ls) [] k h = absurd h
none_set (child m ls) (x ∷ os) zero h = (tt, h.1)
none_set (child m ls) (x ∷ os) (suc k) h = (h.0, none_set ls os k h.1)

pub nth_all : (os : List (Option ReaderKind)) (k : ℕ) (o : Option ReaderKind) → slice_get os k ≡ Some o → nth_made (all_made os) k ≡ made_in o
nth_all [] k o e = absurd (let z : None ≡ Some o = e in cc)
nth_all (None ∷ os) zero o e = let same : None ≡ o = cc in ap made_in same
nth_all (Some c ∷ os) zero o e = let same : Some c ≡ o = cc in ap made_in same
nth_all (None ∷ os) (suc k) o e = nth_all os k o e
nth_all (Some c ∷ os) (suc k) o e = nth_all os k o e

pub nth_past : (os : List (Option ReaderKind)) (k : ℕ) → slice_get os k ≡ None → nth_made (all_made os) k ≡ None
nth_past [] k e = refl
nth_past (None ∷ os) zero e = refl
nth_past (Some c ∷ os) zero e = absurd (let z : Some (Some c) ≡ None = e in cc)
nth_past (None ∷ os) (suc k) e = nth_past os k e
nth_past (Some c ∷ os) (suc k) e = nth_past os k e

pub set_again : (m : Made) (k : ℕ) (a b : Option Made) → set_made (set_made m k a) k b ≡ set_made m k b
set_again no_child k a b = refl
set_again (unmade m) zero None b = refl
set_again (unmade m) zero (Some c) b = refl
set_again (made x m) zero None b = refl
set_again (made x m) zero (Some c) b = refl
set_again (unmade m) (suc k) a b = ap unmade (set_again m k a b)
set_again (made x m) (suc k) a b = ap (made x) (set_again m k a b)

-- ---- one child more
pub width_all : (os : List (Option ReaderKind)) → width (all_made os) ≡ length os
width_all [] = refl
width_all (None ∷ os) = ap (λ n. suc n) (width_all os)
width_all (Some c ∷ os) = ap (λ n. suc n) (width_all os)

set_here : (m : Made) (k : ℕ) (c : Made) → k < width m → nth_made (set_made m k (Some c)) k ≡ Some c
set_here no_child k c h = absurd (omega arith)
set_here (unmade m) zero c h = refl
set_here (made x m) zero c h = refl
set_here (unmade m) (suc k) c h = set_here m k c (omega arith)
set_here (made x m) (suc k) c h = set_here m k c (omega arith)

set_there : (m : Made) (k j : ℕ) (o : Option Made) → (j ≡ k → ⊥) → nth_made (set_made m k o) j ≡ nth_made m j
set_there no_child k j o h = refl
set_there (unmade m) zero zero o h = absurd (h refl)
set_there (made x m) zero zero o h = absurd (h refl)
set_there (unmade m) zero (suc j) None h = refl
set_there (unmade m) zero (suc j) (Some c) h = refl
set_there (made x m) zero (suc j) None h = refl
set_there (made x m) zero (suc j) (Some c) h = refl
set_there (unmade m) (suc k) zero o h = refl
set_there (made x m) (suc k) zero o h = refl
set_there (unmade m) (suc k) (suc j) o h = set_there m k j o (λ e. h (ap (λ n. suc n) e))
set_there (made x m) (suc k) (suc j) o h = set_there m k j o (λ e. h (ap (λ n. suc n) e))

or_false : (b : Bool) → (b || false) ≡ b
or_false true = refl
or_false false = refl

none_nth : (ls : Nodes) (k : ℕ) → nth_made (none_of ls) k ≡ None
none_nth no_nodes k = refl
none_nth (child l ls) zero = refl
none_nth (child l ls) (suc k) = none_nth ls k

none_below : (l : Layout) (k : ℕ) (path : List ℕ) → is_made (none_made l) (k ∷ path) ≡ false
none_below l k path = ap (λ (o : Option Made). holds_in (λ c. is_made c path) o) (none_nth (kids_of l) k)

-- what a child has made is what is made below it, or it is not made itself
below_own : (o : Option Made) (l : Layout) (e : Bound) (path : List ℕ) → (holds_in (λ c. is_made c path) o || reached l e path) ≡ (is_made (made_or_none o l) path || reached l e path)
below_own (Some m) l e path = refl
below_own None l e [] = refl
below_own None l e (k ∷ path) = ap (λ b. b || reached l e (k ∷ path)) (sym (none_below l k path))

stays_own : (o : Option Made) (l : Layout) (path : List ℕ) → holds_in (λ c. is_made c path) o ≡ true → is_made (made_or_none o l) path ≡ true
stays_own (Some m) l path h = h
stays_own None l path h = absurd (let z : false ≡ true = h in cc)

module _ (kids : Nodes) (l : Layout) (k : ℕ) (e : Bound) (old c : Made) (kid : nth_kid kids k ≡ Some l) (within : k < width old) where
  one_here : (path : List ℕ) → parts_reached kids ((k, e) ∷ []) (k ∷ path) ≡ reached l e path
  one_here path = rw (kid, eq-eqb k k refl) (or_false (reached l e path))

  one_there : (j : ℕ) (path : List ℕ) → (j ≡ k → ⊥) → parts_reached kids ((k, e) ∷ []) (j ∷ path) ≡ false
  one_there j path h = by (nth_kid kids j) (k == j) refl
    where
      by : (o : Option Layout) (b : Bool) → (k == j) ≡ b → reached_in (λ c x. reached c x path) o ((k, e) ∷ []) j ≡ false
      by None b s = refl
      by (Some m) true s = absurd (h (sym (eqb-true k j s)))
      by (Some m) false s = rw s refl

  here_now : (path : List ℕ) → is_made (set_made old k (Some c)) (k ∷ path) ≡ is_made c path
  here_now path = ap (λ (o : Option Made). holds_in (λ c. is_made c path) o) (set_here old k c within)

  there_now : (j : ℕ) (path : List ℕ) → (j ≡ k → ⊥) → is_made (set_made old k (Some c)) (j ∷ path) ≡ is_made old (j ∷ path)
  there_now j path h = ap (λ (o : Option Made). holds_in (λ c. is_made c path) o) (set_there old k j (Some c) h)

  -- by whether a path leads through the child
  at_index : (P : List ℕ → Type 0) → P [] → ((path : List ℕ) → P (k ∷ path)) → ((j : ℕ) (path : List ℕ) → (j ≡ k → ⊥) → P (j ∷ path)) → (path : List ℕ) → P path
  at_index P none here there [] = none
  at_index P none here there (j ∷ path) = by (j == k) refl
    where
      by : (b : Bool) → (j == k) ≡ b → P (j ∷ path)
      by true s = subst (λ i. P (i ∷ path)) (sym (eqb-true j k s)) (here path)
      by false s = there j path (λ e. absurd (let z = eq-eqb j k e in cc))

  pub child_within : MakesWithin (reached l e) (made_or_none (nth_made old k) l) c → MakesWithin (parts_reached kids ((k, e) ∷ [])) old (set_made old k (Some c))
  child_within w = record {
    stay = at_index (λ path. is_made old path ≡ true → is_made (set_made old k (Some c)) path ≡ true) (λ h. refl)
        (λ path h. here_now path ∙ w.stay path (stays_own (nth_made old k) l path h))
        (λ j path n h. there_now j path n ∙ h);
    only = at_index (λ path. is_made (set_made old k (Some c)) path ≡ true → (is_made old path || parts_reached kids ((k, e) ∷ []) path) ≡ true) (λ h. refl)
        (λ path h. ap (λ b. holds_in (λ c. is_made c path) (nth_made old k) || b) (one_here path) ∙ below_own (nth_made old k) l e path ∙ w.only path (sym (here_now path) ∙ h))
        (λ j path n h. ap (λ b. is_made old (j ∷ path) || b) (one_there j path n) ∙ or_false (is_made old (j ∷ path)) ∙ sym (there_now j path n) ∙ h);
  }

  pub child_all : MakesAll (reached l e) (made_or_none (nth_made old k) l) c → MakesAll (parts_reached kids ((k, e) ∷ [])) old (set_made old k (Some c))
  child_all all = at_index (λ path. is_made (set_made old k (Some c)) path ≡ (is_made old path || parts_reached kids ((k, e) ∷ []) path)) refl
      (λ path. here_now path ∙ all path ∙ sym (below_own (nth_made old k) l e path) ∙ ap (λ b. holds_in (λ c. is_made c path) (nth_made old k) || b) (sym (one_here path)))
      (λ j path n. there_now j path n ∙ sym (or_false (is_made old (j ∷ path))) ∙ ap (λ b. is_made old (j ∷ path) || b) (sym (one_there j path n)))

pub nothing_made : (test : List ℕ → Bool) (m : Made) → MakesWithin test m m
nothing_made test m = record { stay = λ path h. h; only = λ path h. rw h refl }

-- ---- a child that is lent
pub child_seen : (r : Option (Bor ReaderKind)) (o : Option ReaderKind) → option_map (λ (b : Bor ReaderKind). b.now) r ≡ o → option_map (λ (b : Bor ReaderKind). made_of b.now) r ≡ made_in o
child_seen None o e = ap made_in e
child_seen (Some b) o e = ap made_in e

pub kid_within : (ls : Nodes) (os : List (Option ReaderKind)) (k : ℕ) (l : Layout) → AreOf ls os → nth_kid ls k ≡ Some l → k < length os
kid_within no_nodes os k l h e = absurd (let z : None ≡ Some l = e in cc)
kid_within (child m ls) [] k l h e = absurd h
kid_within (child m ls) (o ∷ os) zero l h e = omega arith
kid_within (child m ls) (o ∷ os) (suc k) l h e = let rest = kid_within ls os k l h.1 e in omega (arith, rest)

-- ---- a child that is taken out, and put back
child_at : (os : List (Option ReaderKind)) (k : ℕ) (o : Option ReaderKind) → k < length os → o ≡ get_or os k o → slice_get os k ≡ Some o
child_at os k o h e = slice_get-get_or os k o h ∙ ap Some (sym e)

is_of_at : (ls : Nodes) (os : List (Option ReaderKind)) (k : ℕ) (l : Layout) (o : Option ReaderKind) → AreOf ls os → nth_kid ls k ≡ Some l → slice_get os k ≡ Some o → IsOf l o
is_of_at no_nodes os k l o h e g = absurd (let z : None ≡ Some l = e in cc)
is_of_at (child m ls) [] k l o h e g = absurd h
is_of_at (child m ls) (x ∷ os) zero l o h e g = let same : m ≡ l = cc in let is : x ≡ o = cc in subst (λ (z : Layout). IsOf z o) same (subst (IsOf m) is h.0)
is_of_at (child m ls) (x ∷ os) (suc k) l o h e g = is_of_at ls os k l o h.1 e g

pub kid_of : (rs : List (Rc Layout Global)) (k : ℕ) (r : Rc Layout Global) → k < length rs → r ≡ get_or rs k r → nth_kid (nodes (layouts_of rs)) k ≡ Some r.value
kid_of [] k r h e = absurd (omega arith)
kid_of (x ∷ rs) zero r h e = ap (λ (z : Rc Layout Global). Some z.value) (sym e)
kid_of (x ∷ rs) (suc k) r h e = kid_of rs k r (omega (arith, h)) e

own_form : (l : Layout) (t : DataType) → HasForm l t → HasForm l (dtype_of l)
own_form (node d rows kind kids) t h = (refl, h.1, h.2, h.3)

kid_form : (ls : Nodes) (ts : List DataType) (k : ℕ) (l : Layout) → HaveForms ls ts → nth_kid ls k ≡ Some l → HasForm l (dtype_of l)
kid_form no_nodes ts k l h e = absurd (let z : None ≡ Some l = e in cc)
kid_form (child m ls) [] k l h e = absurd h
kid_form (child m ls) (t ∷ ts) zero l h e = let same : m ≡ l = cc in subst (λ (z : Layout). HasForm z (dtype_of z)) same (own_form m t h.0)
kid_form (child m ls) (t ∷ ts) (suc k) l h e = kid_form ls ts k l h.1 e

pub readable_kid : (s l : Layout) (k : ℕ) → IsReadable s → nth_kid (kids_of s) k ≡ Some l → IsReadable l
readable_kid (node t rows kind kids) l k r e = record { form = kid_form kids (child_types t kind) k l (r.form).3 e }

module _ (l : Layout) (os : List (Option ReaderKind)) (k : ℕ) (o : Option ReaderKind) (own : IsNestedReader l os) (here : o ≡ get_or os k o) where
  pub taken_is_of : (c : Layout) → nth_kid (kids_of l) k ≡ Some c → IsOf c o
  taken_is_of c kid = is_of_at (kids_of l) os k c o own.kids kid (child_at os k o (kid_within (kids_of l) os k c own.kids kid) here)

  pub taken_reader : IsNestedReader l (slice_set os k None)
  taken_reader = record { readable = own.readable; nested = own.nested; kids = none_set (kids_of l) os k own.kids }

  pub taken_own : {E : Type 0} (r : Result ReaderKind E) (c : Layout) → nth_kid (kids_of l) k ≡ Some c → IfOk r (λ x. layout_of x ≡ c) → IfOk r (λ x. made_of x ≡ made_or_none (made_in o) c) → IfOk r (λ x. made_of x ≡ made_or_none (nth_made (all_made os) k) (layout_of x))
  taken_own (Ok x) c kid is so =
      let at : nth_made (all_made os) k ≡ made_in o = nth_all os k o (child_at os k o (kid_within (kids_of l) os k c own.kids kid) here) in
      so ∙ (λ i. made_or_none (sym at i) (sym is i))
  taken_own (Err f) c kid is so = tt

-- a child that is put back
pub put_reader : (l : Layout) (os : List (Option ReaderKind)) (k : ℕ) (c : ReaderKind) → IsNestedReader l os → nth_kid (kids_of l) k ≡ Some (layout_of c) → IsNestedReader l (slice_set os k (Some c))
put_reader l os k c own kid = record { readable = own.readable; nested = own.nested; kids = are_set (kids_of l) os k (layout_of c) (Some c) own.kids kid refl }

pub lent_at : (xs os : List (Option ReaderKind)) (k : ℕ) (o : Option ReaderKind) → xs ≡ os → k < length xs → o ≡ get_or xs k o → nth_made (all_made os) k ≡ made_in o
lent_at xs os k o same h e = subst (λ (ys : List (Option ReaderKind)). nth_made (all_made ys) k ≡ made_in o) same (nth_all xs k o (child_at xs k o h e))

pub lent_past : (xs os : List (Option ReaderKind)) (k : ℕ) → xs ≡ os → length xs ≤ k → nth_made (all_made os) k ≡ None
lent_past xs os k same h = subst (λ (ys : List (Option ReaderKind)). nth_made (all_made ys) k ≡ None) same (nth_past xs k (slice_get_past xs k h))

-- ---- a reader that is new
kids_own : (l : Layout) (rs : List (Rc Layout Global)) (os : List (Option ReaderKind)) → kids_of l ≡ nodes (layouts_of rs) → os ≡ replicate (length rs) None → AreOf (kids_of l) os
kids_own l rs os kids same = subst (λ (ls : Nodes). AreOf ls os) (sym kids) (subst (AreOf (nodes (layouts_of rs))) (sym same) (none_are_of rs))

pub new_reader : (l m : Layout) (rs : List (Rc Layout Global)) (os : List (Option ReaderKind)) → m ≡ l → kids_of l ≡ nodes (layouts_of rs) → os ≡ replicate (length rs) None → IsReadable l → is_leaf l ≡ false → IsNestedReader m os
new_reader l m rs os is kids same readable nested = subst (λ (x : Layout). IsNestedReader x os) (sym is) (record { readable = readable; nested = nested; kids = kids_own l rs os kids same })

pub new_made : (l : Layout) (rs : List (Rc Layout Global)) (os : List (Option ReaderKind)) → kids_of l ≡ nodes (layouts_of rs) → os ≡ replicate (length rs) None → all_made os ≡ none_made l
new_made l rs os kids same = ap all_made same ∙ all_none rs ∙ ap none_of (sym kids)

pub on_ok : {A E : Type 0} (P : Type 0) (r : Result A E) → P → OnOk r P
on_ok P (Ok x) p = p
on_ok P (Err e) p = tt

-- ---- the walk along a path
pub made_below : (m c : Made) (path : List ℕ) (i k : ℕ) → i < length path → k ≡ get_or path i k → Some c ≡ nth_made m k → is_made m (drop i path) ≡ is_made c (drop (i + 1) path)
made_below m c path i k h e o = rw (drop-cons path i k h, ← e, ← o, add-one) refl

pub made_not : (m : Made) (path : List ℕ) (i k : ℕ) → i < length path → k ≡ get_or path i k → None ≡ nth_made m k → false ≡ is_made m (drop i path)
made_not m path i k h e o = rw (drop-cons path i k h, ← e, ← o) refl

pub made_end : (m : Made) (path : List ℕ) (i : ℕ) → length path ≤ i → true ≡ is_made m (drop i path)
made_end m [] zero h = refl
made_end m [] (suc i) h = refl
made_end m (x ∷ path) zero h = absurd (omega arith)
made_end m (x ∷ path) (suc i) h = made_end m path i (omega (arith, h))

-- ---- the place of a name
pub place_seen : (a : ℕ) (t u : DataType) (xs : List (Name × DataType)) (f : Name) (o : Option ℕ) → Some (fields_of xs) ≡ struct_fields_of u → u ≡ t → o ≡ position (bytes_eq f) (names_of xs)
    → unwrap_or (option_map (λ k. a + k) o) 0 ≡ unwrap_or (option_map (λ k. a + k) (position (bytes_eq f) (names_of (field_list (struct_fields t))))) 0
place_seen a t u xs f o fields same at =
    let names : names_of xs ≡ names_of (field_list (struct_fields t)) = sym (names_again xs) ∙ ap (λ (z : Option Fields). names_of (field_list (fields_or_none z))) fields ∙ ap (λ (d : DataType). names_of (field_list (struct_fields d))) same in
    ap (λ (z : Option ℕ). unwrap_or (option_map (λ k. a + k) z) 0) (at ∙ ap (position (bytes_eq f)) names)

pub place_small : (xs : List (Name × DataType)) (f : Name) (k : ℕ) → Some k ≡ position (bytes_eq f) (names_of xs) → k < length xs
place_small xs f k at =
    let below = (position-Some (bytes_eq f) (names_of xs) k [] (sym at)).0 in
    let even = length-map xs (λ (x : Name × DataType). x.0) in
    omega (arith, below, even)

pub few : (n : Nullability) → one_where n ≤ 1
few NonNullable = omega arith
few Nullable = omega arith

pub kid_count : (ls : Nodes) (k : ℕ) (l : Layout) → nth_kid ls k ≡ Some l → k < count ls
kid_count no_nodes k l e = absurd (let z : None ≡ Some l = e in cc)
kid_count (child m ls) zero l e = omega arith
kid_count (child m ls) (suc k) l e = let rest = kid_count ls k l e in omega (arith, rest)

kid_below : (ls : Nodes) (k : ℕ) (l : Layout) → nth_kid ls k ≡ Some l → layout_size l < nodes_size ls
kid_below no_nodes k l e = absurd (let z : None ≡ Some l = e in cc)
kid_below (child m ls) zero l e = let same : layout_size m ≡ layout_size l = (let is : m ≡ l = cc in ap layout_size is) in omega (arith, same)
kid_below (child m ls) (suc k) l e = let rest = kid_below ls k l e in omega (arith, rest)

pub kid_smaller : (s : Layout) (k : ℕ) (l : Layout) → nth_kid (kids_of s) k ≡ Some l → layout_size l < layout_size s
kid_smaller (node t rows kind kids) k l e = let rest = kid_below kids k l e in omega (arith, rest)

pub taken_readable : {E : Type 0} (r : Result ReaderKind E) (l : Layout) → IsReadable l → IfOk r (λ x. layout_of x ≡ l) → IfOk r (λ x. IsReadable (layout_of x))
taken_readable (Ok x) l h is = subst IsReadable (sym is) h
taken_readable (Err f) l h is = tt

pub leaf_makes : {A E : Type 0} (k : ReaderKind) (leaf : LeafReader) (e : Bound) (r : Result A E) → k ≡ LeafReaders leaf → IfOk r (λ _. MakesAll (reached (layout_of k) e) (made_of k) no_child)
leaf_makes k leaf e (Err f) is = tt
leaf_makes k leaf e (Ok x) is = subst (λ (z : ReaderKind). MakesAll (reached (layout_of z) e) (made_of z) no_child) (sym is) own
  where
    own : MakesAll (reached (leaf_of leaf) e) no_child no_child
    own [] = refl
    own (j ∷ path) = refl
