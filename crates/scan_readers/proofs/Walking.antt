-- The walk over the parts of an expression, whose children are made one after another.
use Rattle.std.proofs.Common.{◌≡◌, ℕ, zero, suc, ◌==◌, ◌+◌, ◌<◌, ◌≤◌, Bool, true, false, ◌||◌, ◌&&◌, List, [], ◌∷◌, ◌++◌, map, length, drop, Option, Some, None, Result, Ok, Err, refl, ap, sym, subst, ◌∙◌, arith, add-one}
use Rattle.std.specs.Prelude.{slice_get, IfOk}
use Rattle.std.proofs.lemmas.List.{append-nil, append_assoc}
use Rattle.scan_values.specs.DataType.{DataType, Fields, no_fields, field}
use Rattle.scan_expr.specs.Bound.{Bound}
use Rattle.scan_layout.specs.Layout.{Layout, Nodes, kids_of}
use Rattle.scan_layout.specs.Slots.{nth_kid}
use Rattle.scan_partition.specs.declared.item.Item.{Item}
use Rattle.scan_plans.specs.Meaning.{AreFields}
use Rattle.scan_plans.specs.PlanTree.{PlanTree, plans}
use Rattle.scan_readers.specs.declared.kind.ReaderKind.{ReaderKind}
use Rattle.scan_readers.specs.KindView.{layout_of, made_of}
use Rattle.scan_readers.specs.Made.{Made, is_made, nth_made, set_made, made_or_none, width}
use Rattle.scan_readers.specs.Reached.{ChildPart, item_part, item_parts, reached, reached_in, parts_reached, MakesWithin, MakesAll}
use Rattle.scan_readers.specs.StructData.{StructData, struct_data}
use Rattle.scan_readers.specs.StructPlans.{AreFieldsOf, IsPartPlan, ArePartPlans, IsOverChild, AreOverChildren, Asks, AsksAll}
use Rattle.scan_readers.proofs.Making.{nothing_made, set_again, child_within, child_all}

-- ---- the part at a place
pub drop_at : {A : Type 0} (xs : List A) (i : ℕ) (x : A) → slice_get xs i ≡ Some x → drop i xs ≡ x ∷ drop (i + 1) xs
drop_at [] i x e = absurd (let z : None ≡ Some x = e in cc)
drop_at (y ∷ ys) zero x e = let same : y ≡ x = cc in ap (λ z. z ∷ ys) same
drop_at (y ∷ ys) (suc i) x e = rw add-one (rw add-one at (drop_at ys i x e))

pub drop_all : {A : Type 0} (xs : List A) (i : ℕ) → length xs ≤ i → drop i xs ≡ []
drop_all [] zero h = refl
drop_all [] (suc i) h = refl
drop_all (x ∷ xs) zero h = absurd (omega arith)
drop_all (x ∷ xs) (suc i) h = drop_all xs i (omega arith)

pub item_at : (s : DataType) (is : List Item) (es : List Bound) (i : ℕ) (x : Item) (e : Bound) → slice_get is i ≡ Some x → slice_get es i ≡ Some e → slice_get (item_parts s is es) i ≡ Some (item_part s x e)
item_at s [] es i x e p q = absurd (let z : None ≡ Some x = p in cc)
item_at s (y ∷ is) [] i x e p q = absurd (let z : None ≡ Some e = q in cc)
item_at s (y ∷ is) (f ∷ es) zero x e p q = let a : y ≡ x = cc in let b : f ≡ e = cc in λ j. Some (item_part s (a j) (b j))
item_at s (y ∷ is) (f ∷ es) (suc i) x e p q = item_at s is es i x e p q

pub items_long : (s : DataType) (is : List Item) (es : List Bound) → length es ≡ length is → length (item_parts s is es) ≡ length is
items_long s [] es h = refl
items_long s (y ∷ is) [] h = absurd (omega (arith, h))
items_long s (y ∷ is) (f ∷ es) h = ap (λ n. suc n) (items_long s is es (omega (arith, h)))

pub field_at : {A B : Type 0} (f : A → B) (xs : List A) (i : ℕ) (x : A) → slice_get xs i ≡ Some x → slice_get (map f xs) i ≡ Some (f x)
field_at f [] i x e = absurd (let z : None ≡ Some x = e in cc)
field_at f (y ∷ ys) zero x e = let same : y ≡ x = cc in ap (λ z. Some (f z)) same
field_at f (y ∷ ys) (suc i) x e = field_at f ys i x e

pub over_at : (l : Layout) (es : List ChildPart) (i : ℕ) (e : ChildPart) → AreOverChildren l es → slice_get es i ≡ Some e → IsOverChild l e
over_at l [] i e h q = absurd (let z : None ≡ Some e = q in cc)
over_at l (x ∷ es) zero e h q = let same : x ≡ e = cc in subst (IsOverChild l) same h.0
over_at l (x ∷ es) (suc i) e h q = over_at l es i e h.1 q

-- ---- what parts reach
pub or_first : (a b : Bool) → a ≡ true → (a || b) ≡ true
or_first true b h = refl
or_first false b h = absurd cc

pub or_second : (a b : Bool) → b ≡ true → (a || b) ≡ true
or_second true b h = refl
or_second false b h = h

or_false : (b : Bool) → (b || false) ≡ b
or_false true = refl
or_false false = refl

pub or_assoc : (a b c : Bool) → ((a || b) || c) ≡ (a || (b || c))
or_assoc true b c = refl
or_assoc false b c = refl

pub either : (a b c : Bool) → (a || b) ≡ true → (a ≡ true → c ≡ true) → (b ≡ true → c ≡ true) → c ≡ true
either true b c h f g = f refl
either false b c h f g = g h

pub reaches_first : (kids : Nodes) (e : ChildPart) (es : List ChildPart) (path : List ℕ) → parts_reached kids (e ∷ es) path ≡ (parts_reached kids (e ∷ []) path || parts_reached kids es path)
reaches_first kids e es [] = refl
reaches_first kids e es (k ∷ path) = by (nth_kid kids k)
  where
    by : (o : Option Layout) → reached_in (λ c x. reached c x path) o (e ∷ es) k ≡ (reached_in (λ c x. reached c x path) o (e ∷ []) k || reached_in (λ c x. reached c x path) o es k)
    by None = refl
    by (Some c) = ap (λ b. b || reached_in (λ d x. reached d x path) (Some c) es k) (sym (or_false ((e.0 == k) && reached c e.1 path)))

one_of : (kids : Nodes) (es : List ChildPart) (i : ℕ) (e : ChildPart) (path : List ℕ) → slice_get es i ≡ Some e → parts_reached kids (e ∷ []) path ≡ true → parts_reached kids es path ≡ true
one_of kids [] i e path q h = absurd (let z : None ≡ Some e = q in cc)
one_of kids (x ∷ es) zero e path q h =
    let same : x ≡ e = cc in
    reaches_first kids x es path ∙ or_first (parts_reached kids (x ∷ []) path) (parts_reached kids es path) (ap (λ (z : ChildPart). parts_reached kids (z ∷ []) path) same ∙ h)
one_of kids (x ∷ es) (suc i) e path q h = reaches_first kids x es path ∙ or_second (parts_reached kids (x ∷ []) path) (parts_reached kids es path) (one_of kids es i e path q h)

pub none_left : (kids : Nodes) (m : Made) (path : List ℕ) → (is_made m path || parts_reached kids [] path) ≡ is_made m path
none_left kids m [] = refl
none_left kids m (k ∷ path) = by (nth_kid kids k)
  where
    by : (o : Option Layout) → (is_made m (k ∷ path) || reached_in (λ c x. reached c x path) o [] k) ≡ is_made m (k ∷ path)
    by None = or_false (is_made m (k ∷ path))
    by (Some c) = or_false (is_made m (k ∷ path))

-- ---- the walk, before the part of an index
pub record Walk (es : List ChildPart) (i : ℕ) (old now : StructData) (ns : List PlanTree) : Type 0 where
  pub asks : Asks es old now
  pub all : (path : List ℕ) → (is_made now.made path || parts_reached (kids_of old.layout) (drop i es) path) ≡ (is_made old.made path || parts_reached (kids_of old.layout) es path)
  pub plans : (rest : List PlanTree) → ArePartPlans (kids_of old.layout) (drop i es) rest → ArePartPlans (kids_of old.layout) es (ns ++ rest)

pub walk_start : (es : List ChildPart) (s : StructData) → Walk es 0 s s []
walk_start es s = record {
  asks = record { layout = refl; made = nothing_made (parts_reached (kids_of s.layout) es) s.made };
  all = λ path. refl;
  plans = λ rest h. h;
}

-- what is made for one of the parts is made for all
pub walk_asks : (es : List ChildPart) (i : ℕ) (e : ChildPart) (old now new : StructData) → slice_get es i ≡ Some e → Asks es old now → Asks (e ∷ []) now new → Asks es old new
walk_asks es i e old now new at a b = record {
  layout = b.layout ∙ a.layout;
  made = record {
    stay = λ path h. (b.made).stay path ((a.made).stay path h);
    only = λ path h. either (is_made now.made path) (parts_reached (kids_of now.layout) (e ∷ []) path) (is_made old.made path || parts_reached (kids_of old.layout) es path) ((b.made).only path h)
        (λ w. (a.made).only path w)
        (λ r. or_second (is_made old.made path) (parts_reached (kids_of old.layout) es path) (one_of (kids_of old.layout) es i e path at (ap (λ (l : Layout). parts_reached (kids_of l) (e ∷ []) path) (sym a.layout) ∙ r)));
  };
}

pub walk_step : (es : List ChildPart) (i : ℕ) (e : ChildPart) (old now new : StructData) (ns : List PlanTree) (n : PlanTree) → slice_get es i ≡ Some e
    → Walk es i old now ns → Asks (e ∷ []) now new → AsksAll (e ∷ []) now new → IsPartPlan (kids_of now.layout) e n → Walk es (i + 1) old new (ns ++ n ∷ [])
walk_step es i e old now new ns n at w asks all plan = record {
  asks = walk_asks es i e old now new at w.asks asks;
  all = λ path.
      ap (λ b. b || parts_reached (kids_of old.layout) (drop (i + 1) es) path) (all path ∙ ap (λ (l : Layout). is_made now.made path || parts_reached (kids_of l) (e ∷ []) path) (w.asks).layout)
      ∙ or_assoc (is_made now.made path) (parts_reached (kids_of old.layout) (e ∷ []) path) (parts_reached (kids_of old.layout) (drop (i + 1) es) path)
      ∙ ap (λ b. is_made now.made path || b) (sym (reaches_first (kids_of old.layout) e (drop (i + 1) es) path) ∙ ap (λ xs. parts_reached (kids_of old.layout) xs path) (sym (drop_at es i e at)))
      ∙ w.all path;
  plans = λ rest h.
      let own : IsPartPlan (kids_of old.layout) e n = subst (λ (l : Layout). IsPartPlan (kids_of l) e n) (w.asks).layout plan in
      let whole : ArePartPlans (kids_of old.layout) (drop i es) (n ∷ rest) = subst (λ xs. ArePartPlans (kids_of old.layout) xs (n ∷ rest)) (sym (drop_at es i e at)) (own, h) in
      subst (λ ps. ArePartPlans (kids_of old.layout) es ps) (sym (append_assoc ns (n ∷ []) rest)) (w.plans (n ∷ rest) whole);
}

pub walk_all : (es : List ChildPart) (i : ℕ) (old now : StructData) (ns : List PlanTree) → length es ≤ i → Walk es i old now ns → AsksAll es old now
walk_all es i old now ns end w path = sym (none_left (kids_of old.layout) now.made path) ∙ ap (λ xs. is_made now.made path || parts_reached (kids_of old.layout) xs path) (sym (drop_all es i end)) ∙ w.all path

pub walk_plans : (es : List ChildPart) (i : ℕ) (old now : StructData) (ns : List PlanTree) → length es ≤ i → Walk es i old now ns → ArePartPlans (kids_of old.layout) es ns
walk_plans es i old now ns end w = subst (ArePartPlans (kids_of old.layout) es) (append-nil ns) (w.plans [] (subst (λ xs. ArePartPlans (kids_of old.layout) xs []) (sym (drop_all es i end)) tt))

-- ---- one child, taken out, asked and put back
pub put_back : (old mid new : StructData) (k : ℕ) (d : ReaderKind) → mid.made ≡ set_made old.made k None → new ≡ struct_data mid.layout (set_made mid.made k (Some (made_of d))) → new.made ≡ set_made old.made k (Some (made_of d))
put_back old mid new k d out is = ap (λ (s : StructData). s.made) is ∙ ap (λ (m : Made). set_made m k (Some (made_of d))) out ∙ set_again old.made k None (Some (made_of d))

pub child_asks : (old mid new : StructData) (k : ℕ) (e : Bound) (c d : ReaderKind) → mid.layout ≡ old.layout → mid.made ≡ set_made old.made k None
    → k < width old.made → nth_kid (kids_of old.layout) k ≡ Some (layout_of c) → made_of c ≡ made_or_none (nth_made old.made k) (layout_of c)
    → MakesWithin (reached (layout_of c) e) (made_of c) (made_of d) → new ≡ struct_data mid.layout (set_made mid.made k (Some (made_of d)))
    → Asks ((k, e) ∷ []) old new
child_asks old mid new k e c d layout out wide kid own within is = record {
  layout = ap (λ (s : StructData). s.layout) is ∙ layout;
  made = subst (MakesWithin (parts_reached (kids_of old.layout) ((k, e) ∷ [])) old.made) (sym (put_back old mid new k d out is)) (child_within (kids_of old.layout) (layout_of c) k e old.made (made_of d) kid wide (subst (λ (m : Made). MakesWithin (reached (layout_of c) e) m (made_of d)) own within));
}

pub child_asks_all : {A E : Type 0} (old mid new : StructData) (k : ℕ) (e : Bound) (c d : ReaderKind) (r : Result A E) → mid.made ≡ set_made old.made k None
    → k < width old.made → nth_kid (kids_of old.layout) k ≡ Some (layout_of c) → made_of c ≡ made_or_none (nth_made old.made k) (layout_of c)
    → IfOk r (λ _. MakesAll (reached (layout_of c) e) (made_of c) (made_of d)) → new ≡ struct_data mid.layout (set_made mid.made k (Some (made_of d)))
    → IfOk r (λ _. MakesAll (parts_reached (kids_of old.layout) ((k, e) ∷ [])) old.made new.made)
child_asks_all old mid new k e c d (Err f) out wide kid own all is = tt
child_asks_all old mid new k e c d (Ok x) out wide kid own all is =
    subst (MakesAll (parts_reached (kids_of old.layout) ((k, e) ∷ [])) old.made) (sym (put_back old mid new k d out is))
    (child_all (kids_of old.layout) (layout_of c) k e old.made (made_of d) kid wide
    (subst (λ (m : Made). MakesAll (reached (layout_of c) e) m (made_of d)) own all))

-- ---- the fields that a root reads have the dtypes of the plans
pub fields_plans : (kids : Nodes) (fs : Fields) (es : List ChildPart) (ns : List PlanTree) → AreFieldsOf fs es → ArePartPlans kids es ns → AreFields fs (plans ns)
fields_plans kids no_fields [] [] f h = tt
fields_plans kids no_fields [] (n ∷ ns) f h = absurd h
fields_plans kids no_fields (e ∷ es) ns f h = absurd f
fields_plans kids (field m d fs) [] ns f h = absurd f
fields_plans kids (field m d fs) (e ∷ es) [] f h = absurd h
fields_plans kids (field m d fs) (e ∷ es) (n ∷ ns) f h = (f.0 ∙ sym ((h.0).plan []).dtype, fields_plans kids fs es ns f.1 h.1)
