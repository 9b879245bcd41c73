-- What is told of files, and what a look-up of them means.
use Rattle.std.proofs.Common.{◌≡◌, ◌<◌, ◌+◌, ◌&&◌, ℕ, Bool, true, false, List, [], ◌∷◌, Option, Some, None, IfSome, filter, get_or, length, inl, inr, refl, sym, ap, ◌∙◌, subst, arith}
use Rattle.std.specs.Prelude.{◌==◌, All, Contains, IsSome, option_map, unwrap_or}
use Rattle.std.specs.List.{list_any, slice_get}
use Rattle.std.proofs.lemmas.Bool.Decides.{nat_tests}
use Rattle.std.proofs.lemmas.List.Elements.{All-head, All-tail}
use Rattle.std.proofs.lemmas.Option.{slice_get-get_or, slice_get-map}
use Rattle.scan_values.specs.DataType.{DataType}
use Rattle.scan_values.specs.Marked.{Marked}
use Rattle.scan_values.specs.Val.{Val, marked}
use Rattle.scan_expr.specs.Bound.{Bound}
use Rattle.scan_expr.specs.Needs.{needed}
use Rattle.scan_expr.specs.Overflow.{overflows}
use Rattle.scan_segments.specs.Source.{SourceState, Store}
use Rattle.scan_layout.specs.Check.{first_fault}
use Rattle.scan_layout.specs.Layout.{Layout, node, dtype_of}
use Rattle.scan_layout.specs.RowValue.{row_value}
use Rattle.scan_layout.specs.Touched.{touched}
use Rattle.scan_layout.proofs.Forms.{well_formed}
use Rattle.scan_spelling.specs.Places.{Place as Segment}
use Rattle.scan_opener.specs.Opener.{OpenerState, Given, skip, layout_of}
use Rattle.scan_readers.specs.Flaws.{has_flaw}
use Rattle.scan_drive.specs.declared.files.ScanFile.{ScanFile}
use Rattle.scan_multi.specs.Answer.{is_good}
use Rattle.scan_multi.specs.Lawful.{told, told_file, Tells}
use Rattle.scan_multi.specs.Named.{named}
use Rattle.scan_multi.proofs.Members.{In, In-filter_back, In-to}
use Rattle.scan_multi.proofs.NamedPlaces.{held_by}
use Rattle.scan_seek.specs.KeptData.{KeptData, unopened, skipped, flawed, ready}
use Rattle.scan_seek.specs.Keeps.{HasRow, IsKept}
use Rattle.scan_seek.specs.Reads.{touches, spoils, values_of, any_overflows, any_spoils, any_touches}
use Rattle.scan_lookup.specs.Asked.{MayBeAsked}
use Rattle.scan_lookup.specs.Causes.{IsFlawedAt, OverflowsAt}
use Rattle.scan_lookup.specs.Replies.{row_request, value_in, value_of}
use Rattle.scan_lookup.proofs.Named.{is_named}

-- ---- what an opener and a source tell
given_is : (o : Option Given) (g : Given) → IsSome o → IfSome o (λ x. x ≡ g) → unwrap_or o skip ≡ g
given_is None g s h = cc
given_is (Some x) g s h = h

store_is : (o : Option Store) → IsSome o → o ≡ Some (unwrap_or o (λ id. None))
store_is None s = cc
store_is (Some x) s = refl

some_same : {X : Type 0} (x y : X) → Some x ≡ Some y → x ≡ y
some_same x y e = cc

layout_same : (l m : Layout) → layout_of l ≡ layout_of m → l ≡ m
layout_same l m e = cc

pub of_dtype : (l : Layout) (d : DataType) → first_fault l d ≡ None → dtype_of l ≡ d
of_dtype (node u rows kind kids) d h = (well_formed (node u rows kind kids) d h).1.0

good_is : (e : Bound) (l : Layout) → first_fault l e.scope ≡ None → is_good e.scope (row_request e.expr) l ≡ true
good_is e l none = rw none refl

-- of rows one of which passes a test
pub record OneRow (f : ℕ → Bool) (rows : List ℕ) : Type 0 where
  pub row : ℕ
  pub there : In row rows
  pub holds : f row ≡ true

one_row : (f : ℕ → Bool) (rows : List ℕ) → list_any f rows ≡ true → OneRow f rows
one_row f rows h = let r = held_by f rows h in record { row = r.one; there = r.there; holds = r.holds }

all_in : (P : ℕ → Type 0) (rows : List ℕ) (row : ℕ) → All P rows → In row rows → P row
all_in P [] row h i = absurd i
all_in P (x ∷ rows) row h (inl e) = subst P (sym e) (All-head P x rows h)
all_in P (x ∷ rows) row h (inr i) = all_in P rows row (All-tail P x rows h) i

and_both : (a b : Bool) → (a && b) ≡ true → (a ≡ true) × (b ≡ true)
and_both true b h = (refl, h)
and_both false b h = absurd cc

module _ {O S : Type 0} (opener : O → OpenerState) (source : S → SourceState) (e : Bound) (f : ScanFile O S) (tells : Tells opener source f) where
  abbrev pub store : Store
  store = (told_file opener source f).store

  pub holds_it : (source f.source).holds ≡ Some store
  holds_it = store_is (source f.source).holds tells.holds

  module _ (k : KeptData) (is_kept : IsKept e (opener f.opener) k) (rows : List ℕ) (have : All (HasRow k) rows) (id : ℕ) where
    -- a segment that one of the rows touches may be asked for
    may_ask : (q : KeptData) → k ≡ q → IsKept e (opener f.opener) q → All (HasRow q) rows → any_touches q rows store id ≡ true → MayBeAsked e (told_file opener source f) rows id
    may_ask unopened is kept has h = absurd cc
    may_ask skipped is kept has h = absurd cc
    may_ask (flawed l) is kept has h = absurd cc
    may_ask (ready l x) is kept has h = go x kept.1.1 (one_row (λ row. touches l x store row id) rows h)
      where
        given : (told_file opener source f).given ≡ layout_of l
        given = given_is (opener f.opener).gives (layout_of l) tells.gives kept.0

        go : (y : Bound) → y ≡ e → OneRow (λ row. touches l y store row id) rows → MayBeAsked e (told_file opener source f) rows id
        go y same one =
            let found = held_by (λ (p : Segment). p.id == id) (filter (λ (p : Segment). needed e.scope e.expr p.path) (touched l store one.row (one.row + 1)))
            (subst (λ (z : Bound). list_any (λ (p : Segment). p.id == id) (filter (λ (p : Segment). needed z.scope z.expr p.path) (touched l store one.row (one.row + 1))) ≡ true) same one.holds) in
            let back = In-filter_back (λ (p : Segment). needed e.scope e.expr p.path) found.one (touched l store one.row (one.row + 1)) found.there in
            let is_id : (found.one).id ≡ id = grind (arith, nat_tests, found.holds) in
            record {
              touched = record {
                layout = l;
                given = given;
                row = one.row;
                asked = In-to one.row rows one.there;
                segment = found.one;
                there = In-to found.one (touched l store one.row (one.row + 1)) back.0;
                needs = back.1;
                is = is_id;
              };
              among = subst (λ (g : Given). Contains (named e.scope (row_request e.expr) g store) id) (sym given)
                  (is_named e l store (well_formed l e.scope kept.1.2).1 (good_is e l kept.1.2) one.row (all_in (HasRow (ready l x)) rows one.row has one.there) id found.one back.0 back.1 is_id);
            }

    pub asks_touched : any_touches k rows store id ≡ true → MayBeAsked e (told_file opener source f) rows id
    asks_touched h = may_ask k refl is_kept have h

    -- one that is no good for one of them
    may_spoil : (q : KeptData) → IsKept e (opener f.opener) q → All (HasRow q) rows → any_spoils q rows store id ≡ true → IsFlawedAt e (told_file opener source f) rows id
    may_spoil unopened kept has h = absurd cc
    may_spoil skipped kept has h = absurd cc
    may_spoil (flawed l) kept has h = absurd cc
    may_spoil (ready l x) kept has h = go x kept.1.1 (one_row (λ row. spoils l x store row id) rows h)
      where
        given : (told_file opener source f).given ≡ layout_of l
        given = given_is (opener f.opener).gives (layout_of l) tells.gives kept.0

        go : (y : Bound) → y ≡ e → OneRow (λ row. spoils l y store row id) rows → IsFlawedAt e (told_file opener source f) rows id
        go y same one =
            let found = held_by (λ (p : Segment). (p.id == id) && has_flaw l store p) (filter (λ (p : Segment). needed e.scope e.expr p.path) (touched l store one.row (one.row + 1)))
            (subst (λ (z : Bound). list_any (λ (p : Segment). (p.id == id) && has_flaw l store p) (filter (λ (p : Segment). needed z.scope z.expr p.path) (touched l store one.row (one.row + 1))) ≡ true) same one.holds) in
            let back = In-filter_back (λ (p : Segment). needed e.scope e.expr p.path) found.one (touched l store one.row (one.row + 1)) found.there in
            let both = and_both ((found.one).id == id) (has_flaw l store found.one) found.holds in
            let is_id : (found.one).id ≡ id = grind (arith, nat_tests, both.0) in
            record {
              layout = l;
              given = given;
              row = one.row;
              asked = In-to one.row rows one.there;
              segment = found.one;
              there = In-to found.one (touched l store one.row (one.row + 1)) back.0;
              needs = back.1;
              is = is_id;
              flawed = both.1;
              among = subst (λ (g : Given). Contains (named e.scope (row_request e.expr) g store) id) (sym given)
                  (is_named e l store (well_formed l e.scope kept.1.2).1 (good_is e l kept.1.2) one.row (all_in (HasRow (ready l x)) rows one.row has one.there) id found.one back.0 back.1 is_id);
            }

    pub is_flawed : any_spoils k rows store id ≡ true → IsFlawedAt e (told_file opener source f) rows id
    is_flawed h = may_spoil k is_kept have h

  -- ---- of one row
  module _ (row : ℕ) where
    pub overflows_there : (k : KeptData) → IsKept e (opener f.opener) k → any_overflows k store row ≡ true → OverflowsAt e row (told_file opener source f)
    overflows_there unopened kept h = absurd cc
    overflows_there skipped kept h = absurd cc
    overflows_there (flawed l) kept h = absurd cc
    overflows_there (ready l x) kept h = (
      l,
      given_is (opener f.opener).gives (layout_of l) tells.gives kept.0,
      subst (λ (z : Bound). overflows z.scope z.expr (row_value l store row) row ≡ true) kept.1.1 h,
    )

    no_both : (b : Bool) → b ≡ true → b ≡ false → ⊥
    no_both true p q = cc
    no_both false p q = cc

    pub none_overflows : (k : KeptData) → IsKept e (opener f.opener) k → HasRow k row → any_overflows k store row ≡ false → OverflowsAt e row (told_file opener source f) → ⊥
    none_overflows unopened kept has h o = absurd has
    none_overflows skipped kept has h o = absurd has
    none_overflows (flawed l) kept has h o = absurd has
    none_overflows (ready l x) kept has h o =
        let same : l ≡ o.0 = layout_same l o.0 (sym (given_is (opener f.opener).gives (layout_of l) tells.gives kept.0) ∙ o.1) in
        no_both (overflows e.scope e.expr (row_value l store row) row)
        (subst (λ (z : Layout). overflows e.scope e.expr (row_value z store row) row ≡ true) (sym same) o.2)
        (subst (λ (z : Bound). overflows z.scope z.expr (row_value l store row) row ≡ false) kept.1.1 h)

    pub value_is : (k : KeptData) → IsKept e (opener f.opener) k → HasRow k row → (v : Val) → marked v ∷ [] ≡ values_of k store (row ∷ []) → marked v ≡ value_in e store row (told_file opener source f).given
    value_is unopened kept has v h = absurd has
    value_is skipped kept has v h = absurd has
    value_is (flawed l) kept has v h = absurd has
    value_is (ready l x) kept has v h =
        ap (λ (ms : List Marked). get_or ms 0 (marked v)) h
        ∙ ap (λ (z : Bound). value_in z store row (layout_of l)) kept.1.1
        ∙ ap (value_in e store row) (sym (given_is (opener f.opener).gives (layout_of l) tells.gives kept.0))

-- ---- files of a list
module _ {O S : Type 0} (opener : O → OpenerState) (source : S → SourceState) (files : List (ScanFile O S)) where
  pub told_at : (k : ℕ) (f : ScanFile O S) → k < length files → slice_get (told opener source files) k ≡ Some (told_file opener source (get_or files k f))
  told_at k f lt = slice_get-map (told_file opener source) files k ∙ ap (option_map (told_file opener source)) (slice_get-get_or files k f lt)

  pub of_told : (e : Bound) (row k : ℕ) (f : ScanFile O S) → k < length files → value_of e row (slice_get (told opener source files) k) ≡ value_in e (told_file opener source (get_or files k f)).store row (told_file opener source (get_or files k f)).given
  of_told e row k f lt = ap (value_of e row) (told_at k f lt)
