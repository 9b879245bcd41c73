-- The segments that a scan of a file names are named by the request, and what is no good of them is damaged.
use Rattle.std.proofs.Common.{◌≡◌, ℕ, Bool, true, false, not, List, [], ◌∷◌, filter, flat_map, map, inl, inr, refl, sym, ap, subst, ◌∙◌, arith}
use Rattle.std.specs.Prelude.{◌⊎◌, ◌==◌, ◌||◌, Contains, cond}
use Rattle.std.specs.List.{list_any}
use Rattle.std.proofs.lemmas.Bool.Decides.{nat_tests}
use Rattle.scan_values.specs.DataType.{DataType}
use Rattle.scan_expr.specs.Bound.{bound_of, exprs_of}
use Rattle.scan_expr.specs.Expr.{Expr, filter_conjuncts}
use Rattle.scan_expr.specs.Needs.{needed_by}
use Rattle.scan_expr.specs.declared.request.ScanRequest.{ScanRequest}
use Rattle.scan_segments.specs.Source.{Store}
use Rattle.scan_layout.specs.Layout.{Layout}
use Rattle.scan_spelling.specs.Places.{Place}
use Rattle.scan_layout.specs.Touched.{touched}
use Rattle.scan_opener.specs.Opener.{layout_of}
use Rattle.scan_plans.specs.Wants.{names_id}
use Rattle.scan_core.specs.RowRanges.{narrowed}
use Rattle.scan_file.specs.FileAsks.{FileAsk, ask_exprs}
use Rattle.scan_file.specs.Parts.{needed_places, read_ranges}
use Rattle.scan_file.specs.Parts as part
use Rattle.scan_multi.specs.Answer.{is_good}
use Rattle.scan_multi.specs.Asked.{AsksFor, IsAskable, ask_of}
use Rattle.scan_multi.specs.Named.{distinct, expressions, named, named_places, places_in, read_spans}
use Rattle.scan_multi.proofs.Faults.{good_parts}
use Rattle.scan_multi.proofs.Members.{In, In-append, In-filter, In-filter_back, In-flat_map, In-map, In-to}
use Rattle.scan_multi.proofs.ReadSpans.{span_read}
use Rattle.scan_multi.proofs.SplitItems.{conjuncts_are}

-- ---- lists
-- what stands in a list that is made of lists stands in one of them
pub record FoundIn {A B : Type 0} (f : A → List B) (y : B) (xs : List A) : Type 0 where
  pub at : A
  pub there : In at xs
  pub of_it : In y (f at)

pub found_in : {A B : Type 0} (f : A → List B) (y : B) (xs : List A) → In y (flat_map f xs) → FoundIn f y xs
found_in f y [] h = absurd h
found_in f y (x ∷ xs) h = elim (In-append y (f x) (flat_map f xs) h) [ inl p ↦ record { at = x; there = inl refl; of_it = p } | inr q ↦ later (found_in f y xs q) ]
  where
    later : FoundIn f y xs → FoundIn f y (x ∷ xs)
    later r = record { at = r.at; there = inr r.there; of_it = r.of_it }

-- a test that holds of one
pub record HeldBy {A : Type 0} (q : A → Bool) (xs : List A) : Type 0 where
  pub one : A
  pub there : In one xs
  pub holds : q one ≡ true

pub held_by : {A : Type 0} (q : A → Bool) (xs : List A) → list_any q xs ≡ true → HeldBy q xs
held_by q [] h = cc
held_by {A = A} q (x ∷ xs) h = go (q x) refl h (held_by q xs)
  where
    go : (b : Bool) → q x ≡ b → (b || list_any q xs) ≡ true → (list_any q xs ≡ true → HeldBy q xs) → HeldBy q (x ∷ xs)
    go true e k on = record { one = x; there = inl refl; holds = e }
    go false e k on = let r = on k in record { one = r.one; there = inr r.there; holds = r.holds }

in_distinct : (n : ℕ) (ns : List ℕ) → In n ns → In n (distinct ns)
in_distinct n [] m = absurd m
in_distinct n (k ∷ ns) (inl e) = inl e
in_distinct n (k ∷ ns) (inr m) = go (n == k) refl (in_distinct n ns m)
  where
    go : (b : Bool) → (n == k) ≡ b → In n (distinct ns) → (n ≡ k) ⊎ In n (filter (λ j. not (j == k)) (distinct ns))
    go true e h = inl (grind (arith, nat_tests))
    go false e h = inr (In-filter (λ j. not (j == k)) n (distinct ns) h (ap not e))

-- ---- what is evaluated
exprs_are : (d : DataType) (request : ScanRequest) → ask_exprs (ask_of d request) ≡ expressions request
exprs_are d request = ap (λ (es : List Expr). request.projection ∷ es) (ap exprs_of (conjuncts_are d request) ∙ go (filter_conjuncts request.filter))
  where
    go : (es : List Expr) → exprs_of (map (bound_of d) es) ≡ es
    go [] = refl
    go (e ∷ es) = ap (λ xs. e ∷ xs) (go es)

-- ---- places
place_in : (d : DataType) (request : ScanRequest) (l : Layout) (store : Store) (span : ℕ × ℕ) (p : Place) → In span (read_spans d request l) → In p (touched l store span.0 span.1) → needed_by d (expressions request) p.path ≡ true → In p (places_in d request l store)
unfolding places_in
place_in d request l store span p s t n = In-filter (λ q. needed_by d (expressions request) q.path) p (flat_map (λ w. touched l store w.0 w.1) (read_spans d request l)) (In-flat_map (λ w. touched l store w.0 w.1) span p (read_spans d request l) s t) n

module _ (d : DataType) (request : ScanRequest) (l : Layout) (store : Store) (askable : IsAskable d request) (good : is_good d request l ≡ true) where
  read_named : (p : Place) → In p (part.named_places (ask_of d request) l store) → In p (named_places d request (layout_of l) store)
  read_named p i =
      let r = found_in (λ r. needed_places (ask_of d request) l store (narrowed request.selection r)) p (read_ranges (ask_of d request) l) i in
      let q = In-filter_back (λ x. needed_by d (ask_exprs (ask_of d request)) x.path) p (touched l store (narrowed request.selection r.at).start (narrowed request.selection r.at).end) r.of_it in
      let needed : needed_by d (expressions request) p.path ≡ true = sym (ap (λ es. needed_by d es p.path) (exprs_are d request)) ∙ q.1 in
      let span = span_read d request l askable (good_parts d request l good).1 r.at r.there in
      let among = place_in d request l store ((narrowed request.selection r.at).start, (narrowed request.selection r.at).end) p span q.0 needed in
      subst (λ b. In p (cond b (places_in d request l store) [])) (sym good) among

module _ (d : DataType) (request : ScanRequest) (a : FileAsk) (asks : AsksFor d request a) (l : Layout) (good : is_good d request l ≡ true) (store : Store) where
  -- a segment that the scan of a file names is named by the request
  pub place_named : (p : Place) → In p (part.named_places a l store) → In p (named_places d request (layout_of l) store)
  place_named p i = read_named d request l store asks.askable good p (subst (λ z. In p (part.named_places z l store)) asks.is i)

  pub id_named : (id : ℕ) → names_id id (part.named_places a l store) ≡ true → Contains (named d request (layout_of l) store) id
  id_named id h =
      let r = held_by (λ (p : Place). p.id == id) (part.named_places a l store) h in
      let is : (r.one).id ≡ id = grind (arith, nat_tests, r.holds) in
      let there : In (r.one).id (map (λ (p : Place). p.id) (named_places d request (layout_of l) store)) = In-map (λ (p : Place). p.id) r.one (named_places d request (layout_of l) store) (place_named r.one r.there) in
      In-to id (named d request (layout_of l) store) (in_distinct id (map (λ (p : Place). p.id) (named_places d request (layout_of l) store)) (subst (λ k. In k (map (λ (p : Place). p.id) (named_places d request (layout_of l) store))) is there))
