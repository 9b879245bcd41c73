-- What a look-up of one row concludes of what a scan says.
use Rattle.std.proofs.Common.{◌≡◌, ℕ, zero, suc, ◌+◌, ◌-◌, ◌<◌, ◌≤◌, ◌==◌, ◌||◌, ◌&&◌, List, [], ◌∷◌, ◌++◌, Bool, true, false, cond, Option, None, Some, refl, sym, ap, ◌∙◌, subst, length, map, filter, arith}
use Rattle.std.proofs.lemmas.Bool.Decides.{nat_tests}
use Rattle.std.specs.Prelude.{All, zip, slice_get, nat_lt}
use Rattle.std.specs.List.{range_with_len, list_any, list_all, flat_map}
use Rattle.std.proofs.lemmas.List.{append-nil}
use Rattle.std.proofs.lemmas.List.Concat.{flat_map-cons}
use Rattle.std.proofs.lemmas.List.Elements.{All-cons, All-head, All-nil}
use Rattle.std.proofs.lemmas.List.Folds.{Any-from_list_any, list_any-from_Any}
use Rattle.vortex_scan.specs.Values.DataType.{DataType}
use Rattle.vortex_scan.specs.Values.Marked.{Marked}
use Rattle.vortex_scan.specs.Values.Selections.{is_among, picked_rows}
use Rattle.vortex_scan.specs.Values.Val.{Val, is_clean, read_marked, marked-read}
use Rattle.vortex_scan.specs.Values.declared.selection.Selection.{Selection}
use Rattle.vortex_scan.specs.Values.declared.selection.Selection.TheVariants as selection
use Rattle.vortex_scan.specs.Values.declared.selection.Selection.TheVariants.{IncludeByIndex}
use Rattle.vortex_scan.specs.Expr.Eval.{eval}
use Rattle.vortex_scan.specs.Expr.Expr.{Expr, filter_conjuncts}
use Rattle.vortex_scan.specs.Expr.Infer.{infer}
use Rattle.vortex_scan.specs.Expr.declared.request.ScanRequest.{ScanRequest}
use Rattle.vortex_scan.specs.Segments.Cache.{CacheState}
use Rattle.vortex_scan.specs.Segments.Source.{SourceState, Store}
use Rattle.vortex_scan.specs.Segments.declared.segment.SegmentKey.{SegmentKey}
use Rattle.vortex_scan.specs.Layout.Layout.{Layout, rows_of}
use Rattle.vortex_scan.specs.Layout.RowValue.{row_value}
use Rattle.vortex_scan.specs.Opener.Opener.{Given, OpenerState, skip, layout_of}
use Rattle.vortex_scan.specs.Drive.declared.files.ScanFile.{ScanFile}
use Rattle.vortex_scan.specs.Multi.Answer.{Item, ToldFile, answer, drops, is_good, part_of, row_items, spills_at}
use Rattle.vortex_scan.specs.Multi.Lawful.{told, told_file, IsLawful}
use Rattle.vortex_scan.specs.Multi.Output.{ChunkData, OutputData, Admits, IsChunk, chunk_items, given}
use Rattle.vortex_scan.specs.Multi.Scans.{IsScan}
use Rattle.uses.specs.Lookup.{IsLookedUpIn, IsLookedUp, first_value, row_request}

-- ---- one row among numbers
module _ (row : ℕ) where
  -- the numbers of a range that are the row
  abbrev pub hits : ℕ → ℕ → List ℕ
  hits a n = filter (is_among (row ∷ [])) (range_with_len a n)

  missed : (a n : ℕ) → row < a → hits a n ≡ []
  missed a zero l = refl
  missed a (suc n) l = let f : (row == a) ≡ false = grind (arith, nat_tests, l) in rw f (missed (a + 1) n (omega arith))

  not_reached : (a n : ℕ) → a + n ≤ row → hits a n ≡ []
  not_reached a zero l = refl
  not_reached a (suc n) l =
      let low : a < row = omega (arith, l) in
      let f : (row == a) ≡ false = grind (arith, nat_tests, low) in
      rw f (not_reached (a + 1) n (omega arith))

  hit : (a n : ℕ) → a ≤ row → row < a + n → hits a n ≡ row ∷ []
  hit a zero low high = absurd (omega (arith, low, high))
  hit a (suc n) low high = go (row == a) refl (λ up. hit (a + 1) n up (omega arith))
    where
      go : (b : Bool) → (row == a) ≡ b → (a + 1 ≤ row → hits (a + 1) n ≡ row ∷ []) → hits a (suc n) ≡ row ∷ []
      go true e later =
          let same : row ≡ a = grind (arith, nat_tests, e) in
          let past : row < a + 1 = omega (arith, same) in
          rw e (ap (λ xs. a ∷ xs) (missed (a + 1) n past) ∙ ap (λ x. x ∷ []) (sym same))
      go false e later =
          let up : a + 1 ≤ row = grind (arith, nat_tests, e, low) in
          rw e (later up)

-- ---- the first value
abbrev pub first_of_items : List Item → Option Val
first_of_items [] = None
first_of_items (x ∷ xs) = x.value

-- chunks that have this first value give these items
pub record Begin (v : Option Val) (items : List Item) : Type 0 where
  pub is : v ≡ first_of_items items
  pub none : v ≡ None → items ≡ []

begin_chunk : (d : DataType) (c : ChunkData) (rest : List Item) → IsChunk d c → Begin (slice_get c.values.items 0) (chunk_items c ++ rest)
begin_chunk d c rest k = go c.rows c.values.items k.even k.some
  where
    go : (rows : List ℕ) (vs : List Val) → length rows ≡ length vs → 0 < length rows
        → Begin (slice_get vs 0) (map (λ r. record { file = c.file; row = r.0; value = Some r.1 }) (zip rows vs) ++ rest)
    go [] vs e l = absurd (omega (arith, l))
    go (r ∷ rs) [] e l = absurd (omega (arith, e))
    go (r ∷ rs) (v ∷ vs) e l = record { is = refl; none = λ n. absurd (cc n) }

pub begin : (d : DataType) (cs : List ChunkData) → All (IsChunk d) cs → Begin (first_value cs) (given cs)
begin d [] all = record { is = refl; none = λ n. refl }
begin d (c ∷ cs) all = subst (Begin (slice_get c.values.items 0)) (sym (flat_map-cons chunk_items c cs)) (begin_chunk d c (given cs) (All-head (IsChunk d) c cs all))

-- ---- a row
any-map : {A B : Type 0} (p : B → Bool) (f : A → B) (xs : List A) → list_any p (map f xs) ≡ list_any (λ x. p (f x)) xs
any-map p f [] = refl
any-map p f (x ∷ xs) = ap (λ b. p (f x) || b) (any-map p f xs)

none-there : (x : Item) → x ∷ [] ≡ [] → ⊥
none-there x e = let n = ap length e in omega (arith, n)

module _ (d : DataType) (r : ScanRequest) (row : ℕ) (l : Layout) (store : Store) where
  abbrev pub value_here : Expr → Marked
  value_here e = eval d e (row_value l store row) row

  abbrev pub tests_here : List Marked
  tests_here = map value_here (filter_conjuncts r.filter)

  abbrev pub item_here : Option Val → Item
  item_here v = record { file = 0; row = row; value = v }

  abbrev pub Wanted : Option Val → Type 0
  Wanted v = IsLookedUpIn d r.projection r.filter row store v (layout_of l)

  same_drop : list_any drops tests_here ≡ list_any (λ e. drops (value_here e)) (filter_conjuncts r.filter)
  same_drop = any-map drops value_here (filter_conjuncts r.filter)

  damaged : (v : Option Val) → Begin v (item_here None ∷ []) → Wanted v
  damaged v h = absurd (none-there (item_here None) (h.none h.is))

  at_row : row < rows_of l → (dropped spilt clean : Bool) → list_any drops tests_here ≡ dropped → (list_all is_clean tests_here && is_clean (value_here r.projection)) ≡ clean
      → (v : Option Val)
      → Begin v (map item_here (cond dropped [] (cond spilt None (cond clean (Some (read_marked (value_here r.projection))) None) ∷ []))) → Wanted v
  at_row low true spilt clean e f v h = subst Wanted (sym h.is) (λ _. Any-from_list_any (λ x. drops (value_here x)) (filter_conjuncts r.filter) (sym same_drop ∙ e))
  at_row low false true clean e f v h = damaged v h
  at_row low false false false e f v h = damaged v h
  at_row low false false true e f v h = subst Wanted (sym h.is) record {
    there = low;
    kept = λ a. cc (sym e ∙ same_drop ∙ list_any-from_Any (λ x. drops (value_here x)) (filter_conjuncts r.filter) a);
    value = sym (marked-read (value_here r.projection) (and_second (list_all is_clean tests_here) f));
  }
    where
      and_second : (a : Bool) {b : Bool} → (a && b) ≡ true → b ≡ true
      and_second true h = h
      and_second false h = absurd (cc h)

module _ (d : DataType) (r : ScanRequest) (row : ℕ) (l : Layout) (store : Store) where
  -- what is picked, and what is given of it
  abbrev pub IsPicked : List ℕ → Option Val → Type 0
  IsPicked rows v = Begin v (flat_map (row_items d r 0 l store) rows) → Wanted d r row l store v

  in_layout : (low : Bool) → nat_lt row (rows_of l) ≡ low → (v : Option Val) → IsPicked (hits row 0 (rows_of l)) v
  in_layout false e v h =
      let high : 0 + rows_of l ≤ row = grind (arith, nat_tests, e) in
      let begun = subst (λ is. Begin v (flat_map (row_items d r 0 l store) is)) (not_reached row 0 (rows_of l) high) h in
      let none : v ≡ None = begun.is in
      subst (Wanted d r row l store) (sym none) (λ low. absurd (omega (arith, high, low)))
  in_layout true e v h =
      let low : row < rows_of l = grind (arith, nat_tests, e) in
      let one = hit row 0 (rows_of l) (omega arith) (omega (arith, low)) in
      at_row d r row l store low (list_any drops (tests_here d r row l store)) (spills_at d r row (row_value l store row))
      (list_all is_clean (tests_here d r row l store) && is_clean (value_here d r row l store r.projection)) refl refl v
      (subst (Begin v) (append-nil _) (subst (λ is. Begin v (flat_map (row_items d r 0 l store) is)) one h))

  picked_is : r.row_range ≡ None → r.selection ≡ IncludeByIndex (row ∷ []) → picked_rows r.row_range r.selection (rows_of l) ≡ hits row 0 (rows_of l)
  picked_is whole sel =
      ap (λ o. picked_rows o r.selection (rows_of l)) whole ∙ ap (λ s. picked_rows None s (rows_of l)) sel
      ∙ (let n : rows_of l - 0 ≡ rows_of l = omega arith in ap (hits row 0) n)

  of_layout : (good : Bool) → r.row_range ≡ None → r.selection ≡ IncludeByIndex (row ∷ []) → (v : Option Val)
      → Begin v (cond good (flat_map (row_items d r 0 l store) (picked_rows r.row_range r.selection (rows_of l))) (record { file = 0; row = 0; value = None } ∷ [])) → Wanted d r row l store v
  of_layout true whole sel v h = in_layout (nat_lt row (rows_of l)) refl v (subst (λ is. Begin v (flat_map (row_items d r 0 l store) is)) (picked_is whole sel) h)
  of_layout false whole sel v h = absurd (none-there (record { file = 0; row = 0; value = None }) (h.none h.is))

of_given : (d : DataType) (r : ScanRequest) (row : ℕ) → r.row_range ≡ None → r.selection ≡ IncludeByIndex (row ∷ []) → (store : Store) (g : Given) (v : Option Val)
    → Begin v (part_of d r 0 store g) → IsLookedUpIn d r.projection r.filter row store v g
of_given d r row whole sel store skip v h = h.is
of_given d r row whole sel store (layout_of l) v h = of_layout d r row l store (is_good d r l) whole sel v h

pub looked_up : (d c : DataType) (r : ScanRequest) (row : ℕ) (f : ToldFile) (cs : List ChunkData) → r.row_range ≡ None → r.selection ≡ IncludeByIndex (row ∷ []) → All (IsChunk c) cs
    → given cs ≡ answer d r (f ∷ []) → IsLookedUp d r.projection r.filter row (first_value cs) f
looked_up d c r row f cs whole sel all is = of_given d r row whole sel f.store f.given (first_value cs) (subst (Begin (first_value cs)) (is ∙ append-nil (part_of d r 0 f.store f.given)) (begin c cs all))

-- ---- of one file
pub is_for_row : (r : ScanRequest) (e : Expr) (filter : Option Expr) (row : ℕ) (s : Selection) → r.projection ≡ e → r.row_range ≡ None → s ≡ IncludeByIndex (row ∷ [])
    → r.partition_selection ≡ selection.All → r.partition_range ≡ None → r.ordered ≡ true → r.limit ≡ None → record r { filter = filter; selection = s } ≡ row_request e filter row
is_for_row r e filter row s p w t u v o n = rw (p, w, t, u, v, o, n) refl

module _ {O S : Type 0} (opener : O → OpenerState) (source : S → SourceState) (workers : ℕ) (d : DataType) (q : ScanRequest) (e : Expr) (filter : Option Expr) (row : ℕ) where
  pub found : (v : Option Val) (old new : List (ScanFile O S)) (c c' : CacheState SegmentKey) (out : OutputData)
      → length old ≡ 1 → q ≡ row_request e filter row → v ≡ first_value out.chunks → IsScan opener source workers d q old new c c' out → IsLawful opener source old c
      → All (IsLookedUp d e filter row v) (told opener source old)
  found v [] new c c' out one is value scan l = absurd (omega (arith, one))
  found v (a ∷ b ∷ fs) new c c' out one is value scan l = absurd (omega (arith, one))
  found v (a ∷ []) new c c' out one is value scan l =
      let request : ScanRequest = row_request e filter row in
      let admits : Admits d request (answer d request (told opener source (a ∷ []))) out.chunks =
      subst (λ (z : ScanRequest). Admits d z (answer d z (told opener source (a ∷ []))) out.chunks) is (scan.admits l) in
      let here : IsLookedUp d e filter row (first_value out.chunks) (told_file opener source a) =
      looked_up d (infer d e) request row (told_file opener source a) out.chunks refl refl admits.chunks admits.items in
      let there : IsLookedUp d e filter row v (told_file opener source a) = subst (λ (z : Option Val). IsLookedUp d e filter row z (told_file opener source a)) (sym value) here in
      All-cons (IsLookedUp d e filter row v) (told_file opener source a) [] there (All-nil (IsLookedUp d e filter row v))
