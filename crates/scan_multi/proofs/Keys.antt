-- The groups that a drive gives are of splits that follow each other, up to the first that starts with a row that is not clean.
use Rattle.std.proofs.Common.{◌≡◌, ◌<◌, ◌≤◌, ◌+◌, ◌-◌, ℕ, zero, suc, Bool, true, false, List, [], ◌∷◌, ◌++◌, filter, flat_map, get_or, length, map, take, Option, Some, None, inl, inr, refl, sym, ap, subst, ◌∙◌, arith}
use Rattle.std.specs.Prelude.{◌⊎◌, if◌then◌else◌}
use Rattle.std.specs.declared.ops.Range.{Range}
use Rattle.scan_values.specs.DataType.{DataType}
use Rattle.scan_values.specs.Marked.{Marked, lost}
use Rattle.scan_values.specs.Selections.{selects}
use Rattle.scan_values.specs.Val.{is_clean}
use Rattle.scan_expr.specs.declared.request.ScanRequest.{ScanRequest}
use Rattle.scan_segments.specs.Source.{Store}
use Rattle.scan_layout.specs.Layout.{Layout, rows_of}
use Rattle.scan_layout.specs.PickGroups.{split_of}
use Rattle.scan_opener.specs.Opener.{Given, skip, layout_of}
use Rattle.scan_core.specs.SplitRanges.{Follow}
use Rattle.scan_drive.specs.Files as drive
use Rattle.scan_file.specs.FileAsks.{given_dtype}
use Rattle.scan_file.specs.FileRows.{unless_lost}
use Rattle.scan_file.specs.Openings.{layout_fault, part_unless}
use Rattle.scan_file.specs.Openings as opened
use Rattle.scan_file.specs.Parts.{file_ranges, is_lost, is_some_row, layout_part, passes, picks, row_of, rows_given, split_rows}
use Rattle.scan_file.specs.declared.fault.FileFault.{FileFault}
use Rattle.scan_multi.specs.Answer.{ToldFile}
use Rattle.scan_multi.specs.Asked.{AsksFor, ask_of, tale_of}
use Rattle.scan_multi.specs.Chunks.{splits_at, splits_in}
use Rattle.scan_multi.proofs.CutRanges.{ranges_split}
use Rattle.scan_multi.proofs.Faults.{faultless_good, good_parts}
use Rattle.scan_multi.proofs.Grouping.{AreCut, AreIn, past_edge, range_in, some_passing}
use Rattle.scan_multi.proofs.ReadSpans.{edges_are, file_edges}

-- ---- groups of splits, by their files and numbers
-- behind a split of a file, or that split itself
abbrev pub IsNext : ℕ → ℕ → ℕ → ℕ → Type 0
IsNext f c file k = (f < file) ⊎ ((f ≡ file) × (c ≤ k))

-- each row is of this split
abbrev pub OfSplit : (ℕ → ℕ) → ℕ → List drive.Item → Type 0
OfSplit split k [] = Unit {0}
OfSplit split k (x ∷ xs) = (split x.0 ≡ k) × OfSplit split k xs

-- what is known of some rows of a file, where the first is clean
abbrev pub AtGroup : (ℕ → ℕ → ℕ) → ℕ → ℕ → ℕ → List drive.Item → (ℕ → Type 0) → Type 0
AtGroup split f c file [] P = ⊥
AtGroup split f c file (x ∷ xs) P = is_clean x.1.1 ≡ true → (k : ℕ) × IsNext f c file k × OfSplit (split file) k (x ∷ xs) × P k

-- groups from a split of a file on, each of one split behind that of the group before
abbrev pub KeyedFrom : (ℕ → ℕ → ℕ) → ℕ → ℕ → List (drive.Group drive.Item) → Type 0
KeyedFrom split f c [] = Unit {0}
KeyedFrom split f c (g ∷ gs) = AtGroup split f c g.0 g.1 (λ k. KeyedFrom split g.0 (k + 1) gs)

abbrev pub AreAt : ℕ → List (drive.Group drive.Item) → Type 0
AreAt file [] = Unit {0}
AreAt file (g ∷ gs) = (g.0 ≡ file) × AreAt file gs

module _ (split : ℕ → ℕ → ℕ) where
  group_less : (f c f' c' file : ℕ) (xs : List drive.Item) (P Q : ℕ → Type 0) → ((k : ℕ) → IsNext f' c' file k → IsNext f c file k) → ((k : ℕ) → P k → Q k) → AtGroup split f' c' file xs P → AtGroup split f c file xs Q
  group_less f c f' c' file [] P Q n m h = h
  group_less f c f' c' file (x ∷ xs) P Q n m h = λ e. let r = h e in (r.0, n r.0 r.1, r.2, m r.0 r.3)

  next_less : (f c c' file : ℕ) → c ≤ c' → (k : ℕ) → IsNext f c' file k → IsNext f c file k
  next_less f c c' file l k (inl h) = inl h
  next_less f c c' file l k (inr h) = inr (h.0, omega (arith, l, h.1))

  pub keyed_less : (f c c' : ℕ) (gs : List (drive.Group drive.Item)) → c ≤ c' → KeyedFrom split f c' gs → KeyedFrom split f c gs
  keyed_less f c c' [] l h = tt
  keyed_less f c c' (g ∷ gs) l h = group_less f c f c' g.0 g.1 (λ k. KeyedFrom split g.0 (k + 1) gs) (λ k. KeyedFrom split g.0 (k + 1) gs) (next_less f c c' g.0 l) (λ k p. p) h

  next_file : (f c file : ℕ) (k : ℕ) → IsNext (f + 1) 0 file k → IsNext f c file k
  next_file f c file k (inl h) = inl (omega (arith, h))
  next_file f c file k (inr h) = inl (omega (arith, h.0))

  keyed_before : (f c : ℕ) (gs : List (drive.Group drive.Item)) → KeyedFrom split (f + 1) 0 gs → KeyedFrom split f c gs
  keyed_before f c [] h = tt
  keyed_before f c (g ∷ gs) h = group_less f c (f + 1) 0 g.0 g.1 (λ k. KeyedFrom split g.0 (k + 1) gs) (λ k. KeyedFrom split g.0 (k + 1) gs) (next_file f c g.0) (λ k p. p) h

  pub keyed_append : (file c : ℕ) (gs hs : List (drive.Group drive.Item)) → KeyedFrom split file c gs → AreAt file gs → KeyedFrom split (file + 1) 0 hs → KeyedFrom split file c (gs ++ hs)
  keyed_append file c [] hs h o k = keyed_before file c hs k
  keyed_append file c (g ∷ gs) hs h o k =
      group_less file c file c g.0 g.1 (λ n. KeyedFrom split g.0 (n + 1) gs) (λ n. KeyedFrom split g.0 (n + 1) (gs ++ hs)) (λ n p. p)
      (λ n p. subst (λ z. KeyedFrom split z (n + 1) (gs ++ hs)) (sym o.0) (keyed_append file (n + 1) gs hs (subst (λ z. KeyedFrom split z (n + 1) gs) o.0 p) o.1 k)) h

  -- ---- groups that are cut
  cut_none : (gs : List (drive.Group drive.Item)) → drive.cut 0 gs ≡ []
  cut_none [] = refl
  cut_none (g ∷ gs) = ap (λ n. drive.cut n gs) (let z : 0 - length g.1 ≡ 0 = omega arith in z) ∙ cut_none gs

  taken_of : (s : ℕ → ℕ) (k n : ℕ) (xs : List drive.Item) → OfSplit s k xs → OfSplit s k (take n xs)
  taken_of s k zero xs h = tt
  taken_of s k (suc n) [] h = tt
  taken_of s k (suc n) (x ∷ xs) h = (h.0, taken_of s k n xs h.1)

  keyed_cut : (n f c : ℕ) (gs : List (drive.Group drive.Item)) → KeyedFrom split f c gs → KeyedFrom split f c (drive.cut n gs)
  keyed_cut zero f c gs h = subst (KeyedFrom split f c) (sym (cut_none gs)) tt
  keyed_cut (suc n) f c [] h = tt
  keyed_cut (suc n) f c (g ∷ gs) h = go g.1 h (λ k. keyed_cut (suc n - length g.1) g.0 (k + 1) gs)
    where
      go : (xs : List drive.Item) → AtGroup split f c g.0 xs (λ k. KeyedFrom split g.0 (k + 1) gs)
          → ((k : ℕ) → KeyedFrom split g.0 (k + 1) gs → KeyedFrom split g.0 (k + 1) (drive.cut (suc n - length g.1) gs))
          → KeyedFrom split f c (drive.grouped g.0 (take (suc n) xs) ++ drive.cut (suc n - length g.1) gs)
      go [] h on = absurd h
      go (x ∷ xs) h on = λ e. let r = h e in (r.0, r.1, (r.2.0, taken_of (split g.0) r.0 n xs r.2.1), on r.0 r.3)

  -- groups as far as a limit allows
  pub keyed_limited : (limit : Option ℕ) (f c : ℕ) (gs : List (drive.Group drive.Item)) → KeyedFrom split f c gs → KeyedFrom split f c (drive.limited limit gs)
  keyed_limited None f c gs h = h
  keyed_limited (Some n) f c gs h = keyed_cut n f c gs h

-- ---- the groups of a file
kept_in : (f : ℕ → ℕ) (c : ℕ) (p : ℕ → Bool) (is : List ℕ) → AreIn f c is → AreIn f c (filter p is)
kept_in f c p [] h = tt
kept_in f c p (i ∷ is) h = go (p i) (kept_in f c p is h.1)
  where
    go : (b : Bool) → AreIn f c (filter p is) → AreIn f c (if b then i ∷ filter p is else filter p is)
    go true rest = (h.0, rest)
    go false rest = rest

given_of : (f : ℕ → ℕ) (c : ℕ) (t : DataType) (v : ℕ → Marked) (is : List ℕ) → AreIn f c is → OfSplit f c (map {B = drive.Item} (λ i. (i, (t, v i))) is)
given_of f c t v [] h = tt
given_of f c t v (i ∷ is) h = (h.0, given_of f c t v is h.1)

module _ (d : DataType) (request : ScanRequest) (files : List ToldFile) where
  -- the number of the split of a row of a file
  abbrev pub split_in : ℕ → ℕ → ℕ
  split_in file row = split_of (splits_at d request files file) row

  module _ (file : ℕ) (l : Layout) (store : Store) (es : List ℕ) (at : splits_at d request files file ≡ es) where
    -- what a split gives is of that split, unless it is one lost row
    split_group : (r : Range ℕ) (x : drive.Item) (xs : List drive.Item) → AreIn (split_of es) (split_of es r.start) (picks (ask_of d request) l r) → split_rows (ask_of d request) l store (picks (ask_of d request) l r) ≡ x ∷ xs
        → is_clean x.1.1 ≡ true → OfSplit (split_in file) (split_of es r.start) (x ∷ xs)
    split_group r x xs i e clean = go (is_lost (ask_of d request) l store (picks (ask_of d request) l r)) e
      where
        go : (b : Bool) → unless_lost b (given_dtype (ask_of d request)) (rows_given (ask_of d request) l store (picks (ask_of d request) l r)) ≡ x ∷ xs → OfSplit (split_in file) (split_of es r.start) (x ∷ xs)
        go true e = let first : (0, (given_dtype (ask_of d request), lost)) ≡ x = cc in absurd (no_clean (subst (λ (y : drive.Item). is_clean y.1.1 ≡ true) (sym first) clean))
          where
            no_clean : false ≡ true → ⊥
            no_clean h = cc
        go false e =
            subst (OfSplit (split_in file) (split_of es r.start)) e
            (subst (λ zs. OfSplit (split_of zs) (split_of es r.start) (rows_given (ask_of d request) l store (picks (ask_of d request) l r))) (sym at)
            (given_of (split_of es) (split_of es r.start) (given_dtype (ask_of d request)) (row_of (ask_of d request) l store (ask_of d request).projection) (filter (passes (ask_of d request) l store) (picks (ask_of d request) l r))
            (kept_in (split_of es) (split_of es r.start) (passes (ask_of d request) l store) (picks (ask_of d request) l r) i)))

    abbrev pub groups_of : List (Range ℕ) → List (drive.Group drive.Item)
    groups_of rs = flat_map (drive.grouped file) (map (λ r. split_rows (ask_of d request) l store (picks (ask_of d request) l r)) (some_passing (selects request.selection) es rs))

    -- a range before others
    range_keyed : (c : ℕ) (r : Range ℕ) (rs : List (Range ℕ)) → c ≤ split_of es r.start → AreIn (split_of es) (split_of es r.start) (picks (ask_of d request) l r)
        → KeyedFrom split_in file (split_of es r.start) (groups_of rs) → KeyedFrom split_in file (split_of es r.start + 1) (groups_of rs) → KeyedFrom split_in file c (groups_of (r ∷ rs))
    range_keyed c r rs low i same behind = go (is_some_row (picks (ask_of d request) l r))
      where
        by : (xs : List drive.Item) → split_rows (ask_of d request) l store (picks (ask_of d request) l r) ≡ xs → KeyedFrom split_in file c (drive.grouped file xs ++ groups_of rs)
        by [] e = keyed_less split_in file c (split_of es r.start) (groups_of rs) low same
        by (x ∷ xs) e = λ clean. (split_of es r.start, inr (refl, low), split_group r x xs i e clean, behind)

        go : (b : Bool) → KeyedFrom split_in file c (flat_map (drive.grouped file) (map (λ q. split_rows (ask_of d request) l store (picks (ask_of d request) l q)) (if b then r ∷ some_passing (selects request.selection) es rs else some_passing (selects request.selection) es rs)))
        go true = by (split_rows (ask_of d request) l store (picks (ask_of d request) l r)) refl
        go false = keyed_less split_in file c (split_of es r.start) (groups_of rs) low same

    ranges_keyed : (a b : ℕ) (rs : List (Range ℕ)) → Follow a b rs → AreCut es rs → KeyedFrom split_in file (split_of es a) (groups_of rs)
    ranges_keyed a b [] h k = tt
    ranges_keyed a b (r ∷ []) h k = range_keyed (split_of es a) r [] (let e : split_of es a ≡ split_of es r.start = ap (split_of es) (sym h.0) in omega (arith, e)) (range_in (selects request.selection) es r k) tt tt
    ranges_keyed a b (r ∷ q ∷ qs) h k =
        let rest = ranges_keyed r.end b (q ∷ qs) h.2 k.2 in
        let up : split_of es r.start < split_of es r.end = past_edge r.start r.end r.end es k.1 h.1 (omega arith) in
        let same : split_of es a ≡ split_of es r.start = ap (split_of es) (sym h.0) in
        range_keyed (split_of es a) r (q ∷ qs) (omega (arith, same)) (range_in (selects request.selection) es r k.0)
        (keyed_less split_in file (split_of es r.start) (split_of es r.end) (groups_of (q ∷ qs)) (omega (arith, up)) rest)
        (keyed_less split_in file (split_of es r.start + 1) (split_of es r.end) (groups_of (q ∷ qs)) (omega (arith, up)) rest)

  grouped_at : (file : ℕ) (xs : List drive.Item) (gs : List (drive.Group drive.Item)) → AreAt file gs → AreAt file (drive.grouped file xs ++ gs)
  grouped_at file [] gs h = h
  grouped_at file (x ∷ xs) gs h = (refl, h)

  part_at : (file : ℕ) (xss : List (List drive.Item)) → AreAt file (flat_map (drive.grouped file) xss)
  part_at file [] = tt
  part_at file (xs ∷ xss) = grouped_at file xs (flat_map (drive.grouped file) xss) (part_at file xss)

  module _ (asks : AsksFor d request (ask_of d request)) where
    -- the groups of a file
    pub part_keyed : (file : ℕ) (store : Store) (g : Given) → splits_at d request files file ≡ splits_in d request g → KeyedFrom split_in file 0 (drive.part_over file (opened.part_of (ask_of d request) g) store)
    part_keyed file store skip at = tt
    part_keyed file store (layout_of l) at = go (layout_fault (ask_of d request) l) refl
      where
        go : (o : Option FileFault) → layout_fault (ask_of d request) l ≡ o → KeyedFrom split_in file 0 (drive.part_over file (part_unless (ask_of d request) o (layout_part (ask_of d request) l)) store)
        go None e =
            let good = faultless_good d request (ask_of d request) asks l e in
            let within = (good_parts d request l good).1 in
            let es : List ℕ = file_edges d request l asks.askable within in
            let up = ranges_split es request.row_range (rows_of l) request.selection (asks.askable).range in
            keyed_less split_in file 0 (split_of es up.start) _ (omega arith)
            (ranges_keyed file l store es (at ∙ edges_are d request l asks.askable within) up.start up.end (file_ranges (ask_of d request) l) up.follow up.cut)
        go (Some x) e = λ c. absurd (no_clean c)
          where
            no_clean : false ≡ true → ⊥
            no_clean h = cc

    files_keyed : (fs : List ToldFile) (place : ℕ) → ((k : ℕ) (f : ToldFile) → get_or files (place + k) f ≡ get_or fs k f) → KeyedFrom split_in place 0 (drive.answer_from place (map (tale_of (ask_of d request)) fs))
    files_keyed [] place h = tt
    files_keyed (f ∷ fs) place h =
        let here : (e : ToldFile) → get_or files place e ≡ f = λ e. ap (λ k. get_or files k e) (let z : place ≡ place + 0 = omega arith in z) ∙ h 0 e in
        let at : splits_at d request files place ≡ splits_in d request f.given = ap (λ (e : ToldFile). splits_in d request e.given) (here _) in
        keyed_append split_in place 0 (drive.part_groups place (tale_of (ask_of d request) f)) (drive.answer_from (place + 1) (map (tale_of (ask_of d request)) fs))
        (part_keyed place f.store f.given at) (part_at place ((opened.part_of (ask_of d request) f.given).splits f.store)) (files_keyed fs (place + 1) (λ k e. ap (λ j. get_or files j e) (let z : place + 1 + k ≡ place + suc k = omega arith in z) ∙ h (suc k) e))

  -- the groups of files
  pub answer_keyed : AsksFor d request (ask_of d request) → KeyedFrom split_in 0 0 (drive.answer (map (tale_of (ask_of d request)) files))
  answer_keyed asks = files_keyed asks files 0 (λ k f. ap (λ j. get_or files j f) (let z : 0 + k ≡ k = omega arith in z))
