-- What a drive over files gives is cut at the splits of the files.
use Rattle.std.proofs.Common.{◌≡◌, ◌<◌, ◌+◌, ℕ, Bool, true, false, List, [], ◌∷◌, ◌++◌, map, Option, inl, inr, refl, sym, ap, subst, ◌∙◌, arith}
use Rattle.std.specs.Prelude.{◌⊎◌, ◌==◌, ◌&&◌, if◌then◌else◌}
use Rattle.scan_values.specs.DataType.{DataType}
use Rattle.scan_expr.specs.declared.request.ScanRequest.{ScanRequest}
use Rattle.scan_drive.specs.Files as drive
use Rattle.scan_file.specs.FileAsks.{FileAsk}
use Rattle.scan_multi.specs.Answer.{Item, ToldFile}
use Rattle.scan_multi.specs.Asked.{AreClean, AsksFor, Row, item_from, items_from, tale_of}
use Rattle.scan_multi.specs.Chunks.{cut, grouped, is_beside, join_first}
use Rattle.scan_multi.specs.Output.{ChunkData, chunk_items, given, limited}
use Rattle.scan_multi.proofs.Keys.{IsNext, KeyedFrom, OfSplit, answer_keyed, keyed_limited, split_in}
use Rattle.scan_multi.proofs.Orders.{other_numbers, same_numbers}

-- the items of a group
abbrev pub group_items : drive.Group drive.Item → List Item
group_items g = items_from (drive.placed g)

pub items_append : (xs ys : List Row) → items_from (xs ++ ys) ≡ items_from xs ++ items_from ys
items_append [] ys = refl
items_append (x ∷ xs) ys = ap (λ zs. item_from x ∷ zs) (items_append xs ys)

-- rows of which all are clean
pub clean_parts : (xs ys : List Row) → AreClean (xs ++ ys) → AreClean xs × AreClean ys
clean_parts [] ys h = (tt, h)
clean_parts (x ∷ xs) ys h = let p = clean_parts xs ys h.1 in ((h.0, p.0), p.1)

module _ (d : DataType) (request : ScanRequest) (files : List ToldFile) where
  abbrev pub beside : Item → Item → Bool
  beside = is_beside d request files

  -- an item that is of another split than those of a number
  abbrev pub IsApart : ℕ → ℕ → Item → Type 0
  IsApart file k y = (file < y.file) ⊎ ((file ≡ y.file) × (k < split_in d request files y.file y.row))

  -- groups whose first item is
  abbrev pub LeaveOff : ℕ → ℕ → List (List Item) → Type 0
  LeaveOff file k [] = Unit {0}
  LeaveOff file k ([] ∷ gs) = ⊥
  LeaveOff file k ((y ∷ ys) ∷ gs) = IsApart file k y

  apart_not : (x y : Item) (k : ℕ) → split_in d request files x.file x.row ≡ k → IsApart x.file k y → beside x y ≡ false
  apart_not x y k e (inl l) = ap (λ b. b && (split_in d request files x.file x.row == split_in d request files x.file y.row)) (other_numbers x.file y.file l)
  apart_not x y k e (inr h) =
      let same : (x.file == y.file) ≡ true = same_numbers x.file y.file h.0 in
      let up : split_in d request files x.file x.row < split_in d request files x.file y.row =
      subst (λ f. split_in d request files x.file x.row < split_in d request files f y.row) (sym h.0) (omega (arith, e, h.1)) in
      ap (λ b. b && (split_in d request files x.file x.row == split_in d request files x.file y.row)) same ∙ other_numbers (split_in d request files x.file x.row) (split_in d request files x.file y.row) up

  alike : (file k : ℕ) (v w : Row) → v.0 ≡ file → w.0 ≡ file → split_in d request files file v.1.0 ≡ k → split_in d request files file w.1.0 ≡ k → beside (item_from v) (item_from w) ≡ true
  alike file k v w p q e f =
      let same : (v.0 == w.0) ≡ true = same_numbers v.0 w.0 (p ∙ sym q) in
      let one : split_in d request files v.0 v.1.0 ≡ k = ap (λ z. split_in d request files z v.1.0) p ∙ e in
      let two : split_in d request files v.0 w.1.0 ≡ k = ap (λ z. split_in d request files z w.1.0) p ∙ f in
      ap (λ b. b && (split_in d request files v.0 v.1.0 == split_in d request files v.0 w.1.0)) same ∙ same_numbers (split_in d request files v.0 v.1.0) (split_in d request files v.0 w.1.0) (one ∙ sym two)

  joined : (x : Item) (k : ℕ) (gs : List (List Item)) → split_in d request files x.file x.row ≡ k → LeaveOff x.file k gs → join_first beside x gs ≡ (x ∷ []) ∷ gs
  joined x k [] e h = refl
  joined x k ([] ∷ gs) e h = absurd h
  joined x k ((y ∷ ys) ∷ gs) e h = ap (λ b. if b then (x ∷ y ∷ ys) ∷ gs else (x ∷ []) ∷ (y ∷ ys) ∷ gs) (apart_not x y k e h)

  -- the rows of one split, before items of others
  one_group : (file k : ℕ) (x : drive.Item) (xs : List drive.Item) (rest : List Item) → OfSplit (split_in d request files file) k (x ∷ xs) → LeaveOff file k (grouped beside rest)
      → grouped beside (group_items (file, x ∷ xs) ++ rest) ≡ group_items (file, x ∷ xs) ∷ grouped beside rest
  one_group file k x [] rest h off = joined (item_from (file, x)) k (grouped beside rest) h.0 off
  one_group file k x (y ∷ ys) rest h off =
      ap (join_first beside (item_from (file, x))) (one_group file k y ys rest h.1 off)
      ∙ ap (λ b. if b then (item_from (file, x) ∷ group_items (file, y ∷ ys)) ∷ grouped beside rest else (item_from (file, x) ∷ []) ∷ group_items (file, y ∷ ys) ∷ grouped beside rest)
      (alike file k (file, x) (file, y) refl refl h.0 h.1.0)

  -- the first of groups of later splits
  apart_next : (f c : ℕ) (file k : ℕ) (x : drive.Item) → IsNext f (c + 1) file k → split_in d request files file x.0 ≡ k → IsApart f c (item_from (file, x))
  apart_next f c file k x (inl l) e = inl l
  apart_next f c file k x (inr h) e = inr (h.0, omega (arith, h.1, e))

  leave_groups : (f c : ℕ) (gs : List (drive.Group drive.Item)) → KeyedFrom (split_in d request files) f (c + 1) gs → AreClean (drive.flattened gs) → LeaveOff f c (map group_items gs)
  leave_groups f c [] h clean = tt
  leave_groups f c ((file, []) ∷ gs) h clean = absurd h
  leave_groups f c ((file, x ∷ xs) ∷ gs) h clean = let r = h clean.0 in apart_next f c file r.0 x r.1 r.2.0

  clean_rest : (g : drive.Group drive.Item) (gs : List (drive.Group drive.Item)) → AreClean (drive.flattened (g ∷ gs)) → AreClean (drive.flattened gs)
  clean_rest g gs h = (clean_parts (drive.placed g) (drive.flattened gs) h).1

  -- ---- groups of splits that follow each other
  -- their items are cut into them
  pub cut_alone : (f c : ℕ) (gs : List (drive.Group drive.Item)) → KeyedFrom (split_in d request files) f c gs → AreClean (drive.flattened gs) → grouped beside (items_from (drive.flattened gs)) ≡ map group_items gs
  cut_alone f c [] h clean = refl
  cut_alone f c ((file, []) ∷ gs) h clean = absurd h
  cut_alone f c ((file, x ∷ xs) ∷ gs) h clean =
      let r = h clean.0 in
      let behind : AreClean (drive.flattened gs) = clean_rest (file, x ∷ xs) gs clean in
      let rest = cut_alone file (r.0 + 1) gs r.3 behind in
      let off : LeaveOff file r.0 (grouped beside (items_from (drive.flattened gs))) = subst (LeaveOff file r.0) (sym rest) (leave_groups file r.0 gs r.3 behind) in
      ap (grouped beside) (items_append (drive.placed (file, x ∷ xs)) (drive.flattened gs))
      ∙ one_group file r.0 x xs (items_from (drive.flattened gs)) r.2 off
      ∙ ap (λ zs. group_items (file, x ∷ xs) ∷ zs) rest

-- ---- what a drive gives, as far as the limit allows

module _ (d : DataType) (request : ScanRequest) (a : FileAsk) (asks : AsksFor d request a) (files : List ToldFile) where
  pub all_keyed : KeyedFrom (split_in d request files) 0 0 (drive.answer (map (tale_of a) files))
  all_keyed = subst (λ z. KeyedFrom (split_in d request files) 0 0 (drive.answer (map (tale_of z) files))) (sym asks.is) (answer_keyed d request files (record { is = refl; askable = asks.askable }))

  -- clean groups of a drive in order, as chunks with these items, are split where the files are
  pub given_splits : (limit : Option ℕ) (gs : List (drive.Group drive.Item)) (chunks : List ChunkData) → gs ≡ drive.limited limit (drive.answer (map (tale_of a) files)) → AreClean (drive.flattened gs)
      → map chunk_items chunks ≡ map group_items gs → given chunks ≡ items_from (drive.flattened gs) → map chunk_items chunks ≡ cut d request files (given chunks)
  given_splits limit gs chunks e clean same items =
      let keyed : KeyedFrom (split_in d request files) 0 0 gs =
      subst (KeyedFrom (split_in d request files) 0 0) (sym e) (keyed_limited (split_in d request files) limit 0 0 (drive.answer (map (tale_of a) files)) all_keyed) in
      same ∙ sym (cut_alone d request files 0 0 gs keyed clean) ∙ ap (cut d request files) (sym items)
