-- The answer of files, file by file, and its groups, which are those of the files one after another.
use Rattle.std.proofs.Common.{◌≡◌, ◌<◌, ◌+◌, ℕ, suc, Bool, true, false, List, [], ◌∷◌, ◌++◌, get_or, inl, inr, refl, sym, ap, ◌∙◌, arith}
use Rattle.std.specs.Prelude.{◌==◌, ◌&&◌, None, if◌then◌else◌}
use Rattle.scan_values.specs.DataType.{DataType}
use Rattle.scan_expr.specs.declared.request.ScanRequest.{ScanRequest}
use Rattle.scan_opener.specs.Opener.{skip}
use Rattle.scan_multi.specs.Answer.{Item, ToldFile, part_of}
use Rattle.scan_multi.specs.Chunks.{grouped, is_beside, join_first}
use Rattle.scan_multi.proofs.Chosen.{AreOf, IsFrom, RiseFrom}
use Rattle.scan_multi.proofs.Keys.{split_in}
use Rattle.scan_multi.proofs.Orders.{other_numbers}

-- ---- items of which the first are not beside the others
module _ (same : Item → Item → Bool) where
  -- an item is not beside the first of others
  abbrev pub IsOff : Item → List Item → Type 0
  IsOff x [] = Unit {0}
  IsOff x (y ∷ ys) = same x y ≡ false

  -- none of them is
  abbrev pub AreOff : List Item → List Item → Type 0
  AreOff [] ys = Unit {0}
  AreOff (x ∷ xs) ys = IsOff x ys × AreOff xs ys

  -- groups that start with this item
  abbrev BeginWith : Item → List (List Item) → Type 0
  BeginWith x [] = ⊥
  BeginWith x ([] ∷ gs) = ⊥
  BeginWith x ((y ∷ ys) ∷ gs) = y ≡ x

  joined_begin : (x : Item) (gs : List (List Item)) → BeginWith x (join_first same x gs)
  joined_begin x [] = refl
  joined_begin x ([] ∷ gs) = refl
  joined_begin x ((y ∷ ys) ∷ gs) = go (same x y)
    where
      go : (b : Bool) → BeginWith x (if b then (x ∷ y ∷ ys) ∷ gs else (x ∷ []) ∷ (y ∷ ys) ∷ gs)
      go true = refl
      go false = refl

  joined_alone : (x y : Item) (gs : List (List Item)) → same x y ≡ false → BeginWith y gs → join_first same x gs ≡ (x ∷ []) ∷ gs
  joined_alone x y [] e b = absurd b
  joined_alone x y ([] ∷ gs) e b = absurd b
  joined_alone x y ((z ∷ zs) ∷ gs) e b = ap (λ t. if t then (x ∷ z ∷ zs) ∷ gs else (x ∷ []) ∷ (z ∷ zs) ∷ gs) (ap (same x) b ∙ e)

  joined_before : (x y : Item) (gs hs : List (List Item)) → BeginWith y gs → join_first same x (gs ++ hs) ≡ join_first same x gs ++ hs
  joined_before x y [] hs b = absurd b
  joined_before x y ([] ∷ gs) hs b = absurd b
  joined_before x y ((z ∷ zs) ∷ gs) hs b = go (same x z)
    where
      go : (t : Bool) → (if t then (x ∷ z ∷ zs) ∷ gs ++ hs else (x ∷ []) ∷ (z ∷ zs) ∷ gs ++ hs) ≡ (if t then (x ∷ z ∷ zs) ∷ gs else (x ∷ []) ∷ (z ∷ zs) ∷ gs) ++ hs
      go true = refl
      go false = refl

  last_alone : (x : Item) (ys : List Item) → IsOff x ys → join_first same x (grouped same ys) ≡ (x ∷ []) ∷ grouped same ys
  last_alone x [] e = refl
  last_alone x (y ∷ ys) e = joined_alone x y (grouped same (y ∷ ys)) e (joined_begin y (grouped same ys))

  -- they are grouped apart
  pub grouped_apart : (xs ys : List Item) → AreOff xs ys → grouped same (xs ++ ys) ≡ grouped same xs ++ grouped same ys
  grouped_apart [] ys h = refl
  grouped_apart (x ∷ []) ys h = last_alone x ys h.0
  grouped_apart (x ∷ y ∷ xs) ys h =
      ap (join_first same x) (grouped_apart (y ∷ xs) ys h.1)
      ∙ joined_before x y (grouped same (y ∷ xs)) (grouped same ys) (joined_begin y (grouped same xs))

-- ---- files
-- a file at no place
abbrev pub no_file : ToldFile
no_file = record { given = skip; store = λ id. None }

module _ (d : DataType) (request : ScanRequest) (files : List ToldFile) where
  -- the items of the file at a place
  abbrev pub part_at : ℕ → List Item
  part_at k = part_of d request k (get_or files k no_file).store (get_or files k no_file).given

  -- files from a place on
  abbrev pub AreFrom : ℕ → List ToldFile → Type 0
  AreFrom place fs = (k : ℕ) (f : ToldFile) → get_or files (place + k) f ≡ get_or fs k f

  pub first_is : (place : ℕ) (f : ToldFile) (fs : List ToldFile) → AreFrom place (f ∷ fs) → f ≡ get_or files place no_file
  first_is place f fs h = sym (ap (λ k. get_or files k no_file) (let z : place ≡ place + 0 = omega arith in z) ∙ h 0 no_file)

  pub others_from : (place : ℕ) (f : ToldFile) (fs : List ToldFile) → AreFrom place (f ∷ fs) → AreFrom (place + 1) fs
  others_from place f fs h = λ k e. ap (λ j. get_or files j e) (let z : place + 1 + k ≡ place + suc k = omega arith in z) ∙ h (suc k) e

  other_file : (x y : Item) → x.file < y.file → is_beside d request files x y ≡ false
  other_file x y l = ap (λ b. b && (split_in d request files x.file x.row == split_in d request files x.file y.row)) (other_numbers x.file y.file l)

  first_off : (place : ℕ) (x : Item) (ys : List Item) → x.file ≡ place → RiseFrom (place + 1) 0 ys → IsOff (is_beside d request files) x ys
  first_off place x [] e h = tt
  first_off place x (y ∷ ys) e h = go h.0
    where
      go : IsFrom (place + 1) 0 y → is_beside d request files x y ≡ false
      go (inl l) = other_file x y (omega (arith, l, e))
      go (inr p) = other_file x y (omega (arith, p.0, e))

  pub files_off : (place : ℕ) (xs ys : List Item) → AreOf place xs → RiseFrom (place + 1) 0 ys → AreOff (is_beside d request files) xs ys
  files_off place [] ys o h = tt
  files_off place (x ∷ xs) ys o h = (first_off place x ys o.0 h, files_off place xs ys o.1 h)
