-- Values without damage, and the marked values that they are.
use Rattle.std.specs.Prelude.{◌≡◌, ℕ, suc, ◌+◌, ℤ, Bool, true, false, ◌&&◌, List, [], ◌∷◌, refl}
use Rattle.std.specs.Coded.{Coded, code_by}
use Rattle.scan_values.specs.Marked.{Marked, lost, null, gone, boolean, integer, text, list, struct, Markeds, none, more, marked_code}

mutual
  pub data Val : Type 0 where
    null_val : Val
    bool_val : Bool → Val
    int_val : ℤ → Val
    text_val : List ℕ → Val
    list_val : Vals → Val
    struct_val : Vals → Val

  pub data Vals : Type 0 where
    no_vals : Vals
    val : Val → Vals → Vals

abbrev pub vals_of : List Val → Vals
vals_of [] = no_vals
vals_of (v ∷ vs) = val v (vals_of vs)

-- the number of nodes
abbrev mutual
  pub val_size : Val → ℕ
  val_size null_val = 1
  val_size (bool_val b) = 1
  val_size (int_val z) = 1
  val_size (text_val s) = 1
  val_size (list_val vs) = suc (vals_size vs)
  val_size (struct_val vs) = suc (vals_size vs)

  pub vals_size : Vals → ℕ
  vals_size no_vals = 0
  vals_size (val v vs) = val_size v + vals_size vs

-- ---- as marked values
abbrev mutual
  pub marked : Val → Marked
  marked null_val = null
  marked (bool_val b) = boolean b
  marked (int_val z) = integer z
  marked (text_val s) = text s
  marked (list_val vs) = list (marked_all vs)
  marked (struct_val vs) = struct (marked_all vs)

  pub marked_all : Vals → Markeds
  marked_all no_vals = none
  marked_all (val v vs) = more (marked v) (marked_all vs)

-- no part is lost or gone
abbrev mutual
  pub is_clean : Marked → Bool
  is_clean lost = false
  is_clean null = true
  is_clean gone = false
  is_clean (boolean b) = true
  is_clean (integer z) = true
  is_clean (text s) = true
  is_clean (list ms) = are_clean ms
  is_clean (struct ms) = are_clean ms

  pub are_clean : Markeds → Bool
  are_clean none = true
  are_clean (more m ms) = is_clean m && are_clean ms

-- a clean marked value, read as a value; of a damaged part null
abbrev mutual
  pub read_marked : Marked → Val
  read_marked lost = null_val
  read_marked null = null_val
  read_marked gone = null_val
  read_marked (boolean b) = bool_val b
  read_marked (integer z) = int_val z
  read_marked (text s) = text_val s
  read_marked (list ms) = list_val (read_all ms)
  read_marked (struct ms) = struct_val (read_all ms)

  pub read_all : Markeds → Vals
  read_all none = no_vals
  read_all (more m ms) = val (read_marked m) (read_all ms)

mutual
  pub is_clean-marked : (v : Val) → is_clean (marked v) ≡ true
  is_clean-marked null_val = refl
  is_clean-marked (bool_val b) = refl
  is_clean-marked (int_val z) = refl
  is_clean-marked (text_val s) = refl
  is_clean-marked (list_val vs) = are_clean-marked vs
  is_clean-marked (struct_val vs) = are_clean-marked vs

  pub are_clean-marked : (vs : Vals) → are_clean (marked_all vs) ≡ true
  are_clean-marked no_vals = refl
  are_clean-marked (val v vs) = rw (is_clean-marked v) (are_clean-marked vs)

mutual
  pub read-marked : (v : Val) → read_marked (marked v) ≡ v
  read-marked null_val = refl
  read-marked (bool_val b) = refl
  read-marked (int_val z) = refl
  read-marked (text_val s) = refl
  read-marked (list_val vs) = λ i. list_val (read-marked_all vs i)
  read-marked (struct_val vs) = λ i. struct_val (read-marked_all vs i)

  pub read-marked_all : (vs : Vals) → read_all (marked_all vs) ≡ vs
  read-marked_all no_vals = refl
  read-marked_all (val v vs) = λ i. val (read-marked v i) (read-marked_all vs i)

and_left : (a b : Bool) → (a && b) ≡ true → a ≡ true
and_left true b h = refl
and_left false b h = h

and_right : (a b : Bool) → (a && b) ≡ true → b ≡ true
and_right true b h = h
and_right false b h = cc

mutual
  pub marked-read : (m : Marked) → is_clean m ≡ true → marked (read_marked m) ≡ m
  marked-read lost h = cc
  marked-read null h = refl
  marked-read gone h = cc
  marked-read (boolean b) h = refl
  marked-read (integer z) h = refl
  marked-read (text s) h = refl
  marked-read (list ms) h = λ i. list (marked-read_all ms h i)
  marked-read (struct ms) h = λ i. struct (marked-read_all ms h i)

  pub marked-read_all : (ms : Markeds) → are_clean ms ≡ true → marked_all (read_all ms) ≡ ms
  marked-read_all none h = refl
  marked-read_all (more m ms) h = λ i. more (marked-read m (and_left (is_clean m) (are_clean ms) h) i)
      (marked-read_all ms (and_right (is_clean m) (are_clean ms) h) i)

-- ---- how a value is kept: as its marked value is
abbrev pub val_code : Coded Val
val_code = code_by Marked marked_code marked read_marked read-marked
