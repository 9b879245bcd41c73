-- Rows that groups got, one after the other.
use Rattle.std.proofs.Common.{◌≡◌, ℕ, zero, suc, ◌+◌, ◌-◌, ◌≤◌, min, true, List, [], ◌∷◌, ◌++◌, length, map, take, drop, flat_map, slice_range, Result, refl, sym, ap, ◌∙◌, subst, arith, append_assoc, append-nil}
use Rattle.std.specs.Prelude.{All, IfOk}
use Rattle.std.proofs.lemmas.List.{take_all, take_min, drop_min, map-append, length-map, take-map, drop-map}
use Rattle.scan_values.specs.DataType.{DataType}
use Rattle.scan_values.specs.Val.{Val, vals_of}
use Rattle.scan_values.specs.Values.{val_of}
use Rattle.scan_values.specs.declared.value.Value.{Value}
use Rattle.scan_groups.specs.Rows.{Row}
use Rattle.scan_groups.specs.Running.{AreOf}
use Rattle.scan_groups.specs.declared.groups.Groups.{Groups}
use Rattle.scan_groups.specs.declared.measure.Measured.{Measured}
use Rattle.scan_multi.specs.Output.{ChunkData}
use Rattle.scan_table.specs.Rows.{fields_in, listed, row_in}
use Rattle.scan_table.specs.Totalled.{HasKey, has_keys, rows_in}

pub listed-vals : (vs : List Val) → listed (vals_of vs) ≡ vs
listed-vals [] = refl
listed-vals (v ∷ vs) = ap (λ us. v ∷ us) (listed-vals vs)

-- ---- a row's parts
pub row_parts : (keys : ℕ) (v : Val) (fields : List Value) (at : ℕ) (head rest : List Value) → map val_of fields ≡ fields_in v → at ≡ min keys (length fields) → head ≡ take at fields → rest ≡ drop at fields
    → (map val_of head ≡ (row_in keys v).key) × (map val_of rest ≡ (row_in keys v).read)
row_parts keys v fields at head rest e a h r =
    let n : length fields ≡ length (fields_in v) = sym (length-map fields val_of) ∙ ap length e in
    let m : at ≡ min keys (length (fields_in v)) = a ∙ ap (min keys) n in (
      ap (map val_of) h ∙ sym (take-map val_of at fields) ∙ ap (take at) e ∙ ap (λ k. take k (fields_in v)) m ∙ take_min keys (fields_in v),
      ap (map val_of) r ∙ sym (drop-map val_of at fields) ∙ ap (drop at) e ∙ ap (λ k. drop k (fields_in v)) m ∙ drop_min keys (fields_in v),
    )

-- a row that groups got by its parts
pub row_added : {X E : Type 0} (r : Result X E) (keys : ℕ) (ms : List Measured) (rows : List Row) (key read : List Val) (v : Val) (g : Groups) → key ≡ (row_in keys v).key → read ≡ (row_in keys v).read
    → IfOk r (λ _. AreOf keys ms (rows ++ record { key = key; read = read } ∷ []) g) → IfOk r (λ _. AreOf keys ms (rows ++ row_in keys v ∷ []) g)
row_added r keys ms rows key read v g k e h =
    subst (λ (x : List Val). IfOk r (λ _. AreOf keys ms (rows ++ record { key = (row_in keys v).key; read = x } ∷ []) g)) e
    (subst (λ (x : List Val). IfOk r (λ _. AreOf keys ms (rows ++ record { key = x; read = read } ∷ []) g)) k h)

-- ---- the rows of parts, one part after the other
module _ {X : Type 0} (keys : ℕ) (f : X → List Row) (P : X → Type 0) where
  -- groups of the rows of the parts before the rest of them
  pub record HasParts (xs rest : List X) (old now : Groups) : Type 0 where
    pub rows : (ms : List Measured) (rows : List Row) → AreOf keys ms rows old → All P xs
        → (before : List Row) × AreOf keys ms (rows ++ before) now × All P rest × (before ++ flat_map f rest ≡ flat_map f xs)

  pub no_parts : (xs : List X) (g : Groups) → HasParts xs xs g g
  no_parts xs g = record { rows = λ ms rows h k. ([], subst (λ ys. AreOf keys ms ys g) (sym (append-nil rows)) h, k, refl) }

  pub part_more : (xs left rest : List X) (x : X) (old now next : Groups) → left ≡ x ∷ rest → HasParts xs left old now
      → ((ms : List Measured) (rows : List Row) → AreOf keys ms rows now → P x → AreOf keys ms (rows ++ f x) next) → HasParts xs rest old next
  part_more xs left rest x old now next e before one = record {
    rows = λ ms rows h k.
        let had = before.rows ms rows h k in
        let good : All P (x ∷ rest) = subst (All P) e had.2 in
        let all : (had.0 ++ f x) ++ flat_map f rest ≡ flat_map f xs = append_assoc had.0 (f x) (flat_map f rest) ∙ ap (λ ys. had.0 ++ flat_map f ys) (sym e) ∙ had.3 in
        (had.0 ++ f x, subst (λ ys. AreOf keys ms ys next) (append_assoc rows had.0 (f x)) (one ms (rows ++ had.0) had.1 (good 0 x (omega arith))), (λ n d lt. good (suc n) d (omega (arith, lt))), all);
  }

  pub all_parts : (xs rest : List X) (old now : Groups) → rest ≡ [] → HasParts xs rest old now → (ms : List Measured) (rows : List Row) → AreOf keys ms rows old → All P xs → AreOf keys ms (rows ++ flat_map f xs) now
  all_parts xs rest old now e h ms rows before k =
      let had = h.rows ms rows before k in
      let all : had.0 ≡ flat_map f xs = sym (append-nil had.0) ∙ ap (λ ys. had.0 ++ flat_map f ys) (sym e) ∙ had.3 in
      subst (λ ys. AreOf keys ms (rows ++ ys) now) all had.1

abbrev pub value_row : ℕ → Value → List Row
value_row keys v = row_in keys (val_of v) ∷ []

-- the first rows of values are those of what is left of them
abbrev pub HasValues : ℕ → List Value → List Value → Groups → Groups → Type 0
HasValues keys = HasParts keys (value_row keys) (HasKey keys)

pub value_rows : (keys : ℕ) (vs : List Value) → flat_map (value_row keys) vs ≡ rows_in keys (map val_of vs)
value_rows keys [] = refl
value_rows keys (v ∷ vs) = ap (λ xs. row_in keys (val_of v) ∷ xs) (value_rows keys vs)

-- the dtype of a chunk begins with so many scalars
abbrev pub IsKeyed : ℕ → ChunkData → Type 0
IsKeyed keys c = has_keys keys c.values.dtype ≡ true

abbrev pub of_chunk : ℕ → ChunkData → List Row
of_chunk keys c = rows_in keys c.values.items

abbrev pub HasChunks : ℕ → List ChunkData → List ChunkData → Groups → Groups → Type 0
HasChunks keys = HasParts keys (of_chunk keys) (IsKeyed keys)

-- ---- the rows of a column, run by run
pub record HasRows (keys : ℕ) (d : DataType) (vs : List Val) (i : ℕ) (old now : Groups) : Type 0 where
  pub rows : (ms : List Measured) (rows : List Row) → AreOf keys ms rows old → has_keys keys d ≡ true → AreOf keys ms (rows ++ rows_in keys (take i vs)) now

pub no_rows : (keys : ℕ) (d : DataType) (vs : List Val) (g : Groups) → HasRows keys d vs 0 g g
no_rows keys d vs g = record { rows = λ ms rows h k. subst (λ xs. AreOf keys ms xs g) (sym (append-nil rows)) h }

taken : {A : Type 0} (xs : List A) (i k : ℕ) → take (i + k) xs ≡ take i xs ++ take k (drop i xs)
taken xs zero k = ap (λ n. take n xs) (let e : zero + k ≡ k = omega arith in e)
taken [] (suc i) zero = ap (λ n. take n []) (let e : suc i + zero ≡ suc i = omega arith in e)
taken [] (suc i) (suc k) = ap (λ n. take n []) (let e : suc i + suc k ≡ suc (i + suc k) = omega arith in e)
taken (x ∷ xs) (suc i) k = ap (λ n. take n (x ∷ xs)) (let e : suc i + k ≡ suc (i + k) = omega arith in e) ∙ ap (λ ys. x ∷ ys) (taken xs i k)

ranged : {A : Type 0} (xs : List A) (i j : ℕ) → i ≤ j → take j xs ≡ take i xs ++ slice_range xs i j
ranged xs i j le = ap (λ n. take n xs) (let e : j ≡ i + (j - i) = omega (arith, le) in e) ∙ taken xs i (j - i)

pub run_more : (keys : ℕ) (d t : DataType) (vs run : List Val) (i j : ℕ) (old now next : Groups) → i ≤ j → run ≡ slice_range vs i j → t ≡ d → HasRows keys d vs i old now
    → ((ms : List Measured) (rows : List Row) → AreOf keys ms rows now → has_keys keys t ≡ true → AreOf keys ms (rows ++ rows_in keys run) next) → HasRows keys d vs j old next
run_more keys d t vs run i j old now next le e same before one = record {
  rows = λ ms rows h k.
      let first = rows_in keys (take i vs) in
      let parts : rows ++ rows_in keys (take j vs) ≡ (rows ++ first) ++ rows_in keys run =
      ap (λ xs. rows ++ rows_in keys xs) (ranged vs i j le ∙ ap (λ xs. take i vs ++ xs) (sym e)) ∙ ap (λ xs. rows ++ xs) (map-append (row_in keys) (take i vs) run) ∙ sym (append_assoc rows first (rows_in keys run)) in
      subst (λ xs. AreOf keys ms xs next) (sym parts) (one ms (rows ++ first) (before.rows ms rows h k) (ap (has_keys keys) same ∙ k));
}

pub all_rows : (keys : ℕ) (d : DataType) (vs : List Val) (i : ℕ) (old now : Groups) → length vs ≤ i → HasRows keys d vs i old now
    → (ms : List Measured) (rows : List Row) → AreOf keys ms rows old → has_keys keys d ≡ true → AreOf keys ms (rows ++ rows_in keys vs) now
all_rows keys d vs i old now le h ms rows before k = subst (λ xs. AreOf keys ms (rows ++ rows_in keys xs) now) (take_all i vs le) (h.rows ms rows before k)

pub none_left : {A : Type 0} (xs : List A) (n : ℕ) → n ≡ length xs → n ≡ 0 → xs ≡ []
none_left [] n e z = refl
none_left (x ∷ xs) n e z = absurd (omega (arith, e, z))
