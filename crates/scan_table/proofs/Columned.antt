-- The rows of columns.
use Rattle.std.proofs.Common.{◌≡◌, ℕ, ℤ, zero, suc, ◌+◌, ◌-◌, ◌≤◌, Bool, true, false, cond, List, [], ◌∷◌, ◌++◌, length, get_or, map, take, drop, refl, sym, ap, ◌∙◌, subst, arith}
use Rattle.std.specs.Borrow.{Bor}
use Rattle.std.specs.Prelude.{◌&&◌, IfOk, IfSome, Option, None, Some, Result, Ok, Err, replicate}
use Rattle.std.specs.List.{list_all, slice_get}
use Rattle.std.proofs.lemmas.List.{length-replicate, length-map, map-append, take_all}
use Rattle.scan_values.specs.Val.{Val, null_val, int_val}
use Rattle.scan_spelling.specs.LeafColumns.{text_or_null}
use Rattle.scan_values.specs.declared.memory.NoMemory.{NoMemory}
use Rattle.scan_columns.specs.Access.{AreFieldsIn}
use Rattle.scan_columns.specs.Cells.{vals_in}
use Rattle.scan_columns.specs.Nested.{AreLong, Deep, heads, rows_of, struct_of}
use Rattle.scan_columns.specs.declared.cells.Cells.{Cells}
use Rattle.scan_groups.specs.Cells.{cell_val}
use Rattle.scan_groups.specs.Order.{is_scalar}
use Rattle.scan_groups.specs.Rows.{Row}
use Rattle.scan_groups.specs.Running.{AreOf, HasRead, HavePlaces, IsUnder, measures_in, reads_in}
use Rattle.scan_groups.specs.Totals.{val_at}
use Rattle.scan_groups.specs.declared.cell.Cell.{Cell}
use Rattle.scan_groups.specs.declared.groups.Groups.{Groups}
use Rattle.scan_groups.specs.declared.measure.Measured.{Measured}
use Rattle.scan_groups.proofs.Totalling.{under_ends}
use Rattle.scan_table.specs.Rows.{row_in}
use Rattle.scan_table.specs.Totalled.{AreRead, HasAdded, HaveColumns, column_in, column_rows, rows_in}
use Rattle.scan_table.proofs.Rowing.{listed-vals}

-- ---- cells that are lent, one after the other
abbrev pub first_or : Val → Option Val → Val
first_or d None = d
first_or d (Some v) = v

slice_more : (vs : List Val) (i : ℕ) (v : Val) → Some v ≡ slice_get vs i → take (suc i) vs ≡ take i vs ++ v ∷ []
slice_more [] i v h = absurd (let z : Some v ≡ None = h in cc)
slice_more (x ∷ xs) zero v h = ap (λ y. y ∷ []) (let z : Some v ≡ Some x = h in sym (ap (first_or v) z))
slice_more (x ∷ xs) (suc i) v h = ap (λ ys. x ∷ ys) (slice_more xs i v h)

scalars_push : (vs : List Val) (v : Val) → list_all is_scalar vs ≡ true → is_scalar v ≡ true → list_all is_scalar (vs ++ v ∷ []) ≡ true
scalars_push [] v h s = rw s refl
scalars_push (w ∷ ws) v h s = both (is_scalar w) (list_all is_scalar ws) (list_all is_scalar (ws ++ v ∷ [])) h (λ r. scalars_push ws v r s)
  where
    both : (a b c : Bool) → (a && b) ≡ true → (b ≡ true → c ≡ true) → (a && c) ≡ true
    both true b c k f = f k
    both false b c k f = k

pub record AreLent (cells : List Cell) (vs : List Val) (i : ℕ) : Type 0 where
  pub values : map cell_val cells ≡ take i vs
  pub scalars : list_all is_scalar (map cell_val cells) ≡ true

pub none_lent : (vs : List Val) → AreLent [] vs 0
none_lent vs = record { values = refl; scalars = refl }

pub lent_more : (cells next : List Cell) (x : Cell) (vs : List Val) (i : ℕ) (v : Val) → next ≡ cells ++ x ∷ [] → cell_val x ≡ v → is_scalar v ≡ true → Some v ≡ slice_get vs i → AreLent cells vs i → AreLent next vs (i + 1)
lent_more cells next x vs i v put e s at h =
    let n : suc i ≡ i + 1 = omega arith in
    let all : map cell_val next ≡ map cell_val cells ++ v ∷ [] = ap (map cell_val) put ∙ map-append cell_val cells (x ∷ []) ∙ ap (λ y. map cell_val cells ++ y ∷ []) e in
    record {
      values = all ∙ ap (λ ys. ys ++ v ∷ []) h.values ∙ sym (slice_more vs i v at) ∙ ap (λ k. take k vs) n;
      scalars = subst (λ ys. list_all is_scalar ys ≡ true) (sym all) (scalars_push (map cell_val cells) v h.scalars s);
    }

pub scalar_int : (b : Bool) (v : Val) → is_scalar v ≡ true → is_scalar (cond b v null_val) ≡ true
scalar_int true v h = h
scalar_int false v h = refl

pub scalar_text : (o : Option (List ℕ)) → is_scalar (text_or_null o) ≡ true
scalar_text None = refl
scalar_text (Some t) = refl

pub ints_scalar : (zs : List ℤ) → list_all is_scalar (map int_val zs) ≡ true
ints_scalar [] = refl
ints_scalar (z ∷ zs) = ints_scalar zs

-- ---- structs are the rows of columns
pub structs_rows : (keys : ℕ) (vss : List (List Val)) → rows_in keys (map struct_of vss) ≡ map (λ (vs : List Val). record { key = take keys vs; read = drop keys vs }) vss
structs_rows keys [] = refl
structs_rows keys (vs ∷ vss) = λ i. one i ∷ structs_rows keys vss i
  where
    made : List Val → Row
    made us = record { key = take keys us; read = drop keys us }

    one : row_in keys (struct_of vs) ≡ made vs
    one = ap made (listed-vals vs)

pub columns_rows : (keys n : ℕ) (cs : List (List Val)) (vs : List Val) → vs ≡ map struct_of (rows_of n cs) → rows_in keys vs ≡ column_rows keys n cs
columns_rows keys n cs vs e = ap (rows_in keys) e ∙ structs_rows keys (rows_of n cs)

-- ---- keys
pub keyless : (n : ℕ) (cs : List (List Val)) → map (λ (row : Row). row.key) (column_rows 0 n cs) ≡ replicate n []
keyless zero cs = refl
keyless (suc n) cs = ap (λ ks. [] ∷ ks) (keyless n (map (drop 1) cs))

pub keyed : (n : ℕ) (c : List Val) (cs : List (List Val)) → length c ≡ n → map (λ (row : Row). row.key) (column_rows 1 n (c ∷ cs)) ≡ map (λ (v : Val). v ∷ []) c
keyed zero [] cs e = refl
keyed zero (v ∷ c) cs e = absurd (omega (arith, e))
keyed (suc n) [] cs e = absurd (omega (arith, e))
keyed (suc n) (v ∷ c) cs e = ap (λ ks. (v ∷ []) ∷ ks) (keyed n c (map (drop 1) cs) (omega (arith, e)))

-- ---- what is read
rest_long : (n : ℕ) (cs : List (List Val)) → AreLong (suc n) cs → AreLong n (map (drop 1) cs)
rest_long n [] h = tt
rest_long n ([] ∷ cs) h = absurd (let e = h.0 in omega (arith, e))
rest_long n ((v ∷ c) ∷ cs) h = ((let e = h.0 in omega (arith, e)), rest_long n cs h.1)

no_column : (cs : List (List Val)) (p : ℕ) → AreLong 0 cs → get_or cs p [] ≡ []
no_column [] zero h = refl
no_column [] (suc p) h = refl
no_column ([] ∷ cs) zero h = refl
no_column ((v ∷ c) ∷ cs) zero h = absurd (let e = h.0 in omega (arith, e))
no_column (c ∷ cs) (suc p) h = no_column cs p h.1

column_cons : (n : ℕ) (cs : List (List Val)) (p : ℕ) (ns : List Val) → AreLong (suc n) cs → get_or (heads cs) p null_val ∷ get_or (map (drop 1) cs) p ns ≡ get_or cs p (null_val ∷ ns)
column_cons n [] zero ns h = refl
column_cons n [] (suc p) ns h = refl
column_cons n ([] ∷ cs) p ns h = absurd (let e = h.0 in omega (arith, e))
column_cons n ((v ∷ c) ∷ cs) zero ns h = refl
column_cons n ((v ∷ c) ∷ cs) (suc p) ns h = column_cons n cs p ns h.1

read_column : (n : ℕ) (cs : List (List Val)) (p : ℕ) → AreLong n cs → map (λ (vs : List Val). get_or vs p null_val) (rows_of n cs) ≡ get_or cs p (replicate n null_val)
read_column zero cs p h = sym (no_column cs p h)
read_column (suc n) cs p h = ap (λ ws. get_or (heads cs) p null_val ∷ ws) (read_column n (map (drop 1) cs) p (rest_long n cs h)) ∙ column_cons n cs p (replicate n null_val) h

nothing_read : (rows : List Row) → map (val_at None) rows ≡ replicate (length rows) null_val
nothing_read [] = refl
nothing_read (row ∷ rows) = ap (λ vs. null_val ∷ vs) (nothing_read rows)

rows_long : (keys n : ℕ) (cs : List (List Val)) → length (column_rows keys n cs) ≡ n
rows_long keys zero cs = refl
rows_long keys (suc n) cs = ap suc (rows_long keys n (map (drop 1) cs))

reads_of : (keys p : ℕ) (vss : List (List Val)) → map (val_at (Some p)) (map (λ (vs : List Val). record { key = take keys vs; read = drop keys vs }) vss) ≡ map (λ (vs : List Val). get_or vs p null_val) (map (drop keys) vss)
reads_of keys p [] = refl
reads_of keys p (vs ∷ vss) = ap (λ ws. get_or (drop keys vs) p null_val ∷ ws) (reads_of keys p vss)

drop_none : (vss : List (List Val)) → map (drop 0) vss ≡ vss
drop_none [] = refl
drop_none (vs ∷ vss) = ap (λ ws. vs ∷ ws) (drop_none vss)

drop_first : (n : ℕ) (c : List Val) (cs : List (List Val)) → length c ≡ n → map (drop 1) (rows_of n (c ∷ cs)) ≡ rows_of n cs
drop_first zero c cs e = refl
drop_first (suc n) [] cs e = absurd (omega (arith, e))
drop_first (suc n) (v ∷ c) cs e = ap (λ ws. heads cs ∷ ws) (drop_first n c (map (drop 1) cs) (omega (arith, e)))

pub read_keyless : (n : ℕ) (cs : List (List Val)) → AreLong n cs → AreRead n cs (column_rows 0 n cs)
read_keyless n cs h None = nothing_read (column_rows 0 n cs) ∙ ap (λ k. replicate k null_val) (rows_long 0 n cs)
read_keyless n cs h (Some p) = reads_of 0 p (rows_of n cs) ∙ ap (map (λ (vs : List Val). get_or vs p null_val)) (drop_none (rows_of n cs)) ∙ read_column n cs p h

pub read_keyed : (n : ℕ) (c : List Val) (cs : List (List Val)) → length c ≡ n → AreLong n cs → AreRead n cs (column_rows 1 n (c ∷ cs))
read_keyed n c cs e h None = nothing_read (column_rows 1 n (c ∷ cs)) ∙ ap (λ k. replicate k null_val) (rows_long 1 n (c ∷ cs))
read_keyed n c cs e h (Some p) = reads_of 1 p (rows_of n (c ∷ cs)) ∙ ap (map (λ (vs : List Val). get_or vs p null_val)) (drop_first n c cs e) ∙ read_column n cs p h

pub column_long : (place : Option ℕ) (n : ℕ) (cs : List (List Val)) → AreLong n cs → length (column_in place n cs) ≡ n
column_long None n cs h = length-replicate n null_val
column_long (Some zero) n [] h = length-replicate n null_val
column_long (Some (suc p)) n [] h = length-replicate n null_val
column_long (Some zero) n (c ∷ cs) h = h.0
column_long (Some (suc p)) n (c ∷ cs) h = column_long (Some p) n cs h.1

-- ---- all measures read the rows
pub record HaveReadTo (given : List ℕ) (n : ℕ) (cs : List (List Val)) (measure : ℕ) (old now : Groups) : Type 0 where
  pub measures : measures_in now ≡ measures_in old
  pub under : (keys : ℕ) (ms : List Measured) (rows run : List Row) → IsUnder keys ms rows run given 0 old → AreRead n cs run → IsUnder keys ms rows run given measure now

pub none_read : (given : List ℕ) (n : ℕ) (cs : List (List Val)) (g : Groups) → HaveReadTo given n cs 0 g g
none_read given n cs g = record { measures = refl; under = λ keys ms rows run h r. h }

pub measure_read : (given : List ℕ) (n : ℕ) (cs : List (List Val)) (measure : ℕ) (old now next : Groups) → HaveReadTo given n cs measure old now
    → HasRead measure given (column_in (reads_in (measures_in now) measure) n cs) now next → HaveReadTo given n cs (measure + 1) old next
measure_read given n cs measure old now next h one = record {
  measures = one.measures ∙ h.measures;
  under = λ keys ms rows run u r.
      let v = h.under keys ms rows run u r in
      one.reads keys ms rows run v (r (reads_in ms measure) ∙ ap (λ ns. column_in (reads_in ns measure) n cs) (sym v.measures));
}

pub all_read : (given : List ℕ) (n : ℕ) (cs : List (List Val)) (measure : ℕ) (old new : Groups) → length new.tallies.items ≤ measure → HaveReadTo given n cs measure old new
    → (keys : ℕ) (ms : List Measured) (rows run : List Row) → IsUnder keys ms rows run given 0 old → AreRead n cs run → AreOf keys ms (rows ++ run) new
all_read given n cs measure old new le h keys ms rows run u r = under_ends keys ms rows run given measure new (h.under keys ms rows run u r) le

-- ---- groups with further rows, or as they were
pub added_keyless : (given : List ℕ) (n : ℕ) (cs : List (List Val)) (old mid new : Groups) → HavePlaces 0 (replicate n []) given old mid → AreLong n cs
    → ((keys : ℕ) (ms : List Measured) (rows run : List Row) → IsUnder keys ms rows run given 0 mid → AreRead (length given) cs run → AreOf keys ms (rows ++ run) new) → HasAdded true 0 (column_rows 0 n cs) old new
added_keyless given n cs old mid new places long all = λ ms rows h.
    let m : n ≡ length given = sym (places.even ∙ length-replicate n []) in
    all 0 ms rows (column_rows 0 n cs) (places.begins ms rows (column_rows 0 n cs) h (keyless n cs)) (subst (λ k. AreRead k cs (column_rows 0 n cs)) m (read_keyless n cs long))

pub added_keyed : (given : List ℕ) (c : List Val) (cs : List (List Val)) (old mid new : Groups) → ((keys : ℕ) → HavePlaces keys (map (λ (v : Val). v ∷ []) c) given old mid) → AreLong (length c) cs
    → ((keys : ℕ) (ms : List Measured) (rows run : List Row) → IsUnder keys ms rows run given 0 mid → AreRead (length given) cs run → AreOf keys ms (rows ++ run) new) → HasAdded true 1 (column_rows 1 (length c) (c ∷ cs)) old new
added_keyed given c cs old mid new places long all = λ ms rows h.
    let n = length c in
    let run = column_rows 1 n (c ∷ cs) in
    let m : n ≡ length given = sym ((places 1).even ∙ length-map c (λ (v : Val). v ∷ [])) in
    all 1 ms rows run ((places 1).begins ms rows run h (keyed n c cs refl)) (subst (λ k. AreRead k cs run) m (read_keyed n c cs refl long))

pub same_rows : (done : Bool) (keys : ℕ) (run other : List Row) (old new : Groups) → run ≡ other → HasAdded done keys run old new → HasAdded done keys other old new
same_rows done keys run other old new e h = subst (λ r. HasAdded done keys r old new) e h

-- ---- answers of calls
pub keyless_ok : (r : Result (Unit {0}) NoMemory) (given : List ℕ) (n : ℕ) (cs : List (List Val)) (old mid new : Groups) → HavePlaces 0 (replicate n []) given old mid → AreLong n cs
    → ((keys : ℕ) (ms : List Measured) (rows run : List Row) → IsUnder keys ms rows run given 0 mid → AreRead (length given) cs run → IfOk r (λ _. AreOf keys ms (rows ++ run) new))
    → IfOk r (λ _. HasAdded true 0 (column_rows 0 n cs) old new)
keyless_ok (Ok u) given n cs old mid new places long all = added_keyless given n cs old mid new places long all
keyless_ok (Err f) given n cs old mid new places long all = tt

pub have_columns : (r : Option (Bor (List Cells))) (d : Deep) (vs : List Val) → d.items ≡ vs → IfSome r (λ cs. AreFieldsIn d cs.now) → IfSome r (λ cs. HaveColumns cs.now vs)
have_columns None d vs e h = tt
have_columns (Some cs) d vs e h = record {
  long = subst (λ xs. AreLong (length xs) (map vals_in cs.now)) e h.long;
  rows = sym e ∙ h.rows ∙ ap (λ xs. map struct_of (rows_of (length xs) (map vals_in cs.now))) e;
}

-- ---- the first of several columns, and the others
pub split_first : (cs : List Cells) (k : Cells) → 1 ≤ length cs → k ≡ get_or cs 0 k → cs ≡ k ∷ take (length cs - 1) (drop 1 cs)
split_first [] k le e = absurd (omega (arith, le))
split_first (x ∷ xs) k le e = λ i. sym e i ∷ sym (take_all (length (x ∷ xs) - 1) xs (omega arith)) i

pub is_one : (n : ℕ) → (n ≡ 0 → ⊥) → n ≤ 1 → 1 ≡ n
is_one zero f le = absurd (f refl)
is_one (suc zero) f le = refl
is_one (suc (suc n)) f le = absurd (omega (arith, le))
