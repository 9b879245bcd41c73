-- Columns by names, cells by columns, and records of a CSV.
use Rattle.std.proofs.Common.{◌≡◌, ℕ, zero, suc, ◌+◌, ◌<◌, ◌≤◌, List, [], ◌∷◌, ◌++◌, map, length, drop, get_or, None, Some, true, false, refl, sym, ap, ◌∙◌, add-one, append-nil, inl, subst, arith}
use Rattle.std.proofs.lemmas.List.{drop_all, map-append, length-map}
use Rattle.std.specs.Prelude.{Option, option_map, option_and_then, slice_get, position, IfSome}
use Rattle.std.specs.Str.{bytes_eq}
use Rattle.csv.specs.Reading.{AreRecords, Reached, ReadRecord, default_config, source_of, strip_bom}
use Rattle.csv.specs.Records.{field_at}
use Rattle.csv.specs.declared.parser.State.TheVariants as st
use Rattle.csv.specs.declared.reader.Reader.{Reader}
use Rattle.csv.proofs.ReadFacts.{rows-end, rows-more}
use Rattle.scan_values.specs.DataType.{DataType, Name}
use Rattle.scan_values.specs.FieldLists.{names_of}
use Rattle.scan_values.specs.Val.{Val, struct_val, vals_of}
use Rattle.scan_values.specs.Values.{val_of}
use Rattle.scan_values.specs.declared.value.Value.{Value}
use Rattle.scan_import.specs.Cells.{cell_in, cells_in, record_in}
use Rattle.scan_import.specs.Csv.{places_in, AreColumns, AreNoColumns, AreRowsOf}
use Rattle.scan_import.specs.CsvReader.{IsPlain, WasRead}
use Rattle.scan_import.specs.Lists.{StopsAt, all_of, known}
use Rattle.scan_import.specs.declared.fault.ImportCause.{ImportCause}
use Rattle.scan_import.specs.declared.fault.ImportCause.TheVariants as cause
use Rattle.scan_import.proofs.Meant.{all_sure, sure_somes}

pub field_there : (fs : List (List ℕ)) (i : ℕ) → i < length fs → None ≡ field_at fs i → ⊥
unfolding field_at
field_there [] i h e = omega (arith, h)
field_there (f ∷ fs) zero h e = cc
field_there (f ∷ fs) (suc i) h e = field_there fs i (omega (arith, h)) e

field_first : (fs : List (List ℕ)) (i : ℕ) (f : List ℕ) → Some f ≡ field_at fs i → drop i fs ≡ f ∷ drop (suc i) fs
unfolding field_at
field_first [] i f e = absurd cc
field_first (g ∷ fs) zero f e = let same : f ≡ g = cc in λ k. sym same k ∷ fs
field_first (g ∷ fs) (suc i) f e = field_first fs i f e

pub field_next : (fs : List (List ℕ)) (i : ℕ) (f : List ℕ) → Some f ≡ field_at fs i → drop i fs ≡ f ∷ drop (i + 1) fs
field_next fs i f e = field_first fs i f e ∙ ap (λ k. f ∷ drop k fs) (sym (add-one i))

-- the place of the name at a place stands before those of the names behind it
pub place_next : (ns names : List Name) (i : ℕ) (n : Name) → drop i ns ≡ n ∷ drop (i + 1) ns → places_in (drop i ns) names ≡ position (bytes_eq n) names ∷ places_in (drop (i + 1) ns) names
place_next ns names i n e = ap (λ ms. places_in ms names) e

pub places_count : (ns names : List Name) (columns : List ℕ) → places_in ns names ≡ map Some columns → length columns ≡ length ns
places_count ns names columns e = sym (length-map columns Some) ∙ (sym (ap length e) ∙ length-map ns (λ n. position (bytes_eq n) names))

cells_first : (ds : List DataType) (cs : List ℕ) (cells : List (List ℕ)) (i : ℕ) (d : DataType) (c : ℕ) → Some d ≡ slice_get ds i → drop i cs ≡ c ∷ drop (suc i) cs
    → cells_in (drop i ds) (drop i cs) cells ≡ option_and_then (cell_in d) (field_at cells c) ∷ cells_in (drop (suc i) ds) (drop (suc i) cs) cells
cells_first [] cs cells i d c h e = absurd cc
cells_first (f ∷ ds) [] cells zero d c h e = absurd cc
cells_first (f ∷ ds) (b ∷ cs) cells zero d c h e =
    let same : d ≡ f = cc in
    let head : b ≡ c = ap (λ xs. get_or xs 0 0) e in
    ap (λ g. option_and_then (cell_in g) (field_at cells b) ∷ cells_in ds cs cells) (sym same) ∙ ap (λ k. option_and_then (cell_in d) (field_at cells k) ∷ cells_in ds cs cells) head
cells_first (f ∷ ds) [] cells (suc i) d c h e = absurd cc
cells_first (f ∷ ds) (b ∷ cs) cells (suc i) d c h e = cells_first ds cs cells i d c h e

-- the columns so far, and a name that is not there
pub stops_here : (made : List ℕ) (i : ℕ) (rest rest' whole : List (Option ℕ)) → rest ≡ None ∷ rest' → map Some made ++ rest ≡ whole → length made ≡ i → StopsAt i whole
stops_here made i rest rest' whole e k n = record {
  front = made;
  rest = rest';
  is = sym k ∙ ap (λ os. map Some made ++ os) e;
  count = n;
}

pub columns_all : (ns wanted names : List Name) (columns : List ℕ) (i : ℕ) → wanted ≡ ns → length wanted ≤ i → map Some columns ++ places_in (drop i wanted) names ≡ places_in wanted names → places_in ns names ≡ map Some columns
columns_all ns wanted names columns i e h k =
    ap (λ m. places_in m names) (sym e) ∙ (sym k ∙ (ap (λ m. map Some columns ++ places_in m names) (drop_all i wanted h) ∙ append-nil (map Some columns)))

pub no_memory_told : (ns names : List Name) (x : ImportCause) → x ≡ cause.NoMemory → AreNoColumns ns names x
no_memory_told ns names x h = subst (AreNoColumns ns names) (sym h) tt

pub columns_even : (fs : List (Name × DataType)) (names : List Name) (columns : List ℕ) → AreColumns (names_of fs) names columns → length columns ≡ length fs
columns_even fs names columns a = places_count (names_of fs) names columns a.places ∙ length-map fs (λ f. f.0)

-- what a cell means stands before what those behind it mean
pub cells_next : (ds : List DataType) (cs : List ℕ) (cells : List (List ℕ)) (i : ℕ) (d : DataType) (c : ℕ) → Some d ≡ slice_get ds i → drop i cs ≡ c ∷ drop (i + 1) cs
    → cells_in (drop i ds) (drop i cs) cells ≡ option_and_then (cell_in d) (field_at cells c) ∷ cells_in (drop (i + 1) ds) (drop (i + 1) cs) cells
cells_next ds cs cells i d c h e =
    cells_first ds cs cells i d c h (e ∙ ap (λ k. c ∷ drop k cs) (add-one i))
    ∙ ap (λ k. option_and_then (cell_in d) (field_at cells c) ∷ cells_in (drop k ds) (drop k cs) cells) (sym (add-one i))

pub cells_past : (ds : List DataType) (cs : List ℕ) (cells : List (List ℕ)) → cs ≡ [] → cells_in ds cs cells ≡ []
cells_past [] cs cells e = refl
cells_past (d ∷ ds) [] cells e = refl
cells_past (d ∷ ds) (c ∷ cs) cells e = absurd cc

-- a record of cells that mean something is a row
pub record_meant : (ds : List DataType) (cs : List ℕ) (cells : List (List ℕ)) (vs : List Value) → cells_in ds cs cells ≡ map known vs → record_in ds cs cells ≡ Some (struct_val (vals_of (map val_of vs)))
record_meant ds cs cells vs e = ap (option_map (λ ws. struct_val (vals_of ws))) (ap all_of e ∙ all_sure val_of vs)

-- one record more is a row
pub rows_step : (h : List (List ℕ) → Option Val) (rs : List (List (List ℕ))) (f : List (List ℕ)) (made now : List Value) (v : Value) → now ≡ made ++ v ∷ [] → h f ≡ known v → map h rs ≡ map known made
    → map h (rs ++ f ∷ []) ≡ map known now
rows_step h rs f made now v n e k =
    map-append h rs (f ∷ []) ∙ (ap (λ os. os ++ h f ∷ []) k ∙ (ap (λ o. map known made ++ o ∷ []) e ∙ (sym (map-append known made (v ∷ [])) ∙ ap (map known) (sym n))))

pub rows_all : (ds : List DataType) (cs : List ℕ) (bytes : List ℕ) (names : List (List ℕ)) (rs : List (List (List ℕ))) (vs : List Value) → AreRecords default_config st.StartRecord (strip_bom bytes) (names ∷ rs)
    → map (record_in ds cs) rs ≡ map known vs → AreRowsOf ds cs bytes names (map val_of vs)
rows_all ds cs bytes names rs vs a e = record { records = rs; are = a; each = e ∙ sure_somes val_of vs }

-- a fact of the bytes, where they are told
pub if_told : (o : Option (List ℕ)) (P : List ℕ → Type 0) → ((bytes : List ℕ) → o ≡ Some bytes → P bytes) → IfSome o P
if_told None P h = tt
if_told (Some bytes) P h = h bytes refl

-- ---- a reader of CSV
module _ {R : Type 0} (remaining : R → Option (List ℕ)) where
  pub was_fresh : (reader : Reader R) (bytes : List ℕ) (o : Option (List ℕ)) → source_of remaining reader ≡ option_map strip_bom o → o ≡ Some bytes → reader.state ≡ st.StartRecord → WasRead remaining bytes [] reader
  unfolding Reached
  was_fresh reader bytes o s e h = record { left = strip_bom bytes; source = s ∙ ap (option_map strip_bom) e; reached = (sym h, refl) }

  -- one record more was read
  pub read_more : (bytes : List ℕ) (rs : List (List (List ℕ))) (a b : Reader R) (f : List (List ℕ)) → a.config ≡ default_config → ReadRecord remaining a b true f → WasRead remaining bytes rs a
      → WasRead remaining bytes (rs ++ (f ∷ [])) b
  read_more bytes rs a b f c r w =
      let m = rows-more remaining a b f default_config st.StartRecord (strip_bom bytes) w.left rs c w.source w.reached r in
      record { left = m.0; source = m.1; reached = m.2 }

  -- there is none more
  pub read_all : (bytes : List ℕ) (rs : List (List (List ℕ))) (a b : Reader R) → a.config ≡ default_config → ReadRecord remaining a b false [] → WasRead remaining bytes rs a
      → AreRecords default_config st.StartRecord (strip_bom bytes) rs
  read_all bytes rs a b c r w = (a.state, w.left, w.reached, rows-end remaining a b [] default_config w.left c w.source r)

  pub still_plain : (a b : Reader R) (found : _) (f : List (List ℕ)) → IsPlain a → ReadRecord remaining a b found f → b.first ≡ true → IsPlain b
  still_plain a b found f p r h = record { trims = r.3 ∙ p.trims; config = r.2 ∙ p.config; ready = inl h }
