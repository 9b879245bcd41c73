-- A file under a dtype has its rows, widened.
use Rattle.std.proofs.Common.{◌≡◌, ℕ, zero, suc, ◌<◌, ◌≤◌, ◌+◌, ◌^◌, List, [], ◌∷◌, ◌++◌, arith, refl, subst, Bool, true, false, Option, Some, None, length, length-append, append_assoc}
use Rattle.std.specs.Prelude.{nat_le, slice_get}
use Rattle.std.specs.declared.ops.Range.{Range}
use Rattle.std.proofs.lemmas.Bool.{lt-ltb}
use Rattle.std.proofs.lemmas.Bool.Decides.{nat_tests}
use Rattle.scan_values.specs.DataType.{DataType}
use Rattle.scan_segments.specs.Source.{Store}
use Rattle.scan_layout.specs.Layout.{Layout, dtype_of, rows_of}
use Rattle.scan_layout.specs.Form.{HasForm}
use Rattle.scan_layout.specs.Check.{first_fault}
use Rattle.scan_layout.specs.declared.fault.LayoutFault.{LayoutFault}
use Rattle.scan_layout.proofs.Forms.{well_formed}
use Rattle.scan_widen.specs.declared.behind.Behind.{Behind}
use Rattle.scan_widen.specs.FitsUnder.{fits_under}
use Rattle.scan_widen.specs.Rows.{StandAt, Shows}
use Rattle.scan_widen.specs.Under.{behind}
use Rattle.scan_widen.proofs.FormsAll.{forms_under}
use Rattle.scan_widen.proofs.RowsAll.{rows_widen, rows_under}
use Rattle.scan_widened.specs.Faults.{is_within, has_room, file_fault}
use Rattle.scan_widened.specs.Identity.{beside}
use Rattle.scan_widened.specs.Laws.{IsWidened}
use Rattle.scan_widened.proofs.Checking.{has_countable}

-- what is known of a file that is not refused
pub record IsSoundFile (d : DataType) (range : Option (Range ℕ)) (before : ℕ) (l : Layout) : Type 0 where
  pub fits : fits_under (dtype_of l) d ≡ true
  pub formed : first_fault l (dtype_of l) ≡ None
  pub within : is_within range (rows_of l) ≡ true
  pub room : has_room before l ≡ true
  pub few : length (behind d l) ≤ 2 ^ 32

module _ (d : DataType) (range : Option (Range ℕ)) (before : ℕ) (l : Layout) where
  pub sound_file : file_fault d range before l ≡ None → IsSoundFile d range before l
  sound_file = go (fits_under (dtype_of l) d) (first_fault l (dtype_of l)) (is_within range (rows_of l)) (has_room before l) (nat_le (length (behind d l)) (2 ^ 32)) refl refl refl refl refl
    where
      go : (a : Bool) (b : Option LayoutFault) (c r f : Bool) → fits_under (dtype_of l) d ≡ a → first_fault l (dtype_of l) ≡ b → is_within range (rows_of l) ≡ c → has_room before l ≡ r
          → nat_le (length (behind d l)) (2 ^ 32) ≡ f → file_fault d range before l ≡ None → IsSoundFile d range before l
      go false b c r f ha hb hc hr hf e = let x = rw ha at e in absurd cc
      go true (Some x) c r f ha hb hc hr hf e = let y = rw (ha, hb) at e in absurd cc
      go true None false r f ha hb hc hr hf e = let y = rw (ha, hb, hc) at e in absurd cc
      go true None true false f ha hb hc hr hf e = let y = rw (ha, hb, hc, hr) at e in absurd cc
      go true None true true false ha hb hc hr hf e = let y = rw (ha, hb, hc, hr, hf) at e in absurd cc
      go true None true true true ha hb hc hr hf e = record { fits = ha; formed = hb; within = hc; room = hr; few = grind (arith, nat_tests, hf) }

-- ---- what stands behind is told
at_seam : (pre bs : List Behind) (b : Behind) → slice_get (pre ++ b ∷ bs) (length pre) ≡ Some b
at_seam [] bs b = refl
at_seam (x ∷ pre) bs b = at_seam pre bs b

stand_from : (pre bs : List Behind) → StandAt (pre ++ bs) (length pre) bs
stand_from pre [] = tt
stand_from pre (b ∷ bs) =
    let more = stand_from (pre ++ b ∷ []) bs in
    let all : (pre ++ b ∷ []) ++ bs ≡ pre ++ b ∷ bs = append_assoc pre (b ∷ []) bs in
    let many : length (pre ++ b ∷ []) ≡ length pre + 1 = length-append pre (b ∷ []) in
    (at_seam pre bs b, subst (λ n. StandAt (pre ++ b ∷ bs) n bs) many (subst (λ xs. StandAt xs (length (pre ++ b ∷ [])) bs) all more))

within_list : (xs : List Behind) (id : ℕ) (b : Behind) → slice_get xs id ≡ Some b → id < length xs
within_list [] id b e = absurd cc
within_list (x ∷ xs) zero b e = omega arith
within_list (x ∷ xs) (suc id) b e = let more = within_list xs id b e in omega (arith, more)

pub shows_beside : (all : List Behind) (s : Store) → length all ≤ 2 ^ 32 → Shows (beside all s) all s
shows_beside all s few id b e =
    let small : id < 2 ^ 32 = let lt = within_list all id b e in omega (arith, lt, few) in
    rw (lt-ltb id (2 ^ 32) small, e) refl

pub files_are_widened : (d : DataType) (range : Option (Range ℕ)) (before : ℕ) (l : Layout) → file_fault d range before l ≡ None → IsWidened d l
files_are_widened d range before l none =
    let sound = sound_file d range before l none in
    let form : HasForm l (dtype_of l) = (well_formed l (dtype_of l) sound.formed).1 in
    record {
      form = forms_under d 0 l form sound.fits (has_countable before l sound.room);
      rows = rows_under d 0 l;
      values = λ s i within. rows_widen d 0 l (behind d l) s (beside (behind d l) s) i form sound.fits (shows_beside (behind d l) s sound.few) (stand_from [] (behind d l)) within;
    }
