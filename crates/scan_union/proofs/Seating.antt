-- The seat of a file, by what its opener gave, and lists that are empty.
use Rattle.std.proofs.Common.{◌≡◌, inl, inr, ℕ, ◌<◌, ◌+◌, ◌^◌, List, [], ◌∷◌, length, arith, refl, sym, subst, ap, ◌∙◌, Bool, true, false, Option, Some, None, All}
use Rattle.std.specs.Prelude.{nat_lt, ◌&&◌}
use Rattle.std.proofs.lemmas.Bool.Decides.{nat_tests}
use Rattle.std.proofs.lemmas.List.Elements.{All-nil}
use Rattle.std.specs.declared.ops.Range.{Range}
use Rattle.scan_values.specs.DataType.{DataType}
use Rattle.scan_layout.specs.Form.{HasForm}
use Rattle.scan_layout.specs.Layout.{Layout, rows_of}
use Rattle.scan_opener.specs.Opener.{Given, skip, layout_of, OpenerState}
use Rattle.scan_widen.specs.Countable.{is_countable}
use Rattle.scan_widen.specs.Parts.{IsReadable}
use Rattle.scan_widen.specs.declared.under.UnionLayout.{UnionLayout}
use Rattle.scan_widen.proofs.RowsAll.{rows_under as same_rows}
use Rattle.scan_widened.specs.Faults.{Gave, IsGivenUnder, IsFileFault}
use Rattle.scan_widened.specs.declared.fault.FileFault.{FileFault}
use Rattle.scan_widened.proofs.Files.{sound_file}
use Rattle.scan_union.specs.Opens.{IsSeatedWith, OpensFile, IsFileStop, rows_under}
use Rattle.scan_union.specs.Seats.{IsGivingOpener, IsSeatOf}
use Rattle.scan_union.specs.Under.{of_file}
use Rattle.scan_union.specs.declared.fault.UnionFault.{UnionFault}
use Rattle.scan_union.specs.declared.fault.UnionFault.TheVariants as fault
use Rattle.scan_union.specs.declared.seat.Seat.{Seat}

pub none_of : {A : Type 0} (xs : List A) → length xs ≡ 0 → xs ≡ []
none_of [] n = refl
none_of (x ∷ xs) n = absurd (omega (arith, n))

module _ (d : DataType) (range : Option (Range ℕ)) (place before : ℕ) where
  seated_with : (g : Given) (u : Option UnionLayout) (s : Seat) → IsGivenUnder d range before g u → IsSeatOf place u s → IsSeatedWith d range place before g s (before + rows_under u)
  seated_with skip None s h seat = record {
    sound = refl;
    seat = record { opener = seat.0; segments = seat.1; readable = subst (λ bs. All IsReadable bs) (sym seat.1) (All-nil IsReadable); formed = tt; name = seat.2 };
    sum = refl;
  }
  seated_with skip (Some u) s h seat = absurd h
  seated_with (layout_of l) None s h seat = absurd h
  seated_with (layout_of l) (Some u) s h seat =
      let segs : (s.segments).items ≡ (u.segments).items = ap (λ x. x.items) seat.1 in
      record {
        sound = h.sound;
        seat = record {
          opener = subst (λ (m : Layout). IsGivingOpener (layout_of m) s.opener) h.layout seat.0;
          segments = segs ∙ h.segments;
          readable = subst (λ bs. All IsReadable bs) (sym segs) h.readable;
          formed = subst (λ (m : Layout). HasForm m d) h.layout h.form;
          name = seat.2;
        };
        sum = ap (λ (m : Layout). before + rows_of m) h.layout ∙ ap (λ n. before + n) (same_rows d 0 l);
      }

  pub opens_file : (s : OpenerState) (u : Option UnionLayout) (seat : Seat) → Gave s (λ g. IsGivenUnder d range before g u) → IsSeatOf place u seat → OpensFile d range place before s seat (before + rows_under u)
  opens_file s u seat gave is = record { given = gave.given; told = gave.told; fact = seated_with gave.given u seat gave.fact is }

  -- ---- rows are counted
  counted : (l : Layout) (a b c : Bool) → nat_lt (before + rows_of l) (2 ^ 64) ≡ c → (a && (b && c)) ≡ true → before + rows_of l < 2 ^ 64
  counted l true true true e h = grind (arith, nat_tests, e)
  counted l true true false e h = absurd cc
  counted l true false c e h = absurd cc
  counted l false b c e h = absurd cc

  room_under : (g : Given) (u : Option UnionLayout) → IsGivenUnder d range before g u → before < 2 ^ 64 → before + rows_under u < 2 ^ 64
  room_under skip None h lt = omega (arith, lt)
  room_under skip (Some u) h lt = absurd h
  room_under (layout_of l) None h lt = absurd h
  room_under (layout_of l) (Some u) h lt =
      let few = counted l (nat_lt (rows_of l + 1) (2 ^ 64)) (is_countable l) (nat_lt (before + rows_of l) (2 ^ 64)) refl (sound_file d range before l h.sound).room in
      subst (λ (n : ℕ). before + n < 2 ^ 64) (sym (ap rows_of h.layout ∙ same_rows d 0 l)) few

  pub room_of : (s : OpenerState) (u : Option UnionLayout) → Gave s (λ g. IsGivenUnder d range before g u) → before < 2 ^ 64 → before + rows_under u < 2 ^ 64
  room_of s u gave lt = room_under gave.given u gave.fact lt

  -- ---- files that are not read
  pub stops_at : (old new : OpenerState) (x : FileFault) (e : UnionFault) → e ≡ of_file place x → IsFileFault d range before old new x → IsFileStop d range place before old new e
  stops_at old new x e is h = inr (x, is, h)

  pub stops_short : (old new : OpenerState) (e : UnionFault) → e ≡ fault.NoMemory → IsFileStop d range place before old new e
  stops_short old new e is = inl is
