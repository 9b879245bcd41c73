-- The opening of a file under a dtype.
use Rattle.std.proofs.Common.{◌≡◌, ◌≢◌, ℕ, ◌<◌, ◌≤◌, ◌+◌, ◌^◌, ◌-◌, arith, refl, sym, subst, ◌∙◌, Bool, true, false, Option, Some, None, IfSome, length, All}
use Rattle.std.specs.Prelude.{nat_lt, nat_le, ◌&&◌}
use Rattle.std.specs.declared.ops.Range.{Range}
use Rattle.std.proofs.lemmas.Bool.Decides.{nat_tests}
use Rattle.scan_values.specs.DataType.{DataType}
use Rattle.scan_layout.specs.Layout.{Layout, dtype_of, rows_of}
use Rattle.scan_layout.specs.Form.{HasForm}
use Rattle.scan_layout.specs.Check.{first_fault}
use Rattle.scan_layout.specs.declared.fault.LayoutFault.{LayoutFault}
use Rattle.scan_opener.specs.Opener.{Given, layout_of, OpenerState, OpenerFailed, PolledOnce}
use Rattle.scan_widen.specs.declared.under.UnionLayout.{UnionLayout}
use Rattle.scan_widen.specs.Countable.{is_countable}
use Rattle.scan_widen.specs.FitsUnder.{fits_under}
use Rattle.scan_widen.specs.Parts.{IsReadable}
use Rattle.scan_widen.specs.Under.{behind, under}
use Rattle.scan_widened.specs.Faults.{is_within, has_room, file_fault, IsUnder, IsGivenUnder, Gave, PolledToEnd, IsFileFault}
use Rattle.scan_widened.specs.declared.fault.FileFault.{FileFault}
use Rattle.scan_widened.specs.declared.fault.FileFault.TheVariants as fault

-- ---- polls of an opener that has put off an answer so far
pub record PutOff (old new : OpenerState) : Type 0 where
  pub gives : new.gives ≡ old.gives
  pub faults : old.faults ≤ new.faults
  pub turns : new.turns ≤ old.turns
  pub can_fail : new.can_fail ≡ old.can_fail
  pub grows : old.polled ≤ new.polled
  pub polls : new.polled + new.turns ≤ old.polled + old.turns

pub begun : (s : OpenerState) → PutOff s s
begun s = record { gives = refl; faults = omega arith; turns = omega arith; can_fail = refl; grows = omega arith; polls = omega arith }

pub put_off : (s t u : OpenerState) → PutOff s t → PolledOnce t u → u.turns < t.turns → PutOff s u
put_off s t u p o down =
    let a = p.faults in let b = o.faults in let c = p.turns in let d = p.grows in let e = o.polled_grows in let f = p.polls in let g = o.polled.most in
    record { gives = o.gives ∙ p.gives; faults = omega (arith, a, b); turns = omega (arith, c, down); can_fail = o.can_fail ∙ p.can_fail; grows = omega (arith, d, e); polls = omega (arith, f, g, down) }

pub ended : (s t u : OpenerState) → PutOff s t → PolledOnce t u → PolledToEnd s u
ended s t u p o =
    let a = p.faults in let b = o.faults in let c = p.turns in let x = o.turns in let d = p.grows in let e = o.polled_grows in let f = p.polls in let g = o.polled.most in let h = o.polled.least in
    record {
      gives = o.gives ∙ p.gives;
      faults = omega (arith, a, b);
      turns = omega (arith, c, x);
      can_fail = o.can_fail ∙ p.can_fail;
      grows = omega (arith, d, e);
      polls = omega (arith, f, g, x);
      some = omega (arith, d, h);
    }

pub gave : (s t : OpenerState) (g : Given) → PutOff s t → IfSome t.gives (λ x. x ≡ g) → IfSome s.gives (λ x. x ≡ g)
gave s t g p h = subst (λ o. IfSome o (λ x. x ≡ g)) p.gives h

pub failed : (s t u : OpenerState) → PutOff s t → OpenerFailed t u → OpenerFailed s u
failed s t u p h = let a = p.faults in (omega (arith, a, h.0), sym p.can_fail ∙ h.1)

-- ---- what is wrong with a file
module _ (d : DataType) (range : Option (Range ℕ)) (before : ℕ) (l : Layout) where
  pub unfit : fits_under (dtype_of l) d ≡ false → file_fault d range before l ≡ Some fault.DTypeMismatch
  unfit e = rw e refl

  module _ (fits : fits_under (dtype_of l) d ≡ true) where
    pub ill : (f : LayoutFault) → first_fault l (dtype_of l) ≡ Some f → file_fault d range before l ≡ Some (fault.Layout f)
    ill f e = rw (fits, e) refl

    module _ (formed : first_fault l (dtype_of l) ≡ None) where
      pub ends_past : is_within range (rows_of l) ≡ false → file_fault d range before l ≡ Some fault.RowRangePast
      ends_past e = rw (fits, formed, e) refl

      module _ (within : is_within range (rows_of l) ≡ true) where
        pub too_many_rows : has_room before l ≡ false → file_fault d range before l ≡ Some fault.TooManyRows
        too_many_rows e = rw (fits, formed, within, e) refl

        module _ (room : has_room before l ≡ true) where
          pub too_many_segments : 2 ^ 32 < length (behind d l) → file_fault d range before l ≡ Some fault.TooManySegments
          too_many_segments h = let e : nat_le (length (behind d l)) (2 ^ 32) ≡ false = grind (arith, nat_tests, h) in rw (fits, formed, within, room, e) refl

          pub sound : length (behind d l) ≤ 2 ^ 32 → file_fault d range before l ≡ None
          sound h = let e : nat_le (length (behind d l)) (2 ^ 32) ≡ true = grind (arith, nat_tests, h) in rw (fits, formed, within, room, e) refl

          pub is_under : (u : UnionLayout) → (u.root).value ≡ under 0 d l → (u.segments).items ≡ behind d l → length (u.segments).items ≤ 2 ^ 32 → All IsReadable (u.segments).items → HasForm (u.root).value d
              → IsUnder d range before l u
          is_under u layout segments few readable form = record {
            sound = sound (subst (λ xs. length xs ≤ 2 ^ 32) segments few);
            layout = layout;
            segments = segments;
            readable = readable;
            form = form;
          }

-- ---- rows that are counted
pub endless : (before : ℕ) (l : Layout) → rows_of l ≡ 2 ^ 64 - 1 → has_room before l ≡ false
endless before l e = let no : nat_lt (rows_of l + 1) (2 ^ 64) ≡ false = grind (arith, nat_tests, e) in rw no refl

pub uncountable : (before : ℕ) (l : Layout) → rows_of l < 2 ^ 64 - 1 → is_countable l ≡ false → has_room before l ≡ false
uncountable before l small e = let yes : nat_lt (rows_of l + 1) (2 ^ 64) ≡ true = grind (arith, nat_tests, small) in rw (yes, e) refl

pub counted : (before : ℕ) (l : Layout) (b : Bool) → rows_of l < 2 ^ 64 - 1 → is_countable l ≡ true → nat_lt (before + rows_of l) (2 ^ 64) ≡ b → has_room before l ≡ b
counted before l b small e h = let yes : nat_lt (rows_of l + 1) (2 ^ 64) ≡ true = grind (arith, nat_tests, small) in rw (yes, e) h

-- what has room is countable
pub has_countable : (before : ℕ) (l : Layout) → has_room before l ≡ true → is_countable l ≡ true
has_countable before l h = go (nat_lt (rows_of l + 1) (2 ^ 64)) (is_countable l) (nat_lt (before + rows_of l) (2 ^ 64)) h
  where
    go : (a b c : Bool) → (a && (b && c)) ≡ true → b ≡ true
    go true true c e = refl
    go true false c e = absurd cc
    go false b c e = absurd cc

-- no file fault is that of an opener
module _ (d : DataType) (range : Option (Range ℕ)) (before : ℕ) (l : Layout) where
  pub not_opener : file_fault d range before l ≢ Some fault.Opener
  not_opener = go (fits_under (dtype_of l) d) (first_fault l (dtype_of l)) (is_within range (rows_of l)) (has_room before l) (nat_le (length (behind d l)) (2 ^ 32)) refl refl refl refl refl
    where
      go : (a : Bool) (b : Option LayoutFault) (c r f : Bool) → fits_under (dtype_of l) d ≡ a → first_fault l (dtype_of l) ≡ b → is_within range (rows_of l) ≡ c → has_room before l ≡ r
          → nat_le (length (behind d l)) (2 ^ 32) ≡ f → file_fault d range before l ≡ Some fault.Opener → ⊥
      go false b c r f ha hb hc hr hf e = let x = rw ha at e in absurd cc
      go true (Some x) c r f ha hb hc hr hf e = let y = rw (ha, hb) at e in absurd cc
      go true None false r f ha hb hc hr hf e = let y = rw (ha, hb, hc) at e in absurd cc
      go true None true false f ha hb hc hr hf e = let y = rw (ha, hb, hc, hr) at e in absurd cc
      go true None true true false ha hb hc hr hf e = let y = rw (ha, hb, hc, hr, hf) at e in absurd cc
      go true None true true true ha hb hc hr hf e = let y = rw (ha, hb, hc, hr, hf) at e in absurd cc

-- what layout_under answers of what an opener gave
pub under_err : (d : DataType) (range : Option (Range ℕ)) (before : ℕ) (s t : OpenerState) (l : Layout) (e : FileFault) → IfSome s.gives (λ g. g ≡ layout_of l)
    → (e ≢ fault.NoMemory → file_fault d range before l ≡ Some e) → IsFileFault d range before s t e
under_err d range before s t l fault.NoMemory told h = tt
under_err d range before s t l fault.Opener told h = absurd (not_opener d range before l (h (λ x. absurd cc)))
under_err d range before s t l fault.DTypeMismatch told h = record { given = layout_of l; told = told; fact = h (λ x. absurd cc) }
under_err d range before s t l (fault.Layout f) told h = record { given = layout_of l; told = told; fact = h (λ x. absurd cc) }
under_err d range before s t l fault.RowRangePast told h = record { given = layout_of l; told = told; fact = h (λ x. absurd cc) }
under_err d range before s t l fault.TooManyRows told h = record { given = layout_of l; told = told; fact = h (λ x. absurd cc) }
under_err d range before s t l fault.TooManySegments told h = record { given = layout_of l; told = told; fact = h (λ x. absurd cc) }

pub under_ok : (d : DataType) (range : Option (Range ℕ)) (before : ℕ) (s : OpenerState) (l : Layout) (u : UnionLayout) → IfSome s.gives (λ g. g ≡ layout_of l)
    → IsUnder d range before l u → Gave s (λ g. IsGivenUnder d range before g (Some u))
under_ok d range before s l u told h = record { given = layout_of l; told = told; fact = h }
