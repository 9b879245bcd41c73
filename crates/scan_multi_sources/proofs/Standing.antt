-- What holds of a scan of many files behind a step.
use Rattle.std.proofs.Common.{◌≡◌, ◌<◌, ℕ, Bool, true, false, ◌&&◌, List, length, Option, Some, None, Ok, Err, ◌⊎◌, inl, inr, refl, ap, sym, subst, arith}
use Rattle.std.proofs.lemmas.List.Edits.{length-remove}
use Rattle.std.specs.List.{list_any, remove, slice_set}
use Rattle.std.proofs.lemmas.List.{length-set}
use Rattle.scan_limit.specs.Seats.{SeatState}
use Rattle.scan_layout.specs.Layout.{Layout, rows_of}
use Rattle.scan_opener.specs.Opener.{OpenerState}
use Rattle.scan_opener.specs.declared.opener.Opening.{Opening}
use Rattle.scan_core.specs.RowRanges.{is_past}
use Rattle.scan_sources.specs.Splits.{rest_of}
use Rattle.scan_multi_sources.specs.FileFaults.{file_fault, is_too_many, many_fault, rows_after}
use Rattle.scan_multi_sources.specs.Files.{SlotData, StageData, is_failed, keeps_failure, slot_data}
use Rattle.scan_multi_sources.specs.Files as file
use Rattle.scan_multi_sources.specs.MultiScans.{IsMultiScan, KeepsInOrder, Makes, MakesPartition, MayKeep, MultiScan, delivered_at, first_of, kept_at, left_out, refusal}
use Rattle.scan_multi_sources.specs.Numbers.{is_given}
use Rattle.scan_multi_sources.specs.Partitions.{PartitionData, part_size}
use Rattle.scan_multi_sources.specs.Sources.{AsksSource, MultiData}
use Rattle.scan_multi_sources.specs.declared.fault.MultiFault.{MultiFault}
use Rattle.scan_multi_sources.specs.declared.fault.MultiFault.TheVariants as fault
use Rattle.scan_multi_sources.proofs.Finding.{any_remove, any_set}
use Rattle.scan_multi_sources.proofs.Parting.{part_rest}

not_true : (b : Bool) → (b ≡ true → ⊥) → b ≡ false
not_true true h = absurd (h refl)
not_true false h = refl

contrary : (a b : Bool) → (a ≡ true → b ≡ true) → b ≡ false → a ≡ false
contrary true true h e = absurd cc
contrary true false h e = absurd (let no = h refl in cc)
contrary false b h e = refl

removed_order : (b : Bool) (ws : List SlotData) (i : ℕ) → KeepsInOrder b ws → KeepsInOrder b (remove ws i)
removed_order true ws i h = tt
removed_order false ws i h = λ k. contrary (list_any (keeps_failure k) (remove ws i)) (list_any (keeps_failure k) ws) (any_remove (keeps_failure k) ws i) (h k)

is_failed_slot : (n k : ℕ) (st : StageData) → keeps_failure n (slot_data k st) ≡ true → is_failed st ≡ true
is_failed_slot n k file.opening e = e
is_failed_slot n k (file.opened l) e = e
is_failed_slot n k file.failed e = refl

set_order : (b : Bool) (ws : List SlotData) (i k : ℕ) (st : StageData) → (is_failed st ≡ true → b ≡ true) → KeepsInOrder b ws → KeepsInOrder b (slice_set ws i (slot_data k st))
set_order true ws i k st may h = tt
set_order false ws i k st may h = λ n. not_true (list_any (keeps_failure n) (slice_set ws i (slot_data k st))) (λ e. go n (any_set (keeps_failure n) ws i (slot_data k st) e))
  where
    go : (n : ℕ) → (keeps_failure n (slot_data k st) ≡ true) ⊎ (list_any (keeps_failure n) ws ≡ true) → ⊥
    go n (inl a) = let no = may (is_failed_slot n k st a) in cc
    go n (inr a) = let no = h n in cc

module _ {O : Type 0} (s : MultiScan O) (is : IsMultiScan s) where
  pub kept_stands : (i k : ℕ) (st : StageData) → MayKeep s st → IsMultiScan (kept_at s i k st)
  kept_stands i k st may = record {
    some = is.some;
    over = is.over;
    forward = is.forward;
    room = is.room;
    failures = set_order s.request.ordered s.window i k st may is.failures;
    count = let n = length-set s.window i (slot_data k st) in let c = is.count in omega (arith, n, c);
  }

  pub left_out_stands : (i : ℕ) → i < length s.window → IsMultiScan (left_out s i)
  left_out_stands i l = record {
    some = is.some;
    over = is.over;
    forward = is.forward;
    room = is.room;
    failures = removed_order s.request.ordered s.window i is.failures;
    count = let n = length-remove s.window i l in let c = is.count in omega (arith, n, c);
  }

  pub delivered_stands : (i : ℕ) → i < length s.window → IsMultiScan (delivered_at s i)
  delivered_stands i l = record {
    some = is.some;
    over = is.over;
    forward = is.forward;
    room = is.room;
    failures = removed_order s.request.ordered s.window i is.failures;
    count = let n = length-remove s.window i l in let c = is.count in omega (arith, n, c);
  }

  pub counted_stands : (l : Layout) (seat : Option SeatState) (given : ℕ) → is_past s.request.row_range (rows_of l) ≡ false → is_too_many s.seat s.given_rows (rows_of l) ≡ false
      → seat ≡ rest_of (part_size s.request l) s.seat → given ≡ rows_after s.seat s.given_rows (rows_of l) → IsMultiScan (record s { seat = seat; given_rows = given })
  counted_stands l seat given past few rest rows = record {
    some = is.some;
    over = is.over;
    forward = is.forward;
    room = rw (rest, rows) (part_rest s.request l s.seat s.given_rows past is.room few);
    failures = is.failures;
    count = is.count;
  }

  pub same_stands : (seat : Option SeatState) → seat ≡ s.seat → IsMultiScan (record s { seat = seat })
  same_stands seat same = record {
    some = is.some;
    over = is.over;
    forward = is.forward;
    room = rw same is.room;
    failures = is.failures;
    count = is.count;
  }

  pub asked_stands : (opener : O → OpenerState) (d : MultiData O) (k : ℕ) (r : Opening) → AsksSource opener s.source d k r → IsMultiScan (record s { source = d })
  asked_stands opener d k r h =
      subst (λ z. IsMultiScan (record s { source = z })) (sym h.2)
      (record {
        some = is.some;
        over = is.over;
        forward = is.forward;
        room = is.room;
        failures = is.failures;
        count = is.count;
      })

-- ---- why a file is not given
pub refusal_is : {O : Type 0} (s : MultiScan O) (k : ℕ) (l : Layout) (f : Option MultiFault) (g m : Bool) → file_fault s.source.dtype s.request.row_range k l ≡ f → is_given s.numbers s.delivered ≡ g → is_too_many s.seat s.given_rows (rows_of l) ≡ m
    → refusal s k l ≡ first_of f (many_fault k (g && m))
refusal_is s k l f g m a b c = rw (a, b, c) refl

pub err_of : {O : Type 0} (s new : MultiScan O) (k : ℕ) (l : Layout) (f : MultiFault) → refusal s k l ≡ Some f → new ≡ s → MakesPartition s new k l (Err f)
err_of s new k l fault.NoMemory h is = is
err_of s new k l (fault.Opener n) h is = (h, is)
err_of s new k l (fault.DTypeMismatch n) h is = (h, is)
err_of s new k l (fault.Layout n e) h is = (h, is)
err_of s new k l (fault.RowRange n) h is = (h, is)
err_of s new k l (fault.TooManyRows n) h is = (h, is)

pub first_wrong : {O : Type 0} (s : MultiScan O) (k : ℕ) (l : Layout) (f : MultiFault) → Some f ≡ file_fault s.source.dtype s.request.row_range k l → MakesPartition s s k l (Err f)
first_wrong s k l f h = err_of s s k l f (sym (ap (λ z. first_of z (many_fault k (is_given s.numbers s.delivered && is_too_many s.seat s.given_rows (rows_of l)))) h)) refl

module _ {O : Type 0} (s : MultiScan O) (k : ℕ) (l : Layout) (good : file_fault s.source.dtype s.request.row_range k l ≡ None) where
  pub made_none : is_given s.numbers s.delivered ≡ false → MakesPartition s s k l (Ok None)
  made_none out = (refusal_is s k l None false (is_too_many s.seat s.given_rows (rows_of l)) good out refl, out, refl)

  pub made_many : is_given s.numbers s.delivered ≡ true → is_too_many s.seat s.given_rows (rows_of l) ≡ true → MakesPartition s s k l (Err (fault.TooManyRows k))
  made_many given many = err_of s s k l (fault.TooManyRows k) (refusal_is s k l None true true good given many) refl

  pub made_some : (new : MultiScan O) (p : PartitionData) → is_given s.numbers s.delivered ≡ true → is_too_many s.seat s.given_rows (rows_of l) ≡ false → Makes s new k l (Ok p) → MakesPartition s new k l (Ok (Some p))
  made_some new p given few h = (refusal_is s k l None true false good given few, given, h.0, h.1)
