-- What is asked of a file with which nothing is wrong.
use Rattle.std.proofs.Common.{◌≡◌, ◌≤◌, ◌+◌, ◌-◌, ℕ, Bool, true, false, not, [], Option, Some, None, Ok, refl, ap, sym, subst, ◌∙◌, arith}
use Rattle.std.proofs.lemmas.Bool.Decides.{nat_tests}
use Rattle.std.specs.declared.ops.Range.{Range}
use Rattle.scan_values.specs.DataType.{DataType}
use Rattle.scan_values.specs.Same.{same_type, same_type-Decides}
use Rattle.scan_limit.specs.Seats.{SeatState}
use Rattle.scan_layout.specs.Check.{first_fault}
use Rattle.scan_layout.specs.Form.{HasForm}
use Rattle.scan_layout.specs.Layout.{Layout, dtype_of, rows_of}
use Rattle.scan_layout.specs.declared.fault.LayoutFault.{LayoutFault}
use Rattle.scan_layout.proofs.Forms.{well_formed}
use Rattle.scan_streams.specs.Grants.{HasRoom}
use Rattle.scan_core.specs.BuilderData.{range_or_all}
use Rattle.scan_core.specs.RowRanges.{IsRange, is_past}
use Rattle.scan_readers.specs.LeafPlans.{layout_state}
use Rattle.scan_core.specs.ScanData.{IsScan, ScanData}
use Rattle.scan_sources.specs.Plain.{Plain}
use Rattle.scan_sources.specs.Requests.{IsBoundOver, IsScanOfRequest}
use Rattle.scan_sources.specs.Splits.{IsSplit, ReaderSplit, own_limit, part_of, reader_split, rest_of}
use Rattle.scan_sources.specs.declared.request.BoundScanRequest.{BoundScanRequest}
use Rattle.scan_sources.proofs.Preparing.{without_limit}
use Rattle.scan_sources.proofs.Starting.{filtered}
use Rattle.scan_multi_sources.specs.FileFaults.{ends_past, file_fault, form_fault, is_reversed, is_too_many, rows_after, typed_fault}
use Rattle.scan_multi_sources.specs.Partitions.{IsPart, MakesPart, part_rows, part_size}
use Rattle.scan_multi_sources.specs.declared.fault.MultiFault.TheVariants as fault

not_same : (b : Bool) → true ≡ not b → b ≡ false
not_same true e = absurd cc
not_same false e = refl

is_same : (b : Bool) → false ≡ not b → b ≡ true
is_same true e = refl
is_same false e = absurd cc

-- ---- the first fault
module _ (d : DataType) (r : Option (Range ℕ)) (k : ℕ) (l : Layout) (own : DataType) (is : own ≡ dtype_of l) where
  same : same_type (dtype_of l) d ≡ same_type own d
  same = ap (λ z. same_type z d) (sym is)

  pub fault_other : true ≡ not (same_type own d) → Some (fault.DTypeMismatch k) ≡ file_fault d r k l
  fault_other h = sym (ap (λ b. typed_fault k b (first_fault l d) (ends_past r (rows_of l))) (same ∙ not_same (same_type own d) h))

  pub fault_formed : false ≡ not (same_type own d) → (o : Option LayoutFault) → first_fault l d ≡ o → file_fault d r k l ≡ form_fault k o (ends_past r (rows_of l))
  fault_formed h o f = ap (λ b. typed_fault k b (first_fault l d) (ends_past r (rows_of l))) (same ∙ is_same (same_type own d) h) ∙ ap (λ x. form_fault k x (ends_past r (rows_of l))) f

-- ---- no fault
parts : (k : ℕ) (same : Bool) (form : Option LayoutFault) (past : Bool) → typed_fault k same form past ≡ None → (same ≡ true) × (form ≡ None) × (past ≡ false)
parts k true None false e = (refl, refl, refl)
parts k true None true e = absurd cc
parts k true (Some f) past e = absurd cc
parts k false form past e = absurd cc

not_past : (r : Option (Range ℕ)) (n : ℕ) → is_reversed r ≡ false → ends_past r n ≡ false → is_past r n ≡ false
not_past None n h e = refl
not_past (Some r) n h e = rw (h, e) refl

module _ (d : DataType) (q : BoundScanRequest) (k : ℕ) (l : Layout) (good : file_fault d q.row_range k l ≡ None) where
  none_of : (same_type (dtype_of l) d ≡ true) × (first_fault l d ≡ None) × (ends_past q.row_range (rows_of l) ≡ false)
  none_of = parts k (same_type (dtype_of l) d) (first_fault l d) (ends_past q.row_range (rows_of l)) good

  of_type : dtype_of l ≡ d
  of_type = (same_type-Decides (dtype_of l) d).0 none_of.0

  pub of_form : HasForm l (dtype_of l)
  of_form = subst (λ t. HasForm l t) (sym of_type) (well_formed l d none_of.1).1

  pub of_over : IsBoundOver d q → IsBoundOver (dtype_of l) q
  of_over h = subst (λ t. IsBoundOver t q) (sym of_type) h

  pub of_range : is_reversed q.row_range ≡ false → is_past q.row_range (rows_of l) ≡ false
  of_range h = not_past q.row_range (rows_of l) h none_of.2

-- ---- rows
in_range : (r : Option (Range ℕ)) (n : ℕ) → is_past r n ≡ false → IsRange n (range_or_all r n)
in_range None n h = (omega arith, omega arith)
in_range (Some r) n h = (grind (arith, nat_tests, h), grind (arith, nat_tests, h))

pub part_within : (q : BoundScanRequest) (l : Layout) → is_past q.row_range (rows_of l) ≡ false → IsRange (rows_of l) (part_rows q l)
part_within q l h = in_range q.row_range (rows_of l) h

pub few_rows : (s : SeatState) (g n : ℕ) → is_too_many (Some s) g n ≡ false → g + n ≤ 18446744073709551615
few_rows s g n h = grind (arith, nat_tests, h)

room_enough : (seat : Option SeatState) (g n m : ℕ) → HasRoom seat (18446744073709551615 - g) → is_too_many seat g n ≡ false → m ≤ n → HasRoom seat m
room_enough None g n m h few l = tt
room_enough (Some s) g n m h few l = let f = few_rows s g n few in omega (arith, h, f, l)

pub part_room : (q : BoundScanRequest) (l : Layout) (seat : Option SeatState) (g : ℕ) → is_past q.row_range (rows_of l) ≡ false → HasRoom seat (18446744073709551615 - g) → is_too_many seat g (rows_of l) ≡ false → HasRoom seat (part_size q l)
part_room q l seat g past room few = let w = part_within q l past in let a = w.0 in let b = w.1 in room_enough seat g (rows_of l) (part_size q l) room few (omega (arith, a, b))

room_left : (seat : Option SeatState) (g n m : ℕ) → HasRoom seat (18446744073709551615 - g) → is_too_many seat g n ≡ false → m ≤ n → HasRoom (rest_of m seat) (18446744073709551615 - rows_after seat g n)
room_left None g n m h few l = tt
room_left (Some s) g n m h few l = let f = few_rows s g n few in omega (arith, h, f, l)

pub part_rest : (q : BoundScanRequest) (l : Layout) (seat : Option SeatState) (g : ℕ) → is_past q.row_range (rows_of l) ≡ false → HasRoom seat (18446744073709551615 - g) → is_too_many seat g (rows_of l) ≡ false
    → HasRoom (rest_of (part_size q l) seat) (18446744073709551615 - rows_after seat g (rows_of l))
part_rest q l seat g past room few = let w = part_within q l past in let a = w.0 in let b = w.1 in room_left seat g (rows_of l) (part_size q l) room few (omega (arith, a, b))

pub own_room : (seat : Option SeatState) (m : ℕ) → HasRoom (part_of m seat) m
own_room None m = tt
own_room (Some s) m = omega arith

-- ---- the part
own_same : (seat : Option SeatState) (m : ℕ) (limit : Option ℕ) → own_limit seat limit ≡ own_limit (part_of m seat) limit
own_same None m limit = refl
own_same (Some s) m limit = refl

module _ (q : BoundScanRequest) (l : Layout) (seat claims : Option SeatState) (s : ScanData Plain) (h : IsScanOfRequest (layout_state [] l) q s) (part : claims ≡ part_of (part_size q l) seat) where
  own_is : own_limit seat q.limit ≡ own_limit claims q.limit
  own_is = own_same seat (part_size q l) q.limit ∙ ap (λ z. own_limit z q.limit) (sym part)

  pub file_split : is_past q.row_range (rows_of l) ≡ false → IsScan (record s { limit = own_limit seat q.limit }) → IsSplit (reader_split (record s { limit = own_limit seat q.limit }) (part_rows q l) q.limit claims)
  file_split past stands = record {
    rows = subst (λ n. IsRange n (part_rows q l)) (sym h.rows) (part_within q l past);
    limit = own_is;
    room = subst (λ z. HasRoom z (part_size q l)) (sym part) (own_room seat (part_size q l));
    scan = stands;
  }

  pub file_part : IsPart q l seat (reader_split (record s { limit = own_limit seat q.limit }) (part_rows q l) q.limit claims)
  file_part = record {
    scan = without_limit (layout_state [] l) q s h;
    filtered = filtered (layout_state [] l) q s h;
    range = refl;
    limit = refl;
    own = own_is;
    seat = part;
  }

-- the same of what is made step by step
module _ (q : BoundScanRequest) (l : Layout) (seat claims : Option SeatState) (s scan : ScanData Plain) (own : Option ℕ) (r : Range ℕ) (h : IsScanOfRequest (layout_state [] l) q s)
    (limited : scan ≡ record s { limit = own }) (owned : own ≡ own_limit seat q.limit) (range : r ≡ part_rows q l) (part : claims ≡ part_of (r.end - r.start) seat) where
  whole : scan ≡ record s { limit = own_limit seat q.limit }
  whole = limited ∙ ap (λ z. record s { limit = z }) owned

  parted : claims ≡ part_of (part_size q l) seat
  parted = part ∙ ap (λ (z : Range ℕ). part_of (z.end - z.start) seat) range

  pub split_is : is_past q.row_range (rows_of l) ≡ false → IsScan scan → IsSplit (reader_split scan r q.limit claims)
  split_is past stands =
      subst (λ z. IsSplit (reader_split z r q.limit claims)) (sym whole)
      (subst (λ z. IsSplit (reader_split (record s { limit = own_limit seat q.limit }) z q.limit claims)) (sym range) (file_split q l seat claims s h parted past (subst (λ z. IsScan z) whole stands)))

  pub part_is : IsPart q l seat (reader_split scan r q.limit claims)
  part_is =
      subst (λ z. IsPart q l seat (reader_split z r q.limit claims)) (sym whole)
      (subst (λ z. IsPart q l seat (reader_split (record s { limit = own_limit seat q.limit }) z q.limit claims)) (sym range) (file_part q l seat claims s h parted))

  pub made_part : (p : ReaderSplit Plain) (new : Option SeatState) → p ≡ reader_split scan r q.limit claims → new ≡ rest_of (r.end - r.start) seat → MakesPart q l seat new (Ok p)
  made_part p new is rest = (subst (λ z. IsPart q l seat z) (sym is) part_is, rest ∙ ap (λ (z : Range ℕ). rest_of (z.end - z.start) seat) range)
