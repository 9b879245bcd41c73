-- What is wrong with a file, as its opener and as the answer say it.
use Rattle.std.proofs.Common.{◌≡◌, ℕ, Bool, true, false, ◌&&◌, if◌then◌else◌, Option, Some, None, refl, sym, ap, subst, ◌∙◌, arith}
use Rattle.std.specs.Option.{is_none}
use Rattle.std.proofs.lemmas.Bool.{both_ways}
use Rattle.std.proofs.lemmas.Bool.Decides.{nat_tests}
use Rattle.std.specs.declared.ops.Range.{Range}
use Rattle.scan_values.specs.DataType.{DataType}
use Rattle.scan_values.specs.Same.{same_type, same_type-Decides}
use Rattle.scan_expr.specs.declared.request.ScanRequest.{ScanRequest}
use Rattle.scan_layout.specs.Check.{first_fault}
use Rattle.scan_layout.specs.Layout.{Layout, node, dtype_of, rows_of}
use Rattle.scan_layout.specs.declared.fault.LayoutFault.{LayoutFault}
use Rattle.scan_layout.proofs.Forms.{well_formed}
use Rattle.scan_opener.specs.Opener.{Given, skip, layout_of}
use Rattle.scan_file.specs.FileAsks.{FileAsk}
use Rattle.scan_file.specs.Openings.{ends_past, past_fault, typed_fault, layout_fault, GivesFault}
use Rattle.scan_file.specs.declared.fault.FileFault.{FileFault}
use Rattle.scan_file.specs.declared.fault.FileFault.TheVariants as fault
use Rattle.scan_multi.specs.Answer.{is_within, is_good}
use Rattle.scan_multi.specs.Asked.{AsksFor}
use Rattle.scan_multi.specs.Checks.{IsOfOtherType, IsIllFormed, EndsPast}

-- a range ends past rows, or within them
past_within : (r : Option (Range ℕ)) (rows : ℕ) (b : Bool) → ends_past r rows ≡ b → is_within r rows ≡ (if b then false else true)
past_within None rows true h = cc
past_within None rows false h = refl
past_within (Some r) rows true h = grind (arith, nat_tests)
past_within (Some r) rows false h = grind (arith, nat_tests)

well_typed : (l : Layout) (d : DataType) → first_fault l d ≡ None → same_type (dtype_of l) d ≡ true
well_typed (node t rows kind kids) d f = (same_type-Decides t d).1 (well_formed (node t rows kind kids) d f).1.0

none_is : {A : Type 0} (o : Option A) → is_none o ≡ true → o ≡ None
none_is None h = refl
none_is (Some x) h = cc

both : (a b : Bool) → (a && b) ≡ true → (a ≡ true) × (b ≡ true)
both true b h = (refl, h)
both false b h = cc

-- a good layout is well-formed and has the rows of the range
pub good_parts : (d : DataType) (request : ScanRequest) (l : Layout) → is_good d request l ≡ true → (first_fault l d ≡ None) × (is_within request.row_range (rows_of l) ≡ true)
good_parts d request l h = let p = both (is_none (first_fault l d)) (is_within request.row_range (rows_of l)) h in (none_is (first_fault l d) p.0, p.1)

-- ---- over the parts of a layout's fault
past_none : (b : Bool) → past_fault b ≡ None → b ≡ false
past_none true h = cc
past_none false h = refl

past_some : (b : Bool) (f : FileFault) → past_fault b ≡ Some f → (b ≡ true) × (f ≡ fault.RowRangePast)
past_some true f h = (refl, cc)
past_some false f h = cc

-- what a fault says of the test of the dtype, the fault of the form, and the test of the range
abbrev pub Says : Bool → Option LayoutFault → Bool → FileFault → Type 0
Says typed form past fault.Opener = ⊥
Says typed form past fault.DTypeMismatch = typed ≡ false
Says typed form past (fault.Layout f) = (typed ≡ true) × (form ≡ Some f)
Says typed form past fault.RowRangePast = (form ≡ None) × (past ≡ true)

says : (typed : Bool) (form : Option LayoutFault) (past : Bool) (f : FileFault) → typed_fault typed form past ≡ Some f → Says typed form past f
says false form past f h = subst (Says false form past) (let e : fault.DTypeMismatch ≡ f = cc in e) refl
says true (Some g) past f h = subst (Says true (Some g) past) (let e : fault.Layout g ≡ f = cc in e) (refl, refl)
says true None past f h = let p = past_some past f h in subst (Says true None past) (sym p.1) (refl, p.0)

says_none : (typed : Bool) (form : Option LayoutFault) (past : Bool) → typed_fault typed form past ≡ None → (form ≡ None) × (past ≡ false)
says_none false form past h = cc
says_none true (Some g) past h = cc
says_none true None past h = (refl, past_none past h)

all_none : (typed : Bool) (form : Option LayoutFault) (past : Bool) → typed ≡ true → form ≡ None → past ≡ false → typed_fault typed form past ≡ None
all_none typed form past t f p = rw (t, f, p) refl

module _ (d : DataType) (request : ScanRequest) (a : FileAsk) (asks : AsksFor d request a) where
  in_words : (l : Layout) → layout_fault a l ≡ typed_fault (same_type (dtype_of l) d) (first_fault l d) (ends_past request.row_range (rows_of l))
  in_words l = ap (λ z. layout_fault z l) asks.is

  -- a layout without a fault is good
  pub faultless_good : (l : Layout) → layout_fault a l ≡ None → is_good d request l ≡ true
  faultless_good l h =
      let p = says_none (same_type (dtype_of l) d) (first_fault l d) (ends_past request.row_range (rows_of l)) (sym (in_words l) ∙ h) in
      let w : is_within request.row_range (rows_of l) ≡ true = past_within request.row_range (rows_of l) false p.1 in
      rw (p.0, w) refl

  -- a good layout has none
  pub good_faultless : (l : Layout) → is_good d request l ≡ true → layout_fault a l ≡ None
  good_faultless l h =
      let p = good_parts d request l h in
      in_words l ∙ all_none (same_type (dtype_of l) d) (first_fault l d) (ends_past request.row_range (rows_of l)) (well_typed l d p.0) p.0 (not_past (ends_past request.row_range (rows_of l)) refl p.1)
    where
      not_past : (b : Bool) → ends_past request.row_range (rows_of l) ≡ b → is_within request.row_range (rows_of l) ≡ true → b ≡ false
      not_past false e w = refl
      not_past true e w = absurd (both_ways (is_within request.row_range (rows_of l)) (past_within request.row_range (rows_of l) true e) w)

  -- a layout with a fault is not good
  pub faulty_bad : (l : Layout) (f : FileFault) → layout_fault a l ≡ Some f → is_good d request l ≡ false
  faulty_bad l f h = go (is_good d request l) refl
    where
      go : (b : Bool) → is_good d request l ≡ b → b ≡ false
      go false e = refl
      go true e = let n = good_faultless l e in cc

  fault_says : (l : Layout) (f : FileFault) → layout_fault a l ≡ Some f → Says (same_type (dtype_of l) d) (first_fault l d) (ends_past request.row_range (rows_of l)) f
  fault_says l f h = says (same_type (dtype_of l) d) (first_fault l d) (ends_past request.row_range (rows_of l)) f (sym (in_words l) ∙ h)

  -- ---- what each fault of an opener says

  pub other_type : (g : Given) → GivesFault a fault.DTypeMismatch g → IsOfOtherType d g
  other_type skip h = h
  other_type (layout_of l) h = λ e. both_ways (same_type (dtype_of l) d) (fault_says l fault.DTypeMismatch h) ((same_type-Decides (dtype_of l) d).1 e)

  pub ill_formed : (f : LayoutFault) (g : Given) → GivesFault a (fault.Layout f) g → IsIllFormed d f g
  ill_formed f skip h = h
  ill_formed f (layout_of l) h = let s = fault_says l (fault.Layout f) h in ((same_type-Decides (dtype_of l) d).0 s.0, s.1)

  pub ends_past_it : (g : Given) → GivesFault a fault.RowRangePast g → EndsPast d request g
  ends_past_it skip h = h
  ends_past_it (layout_of l) h = let s = fault_says l fault.RowRangePast h in (s.0, past_within request.row_range (rows_of l) true s.1)
