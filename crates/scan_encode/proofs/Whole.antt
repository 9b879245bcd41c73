-- The rows of a whole array.
use Rattle.std.proofs.Common.{◌≡◌, ℕ, Bool, true, List, map, sym, ap, ◌∙◌}
use Rattle.std.specs.Prelude.{Result, Ok, Err, IfOk, IfErr, OnOk}
use Rattle.std.specs.declared.alloc.Global.{Global}
use Rattle.std.specs.declared.rc.Rc.{Rc}
use Rattle.scan_values.specs.DataType.{DataType}
use Rattle.scan_values.specs.Val.{Val, vals_of}
use Rattle.scan_values.specs.Values.{val_of}
use Rattle.scan_values.specs.declared.value.Value.{Value}
use Rattle.scan_layout.specs.Layout.{Layout}
use Rattle.scan_encode.specs.declared.fault.RowsFault.{RowsFault}
use Rattle.scan_encode.specs.declared.fault.RowsFault.TheVariants.{TooLong, Segments, NoMemory}
use Rattle.scan_encode.specs.Encoded.{IsOf, Holds}
use Rattle.scan_encode.specs.Faults.{IsFull, IsUnwritten}
use Rattle.scan_encode.specs.Parts.{given}
use Rattle.scan_encode.specs.Rows.{all_texts_fit}
use Rattle.scan_encode.proofs.Fields.{value_made}
use Rattle.scan_encode.proofs.Lists.{holds_given}

pub texts_are : (b c : Bool) (vs : List Value) (is : List Val) → b ≡ all_texts_fit (vals_of (map val_of vs)) → map val_of vs ≡ is → b ≡ c → all_texts_fit (vals_of is) ≡ c
texts_are b c vs is e k h = sym (ap (λ z. all_texts_fit (vals_of z)) k) ∙ (sym e ∙ h)

pub whole_held : (d : DataType) (is : List Val) (segments : List (List ℕ)) (r : Result (Rc Layout Global) RowsFault)
    → IfOk r (λ l. IsOf d (given is) segments l.value) → IfOk r (λ l. Holds d is segments l.value)
whole_held d is segments (Ok l) h = holds_given d is segments l.value h
whole_held d is segments (Err e) h = tt

pub whole_made : (d t : DataType) (vs : List Value) (is : List Val) (segments : List (List ℕ)) (r : Result (Rc Layout Global) RowsFault) → d ≡ t → map val_of vs ≡ is
    → IfOk r (λ l. IsOf d (given (map val_of vs)) segments l.value) → IfOk r (λ l. Holds t is segments l.value)
whole_made d t vs is segments r e k h = whole_held t is segments r (value_made d t vs is segments r e k h)

pub whole_short : (is : List Val) (r : Result (Rc Layout Global) RowsFault) → all_texts_fit (vals_of is) ≡ true → OnOk r (all_texts_fit (vals_of is) ≡ true)
whole_short is (Ok l) h = h
whole_short is (Err e) h = tt

pub full_unwritten : (is : List Val) (segments : List (List ℕ)) (r : Result (Rc Layout Global) RowsFault) → IfErr r (IsFull segments) → IfErr r (IsUnwritten is segments)
full_unwritten is segments (Ok l) h = tt
full_unwritten is segments (Err TooLong) h = absurd h
full_unwritten is segments (Err Segments) h = h
full_unwritten is segments (Err NoMemory) h = tt
