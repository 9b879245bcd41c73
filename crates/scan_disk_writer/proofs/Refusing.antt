-- Why files are not written.
use Rattle.std.proofs.Common.{◌≡◌, ℕ, ◌+◌, ◌≤◌, ◌<◌, Bool, true, false, List, [], ◌∷◌, ◌++◌, length, drop, sym, ap, ◌∙◌, subst, arith, length-append, append-nil, append_assoc}
use Rattle.std.specs.Prelude.{⊤, None, Some, nat_le, Result, Ok, Err, IfErr, OnOk}
use Rattle.std.specs.declared.alloc.Global.{Global}
use Rattle.std.specs.declared.vec.Vec.{Vec}
use Rattle.std.proofs.lemmas.Bool.Decides.{nat_tests}
use Rattle.scan_values.specs.DataType.{DataType, depth_of}
use Rattle.scan_values.specs.Val.{Val, vals_of}
use Rattle.scan_layout.specs.Check.{◌then◌, unless, first_fault, fault_in}
use Rattle.scan_layout.specs.declared.fault.LayoutFault.{LayoutFault}
use Rattle.scan_layout.specs.declared.fault.LayoutFault.TheVariants.{Deep}
use Rattle.scan_layout.specs.Form.{HasForm}
use Rattle.scan_layout.specs.Layout.{Layout, node, dtype_of}
use Rattle.scan_layout.proofs.Forms.{faultless}
use Rattle.scan_disk.specs.declared.place.Place.{Place}
use Rattle.scan_encode.specs.Encoded.{Holds}
use Rattle.scan_encode.specs.SegmentsView.{bytes_of}
use Rattle.scan_encode.specs.Faults.{IsUnwritten}
use Rattle.scan_encode.specs.Rows.{all_texts_fit}
use Rattle.scan_encode.specs.declared.fault.RowsFault.{RowsFault}
use Rattle.scan_encode.specs.declared.fault.RowsFault.TheVariants as rows_faults
use Rattle.scan_disk_writer.specs.FileBytes.{joined, placed, places_from}
use Rattle.scan_disk_writer.specs.Faults.{rows_fault}
use Rattle.scan_disk_writer.specs.Written.{IsFile, IsFileOf, IsServed, IsRefused, IsTooMuch, AreRefused, AreServed}
use Rattle.scan_disk_writer.specs.declared.fault.WriteFault.{WriteFault}
use Rattle.scan_disk_writer.specs.declared.fault.WriteFault.TheVariants.{Depth, Layout as Unserved, Rows, Size, Failed, NoMemory}

-- ---- a layout
pub served_of : (l : Layout) (d : DataType) (n : ℕ) → d ≡ dtype_of l → n ≡ depth_of d → n ≤ 42 → first_fault l d ≡ None → IsServed l
served_of l d n e k h f = let s = ap depth_of e in (omega (arith, s, k, h), subst (λ z. first_fault l z ≡ None) e f)

pub unserved_of : (l : Layout) (d : DataType) (n : ℕ) (f : LayoutFault) → d ≡ dtype_of l → n ≡ depth_of d → n ≤ 42 → first_fault l d ≡ Some f → IsRefused l [] false (Unserved f)
unserved_of l d n f e k h g = let s = ap depth_of e in (omega (arith, s, k, h), subst (λ z. first_fault l z ≡ Some f) e g)

-- what is refused before a file begins
pub early : (l : Layout) (segments : List (List ℕ)) (can_fail : Bool) (f : WriteFault) → IsRefused l [] false f → IsRefused l segments can_fail f
early l segments can_fail Depth h = h
early l segments can_fail (Unserved f) h = h
early l segments can_fail (Rows f) h = h
early l segments can_fail Size h = absurd (omega (arith, h))
early l segments can_fail Failed h = absurd cc
early l segments can_fail NoMemory h = tt

pub too_much : (l : Layout) (segments : List (List ℕ)) (can_fail : Bool) (f : WriteFault) → IsTooMuch segments f → IsRefused l segments can_fail f
too_much l segments can_fail Depth h = absurd h
too_much l segments can_fail (Unserved f) h = absurd h
too_much l segments can_fail (Rows f) h = absurd h
too_much l segments can_fail Size h = h
too_much l segments can_fail Failed h = absurd h
too_much l segments can_fail NoMemory h = tt

pub on_ok : (r : Result ⊤ WriteFault) (P : Type 0) → P → OnOk r P
on_ok (Ok x) P h = h
on_ok (Err f) P h = tt

-- ---- rows
dtype_is : (l : Layout) (d : DataType) → HasForm l d → dtype_of l ≡ d
dtype_is (node t rows kind kids) d h = h.0

no_fault : (l : Layout) (d : DataType) → HasForm l d → depth_of d ≤ 42 → first_fault l d ≡ None
no_fault l d h k =
    let yes : nat_le (depth_of d) 64 ≡ true = grind (arith, nat_tests) in
    ap (λ b. unless b Deep then fault_in l d) yes ∙ faultless l d h

rows_refused : (l : Layout) (d : DataType) (rows : List Val) (segments : List (List ℕ)) (can_fail : Bool) (f : WriteFault) → Holds d rows segments l → IsRefused l segments can_fail f
    → AreRefused d rows can_fail f
rows_refused l d rows segments can_fail Depth h r = subst (λ z. 42 < depth_of z) (dtype_is l d h.form) r
rows_refused l d rows segments can_fail (Unserved f) h r =
    let e = dtype_is l d h.form in
    let none : first_fault l (dtype_of l) ≡ None = subst (λ z. first_fault l z ≡ None) (sym e) (no_fault l d h.form (subst (λ z. depth_of z ≤ 42) e r.0)) in
    let both : None ≡ Some f = sym none ∙ r.1 in absurd cc
rows_refused l d rows segments can_fail (Rows f) h r = absurd r
rows_refused l d rows segments can_fail Size h r = tt
rows_refused l d rows segments can_fail Failed h r = r
rows_refused l d rows segments can_fail NoMemory h r = tt

pub are_refused : (l : Layout) (d : DataType) (rows : List Val) (segments : List (List ℕ)) (can_fail : Bool) (r : Result ⊤ WriteFault) → Holds d rows segments l
    → IfErr r (IsRefused l segments can_fail) → IfErr r (AreRefused d rows can_fail)
are_refused l d rows segments can_fail (Ok x) h r = tt
are_refused l d rows segments can_fail (Err f) h r = rows_refused l d rows segments can_fail f h r

pub are_served : (l : Layout) (d : DataType) (rows : List Val) (segments : List (List ℕ)) (r : Result ⊤ WriteFault) → Holds d rows segments l → all_texts_fit (vals_of rows) ≡ true
    → OnOk r (IsServed l) → OnOk r (AreServed d rows)
are_served l d rows segments (Ok x) h s f = (subst (λ z. depth_of z ≤ 42) (dtype_is l d h.form) f.0, s)
are_served l d rows segments (Err e) h s f = tt

pub not_encoded : (d : DataType) (rows : List Val) (segments : List (List ℕ)) (can_fail : Bool) (f : RowsFault) → IsUnwritten rows segments f → AreRefused d rows can_fail (rows_fault f)
not_encoded d rows segments can_fail rows_faults.TooLong h = h
not_encoded d rows segments can_fail rows_faults.Segments h = tt
not_encoded d rows segments can_fail rows_faults.NoMemory h = tt

-- a file of the layout is one of its rows
pub file_of_rows : (l : Layout) (d : DataType) (rows : List Val) (segments : List (List ℕ)) (T : List ℕ → Type 0) (r : Result ⊤ WriteFault) → Holds d rows segments l
    → OnOk r ((bytes : List ℕ) × IsFile l segments bytes × T bytes) → OnOk r ((bytes : List ℕ) × IsFileOf d rows bytes × T bytes)
file_of_rows l d rows segments T (Ok x) h r = (r.0, r.1.rows d rows h, r.2)
file_of_rows l d rows segments T (Err f) h r = tt

-- ---- places, one after the other
pub placed_next : (made now : List Place) (p : Place) (at end : ℕ) (raws : List (Vec ℕ Global)) (i : ℕ) (v : Vec ℕ Global) (s : List ℕ) (whole : List Place) → now ≡ made ++ p ∷ []
    → p ≡ placed at s → s ≡ v.items → end ≡ at + length s → drop i raws ≡ v ∷ drop (i + 1) raws → made ++ places_from at (bytes_of (drop i raws)) ≡ whole
    → now ++ places_from end (bytes_of (drop (i + 1) raws)) ≡ whole
placed_next made now p at end raws i v s whole e h q k d w =
    let tail = bytes_of (drop (i + 1) raws) in
    ap (λ z. z ++ places_from end tail) e
    ∙ (append_assoc made (p ∷ []) (places_from end tail)
    ∙ (ap (λ z. made ++ (z ∷ places_from end tail)) h
    ∙ (ap (λ n. made ++ (placed at s ∷ places_from n tail)) k
    ∙ (ap (λ z. made ++ places_from at (z ∷ tail)) q ∙ (ap (λ z. made ++ places_from at (bytes_of z)) (sym d) ∙ w)))))

pub sum_next : (at end : ℕ) (raws : List (Vec ℕ Global)) (i : ℕ) (v : Vec ℕ Global) (s : List ℕ) (whole : ℕ) → s ≡ v.items → end ≡ at + length s → drop i raws ≡ v ∷ drop (i + 1) raws
    → at + length (joined (bytes_of (drop i raws))) ≡ whole → end + length (joined (bytes_of (drop (i + 1) raws))) ≡ whole
sum_next at end raws i v s whole q k d w =
    let all = ap (λ z. length (joined (bytes_of z))) d in
    let part = length-append v.items (joined (bytes_of (drop (i + 1) raws))) in
    let same = ap length q in
    omega (arith, all, part, same, k, w)

-- what does not fit behind a place
pub past : (at n : ℕ) (raws : List (Vec ℕ Global)) (i : ℕ) (v : Vec ℕ Global) (s : List ℕ) (whole : ℕ) → s ≡ v.items → drop i raws ≡ v ∷ drop (i + 1) raws
    → at + length (joined (bytes_of (drop i raws))) ≡ whole → n ≤ at + length s → n ≤ whole
past at n raws i v s whole q d w h =
    let all = ap (λ z. length (joined (bytes_of z))) d in
    let part = length-append v.items (joined (bytes_of (drop (i + 1) raws))) in
    let same = ap length q in
    omega (arith, all, part, same, h, w)

pub placed_end : (made : List Place) (at : ℕ) (raws : List (Vec ℕ Global)) (whole : List Place) → raws ≡ [] → made ++ places_from at (bytes_of raws) ≡ whole → made ≡ whole
placed_end made at raws whole e w = sym (append-nil made) ∙ (ap (λ z. made ++ places_from at (bytes_of z)) (sym e) ∙ w)
