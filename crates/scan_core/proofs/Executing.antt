-- The splits of a scan.
use Rattle.std.proofs.Common.{◌≡◌, ◌≤◌, ◌+◌, ◌-◌, ℕ, Bool, List, length, false, IfOk, Ok, Err, Result, Option, ◌∙◌, ap, sym, subst, arith}
use Rattle.std.proofs.lemmas.List.FromFn.{length-map-range_with_len}
use Rattle.std.specs.declared.ops.Range.{Range}
use Rattle.scan_values.specs.Selections.{row_mask, selects}
use Rattle.scan_values.specs.declared.selection.Selection.{Selection}
use Rattle.scan_streams.specs.Grants.{HasRoom}
use Rattle.scan_streams.specs.Splits.{reach}
use Rattle.scan_streams.specs.Streams.{StreamData}
use Rattle.scan_streams.proofs.Feeding.{room_less}
use Rattle.scan_core.specs.RowRanges.{is_past, IsRange, AreRanges}
use Rattle.scan_core.specs.ScanData.{ScanData, IsScan, scan_ranges}
use Rattle.scan_core.proofs.Reaching.{reached_within}

pub mask_reaches : (n : ℕ) (s : Selection) (r : Range ℕ) (m : List Bool) → m ≡ row_mask s r → IsRange n r → r.start + length m ≡ r.end
mask_reaches n s r m e i =
    let long : length m ≡ r.end - r.start = ap length e ∙ length-map-range_with_len (selects s) r.start (r.end - r.start) in
    let order = i.0 in
    omega (arith, long, order)

pub scan_within : {M : Type 0} (s : ScanData M) (r : Option (Range ℕ)) → IsScan s → is_past r s.rows ≡ false → AreRanges s.rows (scan_ranges s r)
scan_within s r h p = reached_within s.rows s.boundaries s.range r s.selection h.rising h.within h.range p

pub ranges_ok : {V E : Type 0} (items : V → List (Range ℕ)) (n : ℕ) (xs : List (Range ℕ)) (r : Result V E) → AreRanges n xs → IfOk r (λ v. items v ≡ xs) → IfOk r (λ v. AreRanges n (items v))
ranges_ok items n xs (Ok v) h e = subst (AreRanges n) (sym e) h
ranges_ok items n xs (Err f) h e = tt

-- a stream that begins has room for its splits
pub begun_room : {M E : Type 0} (z : StreamData M) (n : ℕ) (r : Result (StreamData M) E)
    → IfOk r (λ s. s ≡ z) → reach (z.feed).splits ≤ n → HasRoom (z.feed).seat n → IfOk r (λ s. HasRoom (s.feed).seat (reach (s.feed).splits))
begun_room z n (Ok s) is le room = subst (λ t. HasRoom (t.feed).seat (reach (t.feed).splits)) (sym is) (room_less (z.feed).seat n (reach (z.feed).splits) le room)
begun_room z n (Err f) is le room = tt
