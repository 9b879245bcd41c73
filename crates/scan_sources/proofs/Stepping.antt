-- A scan in parts behind its next part.
use Rattle.std.proofs.Common.{◌≡◌, ◌≤◌, ◌+◌, ◌-◌, ℕ, zero, suc, Option, Some, None, ◌⊎◌, inl, inr, ap, sym, subst, ◌∙◌, arith}
use Rattle.std.specs.Prelude.{min}
use Rattle.std.specs.declared.ops.Range.{Range}
use Rattle.std.proofs.Math.Nat.{min-eq_left, min-eq_right}
use Rattle.scan_limit.specs.Seats.{SeatState}
use Rattle.scan_streams.specs.Grants.{HasRoom}
use Rattle.scan_core.specs.ScanData.{ScanData}
use Rattle.scan_core.specs.SplitRanges.{rows}
use Rattle.scan_sources.specs.Scans.{ReaderScan, IsReaderScan, next_range, reader_scan}
use Rattle.scan_sources.specs.Splits.{rest_of}

ordered : (a b : ℕ) → (a ≤ b) ⊎ (b ≤ a)
ordered zero b = inl (omega arith)
ordered (suc a) zero = inr (omega arith)
ordered (suc a) (suc b) = elim (ordered a b) [ inl h ↦ inl (omega (arith, h)) | inr h ↦ inr (omega (arith, h)) ]

-- what is left of the room is enough for the rows that are left
enough : (room n k e : ℕ) → e - n ≤ room → e - min (n + k) e ≤ room - (min (n + k) e - n)
enough room n k e h = go (ordered (n + k) e)
  where
    go : (n + k ≤ e) ⊎ (e ≤ n + k) → e - min (n + k) e ≤ room - (min (n + k) e - n)
    go (inl l) = let m : min (n + k) e ≡ n + k = min-eq_left l in rw m (omega (arith, h, l))
    go (inr l) = let m : min (n + k) e ≡ e = min-eq_right l in rw m (omega arith)

room_behind : (seat : Option SeatState) (n k e : ℕ) → HasRoom seat (e - n) → HasRoom (rest_of (min (n + k) e - n) seat) (e - min (n + k) e)
room_behind None n k e h = tt
room_behind (Some s) n k e h = enough s.room n k e h

pub stepped : {M : Type 0} (now : ReaderScan M) (s : ScanData M) (n e k : ℕ) (left behind : Option ℕ) (seat rest : Option SeatState) (r : Range ℕ)
    → reader_scan s n e k left seat ≡ now → IsReaderScan (reader_scan s n e k left seat) → r ≡ next_range now → rest ≡ rest_of (r.end - r.start) seat → IsReaderScan (reader_scan s r.end e k behind rest)
stepped {M} now s n e k left behind seat rest r is h range same =
    let here : r ≡ rows n (min (n + k) e) = range ∙ sym (ap (λ (z : ReaderScan M). next_range z) is) in
    let room : HasRoom (rest_of (r.end - r.start) seat) (e - r.end) =
    subst (λ (z : Range ℕ). HasRoom (rest_of (z.end - z.start) seat) (e - z.end)) (sym here) (room_behind seat n k e h.room) in
    record {
      rows = h.rows;
      size = h.size;
      room = subst (λ (z : Option SeatState). HasRoom z (e - r.end)) (sym same) room;
      scan = h.scan;
    }
