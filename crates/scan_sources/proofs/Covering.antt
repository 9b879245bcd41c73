-- The parts of a scan cover its rows.
use Rattle.std.proofs.Common.{◌≡◌, ◌≤◌, ◌<◌, ◌+◌, ◌||◌, ℕ, Bool, true, false, nat_le, List, [], ◌∷◌, map, refl, ap, sym, subst, arith}
use Rattle.std.specs.Prelude.{min}
use Rattle.std.proofs.lemmas.Bool.Decides.{nat_tests}
use Rattle.std.specs.declared.ops.Range.{Range}
use Rattle.scan_core.specs.SplitRanges.{Follow}
use Rattle.scan_sources.specs.Parts.{GivesParts, PartsCoverTheScan}
use Rattle.scan_sources.specs.Scans.{ReaderScan, after_split, is_used, next_range}
use Rattle.scan_sources.specs.Splits.{ReaderSplit}

pub or_left : (a b : Bool) → (a || b) ≡ false → a ≡ false
or_left false b h = refl
or_left true b h = absurd cc

pub or_right : (a b : Bool) → (a || b) ≡ true → b ≡ false → a ≡ true
or_right true b h k = refl
or_right false b h k = absurd cc

-- a part has a row, where one is left
pub has_row : (next size end : ℕ) → 0 < size → nat_le end next ≡ false → next < min (next + size) end
has_row next size end some h = grind (arith, nat_tests, some, h)

pub within : (next size end : ℕ) → min (next + size) end ≤ end
within next size end = grind arith

pub parts_follow : {M : Type 0} (old new : ReaderScan M) (ps : List (ReaderSplit M)) → 0 < old.size → GivesParts old ps new → Follow old.next new.next (map (λ (p : ReaderSplit M). p.range) ps)
parts_follow {M} old new [] some h = ap (λ (s : ReaderScan M). s.next) (sym h)
parts_follow {M} old new (p ∷ ps) some h =
    let P : Range ℕ → Type 0 = λ r. (r.start ≡ old.next) × (r.start < r.end) × Follow r.end new.next (map (λ (q : ReaderSplit M). q.range) ps) in
    let left : nat_le old.end old.next ≡ false = or_left (nat_le old.end old.next) (is_used old.left) (h.0).0 in
    let rest = parts_follow (after_split old) new ps some h.1 in
    let is : p.range ≡ next_range old = ap (λ (q : ReaderSplit M). q.range) (h.0).1 in
    subst P (sym is) (refl, has_row old.next old.size old.end some left, rest)

-- they leave its end, and do not pass it
pub parts_end : {M : Type 0} (old new : ReaderScan M) (ps : List (ReaderSplit M)) → GivesParts old ps new → old.next ≤ old.end → (new.end ≡ old.end) × (new.next ≤ old.end)
parts_end {M} old new [] h low = subst (λ (s : ReaderScan M). (s.end ≡ old.end) × (s.next ≤ old.end)) (sym h) (refl, low)
parts_end {M} old new (p ∷ ps) h low = parts_end (after_split old) new ps h.1 (within old.next old.size old.end)

pub all_left : (end next : ℕ) → nat_le end next ≡ true → end ≤ next
all_left end next h = grind (arith, nat_tests, h)

pub parts_cover : {M : Type 0} → PartsCoverTheScan M
parts_cover {M} old new ps some h = record {
  follow = parts_follow old new ps some h;
  covered = λ low over left.
      let ends = parts_end old new ps h low in
      let same = ends.0 in
      let high = ends.1 in
      let past = all_left new.end new.next (or_right (nat_le new.end new.next) (is_used new.left) over left) in
      omega (arith, same, high, past);
}
