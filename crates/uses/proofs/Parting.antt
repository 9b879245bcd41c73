-- Parts of a scan that share no limit, read one after the other.
use Rattle.std.proofs.Common.{◌≡◌, ◌<◌, ◌+◌, ◌-◌, ◌||◌, ℕ, Bool, true, false, nat_le, List, [], ◌∷◌, ◌++◌, Option, Some, None, Ok, refl, ap, sym, subst, ◌∙◌, arith}
use Rattle.std.specs.Prelude.{min}
use Rattle.std.proofs.lemmas.Bool.Decides.{nat_tests}
use Rattle.vortex_scan.specs.Values.Arrays.{ArrayData}
use Rattle.vortex_scan.specs.Segments.Source.{Store}
use Rattle.vortex_scan.specs.Limit.Seats.{SeatState}
use Rattle.vortex_scan.specs.Streams.Grants.{HasRoom}
use Rattle.vortex_scan.specs.Streams.Splits.{reach}
use Rattle.vortex_scan.specs.Streams.Streams.{StreamData}
use Rattle.vortex_scan.specs.Core.ScanData.{IsScan, ScanData}
use Rattle.vortex_scan.specs.Core.Streaming.{IsStreamOf}
use Rattle.vortex_scan.specs.Collect.Reads.{IsFresh, IsReadOf, values_given}
use Rattle.vortex_scan.specs.Sources.Parts.{GivesParts}
use Rattle.vortex_scan.specs.Sources.Plain.{Plain}
use Rattle.vortex_scan.specs.Sources.Scans.{GivesPart, IsReaderScan, ReaderScan, after_split, is_over, is_used, next_size}
use Rattle.vortex_scan.specs.Sources.Splits.{IsStreamBy, IsStreamOfSplit, ReaderSplit, part_of, rest_of}
use Rattle.uses.specs.InParts.{AreRead, GivesOf, HasParts, IsRead, KeepsPart, PushesPart, ReadsNext, ReadsOne, ReadsParts}
use Rattle.uses.specs.declared.in_parts.RowsOfPart.{RowsOfPart}
use Rattle.uses.specs.declared.in_parts.Turn.{Turn}
use Rattle.uses.specs.declared.in_parts.Turn.TheVariants.{More, Last, Stop}
use Rattle.uses.proofs.Streamed.{stream_gives}

-- ---- one part
-- it shares no limit
pub part_seat : (old new : ReaderScan Plain) (p : ReaderSplit Plain) → old.seat ≡ None → GivesPart old new (Ok (Some p)) → p.seat ≡ None
part_seat old new p n g = ap (λ (q : ReaderSplit Plain). q.seat) g.1 ∙ ap (part_of (next_size old)) n

-- its stream has its own limit
pub own_stream : (p : ReaderSplit Plain) (t : StreamData Plain) → p.seat ≡ None → IsStreamOfSplit p t → IsStreamOf p.scan (Some p.range) t
own_stream p t e h = subst (λ (o : Option SeatState). IsStreamBy p.scan p.range o t) e h

-- what is read of it
pub part_read : (p : ReaderSplit Plain) (t : StreamData Plain) (holds : Option Store) (arrays : List ArrayData) → IsStreamOf p.scan (Some p.range) t → HasRoom (t.feed).seat (reach (t.feed).splits)
    → ((store : Store) → holds ≡ Some store → IsFresh store t.feed → IsReadOf store t.feed (values_given arrays)) → GivesOf holds p (values_given arrays)
part_read p t holds arrays is room read = λ store told. stream_gives p.scan (Some p.range) t is store (values_given arrays) room (read store told)

-- what comes of keeping what it gives
pub keeps_pushed : (holds : Option Store) (part : ReaderSplit Plain) (rows : RowsOfPart) (before after : List RowsOfPart) (r : Turn) → rows.rows ≡ part.range
    → GivesOf holds part (values_given rows.arrays.items) → PushesPart rows before after r → KeepsPart holds part before after r
keeps_pushed holds part rows before after More is gives h = record { read = rows; kept = h; is = record { rows = is; values = gives } }
keeps_pushed holds part rows before after Last is gives h = h
keeps_pushed holds part rows before after (Stop f) is gives h = tt

pub reads_kept : (holds : Option Store) (old new : ReaderScan Plain) (part : ReaderSplit Plain) (before after : List RowsOfPart) (r : Turn)
    → GivesPart old new (Ok (Some part)) → IsReaderScan old → KeepsPart holds part before after r → ReadsNext holds old new before after r
reads_kept holds old new part before after More g l h = record { part = part; gives = g; lies = l; keeps = h }
reads_kept holds old new part before after Last g l h = absurd h
reads_kept holds old new part before after (Stop f) g l h = tt

or_left : (a b : Bool) → (a || b) ≡ false → a ≡ false
or_left false b h = refl
or_left true b h = absurd cc

some_left : (old new : ReaderScan Plain) (p : ReaderSplit Plain) → GivesPart old new (Ok (Some p)) → old.next < old.end
some_left old new p g =
    let left : nat_le old.end old.next ≡ false = or_left (nat_le old.end old.next) (is_used old.left) g.0 in
    grind (arith, nat_tests, left)

-- ---- several
-- what stays
pub record Stays (old new : ReaderScan Plain) : Type 0 where
  pub seat : new.seat ≡ None
  pub scan : new.scan ≡ old.scan
  pub size : new.size ≡ old.size
  pub end : new.end ≡ old.end

pub stays : (old new : ReaderScan Plain) (ps : List (ReaderSplit Plain)) → old.seat ≡ None → GivesParts old ps new → Stays old new
stays old new [] n h = record {
  seat = ap (λ (s : ReaderScan Plain). s.seat) h ∙ n;
  scan = ap (λ (s : ReaderScan Plain). s.scan) h;
  size = ap (λ (s : ReaderScan Plain). s.size) h;
  end = ap (λ (s : ReaderScan Plain). s.end) h;
}
stays old new (p ∷ ps) n h =
    let k = stays (after_split old) new ps (ap (rest_of (next_size old)) n) h.1 in
    record { seat = k.seat; scan = k.scan; size = k.size; end = k.end }

pub still_none : (holds : Option Store) (old new : ReaderScan Plain) (parts : List RowsOfPart) → old.seat ≡ None → HasParts holds old new parts → new.seat ≡ None
still_none holds old new parts n h = (stays old new h.splits n h.gives).seat

-- it was lawful
lay : (old new : ReaderScan Plain) → old.seat ≡ None → Stays old new → IsReaderScan new → IsReaderScan old
lay old new n k l =
    let rows = l.rows in
    let end = k.end in
    let count : (new.scan).rows ≡ (old.scan).rows = ap (λ (s : ScanData Plain). s.rows) k.scan in
    record {
      rows = omega (arith, rows, end, count);
      size = subst (λ (m : ℕ). 0 < m) k.size l.size;
      room = subst (λ (o : Option SeatState). HasRoom o (old.end - old.next)) (sym n) tt;
      scan = subst IsScan k.scan l.scan;
    }

one_more : (old mid new : ReaderScan Plain) (ps : List (ReaderSplit Plain)) (p : ReaderSplit Plain) → GivesParts old ps mid → GivesPart mid new (Ok (Some p)) → GivesParts old (ps ++ p ∷ []) new
one_more old mid new [] p h g =
    let P : ReaderScan Plain → Type 0 = λ s. GivesPart s (after_split s) (Ok (Some p)) × (new ≡ after_split s) in
    subst P h ((g.0, g.1, refl), g.2)
one_more old mid new (q ∷ qs) p h g = (h.0, one_more (after_split old) mid new qs p h.1 g)

read_one_more : (holds : Option Store) (ps : List (ReaderSplit Plain)) (rs : List RowsOfPart) (p : ReaderSplit Plain) (r : RowsOfPart) → AreRead holds ps rs → IsRead holds p r → AreRead holds (ps ++ p ∷ []) (rs ++ r ∷ [])
read_one_more holds [] [] p r h k = (k, tt)
read_one_more holds [] (x ∷ rs) p r h k = absurd h
read_one_more holds (q ∷ ps) [] p r h k = absurd h
read_one_more holds (q ∷ ps) (x ∷ rs) p r h k = (h.0, read_one_more holds ps rs p r h.1 k)

-- nothing was read
pub parts_none : (holds : Option Store) (s : ReaderScan Plain) → HasParts holds s s []
parts_none holds s = record { splits = []; gives = refl; read = tt }

-- one part more, of a source that holds what it held
pub read_more : (holds now : Option Store) (old mid new : ReaderScan Plain) (before after : List RowsOfPart) → now ≡ holds → HasParts holds old mid before → ReadsOne now mid new before after → HasParts holds old new after
read_more holds now old mid new before after e h r =
    let k = r.keeps in
    let one : IsRead holds r.part k.read = subst (λ (o : Option Store). IsRead o r.part k.read) e k.is in
    subst (HasParts holds old new) (sym k.kept) (record {
      splits = h.splits ++ r.part ∷ [];
      gives = one_more old mid new h.splits r.part h.gives r.gives;
      read = read_one_more holds h.splits before r.part k.read h.read one;
    })

-- ---- it comes to an end
fewer : (next size end : ℕ) → 0 < size → next < end → end - min (next + size) end < end - next
fewer next size end some left = omega (arith, some, left)

pub part_nearer : (holds : Option Store) (old new : ReaderScan Plain) (before after : List RowsOfPart) → ReadsOne holds old new before after → new.end - new.next < old.end - old.next
part_nearer holds old new before after r =
    subst (λ (s : ReaderScan Plain). s.end - s.next < old.end - old.next) (sym (r.gives).2) (fewer old.next old.size old.end (r.lies).size (some_left old new r.part r.gives))

-- all parts
pub parts_read : (holds : Option Store) (old last new : ReaderScan Plain) (before after : List RowsOfPart) → old.seat ≡ None → HasParts holds old last before
    → (is_over last ≡ true) × (new ≡ last) × (after ≡ before) × IsReaderScan last → ReadsParts holds old new after
parts_read holds old last new before after n h e =
    let k = stays old last h.splits n h.gives in
    let P : ReaderScan Plain × List RowsOfPart → Type 0 = λ z. ReadsParts holds old z.0 z.1 in
    subst P (λ i. (sym e.1 i, sym e.2 i)) (record { lies = lay old last n k e.3; over = e.0; has = h })

-- no part is left
pub over_read : (old new : ReaderScan Plain) (parts : List RowsOfPart) → GivesPart old new (Ok None) → IsReaderScan old → (is_over old ≡ true) × (new ≡ old) × (parts ≡ parts) × IsReaderScan old
over_read old new parts g l = (g.0, g.1, refl, l)
