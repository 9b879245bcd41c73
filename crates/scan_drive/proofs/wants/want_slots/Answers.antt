use Rattle.std.proofs.Common.{◌≡◌, ◌∙◌, ◌<◌, ◌∷◌, ℕ, List, true, arith, ap, sym, subst, length, length-set, set, refl}
use Rattle.std.proofs.lemmas.List.{get_or_default}
use Rattle.scan_values.specs.Selections.{is_among}
use Rattle.scan_drive.specs.Asks.{IsWantedBy}
use Rattle.scan_drive.specs.Desks.{Waiters}
use Rattle.scan_drive.specs.Drivings.{IsKeptIn}
use Rattle.scan_drive.specs.Links.{Among}
use Rattle.scan_drive.specs.Looks.{WaitsForAll}
use Rattle.scan_drive.specs.Lost.{Follows}
use Rattle.scan_drive.specs.Measures.{Advances}
use Rattle.scan_drive.specs.Slots.{slot_at, nothing, wanted_in, SlotKeeps}
use Rattle.scan_drive.specs.Sources.{NoId}
use Rattle.scan_drive.specs.declared.files.ScanFile.{ScanFile}
use Rattle.scan_drive.specs.declared.slot.Slot.{Slot}
use Rattle.scan_drive.proofs.Asked.{Remains, remains_next, reading_within, reading_there, but_new, but_set, all_set, kept_set}
use Rattle.scan_drive.proofs.Asking.{moves_weaker}
use Rattle.scan_drive.proofs.Filing.{files_report, files_report_then}
use Rattle.scan_drive.proofs.Handing.{among_head}
use Rattle.scan_drive.proofs.Rounding.{agree_at, agree_set, sources_moved}
use Rattle.scan_drive.proofs.Serving.{loses_then, wanted_next}
use Rattle.scan_drive.proofs.Trading.{files_set, files_then}
use Rattle.scan_drive.proofs.wants.want_slots.Goals as goal

pub index-requires : goal.index-requires
index-requires g c =
    let inv = c.asking.invariant in
    let place = c.in-Some.place in
    let slots0 : List (Slot g.row.W.Denot g.row.W-Rows.Denot) = c.args.slots.now.items in
    let slots : List (Slot g.row.W.Denot g.row.W-Rows.Denot) = c.asking.slots.items in
    let rest = c.pop_front.new.self.items in
    let remains : Remains (place ∷ rest) c.args.asking.now.items slots0 slots = subst (λ (xs : List ℕ). Remains xs c.args.asking.now.items slots0 slots) c.in-Some.ensures.items inv.remains in
    let m : is_among (place ∷ rest) place ≡ true = among_head place rest in
    let same : slot_at slots place ≡ slot_at slots0 place = remains.same place m in
    let waiting : WaitsForAll (slot_at slots place) = subst WaitsForAll (sym same) (c.requires.waiting place (remains.among place m)) in
    let lt : place < length slots = reading_within slots place waiting.reading in
    omega (arith, lt, c.asking.slots.ok)

pub index_mut-file-requires : goal.index_mut-file-requires
index_mut-file-requires g c =
    let inv = c.asking.invariant in
    let place = c.in-Some.place in
    let slots0 : List (Slot g.row.W.Denot g.row.W-Rows.Denot) = c.args.slots.now.items in
    let slots : List (Slot g.row.W.Denot g.row.W-Rows.Denot) = c.asking.slots.items in
    let rest = c.pop_front.new.self.items in
    let remains : Remains (place ∷ rest) c.args.asking.now.items slots0 slots = subst (λ (xs : List ℕ). Remains xs c.args.asking.now.items slots0 slots) c.in-Some.ensures.items inv.remains in
    let m : is_among (place ∷ rest) place ≡ true = among_head place rest in
    let same : slot_at slots place ≡ slot_at slots0 place = remains.same place m in
    let waiting : WaitsForAll (slot_at slots place) = subst WaitsForAll (sym same) (c.requires.waiting place (remains.among place m)) in
    let lt : place < length slots = reading_within slots place waiting.reading in
    let files : List (ScanFile g.row.O.Denot g.row.S.Denot) = c.asking.files.items in
    let desks : List Waiters = c.asking.desks.items in
    let at : c.index.result.now ≡ slot_at slots place = c.index.ensures ∙ get_or_default slots place c.index.result.now nothing lt in
    let k = c.index.result.now.file in
    let is : k ≡ (slot_at slots place).file = ap (λ (s : Slot g.row.W.Denot g.row.W-Rows.Denot). s.file) at in
    let is0 : k ≡ (slot_at slots0 place).file = is ∙ ap (λ (s : Slot g.row.W.Denot g.row.W-Rows.Denot). s.file) same in
    let within = c.requires.within place (reading_there (slot_at slots0 place).stage (c.requires.waiting place (remains.among place m)).reading) in
    let klt : k < length files = omega (arith, within, is0, inv.sources.len) in
    let dlt : k < length desks = omega (arith, inv.agree.len, klt) in
    omega (arith, klt, c.asking.files.ok)

pub index_mut-desk-requires : goal.index_mut-desk-requires
index_mut-desk-requires g c =
    let inv = c.asking.invariant in
    let place = c.in-Some.place in
    let slots0 : List (Slot g.row.W.Denot g.row.W-Rows.Denot) = c.args.slots.now.items in
    let slots : List (Slot g.row.W.Denot g.row.W-Rows.Denot) = c.asking.slots.items in
    let rest = c.pop_front.new.self.items in
    let remains : Remains (place ∷ rest) c.args.asking.now.items slots0 slots = subst (λ (xs : List ℕ). Remains xs c.args.asking.now.items slots0 slots) c.in-Some.ensures.items inv.remains in
    let m : is_among (place ∷ rest) place ≡ true = among_head place rest in
    let same : slot_at slots place ≡ slot_at slots0 place = remains.same place m in
    let waiting : WaitsForAll (slot_at slots place) = subst WaitsForAll (sym same) (c.requires.waiting place (remains.among place m)) in
    let lt : place < length slots = reading_within slots place waiting.reading in
    let files : List (ScanFile g.row.O.Denot g.row.S.Denot) = c.asking.files.items in
    let desks : List Waiters = c.asking.desks.items in
    let at : c.index.result.now ≡ slot_at slots place = c.index.ensures ∙ get_or_default slots place c.index.result.now nothing lt in
    let k = c.index.result.now.file in
    let is : k ≡ (slot_at slots place).file = ap (λ (s : Slot g.row.W.Denot g.row.W-Rows.Denot). s.file) at in
    let is0 : k ≡ (slot_at slots0 place).file = is ∙ ap (λ (s : Slot g.row.W.Denot g.row.W-Rows.Denot). s.file) same in
    let within = c.requires.within place (reading_there (slot_at slots0 place).stage (c.requires.waiting place (remains.among place m)).reading) in
    let klt : k < length files = omega (arith, within, is0, inv.sources.len) in
    let dlt : k < length desks = omega (arith, inv.agree.len, klt) in
    omega (arith, dlt, c.asking.desks.ok)

pub index_mut-slot-requires : goal.index_mut-slot-requires
index_mut-slot-requires g c =
    let inv = c.asking.invariant in
    let place = c.in-Some.place in
    let slots0 : List (Slot g.row.W.Denot g.row.W-Rows.Denot) = c.args.slots.now.items in
    let slots : List (Slot g.row.W.Denot g.row.W-Rows.Denot) = c.asking.slots.items in
    let rest = c.pop_front.new.self.items in
    let remains : Remains (place ∷ rest) c.args.asking.now.items slots0 slots = subst (λ (xs : List ℕ). Remains xs c.args.asking.now.items slots0 slots) c.in-Some.ensures.items inv.remains in
    let m : is_among (place ∷ rest) place ≡ true = among_head place rest in
    let same : slot_at slots place ≡ slot_at slots0 place = remains.same place m in
    let waiting : WaitsForAll (slot_at slots place) = subst WaitsForAll (sym same) (c.requires.waiting place (remains.among place m)) in
    let lt : place < length slots = reading_within slots place waiting.reading in
    omega (arith, lt, c.asking.slots.ok)

pub want_slot-requires-clause-agree : goal.want_slot-requires-clause-agree
want_slot-requires-clause-agree g c κs lives =
    let source = g.S.SegmentSource.state in
    let inv = c.asking.invariant in
    let place = c.in-Some.place in
    let slots0 : List (Slot g.row.W.Denot g.row.W-Rows.Denot) = c.args.slots.now.items in
    let slots : List (Slot g.row.W.Denot g.row.W-Rows.Denot) = c.asking.slots.items in
    let rest = c.pop_front.new.self.items in
    let remains : Remains (place ∷ rest) c.args.asking.now.items slots0 slots = subst (λ (xs : List ℕ). Remains xs c.args.asking.now.items slots0 slots) c.in-Some.ensures.items inv.remains in
    let m : is_among (place ∷ rest) place ≡ true = among_head place rest in
    let same : slot_at slots place ≡ slot_at slots0 place = remains.same place m in
    let waiting : WaitsForAll (slot_at slots place) = subst WaitsForAll (sym same) (c.requires.waiting place (remains.among place m)) in
    let lt : place < length slots = reading_within slots place waiting.reading in
    let files : List (ScanFile g.row.O.Denot g.row.S.Denot) = c.asking.files.items in
    let desks : List Waiters = c.asking.desks.items in
    let at : c.index.result.now ≡ slot_at slots place = c.index.ensures ∙ get_or_default slots place c.index.result.now nothing lt in
    let k = c.index.result.now.file in
    let is : k ≡ (slot_at slots place).file = ap (λ (s : Slot g.row.W.Denot g.row.W-Rows.Denot). s.file) at in
    let is0 : k ≡ (slot_at slots0 place).file = is ∙ ap (λ (s : Slot g.row.W.Denot g.row.W-Rows.Denot). s.file) same in
    let within = c.requires.within place (reading_there (slot_at slots0 place).stage (c.requires.waiting place (remains.among place m)).reading) in
    let klt : k < length files = omega (arith, within, is0, inv.sources.len) in
    agree_at source files desks k c.index_mut-file.result.now c.index_mut-desk.result.now inv.agree klt c.index_mut-file.ensures.value c.index_mut-desk.ensures.value

pub want_slot-requires-clause-new : goal.want_slot-requires-clause-new
want_slot-requires-clause-new g c κs lives =
    let inv = c.asking.invariant in
    let place = c.in-Some.place in
    let slots0 : List (Slot g.row.W.Denot g.row.W-Rows.Denot) = c.args.slots.now.items in
    let slots : List (Slot g.row.W.Denot g.row.W-Rows.Denot) = c.asking.slots.items in
    let rest = c.pop_front.new.self.items in
    let remains : Remains (place ∷ rest) c.args.asking.now.items slots0 slots = subst (λ (xs : List ℕ). Remains xs c.args.asking.now.items slots0 slots) c.in-Some.ensures.items inv.remains in
    let m : is_among (place ∷ rest) place ≡ true = among_head place rest in
    let same : slot_at slots place ≡ slot_at slots0 place = remains.same place m in
    let waiting : WaitsForAll (slot_at slots place) = subst WaitsForAll (sym same) (c.requires.waiting place (remains.among place m)) in
    let lt : place < length slots = reading_within slots place waiting.reading in
    let files : List (ScanFile g.row.O.Denot g.row.S.Denot) = c.asking.files.items in
    let desks : List Waiters = c.asking.desks.items in
    let at : c.index.result.now ≡ slot_at slots place = c.index.ensures ∙ get_or_default slots place c.index.result.now nothing lt in
    let k = c.index.result.now.file in
    let is : k ≡ (slot_at slots place).file = ap (λ (s : Slot g.row.W.Denot g.row.W-Rows.Denot). s.file) at in
    let is0 : k ≡ (slot_at slots0 place).file = is ∙ ap (λ (s : Slot g.row.W.Denot g.row.W-Rows.Denot). s.file) same in
    let within = c.requires.within place (reading_there (slot_at slots0 place).stage (c.requires.waiting place (remains.among place m)).reading) in
    let klt : k < length files = omega (arith, within, is0, inv.sources.len) in
    let dlt : k < length desks = omega (arith, inv.agree.len, klt) in
    but_new (place ∷ rest) desks slots k c.index_mut-desk.result.now place (subst (λ (xs : List ℕ). Rattle.scan_drive.specs.Asks.EachLinkedBut xs desks slots) c.in-Some.ensures.items inv.links) dlt c.index_mut-desk.ensures.value m

pub want_slot-requires-clause-waiting : goal.want_slot-requires-clause-waiting
want_slot-requires-clause-waiting g c κs lives =
    let inv = c.asking.invariant in
    let place = c.in-Some.place in
    let slots0 : List (Slot g.row.W.Denot g.row.W-Rows.Denot) = c.args.slots.now.items in
    let slots : List (Slot g.row.W.Denot g.row.W-Rows.Denot) = c.asking.slots.items in
    let rest = c.pop_front.new.self.items in
    let remains : Remains (place ∷ rest) c.args.asking.now.items slots0 slots = subst (λ (xs : List ℕ). Remains xs c.args.asking.now.items slots0 slots) c.in-Some.ensures.items inv.remains in
    let m : is_among (place ∷ rest) place ≡ true = among_head place rest in
    let same : slot_at slots place ≡ slot_at slots0 place = remains.same place m in
    let waiting : WaitsForAll (slot_at slots place) = subst WaitsForAll (sym same) (c.requires.waiting place (remains.among place m)) in
    let lt : place < length slots = reading_within slots place waiting.reading in
    let s : Slot g.row.W.Denot g.row.W-Rows.Denot = c.index_mut-slot.result.now in
    let s_at : s ≡ slot_at slots place = c.index_mut-slot.ensures.value ∙ get_or_default slots place s nothing lt in
    subst WaitsForAll (sym s_at) waiting

pub returns-in_err-want_slot-clause-sources : goal.returns-in_err-want_slot-clause-sources
returns-in_err-want_slot-clause-sources g c =
    let source = g.S.SegmentSource.state in
    let inv = c.asking.invariant in
    let place = c.in-Some.place in
    let slots0 : List (Slot g.row.W.Denot g.row.W-Rows.Denot) = c.args.slots.now.items in
    let slots : List (Slot g.row.W.Denot g.row.W-Rows.Denot) = c.asking.slots.items in
    let rest = c.pop_front.new.self.items in
    let remains : Remains (place ∷ rest) c.args.asking.now.items slots0 slots = subst (λ (xs : List ℕ). Remains xs c.args.asking.now.items slots0 slots) c.in-Some.ensures.items inv.remains in
    let m : is_among (place ∷ rest) place ≡ true = among_head place rest in
    let same : slot_at slots place ≡ slot_at slots0 place = remains.same place m in
    let waiting : WaitsForAll (slot_at slots place) = subst WaitsForAll (sym same) (c.requires.waiting place (remains.among place m)) in
    let lt : place < length slots = reading_within slots place waiting.reading in
    let files0 : List (ScanFile g.row.O.Denot g.row.S.Denot) = c.args.files.now.items in
    let files : List (ScanFile g.row.O.Denot g.row.S.Denot) = c.asking.files.items in
    let at : c.index.result.now ≡ slot_at slots place = c.index.ensures ∙ get_or_default slots place c.index.result.now nothing lt in
    let k = c.index.result.now.file in
    let is : k ≡ (slot_at slots place).file = ap (λ (s : Slot g.row.W.Denot g.row.W-Rows.Denot). s.file) at in
    let is0 : k ≡ (slot_at slots0 place).file = is ∙ ap (λ (s : Slot g.row.W.Denot g.row.W-Rows.Denot). s.file) same in
    let within = c.requires.within place (reading_there (slot_at slots0 place).stage (c.requires.waiting place (remains.among place m)).reading) in
    let klt : k < length files = omega (arith, within, is0, inv.sources.len) in
    let x : ScanFile g.row.O.Denot g.row.S.Denot = c.index_mut-file.result.now in
    let y : ScanFile g.row.O.Denot g.row.S.Denot = record x { source = c.want_slot.new.source } in
    let s : Slot g.row.W.Denot g.row.W-Rows.Denot = c.index_mut-slot.result.now in
    let s_at : s ≡ slot_at slots place = c.index_mut-slot.ensures.value ∙ get_or_default slots place s nothing lt in
    sources_moved source (IsWantedBy c.args.asking.now.items slots0) files0 files k x y inv.sources klt c.index_mut-file.ensures.value refl refl
    (moves_weaker (Among (wanted_in s.stage)) (IsWantedBy c.args.asking.now.items slots0 k) (source x.source) (source y.source)
    (λ id w. record {
      place = place;
      listed = remains.among place m;
      file_is = sym is0;
      wanted = subst (λ (z : Slot g.row.W.Denot g.row.W-Rows.Denot). is_among (wanted_in z.stage) id ≡ true) (s_at ∙ same) w;
    }) c.want_slot.ensures.source)

pub returns-in_err-want_slot-clause-trades : goal.returns-in_err-want_slot-clause-trades
returns-in_err-want_slot-clause-trades g c =
    let source = g.S.SegmentSource.state in
    let inv = c.asking.invariant in
    let place = c.in-Some.place in
    let slots0 : List (Slot g.row.W.Denot g.row.W-Rows.Denot) = c.args.slots.now.items in
    let slots : List (Slot g.row.W.Denot g.row.W-Rows.Denot) = c.asking.slots.items in
    let rest = c.pop_front.new.self.items in
    let remains : Remains (place ∷ rest) c.args.asking.now.items slots0 slots = subst (λ (xs : List ℕ). Remains xs c.args.asking.now.items slots0 slots) c.in-Some.ensures.items inv.remains in
    let m : is_among (place ∷ rest) place ≡ true = among_head place rest in
    let same : slot_at slots place ≡ slot_at slots0 place = remains.same place m in
    let waiting : WaitsForAll (slot_at slots place) = subst WaitsForAll (sym same) (c.requires.waiting place (remains.among place m)) in
    let lt : place < length slots = reading_within slots place waiting.reading in
    let files0 : List (ScanFile g.row.O.Denot g.row.S.Denot) = c.args.files.now.items in
    let files : List (ScanFile g.row.O.Denot g.row.S.Denot) = c.asking.files.items in
    let at : c.index.result.now ≡ slot_at slots place = c.index.ensures ∙ get_or_default slots place c.index.result.now nothing lt in
    let k = c.index.result.now.file in
    let is : k ≡ (slot_at slots place).file = ap (λ (s : Slot g.row.W.Denot g.row.W-Rows.Denot). s.file) at in
    let is0 : k ≡ (slot_at slots0 place).file = is ∙ ap (λ (s : Slot g.row.W.Denot g.row.W-Rows.Denot). s.file) same in
    let within = c.requires.within place (reading_there (slot_at slots0 place).stage (c.requires.waiting place (remains.among place m)).reading) in
    let klt : k < length files = omega (arith, within, is0, inv.sources.len) in
    let x : ScanFile g.row.O.Denot g.row.S.Denot = c.index_mut-file.result.now in
    let y : ScanFile g.row.O.Denot g.row.S.Denot = record x { source = c.want_slot.new.source } in
    let cache = g.C.KeyedSegmentCache.cache in
    files_then source files0 files (set files k y) (cache c.args.cache.now) (cache c.asking.cache) (cache c.want_slot.new.cache) inv.trades
    (files_set source files k x y (cache c.asking.cache) (cache c.want_slot.new.cache) klt c.index_mut-file.ensures.value refl c.want_slot.ensures.source.holds c.want_slot.ensures.trades)

pub asking-preserved : goal.asking-preserved
asking-preserved g c =
    let source = g.S.SegmentSource.state in
    let inv = c.asking.invariant in
    let place = c.in-Some.place in
    let slots0 : List (Slot g.row.W.Denot g.row.W-Rows.Denot) = c.args.slots.now.items in
    let slots : List (Slot g.row.W.Denot g.row.W-Rows.Denot) = c.asking.slots.items in
    let rest = c.pop_front.new.self.items in
    let remains : Remains (place ∷ rest) c.args.asking.now.items slots0 slots = subst (λ (xs : List ℕ). Remains xs c.args.asking.now.items slots0 slots) c.in-Some.ensures.items inv.remains in
    let m : is_among (place ∷ rest) place ≡ true = among_head place rest in
    let same : slot_at slots place ≡ slot_at slots0 place = remains.same place m in
    let waiting : WaitsForAll (slot_at slots place) = subst WaitsForAll (sym same) (c.requires.waiting place (remains.among place m)) in
    let lt : place < length slots = reading_within slots place waiting.reading in
    let files0 : List (ScanFile g.row.O.Denot g.row.S.Denot) = c.args.files.now.items in
    let files : List (ScanFile g.row.O.Denot g.row.S.Denot) = c.asking.files.items in
    let desks : List Waiters = c.asking.desks.items in
    let at : c.index.result.now ≡ slot_at slots place = c.index.ensures ∙ get_or_default slots place c.index.result.now nothing lt in
    let k = c.index.result.now.file in
    let is : k ≡ (slot_at slots place).file = ap (λ (s : Slot g.row.W.Denot g.row.W-Rows.Denot). s.file) at in
    let is0 : k ≡ (slot_at slots0 place).file = is ∙ ap (λ (s : Slot g.row.W.Denot g.row.W-Rows.Denot). s.file) same in
    let within = c.requires.within place (reading_there (slot_at slots0 place).stage (c.requires.waiting place (remains.among place m)).reading) in
    let klt : k < length files = omega (arith, within, is0, inv.sources.len) in
    let dlt : k < length desks = omega (arith, inv.agree.len, klt) in
    let x : ScanFile g.row.O.Denot g.row.S.Denot = c.index_mut-file.result.now in
    let y : ScanFile g.row.O.Denot g.row.S.Denot = record x { source = c.want_slot.new.source } in
    let d = c.index_mut-desk.result.now in
    let e = c.want_slot.new.desk in
    let s : Slot g.row.W.Denot g.row.W-Rows.Denot = c.index_mut-slot.result.now in
    let t : Slot g.row.W.Denot g.row.W-Rows.Denot = c.want_slot.new.slot in
    let s_at : s ≡ slot_at slots place = c.index_mut-slot.ensures.value ∙ get_or_default slots place s nothing lt in
    let cache = g.C.KeyedSegmentCache.cache in
    let split = g.W.SplitWork.split in
    let comes = g.W.SplitWork.comes in
    let items = g.W.SplitWork.items in
    let ok = c.in_ok-want_slot.ensures in
    let adv : Advances split (slot_at slots place) t = subst (λ (z : Slot g.row.W.Denot g.row.W-Rows.Denot). Advances split z t) s_at ok.wants.advances in
    record {
      agree = agree_set source files desks k y e inv.agree klt c.want_slot.ensures.agree;
      sources = sources_moved source (IsWantedBy c.args.asking.now.items slots0) files0 files k x y inv.sources klt c.index_mut-file.ensures.value refl refl
          (moves_weaker (Among (wanted_in s.stage)) (IsWantedBy c.args.asking.now.items slots0 k) (source x.source) (source y.source)
          (λ id w. record {
            place = place;
            listed = remains.among place m;
            file_is = sym is0;
            wanted = subst (λ (z : Slot g.row.W.Denot g.row.W-Rows.Denot). is_among (wanted_in z.stage) id ≡ true) (s_at ∙ same) w;
          }) c.want_slot.ensures.source);
      trades = files_then source files0 files (set files k y) (cache c.args.cache.now) (cache c.asking.cache) (cache c.want_slot.new.cache) inv.trades
          (files_set source files k x y (cache c.asking.cache) (cache c.want_slot.new.cache) klt c.index_mut-file.ensures.value refl c.want_slot.ensures.source.holds c.want_slot.ensures.trades);
      balance = files_report_then source files0 files (set files k y) (cache c.args.cache.now) (cache c.asking.cache) (cache c.want_slot.new.cache) c.args.report.now c.asking.report c.want_slot.new.report inv.trades.len inv.balance
          (files_report source files k x y (cache c.asking.cache) (cache c.want_slot.new.cache) c.asking.report c.want_slot.new.report klt c.index_mut-file.ensures.value refl ok.wants.balance);
      keeps = λ h. kept_set source split comes items files0 files (IsWantedBy c.args.asking.now.items slots0) slots0 slots place t x (cache c.asking.cache) inv.sources (inv.keeps h) inv.advances lt
          (subst (λ j. x ≡ Rattle.std.proofs.Common.get_or files j x) is c.index_mut-file.ensures.value) (subst (λ j. j < length files) is klt) (inv.trades.agrees h)
          (λ p store told trust. subst (λ (z : Slot g.row.W.Denot g.row.W-Rows.Denot). SlotKeeps split comes items p store z t) s_at (ok.wants.keeps p store told trust));
      loses = loses_then (cache c.args.cache.now) (cache c.asking.cache) (cache c.want_slot.new.cache) inv.loses ok.wants.loses;
      follows = wanted_next source (cache c.args.cache.now) (cache c.asking.cache) (IsWantedBy c.args.asking.now.items slots0) (λ j. Among (wanted_in s.stage)) files0 files k place x y slots0 slots t inv.loses inv.sources klt c.index_mut-file.ensures.value refl refl c.want_slot.ensures.source lt is
          (subst (λ (z : Slot g.row.W.Denot g.row.W-Rows.Denot). Follows (IsKeptIn (cache c.asking.cache) x.source_id) NoId z t) s_at ok.wants.follows) inv.follows;
      advances = all_set split slots0 slots place t inv.advances lt adv;
      remains = remains_next place rest c.args.asking.now.items slots0 slots t remains;
      links = but_set place rest desks slots k d e t (subst (λ (xs : List ℕ). Rattle.scan_drive.specs.Asks.EachLinkedBut xs desks slots) c.in-Some.ensures.items inv.links) remains.once dlt c.index_mut-desk.ensures.value lt is adv.file_is ok.there;
    }

pub returns-clause-wants : goal.returns-clause-wants
returns-clause-wants g c =
    let inv = c.asking.invariant in
    record { balance = inv.balance; keeps = inv.keeps; advances = inv.advances; loses = inv.loses; follows = inv.follows }
