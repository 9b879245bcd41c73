use Rattle.std.proofs.Common.{◌≡◌, ◌∙◌, ◌<◌, ◌≤◌, ◌∷◌, ℕ, [], length, true, ap, sym, subst, arith, inl, inr, refl}
use Rattle.std.specs.Prelude.{Option, Some, None, MatchOption}
use Rattle.scan_values.specs.Selections.{is_among}
use Rattle.scan_drive.specs.Asks.{IsWantedBy}
use Rattle.scan_drive.specs.Drives.{NoneOf}
use Rattle.scan_drive.specs.Rounds.{IsFrontFile}
use Rattle.scan_drive.proofs.Halting.{round_report, round_counts, round_then}
use Rattle.scan_drive.proofs.Losing.{halts_advance}
use Rattle.scan_drive.proofs.Nearing.{all_then}
use Rattle.scan_drive.proofs.Ordering.{rises_from_front}
use Rattle.scan_drive.proofs.Serving.{served_then}
use Rattle.scan_drive.proofs.Standing.{seated_advances, sources_then, slots_then}
use Rattle.scan_drive.proofs.Trading.{files_then}
use Rattle.scan_drive.specs.Slots.{slot_at}
use Rattle.scan_drive.specs.Steps.{FetchesFiles}
use Rattle.scan_drive.proofs.Asked.{reading_there}
use Rattle.scan_drive.proofs.Lasting.{served, same_head}
use Rattle.scan_drive.proofs.Linking.{on_ok}
use Rattle.scan_drive.proofs.round.serve.Goals as goal

nothing : {P : Type 0} (Q : ℕ → Type 0) (o : Option ℕ) → ((x : ℕ) → o ≡ Some x → ⊥) → MatchOption o P Q → P
nothing Q None n h = h
nothing Q (Some x) n h = absurd (n x refl)

pub front_file-requires : goal.front_file-requires
front_file-requires g c =
    let slots = c.args.slots.now.items in
    let w = c.in_ok-want_slots.ensures in
    (c.requires.seated.0, seated_advances g.W.SplitWork.split c.args.turns.now.items c.requires.seated.0 slots c.want_slots.new.slots.items w.wants.advances c.requires.seated.1)

pub returns-clause-sources : goal.returns-clause-sources
returns-clause-sources g c =
    let source = g.S.SegmentSource.state in
    let files = c.args.files.now.items in
    let slots = c.args.slots.now.items in
    let may = IsWantedBy c.args.asking.now.items slots in
    let w = c.in_ok-want_slots.ensures in
    sources_then source g.W.SplitWork.split g.W.SplitWork.comes g.W.SplitWork.items may files c.want_slots.new.files.items c.fetch_files.new.files.items w.sources c.fetch_files.ensures.sources

pub returns-clause-trades : goal.returns-clause-trades
returns-clause-trades g c =
    let source = g.S.SegmentSource.state in
    let cache = g.C.KeyedSegmentCache.cache in
    let files = c.args.files.now.items in
    let w = c.in_ok-want_slots.ensures in
    files_then source files c.want_slots.new.files.items c.fetch_files.new.files.items (cache c.args.cache.now) (cache c.want_slots.new.cache) (cache c.fetch_files.new.cache) w.trades c.fetch_files.ensures.trades

pub returns-clause-serves : goal.returns-clause-serves
returns-clause-serves g c =
    let source = g.S.SegmentSource.state in
    let cache = g.C.KeyedSegmentCache.cache in
    let split = g.W.SplitWork.split in
    let comes = g.W.SplitWork.comes in
    let items = g.W.SplitWork.items in
    let files = c.args.files.now.items in
    let files1 = c.want_slots.new.files.items in
    let slots = c.args.slots.now.items in
    let slots1 = c.want_slots.new.slots.items in
    let c0 = cache c.args.cache.now in
    let c1 = cache c.want_slots.new.cache in
    let w = c.in_ok-want_slots.ensures in
    let r = c.args.report.now in
    let x = c.want_slots.new.report in
    let files2 = c.fetch_files.new.files.items in
    let slots2 = c.fetch_files.new.slots.items in
    let c2 = cache c.fetch_files.new.cache in
    let may = IsWantedBy c.args.asking.now.items slots in
    let desks1 = c.want_slots.new.desks.items in
    let front = c.in-Some.ensures in
    let k = c.in-Some.front in
    on_ok c.fetch_files.result (λ (f : FetchesFiles source split comes items k c.fetch_end-last.result files1 files2 desks1 c.fetch_files.new.desks.items c1 c2 slots1 slots2). record {
      balance = round_then source files files1 files2 c0 c1 c2 r x x slots1 slots2 w.trades.len (halts_advance split slots1 slots2 f.advances)
          (round_report source files files1 c0 c1 r x slots1 w.wants.balance) (round_counts source files1 files2 c1 c2 x slots2 f.counts);
      keeps = λ h. slots_then source split comes items may files files1 slots slots1 slots2 w.sources (λ q. (w.wants.advances.at q).file_is) (w.wants.keeps h) f.keeps;
      advances = all_then split slots slots1 slots2 w.wants.advances f.advances;
      nearer = λ place later turns reads.
          (let at : place ≡ front.place = same_head place front.place later front.later (sym turns ∙ front.turns_are) in
          let file1 : (slot_at slots1 place).file ≡ k = ap (λ q. (slot_at slots1 q).file) at ∙ front.file_is in
          let there = c.requires.within place (reading_there (slot_at slots place).stage reads) in
          let file0 : (slot_at slots1 place).file ≡ (slot_at slots place).file = (w.wants.advances.at place).file_is in
          let klt : k < length files1 = omega (arith, there, file0, file1, w.sources.len) in
          let dlt : k < length desks1 = omega (arith, klt, w.agree.len) in
          served source split may place k files files1 files2 desks1 slots slots1 slots2 w.sources w.wants.advances f.advances w.links dlt file1 reads (c.requires.asks.settled place)
          (f.nearer k (omega arith) (c.fetch_end-last.ensures.all k (inl (omega arith)) (omega (arith, klt, c.len.ensures)))));
      serves = λ rises place turn reads.
          (let j = (slot_at slots1 place).file in
          let there = c.requires.within place (reading_there (slot_at slots place).stage reads) in
          let file0 : j ≡ (slot_at slots place).file = (w.wants.advances.at place).file_is in
          let front0 : (slot_at slots1 front.place).file ≡ (slot_at slots front.place).file = (w.wants.advances.at front.place).file_is in
          let from = rises_from_front 0 c.args.first front.place front.later c.args.turns.now.items slots place front.turns_are rises turn in
          let jlt : j < length files1 = omega (arith, there, file0, w.sources.len) in
          let dlt : j < length desks1 = omega (arith, jlt, w.agree.len) in
          let to : k ≤ j = omega (arith, front.file_is, front0, file0, from.0) in
          let up : j ≤ c.args.first = omega (arith, file0, from.1) in
          served source split may place j files files1 files2 desks1 slots slots1 slots2 w.sources w.wants.advances f.advances w.links dlt refl reads (c.requires.asks.settled place)
          (f.nearer j to (c.fetch_end-last.ensures.all j (inr up) (omega (arith, jlt, c.len.ensures)))));
      links = f.links;
      follows = served_then source c0 c1 may NoneOf files files1 files2 slots slots1 slots2 w.wants.loses w.sources c.fetch_files.ensures.sources w.wants.follows f.follows;
    }) c.fetch_files.ensures.fetches

pub returns-in_default-clause-serves : goal.returns-in_default-clause-serves
returns-in_default-clause-serves g c =
    let source = g.S.SegmentSource.state in
    let cache = g.C.KeyedSegmentCache.cache in
    let files = c.args.files.now.items in
    let files1 = c.want_slots.new.files.items in
    let slots1 = c.want_slots.new.slots.items in
    let c0 = cache c.args.cache.now in
    let c1 = cache c.want_slots.new.cache in
    let w = c.in_ok-want_slots.ensures in
    let r = c.args.report.now in
    let x = c.want_slots.new.report in
    let none : c.args.turns.now.items ≡ [] = nothing (IsFrontFile c.args.turns.now.items slots1) c.front_file.result c.in_default.not-Some c.front_file.ensures in
    record {
      balance = round_report source files files1 c0 c1 r x slots1 w.wants.balance;
      keeps = w.wants.keeps;
      advances = w.wants.advances;
      nearer = λ place later turns reads. (let bad = sym none ∙ turns in absurd cc);
      serves = λ rises place turn reads. (let bad : is_among [] place ≡ true = subst (λ ts. is_among ts place ≡ true) none turn in absurd cc);
      links = w.links;
      follows = w.wants.follows;
    }
