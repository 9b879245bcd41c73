-- What a scan has written, from what its printer took.
use Rattle.std.proofs.Common.{◌≡◌, ℕ, List, ◌++◌, Bool, true, false, Option, None, Some, refl, sym, ap, ◌∙◌, take, drop, append_assoc, is_some, IsSome}
use Rattle.std.specs.Prelude.{Result, Ok, Err, IfOk, OnOk}
use Rattle.std.proofs.lemmas.List.{take-append-drop}
use Rattle.std.proofs.lemmas.List.Concat.{flat_map-append}
use Rattle.scan_values.specs.DataType.{DataType}
use Rattle.scan_expr.specs.Infer.{infer}
use Rattle.scan_expr.specs.declared.request.ScanRequest.{ScanRequest}
use Rattle.scan_segments.specs.Cache.{CacheState}
use Rattle.scan_segments.specs.Source.{SourceState}
use Rattle.scan_segments.specs.declared.segment.SegmentKey.{SegmentKey}
use Rattle.scan_opener.specs.Opener.{OpenerState}
use Rattle.scan_drive.specs.declared.driving.DriveEnd.{DriveEnd}
use Rattle.scan_drive.specs.declared.files.ScanFile.{ScanFile}
use Rattle.scan_drive.specs.declared.sink.Flow.{Flow}
use Rattle.scan_drive.specs.declared.sink.Flow.TheVariants as flow
use Rattle.scan_multi.specs.Answer.{Item, answer}
use Rattle.scan_multi.specs.Lawful.{told, IsLawful}
use Rattle.scan_multi.specs.Output.{IsGiven, given}
use Rattle.scan_multi.specs.Taken.{TakesFront, EndsScan}
use Rattle.scan_run.proofs.Stopping.{chunks_printed}
use Rattle.scan_run.specs.Io.{OutputState}
use Rattle.scan_run.specs.Printed.{chunks_lines}
use Rattle.scan_run.specs.Run.{item_line, lines_of}
use Rattle.scan_run.specs.WriteAll.{WroteFront}
use Rattle.scan_printing.specs.Printing.{Prints}
use Rattle.scan_printing.specs.Written.{WroteAll, WroteFrontOf}

-- a sink that has no fault did not stop
no_stop : {X : Type 0} (b : Bool) → b ≡ true → b ≡ false → X
no_stop true p q = cc
no_stop false p q = cc

-- a front of a text is one of a longer text
longer : (text more whole : List ℕ) (old new : OutputState) → text ++ more ≡ whole → WroteFront text old new → WroteFront whole old new
longer text more whole old new e f = record {
  front = f.front;
  rest = f.rest ++ more;
  parts = sym e ∙ (ap (λ t. t ++ more) f.parts ∙ append_assoc f.front f.rest more);
  written = f.written;
  faults = f.faults;
  short = f.short;
  can_fail = f.can_fail;
}

-- the lines of the first items, and of the others
first_lines : (d : DataType) (n : ℕ) (items : List Item) → lines_of d (take n items) ++ lines_of d (drop n items) ≡ lines_of d items
first_lines d n items = sym (flat_map-append (λ (item : Item). item_line d item.file item.row item.value) (take n items) (drop n items)) ∙ ap (lines_of d) (take-append-drop n items)

ordered_front : (b : Bool) (m : ℕ) (all items : List Item) → b ≡ true → IsGiven b (Some m) all items → items ≡ take m all
ordered_front true m all items o g = g
ordered_front false m all items o g = cc

module _ {O S K N F : Type 0} (opener : O → OpenerState) (source : S → SourceState) (d : DataType) (q : ScanRequest) (old : List (ScanFile O S)) (c : CacheState SegmentKey) (sink sink' : K) (out : K → OutputState)
    (fault : K → Option F) (name : K → N) where
  pub front_written : TakesFront opener source (Prints out (λ s. is_some (fault s)) name) d q old c sink sink' → IsLawful opener source old c → WroteFrontOf d q (told opener source old) (out sink) (out sink')
  front_written t l = record { chunks = t.chunks; front = t.front l; wrote = t.took.front }

  pub ordered_written : TakesFront opener source (Prints out (λ s. is_some (fault s)) name) d q old c sink sink' → IsLawful opener source old c → q.ordered ≡ true
      → WroteFront (lines_of (infer d q.projection) (answer d q (told opener source old))) (out sink) (out sink')
  ordered_written t l o =
      let f = t.front l in
      let first = ordered_front q.ordered f.most (answer d q (told opener source old)) (given t.chunks) o f.items in
      let text : chunks_lines t.chunks ≡ lines_of (infer d q.projection) (take f.most (answer d q (told opener source old))) = chunks_printed (infer d q.projection) t.chunks f.chunks ∙ ap (lines_of (infer d q.projection)) first in
      longer (chunks_lines t.chunks) (lines_of (infer d q.projection) (drop f.most (answer d q (told opener source old)))) (lines_of (infer d q.projection) (answer d q (told opener source old))) (out sink) (out sink')
      (ap (λ t. t ++ lines_of (infer d q.projection) (drop f.most (answer d q (told opener source old)))) text ∙ first_lines (infer d q.projection) f.most (answer d q (told opener source old)))
      t.took.front

  module _ (workers : ℕ) (new : List (ScanFile O S)) (c' : CacheState SegmentKey) (end : DriveEnd) where
    pub all_written : EndsScan opener source (Prints out (λ s. is_some (fault s)) name) workers d q old new c c' (IsSome (fault sink')) sink sink' end → fault sink' ≡ None → IsLawful opener source old c
        → WroteAll d q (told opener source old) (out sink) (out sink')
    all_written h none l = go end.flow refl
      where
        go : (f : Flow) → end.flow ≡ f → WroteAll d q (told opener source old) (out sink) (out sink')
        go flow.More w = let s = h.whole w in record { chunks = s.chunks; admits = s.scan.admits l; written = (s.took.whole (ap is_some none)).1 }
        go flow.Stop w = no_stop (is_some (fault sink')) (h.stop w) (ap is_some none)

-- what an Ok says
pub on_ok : {A E : Type 0} {Q : A → Type 0} {P : Type 0} (r : Result A E) → ((x : A) → Q x → P) → IfOk r Q → OnOk r P
on_ok (Ok x) f q = f x q
on_ok (Err e) f q = tt
