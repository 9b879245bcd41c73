-- A poll of the opener of a file.
use Rattle.std.proofs.Common.{◌≡◌, Bool, true, false, List, Option, None, Some, IfSome, sym, ap, subst}
use Rattle.std.specs.Prelude.{option_map}
use Rattle.scan_values.specs.Same.{same_type}
use Rattle.scan_segments.specs.Source.{Store}
use Rattle.scan_splits.specs.Arrivals.{Arrivals}
use Rattle.scan_layout.specs.Check.{first_fault}
use Rattle.scan_layout.specs.Layout.{Layout, dtype_of, rows_of}
use Rattle.scan_layout.specs.declared.fault.LayoutFault.{LayoutFault}
use Rattle.scan_opener.specs.Opener.{Given, layout_of}
use Rattle.scan_opener.specs.Opener as opened
use Rattle.scan_drive.specs.Files.{Item, Part}
use Rattle.scan_drive.specs.Openers.{PolledOnce, PollsOpen, AreSplits}
use Rattle.scan_drive.specs.Splits.{Event}
use Rattle.scan_drive.specs.declared.opening.Opening.{Opening}
use Rattle.scan_drive.specs.declared.opening.Opening.TheVariants as opening
use Rattle.scan_file.specs.FileAsks.{FileAsk, asked_dtype}
use Rattle.scan_file.specs.FileSplits.{FutureComes, split_state}
use Rattle.scan_file.specs.Opened.{IsOpened}
use Rattle.scan_file.specs.Openings.{Admits, GivesFault, GivesSplits, Refuses, ends_past, file_state, layout_fault, part_of, part_unless, typed_fault}
use Rattle.scan_file.specs.Parts.{layout_part}
use Rattle.scan_file.specs.declared.fault.FileFault.{FileFault}
use Rattle.scan_file.specs.declared.split.FileSplit.{FileSplit}
use Rattle.scan_file.specs.declared.fault.FileFault.TheVariants as fault

-- it is the same poll to a scan
pub polled_so : (a : FileAsk) (old new : opened.OpenerState) → opened.PolledOnce old new → PolledOnce (file_state a old) (file_state a new)
polled_so a old new p = record { moves = record { gives = ap (option_map (part_of a)) p.gives; faults = p.faults; turns = p.turns }; polled = p.polled; grows = p.polled_grows }

-- what holds of the part of the layout that it gives
pub of_part : (a : FileAsk) (l : Layout) (o : Option Given) (P : Part Item → Type 0) → IfSome o (λ g. g ≡ layout_of l) → layout_fault a l ≡ None → P (layout_part a l) → IfSome (option_map (part_of a) o) P
of_part a l None P h e k = tt
of_part a l (Some g) P h e k = subst (λ (x : Given). P (part_of a x)) (sym h) (subst (λ f. P (part_unless a f (layout_part a l))) (sym e) k)

pub of_fault : (a : FileAsk) (l : Layout) (o : Option Given) (f : FileFault) → IfSome o (λ g. g ≡ layout_of l) → layout_fault a l ≡ Some f → IfSome o (GivesFault a f)
of_fault a l None f h e = tt
of_fault a l (Some g) f h e = subst (λ (x : Given). GivesFault a f x) (sym h) e

-- a layout's fault is none of its opener's
never_opener : (same : Bool) (form : Option LayoutFault) (past : Bool) → typed_fault same form past ≡ Some fault.Opener → ⊥
never_opener false form past e = cc
never_opener true (Some f) past e = cc
never_opener true None true e = cc
never_opener true None false e = cc

pub refused_so : (a : FileAsk) (l : Layout) (old new : opened.OpenerState) (f : FileFault) → IfSome old.gives (λ g. g ≡ layout_of l) → layout_fault a l ≡ Some f → Refuses a old new f
refused_so a l old new fault.Opener h e = absurd (never_opener (same_type (dtype_of l) (asked_dtype a)) (first_fault l (asked_dtype a)) (ends_past a.range (rows_of l)) e)
refused_so a l old new fault.DTypeMismatch h e = of_fault a l old.gives fault.DTypeMismatch h e
refused_so a l old new (fault.Layout f) h e = of_fault a l old.gives (fault.Layout f) h e
refused_so a l old new fault.RowRangePast h e = of_fault a l old.gives fault.RowRangePast h e

-- the splits of a layout that it gives
pub admits_so : (a : FileAsk) (l : Layout) (o : Option Given) (ws : List FileSplit) → IfSome o (λ g. g ≡ layout_of l) → layout_fault a l ≡ None → IfSome o (GivesSplits a ws)
admits_so a l None ws h e = tt
admits_so a l (Some g) ws h e = subst (λ (x : Given). GivesSplits a ws x) (sym h) e

-- what is made of the layout that it gives is what a poll answers
module _ {O : Type 0} (opener : O → opened.OpenerState) (a : FileAsk) (l : Layout) (old new : O) (h : opened.PolledOnce (opener old) (opener new)) (g : IfSome (opener old).gives (λ x. x ≡ layout_of l)) where
  pub opened_so : (r : Opening FileSplit FileFault) → IsOpened a l r
      → PollsOpen (λ (w : FileSplit). split_state w.future) (λ (w : FileSplit) (here : Arrivals) (store : Store) (e : Event). FutureComes w.future here store e)
      (λ (x : O). file_state a (opener x)) (λ (x y : O) (f : FileFault). Refuses a (opener x) (opener y) f) (λ (x y : O) (ws : List FileSplit). Admits a (opener x) ws) old new r
  opened_so opening.Pending o = absurd o
  opened_so (opening.Opened ws rows) o = (
    polled_so a (opener old) (opener new) h,
    of_part a l (opener old).gives (λ p. AreSplits (λ (w : FileSplit). split_state w.future) (λ (w : FileSplit) (here : Arrivals) (store : Store) (e : Event). FutureComes w.future here store e) p rows ws.items) g o.0 o.1,
    admits_so a l (opener old).gives ws.items g o.0,
  )
  opened_so (opening.Refused f) o = (polled_so a (opener old) (opener new) h, refused_so a l (opener old) (opener new) f g o)
  opened_so opening.NoMemory o = polled_so a (opener old) (opener new) h
