-- A box that was just made is read as the source that it holds.
use Rattle.std.proofs.Common.{Bool, ap, ◌∙◌, refl}
use denote.Param.Object.{read_made}
use Rattle.scan_segments.specs.MemorySource.{MemoryState}
use Rattle.scan_segments.specs.Source.{has}
use Rattle.scan_readers_tests.proofs.sources.boxed.OwnLists.{own-1, at-1-1}
use Rattle.scan_readers_tests.proofs.sources.boxed.Goals as goal

pub told_box-requires : goal.told_box-requires
told_box-requires g c =
    read_made own-1 (own-1.entry at-1-1) at-1-1 refl Bool (λ j y. (j.1.SegmentSource.state y).live 0) c.into_dyn_box.result.vtable c.into_dyn_box.result.value c.in_ok-new.field-0.value c.into_dyn_box.ensures.1
    ∙ (ap (λ (s : MemoryState). has 0 s.live) c.in_ok-new.ensures.ok ∙ ap (has 0) c.source-made.ensures)
