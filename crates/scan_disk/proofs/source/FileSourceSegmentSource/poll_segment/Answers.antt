use Rattle.std.proofs.Common.{◌≡◌, refl, ◌∙◌, ap, Some, arith, rules}
use Rattle.scan_disk.specs.declared.fault.DiskFault.TheVariants.{Failed, NoMemory}
use Rattle.std.proofs.Math.Nat.{le_refl}
use Rattle.scan_disk.specs.Segments.{segment_of}
use Rattle.scan_disk.proofs.Polls.{tells_bytes, tells_none, refusal_of, stays, ends}
use Rattle.scan_disk.proofs.source.FileSourceSegmentSource.poll_segment.Goals as goal

pub returns-in-Ok-clause-polled : goal.returns-in-Ok-clause-polled
returns-in-Ok-clause-polled g c =
    let s = c.args.self.now in (
      ends g.F.BytesAt.bytes g.F.BytesAt.can_fail c.args.id s _ c.read.new.self.known c.end.new.self c.self.inside.refused c.self.inside.faults (c.self.view_is ∙ c.read.ensures.rest) c.read.ensures.places c.end.ensures.ends c.end.ensures.live (le_refl _),
      tells_bytes s.checks s.known (g.F.BytesAt.bytes s.file) c.args.id c.in-Ok.bytes c.in-Ok.ensures.given,
      tt,
    )

pub returns-in-Err-NoMemory-clause-polled : goal.returns-in-Err-NoMemory-clause-polled
returns-in-Err-NoMemory-clause-polled g c = stays g.F.BytesAt.bytes g.F.BytesAt.can_fail c.args.self.now c.read.new.self c.read.new.self.known c.read.ensures.rest c.read.ensures.places

pub returns-in-Err-Failed-clause-polled : goal.returns-in-Err-Failed-clause-polled
returns-in-Err-Failed-clause-polled g c =
    let s = c.args.self.now in
    let same : c.self.inside.faults ≡ s.faults = ap (λ v. v.faults) (c.self.view_is ∙ c.read.ensures.rest) in (
      ends g.F.BytesAt.bytes g.F.BytesAt.can_fail c.args.id s _ c.read.new.self.known c.end-in-Err-Failed.new.self c.self.inside.refused c.saturating_add-self-inside.result (c.self.view_is ∙ c.read.ensures.rest) c.read.ensures.places
          c.end-in-Err-Failed.ensures.ends c.end-in-Err-Failed.ensures.live (omega (arith, c.saturating_add-self-inside.ensures)),
      omega (arith, same, c.saturating_add-self-inside.ensures),
      rw c.in-Err-Failed.field-0-is at c.in-Err-Failed.ensures.given,
    )

pub returns-in-Err : goal.returns-in-Err
returns-in-Err g c =
    let s = c.args.self.now in
    let read : c.in-Err.fault ≡ Failed → ⊥ = λ h. search rules in
    let room : c.in-Err.fault ≡ NoMemory → ⊥ = λ h. search rules in
    let refusal = refusal_of (g.F.BytesAt.bytes s.file) (g.F.BytesAt.can_fail s.file) (segment_of s.checks s.known c.args.id) c.in-Err.fault read room c.in-Err.ensures.given in
    record {
      polled = (
        ends g.F.BytesAt.bytes g.F.BytesAt.can_fail c.args.id s _ c.read.new.self.known c.end-in-Err.new.self (Some (c.args.id, c.in-Err.fault)) c.self.inside.faults (c.self.view_is ∙ c.read.ensures.rest) c.read.ensures.places
            c.end-in-Err.ensures.ends c.end-in-Err.ensures.live (le_refl _),
        tells_none s.checks s.known (g.F.BytesAt.bytes s.file) c.args.id c.in-Err.fault refusal,
      );
      exact = (c.in-Err.fault, refl, refusal);
    }
