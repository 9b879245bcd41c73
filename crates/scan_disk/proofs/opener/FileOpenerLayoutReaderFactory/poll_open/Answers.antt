use Rattle.std.proofs.Common.{◌≡◌, ◌≢◌, Some, Err, refl, ap, subst, arith, rules}
use Rattle.scan_disk.specs.Contents.{content_of}
use Rattle.scan_disk.specs.Given.{IsGiven}
use Rattle.scan_disk.specs.declared.fault.DiskFault.TheVariants.{NoMemory}
use Rattle.scan_disk.specs.declared.footer.Footer.{Footer as Content}
use Rattle.scan_disk.proofs.Opens.{refused_can, polled}
use Rattle.scan_disk.proofs.opener.FileOpenerLayoutReaderFactory.poll_open.Goals as goal

pub returns-in-Err : goal.returns-in-Err
returns-in-Err g c =
    let s = c.args.self.now in
    let told = g.F.BytesAt.bytes in
    let can_fail = g.F.BytesAt.can_fail in
    let polls : c.self.inside.polls ≡ s.polls = ap (λ v. v.polls) c.self.view_is in
    let faults : c.self.inside.faults ≡ s.faults = ap (λ v. v.faults) c.self.view_is in
    let counted = c.saturating_add-self-inside.ensures in
    let failed = c.saturating_add-self-inside-in-Err.ensures in
    let room : c.in-Err.fault ≢ NoMemory = λ h. search rules in
    let given = subst (λ file. IsGiven {T = Content} (told file) (can_fail file) content_of (Err c.in-Err.fault)) (ap (λ v. v.file) c.self.view_is) c.in-Err.ensures in
    record {
      polled = (
        polled told can_fail s _ (Some c.in-Err.fault) c.saturating_add-self-inside-in-Err.result c.saturating_add-self-inside.result c.self.view_is (omega (arith, faults, failed))
            (record { least = omega (arith, polls, counted); most = omega (arith, polls, counted) }) (omega (arith, polls, counted)),
        (omega (arith, faults, failed), refused_can (told s.file) (can_fail s.file) c.in-Err.fault room given),
      );
      cause = (c.in-Err.fault, refl, room, given);
    }
