use Rattle.std.proofs.Common.{refl}
use Rattle.std.specs.Prelude.{None}
use Rattle.scan_groups.specs.declared.known.Known.{Known}
use Rattle.scan_groups.proofs.Learning.{none_known}
use Rattle.scan_groups.proofs.known.Known.new.Goals as goal

pub returns : goal.returns
returns c =
    let made : Known = record { null = None; no = None; yes = None; numbers = c.new.result; texts = c.new-2.result } in
    none_known made refl refl refl c.new.ensures.empty c.new-2.ensures.empty
