use Rattle.std.proofs.Common.{◌≡◌, true, false, rules}
use Rattle.scan_layout.specs.Layout.{rows_of}
use Rattle.scan_multi_sources.specs.FileFaults.{is_too_many}
use Rattle.scan_multi_sources.specs.Numbers.{is_given}
use Rattle.scan_multi_sources.proofs.Standing.{made_many, made_none, made_some}
use Rattle.scan_multi_sources.proofs.file_scan.FileScan.sound_partition.Goals as goal

pub returns-then-not-is_given : goal.returns-then-not-is_given
returns-then-not-is_given g c =
    let out : is_given c.args.self.now.numbers c.args.self.now.delivered ≡ false = search rules in
    made_none c.args.self.now c.args.place c.args.layout.now.value c.requires out

pub returns-then-is_too_many : goal.returns-then-is_too_many
returns-then-is_too_many g c =
    let given : is_given c.args.self.now.numbers c.args.self.now.delivered ≡ true = search rules in
    let many : is_too_many c.args.self.now.seat c.args.self.now.given_rows (rows_of c.args.layout.now.value) ≡ true = search rules in
    made_many c.args.self.now c.args.place c.args.layout.now.value c.requires given many

pub returns-in-Ok : goal.returns-in-Ok
returns-in-Ok g c =
    let given : is_given c.args.self.now.numbers c.args.self.now.delivered ≡ true = search rules in
    let few : is_too_many c.args.self.now.seat c.args.self.now.given_rows (rows_of c.args.layout.now.value) ≡ false = search rules in
    made_some c.args.self.now c.args.place c.args.layout.now.value c.requires c.make.new.self c.in-Ok.partition given few c.in-Ok.ensures
