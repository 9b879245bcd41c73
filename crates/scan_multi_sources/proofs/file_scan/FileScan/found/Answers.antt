use Rattle.std.proofs.Common.{◌∙◌, sym, subst, rules, Ok, Err}
use Rattle.scan_multi_sources.specs.Files.{opened}
use Rattle.scan_multi_sources.specs.MultiScans.{MakesPartition}
use Rattle.scan_multi_sources.specs.Opens as asks
use Rattle.scan_multi_sources.specs.Polls.{ComesTo}
use Rattle.scan_multi_sources.specs.declared.scan.Step.TheVariants.{Next}
use Rattle.scan_multi_sources.proofs.Stepping.{faults, found_later, gives, made_within, may_keep, passes_over, short_of}
use Rattle.scan_multi_sources.proofs.file_scan.FileScan.found.Goals as goal

pub keep-requires-clause-kept : goal.keep-requires-clause-kept
keep-requires-clause-kept g c = may_keep c.args.self.now c.args.at (opened c.args.layout.value) (sym c.is_turn.ensures ∙ c.if-not-is_turn.true)

pub returns-then-not-is_turn : goal.returns-then-not-is_turn
returns-then-not-is_turn g c =
    subst (λ n. ComesTo c.args.self.now c.keep.new.self c.args.at c.args.place (asks.found c.args.layout.value) (Next n)) (sym c.after-next.ensures)
    (found_later c.args.self.now c.keep.new.self c.args.at c.args.place c.args.layout.value c.requires (sym c.is_turn.ensures ∙ c.if-not-is_turn.true) c.keep.ensures)

pub deliver-requires : goal.deliver-requires
deliver-requires g c = made_within c.args.self.now c.partition.new.self c.args.at c.args.place c.args.layout.value c.partition.result c.partition.ensures c.requires

pub deliver-requires-in-Ok-None : goal.deliver-requires-in-Ok-None
deliver-requires-in-Ok-None g c = made_within c.args.self.now c.partition.new.self c.args.at c.args.place c.args.layout.value c.partition.result c.partition.ensures c.requires

pub deliver-requires-in-Err : goal.deliver-requires-in-Err
deliver-requires-in-Err g c = made_within c.args.self.now c.partition.new.self c.args.at c.args.place c.args.layout.value c.partition.result c.partition.ensures c.requires

pub returns-in-Ok-Some : goal.returns-in-Ok-Some
returns-in-Ok-Some g c =
    let h = subst (λ z. MakesPartition c.args.self.now c.partition.new.self c.args.place c.args.layout.value (Ok z)) c.in-Ok-Some.field-0-is c.in-Ok-Some.ensures in
    gives c.args.self.now c.args.at c.args.place c.args.layout.value (sym c.is_turn.ensures ∙ c.if-not-is_turn.false) c.partition.new.self c.deliver.new.self c.in-Ok-Some.partition h c.deliver.ensures

pub returns-in-Ok-None : goal.returns-in-Ok-None
returns-in-Ok-None g c =
    let h = subst (λ z. MakesPartition c.args.self.now c.partition.new.self c.args.place c.args.layout.value (Ok z)) c.in-Ok-None.field-0-is c.in-Ok-None.ensures in
    passes_over c.args.self.now c.args.at c.args.place c.args.layout.value (sym c.is_turn.ensures ∙ c.if-not-is_turn.false) c.partition.new.self c.deliver-in-Ok-None.new.self c.requires h c.deliver-in-Ok-None.ensures

pub returns-in-Err-NoMemory : goal.returns-in-Err-NoMemory
returns-in-Err-NoMemory g c =
    let h = subst (λ z. MakesPartition c.args.self.now c.partition.new.self c.args.place c.args.layout.value (Err z)) c.in-Err-NoMemory.field-0-is c.in-Err-NoMemory.ensures in
    subst (λ z. ComesTo c.args.self.now c.keep-in-Err-NoMemory.new.self c.args.at c.args.place (asks.found c.args.layout.value) z) (sym c.short.ensures)
    (short_of c.args.self.now c.args.at c.args.place c.args.layout.value (sym c.is_turn.ensures ∙ c.if-not-is_turn.false) c.partition.new.self c.keep-in-Err-NoMemory.new.self h c.keep-in-Err-NoMemory.ensures)

pub returns : goal.returns
returns g c = faults c.args.self.now c.args.at c.args.place c.args.layout.value (sym c.is_turn.ensures ∙ c.if-not-is_turn.false) c.partition.new.self c.deliver-in-Err.new.self c.in-Err.fault (search rules) c.in-Err.ensures c.deliver-in-Err.ensures
