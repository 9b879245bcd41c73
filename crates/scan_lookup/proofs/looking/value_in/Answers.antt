use Rattle.std.proofs.Common.{◌<◌, ◌∙◌, List, Some, length, ap, arith, rules}
use Rattle.std.proofs.lemmas.Option.{slice_get_within}
use Rattle.scan_lookup.specs.Reading.{Values}
use Rattle.scan_lookup.proofs.Gathering.{all_values}
use Rattle.scan_lookup.proofs.Slotting.{slot_is, value_below}
use Rattle.scan_lookup.proofs.looking.value_in.Goals as goal

pub bounds-values-slot : goal.bounds-values-slot
bounds-values-slot c = slice_get_within c.args.values.now c.args.slot.group c.requires.own c.requires.there

pub offset_bounds-values-slot : goal.offset_bounds-values-slot
offset_bounds-values-slot c =
    let vss : List Values = c.args.values.now in
    let below : c.args.slot.group < length vss = slice_get_within vss c.args.slot.group c.requires.own c.requires.there in
    search (rules, below)

pub index-requires : goal.index-requires
index-requires c =
    let own : Values = c.index-values-slot.result in
    let lt = value_below c.args.values.now c.args.slot c.requires own c.index-values-slot.is in
    omega (arith, lt, own.ok.0)

pub returns : goal.returns
returns c =
    let own : Values = c.index-values-slot.result in
    all_values c.try_clone.result (λ v h. ap Some h ∙ slot_is c.args.values.now c.args.slot c.requires own c.index-values-slot.is c.index.result.now c.index.ensures) c.try_clone.ensures
