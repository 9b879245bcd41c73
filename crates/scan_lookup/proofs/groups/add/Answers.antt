use Rattle.std.proofs.Common.{◌≡◌, List, ℕ, Some}
use Rattle.std.specs.List.{slice_get}
use Rattle.std.proofs.lemmas.Option.{slice_get_within}
use Rattle.scan_lookup.specs.declared.groups.Group.{Group}
use Rattle.scan_lookup.proofs.Grouping.{adds}
use Rattle.scan_lookup.proofs.Listing.{got_at}
use Rattle.scan_lookup.proofs.groups.add.Goals as goal

pub add_row-requires : goal.add_row-requires
add_row-requires c =
    let mid : List Group = c.group_of.new.groups.items in
    let n : ℕ = c.in_ok-group.group in
    let h = c.in_ok-group.ensures in
    let was : Group = c.index_mut-own.result.now in
    let there : slice_get mid n ≡ Some was = got_at mid n was (slice_get_within mid n h.own.group h.own.there) c.index_mut-own.ensures.value in
    h.numbers.own n was there

pub returns : goal.returns
returns c =
    let old : List Group = c.args.groups.now.items in
    let mid : List Group = c.group_of.new.groups.items in
    let n : ℕ = c.in_ok-group.group in
    let h = c.in_ok-group.ensures in
    let was : Group = c.index_mut-own.result.now in
    let now : Group = c.add_row.new.group in
    let there : slice_get mid n ≡ Some was = got_at mid n was (slice_get_within mid n h.own.group h.own.there) c.index_mut-own.ensures.value in
    adds c.args.place old mid c.args.numbers.now c.group_of.new.numbers n c.in_ok-number.number h was now there c.in_ok-number.ensures
