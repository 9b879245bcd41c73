use Rattle.std.proofs.Common.{◌≡◌, ◌<◌, ◌≤◌, length, get_or, refl, sym, ap, ◌∙◌, subst, arith}
use Rattle.std.specs.Prelude.{All}
use Rattle.std.proofs.lemmas.List.{get_or_default}
use Rattle.scan_groups.specs.Cells.{run_vals}
use Rattle.scan_groups.specs.Totals.{IsMore}
use Rattle.scan_groups.proofs.Totalling.{measure_more, measures_kept, places_below}
use Rattle.scan_groups.proofs.groups.Groups.add_run.Goals as goal

pub index_mut-requires : goal.index_mut-requires
index_mut-requires c = omega (arith, c.requires.measure, c.args.self.now.tallies.ok.0)

pub index_mut-requires-2 : goal.index_mut-requires-2
index_mut-requires-2 c = omega (arith, c.requires.measure, c.args.self.now.tallies.ok.0)

pub with_rows-requires-clause-places : goal.with_rows-requires-clause-places
with_rows-requires-clause-places c = subst (All (λ p. p < c.in_ok-end.end)) (sym c.as_slice.ensures) c.in_ok-end.ensures.past

pub with_rows-requires-clause-even : goal.with_rows-requires-clause-even
with_rows-requires-clause-even c = c.requires.even ∙ ap length (sym c.as_slice.ensures)

pub returns : goal.returns
returns c =
    let old = c.args.self.now in
    let ts = old.tallies.items in
    let n = c.args.measure in
    let given = c.args.places.now in
    let vs = run_vals c.args.run in
    let groups = c.in_ok-end.end in
    let d = c.replace-tally.new.dest in
    let t = c.in_ok-more.more in
    let lt = c.requires.measure in
    let at : c.replace-tally.result ≡ get_or ts n t = c.replace-tally.ensures.value ∙ c.index_mut.ensures.value ∙ get_or_default ts n c.index_mut.result.now t lt in
    let same : IsMore c.replace-tally.result given vs groups t = subst (λ ps. IsMore c.replace-tally.result ps vs groups t) c.as_slice.ensures c.in_ok-more.ensures in
    let more : IsMore (get_or ts n t) given vs groups t = subst (λ u. IsMore u given vs groups t) at same in
    record {
      measures = measures_kept ts n d t lt more.of;
      reads = λ keys ms rows run u col. measure_more keys ms rows run given n groups old _ d t vs u col lt (subst (λ k. groups ≤ k) c.count.ensures (c.in_ok-end.ensures.within (subst (λ k. All (λ p. p < k) given) (sym c.count.ensures) (places_below keys ms rows run given n old u)))) more refl refl;
    }
