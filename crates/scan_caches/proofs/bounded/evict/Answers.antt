use Rattle.std.proofs.Common.{◌⊎◌, ◌<◌, inl, inr, length, ap, sym, ◌∙◌, arith}
use Rattle.std.specs.Prelude.{option_map}
use Rattle.scan_caches.specs.Bounded.{weight, fitted}
use Rattle.scan_caches.specs.UseOrder.{plain}
use Rattle.scan_caches.proofs.Plain.{bare, plain-length, plain-last, plain-front}
use Rattle.scan_caches.proofs.Weights.{popped, fitted-all, no_last}
use Rattle.scan_caches.proofs.bounded.evict.Goals.{then-total-from, else-total-from+then-len-max_entries}
use Rattle.scan_caches.proofs.bounded.evict.Goals as goal

pub overflow_sub-total : goal.overflow_sub-total
overflow_sub-total g c =
    let w = c.loop-total.invariant.weight in
    let f = c.from.ensures in
    let es = plain c.loop-total.pairs.entries in
    let count = plain-length c.loop-total.pairs.entries in
    let over : (c.args.capacity < weight es) ⊎ (c.args.max_entries < length es) = elim c.if-total-from.branch [
      | then-total-from b ↦ let t = b.if-total-from.true in inl (omega arith)
      | else-total-from+then-len-max_entries b ↦ let n = b.len.ensures.len in let t = b.if-len-max_entries.true in inr (omega arith)
    ] in
    let p = (popped c.args.capacity c.args.max_entries es (c.in-Some.field-0-0, c.in-Some.held.bytes) (plain-last c.loop-total.pairs.entries ∙ ap (option_map bare) (sym c.pop_lru.ensures.value ∙ c.in-Some.is)) over).1 in
    omega (arith, ap length c.as_slice.ensures)

pub loop-total-preserved : goal.loop-total-preserved
loop-total-preserved g c =
    let i = c.loop-total.invariant in
    let w = i.weight in
    let f = c.from.ensures in
    let es = plain c.loop-total.pairs.entries in
    let count = plain-length c.loop-total.pairs.entries in
    let over : (c.args.capacity < weight es) ⊎ (c.args.max_entries < length es) = elim c.if-total-from.branch [
      | then-total-from b ↦ let t = b.if-total-from.true in inl (omega arith)
      | else-total-from+then-len-max_entries b ↦ let n = b.len.ensures.len in let t = b.if-len-max_entries.true in inr (omega arith)
    ] in
    let e = c.pop_lru.ensures.entries in
    let front = ap (λ l. plain l.entries) e ∙ plain-front c.loop-total.pairs.entries in
    let p = popped c.args.capacity c.args.max_entries es (c.in-Some.field-0-0, c.in-Some.held.bytes) (plain-last c.loop-total.pairs.entries ∙ ap (option_map bare) (sym c.pop_lru.ensures.value ∙ c.in-Some.is)) over in
    let q = p.1 in
    record {
      cap = ap (λ l. l.cap) e ∙ i.cap;
      weight = omega (arith, ap length c.as_slice.ensures, ap weight front);
      fits = ap (fitted c.args.capacity c.args.max_entries) front ∙ p.0 ∙ i.fits;
    }

pub unreachable-requires : goal.unreachable-requires
unreachable-requires g c =
    let n = no_last (plain c.loop-total.pairs.entries) (plain-last c.loop-total.pairs.entries ∙ ap (option_map bare) (sym c.pop_lru.ensures.value ∙ c.in-None.is)) in
    let count = plain-length c.loop-total.pairs.entries in
    let empty = n.0 in
    let none = n.1 in
    let w = c.loop-total.invariant.weight in
    let f = c.from.ensures in
    elim c.if-total-from.branch [
      | then-total-from b ↦ let t = b.if-total-from.true in omega arith
      | else-total-from+then-len-max_entries b ↦ let l = b.len.ensures.len in let t = b.if-len-max_entries.true in omega arith
    ]

pub returns-clause-pairs : goal.returns-clause-pairs
returns-clause-pairs g c =
    let i = c.loop-total.invariant in
    let w = i.weight in
    let f = c.from.ensures in
    let count = plain-length c.loop-total.pairs.entries in
    let l = c.len.ensures.len in
    let t = c.if-total-from.false in
    let m = c.if-len-max_entries.false in
    sym (fitted-all c.args.capacity c.args.max_entries (plain c.loop-total.pairs.entries) (omega arith) (omega arith)) ∙ i.fits
