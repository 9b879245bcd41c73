use Rattle.std.proofs.Common.{◌≤◌, length, ap, sym, subst, ◌∙◌, arith}
use Rattle.std.specs.Prelude.{option_map}
use Rattle.lru.specs.LruCache.{lru_cache, put_entries}
use Rattle.scan_segments.specs.Keys.{same_key}
use Rattle.scan_caches.specs.Bounded.{weight}
use Rattle.scan_caches.specs.UseOrder.{plain, held}
use Rattle.scan_caches.proofs.Weights.{weight-put, gone}
use Rattle.scan_caches.proofs.Plain.{bare, plain-length, plain-put, plain-displaced}
use Rattle.scan_caches.proofs.bounded.push_pair.Goals as goal

pub returns-in-Ok-Some-clause-weight : goal.returns-in-Ok-Some-clause-weight
returns-in-Ok-Some-clause-weight g c =
    let v = c.len-len.ensures.valid in
    let le = subst (λ n. n ≤ c.args.pairs.now.cap) (sym (plain-length c.args.pairs.now.entries)) v.1 in
    let p = weight-put c.in_ok-key.key c.in_ok-bytes.bytes (lru_cache (plain c.args.pairs.now.entries) c.args.pairs.now.cap) le v.2 in
    let put = ap weight (ap (λ l. plain l.entries) c.in-Ok-Some.ensures.entries ∙ plain-put c.args.pairs.now c.in_ok-key.key (held c.in_ok-bytes.bytes c.args.tick)) in
    let old = ap gone (plain-displaced c.args.pairs.now c.in_ok-key.key (held c.in_ok-bytes.bytes c.args.tick) ∙ ap (option_map bare) (sym c.in-Ok-Some.ensures.old ∙ c.in-Ok-Some.field-0-is)) in
    omega (arith, put, p, old, ap length c.in_ok-bytes.ensures, ap length c.as_slice.ensures)

pub returns-in-Ok-Some-clause-pairs : goal.returns-in-Ok-Some-clause-pairs
returns-in-Ok-Some-clause-pairs g c = c.in-Ok-Some.ensures.entries ∙ (λ i. lru_cache (put_entries same_key c.args.pairs.now (c.in_ok-key.ensures i) (held (c.in_ok-bytes.ensures i) c.args.tick)) c.args.pairs.now.cap)

pub returns-in-Ok-None-clause-weight : goal.returns-in-Ok-None-clause-weight
returns-in-Ok-None-clause-weight g c =
    let v = c.len-len.ensures.valid in
    let le = subst (λ n. n ≤ c.args.pairs.now.cap) (sym (plain-length c.args.pairs.now.entries)) v.1 in
    let p = weight-put c.in_ok-key.key c.in_ok-bytes.bytes (lru_cache (plain c.args.pairs.now.entries) c.args.pairs.now.cap) le v.2 in
    let put = ap weight (ap (λ l. plain l.entries) c.in-Ok-None.ensures.entries ∙ plain-put c.args.pairs.now c.in_ok-key.key (held c.in_ok-bytes.bytes c.args.tick)) in
    let old = ap gone (plain-displaced c.args.pairs.now c.in_ok-key.key (held c.in_ok-bytes.bytes c.args.tick) ∙ ap (option_map bare) (sym c.in-Ok-None.ensures.old ∙ c.in-Ok-None.field-0-is)) in
    omega (arith, put, p, old, ap length c.in_ok-bytes.ensures)

pub returns-in-Ok-None-clause-pairs : goal.returns-in-Ok-None-clause-pairs
returns-in-Ok-None-clause-pairs g c = c.in-Ok-None.ensures.entries ∙ (λ i. lru_cache (put_entries same_key c.args.pairs.now (c.in_ok-key.ensures i) (held (c.in_ok-bytes.ensures i) c.args.tick)) c.args.pairs.now.cap)
