use Rattle.std.proofs.Common.{◌≡◌, ◌+◌, Bool, true, false, not, cond, ◌||◌, take, bytes_eq, codes, refl, sym, ap, ◌∙◌, arith}
use Rattle.std.proofs.lemmas.Grind.{common_steps}
use Rattle.std.proofs.lemmas.Map.Text.{is_eq-slice_cmp}
use Rattle.scan_values.specs.NameFaults.{has_name}
use Rattle.scan_values.proofs.Named.{fault-turn, has_name-more, same_bytes}
use Rattle.scan_values.proofs.text.names_fault.Goals as goal

was_there : (a b c : Bool) → a ≡ not b → a ≡ false → b ≡ c → c ≡ true
was_there a true c h g e = sym e
was_there a false c h g e = cc

was_new : (a b c : Bool) → a ≡ not b → a ≡ true → b ≡ c → c ≡ false
was_new a true c h g e = cc
was_new a false c h g e = sym e

cond_or : (a b : Bool) → cond a true b ≡ (b || a)
cond_or true true = refl
cond_or true false = refl
cond_or false true = refl
cond_or false false = refl

pub returns-then-not-branch : goal.returns-then-not-branch
returns-then-not-branch c =
    let n = c.name-item.result in
    let names = c.args.names.now in
    let i = c.loop-name.name-index in
    let free : bytes_eq n (codes "#validity") ≡ false = grind (arith, common_steps) in
    let had : has_name n (take i names) ≡ true = was_there _ _ (has_name n (take i names)) c.in_ok-insert.ensures.added c.if-not-branch.true (c.loop-name.invariant.seen c.as_str-in-loop-name.result ∙ ap (λ m. has_name m (take i names)) c.as_str-in-loop-name.ensures) in
    sym (c.loop-name.invariant.same ∙ fault-turn names i n (omega arith) c.name-item.is ∙ (rw (free, had) refl))

pub loop-name-preserved : goal.loop-name-preserved
loop-name-preserved c =
    let n = c.name-item.result in
    let names = c.args.names.now in
    let i = c.loop-name.name-index in
    let free : bytes_eq n (codes "#validity") ≡ false = grind (arith, common_steps) in
    let had : has_name n (take i names) ≡ false = was_new _ _ (has_name n (take i names)) c.in_ok-insert.ensures.added c.if-not-branch.false (c.loop-name.invariant.seen c.as_str-in-loop-name.result ∙ ap (λ m. has_name m (take i names)) c.as_str-in-loop-name.ensures) in
    record {
      same = c.loop-name.invariant.same ∙ fault-turn names i n (omega arith) c.name-item.is ∙ (rw (free, had) refl);
      seen = λ q.
          let more : has_name q.now (take (i + 1) names) ≡ (has_name q.now (take i names) || bytes_eq n q.now) = has_name-more q.now names i n (omega arith) ∙ (rw (← c.name-item.is, same_bytes n q.now) refl) in
          c.in_ok-insert.ensures.updates.0 q ∙ (rw (is_eq-slice_cmp c.as_str-in-loop-name.result.now q.now, c.as_str-in-loop-name.ensures, more, c.loop-name.invariant.seen q) (cond_or (bytes_eq n q.now) (has_name q.now (take i names))));
    }
