use Rattle.std.proofs.Common.{◌≡◌, ℕ, suc, ◌+◌, ◌<◌, Bool, true, false, not, ◌||◌, List, [], ◌∷◌, ◌++◌, length, take, drop, get_or, refl, sym, ap, ◌∙◌, add-one, arith}
use Rattle.std.proofs.Math.Seq.{drop-cons}
use Rattle.std.proofs.lemmas.List.{take_more}
use Rattle.scan_values.specs.DataType.{Name}
use Rattle.scan_values.specs.NameFaults.{has_name}
use Rattle.scan_expr.specs.Typing.{repeats}
use Rattle.scan_expr.proofs.Placing.{is_seen, none_seen, seen_turn}
use Rattle.scan_expr.proofs.typing.repeats.Goals as goal

turn : (ns : List Name) (i : ℕ) (n : Name) → i < length ns → n ≡ get_or ns i n → repeats (take i ns) (drop i ns) ≡ (has_name n (take i ns) || repeats (take (i + 1) ns) (drop (i + 1) ns))
turn ns i n h e = rw (add-one, drop-cons ns i n, ← e) (ap (λ ms. has_name n (take i ns) || repeats ms (drop (suc i) ns)) more)
  where
    more : take i ns ++ n ∷ [] ≡ take (suc i) ns
    more = sym (ap (λ k. take k ns) (let j : suc i ≡ i + 1 = omega arith in j) ∙ take_more ns i n h ∙ ap (λ m. take i ns ++ m ∷ []) (sym e))

was_there : (a b c : Bool) → a ≡ not b → a ≡ false → b ≡ c → c ≡ true
was_there a true c h g e = sym e
was_there a false c h g e = cc

was_new : (a b c : Bool) → a ≡ not b → a ≡ true → b ≡ c → c ≡ false
was_new a true c h g e = cc
was_new a false c h g e = sym e

pub loop-name-init : goal.loop-name-init
loop-name-init c = record { same = refl; seen = λ n. none_seen c.new-seen.result n c.new-seen.ensures.empty }

pub returns-then-not-branch : goal.returns-then-not-branch
returns-then-not-branch c =
    let n = c.name-item.result in
    let names = c.args.names.now in
    let i = c.loop-name.name-index in
    let had : has_name n (take i names) ≡ true =
    was_there _ (is_seen c.loop-name.seen n) (has_name n (take i names)) (c.in_ok-insert.ensures.added ∙ ap (λ m. not (is_seen c.loop-name.seen m)) c.as_str.ensures) c.if-not-branch.true (c.loop-name.invariant.seen n) in
    sym (c.loop-name.invariant.same ∙ turn names i n (omega arith) c.name-item.is ∙ (rw had refl))

pub loop-name-preserved : goal.loop-name-preserved
loop-name-preserved c =
    let n = c.name-item.result in
    let names = c.args.names.now in
    let i = c.loop-name.name-index in
    let had : has_name n (take i names) ≡ false =
    was_new _ (is_seen c.loop-name.seen n) (has_name n (take i names)) (c.in_ok-insert.ensures.added ∙ ap (λ m. not (is_seen c.loop-name.seen m)) c.as_str.ensures) c.if-not-branch.false (c.loop-name.invariant.seen n) in
    record {
      same = c.loop-name.invariant.same ∙ turn names i n (omega arith) c.name-item.is ∙ (rw had refl);
      seen = seen_turn names i c.as_str.result n c.loop-name.seen c.insert.new.self c.loop-name-test.true c.name-item.is c.as_str.ensures c.in_ok-insert.ensures.updates c.loop-name.invariant.seen;
    }
