use borrow.Author.Rules.{rules}
use Rattle.std.proofs.Common.{◌≡◌, ◌++◌, ℕ, List, sym, subst}
use Rattle.scan_spelling.specs.Cuts.{AreTexts}
use Rattle.scan_columns.proofs.TextLemmas.{are_texts_append}
use Rattle.scan_columns.proofs.texts.Texts.append.Goals as goal

pub new-requires-clause-texts : goal.new-requires-clause-texts
new-requires-clause-texts c =
    let ns : List ℕ = c.self.inside.ends in
    let ks : List ℕ = c.other.inside.ends in
    let es : List ℕ = c.self.inside.bytes.items in
    let fs : List ℕ = c.other.inside.bytes.items in
    let ends : c.in_ok-ends.ends ≡ ns ++ ks = search (rules, c.in_ok-ends.ensures) in
    let bytes : c.extend_from_slice.new.self.items ≡ es ++ fs = search (rules, c.in_ok-extend_from_slice.ensures.items) in
    let both : AreTexts (ns ++ ks) (es ++ fs) = are_texts_append ns ks es fs c.self.invariant.1 c.other.invariant.1 in
    subst (λ (z : List ℕ). AreTexts z c.extend_from_slice.new.self.items) (sym ends) (subst (λ (z : List ℕ). AreTexts (ns ++ ks) z) (sym bytes) both)
