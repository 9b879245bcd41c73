-- Keys in their order: those that compare equal are one key.
use Rattle.std.proofs.Common.{◌≡◌, ℕ, List, Option, cond, ap, sym, ◌∙◌}
use Rattle.std.specs.Cmp.{both_tied, unsigned_ties}
use Rattle.std.specs.Cmp.Lexicographic.{slice_cmp, texts_ties}
use Rattle.std.specs.Ordering.{nat_cmp, ordering_then}
use Rattle.std.specs.declared.cmp.Ordering.{Ordering}
use Rattle.std.specs.BTreeMap.{is_at}
use Rattle.std.specs.Map.{lookup}
use Rattle.scan_segments.specs.declared.segment.SegmentKey.{SegmentKey}
use Rattle.scan_segments.specs.Keys.{same_key}
use Rattle.scan_caches.specs.Bounded.{Pair, at}

-- by the text of the source, and then by the number
abbrev pub key_cmp : SegmentKey → SegmentKey → Ordering
key_cmp k l = ordering_then (slice_cmp nat_cmp k.source_id l.source_id) (nat_cmp k.segment l.segment)

pub same_is : (k : SegmentKey) → same_key k ≡ is_at (key_cmp k)
same_is k = λ i l. both_tied _ _ _ _ (texts_ties k.source_id l.source_id) (unsigned_ties k.segment l.segment) i

-- what stands at a key is what its order finds
pub at_is : (es : List Pair) (k : SegmentKey) → at es k ≡ lookup (is_at (key_cmp k)) es
at_is es k = ap (λ t. lookup t es) (same_is k)

-- what a put changes, by the keys' order, it changes by the keys
pub at_put : (k : SegmentKey) (b : Option (List ℕ)) (es fs : List Pair) → ((q : SegmentKey) → lookup (is_at (key_cmp q)) fs ≡ cond (is_at (key_cmp k) q) b (lookup (is_at (key_cmp q)) es))
    → (q : SegmentKey) → at fs q ≡ cond (same_key k q) b (at es q)
at_put k b es fs u q = at_is fs q ∙ u q ∙ (λ i. cond (sym (same_is k) i q) b (sym (at_is es q) i))
