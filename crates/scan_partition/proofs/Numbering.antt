-- Cuts and their numbers, one more.
use Rattle.std.proofs.Common.{◌≡◌, ℕ, ◌+◌, ◌<◌, List, [], ◌∷◌, ◌++◌, length, map, take, get_or, refl, ap, sym, ◌∙◌, append_assoc}
use Rattle.std.proofs.lemmas.List.{append-nil}
use Rattle.scan_partition.specs.Partition.{Cut, Group, added, collected, groups_of, found, count_item}
use Rattle.scan_partition.specs.Planted.{numbered_cuts}
use Rattle.scan_partition.specs.Soles.{item_seen, cut_seen}
use Rattle.scan_partition.specs.Plans.{leaf_seen}
use Rattle.scan_partition.specs.declared.cuts.Cut.{Cut as LentCut}
use Rattle.scan_partition.specs.declared.groups.Leaf.{Leaf as LentLeaf}
use Rattle.scan_partition.proofs.Grouping.{found_collected}
use Rattle.scan_partition.proofs.Loops.{map_step}
use Rattle.scan_partition.proofs.CutLists.{map_one_more}

collected_more : (gs : List Group) (cs : List Cut) (c : Cut) → collected gs (cs ++ c ∷ []) ≡ added c.0 c.1 (collected gs cs)
collected_more gs [] c = refl
collected_more gs (d ∷ ds) c = collected_more (added d.0 d.1 gs) ds c

numbered_more : (before cs : List Cut) (c : Cut) → numbered_cuts before (cs ++ c ∷ []) ≡ numbered_cuts before cs ++ (c.0, count_item c.0 (before ++ cs)) ∷ []
numbered_more before [] c = ap (λ b. (c.0, count_item c.0 b) ∷ []) (sym (append-nil before))
numbered_more before (d ∷ ds) c =
    ap (λ ls. (d.0, count_item d.0 before) ∷ ls) (numbered_more (before ++ d ∷ []) ds c ∙ ap (λ b. numbered_cuts (before ++ d ∷ []) ds ++ (c.0, count_item c.0 b) ∷ []) (append_assoc before (d ∷ []) ds))

-- the cuts up to the next
next : (cs : List LentCut) (k : ℕ) (c : LentCut) → k < length cs → c ≡ get_or cs k c → map cut_seen (take (k + 1) cs) ≡ map cut_seen (take k cs) ++ cut_seen c ∷ []
next cs k c h e = sym (map_step cut_seen cs k c h e)

pub groups_step : (cs : List LentCut) (k : ℕ) (c : LentCut) (gs hs : List Group) → k < length cs → c ≡ get_or cs k c → gs ≡ groups_of (map cut_seen (take k cs)) → hs ≡ added (item_seen c.item) c.expr.now.expr gs
    → hs ≡ groups_of (map cut_seen (take (k + 1) cs))
groups_step cs k c gs hs h e g a = a ∙ ap (added (item_seen c.item) c.expr.now.expr) g ∙ sym (collected_more [] (map cut_seen (take k cs)) (cut_seen c)) ∙ ap groups_of (sym (next cs k c h e))

pub leaves_step : (cs : List LentCut) (k : ℕ) (c : LentCut) (gs : List Group) (ls ms : List LentLeaf) (l : LentLeaf) → k < length cs → c ≡ get_or cs k c → gs ≡ groups_of (map cut_seen (take k cs))
    → map leaf_seen ls ≡ numbered_cuts [] (map cut_seen (take k cs)) → ms ≡ ls ++ l ∷ [] → item_seen l.item ≡ item_seen c.item → l.number ≡ length (found (item_seen c.item) gs)
    → map leaf_seen ms ≡ numbered_cuts [] (map cut_seen (take (k + 1) cs))
leaves_step cs k c gs ls ms l h e g f m i n =
    ap (map leaf_seen) m ∙ map_one_more leaf_seen ls l ∙ (λ j. f j ++ (i j, number j) ∷ []) ∙ sym (numbered_more [] (map cut_seen (take k cs)) (cut_seen c)) ∙ ap (numbered_cuts []) (sym (next cs k c h e))
  where
    number : l.number ≡ count_item (item_seen c.item) (map cut_seen (take k cs))
    number = n ∙ ap (λ x. length (found (item_seen c.item) x)) g ∙ ap length (found_collected (item_seen c.item) [] (map cut_seen (take k cs)))
