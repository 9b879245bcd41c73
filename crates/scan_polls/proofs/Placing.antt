-- In which places files come.
use Rattle.std.proofs.Common.{◌≡◌, ◌≤◌, ◌+◌, ℕ, suc, Bool, true, false, List, [], ◌∷◌, ◌++◌, Option, inl, inr, refl, sym, ap, subst, ◌∙◌, arith}
use Rattle.std.specs.Prelude.{if◌then◌else◌}
use Rattle.std.specs.List.{list_all, list_any}
use Rattle.scan_expr.specs.declared.request.ScanRequest.{ScanRequest}
use Rattle.scan_opener.specs.Opener.{OpenerState}
use Rattle.scan_sources.specs.declared.request.BoundScanRequest.{BoundScanRequest}
use Rattle.scan_multi_sources.specs.Children.{ChildData, deferred, deferred_children, is_open, is_opened, later_sizes, opened}
use Rattle.scan_multi_sources.specs.MultiScans.{MultiScan}
use Rattle.scan_multi_sources.specs.Sources.{MultiData}
use Rattle.scan_multi_sources.specs.Starts.{StartsMulti, first_places, numbers_of, places_of}
use Rattle.scan_multi_sources.specs.declared.scan.PartitionPoll.{PartitionPoll}
use Rattle.scan_polls.specs.Due.{IsPartOf, OpenedLead, Polls, RiseFrom, due, places_answered}
use Rattle.scan_polls.specs.Laws.{RiseByKind}
use Rattle.scan_polls.proofs.Firsts.{and_true, both_false, both_true, or_false, places_closed, places_opened}
use Rattle.scan_polls.proofs.Ordering.{part_over}
use Rattle.scan_polls.proofs.Polling.{polls_move}

-- ---- a list with numbers left out
rise_less : (a b : ℕ) (xs : List ℕ) → a ≤ b → RiseFrom b xs → RiseFrom a xs
rise_less a b [] l h = tt
rise_less a b (x ∷ xs) l h = let first = h.0 in (omega (arith, l, first), h.1)

rise_part : (n : ℕ) (ks xs : List ℕ) → IsPartOf ks xs → RiseFrom n xs → RiseFrom n ks
rise_part n [] xs h r = tt
rise_part n (k ∷ ks) [] h r = absurd h
rise_part n (k ∷ ks) (x ∷ xs) (inl h) r =
    let low = r.0 in
    let same = h.0 in
    let later : RiseFrom (suc x) ks = rise_part (suc x) ks xs h.1 r.1 in
    (omega (arith, low, same), subst (λ m. RiseFrom (suc m) ks) (sym same) later)
rise_part n (k ∷ ks) (x ∷ xs) (inr h) r =
    let low = r.0 in
    rise_part n (k ∷ ks) xs h (rise_less n (suc x) xs (omega (arith, low)) r.1)

all_part : (p : ℕ → Bool) (ks xs : List ℕ) → IsPartOf ks xs → list_all p xs ≡ true → list_all p ks ≡ true
all_part p [] xs h a = refl
all_part p (k ∷ ks) [] h a = absurd h
all_part p (k ∷ ks) (x ∷ xs) (inl h) a =
    let both = and_true (p x) (list_all p xs) a in
    both_true (p k) (list_all p ks) (ap p h.0 ∙ both.0) (all_part p ks xs h.1 both.1)
all_part p (k ∷ ks) (x ∷ xs) (inr h) a = all_part p (k ∷ ks) xs h (and_true (p x) (list_all p xs) a).1

none_part : (p : ℕ → Bool) (ks xs : List ℕ) → IsPartOf ks xs → list_any p xs ≡ false → list_any p ks ≡ false
none_part p [] xs h a = refl
none_part p (k ∷ ks) [] h a = absurd h
none_part p (k ∷ ks) (x ∷ xs) (inl h) a =
    let both = or_false (p x) (list_any p xs) a in
    both_false (p k) (list_any p ks) (ap p h.0 ∙ both.0) (none_part p ks xs h.1 both.1)
none_part p (k ∷ ks) (x ∷ xs) (inr h) a = none_part p (k ∷ ks) xs h (or_false (p x) (list_any p xs) a).1

-- of two lists, one behind the other
record Parts (ks xs ys : List ℕ) : Type 0 where
  pub left : List ℕ
  pub right : List ℕ
  pub all : ks ≡ left ++ right
  pub of_left : IsPartOf left xs
  pub of_right : IsPartOf right ys

part_of_both : (ks xs ys : List ℕ) → IsPartOf ks (xs ++ ys) → Parts ks xs ys
part_of_both [] xs ys h = record { left = []; right = []; all = refl; of_left = tt; of_right = tt }
part_of_both (k ∷ ks) [] ys h = record { left = []; right = k ∷ ks; all = refl; of_left = tt; of_right = h }
part_of_both (k ∷ ks) (x ∷ xs) ys (inl h) =
    let r = part_of_both ks xs ys h.1 in
    record { left = k ∷ r.left; right = r.right; all = ap (λ (ls : List ℕ). k ∷ ls) r.all; of_left = inl (h.0, r.of_left); of_right = r.of_right }
part_of_both (k ∷ ks) (x ∷ xs) ys (inr h) =
    let r = part_of_both (k ∷ ks) xs ys h in
    record { left = r.left; right = r.right; all = r.all; of_left = part_over r.left x xs r.of_left; of_right = r.of_right }

-- ---- places of files
module _ {O : Type 0} where
  places_rise : (want : Bool) (cs : List (ChildData O)) (n : ℕ) → RiseFrom n (places_of want cs n)
  places_rise want [] n = tt
  places_rise want (c ∷ cs) n = go (is_opened want c) (places_rise want cs (suc n))
    where
      go : (b : Bool) → RiseFrom (suc n) (places_of want cs (suc n)) → RiseFrom n (if b then n ∷ places_of want cs (suc n) else places_of want cs (suc n))
      go true rest = (omega arith, rest)
      go false rest = rise_less n (suc n) (places_of want cs (suc n)) (omega arith) rest

  none_opened : (cs : List (ChildData O)) (n : ℕ) → list_any (is_opened true) cs ≡ false → places_of true cs n ≡ []
  none_opened [] n h = refl
  none_opened (opened l b ∷ cs) n h = absurd cc
  none_opened (deferred o b ∷ cs) n h = none_opened cs (suc n) h

  -- all of them rise where those that were handed in opened stand first
  lead_rise : (cs : List (ChildData O)) (n : ℕ) → OpenedLead cs → RiseFrom n (places_of true cs n ++ places_of false cs n)
  lead_rise [] n h = tt
  lead_rise (opened l b ∷ cs) n h = (omega arith, lead_rise cs (suc n) h)
  lead_rise (deferred o b ∷ cs) n h =
      let rest = places_of false cs (suc n) in
      let alone : RiseFrom n (n ∷ rest) = (omega arith, places_rise false cs (suc n)) in
      subst (λ (ks : List ℕ). RiseFrom n (ks ++ n ∷ rest)) (sym (none_opened cs (suc n) h)) alone

  none_deferred : (os : List O) (sizes : List (Option ℕ)) → list_any (is_opened true) (deferred_children os sizes) ≡ false
  none_deferred [] sizes = refl
  none_deferred (o ∷ os) sizes = none_deferred os (later_sizes sizes)

  pub made_lead : (os : List O) (sizes : List (Option ℕ)) → OpenedLead (deferred_children os sizes)
  made_lead [] sizes = tt
  made_lead (o ∷ os) sizes = none_deferred os (later_sizes sizes)

  come_by_kind : (cs : List (ChildData O)) (ks : List ℕ) → IsPartOf ks (first_places cs) → RiseByKind cs ks
  come_by_kind cs ks part =
      let both = part_of_both ks (places_of true cs 0) (places_of false cs 0) part in
      record {
        firsts = both.left;
        others = both.right;
        all = both.all;
        opened = all_part (is_open cs) both.left (places_of true cs 0) both.of_left (places_opened cs);
        closed = none_part (is_open cs) both.right (places_of false cs 0) both.of_right (places_closed cs);
        firsts_rise = rise_part 0 both.left (places_of true cs 0) both.of_left (places_rise true cs 0);
        others_rise = rise_part 0 both.right (places_of false cs 0) both.of_right (places_rise false cs 0);
        rise = λ lead. rise_part 0 ks (first_places cs) part (lead_rise cs 0 lead);
      }

  -- the files that are due at the beginning
  pub due_first : (source : MultiData O) (q : BoundScanRequest) (r : ScanRequest) (s : MultiScan O) → StartsMulti source q (numbers_of r) s → due s ≡ first_places source.children
  due_first source q r s starts = ap (λ (z : MultiScan O). due z) starts.scan

  pub come_in_places : (opener : O → OpenerState) (rs : List PartitionPoll) (source : MultiData O) (q : BoundScanRequest) (r : ScanRequest) (old new : MultiScan O)
      → StartsMulti source q (numbers_of r) old → Polls opener rs old new → q.ordered ≡ true → RiseByKind source.children (places_answered rs ++ due new)
  come_in_places opener rs source q r old new starts polls ordered =
      let ks = places_answered rs ++ due new in
      let in_order : (old.request).ordered ≡ true = ap (λ (z : MultiScan O). (z.request).ordered) starts.scan ∙ ordered in
      let part : IsPartOf ks (due old) = (polls_move opener rs old new polls).order in_order in
      come_by_kind source.children ks (subst (IsPartOf ks) (due_first source q r old starts) part)
