-- What is read of a stream of a scan, by the splits of the scan.
use Rattle.std.proofs.Common.{◌≡◌, ◌≤◌, ◌<◌, ℕ, zero, suc, Bool, true, false, List, [], ◌∷◌, ◌++◌, length, map, flat_map, get_or, set, swap, Option, None, Some, refl, sym, ap, subst, ◌∙◌, append-nil, append_assoc, arith, IsPermutation}
use Rattle.std.specs.Ordering.{nat_cmp}
use Rattle.std.specs.Prelude.{option_map}
use Rattle.std.specs.FinMap as finite
use Rattle.std.proofs.lemmas.List.Concat.{flat_map-append}
use Rattle.std.proofs.lemmas.List.Sorted.{IsPermutation-refl, IsPermutation-keeps, IsPermutation-trans, IsPermutation-append_left, IsPermutation-append_right, IsPermutation-append_comm}
use Rattle.std.specs.declared.ops.Range.{Range}
use Rattle.vortex_scan.specs.Values.Marked.{Marked}
use Rattle.vortex_scan.specs.Segments.Source.{Store}
use Rattle.vortex_scan.specs.Splits.Arrivals.{content}
use Rattle.vortex_scan.specs.Limit.Budget.{most}
use Rattle.vortex_scan.specs.Limit.Seats.{SeatState}
use Rattle.vortex_scan.specs.Plans.Futures.{FutureData, items_of}
use Rattle.vortex_scan.specs.Streams.Feeds.{FeedData}
use Rattle.vortex_scan.specs.Streams.Grants.{HasRoom}
use Rattle.vortex_scan.specs.Streams.Splits.{AllHold, Alike, new_split, one_part, parts_left, reach}
use Rattle.vortex_scan.specs.Streams.Streams.{StreamData}
use Rattle.vortex_scan.specs.Core.ScanData.{ScanData}
use Rattle.vortex_scan.specs.Core.Streaming.{IsOwnSeat, IsStreamOf, first_of, limit_after, streamed, values_in}
use Rattle.vortex_scan.specs.Collect.Reads.{IsAlone, IsFresh, IsReadOf, joined, limit_in}
use Rattle.vortex_scan.specs.Collect.Rows.{GivesFirst}

-- ---- lists that stand in another order are joined to values in another order
module _ {A B : Type 0} (f : A → List B) where
  abbrev Same : List A → List A → Type 0
  Same xs ys = IsPermutation (flat_map f xs) (flat_map f ys)

  under : (x : A) (xs ys : List A) → Same xs ys → Same (x ∷ xs) (x ∷ ys)
  under x xs ys h = IsPermutation-append_right (f x) (flat_map f xs) (flat_map f ys) h

  turned : (x y : A) (xs : List A) → Same (x ∷ y ∷ xs) (y ∷ x ∷ xs)
  turned x y xs = rw (← append_assoc (f x), ← append_assoc (f y)) (IsPermutation-append_left (flat_map f xs) _ _ (IsPermutation-append_comm (f x) (f y)))

  along : (xs ys zs : List A) → Same xs ys → Same ys zs → Same xs zs
  along xs ys zs = IsPermutation-trans (flat_map f xs) (flat_map f ys) (flat_map f zs)

  to_front : (l : List A) (j : ℕ) (x d : A) → j < length l → Same (x ∷ l) (get_or l j d ∷ set l j x)
  to_front [] j x d h = absurd (omega arith)
  to_front (y ∷ l) zero x d h = turned x y l
  to_front (y ∷ l) (suc j) x d h =
      along (x ∷ y ∷ l) (y ∷ x ∷ l) (get_or l j d ∷ y ∷ set l j x) (turned x y l)
      (along (y ∷ x ∷ l) (y ∷ get_or l j d ∷ set l j x) (get_or l j d ∷ y ∷ set l j x) (under y (x ∷ l) (get_or l j d ∷ set l j x) (to_front l j x d (omega arith))) (turned y (get_or l j d) (set l j x)))

  set_twice : (l : List A) (i j : ℕ) (d : A) → i < length l → j < length l → Same l (set (set l i (get_or l j d)) j (get_or l i d))
  set_twice [] i j d p q = absurd (omega arith)
  set_twice (x ∷ l) zero zero d p q = IsPermutation-refl (flat_map f (x ∷ l))
  set_twice (x ∷ l) zero (suc j) d p q = to_front l j x d (omega arith)
  set_twice (x ∷ l) (suc i) zero d p q = to_front l i x d (omega arith)
  set_twice (x ∷ l) (suc i) (suc j) d p q = under x l (set (set l i (get_or l j d)) j (get_or l i d)) (set_twice l i j d (omega arith) (omega arith))

  swapped : (l : List A) (i j : ℕ) → i < length l → j < length l → Same l (swap l i j)
  swapped [] i j p q = absurd (omega arith)
  swapped (x ∷ l) i j p q = set_twice (x ∷ l) i j x p q

  joined_alike : (xs ys : List A) → IsPermutation xs ys → Same xs ys
  joined_alike xs = IsPermutation-keeps xs (Same xs) (IsPermutation-refl (flat_map f xs)) (λ l i j p q h. along xs l (swap l i j) h (swapped l i j p q))

-- ---- the values of splits of which nothing was read
new_hold : (store : Store) (fs : List FutureData) → AllHold store (map new_split fs)
new_hold store [] = tt
new_hold store (f ∷ fs) = (λ id bytes e. absurd (let z : None ≡ Some bytes = sym (ap (option_map content) (finite.get-empty nat_cmp id)) ∙ e in cc), new_hold store fs)

one_joined : (xs : List Marked) → joined (one_part xs) ≡ xs
one_joined [] = refl
one_joined (x ∷ xs) = append-nil (x ∷ xs)

parts_in : (store : Store) (fs : List FutureData) → joined (parts_left store (map new_split fs)) ≡ values_in fs store
parts_in store [] = refl
parts_in store (f ∷ fs) =
    flat_map-append (λ (ys : List Marked). ys) (one_part (items_of f store)) (parts_left store (map new_split fs))
    ∙ ap (λ (xs : List Marked). xs ++ joined (parts_left store (map new_split fs))) (one_joined (items_of f store))
    ∙ ap (λ (xs : List Marked). items_of f store ++ xs) (parts_in store fs)

joined_in : (ordered : Bool) (limit : Option ℕ) (store : Store) (fs : List FutureData) (parts : List (List Marked)) (values : List Marked)
    → Alike ordered (parts_left store (map new_split fs)) parts → values ≡ first_of limit (joined parts) → GivesFirst ordered limit (values_in fs store) values
joined_in true limit store fs parts values h e = e ∙ ap (λ (xss : List (List Marked)). first_of limit (joined xss)) (sym h) ∙ ap (first_of limit) (parts_in store fs)
joined_in false limit store fs parts values h e =
    (joined parts, subst (λ (xs : List Marked). IsPermutation xs (joined parts)) (parts_in store fs) (joined_alike (λ (xs : List Marked). xs) (parts_left store (map new_split fs)) parts h), e)

-- ---- a stream that has the limit of its scan alone
seat_alone : (limit : Option ℕ) (seat : Option SeatState) (n : ℕ) → IsOwnSeat limit seat → HasRoom seat n → IsAlone seat n
seat_alone None seat n h l = subst (λ (o : Option SeatState). IsAlone o n) (sym h) tt
seat_alone (Some k) seat n h l =
    let few : n ≤ most = subst (λ (o : Option SeatState). HasRoom o n) h.1 l in
    subst (λ (o : Option SeatState). IsAlone o n) (sym h.1) (refl, few)

seat_limit : (limit : Option ℕ) (seat : Option SeatState) → IsOwnSeat limit seat → limit_in seat ≡ limit
seat_limit None seat h = ap limit_in h
seat_limit (Some k) seat h = ap limit_in h.1 ∙ ap Some h.2

module _ {M : Type 0} (s : ScanData M) (r : Option (Range ℕ)) (t : StreamData M) (is : IsStreamOf s r t) (store : Store) (values : List Marked) where
  fresh : HasRoom (t.feed).seat (reach (t.feed).splits) → IsFresh store t.feed
  fresh room =
      let made = (is.stream).feed in
      record {
        begun = ap (λ (f : FeedData). f.ended) made;
        holds = subst (λ (f : FeedData). AllHold store f.splits) (sym made) (new_hold store (streamed s r));
        alone = seat_alone (limit_after s) (t.feed).seat (reach (t.feed).splits) is.seat room;
      }

  gives : IsReadOf store t.feed values → GivesFirst s.ordered (limit_after s) (values_in (streamed s r) store) values
  gives h =
      let made = (is.stream).feed in
      let limit : limit_in (t.feed).seat ≡ limit_after s = seat_limit (limit_after s) (t.feed).seat is.seat in
      let all : Alike s.ordered (parts_left store (map new_split (streamed s r))) h.parts = subst (λ (f : FeedData). Alike f.ordered (parts_left store f.splits) h.parts) made h.all in
      joined_in s.ordered (limit_after s) store (streamed s r) h.parts values all (h.first ∙ ap (λ (o : Option ℕ). first_of o (joined h.parts)) limit)

  -- the first of what the splits of the scan give, in order or in some order
  pub stream_gives : HasRoom (t.feed).seat (reach (t.feed).splits) → (IsFresh store t.feed → IsReadOf store t.feed values) → GivesFirst s.ordered (limit_after s) (values_in (streamed s r) store) values
  stream_gives room read = gives (read (fresh room))
