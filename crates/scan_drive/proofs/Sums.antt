-- How the sums over books move with one step of a file.
use Rattle.std.proofs.Common.{◌≡◌, ℕ, ◌+◌, ◌≤◌, List, [], ◌∷◌, length, true, false, cond, eqb, refl, sym, ap, ◌∙◌, arith}
use Rattle.scan_segments.specs.Source.{SourceState}
use Rattle.scan_segments.specs.Keys.{same_key}
use Rattle.scan_segments.specs.declared.segment.SegmentKey.{SegmentKey}
use Rattle.scan_drive.specs.Ledger.{Book, open_among, new_ids, open_ids, asks, opens, ask_count, held_asked, held_open, total, Each, IsAt, moved, IsKept}
use Rattle.scan_drive.specs.Traffic.{key_of, asked_since}
use Rattle.scan_drive.proofs.Books.{Rests, Stands, IsAsked, IsEnded, more_ids, same_ids, live_among, total_is, total_up, total_down, total_less}
use Rattle.scan_drive.proofs.Weighing.{weigh, one_if, weigh_append, times_weigh, holds_id, held_weigh, open_same, open_less, open_ask, open_end}

-- what an id counts in the book of a name, whose source was this at first
abbrev pub Weight : Type 0
Weight = List ℕ → SourceState → ℕ → ℕ

abbrev pub ids_sum : Weight → Book → ℕ
ids_sum w b = weigh (w b.name b.first) (new_ids b)

abbrev pub open_sum : Weight → Book → ℕ
open_sum w b = weigh (w b.name b.first) (open_ids b)

-- ---- one book
module _ (w : ℕ → ℕ) (b : Book) (s t : SourceState) (h : IsKept b) (is : b.now ≡ s) where
  live_is : (id : ℕ) → s.live id ≡ b.now.live id
  live_is id = ap (λ (z : SourceState). z.live id) (sym is)

  ids_asked : (id : ℕ) → IsAsked id s t → weigh w (asked_since b.first t) ≡ weigh w (new_ids b) + w id
  ids_asked id a = ap (weigh w) (more_ids b s t h is (id ∷ []) a.asked) ∙ weigh_append w (new_ids b) (id ∷ []) ∙ (let z : weigh w (new_ids b) + (w id + 0) ≡ weigh w (new_ids b) + w id = omega arith in z)

  open_asked : (id : ℕ) → IsAsked id s t → weigh w (open_among t.live (asked_since b.first t)) ≡ weigh w (open_ids b) + w id
  open_asked id a =
      let dead : b.now.live id ≡ false = sym (live_is id) ∙ a.dead in
      ap (λ xs. weigh w (open_among t.live xs)) (more_ids b s t h is (id ∷ []) a.asked)
      ∙ ap (weigh w) (open_ask b.now.live t.live id (new_ids b) dead (λ q. a.live q ∙ ap (cond (eqb q id) true) (live_is q)))
      ∙ weigh_append w (open_ids b) (id ∷ []) ∙ (let z : weigh w (open_ids b) + (w id + 0) ≡ weigh w (open_ids b) + w id = omega arith in z)

  open_ended : (id : ℕ) → IsEnded id s t → weigh w (open_ids b) ≡ w id + weigh w (open_among t.live (asked_since b.first t))
  open_ended id e =
      open_end w b.now.live t.live id (new_ids b) (sym (live_is id) ∙ e.was) (live_among b s t h is id e.was) (λ q. e.live q ∙ ap (cond (eqb q id) false) (live_is q))
      ∙ ap (λ xs. w id + weigh w (open_among t.live xs)) (sym (same_ids b s t h is e.asked))

  ids_rests : t.asked ≡ s.asked → weigh w (asked_since b.first t) ≡ weigh w (new_ids b) + 0
  ids_rests e = ap (weigh w) (same_ids b s t h is e) ∙ (let z : weigh w (new_ids b) ≡ weigh w (new_ids b) + 0 = omega arith in z)

  open_rests : Rests s t → weigh w (open_among t.live (asked_since b.first t)) ≤ weigh w (open_ids b)
  open_rests r =
      let e : weigh w (open_among t.live (asked_since b.first t)) ≡ weigh w (open_among t.live (new_ids b)) = ap (λ xs. weigh w (open_among t.live xs)) (same_ids b s t h is r.asked) in
      let l = open_less w b.now.live t.live (new_ids b) (λ id on. sym (live_is id) ∙ r.live id on) in
      omega (arith, e, l)

  open_stands : Stands s t → weigh w (open_among t.live (asked_since b.first t)) ≡ weigh w (open_ids b) + 0
  open_stands r =
      ap (λ xs. weigh w (open_among t.live xs)) (same_ids b s t h is r.asked) ∙ ap (weigh w) (open_same b.now.live t.live (new_ids b) (λ id. r.live id ∙ live_is id))
      ∙ (let z : weigh w (open_ids b) ≡ weigh w (open_ids b) + 0 = omega arith in z)

-- ---- all books
module _ (w : Weight) (name : List ℕ) (s t : SourceState) (k : ℕ) (bs : List Book) (at : IsAt k name s bs) (each : Each IsKept bs) where
  -- an id that counts so much is asked for
  module _ (id n : ℕ) (counts : (b : Book) → IsKept b → b.name ≡ name → b.now ≡ s → w b.name b.first id ≡ n) where
    sum_asked : IsAsked id s t → total (ids_sum w) (moved k t bs) ≡ total (ids_sum w) bs + n
    sum_asked a = total_up IsKept name s t (ids_sum w) n k bs (λ b h m is. ids_asked (w b.name b.first) b s t h is id a ∙ ap (λ z. ids_sum w b + z) (counts b h m is)) at each

    sum_open_asked : IsAsked id s t → total (open_sum w) (moved k t bs) ≡ total (open_sum w) bs + n
    sum_open_asked a = total_up IsKept name s t (open_sum w) n k bs (λ b h m is. open_asked (w b.name b.first) b s t h is id a ∙ ap (λ z. open_sum w b + z) (counts b h m is)) at each

    -- its request ends
    sum_ended : IsEnded id s t → total (open_sum w) bs ≡ n + total (open_sum w) (moved k t bs)
    sum_ended e = total_down IsKept name s t (open_sum w) n k bs (λ b h m is. open_ended (w b.name b.first) b s t h is id e ∙ ap (λ z. z + open_sum w (record b { now = t })) (counts b h m is)) at each

  -- nothing is asked for
  sum_rests : t.asked ≡ s.asked → total (ids_sum w) (moved k t bs) ≡ total (ids_sum w) bs + 0
  sum_rests e = total_up IsKept name s t (ids_sum w) 0 k bs (λ b h m is. ids_rests (w b.name b.first) b s t h is e) at each

  sum_less : Rests s t → total (open_sum w) (moved k t bs) ≤ total (open_sum w) bs
  sum_less r = total_less IsKept name s t (open_sum w) k bs (λ b h m is. open_rests (w b.name b.first) b s t h is r) at each

  sum_stands : Stands s t → total (open_sum w) (moved k t bs) ≡ total (open_sum w) bs + 0
  sum_stands r = total_up IsKept name s t (open_sum w) 0 k bs (λ b h m is. open_stands (w b.name b.first) b s t h is r) at each

-- ---- the sums of the books
abbrev key_weight : SegmentKey → Weight
key_weight key name first id = one_if (same_key key (key_of name id))

abbrev one_weight : Weight
one_weight name first id = 1

abbrev held_weight : Weight
held_weight name first id = one_if (holds_id first.holds id)

count_weigh : (xs : List ℕ) → length xs ≡ weigh (λ id. 1) xs
count_weigh [] = refl
count_weigh (x ∷ xs) = let ih = count_weigh xs in omega arith

asks_sum : (key : SegmentKey) (bs : List Book) → total (asks key) bs ≡ total (ids_sum (key_weight key)) bs
asks_sum key bs = total_is (asks key) (ids_sum (key_weight key)) bs (λ b. times_weigh key b.name (new_ids b))

opens_sum : (key : SegmentKey) (bs : List Book) → total (opens key) bs ≡ total (open_sum (key_weight key)) bs
opens_sum key bs = total_is (opens key) (open_sum (key_weight key)) bs (λ b. times_weigh key b.name (open_ids b))

count_sum : (bs : List Book) → total ask_count bs ≡ total (ids_sum one_weight) bs
count_sum bs = total_is ask_count (ids_sum one_weight) bs (λ b. count_weigh (new_ids b))

held_sum : (bs : List Book) → total held_asked bs ≡ total (ids_sum held_weight) bs
held_sum bs = total_is held_asked (ids_sum held_weight) bs (λ b. held_weigh b.first.holds (new_ids b))

held_open_sum : (bs : List Book) → total held_open bs ≡ total (open_sum held_weight) bs
held_open_sum bs = total_is held_open (open_sum held_weight) bs (λ b. held_weigh b.first.holds (open_ids b))

module _ (name : List ℕ) (s t : SourceState) (k : ℕ) (bs : List Book) (at : IsAt k name s bs) (each : Each IsKept bs) where
  key_counts : (key : SegmentKey) (id : ℕ) (b : Book) → IsKept b → b.name ≡ name → b.now ≡ s → key_weight key b.name b.first id ≡ one_if (same_key key (key_of name id))
  key_counts key id b h m is = ap (λ n. one_if (same_key key (key_of n id))) m

  held_counts : (id : ℕ) (b : Book) → IsKept b → b.name ≡ name → b.now ≡ s → held_weight b.name b.first id ≡ one_if (holds_id s.holds id)
  held_counts id b h m is = ap (λ o. one_if (holds_id o id)) (sym h.holds ∙ ap (λ (z : SourceState). z.holds) is)

  -- an id is asked for
  module _ (id : ℕ) (a : IsAsked id s t) where
    pub asks_asked : (key : SegmentKey) → total (asks key) (moved k t bs) ≡ total (asks key) bs + one_if (same_key key (key_of name id))
    asks_asked key = let e = sum_asked (key_weight key) name s t k bs at each id (one_if (same_key key (key_of name id))) (key_counts key id) a in omega (arith, asks_sum key bs, asks_sum key (moved k t bs), e)

    pub opens_asked : (key : SegmentKey) → total (opens key) (moved k t bs) ≡ total (opens key) bs + one_if (same_key key (key_of name id))
    opens_asked key = let e = sum_open_asked (key_weight key) name s t k bs at each id (one_if (same_key key (key_of name id))) (key_counts key id) a in omega (arith, opens_sum key bs, opens_sum key (moved k t bs), e)

    pub count_asked : total ask_count (moved k t bs) ≡ total ask_count bs + 1
    count_asked = let e = sum_asked one_weight name s t k bs at each id 1 (λ b h m is. refl) a in omega (arith, count_sum bs, count_sum (moved k t bs), e)

    pub held_asked_more : total held_asked (moved k t bs) ≡ total held_asked bs + one_if (holds_id s.holds id)
    held_asked_more = let e = sum_asked held_weight name s t k bs at each id (one_if (holds_id s.holds id)) (held_counts id) a in omega (arith, held_sum bs, held_sum (moved k t bs), e)

    pub held_open_more : total held_open (moved k t bs) ≡ total held_open bs + one_if (holds_id s.holds id)
    held_open_more = let e = sum_open_asked held_weight name s t k bs at each id (one_if (holds_id s.holds id)) (held_counts id) a in omega (arith, held_open_sum bs, held_open_sum (moved k t bs), e)

  -- a request ends
  module _ (id : ℕ) (x : IsEnded id s t) where
    pub opens_ended : (key : SegmentKey) → total (opens key) bs ≡ one_if (same_key key (key_of name id)) + total (opens key) (moved k t bs)
    opens_ended key = let e = sum_ended (key_weight key) name s t k bs at each id (one_if (same_key key (key_of name id))) (key_counts key id) x in omega (arith, opens_sum key bs, opens_sum key (moved k t bs), e)

    pub held_ended : total held_open bs ≡ one_if (holds_id s.holds id) + total held_open (moved k t bs)
    held_ended = let e = sum_ended held_weight name s t k bs at each id (one_if (holds_id s.holds id)) (held_counts id) x in omega (arith, held_open_sum bs, held_open_sum (moved k t bs), e)

  -- nothing is asked for
  pub asks_rest : t.asked ≡ s.asked → (key : SegmentKey) → total (asks key) (moved k t bs) ≡ total (asks key) bs
  asks_rest r key = let e = sum_rests (key_weight key) name s t k bs at each r in omega (arith, asks_sum key bs, asks_sum key (moved k t bs), e)

  pub count_rest : t.asked ≡ s.asked → total ask_count (moved k t bs) ≡ total ask_count bs
  count_rest r = let e = sum_rests one_weight name s t k bs at each r in omega (arith, count_sum bs, count_sum (moved k t bs), e)

  pub held_rest : t.asked ≡ s.asked → total held_asked (moved k t bs) ≡ total held_asked bs
  held_rest r = let e = sum_rests held_weight name s t k bs at each r in omega (arith, held_sum bs, held_sum (moved k t bs), e)

  pub opens_less : Rests s t → (key : SegmentKey) → total (opens key) (moved k t bs) ≤ total (opens key) bs
  opens_less r key = let e = sum_less (key_weight key) name s t k bs at each r in omega (arith, opens_sum key bs, opens_sum key (moved k t bs), e)

  pub held_open_rest : Stands s t → total held_open (moved k t bs) ≡ total held_open bs
  held_open_rest r = let e = sum_stands held_weight name s t k bs at each r in omega (arith, held_open_sum bs, held_open_sum (moved k t bs), e)
