-- The items of a split of a file.
use Rattle.std.proofs.Common.{◌≡◌, ℕ, Bool, true, false, not, ◌&&◌, ◌||◌, List, [], ◌∷◌, ◌++◌, filter, map, Option, Some, None, refl, sym, ap, ◌∙◌}
use Rattle.std.specs.Prelude.{if◌then◌else◌, cond}
use Rattle.std.specs.List.{flat_map, list_any, list_all}
use Rattle.scan_values.specs.DataType.{DataType}
use Rattle.scan_values.specs.Marked.{Marked, lost, null, gone, boolean, integer, text, list, struct, is_true}
use Rattle.scan_values.specs.Val.{Val, is_clean, read_marked}
use Rattle.scan_expr.specs.Bound.{Bound, bound_of}
use Rattle.scan_expr.specs.Eval.{eval}
use Rattle.scan_expr.specs.Expr.{Expr, filter_conjuncts}
use Rattle.scan_expr.specs.Overflow.{overflows}
use Rattle.scan_expr.specs.declared.request.ScanRequest.{ScanRequest}
use Rattle.scan_segments.specs.Source.{Store}
use Rattle.scan_layout.specs.Layout.{Layout}
use Rattle.scan_layout.specs.RowValue.{row_value}
use Rattle.scan_file.specs.FileAsks.{FileAsk, ask_conjuncts, given_dtype}
use Rattle.scan_readers.specs.Readers.{numbers_alone}
use Rattle.scan_file.specs.FileRows.{unless_lost}
use Rattle.scan_file.specs.Parts.{ask_turn, file_rows, is_damaged, is_lost, overflows_in, passes, row_of, rows_given, spills, split_rows}
use Rattle.scan_multi.specs.Answer.{Item, drops, finding, row_items, spills_at}
use Rattle.scan_multi.specs.Asked.{AgreesTo, ask_of, clean_value, item_from}
use Rattle.scan_multi.proofs.Agreeing.{Each, agrees_rows}

-- ---- tests on lists
or_false : (a b : Bool) → (a || b) ≡ false → (a ≡ false) × (b ≡ false)
or_false true b h = cc
or_false false b h = (refl, h)

any_append : {A : Type 0} (q : A → Bool) (xs ys : List A) → list_any q (xs ++ ys) ≡ (list_any q xs || list_any q ys)
any_append q [] ys = refl
any_append q (x ∷ xs) ys = ap (λ b. q x || b) (any_append q xs ys) ∙ assoc (q x)
  where
    assoc : (a : Bool) → (a || (list_any q xs || list_any q ys)) ≡ ((a || list_any q xs) || list_any q ys)
    assoc true = refl
    assoc false = refl

all_append : {A : Type 0} (q : A → Bool) (xs ys : List A) → list_all q (xs ++ ys) ≡ (list_all q xs && list_all q ys)
all_append q [] ys = refl
all_append q (x ∷ xs) ys = ap (λ b. q x && b) (all_append q xs ys) ∙ assoc (q x)
  where
    assoc : (a : Bool) → (a && (list_all q xs && list_all q ys)) ≡ ((a && list_all q xs) && list_all q ys)
    assoc true = refl
    assoc false = refl

-- a test on those that pass another, and on those that don't, is the test on all
module _ {A : Type 0} (q t : A → Bool) where
  or_left : (a b c : Bool) → ((a || b) || c) ≡ (a || (b || c))
  or_left true b c = refl
  or_left false b c = refl

  or_swap : (a b c : Bool) → (b || (a || c)) ≡ (a || (b || c))
  or_swap true true c = refl
  or_swap true false c = refl
  or_swap false true c = refl
  or_swap false false c = refl

  any_parts : (xs : List A) → (list_any q (filter t xs) || list_any q (filter (λ x. not (t x)) xs)) ≡ list_any q xs
  any_parts [] = refl
  any_parts (x ∷ xs) = here (t x) (any_parts xs)
    where
      here : (b : Bool) → (list_any q (filter t xs) || list_any q (filter (λ y. not (t y)) xs)) ≡ list_any q xs
          → (list_any q (if b then x ∷ filter t xs else filter t xs) || list_any q (if not b then x ∷ filter (λ y. not (t y)) xs else filter (λ y. not (t y)) xs)) ≡ (q x || list_any q xs)
      here true e = or_left (q x) (list_any q (filter t xs)) (list_any q (filter (λ y. not (t y)) xs)) ∙ ap (λ b. q x || b) e
      here false e = or_swap (q x) (list_any q (filter t xs)) (list_any q (filter (λ y. not (t y)) xs)) ∙ ap (λ b. q x || b) e

  pub any_turn : (xs : List A) → list_any q (filter t xs ++ filter (λ x. not (t x)) xs) ≡ list_any q xs
  any_turn xs = any_append q (filter t xs) (filter (λ x. not (t x)) xs) ∙ any_parts xs

  and_left : (a b c : Bool) → ((a && b) && c) ≡ (a && (b && c))
  and_left true b c = refl
  and_left false b c = refl

  and_swap : (a b c : Bool) → (b && (a && c)) ≡ (a && (b && c))
  and_swap true true c = refl
  and_swap true false c = refl
  and_swap false true c = refl
  and_swap false false c = refl

  all_parts : (xs : List A) → (list_all q (filter t xs) && list_all q (filter (λ x. not (t x)) xs)) ≡ list_all q xs
  all_parts [] = refl
  all_parts (x ∷ xs) = here (t x) (all_parts xs)
    where
      here : (b : Bool) → (list_all q (filter t xs) && list_all q (filter (λ y. not (t y)) xs)) ≡ list_all q xs
          → (list_all q (if b then x ∷ filter t xs else filter t xs) && list_all q (if not b then x ∷ filter (λ y. not (t y)) xs else filter (λ y. not (t y)) xs)) ≡ (q x && list_all q xs)
      here true e = and_left (q x) (list_all q (filter t xs)) (list_all q (filter (λ y. not (t y)) xs)) ∙ ap (λ b. q x && b) e
      here false e = and_swap (q x) (list_all q (filter t xs)) (list_all q (filter (λ y. not (t y)) xs)) ∙ ap (λ b. q x && b) e

  pub all_turn : (xs : List A) → list_all q (filter t xs ++ filter (λ x. not (t x)) xs) ≡ list_all q xs
  all_turn xs = all_append q (filter t xs) (filter (λ x. not (t x)) xs) ∙ all_parts xs

any_map : {A B : Type 0} (q : B → Bool) (f : A → B) (xs : List A) → list_any q (map f xs) ≡ list_any (λ x. q (f x)) xs
any_map q f [] = refl
any_map q f (x ∷ xs) = ap (λ b. q (f x) || b) (any_map q f xs)

all_map : {A B : Type 0} (q : B → Bool) (f : A → B) (xs : List A) → list_all q (map f xs) ≡ list_all (λ x. q (f x)) xs
all_map q f [] = refl
all_map q f (x ∷ xs) = ap (λ b. q (f x) && b) (all_map q f xs)

-- ---- a test that holds at no number
none_each : (q : ℕ → Bool) (is : List ℕ) → list_any q is ≡ false → Each (λ i. q i ≡ false) is
none_each q [] h = tt
none_each q (i ∷ is) h = let p = or_false (q i) (list_any q is) h in (p.0, none_each q is p.1)

each_both : (P Q : ℕ → Type 0) (is : List ℕ) → Each P is → Each Q is → Each (λ i. P i × Q i) is
each_both P Q [] p q = tt
each_both P Q (i ∷ is) p q = ((p.0, q.0), each_both P Q is p.1 q.1)

pub each_map : (P Q : ℕ → Type 0) → ((i : ℕ) → P i → Q i) → (is : List ℕ) → Each P is → Each Q is
each_map P Q f [] h = tt
each_map P Q f (i ∷ is) h = (f i h.0, each_map P Q f is h.1)

and_false : (a b : Bool) → a ≡ true → (a && b) ≡ false → b ≡ false
and_false true b h k = k
and_false false b h k = cc

not_not : (b : Bool) → not b ≡ false → b ≡ true
not_not true h = refl
not_not false h = cc

-- ---- what a conjunct may come to
-- true, or dropping its row, or not clean
abbrev pub is_judged : Marked → Bool
is_judged m = is_true m || (drops m || not (is_clean m))

true_clean : (m : Marked) → is_true m ≡ true → is_clean m ≡ true
true_clean lost h = cc
true_clean null h = cc
true_clean gone h = cc
true_clean (boolean b) h = refl
true_clean (integer z) h = cc
true_clean (text s) h = cc
true_clean (list ms) h = cc
true_clean (struct ms) h = cc

true_stays : (m : Marked) → is_true m ≡ true → drops m ≡ false
true_stays lost h = cc
true_stays null h = cc
true_stays gone h = cc
true_stays (boolean b) h = ap not h
true_stays (integer z) h = cc
true_stays (text s) h = cc
true_stays (list ms) h = cc
true_stays (struct ms) h = cc

judged_drops : (m : Marked) → is_judged m ≡ true → is_clean m ≡ true → is_true m ≡ false → drops m ≡ true
judged_drops m j c t = go (is_true m) (drops m) (is_clean m) j c t
  where
    go : (a b k : Bool) → (a || (b || not k)) ≡ true → k ≡ true → a ≡ false → b ≡ true
    go true b k j c t = cc
    go false true k j c t = refl
    go false false true j c t = cc
    go false false false j c t = cc

module _ (a : FileAsk) (l : Layout) (store : Store) where
  -- in turn, conjuncts that are evaluated are clean and don't overflow; where all are true, the projection doesn't either
  abbrev pub Turned : List Bound → ℕ → Type 0
  Turned [] i = overflows_in a l store a.projection i ≡ false
  Turned (c ∷ cs) i = (is_clean (row_of a l store c i) ≡ true) × (overflows_in a l store c i ≡ false) × (is_true (row_of a l store c i) ≡ true → Turned cs i)

  -- where no conjunct is damaged and nothing overflows in turn
  turned_at : (cs : List Bound) (i : ℕ) → is_damaged a l store cs i ≡ false → spills a l store cs i ≡ false → Turned cs i
  turned_at [] i h k = k
  turned_at (c ∷ cs) i h k =
      let p = or_false (not (is_clean (row_of a l store c i))) (is_true (row_of a l store c i) && is_damaged a l store cs i) h in
      let q = or_false (overflows_in a l store c i) (is_true (row_of a l store c i) && spills a l store cs i) k in
      (not_not (is_clean (row_of a l store c i)) p.0, q.0, λ t. turned_at cs i (and_false (is_true (row_of a l store c i)) (is_damaged a l store cs i) t p.1) (and_false (is_true (row_of a l store c i)) (spills a l store cs i) t q.1))

  each_turned : (cs : List Bound) (is : List ℕ) → list_any (is_damaged a l store cs) is ≡ false → list_any (spills a l store cs) is ≡ false → Each (Turned cs) is
  each_turned cs is h k =
      each_map (λ i. (is_damaged a l store cs i ≡ false) × (spills a l store cs i ≡ false)) (Turned cs) (λ i e. turned_at cs i e.0 e.1) is
      (each_both (λ i. is_damaged a l store cs i ≡ false) (λ i. spills a l store cs i ≡ false) is (none_each (is_damaged a l store cs) is h) (none_each (spills a l store cs) is k))

  -- where all conjuncts are true, nothing overflows
  turned_calm : (cs : List Bound) (i : ℕ) → Turned cs i → list_all (λ c. is_true (row_of a l store c i)) cs ≡ true
      → (list_any (λ c. overflows_in a l store c i) cs ≡ false) × (overflows_in a l store a.projection i ≡ false)
  turned_calm [] i h k = (refl, h)
  turned_calm (c ∷ cs) i h k = go (is_true (row_of a l store c i)) refl k (turned_calm cs i)
    where
      go : (b : Bool) → is_true (row_of a l store c i) ≡ b → (b && list_all (λ x. is_true (row_of a l store x i)) cs) ≡ true
          → (Turned cs i → list_all (λ x. is_true (row_of a l store x i)) cs ≡ true → (list_any (λ x. overflows_in a l store x i) cs ≡ false) × (overflows_in a l store a.projection i ≡ false))
          → ((overflows_in a l store c i || list_any (λ x. overflows_in a l store x i) cs) ≡ false) × (overflows_in a l store a.projection i ≡ false)
      go true e k on = let r = on (h.2 e) k in (ap (λ b. b || list_any (λ x. overflows_in a l store x i) cs) h.1 ∙ r.0, r.1)
      go false e k on = cc

  -- else some conjunct drops the row
  turned_drops : (cs : List Bound) (i : ℕ) → Turned cs i → list_all (λ c. is_judged (row_of a l store c i)) cs ≡ true → list_all (λ c. is_true (row_of a l store c i)) cs ≡ false
      → list_any (λ c. drops (row_of a l store c i)) cs ≡ true
  turned_drops [] i h j k = cc
  turned_drops (c ∷ cs) i h j k =
      go (is_true (row_of a l store c i)) refl k (and_true (is_judged (row_of a l store c i)) (list_all (λ x. is_judged (row_of a l store x i)) cs) j) (turned_drops cs i)
    where
      and_true : (x y : Bool) → (x && y) ≡ true → (x ≡ true) × (y ≡ true)
      and_true true y e = (refl, e)
      and_true false y e = cc

      or_true : (x y : Bool) → y ≡ true → (x || y) ≡ true
      or_true true y e = refl
      or_true false y e = e

      go : (b : Bool) → is_true (row_of a l store c i) ≡ b → (b && list_all (λ x. is_true (row_of a l store x i)) cs) ≡ false → (is_judged (row_of a l store c i) ≡ true) × (list_all (λ x. is_judged (row_of a l store x i)) cs ≡ true)
          → (Turned cs i → list_all (λ x. is_judged (row_of a l store x i)) cs ≡ true → list_all (λ x. is_true (row_of a l store x i)) cs ≡ false → list_any (λ x. drops (row_of a l store x i)) cs ≡ true)
          → (drops (row_of a l store c i) || list_any (λ x. drops (row_of a l store x i)) cs) ≡ true
      go true e k j on = or_true (drops (row_of a l store c i)) (list_any (λ x. drops (row_of a l store x i)) cs) (on (h.2 e) j.1 k)
      go false e k j on = ap (λ b. b || list_any (λ x. drops (row_of a l store x i)) cs) (judged_drops (row_of a l store c i) j.0 h.0 e)

-- ---- the conjuncts of a request
pub conjuncts_are : (d : DataType) (request : ScanRequest) → ask_conjuncts (ask_of d request) ≡ map (bound_of d) (filter_conjuncts request.filter)
conjuncts_are d request = go request.filter
  where
    go : (f : Option Expr) → ask_conjuncts (ask_of d (record request { filter = f })) ≡ map (bound_of d) (filter_conjuncts f)
    go None = refl
    go (Some e) = refl

module _ (d : DataType) (request : ScanRequest) (file : ℕ) (l : Layout) (store : Store) where
  -- the values of the conjuncts at a row
  abbrev pub tests : ℕ → List Marked
  tests i = map (λ e. eval d e (row_value l store i) i) (filter_conjuncts request.filter)

  -- in turn or as they are written
  pub any_conjunct : (q : Marked → Bool) (i : ℕ) → list_any (λ c. q (row_of (ask_of d request) l store c i)) (ask_turn (ask_of d request) l) ≡ list_any q (tests i)
  any_conjunct q i =
      any_turn (λ (c : Bound). q (row_of (ask_of d request) l store c i)) (λ (c : Bound). numbers_alone (file_rows l) c.expr) (ask_conjuncts (ask_of d request))
      ∙ ap (list_any (λ (c : Bound). q (row_of (ask_of d request) l store c i))) (conjuncts_are d request)
      ∙ any_map (λ (c : Bound). q (row_of (ask_of d request) l store c i)) (bound_of d) (filter_conjuncts request.filter)
      ∙ sym (any_map q (λ e. eval d e (row_value l store i) i) (filter_conjuncts request.filter))

  pub all_conjuncts : (q : Marked → Bool) (i : ℕ) → list_all (λ c. q (row_of (ask_of d request) l store c i)) (ask_turn (ask_of d request) l) ≡ list_all q (tests i)
  all_conjuncts q i =
      all_turn (λ (c : Bound). q (row_of (ask_of d request) l store c i)) (λ (c : Bound). numbers_alone (file_rows l) c.expr) (ask_conjuncts (ask_of d request))
      ∙ ap (list_all (λ (c : Bound). q (row_of (ask_of d request) l store c i))) (conjuncts_are d request)
      ∙ all_map (λ (c : Bound). q (row_of (ask_of d request) l store c i)) (bound_of d) (filter_conjuncts request.filter)
      ∙ sym (all_map q (λ e. eval d e (row_value l store i) i) (filter_conjuncts request.filter))

  any_spills : (i : ℕ) → list_any (λ c. overflows_in (ask_of d request) l store c i) (ask_turn (ask_of d request) l) ≡ list_any (λ e. overflows d e (row_value l store i) i) (filter_conjuncts request.filter)
  any_spills i =
      any_turn (λ (c : Bound). overflows_in (ask_of d request) l store c i) (λ (c : Bound). numbers_alone (file_rows l) c.expr) (ask_conjuncts (ask_of d request))
      ∙ ap (list_any (λ (c : Bound). overflows_in (ask_of d request) l store c i)) (conjuncts_are d request)
      ∙ any_map (λ (c : Bound). overflows_in (ask_of d request) l store c i) (bound_of d) (filter_conjuncts request.filter)

  pub passes_are : (i : ℕ) → passes (ask_of d request) l store i ≡ list_all is_true (tests i)
  passes_are i =
      ap (list_all (λ (c : Bound). is_true (row_of (ask_of d request) l store c i))) (conjuncts_are d request)
      ∙ all_map (λ (c : Bound). is_true (row_of (ask_of d request) l store c i)) (bound_of d) (filter_conjuncts request.filter)
      ∙ sym (all_map is_true (λ e. eval d e (row_value l store i) i) (filter_conjuncts request.filter))

  all_clean : (ms : List Marked) → list_all is_true ms ≡ true → list_all is_clean ms ≡ true
  all_clean [] h = refl
  all_clean (m ∷ ms) h = go (is_true m) refl h (all_clean ms)
    where
      go : (b : Bool) → is_true m ≡ b → (b && list_all is_true ms) ≡ true → (list_all is_true ms ≡ true → list_all is_clean ms ≡ true) → (is_clean m && list_all is_clean ms) ≡ true
      go true e k on = ap (λ b. b && list_all is_clean ms) (true_clean m e) ∙ on k
      go false e k on = cc

  none_drop : (ms : List Marked) → list_all is_true ms ≡ true → list_any drops ms ≡ false
  none_drop [] h = refl
  none_drop (m ∷ ms) h = go (is_true m) refl h (none_drop ms)
    where
      go : (b : Bool) → is_true m ≡ b → (b && list_all is_true ms) ≡ true → (list_all is_true ms ≡ true → list_any drops ms ≡ false) → (drops m || list_any drops ms) ≡ false
      go true e k on = ap (λ b. b || list_any drops ms) (true_stays m e) ∙ on k
      go false e k on = cc

  -- the item of a row
  abbrev pub at_row : ℕ → Option Val → Item
  at_row i v = record { file = file; row = i; value = v }

  -- what a row gives where all conjuncts are true and nothing overflows, and where some conjunct drops it
  passed_item : (i : ℕ) → list_all is_true (tests i) ≡ true → spills_at d request i (row_value l store i) ≡ false
      → row_items d request file l store i ≡ item_from (file, (i, (given_dtype (ask_of d request), eval d request.projection (row_value l store i) i))) ∷ []
  passed_item i t s =
      let value : Marked = eval d request.projection (row_value l store i) i in
      let whole : finding (tests i) value ≡ clean_value value = ap (λ b. cond (b && is_clean value) (Some (read_marked value)) None) (all_clean (tests i) t) in
      let found : cond (spills_at d request i (row_value l store i)) None (finding (tests i) value) ≡ clean_value value = ap (λ b. cond b None (finding (tests i) value)) s ∙ whole in
      ap (λ b. map (at_row i) (cond b [] (cond (spills_at d request i (row_value l store i)) None (finding (tests i) value) ∷ []))) (none_drop (tests i) t)
      ∙ ap (λ v. at_row i v ∷ []) found

  dropped_item : (i : ℕ) → list_any drops (tests i) ≡ true → row_items d request file l store i ≡ []
  dropped_item i t =
      ap (λ b. map (at_row i) (cond b [] (cond (spills_at d request i (row_value l store i)) None (finding (tests i) (eval d request.projection (row_value l store i) i)) ∷ []))) t

  module _ (judges : (i : ℕ) → list_all is_judged (tests i) ≡ true) where
    row_is : (i : ℕ) → Turned (ask_of d request) l store (ask_turn (ask_of d request) l) i
        → row_items d request file l store i ≡ (if passes (ask_of d request) l store i then item_from (file, (i, (given_dtype (ask_of d request), row_of (ask_of d request) l store (ask_of d request).projection i))) ∷ [] else [])
    row_is i turned = go (passes (ask_of d request) l store i) refl
      where
        turn : List Bound
        turn = ask_turn (ask_of d request) l

        go : (b : Bool) → passes (ask_of d request) l store i ≡ b
            → row_items d request file l store i ≡ (if b then item_from (file, (i, (given_dtype (ask_of d request), row_of (ask_of d request) l store (ask_of d request).projection i))) ∷ [] else [])
        go true e =
            let all : list_all is_true (tests i) ≡ true = sym (passes_are i) ∙ e in
            let calm = turned_calm (ask_of d request) l store turn i turned (all_conjuncts is_true i ∙ all) in
            let spills : spills_at d request i (row_value l store i) ≡ false = ap (λ b. b || overflows d request.projection (row_value l store i) i) (sym (any_spills i) ∙ calm.0) ∙ calm.1 in
            passed_item i all spills
        go false e =
            let some : list_all is_true (tests i) ≡ false = sym (passes_are i) ∙ e in
            let drop = turned_drops (ask_of d request) l store turn i turned (all_conjuncts is_judged i ∙ judges i) (all_conjuncts is_true i ∙ some) in
            dropped_item i (sym (any_conjunct drops i) ∙ drop)

    -- the rows of a split are its items, unless it is damaged or overflows
    pub split_agrees : (is : List ℕ) → AgreesTo (map (λ x. (file, x)) (split_rows (ask_of d request) l store is)) (flat_map (row_items d request file l store) is)
    split_agrees is = go (is_lost (ask_of d request) l store is) refl
      where
        turn : List Bound
        turn = ask_turn (ask_of d request) l

        go : (b : Bool) → is_lost (ask_of d request) l store is ≡ b
            → AgreesTo (map (λ x. (file, x)) (unless_lost b (given_dtype (ask_of d request)) (rows_given (ask_of d request) l store is))) (flat_map (row_items d request file l store) is)
        go true e = λ c. cc
        go false e =
            let p = or_false (list_any (is_damaged (ask_of d request) l store turn) is) (list_any (spills (ask_of d request) l store turn) is) e in
            agrees_rows file (given_dtype (ask_of d request)) (passes (ask_of d request) l store) (row_of (ask_of d request) l store (ask_of d request).projection) (row_items d request file l store) is
            (each_map (Turned (ask_of d request) l store turn) (λ i. row_items d request file l store i ≡ (if passes (ask_of d request) l store i then item_from (file, (i, (given_dtype (ask_of d request), row_of (ask_of d request) l store (ask_of d request).projection i))) ∷ [] else []))
            row_is is (each_turned (ask_of d request) l store turn is p.0 p.1))
