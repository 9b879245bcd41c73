-- Groups of a drive, each beside the items that it stands for, and what is given of such groups in no order.
use Rattle.std.proofs.Common.{◌≡◌, ◌≢◌, ◌<◌, ◌≤◌, ◌+◌, ℕ, zero, suc, List, [], ◌∷◌, ◌++◌, append_assoc, drop, length, length-append, length-take, map, take, Option, None, Some, IsPermutation, inl, inr, refl, sym, ap, subst, ◌∙◌, arith}
use Rattle.std.specs.Prelude.{◌⊎◌, All, Contains, min}
use Rattle.std.specs.List.{flat_map}
use Rattle.std.proofs.lemmas.Bool.{cases_lt}
use Rattle.std.proofs.lemmas.Grind.{flat_map-append}
use Rattle.std.proofs.lemmas.List.{map-append, take-append-drop}
use Rattle.std.proofs.lemmas.List.Elements.{All-cons, All-nil}
use Rattle.std.proofs.lemmas.List.Sorted.{Contains-permutation, IsPermutation-append_comm, IsPermutation-append_left, IsPermutation-cons, IsPermutation-refl, IsPermutation-trans}
use Rattle.scan_drive.specs.Files as drive
use Rattle.scan_drive.specs.Grants.{AreFronts, AreSome, IsFront}
use Rattle.scan_drive.proofs.Same.{along_permutation, rows_any, rows_append, rows_cut}
use Rattle.scan_multi.specs.Answer.{Item}
use Rattle.scan_multi.specs.Asked.{AgreesTo, AreClean, Row, item_from, items_from}
use Rattle.scan_multi.specs.Chunks.{IsFrontOf}
use Rattle.scan_multi.specs.Output.{limited}
use Rattle.scan_multi.proofs.Agreeing.{agrees_all, agrees_front}
use Rattle.scan_multi.proofs.Cuts.{clean_parts, group_items, items_append}
use Rattle.scan_multi.proofs.Members.{In, In-from, In-left, In-to}
use Rattle.scan_multi.proofs.Reached.{counted, length_mapped, placed_length}
use Rattle.scan_multi.proofs.Subs.{IsSub, sub_before, sub_front, sub_long, sub_skip}

-- the items of lists, one after the other
abbrev pub joined : List (List Item) → List Item
joined = flat_map (λ xs. xs)

-- ---- what holds of the rows of groups in one order holds of those in another
module _ (P : List Row → Type 0) (both : (xs ys : List Row) → P xs → P ys → P (xs ++ ys)) (parts : (xs ys : List Row) → P (xs ++ ys) → P xs × P ys) where
  under : (g : drive.Group drive.Item) (gs hs : List (drive.Group drive.Item)) → (P (drive.flattened gs) → P (drive.flattened hs)) → P (drive.flattened (g ∷ gs)) → P (drive.flattened (g ∷ hs))
  under g gs hs f h = let p = parts (drive.placed g) (drive.flattened gs) h in both (drive.placed g) (drive.flattened hs) p.0 (f p.1)

  turn : (g h : drive.Group drive.Item) (gs : List (drive.Group drive.Item)) → P (drive.flattened (g ∷ h ∷ gs)) → P (drive.flattened (h ∷ g ∷ gs))
  turn g h gs k =
      let p = parts (drive.placed g) (drive.placed h ++ drive.flattened gs) k in
      let q = parts (drive.placed h) (drive.flattened gs) p.1 in
      both (drive.placed h) (drive.placed g ++ drive.flattened gs) q.0 (both (drive.placed g) (drive.flattened gs) p.0 q.1)

  pub rows_alike : (gs hs : List (drive.Group drive.Item)) → IsPermutation gs hs → P (drive.flattened gs) → P (drive.flattened hs)
  rows_alike = along_permutation (λ gs hs. P (drive.flattened gs) → P (drive.flattened hs)) (λ gs h. h) under turn (λ gs hs ks f g h. g (f h))

clean_both : (xs ys : List Row) → AreClean xs → AreClean ys → AreClean (xs ++ ys)
clean_both [] ys h k = k
clean_both (x ∷ xs) ys h k = (h.0, clean_both xs ys h.1 k)

-- clean groups in another order
pub clean_alike : (gs hs : List (drive.Group drive.Item)) → IsPermutation gs hs → AreClean (drive.flattened gs) → AreClean (drive.flattened hs)
clean_alike = rows_alike AreClean clean_both clean_parts

-- ---- groups, each beside some items
-- the rows of each group are its items, up to the first row that is not clean
abbrev pub AgreeEach : List (drive.Group drive.Item) → List (List Item) → Type 0
AgreeEach [] [] = Unit {0}
AgreeEach [] (p ∷ ps) = ⊥
AgreeEach (g ∷ gs) [] = ⊥
AgreeEach (g ∷ gs) (p ∷ ps) = AgreesTo (drive.placed g) p × AgreeEach gs ps

pub each_append : (gs hs : List (drive.Group drive.Item)) (ps qs : List (List Item)) → AgreeEach gs ps → AgreeEach hs qs → AgreeEach (gs ++ hs) (ps ++ qs)
each_append [] hs [] qs h k = k
each_append [] hs (p ∷ ps) qs h k = absurd h
each_append (g ∷ gs) hs [] qs h k = absurd h
each_append (g ∷ gs) hs (p ∷ ps) qs h k = (h.0, each_append gs hs ps qs h.1 k)

-- the items of groups in another order
pub record Reordered (gs : List (drive.Group drive.Item)) (parts : List (List Item)) : Type 0 where
  pub now : List (List Item)
  pub each : AgreeEach gs now
  pub alike : IsPermutation now parts

-- whatever the items of the second groups are, the first have them in another order
abbrev Reorders : List (drive.Group drive.Item) → List (drive.Group drive.Item) → Type 0
Reorders gs hs = (parts : List (List Item)) → AgreeEach hs parts → Reordered gs parts

reorders_same : (gs : List (drive.Group drive.Item)) → Reorders gs gs
reorders_same gs parts h = record { now = parts; each = h; alike = IsPermutation-refl parts }

reorders_under : (g : drive.Group drive.Item) (gs hs : List (drive.Group drive.Item)) → Reorders gs hs → Reorders (g ∷ gs) (g ∷ hs)
reorders_under g gs hs f [] h = absurd h
reorders_under g gs hs f (p ∷ ps) h = let r = f ps h.1 in record { now = p ∷ r.now; each = (h.0, r.each); alike = IsPermutation-cons p r.now ps r.alike }

reorders_turn : (g h : drive.Group drive.Item) (gs : List (drive.Group drive.Item)) → Reorders (g ∷ h ∷ gs) (h ∷ g ∷ gs)
reorders_turn g h gs [] k = absurd k
reorders_turn g h gs (p ∷ []) k = absurd k.1
reorders_turn g h gs (p ∷ q ∷ ps) k = record { now = q ∷ p ∷ ps; each = (k.1.0, (k.0, k.1.1)); alike = IsPermutation-append_left ps (q ∷ p ∷ []) (p ∷ q ∷ []) (IsPermutation-append_comm (q ∷ []) (p ∷ [])) }

reorders_then : (gs hs ks : List (drive.Group drive.Item)) → Reorders gs hs → Reorders hs ks → Reorders gs ks
reorders_then gs hs ks f g parts h =
    let r = g parts h in
    let s = f r.now r.each in
    record { now = s.now; each = s.each; alike = IsPermutation-trans s.now r.now parts s.alike r.alike }

pub reordered : (gs hs : List (drive.Group drive.Item)) → IsPermutation gs hs → (parts : List (List Item)) → AgreeEach hs parts → Reordered gs parts
reordered = along_permutation Reorders reorders_same reorders_under reorders_turn reorders_then

-- the items of the first groups, and those of the others
record Halves (gs hs : List (drive.Group drive.Item)) (parts : List (List Item)) : Type 0 where
  front : List (List Item)
  rest : List (List Item)
  is : parts ≡ front ++ rest
  each_front : AgreeEach gs front
  each_rest : AgreeEach hs rest

halves : (gs hs : List (drive.Group drive.Item)) (parts : List (List Item)) → AgreeEach (gs ++ hs) parts → Halves gs hs parts
halves [] hs parts h = record { front = []; rest = parts; is = refl; each_front = tt; each_rest = h }
halves (g ∷ gs) hs [] h = absurd h
halves (g ∷ gs) hs (p ∷ ps) h =
    let r = halves gs hs ps h.1 in
    record { front = p ∷ r.front; rest = r.rest; is = ap (λ z. p ∷ z) r.is; each_front = (h.0, r.each_front); each_rest = r.each_rest }

-- ---- fronts of groups
-- the first of some items
pub record IsStart (xs p : List Item) : Type 0 where
  pub rest : List Item
  pub is : p ≡ xs ++ rest

-- each list is the first of the items beside it
abbrev pub AreStarts : List (List Item) → List (List Item) → Type 0
AreStarts [] [] = Unit {0}
AreStarts [] (p ∷ ps) = ⊥
AreStarts (xs ∷ xss) [] = ⊥
AreStarts (xs ∷ xss) (p ∷ ps) = IsStart xs p × AreStarts xss ps

front_start : (g w : drive.Group drive.Item) (p : List Item) → IsFront g w → AgreesTo (drive.placed w) p → AreClean (drive.placed g) → IsStart (group_items g) p
front_start g w p f agree clean =
    let behind : List Row = map (λ x. (w.0, x)) (drop f.most w.1) in
    let first : drive.placed g ≡ map {B = Row} (λ x. (w.0, x)) (take f.most w.1) = λ z. map (λ x. (f.file z, x)) (f.rows z) in
    let joint : drive.placed w ≡ map {B = Row} (λ x. (w.0, x)) (take f.most w.1) ++ behind =
    ap (map {B = Row} (λ x. (w.0, x))) (sym (take-append-drop f.most w.1)) ∙ map-append (λ x. (w.0, x)) (take f.most w.1) (drop f.most w.1) in
    let whole : drive.placed w ≡ drive.placed g ++ behind = joint ∙ ap (λ z. z ++ behind) (sym first) in
    let s = agrees_front (drive.placed g) behind p (subst (λ z. AgreesTo z p) whole agree) clean in
    record { rest = s.later; is = s.is }

starts_of : (gs ws : List (drive.Group drive.Item)) (ps : List (List Item)) → AreFronts gs ws → AgreeEach ws ps → AreClean (drive.flattened gs) → AreStarts (map group_items gs) ps
starts_of [] [] [] f e c = tt
starts_of [] [] (p ∷ ps) f e c = absurd e
starts_of [] (w ∷ ws) ps f e c = absurd f
starts_of (g ∷ gs) [] ps f e c = absurd f
starts_of (g ∷ gs) (w ∷ ws) [] f e c = absurd e
starts_of (g ∷ gs) (w ∷ ws) (p ∷ ps) f e c =
    let k = clean_parts (drive.placed g) (drive.flattened gs) c in
    (front_start g w p f.0 e.0 k.0, starts_of gs ws ps f.1 e.1 k.1)

starts_sub : (xss ps : List (List Item)) → AreStarts xss ps → IsSub (joined xss) (joined ps)
starts_sub [] [] h = tt
starts_sub [] (p ∷ ps) h = absurd h
starts_sub (xs ∷ xss) [] h = absurd h
starts_sub (xs ∷ xss) (p ∷ ps) h =
    let s = h.0 in
    let deep : IsSub (xs ++ joined xss) (xs ++ (s.rest ++ joined ps)) = sub_front xs (joined xss) (s.rest ++ joined ps) (sub_skip s.rest (joined xss) (joined ps) (starts_sub xss ps h.1)) in
    subst (IsSub (xs ++ joined xss)) (sym (ap (λ z. z ++ joined ps) s.is ∙ append_assoc xs s.rest (joined ps))) deep

-- the items of groups, one after the other
items_joined : (gs : List (drive.Group drive.Item)) → items_from (drive.flattened gs) ≡ joined (map group_items gs)
items_joined [] = refl
items_joined (g ∷ gs) = items_append (drive.placed g) (drive.flattened gs) ∙ ap (λ z. group_items g ++ z) (items_joined gs)

-- ---- how many there are
front_short : (g w : drive.Group drive.Item) → IsFront g w → length g.1 ≤ length w.1
front_short g w f =
    let long : length g.1 ≡ length (take f.most w.1) = ap length f.rows in
    let few : length (take f.most w.1) ≡ min f.most (length w.1) = length-take f.most w.1 in
    omega (arith, long, few)

fronts_short : (gs ws : List (drive.Group drive.Item)) → AreFronts gs ws → drive.count gs ≤ drive.count ws
fronts_short [] [] f = omega arith
fronts_short [] (w ∷ ws) f = absurd f
fronts_short (g ∷ gs) [] f = absurd f
fronts_short (g ∷ gs) (w ∷ ws) f = let a = front_short g w f.0 in let r = fronts_short gs ws f.1 in omega (arith, a, r)

take_all : {A : Type 0} (n : ℕ) (xs : List A) → length (take n xs) ≡ length xs → take n xs ≡ xs
take_all zero [] e = refl
take_all zero (x ∷ xs) e = absurd (omega (arith, e))
take_all (suc n) [] e = refl
take_all (suc n) (x ∷ xs) e = ap (λ z. x ∷ z) (take_all n xs (omega (arith, e)))

-- as many rows as there are items, where all rows of groups are given and clean
all_items : (gs ws : List (drive.Group drive.Item)) (ps : List (List Item)) → AreFronts gs ws → AgreeEach ws ps → AreClean (drive.flattened gs) → drive.count gs ≡ drive.count ws → length (joined ps) ≡ drive.count ws
all_items [] [] [] f e c n = refl
all_items [] [] (p ∷ ps) f e c n = absurd e
all_items [] (w ∷ ws) ps f e c n = absurd f
all_items (g ∷ gs) [] ps f e c n = absurd f
all_items (g ∷ gs) (w ∷ ws) [] f e c n = absurd e
all_items (g ∷ gs) (w ∷ ws) (p ∷ ps) f e c n =
    let a = front_short g w f.0 in
    let b = fronts_short gs ws f.1 in
    let here : length g.1 ≡ length w.1 = omega (arith, a, b, n) in
    let rest : drive.count gs ≡ drive.count ws = omega (arith, a, b, n) in
    let k = clean_parts (drive.placed g) (drive.flattened gs) c in
    let same : g.1 ≡ w.1 = (f.0).rows ∙ take_all (f.0).most w.1 (sym (ap length (f.0).rows) ∙ here) in
    let first : items_from (drive.placed w) ≡ p = agrees_all (drive.placed w) p e.0 (subst AreClean (λ z. drive.placed ((f.0).file z, same z)) k.0) in
    let long : length p ≡ length w.1 = ap length (sym first) ∙ length_mapped (drive.placed w) ∙ placed_length w in
    let others : length (joined ps) ≡ drive.count ws = all_items gs ws ps f.1 e.1 k.1 rest in
    let sum : length (p ++ joined ps) ≡ length p + length (joined ps) = length-append p (joined ps) in
    sum ∙ (λ z. long z + others z)

-- groups with no rows stand for no items
no_items : (gs : List (drive.Group drive.Item)) (ps : List (List Item)) → AgreeEach gs ps → drive.count gs ≡ 0 → length (joined ps) ≡ 0
no_items [] [] e n = refl
no_items [] (p ∷ ps) e n = absurd e
no_items (g ∷ gs) [] e n = absurd e
no_items ((file, []) ∷ gs) (p ∷ ps) e n = ap (λ z. length (z ++ joined ps)) e.0 ∙ no_items gs ps e.1 (omega (arith, n))
no_items ((file, x ∷ xs) ∷ gs) (p ∷ ps) e n = absurd (omega (arith, n))

-- ---- what is given of groups in no order
-- no group is without rows
abbrev pub AreFull : List (drive.Group drive.Item) → Type 0
AreFull [] = Unit {0}
AreFull ((file, []) ∷ gs) = ⊥
AreFull ((file, x ∷ xs) ∷ gs) = AreFull gs

pub full_before : (file : ℕ) (xs : List drive.Item) (gs : List (drive.Group drive.Item)) → AreFull gs → AreFull (drive.grouped file xs ++ gs)
full_before file [] gs h = h
full_before file (x ∷ xs) gs h = h

-- The clean first rows of some groups, as many as a limit allows. The items of the groups in some order: those that are
-- given stand among them, in their order, each front as the first items of one of the groups.
pub record Arranges (limit : Option ℕ) (parts : List (List Item)) (gs : List (drive.Group drive.Item)) : Type 0 where
  pub fronts : List (List Item)
  pub others : List (List Item)
  pub alike : IsPermutation (fronts ++ others) parts
  pub starts : AreStarts (map group_items gs) fronts
  pub sub : IsSub (items_from (drive.flattened gs)) (joined (fronts ++ others))
  pub many : length (items_from (drive.flattened gs)) ≡ length (limited limit (joined (fronts ++ others)))

module _ (limit : Option ℕ) (all gs : List (drive.Group drive.Item)) (parts : List (List Item)) (each : AgreeEach all parts) (is : AreSome limit all gs) (clean : AreClean (drive.flattened gs)) where
  beside : Reordered (is.whole ++ is.others) parts
  beside = reordered (is.whole ++ is.others) all is.among parts each

  cut_in_two : Halves is.whole is.others beside.now
  cut_in_two = halves is.whole is.others beside.now beside.each

  -- the items of the groups, those of which some are given first
  abbrev order : List (List Item)
  order = cut_in_two.front ++ cut_in_two.rest

  started : AreStarts (map group_items gs) cut_in_two.front
  started = starts_of gs is.whole cut_in_two.front is.fronts cut_in_two.each_front clean

  joins : joined order ≡ joined cut_in_two.front ++ joined cut_in_two.rest
  joins = flat_map-append (λ xs. xs) cut_in_two.front cut_in_two.rest

  stands : IsSub (items_from (drive.flattened gs)) (joined order)
  stands =
      subst (IsSub (items_from (drive.flattened gs))) (sym joins)
      (subst (λ z. IsSub z (joined cut_in_two.front ++ joined cut_in_two.rest)) (sym (items_joined gs))
      (sub_before (joined (map group_items gs)) (joined cut_in_two.front) (joined cut_in_two.rest) (starts_sub (map group_items gs) cut_in_two.front started)))

  items_count : length (items_from (drive.flattened gs)) ≡ drive.count gs
  items_count = length_mapped (drive.flattened gs) ∙ counted gs

  -- all rows were given
  all_given : drive.count gs ≡ drive.count all → length (joined order) ≡ drive.count gs
  all_given e =
      let short = fronts_short gs is.whole is.fronts in
      let parted : drive.count (is.whole ++ is.others) ≡ drive.count is.whole + drive.count is.others = rows_append is.whole is.others in
      let moved : drive.count (is.whole ++ is.others) ≡ drive.count all = rows_any (is.whole ++ is.others) all is.among in
      let here : drive.count gs ≡ drive.count is.whole = omega (arith, short, parted, moved, e) in
      let none : drive.count is.others ≡ 0 = omega (arith, short, parted, moved, e) in
      let first : length (joined cut_in_two.front) ≡ drive.count is.whole = all_items gs is.whole cut_in_two.front is.fronts cut_in_two.each_front clean here in
      let last : length (joined cut_in_two.rest) ≡ 0 = no_items is.others cut_in_two.rest cut_in_two.each_rest none in
      let sum : length (joined order) ≡ length (joined cut_in_two.front) + length (joined cut_in_two.rest) = ap length joins ∙ length-append (joined cut_in_two.front) (joined cut_in_two.rest) in
      omega (arith, here, first, last, sum)

  as_many : (o : Option ℕ) → drive.count gs ≡ drive.count (drive.limited o all) → length (items_from (drive.flattened gs)) ≡ length (limited o (joined order))
  as_many None e = items_count ∙ sym (all_given e)
  as_many (Some n) e = go (cases_lt n (drive.count all))
    where
      rows : drive.count gs ≡ min n (drive.count all)
      rows = e ∙ rows_cut n all

      taken : length (take n (joined order)) ≡ min n (length (joined order))
      taken = length-take n (joined order)

      go : (n < drive.count all) ⊎ (drive.count all ≤ n) → length (items_from (drive.flattened gs)) ≡ length (take n (joined order))
      go (inl l) = let long = sub_long (items_from (drive.flattened gs)) (joined order) stands in omega (arith, l, long, rows, taken, items_count)
      go (inr l) =
          let whole : drive.count gs ≡ drive.count all = omega (arith, l, rows) in
          let given = all_given whole in
          omega (arith, l, whole, given, taken, items_count)

  pub arranged : Arranges limit parts gs
  arranged = record {
    fronts = cut_in_two.front;
    others = cut_in_two.rest;
    alike = subst (λ z. IsPermutation z parts) cut_in_two.is beside.alike;
    starts = started;
    sub = stands;
    many = as_many limit is.rows;
  }

-- ---- fronts among groups
start_of : (groups : List (List Item)) (x : Item) (xs p : List Item) → IsStart (x ∷ xs) p → (p ≢ [] → In p groups) → IsFrontOf groups (x ∷ xs)
start_of groups x xs p s h =
    let some : p ≢ [] = λ e. let bad : ◌≡◌ {A = List Item} (x ∷ xs ++ s.rest) [] = sym s.is ∙ e in cc in
    record { rest = s.rest; among = subst (Contains groups) s.is (In-to p groups (h some)) }

starts_among : (groups : List (List Item)) (gs : List (drive.Group drive.Item)) (ps : List (List Item)) → AreStarts (map group_items gs) ps → AreFull gs → ((p : List Item) → In p ps → p ≢ [] → In p groups)
    → All (IsFrontOf groups) (map group_items gs)
starts_among groups [] ps s f h = All-nil (IsFrontOf groups)
starts_among groups ((file, []) ∷ gs) ps s f h = absurd f
starts_among groups ((file, x ∷ xs) ∷ gs) [] s f h = absurd s
starts_among groups ((file, x ∷ xs) ∷ gs) (p ∷ ps) s f h =
    All-cons (IsFrontOf groups) (group_items (file, x ∷ xs)) (map group_items gs)
    (start_of groups (item_from (file, x)) (group_items (file, xs)) p s.0 (h p (inl refl)))
    (starts_among groups gs ps s.1 f (λ q i. h q (inr i)))

-- each group that is given is a front of one of some groups, among which are the items of all that are not empty
pub fronts_among : (limit : Option ℕ) (parts : List (List Item)) (gs : List (drive.Group drive.Item)) → Arranges limit parts gs → AreFull gs → (groups : List (List Item)) → ((p : List Item) → In p parts → p ≢ [] → In p groups)
    → All (IsFrontOf groups) (map group_items gs)
fronts_among limit parts gs r full groups h =
    starts_among groups gs r.fronts r.starts full
    (λ p i. h p (In-from p parts (Contains-permutation (r.fronts ++ r.others) parts p r.alike (In-to p (r.fronts ++ r.others) (In-left p r.fronts r.others i)))))
