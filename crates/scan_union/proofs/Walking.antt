-- The opening of the files, one after another.
use Rattle.std.proofs.Common.{◌≡◌, inl, inr, ℕ, suc, ◌<◌, ◌≤◌, ◌+◌, List, [], ◌∷◌, ◌++◌, length, set, arith, refl, sym, subst, ap, ◌∙◌, Option, None, get_or, append_assoc, length-append}
use Rattle.std.proofs.lemmas.List.{append-nil}
use Rattle.std.specs.declared.ops.Range.{Range}
use Rattle.scan_values.specs.DataType.{DataType}
use Rattle.scan_segments.specs.Source.{SourceState}
use Rattle.scan_opener.specs.Opener.{Given, OpenerState}
use Rattle.scan_drive.specs.declared.files.ScanFile.{ScanFile}
use Rattle.scan_multi.specs.Checks.{rows_given}
use Rattle.scan_widened.specs.Faults.{given_fault, PolledToEnd, IsFileFault}
use Rattle.scan_union.specs.Opens.{OpensFile, IsFileStop}
use Rattle.scan_union.specs.Seats.{IsSeat, Pairs, IsPolledFile, IsOpenedFile, OpensFront, AreSeated, Seated, IsOpenFault, rows_all}
use Rattle.scan_union.specs.Under.{of_file}
use Rattle.scan_union.specs.declared.fault.UnionFault.{UnionFault}
use Rattle.scan_union.specs.declared.seat.Seat.{Seat}

-- ---- lists at a seam
at_seam : {A : Type 0} (xs : List A) (y : A) (ys : List A) (d : A) → get_or (xs ++ y ∷ ys) (length xs) d ≡ y
at_seam [] y ys d = refl
at_seam (x ∷ xs) y ys d = at_seam xs y ys d

set_seam : {A : Type 0} (xs : List A) (y z : A) (ys : List A) → set (xs ++ y ∷ ys) (length xs) z ≡ xs ++ z ∷ ys
set_seam [] y z ys = refl
set_seam (x ∷ xs) y z ys = ap (λ zs. x ∷ zs) (set_seam xs y z ys)

module _ {O S : Type 0} (opener : O → OpenerState) (source : S → SourceState) (d : DataType) (range : Option (Range ℕ)) where
  -- one more file
  seated_more : (place before : ℕ) (old mid : List (ScanFile O S)) (gs : List Given) (ss : List Seat) (f t : ScanFile O S) (g : Given) (s : Seat) → AreSeated opener source d range place before old mid gs ss
      → IsOpenedFile opener source f t g → given_fault d range (before + rows_all gs) g ≡ None → IsSeat d (place + length old) g s
      → AreSeated opener source d range place before (old ++ f ∷ []) (mid ++ t ∷ []) (gs ++ g ∷ []) (ss ++ s ∷ [])
  seated_more place before [] [] [] [] f t g s h o sound seat =
      (o, subst (λ n. given_fault d range n g ≡ None) (let e : before + 0 ≡ before = omega arith in e) sound, subst (λ n. IsSeat d n g s) (let e : place + 0 ≡ place = omega arith in e) seat, tt)
  seated_more place before [] [] [] (x ∷ ss) f t g s h o sound seat = absurd h
  seated_more place before [] [] (x ∷ gs) ss f t g s h o sound seat = absurd h
  seated_more place before [] (x ∷ ts) gs ss f t g s h o sound seat = absurd h
  seated_more place before (x ∷ fs) [] gs ss f t g s h o sound seat = absurd h
  seated_more place before (x ∷ fs) (y ∷ ts) [] ss f t g s h o sound seat = absurd h
  seated_more place before (x ∷ fs) (y ∷ ts) (z ∷ gs) [] f t g s h o sound seat = absurd h
  seated_more place before (x ∷ fs) (y ∷ ts) (z ∷ gs) (w ∷ ss) f t g s h o sound seat = (
    h.0,
    h.1,
    h.2,
    seated_more (place + 1) (before + rows_given z) fs ts gs ss f t g s h.3 o
        (subst (λ n. given_fault d range n g ≡ None) (let e : before + (rows_given z + rows_all gs) ≡ before + rows_given z + rows_all gs = omega arith in e) sound)
        (subst (λ n. IsSeat d n g s) (let e : place + suc (length fs) ≡ place + 1 + length fs = omega arith in e) seat),
  )

  rows_more : (gs : List Given) (g : Given) → rows_all (gs ++ g ∷ []) ≡ rows_all gs + rows_given g
  rows_more [] g = omega arith
  rows_more (x ∷ gs) g = let more = rows_more gs g in omega (arith, more)

  pairs_of : (place before : ℕ) (old mid : List (ScanFile O S)) (gs : List Given) (ss : List Seat) → AreSeated opener source d range place before old mid gs ss → Pairs (IsPolledFile opener source) old mid
  pairs_of place before [] [] [] [] h = tt
  pairs_of place before [] [] [] (x ∷ ss) h = absurd h
  pairs_of place before [] [] (x ∷ gs) ss h = absurd h
  pairs_of place before [] (x ∷ ts) gs ss h = absurd h
  pairs_of place before (x ∷ fs) [] gs ss h = absurd h
  pairs_of place before (x ∷ fs) (y ∷ ts) [] ss h = absurd h
  pairs_of place before (x ∷ fs) (y ∷ ts) (z ∷ gs) [] h = absurd h
  pairs_of place before (x ∷ fs) (y ∷ ts) (z ∷ gs) (w ∷ ss) h = ((h.0).polled, pairs_of (place + 1) (before + rows_given z) fs ts gs ss h.3)

  pairs_more : (xs ys : List (ScanFile O S)) (f t : ScanFile O S) → Pairs (IsPolledFile opener source) xs ys → IsPolledFile opener source f t → Pairs (IsPolledFile opener source) (xs ++ f ∷ []) (ys ++ t ∷ [])
  pairs_more [] [] f t h p = (p, tt)
  pairs_more [] (y ∷ ys) f t h p = absurd h
  pairs_more (x ∷ xs) [] f t h p = absurd h
  pairs_more (x ∷ xs) (y ∷ ys) f t h p = (h.0, pairs_more xs ys f t h.1 p)

  seated_count : (place before : ℕ) (old mid : List (ScanFile O S)) (gs : List Given) (ss : List Seat) → AreSeated opener source d range place before old mid gs ss → length mid ≡ length old
  seated_count place before [] [] [] [] h = refl
  seated_count place before [] [] [] (x ∷ ss) h = absurd h
  seated_count place before [] [] (x ∷ gs) ss h = absurd h
  seated_count place before [] (x ∷ ts) gs ss h = absurd h
  seated_count place before (x ∷ fs) [] gs ss h = absurd h
  seated_count place before (x ∷ fs) (y ∷ ts) [] ss h = absurd h
  seated_count place before (x ∷ fs) (y ∷ ts) (z ∷ gs) [] h = absurd h
  seated_count place before (x ∷ fs) (y ∷ ts) (z ∷ gs) (w ∷ ss) h = ap suc (seated_count (place + 1) (before + rows_given z) fs ts gs ss h.3)

  -- so many of the files were opened
  pub record Walk (old now : List (ScanFile O S)) (seats : List Seat) (i rows : ℕ) : Type 0 where
    pub front : List (ScanFile O S)
    pub opened : List (ScanFile O S)
    pub given : List Given
    pub rest : List (ScanFile O S)
    pub before : old ≡ front ++ rest
    pub after : now ≡ opened ++ rest
    pub many : length front ≡ i
    pub sum : rows ≡ rows_all given
    pub seated : AreSeated opener source d range 0 0 front opened given seats

  pub walk_none : (old : List (ScanFile O S)) → Walk old old [] 0 0
  walk_none old = record { front = []; opened = []; given = []; rest = old; before = refl; after = refl; many = refl; sum = refl; seated = tt }

  pub walk_front : (old now : List (ScanFile O S)) (seats : List Seat) (i rows : ℕ) → Walk old now seats i rows → OpensFront opener source old now
  walk_front old now seats i rows w = record { front = w.front; opened = w.opened; rest = w.rest; before = w.before; after = w.after; polled = pairs_of 0 0 w.front w.opened w.given seats w.seated }

  pub walk_all : (old now : List (ScanFile O S)) (seats : List Seat) (i rows : ℕ) → Walk old now seats i rows → length now ≤ i → Seated opener source d range old now seats
  walk_all old now seats i rows w end = go w.rest w.before w.after
    where
      go : (rest : List (ScanFile O S)) → old ≡ w.front ++ rest → now ≡ w.opened ++ rest → Seated opener source d range old now seats
      go [] e a = (w.given, subst (λ xs. AreSeated opener source d range 0 0 xs now w.given seats) (sym (e ∙ append-nil w.front)) (subst (λ ys. AreSeated opener source d range 0 0 w.front ys w.given seats) (sym (a ∙ append-nil w.opened)) w.seated))
      go (f ∷ rest) e a =
          let n : length now ≡ length w.opened + suc (length rest) = ap length a ∙ length-append w.opened (f ∷ rest) in
          let m = seated_count 0 0 w.front w.opened w.given seats w.seated in
          let k = w.many in
          absurd (omega (arith, n, m, k, end))

  -- ---- a file that was polled
  module _ (old now : List (ScanFile O S)) (seats : List Seat) (i rows : ℕ) (w : Walk old now seats i rows) (x : ScanFile O S) (at : x ≡ get_or now i x) (lt : i < length now) (o : O)
      (polls : PolledToEnd (opener x.opener) (opener o)) where
    abbrev pub polled_file : ScanFile O S
    polled_file = record x { opener = o }

    is_polled : IsPolledFile opener source x polled_file
    is_polled = record { polls = polls; kept = refl; named = refl }

    pub record Split : Type 0 where
      pub rest : List (ScanFile O S)
      pub before : old ≡ w.front ++ x ∷ rest
      pub after : set now i polled_file ≡ w.opened ++ polled_file ∷ rest

    pub split : Split
    split = go w.rest w.before w.after
      where
        many : length w.opened ≡ i
        many = seated_count 0 0 w.front w.opened w.given seats w.seated ∙ w.many

        go : (rest : List (ScanFile O S)) → old ≡ w.front ++ rest → now ≡ w.opened ++ rest → Split
        go [] e a =
            let n : length now ≡ length w.opened = ap length (a ∙ append-nil w.opened) in
            let m : length w.opened ≡ i = seated_count 0 0 w.front w.opened w.given seats w.seated ∙ w.many in
            absurd (omega (arith, n, m, lt))
        go (f ∷ rest) e a =
            let m : length w.opened ≡ i = seated_count 0 0 w.front w.opened w.given seats w.seated ∙ w.many in
            let is : x ≡ f = at ∙ (λ k. get_or (a k) (sym m k) x) ∙ at_seam w.opened f rest x in
            record {
              rest = rest;
              before = e ∙ ap (λ y. w.front ++ y ∷ rest) (sym is);
              after = (λ k. set (a k) (sym m k) polled_file) ∙ set_seam w.opened f polled_file rest;
            }

    pub polled_front : OpensFront opener source old (set now i polled_file)
    polled_front = record {
      front = w.front ++ x ∷ [];
      opened = w.opened ++ polled_file ∷ [];
      rest = split.rest;
      before = split.before ∙ sym (append_assoc w.front (x ∷ []) split.rest);
      after = split.after ∙ sym (append_assoc w.opened (polled_file ∷ []) split.rest);
      polled = pairs_more w.front w.opened x polled_file (pairs_of 0 0 w.front w.opened w.given seats w.seated) is_polled;
    }

    pub polled_stop : (e : UnionFault) → IsFileStop d range i rows (opener x.opener) (opener o) e → IsOpenFault opener source d range old (set now i polled_file) e
    polled_stop e (inl short) = inl short
    polled_stop e (inr (why, is, fact)) = inr (record {
      front = w.front;
      opened = w.opened;
      given = w.given;
      seats = seats;
      file = x;
      polled = polled_file;
      rest = split.rest;
      before = split.before;
      after = split.after;
      seated = w.seated;
      why = why;
      is = is ∙ ap (λ n. of_file n why) (sym w.many);
      fact = subst (λ n. IsFileFault d range n (opener x.opener) (opener o) why) w.sum fact;
    })

    pub polled_on : (s : Seat) (rows' : ℕ) → OpensFile d range i rows (opener x.opener) s rows' → Walk old (set now i polled_file) (seats ++ s ∷ []) (i + 1) rows'
    polled_on s rows' gave =
        let n = w.many in
        record {
          front = w.front ++ x ∷ [];
          opened = w.opened ++ polled_file ∷ [];
          given = w.given ++ gave.given ∷ [];
          rest = split.rest;
          before = split.before ∙ sym (append_assoc w.front (x ∷ []) split.rest);
          after = split.after ∙ sym (append_assoc w.opened (polled_file ∷ []) split.rest);
          many = let m : length (w.front ++ x ∷ []) ≡ length w.front + 1 = length-append w.front (x ∷ []) in omega (arith, m, n);
          sum = (gave.fact).sum ∙ ap (λ k. k + rows_given gave.given) w.sum ∙ sym (rows_more w.given gave.given);
          seated = seated_more 0 0 w.front w.opened w.given seats x polled_file gave.given s w.seated (record { polled = is_polled; told = gave.told })
              (subst (λ k. given_fault d range k gave.given ≡ None) (w.sum ∙ (let e : rows_all w.given ≡ 0 + rows_all w.given = omega arith in e)) (gave.fact).sound)
              (subst (λ k. IsSeat d k gave.given s) (let e : i ≡ 0 + length w.front = omega (arith, n) in e) (gave.fact).seat);
        }
