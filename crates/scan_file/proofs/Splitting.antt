-- The projection of a split, as a drive sees it.
use Rattle.std.proofs.Common.{◌≡◌, ℕ, List, [], ◌∷◌, map, Bool, true, false, ◌&&◌, ◌||◌, Option, Some, None, is_none, refl, sym, ap, ◌∙◌}
use Rattle.std.specs.Prelude.{option_map, zip}
use Rattle.std.specs.FinMap as finite
use Rattle.scan_values.specs.Arrays.{ArrayData}
use Rattle.scan_values.specs.DataType.{DataType}
use Rattle.scan_values.specs.Marked.{Marked}
use Rattle.scan_values.specs.Selections.{is_among}
use Rattle.scan_values.specs.Val.{Val, marked}
use Rattle.scan_segments.specs.Source.{Store}
use Rattle.scan_splits.specs.Arrivals.{Arrivals, Agrees, content}
use Rattle.scan_splits.specs.declared.inbox.Arrival.{Arrival}
use Rattle.scan_splits.specs.declared.poll.Poll.TheVariants as poll
use Rattle.scan_plans.specs.Came.{Came, came, Extends, Holds}
use Rattle.scan_plans.specs.Futures.{FutureData, AreRows, GivesItems, SameFuture, future_dtype, future_wanted, items_of, known_rows, rows_of}
use Rattle.scan_plans.specs.Given.{AreLacking}
use Rattle.scan_plans.specs.Polled as plans
use Rattle.scan_plans.specs.Wants.{names_id}
use Rattle.scan_streams.proofs.Looking.{damage_same, extends_self, extends_then, items_same, overflow_same, rows_same, type_same}
use Rattle.scan_streams.proofs.Settling.{future_less, future_named}
use Rattle.scan_drive.specs.Splits.{Event, wants, spoils, lacks, SameSplit, Wants, FindsBad, GivesRows}
use Rattle.scan_drive.specs.Splits as drive
use Rattle.scan_file.specs.FileRows.{RowsData, row_items, rows_data, unless_lost}
use Rattle.scan_file.specs.FileSplits.{FutureComes, does, split_state}
use Rattle.scan_file.specs.declared.split.FileSplit.{FileSplit}
use Rattle.scan_file.proofs.Arriving.{future_bad_here}
use Rattle.scan_file.proofs.Lasting.{future_lacks, future_spoils}

-- ---- what has arrived
and_both : (a b : Bool) → (a && b) ≡ true → (a ≡ true) × (b ≡ true)
and_both true b h = (refl, h)
and_both false b h = absurd cc

pub holds_of : (store : Store) (here : Arrivals) → Agrees store here → Holds store (came here)
holds_of store here a id bytes e = go (finite.get here id) refl e
  where
    some_is : (x y : Option (List ℕ)) → Some x ≡ Some y → x ≡ y
    some_is x y q = cc

    go : (o : Option Arrival) → finite.get here id ≡ o → option_map content o ≡ Some bytes → store id ≡ bytes
    go None q f = absurd cc
    go (Some x) q f = a id x q ∙ some_is (content x) bytes f

came_more : (here more : Arrivals) → drive.Extends here more → Extends (came here) (came more)
came_more here more x id bytes e = go (finite.get here id) refl e
  where
    go : (o : Option Arrival) → finite.get here id ≡ o → option_map content o ≡ Some bytes → came more id ≡ Some bytes
    go None q f = absurd cc
    go (Some a) q f = ap (option_map content) (x id a q) ∙ f

none_came : (here : Arrivals) (id : ℕ) → is_none (came here id) ≡ true → lacks here id ≡ true
none_came here id h = go (finite.get here id) h
  where
    go : (o : Option Arrival) → is_none (option_map content o) ≡ true → is_none o ≡ true
    go None k = refl
    go (Some a) k = absurd cc

some_came : (here : Arrivals) (id : ℕ) → is_none (came here id) ≡ false → lacks here id ≡ false
some_came here id h = go (finite.get here id) h
  where
    go : (o : Option Arrival) → is_none (option_map content o) ≡ false → is_none o ≡ false
    go None k = absurd cc
    go (Some a) k = refl

map_twice : {A B C : Type 0} (g : B → C) (f : A → B) (xs : List A) → map (λ x. g (f x)) xs ≡ map g (map f xs)
map_twice g f [] = refl
map_twice g f (x ∷ xs) = ap (λ ys. g (f x) ∷ ys) (map_twice g f xs)

typed_map : (d : DataType) (vs : List Val) → map {B = DataType × Marked} (λ v. (d, marked v)) vs ≡ map {B = DataType × Marked} (λ m. (d, m)) (map marked vs)
typed_map d vs = map_twice {C = DataType × Marked} (λ m. (d, m)) marked vs

-- ---- a poll
module _ (here : Arrivals) where
  does_later : (g f : FutureData) (more : Arrivals) (then : Came) (e : Event) → SameFuture (came here) g f → drive.Extends here more → Extends (came more) then → does e g then ≡ true → does e f then ≡ true
  does_later g f more then (wants id) s x m h = sym (future_lacks (came here) then (extends_then (came here) (came more) then (came_more here more x) m) g f s id) ∙ h
  does_later g f more then (spoils id) s x m h = future_spoils (came here) then (extends_then (came here) (came more) then (came_more here more x) m) g f s id h

  pub same_split : (g f : FileSplit) → SameFuture (came here) g.future f.future → SameSplit (λ (s : FileSplit). split_state s.future) (λ (s : FileSplit) (h : Arrivals) (store : Store) (e : Event). FutureComes s.future h store e) here g f
  same_split g f s = record {
    rows = λ store a i. unless_lost
        (damage_same (came here) store g.future f.future (holds_of store here a) s i || overflow_same (came here) store g.future f.future (holds_of store here a) s i)
        (type_same (came here) g.future f.future s i)
        (zip (rows_same (came here) store g.future f.future (holds_of store here a) s i)
        (map (λ m. (type_same (came here) g.future f.future s i, m)) (items_same (came here) store g.future f.future (holds_of store here a) s i)));
    overflow = λ store a. overflow_same (came here) store g.future f.future (holds_of store here a) s;
    may = λ id m. future_less (came here) g.future f.future id s m;
    comes_to = λ more store e x a c. record { then = c.then; more = c.more; holds = c.holds; meets = does_later g.future f.future more c.then e s x c.more c.meets };
  }

  pub gives_rows : (old : FileSplit) (new : FutureData) (a : ArrayData) (r : RowsData) → GivesItems (came here) old.future a → AreRows (came here) old.future new a → r ≡ rows_data (known_rows new) a
      → GivesRows (λ (s : FileSplit). split_state s.future) (λ (s : FileSplit) (h : Arrivals) (store : Store) (e : Event). FutureComes s.future h store e) here old (row_items r)
  gives_rows old new a r g n e = record {
    same = λ store h.
        ap row_items e ∙ ap (zip (known_rows new)) (typed_map a.dtype a.items)
        ∙ (λ i. zip (n.rows store (holds_of store here h) i) (map (λ m. (g.dtype i, m)) (g.items store (holds_of store here h) i)))
        ∙ (λ i. unless_lost (sym (g.clean store (holds_of store here h)) i || sym (g.within store (holds_of store here h)) i) (future_dtype old.future)
        (zip (rows_of old.future store) (map (λ m. (future_dtype old.future, m)) (items_of old.future store))));
    within = λ store h. g.within store (holds_of store here h);
  }

  pub wants_ids : (f : FileSplit) (ids : List ℕ) → AreLacking (future_wanted f.future (came here)) (came here) ids
      → Wants (λ (s : FileSplit). split_state s.future) (λ (s : FileSplit) (h : Arrivals) (store : Store) (e : Event). FutureComes s.future h store e) here f ids
  wants_ids f ids h = record {
    some = h.some;
    lacking = λ id m. none_came here id (both id m).1;
    may = λ id m. future_named f.future (came here) id (both id m).0;
    comes_to = λ id store m g. record { then = came here; more = extends_self (came here); holds = holds_of store here g; meets = sym (h.exact id) ∙ m };
  }
    where
      both : (id : ℕ) → is_among ids id ≡ true → (names_id id (future_wanted f.future (came here)) ≡ true) × (is_none (came here id) ≡ true)
      both id m = and_both (names_id id (future_wanted f.future (came here))) (is_none (came here id)) (sym (h.exact id) ∙ m)

  pub finds_bad : (f : FileSplit) (id : ℕ) → plans.Polls (came here) f.future (poll.Corrupt id)
      → FindsBad (λ (s : FileSplit). split_state s.future) (λ (s : FileSplit) (h : Arrivals) (store : Store) (e : Event). FutureComes s.future h store e) here f id
  finds_bad f id h = record {
    arrived = some_came here id (future_bad_here f.future (came here) id h);
    bad = λ store g. record { then = came here; more = extends_self (came here); holds = holds_of store here g; meets = h };
  }
