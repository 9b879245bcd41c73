-- The table of shared requests, as a function from ids to entries, the events that change it, and which of them may happen.
use Rattle.std.specs.Prelude.{◌≡◌, ℕ, ◌+◌, List, [], ◌∷◌, length, Bool, true, false, cond, nat_eq, Option, Some, None, is_none}
use Rattle.std.specs.Ordering.{nat_cmp}
use Rattle.std.specs.BTreeMap.{is_at}
use Rattle.std.specs.BTreeSet.{insert_key}
use Rattle.std.specs.Map.{lookup}
use Rattle.scan_segments.specs.Source.{without, has}
use Rattle.scan_sharing.specs.declared.holder.SharedEvent.{SharedEvent}
use Rattle.scan_sharing.specs.declared.holder.SharedEvent.TheVariants.{Requested, Arrived, Dropped}

-- who holds a request, and the answer once it has come
pub record Held (A : Type 0) : Type 0 where
  -- the set of the holders' numbers, rising
  pub holders : List ℕ
  pub answer : Option A

abbrev pub Table : Type 0 → Type 0
Table A = ℕ → Option (Held A)

module _ {A : Type 0} where
  abbrev pub no_entries : Table A
  no_entries id = None

  abbrev pub put : Table A → ℕ → Option (Held A) → Table A
  put t id e i = cond (nat_eq i id) e (t i)

  abbrev pub joined : ℕ → Option (Held A) → Held A
  joined n None = record { holders = n ∷ []; answer = None }
  joined n (Some e) = record { holders = insert_key nat_cmp e.holders n; answer = e.answer }

  abbrev pub answered : A → Option (Held A) → Option (Held A)
  answered a None = None
  answered a (Some e) = Some (record { holders = e.holders; answer = Some a })

  abbrev pub kept : List ℕ → Option A → Option (Held A)
  kept [] a = None
  kept (n ∷ ns) a = Some (record { holders = n ∷ ns; answer = a })

  abbrev pub left : ℕ → Option (Held A) → Option (Held A)
  left n None = None
  left n (Some e) = kept (without n e.holders) e.answer

  -- the holder n joins the entry of the id, or makes one whose request is live
  abbrev pub with_holder : ℕ → ℕ → Table A → Table A
  with_holder n id t = put t id (Some (joined n (t id)))

  -- the answer of the id has come
  abbrev pub with_answer : ℕ → A → Table A → Table A
  with_answer id a t = put t id (answered a (t id))

  -- the holder n leaves the entry of the id, and the last one ends it
  abbrev pub without_holder : ℕ → ℕ → Table A → Table A
  without_holder n id t = put t id (left n (t id))

  -- the table after an event
  abbrev pub after : SharedEvent A → Table A → Table A
  after (Requested id number) t = with_holder number id t
  after (Arrived id answer) t = with_answer id answer t
  after (Dropped id number) t = without_holder number id t

  abbrev pub is_held : ℕ → Option (Held A) → Bool
  is_held n None = false
  is_held n (Some e) = has n e.holders

  -- there is an entry, and no answer has come
  abbrev pub is_live : Option (Held A) → Bool
  is_live None = false
  is_live (Some e) = is_none e.answer

  abbrev pub answer_of : Option (Held A) → Option A
  answer_of None = None
  answer_of (Some e) = e.answer

  -- an event that may happen: a new holder comes, an answer comes of a request that is live, or a holder goes
  abbrev pub May : Table A → SharedEvent A → Type 0
  May t (Requested id number) = is_held number (t id) ≡ false
  May t (Arrived id answer) = is_live (t id) ≡ true
  May t (Dropped id number) = is_held number (t id) ≡ true

  abbrev pub replay_from : Table A → List (SharedEvent A) → Table A
  replay_from t [] = t
  replay_from t (e ∷ es) = replay_from (after e t) es

  -- the table that events leave
  abbrev pub replay : List (SharedEvent A) → Table A
  replay es = replay_from no_entries es

  abbrev pub IsLawfulFrom : Table A → List (SharedEvent A) → Type 0
  IsLawfulFrom t [] = Unit {0}
  IsLawfulFrom t (e ∷ es) = May t e × IsLawfulFrom (after e t) es

  -- each event may happen where it stands
  abbrev pub IsLawful : List (SharedEvent A) → Type 0
  IsLawful es = IsLawfulFrom no_entries es

  -- a list of entries as a table
  abbrev pub entry_at : List (ℕ × Held A) → Table A
  entry_at es id = lookup (is_at (nat_cmp id)) es

  -- how many events are still to come of an entry: its answer, and the end of each holder
  abbrev pub open_of : Option A → ℕ
  open_of None = 1
  open_of (Some a) = 0

  abbrev pub owed : List (ℕ × Held A) → ℕ
  owed [] = 0
  owed (e ∷ es) = (length e.1.holders + open_of e.1.answer) + owed es

  abbrev pub Same : Table A → Table A → Type 0
  Same s t = (id : ℕ) → s id ≡ t id

  -- the requests that are live are those of the table
  abbrev pub Agree : (ℕ → Bool) → Table A → Type 0
  Agree live t = (id : ℕ) → live id ≡ is_live (t id)
