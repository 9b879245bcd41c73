-- Events read backwards, the newest first: since when an entry has been held, and where its answer came from.
use Rattle.std.specs.Prelude.{◌≡◌, ◌⊎◌, ℕ, List, [], ◌∷◌, reverse, Some, None, true, is_some}
use Rattle.scan_sharing.specs.declared.holder.SharedEvent.{SharedEvent}
use Rattle.scan_sharing.specs.declared.holder.SharedEvent.TheVariants.{Requested, Arrived}
use Rattle.scan_sharing.specs.Sharing.{Table, no_entries, is_held, is_live, answer_of, after, May, replay, IsLawful}

module _ {A : Type 0} where
  -- the table after a past
  abbrev pub left_by : List (SharedEvent A) → Table A
  left_by [] = no_entries
  left_by (e ∷ es) = after e (left_by es)

  -- each event could happen where it stands
  abbrev pub WasLawful : List (SharedEvent A) → Type 0
  WasLawful [] = Unit {0}
  WasLawful (e ∷ es) = May (left_by es) e × WasLawful es

  -- a request of the id, which found no entry
  abbrev pub Makes : SharedEvent A → Table A → ℕ → Type 0
  Makes e t id = ((n : ℕ) × (e ≡ Requested id n)) × (t id ≡ None)

  -- the id has an entry now, and had one at every moment back to a request that found none
  abbrev pub HeldSince : List (SharedEvent A) → ℕ → Type 0
  HeldSince [] id = ⊥
  HeldSince (e ∷ es) id = (is_some (left_by (e ∷ es) id) ≡ true) × (Makes e (left_by es) id ⊎ HeldSince es id)

  -- the entry of the id had this answer at every moment back to the one arrival of it, which found the request live
  abbrev pub AnsweredSince : List (SharedEvent A) → ℕ → A → Type 0
  AnsweredSince [] id a = ⊥
  AnsweredSince (e ∷ es) id a = (answer_of (left_by (e ∷ es) id) ≡ Some a) × (((e ≡ Arrived id a) × (is_live (left_by es id) ≡ true)) ⊎ AnsweredSince es id a)

  -- the holder has been in the entry of the id at every moment back to its request
  abbrev pub JoinedSince : List (SharedEvent A) → ℕ → ℕ → Type 0
  JoinedSince [] id n = ⊥
  JoinedSince (e ∷ es) id n = (is_held n (left_by (e ∷ es) id) ≡ true) × ((e ≡ Requested id n) ⊎ JoinedSince es id n)

  -- each entry that events leave has been held since the request that made it
  abbrev pub AreHeld : List (SharedEvent A) → Type 0
  AreHeld es = (id : ℕ) → is_some (replay es id) ≡ true → HeldSince (reverse es) id

  -- the answer of an entry is the one that arrived while its request was live
  abbrev pub AreAnswered : List (SharedEvent A) → Type 0
  AreAnswered es = (id : ℕ) (a : A) → IsLawful es → answer_of (replay es id) ≡ Some a → AnsweredSince (reverse es) id a

  -- each holder has been in its entry since its own request
  abbrev pub AreJoined : List (SharedEvent A) → Type 0
  AreJoined es = (id n : ℕ) → is_held n (replay es id) ≡ true → JoinedSince (reverse es) id n
