-- Files that are due, and polls one after the other.
use Rattle.std.specs.Prelude.{◌≡◌, ◌≤◌, ◌⊎◌, ◌+◌, ◌==◌, ℕ, suc, Bool, true, false, List, [], ◌∷◌, ◌++◌, if◌then◌else◌, map}
use Rattle.std.specs.List.{flat_map, list_any}
use Rattle.scan_opener.specs.Opener.{OpenerState}
use Rattle.scan_multi_sources.specs.Children.{ChildData, deferred, is_open, is_opened, opened}
use Rattle.scan_multi_sources.specs.Files.{SlotData}
use Rattle.scan_multi_sources.specs.MultiScans.{MultiScan}
use Rattle.scan_multi_sources.specs.Polls.{IsPolled}
use Rattle.scan_multi_sources.specs.declared.fault.MultiFault.{MultiFault}
use Rattle.scan_multi_sources.specs.declared.fault.MultiFault.TheVariants as fault
use Rattle.scan_multi_sources.specs.declared.scan.PartitionPoll.{PartitionPoll}
use Rattle.scan_multi_sources.specs.declared.scan.PartitionPoll.TheVariants as poll

-- how often a number stands in a list
abbrev pub times : ℕ → List ℕ → ℕ
times k [] = 0
times k (x ∷ xs) = if x == k then suc (times k xs) else times k xs

-- the first list is the second, with some of its numbers left out
abbrev pub IsPartOf : List ℕ → List ℕ → Type 0
IsPartOf [] ys = Unit {0}
IsPartOf (x ∷ xs) [] = ⊥
IsPartOf (x ∷ xs) (y ∷ ys) = ((x ≡ y) × IsPartOf xs ys) ⊎ IsPartOf (x ∷ xs) ys

-- numbers rise, from one on
abbrev pub RiseFrom : ℕ → List ℕ → Type 0
RiseFrom n [] = Unit {0}
RiseFrom n (x ∷ xs) = (n ≤ x) × RiseFrom (suc x) xs

-- numbers rise from one on, and stay below another
abbrev pub RiseUpTo : ℕ → List ℕ → ℕ → Type 0
RiseUpTo n [] m = n ≤ m
RiseUpTo n (x ∷ xs) m = (n ≤ x) × RiseUpTo (suc x) xs m

-- of the files of a source those that were handed in opened stand before the others
abbrev pub OpenedLead : {O : Type 0} → List (ChildData O) → Type 0
OpenedLead [] = Unit {0}
OpenedLead (opened l n ∷ cs) = OpenedLead cs
OpenedLead (deferred o n ∷ cs) = list_any (is_opened true) cs ≡ false

-- the places of files that are due: of those that were begun, then of the others
abbrev pub places_begun : List SlotData → List ℕ
places_begun ws = map (λ (w : SlotData). w.place) ws

abbrev pub due : {O : Type 0} → MultiScan O → List ℕ
due s = places_begun s.window ++ s.waiting

-- of numbers those that pass a test stand first
abbrev pub StandFirst : (ℕ → Bool) → List ℕ → Type 0
StandFirst p [] = Unit {0}
StandFirst p (k ∷ ks) = (p k ≡ false → list_any p ks ≡ false) × StandFirst p ks

-- of the files that are due those stand first that were handed in opened
abbrev pub OpenFirst : {O : Type 0} → MultiScan O → Type 0
OpenFirst s = StandFirst (is_open s.source.children) (due s)

-- none of those is due
abbrev pub NoneOpen : {O : Type 0} → MultiScan O → Type 0
NoneOpen s = list_any (is_open s.source.children) (due s) ≡ false

-- the place of the file of which a fault is told; after want of memory it is tried again
abbrev pub fault_places : MultiFault → List ℕ
fault_places fault.NoMemory = []
fault_places (fault.Opener k) = k ∷ []
fault_places (fault.DTypeMismatch k) = k ∷ []
fault_places (fault.Layout k f) = k ∷ []
fault_places (fault.RowRange k) = k ∷ []
fault_places (fault.TooManyRows k) = k ∷ []

-- the place of the file that an answer gives, and its number
abbrev pub places_in : PartitionPoll → List ℕ
places_in poll.Pending = []
places_in (poll.Partition p) = p.child ∷ []
places_in poll.End = []
places_in (poll.Fault f) = fault_places f

abbrev pub numbers_in : PartitionPoll → List ℕ
numbers_in poll.Pending = []
numbers_in (poll.Partition p) = p.index ∷ []
numbers_in poll.End = []
numbers_in (poll.Fault f) = []

-- of several answers, one after the other
abbrev pub places_answered : List PartitionPoll → List ℕ
places_answered rs = flat_map places_in rs

abbrev pub numbers_given : List PartitionPoll → List ℕ
numbers_given rs = flat_map numbers_in rs

-- polls, one after the other, and what they answer
abbrev pub Polls : {O : Type 0} → (O → OpenerState) → List PartitionPoll → MultiScan O → MultiScan O → Type 0
Polls opener [] old new = new ≡ old
Polls {O} opener (r ∷ rs) old new = (mid : MultiScan O) × IsPolled opener old mid r × Polls opener rs mid new
