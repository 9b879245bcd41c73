-- Bits in bytes.
use Rattle.std.proofs.Common.{◌≡◌, ℕ, zero, suc, ◌+◌, ◌-◌, ◌*◌, ◌/◌, ◌%◌, ◌^◌, ◌<◌, ◌≤◌, min, List, [], ◌∷◌, ◌++◌, length, get_or, take, drop, map, replicate, arith, refl, sym, ◌∙◌, ap, Bool, false, true, append_assoc, append-nil, add-one, drop-cons}
use Rattle.std.specs.Prelude.{nat_le}
use Rattle.std.specs.List.{AllByRecursion}
use Rattle.std.specs.Int.{bit_at}
use Rattle.std.proofs.lemmas.Bool.{leb-true, leb-false}
use Rattle.std.proofs.lemmas.List.{length-take-le, length-drop, take-append-drop, drop_all, take_all, replicate-append-replicate}
use Rattle.std.proofs.lemmas.List.Elements.{recursion_from_All}
use Rattle.std.specs.Prelude.{All}
use Rattle.std.proofs.Math.Nat.{div-div-eq-div-mul, pow-suc}
use Rattle.scan_values.specs.declared.dtype.DTypeKind.{DTypeKind}
use Rattle.scan_values.specs.declared.value.Value.{Value}
use Rattle.scan_values.specs.Val.{Val, null_val, bool_val, int_val, text_val, list_val, struct_val}
use Rattle.scan_values.specs.Values.{val_of}
use Rattle.scan_spelling.specs.declared.write.Bit.TheVariants.{There, True}
use Rattle.scan_spelling.specs.Spelling.{byte_bits, bits_of, bytes_for}
use Rattle.scan_spelling.specs.Spells.{AreBits}
use Rattle.scan_spelling.specs.Written.{number, in_bytes, gathered, flags, flag_of, slots, slot_bytes, bit_in, bit_of, IsOfKind, IsText, TextFits}

abbrev pub AreBinary : List ℕ → Type 0
AreBinary [] = Unit {0}
AreBinary (b ∷ bits) = (b < 2) × AreBinary bits

first_bit : (b m : ℕ) → b < 2 → bit_at (b + 2 * m) 0 ≡ b
first_bit b m h = omega arith

later_bit : (b m j : ℕ) → b < 2 → bit_at (b + 2 * m) (suc j) ≡ bit_at m j
later_bit b m j h =
    let half : (b + 2 * m) / 2 ≡ m = omega arith in
    let twice : 2 ^ suc j ≡ 2 * 2 ^ j = omega (arith, pow-suc 2 j) in
    ap (λ k. (b + 2 * m) / k % 2) twice ∙ ap (λ k. k % 2) (sym (div-div-eq-div-mul (b + 2 * m) 2 (2 ^ j))) ∙ ap (λ k. k / 2 ^ j % 2) half

no_bit : (j : ℕ) → bit_at 0 j ≡ 0
no_bit zero = refl
no_bit (suc j) = later_bit 0 0 j (omega arith) ∙ no_bit j

nth_bit : (bits : List ℕ) (j : ℕ) → AreBinary bits → bit_at (number bits) j ≡ get_or bits j 0
nth_bit [] zero h = refl
nth_bit [] (suc j) h = no_bit (suc j)
nth_bit (b ∷ bits) zero h = first_bit b (number bits) h.0
nth_bit (b ∷ bits) (suc j) h = later_bit b (number bits) j h.0 ∙ nth_bit bits j h.1

eight : (bits : List ℕ) → length bits ≤ 8 →
    get_or bits 0 0 ∷ get_or bits 1 0 ∷ get_or bits 2 0 ∷ get_or bits 3 0 ∷ get_or bits 4 0 ∷ get_or bits 5 0 ∷ get_or bits 6 0 ∷ get_or bits 7 0 ∷ [] ≡ bits ++ replicate (8 - length bits) 0
eight [] h = refl
eight (a ∷ []) h = refl
eight (a ∷ b ∷ []) h = refl
eight (a ∷ b ∷ c ∷ []) h = refl
eight (a ∷ b ∷ c ∷ d ∷ []) h = refl
eight (a ∷ b ∷ c ∷ d ∷ e ∷ []) h = refl
eight (a ∷ b ∷ c ∷ d ∷ e ∷ f ∷ []) h = refl
eight (a ∷ b ∷ c ∷ d ∷ e ∷ f ∷ g ∷ []) h = refl
eight (a ∷ b ∷ c ∷ d ∷ e ∷ f ∷ g ∷ k ∷ []) h = refl
eight (a ∷ b ∷ c ∷ d ∷ e ∷ f ∷ g ∷ k ∷ l ∷ bits) h = absurd (omega arith)

byte_is : (bits : List ℕ) → AreBinary bits → length bits ≤ 8 → byte_bits (number bits) ≡ bits ++ replicate (8 - length bits) 0
byte_is bits h l =
    (λ i. nth_bit bits 0 h i ∷ nth_bit bits 1 h i ∷ nth_bit bits 2 h i ∷ nth_bit bits 3 h i ∷ nth_bit bits 4 h i ∷ nth_bit bits 5 h i ∷ nth_bit bits 6 h i ∷ nth_bit bits 7 h i ∷ [])
    ∙ eight bits l

binary_take : (n : ℕ) (bits : List ℕ) → AreBinary bits → AreBinary (take n bits)
binary_take zero bits h = tt
binary_take (suc n) [] h = tt
binary_take (suc n) (b ∷ bits) h = (h.0, binary_take n bits h.1)

binary_drop : (n : ℕ) (bits : List ℕ) → AreBinary bits → AreBinary (drop n bits)
binary_drop zero bits h = h
binary_drop (suc n) [] h = tt
binary_drop (suc n) (b ∷ bits) h = binary_drop n bits h.1

zeros_of : (m n : ℕ) → m ≡ n → replicate {A = ℕ} m 0 ≡ replicate {A = ℕ} n 0
zeros_of m n e = ap (λ k. replicate {A = ℕ} k 0) e

-- the last byte with bits, and bytes without any
ends_here : (k : ℕ) (bits : List ℕ) → AreBinary bits → length bits ≤ 8 → bits_of (in_bytes k []) ≡ replicate (8 * k) 0 → bits_of (in_bytes (suc k) bits) ≡ bits ++ replicate (8 * suc k - length bits) 0
ends_here k bits h l none =
    let front : take 8 bits ≡ bits = take_all 8 bits l in
    let rest : drop 8 bits ≡ [] = drop_all 8 bits l in
    (λ i. byte_bits (number (front i)) ++ bits_of (in_bytes k (rest i)))
    ∙ (λ i. byte_is bits h l i ++ none i)
    ∙ append_assoc bits (replicate (8 - length bits) 0) (replicate (8 * k) 0)
    ∙ ap (λ zs. bits ++ zs) (replicate-append-replicate (8 - length bits) (8 * k) 0 ∙ zeros_of (8 - length bits + 8 * k) (8 * suc k - length bits) (omega (arith, l)))

none_in : (k : ℕ) → bits_of (in_bytes k []) ≡ replicate (8 * k) 0
none_in zero = refl
none_in (suc k) = ends_here k [] tt (omega arith) (none_in k) ∙ zeros_of (8 * suc k - 0) (8 * suc k) (omega arith)

goes_on : (k : ℕ) (bits : List ℕ) → AreBinary bits → 8 < length bits → bits_of (in_bytes k (drop 8 bits)) ≡ drop 8 bits ++ replicate (8 * k - length (drop 8 bits)) 0 →
    bits_of (in_bytes (suc k) bits) ≡ bits ++ replicate (8 * suc k - length bits) 0
goes_on k bits h more rest =
    let many : length (take 8 bits) ≡ 8 = length-take-le 8 bits (omega arith) in
    let left : length (drop 8 bits) ≡ length bits - 8 = length-drop 8 bits in
    let byte : byte_bits (number (take 8 bits)) ≡ take 8 bits =
    byte_is (take 8 bits) (binary_take 8 bits h) (omega (arith, many)) ∙ ap (λ zs. take 8 bits ++ zs) (zeros_of (8 - length (take 8 bits)) 0 (omega (arith, many))) ∙ append-nil (take 8 bits) in
    (λ i. byte i ++ rest i)
    ∙ sym (append_assoc (take 8 bits) (drop 8 bits) (replicate (8 * k - length (drop 8 bits)) 0))
    ∙ (λ i. take-append-drop 8 bits i ++ zeros_of (8 * k - length (drop 8 bits)) (8 * suc k - length bits) (omega (arith, left, more)) i)

by_length : (k : ℕ) (bits : List ℕ) → AreBinary bits → (8 < length bits → bits_of (in_bytes (suc k) bits) ≡ bits ++ replicate (8 * suc k - length bits) 0) →
    (t : Bool) → nat_le (length bits) 8 ≡ t → bits_of (in_bytes (suc k) bits) ≡ bits ++ replicate (8 * suc k - length bits) 0
by_length k bits h more true p = ends_here k bits h (leb-true (length bits) 8 p) (none_in k)
by_length k bits h more false p = more (leb-false (length bits) 8 p)

pub bytes_are : (k : ℕ) (bits : List ℕ) → AreBinary bits → length bits ≤ 8 * k → bits_of (in_bytes k bits) ≡ bits ++ replicate (8 * k - length bits) 0
bytes_are zero [] h l = refl
bytes_are zero (b ∷ bits) h l = absurd (omega arith)
bytes_are (suc k) bits h l =
    by_length k bits h
    (λ more. goes_on k bits h more (bytes_are k (drop 8 bits) (binary_drop 8 bits h) (omega (arith, l, length-drop 8 bits))))
    (nat_le (length bits) 8) refl

in_bytes_length : (k : ℕ) (bits : List ℕ) → length (in_bytes k bits) ≡ k
in_bytes_length zero bits = refl
in_bytes_length (suc k) bits = ap suc (in_bytes_length k (drop 8 bits))

-- what is gathered are the bits
pub gathered_are : (bits : List ℕ) → AreBinary bits → AreBits (length bits) bits (gathered bits)
gathered_are bits h = (refl, in_bytes_length (bytes_for (length bits)) bits, bytes_are (bytes_for (length bits)) bits h (omega arith))

flag_low : (v : Val) → flag_of v < 2
flag_low null_val = omega arith
flag_low (bool_val b) = omega arith
flag_low (int_val z) = omega arith
flag_low (text_val bytes) = omega arith
flag_low (list_val us) = omega arith
flag_low (struct_val us) = omega arith

pub flags_binary : (vs : List Val) → AreBinary (flags vs)
flags_binary [] = tt
flags_binary (v ∷ vs) = (flag_low v, flags_binary vs)

bit_low : (b : Bool) → bit_of b < 2
bit_low true = omega arith
bit_low false = omega arith

pub bools_binary : (vs : List Val) → AllByRecursion (IsOfKind DTypeKind.Bool) vs → AreBinary (slots DTypeKind.Bool vs) × (length (slots DTypeKind.Bool vs) ≡ length vs)
bools_binary [] h = (tt, refl)
bools_binary (null_val ∷ vs) h = let r = bools_binary vs h.1 in ((omega arith, r.0), ap suc r.1)
bools_binary (bool_val b ∷ vs) h = let r = bools_binary vs h.1 in ((bit_low b, r.0), ap suc r.1)
bools_binary (int_val z ∷ vs) h = absurd h.0
bools_binary (text_val bytes ∷ vs) h = absurd h.0
bools_binary (list_val us ∷ vs) h = absurd h.0
bools_binary (struct_val us ∷ vs) h = absurd h.0

-- What is written of values, bit by bit.

pub flags_are : (vs : List Value) → map (λ v. bit_in There (val_of v)) vs ≡ flags (map val_of vs)
flags_are [] = refl
flags_are (v ∷ vs) = ap (λ bs. flag_of (val_of v) ∷ bs) (flags_are vs)

a_bool : (u : Val) (bits rest : List ℕ) → IsOfKind DTypeKind.Bool u → bits ≡ rest → bit_in True u ∷ bits ≡ slot_bytes DTypeKind.Bool u ++ rest
a_bool null_val bits rest k e = ap (λ bs. 0 ∷ bs) e
a_bool (bool_val b) bits rest k e = ap (λ bs. bit_of b ∷ bs) e
a_bool (int_val z) bits rest k e = absurd k
a_bool (text_val bytes) bits rest k e = absurd k
a_bool (list_val us) bits rest k e = absurd k
a_bool (struct_val us) bits rest k e = absurd k

bools_by : (vs : List Value) → AllByRecursion (λ v. IsOfKind DTypeKind.Bool (val_of v)) vs → map (λ v. bit_in True (val_of v)) vs ≡ slots DTypeKind.Bool (map val_of vs)
bools_by [] h = refl
bools_by (v ∷ vs) h = a_bool (val_of v) (map (λ w. bit_in True (val_of w)) vs) (slots DTypeKind.Bool (map val_of vs)) h.0 (bools_by vs h.1)

pub bools_are : (vs : List Value) → All (λ v. IsOfKind DTypeKind.Bool (val_of v)) vs → map (λ v. bit_in True (val_of v)) vs ≡ slots DTypeKind.Bool (map val_of vs)
bools_are vs h = bools_by vs (recursion_from_All (λ v. IsOfKind DTypeKind.Bool (val_of v)) vs h)

-- a Bool is no text
pub bool_plain : (v : Val) → IsOfKind DTypeKind.Bool v → TextFits v × IsText v
bool_plain null_val h = (tt, tt)
bool_plain (bool_val b) h = (tt, tt)
bool_plain (int_val z) h = absurd h
bool_plain (text_val bytes) h = absurd h
bool_plain (list_val us) h = absurd h
bool_plain (struct_val us) h = absurd h

-- at most seven bits, of a byte
pub seven : (n : ℕ) → n ≤ 7 → 2 ^ n ≤ 128
seven zero h = omega arith
seven (suc zero) h = omega arith
seven (suc (suc zero)) h = omega arith
seven (suc (suc (suc zero))) h = omega arith
seven (suc (suc (suc (suc zero)))) h = omega arith
seven (suc (suc (suc (suc (suc zero))))) h = omega arith
seven (suc (suc (suc (suc (suc (suc zero)))))) h = omega arith
seven (suc (suc (suc (suc (suc (suc (suc zero))))))) h = omega arith
seven (suc (suc (suc (suc (suc (suc (suc (suc n)))))))) h = absurd (omega arith)

map_take : (f : Value → ℕ) (n : ℕ) (vs : List Value) → map f (take n vs) ≡ take n (map f vs)
map_take f zero vs = refl
map_take f (suc n) [] = refl
map_take f (suc n) (v ∷ vs) = ap (λ bs. f v ∷ bs) (map_take f n vs)

map_drop : (f : Value → ℕ) (n : ℕ) (vs : List Value) → map f (drop n vs) ≡ drop n (map f vs)
map_drop f zero vs = refl
map_drop f (suc n) [] = refl
map_drop f (suc n) (v ∷ vs) = map_drop f n vs

eight_or_all : (xs : List Value) → (take (min (length xs) 8) xs ≡ take 8 xs) × (drop (min (length xs) 8) xs ≡ drop 8 xs)
eight_or_all xs = by_test (nat_le (length xs) 8) refl
  where
    by_test : (t : Bool) → nat_le (length xs) 8 ≡ t → (take (min (length xs) 8) xs ≡ take 8 xs) × (drop (min (length xs) 8) xs ≡ drop 8 xs)
    by_test true p =
        let short : length xs ≤ 8 = leb-true (length xs) 8 p in
        let m : min (length xs) 8 ≡ length xs = omega (arith, short) in (
          ap (λ k. take k xs) m ∙ take_all (length xs) xs (omega arith) ∙ sym (take_all 8 xs short),
          ap (λ k. drop k xs) m ∙ drop_all (length xs) xs (omega arith) ∙ sym (drop_all 8 xs short),
        )
    by_test false p =
        let long : 8 < length xs = leb-false (length xs) 8 p in
        let m : min (length xs) 8 ≡ 8 = omega (arith, long) in
        (ap (λ k. take k xs) m, ap (λ k. drop k xs) m)

-- a byte more
pub byte_pushed : (f : Value → ℕ) (n i : ℕ) (rest : List Value) → i < n →
    in_bytes (n - i) (map f rest) ≡ number (map f (take (min (length rest) 8) rest)) ∷ in_bytes (n - (i + 1)) (map f (drop (min (length rest) 8) rest))
byte_pushed f n i rest h =
    let less : n - i ≡ suc (n - (i + 1)) = omega arith in
    let parts = eight_or_all rest in
    ap (λ k. in_bytes k (map f rest)) less
    ∙ (λ j. number (sym (ap (map f) parts.0 ∙ map_take f 8 rest) j) ∷ in_bytes (n - (i + 1)) (sym (ap (map f) parts.1 ∙ map_drop f 8 rest) j))

-- a bit more below the others
pub bit_joined : (f : Value → ℕ) (vs : List Value) (i byte bit : ℕ) (v : Value) → i < length vs → v ≡ get_or vs (length vs - 1 - i) v → bit ≡ f v → byte ≡ number (map f (drop (length vs - i) vs)) →
    2 * byte + bit ≡ number (map f (drop (length vs - (i + 1)) vs))
bit_joined f vs i byte bit v h e is b =
    let at : ℕ = length vs - 1 - i in
    let same : length vs - (i + 1) ≡ at = omega (arith, h) in
    let next : length vs - i ≡ suc at = omega (arith, h) in
    let split : drop at vs ≡ v ∷ drop (suc at) vs = drop-cons vs at v (omega (arith, h)) ∙ ap (λ u. u ∷ drop (suc at) vs) (sym e) in
    let rest : byte ≡ number (map f (drop (suc at) vs)) = b ∙ ap (λ k. number (map f (drop k vs))) next in
    let sum : 2 * byte + bit ≡ f v + 2 * number (map f (drop (suc at) vs)) = omega (arith, is, rest) in
    sum ∙ sym (ap (λ k. number (map f (drop k vs))) same ∙ ap (λ us. number (map f us)) split)

pub bit_fits : (n i byte bit : ℕ) → n ≤ 8 → i < n → byte < 2 ^ i → bit < 2 → 2 * byte + bit < 256
bit_fits n i byte bit m h b low = omega (arith, seven i (omega arith), b, low)

pub twice_more : (i byte bit : ℕ) → byte < 2 ^ i → bit < 2 → 2 * byte + bit < 2 ^ (i + 1)
twice_more i byte bit b low =
    let twice : 2 ^ (i + 1) ≡ 2 ^ i * 2 = ap (λ k. 2 ^ k) (add-one i) ∙ pow-suc 2 i in
    omega (arith, twice, b, low)

-- a byte more at the end
pub bytes_joined : (f : Value → ℕ) (out made : List ℕ) (n i byte : ℕ) (rest now later : List Value) → i < n → now ≡ take (min (length rest) 8) rest → later ≡ drop (min (length rest) 8) rest → byte ≡ number (map f now) → made ≡ out ++ byte ∷ [] →
    made ++ in_bytes (n - (i + 1)) (map f later) ≡ out ++ in_bytes (n - i) (map f rest)
bytes_joined f out made n i byte rest now later h front back is m =
    (λ j. m j ++ in_bytes (n - (i + 1)) (map f (back j)))
    ∙ append_assoc out (byte ∷ []) (in_bytes (n - (i + 1)) (map f (drop (min (length rest) 8) rest)))
    ∙ (λ j. out ++ ((is ∙ ap (λ vs. number (map f vs)) front) j ∷ in_bytes (n - (i + 1)) (map f (drop (min (length rest) 8) rest))))
    ∙ ap (λ bs. out ++ bs) (sym (byte_pushed f n i rest h))
