-- The parts of a text: words, names in double quotes, texts in single quotes and signs, with spaces between them.
use Rattle.std.specs.Prelude.{◌≡◌, ◌==◌, ℕ, List, [], ◌∷◌, ◌++◌, Bool, true, false, ◌&&◌, ◌||◌, nat_le, if◌then◌else◌}
use Rattle.std.specs.List.{list_all}
use Rattle.scan_conditions.specs.declared.token.Kind.{Kind}
use Rattle.scan_conditions.specs.declared.token.Kind.TheVariants as kinds

pub data Part : Type 0 where
  word : List ℕ → Part
  name : List ℕ → Part
  text : List ℕ → Part
  sign : List ℕ → Part

abbrev pub part_as : Kind → List ℕ → Part
part_as kinds.Word s = word s
part_as kinds.Name s = name s
part_as kinds.Text s = text s
part_as kinds.Sign s = sign s

abbrev pub quote : ℕ
quote = 39

abbrev pub double_quote : ℕ
double_quote = 34

-- within quotes a quote stands twice
abbrev pub doubled : ℕ → List ℕ → List ℕ
doubled q [] = []
doubled q (c ∷ cs) = if c == q then q ∷ q ∷ doubled q cs else c ∷ doubled q cs

abbrev pub quoted : ℕ → List ℕ → List ℕ
quoted q cs = q ∷ (doubled q cs ++ q ∷ [])

abbrev pub spelled : Part → List ℕ
spelled (word w) = w
spelled (name n) = quoted double_quote n
spelled (text t) = quoted quote t
spelled (sign s) = s

abbrev pub is_between : ℕ → ℕ → ℕ → Bool
is_between low high c = nat_le low c && nat_le c high

abbrev pub is_digit : ℕ → Bool
is_digit c = is_between 48 57 c

-- a to z, A to Z, _, and what is not ASCII
abbrev pub is_letter : ℕ → Bool
is_letter c = is_between 97 122 c || (is_between 65 90 c || ((c == 95) || nat_le 128 c))

-- a letter, a digit or #
abbrev pub is_word : ℕ → Bool
is_word c = is_letter c || (is_digit c || (c == 35))

-- a blank, or a control character that moves the cursor
abbrev pub is_space : ℕ → Bool
is_space c = (c == 32) || is_between 9 13 c

-- a parenthesis, a comma or a dot
abbrev pub is_mark : ℕ → Bool
is_mark c = (c == 40) || ((c == 41) || ((c == 44) || (c == 46)))

-- a sign of one character: `=`, `<`, `>`, `+`, `-`, or a mark
abbrev pub is_single : ℕ → Bool
is_single c = (c == 61) || ((c == 60) || ((c == 62) || ((c == 43) || ((c == 45) || is_mark c))))

-- `!=`, `<=` and `>=`
abbrev pub is_pair : ℕ → ℕ → Bool
is_pair c d = (d == 61) && ((c == 33) || ((c == 60) || (c == 62)))

abbrev pub is_sign : List ℕ → Bool
is_sign [] = false
is_sign (c ∷ []) = is_single c
is_sign (c ∷ d ∷ []) = is_pair c d
is_sign (c ∷ d ∷ e ∷ cs) = false

abbrev pub is_filled : List ℕ → Bool
is_filled [] = false
is_filled (c ∷ cs) = true

abbrev pub is_part : Part → Bool
is_part (word w) = is_filled w && list_all is_word w
is_part (name n) = true
is_part (text t) = true
is_part (sign s) = is_sign s

-- A part is as long as can be: whether it would go on with this byte.
abbrev pub goes_on : Part → ℕ → Bool
goes_on (word w) c = is_word c
goes_on (name n) c = c == double_quote
goes_on (text t) c = c == quote
goes_on (sign s) c = is_sign (s ++ c ∷ [])

abbrev pub begins : (ℕ → Bool) → List ℕ → Bool
begins test [] = false
begins test (c ∷ cs) = test c

-- a part stands in front of a text, and this is left behind it
pub record Begins (p : Part) (bytes rest : List ℕ) : Type 0 where
  pub is : bytes ≡ spelled p ++ rest
  pub part : is_part p ≡ true
  pub ends : begins (goes_on p) rest ≡ false

-- this stands between quotes in front of a text
pub record IsQuoted (q : ℕ) (content bytes rest : List ℕ) : Type 0 where
  pub is : bytes ≡ quoted q content ++ rest
  pub ends : begins (λ c. c == q) rest ≡ false

-- bytes of one kind in front of a text
pub record Passes (test : ℕ → Bool) (bytes rest : List ℕ) : Type 0 where
  pub front : List ℕ
  pub is : bytes ≡ front ++ rest
  pub all : list_all test front ≡ true

-- a text is these parts, with spaces between them
abbrev pub Spells : List ℕ → List Part → Type 0
Spells bytes [] = list_all is_space bytes ≡ true
Spells bytes (p ∷ ps) = (front rest : List ℕ) × Passes is_space bytes front × Begins p front rest × Spells rest ps
