-- The input of the program, read from JSON.
use Rattle.std.proofs.Common.{◌≡◌, ℕ, ◌<◌, ◌≤◌, Bool, true, false, List, [], ◌∷◌, length, get_or, Option, None, Some, Result, Err, refl, sym, ap, ◌∙◌, subst, cond, arith}
use Rattle.std.specs.Prelude.{◌&&◌, String, string_bytes, option_and_then, option_map, codes}
use Rattle.std.specs.declared.alloc.Global.{Global}
use Rattle.std.specs.declared.vec.Vec.{Vec}
use Rattle.std.specs.List.{list_all}
use Rattle.std.specs.Map.{keys_of}
use Rattle.serde_json.specs.Data.{Data, null, boolean, number, string, array, object, Members}
use Rattle.serde_json.specs.Find.{as_object, get}
use Rattle.serde_json.specs.Read.{read}
use Rattle.serde_json.specs.declared.value.Value.{Value}
use Rattle.serde_json.specs.View.{items_view, members_view, view}
use Rattle.scan_expr.specs.Expr.{is_root}
use Rattle.scan_values.specs.DataType.{DataType}
use Rattle.scan_manifest.specs.DTypes.{dtype_in}
use Rattle.scan_manifest.specs.Json.{number_to, optional}
use Rattle.scan_manifest.specs.Manifest.{all_agree, cache_in, files_in, manifest_in, manifest_with, request_in, usual_cache}
use Rattle.scan_manifest.specs.Parse.{IsParse, IsParseBy}
use Rattle.scan_manifest.specs.declared.json.ParseFault.{ParseFault}
use Rattle.scan_manifest.specs.declared.json.ParseFault.TheVariants.{Bad, NoMemory}
use Rattle.scan_manifest.specs.declared.manifest.FileSpec.{FileSpec}
use Rattle.scan_manifest.specs.declared.manifest.Manifest.{Manifest}
use Rattle.scan_table.specs.Jobs.{Asks, IsJob, free_manifest_in, has_job_form, have_job_keys, is_free, is_job_key, key_of, keys_at, manifest_at, measure_of, measures_at, named_count, named_over, named_part, rooted}
use Rattle.scan_table.specs.declared.reading.Job.{Job}

pub have_keys-keys : (es : List (String Global × Value)) → have_job_keys (members_view es) ≡ list_all (λ k. is_job_key (string_bytes k)) (keys_of es)
have_keys-keys [] = refl
have_keys-keys (e ∷ es) = ap (λ b. is_job_key (string_bytes e.0) && b) (have_keys-keys es)

pub form_of : (d : Data) (ms : Members) → Some ms ≡ as_object d → has_job_form d ≡ have_job_keys ms
form_of null ms e = cc
form_of (boolean b) ms e = cc
form_of (number n) ms e = cc
form_of (string s) ms e = cc
form_of (array ds) ms e = cc
form_of (object ns) ms e = let same : ns ≡ ms = cc in ap have_job_keys same

pub no_form : (d : Data) → None ≡ as_object d → has_job_form d ≡ false
no_form null e = refl
no_form (boolean b) e = refl
no_form (number n) e = refl
no_form (string s) e = refl
no_form (array ds) e = refl
no_form (object ns) e = cc

-- ---- what asks for nothing
some_none : {A : Type 0} (o : Option A) (x : A) → o ≡ None → o ≡ Some x → ⊥
some_none {A = A} o x h k = let e : ◌≡◌ {A = Option A} None (Some x) = sym h ∙ k in cc

module _ (d : Data) (j : Job) (a : Asks d j) where
  pub wrong_form : has_job_form d ≡ false → ⊥
  wrong_form h = let e : false ≡ true = sym h ∙ a.form in cc

  pub no_manifest : manifest_at d ≡ None → ⊥
  no_manifest h = some_none (manifest_at d) a.manifest h a.there

  pub no_keys : keys_at d ≡ None → ⊥
  no_keys h = some_none (keys_at d) j.spec.keys.items h a.keys

  pub no_measures : measures_at d ≡ None → ⊥
  no_measures h = some_none (measures_at d) j.spec.measures.items h a.measures

-- ---- lists of two and of three
pub key_pair : (vs : List Value) (n e : Value) → 2 ≤ length vs → length vs < 3 → n ≡ get_or vs 0 n → e ≡ get_or vs 1 e → key_of (items_view vs) ≡ named_part (view n) (view e)
key_pair [] n e lo hi p q = absurd (omega (arith, lo))
key_pair (a ∷ []) n e lo hi p q = absurd (omega (arith, lo))
key_pair (a ∷ b ∷ []) n e lo hi p q = ap (λ x. named_part (view x) (view b)) (sym p) ∙ ap (λ x. named_part (view n) (view x)) (sym q)
key_pair (a ∷ b ∷ c ∷ vs) n e lo hi p q = absurd (omega (arith, hi))

pub short_key : (vs : List Value) → length vs < 2 → key_of (items_view vs) ≡ None
short_key [] h = refl
short_key (a ∷ []) h = refl
short_key (a ∷ b ∷ vs) h = absurd (omega (arith, h))

pub long_key : (vs : List Value) → 3 ≤ length vs → key_of (items_view vs) ≡ None
long_key [] h = absurd (omega (arith, h))
long_key (a ∷ []) h = absurd (omega (arith, h))
long_key (a ∷ b ∷ []) h = absurd (omega (arith, h))
long_key (a ∷ b ∷ c ∷ vs) h = refl

pub count_pair : (vs : List Value) (n k : Value) → 2 ≤ length vs → length vs < 3 → n ≡ get_or vs 0 n → k ≡ get_or vs 1 k → measure_of (items_view vs) ≡ named_count (view n) (view k)
count_pair [] n k lo hi p q = absurd (omega (arith, lo))
count_pair (a ∷ []) n k lo hi p q = absurd (omega (arith, lo))
count_pair (a ∷ b ∷ []) n k lo hi p q = ap (λ x. named_count (view x) (view b)) (sym p) ∙ ap (λ x. named_count (view n) (view x)) (sym q)
count_pair (a ∷ b ∷ c ∷ vs) n k lo hi p q = absurd (omega (arith, hi))

pub over_three : (vs : List Value) (n k e : Value) → 3 ≤ length vs → length vs < 4 → n ≡ get_or vs 0 n → k ≡ get_or vs 1 k → e ≡ get_or vs 2 e
    → measure_of (items_view vs) ≡ named_over (view n) (view k) (view e)
over_three [] n k e lo hi p q r = absurd (omega (arith, lo))
over_three (a ∷ []) n k e lo hi p q r = absurd (omega (arith, lo))
over_three (a ∷ b ∷ []) n k e lo hi p q r = absurd (omega (arith, lo))
over_three (a ∷ b ∷ c ∷ []) n k e lo hi p q r =
    ap (λ x. named_over (view x) (view b) (view c)) (sym p) ∙ ap (λ x. named_over (view n) (view x) (view c)) (sym q) ∙ ap (λ x. named_over (view n) (view k) (view x)) (sym r)
over_three (a ∷ b ∷ c ∷ d ∷ vs) n k e lo hi p q r = absurd (omega (arith, hi))

pub short_measure : (vs : List Value) → length vs < 2 → measure_of (items_view vs) ≡ None
short_measure [] h = refl
short_measure (a ∷ []) h = refl
short_measure (a ∷ b ∷ vs) h = absurd (omega (arith, h))

pub long_measure : (vs : List Value) → 4 ≤ length vs → measure_of (items_view vs) ≡ None
long_measure [] h = absurd (omega (arith, h))
long_measure (a ∷ []) h = absurd (omega (arith, h))
long_measure (a ∷ b ∷ []) h = absurd (omega (arith, h))
long_measure (a ∷ b ∷ c ∷ []) h = absurd (omega (arith, h))
long_measure (a ∷ b ∷ c ∷ d ∷ vs) h = refl

-- ---- refusals
pub bad_none : {T : Type 0} (o : Option T) (e : ParseFault) → IsParse o (Err e) → e ≡ Bad → o ≡ None
bad_none o Bad h k = h
bad_none o NoMemory h k = cc

pub bad_list : {T : Type 0} (o : Option (List T)) (e : ParseFault) → IsParseBy (λ (v : Vec T Global). v.items) o (Err e) → e ≡ Bad → o ≡ None
bad_list o Bad h k = h
bad_list o NoMemory h k = cc

-- ---- the files of a job agree
-- what a step gives is made of what was there
stepped : {X Y : Type 0} (P : Y → Type 0) (f : X → Option Y) (o : Option X) (y : Y) → ((x : X) → o ≡ Some x → f x ≡ Some y → P y) → option_and_then f o ≡ Some y → P y
stepped P f None y step h = cc
stepped P f (Some x) y step h = step x refl h

mapped : {X Y : Type 0} (P : Y → Type 0) (f : X → Y) (o : Option X) (y : Y) → ((x : X) → P (f x)) → option_map f o ≡ Some y → P y
mapped P f None y step h = cc
mapped P f (Some x) y step h = let e : f x ≡ y = cc in subst P e (step x)

chosen : {Y : Type 0} (P : Y → Type 0) (b : Bool) (o : Option Y) (y : Y) → (b ≡ true → o ≡ Some y → P y) → cond b o None ≡ Some y → P y
chosen P true o y step h = step refl h
chosen P false o y step h = cc

abbrev Agreed : Manifest → Type 0
Agreed m = all_agree m.files ≡ true

-- the manifest with such parts
with_parts : {W C Q : Type 0} (P : Manifest → Type 0) (f : W → C → Q → Manifest) (ow : Option W) (oc : Option C) (oq : Option Q) (m : Manifest) → ((w : W) (c : C) (q : Q) → P (f w c q))
    → option_and_then (λ w. option_and_then (λ c. option_map (f w c) oq) oc) ow ≡ Some m → P m
with_parts P f ow oc oq m all h =
    stepped P (λ w. option_and_then (λ c. option_map (f w c) oq) oc) ow m (λ w _ hw. stepped P (λ c. option_map (f w c) oq) oc m (λ c _ hc. mapped P (f w c) oq m (all w c) hc) hw) h

files_are : (d : Data) (dtype : DataType) (fs : List FileSpec) (m : Manifest) → manifest_with d dtype fs ≡ Some m → Agreed m
files_are d dtype fs m h =
    chosen Agreed (all_agree fs)
    (option_and_then (λ workers. option_and_then (λ cache. option_map (λ request. record { dtype = dtype; files = fs; request = request; workers = workers; cache = cache })
    (option_and_then request_in (get (codes "request") d)))
    (optional usual_cache cache_in (get (codes "cache") d)))
    (optional 1 (number_to 256) (get (codes "workers") d)))
    m
    (λ yes k. with_parts Agreed (λ workers cache request. record { dtype = dtype; files = fs; request = request; workers = workers; cache = cache })
    (optional 1 (number_to 256) (get (codes "workers") d)) (optional usual_cache cache_in (get (codes "cache") d)) (option_and_then request_in (get (codes "request") d)) m (λ w c q. yes) k)
    h

manifest_files : (d : Data) (m : Manifest) → manifest_in d ≡ Some m → Agreed m
manifest_files d m h =
    chosen Agreed _ (option_and_then (λ dtype. option_and_then (manifest_with d dtype) (files_in dtype d)) (option_and_then dtype_in (get (codes "dtype") d))) m
    (λ yes k. stepped Agreed (λ dtype. option_and_then (manifest_with d dtype) (files_in dtype d)) (option_and_then dtype_in (get (codes "dtype") d)) m
    (λ dtype _ hd. stepped Agreed (manifest_with d dtype) (files_in dtype d) m (λ fs _ hf. files_are d dtype fs m hf) hd) k)
    h

same_some : {A : Type 0} (x y : A) → Some x ≡ Some y → x ≡ y
same_some x y e = cc

rooted_files : (d : Data) (m : Manifest) → option_and_then rooted (manifest_in d) ≡ Some m → Agreed m
rooted_files d m h =
    stepped Agreed rooted (manifest_in d) m
    (λ n at k. chosen Agreed (is_root n.request.projection) (Some n) m (λ yes e. subst Agreed (same_some n m e) (manifest_files d n at)) k)
    h

free_files : (d : Data) (m : Manifest) → free_manifest_in d ≡ Some m → Agreed m
free_files d m h =
    stepped Agreed (λ r. cond (is_free r) (option_and_then rooted (manifest_in d)) None) (get (codes "request") d) m
    (λ r _ k. chosen Agreed (is_free r) (option_and_then rooted (manifest_in d)) m (λ yes e. rooted_files d m e) k)
    h

pub job_agrees : (bytes : List ℕ) (j : Job) → IsJob bytes j → all_agree j.files ≡ true
job_agrees bytes j (d, s, a) =
    let at : Agreed a.manifest = stepped Agreed free_manifest_in (get (codes "manifest") d) a.manifest (λ x _ h. free_files x a.manifest h) a.there in
    subst (λ (fs : List FileSpec). all_agree fs ≡ true) (sym a.of.files) at

same_err : {A : Type 0} (e f : ParseFault) → ◌≡◌ {A = Result A ParseFault} (Err e) (Err f) → e ≡ f
same_err e f h = cc

-- a refusal that was handed on
pub same_fault : {A : Type 0} (r : Result A ParseFault) (e f : ParseFault) → r ≡ Err e → e ≡ f → r ≡ Err Bad → f ≡ Bad
same_fault r e f h k b = sym k ∙ same_err e Bad (sym h ∙ b)

-- ---- bytes that ask for nothing
pub no_other : (bytes : List ℕ) (d : Data) → read bytes ≡ Some d → ((j : Job) → Asks d j → ⊥) → (j : Job) → IsJob bytes j → ⊥
no_other bytes d e none j (x, s, a) = none j (subst (λ z. Asks z j) (same_some x d (sym s.1 ∙ e)) a)
