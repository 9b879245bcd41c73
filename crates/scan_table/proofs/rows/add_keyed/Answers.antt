use Rattle.std.proofs.Common.{◌≡◌, ℕ, [], ◌∷◌, length, map, sym, ◌∙◌, subst}
use Rattle.std.specs.Prelude.{MatchOption}
use Rattle.std.proofs.lemmas.List.{length-map}
use Rattle.scan_values.specs.Val.{Val}
use Rattle.scan_columns.specs.Cells.{vals_in}
use Rattle.scan_columns.specs.Nested.{AreLong}
use Rattle.scan_groups.specs.Running.{HavePlaces}
use Rattle.scan_table.proofs.Columned.{added_keyed}
use Rattle.scan_table.proofs.rows.add_keyed.Goals as goal

pub read_all-requires : goal.read_all-requires
read_all-requires c =
    let old = c.args.groups.now in
    let mid = c.place_keys.new.groups in
    let vs = vals_in c.args.key.now in
    let have : (keys : ℕ) → HavePlaces keys (map (λ (v : Val). v ∷ []) vs) c.in-Some.places old mid =
    subst (λ o. MatchOption o (mid ≡ old) (λ ps. (keys : ℕ) → HavePlaces keys (map (λ (v : Val). v ∷ []) vs) ps old mid)) c.in-Some.is c.in_ok-places.ensures in
    let n : length c.in-Some.places ≡ length vs = (have 1).even ∙ length-map vs (λ (v : Val). v ∷ []) in
    subst (λ k. AreLong k (map vals_in c.args.columns.now)) (sym n) c.requires

pub returns-in_ok-read_all-in-Some : goal.returns-in_ok-read_all-in-Some
returns-in_ok-read_all-in-Some c =
    let old = c.args.groups.now in
    let mid = c.place_keys.new.groups in
    let vs = vals_in c.args.key.now in
    let have : (keys : ℕ) → HavePlaces keys (map (λ (v : Val). v ∷ []) vs) c.in-Some.places old mid =
    subst (λ o. MatchOption o (mid ≡ old) (λ ps. (keys : ℕ) → HavePlaces keys (map (λ (v : Val). v ∷ []) vs) ps old mid)) c.in-Some.is c.in_ok-places.ensures in
    added_keyed c.in-Some.places vs (map vals_in c.args.columns.now) old mid c.read_all.new.groups have c.requires c.in_ok-read_all-in-Some.ensures

pub returns-in-None : goal.returns-in-None
returns-in-None c =
    let old = c.args.groups.now in
    let mid = c.place_keys.new.groups in
    let vs = vals_in c.args.key.now in
    subst (λ o. MatchOption o (mid ≡ old) (λ ps. (keys : ℕ) → HavePlaces keys (map (λ (v : Val). v ∷ []) vs) ps old mid)) c.in-None.is c.in_ok-places.ensures
