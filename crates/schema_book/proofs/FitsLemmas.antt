-- Rows and ids that aren't refused fit.
use Rattle.std.proofs.Common.{◌≡◌, ℕ, suc, ◌+◌, min, ◌&&◌, ◌||◌, not, is_some, is_none, Bool, true, false, cond, List, [], ◌∷◌, ◌++◌, length, length-take, map, take, slice_get, Option, None, Some, nat_lt, nat_le, if◌then◌else◌, refl, sym, ap, subst, ◌∙◌, append_assoc, zero-add, arith}
use Rattle.std.proofs.lemmas.Slice.Eq.{bytes_eq-Decides}
use Rattle.std.specs.List.{position_from}
use Rattle.std.specs.Option.{option_and_then, option_map_or, option_or, unwrap_or}
use Rattle.std.specs.Str.{bytes_eq}
use Rattle.graph_model.specs.declared.val.Val.{Val}
use Rattle.graph_model.specs.declared.val.Val.TheVariants as val
use Rattle.part_keys.specs.Kinds.{is_id_of, is_edge_of}
use Rattle.part_keys.specs.declared.vid_kind.VidKind.{VidKind}
use Rattle.part_keys.specs.declared.vid_kind.VidKind.TheVariants as kinds
use Rattle.ngql_syntax.specs.declared.define.Column.{Column}
use Rattle.ngql_syntax.specs.declared.lit.Lit.{Lit}
use Rattle.ngql_syntax.specs.declared.put.Ends.{Ends}
use Rattle.ngql_syntax.specs.declared.spanned.Spanned.{Spanned}
use Rattle.schema_book.specs.declared.refused.BookRefused.{BookRefused}
use Rattle.schema_book.specs.Columns.{bad_column, column_place, fits, is_sound, are_sound}
use Rattle.schema_book.specs.Fits.{take_row}
use Rattle.schema_book.specs.Ids.{is_vid, is_long, vid_of, edge_of, wrong_vid, long_vid, wrong_ends, long_ends}
use Rattle.schema_book.specs.Refusals.{unless}
use Rattle.schema_book.specs.Rows.{name_place, column_of, misfit, wrong_value, not_set, value_or, value_for, row_of}

-- what isn't refused
pub or_none : (a b : Option BookRefused) → option_or a b ≡ None → (a ≡ None) × (b ≡ None)
or_none None b h = (refl, h)
or_none (Some x) b h = cc

pub unless_none : (test : Bool) (why : BookRefused) → unless test why ≡ None → test ≡ true
unless_none true why h = refl
unless_none false why h = cc

pub and_true : (a b : Bool) → (a && b) ≡ true → (a ≡ true) × (b ≡ true)
and_true true b h = (refl, h)
and_true false b h = cc

pub both : {a b : Bool} → a ≡ true → b ≡ true → (a && b) ≡ true
both p q = λ i. p i && q i

not_true : (a : Bool) → not a ≡ true → a ≡ false
not_true true h = cc
not_true false h = refl

-- an id that is refused neither for its kind nor for its length is of the kind
short_enough : (text : List ℕ) (most : ℕ) → nat_lt (min most 32) (length text) ≡ false → nat_le (length (take 32 text)) most ≡ true
short_enough text most h = grind (arith, length-take 32 text)

value_id : (ids : VidKind) (v : Val) → is_vid ids v ≡ true → is_long ids v ≡ false → is_id_of ids (vid_of v) ≡ true
value_id kinds.Num val.Null h l = refl
value_id kinds.Num (val.Int n) h l = refl
value_id kinds.Num (val.Flag b) h l = cc
value_id kinds.Num (val.Words text) h l = cc
value_id (kinds.Name most) val.Null h l = cc
value_id (kinds.Name most) (val.Int n) h l = cc
value_id (kinds.Name most) (val.Flag b) h l = cc
value_id (kinds.Name most) (val.Words text) h l = short_enough text most l

pub id_fits : (ids : VidKind) (lit : Lit) → wrong_vid ids lit ≡ None → long_vid ids lit ≡ None → is_id_of ids (vid_of lit.val) ≡ true
id_fits ids lit w l = value_id ids lit.val (unless_none (is_vid ids lit.val) _ w) (not_true (is_long ids lit.val) (unless_none (not (is_long ids lit.val)) _ l))

pub ends_fit : (ids : VidKind) (place : ℕ) (ends : Ends) → wrong_ends ids ends ≡ None → long_ends ids ends ≡ None → is_edge_of ids (edge_of place ends) ≡ true
ends_fit ids place ends w l =
    let p = or_none (wrong_vid ids ends.src) _ w in
    let q = or_none (wrong_vid ids ends.dst) _ p.1 in
    let r = or_none (long_vid ids ends.src) _ l in
    let s = or_none (long_vid ids ends.dst) _ r.1 in
    both (id_fits ids ends.src p.0 r.0) (id_fits ids ends.dst q.0 s.0)

-- the value that stands for a listed name fits the column of that name
record Given (whole : List Column) (name : List ℕ) (values : List Lit) (least place : ℕ) : Type 0 where
  behind : ℕ
  lit : Lit
  is : place ≡ least + behind
  at : slice_get values behind ≡ Some lit
  fitting : misfit (column_of whole name) lit ≡ None

given_by : (whole : List Column) (name : List ℕ) (x : Spanned) (v : Lit) (values : List Lit) (least place : ℕ) (b : Bool) (rest : Option ℕ)
    → bytes_eq name x.text ≡ b → misfit (column_of whole x.text) v ≡ None → cond b (Some least) rest ≡ Some place → (rest ≡ Some place → Given whole name values (least + 1) place)
    → Given whole name (v ∷ values) least place
given_by whole name x v values least place true rest same m h below = record {
  behind = 0;
  lit = v;
  is = let e : least ≡ place = cc in omega (arith, e);
  at = refl;
  fitting = subst (λ t. misfit (column_of whole t) v ≡ None) (sym ((bytes_eq-Decides name x.text).0 same)) m;
}
given_by whole name x v values least place false rest other m h below =
    let g = below h in
    record { behind = suc g.behind; lit = g.lit; is = let e = g.is in omega (arith, e); at = g.at; fitting = g.fitting }

given_at : (whole : List Column) (name : List ℕ) (names : List Spanned) (values : List Lit) (least place : ℕ)
    → wrong_value whole names values ≡ None → length values ≡ length names → position_from (λ x. bytes_eq name x.text) least names ≡ Some place
    → Given whole name values least place
unfolding wrong_value
given_at whole name [] values least place w l h = cc
given_at whole name (x ∷ names) [] least place w l h = let e : 0 ≡ suc (length names) = l in let none : ⊥ = omega (arith, e) in absurd none
given_at whole name (x ∷ names) (v ∷ values) least place w l h =
    let p = or_none (misfit (column_of whole x.text) v) (wrong_value whole names values) w in
    let long : length values ≡ length names = let e : suc (length values) ≡ suc (length names) = l in omega (arith, e) in
    given_by whole name x v values least place (bytes_eq name x.text) (position_from (λ y. bytes_eq name y.text) (least + 1) names) refl p.0 h
    (given_at whole name names values (least + 1) place p.1 long)

-- a column that isn't listed
standard_by : (f : Val → Bool) (nullable : Bool) (o : Option Val) → f val.Null ≡ nullable → option_map_or f o true ≡ true → (is_some o || nullable) ≡ true → f (unwrap_or o val.Null) ≡ true
standard_by f nullable None is s h = is ∙ h
standard_by f nullable (Some v) is s h = s

fits_found : (c : Column) (lit : Lit) (o : Option Column) → o ≡ Some c → misfit o lit ≡ None → fits c lit.val ≡ true
fits_found c lit None is m = cc
fits_found c lit (Some d) is m = let e : d ≡ c = cc in subst (λ k. fits k lit.val ≡ true) e (unless_none (fits d lit.val) _ m)

value_fits : (whole : List Column) (names : List Spanned) (values : List Lit) (c : Column) (o : Option ℕ)
    → name_place names c.name ≡ o → wrong_value whole names values ≡ None → length values ≡ length names → column_of whole c.name ≡ Some c → is_sound c ≡ true
    → (is_some o || (is_some c.standard || c.nullable)) ≡ true → fits c (value_or c (option_and_then (λ i. slice_get values i) o)) ≡ true
value_fits whole names values c None at w l own sound set = standard_by (λ v. fits c v) c.nullable c.standard refl sound set
value_fits whole names values c (Some place) at w l own sound set =
    let g = given_at whole c.name names values 0 place w l at in
    let here : slice_get values place ≡ Some g.lit = ap (slice_get values) (let e = g.is in omega (arith, e)) ∙ g.at in
    subst (λ o. fits c (value_or c o) ≡ true) (sym here) (fits_found c g.lit (column_of whole c.name) own g.fitting)

-- a column whose name stands before no other is the column of its name
cond_none : (b : Bool) (n : ℕ) (o : Option ℕ) → is_some (cond b (Some n) o) ≡ false → (b ≡ false) × (is_some o ≡ false)
cond_none true n o h = cc
cond_none false n o h = (refl, h)

behind_all : (p : Column → Bool) (before : List Column) (c : Column) (rest : List Column) (n : ℕ) → is_some (position_from p n before) ≡ false → p c ≡ true
    → position_from p n (before ++ c ∷ rest) ≡ Some (n + length before)
behind_all p [] c rest n none here = ap (λ b. cond b (Some n) (position_from p (n + 1) rest)) here ∙ ap Some (let e : n ≡ n + 0 = omega arith in e)
behind_all p (d ∷ before) c rest n none here =
    let q = cond_none (p d) n (position_from p (n + 1) before) none in
    ap (λ b. cond b (Some n) (position_from p (n + 1) (before ++ c ∷ rest))) q.0 ∙ behind_all p before c rest (n + 1) q.1 here
    ∙ ap Some (let e : (n + 1) + length before ≡ n + suc (length before) = omega arith in e)

at_behind : (before : List Column) (c : Column) (rest : List Column) → slice_get (before ++ c ∷ rest) (length before) ≡ Some c
at_behind [] c rest = refl
at_behind (d ∷ before) c rest = at_behind before c rest

own_column : (before : List Column) (c : Column) (rest : List Column) → is_some (column_place before c.name) ≡ false → column_of (before ++ c ∷ rest) c.name ≡ Some c
own_column before c rest none =
    ap (option_and_then (λ i. slice_get (before ++ c ∷ rest) i)) (behind_all (λ d. bytes_eq c.name d.name) before c rest 0 none ((bytes_eq-Decides c.name c.name).1 refl) ∙ ap Some (zero-add (length before)))
    ∙ at_behind before c rest

sound_by : (a b : Bool) (x y : BookRefused) (rest : Option BookRefused) → (if a then Some x else if b then rest else Some y) ≡ None → (a ≡ false) × (b ≡ true) × (rest ≡ None)
sound_by true b x y rest h = cc
sound_by false true x y rest h = (refl, refl, h)
sound_by false false x y rest h = cc

rows_by : (whole : List Column) (names : List Spanned) (values : List Lit) → wrong_value whole names values ≡ None → length values ≡ length names
    → (before columns : List Column) → whole ≡ before ++ columns → bad_column before columns ≡ None → not_set columns names ≡ None
    → take_row columns (map (value_for names values) columns) ≡ true
unfolding not_set
rows_by whole names values w l before [] is sound set = refl
rows_by whole names values w l before (c ∷ columns) is sound set =
    let p = sound_by (is_some (column_place before c.name)) (is_sound c) _ _ (bad_column (before ++ c ∷ []) columns) sound in
    let q = or_none _ (not_set columns names) set in
    let own : column_of whole c.name ≡ Some c = ap (λ cs. column_of cs c.name) is ∙ own_column before c columns p.0 in
    both
    (value_fits whole names values c (name_place names c.name) refl w l own p.1 (unless_none _ _ q.0))
    (rows_by whole names values w l (before ++ c ∷ []) columns (is ∙ sym (append_assoc before (c ∷ []) columns)) p.2 q.1)

none_is : {A : Type 0} (o : Option A) → is_none o ≡ true → o ≡ None
none_is None h = refl
none_is (Some x) h = cc

-- the row of an INSERT that isn't refused
pub row_fits : (columns : List Column) (names : List Spanned) (values : List Lit) → are_sound columns ≡ true → wrong_value columns names values ≡ None → length values ≡ length names
    → not_set columns names ≡ None → take_row columns (row_of columns names values) ≡ true
unfolding row_of
row_fits columns names values sound w l set = rows_by columns names values w l [] columns refl (none_is _ sound) set
