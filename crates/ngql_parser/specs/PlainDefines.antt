-- CREATE in its plain form, as tokens: each option of a space, and of each column whether it may be null.
use Rattle.std.specs.Prelude.{◌≡◌, ◌≤◌, ◌⊎◌, pos, Bool, true, false, List, [], ◌∷◌, ◌++◌, Option, Some, None}
use Rattle.graph_model.specs.declared.val.Val.{Val}
use Rattle.ngql_syntax.specs.declared.define.Column.{Column}
use Rattle.ngql_syntax.specs.declared.define.Kind.{Kind as ColumnKind}
use Rattle.ngql_syntax.specs.declared.define.Kind.TheVariants as column_kind
use Rattle.ngql_syntax.specs.declared.spanned.Spanned.{Spanned}
use Rattle.part_keys.specs.declared.vid_kind.VidKind.{VidKind}
use Rattle.part_keys.specs.declared.vid_kind.VidKind.TheVariants as ids
use Rattle.ngql_parser.specs.declared.kind.Kind.{Kind}
use Rattle.ngql_parser.specs.declared.kind.Kind.TheVariants as kind
use Rattle.ngql_parser.specs.declared.option.Options.{Options}
use Rattle.ngql_parser.specs.declared.token.Token.{Token}
use Rattle.ngql_parser.specs.Plain.{mark, plain_name, plain_value, number_at, plain_ine, commas, bracketed}

-- the options: the number of parts, the number of replicas, and the kind of ids
abbrev pub set_to : Kind → List Token → List Token
set_to word value = mark word ∷ mark kind.Equals ∷ value

abbrev pub plain_ids : VidKind → List Token
plain_ids ids.Num = mark kind.Int64Word ∷ []
plain_ids (ids.Name n) = mark kind.FixedWord ∷ bracketed (number_at (pos n) 0 ∷ [])

abbrev pub plain_options : Options → List Token
plain_options o = set_to kind.PartsWord (number_at (pos o.parts) 0 ∷ []) ++ mark kind.Comma ∷
    (set_to kind.FactorWord (number_at (pos o.factor) 0 ∷ []) ++ mark kind.Comma ∷ set_to kind.IdsWord (plain_ids o.ids))

-- texts as ids have 1 to 32 bytes at most
abbrev pub AreIds : VidKind → Type 0
AreIds ids.Num = Unit {0}
AreIds (ids.Name n) = (1 ≤ n) × (n ≤ 32)

-- options that are allowed
pub record AreOptions (o : Options) : Type 0 where
  pub parts : (1 ≤ o.parts) × (o.parts ≤ 64)
  pub factor : (o.factor ≡ 1) ⊎ ((o.factor ≡ 3) ⊎ (o.factor ≡ 5))
  pub ids : AreIds o.ids

abbrev pub plain_space : Spanned → Options → Bool → List Token
plain_space n o absent = mark kind.Create ∷ mark kind.Space ∷ (plain_ine absent ++ plain_name n ∷ bracketed (plain_options o))

-- a column: its name, its type, whether it may be null, and its DEFAULT
abbrev pub type_kind : ColumnKind → Kind
type_kind column_kind.Int = kind.Int64Word
type_kind column_kind.Flag = kind.BoolWord
type_kind column_kind.Words = kind.StringWord

abbrev pub plain_nullness : Bool → List Token
plain_nullness true = mark kind.Null ∷ []
plain_nullness false = mark kind.Not ∷ mark kind.Null ∷ []

abbrev pub plain_standard : Option Val → List Token
plain_standard None = []
plain_standard (Some v) = mark kind.Default ∷ plain_value v 0 ∷ []

abbrev pub plain_column : Column → List Token
plain_column c = plain_name (record { text = c.name; at = 0 }) ∷ mark (type_kind c.kind) ∷ (plain_nullness c.nullable ++ plain_standard c.standard)

-- a tag and an edge type, of 32 columns at most
abbrev pub plain_shape : Spanned → List Column → Bool → List Token
plain_shape n columns absent = plain_ine absent ++ plain_name n ∷ bracketed (commas plain_column columns)

abbrev pub plain_tag : Spanned → List Column → Bool → List Token
plain_tag n columns absent = mark kind.Create ∷ mark kind.Tag ∷ plain_shape n columns absent

abbrev pub plain_edge_type : Spanned → List Column → Bool → List Token
plain_edge_type n columns absent = mark kind.Create ∷ mark kind.Edge ∷ plain_shape n columns absent
