-- CREATE in its plain form is spelled.
use Rattle.std.proofs.Common.{◌≡◌, ℕ, pos, ◌≤◌, Bool, true, false, inl, inr, List, [], ◌∷◌, ◌++◌, length, Option, Some, None, refl, sym, arith, nat_le}
use Rattle.std.proofs.lemmas.Bool.{cond-true, le-leb}
use Rattle.grammar.specs.Language.{Again, Spelled}
use Rattle.grammar.specs.Meaning.{may_stand}
use Rattle.graph_model.specs.declared.val.Val.{Val}
use Rattle.ngql_syntax.specs.declared.cond.RawStep.{RawStep}
use Rattle.ngql_syntax.specs.declared.define.Column.{Column}
use Rattle.ngql_syntax.specs.declared.define.Define.TheVariants as define
use Rattle.ngql_syntax.specs.declared.define.Kind.{Kind as ColumnKind}
use Rattle.ngql_syntax.specs.declared.define.Kind.TheVariants as column_kind
use Rattle.ngql_syntax.specs.declared.spanned.Spanned.{Spanned}
use Rattle.ngql_syntax.specs.declared.statement.Statement.TheVariants as statement
use Rattle.part_keys.specs.declared.vid_kind.VidKind.{VidKind}
use Rattle.part_keys.specs.declared.vid_kind.VidKind.TheVariants as ids
use Rattle.ngql_parser.specs.declared.kind.Kind.TheVariants as kind
use Rattle.ngql_parser.specs.declared.option.Opt.TheVariants as opt
use Rattle.ngql_parser.specs.declared.option.Options.{Options}
use Rattle.ngql_parser.specs.declared.token.Token.{Token}
use Rattle.ngql_parser.specs.Kinds.{code}
use Rattle.ngql_parser.specs.Plain.{mark, plain_name, plain_value, number_at, plain_ine, commas, bracketed}
use Rattle.ngql_parser.specs.PlainDefines.{set_to, plain_ids, plain_options, AreIds, AreOptions, plain_space, type_kind, plain_nullness, plain_standard, plain_column, plain_shape, plain_tag, plain_edge_type}
use Rattle.ngql_parser.specs.Rules as rule
use Rattle.ngql_parser.specs.Rules.{Rule, ngql, kind_of}
use Rattle.ngql_parser.proofs.Printed.{Says, int_case, name_said, lit_said, ine_said, limited_said}

small_is : (n : ℕ) → n ≤ 64 → n ≡ rule.small (pos n)
small_is n le = sym (cond-true (nat_le n 64) n 0 (le-leb n 64 le))

module _ (Inner : List Token → List RawStep → Type 0) where
  number_said : (n : ℕ) → n ≤ 64 → Says Inner rule.option_number (number_at (pos n) 0 ∷ []) n
  unfolding rule.option_number
  number_said n le = (
    number_at (pos n) 0,
    refl,
    int_case (λ k. may_stand false (code kind.SmallInt ∷ code kind.Int ∷ code kind.WideInt ∷ []) [] (code k) ≡ true) (pos n) refl refl,
    small_is n le,
  )

  set_said : (n : ℕ) → n ≤ 64 → Says Inner rule.set_to (mark kind.Equals ∷ number_at (pos n) 0 ∷ []) n
  unfolding rule.set_to
  set_said n le = (mark kind.Equals ∷ [], number_at (pos n) 0 ∷ [], 0, n, refl, (mark kind.Equals, refl, refl, refl), number_said n le, refl)

  parts_said : (n : ℕ) → n ≤ 64 → Says Inner rule.opt_of (set_to kind.PartsWord (number_at (pos n) 0 ∷ [])) (opt.Parts n)
  unfolding rule.opt_of rule.parts_opt
  parts_said n le = inl (mark kind.PartsWord ∷ [], mark kind.Equals ∷ number_at (pos n) 0 ∷ [], 0, n, refl, (mark kind.PartsWord, refl, refl, refl), set_said n le, refl)

  factor_said : (n : ℕ) → n ≤ 64 → Says Inner rule.opt_of (set_to kind.FactorWord (number_at (pos n) 0 ∷ [])) (opt.Factor n)
  unfolding rule.opt_of rule.factor_opt
  factor_said n le = inr (inl (mark kind.FactorWord ∷ [], mark kind.Equals ∷ number_at (pos n) 0 ∷ [], 0, n, refl, (mark kind.FactorWord, refl, refl, refl), set_said n le, refl))

  ids_behind_said : (v : VidKind) → AreIds v → Says Inner rule.ids_behind (plain_ids v) v
  unfolding rule.ids_behind rule.number_ids rule.text_ids
  ids_behind_said ids.Num h = inl (mark kind.Int64Word, refl, refl, refl)
  ids_behind_said (ids.Name n) h =
      let le : n ≤ 64 = let most = h.1 in omega arith in
      inr (
        mark kind.FixedWord ∷ [],
        bracketed (number_at (pos n) 0 ∷ []),
        0,
        n,
        refl,
        (mark kind.FixedWord, refl, refl, refl),
        (
          mark kind.Open ∷ [],
          number_at (pos n) 0 ∷ mark kind.Close ∷ [],
          0,
          n,
          refl,
          (mark kind.Open, refl, refl, refl),
          (number_at (pos n) 0 ∷ [], mark kind.Close ∷ [], n, 0, refl, number_said n le, (mark kind.Close, refl, refl, refl), refl),
          refl,
        ),
        refl,
      )

  ids_said : (v : VidKind) → AreIds v → Says Inner rule.opt_of (set_to kind.IdsWord (plain_ids v)) (opt.Ids v)
  unfolding rule.opt_of rule.ids_opt rule.ids_kind
  ids_said v h = inr (inr (
    mark kind.IdsWord ∷ [],
    mark kind.Equals ∷ plain_ids v,
    0,
    v,
    refl,
    (mark kind.IdsWord, refl, refl, refl),
    (mark kind.Equals ∷ [], plain_ids v, 0, v, refl, (mark kind.Equals, refl, refl, refl), ids_behind_said v h, refl),
    refl,
  ))

  factor_within : (o : Options) → AreOptions o → o.factor ≤ 64
  factor_within o h =
      elim h.factor [
        | inl e ↦ omega arith
        | inr (inl e) ↦ omega arith
        | inr (inr e) ↦ omega arith
      ]

  options_said : (o : Options) → AreOptions o → Says Inner rule.options (bracketed (plain_options o)) o
  unfolding rule.options rule.opt_list
  options_said o h =
      let parts = set_to kind.PartsWord (number_at (pos o.parts) 0 ∷ []) in
      let factor = set_to kind.FactorWord (number_at (pos o.factor) 0 ∷ []) in
      let of_ids = set_to kind.IdsWord (plain_ids o.ids) in
      let opts = opt.Parts o.parts ∷ opt.Factor o.factor ∷ opt.Ids o.ids ∷ [] in
      let le : o.parts ≤ 64 = h.parts.1 in
      inr (
        opts,
        (
          mark kind.Open ∷ [],
          plain_options o ++ mark kind.Close ∷ [],
          0,
          opts,
          refl,
          (mark kind.Open, refl, refl, refl),
          (
            plain_options o,
            mark kind.Close ∷ [],
            opts,
            0,
            refl,
            (
              opts,
              (
                parts,
                parts_said o.parts le,
                refl,
                inr (
                  mark kind.Comma,
                  factor ++ mark kind.Comma ∷ of_ids,
                  refl,
                  refl,
                  (factor, factor_said o.factor (factor_within o h), refl, inr (mark kind.Comma, of_ids, refl, refl, (of_ids, ids_said o.ids h.ids, refl, inl (refl, refl)))),
                ),
              ),
              refl,
            ),
            (mark kind.Close, refl, refl, refl),
            refl,
          ),
          refl,
        ),
        refl,
      )

  space_said : (n : Spanned) (o : Options) (absent : Bool) → AreOptions o → Says Inner rule.create (plain_space n o absent) (statement.Make (define.Space n o.parts o.factor o.ids absent))
  unfolding rule.create rule.defined rule.space
  space_said n o absent h =
      let options = bracketed (plain_options o) in
      let body = plain_ine absent ++ plain_name n ∷ options in (
        mark kind.Create ∷ [],
        mark kind.Space ∷ body,
        0,
        define.Space n o.parts o.factor o.ids absent,
        refl,
        (mark kind.Create, refl, refl, refl),
        inl (
          mark kind.Space ∷ [],
          body,
          0,
          (absent, (n, o)),
          refl,
          (mark kind.Space, refl, refl, refl),
          (plain_ine absent, plain_name n ∷ options, absent, (n, o), refl, ine_said Inner absent, (plain_name n ∷ [], options, n, o, refl, name_said Inner n, options_said o h, refl), refl),
          refl,
        ),
        refl,
      )

  -- columns
  type_said : (k : ColumnKind) → Says Inner rule.column_type (mark (type_kind k) ∷ []) k
  unfolding rule.column_type
  type_said column_kind.Int = (mark kind.Int64Word, refl, refl, refl)
  type_said column_kind.Flag = (mark kind.BoolWord, refl, refl, refl)
  type_said column_kind.Words = (mark kind.StringWord, refl, refl, refl)

  nullness_said : (b : Bool) → Says Inner rule.nullness (plain_nullness b) b
  unfolding rule.nullness rule.not_null
  nullness_said true = inr (true, inl (mark kind.Null, refl, refl, refl), refl)
  nullness_said false = inr (false, inr (mark kind.Not ∷ [], mark kind.Null ∷ [], 0, 0, refl, (mark kind.Not, refl, refl, refl), (mark kind.Null, refl, refl, refl), refl), refl)

  standard_said : (v : Option Val) → Says Inner rule.standard (plain_standard v) v
  unfolding rule.standard
  standard_said None = inl (refl, refl)
  standard_said (Some v) = inr (v, (mark kind.Default ∷ [], plain_value v 0 ∷ [], 0, record { val = v; at = 0 }, refl, (mark kind.Default, refl, refl, refl), lit_said Inner v 0, refl), refl)

  column_said : (c : Column) → Says Inner rule.col (plain_column c) c
  unfolding rule.col
  column_said c =
      let behind = plain_nullness c.nullable ++ plain_standard c.standard in
      let n : Spanned = record { text = c.name; at = 0 } in (
        plain_name n ∷ [],
        mark (type_kind c.kind) ∷ behind,
        n,
        (c.kind, (c.nullable, c.standard)),
        refl,
        name_said Inner n,
        (
          mark (type_kind c.kind) ∷ [],
          behind,
          c.kind,
          (c.nullable, c.standard),
          refl,
          type_said c.kind,
          (plain_nullness c.nullable, plain_standard c.standard, c.nullable, c.standard, refl, nullness_said c.nullable, standard_said c.standard, refl),
          refl,
        ),
        refl,
      )

  shape_said : (n : Spanned) (columns : List Column) (absent : Bool) → length columns ≤ 32 → Says Inner rule.shape (plain_shape n columns absent) (absent, (n, columns))
  unfolding rule.shape rule.columns
  shape_said n columns absent le =
      let cols = bracketed (commas plain_column columns) in
      (plain_ine absent, plain_name n ∷ cols, absent, (n, columns), refl, ine_said Inner absent, (plain_name n ∷ [], cols, n, columns, refl, name_said Inner n, limited_said Inner 32 rule.col plain_column column_said columns le, refl), refl)

  tag_said : (n : Spanned) (columns : List Column) (absent : Bool) → length columns ≤ 32 → Says Inner rule.create (plain_tag n columns absent) (statement.Make (define.Tag n columns absent))
  unfolding rule.create rule.defined rule.tag
  tag_said n columns absent le =
      let shape = plain_shape n columns absent in (
        mark kind.Create ∷ [],
        mark kind.Tag ∷ shape,
        0,
        define.Tag n columns absent,
        refl,
        (mark kind.Create, refl, refl, refl),
        inr (inl (mark kind.Tag ∷ [], shape, 0, (absent, (n, columns)), refl, (mark kind.Tag, refl, refl, refl), shape_said n columns absent le, refl)),
        refl,
      )

  edge_type_said : (n : Spanned) (columns : List Column) (absent : Bool) → length columns ≤ 32 → Says Inner rule.create (plain_edge_type n columns absent) (statement.Make (define.Edge n columns absent))
  unfolding rule.create rule.defined rule.edge
  edge_type_said n columns absent le =
      let shape = plain_shape n columns absent in (
        mark kind.Create ∷ [],
        mark kind.Edge ∷ shape,
        0,
        define.Edge n columns absent,
        refl,
        (mark kind.Create, refl, refl, refl),
        inr (inr (mark kind.Edge ∷ [], shape, 0, (absent, (n, columns)), refl, (mark kind.Edge, refl, refl, refl), shape_said n columns absent le, refl)),
        refl,
      )

pub space_printed : (n : Spanned) (o : Options) (absent : Bool) → AreOptions o → Spelled ngql false rule.stmt (plain_space n o absent) (statement.Make (define.Space n o.parts o.factor o.ids absent))
unfolding rule.stmt
space_printed n o absent h = (0, inl (space_said (Again ngql false 0) n o absent h))

pub tag_printed : (n : Spanned) (columns : List Column) (absent : Bool) → length columns ≤ 32 → Spelled ngql false rule.stmt (plain_tag n columns absent) (statement.Make (define.Tag n columns absent))
unfolding rule.stmt
tag_printed n columns absent le = (0, inl (tag_said (Again ngql false 0) n columns absent le))

pub edge_type_printed : (n : Spanned) (columns : List Column) (absent : Bool) → length columns ≤ 32 → Spelled ngql false rule.stmt (plain_edge_type n columns absent) (statement.Make (define.Edge n columns absent))
unfolding rule.stmt
edge_type_printed n columns absent le = (0, inl (edge_type_said (Again ngql false 0) n columns absent le))
