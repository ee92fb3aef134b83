use Rattle.std.proofs.Common.{◌≡◌, true, false, ◌∷◌, [], sym, ◌∙◌}
use Rattle.grammar.specs.Reading.{begins_with}
use Rattle.ngql_parser.specs.declared.kind.Kind.TheVariants as kind
use Rattle.ngql_parser.specs.Kinds.{code}
use Rattle.ngql_parser.specs.Rules.{kind_of, stmt, create, use_of, insert, delete, fetch, fetch_on}
use Rattle.ngql_parser.proofs.statement.read_statement.Goals as goal

pub returns-then-is_next : goal.returns-then-is_next
unfolding stmt create use_of insert delete fetch fetch_on
returns-then-is_next c =
    let b0 : begins_with kind_of (code kind.Create ∷ []) c.args.tokens.now ≡ true = sym c.is_next.ensures ∙ c.if-is_next.true in
    rw (b0) c.read_create.ensures

pub returns-then-is_next-2 : goal.returns-then-is_next-2
unfolding stmt create use_of insert delete fetch fetch_on
returns-then-is_next-2 c =
    let b0 : begins_with kind_of (code kind.Create ∷ []) c.args.tokens.now ≡ false = sym c.is_next.ensures ∙ c.if-is_next.false in
    let b1 : begins_with kind_of (code kind.Use ∷ []) c.args.tokens.now ≡ true = sym c.is_next-2.ensures ∙ c.if-is_next-2.true in
    rw (b0, b1) c.read_use.ensures

pub returns-then-is_next-3 : goal.returns-then-is_next-3
unfolding stmt create use_of insert delete fetch fetch_on
returns-then-is_next-3 c =
    let b0 : begins_with kind_of (code kind.Create ∷ []) c.args.tokens.now ≡ false = sym c.is_next.ensures ∙ c.if-is_next.false in
    let b1 : begins_with kind_of (code kind.Use ∷ []) c.args.tokens.now ≡ false = sym c.is_next-2.ensures ∙ c.if-is_next-2.false in
    let b2 : begins_with kind_of (code kind.Insert ∷ []) c.args.tokens.now ≡ true = sym c.is_next-3.ensures ∙ c.if-is_next-3.true in
    rw (b0, b1, b2) c.read_insert.ensures

pub returns-then-is_next-4 : goal.returns-then-is_next-4
unfolding stmt create use_of insert delete fetch fetch_on
returns-then-is_next-4 c =
    let b0 : begins_with kind_of (code kind.Create ∷ []) c.args.tokens.now ≡ false = sym c.is_next.ensures ∙ c.if-is_next.false in
    let b1 : begins_with kind_of (code kind.Use ∷ []) c.args.tokens.now ≡ false = sym c.is_next-2.ensures ∙ c.if-is_next-2.false in
    let b2 : begins_with kind_of (code kind.Insert ∷ []) c.args.tokens.now ≡ false = sym c.is_next-3.ensures ∙ c.if-is_next-3.false in
    let b3 : begins_with kind_of (code kind.Delete ∷ []) c.args.tokens.now ≡ true = sym c.is_next-4.ensures ∙ c.if-is_next-4.true in
    rw (b0, b1, b2, b3) c.read_delete.ensures

pub returns-then-is_next-5 : goal.returns-then-is_next-5
unfolding stmt create use_of insert delete fetch fetch_on
returns-then-is_next-5 c =
    let b0 : begins_with kind_of (code kind.Create ∷ []) c.args.tokens.now ≡ false = sym c.is_next.ensures ∙ c.if-is_next.false in
    let b1 : begins_with kind_of (code kind.Use ∷ []) c.args.tokens.now ≡ false = sym c.is_next-2.ensures ∙ c.if-is_next-2.false in
    let b2 : begins_with kind_of (code kind.Insert ∷ []) c.args.tokens.now ≡ false = sym c.is_next-3.ensures ∙ c.if-is_next-3.false in
    let b3 : begins_with kind_of (code kind.Delete ∷ []) c.args.tokens.now ≡ false = sym c.is_next-4.ensures ∙ c.if-is_next-4.false in
    let b4 : begins_with kind_of (code kind.Fetch ∷ []) c.args.tokens.now ≡ true = sym c.is_next-5.ensures ∙ c.if-is_next-5.true in
    rw (b0, b1, b2, b3, b4) c.read_fetch.ensures

pub returns : goal.returns
unfolding stmt create use_of insert delete fetch fetch_on
returns c =
    let b0 : begins_with kind_of (code kind.Create ∷ []) c.args.tokens.now ≡ false = sym c.is_next.ensures ∙ c.if-is_next.false in
    let b1 : begins_with kind_of (code kind.Use ∷ []) c.args.tokens.now ≡ false = sym c.is_next-2.ensures ∙ c.if-is_next-2.false in
    let b2 : begins_with kind_of (code kind.Insert ∷ []) c.args.tokens.now ≡ false = sym c.is_next-3.ensures ∙ c.if-is_next-3.false in
    let b3 : begins_with kind_of (code kind.Delete ∷ []) c.args.tokens.now ≡ false = sym c.is_next-4.ensures ∙ c.if-is_next-4.false in
    let b4 : begins_with kind_of (code kind.Fetch ∷ []) c.args.tokens.now ≡ false = sym c.is_next-5.ensures ∙ c.if-is_next-5.false in
    rw (b0, b1, b2, b3, b4) c.read_go.ensures
