-- Lines of the same words are spelled alike, and refused alike.
use Rattle.std.proofs.Common.{◌≡◌, ℕ, Bool, false, List, map, refl}
use Rattle.ngql_lex.specs.Lines.{without_cr}
use Rattle.ngql_syntax.specs.declared.statement.Line.{Line}
use Rattle.ngql_parser.specs.declared.token.Token.{Token}
use Rattle.ngql_parser.specs.Alike.{SameLine}
use Rattle.ngql_parser.specs.Places.{bare_token, bare_line}
use Rattle.ngql_parser.specs.Promise.{Tokens, Spells, Misfits, tokens_in}
use Rattle.ngql_parser.specs.Rules.{ngql, line}
use Rattle.ngql_parser.proofs.Bare.{bare_steps, not_of_bare, line_bare}
use Rattle.ngql_parser.proofs.Forgotten.{spelled_alike}
use Rattle.ngql_parser.proofs.RefusedAlike.{misfit_alike}
use Rattle.ngql_parser.proofs.SameWords.{line_same}

pub alike_lines : (version : ℕ) (one other : List ℕ) (l : Line) (s : Spells version one l) (t : Tokens version other) → SameLine (without_cr one) (without_cr other) s.tokens.lexed t.lexed →
    (m : Line) × Spells version other m × (bare_line m ≡ bare_line l)
alike_lines version one other l s t same =
    let a = spelled_alike ngql false bare_token (λ t. refl) bare_steps not_of_bare.keeps line bare_line line_bare.keeps (tokens_in version one s.tokens) (tokens_in version other t) l s.line
    (line_same (without_cr one) (without_cr other) version s.tokens.lexed t.lexed same) in
    (a.0, record { tokens = t; line = a.1 }, a.2)

pub misfits_alike : (version : ℕ) (one other : List ℕ) (s : Tokens version one) (t : Tokens version other) → SameLine (without_cr one) (without_cr other) s.lexed t.lexed →
    (of_limits : Bool) (rest : List Token) → Misfits (tokens_in version one s) of_limits rest → (behind : List Token) × Misfits (tokens_in version other t) of_limits behind × (map bare_token rest ≡ map bare_token behind)
misfits_alike version one other s t same of_limits rest m =
    misfit_alike ngql bare_token (λ t. refl) bare_steps not_of_bare.keeps line bare_line line_bare.keeps (tokens_in version one s) (tokens_in version other t) of_limits rest m
    (line_same (without_cr one) (without_cr other) version s.lexed t.lexed same)
