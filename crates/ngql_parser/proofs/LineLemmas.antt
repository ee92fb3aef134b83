-- What the reading of a whole line answers.
use Rattle.std.proofs.Common.{◌≡◌, ℕ, ◌+◌, ◌<◌, ◌≤◌, ◌^◌, inl, inr, false, List, [], ◌∷◌, length, Err, refl, ap, arith}
use Rattle.grammar.specs.Reading.{found}
use Rattle.grammar.proofs.Exact.{never_spent, found_spelled, spelled_found}
use Rattle.grammar.proofs.Whose.{misfit_whose, behind_whose}
use Rattle.ngql_parser.specs.declared.refusal.Refusal.{Refusal}
use Rattle.ngql_parser.specs.declared.refusal.Refusal.TheVariants as refusal
use Rattle.ngql_parser.specs.declared.token.Token.{Token}
use Rattle.ngql_syntax.specs.declared.statement.Line.{Line}
use Rattle.ngql_parser.specs.Gives.{Refuses}
use Rattle.ngql_lex.specs.Lines.{AreTokens, IsLexed}
use Rattle.ngql_lex.specs.declared.token.Token.{Token as Lexed}
use Rattle.ngql_parser.specs.Tokens.{ArePlaced}
use Rattle.ngql_parser.specs.declared.parse_refused.ParseRefused.{ParseRefused}
use Rattle.ngql_parser.specs.declared.parse_refused.ParseRefused.TheVariants as refused
use Rattle.ngql_parser.specs.Promise.{AreLine, Misfits, Refused, IsThis, Says, IsAnswered, AreAnswered, Unlexed}
use Rattle.ngql_parser.specs.Rules.{ngql, reads, line}
use Rattle.ngql_parser.proofs.Checked.{checked, readable}

module _ (ts : List Token) where
  enough : length ts < length ts + 1
  enough = omega arith

  pub whole_spelled : (s : Line) (rest : List Token) → reads (length ts + 1) line ts ≡ found s rest → length rest ≡ 0 → AreLine ts s
  whole_spelled s [] e empty = found_spelled ngql checked false line readable (length ts + 1) ts enough s e
  whole_spelled s (t ∷ rest) e empty = absurd (omega arith)

  pub whole_only : (s : Line) (rest : List Token) → reads (length ts + 1) line ts ≡ found s rest → (other : Line) → AreLine ts other → s ≡ other
  whole_only s rest e other h = let f = spelled_found ngql checked false line readable (length ts + 1) ts enough other h in cc

  pub more_only : (s : Line) (rest : List Token) → reads (length ts + 1) line ts ≡ found s rest → (length rest ≡ 0 → ⊥) → (other : Line) → AreLine ts other → ⊥
  more_only s rest e some other h =
      let f = spelled_found ngql checked false line readable (length ts + 1) ts enough other h in
      let none : rest ≡ [] = cc in
      some (ap length none)

  pub more_misfit : (s : Line) (rest : List Token) → reads (length ts + 1) line ts ≡ found s rest → (length rest ≡ 0 → ⊥) → Misfits ts false rest
  more_misfit s [] e some = absurd (some refl)
  more_misfit s (t ∷ rest) e some = behind_whose ngql checked line readable (length ts + 1) ts enough s t rest e

  pub err_only : (e : Refusal) → Refuses e (reads (length ts + 1) line ts) → (other : Line) → AreLine ts other → IsThis other (Err e)
  err_only refusal.NoMemory h other s = tt
  err_only refusal.Spent h other s = let f = spelled_found ngql checked false line readable (length ts + 1) ts enough other s in cc
  err_only (refusal.Misfit of_limits rest) h other s = let f = spelled_found ngql checked false line readable (length ts + 1) ts enough other s in cc

  pub err_misfit : (e : Refusal) → Refuses e (reads (length ts + 1) line ts) → Refused ts e
  err_misfit refusal.NoMemory h = tt
  err_misfit refusal.Spent h = never_spent ngql checked false line readable (length ts + 1) ts enough h
  err_misfit (refusal.Misfit of_limits rest) h = misfit_whose ngql checked line readable (length ts + 1) ts enough of_limits rest.now h

-- the places of tokens fit
placed_from : (bytes : List ℕ) (at : ℕ) (ts : List Lexed) (end : ℕ) → AreTokens bytes at ts end → end + 1 < 2 ^ 32 → ArePlaced ts × (at ≤ end)
placed_from bytes at [] end h small = (tt, h.rising)
placed_from bytes at (t ∷ ts) end h small =
    let r = placed_from bytes t.upto ts end h.1 small in
    let low : at ≤ t.from = h.0.blanks.rising in
    let up : t.upto ≡ t.from + h.0.len = h.0.upto in
    let within : t.upto ≤ end = r.1 in
    (((omega arith, omega arith), r.0), omega arith)

pub placed : (bytes : List ℕ) (ts : List Lexed) → IsLexed bytes ts → length bytes + 1 < 2 ^ 32 → ArePlaced ts
placed bytes ts h small = (placed_from bytes 0 ts (length bytes) h small).0

-- what is refused before the grammar
pub not_answered : (tokens : List Token) (e : ParseRefused) → AreAnswered tokens (Err e) → (l : Line) → IsAnswered l (Err e)
not_answered tokens refused.NoMemory h l = tt
not_answered tokens (refused.BadToken at) h l = absurd h
not_answered tokens (refused.Syntax at) h l = absurd h
not_answered tokens (refused.NumberTooWide at) h l = absurd h
not_answered tokens (refused.TooMany at) h l = absurd h
not_answered tokens (refused.BadOption at) h l = absurd h

pub unlexed_says : (version : ℕ) (bytes : List ℕ) (e : ParseRefused) → Unlexed bytes e → Says version bytes e
unlexed_says version bytes e (inl h) = inl h
unlexed_says version bytes e (inr h) = inr (inl h)
