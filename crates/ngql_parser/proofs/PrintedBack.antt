-- Plain forms, printed, are read back.
use Rattle.std.proofs.Common.{◌≡◌, ℕ, ℤ, pos, ◌-◌, ◌≤◌, ◌==◌, Bool, true, false, ◌&&◌, inl, List, [], ◌∷◌, ◌++◌, length, take, get_or, Some, map, refl, sym, ap, ap₂, subst, ◌∙◌, arith, append_assoc, append-nil, length-append, if◌then◌else◌}
use Rattle.std.proofs.Math.Seq.{get_or-append_seam}
use Rattle.std.proofs.lemmas.Bool.{le-leb}
use Rattle.std.proofs.lemmas.Str.{utf8_valid_len-IsUtf8}
use Rattle.graph_model.specs.declared.val.Val.{Val}
use Rattle.graph_model.specs.declared.val.Val.TheVariants as val
use Rattle.ngql_lex.specs.Lines.{without_cr, ends_in_cr, AreBlank, IsLexed}
use Rattle.ngql_lex.specs.declared.token.Token.{Token as Lexed}
use Rattle.ngql_syntax.specs.declared.lit.Lit.{Lit}
use Rattle.ngql_syntax.specs.declared.lit.Values.{Values}
use Rattle.ngql_syntax.specs.declared.put.Ends.{Ends}
use Rattle.ngql_syntax.specs.declared.spanned.Spanned.{Spanned}
use Rattle.ngql_syntax.specs.declared.statement.Statement.{Statement}
use Rattle.ngql_parser.specs.declared.kind.Kind.{Kind}
use Rattle.ngql_parser.specs.declared.kind.Kind.TheVariants as kind
use Rattle.ngql_parser.specs.declared.seen.Seen.{Seen}
use Rattle.ngql_parser.specs.declared.token.Token.{Token}
use Rattle.grammar.specs.Language.{Spelled}
use Rattle.ngql_parser.specs.Places.{bare_token, bare_line}
use Rattle.ngql_parser.specs.Plain.{alone, mark, mark_at, plain_name, plain_value, plain_lit, number_at, commas, one_by_one, bracketed_at, plain_values, plain_ends, plain_ine, Each}
use Rattle.ngql_parser.specs.PlainBytes.{printed_by, printed, CanPrintAs, CanPrint, whole_line, IsReadBack}
use Rattle.ngql_parser.specs.PlainReads.{steps_token}
use Rattle.ngql_parser.specs.Promise.{Tokens}
use Rattle.ngql_parser.specs.Rules as rule
use Rattle.ngql_parser.specs.Rules.{ngql}
use Rattle.ngql_parser.specs.Tokens.{own_kind, value_of, text_by, word_of, int_kind, sized_kind, placed_kind, behind_kind, is_set, is_kind, none_seen, token_of, tokens_from, line_from, client_from}
use Rattle.ngql_parser.proofs.Bare.{bare_steps, not_of_bare, line_bare}
use Rattle.ngql_parser.proofs.Forgotten.{spelled_alike}
use Rattle.ngql_parser.proofs.PrintedLines.{AreLexed, spans, IsSeen, AreSeen, stand, are_seen}
use Rattle.ngql_parser.proofs.PrintedTokens.{Lexes, Still, is_still, is_spoken, spoken, still, still_name, still_text, still_small, still_number, name_lexes, text_lexes, number_lexes, small_number_lexes, fits}

-- printed, the tokens are lexed as themselves, and have the kinds that they have in their place
pub record Prints (version : ℕ) (seen : Seen) (ts : List Token) : Type 0 where
  pub lexes : CanPrint ts → AreLexed ts
  pub goes : (line : List ℕ) (ls : List Lexed) → AreSeen line ls ts → map bare_token (tokens_from version line seen ls) ≡ map bare_token ts

abbrev bare_of : Kind → ℤ → List ℕ → Token
bare_of k n text = record { kind = sized_kind k text; number = n; text = text; at = 0 }

bare_is : (line : List ℕ) (k : Kind) (l : Lexed) (t : Token) → k ≡ t.kind → IsSeen line l t → bare_token (token_of line k l) ≡ bare_token t
bare_is line k l t e s =
    ap (λ j. bare_of j (value_of line l) (text_by l.kind (word_of line l))) e
    ∙ (ap₂ (λ n text. bare_of t.kind n text) s.value s.spelled ∙ ap (λ j. record { kind = j; number = t.number; text = t.text; at = 0 }) s.sized)

module _ (version : ℕ) where
  none_left : (seen : Seen) (line : List ℕ) (ls : List Lexed) → AreSeen line ls [] → map bare_token (tokens_from version line seen ls) ≡ []
  none_left seen line [] h = refl
  none_left seen line (l ∷ ls) h = absurd h

  pub nothing : (seen : Seen) → Prints version seen []
  nothing seen = record { lexes = λ h. tt; goes = none_left seen }

  step_goes : (seen next : Seen) (t : Token) (ts : List Token) → ((line : List ℕ) (ls : List Lexed) → AreSeen line ls ts → placed_kind version line seen (alone t.kind) ls ≡ t.kind) →
      ((line : List ℕ) (ls : List Lexed) → AreSeen line ls ts → behind_kind (alone t.kind) (is_set line ls) seen ≡ next) → Prints version next ts →
      (line : List ℕ) (ls : List Lexed) → AreSeen line ls (t ∷ ts) → map bare_token (tokens_from version line seen ls) ≡ map bare_token (t ∷ ts)
  step_goes seen next t ts placed behind p line [] h = absurd h
  step_goes seen next t ts placed behind p line (l ∷ ls) h =
      ap₂ (λ a others. a ∷ others) (bare_is line (placed_kind version line seen (own_kind line l) ls) l t (ap (λ k. placed_kind version line seen k ls) h.0.own ∙ placed line ls h.1) h.0)
      (ap (λ s. map bare_token (tokens_from version line s ls)) (ap (λ k. behind_kind k (is_set line ls) seen) h.0.own ∙ behind line ls h.1) ∙ p.goes line ls h.1)

  pub step : (seen next : Seen) (t : Token) (ts : List Token) → (CanPrintAs t.kind t → Lexes t) → ((line : List ℕ) (ls : List Lexed) → AreSeen line ls ts → placed_kind version line seen (alone t.kind) ls ≡ t.kind) →
      ((line : List ℕ) (ls : List Lexed) → AreSeen line ls ts → behind_kind (alone t.kind) (is_set line ls) seen ≡ next) → Prints version next ts → Prints version seen (t ∷ ts)
  step seen next t ts lexes placed behind p = record { lexes = λ h. (lexes h.0, p.lexes h.1); goes = step_goes seen next t ts placed behind p }

  -- a token on which nothing around it has a say
  pub quiet : (seen : Seen) (t : Token) (ts : List Token) → (CanPrintAs t.kind t → Lexes t) → Still t.kind → Prints version seen ts → Prints version seen (t ∷ ts)
  quiet seen t ts lexes s p =
      step seen seen t ts lexes (λ line ls h. ap (λ k. placed_kind version line seen k ls) s.by_itself ∙ s.placed version line seen ls)
      (λ line ls h. ap (λ k. behind_kind k (is_set line ls) seen) s.by_itself ∙ s.behind (is_set line ls) seen) p

  module _ (seen : Seen) where
    pub say : (k : Kind) (at : ℕ) (ts : List Token) → is_still k ≡ true → is_spoken k ≡ true → Prints version seen ts → Prints version seen (mark_at k at ∷ ts)
    say k at ts a b p = quiet seen (mark_at k at) ts (λ h. spoken k at b) (still k a) p

    pub name : (w : Spanned) (ts : List Token) → Prints version seen ts → Prints version seen (plain_name w ∷ ts)
    name w ts p = quiet seen (plain_name w) ts (λ h. name_lexes w h) still_name p

    pub number : (n : ℤ) (at : ℕ) (ts : List Token) → Prints version seen ts → Prints version seen (number_at n at ∷ ts)
    number n at ts p = quiet seen (number_at n at) ts (λ h. number_lexes n at (fits n at h)) (still_number n) p

    pub value : (v : Val) (at : ℕ) (ts : List Token) → Prints version seen ts → Prints version seen (plain_value v at ∷ ts)
    value (val.Int n) at ts p = number n at ts p
    value (val.Flag true) at ts p = say kind.True at ts refl refl p
    value (val.Flag false) at ts p = say kind.False at ts refl refl p
    value (val.Words text) at ts p = quiet seen (plain_value (val.Words text) at) ts (λ h. text_lexes text at h) still_text p
    value val.Null at ts p = say kind.Null at ts refl refl p

    small_is : (n : ℕ) → n ≤ 8 → int_kind (Some (pos n)) ≡ kind.SmallInt
    small_is n le = ap₂ (λ x y. if x && y then kind.SmallInt else kind.Int) (le-leb 0 n (omega arith)) (le-leb n 8 le)

    pub steps : (n : ℕ) (ts : List Token) → n ≤ 8 → Prints version seen ts → Prints version seen (steps_token n ∷ ts)
    steps n ts le p = quiet seen (steps_token n) ts (λ h. small_number_lexes (pos n) 0 h (small_is n le)) still_small p

    -- lists
    pub items : {A : Type 0} (P : A → Type 0) (plain : A → List Token) → ((a : A) (ts : List Token) → P a → Prints version seen ts → Prints version seen (plain a ++ ts)) →
        (all : List A) (ts : List Token) → Each P all → Prints version seen ts → Prints version seen (commas plain all ++ ts)
    items P plain each [] ts h p = p
    items P plain each (a ∷ []) ts h p = each a ts h.0 p
    items P plain each (a ∷ b ∷ all) ts h p =
        let others = commas plain (b ∷ all) in
        subst (λ l. Prints version seen l) (sym (append_assoc (plain a) (mark kind.Comma ∷ others) ts))
        (each a (mark kind.Comma ∷ (others ++ ts)) h.0 (say kind.Comma 0 (others ++ ts) refl refl (items P plain each (b ∷ all) ts h.1 p)))

    pub to_the_end : (ts : List Token) → Prints version seen (ts ++ []) → Prints version seen ts
    to_the_end ts p = subst (λ l. Prints version seen l) (append-nil ts) p

    pub free : {A : Type 0} (all : List A) → Each (λ a. Unit {0}) all
    free [] = tt
    free (a ∷ all) = (tt, free all)

    pub names : (all : List Spanned) (ts : List Token) → Prints version seen ts → Prints version seen (one_by_one plain_name all ++ ts)
    names all ts p = items (λ (w : Spanned). Unit {0}) (λ w. plain_name w ∷ []) (λ w us h q. name w us q) all ts (free all) p

    pub lits : (all : List Lit) (ts : List Token) → Prints version seen ts → Prints version seen (one_by_one plain_lit all ++ ts)
    lits all ts p = items (λ (l : Lit). Unit {0}) (λ l. plain_lit l ∷ []) (λ l us h q. value l.val l.at us q) all ts (free all) p

    pub in_brackets : (at : ℕ) (inside ts : List Token) → ((us : List Token) → Prints version seen us → Prints version seen (inside ++ us)) → Prints version seen ts → Prints version seen (bracketed_at at inside ++ ts)
    in_brackets at inside ts prints p =
        say kind.Open at ((inside ++ mark kind.Close ∷ []) ++ ts) refl refl (subst (λ l. Prints version seen l) (sym (append_assoc inside (mark kind.Close ∷ []) ts))
        (prints (mark kind.Close ∷ ts) (say kind.Close 0 ts refl refl p)))

    pub values : (v : Values) (ts : List Token) → Prints version seen ts → Prints version seen (plain_values v ++ ts)
    values v ts p = in_brackets v.at (one_by_one plain_lit v.list) ts (lits v.list) p

    pub ends : (e : Ends) (ts : List Token) → Prints version seen ts → Prints version seen (plain_ends e ++ ts)
    ends e ts p =
        value e.src.val e.src.at _ (say kind.Arrow 0 _ refl refl (value e.dst.val e.dst.at _ (say kind.At 0 _ refl refl (number e.rank 0 ts p))))

    pub ine : (b : Bool) (ts : List Token) → Prints version seen ts → Prints version seen (plain_ine b ++ ts)
    ine true ts p = say kind.If 0 _ refl refl (say kind.Not 0 _ refl refl (say kind.Exists 0 ts refl refl p))
    ine false ts p = p

-- no line of printed tokens ends in a CR
last_blank : (t : Token) (ts : List Token) → (front : List ℕ) × (printed (t ∷ ts) ≡ front ++ 32 ∷ [])
last_blank t [] = (printed_by t.kind t, refl)
last_blank t (u ∷ us) =
    let l = last_blank u us in
    let p = printed_by t.kind t in
    (p ++ 32 ∷ l.0, ap (λ x. p ++ 32 ∷ x) l.1 ∙ sym (append_assoc p (32 ∷ l.0) (32 ∷ [])))

blank_end : (line front : List ℕ) → line ≡ front ++ 32 ∷ [] → ends_in_cr line ≡ false
blank_end line front e =
    let n : length line - 1 ≡ length front = let a = length-append front (32 ∷ []) in let b = ap length e in omega (arith, a, b) in
    ap (λ b. b == 13) (ap₂ (λ l k. get_or l k 0) e n ∙ get_or-append_seam front 32 [] 0)

no_cr : (ts : List Token) → ends_in_cr (printed ts) ≡ false
no_cr [] = refl
no_cr (t ∷ ts) = let l = last_blank t ts in blank_end (printed (t ∷ ts)) l.0 l.1

as_it_is : (ts : List Token) → without_cr (printed ts) ≡ printed ts
as_it_is ts = ap (λ b. if b then take (length (printed ts) - 1) (printed ts) else printed ts) (no_cr ts)

-- a statement is a line of the first client
line_said : (ts : List Token) (s : Statement) → Spelled ngql false rule.stmt ts s → Spelled ngql false rule.line ts (whole_line s)
unfolding rule.line rule.client rule.mark rule.whole
line_said ts s (d, h) = (d, ([], ts, 1, (false, s), refl, inl (refl, refl), ([], ts, false, s, refl, inl (refl, refl), (ts, [], s, false, sym (append-nil ts), h, inl (refl, refl), refl), refl), refl))

-- no client stands in front
abbrev pub has_client : List Token → Bool
has_client [] = false
has_client (t ∷ ts) = is_kind (alone t.kind) kind.At

module _ (version : ℕ) where
  from_start : (line : List ℕ) (ls : List Lexed) (ts : List Token) → AreSeen line ls ts → has_client ts ≡ false → line_from version line ls ≡ tokens_from version line none_seen ls
  from_start line [] ts h e = refl
  from_start line (l ∷ ls) [] h e = absurd h
  from_start line (l ∷ ls) (t ∷ ts) h e =
      ap (λ b. if b then token_of line kind.At l ∷ client_from version line ls else tokens_from version line none_seen (l ∷ ls)) (ap (λ k. is_kind k kind.At) h.0.own ∙ e)

  no_blank : (line : List ℕ) → AreBlank line 0 0
  no_blank line = record { rising = omega arith; blank = λ k low high. absurd (omega arith) }

  pub read_back : (ts : List Token) (s : Statement) → Spelled ngql false rule.stmt ts s → Prints version none_seen ts → has_client ts ≡ false → IsReadBack version ts s
  read_back ts s said p first can utf8 =
      let w = p.lexes can in
      let line = printed ts in
      let ls = spans 0 ts w in
      let whole = as_it_is ts in
      let lexed : IsLexed line ls = stand line (utf8_valid_len-IsUtf8 line utf8) ts w [] 0 0 refl refl (no_blank line) in
      let seen = are_seen line ts w [] 0 refl refl in
      let tokens : Tokens version line = record { lexed = ls; are = subst (λ l. IsLexed l ls) (sym whole) lexed } in
      let same : map bare_token ts ≡ map bare_token (line_from version (without_cr line) ls) =
      sym (ap (λ l. map bare_token (line_from version l ls)) whole ∙ (ap (map bare_token) (from_start line ls ts seen first) ∙ p.goes line ls seen)) in
      let a = spelled_alike ngql false bare_token (λ t. refl) bare_steps not_of_bare.keeps rule.line bare_line line_bare.keeps ts (line_from version (without_cr line) ls) (whole_line s) (line_said ts s said) same in
      (a.0, record { tokens = tokens; line = a.1 }, a.2)
