-- Lines of the same words have the same tokens, but for their places.
use Rattle.std.proofs.Common.{◌≡◌, ℕ, ℤ, pos, ◌+◌, suc, zero, ◌==◌, Bool, true, false, not, ◌&&◌, ◌||◌, List, [], ◌∷◌, ◌++◌, Some, drop, get_or, map, bytes_eq, refl, sym, ap, ap₂, ◌∙◌, if◌then◌else◌}
use Rattle.std.proofs.lemmas.List.{map-append}
use Rattle.std.specs.Str.{str_to_ascii_lowercase}
use Rattle.ngql_lex.specs.declared.token.Token.{Token as Lexed}
use Rattle.ngql_lex.specs.declared.token.TokenKind.{TokenKind}
use Rattle.ngql_lex.specs.declared.token.TokenKind.TheVariants as lexed
use Rattle.ngql_parser.specs.declared.kind.Kind.{Kind}
use Rattle.ngql_parser.specs.declared.kind.Kind.TheVariants as kind
use Rattle.ngql_parser.specs.declared.seen.Seen.{Seen}
use Rattle.ngql_parser.specs.declared.token.Token.{Token}
use Rattle.ngql_parser.specs.Alike.{SameWord, SameToken, SameTokens, SameClient, SameLine}
use Rattle.ngql_parser.specs.Places.{bare_token}
use Rattle.ngql_parser.specs.Tokens.{word_of, value_by, value_of, text_by, table_kind, kind_by, own_kind, next_kind, next_value, is_kind, is_int, called, is_callable, call_kind, tilde_kind, none_seen, is_set, behind_kind, is_from_to, is_outside, is_factor, are_bad_texts, option_kind, placed_kind, sized_kind, token_of, tokens_from, client_kind, is_space_at, blank_behind, client_from, line_from}
use Rattle.ngql_parser.specs.Words.{kind_in, keywords}

kind_in_same : (table : List (List ℕ × Kind)) (one other : List ℕ) → str_to_ascii_lowercase one ≡ str_to_ascii_lowercase other → kind_in table one ≡ kind_in table other
kind_in_same [] one other h = refl
kind_in_same (entry ∷ table) one other h =
    ap₂ (λ b k. if b then Some entry.1 else k) (ap (λ w. bytes_eq w (str_to_ascii_lowercase entry.0)) h) (kind_in_same table one other h)

kind_by_same : (k : TokenKind) (one other : List ℕ) → SameWord k one other → kind_by k one ≡ kind_by k other
kind_by_same lexed.Keyword one other h = ap (λ k. table_kind k kind.Stray) (kind_in_same keywords one other h)
kind_by_same lexed.Name one other h = ap (kind_by lexed.Name) h
kind_by_same lexed.Int one other h = ap (kind_by lexed.Int) h
kind_by_same lexed.Words one other h = ap (kind_by lexed.Words) h
kind_by_same lexed.Mark one other h = ap (kind_by lexed.Mark) h

value_by_same : (k : TokenKind) (one other : List ℕ) → SameWord k one other → value_by k one ≡ value_by k other
value_by_same lexed.Keyword one other h = refl
value_by_same lexed.Name one other h = refl
value_by_same lexed.Int one other h = ap (value_by lexed.Int) h
value_by_same lexed.Words one other h = refl
value_by_same lexed.Mark one other h = refl

text_by_same : (k : TokenKind) (one other : List ℕ) → SameWord k one other → text_by k one ≡ text_by k other
text_by_same lexed.Keyword one other h = refl
text_by_same lexed.Name one other h = ap (text_by lexed.Name) h
text_by_same lexed.Int one other h = refl
text_by_same lexed.Words one other h = ap (text_by lexed.Words) h
text_by_same lexed.Mark one other h = refl

module _ (line other : List ℕ) where
  own_same : (t u : Lexed) → SameToken line other t u → own_kind line t ≡ own_kind other u
  own_same t u h = kind_by_same t.kind (word_of line t) (word_of other u) h.word ∙ ap (λ k. kind_by k (word_of other u)) (sym h.kind)

  value_same : (t u : Lexed) → SameToken line other t u → value_of line t ≡ value_of other u
  value_same t u h = value_by_same t.kind (word_of line t) (word_of other u) h.word ∙ ap (λ k. value_by k (word_of other u)) (sym h.kind)

  text_same : (t u : Lexed) → SameToken line other t u → text_by t.kind (word_of line t) ≡ text_by u.kind (word_of other u)
  text_same t u h = text_by_same t.kind (word_of line t) (word_of other u) h.word ∙ ap (λ k. text_by k (word_of other u)) (sym h.kind)

  next_same : (ts us : List Lexed) → SameTokens line other ts us → next_kind line ts ≡ next_kind other us
  next_same [] [] h = refl
  next_same [] (u ∷ us) h = absurd h
  next_same (t ∷ ts) [] h = absurd h
  next_same (t ∷ ts) (u ∷ us) h = own_same t u h.0

  next_value_same : (ts us : List Lexed) → SameTokens line other ts us → next_value line ts ≡ next_value other us
  next_value_same [] [] h = refl
  next_value_same [] (u ∷ us) h = absurd h
  next_value_same (t ∷ ts) [] h = absurd h
  next_value_same (t ∷ ts) (u ∷ us) h = value_same t u h.0

  drop_same : (n : ℕ) (ts us : List Lexed) → SameTokens line other ts us → SameTokens line other (drop n ts) (drop n us)
  drop_same zero ts us h = h
  drop_same (suc n) [] [] h = h
  drop_same (suc n) [] (u ∷ us) h = absurd h
  drop_same (suc n) (t ∷ ts) [] h = absurd h
  drop_same (suc n) (t ∷ ts) (u ∷ us) h = drop_same n ts us h.1

  set_same : (ts us : List Lexed) → SameTokens line other ts us → is_set line ts ≡ is_set other us
  set_same ts us h = ap (λ k. is_kind k kind.Equals) (next_same ts us h)

  outside_same : (allowed : ℤ → Bool) (ts us : List Lexed) → SameTokens line other ts us → is_outside line allowed ts ≡ is_outside other allowed us
  outside_same allowed ts us h = ap₂ (λ k n. is_int k && not (allowed n)) (next_same ts us h) (next_value_same ts us h)

  texts_same : (version : ℕ) (ts us : List Lexed) → SameTokens line other ts us → are_bad_texts version line ts ≡ are_bad_texts version other us
  texts_same version ts us h =
      ap₂ (λ a b. is_kind a kind.FixedWord && ((version == 1) || b)) (next_same ts us h)
      (ap₂ (λ k b. is_kind k kind.Open && b) (next_same (drop 1 ts) (drop 1 us) (drop_same 1 ts us h)) (outside_same (is_from_to 1 32) (drop 2 ts) (drop 2 us) (drop_same 2 ts us h)))

  option_same : (version : ℕ) (seen : Seen) (k : Kind) (ts us : List Lexed) → SameTokens line other ts us → option_kind version line seen k ts ≡ option_kind version other seen k us
  option_same version seen kind.PartsWord ts us h =
      ap₂ (λ a b. if seen.space && (seen.parts || (a && b)) then kind.BadParts else kind.PartsWord) (set_same ts us h) (outside_same (is_from_to 1 64) (drop 1 ts) (drop 1 us) (drop_same 1 ts us h))
  option_same version seen kind.FactorWord ts us h =
      ap₂ (λ a b. if seen.space && (seen.factor || (a && b)) then kind.BadFactor else kind.FactorWord) (set_same ts us h) (outside_same is_factor (drop 1 ts) (drop 1 us) (drop_same 1 ts us h))
  option_same version seen kind.IdsWord ts us h =
      ap₂ (λ a b. if seen.space && (seen.ids || (a && b)) then kind.BadIds else kind.IdsWord) (set_same ts us h) (texts_same version (drop 1 ts) (drop 1 us) (drop_same 1 ts us h))
  option_same version seen _ ts us h = refl

  call_same : (k : Kind) (ts us : List Lexed) → SameTokens line other ts us → call_kind line k ts ≡ call_kind other k us
  call_same k ts us h =
      ap₂ (λ a b. if is_kind a kind.Open then called k b else kind.Name) (next_same ts us h) (next_same (drop 1 ts) (drop 1 us) (drop_same 1 ts us h))

  placed_same : (version : ℕ) (seen : Seen) (k : Kind) (ts us : List Lexed) → SameTokens line other ts us → placed_kind version line seen k ts ≡ placed_kind version other seen k us
  placed_same version seen k ts us h =
      ap₂ (λ a b. if is_callable k then a else b) (call_same k ts us h)
      (ap₂ (λ a b. if is_kind k kind.Tilde then a else b) (ap tilde_kind (next_same ts us h)) (option_same version seen k ts us h))

  abbrev bare_of : Kind → ℤ → List ℕ → Token
  bare_of k n text = record { kind = sized_kind k text; number = n; text = text; at = 0 }

  token_same : (k j : Kind) → k ≡ j → (t u : Lexed) → SameToken line other t u → bare_token (token_of line k t) ≡ bare_token (token_of other j u)
  token_same k j e t u h =
      ap (λ i. bare_of i (value_of line t) (text_by t.kind (word_of line t))) e
      ∙ ap₂ (λ n text. bare_of j n text) (value_same t u h) (text_same t u h)

  tokens_same : (version : ℕ) (seen : Seen) (ts us : List Lexed) → SameTokens line other ts us → map bare_token (tokens_from version line seen ts) ≡ map bare_token (tokens_from version other seen us)
  tokens_same version seen [] [] h = refl
  tokens_same version seen [] (u ∷ us) h = absurd h
  tokens_same version seen (t ∷ ts) [] h = absurd h
  tokens_same version seen (t ∷ ts) (u ∷ us) h =
      let own = own_same t u h.0 in
      let placed = ap (λ k. placed_kind version line seen k ts) own ∙ placed_same version seen (own_kind other u) ts us h.1 in
      let behind = ap₂ (λ k set. behind_kind k set seen) own (set_same ts us h.1) in
      ap₂ (λ a others. a ∷ others) (token_same (placed_kind version line seen (own_kind line t) ts) (placed_kind version other seen (own_kind other u) us) placed t u h.0)
      (tokens_same version (behind_kind (own_kind line t) (is_set line ts) seen) ts us h.1 ∙ ap (λ s. map bare_token (tokens_from version other s us)) behind)

  abbrev blanks : Bool → List Token
  blanks b = if b then record { kind = kind.Blank; number = pos 0; text = []; at = 0 } ∷ [] else []

  bare_blank : (b : Bool) (at : ℕ) → map bare_token (if b then record { kind = kind.Blank; number = pos 0; text = []; at = at } ∷ [] else []) ≡ blanks b
  bare_blank true at = refl
  bare_blank false at = refl

  client_same : (version : ℕ) (c d : Lexed) (ts us : List Lexed) → SameToken line other c d → SameTokens line other ts us → word_of line c ≡ word_of other d → is_space_at line c.upto ≡ is_space_at other d.upto →
      map bare_token (client_from version line (c ∷ ts)) ≡ map bare_token (client_from version other (d ∷ us))
  client_same version c d ts us h hs word space =
      let own = own_same c d h in
      let good = ap₂ (λ k b. is_int k && b) own (ap₂ (λ n w. is_from_to 1 64 n && not (get_or w 0 0 == 48)) (value_same c d h) word) in
      let kinds : client_kind line c ≡ client_kind other d = ap₂ (λ b k. if b then kind.Client else k) good own in
      ap₂ (λ a others. a ∷ others) (token_same (client_kind line c) (client_kind other d) kinds c d h)
      (map-append bare_token (blank_behind line c) (tokens_from version line none_seen ts)
      ∙ (ap₂ (λ a b. a ++ b) (bare_blank (is_space_at line c.upto) (c.upto + 1) ∙ (ap blanks space ∙ sym (bare_blank (is_space_at other d.upto) (d.upto + 1)))) (tokens_same version none_seen ts us hs)
      ∙ sym (map-append bare_token (blank_behind other d) (tokens_from version other none_seen us))))

  behind_at : (version : ℕ) (t u : Lexed) (ts us : List Lexed) → SameTokens line other ts us → SameClient line other (t ∷ ts) (u ∷ us) → is_kind (own_kind line t) kind.At ≡ true →
      map bare_token (client_from version line ts) ≡ map bare_token (client_from version other us)
  behind_at version t u [] [] h s e = refl
  behind_at version t u [] (d ∷ us) h s e = absurd h
  behind_at version t u (c ∷ ts) [] h s e = absurd h
  behind_at version t u (c ∷ ts) (d ∷ us) h s e = let p = s e in client_same version c d ts us h.0 h.1 p.0 p.1

  first_same : (version : ℕ) (t u : Lexed) (ts us : List Lexed) → SameToken line other t u → SameTokens line other ts us → SameClient line other (t ∷ ts) (u ∷ us) → (b : Bool) → is_kind (own_kind line t) kind.At ≡ b →
      map bare_token (if b then token_of line kind.At t ∷ client_from version line ts else tokens_from version line none_seen (t ∷ ts))
      ≡ map bare_token (if b then token_of other kind.At u ∷ client_from version other us else tokens_from version other none_seen (u ∷ us))
  first_same version t u ts us h hs s true e = ap₂ (λ a others. a ∷ others) (token_same kind.At kind.At refl t u h) (behind_at version t u ts us hs s e)
  first_same version t u ts us h hs s false e = tokens_same version none_seen (t ∷ ts) (u ∷ us) (h, hs)

  pub line_same : (version : ℕ) (ts us : List Lexed) → SameLine line other ts us → map bare_token (line_from version line ts) ≡ map bare_token (line_from version other us)
  line_same version [] [] h = refl
  line_same version [] (u ∷ us) h = absurd h.tokens
  line_same version (t ∷ ts) [] h = absurd h.tokens
  line_same version (t ∷ ts) (u ∷ us) h =
      first_same version t u ts us h.tokens.0 h.tokens.1 h.client (is_kind (own_kind line t) kind.At) refl
      ∙ ap (λ b. map bare_token (if b then token_of other kind.At u ∷ client_from version other us else tokens_from version other none_seen (u ∷ us))) (ap (λ k. is_kind k kind.At) (own_same t u h.tokens.0))
