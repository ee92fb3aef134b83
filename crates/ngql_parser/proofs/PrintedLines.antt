-- Printed tokens are the tokens of their line.
use Rattle.std.proofs.Common.{◌≡◌, ℕ, ◌+◌, ◌-◌, ◌≤◌, true, List, [], ◌∷◌, ◌++◌, length, take, drop, get_or, refl, sym, ap, ap₂, subst, ◌∙◌, arith, append_assoc, append-nil, length-append}
use Rattle.std.proofs.Math.Seq.{take-append_seam, drop-append_seam, get_or-append_seam}
use Rattle.std.specs.Str.Lossy.{utf8_valid_len}
use Rattle.ngql_lex.specs.Bytes.{is_blank}
use Rattle.ngql_lex.specs.Front.{front}
use Rattle.ngql_lex.specs.Lines.{AreBlank, AreTokens}
use Rattle.ngql_lex.specs.declared.token.Token.{Token as Lexed}
use Rattle.ngql_parser.specs.declared.token.Token.{Token}
use Rattle.ngql_parser.specs.Plain.{alone}
use Rattle.ngql_parser.specs.PlainBytes.{printed_by, printed}
use Rattle.ngql_parser.specs.Tokens.{word_of, own_kind, value_of, text_by, kind_by, value_by, sized_kind}
use Rattle.ngql_parser.proofs.PrintedTokens.{Lexes}

abbrev pub AreLexed : List Token → Type 0
AreLexed [] = Unit {0}
AreLexed (t ∷ ts) = Lexes t × AreLexed ts

-- where printed tokens stand, from a place on
abbrev pub span : ℕ → (t : Token) → Lexes t → Lexed
span at t w = record { kind = w.as_kind; from = at; upto = at + length (printed_by t.kind t) }

abbrev pub spans : ℕ → (ts : List Token) → AreLexed ts → List Lexed
spans at [] w = []
spans at (t ∷ ts) w = span at t w.0 ∷ spans (at + (length (printed_by t.kind t) + 1)) ts w.1

-- what a token of a line is, to the grammar, by itself
pub record IsSeen (line : List ℕ) (l : Lexed) (t : Token) : Type 0 where
  pub own : own_kind line l ≡ alone t.kind
  pub value : value_of line l ≡ t.number
  pub spelled : text_by l.kind (word_of line l) ≡ t.text
  pub sized : sized_kind t.kind t.text ≡ t.kind

abbrev pub AreSeen : List ℕ → List Lexed → List Token → Type 0
AreSeen line [] [] = Unit {0}
AreSeen line (l ∷ ls) (t ∷ ts) = IsSeen line l t × AreSeen line ls ts
AreSeen line _ _ = ⊥

-- a token in its line: what stands before it, and the printed tokens behind it
module _ (line before : List ℕ) (at : ℕ) (h : at ≡ length before) (p q : List ℕ) (e : line ≡ before ++ (p ++ 32 ∷ q)) where
  behind : drop at line ≡ p ++ 32 ∷ q
  behind = ap₂ (λ n l. drop n l) h e ∙ drop-append_seam before (p ++ 32 ∷ q)

  whole_length : length line ≡ length before + (length p + (length q + 1))
  whole_length =
      let a = length-append before (p ++ 32 ∷ q) in
      let b = length-append p (32 ∷ q) in
      ap length e ∙ omega (arith, a, b)

  word_is : take ((at + length p) - at) (drop at line) ≡ p
  word_is =
      let n : (at + length p) - at ≡ length p = omega arith in
      ap₂ (λ k l. take k l) n behind ∙ take-append_seam p (32 ∷ q)

  next_at : at + (length p + 1) ≡ length (before ++ (p ++ 32 ∷ []))
  next_at =
      let a = length-append before (p ++ 32 ∷ []) in
      let b = length-append p (32 ∷ []) in
      omega (arith, h, a, b)

  next_line : line ≡ (before ++ (p ++ 32 ∷ [])) ++ q
  next_line = e ∙ (ap (λ l. before ++ l) (sym (append_assoc p (32 ∷ []) q)) ∙ sym (append_assoc before (p ++ 32 ∷ []) q))

  blank_is : get_or line (at + length p) 0 ≡ 32
  blank_is =
      let n : at + length p ≡ length (before ++ p) = let a = length-append before p in omega (arith, h, a) in
      ap₂ (λ l k. get_or l k 0) (e ∙ sym (append_assoc before p (32 ∷ q))) n ∙ get_or-append_seam (before ++ p) 32 q 0

  blank_at : (k : ℕ) → k ≡ at + length p → is_blank (get_or line k 0) ≡ true
  blank_at k same = ap (λ n. is_blank (get_or line n 0)) same ∙ ap is_blank blank_is

  blank_between : AreBlank line (at + length p) (at + (length p + 1))
  blank_between = record { rising = omega arith; blank = λ k low high. blank_at k (omega arith) }

module _ (line : List ℕ) (valid : utf8_valid_len line ≡ length line) where
  pub stand : (ts : List Token) (w : AreLexed ts) (before : List ℕ) (from at : ℕ) → at ≡ length before → line ≡ before ++ printed ts → AreBlank line from at → AreTokens line from (spans at ts w) (length line)
  stand [] w before from at h e run = subst (λ n. AreBlank line from n) (h ∙ sym (ap length (e ∙ append-nil before))) run
  stand (t ∷ ts) w before from at h e run =
      let p = printed_by t.kind t in
      let q = printed ts in
      let len = whole_length line before at h p q e in
      let room : length p ≤ utf8_valid_len line - at = omega (arith, valid, len, h) in (
        record {
          blanks = run;
          len = length p;
          token = ap (λ l. front (utf8_valid_len line - at) l) (behind line before at h p q e) ∙ w.0.begins (utf8_valid_len line - at) q room;
          upto = refl;
        },
        stand ts w.1 (before ++ (p ++ 32 ∷ [])) (at + length p) (at + (length p + 1)) (next_at line before at h p q e) (next_line line before at h p q e) (blank_between line before at h p q e),
      )

pub are_seen : (line : List ℕ) (ts : List Token) (w : AreLexed ts) (before : List ℕ) (at : ℕ) → at ≡ length before → line ≡ before ++ printed ts → AreSeen line (spans at ts w) ts
are_seen line [] w before at h e = tt
are_seen line (t ∷ ts) w before at h e =
    let p = printed_by t.kind t in
    let q = printed ts in
    let word = word_is line before at h p q e in (
      record {
        own = ap (λ x. kind_by w.0.as_kind x) word ∙ w.0.own;
        value = ap (λ x. value_by w.0.as_kind x) word ∙ w.0.value;
        spelled = ap (λ x. text_by w.0.as_kind x) word ∙ w.0.spelled;
        sized = w.0.sized;
      },
      are_seen line ts w.1 (before ++ (p ++ 32 ∷ [])) (at + (length p + 1)) (next_at line before at h p q e) (next_line line before at h p q e),
    )
