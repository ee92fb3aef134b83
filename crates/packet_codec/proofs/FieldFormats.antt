-- The formats of the fields of packets.
use Rattle.std.proofs.Common.{◌≡◌, ℕ, zero, suc, ◌<◌, List, [], ◌∷◌, ◌++◌, length, Ok, Err, refl, sym, subst, ◌∙◌, arith, ◌≤◌, ◌^◌, true, leb, Option, None, Some, ap}
use Rattle.std.proofs.lemmas.Bool.{ne_eqb}
use Rattle.byte_fields.specs.Reading.{misfit, byte_at}
use Rattle.byte_fields.proofs.Steps.{IsBytes, IsBytes-rest, Takes, ok_is}
use Rattle.byte_fields.proofs.Within.{IsWithin}
use Rattle.std.specs.List.{AllByRecursion}
use Rattle.std.proofs.lemmas.Bool.{leb-true, le-leb}
use Rattle.byte_fields.specs.Fields.{number}
use Rattle.byte_fields.proofs.Numbers.{wide4, wide8}
use Rattle.byte_fields.proofs.Formats.{IsFormat, number_format, both_format, such_format, counted_format, many_format, renamed_format, made_format, made_again, made_within, kind_takes}
use Rattle.graph_bytes.specs.declared.id_form.IdForm.TheVariants.{Tagged}
use Rattle.part_keys.specs.Spelling.{entry as entry_bytes}
use Rattle.part_keys.specs.Fits as part_entry
use Rattle.part_keys.specs.declared.entry.PartEntry.{PartEntry}
use Rattle.wal_frames.specs.Spelling.{entries, FitsEntry}
use Rattle.wal_frames.proofs.Decoding.{entry_format}
use Rattle.chain_leader.specs.declared.body.About.{About}
use Rattle.chain_leader.specs.declared.body.About.TheVariants as abouts
use Rattle.replica_model.specs.declared.packet.Place.{Place}
use Rattle.packet_codec.specs.Spelling.{about, behind, mark}
use Rattle.packet_codec.specs.Fits.{may_ask, FitsAbout, FitsBehind, FitsMark, FitFew, FitsChain}
use Rattle.raft_core.specs.Appends.{most_entries}
use Rattle.packet_codec.specs.Reading.{about_at, behind_at, mark_at, few_at, few_entries_at, request_at, chain_at}
use Rattle.packet_codec.proofs.AskedFormats.{asked_format}

-- a byte that is no kind doesn't fit
no_about : (b : ℕ) (bytes : List ℕ) → 1 < b → about_at (b ∷ bytes) ≡ Err (misfit (b ∷ bytes))
unfolding about_at byte_at
no_about b bytes above = rw (ne_eqb b 0 (omega (arith, above)), ne_eqb b 1 (omega (arith, above))) refl

about_takes : (bytes : List ℕ) (x : About) (rest : List ℕ) → IsBytes bytes → about_at bytes ≡ Ok (x, rest) → Takes bytes (about x) rest × FitsAbout x
unfolding about_at byte_at
about_takes [] x rest fits e = absurd cc
about_takes (zero ∷ bytes) x rest fits e = kind_takes 0 (λ n. abouts.Call n) about FitsAbout (number_format 8 wide8) (λ a is. (refl, is)) bytes x rest fits e
about_takes (suc zero ∷ bytes) x rest fits e = kind_takes 1 (λ v. abouts.Chain v) about FitsAbout (number_format 8 wide8) (λ a is. (refl, is)) bytes x rest fits e
about_takes (suc (suc kind) ∷ bytes) x rest fits e = let no = sym (no_about (suc (suc kind)) bytes (omega arith)) ∙ e in absurd cc

about_again : (x : About) (rest : List ℕ) → FitsAbout x → about_at (about x ++ rest) ≡ Ok (x, rest)
unfolding about_at byte_at
about_again (abouts.Call n) rest fits = made_again (λ n. abouts.Call n) (number_format 8 wide8) n rest fits
about_again (abouts.Chain v) rest fits = made_again (λ v. abouts.Chain v) (number_format 8 wide8) v rest fits

about_within : (bytes : List ℕ) → IsWithin (length bytes) (about_at bytes)
unfolding about_at byte_at
about_within [] = omega arith
about_within (zero ∷ bytes) = made_within (λ n. abouts.Call n) (number_format 8 wide8) (length (0 ∷ bytes)) bytes (omega arith)
about_within (suc zero ∷ bytes) = made_within (λ v. abouts.Chain v) (number_format 8 wide8) (length (1 ∷ bytes)) bytes (omega arith)
about_within (suc (suc kind) ∷ bytes) = rw (no_about (suc (suc kind)) bytes (omega arith)) (omega arith)

-- what a NotLeader is about
pub about_format : IsFormat about_at about FitsAbout
about_format = record { takes = about_takes; again = about_again; within = about_within }

-- a byte that is no kind doesn't fit
no_behind : (b : ℕ) (bytes : List ℕ) → 1 < b → behind_at (b ∷ bytes) ≡ Err (misfit (b ∷ bytes))
unfolding behind_at byte_at
no_behind b bytes above = rw (ne_eqb b 0 (omega (arith, above)), ne_eqb b 1 (omega (arith, above))) refl

behind_takes : (bytes : List ℕ) (x : Option ℕ) (rest : List ℕ) → IsBytes bytes → behind_at bytes ≡ Ok (x, rest) → Takes bytes (behind x) rest × FitsBehind x
unfolding behind_at byte_at
behind_takes [] x rest fits e = absurd cc
behind_takes (zero ∷ bytes) x rest fits e = subst (λ (p : Option ℕ × List ℕ). Takes (0 ∷ bytes) (behind p.0) p.1 × FitsBehind p.0) (ok_is (None, bytes) (x, rest) e) (record { parts = refl; rest_fits = IsBytes-rest 0 bytes fits }, tt)
behind_takes (suc zero ∷ bytes) x rest fits e = kind_takes 1 (λ v. Some v) behind FitsBehind (number_format 8 wide8) (λ a is. (refl, is)) bytes x rest fits e
behind_takes (suc (suc kind) ∷ bytes) x rest fits e = let no = sym (no_behind (suc (suc kind)) bytes (omega arith)) ∙ e in absurd cc

behind_again : (x : Option ℕ) (rest : List ℕ) → FitsBehind x → behind_at (behind x ++ rest) ≡ Ok (x, rest)
unfolding behind_at byte_at
behind_again None rest fits = refl
behind_again (Some v) rest fits = made_again (λ v. Some v) (number_format 8 wide8) v rest fits

behind_within : (bytes : List ℕ) → IsWithin (length bytes) (behind_at bytes)
unfolding behind_at byte_at
behind_within [] = omega arith
behind_within (zero ∷ bytes) = omega arith
behind_within (suc zero ∷ bytes) = made_within (λ v. Some v) (number_format 8 wide8) (length (1 ∷ bytes)) bytes (omega arith)
behind_within (suc (suc kind) ∷ bytes) = rw (no_behind (suc (suc kind)) bytes (omega arith)) (omega arith)

-- where a Resume goes on
pub behind_format : IsFormat behind_at behind FitsBehind
behind_format = record { takes = behind_takes; again = behind_again; within = behind_within }

-- a place in a log
pub mark_format : IsFormat mark_at mark FitsMark
unfolding mark_at
mark_format =
    made_format (λ x. record { index = x.0; term = x.1 }) mark FitsMark
    (λ x is. (refl, is))
    (λ m is. ((m.index, m.term), is, refl))
    (both_format (number_format 8 wide8) (number_format 8 wide8))

few_format : IsFormat few_at (number 4) (λ n. (n < 2 ^ 32) × (n ≤ most_entries))
unfolding few_at
few_format =
    renamed_format (λ n. (n < 2 ^ 32) × (n ≤ most_entries))
    (λ n is. (is.0, leb-true _ _ is.1))
    (λ n is. (is.0, le-leb n most_entries is.1))
    (such_format (λ n. leb n most_entries) (number_format 4 wide4))

-- at most 64 entries
pub few_entries_format : IsFormat few_entries_at entries FitFew
unfolding few_entries_at
few_entries_format =
    renamed_format FitFew
    (λ list is. (is.0.1, record { count = is.0.0; each = is.1 }))
    (λ list is. ((is.1.count, is.0), is.1.each))
    (counted_format length (AllByRecursion FitsEntry) few_format (many_format entry_format))

abbrev IsAsked : Place → (ℕ × PartEntry) → Type 0
IsAsked from x = (may_ask from x.0 x.1 ≡ true) × part_entry.Fits Tagged x.1

-- a number and its entry
pub request_format : (from : Place) → IsFormat (request_at from) (λ x. number 8 x.0 ++ entry_bytes Tagged x.1) (λ x. (x.0 < 2 ^ 64) × IsAsked from x)
unfolding request_at
request_format from =
    counted_format (λ x. x.0) (IsAsked from) (number_format 8 wide8)
    (λ n. made_format (λ made. (n, made)) (λ x. entry_bytes Tagged x.1) (λ x. IsAsked from x × (x.0 ≡ n))
    (λ made is. (refl, ((is.1, is.0), refl)))
    (λ x is. (x.1, subst (λ (m : ℕ). part_entry.Fits Tagged x.1 × (may_ask from m x.1 ≡ true)) is.1 (is.0.1, is.0.0), ap (λ (m : ℕ). (m, x.1)) (sym is.1)))
    (asked_format from n))

-- a term, and a chain
pub chain_format : IsFormat chain_at (λ x. number 8 x.0 ++ number 8 x.1) (λ x. FitsChain x.0 x.1)
unfolding chain_at
chain_format = both_format (number_format 8 wide8) (number_format 8 wide8)
