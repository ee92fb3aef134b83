-- The state behind a list, one item at a time.
use Rattle.std.proofs.Common.{◌≡◌, ℕ, suc, ◌+◌, List, [], ◌∷◌, ◌++◌, length, refl, ap, ◌∙◌, arith}
use Rattle.part_keys.specs.declared.proposal.Proposal.{Proposal}
use Rattle.part_keys.specs.declared.proposal.Proposal.TheVariants.{Start, Members, Made, Blank}
use Rattle.part_keys.specs.declared.entry.PartEntry.{PartEntry}
use Rattle.part_rules.specs.declared.applied.Applied.{Applied}
use Rattle.part_rules.specs.declared.applied.Applied.TheVariants.{Nothing}
use Rattle.part_rules.specs.Part.{Part, blank}
use Rattle.part_rules.specs.Machine.{applied}
use Rattle.part_rules.specs.Folded.{item_applied, folded_from, folded}

module _ (parts : ℕ) where
  -- a list behind another goes on from where that one ended
  pub folded_append : (index : ℕ) (p : Part) (ds es : List (ℕ × Proposal)) → folded_from parts index p (ds ++ es) ≡ folded_from parts (index + length ds) (folded_from parts index p ds) es
  folded_append index p [] es = ap (λ i. folded_from parts i p es) (omega arith)
  folded_append index p (d ∷ ds) es = folded_append (suc index) (item_applied parts index d.1 p).0 ds es ∙ ap (λ i. folded_from parts i (folded_from parts (suc index) (item_applied parts index d.1 p).0 ds) es) (omega arith)

  -- one item more: it is applied at the next index
  pub folded_one_more : (ds : List (ℕ × Proposal)) (d : ℕ × Proposal) → folded parts (ds ++ d ∷ []) ≡ (item_applied parts (suc (length ds)) d.1 (folded parts ds)).0
  folded_one_more ds d = folded_append 1 blank ds (d ∷ []) ∙ ap (λ i. (item_applied parts i d.1 (folded parts ds)).0) (omega arith)

  -- an item either is an entry, or changes nothing and is answered nothing
  pub item_cases : (Q : Part × Applied → Type 0) (index : ℕ) (x : Proposal) (p : Part) → Q (p, Nothing) → ((entry : PartEntry) → x ≡ Made entry → Q (applied parts index entry p)) → Q (item_applied parts index x p)
  item_cases Q index Start p nothing made = nothing
  item_cases Q index (Members config) p nothing made = nothing
  item_cases Q index (Made entry) p nothing made = made entry refl
  item_cases Q index Blank p nothing made = nothing
